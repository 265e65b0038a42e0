-- A directory encodes one thing.
use Rattle.std.proofs.Common.{◌≡◌, ◌⊎◌, ◌<◌, ◌≤◌, inl, inr, true, false, ℕ, List, [], ◌∷◌, Option, Some, None, refl, sym, ap, ◌∙◌, subst, arith}
use Rattle.std.specs.Prelude.{map, is_some, IsSome, IfSome, All, option_to_list, zip}
use Rattle.std.specs.List.{AllZip}
use Rattle.std.proofs.lemmas.Bool.{cases_lt}
use Rattle.std.proofs.lemmas.List.{same_from_push}
use Rattle.std.proofs.lemmas.List.Elements.{All-head, All-tail}
use Rattle.lethe_base.specs.declared.name.Name.{Name}
use Rattle.lethe_disk.specs.Directory.{Directory, object}
use Rattle.lethe_disk.proofs.Objects.{one_object}
use Rattle.lethe_segment.specs.declared.record.Record.{Record}
use Rattle.lethe_segment.specs.Segments.{Ascends}
use Rattle.lethe_segment.specs.Holding.{Holds}
use Rattle.lethe_segment.proofs.Runs.{same_held}
use Rattle.lethe_header.specs.Facts.{lines_of}
use Rattle.lethe_header.specs.Headers.{header_bytes}
use Rattle.lethe_header.specs.declared.header.Header.{Header}
use Rattle.lethe_header.specs.declared.header.PageLine.{PageLine}
use Rattle.lethe_header.proofs.HeaderLaws.{same_header}
use Rattle.lethe_file.specs.Agreement as line_fits
use Rattle.lethe_file.specs.Agreement.{page_name}
use Rattle.lethe_manifest.specs.declared.manifest.Cited.{Cited}
use Rattle.lethe_manifest.specs.declared.manifest.Manifest.{Manifest}
use Rattle.lethe_manifest.specs.Manifests.{manifest_bytes}
use Rattle.lethe_manifest.proofs.ManifestLaws.{same_manifest}
use Rattle.lethe_commit.specs.Append.{HasRecords}
use Rattle.lethe_commit.specs.Gates.{gate_name}
use Rattle.lethe_commit.specs.Switch.{manifest_name, HasGreatest}
use Rattle.lethe_stored.specs.Files.{StoredFile, IsFile, lines_in, cited_of, file_name, objects_in, objects_of}
use Rattle.lethe_stored.specs.Stored.{Stored, Segment, IsCoherent, number_of, segment_numbers, records_in, segment_name}
use Rattle.lethe_stored.specs.Encodes.{Encodes, HasSegment, HasObject}
use Rattle.lethe_stored.proofs.Lists.{all_left, all_right}

-- Gates

there_clash : (o : Option (List ℕ)) → IsSome o → o ≡ None → ⊥
there_clash o there none = let e : true ≡ false = sym there ∙ ap is_some none in cc

pub none_or_some : (d : Directory) (number : ℕ) → HasGreatest None d → HasGreatest (Some number) d → ⊥
none_or_some d number none some = there_clash (object d (gate_name number)) some.0 (none number)

pub one_greatest : (d : Directory) (a b : ℕ) → HasGreatest (Some a) d → HasGreatest (Some b) d → a ≡ b
one_greatest d a b x y = by_less (cases_lt a b) (cases_lt b a)
  where
    by_less : (a < b) ⊎ (b ≤ a) → (b < a) ⊎ (a ≤ b) → a ≡ b
    by_less (inl lt) other = absurd (there_clash (object d (gate_name b)) y.0 (x.1 b lt))
    by_less (inr le) (inl lt) = absurd (there_clash (object d (gate_name a)) x.0 (y.1 a lt))
    by_less (inr le) (inr ge) = omega arith

-- Segments

pub one_replayed : (d : Directory) (number : ℕ) (a b : List Record) → Ascends 0 a → Ascends 0 b → HasRecords (segment_name number) number a d → HasRecords (segment_name number) number b d → a ≡ b
one_replayed d number a b up_a up_b x y =
    let same = one_object _ x.bytes y.bytes x.there y.there in
    (same_held y.bytes number number a b (subst (Holds number a) same x.holds) y.holds up_a up_b).0

one_segment : (d : Directory) (a b : Segment) → a.no ≡ b.no → Ascends 0 a.records → Ascends 0 b.records → HasSegment d a → HasSegment d b → a ≡ b
one_segment d a b number up_a up_b x y =
    let there : HasRecords (segment_name a.no) a.no b.records d = subst (λ n. HasRecords (segment_name n) n b.records d) (sym number) y in
    let records = one_replayed d a.no a.records b.records up_a up_b x there in
    λ i. record { no = number i; records = records i }

-- and so are the frozen ones, where the numbers are the same
one_frozen : (d : Directory) (a b : Option Segment) → map number_of (option_to_list a) ≡ map number_of (option_to_list b) → Ascends 0 (records_in a) → Ascends 0 (records_in b) → IfSome a (HasSegment d) → IfSome b (HasSegment d) → a ≡ b
one_frozen d None None same up_a up_b x y = refl
one_frozen d None (Some b) same up_a up_b x y = absurd cc
one_frozen d (Some a) None same up_a up_b x y = absurd cc
one_frozen d (Some a) (Some b) same up_a up_b x y = let number : a.no ≡ b.no = cc in ap Some (one_segment d a b number up_a up_b x y)

-- Files

abbrev named_page : PageLine × List ℕ → Name × List ℕ
named_page page = (page_name page.0.no, page.1)

one_page : (d : Directory) (lines : List PageLine) (ps qs : List (List ℕ)) → AllZip line_fits.Agrees lines ps → AllZip line_fits.Agrees lines qs
    → All (HasObject d) (map named_page (zip lines ps)) → All (HasObject d) (map named_page (zip lines qs)) → ps ≡ qs
one_page d [] [] [] a b x y = refl
one_page d [] [] (q ∷ qs) a b x y = absurd b
one_page d [] (p ∷ ps) qs a b x y = absurd a
one_page d (line ∷ lines) [] qs a b x y = absurd a
one_page d (line ∷ lines) (p ∷ ps) [] a b x y = absurd b
one_page d (line ∷ lines) (p ∷ ps) (q ∷ qs) a b x y =
    let first = one_object (object d (page_name line.no)) p q (All-head (HasObject d) (page_name line.no, p) (map named_page (zip lines ps)) x) (All-head (HasObject d) (page_name line.no, q) (map named_page (zip lines qs)) y) in
    let rest = one_page d lines ps qs a.1 b.1 (All-tail (HasObject d) (page_name line.no, p) (map named_page (zip lines ps)) x) (All-tail (HasObject d) (page_name line.no, q) (map named_page (zip lines qs)) y) in
    λ i. first i ∷ rest i

one_file : (d : Directory) (next : ℕ) (f g : StoredFile) → cited_of f ≡ cited_of g → IsFile next f → IsFile next g → All (HasObject d) (objects_in f) → All (HasObject d) (objects_in g) → f ≡ g
one_file d next f g same is_f is_g x y =
    let number : f.header.no ≡ g.header.no = ap (λ (c : Cited). c.no) same in
    let spelled = one_object (object d (file_name f.header.no)) (header_bytes f.header) (header_bytes g.header) (All-head (HasObject d) (file_name f.header.no, header_bytes f.header) _ x)
    (subst (λ n. object d (file_name n) ≡ Some (header_bytes g.header)) (sym number) (All-head (HasObject d) (file_name g.header.no, header_bytes g.header) _ y)) in
    let header : f.header ≡ g.header = same_header f.header g.header is_f.spelled is_g.spelled spelled in
    let pages : f.pages ≡ g.pages = one_page d (lines_in f) f.pages g.pages is_f.agrees.pages (subst (λ (h : Header). AllZip line_fits.Agrees (lines_of h.tiles) g.pages) (sym header) is_g.agrees.pages)
    (All-tail (HasObject d) (file_name f.header.no, header_bytes f.header) _ x)
    (subst (λ (h : Header). All (HasObject d) (map named_page (zip (lines_of h.tiles) g.pages))) (sym header) (All-tail (HasObject d) (file_name g.header.no, header_bytes g.header) _ y)) in
    λ i. record { level = (same i).level; swept = (same i).swept; header = header i; pages = pages i }

one_files : (d : Directory) (next : ℕ) (fs gs : List StoredFile) → map cited_of fs ≡ map cited_of gs → All (IsFile next) fs → All (IsFile next) gs → All (HasObject d) (objects_of fs) → All (HasObject d) (objects_of gs) → fs ≡ gs
one_files d next [] [] same is_f is_g x y = refl
one_files d next [] (g ∷ gs) same is_f is_g x y = absurd cc
one_files d next (f ∷ fs) [] same is_f is_g x y = absurd cc
one_files d next (f ∷ fs) (g ∷ gs) same is_f is_g x y =
    let first : cited_of f ≡ cited_of g = cc in
    let rest : map cited_of fs ≡ map cited_of gs = cc in
    let heads = one_file d next f g first (All-head (IsFile next) f fs is_f) (All-head (IsFile next) g gs is_g) (all_left (HasObject d) (objects_in f) (objects_of fs) x) (all_left (HasObject d) (objects_in g) (objects_of gs) y) in
    let tails = one_files d next fs gs rest (All-tail (IsFile next) f fs is_f) (All-tail (IsFile next) g gs is_g) (all_right (HasObject d) (objects_in f) (objects_of fs) x) (all_right (HasObject d) (objects_in g) (objects_of gs) y) in
    λ i. heads i ∷ tails i

-- All of it

pub one_manifest : (d : Directory) (s t : Stored) → IsCoherent s → IsCoherent t → Encodes d s → Encodes d t → s.manifest ≡ t.manifest
one_manifest d s t s_is t_is x y =
    let own = one_greatest d s.manifest.no t.manifest.no x.greatest y.greatest in
    same_manifest s.manifest t.manifest s_is.spelled t_is.spelled
    (one_object (object d (manifest_name s.manifest.no)) (manifest_bytes s.manifest) (manifest_bytes t.manifest) x.manifest (subst (λ n. object d (manifest_name n) ≡ Some (manifest_bytes t.manifest)) (sym own) y.manifest))

pub one_stored : (d : Directory) (s t : Stored) → IsCoherent s → IsCoherent t → Encodes d s → Encodes d t → s ≡ t
one_stored d s t s_is t_is x y =
    let manifests : s.manifest ≡ t.manifest = one_manifest d s t s_is t_is x y in
    let numbers : segment_numbers s ≡ segment_numbers t = sym s_is.cites ∙ ap (λ (m : Manifest). m.segments) manifests ∙ t_is.cites in
    let parted = same_from_push (map number_of (option_to_list s.frozen)) (map number_of (option_to_list t.frozen)) s.active.no t.active.no numbers in
    let frozen = one_frozen d s.frozen t.frozen parted.0 s_is.frozen t_is.frozen x.parts.frozen y.parts.frozen in
    let active = one_segment d s.active t.active parted.1 s_is.active t_is.active x.parts.active y.parts.active in
    let cited : map cited_of s.files ≡ map cited_of t.files = sym s_is.files ∙ ap (λ (m : Manifest). m.files) manifests ∙ t_is.files in
    let each : All (IsFile s.manifest.next) t.files = subst (λ (m : Manifest). All (IsFile m.next) t.files) (sym manifests) t_is.each in
    let files = one_files d s.manifest.next s.files t.files cited s_is.each each x.parts.files y.parts.files in
    λ i. record { manifest = manifests i; frozen = frozen i; active = active i; files = files i }
