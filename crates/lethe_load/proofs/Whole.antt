-- What was read is all that a directory encodes.
use Rattle.std.proofs.Common.{◌≡◌, ◌≢◌, ℕ, suc, List, [], ◌∷◌, ◌++◌, length, map, AllPairs, Option, Some, None, refl, sym, ap, subst, ◌∙◌, arith}
use Rattle.std.specs.Prelude.{Contains, IfSome, option_to_list}
use Rattle.std.specs.List.{AllZip}
use Rattle.lethe_disk.specs.Directory.{Directory, object}
use Rattle.lethe_segment.specs.declared.record.Record.{Record}
use Rattle.lethe_segment.specs.Segments.{Ascends}
use Rattle.lethe_header.specs.Headers.{EachFollows, HasSpelling}
use Rattle.lethe_commit.specs.Switch.{HasGreatest}
use Rattle.lethe_load.proofs.Gated.{gated_of}
use Rattle.lethe_header.specs.declared.header.Header.{Header}
use Rattle.lethe_manifest.specs.declared.manifest.Cited.{Cited}
use Rattle.lethe_manifest.specs.declared.manifest.Manifest.{Manifest}
use Rattle.lethe_stored.specs.Files.{StoredFile, Parts, cited_of}
use Rattle.lethe_stored.specs.Stored.{Stored, Segment, IsCoherent, number_of, records_in}
use Rattle.lethe_stored.specs.Encodes.{Encodes, HasSegment}
use Rattle.lethe_stored.proofs.Lists.{all_from}
use Rattle.lethe_header.specs.Facts.{lines_of}
use Rattle.lethe_file.specs.Agreement.{page_name}
use Rattle.lethe_load.specs.Damaged.{IsHeaderOf, IsGated, IsSpelled, IsReplayed, IsSoundSegment, IsSoundFile}
use Rattle.lethe_load.specs.Loaded.{read_of}
use Rattle.lethe_load.proofs.PagesInOrder.{follows_of}
use Rattle.lethe_load.proofs.Agreeing.{pairs_of}
use Rattle.lethe_load.proofs.Assembled.{pairs_unmap, disjoint, once_cited, built, cited_again, parts_again, headers_again, objects_there, each_file, pages_once}

-- what a manifest cites, as it was read
pub record IsWhole (d : Directory) (m : Manifest) (segments : List (List Record)) (files : List StoredFile) (parts : List Parts) (heads : List Header) : Type 0 where
  pub s : Stored
  pub coherent : IsCoherent s
  pub encodes : Encodes d s
  pub manifest : s.manifest ≡ m
  pub files_are : s.files ≡ files
  pub headers : map (λ file. file.header) s.files ≡ heads
  pub all : record { manifest = Some m; segments = segments; files = parts } ≡ read_of s

module _ (d : Directory) (m : Manifest) (gated : IsGated d m) (segments : List (List Record)) (sound_segments : EachFollows (IsSoundSegment d) m.segments)
    {F : Type 0} (header : F → Header) (bytes : F → List (List ℕ)) (files : List F)
    (heads : AllZip (λ c f. IsHeaderOf d c (header f)) m.files files)
    (reads : AllZip (λ c f. map Some (bytes f) ≡ map (λ line. object d (page_name line.no)) (lines_of (header f).tiles)) m.files files)
    (sound : EachFollows (IsSoundFile d m.next) m.files) where
  abbrev all_built : List StoredFile
  all_built = built d m.next header bytes m.files files

  made : (frozen : Option Segment) (active : Segment) → m.segments ≡ map number_of (option_to_list frozen) ++ active.no ∷ [] → Ascends 0 active.records → Ascends 0 (records_in frozen) → HasSegment d active → IfSome frozen (HasSegment d)
      → segments ≡ map (λ (segment : Segment). segment.records) (option_to_list frozen ++ active ∷ []) → IsWhole d m segments all_built (map (λ f. record { header = header f; pages = bytes f }) files) (map header files)
  made frozen active cites up_active up_frozen has_active has_frozen all =
      let again : map cited_of all_built ≡ m.files = cited_again d m.next header bytes m.files files heads in
      let each = all_from (λ c. (before : List Cited) × IsSoundFile d m.next before c) m.files (λ c here. follows_of (IsSoundFile d m.next) m.files c sound here) in
      record {
        s = record { manifest = m; frozen = frozen; active = active; files = all_built };
        coherent = record {
          spelled = gated.is.spelled;
          cites = cites;
          once = pairs_of (IsSoundSegment d) (λ a b. a ≢ b) (λ before x good. all_from (λ other. other ≢ x) before (λ other here same. good.0 (subst (Contains before) same here))) m.segments sound_segments;
          active = up_active;
          frozen = up_frozen;
          files = sym again;
          each = each_file d m.next header bytes m.files files heads reads each;
          files_once = pairs_unmap (λ (a : Cited) (b : Cited). a.no ≢ b.no) cited_of all_built (subst (AllPairs (λ (a : Cited) (b : Cited). a.no ≢ b.no)) (sym again) (once_cited d m.next m.files sound));
          pages_once = pages_once d m.next header bytes m.files files heads each (disjoint d m.next m.files sound);
        };
        encodes = record { greatest = gated.greatest; manifest = gated.is.there; parts = record { active = has_active; frozen = has_frozen; files = objects_there d m.next header bytes m.files files heads reads } };
        manifest = refl;
        files_are = refl;
        headers = headers_again d m.next header bytes m.files files heads;
        all = λ i. record { manifest = Some m; segments = all i; files = sym (parts_again d m.next header bytes m.files files heads) i };
      }

  pub whole : (numbers : List ℕ) (read : List (List Record)) → m.segments ≡ numbers → segments ≡ read → AllZip (IsReplayed d) numbers read → IsWhole d m segments all_built (map (λ f. record { header = header f; pages = bytes f }) files) (map header files)
  whole [] read cites is zip = let some = gated.is.spelled.segments.some in absurd (omega (arith, some, ap length cites))
  whole (k ∷ []) [] cites is zip = absurd zip
  whole (k ∷ []) (r ∷ []) cites is zip = made None (record { no = k; records = r }) cites zip.0.0 tt zip.0.1 tt is
  whole (k ∷ []) (r ∷ q ∷ rest) cites is zip = absurd zip.1
  whole (a ∷ b ∷ []) [] cites is zip = absurd zip
  whole (a ∷ b ∷ []) (r ∷ []) cites is zip = absurd zip.1
  whole (a ∷ b ∷ []) (r ∷ q ∷ []) cites is zip = made (Some (record { no = a; records = r })) (record { no = b; records = q }) cites zip.1.0.0 zip.0.0 zip.1.0.1 zip.0.1 is
  whole (a ∷ b ∷ []) (r ∷ q ∷ p ∷ rest) cites is zip = absurd zip.1.1
  whole (a ∷ b ∷ c ∷ more) read cites is zip = let few = gated.is.spelled.segments.few in absurd (omega (arith, few, ap length cites))

-- the same of directories that are one
pub whole_read : (d first second : Directory) (number : ℕ) (m : Manifest) → first ≡ d → second ≡ first → HasGreatest (Some number) d → IsSpelled d number m
    → (numbers : List ℕ) (segments : List (List Record)) → numbers ≡ m.segments → AllZip (IsReplayed first) numbers segments → EachFollows (IsSoundSegment first) numbers
    → {F : Type 0} (header : F → Header) (bytes : F → List (List ℕ)) (cited : List Cited) (files : List F) → cited ≡ m.files
    → AllZip (λ c f. IsHeaderOf second c (header f)) cited files → AllZip (λ c f. map Some (bytes f) ≡ map (λ line. object second (page_name line.no)) (lines_of (header f).tiles)) cited files → EachFollows (IsSoundFile second m.next) cited
    → IsWhole d m segments (built d m.next header bytes m.files files) (map (λ f. record { header = header f; pages = bytes f }) files) (map header files)
whole_read d first second number m one two greatest is numbers segments cites zip sound header bytes cited files filed heads reads good =
    let all = two ∙ one in
    whole d m (gated_of d number m greatest is) segments (subst (EachFollows (IsSoundSegment d)) cites (subst (λ e. EachFollows (IsSoundSegment e) numbers) one sound)) header bytes files
    (subst (λ e. AllZip (λ c f. IsHeaderOf e c (header f)) m.files files) all (subst (λ l. AllZip (λ c f. IsHeaderOf second c (header f)) l files) filed heads))
    (subst (λ e. AllZip (λ c f. map Some (bytes f) ≡ map (λ line. object e (page_name line.no)) (lines_of (header f).tiles)) m.files files) all
    (subst (λ l. AllZip (λ c f. map Some (bytes f) ≡ map (λ line. object second (page_name line.no)) (lines_of (header f).tiles)) l files) filed reads))
    (subst (EachFollows (IsSoundFile d m.next)) filed (subst (λ e. EachFollows (IsSoundFile e m.next) cited) all good))
    numbers segments (sym cites) refl (subst (λ e. AllZip (IsReplayed e) numbers segments) one zip)

pub zip_length : {A B : Type 0} (R : A → B → Type 0) (xs : List A) (ys : List B) → AllZip R xs ys → length ys ≡ length xs
zip_length R [] [] all = refl
zip_length R [] (y ∷ ys) all = absurd all
zip_length R (x ∷ xs) [] all = absurd all
zip_length R (x ∷ xs) (y ∷ ys) all = ap suc (zip_length R xs ys all.1)

-- on any disk
pub parts_spelled : {F : Type 0} (header : F → Header) (bytes : F → List (List ℕ)) → ((f : F) → HasSpelling (header f)) → (cited : List Cited) (files : List F) → AllZip (λ c f. (header f).no ≡ c.no) cited files
    → AllZip (λ (c : Cited) (p : Parts). (p.header.no ≡ c.no) × HasSpelling p.header) cited (map (λ f. record { header = header f; pages = bytes f }) files)
parts_spelled header bytes spelled [] [] own = tt
parts_spelled header bytes spelled [] (f ∷ files) own = absurd own
parts_spelled header bytes spelled (c ∷ cited) [] own = absurd own
parts_spelled header bytes spelled (c ∷ cited) (f ∷ files) own = ((own.0, spelled f), parts_spelled header bytes spelled cited files own.1)
