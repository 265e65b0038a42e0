-- Of what a directory encodes, each object is sound.
use Rattle.std.proofs.Common.{◌≡◌, ◌≢◌, ◌<◌, ℕ, List, [], ◌∷◌, ◌++◌, length, map, get_or, take, drop, All, AllPairs, Option, Some, None, refl, sym, subst, ◌∙◌, arith}
use Rattle.std.specs.Prelude.{Contains, IfSome, flat_map, option_to_list, zip}
use Rattle.std.specs.List.{AllZip}
use Rattle.std.specs.declared.cmp.Ordering.TheVariants.{Less}
use Rattle.std.proofs.lemmas.List.{take-map, drop-map}
use Rattle.std.proofs.lemmas.List.Elements.{All-nil, All-cons, All-head, All-tail, All-append, All-contains, Contains-get_or}
use Rattle.std.proofs.lemmas.List.Kept.{AllPairs-cons}
use Rattle.lethe_base.specs.Keys.{Bytes, key_cmp}
use Rattle.lethe_base.specs.declared.entry.Entry.{Entry}
use Rattle.lethe_base.specs.declared.name.Name.{Name}
use Rattle.lethe_disk.specs.Directory.{Directory, object}
use Rattle.lethe_disk.proofs.Objects.{one_object}
use Rattle.lethe_segment.specs.declared.record.Record.{Record}
use Rattle.lethe_segment.specs.Segments.{Ascends}
use Rattle.lethe_header.specs.Facts.{lines_of}
use Rattle.lethe_header.specs.Headers.{EachFollows, header_bytes}
use Rattle.lethe_header.specs.declared.header.Header.{Header}
use Rattle.lethe_header.specs.declared.header.PageLine.{PageLine}
use Rattle.lethe_header.specs.declared.header.TileLine.{TileLine}
use Rattle.lethe_file.specs.Agreement.{Agrees, HaveNoCommonKey, IsWithin, TilesHold, entries_in, page_name}
use Rattle.lethe_file.proofs.Orders.{le_less, less_le, own_key, tiles_rise}
use Rattle.lethe_file.proofs.Tiles.{zip_parts}
use Rattle.lethe_file.proofs.Unique.{pairs_join}
use Rattle.lethe_tile.proofs.Orders.{Across, all_left, all_right, pairs_nil, pairs_head, pairs_tail, pairs_append}
use Rattle.lethe_manifest.specs.declared.manifest.Cited.{Cited}
use Rattle.lethe_stored.specs.Files.{StoredFile, IsFile, cited_of, lines_in, file_name, objects_in, objects_of}
use Rattle.lethe_stored.specs.Stored.{Stored, Segment, IsCoherent, number_of, records_in}
use Rattle.lethe_stored.specs.Encodes.{Encodes, HasObject, HasSegment}
use Rattle.lethe_stored.proofs.Lists.{in_map, from_map, in_flat, from_flat, all_from}
use Rattle.lethe_load.specs.Damaged.{IsReplayed, IsSoundSegment, IsHeaderOf, IsSoundPage, IsTakenBy, IsSoundFile, placed_in}
use Rattle.lethe_load.proofs.PagesInOrder.{Item, no_common}
use Rattle.lethe_load.proofs.FilesInOrder.{one_header}
use Rattle.lethe_load.proofs.Agreeing.{Fits, Apart}
use Rattle.lethe_load.proofs.Assembled.{Disjoint, lines_placed, pairs_map, pairs_unmap}
use Rattle.lethe_load.proofs.Firsts.{behind_of, there_in}

less_apart : (x y : Bytes) → key_cmp x y ≡ Less → x ≡ y → ⊥
less_apart x y lt same =
    let tie : key_cmp x x ≡ Less = subst (λ (z : Bytes). key_cmp x z ≡ Less) (sym same) lt in
    let both = sym tie ∙ own_key x in
    cc

module _ (d : Directory) where
  abbrev At : PageLine → List ℕ → Type 0
  At line page = object d (page_name line.no) ≡ Some page

  abbrev named : PageLine × List ℕ → Name × List ℕ
  named page = (page_name page.0.no, page.1)

  -- Pages

  at_each : (lines : List PageLine) (pages : List (List ℕ)) → AllZip Agrees lines pages → All (HasObject d) (map named (zip lines pages)) → AllZip At lines pages
  at_each [] [] zips there = tt
  at_each [] (page ∷ pages) zips there = absurd zips
  at_each (line ∷ lines) [] zips there = absurd zips
  at_each (line ∷ lines) (page ∷ pages) zips there =
      (All-head (HasObject d) (page_name line.no, page) (map named (zip lines pages)) there, at_each lines pages zips.1 (All-tail (HasObject d) (page_name line.no, page) (map named (zip lines pages)) there))

  own_fits : (tile : TileLine) (lines : List PageLine) (pages : List (List ℕ)) → AllZip Agrees lines pages → AllZip At lines pages → All (All (λ entry. IsWithin tile entry.key)) (map entries_in pages) → All (Fits d) (map (λ line. (tile, line)) lines)
  own_fits tile [] pages agree at within = All-nil (Fits d)
  own_fits tile (line ∷ lines) [] agree at within = absurd agree
  own_fits tile (line ∷ lines) (page ∷ pages) agree at within =
      All-cons (Fits d) (tile, line) (map (λ l. (tile, l)) lines) (page, at.0, agree.0, All-head (All (λ entry. IsWithin tile entry.key)) (entries_in page) (map entries_in pages) within)
      (own_fits tile lines pages agree.1 at.1 (All-tail (All (λ entry. IsWithin tile entry.key)) (entries_in page) (map entries_in pages) within))

  from_one : (tile : TileLine) (first : PageLine) (page : List ℕ) → At first page → (lines : List PageLine) (pages : List (List ℕ)) → AllZip At lines pages → All (HaveNoCommonKey (entries_in page)) (map entries_in pages) → All (Apart d (tile, first)) (map (λ line. (tile, line)) lines)
  from_one tile first page here [] pages at apart = All-nil (Apart d (tile, first))
  from_one tile first page here (line ∷ lines) [] at apart = absurd at
  from_one tile first page here (line ∷ lines) (p ∷ pages) at apart =
      All-cons (Apart d (tile, first)) (tile, line) (map (λ l. (tile, l)) lines)
      (λ x y is_x is_y.
      let one : page ≡ x = one_object (object d (page_name first.no)) page x here is_x in
      let two : p ≡ y = one_object (object d (page_name line.no)) p y at.0 is_y in
      subst (λ b. HaveNoCommonKey (entries_in x) (entries_in b)) two (subst (λ b. HaveNoCommonKey (entries_in b) (entries_in p)) one (All-head (HaveNoCommonKey (entries_in page)) (entries_in p) (map entries_in pages) apart)))
      (from_one tile first page here lines pages at.1 (All-tail (HaveNoCommonKey (entries_in page)) (entries_in p) (map entries_in pages) apart))

  own_apart : (tile : TileLine) (lines : List PageLine) (pages : List (List ℕ)) → AllZip At lines pages → AllPairs HaveNoCommonKey (map entries_in pages) → AllPairs (Apart d) (map (λ line. (tile, line)) lines)
  own_apart tile [] pages at once = pairs_nil (Apart d)
  own_apart tile (line ∷ lines) [] at once = absurd at
  own_apart tile (line ∷ lines) (page ∷ pages) at once =
      AllPairs-cons (Apart d) (tile, line) (map (λ l. (tile, l)) lines) (from_one tile line page at.0 lines pages at.1 (pairs_head HaveNoCommonKey (entries_in page) (map entries_in pages) once))
      (own_apart tile lines pages at.1 (pairs_tail HaveNoCommonKey (entries_in page) (map entries_in pages) once))

  abbrev IsUnder : TileLine → TileLine → Type 0
  IsUnder tile later = key_cmp tile.hi later.lo ≡ Less

  apart_tiles : (a b : Item) → Fits d a → Fits d b → IsUnder a.0 b.0 → Apart d a b
  apart_tiles a b fit_a fit_b under x y is_x is_y = no_common (entries_in x) (entries_in y) (λ e f in_e in_f.
      let one : fit_a.0 ≡ x = one_object (object d (page_name a.1.no)) fit_a.0 x fit_a.1 is_x in
      let two : fit_b.0 ≡ y = one_object (object d (page_name b.1.no)) fit_b.0 y fit_b.1 is_y in
      let hi = (All-contains (λ (e : Entry). IsWithin a.0 e.key) (entries_in x) e (subst (λ p. All (λ (e : Entry). IsWithin a.0 e.key) (entries_in p)) one fit_a.3) in_e).hi in
      let lo = (All-contains (λ (e : Entry). IsWithin b.0 e.key) (entries_in y) f (subst (λ p. All (λ (e : Entry). IsWithin b.0 e.key) (entries_in p)) two fit_b.3) in_f).lo in
      less_apart e.key f.key (less_le e.key b.0.lo f.key (le_less e.key a.0.hi b.0.lo hi under) lo))

  fit_each : (tiles : List TileLine) (pages : List (List ℕ)) → AllZip Agrees (lines_of tiles) pages → AllZip At (lines_of tiles) pages → TilesHold tiles (map entries_in pages) → All (Fits d) (placed_in tiles)
  fit_each [] pages agree at hold = All-nil (Fits d)
  fit_each (tile ∷ tiles) pages agree at hold =
      let n = length tile.pages in
      let agrees = zip_parts Agrees tile.pages (lines_of tiles) pages agree in
      let ats = zip_parts At tile.pages (lines_of tiles) pages at in
      All-append (Fits d) (map (λ line. (tile, line)) tile.pages) (placed_in tiles)
      (own_fits tile tile.pages (take n pages) agrees.0 ats.0 (subst (All (All (λ entry. IsWithin tile entry.key))) (take-map entries_in n pages) hold.0.within))
      (fit_each tiles (drop n pages) agrees.1 ats.1 (subst (TilesHold tiles) (drop-map entries_in n pages) hold.1))

  apart_each : (tiles : List TileLine) (pages : List (List ℕ)) → AllZip At (lines_of tiles) pages → TilesHold tiles (map entries_in pages) → All (Fits d) (placed_in tiles) → AllPairs IsUnder tiles → AllPairs (Apart d) (placed_in tiles)
  apart_each [] pages at hold fits rise = pairs_nil (Apart d)
  apart_each (tile ∷ tiles) pages at hold fits rise =
      let n = length tile.pages in
      let own = map (λ line. (tile, line)) tile.pages in
      let ats = zip_parts At tile.pages (lines_of tiles) pages at in
      let under = pairs_head IsUnder tile tiles rise in
      let own_fit = all_left (Fits d) own (placed_in tiles) fits in
      let rest_fit = all_right (Fits d) own (placed_in tiles) fits in
      pairs_join (Apart d) own (placed_in tiles) (own_apart tile tile.pages (take n pages) ats.0 (subst (AllPairs HaveNoCommonKey) (take-map entries_in n pages) hold.0.once))
      (apart_each tiles (drop n pages) ats.1 (subst (TilesHold tiles) (drop-map entries_in n pages) hold.1) rest_fit (pairs_tail IsUnder tile tiles rise))
      (all_from (λ a. All (Apart d a) (placed_in tiles)) own (λ a in_a. all_from (Apart d a) (placed_in tiles) (λ b in_b.
      let line = from_map (λ (l : PageLine). (tile, l)) tile.pages a in_a in
      let found = from_flat (λ (t : TileLine). map (λ l. (t, l)) t.pages) tiles b in_b in
      let other = from_map (λ (l : PageLine). (found.0, l)) found.0.pages b found.2 in
      let one = All-contains (IsUnder tile) tiles found.0 under found.1 in
      let two : IsUnder a.0 b.0 = subst (λ (x : Item). IsUnder a.0 x.0) other.2 (subst (λ (x : Item). IsUnder x.0 found.0) line.2 one) in
      apart_tiles a b (All-contains (Fits d) own a own_fit in_a) (All-contains (Fits d) (placed_in tiles) b rest_fit in_b) two)))

  sound_pages : (next : ℕ) (taken : ℕ → Type 0) (tiles : List TileLine) → All (Fits d) (placed_in tiles) → AllPairs (Apart d) (placed_in tiles) → AllPairs (λ a b. a.no ≢ b.no) (lines_of tiles) → All (λ line. line.no < next) (lines_of tiles)
      → ((line : PageLine) → Contains (lines_of tiles) line → taken line.no → ⊥) → EachFollows (IsSoundPage d next taken) (placed_in tiles)
  sound_pages next taken tiles fits apart once below none before after item split =
      let here = there_in (placed_in tiles) before after item split in
      let line : Contains (lines_of tiles) item.1 = subst (λ l. Contains l item.1) (lines_placed tiles) (in_map (λ (x : Item). x.1) (placed_in tiles) item here) in
      let fit = All-contains (Fits d) (placed_in tiles) item fits here in
      let numbers = pairs_unmap (λ (a : PageLine) (b : PageLine). a.no ≢ b.no) (λ (x : Item). x.1) (placed_in tiles) (subst (AllPairs (λ (a : PageLine) (b : PageLine). a.no ≢ b.no)) (sym (lines_placed tiles)) once) in
      let others = behind_of (Apart d) (placed_in tiles) before after item split apart in
      record {
        below = All-contains (λ (l : PageLine). l.no < next) (lines_of tiles) item.1 below line;
        once = none item.1 line;
        new = behind_of (λ (a : Item) (b : Item). a.1.no ≢ b.1.no) (placed_in tiles) before after item split numbers;
        bytes = fit.0;
        there = fit.1;
        agrees = fit.2;
        within = fit.3;
        apart = λ k e lt earlier there. others k e lt earlier fit.0 there fit.1;
      }

  -- Segments

  module _ (s : Stored) (coherent : IsCoherent s) (encodes : Encodes d s) where
    abbrev Replays : ℕ → Type 0
    Replays k = (records : List Record) × IsReplayed d k records

    replayed : (o : Option Segment) → Ascends 0 (records_in o) → IfSome o (HasSegment d) → All Replays (map number_of (option_to_list o) ++ s.active.no ∷ [])
    replayed None up has = All-cons Replays s.active.no [] (s.active.records, (coherent.active, encodes.parts.active)) (All-nil Replays)
    replayed (Some older) up has = All-cons Replays older.no (s.active.no ∷ []) (older.records, (up, has)) (All-cons Replays s.active.no [] (s.active.records, (coherent.active, encodes.parts.active)) (All-nil Replays))

    pub segments_sound : EachFollows (IsSoundSegment d) s.manifest.segments
    segments_sound before after number split = (
      λ there. All-contains (λ other. other ≢ number) before number (behind_of (λ a b. a ≢ b) s.manifest.segments before after number split coherent.once) there refl,
      All-contains Replays s.manifest.segments number (subst (All Replays) (sym coherent.cites) (replayed s.frozen coherent.frozen encodes.parts.frozen)) (there_in s.manifest.segments before after number split),
    )

    -- Files

    own_object : (file : StoredFile) → Contains s.files file → All (HasObject d) (objects_in file)
    own_object file here = all_from (HasObject d) (objects_in file) (λ x there. All-contains (HasObject d) (objects_of s.files) x encodes.parts.files (in_flat objects_in s.files file x here there))

    pub header_of : (file : StoredFile) → Contains s.files file → IsHeaderOf d (cited_of file) file.header
    header_of file here = record {
      spelled = (All-contains (IsFile s.manifest.next) s.files file coherent.each here).spelled;
      own = refl;
      there = All-head (HasObject d) (file_name file.header.no, header_bytes file.header) (map named (zip (lines_in file) file.pages)) (own_object file here);
      digest = refl;
    }

    lines_pairs : (files : List StoredFile) → AllPairs (λ (a : PageLine) (b : PageLine). a.no ≢ b.no) (flat_map lines_in files) → AllPairs (λ f g. Across (λ (a : PageLine) (b : PageLine). a.no ≢ b.no) (lines_in f) (lines_in g)) files × All (λ f. AllPairs (λ (a : PageLine) (b : PageLine). a.no ≢ b.no) (lines_in f)) files
    lines_pairs [] pairs = (pairs_nil (λ f g. Across (λ (a : PageLine) (b : PageLine). a.no ≢ b.no) (lines_in f) (lines_in g)), All-nil (λ f. AllPairs (λ (a : PageLine) (b : PageLine). a.no ≢ b.no) (lines_in f)))
    lines_pairs (file ∷ files) pairs =
        let parts = pairs_append (λ (a : PageLine) (b : PageLine). a.no ≢ b.no) (lines_in file) (flat_map lines_in files) pairs in
        let rest = lines_pairs files parts.1 in (
          AllPairs-cons (λ f g. Across (λ (a : PageLine) (b : PageLine). a.no ≢ b.no) (lines_in f) (lines_in g)) file files
              (all_from (λ g. Across (λ (a : PageLine) (b : PageLine). a.no ≢ b.no) (lines_in file) (lines_in g)) files (λ g in_g.
              all_from (λ (a : PageLine). All (λ (b : PageLine). a.no ≢ b.no) (lines_in g)) (lines_in file) (λ a in_a. all_from (λ (b : PageLine). a.no ≢ b.no) (lines_in g) (λ b in_b.
              All-contains (λ (b : PageLine). a.no ≢ b.no) (flat_map lines_in files) b (All-contains (λ (a : PageLine). All (λ (b : PageLine). a.no ≢ b.no) (flat_map lines_in files)) (lines_in file) a parts.2 in_a) (in_flat lines_in files g b in_g in_b)))))
              rest.0,
          All-cons (λ f. AllPairs (λ (a : PageLine) (b : PageLine). a.no ≢ b.no) (lines_in f)) file files parts.0 rest.1,
        )

    disjoint_cited : AllPairs (Disjoint d s.manifest.next) (map cited_of s.files)
    disjoint_cited = pairs_map (Disjoint d s.manifest.next) cited_of s.files (λ i j e lt inside x y is_x is_y n in_x in_y.
        let f = get_or s.files i e in
        let g = get_or s.files j e in
        let in_f : Contains s.files f = Contains-get_or s.files i e (omega (arith, lt, inside)) in
        let in_g : Contains s.files g = Contains-get_or s.files j e inside in
        let one : x ≡ f.header = one_header d (cited_of f) x f.header is_x (header_of f in_f) in
        let two : y ≡ g.header = one_header d (cited_of g) y g.header is_y (header_of g in_g) in
        let a = from_map (λ (l : PageLine). l.no) (lines_in f) n (subst (λ (h : Header). Contains (map (λ (l : PageLine). l.no) (lines_of h.tiles)) n) one in_x) in
        let b = from_map (λ (l : PageLine). l.no) (lines_in g) n (subst (λ (h : Header). Contains (map (λ (l : PageLine). l.no) (lines_of h.tiles)) n) two in_y) in
        let across = (lines_pairs s.files coherent.pages_once).0 i j e lt inside in
        All-contains (λ (l : PageLine). a.0.no ≢ l.no) (lines_in g) b.0 (All-contains (λ (k : PageLine). All (λ (l : PageLine). k.no ≢ l.no) (lines_in g)) (lines_in f) a.0 across a.1) b.1 (a.2 ∙ sym b.2))

    pub files_sound : EachFollows (IsSoundFile d s.manifest.next) s.manifest.files
    files_sound before after cited split =
        let whole : map cited_of s.files ≡ before ++ cited ∷ after = sym coherent.files ∙ split in
        let found = from_map cited_of s.files cited (there_in (map cited_of s.files) before after cited whole) in
        let file = found.0 in
        let is_file = All-contains (IsFile s.manifest.next) s.files file coherent.each found.1 in
        let objects = own_object file found.1 in
        let at = at_each (lines_in file) file.pages is_file.agrees.pages (All-tail (HasObject d) (file_name file.header.no, header_bytes file.header) (map named (zip (lines_in file) file.pages)) objects) in
        let fits = fit_each file.header.tiles file.pages is_file.agrees.pages at is_file.agrees.tiles in
        let rise : AllPairs IsUnder file.header.tiles = λ i j e lt inside. tiles_rise file.header.tiles is_file.spelled.tiles i j e lt inside in
        let own : IsHeaderOf d cited file.header = subst (λ c. IsHeaderOf d c file.header) found.2 (header_of file found.1) in
        let apart = behind_of (Disjoint d s.manifest.next) (map cited_of s.files) before after cited whole disjoint_cited in
        record {
          once = behind_of (λ (a : Cited) (b : Cited). a.no ≢ b.no) (map cited_of s.files) before after cited whole (pairs_map (λ (a : Cited) (b : Cited). a.no ≢ b.no) cited_of s.files coherent.files_once);
          header = file.header;
          is = own;
          pages = sound_pages s.manifest.next (IsTakenBy d before) file.header.tiles fits (apart_each file.header.tiles file.pages at is_file.agrees.tiles fits rise)
              (All-contains (λ f. AllPairs (λ (a : PageLine) (b : PageLine). a.no ≢ b.no) (lines_in f)) s.files file (lines_pairs s.files coherent.pages_once).1 found.1) is_file.below
              (λ line in_line by.
              let clash = All-contains (λ (other : Cited). Disjoint d s.manifest.next other cited) before by.1 apart (by.0, by.2, by.3) in
              clash by.4.0 file.header by.4.1 own line.no by.4.2 (in_map (λ (l : PageLine). l.no) (lines_in file) line in_line));
        }
