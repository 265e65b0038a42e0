-- What is left of a file keeps a header's rules.
use Rattle.std.proofs.Common.{◌≡◌, inl, inr, ℕ, suc, ◌+◌, ◌≤◌, ◌<◌, Bool, cond, List, [], ◌∷◌, ◌++◌, Option, Some, None, length, map, All, refl, sym, ap, ◌∙◌, subst, append_assoc, length-append, arith}
use Rattle.std.specs.Prelude.{count_by, filter_map, flat_map, IsTrue}
use Rattle.std.specs.Ordering.{is_le}
use Rattle.std.specs.List.{AllZip}
use Rattle.std.proofs.lemmas.List.{length-map}
use Rattle.std.proofs.lemmas.List.Elements.{All-append, All-cons, All-filter, All-head, All-nil, All-tail, filter_map-append}
use Rattle.std.proofs.lemmas.List.Sums.{sum_by-cons}
use Rattle.std.proofs.lemmas.Option.{slice_get_within}
use Rattle.std.proofs.lemmas.Slice.Zip.{AllZip-long}
use Rattle.lethe_base.specs.Keys.{Bytes, key_cmp}
use Rattle.lethe_base.specs.Limits.{IsKey}
use Rattle.lethe_base.specs.declared.entry.Entry.{Entry}
use Rattle.lethe_page.specs.Reading.{is_above}
use Rattle.lethe_page.specs.declared.class.Class.{Class}
use Rattle.lethe_page.specs.declared.class.Class.TheVariants.{Puts, Tombs}
use Rattle.lethe_header.specs.Facts.{lines_of}
use Rattle.lethe_header.specs.Headers.{HasSpelling, IsFence, IsFrom, IsTile, dkey_then, entries_in, is_puts, max_puts, max_tile_entries}
use Rattle.lethe_header.specs.declared.header.PageLine.{PageLine}
use Rattle.lethe_header.specs.declared.header.TileLine.{TileLine}
use Rattle.lethe_file.specs.Agreement as agreement
use Rattle.lethe_file.proofs.Pages.{same_entries}
use Rattle.lethe_build.specs.Built.{class_of, spelled}
use Rattle.lethe_build.specs.Drafts.{header_of}
use Rattle.lethe_build.specs.Parts.{IsLineOf}
use Rattle.lethe_swept.specs.Drafts.{IsDraftOf, IsLineFor, IsTileFor, MayBeDrafted, new_in, new_line, numbered, tile_of, tiles_with}
use Rattle.lethe_swept.specs.Fits.{Fits, FitsTile, IsTombPage, StandFor, StandsFor, End, Gone, Left, puts_pages}
use Rattle.lethe_swept.specs.Left.{Placed, bounded, by_tile, fresh, fresh_in, fresh_of, placed, tiles_left}
use Rattle.lethe_swept.specs.declared.draft.DraftLine.{DraftLine}
use Rattle.lethe_swept.specs.declared.draft.DraftLine.TheVariants.{Own, New}
use Rattle.lethe_swept.specs.declared.draft.DraftTile.{DraftTile}
use Rattle.lethe_swept.specs.declared.draft.SweptDraft.{SweptDraft}
use Rattle.lethe_swept.specs.declared.part.Part.{Part}
use Rattle.lethe_swept.specs.declared.part.Part.TheVariants.{Kept, Fresh}
use Rattle.lethe_swept.specs.declared.part.SweptFile.{SweptFile}
use Rattle.lethe_swept.specs.declared.part.SweptTile.{SweptTile}
use Rattle.lethe_swept.proofs.Loops.{new_bytes, parts_of}
use Rattle.lethe_swept.proofs.Narrowing.{from_less, lines_in, numbered_none, parts_entries, parts_few, parts_follow, plain, then_less, then_more, within_itself}
use Rattle.lethe_swept.proofs.Numbers.{tiles_by_themselves, tiles_long}
use Rattle.lethe_swept.proofs.Places.{IsPlacedIn, all_placed, lines_placed}
use Rattle.lethe_swept.proofs.Rules.{HasRoom, LinesFollow, TilesFollow, few_entries, lines_follow_from, lines_follow_to, puts_then, tiles_follow_from, tiles_follow_to, tiles_less}

-- ---- a tile's pages of puts, whatever stands before them

one_more : (puts : ℕ) (line : PageLine) → line.class ≡ Puts → puts_then puts line ≡ puts + 1
one_more puts line is = ap (λ (class : Class). puts + count_by (λ (c : Class). is_puts c) (class ∷ [])) is

no_more : (puts : ℕ) (line : PageLine) → line.class ≡ Tombs → puts_then puts line ≡ puts + 0
no_more puts line is = ap (λ (class : Class). puts + count_by (λ (c : Class). is_puts c) (class ∷ [])) is

-- the first of them, by its class
first_follows : (class : Class) (puts lines dkey puts' lines' dkey' : ℕ) (page : Placed) (pages rest : List Placed) → page.line.class ≡ class → puts' ≤ puts → dkey' ≤ dkey → LinesFollow puts lines dkey (lines_in (page ∷ pages))
    → LinesFollow (puts_then puts' page.line) (lines' + 1) (dkey_then dkey' page.line.fence) (lines_in rest) → LinesFollow puts' lines' dkey' (lines_in rest)
    → LinesFollow puts' lines' dkey' (lines_in (cond (is_puts page.line.class) (page ∷ rest) rest))
first_follows Puts puts lines dkey puts' lines' dkey' page pages rest is one two follow behind without =
    let line = page.line in
    let room : puts < max_puts = subst (λ (class : Class). HasRoom class puts lines) is follow.1 in
    let here : puts' < max_puts = omega (arith, room, one) in
    subst (λ (of_puts : Bool). LinesFollow puts' lines' dkey' (lines_in (cond of_puts (page ∷ rest) rest))) (sym (ap is_puts is))
    (follow.0, subst (λ (class : Class). HasRoom class puts' lines') (sym is) here, from_less dkey dkey' line.fence line.fence two (within_itself line.fence) follow.2, behind)
first_follows Tombs puts lines dkey puts' lines' dkey' page pages rest is one two follow behind without =
    subst (λ (of_puts : Bool). LinesFollow puts' lines' dkey' (lines_in (cond of_puts (page ∷ rest) rest))) (sym (ap is_puts is)) without

puts_follow : (puts lines dkey puts' lines' dkey' : ℕ) (pages : List Placed) → puts' ≤ puts → dkey' ≤ dkey → LinesFollow puts lines dkey (lines_in pages) → LinesFollow puts' lines' dkey' (lines_in (puts_pages pages))
puts_follow puts lines dkey puts' lines' dkey' [] one two follow = tt
puts_follow puts lines dkey puts' lines' dkey' (page ∷ pages) one two follow =
    let line = page.line in
    let more = then_more line.class dkey line.fence follow.0.fence follow.2 in
    first_follows line.class puts lines dkey puts' lines' dkey' page pages (puts_pages pages) refl one two follow
    (puts_follow (puts_then puts line) (lines + 1) (dkey_then dkey line.fence) (puts_then puts' line) (lines' + 1) (dkey_then dkey' line.fence) pages
    (omega (arith, one)) (then_less dkey dkey' line.fence line.fence two (within_itself line.fence)) follow.3)
    (puts_follow (puts_then puts line) (lines + 1) (dkey_then dkey line.fence) puts' lines' dkey' pages (omega (arith, one)) (omega (arith, two, more)) follow.3)

first_counts : (class : Class) (puts lines : ℕ) (page : Placed) (rest : List Placed) → page.line.class ≡ class → puts ≤ max_puts → HasRoom page.line.class puts lines
    → (puts_then puts page.line ≤ max_puts → puts_then puts page.line + length rest ≤ max_puts) → puts + length (cond (is_puts page.line.class) (page ∷ rest) rest) ≤ max_puts
first_counts Puts puts lines page rest is few room behind =
    let own : puts < max_puts = subst (λ (class : Class). HasRoom class puts lines) is room in
    let then = one_more puts page.line is in
    let more = behind (omega (arith, then, own)) in
    let all : puts + length (page ∷ rest) ≤ max_puts = omega (arith, more, then) in
    subst (λ (of_puts : Bool). puts + length (cond of_puts (page ∷ rest) rest) ≤ max_puts) (sym (ap is_puts is)) all
first_counts Tombs puts lines page rest is few room behind =
    let then = no_more puts page.line is in
    let more = behind (omega (arith, then, few)) in
    let all : puts + length rest ≤ max_puts = omega (arith, more, then) in
    subst (λ (of_puts : Bool). puts + length (cond of_puts (page ∷ rest) rest) ≤ max_puts) (sym (ap is_puts is)) all

-- there are no more of them than a tile may have
puts_few : (puts lines dkey : ℕ) (pages : List Placed) → puts ≤ max_puts → LinesFollow puts lines dkey (lines_in pages) → puts + length (puts_pages pages) ≤ max_puts
puts_few puts lines dkey [] few follow = omega (arith, few)
puts_few puts lines dkey (page ∷ pages) few follow =
    let line = page.line in
    first_counts line.class puts lines page (puts_pages pages) refl few follow.1 (λ less. puts_few (puts_then puts line) (lines + 1) (dkey_then dkey line.fence) pages less follow.3)

-- ---- the lines of a tile that is left

-- they follow one another, and there are no more of them and of their entries than a tile may have
record LinesFit (drafts : List DraftLine) : Type 0 where
  follow : LinesFollow 0 0 0 (map plain drafts)
  few : length drafts ≤ 65
  entries : entries_in (map plain drafts) ≤ max_tile_entries

from_none : (fence : Option (ℕ × ℕ)) → IsFrom 0 fence
from_none None = tt
from_none (Some fence) = omega arith

no_dkey : (fence : Option (ℕ × ℕ)) → IsFence Tombs fence → dkey_then 0 fence ≤ 0
no_dkey None is = omega arith
no_dkey (Some fence) is = absurd is

module _ (all : List PageLine) (pages : List Placed) (there : All (IsPlacedIn all) pages) (old : LinesFollow 0 0 0 (lines_in pages)) (most : length pages ≤ 65) (enough : entries_in (lines_in pages) ≤ max_tile_entries) where
  -- no new page of tombstones stands before them
  own_fit : (own : List Part) (count : ℕ) (drafts : List DraftLine) → StandFor pages own count → AllZip (IsLineFor all) own drafts → count ≤ max_tile_entries → LinesFit drafts
  own_fit own count drafts stand zip less =
      let same = parts_entries all pages own count drafts stand zip there in
      let few = parts_few pages own count stand in
      let long = AllZip-long (IsLineFor all) own drafts zip in
      record {
        follow = parts_follow all 0 0 0 0 0 0 pages own count drafts stand zip there (omega arith) (omega arith) (omega arith) old;
        few = omega (arith, most, few, long);
        entries = omega (arith, same, less);
      }

  -- one does
  tombs_fit : (tombs : List Entry) (own : List Part) (count : ℕ) (line : PageLine) (drafts : List DraftLine) → IsTombPage tombs → IsLineOf tombs line → StandFor (puts_pages pages) own count
      → AllZip (IsLineFor all) own drafts → length tombs + count ≤ max_tile_entries → LinesFit (New line ∷ drafts)
  tombs_fit tombs own count line drafts page is stand zip less =
      let class : line.class ≡ Tombs = is.class ∙ page.class in
      let puts : List Placed = puts_pages pages in
      let inside : All (IsPlacedIn all) puts = All-filter (λ (p : Placed). is_puts p.line.class) (IsPlacedIn all) pages there in
      let none = no_more 0 line class in
      let dkey = no_dkey line.fence (subst (λ (c : Class). IsFence c line.fence) class is.itself.fence) in
      let same = parts_entries all puts own count drafts stand zip inside in
      let few = parts_few puts own count stand in
      let room = puts_few 0 0 0 pages (omega arith) old in
      let long = AllZip-long (IsLineFor all) own drafts zip in
      let len = is.len in
      record {
        follow = (
          is.itself,
          subst (λ (c : Class). HasRoom c 0 0) (sym class) refl,
          from_none line.fence,
          parts_follow all 0 1 0 (puts_then 0 line) (0 + 1) (dkey_then 0 line.fence) puts own count drafts stand zip inside (omega (arith, none)) (omega arith) dkey
              (puts_follow 0 0 0 0 1 0 pages (omega arith) (omega arith) old),
        );
        few = omega (arith, few, room, long);
        entries = omega (arith, same, less, len, sum_by-cons (λ (l : PageLine). l.entries) line (map plain drafts));
      }

  tomb_part_fits : (tombs : List Entry) (own : List Part) (count : ℕ) (drafts : List DraftLine) → IsTombPage tombs → StandFor (puts_pages pages) own count
      → AllZip (IsLineFor all) (fresh tombs ++ own) drafts → length tombs + count ≤ max_tile_entries → LinesFit drafts
  tomb_part_fits [] own count drafts page stand zip less = absurd (let some = page.page.has_spelling.some in omega (arith, some))
  tomb_part_fits (tomb ∷ tombs) own count [] page stand zip less = absurd zip
  tomb_part_fits (tomb ∷ tombs) own count (Own line ∷ drafts) page stand zip less = absurd zip.0
  tomb_part_fits (tomb ∷ tombs) own count (New line ∷ drafts) page stand zip less = tombs_fit (tomb ∷ tombs) own count line drafts page zip.0.0 stand zip.1 less

  lines_fit : (parts : List Part) (drafts : List DraftLine) → FitsTile pages parts → AllZip (IsLineFor all) parts drafts → LinesFit drafts
  lines_fit parts drafts fits zip =
      let few = fits.few in
      let split : AllZip (IsLineFor all) (fresh fits.tombs ++ fits.own) drafts = subst (λ (ps : List Part). AllZip (IsLineFor all) ps drafts) fits.parts_are zip in
      elim fits.stand [
        | inl none ↦ own_fit fits.own fits.count drafts none.1 (subst (λ (tombs : List Entry). AllZip (IsLineFor all) (fresh tombs ++ fits.own) drafts) none.0 split) (omega (arith, few, enough))
        | inr tombs ↦ tomb_part_fits fits.tombs fits.own fits.count drafts tombs.0 tombs.1 split (omega (arith, few, enough))
      ]

-- ---- a tile that is left

tile_fits : (all : List PageLine) (first : ℕ) (tile : TileLine) (parts : List Part) (draft : DraftTile) → All (IsPlacedIn all) (placed first tile.pages) → IsTile tile → FitsTile (placed first tile.pages) parts → 0 < length parts
    → IsTileFor all (bounded (tile, parts)) draft → IsTile (tile_of draft [])
tile_fits all first tile parts draft there is fits some told =
    let pages = placed first tile.pages in
    let same = lines_placed first tile.pages in
    let most = is.few in
    let long = ap length same in
    let enough = few_entries tile.pages is.lines in
    let kept = lines_fit all pages there (subst (LinesFollow 0 0 0) (sym same) (lines_follow_from tile.pages is.lines)) (omega (arith, most, long, length-map pages (λ (p : Placed). p.line)))
    (omega (arith, enough, ap entries_in same)) parts draft.lines fits told.parts in
    let plains = numbered_none draft.lines in
    let count = ap length plains in
    let few = kept.few in
    let entries = kept.entries in
    record {
      lo = subst IsKey (sym told.lo) is.lo;
      hi = subst IsKey (sym told.hi) is.hi;
      keys = subst (λ (lo : Bytes). IsTrue (is_le (key_cmp lo draft.hi))) (sym told.lo) (subst (λ (hi : Bytes). IsTrue (is_le (key_cmp tile.lo hi))) (sym told.hi) is.keys);
      some = omega (arith, some, count, length-map draft.lines plain, AllZip-long (IsLineFor all) parts draft.lines told.parts);
      few = omega (arith, few, count, length-map draft.lines plain);
      lines = lines_follow_to (numbered [] draft.lines) (subst (LinesFollow 0 0 0) (sym plains) kept.follow) (omega (arith, entries, ap entries_in plains));
    }

-- ---- all tiles

-- the lines of all tiles: those before, of which there are so many, and those of these
record AreSeen (all : List PageLine) (first : ℕ) (tiles : List TileLine) : Type 0 where
  before : List PageLine
  is : all ≡ before ++ lines_of tiles
  long : length before ≡ first

seen_here : (all : List PageLine) (first : ℕ) (tile : TileLine) (tiles : List TileLine) → AreSeen all first (tile ∷ tiles) → All (IsPlacedIn all) (placed first tile.pages)
seen_here all first tile tiles seen = subst (λ (lines : List PageLine). All (IsPlacedIn lines) (placed first tile.pages)) (sym seen.is) (all_placed seen.before tile.pages (lines_of tiles) first seen.long)

seen_more : (all : List PageLine) (first : ℕ) (tile : TileLine) (tiles : List TileLine) → AreSeen all first (tile ∷ tiles) → AreSeen all (first + length tile.pages) tiles
seen_more all first tile tiles seen =
    let long = seen.long in
    record {
      before = seen.before ++ tile.pages;
      is = seen.is ∙ sym (append_assoc seen.before tile.pages (lines_of tiles));
      long = omega (arith, long, length-append seen.before tile.pages);
    }

tiles_fit : (all : List PageLine) (first : ℕ) (tiles : List TileLine) (parts : List (List Part)) (drafts : List DraftTile) (last : Option Bytes) → AreSeen all first tiles → AllZip FitsTile (by_tile first tiles) parts
    → AllZip (IsTileFor all) (tiles_left tiles parts) drafts → TilesFollow last tiles → TilesFollow last (tiles_with [] drafts)
tiles_fit all first [] [] [] last seen fits zip follow = tt
tiles_fit all first [] [] (draft ∷ drafts) last seen fits zip follow = absurd zip
tiles_fit all first [] (own ∷ parts) drafts last seen fits zip follow = absurd fits
tiles_fit all first (tile ∷ tiles) [] drafts last seen fits zip follow = absurd fits
tiles_fit all first (tile ∷ tiles) ([] ∷ parts) drafts last seen fits zip follow =
    tiles_fit all (first + length tile.pages) tiles parts drafts last (seen_more all first tile tiles seen) fits.1 zip (tiles_less last tile tiles follow)
tiles_fit all first (tile ∷ tiles) ((part ∷ own) ∷ parts) [] last seen fits zip follow = absurd zip
tiles_fit all first (tile ∷ tiles) ((part ∷ own) ∷ parts) (draft ∷ drafts) last seen fits zip follow =
    let is = zip.0 in
    subst (TilesFollow last) (sym (tiles_by_themselves draft drafts)) (
      tile_fits all first tile (part ∷ own) draft (seen_here all first tile tiles seen) follow.0 fits.0 (omega arith) is,
      subst (λ (lo : Bytes). IsTrue (is_above last lo)) (sym is.lo) follow.1,
      tiles_fit all (first + length tile.pages) tiles parts drafts (Some draft.hi) (seen_more all first tile tiles seen) fits.1 zip.1 (subst (λ (hi : Bytes). TilesFollow (Some hi) tiles) (sym is.hi) follow.2),
    )

left_few : (tiles : List TileLine) (parts : List (List Part)) → length (tiles_left tiles parts) ≤ length tiles
left_few [] parts = omega arith
left_few (tile ∷ tiles) [] = omega arith
left_few (tile ∷ tiles) ([] ∷ parts) = let rest = left_few tiles parts in omega (arith, rest)
left_few (tile ∷ tiles) ((part ∷ own) ∷ parts) = let rest = left_few tiles parts in omega (arith, rest)

-- ---- each part has a line to be

module _ (all : List PageLine) where
  stand_drafted : (pages : List Placed) (parts : List Part) (count : ℕ) → StandFor pages parts count → All (IsPlacedIn all) pages → All (MayBeDrafted all) parts
  stand_drafted pages parts count End there = All-nil (MayBeDrafted all)
  stand_drafted pages parts count (Gone page rest parts' count' stand) there = stand_drafted rest parts' count' stand (All-tail (IsPlacedIn all) page rest there)
  stand_drafted pages parts count (Left page part rest parts' count' stands stand) there =
      All-cons (MayBeDrafted all) part parts' (by part stands) (stand_drafted rest parts' count' stand (All-tail (IsPlacedIn all) page rest there))
    where
      by : (part : Part) → StandsFor page part → MayBeDrafted all part
      by (Kept place) stands = subst (λ (at : ℕ). at < length all) (sym stands) (slice_get_within all page.place page.line (All-head (IsPlacedIn all) page rest there))
      by (Fresh entries) stands = stands.page

  tombs_drafted : (tombs : List Entry) → IsTombPage tombs → All (MayBeDrafted all) (fresh tombs)
  tombs_drafted [] page = All-nil (MayBeDrafted all)
  tombs_drafted (tomb ∷ tombs) page = All-cons (MayBeDrafted all) (Fresh (tomb ∷ tombs)) [] page.page (All-nil (MayBeDrafted all))

  fits_drafted : (pages : List Placed) (parts : List Part) → FitsTile pages parts → All (IsPlacedIn all) pages → All (MayBeDrafted all) parts
  fits_drafted pages parts fits there =
      subst (All (MayBeDrafted all)) (sym fits.parts_are) (elim fits.stand [
        | inl none ↦
            All-append (MayBeDrafted all) (fresh fits.tombs) fits.own (subst (λ (tombs : List Entry). All (MayBeDrafted all) (fresh tombs)) (sym none.0) (All-nil (MayBeDrafted all)))
            (stand_drafted pages fits.own fits.count none.1 there)
        | inr tombs ↦
            All-append (MayBeDrafted all) (fresh fits.tombs) fits.own (tombs_drafted fits.tombs tombs.0)
            (stand_drafted (puts_pages pages) fits.own fits.count tombs.1 (All-filter (λ (p : Placed). is_puts p.line.class) (IsPlacedIn all) pages there))
      ])

  abbrev AreDraftable : SweptTile → Type 0
  AreDraftable tile = All (MayBeDrafted all) tile.parts

  left_drafted : (first : ℕ) (tiles : List TileLine) (parts : List (List Part)) → AreSeen all first tiles → AllZip FitsTile (by_tile first tiles) parts → All AreDraftable (tiles_left tiles parts)
  left_drafted first [] parts seen fits = All-nil AreDraftable
  left_drafted first (tile ∷ tiles) [] seen fits = All-nil AreDraftable
  left_drafted first (tile ∷ tiles) ([] ∷ parts) seen fits = left_drafted (first + length tile.pages) tiles parts (seen_more all first tile tiles seen) fits.1
  left_drafted first (tile ∷ tiles) ((part ∷ own) ∷ parts) seen fits =
      All-cons AreDraftable (bounded (tile, part ∷ own)) (tiles_left tiles parts)
      (fits_drafted (placed first tile.pages) (part ∷ own) fits.0 (seen_here all first tile tiles seen))
      (left_drafted (first + length tile.pages) tiles parts (seen_more all first tile tiles seen) fits.1)

seen_all : (tiles : List TileLine) → AreSeen (lines_of tiles) 0 tiles
seen_all tiles = record { before = []; is = refl; long = refl }

pub draftable : (tiles : List TileLine) (swept : SweptFile) → Fits tiles swept → All (λ tile. All (MayBeDrafted (lines_of tiles)) tile.parts) swept.tiles
draftable tiles swept fits = subst (All (λ (tile : SweptTile). All (MayBeDrafted (lines_of tiles)) tile.parts)) (sym fits.tiles_are) (left_drafted (lines_of tiles) 0 tiles fits.parts (seen_all tiles) fits.each)

-- ---- each new page has a line

parts_paged : (all : List PageLine) (parts : List Part) (drafts : List DraftLine) → AllZip (IsLineFor all) parts drafts → length (filter_map fresh_of parts) ≡ length (filter_map new_line drafts)
parts_paged all [] [] zip = refl
parts_paged all [] (draft ∷ drafts) zip = absurd zip
parts_paged all (part ∷ parts) [] zip = absurd zip
parts_paged all (Kept place ∷ parts) (Own line ∷ drafts) zip = parts_paged all parts drafts zip.1
parts_paged all (Kept place ∷ parts) (New line ∷ drafts) zip = absurd zip.0
parts_paged all (Fresh entries ∷ parts) (Own line ∷ drafts) zip = absurd zip.0
parts_paged all (Fresh entries ∷ parts) (New line ∷ drafts) zip = ap suc (parts_paged all parts drafts zip.1)

tiles_paged : (all : List PageLine) (tiles : List SweptTile) (drafts : List DraftTile) → AllZip (IsTileFor all) tiles drafts → length (filter_map fresh_of (parts_of tiles)) ≡ length (flat_map new_in drafts)
tiles_paged all [] [] zip = refl
tiles_paged all [] (draft ∷ drafts) zip = absurd zip
tiles_paged all (tile ∷ tiles) [] zip = absurd zip
tiles_paged all (tile ∷ tiles) (draft ∷ drafts) zip =
    let here = parts_paged all tile.parts draft.lines zip.0.parts in
    let rest = tiles_paged all tiles drafts zip.1 in
    let split = ap length (filter_map-append fresh_of tile.parts (parts_of tiles)) in
    omega (arith, here, rest, split, length-append (filter_map fresh_of tile.parts) (filter_map fresh_of (parts_of tiles)), length-append (new_in draft) (flat_map new_in drafts))

-- ---- what the new pages spell are their entries

parts_read : (all : List PageLine) (parts : List Part) → All (MayBeDrafted all) parts → map agreement.entries_in (new_bytes parts) ≡ filter_map fresh_of parts
parts_read all [] may = refl
parts_read all (Kept place ∷ parts) may = parts_read all parts (All-tail (MayBeDrafted all) (Kept place) parts may)
parts_read all (Fresh entries ∷ parts) may =
    let here = same_entries (class_of entries) entries (All-head (MayBeDrafted all) (Fresh entries) parts may).has_spelling in
    let rest = parts_read all parts (All-tail (MayBeDrafted all) (Fresh entries) parts may) in
    λ i. here i ∷ rest i

parts_drafted : (all : List PageLine) (tiles : List SweptTile) → All (AreDraftable all) tiles → All (MayBeDrafted all) (parts_of tiles)
parts_drafted all [] may = All-nil (MayBeDrafted all)
parts_drafted all (tile ∷ tiles) may =
    All-append (MayBeDrafted all) tile.parts (parts_of tiles) (All-head (AreDraftable all) tile tiles may) (parts_drafted all tiles (All-tail (AreDraftable all) tile tiles may))

pub pages_read : (tiles : List TileLine) (swept : SweptFile) → Fits tiles swept → map agreement.entries_in (map spelled (fresh_in swept)) ≡ fresh_in swept
pages_read tiles swept fits = parts_read (lines_of tiles) (parts_of swept.tiles) (parts_drafted (lines_of tiles) swept.tiles (draftable tiles swept fits))

-- ---- the draft

pub is_draft_of : (tiles : List TileLine) (swept : SweptFile) (draft : SweptDraft) → HasSpelling (header_of 0 tiles) → Fits tiles swept → 0 < length swept.tiles → AllZip (IsTileFor (lines_of tiles)) swept.tiles draft.tiles
    → draft.pages ≡ map spelled (fresh_in swept) → IsDraftOf tiles swept draft
is_draft_of tiles swept draft has fits some zip pages =
    let all = lines_of tiles in
    let left : AllZip (IsTileFor all) (tiles_left tiles fits.parts) draft.tiles = subst (λ (ts : List SweptTile). AllZip (IsTileFor all) ts draft.tiles) fits.tiles_are zip in
    let long = AllZip-long (IsTileFor all) swept.tiles draft.tiles zip in
    let same = tiles_long [] draft.tiles in
    let count = ap length fits.tiles_are in
    let most = has.few in
    record {
      each = zip;
      pages = pages;
      entries = ap (map agreement.entries_in) pages ∙ pages_read tiles swept fits;
      is = record {
        has_spelling = record {
          no = omega arith;
          some = omega (arith, same, long, some);
          few = omega (arith, same, long, count, left_few tiles fits.parts, most);
          tiles = tiles_follow_to (tiles_with [] draft.tiles) (tiles_fit all 0 tiles fits.parts draft.tiles None (seen_all tiles) fits.each left (tiles_follow_from tiles has.tiles));
        };
        paged = ap length pages ∙ length-map (fresh_in swept) spelled ∙ tiles_paged all swept.tiles draft.tiles zip;
      };
    }
