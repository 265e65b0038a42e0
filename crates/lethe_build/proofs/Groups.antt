-- The tiles of a weave are whole and ascend, and so do those of each file that they are cut into; and how many numbers they take.
use Rattle.std.proofs.Common.{◌≡◌, ℕ, ◌*◌, ◌-◌, ◌≤◌, ◌<◌, List, [], ◌∷◌, ◌++◌, length, get_or, All, AllPairs, refl, ◌∙◌, ap, sym, subst, length-append, arith}
use Rattle.std.specs.Prelude.{sum_by}
use Rattle.std.specs.List.{AllZip}
use Rattle.std.specs.declared.cmp.Ordering.TheVariants.{Less}
use Rattle.std.proofs.Math.Nat.{one-le-mul}
use Rattle.std.proofs.lemmas.List.Concat.{flat_map-append}
use Rattle.std.proofs.lemmas.List.Elements.{All-cons, All-head, All-nil, All-tail}
use Rattle.std.proofs.lemmas.List.Kept.{AllPairs-cons}
use Rattle.std.proofs.lemmas.List.Sums.{sum_by-cons}
use Rattle.lethe_base.specs.Configuration.{IsConfig}
use Rattle.lethe_base.specs.Entries.{IsAscending}
use Rattle.lethe_base.specs.Keys.{Bytes, key_cmp}
use Rattle.lethe_base.specs.Layout as layout
use Rattle.lethe_base.specs.Spelling.{HasSpelling}
use Rattle.lethe_base.specs.declared.config.Fields.{Fields}
use Rattle.lethe_base.specs.declared.entry.Entry.{Entry}
use Rattle.lethe_tile.specs.Woven.{joined, IsCut, IsTile, IsWoven}
use Rattle.lethe_tile.proofs.Orders.{pairs_head, pairs_nil, pairs_tail, Across, HasLowerKey, pairs_from_ascending}
use Rattle.lethe_tile.proofs.Pages.{cut_some, parts_pairs, slices_ascend}
use Rattle.lethe_build.specs.Built.{most_numbers, pages_of}
use Rattle.lethe_build.specs.Parts.{IsBelow, IsGroup, IsPage, IsWhole}
use Rattle.lethe_build.proofs.Files.{all_pages}
use Rattle.lethe_build.proofs.Loops.{group_numbers}
use Rattle.lethe_build.proofs.Whole.{key_there, parts_all, parts_across, some_pages, tile_long}

-- ---- the tiles of a weave

-- no part of a cut is too long
cut_short : {X : Type 0} (most : ℕ) (parts : List (List X)) → IsCut most parts → All (λ part. length part ≤ most) parts
cut_short most [] cut = All-nil (λ part. length part ≤ most)
cut_short most (last ∷ []) cut = All-cons (λ part. length part ≤ most) last [] cut.1 (All-nil (λ part. length part ≤ most))
cut_short most (part ∷ next ∷ parts) cut = All-cons (λ part. length part ≤ most) part (next ∷ parts) (omega (arith, cut.0)) (cut_short most (next ∷ parts) cut.1)

-- a slice of the entries
record IsSlice (fields : Fields) (slice : List Entry) : Type 0 where
  some : 0 < length slice
  few : length slice ≤ fields.page * fields.tile
  ascending : IsAscending slice
  each : All HasSpelling slice

tiles_whole : (fields : Fields) → IsConfig fields → (slices : List (List Entry)) (tiles : List layout.Tile) → AllZip (IsTile fields.page) slices tiles → All (IsSlice fields) slices → All IsWhole tiles
tiles_whole fields config [] [] zip each = All-nil IsWhole
tiles_whole fields config [] (t ∷ ts) zip each = absurd zip
tiles_whole fields config (s ∷ ss) [] zip each = absurd zip
tiles_whole fields config (s ∷ ss) (t ∷ ts) zip each =
    let slice = All-head (IsSlice fields) s ss each in
    All-cons IsWhole t ts
    (record { fields = fields; config = config; entries = s; some = slice.some; few = slice.few; ascending = slice.ascending; each = slice.each; is = zip.0 })
    (tiles_whole fields config ss ts zip.1 (All-tail (IsSlice fields) s ss each))

below_one : (page : ℕ) (slice other : List Entry) (tile next : layout.Tile) → IsTile page slice tile → IsTile page other next → 0 < length slice → 0 < length other → Across HasLowerKey slice other → IsBelow tile next
below_one page [] other tile next is is' some some' across = absurd (omega (arith, some))
below_one page (e ∷ es) [] tile next is is' some some' across = absurd (omega (arith, some'))
below_one page (e ∷ es) (f ∷ fs) tile next is is' some some' across =
    let last : length (e ∷ es) - 1 < length (e ∷ es) = omega arith in
    let hi = key_there (e ∷ es) (length (e ∷ es) - 1) tile.hi e last is.hi in
    let lo = key_there (f ∷ fs) 0 next.lo f some' is'.lo in
    subst (λ (x : Bytes). key_cmp x next.lo ≡ Less) hi (subst (λ (x : Bytes). key_cmp (get_or (e ∷ es) (length (e ∷ es) - 1) e).key x ≡ Less) lo (across (length (e ∷ es) - 1) e last 0 f some'))

below_all : (page : ℕ) (slice : List Entry) (tile : layout.Tile) (slices : List (List Entry)) (tiles : List layout.Tile) → IsTile page slice tile → 0 < length slice → AllZip (IsTile page) slices tiles → All (λ s. 0 < length s) slices
    → All (Across HasLowerKey slice) slices → All (IsBelow tile) tiles
below_all page slice tile [] [] is some zip each across = All-nil (IsBelow tile)
below_all page slice tile [] (t ∷ ts) is some zip each across = absurd zip
below_all page slice tile (s ∷ ss) [] is some zip each across = absurd zip
below_all page slice tile (s ∷ ss) (t ∷ ts) is some zip each across =
    All-cons (IsBelow tile) t ts
    (below_one page slice s tile t is zip.0 some (All-head (λ s. 0 < length s) s ss each) (All-head (Across HasLowerKey slice) s ss across))
    (below_all page slice tile ss ts is some zip.1 (All-tail (λ s. 0 < length s) s ss each) (All-tail (Across HasLowerKey slice) s ss across))

pub tiles_below : (page : ℕ) (slices : List (List Entry)) (tiles : List layout.Tile) → AllZip (IsTile page) slices tiles → All (λ s. 0 < length s) slices → AllPairs (Across HasLowerKey) slices → AllPairs IsBelow tiles
tiles_below page [] [] zip each order = pairs_nil IsBelow
tiles_below page [] (t ∷ ts) zip each order = absurd zip
tiles_below page (s ∷ ss) [] zip each order = absurd zip
tiles_below page (s ∷ ss) (t ∷ ts) zip each order =
    let rest = All-tail (λ s. 0 < length s) s ss each in
    AllPairs-cons IsBelow t ts
    (below_all page s t ss ts zip.0 (All-head (λ s. 0 < length s) s ss each) zip.1 rest (pairs_head (Across HasLowerKey) s ss order))
    (tiles_below page ss ts zip.1 rest (pairs_tail (Across HasLowerKey) s ss order))

-- ---- how many numbers

-- no part is empty, so there are no more parts than items
parts_few : {X : Type 0} (parts : List (List X)) → All (λ part. 0 < length part) parts → length parts ≤ length (joined parts)
parts_few [] some = omega arith
parts_few (part ∷ parts) some =
    omega (arith, All-head (λ part. 0 < length part) part parts some, parts_few parts (All-tail (λ part. 0 < length part) part parts some), length-append part (joined parts))

page_some : (pages : List (List Entry)) → All IsPage pages → All (λ page. 0 < length page) pages
page_some pages each k d lt = (each k d lt).has_spelling.some

group_fits : (tiles : List layout.Tile) → IsGroup tiles → group_numbers tiles ≤ most_numbers (length (joined (pages_of tiles)))
group_fits [] group = absurd (omega (arith, group.some))
group_fits (t ∷ ts) group =
    let some = some_pages t (All-head IsWhole t ts group.whole) in
    let few = parts_few (pages_of (t ∷ ts)) (page_some (pages_of (t ∷ ts)) (all_pages (t ∷ ts) group.whole)) in
    omega (arith, some, few, length-append t.pages (pages_of ts))

pub groups_fit : (groups : List (List layout.Tile)) → All IsGroup groups → sum_by group_numbers groups ≤ most_numbers (length (joined (pages_of (joined groups))))
groups_fit [] each = omega arith
groups_fit (g ∷ gs) each =
    let here = group_fits g (All-head IsGroup g gs each) in
    let rest = groups_fit gs (All-tail IsGroup g gs each) in
    let pages : pages_of (g ++ joined gs) ≡ pages_of g ++ pages_of (joined gs) = flat_map-append (λ (tile : layout.Tile). tile.pages) g (joined gs) in
    let entries : joined (pages_of (g ++ joined gs)) ≡ joined (pages_of g) ++ joined (pages_of (joined gs)) = ap joined pages ∙ flat_map-append (λ (page : List Entry). page) (pages_of g) (pages_of (joined gs)) in
    omega (arith, here, rest, sum_by-cons group_numbers g gs, ap length entries, length-append (joined (pages_of g)) (joined (pages_of (joined gs))))

tiles_long : (page : ℕ) (slices : List (List Entry)) (tiles : List layout.Tile) → AllZip (IsTile page) slices tiles → length (joined (pages_of tiles)) ≡ length (joined slices)
tiles_long page [] [] zip = refl
tiles_long page [] (t ∷ ts) zip = absurd zip
tiles_long page (s ∷ ss) [] zip = absurd zip
tiles_long page (s ∷ ss) (t ∷ ts) zip =
    let entries : joined (t.pages ++ pages_of ts) ≡ joined t.pages ++ joined (pages_of ts) = flat_map-append (λ (page : List Entry). page) t.pages (pages_of ts) in
    let here = tile_long page s t zip.0 in
    let rest = tiles_long page ss ts zip.1 in
    omega (arith, here, rest, ap length entries, length-append (joined t.pages) (joined (pages_of ts)), length-append s (joined ss))

-- ---- the tiles of each file

module _ (fields : Fields) (entries : List Entry) (tiles : List layout.Tile) (groups : List (List layout.Tile)) (config : IsConfig fields) (up : IsAscending entries) (each : All HasSpelling entries)
    (woven : IsWoven fields entries tiles) (consecutive : joined groups ≡ tiles) (lengths : IsCut fields.file groups) where
  some : All (λ slice. 0 < length slice) woven.slices
  some = cut_some (fields.page * fields.tile) woven.slices (one-le-mul config.page.0 config.tile.0) woven.lengths

  are_slices : All (IsSlice fields) woven.slices
  are_slices k d lt = record {
    some = some k d lt;
    few = cut_short (fields.page * fields.tile) woven.slices woven.lengths k d lt;
    ascending = slices_ascend woven.slices (subst IsAscending (sym woven.consecutive) up) k d lt;
    each = parts_all HasSpelling woven.slices (subst (All HasSpelling) (sym woven.consecutive) each) k d lt;
  }

  whole : All IsWhole tiles
  whole = tiles_whole fields config woven.slices tiles woven.each are_slices

  below : AllPairs IsBelow tiles
  below = tiles_below fields.page woven.slices tiles woven.each some (parts_across HasLowerKey woven.slices (subst (AllPairs HasLowerKey) (sym woven.consecutive) (pairs_from_ascending entries up)))

  pub are_groups : All IsGroup groups
  are_groups k d lt = record {
    some = cut_some fields.file groups config.file.0 lengths k d lt;
    few = omega (arith, cut_short fields.file groups lengths k d lt, config.file.1);
    whole = parts_all IsWhole groups (subst (All IsWhole) (sym consecutive) whole) k d lt;
    below = parts_pairs IsBelow groups (subst (AllPairs IsBelow) (sym consecutive) below) k d lt;
  }

  pub numbers_fit : sum_by group_numbers groups ≤ most_numbers (length entries)
  numbers_fit =
      let same : length (joined (pages_of (joined groups))) ≡ length (joined (pages_of tiles)) = ap (λ (ts : List layout.Tile). length (joined (pages_of ts))) consecutive in
      omega (arith, groups_fit groups are_groups, same, tiles_long fields.page woven.slices tiles woven.each, ap length woven.consecutive)
