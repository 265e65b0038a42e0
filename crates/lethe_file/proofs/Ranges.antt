-- The entries of a file in a range, tile by tile.
use Rattle.std.proofs.Common.{◌≡◌, ℕ, Bool, true, false, cond, List, [], ◌∷◌, ◌++◌, length, get_or, take, drop, map, All, AllPairs, IsPermutation, Option, Some, None, refl, sym, ap, subst, ◌∙◌, arith, length-append}
use Rattle.std.specs.Prelude.{filter, flat_map}
use Rattle.std.specs.List.{AllZip}
use Rattle.std.specs.Ordering.{is_le, is_lt}
use Rattle.std.specs.declared.cmp.Ordering.{Ordering}
use Rattle.std.specs.declared.cmp.Ordering.TheVariants.{Less, Equal, Greater}
use Rattle.std.proofs.lemmas.Bool.{and_from, and_parts, true≢false}
use Rattle.std.proofs.lemmas.List.{drop-map, length-drop, length-take, map-append, take-append-drop, take-map}
use Rattle.std.proofs.lemmas.List.Concat.{flat_map-append}
use Rattle.std.proofs.lemmas.List.Elements.{All-cons, All-filter, All-head, All-nil, All-tail, filter-append}
use Rattle.std.proofs.lemmas.List.Kept.{AllPairs-filter}
use Rattle.std.proofs.lemmas.List.Sorted.{All-permutation, Contains-permutation, IsPermutation-append, IsPermutation-refl, IsPermutation-sym}
use Rattle.lethe_base.specs.Entries.{IsAscending}
use Rattle.lethe_base.specs.Keys.{Bytes, key_cmp, same_key}
use Rattle.lethe_base.specs.declared.entry.Entry.{Entry}
use Rattle.lethe_header.specs.Facts.{lines_of}
use Rattle.lethe_header.specs.Headers.{EachFollows, TileFollows}
use Rattle.lethe_header.specs.declared.header.PageLine.{PageLine}
use Rattle.lethe_header.specs.declared.header.TileLine.{TileLine}
use Rattle.lethe_header.specs.Woven.{joined}
use Rattle.lethe_header.proofs.Orders.{Across, HasLowerKey, HasOtherKey, ascending_from_pairs, other_from_ascending, pairs_from_ascending, pairs_from_other, pairs_head, pairs_nil, pairs_tail}
use Rattle.lethe_file.specs.Agreement.{Agrees, FileAgrees, HaveNoCommonKey, IsWithin, TilesHold, check_of, entries_in}
use Rattle.lethe_file.specs.Between.{AreBetween, is_below, is_in, meets, numbers_between}
use Rattle.lethe_file.specs.Waiting.{IsWritten, Waiting, in_order, of_waiting, tiles_between, waits_for}
use Rattle.lethe_file.proofs.Joined.{across_joined, all_joined, filter_none, from_filter, from_joined, in_filter, in_joined}
use Rattle.lethe_file.proofs.Orders.{is_key, le_less, less_le, tied, tiles_rise}
use Rattle.lethe_file.proofs.Sorting.{in_order_pairs, in_order_same}
use Rattle.lethe_file.proofs.Tiles.{zip_parts}
use Rattle.lethe_file.proofs.Unique.{IsBelow, pairs_join, rest_above}

-- ---- keys

le_le : (x y z : Bytes) → is_le (key_cmp x y) ≡ true → is_le (key_cmp y z) ≡ true → is_le (key_cmp x z) ≡ true
le_le x y z first second = by (key_cmp x y) refl first
  where
    by : (r : Ordering) → key_cmp x y ≡ r → is_le r ≡ true → is_le (key_cmp x z) ≡ true
    by Less e h = ap is_le (less_le x y z e second)
    by Equal e h = subst (λ (k : Bytes). is_le (key_cmp k z) ≡ true) (sym (tied x y e)) second
    by Greater e h = absurd cc

less_is : (r : Ordering) → is_lt r ≡ true → r ≡ Less
less_is Less h = refl
less_is Equal h = absurd cc
less_is Greater h = absurd cc

le_below : (x y : Bytes) (hi : Option Bytes) → is_le (key_cmp x y) ≡ true → is_below y hi ≡ true → is_below x hi ≡ true
le_below x y None le below = refl
le_below x y (Some hi) le below = ap is_lt (le_less x y hi le (less_is (key_cmp y hi) below))

other_key : (x y : Bytes) → (x ≡ y → ⊥) → same_key x y ≡ false
other_key x y apart = by (same_key x y) refl
  where
    by : (b : Bool) → same_key x y ≡ b → b ≡ false
    by true e = absurd (apart ((is_key x y true (sym e)).0 refl))
    by false e = refl

-- ---- pages that are waited for

pub waits_entries : (lines : List PageLine) (pages : List (List ℕ)) → length pages ≡ length lines → flat_map (λ (page : Waiting). entries_in page.bytes) (waits_for lines pages) ≡ joined (map entries_in pages)
waits_entries [] [] len = refl
waits_entries [] (page ∷ pages) len = absurd (omega (arith, len))
waits_entries (line ∷ lines) [] len = absurd (omega (arith, len))
waits_entries (line ∷ lines) (page ∷ pages) len = ap (λ (es : List Entry). entries_in page ++ es) (waits_entries lines pages (omega (arith, len)))

waits_written : (lines : List PageLine) (pages : List (List ℕ)) → AllZip Agrees lines pages → All IsWritten (waits_for lines pages)
waits_written [] [] each = All-nil IsWritten
waits_written [] (page ∷ pages) each = absurd each
waits_written (line ∷ lines) [] each = absurd each
waits_written (line ∷ lines) (page ∷ pages) each =
    All-cons IsWritten (record { check = check_of line; bytes = page }) (waits_for lines pages) (record { checked = each.0.page; spelled = each.0.spelled }) (waits_written lines pages each.1)

waits_numbers : (lines : List PageLine) (pages : List (List ℕ)) → length pages ≡ length lines → map (λ (page : Waiting). page.check.no) (waits_for lines pages) ≡ map (λ line. line.no) lines
waits_numbers [] [] len = refl
waits_numbers [] (page ∷ pages) len = absurd (omega (arith, len))
waits_numbers (line ∷ lines) [] len = absurd (omega (arith, len))
waits_numbers (line ∷ lines) (page ∷ pages) len = ap (λ (ns : List ℕ). line.no ∷ ns) (waits_numbers lines pages (omega (arith, len)))

pages_ascend : (lines : List PageLine) (pages : List (List ℕ)) → AllZip Agrees lines pages → All IsAscending (map entries_in pages)
pages_ascend [] [] each = All-nil IsAscending
pages_ascend [] (page ∷ pages) each = absurd each
pages_ascend (line ∷ lines) [] each = absurd each
pages_ascend (line ∷ lines) (page ∷ pages) each = All-cons IsAscending (entries_in page) (map entries_in pages) each.0.page.spelled.ascending (pages_ascend lines pages each.1)

-- pages of which no two share a key have different keys throughout
joined_other : (parts : List (List Entry)) → AllPairs HaveNoCommonKey parts → All IsAscending parts → AllPairs HasOtherKey (joined parts)
joined_other [] apart up = pairs_nil HasOtherKey
joined_other (part ∷ parts) apart up =
    let head = pairs_head HaveNoCommonKey part parts apart in
    let across : All (Across HasOtherKey part) parts = λ j q inside k e lt m a below. other_key (get_or part k e).key (get_or (get_or parts j q) m a).key (head j q inside k e lt m a below) in
    pairs_join HasOtherKey part (joined parts) (pairs_from_other part (other_from_ascending part (pairs_from_ascending part (All-head IsAscending part parts up))))
    (joined_other parts (pairs_tail HaveNoCommonKey part parts apart) (All-tail IsAscending part parts up)) (across_joined HasOtherKey part parts across)

-- ---- one tile

-- where its page lengths are those of its lines
own_len : (tile : TileLine) (tiles : List TileLine) (pages : List (List ℕ)) → length pages ≡ length (lines_of (tile ∷ tiles)) → length (take (length tile.pages) pages) ≡ length tile.pages
own_len tile tiles pages len = let all = len ∙ length-append tile.pages (lines_of tiles) in omega (arith, length-take (length tile.pages) pages, all)

rest_len : (tile : TileLine) (tiles : List TileLine) (pages : List (List ℕ)) → length pages ≡ length (lines_of (tile ∷ tiles)) → length (drop (length tile.pages) pages) ≡ length (lines_of tiles)
rest_len tile tiles pages len = let all = len ∙ length-append tile.pages (lines_of tiles) in omega (arith, length-drop (length tile.pages) pages, all)

module _ (lo : Bytes) (hi : Option Bytes) where
  abbrev in_range : Entry → Bool
  in_range entry = is_in lo hi entry.key

  meets_where : (tile : TileLine) (key : Bytes) → IsWithin tile key → is_in lo hi key ≡ true → meets lo hi tile ≡ true
  meets_where tile key within inside =
      let parts = and_parts (is_le (key_cmp lo key)) (is_below key hi) inside in
      and_from (is_le (key_cmp lo tile.hi)) (is_below tile.lo hi) (le_le lo key tile.hi parts.0 within.hi) (le_below tile.lo key hi within.lo parts.1)

  outside : (tile : TileLine) (key : Bytes) → IsWithin tile key → meets lo hi tile ≡ false → is_in lo hi key ≡ false
  outside tile key within misses = by (is_in lo hi key) refl
    where
      by : (b : Bool) → is_in lo hi key ≡ b → b ≡ false
      by true e = absurd (true≢false (sym (meets_where tile key within e) ∙ misses))
      by false e = refl

  -- what is waited for of a tile
  tile_is : (tile : TileLine) (pages : List (List ℕ)) → length pages ≡ length tile.pages → of_waiting lo hi (waits_for tile.pages pages) ≡ in_order (filter in_range (joined (map entries_in pages)))
  tile_is tile pages len = ap (λ (es : List Entry). in_order (filter in_range es)) (waits_entries tile.pages pages len)

  parted : (n : ℕ) (pages : List (List ℕ)) → filter in_range (joined (map entries_in pages)) ≡ filter in_range (joined (map entries_in (take n pages))) ++ filter in_range (joined (map entries_in (drop n pages)))
  parted n pages =
      ap (λ (l : List (List ℕ)). filter in_range (joined (map entries_in l))) (sym (take-append-drop n pages))
      ∙ ap (λ (l : List (List Entry)). filter in_range (joined l)) (map-append entries_in (take n pages) (drop n pages))
      ∙ ap (filter in_range) (flat_map-append (λ (part : List Entry). part) (map entries_in (take n pages)) (map entries_in (drop n pages)))
      ∙ filter-append in_range (joined (map entries_in (take n pages))) (joined (map entries_in (drop n pages)))

  -- each entry of the pages in the range, once
  pub between_same : (tiles : List TileLine) (pages : List (List ℕ)) → length pages ≡ length (lines_of tiles) → TilesHold tiles (map entries_in pages)
      → IsPermutation (filter in_range (joined (map entries_in pages))) (flat_map (of_waiting lo hi) (tiles_between lo hi tiles pages))
  between_same [] [] len hold = IsPermutation-refl []
  between_same [] (page ∷ pages) len hold = absurd (omega (arith, len))
  between_same (tile ∷ tiles) pages len hold =
      let n = length tile.pages in
      let own = take n pages in
      let behind = drop n pages in
      let held : TilesHold tiles (map entries_in behind) = subst (TilesHold tiles) (drop-map entries_in n pages) hold.1 in
      let rest = between_same tiles behind (rest_len tile tiles pages len) held in
      subst (λ (es : List Entry). IsPermutation es (flat_map (of_waiting lo hi) (tiles_between lo hi (tile ∷ tiles) pages))) (sym (parted n pages))
      (by (meets lo hi tile) refl rest)
    where
      by : (b : Bool) → meets lo hi tile ≡ b
          → IsPermutation (filter in_range (joined (map entries_in (drop (length tile.pages) pages)))) (flat_map (of_waiting lo hi) (tiles_between lo hi tiles (drop (length tile.pages) pages)))
          → IsPermutation (filter in_range (joined (map entries_in (take (length tile.pages) pages))) ++ filter in_range (joined (map entries_in (drop (length tile.pages) pages))))
          (flat_map (of_waiting lo hi) (cond b (waits_for tile.pages (take (length tile.pages) pages) ∷ tiles_between lo hi tiles (drop (length tile.pages) pages)) (tiles_between lo hi tiles (drop (length tile.pages) pages))))
      by true e rest =
          let own = take (length tile.pages) pages in
          let here = subst (IsPermutation (filter in_range (joined (map entries_in own)))) (sym (tile_is tile own (own_len tile tiles pages len))) (in_order_same (filter in_range (joined (map entries_in own)))) in
          IsPermutation-append (filter in_range (joined (map entries_in own))) (of_waiting lo hi (waits_for tile.pages own)) _ _ here rest
      by false e rest =
          let own = take (length tile.pages) pages in
          let within : All (All (λ entry. IsWithin tile entry.key)) (map entries_in own) = subst (All (All (λ entry. IsWithin tile entry.key))) (take-map entries_in (length tile.pages) pages) hold.0.within in
          let none : All (λ entry. in_range entry ≡ false) (joined (map entries_in own)) =
          all_joined (λ entry. in_range entry ≡ false) (map entries_in own) (λ k d lt j a inside. outside tile (get_or (get_or (map entries_in own) k d) j a).key (within k d lt j a inside) e) in
          subst (λ (es : List Entry). IsPermutation (es ++ filter in_range (joined (map entries_in (drop (length tile.pages) pages)))) (flat_map (of_waiting lo hi) (tiles_between lo hi tiles (drop (length tile.pages) pages))))
          (sym (filter_none in_range (joined (map entries_in own)) none)) rest

  -- what has a fact in all pages has it in what is left of them
  all_between : (P : Entry → Type 0) (tiles : List TileLine) (pages : List (List ℕ)) → length pages ≡ length (lines_of tiles) → TilesHold tiles (map entries_in pages) → All (All P) (map entries_in pages)
      → All P (flat_map (of_waiting lo hi) (tiles_between lo hi tiles pages))
  all_between P tiles pages len hold each =
      All-permutation P (filter in_range (joined (map entries_in pages))) (flat_map (of_waiting lo hi) (tiles_between lo hi tiles pages)) (between_same tiles pages len hold)
      (All-filter in_range P (joined (map entries_in pages)) (all_joined P (map entries_in pages) each))

  pub between_pairs : (tiles : List TileLine) (pages : List (List ℕ)) → length pages ≡ length (lines_of tiles) → AllZip Agrees (lines_of tiles) pages → TilesHold tiles (map entries_in pages) → AllPairs IsBelow tiles
      → AllPairs HasLowerKey (flat_map (of_waiting lo hi) (tiles_between lo hi tiles pages))
  between_pairs [] pages len zip hold rise = pairs_nil HasLowerKey
  between_pairs (tile ∷ tiles) pages len zip hold rise =
      let n = length tile.pages in
      let own = take n pages in
      let behind = drop n pages in
      let held : TilesHold tiles (map entries_in behind) = subst (TilesHold tiles) (drop-map entries_in n pages) hold.1 in
      let parts = zip_parts Agrees tile.pages (lines_of tiles) pages zip in
      let rest = between_pairs tiles behind (rest_len tile tiles pages len) parts.1 held (pairs_tail IsBelow tile tiles rise) in
      let own_zip : AllZip Agrees tile.pages own = parts.0 in
      let within : All (All (λ entry. IsWithin tile entry.key)) (map entries_in own) = subst (All (All (λ entry. IsWithin tile entry.key))) (take-map entries_in n pages) hold.0.within in
      let once : AllPairs HaveNoCommonKey (map entries_in own) = subst (AllPairs HaveNoCommonKey) (take-map entries_in n pages) hold.0.once in
      let es = filter in_range (joined (map entries_in own)) in
      let here : AllPairs HasLowerKey (in_order es) = in_order_pairs es (AllPairs-filter HasOtherKey in_range (joined (map entries_in own)) (joined_other (map entries_in own) once (pages_ascend tile.pages own own_zip))) in
      let most : All (λ entry. is_le (key_cmp entry.key tile.hi) ≡ true) (in_order es) =
      All-permutation (λ entry. is_le (key_cmp entry.key tile.hi) ≡ true) es (in_order es) (in_order_same es)
      (All-filter in_range (λ entry. is_le (key_cmp entry.key tile.hi) ≡ true) (joined (map entries_in own))
      (all_joined (λ entry. is_le (key_cmp entry.key tile.hi) ≡ true) (map entries_in own) (λ k d lt j a inside. (within k d lt j a inside).hi))) in
      let above : All (λ entry. key_cmp tile.hi entry.key ≡ Less) (flat_map (of_waiting lo hi) (tiles_between lo hi tiles behind)) =
      all_between (λ entry. key_cmp tile.hi entry.key ≡ Less) tiles behind (rest_len tile tiles pages len) held (rest_above tile.hi tiles (map entries_in behind) held (pairs_head IsBelow tile tiles rise)) in
      let across : Across HasLowerKey (in_order es) (flat_map (of_waiting lo hi) (tiles_between lo hi tiles behind)) =
      λ k d lt j a inside. le_less (get_or (in_order es) k d).key tile.hi (get_or (flat_map (of_waiting lo hi) (tiles_between lo hi tiles behind)) j a).key (most k d lt) (above j a inside) in
      let first = subst (λ (xs : List Entry). AllPairs HasLowerKey (xs ++ flat_map (of_waiting lo hi) (tiles_between lo hi tiles behind))) (sym (tile_is tile own (own_len tile tiles pages len)))
      (pairs_join HasLowerKey (in_order es) (flat_map (of_waiting lo hi) (tiles_between lo hi tiles behind)) here rest across) in
      by (meets lo hi tile) first rest
    where
      by : (b : Bool) → AllPairs HasLowerKey (of_waiting lo hi (waits_for tile.pages (take (length tile.pages) pages)) ++ flat_map (of_waiting lo hi) (tiles_between lo hi tiles (drop (length tile.pages) pages)))
          → AllPairs HasLowerKey (flat_map (of_waiting lo hi) (tiles_between lo hi tiles (drop (length tile.pages) pages)))
          → AllPairs HasLowerKey (flat_map (of_waiting lo hi) (cond b (waits_for tile.pages (take (length tile.pages) pages) ∷ tiles_between lo hi tiles (drop (length tile.pages) pages)) (tiles_between lo hi tiles (drop (length tile.pages) pages))))
      by true first rest = first
      by false first rest = rest

  pub between_written : (tiles : List TileLine) (pages : List (List ℕ)) → AllZip Agrees (lines_of tiles) pages → All (All IsWritten) (tiles_between lo hi tiles pages)
  between_written [] pages zip = All-nil (All IsWritten)
  between_written (tile ∷ tiles) pages zip =
      let parts = zip_parts Agrees tile.pages (lines_of tiles) pages zip in
      by (meets lo hi tile) (waits_written tile.pages (take (length tile.pages) pages) parts.0) (between_written tiles (drop (length tile.pages) pages) parts.1)
    where
      by : (b : Bool) → All IsWritten (waits_for tile.pages (take (length tile.pages) pages)) → All (All IsWritten) (tiles_between lo hi tiles (drop (length tile.pages) pages))
          → All (All IsWritten) (cond b (waits_for tile.pages (take (length tile.pages) pages) ∷ tiles_between lo hi tiles (drop (length tile.pages) pages)) (tiles_between lo hi tiles (drop (length tile.pages) pages)))
      by true here rest = All-cons (All IsWritten) (waits_for tile.pages (take (length tile.pages) pages)) (tiles_between lo hi tiles (drop (length tile.pages) pages)) here rest
      by false here rest = rest

  pub between_numbers : (tiles : List TileLine) (pages : List (List ℕ)) → length pages ≡ length (lines_of tiles)
      → flat_map (λ (tile : List Waiting). map (λ (page : Waiting). page.check.no) tile) (tiles_between lo hi tiles pages) ≡ numbers_between lo hi tiles
  between_numbers [] pages len = refl
  between_numbers (tile ∷ tiles) pages len =
      by (meets lo hi tile) (waits_numbers tile.pages (take (length tile.pages) pages) (own_len tile tiles pages len)) (between_numbers tiles (drop (length tile.pages) pages) (rest_len tile tiles pages len))
    where
      by : (b : Bool) → map (λ (page : Waiting). page.check.no) (waits_for tile.pages (take (length tile.pages) pages)) ≡ map (λ line. line.no) tile.pages
          → flat_map (λ (tile : List Waiting). map (λ (page : Waiting). page.check.no) tile) (tiles_between lo hi tiles (drop (length tile.pages) pages)) ≡ numbers_between lo hi tiles
          → flat_map (λ (tile : List Waiting). map (λ (page : Waiting). page.check.no) tile) (cond b (waits_for tile.pages (take (length tile.pages) pages) ∷ tiles_between lo hi tiles (drop (length tile.pages) pages)) (tiles_between lo hi tiles (drop (length tile.pages) pages)))
          ≡ map (λ line. line.no) (lines_of (cond b (tile ∷ filter (meets lo hi) tiles) (filter (meets lo hi) tiles)))
      by true here rest = ap (λ (ns : List ℕ). ns ++ flat_map (λ (tile : List Waiting). map (λ (page : Waiting). page.check.no) tile) (tiles_between lo hi tiles (drop (length tile.pages) pages))) here
          ∙ ap (λ (ns : List ℕ). map (λ line. line.no) tile.pages ++ ns) rest ∙ sym (map-append (λ (line : PageLine). line.no) tile.pages (lines_of (filter (meets lo hi) tiles)))
      by false here rest = rest

  -- ---- the whole file

  pub are_between : (tiles : List TileLine) (pages : List (List ℕ)) → EachFollows TileFollows tiles → length pages ≡ length (lines_of tiles) → FileAgrees tiles pages
      → AreBetween lo hi (map entries_in pages) (flat_map (of_waiting lo hi) (tiles_between lo hi tiles pages))
  are_between tiles pages each len agree =
      let left = flat_map (of_waiting lo hi) (tiles_between lo hi tiles pages) in
      let all = filter in_range (joined (map entries_in pages)) in
      let same = between_same tiles pages len agree.tiles in
      record {
        ascending = ascending_from_pairs left (between_pairs tiles pages len agree.pages agree.tiles (λ i j d lt inside. tiles_rise tiles each i j d lt inside));
        each = λ entry. (
          λ has. let both = from_filter in_range (joined (map entries_in pages)) entry (Contains-permutation left all entry (IsPermutation-sym all left same) has) in (from_joined (map entries_in pages) entry both.0, both.1),
          λ (some, inside). Contains-permutation all left entry same (in_filter in_range (joined (map entries_in pages)) entry (in_joined (map entries_in pages) entry some) inside),
        );
      }
