-- A cursor that fetches its next tile, and one that is made.
use Rattle.std.proofs.Common.{◌≡◌, ℕ, ◌+◌, ◌-◌, ◌<◌, ◌≤◌, List, [], ◌∷◌, ◌++◌, length, take, map, All, Option, Some, reverse, refl, sym, ap, subst, ◌∙◌, arith, append_assoc, length-append}
use Rattle.std.specs.Prelude.{Any, flat_map, slice_get}
use Rattle.std.proofs.lemmas.List.{append-nil, length-map, map-append, reverse-append, reverse-reverse, take_all, take_more}
use Rattle.std.proofs.lemmas.Option.{get_or_from_slice_get, slice_get_within}
use Rattle.std.proofs.lemmas.List.Elements.{All-head}
use Rattle.std.proofs.lemmas.List.Sorted.{All-permutation, IsPermutation-reverse}
use Rattle.lethe_base.specs.Entries.{IsAscending}
use Rattle.lethe_base.specs.Keys.{Bytes}
use Rattle.lethe_base.specs.declared.entry.Entry.{Entry}
use Rattle.lethe_base.specs.declared.name.Name.{Name}
use Rattle.lethe_header.specs.Facts.{lines_of}
use Rattle.lethe_header.specs.Headers.{EachFollows, TileFollows}
use Rattle.lethe_header.specs.declared.header.TileLine.{TileLine}
use Rattle.lethe_header.proofs.Orders.{HasLowerKey, all_left, all_right, ascending_from_pairs, pairs_append, pairs_from_ascending}
use Rattle.lethe_file.specs.Agreement.{FileAgrees, entries_in}
use Rattle.lethe_file.specs.Between.{AreBetween, numbers_between}
use Rattle.lethe_file.specs.Damage.{IsDamagedAmong, IsDamagedIn, IsVouched, IsVouchedIn}
use Rattle.lethe_file.specs.Waiting.{IsSound, IsWritten, Waiting, awaited, left_of, of_waiting, tiles_between, waiting, waits_in}
use Rattle.lethe_file.specs.declared.holding.HeldPage.{HeldPage}
use Rattle.lethe_file.proofs.Damaged.{any_first, any_left, any_right, between_damage, any_reverse}
use Rattle.lethe_file.proofs.Ranges.{are_between, between_numbers, between_written}
use Rattle.lethe_file.proofs.Vouching.{between_vouch}

-- ---- a cursor that is made

module _ (lo : Bytes) (hi : Option Bytes) (tiles : List TileLine) (pages : List (List ℕ)) (waits : List (List Waiting)) (entries : List Entry) (none : entries ≡ []) (waits_are : reverse waits ≡ tiles_between lo hi tiles pages) where
  left_is : left_of lo hi waits entries ≡ flat_map (of_waiting lo hi) (tiles_between lo hi tiles pages)
  left_is = ap (λ (es : List Entry). reverse es ++ flat_map (of_waiting lo hi) (reverse waits)) none ∙ ap (flat_map (of_waiting lo hi)) waits_are

  pub made_between : EachFollows TileFollows tiles → length pages ≡ length (lines_of tiles) → FileAgrees tiles pages → AreBetween lo hi (map entries_in pages) (left_of lo hi waits entries)
  made_between each len agree = subst (AreBetween lo hi (map entries_in pages)) (sym left_is) (are_between lo hi tiles pages each len agree)

  pub made_sound : (tells : Type 0) → tells → EachFollows TileFollows tiles → length pages ≡ length (lines_of tiles) → FileAgrees tiles pages → IsSound tells lo hi waits entries
  made_sound tells told each len agree = record {
    told = told;
    pages = let written : All (All IsWritten) (reverse waits) = subst (All (All IsWritten)) (sym waits_are) (between_written lo hi tiles pages agree.pages) in
        subst (All (All IsWritten)) (reverse-reverse waits) (All-permutation (All IsWritten) (reverse waits) (reverse (reverse waits)) (IsPermutation-reverse (reverse waits)) written);
    ascending = (made_between each len agree).ascending;
  }

  pub made_numbers : length pages ≡ length (lines_of tiles) → awaited waits ≡ numbers_between lo hi tiles
  made_numbers len = ap (flat_map (λ (tile : List Waiting). map (λ (page : Waiting). page.check.no) tile)) waits_are ∙ between_numbers lo hi tiles pages len

  pub made_damage : (tells : Type 0) (name : Name) → Any (Any (IsDamagedIn tells name)) waits → IsDamagedAmong tells (lines_of tiles) pages name
  made_damage tells name some =
      between_damage tells name lo hi tiles pages (subst (λ (ts : List (List Waiting)). Any (Any (IsDamagedIn tells name)) ts) waits_are (any_reverse (Any (IsDamagedIn tells name)) waits some))

  pub made_vouched : (entry : Entry) → Any (Any (IsVouchedIn entry)) waits → IsVouched (lines_of tiles) entry
  made_vouched entry some =
      between_vouch entry lo hi tiles pages (subst (λ (ts : List (List Waiting)). Any (Any (IsVouchedIn entry)) ts) waits_are (any_reverse (Any (IsVouchedIn entry)) waits some))

-- ---- a cursor that fetches

-- the pages of these numbers were fetched since, and what is left is the same
pub record IsFilling (tells : Type 0) (lo : Bytes) (hi : Option Bytes) (old : List (List Waiting)) (old_entries : List Entry) (tiles : List (List Waiting)) (entries : List Entry) (old_fetches fetches old_faults faults : ℕ) : Type 0 where
  pub risen : old_faults ≤ faults
  pub fetched : List ℕ
  pub names : fetched ++ awaited tiles ≡ awaited old
  pub counted : fetches ≡ old_fetches + length fetched
  pub left : IsSound tells lo hi old old_entries → left_of lo hi tiles entries ≡ left_of lo hi old old_entries
  pub sound : IsSound tells lo hi old old_entries → IsSound tells lo hi tiles entries
  pub done : List (List Waiting)
  pub parts : tiles ++ done ≡ old

pub filling_none : (tells : Type 0) (lo : Bytes) (hi : Option Bytes) (tiles : List (List Waiting)) (entries : List Entry) (fetches faults : ℕ)
    → IsFilling tells lo hi tiles entries tiles entries fetches fetches faults faults
filling_none tells lo hi tiles entries fetches faults = record { risen = omega arith; fetched = []; names = refl; counted = omega arith; left = λ s. refl; sound = λ s. s; done = []; parts = append-nil tiles }

numbers : List Waiting → List ℕ
numbers tile = map (λ (page : Waiting). page.check.no) tile

-- the tiles up to the last one, which is the next
pub awaited_last : (rest : List (List Waiting)) (tile : List Waiting) → awaited (rest ++ tile ∷ []) ≡ map (λ (page : Waiting). page.check.no) tile ++ awaited rest
awaited_last rest tile = ap (flat_map (λ (tile : List Waiting). map (λ (page : Waiting). page.check.no) tile)) (reverse-append rest (tile ∷ []))

left_last : (lo : Bytes) (hi : Option Bytes) (rest : List (List Waiting)) (tile : List Waiting) → left_of lo hi (rest ++ tile ∷ []) [] ≡ of_waiting lo hi tile ++ flat_map (of_waiting lo hi) (reverse rest)
left_last lo hi rest tile = ap (flat_map (of_waiting lo hi)) (reverse-append rest (tile ∷ []))

-- the next tile of a sound cursor ascends, and its pages are those that were written
pub next_ascends : (tells : Type 0) (lo : Bytes) (hi : Option Bytes) (tiles rest : List (List Waiting)) (entries : List Entry) (tile : List Waiting) → tiles ≡ rest ++ tile ∷ [] → entries ≡ [] → IsSound tells lo hi tiles entries → IsAscending (of_waiting lo hi tile)
next_ascends tells lo hi tiles rest entries tile tiles_are none sound =
    let up : IsAscending (of_waiting lo hi tile ++ flat_map (of_waiting lo hi) (reverse rest)) = subst IsAscending (ap (λ (es : List Entry). left_of lo hi tiles es) none ∙ ap (λ (ts : List (List Waiting)). left_of lo hi ts []) tiles_are ∙ left_last lo hi rest tile) sound.ascending in
    ascending_from_pairs (of_waiting lo hi tile) (pairs_append HasLowerKey (of_waiting lo hi tile) (flat_map (of_waiting lo hi) (reverse rest)) (pairs_from_ascending (of_waiting lo hi tile ++ flat_map (of_waiting lo hi) (reverse rest)) up)).0

pub next_written : (tells : Type 0) (lo : Bytes) (hi : Option Bytes) (tiles rest : List (List Waiting)) (entries : List Entry) (tile : List Waiting) → tiles ≡ rest ++ tile ∷ [] → IsSound tells lo hi tiles entries → All IsWritten tile
next_written tells lo hi tiles rest entries tile tiles_are sound = All-head (All IsWritten) tile [] (all_right (All IsWritten) rest (tile ∷ []) (subst (All (All IsWritten)) tiles_are sound.pages))

pub filling_more : (tells : Type 0) (lo : Bytes) (hi : Option Bytes) (old : List (List Waiting)) (old_entries : List Entry) (tiles rest : List (List Waiting)) (entries new : List Entry) (tile : List Waiting) (f0 f1 f2 p0 p1 p2 : ℕ)
    → IsFilling tells lo hi old old_entries tiles entries f0 f1 p0 p1 → tiles ≡ rest ++ tile ∷ [] → entries ≡ [] → f2 ≡ f1 + length tile → p1 ≤ p2 → (tells → IsAscending (of_waiting lo hi tile) → reverse new ≡ of_waiting lo hi tile)
    → IsFilling tells lo hi old old_entries rest new f0 f2 p0 p2
filling_more tells lo hi old old_entries tiles rest entries new tile f0 f1 f2 p0 p1 p2 before tiles_are none fetched risen given =
    let ns : List ℕ = map (λ (page : Waiting). page.check.no) tile in
    let same : IsSound tells lo hi old old_entries → left_of lo hi rest new ≡ left_of lo hi tiles entries = λ s.
    let now = before.sound s in
    ap (λ (es : List Entry). es ++ flat_map (of_waiting lo hi) (reverse rest)) (given now.told (next_ascends tells lo hi tiles rest entries tile tiles_are none now))
    ∙ sym (ap (λ (es : List Entry). left_of lo hi tiles es) none ∙ ap (λ (ts : List (List Waiting)). left_of lo hi ts []) tiles_are ∙ left_last lo hi rest tile) in
    record {
      risen = omega (arith, before.risen, risen);
      fetched = before.fetched ++ ns;
      names = append_assoc before.fetched ns (awaited rest) ∙ ap (λ (xs : List ℕ). before.fetched ++ xs) (sym (ap awaited tiles_are ∙ awaited_last rest tile)) ∙ before.names;
      counted = omega (arith, before.counted, fetched, length-append before.fetched ns, length-map tile (λ (page : Waiting). page.check.no));
      left = λ s. same s ∙ before.left s;
      sound = λ s. record {
        told = s.told;
        pages = all_left (All IsWritten) rest (tile ∷ []) (subst (All (All IsWritten)) tiles_are (before.sound s).pages);
        ascending = subst IsAscending (sym (same s)) (before.sound s).ascending;
      };
      done = tile ∷ before.done;
      parts = sym (append_assoc rest (tile ∷ []) before.done) ∙ ap (λ (ts : List (List Waiting)). ts ++ before.done) (sym tiles_are) ∙ before.parts;
    }

-- a page that is still waited for was waited for at first
pub filling_fewer : {tells : Type 0} {lo : Bytes} {hi : Option Bytes} {old : List (List Waiting)} {old_entries : List Entry} {tiles : List (List Waiting)} {entries : List Entry} {f0 f1 p0 p1 : ℕ}
    → IsFilling tells lo hi old old_entries tiles entries f0 f1 p0 p1 → (Q : List Waiting → Type 0) → Any Q tiles → Any Q old
filling_fewer {tiles = tiles} now Q some = subst (λ (ts : List (List Waiting)). Any Q ts) now.parts (any_left Q tiles now.done some)

-- the last of the tiles that are held
pub last_tile : {P : Type 0} (bytes_of : P → List ℕ) (tiles : List (List (HeldPage P))) (tile : List (HeldPage P)) → slice_get tiles (length tiles - 1) ≡ Some tile → waiting bytes_of tiles ≡ waiting bytes_of (take (length tiles - 1) tiles) ++ waits_in bytes_of tile ∷ []
last_tile {P} bytes_of tiles tile at =
    let n = length tiles - 1 in
    let lt : n < length tiles = slice_get_within tiles n tile at in
    let all : tiles ≡ take n tiles ++ tile ∷ [] =
    sym (take_all (n + 1) tiles (omega (arith, lt))) ∙ take_more tiles n tile lt ∙ ap (λ (t : List (HeldPage P)). take n tiles ++ t ∷ []) (get_or_from_slice_get tiles n tile tile at) in
    ap (waiting bytes_of) all ∙ map-append (waits_in bytes_of) (take n tiles) (tile ∷ [])

-- one turn of the loop, over what is held
module _ {P : Type 0} (bytes_of : P → List ℕ) (tells : Type 0) (lo : Bytes) (hi : Option Bytes) (old : List (List Waiting)) (old_entries : List Entry) (tiles : List (List (HeldPage P))) (entries : List Entry) (f0 f1 p0 p1 : ℕ)
    (before : IsFilling tells lo hi old old_entries (waiting bytes_of tiles) entries f0 f1 p0 p1) (tile : List (HeldPage P)) (at : Some tile ≡ slice_get tiles (length tiles - 1)) where
  pub turn : (new_tiles : List (List (HeldPage P))) (new : List Entry) (f2 p2 : ℕ) → new_tiles ≡ take (length tiles - 1) tiles → entries ≡ [] → f2 ≡ f1 + length tile → p1 ≤ p2
      → (tells → IsAscending (of_waiting lo hi (waits_in bytes_of tile)) → reverse new ≡ of_waiting lo hi (waits_in bytes_of tile)) → IsFilling tells lo hi old old_entries (waiting bytes_of new_tiles) new f0 f2 p0 p2
  turn new_tiles new f2 p2 popped none fetched risen given =
      let wait : HeldPage P → Waiting = λ h. record { check = h.check; bytes = bytes_of h.page.value } in
      let parted = last_tile bytes_of tiles tile (sym at) ∙ ap (λ (ts : List (List (HeldPage P))). waiting bytes_of ts ++ waits_in bytes_of tile ∷ []) (sym popped) in
      let count : f2 ≡ f1 + length (waits_in bytes_of tile) = omega (arith, fetched, length-map tile wait) in
      filling_more tells lo hi old old_entries (waiting bytes_of tiles) (waiting bytes_of new_tiles) entries new (waits_in bytes_of tile) f0 f1 f2 p0 p1 p2 before parted none count risen given

  parted_names : map (λ (page : Waiting). page.check.no) (waits_in bytes_of tile) ++ awaited (waiting bytes_of (take (length tiles - 1) tiles)) ≡ awaited (waiting bytes_of tiles)
  parted_names = sym (ap awaited (last_tile bytes_of tiles tile (sym at)) ∙ awaited_last (waiting bytes_of (take (length tiles - 1) tiles)) (waits_in bytes_of tile))

  -- the pages of this tile are among those that were awaited at first
  pub refused_at_most : (f2 : ℕ) → f2 ≤ f1 + length tile → f2 ≤ f0 + length (awaited old)
  refused_at_most f2 few =
      let wait : HeldPage P → Waiting = λ h. record { check = h.check; bytes = bytes_of h.page.value } in
      let ns : List ℕ = map (λ (page : Waiting). page.check.no) (waits_in bytes_of tile) in
      let all = sym (ap length before.names) ∙ length-append before.fetched (awaited (waiting bytes_of tiles)) in
      let here = sym (ap length parted_names) ∙ length-append ns (awaited (waiting bytes_of (take (length tiles - 1) tiles))) in
      omega (arith, few, before.counted, all, here, length-map (waits_in bytes_of tile) (λ (page : Waiting). page.check.no), length-map tile wait)

  pub refused_damage : (Q : Waiting → Type 0) → Any Q (waits_in bytes_of tile) → Any (Any Q) old
  refused_damage Q some =
      let rest = waiting bytes_of (take (length tiles - 1) tiles) in
      let last = any_right (Any Q) rest (waits_in bytes_of tile ∷ []) (any_first (Any Q) (waits_in bytes_of tile) [] some) in
      filling_fewer before (Any Q) (subst (λ (ts : List (List Waiting)). Any (Any Q) ts) (sym (last_tile bytes_of tiles tile (sym at))) last)

  pub refused_written : IsSound tells lo hi old old_entries → All IsWritten (waits_in bytes_of tile)
  refused_written sound =
      next_written tells lo hi (waiting bytes_of tiles) (waiting bytes_of (take (length tiles - 1) tiles)) entries (waits_in bytes_of tile) (last_tile bytes_of tiles tile (sym at)) (before.sound sound)
