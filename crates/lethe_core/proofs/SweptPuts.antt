-- The puts of the new pages that a sweep makes are puts of its file.
use Rattle.std.proofs.Common.{◌≡◌, inl, inr, ℕ, Bool, true, false, ◌||◌, cond, List, [], ◌∷◌, get_or, length, map, All, Contains, Option, Some, None, refl, sym, ap, ◌∙◌, subst}
use Rattle.std.specs.Prelude.{filter, filter_map, flat_map, not, zip}
use Rattle.std.specs.List.{AllZip, cons_option}
use Rattle.std.proofs.lemmas.Bool.{cases_lt}
use Rattle.std.proofs.lemmas.List.{get_or_past}
use Rattle.std.proofs.lemmas.List.Elements.{All-append, All-cons, All-contains, All-nil, Contains-get_or}
use Rattle.std.proofs.lemmas.List.Sorted.{Contains-permutation, IsPermutation-sym}
use Rattle.lethe_base.specs.Matching.{IsPut}
use Rattle.lethe_base.specs.Shapes.{is_tomb}
use Rattle.lethe_base.specs.declared.entry.Body.{Body}
use Rattle.lethe_base.specs.declared.entry.Body.TheVariants.{Put, Tomb}
use Rattle.lethe_base.specs.declared.entry.Entry.{Entry}
use Rattle.lethe_base.specs.declared.pending.Pending.{Pending}
use Rattle.lethe_cover.specs.Merged.{body_under, struck}
use Rattle.lethe_cover.specs.Sweeps.{is_matched, swept_of}
use Rattle.lethe_cover.proofs.Common.{⊎_elim, none_in, first_is, first_or_rest}
use Rattle.lethe_cover.proofs.Lists.{all_from, flat_from, flat_in, in_rest, map_from}
use Rattle.lethe_header.specs.Headers.{is_puts}
use Rattle.lethe_header.specs.declared.header.TileLine.{TileLine}
use Rattle.lethe_stored.proofs.Leveled.{from_filter}
use Rattle.lethe_job.specs.Fences.{is_met, meets}
use Rattle.lethe_job.specs.Sweeping.{AreTombs, IsSweptBy, IsSweptTile, entries_of, left_in, left_of}
use Rattle.lethe_swept.specs.Left.{Placed, bounded, by_tile, entries_at, fresh, fresh_in, fresh_of, has_parts, parts_in}
use Rattle.lethe_swept.specs.declared.part.Part.{Part}
use Rattle.lethe_swept.specs.declared.part.Part.TheVariants.{Kept, Fresh}
use Rattle.lethe_swept.specs.declared.part.SweptFile.{SweptFile}
use Rattle.lethe_swept.specs.declared.part.SweptTile.{SweptTile}
use Rattle.lethe_tile.specs.Woven.{joined, puts_of, tombs_of}

-- Lists

module _ {X Y : Type 0} where
  pub kept_from : (h : X → Option Y) (xs : List X) (y : Y) → Contains (filter_map h xs) y → (x : X) × Contains xs x × (h x ≡ Some y)
  kept_from h [] y there = absurd (none_in y there)
  kept_from h (x ∷ xs) y there = by (λ rest. let found = kept_from h xs y rest in (found.0, in_rest x xs found.0 found.1, found.2)) (h x) refl there
    where
      by : (Contains (filter_map h xs) y → (x' : X) × Contains (x ∷ xs) x' × (h x' ≡ Some y)) → (o : Option Y) → h x ≡ o
          → Contains (cons_option o (filter_map h xs)) y → (x' : X) × Contains (x ∷ xs) x' × (h x' ≡ Some y)
      by more None is rest = more rest
      by more (Some first) is rest = ⊎_elim (λ (same : first ≡ y). (x, first_is x xs x refl, is ∙ ap (λ z. Some z) same)) more (first_or_rest first (filter_map h xs) y rest)

  all_flat : (P : Y → Type 0) (f : X → List Y) (xs : List X) → ((x : X) → All P (f x)) → All P (flat_map f xs)
  all_flat P f xs each = all_from P (flat_map f xs) (λ y there. let found = flat_from f xs y there in All-contains P (f found.0) y (each found.0) found.2)

  zip_second : (xs : List X) (ys : List Y) (pair : X × Y) → Contains (zip xs ys) pair → Contains ys pair.1
  zip_second [] ys pair there = absurd (none_in pair there)
  zip_second (x ∷ xs) [] pair there = absurd (none_in pair there)
  zip_second (x ∷ xs) (y ∷ ys) pair there = ⊎_elim
      (λ same. first_is y ys pair.1 (ap (λ (p : X × Y). p.1) same))
      (λ rest. in_rest y ys pair.1 (zip_second xs ys pair rest))
      (first_or_rest (x, y) (zip xs ys) pair there)

  -- of two lists that agree one by one: one on the left that agrees with a right one, and one on the right that agrees with a left one
  left_agrees : (R : X → Y → Type 0) (xs : List X) (ys : List Y) (y : Y) → AllZip R xs ys → Contains ys y → (x : X) × R x y
  left_agrees R [] [] y zipped there = absurd (none_in y there)
  left_agrees R [] (first ∷ ys) y zipped there = absurd zipped
  left_agrees R (x ∷ xs) [] y zipped there = absurd zipped
  left_agrees R (x ∷ xs) (first ∷ ys) y zipped there = ⊎_elim
      (λ (same : first ≡ y). (x, subst (R x) same zipped.0))
      (λ rest. left_agrees R xs ys y zipped.1 rest)
      (first_or_rest first ys y there)

  pub right_agrees : (R : X → Y → Type 0) (xs : List X) (ys : List Y) (x : X) → AllZip R xs ys → Contains xs x → (y : Y) × R x y
  right_agrees R [] [] x zipped there = absurd (none_in x there)
  right_agrees R [] (y ∷ ys) x zipped there = absurd zipped
  right_agrees R (first ∷ xs) [] x zipped there = absurd zipped
  right_agrees R (first ∷ xs) (y ∷ ys) x zipped there = ⊎_elim
      (λ (same : first ≡ x). (y, subst (λ (z : X). R z y) same zipped.0))
      (λ rest. right_agrees R xs ys x zipped.1 rest)
      (first_or_rest first xs x there)

-- An entry that stays a put is as it was

put_stays : (alone : Bool) (erase : Pending) (entry output : Entry) → swept_of alone erase entry ≡ Some output → IsPut output.body → entry ≡ output
put_stays alone erase entry output is put = by (is_matched erase entry.seq entry.body) alone refl is
  where
    struck_down : (body : Body) → is_matched erase entry.seq body ≡ true → IsPut (body_under (erase ∷ []) entry.seq body) → ⊥
    struck_down (Put dkey value) matched kept = subst (λ (b : Bool). IsPut (cond (b || false) Tomb (Put dkey value))) matched kept
    struck_down Tomb matched kept = kept

    by : (matched bare : Bool) → is_matched erase entry.seq entry.body ≡ matched
        → cond matched (cond bare None (Some (struck (erase ∷ []) entry))) (Some entry) ≡ Some output → entry ≡ output
    by true true matched made = absurd (let clash : None ≡ Some output = made in cc)
    by true false matched made =
        let same : struck (erase ∷ []) entry ≡ output = cc in
        absurd (struck_down entry.body matched (subst (λ (e : Entry). IsPut e.body) (sym same) put))
    by false bare matched made = cc

tomb_is_no_put : (body : Body) → is_tomb body ≡ true → IsPut body → ⊥
tomb_is_no_put (Put dkey value) tomb put = absurd (let clash : false ≡ true = tomb in cc)
tomb_is_no_put Tomb tomb put = put

module _ (erase : Pending) (pages : List (List Entry)) where
  -- each put is one of the pages
  abbrev pub ArePutsOf : Part → Type 0
  ArePutsOf (Kept place) = Unit {0}
  ArePutsOf (Fresh entries) = All (λ entry. IsPut entry.body → Contains (joined pages) entry) entries

  fresh_puts : (entries : List Entry) → All (λ entry. IsPut entry.body → Contains (joined pages) entry) entries → All ArePutsOf (fresh entries)
  fresh_puts [] each = All-nil ArePutsOf
  fresh_puts (entry ∷ entries) each = All-cons ArePutsOf (Fresh (entry ∷ entries)) [] each (All-nil ArePutsOf)

  at_place : (place : ℕ) (entry : Entry) → Contains (entries_at pages place) entry → Contains (joined pages) entry
  at_place place entry there = elim (cases_lt place (length pages)) [
    | inl within ↦ flat_in (λ (page : List Entry). page) pages (get_or pages place []) entry (Contains-get_or pages place [] within) there
    | inr past ↦ absurd (none_in entry (subst (λ (page : List Entry). Contains page entry) (get_or_past pages place [] past) there))
  ]

  page_puts : (alone : Bool) (page : Placed) → All ArePutsOf (left_of alone erase pages page)
  page_puts alone page = by (meets erase.range page.line)
    where
      own : List Entry
      own = puts_of (left_in alone erase (entries_at pages page.place))

      each : All (λ (entry : Entry). IsPut entry.body → Contains (joined pages) entry) own
      each = all_from (λ (entry : Entry). IsPut entry.body → Contains (joined pages) entry) own (λ output there put.
          let left = (from_filter (λ (e : Entry). not (is_tomb e.body)) (left_in alone erase (entries_at pages page.place)) output there).0 in
          let from = kept_from (swept_of alone erase) (entries_at pages page.place) output left in
          subst (Contains (joined pages)) (put_stays alone erase from.0 output from.2 put) (at_place page.place from.0 from.1))

      by : (b : Bool) → All ArePutsOf (cond b (fresh own) (Kept page.place ∷ []))
      by true = fresh_puts own each
      by false = All-cons ArePutsOf (Kept page.place) [] tt (All-nil ArePutsOf)

  tombs_puts : (entries tombs : List Entry) → AreTombs erase entries tombs → All ArePutsOf (fresh tombs)
  tombs_puts entries tombs are =
      let left = left_in false erase entries in
      fresh_puts tombs (all_from (λ (entry : Entry). IsPut entry.body → Contains (joined pages) entry) tombs (λ entry there put.
      let among = Contains-permutation tombs (tombs_of left) entry (IsPermutation-sym (tombs_of left) tombs are.same) there in
      absurd (tomb_is_no_put entry.body (from_filter (λ (e : Entry). is_tomb e.body) left entry among).1 put)))

  none_met : (tile : List Placed) → is_met erase.range (map (λ (page : Placed). page.line) tile) ≡ false → All (λ page. meets erase.range page.line ≡ false) tile
  none_met [] none = All-nil (λ (page : Placed). meets erase.range page.line ≡ false)
  none_met (page ∷ tile) none = by (none_met tile) (meets erase.range page.line) refl none
    where
      by : (is_met erase.range (map (λ (other : Placed). other.line) tile) ≡ false → All (λ page. meets erase.range page.line ≡ false) tile) → (b : Bool)
          → meets erase.range page.line ≡ b → (b || is_met erase.range (map (λ (other : Placed). other.line) tile)) ≡ false
          → All (λ page. meets erase.range page.line ≡ false) (page ∷ tile)
      by rest true is some = absurd (let clash : true ≡ false = some in cc)
      by rest false is some = All-cons (λ (other : Placed). meets erase.range other.line ≡ false) page tile is (rest some)

  tile_puts : (alone : Bool) (tile : List Placed) (parts : List Part) → IsSweptTile alone erase pages tile parts → All ArePutsOf parts
  tile_puts true tile parts is = subst (All ArePutsOf) (sym (is.alone_left refl)) (all_flat ArePutsOf (left_of true erase pages) tile (page_puts true))
  tile_puts false tile parts is = by (is_met erase.range (map (λ (page : Placed). page.line) tile)) refl
    where
      by : (b : Bool) → is_met erase.range (map (λ (page : Placed). page.line) tile) ≡ b → All ArePutsOf parts
      by true met =
          let left = is.left refl met in
          let puts = filter (λ (page : Placed). is_puts page.line.class) tile in
          let tombs = tombs_puts (entries_of pages tile) left.tombs left.are in
          let rest = all_flat ArePutsOf (left_of false erase pages) puts (page_puts false) in
          subst (All ArePutsOf) (sym left.parts_are) (All-append ArePutsOf (fresh left.tombs) (flat_map (left_of false erase pages) puts) tombs rest)
      by false none = subst (All ArePutsOf) (sym (is.whole (none_met tile none)))
          (all_from ArePutsOf (map (λ (page : Placed). Kept page.place) tile) (λ part there.
          let from = map_from (λ (page : Placed). Kept page.place) tile part there in subst ArePutsOf from.2 tt))

  module _ (alone : Bool) (tiles : List TileLine) (swept : SweptFile) (is : IsSweptBy alone erase tiles pages swept) where
    part_puts : (part : Part) → Contains (parts_in swept) part → ArePutsOf part
    part_puts part there =
        let tile = flat_from (λ (tile : SweptTile). tile.parts) swept.tiles part there in
        let left = subst (λ (tiles : List SweptTile). Contains tiles tile.0) is.tiles_are tile.1 in
        let bounds = map_from bounded (zip tiles is.parts) tile.0 (from_filter (λ (tile : SweptTile). has_parts tile.parts) (map bounded (zip tiles is.parts)) tile.0 left).0 in
        let parts = zip_second tiles is.parts bounds.0 bounds.1 in
        let from = left_agrees (IsSweptTile alone erase pages) (by_tile 0 tiles) is.parts (bounds.0).1 is.each parts in
        let same : (bounds.0).1 ≡ (tile.0).parts = ap (λ (tile : SweptTile). tile.parts) bounds.2 in
        All-contains ArePutsOf (tile.0).parts part (subst (All ArePutsOf) same (tile_puts alone from.0 (bounds.0).1 from.1)) tile.2

    -- each put of a new page is one of the pages
    pub new_puts : (entries : List Entry) → Contains (fresh_in swept) entries → All (λ entry. IsPut entry.body → Contains (joined pages) entry) entries
    new_puts entries there =
        let from = kept_from fresh_of (parts_in swept) entries there in
        by from.0 from.2 (part_puts from.0 from.1)
      where
        by : (part : Part) → fresh_of part ≡ Some entries → ArePutsOf part → All (λ (entry : Entry). IsPut entry.body → Contains (joined pages) entry) entries
        by (Kept place) is puts = absurd (let clash : None ≡ Some entries = is in cc)
        by (Fresh own) is puts = let same : own ≡ entries = cc in subst (All (λ (entry : Entry). IsPut entry.body → Contains (joined pages) entry)) same puts
