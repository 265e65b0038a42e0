-- The erases that are left are those that aren't spent.
use Rattle.std.proofs.Common.{◌≡◌, ◌⊎◌, inl, inr, ℕ, ◌<◌, ◌≤◌, Bool, true, false, nat_le, if◌then◌else◌, List, [], ◌∷◌, ◌++◌, length, get_or, drop, map, filter, All, AllPairs, Contains, Option, Some, None, refl, sym, ap, ◌∙◌, subst, arith}
use Rattle.std.specs.Prelude.{filter_map}
use Rattle.std.specs.List.{cons_option}
use Rattle.std.specs.List.Sorted.{IsPartitionedBy, IsPartitionPoint}
use Rattle.std.proofs.lemmas.Bool.{cases_lt}
use Rattle.std.proofs.lemmas.List.Sorted.{IsPartitionedBy-leb}
use Rattle.std.proofs.lemmas.Bool.Decides.{nat_tests}
use Rattle.std.proofs.lemmas.List.{get_or-map, length-map}
use Rattle.std.proofs.lemmas.List.Elements.{All-append, All-cons, All-contains, All-head, All-map, All-nil, All-tail, Contains-append_cases, Contains-append_left, Contains-append_right, Contains-get_or}
use Rattle.lethe_base.specs.Layout.{Layout, File, Record, Written, Blind, Erasing, files_of, frozen_records}
use Rattle.lethe_base.specs.Matching.{IsPut}
use Rattle.lethe_base.specs.Shapes.{earlier, is_tomb}
use Rattle.lethe_base.specs.Spent.{IsShorter, IsSpent, done_upto, is_above, least, left_erases, put_place}
use Rattle.lethe_base.specs.declared.entry.Body.{Body}
use Rattle.lethe_base.specs.declared.entry.Body.TheVariants as body
use Rattle.lethe_base.specs.declared.entry.Entry.{Entry}
use Rattle.lethe_base.specs.declared.pending.Pending.{Pending}
use Rattle.lethe_base.proofs.Filters.{from_filter, in_filter, filter_parted}
use Rattle.lethe_base.proofs.LayoutLaws.{none_in}
use Rattle.lethe_base.proofs.Newest.{first_or_rest}

-- A place isn't above the least of some bounds exactly where it is above none of them.
module _ (place : ℕ) where
  abbrev IsBound : ℕ → Type 0
  IsBound bound = place ≤ bound

  pub bounded : (bounds : List ℕ) → is_above (least bounds) place ≡ false → All IsBound bounds
  bounded [] is = All-nil IsBound
  bounded (bound ∷ bounds) is = by (least bounds) is (bounded bounds)
    where
      by : (o : Option ℕ) → is_above (earlier (Some bound) o) place ≡ false → (is_above o place ≡ false → All IsBound bounds) → All IsBound (bound ∷ bounds)
      by None is rest = All-cons IsBound bound bounds (grind (arith, nat_tests)) (rest refl)
      by (Some other) is rest = All-cons IsBound bound bounds (grind (arith, nat_tests)) (rest (grind (arith, nat_tests)))

  pub not_above : (bounds : List ℕ) → All IsBound bounds → is_above (least bounds) place ≡ false
  not_above [] all = refl
  not_above (bound ∷ bounds) all = by (least bounds) (All-head IsBound bound bounds all) (not_above bounds (All-tail IsBound bound bounds all))
    where
      by : (o : Option ℕ) → place ≤ bound → is_above o place ≡ false → is_above (earlier (Some bound) o) place ≡ false
      by None here rest = grind (arith, nat_tests)
      by (Some other) here rest = grind (arith, nat_tests)

-- The places of the puts among some records.

put_first : (entry : Entry) (places : List ℕ) → IsPut entry.body → Contains (cons_option (put_place (Written entry)) places) entry.seq
put_first entry places put = by entry.body put
  where
    by : (b : Body) → IsPut b → Contains (cons_option (if is_tomb b then None else Some entry.seq) places) entry.seq
    by (body.Put dkey value) put = (0, omega arith, refl)
    by body.Tomb put = absurd put

behind : (o : Option ℕ) (places : List ℕ) (place : ℕ) → Contains places place → Contains (cons_option o places) place
behind None places place there = there
behind (Some first) places place there = Contains-append_right (first ∷ []) places place there

put_in : (records : List Record) (entry : Entry) → Contains records (Written entry) → IsPut entry.body → Contains (filter_map put_place records) entry.seq
put_in [] entry there put = absurd (none_in (Written entry) there)
put_in (r ∷ records) entry there put = by (first_or_rest r records (Written entry) there) (λ rest. put_in records entry rest put)
  where
    by : (r ≡ Written entry) ⊎ Contains records (Written entry) → (Contains records (Written entry) → Contains (filter_map put_place records) entry.seq)
        → Contains (cons_option (put_place r) (filter_map put_place records)) entry.seq
    by (inl same) later = subst (λ r. Contains (cons_option (put_place r) (filter_map put_place records)) entry.seq) (sym same) (put_first entry (filter_map put_place records) put)
    by (inr rest) later = behind (put_place r) (filter_map put_place records) entry.seq (later rest)

-- what holds of the places of all puts
all_puts : (P : ℕ → Type 0) (records : List Record) → ((entry : Entry) → Contains records (Written entry) → IsPut entry.body → P entry.seq) → All P (filter_map put_place records)
all_puts P [] each = All-nil P
all_puts P (r ∷ records) each = by r (λ entry same. each entry (0, omega arith, same)) (all_puts P records (λ entry there. each entry (Contains-append_right (r ∷ []) records (Written entry) there)))
  where
    by : (r : Record) → ((entry : Entry) → r ≡ Written entry → IsPut entry.body → P entry.seq) → All P (filter_map put_place records) → All P (cons_option (put_place r) (filter_map put_place records))
    by (Written entry) here rest = of_body entry.body (here entry refl)
      where
        of_body : (b : Body) → (IsPut b → P entry.seq) → All P (cons_option (if is_tomb b then None else Some entry.seq) (filter_map put_place records))
        of_body (body.Put dkey value) is = All-cons P entry.seq (filter_map put_place records) (is tt) rest
        of_body body.Tomb is = rest
    by (Blind at) here rest = rest
    by (Erasing erase) here rest = rest

-- An erase is spent exactly where its place isn't above the one up to which all are done.
module _ (l : Layout) (erase : Pending) where
  abbrev swept_upto : File → ℕ
  swept_upto file = file.swept

  abbrev swept : List ℕ
  swept = map swept_upto (files_of l)

  abbrev records : List Record
  records = l.active ++ frozen_records l

  abbrev puts : List ℕ
  puts = filter_map put_place records

  pub spent_upto : is_above (done_upto l) erase.seq ≡ false → IsSpent l erase
  spent_upto is =
      let bound = λ (place : ℕ) (there : Contains (swept ++ puts) place). All-contains (IsBound erase.seq) (swept ++ puts) place (bounded erase.seq (swept ++ puts) is) there in
      record {
        files = λ file there. bound file.swept (Contains-append_left swept puts file.swept
            (there.0, omega (arith, length-map (files_of l) swept_upto, there.1), get_or-map swept_upto (files_of l) there.0 file file.swept there.1 ∙ ap swept_upto there.2));
        segments = λ entry recorded put. bound entry.seq (Contains-append_right swept puts entry.seq (put_in records entry (elim recorded [
          | inl active ↦ Contains-append_left l.active (frozen_records l) (Written entry) active
          | inr frozen ↦ Contains-append_right l.active (frozen_records l) (Written entry) frozen
        ]) put));
      }

  pub upto_spent : IsSpent l erase → is_above (done_upto l) erase.seq ≡ false
  upto_spent spent = not_above erase.seq (swept ++ puts) (All-append (IsBound erase.seq) swept puts
      (All-map (IsBound erase.seq) swept_upto (files_of l) (λ k d within. spent.files (get_or (files_of l) k d) (Contains-get_or (files_of l) k d within)))
      (all_puts (IsBound erase.seq) records (λ entry there put. spent.segments entry (Contains-append_cases l.active (frozen_records l) (Written entry) there) put)))

-- where those that don't stay are spent, those that stay may stand in place of all
pub fewer_erases : (l : Layout) (stays : Pending → Bool) → ((erase : Pending) → Contains l.pending erase → stays erase ≡ false → IsSpent l erase) → IsShorter l (filter stays l.pending)
fewer_erases l stays spent = record { known = λ erase there. (from_filter stays l.pending erase there).0; spent = λ erase there. by erase there (stays erase) refl }
  where
    by : (erase : Pending) → Contains l.pending erase → (b : Bool) → stays erase ≡ b → Contains (filter stays l.pending) erase ⊎ IsSpent l erase
    by erase there true is = inl (in_filter stays l.pending erase there is)
    by erase there false is = inr (spent erase there is)

module _ (l : Layout) where
  pub left_shorter : IsShorter l (left_erases l)
  left_shorter = fewer_erases l (λ erase. is_above (done_upto l) erase.seq) (λ erase there is. spent_upto l erase is)

  pub left_unspent : (erase : Pending) → Contains (left_erases l) erase → Contains l.pending erase × (IsSpent l erase → ⊥)
  left_unspent erase there =
      let found = from_filter (λ (erase : Pending). is_above (done_upto l) erase.seq) l.pending erase there in
      (found.0, λ spent. absurd (let clash : false ≡ true = sym (upto_spent l erase spent) ∙ found.1 in cc))

  pub unspent_left : (erase : Pending) → Contains l.pending erase × (IsSpent l erase → ⊥) → Contains (left_erases l) erase
  unspent_left erase is = elim (left_shorter.spent erase is.0) [
    | inl there ↦ there
    | inr spent ↦ absurd (is.1 spent)
  ]

-- Of erases in the order of their places, those above a place come last.

abbrev pub is_upto : ℕ → Pending → Bool
is_upto done erase = nat_le erase.seq done

pub parted_by_place : (erases : List Pending) (done : ℕ) → AllPairs (λ erase later. erase.seq < later.seq) erases → IsPartitionedBy (is_upto done) erases
parted_by_place erases done rise = IsPartitionedBy-leb (λ (erase : Pending). erase.seq) erases done (λ i j d le within. by i j d within (cases_lt i j) le)
  where
    by : (i j : ℕ) (d : Pending) → j < length erases → (i < j) ⊎ (j ≤ i) → i ≤ j → (get_or erases i d).seq ≤ (get_or erases j d).seq
    by i j d within (inl less) le = let up = rise i j d less within in omega (arith, up)
    by i j d within (inr not_less) le = let same : i ≡ j = omega arith in omega (arith, ap (λ k. (get_or erases k d).seq) same)

pub above_are_last : (erases : List Pending) (done at : ℕ) → IsPartitionPoint (λ erase. is_upto done erase ≡ true) (λ erase. is_upto done erase ≡ false) erases at
    → filter (λ erase. is_above (Some done) erase.seq) erases ≡ drop at erases
above_are_last erases done at point = filter_parted (λ (erase : Pending). is_above (Some done) erase.seq) erases at
    (λ k d from within. let is = point.0 k d from within in grind (arith, nat_tests)) (λ k d from within. let is = point.1 k d from within in grind (arith, nat_tests))
