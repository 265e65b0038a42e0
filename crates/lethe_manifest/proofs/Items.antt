-- Reading items one behind another, and what reading all of them gives.
use Rattle.std.proofs.Common.{◌≡◌, ℕ, zero, suc, ◌+◌, ◌-◌, ◌<◌, ◌≤◌, List, [], ◌∷◌, ◌++◌, length, flat_map, All, Result, Ok, Err, refl, sym, ap, subst, ◌∙◌, append_assoc, arith, length-append}
use Rattle.std.specs.Prelude.{AllPairs}
use Rattle.std.proofs.lemmas.List.{append-nil}
use Rattle.std.proofs.lemmas.List.Elements.{All-nil, All-cons, All-tail}
use Rattle.std.proofs.lemmas.List.Kept.{AllPairs-cons}
use Rattle.lethe_base.specs.Reading.{StandsAt}
use Rattle.lethe_base.specs.Results.{◌>>=◌}
use Rattle.lethe_base.proofs.FieldLaws.{stands_then, stands_parts}
use Rattle.lethe_base.proofs.ReadingSteps.{bind_ok, ok_is}
use Rattle.lethe_manifest.specs.Numbers.{IsRefused}
use Rattle.lethe_manifest.specs.Parts.{all_at}
use Rattle.lethe_manifest.specs.declared.refused.ManifestRefused.{ManifestRefused}
use Rattle.lethe_manifest.specs.declared.refused.ManifestRefused.TheVariants.{Short, Kind, Order, Trailing, NoMemory}

-- how an item is read behind another
abbrev pub Reader : Type 0 → Type 0
Reader A = ℕ → List ℕ → ℕ → Result (A × ℕ) ManifestRefused

abbrev Read : Type 0 → Type 0
Read A = Result (List A × ℕ) ManifestRefused

-- the items that are read behind these, with these
abbrev behind : {A : Type 0} → List A → Read A → Read A
behind items read = read >>= λ rest. Ok (items ++ rest.0, rest.1)

-- these items are read up to a place, and what is read behind them makes them all
pub record IsReadTo {A : Type 0} (read : Reader A) (order : A → ℕ) (count : ℕ) (bytes : List ℕ) (start : ℕ) (items : List A) (last at : ℕ) : Type 0 where
  pub few : length items ≤ count
  pub goes_on : all_at read order count 0 bytes start ≡ behind items (all_at read order (count - length items) last bytes at)

behind_none : {A : Type 0} (read : Read A) → read ≡ behind [] read
behind_none (Ok rest) = refl
behind_none (Err why) = refl

behind_more : {A : Type 0} (items : List A) (item : A) (read : Read A) → behind items (read >>= λ rest. Ok (item ∷ rest.0, rest.1)) ≡ behind (items ++ item ∷ []) read
behind_more {A = A} items item (Ok rest) = ap (λ (l : List A). let read : Read A = Ok (l, rest.1) in read) (sym (append_assoc items (item ∷ []) rest.0))
behind_more items item (Err why) = refl

module _ {A : Type 0} (read : Reader A) (order : A → ℕ) (count : ℕ) (bytes : List ℕ) (start : ℕ) where
  pub at_first : IsReadTo read order count bytes start [] 0 start
  at_first = record {
    few = omega arith;
    goes_on =
        let all : count ≡ count - 0 = omega arith in
        behind_none (all_at read order count 0 bytes start) ∙ ap (λ (n : ℕ). behind [] (all_at read order n 0 bytes start)) all;
  }

  module _ (items : List A) (last at : ℕ) (done : IsReadTo read order count bytes start items last at) where
    -- while there are fewer items than counted, one more is read
    one_of : length items < count → (m : ℕ) × (count ≡ length items + 1 + m)
        × (all_at read order count 0 bytes start ≡ behind items (read last bytes at >>= λ first. all_at read order m (order first.0) bytes first.1 >>= λ rest. Ok (first.0 ∷ rest.0, rest.1)))
    one_of fewer =
        let m = count - length items - 1 in
        let more : count - length items ≡ suc m = omega (arith, fewer) in
        (m, omega (arith, fewer), done.goes_on ∙ ap (λ (n : ℕ). behind items (all_at read order n last bytes at)) more)

    pub one_more : (item : A) (end : ℕ) → length items < count → read last bytes at ≡ Ok (item, end) → IsReadTo read order count bytes start (items ++ item ∷ []) (order item) end
    one_more item end fewer is =
        let one = one_of fewer in
        let m = one.0 in
        let len = length-append items (item ∷ []) in
        let rest : count - length (items ++ item ∷ []) ≡ m = omega (arith, len, one.1) in
        record {
          few = omega (arith, len, fewer);
          goes_on =
              one.2
              ∙ ap (λ (r : Result (A × ℕ) ManifestRefused). behind items (r >>= λ first. all_at read order m (order first.0) bytes first.1 >>= λ rest. Ok (first.0 ∷ rest.0, rest.1))) is
              ∙ behind_more items item (all_at read order m (order item) bytes end)
              ∙ ap (λ (n : ℕ). behind (items ++ item ∷ []) (all_at read order n (order item) bytes end)) (sym rest);
        }

    -- where it can't be read, they all can't
    pub refused_there : (why : ManifestRefused) → length items < count → IsRefused why (read last bytes at) → IsRefused why (all_at read order count 0 bytes start)
    refused_there why fewer = by why
      where
        as_err : (e : ManifestRefused) → read last bytes at ≡ Err e → all_at read order count 0 bytes start ≡ Err e
        as_err e is =
            let one = one_of fewer in
            one.2 ∙ ap (λ (r : Result (A × ℕ) ManifestRefused). behind items (r >>= λ first. all_at read order one.0 (order first.0) bytes first.1 >>= λ rest. Ok (first.0 ∷ rest.0, rest.1))) is

        by : (e : ManifestRefused) → IsRefused e (read last bytes at) → IsRefused e (all_at read order count 0 bytes start)
        by (Short place) is = as_err (Short place) is
        by (Kind place) is = as_err (Kind place) is
        by (Order place) is = as_err (Order place) is
        by (Trailing place) is = as_err (Trailing place) is
        by NoMemory is = tt

    -- all that are counted are read
    pub at_last : (length items < count → ⊥) → all_at read order count 0 bytes start ≡ Ok (items, at)
    at_last none =
        let rest : count - length items ≡ 0 = omega (arith, done.few) in
        done.goes_on
        ∙ ap (λ (n : ℕ). behind items (all_at read order n last bytes at)) rest
        ∙ ap (λ (l : List A). let all : Read A = Ok (l, at) in all) (append-nil items)

-- ---- items in order

-- each is what it is to be, and the numbers by which they are ordered come one after another, behind the last one
pub record AreInOrder {A : Type 0} (IsItem : A → Type 0) (order : A → ℕ) (Before : ℕ → ℕ → Type 0) (last : ℕ) (items : List A) : Type 0 where
  pub each : All IsItem items
  pub behind : All (λ item. Before last (order item)) items
  pub ordered : AllPairs (λ a b. Before (order a) (order b)) items

module _ {A : Type 0} (IsItem : A → Type 0) (order : A → ℕ) (Before : ℕ → ℕ → Type 0) where
  pub in_order_none : (last : ℕ) → AreInOrder IsItem order Before last []
  in_order_none last = record {
    each = All-nil IsItem;
    behind = All-nil (λ item. Before last (order item));
    ordered = λ i j d lt inside. absurd (omega (arith, inside));
  }

  pub in_order_cons : ((a b c : ℕ) → Before a b → Before b c → Before a c) → (last : ℕ) (item : A) (items : List A) → IsItem item → Before last (order item) → AreInOrder IsItem order Before (order item) items → AreInOrder IsItem order Before last (item ∷ items)
  in_order_cons through last item items is after rest = record {
    each = All-cons IsItem item items is rest.each;
    behind = All-cons (λ i. Before last (order i)) item items after (λ k d lt. through last (order item) _ after (rest.behind k d lt));
    ordered = AllPairs-cons (λ a b. Before (order a) (order b)) item items rest.behind rest.ordered;
  }

  pub in_order_rest : (last : ℕ) (item : A) (items : List A) → AreInOrder IsItem order Before last (item ∷ items) → IsItem item × Before last (order item) × AreInOrder IsItem order Before (order item) items
  in_order_rest last item items all = (
    all.each 0 item (omega arith),
    all.behind 0 item (omega arith),
    record {
      each = All-tail IsItem item items all.each;
      behind = λ k d lt. all.ordered 0 (suc k) d (omega arith) (omega (arith, lt));
      ordered = λ i j d lt inside. all.ordered (suc i) (suc j) d (omega (arith, lt)) (omega (arith, inside));
    },
  )

-- ---- reading and reading again

module _ {A : Type 0} (IsItem : A → Type 0) (order : A → ℕ) (Before : ℕ → ℕ → Type 0) (spell : A → List ℕ) (read : Reader A) (bytes : List ℕ) where
  -- what is read stands there and is an item behind the number
  abbrev pub Reads : Type 0
  Reads = (last at : ℕ) (x : A × ℕ) → read last bytes at ≡ Ok x → StandsAt (spell x.0) bytes at x.1 × IsItem x.0 × Before last (order x.0)

  -- what stands there and is an item behind the number is read
  abbrev pub ReadsAgain : Type 0
  ReadsAgain = (last at end : ℕ) (item : A) → IsItem item → Before last (order item) → StandsAt (spell item) bytes at end → read last bytes at ≡ Ok (item, end)

  -- what is known of items that were read
  pub record AreRead (count last at : ℕ) (x : List A × ℕ) : Type 0 where
    pub stand : StandsAt (flat_map spell x.0) bytes at x.1
    pub items : AreInOrder IsItem order Before last x.0
    pub len : length x.0 ≡ count

  pub all_ok : ((a b c : ℕ) → Before a b → Before b c → Before a c) → Reads → (n last at : ℕ) (x : List A × ℕ) → at ≤ length bytes → all_at read order n last bytes at ≡ Ok x → AreRead n last at x
  all_ok through reads zero last at x within e =
      let none : AreRead 0 last at ([], at) = record {
        stand = record { parts = refl; ends = omega arith; within = within };
        items = in_order_none IsItem order Before last;
        len = refl;
      } in
      subst (AreRead 0 last at) (ok_is ([], at) x e) none
  all_ok through reads (suc n) last at x within e =
      let a = bind_ok (read last bytes at) (λ first. all_at read order n (order first.0) bytes first.1 >>= λ rest. Ok (first.0 ∷ rest.0, rest.1)) x e in
      let item = a.0.0 in
      let b = bind_ok (all_at read order n (order item) bytes a.0.1) (λ rest. Ok (item ∷ rest.0, rest.1)) x a.2 in
      let one = reads last at a.0 a.1 in
      let rest = all_ok through reads n (order item) a.0.1 b.0 one.0.within b.1 in
      let both : AreRead (suc n) last at (item ∷ b.0.0, b.0.1) = record {
        stand = stands_then (spell item) (flat_map spell b.0.0) bytes at a.0.1 b.0.1 one.0 rest.stand;
        items = in_order_cons IsItem order Before through last item b.0.0 one.1 one.2 rest.items;
        len = omega (arith, rest.len);
      } in
      subst (AreRead (suc n) last at) (ok_is (item ∷ b.0.0, b.0.1) x b.2) both

  pub all_again : ReadsAgain → (items : List A) (last at end : ℕ) → AreInOrder IsItem order Before last items → StandsAt (flat_map spell items) bytes at end → all_at read order (length items) last bytes at ≡ Ok (items, end)
  all_again again [] last at end each p =
      let ends : at ≡ end = omega (arith, p.ends) in
      ap (λ (n : ℕ). let read : Read A = Ok ([], n) in read) ends
  all_again again (item ∷ items) last at end each p =
      let parts = stands_parts (spell item) (flat_map spell items) bytes at end p in
      let mid = at + length (spell item) in
      let its = in_order_rest IsItem order Before last item items each in
      let first = again last at mid item its.0 its.1 parts.0 in
      let rest = all_again again items (order item) mid end its.2 parts.1 in
      ap (λ (r : Result (A × ℕ) ManifestRefused). r >>= λ first. all_at read order (length items) (order first.0) bytes first.1 >>= λ rest. Ok (first.0 ∷ rest.0, rest.1)) first
      ∙ ap (λ (r : Read A). r >>= λ rest. let read : Read A = Ok (item ∷ rest.0, rest.1) in read) rest
