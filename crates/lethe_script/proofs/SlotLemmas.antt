-- What is held behind lines and orders.
use Rattle.std.proofs.Common.{◌≡◌, ◌≢◌, ℕ, ◌+◌, ◌-◌, ◌<◌, ◌≤◌, Bool, true, false, List, [], ◌∷◌, ◌++◌, length, take, set, Option, Some, None, option_map, option_and_then, ok_or, IsSome, Ok, inl, inr, refl, sym, ap, ◌∙◌, subst, arith}
use Rattle.std.specs.List.{All, filter_map, flat_map, cons_option}
use Rattle.std.specs.Str.Lines.{strip_carriage_return}
use Rattle.std.proofs.lemmas.Bool.{cases_lt, eq-eqb, ne_eqb}
use Rattle.std.proofs.lemmas.Bool.Decides.{eqb_tells}
use Rattle.std.proofs.lemmas.List.Elements.{All-head, All-tail}
use Rattle.std.proofs.lemmas.List.{get_or-set_same, get_or-set_other, get_or-replicate, get_or_past, length-set}
use Rattle.lethe_base.specs.Keys.{Bytes}
use Rattle.lethe_base.proofs.ReadingSteps.{bind_ok, ok_is}
use Rattle.lethe_script.specs.declared.order.Item.{Item}
use Rattle.lethe_script.specs.declared.order.Item.TheVariants as item
use Rattle.lethe_script.specs.declared.order.Order.{Order}
use Rattle.lethe_script.specs.Slots.{Held, HeldByAll, none_held, none_held_by_all, held_behind, held_by, held_through, all_held_behind, orders_by, AreSlotted}
use Rattle.lethe_script.specs.Grammar.{lines, item_of, slots_behind, items_from, order_in, phases_of}
use Rattle.lethe_script.specs.Reading.{phases_read}
use Rattle.lethe_script.proofs.Callers.{IsOfCaller, line_called}
use Rattle.lethe_script.proofs.Lines.{line_kept}
use Rattle.lethe_script.proofs.Phases.{orders_flat}

from_ok_or : {A E : Type 0} (o : Option A) (why : E) (a : A) → ok_or o why ≡ Ok a → o ≡ Some a
from_ok_or None why a e = absurd cc
from_ok_or (Some x) why a e = cc

from_map : {A B : Type 0} (f : A → B) (o : Option A) (b : B) → option_map f o ≡ Some b → (a : A) × (o ≡ Some a) × (f a ≡ b)
from_map f None b e = absurd cc
from_map f (Some a) b e = (a, refl, cc)

-- What an order leaves as it was

module _ (order : Order) (is_of : IsOfCaller order) (held : HeldByAll) (eight : length held ≡ 8) where
  within : order.caller - 1 < length held
  within = omega (arith, is_of.from_one, is_of.to_eight, eight)

  module _ (own : Held) where
    own_behind : held_by order.caller (set held (order.caller - 1) own) ≡ own
    own_behind = get_or-set_same held (order.caller - 1) own none_held within

    other_behind : (caller : ℕ) → 1 ≤ caller → caller ≢ order.caller → held_by caller (set held (order.caller - 1) own) ≡ held_by caller held
    other_behind caller some other = get_or-set_other held (order.caller - 1) (caller - 1) own none_held (λ e. other (omega (arith, some, e, is_of.from_one)))

-- each caller's orders go on with what it holds behind an order
pub along_order : (order : Order) → IsOfCaller order → (held : HeldByAll) → length held ≡ 8 → (own : Held) → held_behind order.act (held_by order.caller held) ≡ Some own → (orders : List Order) (caller : ℕ) → 1 ≤ caller
    → held_through (orders_by caller (order ∷ orders)) (held_by caller held) ≡ held_through (orders_by caller orders) (held_by caller (set held (order.caller - 1) own))
along_order order is_of held eight own behind orders caller some = elim (eqb_tells order.caller caller) [
  | inl own_one ↦
      let same = own_one.1 in
      let mine : held_by caller held ≡ held_by order.caller held = ap (λ k. held_by k held) (sym same) in
      let next : held_by caller (set held (order.caller - 1) own) ≡ own = ap (λ k. held_by k (set held (order.caller - 1) own)) (sym same) ∙ own_behind order is_of held eight own in
      rw (own_one.0, mine, behind, next) refl
  | inr other ↦
      let left = other_behind order is_of held eight own caller some (λ e. other.1 (sym e)) in
      rw (other.0, left) refl
]

-- A script's lines

module _ (found : Option Item) (n : ℕ) (line : Bytes) (is : item_of n line ≡ Ok found) where
  -- what is read goes on with what is held behind it
  held_along : (held behind : HeldByAll) → slots_behind found held ≡ Ok behind → length held ≡ 8
      → (length behind ≡ 8) × ((items : List Item) (caller : ℕ) → 1 ≤ caller
      → held_through (orders_by caller (filter_map order_in (cons_option found items))) (held_by caller held) ≡ held_through (orders_by caller (filter_map order_in items)) (held_by caller behind))
  held_along held behind e eight = by found is e
    where
      by : (found : Option Item) → item_of n line ≡ Ok found → slots_behind found held ≡ Ok behind
          → (length behind ≡ 8) × ((items : List Item) (caller : ℕ) → 1 ≤ caller
          → held_through (orders_by caller (filter_map order_in (cons_option found items))) (held_by caller held) ≡ held_through (orders_by caller (filter_map order_in items)) (held_by caller behind))
      by None is e = let same : held ≡ behind = cc in (ap length (sym same) ∙ eight, λ items caller some. ap (λ h. held_through (orders_by caller (filter_map order_in items)) (held_by caller h)) same)
      by (Some item.PhaseEnd) is e = let same : held ≡ behind = cc in (ap length (sym same) ∙ eight, λ items caller some. ap (λ h. held_through (orders_by caller (filter_map order_in items)) (held_by caller h)) same)
      by (Some (item.Order order)) is e =
          let (own, owned, same) = from_map (λ own. set held (order.caller - 1) own) (held_behind order.act (held_by order.caller held)) behind (from_ok_or (all_held_behind order held) _ behind e) in
          let is_of : IsOfCaller order = line_called n line (item.Order order) is in (
            ap length (sym same) ∙ length-set held (order.caller - 1) own ∙ eight,
            λ items caller some. along_order order is_of held eight own owned (filter_map order_in items) caller some ∙ ap (λ h. held_through (orders_by caller (filter_map order_in items)) (held_by caller h)) same,
          )

  -- nobody has the number 0
  nobodys : (items : List Item) → orders_by 0 (filter_map order_in (cons_option found items)) ≡ orders_by 0 (filter_map order_in items)
  nobodys items = by found is
    where
      by : (found : Option Item) → item_of n line ≡ Ok found → orders_by 0 (filter_map order_in (cons_option found items)) ≡ orders_by 0 (filter_map order_in items)
      by None is = refl
      by (Some item.PhaseEnd) is = refl
      by (Some (item.Order order)) is =
          let is_of : IsOfCaller order = line_called n line (item.Order order) is in
          rw (ne_eqb order.caller 0 (λ e. absurd (omega (arith, e, is_of.from_one)))) refl

-- what is read finds its slots as it needs them
slotted_from : (is_long : Bool) (n : ℕ) (held : HeldByAll) (parts : List Bytes) (items : List Item) → items_from is_long n held parts ≡ Ok items → length held ≡ 8
    → (caller : ℕ) → 1 ≤ caller → IsSome (held_through (orders_by caller (filter_map order_in items)) (held_by caller held))
unfolding items_from
slotted_from is_long n held [] items e eight caller some = let same : [] ≡ items = cc in rw (← same) refl
slotted_from true n held (last ∷ []) items e eight caller some = absurd cc
slotted_from false n held (last ∷ []) items e eight caller some =
    let kept = line_kept held (item_of n last) (λ _. Ok []) items e in
    let none : [] ≡ kept.2 = cc in
    let along = held_along kept.0 n last kept.3 held kept.1 kept.4 eight in
    rw (kept.6, ← none, along.1 [] caller some) refl
slotted_from is_long n held (line ∷ next ∷ more) items e eight caller some =
    let kept = line_kept held (item_of n (strip_carriage_return line)) (λ behind. items_from is_long (n + 1) behind (next ∷ more)) items e in
    let along = held_along kept.0 n (strip_carriage_return line) kept.3 held kept.1 kept.4 eight in
    rw (kept.6, along.1 kept.2 caller some) (slotted_from is_long (n + 1) kept.1 (next ∷ more) kept.2 kept.5 along.0 caller some)

nobody_from : (is_long : Bool) (n : ℕ) (held : HeldByAll) (parts : List Bytes) (items : List Item) → items_from is_long n held parts ≡ Ok items → orders_by 0 (filter_map order_in items) ≡ []
unfolding items_from
nobody_from is_long n held [] items e = let same : [] ≡ items = cc in rw (← same) refl
nobody_from true n held (last ∷ []) items e = absurd cc
nobody_from false n held (last ∷ []) items e =
    let kept = line_kept held (item_of n last) (λ _. Ok []) items e in
    let none : [] ≡ kept.2 = cc in
    rw (kept.6, ← none) (nobodys kept.0 n last kept.3 [])
nobody_from is_long n held (line ∷ next ∷ more) items e =
    let kept = line_kept held (item_of n (strip_carriage_return line)) (λ behind. items_from is_long (n + 1) behind (next ∷ more)) items e in
    rw kept.6 (nobodys kept.0 n (strip_carriage_return line) kept.3 kept.2 ∙ nobody_from is_long (n + 1) kept.1 (next ∷ more) kept.2 kept.5)

-- at first nobody holds a slot, whatever the number
pub none_by : (caller : ℕ) → held_by caller none_held_by_all ≡ none_held
none_by caller = elim (cases_lt (caller - 1) 8) [
  | inl below ↦ get_or-replicate 8 (caller - 1) none_held none_held below
  | inr past ↦ get_or_past none_held_by_all (caller - 1) none_held past
]

pub script_slotted : (is_long : Bool) (bytes : Bytes) (phases : List (List Order)) → phases_read (items_from is_long 1 none_held_by_all (lines (take 16777216 bytes))) ≡ Ok phases
    → AreSlotted (flat_map (λ orders. orders) phases)
script_slotted is_long bytes phases e caller =
    let (items, is, phased) = bind_ok (items_from is_long 1 none_held_by_all (lines (take 16777216 bytes))) (λ items. Ok (phases_of items)) phases e in
    let same : filter_map order_in items ≡ flat_map (λ orders. orders) phases = sym (orders_flat items) ∙ ap (flat_map (λ (orders : List Order). orders)) (ok_is _ _ phased) in
    subst (λ orders. IsSome (held_through (orders_by caller orders) none_held)) same (by caller items is)
  where
    by : (caller : ℕ) (items : List Item) → items_from is_long 1 none_held_by_all (lines (take 16777216 bytes)) ≡ Ok items → IsSome (held_through (orders_by caller (filter_map order_in items)) none_held)
    by caller items is = elim (cases_lt 0 caller) [
      | inl some ↦ subst (λ held. IsSome (held_through (orders_by caller (filter_map order_in items)) held)) (none_by caller) (slotted_from is_long 1 none_held_by_all (lines (take 16777216 bytes)) items is refl caller some)
      | inr none ↦
          let zero : caller ≡ 0 = omega arith in
          rw (zero, nobody_from is_long 1 none_held_by_all (lines (take 16777216 bytes)) items is) refl
    ]

-- Orders that find their slots

pub some_then : {A B : Type 0} (o : Option A) (f : A → Option B) (b : B) → option_and_then f o ≡ Some b → (a : A) × (o ≡ Some a) × (f a ≡ Some b)
some_then None f b e = absurd cc
some_then (Some a) f b e = (a, refl, e)

-- orders that find their slots go on one by one
slotted_step : (held : Option Held) (orders : List Order) → IsSome (option_and_then (λ behind. held_through orders behind) held)
    → (behind : Held) × (held ≡ Some behind) × IsSome (held_through orders behind)
slotted_step None orders h = absurd cc
slotted_step (Some behind) orders h = (behind, refl, h)

-- what all callers hold behind orders
abbrev pub all_held_through : List Order → HeldByAll → Option HeldByAll
all_held_through [] held = Some held
all_held_through (order ∷ orders) held = option_and_then (λ behind. all_held_through orders behind) (all_held_behind order held)

pub all_through_parts : (front rest : List Order) (held : HeldByAll) → all_held_through (front ++ rest) held ≡ option_and_then (λ behind. all_held_through rest behind) (all_held_through front held)
all_through_parts [] rest held = refl
all_through_parts (order ∷ front) rest held = by (all_held_behind order held) (λ behind. all_through_parts front rest behind)
  where
    by : (o : Option HeldByAll) → ((behind : HeldByAll) → all_held_through (front ++ rest) behind ≡ option_and_then (λ next. all_held_through rest next) (all_held_through front behind))
        → option_and_then (λ behind. all_held_through (front ++ rest) behind) o ≡ option_and_then (λ behind. all_held_through rest behind) (option_and_then (λ behind. all_held_through front behind) o)
    by None each = refl
    by (Some behind) each = each behind

-- where each caller's orders find its slots, they find them one behind another
pub all_found : (orders : List Order) (held : HeldByAll) → length held ≡ 8 → All IsOfCaller orders
    → ((caller : ℕ) → 1 ≤ caller → IsSome (held_through (orders_by caller orders) (held_by caller held))) → (behind : HeldByAll) × (all_held_through orders held ≡ Some behind)
all_found [] held eight called found = (held, refl)
all_found (order ∷ orders) held eight called found =
    let is_of = All-head IsOfCaller order orders called in
    let own_first : orders_by order.caller (order ∷ orders) ≡ order ∷ orders_by order.caller orders = rw (eq-eqb order.caller order.caller refl) refl in
    let step = slotted_step (held_behind order.act (held_by order.caller held)) (orders_by order.caller orders)
    (subst (λ own. IsSome (held_through own (held_by order.caller held))) own_first (found order.caller is_of.from_one)) in
    let next = set held (order.caller - 1) step.0 in
    let here : all_held_behind order held ≡ Some next = ap (option_map (λ own. set held (order.caller - 1) own)) step.1 in
    let on : all_held_through (order ∷ orders) held ≡ all_held_through orders next = ap (option_and_then (λ behind. all_held_through orders behind)) here in
    let kept : length next ≡ 8 = length-set held (order.caller - 1) step.0 ∙ eight in
    let (behind, through) = all_found orders next kept (All-tail IsOfCaller order orders called)
    (λ caller one. subst IsSome (along_order order is_of held eight step.0 step.1 orders caller one) (found caller one)) in
    (behind, on ∙ through)
