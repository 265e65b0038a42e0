-- Which slots are held behind orders, part by part.
use Rattle.std.proofs.Common.{◌≡◌, List, [], ◌∷◌, ◌++◌, Option, Some, None, refl, ap, ◌∙◌, subst, append-nil}
use Rattle.std.specs.Prelude.{IsSome, flat_map, option_and_then}
use Rattle.std.proofs.lemmas.Grind.{flat_map-append}
use Rattle.lethe_script.specs.Slots.{Held, held_behind, held_through}
use Rattle.lethe_script.specs.declared.order.Order.{Order}

through_parts : (front rest : List Order) (held : Held) → held_through (front ++ rest) held ≡ option_and_then (λ behind. held_through rest behind) (held_through front held)
through_parts [] rest held = refl
through_parts (order ∷ front) rest held = by (held_behind order.act held) (λ behind. through_parts front rest behind)
  where
    by : (o : Option Held) → ((behind : Held) → held_through (front ++ rest) behind ≡ option_and_then (λ next. held_through rest next) (held_through front behind))
        → option_and_then (λ behind. held_through (front ++ rest) behind) o ≡ option_and_then (λ behind. held_through rest behind) (option_and_then (λ behind. held_through front behind) o)
    by None more = refl
    by (Some behind) more = more behind

first_some : (o : Option Held) (f : Held → Option Held) → IsSome (option_and_then f o) → IsSome o
first_some None f is = is
first_some (Some held) f is = refl

module _ (front : List Order) (held mid : Held) (so_far : held_through front held ≡ Some mid) where
  behind_front : (rest : List Order) → held_through (front ++ rest) held ≡ held_through rest mid
  behind_front rest = through_parts front rest held ∙ ap (option_and_then (λ behind. held_through rest behind)) so_far

  -- each part finds its slots
  pub part_finds : (part rest : List Order) → IsSome (held_through (front ++ (part ++ rest)) held) → IsSome (held_through part mid)
  part_finds part rest is = first_some (held_through part mid) (λ behind. held_through rest behind) (subst IsSome (behind_front (part ++ rest) ∙ through_parts part rest mid) is)

  pub order_finds : (order : Order) (rest : List Order) → IsSome (held_through (front ++ order ∷ rest) held) → IsSome (held_behind order.act mid)
  order_finds order rest is = first_some (held_behind order.act mid) (λ behind. held_through rest behind) (subst IsSome (behind_front (order ∷ rest)) is)

  -- and holds what it does behind it
  pub part_holds : (part : List Order) (next : Held) → held_through part mid ≡ Some next → held_through (front ++ part) held ≡ Some next
  part_holds part next is = behind_front part ∙ is

  pub order_holds : (order : Order) (next : Held) → held_behind order.act mid ≡ Some next → held_through (front ++ order ∷ []) held ≡ Some next
  order_holds order next is = behind_front (order ∷ []) ∙ ap (option_and_then (λ behind. held_through [] behind)) is

-- The orders of phases

pub flat_more : (phases : List (List Order)) (orders : List Order) → flat_map (λ orders. orders) (phases ++ orders ∷ []) ≡ flat_map (λ orders. orders) phases ++ orders
flat_more phases orders = flat_map-append (λ (orders : List Order). orders) phases (orders ∷ []) ∙ ap (λ l. flat_map (λ orders. orders) phases ++ l) (append-nil orders)

pub flat_parts : (phases yielded rest : List (List Order)) (orders : List Order) → phases ≡ yielded ++ orders ∷ rest
    → flat_map (λ orders. orders) phases ≡ flat_map (λ orders. orders) yielded ++ (orders ++ flat_map (λ orders. orders) rest)
flat_parts phases yielded rest orders are = ap (flat_map (λ orders. orders)) are ∙ flat_map-append (λ (orders : List Order). orders) yielded (orders ∷ rest)
