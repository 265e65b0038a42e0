-- What all callers hold behind an order.
use Rattle.std.proofs.Common.{◌≡◌, ℕ, ◌+◌, ◌-◌, Bool, true, false, List, map, get_or, set, cond, Some, None, refl, sym, ap, arith}
use Rattle.std.proofs.lemmas.List.{map-set}
use Rattle.lethe_script.specs.declared.order.Order.{Order}
use Rattle.lethe_script.specs.declared.held.HeldSlots.{HeldSlots}
use Rattle.lethe_script.specs.Slots.{HeldByAll, none_held, held_behind, all_held_behind}

abbrev pub slots_in : List HeldSlots → HeldByAll
slots_in callers = map (λ held. held.slots) callers

-- one caller's slots are found in their place, and put back there
pub all_taken : (order : Order) (callers : List HeldSlots) (at : ℕ) (found next : HeldSlots) (b : Bool) → at + 1 ≡ order.caller → get_or (slots_in callers) at none_held ≡ found.slots
    → held_behind order.act found.slots ≡ cond b (Some next.slots) None → all_held_behind order (slots_in callers) ≡ cond b (Some (slots_in (set callers at next))) None
all_taken order callers at found next b place is behind = by b behind
  where
    same : order.caller - 1 ≡ at
    same = omega arith

    put : set (slots_in callers) at next.slots ≡ slots_in (set callers at next)
    put = sym (map-set (λ held. held.slots) callers at next)

    by : (b : Bool) → held_behind order.act found.slots ≡ cond b (Some next.slots) None → all_held_behind order (slots_in callers) ≡ cond b (Some (slots_in (set callers at next))) None
    by true behind = rw (same, is, behind) (ap Some put)
    by false behind = rw (same, is, behind) refl
