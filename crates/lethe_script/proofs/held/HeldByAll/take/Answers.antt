use Rattle.std.proofs.Common.{◌<◌, length, arith, ap, ◌∙◌, sym}
use Rattle.std.proofs.lemmas.List.{get_or-map}
use Rattle.lethe_script.specs.declared.held.HeldSlots.{HeldSlots}
use Rattle.lethe_script.specs.Slots.{all_held_behind}
use Rattle.lethe_script.proofs.Taking.{all_taken}
use Rattle.lethe_script.proofs.held.HeldByAll.take.Goals as goal

pub returns : goal.returns
returns c =
    let within : c.index.result < length c.self.inside.callers = omega (arith, c.self.invariant, c.index.ensures.within) in
    ap (all_held_behind c.args.order.now) (sym c.self.view_is)
    ∙ all_taken c.args.order.now c.self.inside.callers c.index.result _ c.take.new.self c.take.result c.index.ensures.index
    (get_or-map (λ (held : HeldSlots). held.slots) c.self.inside.callers c.index.result _ _ within) c.take.ensures
