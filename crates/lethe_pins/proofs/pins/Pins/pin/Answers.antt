use Rattle.std.proofs.Common.{◌≡◌, ◌+◌, ◌∙◌, ap, sym, List, refl, subst}
use Rattle.slab.specs.Slab.{Slab}
use Rattle.lethe_base.specs.declared.name.Name.{Name}
use Rattle.lethe_pins.specs.declared.node.Node.{Node}
use Rattle.lethe_pins.specs.declared.pin.Pin.{Pin}
use Rattle.lethe_pins.specs.Held.{Held, AreHeld, Ascend, placed}
use Rattle.lethe_pins.specs.Linked.{pins_from}
use Rattle.lethe_pins.proofs.Relinked.{one_pinned}
use Rattle.lethe_pins.proofs.Walked.{held_seen, names_rise, seen}
use Rattle.lethe_pins.proofs.pins.Pins.pin.Goals as goal

pub returns-then-self-eq-MAX_PLACE-clause-held : goal.returns-then-self-eq-MAX_PLACE-clause-held
returns-then-self-eq-MAX_PLACE-clause-held c = subst AreHeld c.self.view_is (held_seen c.self.inside.nodes c.self.inside.first c.self.inside.made c.self.invariant)

pub seek-behind-requires : goal.seek-behind-requires
seek-behind-requires c = (c.self.invariant.cells, c.self.invariant.path, names_rise c.self.invariant.cells c.self.invariant.held.names)

pub returns-in_default-clause-held : goal.returns-in_default-clause-held
returns-in_default-clause-held c =
    subst (λ (nodes : Slab Node). AreHeld (record { pins = pins_from nodes c.self.inside.first; made = c.self.inside.made })) (sym c.in_default.ensures.err)
    (held_seen c.self.inside.nodes c.self.inside.first c.self.inside.made c.self.invariant)

pub invariant_of-self-2 : goal.invariant_of-self-2
invariant_of-self-2 c =
    let linked = c.self.invariant in
    let parts = c.seek-behind.ensures linked.cells linked.path linked.count in
    let pin : Pin = record { number = c.self.inside.made + 1; names = c.of.result; limit = c.args.limit } in
    (one_pinned c.self.inside.nodes c.insert.new.self c.relink-self-inside.new.nodes c.self.inside.first c.relink-self-inside.result c.seek-behind.result.0 c.seek-behind.result.1 c.self.inside.made c.in-Ok.key pin linked
    parts.front parts.back parts.whole parts.last parts.to parts.on parts.passed parts.stopped c.if-self-eq-MAX_PLACE.false refl (subst Ascend (sym c.of.ensures) c.requires) c.in-Ok.ensures.was_vacant c.in-Ok.ensures.updates
    c.in-Ok.ensures.len c.relink-self-inside.ensures.linked c.relink-self-inside.ensures.len).0

pub returns-clause-made : goal.returns-clause-made
returns-clause-made c =
    let linked = c.self.invariant in
    let parts = c.seek-behind.ensures linked.cells linked.path linked.count in
    let pin : Pin = record { number = c.self.inside.made + 1; names = c.of.result; limit = c.args.limit } in
    let after = one_pinned c.self.inside.nodes c.insert.new.self c.relink-self-inside.new.nodes c.self.inside.first c.relink-self-inside.result c.seek-behind.result.0 c.seek-behind.result.1 c.self.inside.made c.in-Ok.key pin linked
    parts.front parts.back parts.whole parts.last parts.to parts.on parts.passed parts.stopped c.if-self-eq-MAX_PLACE.false refl (subst Ascend (sym c.of.ensures) c.requires) c.in-Ok.ensures.was_vacant c.in-Ok.ensures.updates
    c.in-Ok.ensures.len c.relink-self-inside.ensures.linked c.relink-self-inside.ensures.len in
    let own : Pin = record { number = c.self.inside.made + 1; names = c.args.names.items; limit = c.args.limit } in
    let pins : pins_from c.relink-self-inside.new.nodes c.relink-self-inside.result ≡ placed own (pins_from c.self.inside.nodes c.self.inside.first) =
    seen c.relink-self-inside.new.nodes c.relink-self-inside.result (c.self.inside.made + 1) after.0 ∙ after.1 ∙ ap (placed pin) (sym (seen c.self.inside.nodes c.self.inside.first c.self.inside.made linked))
    ∙ ap (λ (names : List Name). placed (record { number = c.self.inside.made + 1; names = names; limit = c.args.limit }) (pins_from c.self.inside.nodes c.self.inside.first)) c.of.ensures in (
      ap (λ (held : Held). held.made + 1) c.self.view_is,
      (λ i. record { pins = pins i; made = c.self.inside.made + 1 })
          ∙ ap (λ (held : Held). record { pins = placed own held.pins; made = c.self.inside.made + 1 }) c.self.view_is,
    )

pub returns-clause-held : goal.returns-clause-held
returns-clause-held c = held_seen c.relink-self-inside.new.nodes c.relink-self-inside.result (c.self.inside.made + 1) (invariant_of-self-2 c)
