use Rattle.std.proofs.Common.{◌≡◌, ◌∙◌, ap, sym, false, subst}
use Rattle.std.specs.Option.{is_some}
use Rattle.slab.specs.Slab.{get}
use Rattle.lethe_pins.specs.declared.stop.Stop.TheVariants as stop
use Rattle.lethe_pins.specs.Held.{Held, AreHeld, is_held, without}
use Rattle.lethe_pins.specs.Linked.{pins_from, stops_at}
use Rattle.lethe_pins.proofs.Relinked.{one_unpinned}
use Rattle.lethe_pins.proofs.Walked.{any_found, held_seen, names_rise, seen}
use Rattle.lethe_pins.proofs.Without.{none_goes}
use Rattle.lethe_pins.proofs.pins.Pins.unpin.Goals as goal

pub seek-behind-requires : goal.seek-behind-requires
seek-behind-requires c = (c.self.invariant.cells, c.self.invariant.path, names_rise c.self.invariant.cells c.self.invariant.held.names)

pub returns-in_default-clause-found : goal.returns-in_default-clause-found
returns-in_default-clause-found c =
    let linked = c.self.invariant in
    sym (ap is_some c.in_default.is) ∙ any_found (get c.self.inside.nodes) c.self.inside.first linked.cells (stops_at (stop.Number c.args.pin.number)) c.seek-behind.result.0 c.seek-behind.result.1
    (c.seek-behind.ensures linked.cells linked.path linked.count)
    ∙ ap (is_held c.args.pin.number) (sym (seen c.self.inside.nodes c.self.inside.first c.self.inside.made linked)) ∙ ap (λ (held : Held). is_held c.args.pin.number held.pins) c.self.view_is

pub returns-in_default-clause-others : goal.returns-in_default-clause-others
returns-in_default-clause-others c =
    let none : is_held c.args.pin.number c.args.self.now.pins ≡ false = sym (returns-in_default-clause-found c) in
    λ i. record { pins = sym (none_goes c.args.pin.number c.args.self.now.pins none) i; made = c.args.self.now.made }

pub returns-in_default-clause-held : goal.returns-in_default-clause-held
returns-in_default-clause-held c = subst AreHeld c.self.view_is (held_seen c.self.inside.nodes c.self.inside.first c.self.inside.made c.self.invariant)

pub invariant_of-self-2 : goal.invariant_of-self-2
invariant_of-self-2 c =
    let linked = c.self.invariant in
    let parts = c.seek-behind.ensures linked.cells linked.path linked.count in
    (one_unpinned c.self.inside.nodes c.try_remove.new.self c.relink-self-inside.new.nodes c.self.inside.first c.relink-self-inside.result c.seek-behind.result.0 c.seek-behind.result.1 c.self.inside.made c.args.pin.number c.in-Some.key
    c.in-Some-try_remove.node linked parts.front parts.back parts.whole parts.last parts.to parts.on parts.passed parts.stopped c.in-Some.is (sym c.in-Some-try_remove.ensures.value) c.try_remove.ensures.updates
    c.in-Some-try_remove.ensures.len c.relink-self-inside.ensures.linked c.relink-self-inside.ensures.len).0

pub returns-clause-found : goal.returns-clause-found
returns-clause-found c =
    let linked = c.self.invariant in
    sym (ap is_some c.in-Some.is) ∙ any_found (get c.self.inside.nodes) c.self.inside.first linked.cells (stops_at (stop.Number c.args.pin.number)) c.seek-behind.result.0 c.seek-behind.result.1
    (c.seek-behind.ensures linked.cells linked.path linked.count)
    ∙ ap (is_held c.args.pin.number) (sym (seen c.self.inside.nodes c.self.inside.first c.self.inside.made linked)) ∙ ap (λ (held : Held). is_held c.args.pin.number held.pins) c.self.view_is

pub returns-clause-others : goal.returns-clause-others
returns-clause-others c =
    let linked = c.self.invariant in
    let parts = c.seek-behind.ensures linked.cells linked.path linked.count in
    let after = one_unpinned c.self.inside.nodes c.try_remove.new.self c.relink-self-inside.new.nodes c.self.inside.first c.relink-self-inside.result c.seek-behind.result.0 c.seek-behind.result.1 c.self.inside.made c.args.pin.number c.in-Some.key
    c.in-Some-try_remove.node linked parts.front parts.back parts.whole parts.last parts.to parts.on parts.passed parts.stopped c.in-Some.is (sym c.in-Some-try_remove.ensures.value) c.try_remove.ensures.updates
    c.in-Some-try_remove.ensures.len c.relink-self-inside.ensures.linked c.relink-self-inside.ensures.len in
    let pins : pins_from c.relink-self-inside.new.nodes c.relink-self-inside.result ≡ without c.args.pin.number (pins_from c.self.inside.nodes c.self.inside.first) =
    seen c.relink-self-inside.new.nodes c.relink-self-inside.result c.self.inside.made after.0 ∙ after.1 ∙ ap (without c.args.pin.number) (sym (seen c.self.inside.nodes c.self.inside.first c.self.inside.made linked)) in
    (λ i. record { pins = pins i; made = c.self.inside.made }) ∙ ap (λ (held : Held). record held { pins = without c.args.pin.number held.pins }) c.self.view_is

pub returns-clause-held : goal.returns-clause-held
returns-clause-held c = held_seen c.relink-self-inside.new.nodes c.relink-self-inside.result c.self.inside.made (invariant_of-self-2 c)
