use Rattle.std.proofs.Common.{◌∙◌, ap, sym, length, subst}
use Rattle.std.proofs.lemmas.List.{length-map}
use Rattle.lethe_pins.specs.Held.{Held, AreHeld}
use Rattle.lethe_pins.specs.Linked.{pin_of}
use Rattle.lethe_pins.proofs.Walked.{held_seen, seen}
use Rattle.lethe_pins.proofs.pins.Pins.len.Goals as goal

pub returns-clause-len : goal.returns-clause-len
returns-clause-len c =
    c.len.ensures ∙ c.self.invariant.count ∙ sym (length-map c.self.invariant.cells pin_of) ∙ ap (λ l. length l) (sym (seen c.self.inside.nodes c.self.inside.first c.self.inside.made c.self.invariant))
    ∙ ap (λ (held : Held). length held.pins) c.self.view_is

pub returns-clause-held : goal.returns-clause-held
returns-clause-held c = subst AreHeld c.self.view_is (held_seen c.self.inside.nodes c.self.inside.first c.self.inside.made c.self.invariant)
