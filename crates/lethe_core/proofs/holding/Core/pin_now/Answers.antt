use Rattle.std.proofs.Common.{◌≡◌, ◌∙◌, ap, sym, subst}
use Rattle.lethe_bound.specs.Limits.{IsLimit}
use Rattle.lethe_pins.specs.Held.{AreHeld, Held}
use Rattle.lethe_pins.specs.declared.pin.Pin.{Pin}
use Rattle.lethe_snapshot.specs.Points.{IsTaken}
use Rattle.lethe_snapshot.specs.Times.{IsLimitBy}
use Rattle.lethe_snapshot.specs.declared.snapshot.Snapshot.{Snapshot}
use Rattle.lethe_stored.specs.Stored.{layout_of}
use Rattle.lethe_core.specs.Running.{Holds, IsSound}
use Rattle.lethe_core.specs.StandsNow.{StandsNow}
use Rattle.lethe_core.specs.View.{view_of}
use Rattle.lethe_core.proofs.Pinned.{pinned_holds, pinned_sound, pinned_stands, with_pins}
use Rattle.lethe_core.proofs.holding.Core.pin_now.Goals as goal

pub returns-in-Ok-pin-clause-sound : goal.returns-in-Ok-pin-clause-sound
returns-in-Ok-pin-clause-sound g c =
    let old = view_of c.args.self.now in
    let number = c.in-Ok-pin.pin.number in
    let pin : Pin = record { number = number; names = c.in-Ok.names.items; limit = c.in-Ok-pin.pin.limit } in
    let is = c.in-Ok-pin.ensures.made.1 in
    subst (λ (held : Held). IsSound g.D.Disk.tells (with_pins old held)) (sym is)
    (pinned_sound old pin number (λ name there. (c.in-Ok.ensures.each name).0 there) g.D.Disk.tells (subst AreHeld is c.pin.ensures.held) c.in-Ok.ensures.pages c.requires)

pub returns-in-Ok-pin-clause-stands : goal.returns-in-Ok-pin-clause-stands
returns-in-Ok-pin-clause-stands g c = λ told config h stands.
    let old = view_of c.args.self.now in
    let number = c.in-Ok-pin.pin.number in
    let pin : Pin = record { number = number; names = c.in-Ok.names.items; limit = c.in-Ok-pin.pin.limit } in
    subst (λ (held : Held). StandsNow config h (with_pins old held)) (sym c.in-Ok-pin.ensures.made.1)
    (pinned_stands old pin number (λ name there. (c.in-Ok.ensures.each name).0 there)
    (λ s remembers. subst (IsLimit s.manifest.config.threshold (layout_of s)) (sym c.in-Ok-pin.ensures.limit) (c.limit_of-limit.ensures.limit s remembers)) config h stands)

pub returns-in-Ok-pin-clause-held : goal.returns-in-Ok-pin-clause-held
returns-in-Ok-pin-clause-held g c = λ told s holds.
    let old = view_of c.args.self.now in
    let number = c.in-Ok-pin.pin.number in
    let pin : Pin = record { number = number; names = c.in-Ok.names.items; limit = c.in-Ok-pin.pin.limit } in
    subst (λ (held : Held). Holds (with_pins old held) s) (sym c.in-Ok-pin.ensures.made.1) (pinned_holds old pin number (λ name there. (c.in-Ok.ensures.each name).0 there) s holds)

pub returns-in-Ok-pin-clause-by : goal.returns-in-Ok-pin-clause-by
returns-in-Ok-pin-clause-by g c =
    let old = view_of c.args.self.now in
    let same : c.of-in-Ok-pin.result.pin.limit ≡ c.limit_of-limit.result = ap (λ (snapshot : Snapshot _ _ _ _). snapshot.pin.limit) c.of-in-Ok-pin.ensures ∙ c.in-Ok-pin.ensures.limit in
    subst (λ limit. IsLimitBy old.state old.levels limit) (sym same) c.limit_of-limit.ensures.by

pub returns-in-Ok-pin-clause-taken : goal.returns-in-Ok-pin-clause-taken
returns-in-Ok-pin-clause-taken g c =
    let old = view_of c.args.self.now in
    subst (λ (snapshot : Snapshot _ _ _ _). IsTaken old.state old.levels snapshot) (sym c.of-in-Ok-pin.ensures) (c.in-Ok-of.ensures.taken c.in-Ok-pin.pin)
