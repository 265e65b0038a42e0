use Rattle.std.proofs.Common.{sym, subst}
use Rattle.lethe_pins.specs.Held.{AreHeld, Held}
use Rattle.lethe_core.specs.Running.{Holds, IsSound}
use Rattle.lethe_core.specs.StandsNow.{StandsNow}
use Rattle.lethe_core.specs.View.{view_of}
use Rattle.lethe_core.proofs.Pinned.{released_holds, released_sound, released_stands, with_pins}
use Rattle.lethe_core.proofs.holding.Core.release_now.Goals as goal

pub returns-clause-sound : goal.returns-clause-sound
returns-clause-sound g c =
    let old = view_of c.args.self.now in
    let others = c.unpin.ensures.others in
    subst (λ (held : Held). IsSound g.D.Disk.tells (with_pins old held)) (sym others) (released_sound old c.release-pin.result.number g.D.Disk.tells (subst AreHeld others c.unpin.ensures.held) c.requires)

pub returns-clause-stands : goal.returns-clause-stands
returns-clause-stands g c = λ told config h stands.
    let old = view_of c.args.self.now in
    subst (λ (held : Held). StandsNow config h (with_pins old held)) (sym c.unpin.ensures.others) (released_stands old c.release-pin.result.number config h stands)

pub returns-clause-held : goal.returns-clause-held
returns-clause-held g c = λ told s holds.
    let old = view_of c.args.self.now in
    subst (λ (held : Held). Holds (with_pins old held) s) (sym c.unpin.ensures.others) (released_holds old c.release-pin.result.number s holds)
