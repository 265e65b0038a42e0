use Rattle.std.proofs.Common.{◌<◌, rules}
use Rattle.lethe_base.specs.Limits.{max_place}
use Rattle.lethe_state.proofs.TickStep.{tick_from, tick_is_step}
use Rattle.lethe_state.proofs.state.State.ticking.Goals as goal

pub returns-in-Ok-clause-step : goal.returns-in-Ok-clause-step
returns-in-Ok-clause-step c =
    let free : c.args.self.now.next < max_place = search rules in
    tick_from c.args.self.now c.args.to c.in-Ok.step c.requires.writable free c.requires.fits c.requires.within c.in-Ok.ensures.objects c.in-Ok.ensures.manifest

pub returns-in-Ok-clause-ticks : goal.returns-in-Ok-clause-ticks
returns-in-Ok-clause-ticks c = λ s levels is current loose drawn uncited.
    let free : c.args.self.now.next < max_place = search rules in
    let from = tick_from c.args.self.now c.args.to c.in-Ok.step c.requires.writable free c.requires.fits c.requires.within c.in-Ok.ensures.objects c.in-Ok.ensures.manifest in
    tick_is_step s c.args.self.now levels is current c.args.to c.in-Ok.step c.in-Ok.ensures.objects c.in-Ok.ensures.merged c.in-Ok.ensures.older c.in-Ok.ensures.manifest c.in-Ok.ensures.gone from.spelled c.requires.writable.drawn loose drawn uncited
