use Rattle.std.proofs.Common.{◌≡◌, ◌+◌, ◌<◌, rules, Option, Some, None, length, refl, subst, ap, arith}
use Rattle.lethe_base.specs.Limits.{max_place}
use Rattle.lethe_stored.specs.Stored.{Segment}
use Rattle.lethe_state.specs.Remembered.{IsFrozenIn}
use Rattle.lethe_state.proofs.FreezeStep.{freeze_from, freeze_is_step}
use Rattle.lethe_state.proofs.state.State.freezing.Goals as goal

none_in : (segment : Option Segment) → IsFrozenIn segment None → segment ≡ None
none_in None is = refl
none_in (Some segment) is = absurd is

pub returns-in-Ok-clause-freezes : goal.returns-in-Ok-clause-freezes
returns-in-Ok-clause-freezes c = λ s levels is current loose drawn uncited.
    let none = none_in s.frozen (subst (IsFrozenIn s.frozen) c.requires.unfrozen is.frozen) in
    let free : c.args.self.now.next + 1 < max_place = search rules in
    let from = freeze_from c.args.self.now c.in-Ok.step c.requires.writable c.requires.unfrozen free c.in-Ok.ensures.objects c.in-Ok.ensures.manifest in
    freeze_is_step s c.args.self.now levels is current none c.in-Ok.step c.in-Ok.ensures.objects c.in-Ok.ensures.merged c.in-Ok.ensures.older c.in-Ok.ensures.manifest c.in-Ok.ensures.gone from.spelled c.requires.writable.drawn loose drawn uncited

pub returns-in-Ok-clause-step : goal.returns-in-Ok-clause-step
returns-in-Ok-clause-step c =
    let free : c.args.self.now.next + 1 < max_place = search rules in
    freeze_from c.args.self.now c.in-Ok.step c.requires.writable c.requires.unfrozen free c.in-Ok.ensures.objects c.in-Ok.ensures.manifest

pub returns-in-Ok-clause-calls : goal.returns-in-Ok-clause-calls
returns-in-Ok-clause-calls c = let made = ap length c.in-Ok.ensures.objects in let gone = ap length c.in-Ok.ensures.gone in (omega (arith, made, gone), made)
