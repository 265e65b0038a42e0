use Rattle.std.proofs.Common.{◌≡◌, ◌+◌, ◌<◌, ◌⊎◌, [], length, ◌∙◌, arith}
use Rattle.std.proofs.lemmas.List.Elements.{All-weaker}
use Rattle.lethe_base.specs.History.{History}
use Rattle.lethe_disk.proofs.Going.{goes_then, goes_weaker}
use Rattle.lethe_stored.specs.Encodes.{Encodes}
use Rattle.lethe_stored.specs.Kept.{IsFor, IsKept}
use Rattle.lethe_version.specs.Versions.{levels_of}
use Rattle.lethe_advance.specs.declared.new_header.NewHeader.{NewHeader}
use Rattle.lethe_advance.specs.Steps.{MayAdvance}
use Rattle.lethe_recover.proofs.Resumed.{next_stored, old_kept, either_kept, encoded_pace, reopened_pace, reopened_of}
use Rattle.lethe_recover.proofs.Readied.{reopens_of}
use Rattle.lethe_recover.proofs.resuming.reopen.Goals as goal

pub tidy-requires-clause-settled : goal.tidy-requires-clause-settled
tidy-requires-clause-settled g c κs within = λ told. let asked = c.requires.settled told in (asked.0, asked.1, (asked.2).cites)

pub returns-in_err-tidy-clause-any_moment : goal.returns-in_err-tidy-clause-any_moment
returns-in_err-tidy-clause-any_moment g c = λ told s settled ready.
    goes_weaker (λ x. Encodes x s) (λ x. (h : History) → IsFor h s → IsKept s.manifest.config x h) (g.D.Disk.seen c.args.disk.now) (g.D.Disk.seen c.tidy.new.disk) (old_kept s settled.coherent) (c.tidy.ensures.any_moment told s settled)

pub returns-in_err-made-clause-any_moment : goal.returns-in_err-made-clause-any_moment
returns-in_err-made-clause-any_moment g c = λ told s settled ready.
    goes_weaker (λ x. Encodes x s) (λ x. (h : History) → IsFor h s → IsKept s.manifest.config x h) (g.D.Disk.seen c.args.disk.now) (g.D.Disk.seen c.tidy.new.disk) (old_kept s settled.coherent) (c.tidy.ensures.any_moment told s settled)

pub returns-in_err-spelled-clause-any_moment : goal.returns-in_err-spelled-clause-any_moment
returns-in_err-spelled-clause-any_moment g c = λ told s settled ready.
    goes_weaker (λ x. Encodes x s) (λ x. (h : History) → IsFor h s → IsKept s.manifest.config x h) (g.D.Disk.seen c.args.disk.now) (g.D.Disk.seen c.tidy.new.disk) (old_kept s settled.coherent) (c.tidy.ensures.any_moment told s settled)

pub advance-requires-clause-levels : goal.advance-requires-clause-levels
advance-requires-clause-levels g c κs within =
    let levels = length (levels_of c.args.made.version) in
    let some : levels ≡ c.args.manifest.now.config.levels + 1 = c.requires.ready.levels in
    All-weaker (λ (new : NewHeader). new.level ≡ 0) (λ (new : NewHeader). new.level < levels) (λ new zeroth. omega (arith, zeroth, some)) c.in_ok-made.made.headers.items c.in_ok-made.ensures.levels

pub advance-requires-clause-step : goal.advance-requires-clause-step
advance-requires-clause-step g c κs within = λ told.
    let asked = c.requires.settled told in
    let s = asked.0 in
    let settled = asked.1 in
    let ready = asked.2 in
    let tidied = c.in_ok-tidy.ensures.done told s settled in
    let is = reopens_of s c.args.manifest.now c.args.made settled.coherent ready c.in_ok-made.made c.in_ok-made.ensures.reopens in
    (s, next_stored s c.in_ok-made.made is, [], [], record { settled = tidied.0; only = tidied.1; step_is = is.step })

pub returns-in_err-reopened-clause-any_moment : goal.returns-in_err-reopened-clause-any_moment
returns-in_err-reopened-clause-any_moment g c = λ told s settled ready.
    let s0 = g.D.Disk.seen c.args.disk.now in
    let s1 = g.D.Disk.seen c.tidy.new.disk in
    let s2 = g.D.Disk.seen c.advance.new.disk in
    let tidied = c.in_ok-tidy.ensures.done told s settled in
    let is = reopens_of s c.args.manifest.now c.args.made settled.coherent ready c.in_ok-made.made c.in_ok-made.ensures.reopens in
    let t = next_stored s c.in_ok-made.made is in
    let may : MayAdvance (g.D.Disk.seen c.tidy.new.disk) s [] t [] c.in_ok-made.made.headers.items c.in_ok-made.made.step = record { settled = tidied.0; only = tidied.1; step_is = is.step } in
    goes_then (λ x. (h : History) → IsFor h s → IsKept s.manifest.config x h) s0 s1 s2
    (goes_weaker (λ x. Encodes x s) (λ x. (h : History) → IsFor h s → IsKept s.manifest.config x h) s0 s1 (old_kept s settled.coherent) (c.tidy.ensures.any_moment told s settled))
    (goes_weaker (λ x. Encodes x s ⊎ Encodes x t) (λ x. (h : History) → IsFor h s → IsKept s.manifest.config x h) s1 s2 (either_kept s t is.step.config settled.coherent is.step.coherent is.stands) (c.advance.ensures.any_moment told s t [] [] may))

pub returns-clause-any_moment : goal.returns-clause-any_moment
returns-clause-any_moment g c = λ told s settled ready.
    let s0 = g.D.Disk.seen c.args.disk.now in
    let s1 = g.D.Disk.seen c.tidy.new.disk in
    let s2 = g.D.Disk.seen c.advance.new.disk in
    let tidied = c.in_ok-tidy.ensures.done told s settled in
    let is = reopens_of s c.args.manifest.now c.args.made settled.coherent ready c.in_ok-made.made c.in_ok-made.ensures.reopens in
    let t = next_stored s c.in_ok-made.made is in
    let may : MayAdvance (g.D.Disk.seen c.tidy.new.disk) s [] t [] c.in_ok-made.made.headers.items c.in_ok-made.made.step = record { settled = tidied.0; only = tidied.1; step_is = is.step } in
    goes_then (λ x. (h : History) → IsFor h s → IsKept s.manifest.config x h) s0 s1 s2
    (goes_weaker (λ x. Encodes x s) (λ x. (h : History) → IsFor h s → IsKept s.manifest.config x h) s0 s1 (old_kept s settled.coherent) (c.tidy.ensures.any_moment told s settled))
    (goes_weaker (λ x. Encodes x s ⊎ Encodes x t) (λ x. (h : History) → IsFor h s → IsKept s.manifest.config x h) s1 s2 (either_kept s t is.step.config settled.coherent is.step.coherent is.stands) (c.advance.ensures.any_moment told s t [] [] may))

pub returns-clause-there : goal.returns-clause-there
returns-clause-there g c = λ told s settled ready.
    let s1 = g.D.Disk.seen c.tidy.new.disk in
    let s2 = g.D.Disk.seen c.advance.new.disk in
    let tidied = c.in_ok-tidy.ensures.done told s settled in
    let is = reopens_of s c.args.manifest.now c.args.made settled.coherent ready c.in_ok-made.made c.in_ok-made.ensures.reopens in
    let t = next_stored s c.in_ok-made.made is in
    let may : MayAdvance (g.D.Disk.seen c.tidy.new.disk) s [] t [] c.in_ok-made.made.headers.items c.in_ok-made.made.step = record { settled = tidied.0; only = tidied.1; step_is = is.step } in
    let done = c.in_ok-reopened.ensures.done told s t [] [] may in
    reopened_of s c.in_ok-made.made is settled.coherent s1.directory tidied.1 ready.rising s2 c.in_ok-reopened.reopened done.0 done.1
    (c.in_ok-reopened.ensures.kept told s t [] [] may) (c.in_ok-reopened.ensures.gate told s t [] [] may) (c.in_ok-reopened.ensures.files told s t [] [] may ready.files)

pub returns-clause-spelled : goal.returns-clause-spelled
returns-clause-spelled g c = record {
  manifest = c.in_ok-made.ensures.spelled;
  config_is = c.in_ok-made.ensures.config;
  segments = c.in_ok-made.ensures.segments;
  levels = c.in_ok-reopened.ensures.levels ∙ c.requires.ready.levels;
}

pub returns-clause-numbers : goal.returns-clause-numbers
returns-clause-numbers g c = λ told.
    let asked = c.requires.settled told in
    let later = (c.tidy.ensures.any_moment told asked.0 asked.1).later in
    let calls = c.in_ok-reopened.ensures.calls told in
    let next = c.in_ok-made.ensures.next in
    omega (arith, later, calls, next)

pub returns-in_err-tidy-clause-pace : goal.returns-in_err-tidy-clause-pace
returns-in_err-tidy-clause-pace g c = λ told s settled ready.
    encoded_pace s c.args.manifest.now (g.D.Disk.seen c.args.disk.now) (g.D.Disk.seen c.tidy.new.disk) settled.coherent ready.manifest (c.tidy.ensures.any_moment told s settled)

pub returns-in_err-made-clause-pace : goal.returns-in_err-made-clause-pace
returns-in_err-made-clause-pace g c = λ told s settled ready.
    encoded_pace s c.args.manifest.now (g.D.Disk.seen c.args.disk.now) (g.D.Disk.seen c.tidy.new.disk) settled.coherent ready.manifest (c.tidy.ensures.any_moment told s settled)

pub returns-in_err-spelled-clause-pace : goal.returns-in_err-spelled-clause-pace
returns-in_err-spelled-clause-pace g c = λ told s settled ready.
    encoded_pace s c.args.manifest.now (g.D.Disk.seen c.args.disk.now) (g.D.Disk.seen c.tidy.new.disk) settled.coherent ready.manifest (c.tidy.ensures.any_moment told s settled)

pub returns-in_err-reopened-clause-pace : goal.returns-in_err-reopened-clause-pace
returns-in_err-reopened-clause-pace g c = λ told s settled ready.
    let s0 = g.D.Disk.seen c.args.disk.now in
    let s1 = g.D.Disk.seen c.tidy.new.disk in
    let s2 = g.D.Disk.seen c.advance.new.disk in
    let m = c.args.manifest.now in
    let made = c.in_ok-made.made in
    let tidied = c.in_ok-tidy.ensures.done told s settled in
    let is = reopens_of s m c.args.made settled.coherent ready made c.in_ok-made.ensures.reopens in
    let t = next_stored s made is in
    let may : MayAdvance s1 s [] t [] made.headers.items made.step = record { settled = tidied.0; only = tidied.1; step_is = is.step } in
    reopened_pace s m made is s0 s1 s2 settled.coherent ready.manifest c.in_ok-made.ensures.next (c.tidy.ensures.any_moment told s settled) (c.advance.ensures.any_moment told s t [] [] may) (c.advance.ensures.early told s t [] [] may)

pub returns-clause-pace : goal.returns-clause-pace
returns-clause-pace g c = λ told s settled ready.
    let s0 = g.D.Disk.seen c.args.disk.now in
    let s1 = g.D.Disk.seen c.tidy.new.disk in
    let s2 = g.D.Disk.seen c.advance.new.disk in
    let m = c.args.manifest.now in
    let made = c.in_ok-made.made in
    let tidied = c.in_ok-tidy.ensures.done told s settled in
    let is = reopens_of s m c.args.made settled.coherent ready made c.in_ok-made.ensures.reopens in
    let t = next_stored s made is in
    let may : MayAdvance s1 s [] t [] made.headers.items made.step = record { settled = tidied.0; only = tidied.1; step_is = is.step } in
    reopened_pace s m made is s0 s1 s2 settled.coherent ready.manifest c.in_ok-made.ensures.next (c.tidy.ensures.any_moment told s settled) (c.advance.ensures.any_moment told s t [] [] may) (c.advance.ensures.early told s t [] [] may)
