use Rattle.std.proofs.Common.{◌≡◌, take, IfSome, Err, inl, refl, sym, ap, ◌∙◌, subst}
use Rattle.std.specs.Prelude.{IsSome}
use Rattle.lethe_script.specs.Grammar.{script_of}
use Rattle.lethe_script.specs.Reading.{FailsScript}
use Rattle.lethe_disk.proofs.Quieting.{quiet_itself}
use Rattle.lethe_core.specs.View.{view_of}
use Rattle.lethe_run.proofs.Ending.{keeps_still, said_bad_words, said_bad_script, said_not_opened, script_ended, on_script, no_script, drawn_by}
use Rattle.lethe_run.proofs.Fronts.{shown_all}
use Rattle.lethe_run.proofs.Pins.{fresh_pins}
use Rattle.lethe_run.proofs.top.carry_out.Goals as goal

pub returns-in_default : goal.returns-in_default
returns-in_default g c = said_bad_words _ c.say.result (sym c.in_default.ensures) (refl, quiet_itself (g.D.Disk.seen c.args.disk)) c.say.ensures

pub returns-in-Err-Failed : goal.returns-in-Err-Failed
returns-in-Err-Failed g c = (
  subst IsSome c.in-Some.ensures refl,
  c.read_all.ensures.failed (c.in-Err-Failed.is ∙ ap (λ e. Err e) c.in-Err-Failed.field-0-is),
  keeps_still (g.K.Sink.taken c.args.sink.now),
  (refl, quiet_itself (g.D.Disk.seen c.args.disk)),
)

pub returns-in-Err-NoMemory : goal.returns-in-Err-NoMemory
returns-in-Err-NoMemory g c = (c.in-Some.config, sym c.in-Some.ensures, inl (keeps_still (g.K.Sink.taken c.args.sink.now), inl (refl, quiet_itself (g.D.Disk.seen c.args.disk))))

pub returns-in-Err-NoMemory-read_script : goal.returns-in-Err-NoMemory-read_script
returns-in-Err-NoMemory-read_script g c = (c.in-Some.config, sym c.in-Some.ensures, inl (keeps_still (g.K.Sink.taken c.args.sink.now), inl (refl, quiet_itself (g.D.Disk.seen c.args.disk))))

pub returns-in-Err-Bad : goal.returns-in-Err-Bad
returns-in-Err-Bad g c =
    let fails = subst (λ e. FailsScript e (script_of c.deref.result.now)) c.in-Err-Bad.field-0-is c.in-Err-Bad.ensures.script in
    let told = rw c.in-Err-Bad.bad-is at c.refuse.ensures in
    said_bad_script _ c.refuse.result c.in-Err-Bad.bad told.0
    (shown_all (g.S.Source.left c.args.source.now) told.0 c.deref-in-Err-Bad.result.now c.in-Err-Bad.bad.line (subst (λ bytes. IfSome (g.S.Source.left c.args.source.now) (λ all. take 16777216 all ≡ take 16777216 bytes)) (sym c.deref-in-Err-Bad.ensures.value) c.in-Ok.ensures.front) told.1)
    (no_script (g.S.Source.left c.args.source.now) c.in-Ok.bytes.items c.in-Err-Bad.bad c.in-Ok.ensures.ok (ap script_of (sym c.deref.ensures.value) ∙ fails), (refl, quiet_itself (g.D.Disk.seen c.args.disk))) told.2 c.in-Some.config (sym c.in-Some.ensures)

pub returns-in-Ok-open_store : goal.returns-in-Ok-open_store
returns-in-Ok-open_store g c =
    let laws = g.met.D.Disk g.world.𝓛 g.world.𝓜 g.world.𝓡 ((λ s x. x), (λ x. x), (λ x. x), λ x. x) in
    script_ended _ c.in-Some.config (sym c.in-Some.ensures) c.in-Ok-read_script.script.phases
    (λ P p. on_script (g.S.Source.left c.args.source.now) c.in-Ok.bytes.items c.in-Ok-read_script.script.phases P c.in-Ok.ensures.ok (ap script_of (sym c.deref.ensures.value) ∙ c.in-Ok-read_script.ensures.script) p)
    (view_of c.in-Ok-open_store.engine.core) c.in-Ok-open_store.ensures.faults c.in-Ok-open_store.ensures.runs c.in-Ok-open_store.ensures.config_is (fresh_pins (view_of c.in-Ok-open_store.engine.core) c.in-Ok-open_store.ensures.pins)
    c.in-Ok-open_store.ensures.resumed c.in-Ok-open_store.ensures.any_moment c.in-Ok-open_store.ensures.exact
    (λ told. laws.itself told c.args.disk) c.in-Ok-open_store.ensures.pace
    c.serve_script.result.0 c.serve_script.ensures.ends

pub returns : goal.returns
returns g c =
    let refused = c.in-Err.field-0 in
    said_not_opened _ c.tell.result refused.why c.in-Some.config (sym c.in-Some.ensures) (record {
      script = on_script (g.S.Source.left c.args.source.now) c.in-Ok.bytes.items c.in-Ok-read_script.script.phases (λ phases. Unit {0}) c.in-Ok.ensures.ok (ap script_of (sym c.deref.ensures.value) ∙ c.in-Ok-read_script.ensures.script) tt;
      reason = c.in-Err.ensures.refused;
      untouched = c.in-Err.ensures.untouched;
      drawn = λ told. drawn_by g.D.Disk.tells (g.D.Disk.seen c.args.disk) (g.D.Disk.seen refused.disk) (g.D.Disk.faults c.args.disk) (g.D.Disk.faults refused.disk) refused.why c.in-Some.config c.in-Err.ensures.refused (c.in-Err.ensures.drawn told) told;
      exact = c.in-Err.ensures.exact;
      quiet = c.in-Err.ensures.quiet;
      any_moment = c.in-Err.ensures.any_moment;
      pace = c.in-Err.ensures.pace;
    }) c.tell.ensures.told c.tell.ensures.memory
