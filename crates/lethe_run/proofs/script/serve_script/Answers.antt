use Rattle.std.proofs.Common.{[], sym, ap, subst, arith}
use Rattle.lethe_base.specs.Counts.{Rose}
use Rattle.lethe_core.specs.View.{Face, view_of}
use Rattle.lethe_run.specs.Scripts.{Inside}
use Rattle.lethe_run.proofs.Endings.{ends_idle, none_served}
use Rattle.lethe_run.proofs.Phases.{appends_none, front_whole}
use Rattle.lethe_run.proofs.script.serve_script.Goals as goal

pub serve_phases-requires-clause-made : goal.serve_phases-requires-clause-made
serve_phases-requires-clause-made g c = let same = ap (λ (face : Face). face.made) c.in-Ok.ensures.answers.face_is in let most = c.requires.made in omega (arith, same, most)

pub returns-in-Ok-fill-clause-ends : goal.returns-in-Ok-fill-clause-ends
returns-in-Ok-fill-clause-ends g c =
    let result = c.serve_phases.result in
    ends_idle g.D.Disk.tells g.D.Disk.ports_fail (view_of c.args.engine.core) (view_of c.new_port.new.self.core) c.new_port.ensures.idle (λ told config opened h before. c.in-Ok.ensures.answers.stands told config opened h before 0) (g.D.Disk.seen result.1) (g.D.Disk.faults result.1)
    c.new_port.ensures.same.0 (λ i. (view_of (record c.args.engine.core { version = c.new_port.ensures.same.1 i })).levels) c.in-Ok.ensures.pins c.new_port.ensures.faults (g.K.Sink.taken c.args.sink.now) (g.K.Sink.taken c.serve_phases.new.sink) (Rose (g.K.Sink.faults c.args.sink.now) (g.K.Sink.faults c.serve_phases.new.sink)) c.args.phases result.0 c.serve_phases.ensures.ends

pub returns-in-Err-fill-clause-ends : goal.returns-in-Err-fill-clause-ends
returns-in-Err-fill-clause-ends g c =
    let Tells = g.D.Disk.tells in
    let Ports = g.D.Disk.ports_fail in
    let old = view_of c.args.engine.core in
    let t0 = g.K.Sink.taken c.args.sink.now in
    let laws = g.met.D.Disk g.world.𝓛 g.world.𝓜 g.world.𝓡 ((λ s x. x), (λ x. x), (λ x. x), λ x. x) in
    subst (λ d. Inside Tells Ports old (g.D.Disk.seen d) (g.D.Disk.faults d) t0 t0 c.args.phases) (sym c.hand_back.ensures)
    (none_served Tells Ports old (view_of c.new_port.new.self.core) c.new_port.ensures.idle (λ told config opened h before. c.in-Ok.ensures.answers.stands told config opened h before 0) (λ told. laws.itself told c.new_port.new.self.core.disk) t0 c.args.phases (front_whole t0 t0 [] (appends_none t0)))

pub returns-in-Err-clause-ends : goal.returns-in-Err-clause-ends
returns-in-Err-clause-ends g c =
    let Tells = g.D.Disk.tells in
    let Ports = g.D.Disk.ports_fail in
    let old = view_of c.args.engine.core in
    let t0 = g.K.Sink.taken c.args.sink.now in
    let laws = g.met.D.Disk g.world.𝓛 g.world.𝓜 g.world.𝓡 ((λ s x. x), (λ x. x), (λ x. x), λ x. x) in
    subst (λ d. Inside Tells Ports old (g.D.Disk.seen d) (g.D.Disk.faults d) t0 t0 c.args.phases) (sym c.into_disk.ensures)
    (none_served Tells Ports old (view_of c.new_port.new.self.core) c.new_port.ensures.idle (λ told config opened h before. c.in-Err.ensures.answers.stands told config opened h before 0) (λ told. laws.itself told c.new_port.new.self.core.disk) t0 c.args.phases (front_whole t0 t0 [] (appends_none t0)))
