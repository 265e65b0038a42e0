use Rattle.lethe_load.specs.Loaded.{parts_in}
use Rattle.std.proofs.Common.{None, inl, map, ap, sym, subst, ◌∙◌}
use Rattle.std.specs.FinMap.{keys}
use Rattle.lethe_commit.specs.Gates.{IsGreatestOf}
use Rattle.lethe_disk.proofs.Quieting.{quiet_call, quiet_then}
use Rattle.lethe_load.proofs.Gated.{no_gate_of, greatest_of}
use Rattle.lethe_load.proofs.loading.load_greatest.Goals as goal

pub returns-in-Err-clause-quiet : goal.returns-in-Err-clause-quiet
returns-in-Err-clause-quiet g c = λ told. quiet_call c.names.result (g.D.Disk.seen c.args.disk.now) (g.D.Disk.seen c.names.new.self) (c.names.ensures.call told) (c.names.ensures.directory told)

pub returns-in-None-clause-found : goal.returns-in-None-clause-found
returns-in-None-clause-found g c = λ told.
    let d = (g.D.Disk.seen c.args.disk.now).directory in
    inl (no_gate_of c.deref.result.now d (c.deref.ensures.value ∙ c.in-Ok.ensures.done told) (subst (IsGreatestOf c.deref.result.now) c.in-None.is c.choose.ensures), (λ i. record { manifest = None; segments = (c.of.ensures ∙ c.new.ensures.items) i; files = map parts_in (c.new-in-None.ensures.items i) }))

pub returns-in-None-clause-quiet : goal.returns-in-None-clause-quiet
returns-in-None-clause-quiet g c = λ told. quiet_call c.names.result (g.D.Disk.seen c.args.disk.now) (g.D.Disk.seen c.names.new.self) (c.names.ensures.call told) (c.names.ensures.directory told)

pub load_gated-requires-clause-greatest : goal.load_gated-requires-clause-greatest
load_gated-requires-clause-greatest g c κs within = λ told.
    let d = (g.D.Disk.seen c.names.new.self).directory in
    greatest_of c.deref.result.now d c.in-Some.number (c.deref.ensures.value ∙ c.in-Ok.ensures.done told ∙ ap keys (sym (c.names.ensures.directory told))) c.in-Some.ensures

pub returns-in-Some-clause-quiet : goal.returns-in-Some-clause-quiet
returns-in-Some-clause-quiet g c = λ told. quiet_then (g.D.Disk.seen c.args.disk.now) (g.D.Disk.seen c.names.new.self) (g.D.Disk.seen c.load_gated.new.disk)
    (quiet_call c.names.result (g.D.Disk.seen c.args.disk.now) (g.D.Disk.seen c.names.new.self) (c.names.ensures.call told) (c.names.ensures.directory told)) (c.load_gated.ensures.quiet told)

pub returns-in-None-clause-spelled : goal.returns-in-None-clause-spelled
returns-in-None-clause-spelled g c = inl ((λ i. record { manifest = None; segments = (c.of.ensures ∙ c.new.ensures.items) i; files = map parts_in (c.new-in-None.ensures.items i) }))
