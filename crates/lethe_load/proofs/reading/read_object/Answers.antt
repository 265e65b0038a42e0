use Rattle.std.proofs.Common.{refl}
use Rattle.lethe_disk.specs.Directory.{object}
use Rattle.lethe_disk.proofs.Quieting.{quiet_itself, quiet_call}
use Rattle.lethe_disk.proofs.Objects.{absent_of}
use Rattle.lethe_load.proofs.reading.read_object.Goals as goal

pub returns-then-not-has-clause-refused : goal.returns-then-not-has-clause-refused
returns-then-not-has-clause-refused g c = λ told.
    let d = (g.D.Disk.seen c.args.disk.now).directory in (
      refl,
      absent_of (object d c.args.name) (λ there.
          let yes = (c.has.ensures d (c.requires.listed told)).1 there in
          let not_so = c.if-not-has.true in
          cc),
    )

pub returns-then-not-has-clause-quiet : goal.returns-then-not-has-clause-quiet
returns-then-not-has-clause-quiet g c = λ told. quiet_itself (g.D.Disk.seen c.args.disk.now)

pub read-requires : goal.read-requires
read-requires g c = λ told. (c.has.ensures (g.D.Disk.seen c.args.disk.now).directory (c.requires.listed told)).0 c.if-not-has.false

pub returns-in-Ok-clause-quiet : goal.returns-in-Ok-clause-quiet
returns-in-Ok-clause-quiet g c = λ told. quiet_call c.read.result (g.D.Disk.seen c.args.disk.now) (g.D.Disk.seen c.read.new.self) (c.read.ensures.call told) (c.read.ensures.directory told)

pub returns-in-Err-clause-quiet : goal.returns-in-Err-clause-quiet
returns-in-Err-clause-quiet g c = λ told. quiet_call c.read.result (g.D.Disk.seen c.args.disk.now) (g.D.Disk.seen c.read.new.self) (c.read.ensures.call told) (c.read.ensures.directory told)
