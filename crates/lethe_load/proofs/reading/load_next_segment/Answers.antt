use Rattle.lethe_disk.proofs.Quieting.{quiet_itself}
use Rattle.lethe_load.specs.Refused.{IsUnreplayed, IsUnsound}
use Rattle.lethe_load.proofs.Refusals.{fails_so}
use Rattle.lethe_load.proofs.reading.load_next_segment.Goals as goal

pub returns-then-contains-clause-quiet : goal.returns-then-contains-clause-quiet
returns-then-contains-clause-quiet g c = λ told. quiet_itself (g.D.Disk.seen c.args.disk.now)

pub returns-in-Err-clause-refused : goal.returns-in-Err-clause-refused
returns-in-Err-clause-refused g c =
    let d = (g.D.Disk.seen c.args.disk.now).directory in
    fails_so g.D.Disk.tells (IsUnreplayed d c.args.number) (IsUnsound d c.args.earlier.now c.args.number) c.args.listing.now.faults (g.D.Disk.faults c.load_segment.new.disk) c.in-Err.why
    (λ told name bad. (bad.0, λ sound. bad.1 sound.1.0 sound.1.1)) c.in-Err.ensures.refused
