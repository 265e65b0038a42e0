use Rattle.lethe_segment.proofs.HeadLaws.{no_number}
use Rattle.lethe_segment.proofs.head.segment_number.Goals as goal

pub returns : goal.returns
returns c = rw c.ok.ensures.value (no_number c.args.bytes.now c.read_head.result c.read_head.ensures.number c.read_head.ensures.fault)
