use Rattle.lethe_segment.specs.Records.{record_bytes}
use Rattle.lethe_segment.proofs.Standing.{unread_entry}
use Rattle.lethe_segment.proofs.reading.read_record.Goals as goal

pub returns-in-Ok-clause-found : goal.returns-in-Ok-clause-found
unfolding record_bytes
returns-in-Ok-clause-found c = c.in-Ok.ensures.found

pub returns-in-Err-clause-refused : goal.returns-in-Err-clause-refused
returns-in-Err-clause-refused c = rw c.refusal_at.ensures (unread_entry c.args.bytes.now c.args.at c.in-Err.why c.in_default.ensures c.in_default-read_erase.ensures c.in-Err.ensures.only)
