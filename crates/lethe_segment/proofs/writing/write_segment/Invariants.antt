use Rattle.std.specs.Prelude.{◌≡◌, ◌++◌, take}
use Rattle.lethe_segment.specs.Segments.{head_bytes, open_records}
use Rattle.lethe_segment.proofs.writing.write_segment.Given as goal

abbrev pub invariant-loop-record : goal.invariant-loop-record
invariant-loop-record l = l.out.items ≡ head_bytes l.number ++ open_records (take l.record-index l.records)
