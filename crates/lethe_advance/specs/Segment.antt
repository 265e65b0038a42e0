-- The object of a segment without a record.
use Rattle.std.specs.Prelude.{ℕ, []}
use Rattle.lethe_segment.specs.Segments.{segment_bytes}
use Rattle.lethe_commit.specs.declared.objects.Object.{Object}
use Rattle.lethe_stored.specs.Stored.{segment_name}

abbrev pub empty_segment : ℕ → Object
empty_segment number = record { name = segment_name number; bytes = segment_bytes number [] }
