-- What a directory has of what is stored, where nothing of it is torn.
use Rattle.std.specs.Prelude.{◌≡◌, [], All, Some}
use Rattle.lethe_disk.specs.Directory.{Directory, object}
use Rattle.lethe_segment.specs.Segments.{segment_bytes}
use Rattle.lethe_commit.specs.Gates.{gate_name}
use Rattle.lethe_stored.specs.Stored.{Stored, Segment, segment_name, segments_of}

-- the segment's object has its records, and no torn end behind them
abbrev pub IsPlain : Directory → Segment → Type 0
IsPlain d segment = object d (segment_name segment.no) ≡ Some (segment_bytes segment.no segment.records)

-- the gate is empty, and no segment has a torn end
pub record IsUntorn (s : Stored) (d : Directory) : Type 0 where
  pub gate : object d (gate_name s.manifest.no) ≡ Some []
  pub segments : All (IsPlain d) (segments_of s)
