-- A record that comes behind those of the active segment.
use Rattle.lethe_segment.specs.declared.record.Record.{Record}
use Rattle.lethe_commit.specs.Append.{Addition}
use Rattle.lethe_stored.specs.Stored.{Stored}

abbrev pub addition : Stored → Record → Addition
addition s next = record { number = s.active.no; records = s.active.records; next = next }
