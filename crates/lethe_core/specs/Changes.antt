-- What a change of a store comes to.
use Rattle.std.specs.Prelude.{ℕ, ◌+◌, [], ◌∷◌, ◌++◌}
use Rattle.std.specs.FinMap as finmap
use Rattle.lethe_base.specs.Keys.{Bytes}
use Rattle.lethe_base.specs.Ranges.{Ends}
use Rattle.lethe_base.specs.declared.entry.Body.TheVariants.{Put}
use Rattle.lethe_disk.specs.Directory.{Directory}
use Rattle.lethe_segment.specs.declared.record.Record.{Record}
use Rattle.lethe_segment.specs.declared.record.Record.TheVariants as of
use Rattle.lethe_segment.specs.Segments.{segment_bytes}
use Rattle.lethe_cover.specs.Steps.{time_of}
use Rattle.lethe_stored.specs.Stored.{Stored, segment_name, count_of, layout_of}

-- the directory with the record behind those of the active segment
abbrev pub with_record : Directory → Stored → Record → Directory
with_record d s next = finmap.insert d (segment_name s.active.no) (segment_bytes s.active.no (s.active.records ++ next ∷ []))

-- the record of a put at the next place, with the time of the entry of the key in the active segment
abbrev pub put_over : Stored → Bytes → ℕ → Bytes → Record
put_over s key dkey value = of.Entry (record { seq = count_of s + 1; key = key; body = Put dkey value; since = time_of key (layout_of s) })

-- the record of an erase at the next place, with the clock
abbrev pub erase_over : Stored → Ends → Record
erase_over s range = of.Erase (record { seq = count_of s + 1; time = s.manifest.clock; range = range })
