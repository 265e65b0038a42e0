-- How old the records of the segments are, and the erases that are still to be done.
use Rattle.std.specs.Prelude.{ℕ, ◌+◌, ◌<◌, List, [], ◌∷◌, All, Contains, Option, Some, None}
use Rattle.lethe_base.specs.Held.{IsRecorded}
use Rattle.lethe_base.specs.Layout as layout
use Rattle.lethe_base.specs.Layout.{Layout}
use Rattle.lethe_base.specs.Shapes.{earlier, shape_of}
use Rattle.lethe_base.specs.Spent.{left_erases}
use Rattle.lethe_base.specs.declared.pending.Pending.{Pending}
use Rattle.lethe_base.specs.declared.shape.Shape.{Shape}
use Rattle.lethe_cover.specs.Changes.{HasTime}
use Rattle.lethe_fade.specs.LevelTimes.{level_deadline}
use Rattle.lethe_segment.specs.Records.{record_seq}
use Rattle.lethe_segment.specs.declared.record.Record.{Record}
use Rattle.lethe_segment.specs.declared.record.Record.TheVariants as of
use Rattle.lethe_stored.specs.Stored.{Stored, layout_of, records_of}

-- of a layout: its erases are those that are still to be done
abbrev pub due_shape : Layout → Shape
due_shape l = record (shape_of l) { erases = left_erases l }

-- no record of a segment is as old as level 0 may have it
abbrev pub AreYoung : Stored → ℕ → Type 0
AreYoung s to = (r : layout.Record) (time : ℕ) → IsRecorded (layout_of s) r → HasTime r time → to < time + level_deadline s.manifest.config 0

-- no erase that is still to be done is a threshold old
abbrev pub AreLeftYoung : Stored → ℕ → Type 0
AreLeftYoung s to = All (λ erase. to < erase.time + s.manifest.config.threshold) (left_erases (layout_of s))

-- a segment records each erase of the manifest that stands behind a record of one
abbrev pub AreLaterRecorded : Stored → Type 0
AreLaterRecorded s = (r : Record) (erase : Pending) → Contains (records_of s) r → Contains s.manifest.erases erase → record_seq r < erase.seq → Contains (records_of s) (of.Erase erase)

-- the time that a record has
abbrev pub time_of : Record → Option ℕ
time_of (of.Entry entry) = entry.since
time_of (of.Blind place) = None
time_of (of.Erase erase) = Some erase.time

-- the least time of all records, also of those that later ones replace
abbrev pub oldest_in : List Record → Option ℕ
oldest_in [] = None
oldest_in (r ∷ records) = earlier (time_of r) (oldest_in records)
