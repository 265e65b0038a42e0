-- What the objects of a directory spell, as one list: entries, and the erases that are pending.
use Rattle.std.specs.Prelude.{◌≡◌, ℕ, ◌<◌, ◌^◌, not, List, ◌++◌, flat_map, filter_map, count_by, Some}
use Rattle.std.specs.FinMap.{keys}
use Rattle.std.specs.List.{AllZip}
use Rattle.lethe_base.specs.Shapes.{is_tomb}
use Rattle.lethe_base.specs.declared.entry.Entry.{Entry}
use Rattle.lethe_base.specs.declared.name.Name.{Name}
use Rattle.lethe_base.specs.declared.pending.Pending.{Pending}
use Rattle.lethe_disk.specs.Directory.{Directory, object}
use Rattle.lethe_manifest.specs.declared.manifest.Manifest.{Manifest}
use Rattle.lethe_segment.specs.declared.record.Record.{Record}
use Rattle.lethe_segment.specs.Segments.{segment_bytes, Ascends}
use Rattle.lethe_stored.specs.Clean.{Spells}
use Rattle.lethe_stored.specs.Stored.{segment_name, erase_of}

-- the object of the name spells these entries
pub record HasEntries (d : Directory) (name : Name) (entries : List Entry) : Type 0 where
  pub bytes : List ℕ
  pub there : object d name ≡ Some bytes
  pub spelled : Spells name.kind name.no bytes entries

-- Each object is a spelling, and these are the entries of all of them, in the order of their names, whether a manifest cites them or not.
pub record AreHeld (d : Directory) (held : List Entry) : Type 0 where
  pub lists : List (List Entry)
  pub each : AllZip (HasEntries d) (keys d) lists
  pub joined : held ≡ flat_map (λ list. list) lists

abbrev pub puts_in : List Entry → ℕ
puts_in entries = count_by (λ entry. not (is_tomb entry.body)) entries

-- the segment of this number spells these records, with no torn end
pub record HasAllRecords (d : Directory) (number : ℕ) (records : List Record) : Type 0 where
  pub fits : number < 2 ^ 64
  pub ascends : Ascends 0 records
  pub there : object d (segment_name number) ≡ Some (segment_bytes number records)

-- These erases are pending: the manifest's, and then those of the records of the segments that it cites, in its order.
pub record ArePending (d : Directory) (m : Manifest) (erases : List Pending) : Type 0 where
  pub segments : List (List Record)
  pub each : AllZip (HasAllRecords d) m.segments segments
  pub joined : erases ≡ m.erases ++ flat_map (filter_map erase_of) segments
