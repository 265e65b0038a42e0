-- Objects in a map as a directory.
use Rattle.std.specs.Prelude.{ℕ, List, length, map, Vec, Option, Some, None, nat_le, if◌then◌else◌}
use Rattle.std.specs.BTreeMap.{BTreeMap}
use Rattle.std.specs.FinMap.{from_entries, code}
use Rattle.std.specs.Coded.{Coded, coded_list, coded_ℕ}
use Rattle.std.specs.declared.alloc.Global.{Global}
use Rattle.lethe_base.specs.declared.name.Name.{Name}
use Rattle.lethe_base.specs.contracts.name.Name as name
use Rattle.lethe_disk.specs.Directory.{Directory, write_in}

-- how a directory is stored
abbrev pub directory_code : Coded Directory
directory_code = code name.the_row.coded (coded_list coded_ℕ)

-- the directory of these objects
abbrev pub directory_of : BTreeMap Name (Vec ℕ Global) → Directory
directory_of objects = from_entries (map (λ e. (e.0, e.1.items)) objects.entries)

-- a write changes an object that is there, from a place inside it or at its end, and else nothing
abbrev pub write_to : Option (List ℕ) → Directory → Name → ℕ → List ℕ → Directory
write_to None now name at bytes = now
write_to (Some old) now name at bytes = if nat_le at (length old) then write_in now name at bytes else now
