-- The task that a plan stands for, among the files of a store.
use Rattle.std.specs.Prelude.{ℕ, ◌+◌, ◌==◌, ◌&&◌, ◌||◌, nat_lt, Bool, not, List, [], ◌∷◌, ◌++◌, fold, filter, find, Option, option_map}
use Rattle.std.specs.List.{list_any}
use Rattle.lethe_base.specs.declared.config.Fields.{Fields}
use Rattle.lethe_base.specs.declared.pending.Pending.{Pending}
use Rattle.lethe_fade.specs.Spans.{KeyRange, joined, overlaps}
use Rattle.lethe_fade.specs.declared.plan.Plan.{Plan}
use Rattle.lethe_follows.specs.Merged.{erases_upto}
use Rattle.lethe_header.specs.Facts.{least_key, greatest_key}
use Rattle.lethe_stored.specs.Files.{StoredFile}
use Rattle.lethe_job.specs.Tasks.{PlainMerge}

-- the keys that a file may have, by its header
abbrev pub range_in : StoredFile → KeyRange
range_in file = record { lo = least_key file.header.tiles; hi = greatest_key file.header.tiles }

-- the least range with all keys of a range and of some files
abbrev pub hull_with : KeyRange → List StoredFile → KeyRange
hull_with keys files = fold (λ keys file. joined keys (range_in file)) keys files

-- the least range with all keys of some files, of which there has to be one
abbrev pub hull_in : List StoredFile → KeyRange
hull_in [] = record { lo = []; hi = [] }
hull_in (first ∷ others) = hull_with (range_in first) others

-- the file has that number, and stands above the last level
abbrev pub is_named : ℕ → ℕ → StoredFile → Bool
is_named levels number file = nat_lt file.level levels && file.header.no == number

-- the level of the first such file
abbrev pub level_named : ℕ → ℕ → List StoredFile → Option ℕ
level_named levels number files = option_map (λ file. file.level) (find (is_named levels number) files)

-- of level 0 each file is a source, and of another level the one of that number
abbrev pub is_source : ℕ → ℕ → StoredFile → Bool
is_source level number file = file.level == level && (level == 0 || file.header.no == number)

abbrev pub sources_in : ℕ → ℕ → List StoredFile → List StoredFile
sources_in level number files = filter (is_source level number) files

-- the files of a level that overlap a range
abbrev pub met_in : ℕ → KeyRange → List StoredFile → List StoredFile
met_in level keys files = filter (λ file. file.level == level && overlaps keys (range_in file)) files

-- the file is of a deeper level, and overlaps a range
abbrev pub is_below : ℕ → KeyRange → StoredFile → Bool
is_below level keys file = nat_lt level file.level && overlaps keys (range_in file)

abbrev pub lies_below : ℕ → KeyRange → List StoredFile → Bool
lies_below level keys files = list_any (is_below level keys) files

-- the task with these sources, which meets those files of the next level that they overlap, and applies the erases up to the place
abbrev pub merge_from : ℕ → Plan → List StoredFile → List StoredFile → List StoredFile → Fields → List Pending → ℕ → PlainMerge
merge_from level plan files sources met config erases upto = record {
  plan = plan;
  level = level;
  sources = sources;
  met = met;
  alone = not (lies_below (level + 1) (hull_in (sources ++ met)) files);
  erases = erases_upto upto erases;
  upto = upto;
  config = config;
}

abbrev pub merge_in : ℕ → Plan → List StoredFile → Fields → List Pending → ℕ → PlainMerge
merge_in level plan files config erases upto =
    merge_from level plan files (sources_in level plan.file files) (met_in (level + 1) (hull_in (sources_in level plan.file files)) files) config erases upto
