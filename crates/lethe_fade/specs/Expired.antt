-- The merges that a time makes due: those of the files that have an entry which should have left their level by then.
use Rattle.std.specs.Prelude.{ℕ, ◌+◌, Bool, false, ◌==◌, if◌then◌else◌, nat_le, nat_lt, List, [], map, filter, Option, Some, None}
use Rattle.std.specs.declared.cmp.Ordering.{Ordering}
use Rattle.lethe_base.specs.declared.config.Fields.{Fields}
use Rattle.lethe_base.specs.declared.shape.FileFacts.{FileFacts}
use Rattle.lethe_base.specs.declared.shape.Shape.{Shape}
use Rattle.lethe_fade.specs.declared.rank.Age.{Age}
use Rattle.lethe_fade.specs.LevelTimes.{level_deadline}
use Rattle.lethe_fade.specs.Spans.{KeyRange, range_of, hull_of}
use Rattle.lethe_fade.specs.Ranks.{IsInOrder, age_cmp, sorted_by}
use Rattle.lethe_fade.specs.Candidates.{Candidate, merge_named, merges_from}

-- the time that a level has, counted from a time on, is over
abbrev pub is_passed : Fields → ℕ → ℕ → Option ℕ → Bool
is_passed fields clock level None = false
is_passed fields clock level (Some time) = nat_le (time + level_deadline fields level) clock

-- a file of the level has an entry that should have left it
abbrev pub is_expired : Fields → ℕ → ℕ → FileFacts → Bool
is_expired fields clock level file = is_passed fields clock level file.oldest

abbrev pub age_of : FileFacts → Age
age_of file = record { oldest = file.oldest; tombs = file.tombs; no = file.no }

abbrev pub expired_cmp : FileFacts → FileFacts → Ordering
expired_cmp a b = age_cmp (age_of a) (age_of b)

-- of level 0 all files are merged, whichever of them names the merge
abbrev pub sources_keys : ℕ → List FileFacts → FileFacts → KeyRange
sources_keys level files file = if level == 0 then hull_of files else range_of file

-- a merge for each of a level's expired files
abbrev pub expired_merges : Fields → ℕ → ℕ → List FileFacts → List FileFacts → List Candidate
expired_merges fields clock level files next =
    map (λ file. merge_named file.no level (sources_keys level files file) next) (sorted_by expired_cmp (filter (is_expired fields clock level) files))

-- the last level has no time
abbrev pub expired_from : Fields → ℕ → ℕ → List (List FileFacts) → List Candidate
expired_from fields clock = merges_from (λ level files next. if nat_lt level fields.levels then expired_merges fields clock level files next else [])

abbrev pub expired : Fields → ℕ → Shape → List Candidate
expired fields clock shape = expired_from fields clock 0 shape.levels

abbrev pub ExpiredComeInOrder : Type 0
ExpiredComeInOrder = (fields : Fields) (clock level : ℕ) (files : List FileFacts)
    → IsInOrder expired_cmp (filter (is_expired fields clock level) files) (sorted_by expired_cmp (filter (is_expired fields clock level) files))
