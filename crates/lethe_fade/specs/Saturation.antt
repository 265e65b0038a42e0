-- When a level has more than it should.
use Rattle.std.specs.Prelude.{ℕ, ◌+◌, ◌*◌, ◌^◌, Bool, ◌==◌, ◌&&◌, nat_le, nat_lt, if◌then◌else◌, List, length, sum_by}
use Rattle.lethe_base.specs.declared.config.Fields.{Fields}
use Rattle.lethe_base.specs.declared.shape.FileFacts.{FileFacts}

-- how many entries the files have together
abbrev pub entries_in : List FileFacts → ℕ
entries_in files = sum_by (λ file. file.entries) files

-- level 0 from `ratio` files on, a level behind it with more than `buffer * ratio^(level + 1)` entries, and the last never
abbrev pub is_saturated : Fields → ℕ → List FileFacts → Bool
is_saturated fields level files =
    if level == 0 then nat_le fields.ratio (length files) else (nat_lt level fields.levels && nat_lt (fields.buffer * fields.ratio ^ (level + 1)) (entries_in files))
