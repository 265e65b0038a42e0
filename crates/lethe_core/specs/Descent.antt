-- How much merges and sweeps have still to do.
use Rattle.std.specs.Prelude.{ℕ, ◌+◌, ◌*◌, ◌-◌, ◌^◌, ◌≤◌, nat_lt, List, count_by, sum_by, All}
use Rattle.lethe_base.specs.declared.pending.Pending.{Pending}
use Rattle.lethe_header.specs.Headers.{entries_in}
use Rattle.lethe_stored.specs.Files.{StoredFile, lines_in}
use Rattle.lethe_stored.specs.Stored.{Stored, count_of, pending_of}

-- of each entry of the files, how many levels it is above the deepest
abbrev pub steps_down : ℕ → List StoredFile → ℕ
steps_down deepest files = sum_by (λ file. (deepest - file.level) * entries_in (lines_in file)) files

-- of each file, how many of the erases it isn't swept of
abbrev pub unswept_pairs : List StoredFile → List Pending → ℕ
unswept_pairs files erases = sum_by (λ file. count_by (λ erase. nat_lt file.swept erase.seq) erases) files

-- the places of all pending erases are counted, as those of a store are that stands for a history
abbrev pub HasCountedErases : Stored → Type 0
HasCountedErases s = All (λ erase. erase.seq ≤ count_of s) (pending_of s)

-- A merge brings entries a level down, and what a merge that was just begun makes is swept up to the count, so that it waits for no erase. A sweep brings none up, and makes a pair less.
abbrev pub jobs_left : Stored → ℕ
jobs_left s = steps_down s.manifest.config.levels s.files + unswept_pairs s.files (pending_of s)

-- A store whose manifest was altered may have erases pending that it doesn't count. What a merge makes there may wait for them, so each step down counts for more than all pairs, of
-- which there are fewer than 2^64.
abbrev pub jobs_at_most : Stored → ℕ
jobs_at_most s = steps_down s.manifest.config.levels s.files * 2 ^ 64 + unswept_pairs s.files (pending_of s)
