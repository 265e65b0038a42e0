-- Erases that leave what is stored.
use Rattle.std.specs.Prelude.{ℕ, Bool, false, nat_le, ◌||◌, List, ◌++◌, map, filter, filter_map, Option, Some, None}
use Rattle.lethe_base.specs.Spent.{done_upto, is_above, least, put_place}
use Rattle.lethe_base.specs.declared.pending.Pending.{Pending}
use Rattle.lethe_manifest.specs.declared.manifest.Cited.{Cited}
use Rattle.lethe_segment.specs.declared.record.Record.{Record}
use Rattle.lethe_stored.specs.Stored.{Stored, erase_of, layout_of, pending_of, plain, records_of}

-- the place up to which all pending erases are done where a manifest cites these files and the segments have these records
abbrev pub done_by : List Cited → List Record → Option ℕ
done_by files records = least (map (λ file. file.swept) files ++ filter_map put_place (map plain records))

-- the place of the first erase that the segments record, if they record one
abbrev pub first_erase : Stored → Option ℕ
first_erase s = least (map (λ erase. erase.seq) (filter_map erase_of (records_of s)))

-- the place isn't in front of that
abbrev pub is_from : Option ℕ → ℕ → Bool
is_from None place = false
is_from (Some first) place = nat_le first place

-- the place lies above the one up to which all is done, or isn't in front of the first erase that is recorded
abbrev pub is_kept : Option ℕ → Option ℕ → ℕ → Bool
is_kept done first place = is_above done place || is_from first place

-- the pending erases of which that holds
abbrev pub kept_of : List Pending → Option ℕ → Option ℕ → List Pending
kept_of pending done first = filter (λ erase. is_kept done first erase.seq) pending

-- The erases that a manifest keeps: those that are still to be done, and those from the first on that a segment records, which a crash would bring back.
abbrev pub kept_erases : Stored → List Pending
kept_erases s = kept_of (pending_of s) (done_upto (layout_of s)) (first_erase s)

-- the same with these erases alone in its manifest
abbrev pub leaving : Stored → List Pending → Stored
leaving s erases = record s { manifest = record s.manifest { erases = erases } }

-- the erases that are spent, and that no segment records, have left
abbrev pub let_go : Stored → Stored
let_go s = leaving s (kept_erases s)
