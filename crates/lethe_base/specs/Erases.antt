-- The one spelling of an erase, and which erases have it.
use Rattle.std.specs.Prelude.{ℕ, ◌<◌, ◌≤◌, ◌^◌, List, ◌++◌}
use Rattle.std.specs.Int.{w64, to_be_bytes}
use Rattle.lethe_base.specs.Limits.{max_time}
use Rattle.lethe_base.specs.Spelling.{IsPlace}
use Rattle.lethe_base.specs.declared.pending.Pending.{Pending}

-- the place of the erase, its time and the ends of its range
unfoldable pub erase_bytes : Pending → List ℕ
erase_bytes erase = to_be_bytes w64 erase.seq ++ (to_be_bytes w64 erase.time ++ (to_be_bytes w64 erase.range.lo ++ to_be_bytes w64 erase.range.hi))

-- it has the place of a change, a time, and a range with a delete key in it
pub record IsErase (erase : Pending) : Type 0 where
  pub place : IsPlace erase.seq
  pub time : erase.time ≤ max_time
  pub some : erase.range.lo < erase.range.hi
  pub hi : erase.range.hi < 2 ^ 64
