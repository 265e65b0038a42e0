-- Which puts an erase matches, and what an entry answers under erases.
use Rattle.std.specs.Prelude.{ℕ, Bool, ◌&&◌, nat_lt, List, Option, Some, None, if◌then◌else◌}
use Rattle.std.specs.List.{list_any}
use Rattle.lethe_base.specs.Ranges.{in_range}
use Rattle.lethe_base.specs.History.{Pair}
use Rattle.lethe_base.specs.declared.entry.Body.{Body}
use Rattle.lethe_base.specs.declared.entry.Body.TheVariants.{Put, Tomb}
use Rattle.lethe_base.specs.declared.entry.Entry.{Entry}
use Rattle.lethe_base.specs.declared.pending.Pending.{Pending}

abbrev pub IsPut : Body → Type 0
IsPut (Put dkey value) = Unit {0}
IsPut Tomb = ⊥

-- whether the erase stands behind a put's place, with its delete key in range
abbrev pub matches : Pending → ℕ → ℕ → Bool
matches erase seq dkey = nat_lt seq erase.seq && in_range erase.range dkey

-- what a body answers at its place, where the erases are applied
abbrev pub pair_under : List Pending → ℕ → Body → Option Pair
pair_under erases seq (Put dkey value) = if list_any (λ erase. matches erase seq dkey) erases then None else Some (dkey, value)
pair_under erases seq Tomb = None

-- what an entry answers of its key, where the erases are applied
abbrev pub answer_under : List Pending → Entry → Option Pair
answer_under erases entry = pair_under erases entry.seq entry.body
