-- What a merge makes of lists of entries.
use Rattle.std.specs.Prelude.{◌≡◌, ℕ, Bool, true, false, nat_lt, List, [], ◌∷◌, map, Option, Some, None, option_and_then, if◌then◌else◌}
use Rattle.std.specs.List.{list_any}
use Rattle.lethe_base.specs.Keys.{Bytes, same_key}
use Rattle.lethe_base.specs.Entries.{IsAscending, entry_of}
use Rattle.lethe_base.specs.Matching.{matches}
use Rattle.lethe_base.specs.Shapes.{earlier}
use Rattle.lethe_base.specs.declared.entry.Body.{Body}
use Rattle.lethe_base.specs.declared.entry.Body.TheVariants.{Put, Tomb}
use Rattle.lethe_base.specs.declared.entry.Entry.{Entry}
use Rattle.lethe_base.specs.declared.pending.Pending.{Pending}

-- a put that an erase matches becomes a tombstone
abbrev pub body_under : List Pending → ℕ → Body → Body
body_under erases seq (Put dkey value) = if list_any (λ erase. matches erase seq dkey) erases then Tomb else Put dkey value
body_under erases seq Tomb = Tomb

-- the least time of the erases that match a put
abbrev pub time_under : List Pending → ℕ → ℕ → Option ℕ
time_under [] seq dkey = None
time_under (erase ∷ erases) seq dkey = earlier (if matches erase seq dkey then Some erase.time else None) (time_under erases seq dkey)

abbrev pub since_under : List Pending → ℕ → Body → Option ℕ → Option ℕ
since_under erases seq (Put dkey value) since = earlier since (time_under erases seq dkey)
since_under erases seq Tomb since = since

-- the entry where the erases are applied, with the least of its time and of those that match
abbrev pub struck : List Pending → Entry → Entry
struck erases entry = record entry { body = body_under erases entry.seq entry.body; since = since_under erases entry.seq entry.body entry.since }

-- of two entries the one of the greater place, or else the first, with the smaller of their times
abbrev pub newer_of : Entry → Option Entry → Entry
newer_of entry None = entry
newer_of entry (Some other) =
    if nat_lt entry.seq other.seq then record other { since = earlier entry.since other.since } else record entry { since = earlier entry.since other.since }

-- what is left of a key: its newest entry, with the least time that any entry of the key has
abbrev pub left_of : Bytes → List Entry → Option Entry
left_of key [] = None
left_of key (entry ∷ entries) = if same_key key entry.key then Some (newer_of entry (left_of key entries)) else left_of key entries

-- in an output that is alone there are no tombstones and no times
abbrev pub bared : Bool → Entry → Body → Option Entry
bared false entry body = Some entry
bared true entry (Put dkey value) = Some (record entry { since = None })
bared true entry Tomb = None

-- the list ascends by key, and has of each key what is left of it, where the erases are applied to the inputs
pub record IsMerged (inputs : List Entry) (erases : List Pending) (alone : Bool) (merged : List Entry) : Type 0 where
  pub ascending : IsAscending merged
  pub entries : (key : Bytes) → entry_of key merged ≡ option_and_then (λ entry. bared alone entry entry.body) (left_of key (map (struck erases) inputs))
