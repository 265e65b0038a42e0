-- The one spelling of an entry: its front, which is all up to the key, and its body.
use Rattle.std.specs.Prelude.{ℕ, ◌<◌, ◌≤◌, ◌^◌, List, [], ◌∷◌, ◌++◌, length, Option, Some, None, IsSome}
use Rattle.std.specs.Int.{w16, w64, to_be_bytes}
use Rattle.lethe_base.specs.Limits.{IsKey, IsValue, max_place, max_time}
use Rattle.lethe_base.specs.declared.entry.Body.{Body}
use Rattle.lethe_base.specs.declared.entry.Body.TheVariants.{Put, Tomb}
use Rattle.lethe_base.specs.declared.entry.Entry.{Entry}
use Rattle.lethe_base.specs.declared.front.BodyKind.{BodyKind}
use Rattle.lethe_base.specs.declared.front.BodyKind.TheVariants as kinds
use Rattle.lethe_base.specs.declared.front.Front.{Front}

abbrev pub kind_byte : BodyKind → ℕ
kind_byte kinds.Put = 1
kind_byte kinds.Tomb = 2

-- a mark, and behind a mark of 1 the time
abbrev pub since_bytes : Option ℕ → List ℕ
since_bytes None = 0 ∷ []
since_bytes (Some time) = 1 ∷ to_be_bytes w64 time

-- a byte of length, and that many bytes
abbrev pub key_bytes : List ℕ → List ℕ
key_bytes key = length key ∷ key

-- of a put its delete key, the length of its value and the value; of a tombstone nothing
abbrev pub body_bytes : Body → List ℕ
body_bytes (Put dkey value) = to_be_bytes w64 dkey ++ (to_be_bytes w16 (length value) ++ value)
body_bytes Tomb = []

unfoldable pub front_bytes : Front → List ℕ
front_bytes front = kind_byte front.kind ∷ (to_be_bytes w64 front.seq ++ (since_bytes front.since ++ key_bytes front.key))

-- The parts of an entry.

abbrev pub kind_of : Body → BodyKind
kind_of (Put dkey value) = kinds.Put
kind_of Tomb = kinds.Tomb

abbrev pub front_of : Entry → Front
front_of entry = record { kind = kind_of entry.body; seq = entry.seq; since = entry.since; key = entry.key }

abbrev pub entry_with : Front → Body → Entry
entry_with front body = record { seq = front.seq; key = front.key; body = body; since = front.since }

unfoldable pub entry_bytes : Entry → List ℕ
entry_bytes entry = front_bytes (front_of entry) ++ body_bytes entry.body

-- What has a spelling.

-- the place of a change in a history
abbrev pub IsPlace : ℕ → Type 0
IsPlace seq = (0 < seq) × (seq ≤ max_place)

-- a tombstone has a time
abbrev pub IsMarked : BodyKind → Option ℕ → Type 0
IsMarked kinds.Put since = Unit {0}
IsMarked kinds.Tomb since = IsSome since

abbrev pub IsTimeOrNone : Option ℕ → Type 0
IsTimeOrNone None = Unit {0}
IsTimeOrNone (Some time) = time ≤ max_time

pub record FrontHasSpelling (front : Front) : Type 0 where
  pub place : IsPlace front.seq
  pub marked : IsMarked front.kind front.since
  pub time : IsTimeOrNone front.since
  pub named : IsKey front.key

abbrev pub BodyHasSpelling : Body → Type 0
BodyHasSpelling (Put dkey value) = (dkey < 2 ^ 64) × IsValue value
BodyHasSpelling Tomb = Unit {0}

pub record HasSpelling (entry : Entry) : Type 0 where
  pub front : FrontHasSpelling (front_of entry)
  pub body : BodyHasSpelling entry.body
