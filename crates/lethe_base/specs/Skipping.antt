-- Where parts of an entry end, as reading them says.
use Rattle.std.specs.Prelude.{ℕ, ◌-◌, List, length, Result, Ok}
use Rattle.lethe_base.specs.Reading.{body_at, front_at, key_at, value_at}
use Rattle.lethe_base.specs.Results.{◌>>=◌}
use Rattle.lethe_base.specs.declared.front.BodyKind.{BodyKind}
use Rattle.lethe_base.specs.declared.front.Front.{Front}
use Rattle.lethe_base.specs.declared.reading.EntryRefused.{EntryRefused}
use Rattle.lethe_base.specs.declared.skipping.FrontEnd.{FrontEnd}

abbrev pub key_end_at : List ℕ → ℕ → Result ℕ EntryRefused
key_end_at bytes at = key_at bytes at >>= λ key. Ok key.1

abbrev pub value_end_at : List ℕ → ℕ → Result ℕ EntryRefused
value_end_at bytes at = value_at bytes at >>= λ value. Ok value.1

-- a front that was read up to a place: its key stands just in front of that
abbrev pub front_end_of : Front × ℕ → FrontEnd
front_end_of front = record { kind = front.0.kind; key = front.1 - length front.0.key; end = front.1 }

abbrev pub front_end_at : List ℕ → ℕ → Result FrontEnd EntryRefused
front_end_at bytes at = front_at bytes at >>= λ front. Ok (front_end_of front)

abbrev pub body_end_at : BodyKind → List ℕ → ℕ → Result ℕ EntryRefused
body_end_at kind bytes at = body_at kind bytes at >>= λ body. Ok body.1
