-- What a sweep by one erase makes of a file's entries.
use Rattle.std.specs.Prelude.{◌≡◌, ℕ, Bool, false, List, [], ◌∷◌, Option, Some, None, if◌then◌else◌}
use Rattle.lethe_base.specs.Matching.{matches}
use Rattle.lethe_base.specs.Layout.{File}
use Rattle.lethe_base.specs.Held.{InFiles}
use Rattle.lethe_base.specs.declared.entry.Body.{Body}
use Rattle.lethe_base.specs.declared.entry.Body.TheVariants.{Put, Tomb}
use Rattle.lethe_base.specs.declared.entry.Entry.{Entry}
use Rattle.lethe_base.specs.declared.pending.Pending.{Pending}
use Rattle.lethe_cover.specs.Merged.{struck}

abbrev pub is_matched : Pending → ℕ → Body → Bool
is_matched erase seq (Put dkey value) = matches erase seq dkey
is_matched erase seq Tomb = false

-- a put that the erase matches goes where the file is alone, and else becomes a tombstone; what it doesn't match stays
abbrev pub swept_of : Bool → Pending → Entry → Option Entry
swept_of alone erase entry = if is_matched erase entry.seq entry.body then (if alone then None else Some (struck (erase ∷ []) entry)) else Some entry

-- the files that are made have what the sweep leaves of those that are taken, in which no key stands twice
pub record IsSwept (erase : Pending) (alone : Bool) (taken made : List File) : Type 0 where
  pub once : (entry other : Entry) → InFiles taken entry → InFiles taken other → entry.key ≡ other.key → entry ≡ other
  pub from : (output : Entry) → InFiles made output → (entry : Entry) × InFiles taken entry × (swept_of alone erase entry ≡ Some output)
  pub kept : (entry output : Entry) → InFiles taken entry → swept_of alone erase entry ≡ Some output → InFiles made output
