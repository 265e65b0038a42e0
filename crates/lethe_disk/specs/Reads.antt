-- Reading entries through a port.
use Rattle.std.specs.Prelude.{◌≡◌, ◌≤◌, ℕ, List, [], ◌∷◌, Option, Some, None, Result, IsErrOf}
use Rattle.lethe_base.specs.Counts.{Rose}
use Rattle.lethe_base.specs.declared.entry.Entry.{Entry}
use Rattle.lethe_disk.specs.declared.cursor.ReadRefused.{ReadRefused}
use Rattle.lethe_disk.specs.declared.cursor.ReadRefused.TheVariants.{ReadFault, Damaged, NoMemory}

-- what a cursor gave next, by the entries that it had before and has now
abbrev pub IsNext : Option Entry → List Entry → List Entry → Type 0
IsNext (Some entry) old new = old ≡ entry ∷ new
IsNext None old new = (old ≡ []) × (new ≡ [])

-- a fetch failed
abbrev pub IsFault : {T : Type 0} → Result T ReadRefused → Type 0
IsFault result = (before : ℕ) × (after : ℕ) × IsErrOf result (ReadFault before after)

-- The port's count of faults doesn't fall, and `ReadFault` comes only where it rose, with the count before and after.
pub record HasReadCause {T : Type 0} (old new : ℕ) (result : Result T ReadRefused) : Type 0 where
  pub later : old ≤ new
  pub fault : (before after : ℕ) → IsErrOf result (ReadFault before after) → (before ≡ old) × (after ≡ new) × Rose before after

-- a refusal with this count of faults before it
abbrev pub refused_since : ℕ → ReadRefused → ReadRefused
refused_since earlier (ReadFault before after) = ReadFault earlier after
refused_since earlier (Damaged name) = Damaged name
refused_since earlier NoMemory = NoMemory
