-- The gates among some names.
use Rattle.std.specs.Prelude.{◌≤◌, ℕ, List, Contains, Option, Some, None}
use Rattle.lethe_base.specs.declared.name.Kind.TheVariants.{Gate}
use Rattle.lethe_base.specs.declared.name.Name.{Name}

abbrev pub gate_name : ℕ → Name
gate_name number = record { kind = Gate; no = number }

abbrev pub HasNoGate : List Name → Type 0
HasNoGate names = (number : ℕ) → Contains names (gate_name number) → ⊥

-- this is the number of a gate, and none is greater
pub record IsGreatestGate (names : List Name) (number : ℕ) : Type 0 where
  pub there : Contains names (gate_name number)
  pub last : (other : ℕ) → Contains names (gate_name other) → other ≤ number

-- the greatest gate among the names, if there is one
abbrev pub IsGreatestOf : List Name → Option ℕ → Type 0
IsGreatestOf names None = HasNoGate names
IsGreatestOf names (Some number) = IsGreatestGate names number
