-- The records that bytes hold, as a segment or as what a crash left of one.
use Rattle.std.specs.Prelude.{◌≡◌, ◌≢◌, ℕ, List, [], ◌∷◌, ◌++◌}
use Rattle.lethe_segment.specs.declared.record.Record.{Record}
use Rattle.lethe_segment.specs.Segments.{head_bytes, open_records}

-- no gate, or one that isn't open
abbrev pub IsShut : List ℕ → Type 0
IsShut [] = Unit {0}
IsShut (gate ∷ rest) = gate ≢ 1

-- the bytes hold these records, up to the first gate that isn't open, whatever follows
pub record Holds (number : ℕ) (records : List Record) (bytes : List ℕ) : Type 0 where
  pub rest : List ℕ
  pub parts : bytes ≡ (head_bytes number ++ open_records records) ++ rest
  pub shut : IsShut rest
