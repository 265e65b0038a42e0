-- Bytes that begin with a segment's head, and where others stop being one.
use Rattle.std.specs.Prelude.{◌≡◌, ℕ, ◌+◌, ◌<◌, ◌^◌, List, ◌++◌, take}
use Rattle.lethe_segment.specs.Segments.{head_bytes}

-- the bytes begin with the head of the segment of this number
pub record HasHead (number : ℕ) (bytes : List ℕ) : Type 0 where
  pub fits : number < 2 ^ 64
  pub rest : List ℕ
  pub parts : bytes ≡ head_bytes number ++ rest

abbrev pub IsNoHead : List ℕ → Type 0
IsNoHead bytes = (number : ℕ) (rest : List ℕ) → bytes ≡ head_bytes number ++ rest → ⊥

-- up to this place the bytes are as in some head, and in none one byte further
pub record IsHeadFault (bytes : List ℕ) (at : ℕ) : Type 0 where
  pub inside : at < 11
  pub number : ℕ
  pub begins : take at bytes ≡ take at (head_bytes number)
  pub no_further : (other : ℕ) → take (at + 1) bytes ≡ take (at + 1) (head_bytes other) → ⊥
