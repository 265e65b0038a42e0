-- The newest entry of a key among those of several files. A file is the list of its pages' entries.
use Rattle.std.specs.Prelude.{◌≡◌, ◌<◌, ◌≤◌, ℕ, List, ◌∷◌, ◌++◌, All, Option, Some, None, nat_lt, if◌then◌else◌}
use Rattle.lethe_base.specs.Keys.{Bytes}
use Rattle.lethe_base.specs.declared.entry.Entry.{Entry}
use Rattle.lethe_file.specs.Finding.{IsEntryOf}

-- the file's entries of the key have places below this one
abbrev pub AreBelow : Bytes → ℕ → List (List Entry) → Type 0
AreBelow key place file = (entry : Entry) → IsEntryOf key file (Some entry) → entry.seq < place

-- none of them has a greater place
abbrev pub AreUpTo : Bytes → ℕ → List (List Entry) → Type 0
AreUpTo key place file = (entry : Entry) → IsEntryOf key file (Some entry) → entry.seq ≤ place

-- an entry of this file has the greatest place among the entries of the key, and no file before it has one of that place
pub record IsNewestAt (key : Bytes) (before : List (List (List Entry))) (file : List (List Entry)) (behind : List (List (List Entry))) (entry : Entry) : Type 0 where
  pub here : IsEntryOf key file (Some entry)
  pub first : All (AreBelow key entry.seq) before
  pub itself : AreUpTo key entry.seq file
  pub rest : All (AreUpTo key entry.seq) behind

-- it is the entry of greatest place among the files' entries of the key, of equal places the first file's; None where no file has the key
abbrev pub IsNewestIn : Bytes → List (List (List Entry)) → Option Entry → Type 0
IsNewestIn key files None = All (λ file. IsEntryOf key file None) files
IsNewestIn key files (Some entry) = (before : List (List (List Entry))) × (file : List (List Entry)) × (behind : List (List (List Entry))) × (files ≡ before ++ file ∷ behind) × IsNewestAt key before file behind entry

-- of two the one of greater place, of equal places the first
abbrev pub newer_of : Option Entry → Option Entry → Option Entry
newer_of None found = found
newer_of (Some newest) None = Some newest
newer_of (Some newest) (Some found) = if nat_lt newest.seq found.seq then Some found else Some newest

-- the file has at most one entry of the key
abbrev pub HasAtMostOne : Bytes → List (List Entry) → Type 0
HasAtMostOne key file = (a b : Entry) → IsEntryOf key file (Some a) → IsEntryOf key file (Some b) → a ≡ b
