-- The names of the files that hold a disk's objects.
use Rattle.std.specs.Prelude.{◌≡◌, ◌<◌, ◌^◌, ℕ, zero, suc, ◌+◌, ◌/◌, ◌%◌, List, [], ◌∷◌, ◌++◌}
use Rattle.lethe_base.specs.declared.name.Kind.{Kind}
use Rattle.lethe_base.specs.declared.name.Kind.TheVariants.{Gate, Manifest, Segment, File, Page}
use Rattle.lethe_base.specs.declared.name.Name.{Name}

-- g, m, s, f and p
abbrev pub letter : Kind → ℕ
letter Gate = 103
letter Manifest = 109
letter Segment = 115
letter File = 102
letter Page = 112

-- the last so many decimal digits of a number, as text
abbrev pub digits : ℕ → ℕ → List ℕ
digits zero number = []
digits (suc count) number = digits count (number / 10) ++ (48 + number % 10) ∷ []

-- a letter for the kind, a dash, and the number in 20 digits
abbrev pub file_name : Name → List ℕ
file_name name = letter name.kind ∷ 45 ∷ digits 20 name.no

-- a file of this name holds an object
abbrev pub IsObjectFile : List ℕ → Type 0
IsObjectFile text = (name : Name) × (name.no < 2 ^ 64) × (text ≡ file_name name)
