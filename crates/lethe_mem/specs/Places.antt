-- Where a key stands among entries in the order of their keys.
use Rattle.std.specs.Prelude.{◌≡◌, ℕ, zero, suc, List, [], ◌∷◌}
use Rattle.std.specs.declared.cmp.Ordering.TheVariants.{Less, Equal, Greater}
use Rattle.lethe_base.specs.Keys.{Bytes, key_cmp}
use Rattle.lethe_base.specs.declared.entry.Entry.{Entry}

-- the entry at this place has the key, and those before it have lower ones
abbrev pub IsAt : Bytes → List Entry → ℕ → Type 0
IsAt key [] place = ⊥
IsAt key (entry ∷ entries) zero = key_cmp key entry.key ≡ Equal
IsAt key (entry ∷ entries) (suc place) = (key_cmp key entry.key ≡ Greater) × IsAt key entries place

-- the key would go to this place: lower keys stand before it, and a higher one there, or none
abbrev pub IsGap : Bytes → List Entry → ℕ → Type 0
IsGap key [] zero = Unit {0}
IsGap key [] (suc place) = ⊥
IsGap key (entry ∷ entries) zero = key_cmp key entry.key ≡ Less
IsGap key (entry ∷ entries) (suc place) = (key_cmp key entry.key ≡ Greater) × IsGap key entries place
