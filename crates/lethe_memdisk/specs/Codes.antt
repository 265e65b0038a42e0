-- How the values that contracts see of the memory disk are stored.
use Rattle.std.specs.Prelude.{◌≡◌, ◌⊎◌, ℕ, Bool, true, false, List, refl}
use Rattle.std.proofs.Common.{inl, inr}
use Rattle.std.specs.Coded.{Coded, code_by, coded_ℕ, coded_bool, coded_list, coded×, coded⊎}
use Rattle.lethe_base.specs.declared.name.Name.{Name}
use Rattle.lethe_base.specs.contracts.name.Name as name
use Rattle.lethe_memdisk.specs.Effects.{Effect, Created, Written, Removed, Synced, Nothing}

-- an effect by its parts, and back
abbrev pub Parts : Type 0
Parts = (Name × List ℕ) ⊎ ((Name × (ℕ × List ℕ)) ⊎ (Name ⊎ Bool))

abbrev pub parts_of : Effect → Parts
parts_of (Created name bytes) = inl (name, bytes)
parts_of (Written name at bytes) = inr (inl (name, (at, bytes)))
parts_of (Removed name) = inr (inr (inl name))
parts_of Synced = inr (inr (inr true))
parts_of Nothing = inr (inr (inr false))

abbrev pub effect_by : Parts → Effect
effect_by (inl p) = Created p.0 p.1
effect_by (inr (inl p)) = Written p.0 (p.1).0 (p.1).1
effect_by (inr (inr (inl name))) = Removed name
effect_by (inr (inr (inr true))) = Synced
effect_by (inr (inr (inr false))) = Nothing

abbrev pub effect_again : (effect : Effect) → effect_by (parts_of effect) ≡ effect
effect_again (Created name bytes) = refl
effect_again (Written name at bytes) = refl
effect_again (Removed name) = refl
effect_again Synced = refl
effect_again Nothing = refl

abbrev pub effect_code : Coded Effect
effect_code = code_by Parts (coded⊎ (coded× name.the_row.coded (coded_list coded_ℕ)) (coded⊎ (coded× name.the_row.coded (coded× coded_ℕ (coded_list coded_ℕ))) (coded⊎ name.the_row.coded coded_bool))) parts_of effect_by effect_again

abbrev pub effects_code : Coded (List Effect)
effects_code = coded_list effect_code
