-- What an empty disk is: left for no history, in any configuration, and neither damaged nor of another one.
use Rattle.std.proofs.Common.{◌≡◌, ℕ, Option, Some, None, [], inl, inr, refl, sym, subst}
use Rattle.std.specs.Prelude.{IsSome}
use Rattle.std.specs.FinMap as finmap
use Rattle.lethe_base.specs.Names.{name_cmp}
use Rattle.lethe_base.specs.declared.config.Fields.{Fields}
use Rattle.lethe_base.specs.declared.name.Name.{Name}
use Rattle.lethe_commit.specs.Gates.{gate_name}
use Rattle.lethe_commit.specs.Switch.{HasGreatest}
use Rattle.lethe_disk.specs.Directory.{Directory, object}
use Rattle.lethe_load.specs.Damaged.{IsDamaged}
use Rattle.lethe_load.specs.Refused.{HasOtherConfig}
use Rattle.lethe_memdisk.specs.Held.{fresh, seen_of}
use Rattle.lethe_recover.specs.Opening.{IsExhausted}
use Rattle.lethe_stored.specs.Kept.{IsKept}
use Rattle.lethe_stored.specs.Left.{IsKeptOr, IsLeft}
use Rattle.lethe_stored.specs.Numbers.{IsNextNumber}

-- nothing is there
abbrev pub empty_directory : Directory
empty_directory = finmap.empty

pub absent : (name : Name) → object empty_directory name ≡ None
absent name = finmap.get-empty name_cmp name

pub no_gate : HasGreatest None empty_directory
no_gate number = absent (gate_name number)

pub not_gated : (number : ℕ) → HasGreatest (Some number) empty_directory → ⊥
not_gated number greatest = let none : None ≡ object empty_directory (gate_name number) = sym (absent (gate_name number)) in nothing none greatest.0
  where
    nothing : {X : Type 0} {o : Option X} → None ≡ o → IsSome o → ⊥
    nothing none some = let clash = subst IsSome (sym none) some in cc

pub kept_for_nothing : (config : Fields) → IsKept config empty_directory []
kept_for_nothing config = inl (no_gate, refl)

kept_or : (config : Fields) → IsKeptOr config [] None empty_directory
kept_or config = ([], refl, kept_for_nothing config)

-- whatever it has room for
pub left_for_nothing : (config : Fields) (room : ℕ) → IsLeft config (seen_of (fresh empty_directory room [])) [] None
left_for_nothing config room = record { now = kept_or config; images = λ c is. subst (IsKeptOr config [] None) (sym is) (kept_or config) }

pub first_number : IsNextNumber empty_directory 3
first_number = inl (no_gate, refl)

pub only_first : (next : ℕ) → IsNextNumber empty_directory next → next ≡ 3
only_first next (inl new) = new.1
only_first next (inr of) = absurd (not_gated of.0.manifest.no of.2.greatest)

pub not_other : (config other : Fields) → HasOtherConfig config empty_directory other → ⊥
not_other config other is = not_gated is.manifest.no is.gated.greatest

pub not_exhausted : IsExhausted empty_directory → ⊥
not_exhausted is = not_gated is.s.manifest.no is.encodes.greatest

pub not_damaged : (config : Fields) (name : Name) → IsDamaged config empty_directory name → ⊥
not_damaged config name (inl bad) = not_gated bad.number bad.greatest
not_damaged config name (inr part) = not_gated part.0.no part.1.greatest
