-- A manifest and its gate are written, the older two are removed, and the store is what the new manifest says.
use Rattle.std.specs.Prelude.{◌≡◌, ◌⊎◌, ◌↔◌, ◌<◌, ◌≤◌, ℕ, List, [], ◌∷◌, Contains, Option, Some, None, IsSome}
use Rattle.std.specs.FinMap.{insert}
use Rattle.lethe_base.specs.declared.name.Kind.TheVariants.{Manifest}
use Rattle.lethe_base.specs.declared.name.Name.{Name}
use Rattle.lethe_disk.specs.Directory.{Directory, object, IsNoneOf, SameBeside}
use Rattle.lethe_disk.specs.Disk.{Seen, Image}
use Rattle.lethe_commit.specs.Clear.{remove_all}
use Rattle.lethe_commit.specs.Gates.{gate_name, HasNoGate, IsGreatestGate}

abbrev pub manifest_name : ℕ → Name
manifest_name number = record { kind = Manifest; no = number }

-- the greatest gate has this number, or there is no gate
abbrev pub HasGreatest : Option ℕ → Directory → Type 0
HasGreatest None d = (number : ℕ) → object d (gate_name number) ≡ None
HasGreatest (Some greatest) d = IsSome (object d (gate_name greatest)) × ((number : ℕ) → greatest < number → object d (gate_name number) ≡ None)

-- in every image the greatest gate is this, no manifest has the number, and no gate has it or a greater one
pub record IsFree (disk : Seen) (number : ℕ) (greatest : Option ℕ) : Type 0 where
  pub no_manifest : (d : Directory) → Image disk d → object d (manifest_name number) ≡ None
  pub no_gate : (d : Directory) → Image disk d → (other : ℕ) → number ≤ other → object d (gate_name other) ≡ None
  pub greatest_gate : (d : Directory) → Image disk d → HasGreatest greatest d

-- what a switch writes
abbrev pub new_names : ℕ → List Name
new_names number = manifest_name number ∷ gate_name number ∷ []

-- what it removes: the older gate and its manifest
abbrev pub older_names : Option ℕ → List Name
older_names None = []
older_names (Some greatest) = gate_name greatest ∷ manifest_name greatest ∷ []

-- every object but the new two is as it was, and there is no new gate, or the new manifest is whole
pub record IsPlaced (number : ℕ) (bytes : List ℕ) (old left : Directory) : Type 0 where
  pub others : SameBeside (new_names number) old left
  pub either : (object left (gate_name number) ≡ None) ⊎ (object left (manifest_name number) ≡ Some bytes)

-- there is no new gate, and every object but the new manifest is as it was
pub record IsUnswitched (number : ℕ) (old left : Directory) : Type 0 where
  pub others : SameBeside (new_names number) old left
  pub no_gate : object left (gate_name number) ≡ None

-- The new gate is there and its manifest is whole. Each of the older two is as it was or absent, and every other object as it was.
pub record IsNew (number : ℕ) (bytes : List ℕ) (greatest : Option ℕ) (old left : Directory) : Type 0 where
  pub others : SameBeside (manifest_name number ∷ gate_name number ∷ older_names greatest) old left
  pub older : (name : Name) → IsNoneOf (new_names number) name → (object left name ≡ None) ⊎ (object left name ≡ object old name)
  pub gate : IsSome (object left (gate_name number))
  pub manifest : object left (manifest_name number) ≡ Some bytes

abbrev pub IsSwitched : ℕ → List ℕ → Option ℕ → Directory → Directory → Type 0
IsSwitched number bytes greatest old left = IsUnswitched number old left ⊎ IsNew number bytes greatest old left

-- the new gate is the greatest, and its manifest is whole
pub record HasNew (number : ℕ) (bytes : List ℕ) (left : Directory) : Type 0 where
  pub manifest : object left (manifest_name number) ≡ Some bytes
  pub greatest_gate : HasGreatest (Some number) left

-- the greatest gate is the old one, or the new one with its manifest
abbrev pub HasOldOrNew : Option ℕ → ℕ → List ℕ → Directory → Type 0
HasOldOrNew greatest number bytes left = HasGreatest greatest left ⊎ HasNew number bytes left

-- the directory with a manifest and its gate
abbrev pub placed : ℕ → List ℕ → Directory → Directory
placed number bytes d = insert (insert d (manifest_name number) bytes) (gate_name number) []

-- and without the older two
abbrev pub switched : ℕ → List ℕ → Option ℕ → Directory → Directory
switched number bytes greatest d = remove_all (older_names greatest) (placed number bytes d)

-- What was done is taken back: a read gives what it gave, and a crash leaves nothing that it couldn't leave before. So what no
-- image had is absent again, and where all was synced, all is.
pub record IsTakenBack (old new : Seen) : Type 0 where
  pub directory : new.directory ≡ old.directory
  pub images : (c : Directory) → Image new c → Image old c

-- names that tell which gate was the greatest, and whether its manifest is there
abbrev pub TellsOlder : List Name → Option ℕ → Directory → Type 0
TellsOlder names None d = HasNoGate names
TellsOlder names (Some greatest) d = IsGreatestGate names greatest × IsSome (object d (gate_name greatest))
    × (Contains names (manifest_name greatest) ↔ IsSome (object d (manifest_name greatest)))
