-- A disk on which nothing is left to chance.
use Rattle.std.specs.Prelude.{◌≡◌, ◌≢◌, ◌⊎◌, ◌<◌, ℕ, List, map, All, AllPairs, Contains, IsSome}
use Rattle.lethe_base.specs.declared.name.Kind.TheVariants.{Page}
use Rattle.lethe_base.specs.declared.name.Name.{Name}
use Rattle.lethe_disk.specs.Directory.{Directory, object}
use Rattle.lethe_disk.specs.Disk.{Seen, IsSynced}
use Rattle.lethe_stored.specs.Stored.{Stored, IsCoherent, IsCited}
use Rattle.lethe_stored.specs.Encodes.{Encodes, HasObject}

-- what a read gives is the one image, and encodes what is stored
pub record IsSettled (disk : Seen) (s : Stored) : Type 0 where
  pub synced : IsSynced disk
  pub coherent : IsCoherent s
  pub encodes : Encodes disk.directory s

abbrev pub names_in : List (Name × List ℕ) → List Name
names_in objects = map (λ named. named.0) objects

-- There is nothing but what is cited and these objects, which are loose: a job wrote them, and no manifest cites them yet.
pub record HasOnly (s : Stored) (loose : List (Name × List ℕ)) (d : Directory) : Type 0 where
  pub only : (name : Name) → IsSome (object d name) → IsCited s name ⊎ Contains (names_in loose) name
  pub there : All (HasObject d) loose

-- pages whose numbers were drawn before the next one, each once
pub record AreDrawn (next : ℕ) (names : List Name) : Type 0 where
  pub each : All (λ name. (name.kind ≡ Page) × (name.no < next)) names
  pub once : AllPairs (λ a b. a ≢ b) names

-- none of them is cited
abbrev pub AreUncited : Stored → List (Name × List ℕ) → Type 0
AreUncited s loose = All (λ named. IsCited s named.0 → ⊥) loose
