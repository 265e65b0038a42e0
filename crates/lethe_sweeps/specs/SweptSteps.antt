-- The step that puts what a sweep leaves of a file in the file's place.
use Rattle.std.specs.Prelude.{◌≡◌, ◌≢◌, ◌⊎◌, ℕ, ◌≤◌, List, [], ◌∷◌, map, All, AllPairs, Contains}
use Rattle.lethe_base.specs.declared.name.Name.{Name}
use Rattle.lethe_stored.specs.Files.{StoredFile, objects_in, objects_of}
use Rattle.lethe_stored.specs.Stored.{Stored}
use Rattle.lethe_advance.specs.Settled.{names_in}
use Rattle.lethe_advance.specs.Steps.{new_header, written_in}
use Rattle.lethe_advance.specs.declared.new_header.NewHeader.{NewHeader}
use Rattle.lethe_advance.specs.declared.step.Step.{Step}

-- Each object of what is made is the file's own, was written before, or is written. What the file has and nothing made has goes, or is left beside what is stored. What lay beside
-- that may go too.
pub record IsSweepStep (s t : Stored) (file : StoredFile) (made : List StoredFile) (loose left : List (Name × List ℕ)) (headers : List NewHeader) (step : Step) : Type 0 where
  pub headers_are : headers ≡ map new_header made
  pub older : step.older ≡ s.manifest.no
  pub manifest : step.manifest ≡ t.manifest
  pub merged : step.merged.items ≡ file.header.no ∷ []
  pub objects : All (λ named. Contains (objects_in file) named ⊎ (Contains loose named ⊎ Contains (written_in step) named)) (objects_of made)
  pub written : All (λ object. Contains (names_in (objects_of made)) object.name × (s.manifest.next ≤ object.name.no)) step.objects.items
  pub once : AllPairs (λ object other. object.name ≢ other.name) step.objects.items
  pub beside : All (λ object. Contains (names_in loose) object.name → ⊥) step.objects.items
  pub parted : All (λ name. Contains (names_in (objects_of made)) name ⊎ (Contains step.gone.items name ⊎ Contains (names_in left) name)) (names_in (objects_in file))
  pub gone : All (λ name. (Contains (names_in (objects_in file)) name ⊎ Contains (names_in loose) name) × (Contains (names_in (objects_of made)) name → ⊥)) step.gone.items
  pub gone_once : AllPairs (λ name other. name ≢ other) step.gone.items
