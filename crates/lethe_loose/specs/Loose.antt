-- When a page may be written beside what is stored, and when the pages may be removed again.
use Rattle.std.specs.Prelude.{◌≢◌, ◌≤◌, ℕ, List, ◌++◌, AllPairs}
use Rattle.lethe_base.specs.declared.name.Name.{Name}
use Rattle.lethe_disk.specs.Disk.{Seen}
use Rattle.lethe_stored.specs.Stored.{Stored}
use Rattle.lethe_advance.specs.Settled.{IsSettled, HasOnly, AreDrawn, AreUncited, names_in}

-- The disk has what is stored and these pages alone, and the number hasn't been drawn.
pub record MayWrite (disk : Seen) (s : Stored) (written : List (Name × List ℕ)) (number : ℕ) : Type 0 where
  pub settled : IsSettled disk s
  pub only : HasOnly s written disk.directory
  pub drawn : AreDrawn number (names_in written)
  pub later : s.manifest.next ≤ number

-- The disk has what is stored, pages that stay and these, and nothing else. Each page stands there once, and none is cited.
pub record MayRemove (disk : Seen) (s : Stored) (left written : List (Name × List ℕ)) : Type 0 where
  pub settled : IsSettled disk s
  pub only : HasOnly s (left ++ written) disk.directory
  pub uncited : AreUncited s (left ++ written)
  pub once : AllPairs (λ a b. a ≢ b) (names_in (left ++ written))
