-- Values that are gone for good.
use Rattle.std.specs.Prelude.{◌≡◌, ℕ, List, Contains, Some}
use Rattle.lethe_base.specs.Causes.{IsOverdue}
use Rattle.lethe_base.specs.History.{History}
use Rattle.lethe_base.specs.Matching.{IsPut}
use Rattle.lethe_base.specs.declared.entry.Entry.{Entry}
use Rattle.lethe_base.specs.declared.name.Name.{Name}
use Rattle.lethe_disk.specs.Directory.{Directory, object}
use Rattle.lethe_stored.specs.Clean.{Spells}

-- No object of the directory spells a value that was erased a threshold before the time, or longer ago.
abbrev pub HoldsNothingErased : ℕ → Directory → History → ℕ → Type 0
HoldsNothingErased threshold d h time = (name : Name) (bytes : List ℕ) (entries : List Entry) (entry : Entry) → object d name ≡ Some bytes → Spells name.kind name.no bytes entries
    → Contains entries entry → IsPut entry.body → IsOverdue threshold h time entry.seq → ⊥
