-- Files that come into their levels, once they are shared.
use Rattle.std.specs.Prelude.{◌==◌, ℕ, List, map, filter}
use Rattle.lethe_disk.specs.declared.disk.Disk.{Ghosts}
use Rattle.lethe_file.specs.declared.view.FileView.{FileView}
use Rattle.lethe_version.specs.declared.sorting.SharedIn.{SharedIn}

-- those that come into the level
abbrev pub shared_in : {D Page Port : Type 0} {disk : Ghosts D Page Port} → ℕ → List (SharedIn D Page Port disk) → List (FileView D Page Port disk)
shared_in level added = map (λ new. new.file.file.value) (filter (λ new. new.level == level) added)
