-- Level 0 as a store has it.
use Rattle.std.proofs.Common.{◌≡◌, ◌<◌, ◌≤◌, ◌*◌, ℕ, List, [], length, map, get_or, ap, ◌∙◌, arith}
use Rattle.std.specs.Prelude.{◌↔◌}
use Rattle.std.proofs.lemmas.List.{get_or-map, length-map}
use Rattle.std.proofs.lemmas.List.Sorted.{length_permutation}
use Rattle.lethe_disk.specs.declared.disk.Disk.{Ghosts}
use Rattle.lethe_manifest.specs.declared.manifest.Manifest.{Manifest}
use Rattle.lethe_stored.specs.Files.{Parts}
use Rattle.lethe_stored.specs.Levels.{HasFiles}
use Rattle.lethe_stored.specs.Stored.{Stored}
use Rattle.lethe_advance.specs.Shown.{parts_by_level, parts_in}
use Rattle.lethe_follows.specs.Merged.{at}
use Rattle.lethe_version.specs.Versions.{levels_of}
use Rattle.lethe_version.specs.declared.version.Version.{Version}
use Rattle.lethe_core.specs.Merges.{IsCrowded}
use Rattle.lethe_core.specs.Running.{Holds}
use Rattle.lethe_core.specs.View.{View}

-- a level has as many files as are stored in it
pub many_at : (s : Stored) (levels : List (List Parts)) → HasFiles s levels → (level : ℕ) → level < length levels → length (get_or levels level []) ≡ length (at level s.files)
many_at s levels is level below = length_permutation _ _ (is.each level below) ∙ length-map (at level s.files) _

-- files that readers have of a level are as many
pub many_shown : {D Page Port : Type 0} {disk : Ghosts D Page Port} (version : Version D Page Port disk) (level : ℕ) → level < length (parts_by_level version)
    → length (get_or (parts_by_level version) level []) ≡ length (get_or (levels_of version) level [])
many_shown {disk = disk} version level below =
    let many : length (parts_by_level version) ≡ length (levels_of version) = length-map (levels_of version) (map (parts_in {disk = disk})) in
    let within : level < length (levels_of version) = omega (arith, many, below) in
    ap length (get_or-map (map (parts_in {disk = disk})) (levels_of version) level [] [] within) ∙ length-map (get_or (levels_of version) level []) (parts_in {disk = disk})

-- so many files are in level 0 where level 0 is crowded
pub crowded_at : (view : View) (s : Stored) → Holds view s → (count : ℕ) → count ≡ length (get_or view.levels 0 []) → (2 * view.state.manifest.config.ratio ≤ count) ↔ IsCrowded s
crowded_at view s holds count many =
    let same : length (get_or view.levels 0 []) ≡ length (at 0 s.files) = many_at s view.levels holds.remembers.files 0 (let levels = holds.remembers.files.count in omega (arith, levels)) in
    let ratio : view.state.manifest.config.ratio ≡ s.manifest.config.ratio = ap (λ (m : Manifest). m.config.ratio) holds.remembers.manifest in (
      λ le. omega (arith, le, many, same, ratio),
      λ le. omega (arith, le, many, same, ratio),
    )
