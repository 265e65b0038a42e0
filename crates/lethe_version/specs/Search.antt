-- What looking for a newer entry of a key gives, and what it may do.
use Rattle.std.specs.Prelude.{◌≡◌, ◌⊎◌, ◌+◌, ◌<◌, ◌≤◌, ℕ, List, ◌++◌, map, sum_by, All, Any, Option, Result, IfOk, IfSome, IsErrOf}
use Rattle.lethe_base.specs.Keys.{Bytes}
use Rattle.lethe_base.specs.declared.entry.Entry.{Entry}
use Rattle.lethe_base.specs.declared.name.Name.{Name}
use Rattle.lethe_disk.specs.Reads.{HasReadCause, IsFault}
use Rattle.lethe_disk.specs.declared.cursor.ReadRefused.{ReadRefused}
use Rattle.lethe_disk.specs.declared.cursor.ReadRefused.TheVariants.{Damaged}
use Rattle.lethe_file.specs.Agreement.{FileAgrees, entries_in}
use Rattle.lethe_file.specs.Damage.{IsDamagedFor, IsVouched}
use Rattle.lethe_header.specs.Facts.{lines_of}
use Rattle.lethe_header.specs.declared.header.Header.{Header}
use Rattle.lethe_version.specs.Newest.{IsNewestIn}
use Rattle.lethe_version.specs.Probing.{bound}

-- What was answered where files, given by their headers and their pages' bytes, were looked through for an entry newer than one that is
-- known, with the port's fetches and faults before and after.
pub record IsSearch {F : Type 0} (header : F → Header) (bytes : F → List (List ℕ)) (tells can_fail : Type 0) (key : Bytes) (files : List F) (newest : Option Entry)
    (old_fetches fetches old_faults faults : ℕ) (result : Result (Option Entry) ReadRefused) : Type 0 where
  pub found : tells → All (λ file. FileAgrees (header file).tiles (bytes file)) files → (earlier : List (List (List Entry))) → IsNewestIn key earlier newest
      → IfOk result (IsNewestIn key (earlier ++ map (λ file. map entries_in (bytes file)) files))
  pub few : fetches ≤ old_fetches + sum_by (λ file. bound key (header file)) files
  pub later : old_fetches ≤ fetches
  pub damaged : (name : Name) → IsErrOf result (Damaged name) → Any (λ file. IsDamagedFor tells key (header file).tiles (bytes file) name) files × (old_fetches < fetches)
  -- on any disk it is what was known, or has the key and is vouched for by a line of one of the files
  pub vouched : IfOk result (λ found. (found ≡ newest) ⊎ IfSome found (λ entry. (entry.key ≡ key) × Any (λ file. IsVouched (lines_of (header file).tiles) entry) files))
  pub undamaged : tells → All (λ file. FileAgrees (header file).tiles (bytes file)) files → (name : Name) → IsErrOf result (Damaged name) → ⊥
  pub cause : HasReadCause old_faults faults result
  pub fault : IsFault result → can_fail
