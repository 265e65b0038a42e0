-- Reading what the store consists of, where it begins in all manifests.
use Rattle.std.specs.Prelude.{ℕ, zero, suc, ◌+◌, ◌-◌, ◌^◌, ◌==◌, nat_le, List, [], ◌∷◌, length, take, drop, Option, Some, None, Result, Ok, Err, if◌then◌else◌}
use Rattle.std.specs.Int.{w8, w32, w64}
use Rattle.lethe_base.specs.Limits.{max_place, max_time}
use Rattle.lethe_base.specs.Results.{◌>>=◌}
use Rattle.lethe_base.specs.declared.pending.Pending.{Pending}
use Rattle.lethe_manifest.specs.Numbers.{number_within, number_above, cited_at}
use Rattle.lethe_manifest.specs.declared.manifest.Cited.{Cited}
use Rattle.lethe_manifest.specs.declared.manifest.LastCert.{LastCert}
use Rattle.lethe_manifest.specs.declared.parts.Parts.{Parts}
use Rattle.lethe_manifest.specs.declared.refused.ManifestRefused.{ManifestRefused}
use Rattle.lethe_manifest.specs.declared.refused.ManifestRefused.TheVariants.{Short, Order}

-- Certificates.

unfoldable pub certificate_at : List ℕ → ℕ → Result LastCert ManifestRefused
certificate_at bytes at = do
  number ← number_within w64 1 max_place bytes at
  clock ← number_within w64 0 max_time bytes (at + 8)
  before ← number_within w64 0 max_time bytes (at + 16)
  Ok (record { number = number; clock = clock; before = before })

-- a mark, and behind a mark of 1 the certificate
unfoldable pub marked_at : List ℕ → Result (Option LastCert × ℕ) ManifestRefused
marked_at bytes = do
  mark ← number_within w8 0 1 bytes 53
  if mark == 0 then Ok (None, 54) else (do
    certificate ← certificate_at bytes 54
    Ok (Some certificate, 78))

-- Lists.

-- so many items, one behind another, each read with the number in mind by which the one before is ordered
abbrev pub all_at : {A : Type 0} → (ℕ → List ℕ → ℕ → Result (A × ℕ) ManifestRefused) → (A → ℕ) → ℕ → ℕ → List ℕ → ℕ → Result (List A × ℕ) ManifestRefused
all_at read order zero last bytes at = Ok ([], at)
all_at read order (suc n) last bytes at = do
  first ← read last bytes at
  rest ← all_at read order n (order first.0) bytes first.1
  Ok (first.0 ∷ rest.0, rest.1)

-- an erase behind one of this place
unfoldable pub erase_at : ℕ → List ℕ → ℕ → Result (Pending × ℕ) ManifestRefused
erase_at last bytes at = do
  seq ← number_above last 1 max_place bytes at
  time ← number_within w64 0 max_time bytes (at + 8)
  lo ← number_within w64 0 (2 ^ 64 - 1) bytes (at + 16)
  hi ← number_above lo 0 (2 ^ 64 - 1) bytes (at + 24)
  Ok (record { seq = seq; time = time; range = record { lo = lo; hi = hi } }, at + 32)

unfoldable pub erases_at : List ℕ → ℕ → Result (List Pending × ℕ) ManifestRefused
erases_at bytes at = do
  count ← number_within w32 0 (2 ^ 32 - 1) bytes at
  all_at erase_at (λ erase. erase.seq) count 0 bytes (at + 4)

-- a segment, whatever stands before it
unfoldable pub segment_at : ℕ → ℕ → List ℕ → ℕ → Result (ℕ × ℕ) ManifestRefused
segment_at next last bytes at = do
  segment ← cited_at next bytes at
  Ok (segment, at + 8)

unfoldable pub segments_at : ℕ → List ℕ → ℕ → Result (List ℕ × ℕ) ManifestRefused
segments_at next bytes at = do
  count ← number_within w8 1 2 bytes at
  all_at (segment_at next) (λ segment. 0) count 0 bytes (at + 1)

-- a level that isn't below the one before
unfoldable pub level_at : ℕ → ℕ → List ℕ → ℕ → Result ℕ ManifestRefused
level_at levels last bytes at = do
  level ← number_within w8 0 levels bytes at
  if nat_le last level then Ok level else Err (Order at)

unfoldable pub digest_at : List ℕ → ℕ → Result (List ℕ × ℕ) ManifestRefused
digest_at bytes at = if nat_le (at + 32) (length bytes) then Ok (take 32 (drop at bytes), at + 32) else Err (Short at)

-- a file behind one of this level
unfoldable pub file_at : ℕ → ℕ → ℕ → List ℕ → ℕ → Result (Cited × ℕ) ManifestRefused
file_at next levels last bytes at = do
  level ← level_at levels last bytes at
  number ← cited_at next bytes (at + 1)
  swept ← number_within w64 0 max_place bytes (at + 9)
  digest ← digest_at bytes (at + 17)
  Ok (record { level = level; no = number; swept = swept; digest = digest.0 }, digest.1)

unfoldable pub files_at : ℕ → ℕ → List ℕ → ℕ → Result (List Cited × ℕ) ManifestRefused
files_at next levels bytes at = do
  count ← number_within w32 0 (2 ^ 32 - 1) bytes at
  all_at (file_at next levels) (λ file. file.level) count 0 bytes (at + 4)

-- All of them.

unfoldable pub parts_at : ℕ → ℕ → List ℕ → Result (Parts × ℕ) ManifestRefused
parts_at next levels bytes = do
  certificate ← marked_at bytes
  erases ← erases_at bytes certificate.1
  segments ← segments_at next bytes erases.1
  files ← files_at next levels bytes segments.1
  Ok (record { certificate = certificate.0; erases = erases.0; segments = segments.0; files = files.0 }, files.1)
