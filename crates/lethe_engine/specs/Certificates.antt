-- What a certificate says.
use Rattle.std.specs.Prelude.{◌≡◌, ◌≤◌, ℕ, ◌+◌, length, Some}
use Rattle.sha2.specs.Sha256.{sha256}
use Rattle.lethe_base.specs.Causes.{erased}
use Rattle.lethe_base.specs.History.{History}
use Rattle.lethe_base.specs.Matching.{IsPut}
use Rattle.lethe_base.specs.declared.entry.Entry.{Entry}
use Rattle.lethe_cert.specs.declared.certificate.Certificate.{Certificate}
use Rattle.lethe_commit.specs.Switch.{HasGreatest, manifest_name}
use Rattle.lethe_disk.specs.Directory.{Directory, object}
use Rattle.lethe_manifest.specs.Manifests.{manifest_bytes}
use Rattle.lethe_manifest.specs.declared.manifest.Manifest.{Manifest}
use Rattle.lethe_stored.specs.Clean.{IsHeldIn}
use Rattle.lethe_stored.specs.Kept.{certificates}

-- The greatest gate's manifest has the certificate's clock and digest, and this count.
pub record HasCommitted (d : Directory) (certificate : Certificate) (count : ℕ) : Type 0 where
  pub manifest : Manifest
  pub greatest : HasGreatest (Some manifest.no) d
  pub there : object d (manifest_name manifest.no) ≡ Some (manifest_bytes manifest)
  pub digest : sha256 (manifest_bytes manifest) ≡ certificate.digest
  pub clock : manifest.clock ≡ certificate.clock
  pub count_is : manifest.count ≡ count

-- no object of the directory spells a value that was erased at this time or earlier
abbrev pub HoldsNoneErasedBy : Directory → History → ℕ → Type 0
HoldsNoneErasedBy d h before = (entry : Entry) → IsHeldIn d entry → IsPut entry.body → (since : ℕ) → erased h entry.seq ≡ Some since → since ≤ before → ⊥

-- The certificate is true of the directory and the history.
pub record IsTrueCertificate (threshold : ℕ) (certificate : Certificate) (d : Directory) (h : History) : Type 0 where
  pub before : certificate.before + threshold ≡ certificate.clock
  pub committed : HasCommitted d certificate (length h)
  pub gone : HoldsNoneErasedBy d h certificate.before
  pub number : certificate.number ≡ certificates threshold h
