-- The certificate of a tick.
use Rattle.std.specs.Prelude.{◌≡◌, ◌<◌, ℕ, ◌+◌, List, nat_le, Option, Some, None, option_map, if◌then◌else◌}
use Rattle.sha2.specs.Sha256.{sha256}
use Rattle.lethe_cert.specs.declared.certificate.Certificate.{Certificate}
use Rattle.lethe_manifest.specs.Manifests.{manifest_bytes}
use Rattle.lethe_manifest.specs.declared.manifest.LastCert.{LastCert}
use Rattle.lethe_manifest.specs.declared.manifest.Manifest.{Manifest}

-- with the digest of the manifest that has prepared it
abbrev pub certificate_with : List ℕ → LastCert → Certificate
certificate_with digest last = record { number = last.number; clock = last.clock; before = last.before; digest = digest }

-- of a tick to a time at the threshold or later, that which its manifest has prepared
abbrev pub certificate_of : Manifest → ℕ → Option Certificate
certificate_of manifest to = if nat_le manifest.config.threshold to then option_map (certificate_with (sha256 (manifest_bytes manifest))) manifest.certificate else None

-- a certificate is there exactly where the time is at least the threshold, and then it has that clock and the time a threshold before it
abbrev pub IsCertificateAt : ℕ → ℕ → Option Certificate → Type 0
IsCertificateAt threshold to None = to < threshold
IsCertificateAt threshold to (Some certificate) = (certificate.clock ≡ to) × (certificate.before + threshold ≡ to)
