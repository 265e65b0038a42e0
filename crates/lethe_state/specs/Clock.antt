-- The clock of a store, which a tick alone changes.
use Rattle.std.specs.Prelude.{ℕ, ◌+◌, ◌-◌, min, nat_le, Option, Some, if◌then◌else◌}
use Rattle.lethe_base.specs.Limits.{max_place}
use Rattle.lethe_manifest.specs.declared.manifest.LastCert.{LastCert}
use Rattle.lethe_manifest.specs.declared.manifest.Manifest.{Manifest}
use Rattle.lethe_stored.specs.Stored.{certificate_number}

-- the threshold of its configuration, its time, and the last certificate that was prepared
pub record Clock : Type 0 where
  pub threshold : ℕ
  pub time : ℕ
  pub certificate : Option LastCert

-- as a manifest has it
abbrev pub clock_of : Manifest → Clock
clock_of manifest = record { threshold = manifest.config.threshold; time = manifest.clock; certificate = manifest.certificate }

-- Behind a tick to a time. One to the threshold or later prepares the next certificate, and another one leaves the last.
abbrev pub clock_at : Clock → ℕ → Clock
clock_at clock to = record {
  threshold = clock.threshold;
  time = to;
  certificate = if nat_le clock.threshold to then Some (record { number = min (certificate_number clock.certificate + 1) max_place; clock = to; before = to - clock.threshold }) else clock.certificate;
}
