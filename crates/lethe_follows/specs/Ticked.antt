-- What is stored once the clock has moved.
use Rattle.std.specs.Prelude.{ℕ, ◌+◌, ◌-◌, min, nat_le, Option, Some, if◌then◌else◌}
use Rattle.lethe_base.specs.Limits.{max_place}
use Rattle.lethe_manifest.specs.Followers.{follower}
use Rattle.lethe_manifest.specs.declared.change.Change.{Change}
use Rattle.lethe_manifest.specs.declared.manifest.LastCert.{LastCert}
use Rattle.lethe_manifest.specs.declared.manifest.Manifest.{Manifest}
use Rattle.lethe_stored.specs.Stored.{Stored, certificate_number, count_of, pending_of}
use Rattle.lethe_follows.specs.Leaving.{let_go}

-- A tick to the threshold or later prepares the next certificate, and another one leaves the last. The greatest number stays as it is: no store reaches it, but a manifest
-- may have it.
abbrev pub certificate_at : Manifest → ℕ → Option LastCert
certificate_at manifest to =
    if nat_le manifest.config.threshold to
    then Some (record { number = min (certificate_number manifest.certificate + 1) max_place; clock = to; before = to - manifest.config.threshold })
    else manifest.certificate

-- a change more, of this number, which leaves segments and files as they are
abbrev pub tick_change : Stored → ℕ → Change
tick_change s number = record { no = number; count = count_of s + 1; erases = pending_of s; segments = s.manifest.segments; files = s.manifest.files }

-- the manifest that follows by that change, with its clock at the time
abbrev pub clocked_manifest : Stored → ℕ → ℕ → Manifest
clocked_manifest s to number = record (follower s.manifest (tick_change s number)) { clock = to; certificate = certificate_at s.manifest to }

-- the clock at the time, with all that is pending
abbrev pub clocked : Stored → ℕ → ℕ → Stored
clocked s to number = record s { manifest = clocked_manifest s to number }

-- the clock at the time, where the erases that are spent have left
abbrev pub ticked : Stored → ℕ → ℕ → Stored
ticked s to number = let_go (clocked s to number)
