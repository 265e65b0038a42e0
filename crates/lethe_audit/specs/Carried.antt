-- Which history a directory carries, and what a certificate says of both.
use Rattle.std.specs.Prelude.{◌≡◌, ◌≤◌, ◌⊎◌, ℕ, ◌+◌, [], length, Some, None}
use Rattle.sha2.specs.Sha256.{sha256}
use Rattle.lethe_base.specs.Causes.{done_at, erased}
use Rattle.lethe_base.specs.Covered.{DeletesAreCovered, ErasesAreCovered}
use Rattle.lethe_base.specs.Fresh.{IsErasure}
use Rattle.lethe_base.specs.Held.{Holds, Shows, Tells}
use Rattle.lethe_base.specs.History.{History, IsLegal, AreDone, after, clock_before}
use Rattle.lethe_base.specs.Layout.{Layout}
use Rattle.lethe_base.specs.Matching.{IsPut}
use Rattle.lethe_base.specs.NewerAbove.{IsNewerAbove}
use Rattle.lethe_base.specs.Placed.{ArePlaced}
use Rattle.lethe_base.specs.SameMap.{IsMap}
use Rattle.lethe_base.specs.Shapes.{IsValidShape, shape_of}
use Rattle.lethe_base.specs.declared.call.Call.{Call}
use Rattle.lethe_base.specs.declared.config.Fields.{Fields}
use Rattle.lethe_base.specs.declared.entry.Entry.{Entry}
use Rattle.lethe_base.specs.declared.pending.Pending.{Pending}
use Rattle.lethe_cert.specs.declared.certificate.Certificate.{Certificate}
use Rattle.lethe_disk.specs.Directory.{Directory, object}
use Rattle.lethe_manifest.specs.Manifests.{manifest_bytes}
use Rattle.lethe_manifest.specs.declared.manifest.Manifest.{Manifest}
use Rattle.lethe_commit.specs.Switch.{HasGreatest, manifest_name}
use Rattle.lethe_stored.specs.Clean.{IsHeldIn}
use Rattle.lethe_stored.specs.Encodes.{Encodes}
use Rattle.lethe_stored.specs.Kept.{certificates}
use Rattle.lethe_stored.specs.Stored.{Stored, IsCoherent, layout_of, count_of, certificate_number}

-- Carried: as kept, but that nothing is asked of how old the times are

-- the time of a done delete or erase, however long ago
pub record IsTimed (h : History) (time : ℕ) : Type 0 where
  pub place : ℕ
  pub call : Call
  pub done : done_at h place ≡ Some call
  pub erasure : IsErasure call
  pub timed : time ≡ clock_before h place

-- each time that is held or told of is one
pub record AreTimed (h : History) (holds : Entry → ℕ → Type 0) (tells : Pending → Type 0) : Type 0 where
  pub entries : (entry : Entry) (swept since : ℕ) → holds entry swept → entry.since ≡ Some since → IsTimed h since
  pub erases : (erase : Pending) → tells erase → IsTimed h erase.time

-- what a layout says comes from the history, together it gives the history's map, and no erasure is forgotten
pub record Carries (h : History) (l : Layout) : Type 0 where
  pub places : ArePlaced h (Holds l) (Tells l)
  pub newer_above : IsNewerAbove l
  pub same_map : IsMap (Shows l) l.pending (after h).map
  pub deletes_covered : DeletesAreCovered h (Holds l) (Shows l)
  pub erases_covered : ErasesAreCovered h l
  pub times : AreTimed h (Holds l) (Tells l)

-- what is stored carries the history, all of whose changes are done
pub record IsCarriedBy (h : History) (s : Stored) : Type 0 where
  pub legal : IsLegal h
  pub done : AreDone h
  pub carries : Carries h (layout_of s)
  pub shape : IsValidShape (shape_of (layout_of s))
  pub clock : s.manifest.clock ≡ (after h).clock
  pub count : count_of s ≡ length h
  pub certificate : certificate_number s.manifest.certificate ≡ certificates s.manifest.config.threshold h

-- the directory encodes what has the configuration and carries the history
pub record IsCarriedIn (config : Fields) (d : Directory) (h : History) : Type 0 where
  pub s : Stored
  pub config_is : s.manifest.config ≡ config
  pub coherent : IsCoherent s
  pub encodes : Encodes d s
  pub carried : IsCarriedBy h s

-- it does, or there is no gate and no history
abbrev pub IsCarried : Fields → Directory → History → Type 0
IsCarried config d h = (HasGreatest None d × (h ≡ [])) ⊎ IsCarriedIn config d h

-- True

-- the greatest gate's manifest has the certificate's digest
pub record HasItsManifest (d : Directory) (c : Certificate) : Type 0 where
  pub manifest : Manifest
  pub greatest : HasGreatest (Some manifest.no) d
  pub there : object d (manifest_name manifest.no) ≡ Some (manifest_bytes manifest)
  pub digest : sha256 (manifest_bytes manifest) ≡ c.digest

-- The certificate is true of the directory and the history, whatever was done since.
pub record IsTrueOf (threshold : ℕ) (c : Certificate) (d : Directory) (h : History) : Type 0 where
  pub before : c.before + threshold ≡ c.clock
  pub committed : HasItsManifest d c
  -- no object of the directory spells a value that was erased at `before` or earlier
  pub gone : (entry : Entry) → IsHeldIn d entry → IsPut entry.body → (since : ℕ) → erased h entry.seq ≡ Some since → since ≤ c.before → ⊥
  pub number : c.number ≡ certificates threshold h
