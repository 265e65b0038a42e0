-- Which history a directory is kept for, in which configuration.
use Rattle.std.specs.Prelude.{◌≡◌, ◌⊎◌, ℕ, Bool, false, nat_le, [], length, count_by, None}
use Rattle.lethe_base.specs.History.{History, IsLegal, AreDone, after}
use Rattle.lethe_base.specs.Shapes.{IsValidShape, shape_of}
use Rattle.lethe_base.specs.Covers.{Covers}
use Rattle.lethe_base.specs.declared.call.Call.{Call}
use Rattle.lethe_base.specs.declared.call.Call.TheVariants.{Put, Delete, Erase, Tick, Work}
use Rattle.lethe_base.specs.declared.call.Did.{Did}
use Rattle.lethe_base.specs.declared.call.Did.TheVariants.{Done, Failed}
use Rattle.lethe_base.specs.declared.config.Fields.{Fields}
use Rattle.lethe_disk.specs.Directory.{Directory}
use Rattle.lethe_commit.specs.Switch.{HasGreatest}
use Rattle.lethe_stored.specs.Stored.{Stored, IsCoherent, layout_of, count_of, certificate_number}
use Rattle.lethe_stored.specs.Encodes.{Encodes}

-- a tick that is carried out at the threshold or later prepares a certificate
abbrev pub certifies : ℕ → Did → Call → Bool
certifies threshold Done (Put key dkey value) = false
certifies threshold Done (Delete key) = false
certifies threshold Done (Erase range) = false
certifies threshold Done (Tick to) = nat_le threshold to
certifies threshold Done Work = false
certifies threshold (Failed before after) call = false

-- how many certificates the history has prepared
abbrev pub certificates : ℕ → History → ℕ
certificates threshold h = count_by (λ change. certifies threshold change.did change.call) h

-- what is stored stands for the history, all of whose changes are done
pub record IsFor (h : History) (s : Stored) : Type 0 where
  pub legal : IsLegal h
  pub done : AreDone h
  pub covers : Covers s.manifest.config.threshold h (layout_of s)
  pub shape : IsValidShape (shape_of (layout_of s))
  pub clock : s.manifest.clock ≡ (after h).clock
  pub count : count_of s ≡ length h
  pub certificate : certificate_number s.manifest.certificate ≡ certificates s.manifest.config.threshold h

-- the directory encodes what has the configuration and stands for the history
pub record IsEncoded (config : Fields) (d : Directory) (h : History) : Type 0 where
  pub s : Stored
  pub config_is : s.manifest.config ≡ config
  pub coherent : IsCoherent s
  pub encodes : Encodes d s
  pub stands : IsFor h s

-- it does, or there is no gate and no history
abbrev pub IsKept : Fields → Directory → History → Type 0
IsKept config d h = (HasGreatest None d × (h ≡ [])) ⊎ IsEncoded config d h
