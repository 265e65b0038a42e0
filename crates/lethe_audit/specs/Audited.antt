-- What an audit says of a certificate and the objects of a directory: yes, or the first reason why not. The reasons stand in their order.
use Rattle.std.specs.Prelude.{◌≡◌, ◌≢◌, ◌⊎◌, ℕ, ◌+◌, ◌-◌, ◌<◌, ◌^◌, min, List, [], All, Some, None}
use Rattle.std.specs.FinMap.{keys}
use Rattle.sha2.specs.Sha256.{sha256}
use Rattle.lethe_base.specs.declared.entry.Entry.{Entry}
use Rattle.lethe_base.specs.declared.name.Name.{Name}
use Rattle.lethe_base.specs.declared.pending.Pending.{Pending}
use Rattle.lethe_cert.specs.declared.certificate.Certificate.{Certificate}
use Rattle.lethe_disk.specs.Directory.{Directory, object}
use Rattle.lethe_manifest.specs.Manifests.{manifest_bytes}
use Rattle.lethe_manifest.specs.declared.manifest.LastCert.{LastCert}
use Rattle.lethe_manifest.specs.declared.manifest.Manifest.{Manifest}
use Rattle.lethe_commit.specs.Gates.{gate_name}
use Rattle.lethe_commit.specs.Switch.{HasGreatest}
use Rattle.lethe_load.specs.Damaged.{IsSpelled}
use Rattle.lethe_audit.specs.Firsts.{IsFirstBut}
use Rattle.lethe_audit.specs.Held.{AreHeld, ArePending, puts_in}
use Rattle.lethe_audit.specs.Objects.{IsSpelling, AreIntact, HasFlawInParts, IsCitedBy}
use Rattle.lethe_audit.specs.declared.answer.Audit.{Audit}
use Rattle.lethe_audit.specs.declared.answer.Audit.TheVariants as answer
use Rattle.lethe_audit.specs.declared.answer.NoWhy.{NoWhy}
use Rattle.lethe_audit.specs.declared.answer.NoWhy.TheVariants as no

-- The gate and its manifest

-- the greatest gate has this number and no bytes
pub record IsEmptyGate (d : Directory) (number : ℕ) : Type 0 where
  pub greatest : HasGreatest (Some number) d
  pub empty : object d (gate_name number) ≡ Some []

-- the greatest gate has bytes
pub record IsFilledGate (d : Directory) (name : Name) : Type 0 where
  pub number : ℕ
  pub greatest : HasGreatest (Some number) d
  pub named : name ≡ gate_name number
  pub bytes : List ℕ
  pub there : object d name ≡ Some bytes
  pub some : bytes ≢ []

-- what a manifest that has prepared the certificate says of it
abbrev pub last_of : Certificate → LastCert
last_of c = record { number = c.number; clock = c.clock; before = c.before }

-- The certificate tells of this manifest, which is the greatest gate's.
pub record IsToldOf (d : Directory) (c : Certificate) (m : Manifest) : Type 0 where
  pub gate : IsEmptyGate d m.no
  pub spelled : IsSpelled d m.no m
  pub digest : sha256 (manifest_bytes m) ≡ c.digest
  pub last : m.certificate ≡ Some (last_of c)
  pub before : c.before + m.config.threshold ≡ c.clock

-- the greatest gate has no bytes, and the certificate doesn't tell of its manifest
pub record IsOfAnother (d : Directory) (c : Certificate) : Type 0 where
  pub number : ℕ
  pub gate : IsEmptyGate d number
  pub other : (m : Manifest) → IsToldOf d c m → ⊥

-- What the manifest cites, and what else is there

-- what it cites isn't intact, and why
pub record IsFlawed (d : Directory) (c : Certificate) (why : NoWhy) : Type 0 where
  pub manifest : Manifest
  pub told : IsToldOf d c manifest
  pub flaw : HasFlawInParts d manifest why

-- all that it cites is intact, but this is the first object that isn't cited
pub record HasUncited (d : Directory) (c : Certificate) (name : Name) : Type 0 where
  pub manifest : Manifest
  pub told : IsToldOf d c manifest
  pub intact : AreIntact d manifest
  pub first : IsFirstBut (IsCitedBy d manifest) (keys d) name

-- the directory is what the manifest of the certificate cites, each object intact, and nothing else
pub record IsWhole (d : Directory) (c : Certificate) (m : Manifest) : Type 0 where
  pub told : IsToldOf d c m
  pub intact : AreIntact d m
  pub cited : All (IsCitedBy d m) (keys d)

-- Times

-- it has no time, or one behind `before`
abbrev pub IsYoung : ℕ → Entry → Type 0
IsYoung before entry = (since : ℕ) → entry.since ≡ Some since → before < since

abbrev pub IsLate : ℕ → Pending → Type 0
IsLate before erase = before < erase.time

-- of all entries that are held the first with a time at `before` or earlier
pub record HasOld (d : Directory) (c : Certificate) (seq since : ℕ) : Type 0 where
  pub manifest : Manifest
  pub whole : IsWhole d c manifest
  pub held : List Entry
  pub all : AreHeld d held
  pub entry : Entry
  pub first : IsFirstBut (IsYoung c.before) held entry
  pub place : entry.seq ≡ seq
  pub time : entry.since ≡ Some since

-- all entries are young, and of the pending erases this is the first with a time at `before` or earlier
pub record HasPending (d : Directory) (c : Certificate) (seq time : ℕ) : Type 0 where
  pub manifest : Manifest
  pub whole : IsWhole d c manifest
  pub held : List Entry
  pub all : AreHeld d held
  pub young : All (IsYoung c.before) held
  pub erases : List Pending
  pub pending : ArePending d manifest erases
  pub erase : Pending
  pub first : IsFirstBut (IsLate c.before) erases erase
  pub place : erase.seq ≡ seq
  pub timed : erase.time ≡ time

-- The answer

-- the first reason that applies
abbrev pub IsNo : Directory → Certificate → NoWhy → Type 0
IsNo d c no.Gate = HasGreatest None d
IsNo d c no.Manifest = IsOfAnother d c
IsNo d c (no.Missing name) = IsFlawed d c (no.Missing name)
IsNo d c (no.Spelling name) = IsFilledGate d name ⊎ IsFlawed d c (no.Spelling name)
IsNo d c (no.Digest name) = IsFlawed d c (no.Digest name)
IsNo d c (no.Uncited name) = HasUncited d c name
IsNo d c (no.Old seq since) = HasOld d c seq since
IsNo d c (no.Pending seq time) = HasPending d c seq time

-- none applies
pub record IsAudited (d : Directory) (c : Certificate) : Type 0 where
  pub manifest : Manifest
  pub whole : IsWhole d c manifest
  pub held : List Entry
  pub all : AreHeld d held
  pub young : All (IsYoung c.before) held
  pub erases : List Pending
  pub pending : ArePending d manifest erases
  pub late : All (IsLate c.before) erases

abbrev pub IsAnswer : Directory → Certificate → Audit → Type 0
IsAnswer d c (answer.Yes puts) = (audited : IsAudited d c) × (puts ≡ min (puts_in audited.held) (2 ^ 64 - 1))
IsAnswer d c (answer.No why) = IsNo d c why
