-- The objects that a manifest cites, in the order in which they are looked at, and what is wrong with one. An object may be cited more than once; each
-- citation is looked at by itself.
use Rattle.std.specs.Prelude.{◌≡◌, ◌⊎◌, ◌≢◌, ℕ, List, [], map, All, Any, Contains, Option, Some, None}
use Rattle.sha2.specs.Sha256.{sha256}
use Rattle.lethe_base.specs.declared.entry.Entry.{Entry}
use Rattle.lethe_base.specs.declared.name.Name.{Name}
use Rattle.lethe_disk.specs.Directory.{Directory, object}
use Rattle.lethe_header.specs.Facts.{lines_of}
use Rattle.lethe_header.specs.declared.header.Header.{Header}
use Rattle.lethe_header.specs.declared.header.PageLine.{PageLine}
use Rattle.lethe_file.specs.Agreement.{page_name}
use Rattle.lethe_manifest.specs.declared.manifest.Cited.{Cited}
use Rattle.lethe_manifest.specs.declared.manifest.Manifest.{Manifest}
use Rattle.lethe_commit.specs.Gates.{gate_name}
use Rattle.lethe_commit.specs.Switch.{manifest_name}
use Rattle.lethe_stored.specs.Clean.{Spells}
use Rattle.lethe_stored.specs.Files.{file_name}
use Rattle.lethe_stored.specs.Stored.{segment_name}
use Rattle.lethe_load.specs.Damaged.{IsHeaderOf}
use Rattle.lethe_audit.specs.Firsts.{IsFirstBut}
use Rattle.lethe_audit.specs.declared.answer.NoWhy.{NoWhy}
use Rattle.lethe_audit.specs.declared.answer.NoWhy.TheVariants as no

-- a name that is cited, with the digest that is told of it, if one is
pub record Citation : Type 0 where
  pub name : Name
  pub digest : Option (List ℕ)

abbrev pub segments_in : Manifest → List Citation
segments_in m = map (λ number. record { name = segment_name number; digest = None }) m.segments

abbrev pub header_in : Cited → Citation
header_in cited = record { name = file_name cited.no; digest = Some cited.digest }

abbrev pub page_in : PageLine → Citation
page_in line = record { name = page_name line.no; digest = Some line.digest }

abbrev pub pages_in : Header → List Citation
pages_in header = map page_in (lines_of header.tiles)

-- An object

-- these are all bytes of a spelling
abbrev pub IsSpelling : Name → List ℕ → Type 0
IsSpelling name bytes = (entries : List Entry) × Spells name.kind name.no bytes entries

abbrev pub HasDigest : Option (List ℕ) → List ℕ → Type 0
HasDigest None bytes = Unit {0}
HasDigest (Some digest) bytes = sha256 bytes ≡ digest

-- it is there, a spelling, and of the digest that is told
pub record IsIntact (d : Directory) (cited : Citation) : Type 0 where
  pub bytes : List ℕ
  pub there : object d cited.name ≡ Some bytes
  pub spelled : IsSpelling cited.name bytes
  pub digest : HasDigest cited.digest bytes

-- it is there, and no spelling
pub record IsMisspelled (d : Directory) (name : Name) : Type 0 where
  pub bytes : List ℕ
  pub there : object d name ≡ Some bytes
  pub unspelled : IsSpelling name bytes → ⊥

-- it is a spelling, and of another digest
pub record IsOther (d : Directory) (cited : Citation) : Type 0 where
  pub bytes : List ℕ
  pub there : object d cited.name ≡ Some bytes
  pub spelled : IsSpelling cited.name bytes
  pub other : HasDigest cited.digest bytes → ⊥

-- what is wrong with it
abbrev pub HasFlaw : Directory → Citation → NoWhy → Type 0
HasFlaw d cited no.Gate = ⊥
HasFlaw d cited no.Manifest = ⊥
HasFlaw d cited (no.Missing name) = (name ≡ cited.name) × (object d cited.name ≡ None)
HasFlaw d cited (no.Spelling name) = (name ≡ cited.name) × IsMisspelled d cited.name
HasFlaw d cited (no.Digest name) = (name ≡ cited.name) × IsOther d cited
HasFlaw d cited (no.Uncited name) = ⊥
HasFlaw d cited (no.Old seq since) = ⊥
HasFlaw d cited (no.Pending seq time) = ⊥

-- Files

-- its header is intact, and so is each page that this cites
pub record IsIntactFile (d : Directory) (cited : Cited) : Type 0 where
  pub header : Header
  pub is : IsHeaderOf d cited header
  pub pages : All (IsIntact d) (pages_in header)

-- of these objects the first that isn't intact, and what is wrong with it
abbrev pub HasFirstFlaw : Directory → List Citation → NoWhy → Type 0
HasFirstFlaw d items why = (cited : Citation) × IsFirstBut (IsIntact d) items cited × HasFlaw d cited why

-- the same of a file: of its header, or, where this is intact, of the pages that it cites
abbrev pub HasFlawInFile : Directory → Cited → NoWhy → Type 0
HasFlawInFile d cited why = HasFlaw d (header_in cited) why ⊎ ((header : Header) × IsHeaderOf d cited header × HasFirstFlaw d (pages_in header) why)

-- All that a manifest cites

pub record AreIntact (d : Directory) (m : Manifest) : Type 0 where
  pub segments : All (IsIntact d) (segments_in m)
  pub files : All (IsIntactFile d) m.files

-- the first that isn't intact, of the segments, and then of the files
abbrev pub HasFlawInParts : Directory → Manifest → NoWhy → Type 0
HasFlawInParts d m why = HasFirstFlaw d (segments_in m) why
    ⊎ (All (IsIntact d) (segments_in m) × ((cited : Cited) × IsFirstBut (IsIntactFile d) m.files cited × HasFlawInFile d cited why))

-- the file's header, or a page that this cites
abbrev pub IsOfFile : Directory → Name → Cited → Type 0
IsOfFile d name cited = (header : Header) × IsHeaderOf d cited header × ((name ≡ file_name cited.no) ⊎ Contains (map (λ line. page_name line.no) (lines_of header.tiles)) name)

-- the manifest's gate, the manifest, or what it cites
abbrev pub IsCitedBy : Directory → Manifest → Name → Type 0
IsCitedBy d m name = (name ≡ gate_name m.no) ⊎ (name ≡ manifest_name m.no) ⊎ Contains (map segment_name m.segments) name ⊎ Any (IsOfFile d name) m.files
