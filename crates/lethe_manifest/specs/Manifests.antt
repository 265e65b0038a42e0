-- The one spelling of a manifest, and which manifests have it.
use Rattle.std.specs.Prelude.{◌≡◌, ℕ, ◌<◌, ◌≤◌, ◌^◌, List, [], ◌∷◌, ◌++◌, length, flat_map, All, AllPairs, Option, Some, None}
use Rattle.std.specs.Int.{w16, w32, w64, to_be_bytes}
use Rattle.lethe_base.specs.Limits.{max_place, max_time}
use Rattle.lethe_base.specs.Spelling.{IsPlace}
use Rattle.lethe_base.specs.Erases.{erase_bytes, IsErase}
use Rattle.lethe_base.specs.Configuration.{IsConfig}
use Rattle.lethe_base.specs.declared.config.Fields.{Fields}
use Rattle.lethe_base.specs.declared.config.Pick.{Pick}
use Rattle.lethe_base.specs.declared.config.Pick.TheVariants.{So, Sd}
use Rattle.lethe_base.specs.declared.pending.Pending.{Pending}
use Rattle.lethe_manifest.specs.declared.manifest.Cited.{Cited}
use Rattle.lethe_manifest.specs.declared.manifest.LastCert.{LastCert}
use Rattle.lethe_manifest.specs.declared.manifest.Manifest.{Manifest}

-- Spelling.

-- `LM`, the format and the manifest's number
unfoldable pub head_bytes : ℕ → List ℕ
head_bytes number = (76 ∷ 77 ∷ 1 ∷ []) ++ to_be_bytes w64 number

abbrev pub pick_byte : Pick → ℕ
pick_byte So = 0
pick_byte Sd = 1

-- the threshold, the ratio and the levels
unfoldable pub times_bytes : Fields → List ℕ
times_bytes fields = to_be_bytes w64 fields.threshold ++ (fields.ratio ∷ fields.levels ∷ [])

-- the page, the tile, the file, the buffer and the pick
unfoldable pub sizes_bytes : Fields → List ℕ
sizes_bytes fields = to_be_bytes w16 fields.page ++ ((fields.tile ∷ []) ++ (to_be_bytes w16 fields.file ++ (to_be_bytes w16 fields.buffer ++ (pick_byte fields.pick ∷ []))))

abbrev pub config_bytes : Fields → List ℕ
config_bytes fields = times_bytes fields ++ sizes_bytes fields

unfoldable pub counts_bytes : Manifest → List ℕ
counts_bytes m = to_be_bytes w64 m.clock ++ (to_be_bytes w64 m.count ++ to_be_bytes w64 m.next)

unfoldable pub cert_bytes : LastCert → List ℕ
cert_bytes cert = to_be_bytes w64 cert.number ++ (to_be_bytes w64 cert.clock ++ to_be_bytes w64 cert.before)

-- a mark, and behind a mark of 1 the certificate
abbrev pub certificate_bytes : Option LastCert → List ℕ
certificate_bytes None = 0 ∷ []
certificate_bytes (Some cert) = 1 ∷ cert_bytes cert

unfoldable pub file_bytes : Cited → List ℕ
file_bytes file = (file.level ∷ []) ++ (to_be_bytes w64 file.no ++ (to_be_bytes w64 file.swept ++ file.digest))

-- each list behind its length

abbrev pub erases_bytes : List Pending → List ℕ
erases_bytes erases = to_be_bytes w32 (length erases) ++ flat_map erase_bytes erases

abbrev pub segments_bytes : List ℕ → List ℕ
segments_bytes segments = (length segments ∷ []) ++ flat_map (to_be_bytes w64) segments

abbrev pub files_bytes : List Cited → List ℕ
files_bytes files = to_be_bytes w32 (length files) ++ flat_map file_bytes files

unfoldable pub parts_bytes : Manifest → List ℕ
parts_bytes m = certificate_bytes m.certificate ++ (erases_bytes m.erases ++ (segments_bytes m.segments ++ files_bytes m.files))

unfoldable pub manifest_bytes : Manifest → List ℕ
manifest_bytes m = head_bytes m.no ++ (config_bytes m.config ++ (counts_bytes m ++ parts_bytes m))

-- What has a spelling.

pub record IsCertificate (cert : LastCert) : Type 0 where
  pub number : IsPlace cert.number
  pub clock : cert.clock ≤ max_time
  pub before : cert.before ≤ max_time

abbrev pub IsCertificateOrNone : Option LastCert → Type 0
IsCertificateOrNone None = Unit {0}
IsCertificateOrNone (Some cert) = IsCertificate cert

-- not too many erases, by their places
pub record AreErases (erases : List Pending) : Type 0 where
  pub few : length erases < 2 ^ 32
  pub each : All IsErase erases
  pub ascending : AllPairs (λ a b. a.seq < b.seq) erases

-- one or two numbers, which the next is above
pub record AreSegments (next : ℕ) (segments : List ℕ) : Type 0 where
  pub some : 0 < length segments
  pub few : length segments ≤ 2
  pub below : All (λ segment. segment < next) segments

-- a file by itself, in a store of so many levels above the first
pub record IsFile (next levels : ℕ) (file : Cited) : Type 0 where
  pub level : file.level ≤ levels
  pub no : file.no < next
  pub swept : file.swept ≤ max_place
  pub digest : length file.digest ≡ 32

-- not too many files, by their levels
pub record AreFiles (next levels : ℕ) (files : List Cited) : Type 0 where
  pub few : length files < 2 ^ 32
  pub each : All (IsFile next levels) files
  pub ascending : AllPairs (λ a b. a.level ≤ b.level) files

pub record HasSpelling (m : Manifest) : Type 0 where
  pub no : m.no < m.next
  pub config : IsConfig m.config
  pub clock : m.clock ≤ max_time
  pub count : m.count ≤ max_place
  pub next : m.next ≤ max_place
  pub certificate : IsCertificateOrNone m.certificate
  pub erases : AreErases m.erases
  pub segments : AreSegments m.next m.segments
  pub files : AreFiles m.next m.config.levels m.files

-- its level has a spelling
abbrev pub HasLowLevel : Cited → Type 0
HasLowLevel file = file.level < 256
