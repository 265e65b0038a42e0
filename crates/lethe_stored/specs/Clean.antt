-- What the objects of a directory spell, whether a manifest cites them or not.
use Rattle.std.specs.Prelude.{◌≡◌, ◌<◌, ◌^◌, ℕ, List, [], filter_map, Contains, Option, Some, None}
use Rattle.lethe_base.specs.History.{History}
use Rattle.lethe_base.specs.Causes.{IsOverdue}
use Rattle.lethe_base.specs.Matching.{IsPut}
use Rattle.lethe_base.specs.Placed.{IsPlaced}
use Rattle.lethe_base.specs.declared.entry.Entry.{Entry}
use Rattle.lethe_base.specs.declared.name.Kind.{Kind}
use Rattle.lethe_base.specs.declared.name.Kind.TheVariants as kinds
use Rattle.lethe_base.specs.declared.name.Name.{Name}
use Rattle.lethe_disk.specs.Directory.{Directory, object}
use Rattle.lethe_segment.specs.declared.record.Record.{Record}
use Rattle.lethe_segment.specs.declared.record.Record.TheVariants as of
use Rattle.lethe_segment.specs.Segments.{segment_bytes, Ascends}
use Rattle.lethe_manifest.specs.declared.manifest.Manifest.{Manifest}
use Rattle.lethe_manifest.specs.Manifests.{manifest_bytes, HasSpelling}
use Rattle.lethe_page.specs.Pages.{page_bytes}
use Rattle.lethe_page.specs.Pages as pages
use Rattle.lethe_page.specs.declared.class.Class.{Class}
use Rattle.lethe_header.specs.Headers.{header_bytes}
use Rattle.lethe_header.specs.Headers as headers
use Rattle.lethe_header.specs.declared.header.Header.{Header}

abbrev pub entry_of : Record → Option Entry
entry_of (of.Entry entry) = Some entry
entry_of (of.Blind place) = None
entry_of (of.Erase erase) = None

-- a manifest of this number is spelled so
pub record SpellsManifest (number : ℕ) (bytes : List ℕ) : Type 0 where
  pub manifest : Manifest
  pub spelled : HasSpelling manifest
  pub own : manifest.no ≡ number
  pub is : bytes ≡ manifest_bytes manifest

-- a segment of this number with these entries is spelled so, with no torn end
pub record SpellsSegment (number : ℕ) (bytes : List ℕ) (entries : List Entry) : Type 0 where
  pub fits : number < 2 ^ 64
  pub records : List Record
  pub ascends : Ascends 0 records
  pub is : bytes ≡ segment_bytes number records
  pub those : entries ≡ filter_map entry_of records

-- a header of this number is spelled so
pub record SpellsHeader (number : ℕ) (bytes : List ℕ) : Type 0 where
  pub header : Header
  pub spelled : headers.HasSpelling header
  pub own : header.no ≡ number
  pub is : bytes ≡ header_bytes header

-- a page with these entries is spelled so
pub record SpellsPage (bytes : List ℕ) (entries : List Entry) : Type 0 where
  pub class : Class
  pub spelled : pages.HasSpelling class entries
  pub is : bytes ≡ page_bytes class entries

-- an object of the kind and number spells these entries
abbrev pub Spells : Kind → ℕ → List ℕ → List Entry → Type 0
Spells kinds.Gate number bytes entries = (bytes ≡ []) × (entries ≡ [])
Spells kinds.Manifest number bytes entries = SpellsManifest number bytes × (entries ≡ [])
Spells kinds.Segment number bytes entries = SpellsSegment number bytes entries
Spells kinds.File number bytes entries = SpellsHeader number bytes × (entries ≡ [])
Spells kinds.Page number bytes entries = SpellsPage bytes entries

-- an object of the directory spells it
pub record IsHeldIn (d : Directory) (entry : Entry) : Type 0 where
  pub name : Name
  pub bytes : List ℕ
  pub there : object d name ≡ Some bytes
  pub entries : List Entry
  pub spelled : Spells name.kind name.no bytes entries
  pub among : Contains entries entry

-- Each object is a spelling. Each put that is held was done at its place, and none of them was erased a threshold before the time.
pub record IsClean (threshold : ℕ) (d : Directory) (h : History) (time : ℕ) : Type 0 where
  pub spelled : (name : Name) (bytes : List ℕ) → object d name ≡ Some bytes → (entries : List Entry) × Spells name.kind name.no bytes entries
  pub placed : (entry : Entry) → IsHeldIn d entry → IsPut entry.body → IsPlaced h entry.seq entry.key entry.body
  pub timely : (entry : Entry) → IsHeldIn d entry → IsPut entry.body → IsOverdue threshold h time entry.seq → ⊥
