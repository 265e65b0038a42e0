-- From what is stored to what is stored next.
use Rattle.std.specs.Prelude.{◌≡◌, ◌≢◌, ◌⊎◌, ◌≤◌, ℕ, List, ◌++◌, map, filter, All, AllPairs, Contains, IsSome}
use Rattle.std.specs.List.Sorted.{IsPermutation}
use Rattle.lethe_disk.specs.Directory.{Directory, object}
use Rattle.lethe_disk.specs.Disk.{Seen}
use Rattle.lethe_base.specs.declared.name.Kind.TheVariants.{Page}
use Rattle.lethe_base.specs.declared.name.Name.{Name}
use Rattle.lethe_segment.specs.Segments.{segment_bytes}
use Rattle.lethe_stored.specs.Files.{StoredFile, objects_of}
use Rattle.lethe_stored.specs.Stored.{Stored, Segment, IsCoherent, segments_of, segment_name, part_names}
use Rattle.lethe_version.specs.Order.{is_kept}
use Rattle.lethe_advance.specs.Settled.{IsSettled, HasOnly, AreUncited, names_in}
use Rattle.lethe_advance.specs.declared.new_header.NewHeader.{NewHeader}
use Rattle.lethe_advance.specs.declared.step.Step.{Step}

-- the bytes that a step writes, each under its name
abbrev pub written_in : Step → List (Name × List ℕ)
written_in step = map (λ made. (made.name, made.bytes)) step.objects.items

-- the segment is stored already, or is written
abbrev pub IsSegmentFrom : Stored → Step → Segment → Type 0
IsSegmentFrom s step segment = Contains (segments_of s) segment ⊎ Contains (written_in step) (segment_name segment.no, segment_bytes segment.no segment.records)

-- a header or a page is stored already, is loose, or is written
abbrev pub IsObjectFrom : Stored → List (Name × List ℕ) → Step → Name × List ℕ → Type 0
IsObjectFrom s loose step named = Contains (objects_of s.files) named ⊎ Contains loose named ⊎ Contains (written_in step) named

-- it is cited, or lies beside that, and isn't cited next
abbrev pub IsUncited : Stored → List (Name × List ℕ) → Stored → Name → Type 0
IsUncited s loose t name = (Contains (part_names s) name ⊎ Contains (names_in loose) name) × (Contains (part_names t) name → ⊥)

-- it is cited next, goes, or is left beside that
abbrev pub IsSettledBy : Step → Stored → List (Name × List ℕ) → Name → Type 0
IsSettledBy step t left name = Contains (part_names t) name ⊎ Contains step.gone.items name ⊎ Contains (names_in left) name

-- it lay beside what is stored, or is an object of a stored file
abbrev pub WasThere : Stored → List (Name × List ℕ) → Name × List ℕ → Type 0
WasThere s loose named = Contains loose named ⊎ Contains (objects_of s.files) named

-- its header and its level
abbrev pub new_header : StoredFile → NewHeader
new_header file = record { level = file.level; header = file.header }

-- the files that don't go
abbrev pub kept_files : Stored → Step → List StoredFile
kept_files s step = filter (λ file. is_kept step.merged.items file.header) s.files

-- Objects are written, files are added in their levels, and files go. Of the objects that aren't cited any more, and of those that lay beside what is stored, some go and the
-- others are left beside what is stored next.
pub record IsStep (s : Stored) (loose : List (Name × List ℕ)) (t : Stored) (left : List (Name × List ℕ)) (headers : List NewHeader) (step : Step) : Type 0 where
  pub coherent : IsCoherent t
  pub config : t.manifest.config ≡ s.manifest.config
  pub older : step.older ≡ s.manifest.no
  pub manifest : step.manifest ≡ t.manifest
  -- the manifest's number and those of the objects have not been drawn
  pub later : s.manifest.next ≤ t.manifest.no
  pub fresh : All (λ made. s.manifest.next ≤ made.name.no) step.objects.items
  pub once : AllPairs (λ made other. made.name ≢ other.name) step.objects.items
  -- no loose object is cited or written
  pub loose_pages : All (λ named. named.0.kind ≡ Page) loose
  pub loose_uncited : AreUncited s loose
  pub beside : All (λ made. Contains (names_in loose) made.name → ⊥) step.objects.items
  -- what is cited next is stored already or is written, and all that is written is cited
  pub segments : All (IsSegmentFrom s step) (segments_of t)
  pub objects : All (IsObjectFrom s loose step) (objects_of t.files)
  pub cited : All (λ made. Contains (part_names t) made.name) step.objects.items
  -- what was cited, or lay beside that, is cited next, goes or is left, and nothing else goes or is left
  pub stays : All (IsSettledBy step t left) (part_names s)
  pub taken : All (λ named. IsSettledBy step t left named.0) loose
  pub gone : All (IsUncited s loose t) step.gone.items
  pub gone_once : AllPairs (λ name other. name ≢ other) step.gone.items
  pub left_there : All (WasThere s loose) left
  pub left_stays : All (λ named. Contains step.gone.items named.0 → ⊥) left
  pub left_uncited : AreUncited t left
  -- the files of the headers come, each in its level, and the merged ones go
  pub added : List StoredFile
  pub headers_are : headers ≡ map new_header added
  pub files : IsPermutation (added ++ kept_files s step) t.files

-- the disk has what is stored and the loose objects alone, and the step goes on from there
pub record MayAdvance (disk : Seen) (s : Stored) (loose : List (Name × List ℕ)) (t : Stored) (left : List (Name × List ℕ)) (headers : List NewHeader) (step : Step) : Type 0 where
  pub settled : IsSettled disk s
  pub only : HasOnly s loose disk.directory
  pub step_is : IsStep s loose t left headers step

-- each object that is there, and is cited next or left beside that, is in the second directory as it is in the first, byte for byte
abbrev pub HasStayed : Stored → List (Name × List ℕ) → Directory → Directory → Type 0
HasStayed t left d c = (name : Name) → Contains (part_names t) name ⊎ Contains (names_in left) name → IsSome (object d name) → object c name ≡ object d name
