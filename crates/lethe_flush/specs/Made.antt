-- Files that are made of drafts, as they are stored, taken apart, and cited.
use Rattle.std.specs.Prelude.{◌≡◌, ◌≢◌, ◌⊎◌, ℕ, ◌<◌, ◌≤◌, List, ◌++◌, length, map, zip, take, flat_map, All, AllPairs, Contains, IsPermutation}
use Rattle.std.specs.List.{AllZip}
use Rattle.lethe_base.specs.declared.name.Name.{Name}
use Rattle.lethe_build.specs.Drafts.{pages_in, with_numbers}
use Rattle.lethe_build.specs.declared.draft.Draft.{Draft}
use Rattle.lethe_advance.specs.Object.{Object}
use Rattle.lethe_file.specs.Agreement.{page_name}
use Rattle.lethe_header.specs.Headers as headers
use Rattle.lethe_header.specs.declared.header.Header.{Header}
use Rattle.lethe_stored.specs.Files.{StoredFile, cited_of, lines_in, objects_of}
use Rattle.lethe_advance.specs.Steps.{new_header}
use Rattle.lethe_flush.specs.declared.made.MadeFiles.{MadeFiles}

-- its name and its bytes
abbrev pub named_of : Object → Name × List ℕ
named_of made = (made.name, made.bytes)

-- the headers of files that are made
abbrev pub headers_of : MadeFiles → List Header
headers_of made = map (λ new. new.header) made.headers.items

-- the first of the drafts' pages, which were written before under these names
abbrev pub written_pages : List Name → List Draft → List (Name × List ℕ)
written_pages written drafts = zip written (take (length written) (pages_in drafts))

-- the draft's file: its pages have numbers, and it has one
pub record IsOfDraft (draft : Draft) (file : StoredFile) : Type 0 where
  pub numbers : List ℕ
  pub count : length numbers ≡ length draft.pages
  pub tiles : file.header.tiles ≡ with_numbers numbers draft.tiles
  pub pages : file.pages ≡ draft.pages

-- The drafts' files of a level, swept up to a place, and how they are written and cited. The first of their pages were written before, under
-- these names, in order; of the others, and of the headers, each is an object, in whatever order. Their numbers are drawn from the first on, and
-- the headers' ascend.
pub record AreFilesOf (drafts : List Draft) (level upto : ℕ) (written : List Name) (first : ℕ) (made : MadeFiles) (files : List StoredFile) : Type 0 where
  pub each : AllZip IsOfDraft drafts files
  pub level_is : All (λ file. file.level ≡ level) files
  pub swept : All (λ file. file.swept ≡ upto) files
  pub spelled : All (λ file. headers.HasSpelling file.header) files
  pub headers_are : made.headers.items ≡ map new_header files
  pub cited : made.cited.items ≡ map cited_of files
  pub objects : IsPermutation (objects_of files) (written_pages written drafts ++ map named_of made.objects.items)
  pub once : AllPairs (λ a b. a.name ≢ b.name) made.objects.items
  pub drawn : All (λ object. (first ≤ object.name.no) × (object.name.no < made.next)) made.objects.items
  pub headers_drawn : All (λ file. (first ≤ file.header.no) × (file.header.no < made.next)) files
  pub headers_ascend : AllPairs (λ a b. a.header.no < b.header.no) files
  pub lines : All (λ line. Contains written (page_name line.no) ⊎ ((first ≤ line.no) × (line.no < made.next))) (flat_map lines_in files)
  pub lines_once : AllPairs (λ a b. a.no ≢ b.no) (flat_map lines_in files)
  pub firsts : take (length written) (map (λ line. page_name line.no) (flat_map lines_in files)) ≡ written
