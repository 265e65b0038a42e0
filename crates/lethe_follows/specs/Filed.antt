-- What is stored once a flush or an opening has made files.
use Rattle.std.specs.Prelude.{◌≡◌, ◌≢◌, ℕ, ◌+◌, ◌<◌, ◌≤◌, List, [], ◌∷◌, ◌++◌, map, flat_map, All, AllPairs, None}
use Rattle.lethe_manifest.specs.declared.manifest.Manifest.{Manifest}
use Rattle.lethe_stored.specs.Files.{StoredFile, IsFile, lines_in, cited_of}
use Rattle.lethe_stored.specs.Stored.{Stored, pending_of, count_of}

-- the next manifest, of this number: it cites these segments, and files in front of the others, and has the erases that are pending
abbrev pub filed : Stored → List ℕ → List StoredFile → ℕ → Manifest
filed s segments made number = record s.manifest {
  no = number;
  count = count_of s;
  next = number + 1;
  erases = pending_of s;
  segments = segments;
  files = map cited_of made ++ s.manifest.files;
}

-- the frozen segment goes, and these files come in front of level 0
abbrev pub flushed : Stored → List StoredFile → ℕ → Stored
flushed s made number = record { manifest = filed s (s.active.no ∷ []) made number; frozen = None; active = s.active; files = made ++ s.files }

-- both segments go, these files come, and an empty segment is active
abbrev pub reopened : Stored → List StoredFile → ℕ → ℕ → Stored
reopened s made segment number = record { manifest = filed s (segment ∷ []) made number; frozen = None; active = record { no = segment; records = [] }; files = made ++ s.files }

-- their headers have ascending numbers, in the order in which the files were cut
abbrev pub AreInOrder : List StoredFile → Type 0
AreInOrder made = AllPairs (λ a b. a.header.no < b.header.no) made

-- files of level 0 whose objects have numbers of their own, from the first up to the last, which is excluded
pub record AreNewFiles (first last : ℕ) (made : List StoredFile) : Type 0 where
  pub level : All (λ file. file.level ≡ 0) made
  pub each : All (IsFile last) made
  pub headers : All (λ file. (first ≤ file.header.no) × (file.header.no < last)) made
  pub lines : All (λ line. first ≤ line.no) (flat_map lines_in made)
  pub files_once : AllPairs (λ a b. a.header.no ≢ b.header.no) made
  pub pages_once : AllPairs (λ a b. a.no ≢ b.no) (flat_map lines_in made)
