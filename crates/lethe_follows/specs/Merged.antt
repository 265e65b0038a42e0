-- A merge of stored files: which of them it reads, and what is stored once it is installed.
use Rattle.std.specs.Prelude.{◌≡◌, ◌≢◌, ◌⊎◌, ℕ, ◌+◌, ◌<◌, ◌≤◌, ◌==◌, nat_le, Bool, IsTrue, List, [], ◌++◌, length, map, filter, flat_map, All, AllPairs, Contains, IsPermutation}
use Rattle.std.specs.declared.cmp.Ordering.TheVariants.{Less}
use Rattle.lethe_base.specs.Keys.{key_cmp}
use Rattle.lethe_base.specs.Layout.{entries_of}
use Rattle.lethe_base.specs.Spent.{done_upto}
use Rattle.lethe_base.specs.declared.entry.Entry.{Entry}
use Rattle.lethe_base.specs.declared.pending.Pending.{Pending}
use Rattle.lethe_fade.specs.Spans.{KeyRange, overlaps}
use Rattle.lethe_version.specs.Agreement.{page_name}
use Rattle.lethe_manifest.specs.declared.manifest.Manifest.{Manifest}
use Rattle.lethe_moves.specs.Merge.{merged}
use Rattle.lethe_moves.specs.Files.{IsClearOf, keys_of, hull_of_files}
use Rattle.lethe_stored.specs.Files.{StoredFile, IsFile, lines_in, cited_of, file_of}
use Rattle.lethe_stored.specs.Stored.{Stored, layout_of, pending_of, count_of, part_names}
use Rattle.lethe_version.specs.Order.{is_kept}
use Rattle.lethe_follows.specs.Filed.{AreInOrder}
use Rattle.lethe_follows.specs.declared.company.Company as company
use Rattle.lethe_follows.specs.declared.company.Company.TheVariants as variants
pub use company.{Company}
pub use variants.{Last, Beside}
use Rattle.lethe_follows.specs.Leaving.{first_erase, kept_of}
use Rattle.lethe_follows.specs.Woven.{AreWovenOf}

-- of a level and the next one, the files in their order
pub record StoredMerge : Type 0 where
  pub level : ℕ
  -- of the level, the files before the sources, the sources, and the files behind them
  pub newer : List StoredFile
  pub sources : List StoredFile
  pub older : List StoredFile
  -- of the next level, the files below the sources' keys, those that overlap them, and those above
  pub lower : List StoredFile
  pub met : List StoredFile
  pub higher : List StoredFile

abbrev pub inputs_of : StoredMerge → List StoredFile
inputs_of m = m.sources ++ m.met

-- the entries of files, one file after another
abbrev pub entries_in : List StoredFile → List Entry
entries_in files = flat_map (λ file. entries_of (file_of file)) files

abbrev pub at : ℕ → List StoredFile → List StoredFile
at level files = filter (λ file. file.level == level) files

abbrev pub range_of : StoredFile → KeyRange
range_of file = keys_of (file_of file)

-- the least range with all keys that the files may have, of which there has to be one
abbrev pub hull_of : List StoredFile → KeyRange
hull_of files = hull_of_files (map file_of files)

-- of level 0 all files but those that came since the merge began, and of another level one
abbrev pub IsWhole : StoredMerge → Type 0
IsWhole m = ((m.level ≡ 0) × (m.older ≡ []) × (m.sources ≢ [])) ⊎ ((0 < m.level) × (length m.sources ≡ 1))

-- sources of a level above the last, and the files of the next level that overlap their keys
pub record IsMergeIn (s : Stored) (m : StoredMerge) : Type 0 where
  pub level : m.level < s.manifest.config.levels
  pub from : at m.level s.files ≡ m.newer ++ (m.sources ++ m.older)
  pub whole : IsWhole m
  pub into : at (m.level + 1) s.files ≡ m.lower ++ (m.met ++ m.higher)
  pub lower : All (λ file. key_cmp (range_of file).hi (hull_of m.sources).lo ≡ Less) m.lower
  pub met : All (λ file. IsTrue (overlaps (hull_of m.sources) (range_of file))) m.met
  pub higher : All (λ file. key_cmp (hull_of m.sources).hi (range_of file).lo ≡ Less) m.higher

-- files of level 0 came, which are newer
abbrev pub with_newer : List StoredFile → StoredMerge → StoredMerge
with_newer made m = record m { newer = at m.level made ++ m.newer }

-- no file of the levels below the next one has a key of the range
abbrev pub IsAlone : Stored → ℕ → KeyRange → Type 0
IsAlone s level keys = All (λ file. level + 1 < file.level → IsClearOf keys (file_of file)) s.files

-- the files that are no inputs
abbrev pub others_of : Stored → StoredMerge → List StoredFile
others_of s m = filter (λ file. is_kept (map (λ input. input.header.no) (inputs_of m)) file.header) s.files

-- Files whose headers' numbers have not been drawn, below that number, and whose pages aren't cited.
pub record AreNewIn (s : Stored) (last : ℕ) (made : List StoredFile) : Type 0 where
  pub each : All (IsFile last) made
  pub headers : All (λ file. (s.manifest.next ≤ file.header.no) × (file.header.no < last)) made
  pub lines : All (λ line. Contains (part_names s) (page_name line.no) → ⊥) (flat_map lines_in made)
  pub files_once : AllPairs (λ a b. a.header.no ≢ b.header.no) made
  pub pages_once : AllPairs (λ a b. a.no ≢ b.no) (flat_map lines_in made)

-- the pending erases that are still to be done beside these files, and those from the first on that a segment records
abbrev pub erases_kept : Stored → List StoredFile → List Pending
erases_kept s files = kept_of (pending_of s) (done_upto (layout_of (record s { files = files }))) (first_erase s)

-- The erases that the manifest has then. None leaves beside another job, which may have begun with it.
abbrev pub erases_with : Company → Stored → List StoredFile → List Pending
erases_with Last s files = erases_kept s files
erases_with Beside s files = pending_of s

-- the next manifest, of this number, which cites these files
abbrev pub merging_manifest_with : Company → Stored → List StoredFile → ℕ → Manifest
merging_manifest_with company s files number = record s.manifest {
  no = number;
  count = count_of s;
  next = number + 1;
  erases = erases_with company s files;
  files = map cited_of files;
}

-- it has the erases that are kept beside these files
abbrev pub merging_manifest : Stored → List StoredFile → ℕ → Manifest
merging_manifest = merging_manifest_with Last

-- of some erases, those up to a place
abbrev pub erases_upto : ℕ → List Pending → List Pending
erases_upto upto erases = filter (λ erase. nat_le erase.seq upto) erases

-- The inputs went, and files of the next level came in their place: what is left of the inputs' entries where the erases are applied.
pub record IsMergedWith (company : Company) (s : Stored) (m : StoredMerge) (applied : List Pending) (alone : Bool) (upto : ℕ) (t : Stored) : Type 0 where
  pub made : List StoredFile
  pub number : ℕ
  pub later : s.manifest.next ≤ number
  pub manifest : t.manifest ≡ merging_manifest_with company s t.files number
  pub frozen : t.frozen ≡ s.frozen
  pub active : t.active ≡ s.active
  pub files : IsPermutation (made ++ others_of s m) t.files
  pub from : at m.level t.files ≡ m.newer ++ m.older
  pub into : at (m.level + 1) t.files ≡ m.lower ++ (made ++ m.higher)
  pub rest : (level : ℕ) → level ≢ m.level → level ≢ m.level + 1 → at level t.files ≡ at level s.files
  pub level : All (λ file. file.level ≡ m.level + 1) made
  pub new : AreNewIn s number made
  pub order : AreInOrder made
  pub woven : AreWovenOf s.manifest.config (merged (entries_in (inputs_of m)) applied alone) upto (map file_of made)

-- where no other job is in flight
abbrev pub IsMerged : Stored → StoredMerge → List Pending → Bool → ℕ → Stored → Type 0
IsMerged = IsMergedWith Last
