-- What a store becomes that is opened: its journal in files, and an empty segment.
use Rattle.std.specs.Prelude.{◌≡◌, ◌⊎◌, ◌↔◌, ℕ, ◌+◌, ◌<◌, Bool, IsTrue, List, [], ◌∷◌, ◌++◌, length, map, filter, All, Contains, None}
use Rattle.lethe_base.specs.Entries.{IsAscending}
use Rattle.lethe_base.specs.History.{History}
use Rattle.lethe_base.specs.Spent.{is_above, least}
use Rattle.lethe_base.specs.declared.config.Fields.{Fields}
use Rattle.lethe_base.specs.declared.entry.Entry.{Entry}
use Rattle.lethe_base.specs.declared.pending.Pending.{Pending}
use Rattle.lethe_disk.specs.Directory.{Directory}
use Rattle.lethe_header.specs.declared.header.Header.{Header}
use Rattle.lethe_manifest.specs.Followers.{follower}
use Rattle.lethe_manifest.specs.declared.manifest.Cited.{Cited}
use Rattle.lethe_manifest.specs.declared.manifest.Manifest.{Manifest}
use Rattle.lethe_segment.specs.Segments.{segment_bytes}
use Rattle.lethe_segment.specs.declared.record.Record.{Record}
use Rattle.lethe_commit.specs.Switch.{HasGreatest}
use Rattle.lethe_merge.specs.Merge.{merged}
use Rattle.lethe_moves.specs.Flushes.{span_of}
use Rattle.lethe_stored.specs.Encodes.{Encodes}
use Rattle.lethe_stored.specs.Files.{StoredFile, file_of}
use Rattle.lethe_stored.specs.Kept.{IsFor}
use Rattle.lethe_stored.specs.Replayed.{AreNewestOf}
use Rattle.lethe_stored.specs.Stored.{Stored, IsCoherent, count_of, pending_of, records_in, segment_name}
use Rattle.lethe_follows.specs.Filed.{AreInOrder, AreNewFiles, reopened}
use Rattle.lethe_follows.specs.Leaving.{let_go}
use Rattle.lethe_follows.specs.Woven.{AreWovenOf}
use Rattle.lethe_flush.specs.Clear.{IsClearOf}
use Rattle.lethe_advance.specs.Segment.{empty_segment}
use Rattle.lethe_advance.specs.Steps.{IsStep, written_in}
use Rattle.lethe_recover.specs.New.{new_stored}
use Rattle.lethe_recover.specs.declared.flushing.Flushes.{Flushes}
use Rattle.lethe_recover.specs.declared.reopening.Reopening.{Reopening}

-- the manifest that follows: it has this count and these erases, and cites a new segment and these files
abbrev pub successor : Manifest → ℕ → List Pending → List Cited → ℕ → Manifest
successor m count erases files segment = follower m (record { no = segment + 1; count = count; erases = erases; segments = segment ∷ []; files = files })

-- the files of both flushes, and the others
abbrev pub cited_with : Flushes → Manifest → List Cited
cited_with flushes m = flushes.newer.cited.items ++ flushes.older.cited.items ++ m.files

-- of some erases those that are still to be done beside files that a manifest cites, where no segment has a record
abbrev pub left_beside : List Cited → List Pending → List Pending
left_beside files erases = filter (λ erase. is_above (least (map (λ file. file.swept) files)) erase.seq) erases

-- the files of both flushes, the newer ones first, and an empty segment come, the old segments go, and so do the erases that are done then
pub record IsStepOf (m : Manifest) (count : ℕ) (erases : List Pending) (flushes : Flushes) (made : Reopening) : Type 0 where
  pub headers : made.headers.items ≡ flushes.newer.headers.items ++ flushes.older.headers.items
  pub objects : made.step.objects.items ≡ flushes.older.objects.items ++ flushes.newer.objects.items ++ empty_segment flushes.newer.next ∷ []
  pub merged : made.step.merged.items ≡ []
  pub older : made.step.older ≡ m.no
  pub manifest : made.step.manifest ≡ successor m count (left_beside (cited_with flushes m) erases) (cited_with flushes m) flushes.newer.next
  pub gone : made.step.gone.items ≡ map segment_name m.segments

-- the headers of the stored files, in whatever order
pub record AreHeadersOf (s : Stored) (heads : List Header) : Type 0 where
  pub each : (file : StoredFile) → Contains s.files file → Contains heads file.header
  pub only : (header : Header) → Contains heads header → (file : StoredFile) × Contains s.files file × (file.header ≡ header)

-- The files of level 0 that are made of records where other files are there: what is left of the records' newest entries, woven by the configuration and cut, with numbers of
-- their own that ascend in the order of the cuts. The entries are alone exactly where there is one and none of the other files has a key of their range.
pub record AreFiled (s : Stored) (records : List Record) (there : List StoredFile) (first last : ℕ) (made : List StoredFile) : Type 0 where
  pub entries : List Entry
  pub ascending : IsAscending entries
  pub newest : AreNewestOf records entries
  pub alone : Bool
  pub clear : IsTrue alone ↔ ((0 < length entries) × All (λ file. IsClearOf (span_of entries) file.header) there)
  pub woven : AreWovenOf s.manifest.config (merged entries (pending_of s) alone) (count_of s) (map file_of made)
  pub new : AreNewFiles first last made
  pub order : AreInOrder made

-- The files of the journal come in front of the others, those of the newer segment first, an empty segment is active, and the erases that are done then have left.
pub record IsReopenedAs (s t : Stored) : Type 0 where
  pub older : List StoredFile
  pub middle : ℕ
  pub of_older : AreFiled s (records_in s.frozen) s.files s.manifest.next middle older
  pub newer : List StoredFile
  pub segment : ℕ
  pub of_newer : AreFiled s s.active.records (older ++ s.files) middle segment newer
  pub is : t ≡ let_go (reopened s (newer ++ older) segment (segment + 1))

-- where a directory has no gate, a new store, and else what it encodes, reopened
abbrev pub IsOpenedAs : Fields → Directory → Stored → Type 0
IsOpenedAs config d t = (HasGreatest None d × (t ≡ new_stored config)) ⊎ ((s : Stored) × IsCoherent s × Encodes d s × IsReopenedAs s t)

-- what is stored is reopened by the step, and stands for the same history
pub record Reopens (s : Stored) (made : Reopening) : Type 0 where
  pub files : List StoredFile
  pub segment : ℕ
  pub reopened_as : IsReopenedAs s (let_go (reopened s files segment (segment + 1)))
  pub step : IsStep s [] (let_go (reopened s files segment (segment + 1))) [] made.headers.items made.step
  pub stands : (h : History) → IsFor h s → IsFor h (let_go (reopened s files segment (segment + 1)))
  pub level : All (λ file. file.level ≡ 0) files
  pub segment_is : Contains (written_in made.step) (segment_name segment, segment_bytes segment [])
