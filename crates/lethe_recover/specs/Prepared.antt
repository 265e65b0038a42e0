-- What a reopening needs.
use Rattle.std.specs.Prelude.{◌≡◌, ◌↔◌, ◌+◌, ◌*◌, ◌<◌, ◌≤◌, IsTrue, length, map, All, AllPairs}
use Rattle.std.specs.BTreeSet.{contains}
use Rattle.lethe_base.specs.Limits.{max_place}
use Rattle.lethe_base.specs.Names.{name_cmp}
use Rattle.lethe_base.specs.declared.name.Name.{Name}
use Rattle.lethe_build.specs.Drafts.{IsDraft}
use Rattle.lethe_disk.specs.declared.disk.Disk.{Ghosts}
use Rattle.lethe_base.specs.Erases.{IsErase}
use Rattle.lethe_manifest.specs.declared.manifest.Manifest.{Manifest}
use Rattle.lethe_stored.specs.Levels.{AreRising, HasFiles}
use Rattle.lethe_stored.specs.Stored.{Stored, IsCited, count_of, pending_of}
use Rattle.lethe_version.specs.Versions.{files_of, levels_of}
use Rattle.lethe_advance.specs.Shown.{parts_by_level}
use Rattle.lethe_recover.specs.Flushing.{AreDraftsOfJournal, numbers_of}
use Rattle.lethe_recover.specs.Journals.{IsJournalOf}
use Rattle.lethe_recover.specs.declared.journal.Journal.{Journal}
use Rattle.lethe_recover.specs.declared.prepared.Prepared.{Prepared}

-- on any disk: it can be written
pub record IsReady {D Page Port : Type 0} {kind : Ghosts D Page Port} (m : Manifest) (made : Prepared D Page Port kind) : Type 0 where
  pub levels : length (levels_of made.version) ≡ m.config.levels + 1
  pub count : made.count ≤ max_place
  pub each : All IsErase made.erases.items
  pub ascending : AllPairs (λ a b. a.seq < b.seq) made.erases.items
  pub older : All IsDraft made.drafts.older.items
  pub newer : All IsDraft made.drafts.newer.items
  pub few : numbers_of made.drafts ≤ 4 * max_place

-- it was made of what is stored
pub record IsReadyFor {D Page Port : Type 0} {kind : Ghosts D Page Port} (s : Stored) (m : Manifest) (made : Prepared D Page Port kind) : Type 0 where
  pub manifest : s.manifest ≡ m
  pub rising : AreRising s.files
  pub cites : (name : Name) → IsTrue (contains name_cmp made.cited name) ↔ IsCited s name
  pub files : HasFiles s (parts_by_level made.version)
  pub count : made.count ≡ count_of s
  pub erases : made.erases.items ≡ pending_of s
  pub journal : Journal
  pub is_journal : IsJournalOf s journal
  pub drafts : AreDraftsOfJournal m.config journal made.erases.items (map (λ file. file.header) (files_of made.version)) made.drafts
