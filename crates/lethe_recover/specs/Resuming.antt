-- A store that is reopened.
use Rattle.std.specs.Prelude.{◌≡◌, List, [], map}
use Rattle.lethe_base.specs.History.{History}
use Rattle.lethe_disk.specs.Disk.{Seen}
use Rattle.lethe_disk.specs.declared.disk.Disk.{Ghosts}
use Rattle.lethe_manifest.specs.declared.manifest.Manifest.{Manifest}
use Rattle.lethe_stored.specs.Files.{Parts, parts_of}
use Rattle.lethe_stored.specs.Kept.{IsFor}
use Rattle.lethe_stored.specs.Levels.{AreRising}
use Rattle.lethe_stored.specs.Stored.{Stored}
use Rattle.lethe_advance.specs.Settled.{IsSettled, HasOnly}
use Rattle.lethe_advance.specs.Untorn.{IsUntorn}
use Rattle.lethe_recover.specs.Journals.{IsJournalOf}
use Rattle.lethe_recover.specs.Opening.{IsTold}
use Rattle.lethe_recover.specs.Reopening.{IsReopenedAs}
use Rattle.lethe_recover.specs.declared.journal.Journal.{Journal}
use Rattle.lethe_recover.specs.declared.opened.Opened.{Opened}

-- what was loaded is what is stored, and behind level 0 the files of a level ascend
pub record IsLoadedAs (s : Stored) (m : Manifest) (records : Journal) (parts : List Parts) : Type 0 where
  pub manifest : s.manifest ≡ m
  pub journal : IsJournalOf s records
  pub files : parts ≡ map parts_of s.files
  pub rising : AreRising s.files

-- a store is there, untorn and alone, as it is told, and behind level 0 the files of a level ascend
pub record IsThere {D Page Port : Type 0} {kind : Ghosts D Page Port} (disk : Seen) (s : Stored) (opened : Opened D Page Port kind) : Type 0 where
  pub settled : IsSettled disk s
  pub only : HasOnly s [] disk.directory
  pub rising : AreRising s.files
  pub untorn : IsUntorn s disk.directory
  pub told : IsTold opened s

-- so is one of the same configuration that stands for the same history
pub record IsReopened {D Page Port : Type 0} {kind : Ghosts D Page Port} (s : Stored) (disk : Seen) (opened : Opened D Page Port kind) : Type 0 where
  pub t : Stored
  pub reopened_as : IsReopenedAs s t
  pub there : IsThere disk t opened
  pub config_is : t.manifest.config ≡ s.manifest.config
  pub stands : (h : History) → IsFor h s → IsFor h t
