-- What a sweep's task is to do, and what it makes of its file.
use Rattle.std.specs.Prelude.{◌≡◌, Bool, List, [], Option, MatchOption}
use Rattle.lethe_base.specs.declared.entry.Entry.{Entry}
use Rattle.lethe_base.specs.declared.pending.Pending.{Pending}
use Rattle.lethe_disk.specs.declared.disk.Disk.{Ghosts}
use Rattle.lethe_fade.specs.declared.plan.Plan.{Plan}
use Rattle.lethe_header.specs.declared.header.TileLine.{TileLine}
use Rattle.lethe_stored.specs.Files.{StoredFile}
use Rattle.lethe_sweep.specs.Sweeping.{IsSweptBy}
use Rattle.lethe_swept.specs.Drafts.{IsDraftOf}
use Rattle.lethe_swept.specs.declared.draft.SweptDraft.{SweptDraft}
use Rattle.lethe_swept.specs.declared.part.SweptFile.{SweptFile}
use Rattle.lethe_version.specs.Versions.{bytes_of}
use Rattle.lethe_sweep_task.specs.declared.task.SweepTask.{SweepTask}

-- a task, over a file as it is stored
pub record PlainSweep : Type 0 where
  pub plan : Plan
  pub file : StoredFile
  pub erase : Pending
  pub alone : Bool

abbrev pub plain_sweep : {D Page Port : Type 0} {disk : Ghosts D Page Port} → SweepTask D Page Port disk → PlainSweep
plain_sweep task = record {
  plan = task.plan;
  file = record { level = task.level; swept = task.swept; header = task.file.file.value.header; pages = bytes_of task.file.file.value };
  erase = task.erase;
  alone = task.alone;
}

-- the draft of what the erase leaves of the file of these tiles, whose pages have these entries; and none where it leaves nothing
pub record IsDraftLeft (alone : Bool) (erase : Pending) (tiles : List TileLine) (pages : List (List Entry)) (made : Option SweptDraft) : Type 0 where
  pub swept : SweptFile
  pub is : IsSweptBy alone erase tiles pages swept
  pub made_of : MatchOption made (swept.tiles ≡ []) (IsDraftOf tiles swept)
