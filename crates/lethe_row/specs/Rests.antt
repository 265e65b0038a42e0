-- A store with a record that waits behind a closed gate, and what it is at rest, without that.
use Rattle.std.specs.Prelude.{◌≡◌, ◌<◌, ℕ, ◌+◌, false, None}
use Rattle.std.specs.FinMap.{insert}
use Rattle.lethe_base.specs.History.{History}
use Rattle.lethe_base.specs.Limits.{max_place}
use Rattle.lethe_base.specs.declared.call.Call.{Call}
use Rattle.lethe_base.specs.declared.config.Fields.{Fields}
use Rattle.lethe_chain.specs.Chains.{IsWaiting, end_of, waiting_bytes}
use Rattle.lethe_cover.specs.Steps.{with_done}
use Rattle.lethe_disk.specs.Directory.{Directory}
use Rattle.lethe_disk.specs.Disk.{IsSynced, Seen}
use Rattle.lethe_segment.specs.Records.{record_seq}
use Rattle.lethe_stored.specs.Kept.{IsFor}
use Rattle.lethe_stored.specs.Left.{is_work}
use Rattle.lethe_stored.specs.Steps.{addition}
use Rattle.lethe_stored.specs.Stored.{Stored, appended, segment_name}
use Rattle.lethe_state.specs.Records.{IsNext}
use Rattle.lethe_state.specs.Waiting.{IsPrepared}
use Rattle.lethe_state.specs.declared.waiting.Waiting.{Waiting}
use Rattle.lethe_core.specs.Changes.{with_record}
use Rattle.lethe_core.specs.Running.{Holds, IsSound}
use Rattle.lethe_core.specs.StandsNow.{StandsNow}
use Rattle.lethe_core.specs.Steps.{IsBeside}
use Rattle.lethe_core.specs.View.{View}

-- a disk with this directory, of which a crash leaves that and nothing else
abbrev pub resting : Directory → ℕ → Seen
resting d moment = record { directory = d; moment = moment; left = λ m c. c ≡ d }

-- the store, were this its disk's directory
abbrev pub at_rest : View → Directory → View
at_rest view d = record view { disk = resting d view.disk.moment }

-- On the disk the active segment has the record that waits behind the closed gate that ends it, and all else is as it is at rest.
pub record IsHeldBack (d : Directory) (disk : Seen) (at : ℕ) (waiting : Waiting) (s : Stored) : Type 0 where
  pub waits : IsWaiting disk (segment_name s.active.no) at (addition s waiting.record)
  pub end_is : waiting.end ≡ end_of at (addition s waiting.record)
  pub directory : disk.directory ≡ insert d (segment_name s.active.no) (waiting_bytes (addition s waiting.record))
  pub synced : IsSynced disk

-- The store without the record that waits, which has this directory then, takes changes. The record is that of the next one, for which there is room in the segment and in memory.
pub record IsAtRest (Tells : Type 0) (view : View) (d : Directory) (waiting : Waiting) : Type 0 where
  pub sound : IsSound Tells (at_rest view d)
  pub runs : view.state.stopped ≡ None
  pub fits : view.state.count < max_place
  pub room : view.state.records < view.state.manifest.config.buffer
  pub prepared : IsPrepared view.state waiting
  pub place : record_seq waiting.record ≡ view.state.count + 1
  pub held_back : Tells → (s : Stored) → Holds (at_rest view d) s → IsHeldBack d view.disk view.state.end waiting s

-- The record counts: it was entered, and is behind the others of the active segment. Where the store without it stands for a history, the store with it stands for that with the
-- record's change.
pub record IsCountedIn (Tells : Type 0) (waiting : Waiting) (rest then : View) : Type 0 where
  pub state : IsNext waiting.record waiting.end rest.state then.state
  pub beside : IsBeside rest then
  pub holds : Tells → (s : Stored) → Holds rest s → Holds then (appended s waiting.record)
  pub directory : Tells → (s : Stored) → Holds rest s → then.disk.directory ≡ with_record rest.disk.directory s waiting.record
  pub stands : Tells → (config : Fields) (h : History) (caller : ℕ) (call : Call) → is_work call ≡ false → (stands : StandsNow config h rest) → IsFor (with_done h caller call) (appended stands.stored waiting.record)
      → StandsNow config (with_done h caller call) then
