-- A store on which changes can be made.
use Rattle.std.specs.Prelude.{◌≡◌, ◌⊎◌, ◌≤◌, ◌+◌, length, map, All, Contains, IsTrue, None}
use Rattle.lethe_base.specs.Limits.{max_place, max_time}
use Rattle.lethe_base.specs.declared.name.Kind.TheVariants.{Page}
use Rattle.lethe_base.specs.declared.name.Name.{Name}
use Rattle.lethe_commit.specs.Append.{EndsAt}
use Rattle.lethe_stored.specs.Files.{file_of}
use Rattle.lethe_stored.specs.Levels.{AreRising}
use Rattle.lethe_stored.specs.Stored.{Stored, segment_name}
use Rattle.lethe_advance.specs.Settled.{IsSettled, HasOnly, AreDrawn, AreUncited, names_in}
use Rattle.lethe_advance.specs.Untorn.{IsUntorn}
use Rattle.lethe_clean.specs.Copied.{IsCopiedOf}
use Rattle.lethe_state.specs.Remembered.{Remembers, IsCurrent}
use Rattle.lethe_state.specs.Room.{frozen_len}
use Rattle.lethe_state.specs.Writable.{IsWritable}
use Rattle.lethe_state.specs.declared.state.State.{State}
use Rattle.lethe_job.specs.Works.{IsInLevels, IsTaskFor, applied_upto, erases_of, inputs_in}
use Rattle.lethe_pins.specs.Held.{AreHeld, is_named}
use Rattle.lethe_core.specs.Pinned.{pages_in}
use Rattle.lethe_core.specs.Flights.{AreFlights, Flying, loose_in}
use Rattle.lethe_core.specs.View.{View, beside_in, names_beside}

-- its task merges or sweeps files that are stored
abbrev pub IsTasked : Stored → Flying → Type 0
IsTasked s flying = IsTaskFor s flying.task

-- the pages that were written for it have no put but those of its inputs
abbrev pub IsCopiedFrom : Flying → Type 0
IsCopiedFrom flying = All (IsCopiedOf (map file_of (inputs_in flying.task))) flying.written

-- The disk is in the store's hands: its one image is what is stored, untorn, and beside it the retired pages and those of the jobs in flight, and nothing else. Each job's have no
-- put but those of its inputs, and its task is one of what is stored. Each page that a held pin names is cited or retired. The next record goes behind the end of the active segment, and nothing has failed since.
pub record IsRunning (view : View) (s : Stored) : Type 0 where
  pub settled : IsSettled view.disk s
  pub only : HasOnly s (beside_in view) view.disk.directory
  pub uncited : AreUncited s (beside_in view)
  pub untorn : IsUntorn s view.disk.directory
  pub copied : All IsCopiedFrom view.flights
  pub kept : (name : Name) → IsTrue (is_named view.pins.pins name) → Contains (pages_in s.files) name ⊎ Contains view.retired name
  pub rising : AreRising s.files
  pub ends : EndsAt view.disk (segment_name s.active.no) s.active.no s.active.records view.state.end
  pub current : IsCurrent s view.state
  pub tasked : All (IsTasked s) view.flights

-- it remembers what is stored, and the disk is in its hands
pub record Holds (view : View) (s : Stored) : Type 0 where
  pub remembers : Remembers s view.state view.levels
  pub running : IsRunning view s

-- the active buffer has no more entries than its segment has records, and neither segment more records than a buffer may have
pub record IsSmall (state : State) : Type 0 where
  pub active : length state.active.entries ≤ state.records
  pub records : state.records ≤ state.manifest.config.buffer
  pub frozen : frozen_len state.frozen ≤ state.manifest.config.buffer

-- on any disk: the job merges files of a level above the last or sweeps one of a level that there is, and its numbers and times are within their limits
pub record IsFlying (state : State) (flying : Flying) : Type 0 where
  pub levels : IsInLevels state.manifest.config.levels flying.task
  pub upto : applied_upto flying.task ≤ max_place
  pub erases : All (λ erase. erase.time ≤ max_time) (erases_of flying.task)

-- On any disk the state can be written, its buffers are small, it has each level, the jobs in flight are in the order of their numbers, no two of their claims meet, they are within the limits, and the numbers of their pages were drawn, each once, and the
-- pins are in order and name pages alone. Where the disk tells what it holds, the numbers of all pages beside what is stored were drawn so, the store remembers something stored,
-- and unless something has failed the disk is in its hands.
pub record IsSound (Tells : Type 0) (view : View) : Type 0 where
  pub writable : IsWritable view.state
  pub small : IsSmall view.state
  pub count : length view.levels ≡ view.state.manifest.config.levels + 1
  pub flights : AreFlights view.flights
  pub flies : All (IsFlying view.state) view.flights
  pub loose : AreDrawn view.state.next (names_in (loose_in view.flights))
  pub drawn : Tells → AreDrawn view.state.next (names_beside view)
  pub pins : AreHeld view.pins
  pub pages : All (λ pin. All (λ name. name.kind ≡ Page) pin.names) view.pins.pins
  pub held : Tells → (s : Stored) × Remembers s view.state view.levels × (view.state.stopped ≡ None → IsRunning view s)
