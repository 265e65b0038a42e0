-- A store as contracts see it.
use Rattle.std.specs.Prelude.{ℕ, List, [], ◌++◌, map}
use Rattle.lethe_base.specs.declared.name.Name.{Name}
use Rattle.lethe_disk.specs.Directory.{Directory, content}
use Rattle.lethe_disk.specs.Disk.{Seen}
use Rattle.lethe_disk.specs.declared.disk.Disk.{Ghosts}
use Rattle.lethe_stored.specs.Files.{Parts}
use Rattle.lethe_advance.specs.Settled.{names_in}
use Rattle.lethe_advance.specs.Shown.{parts_by_level}
use Rattle.lethe_pins.specs.Held.{Held}
use Rattle.lethe_pins.specs.declared.pin.Pin.{Pin}
use Rattle.lethe_state.specs.declared.state.State.{State}
use Rattle.lethe_core.specs.Flights as flights
pub use flights.{Flying, flying_of, loose_in}
use Rattle.lethe_core.specs.declared.holding.Core.{Core}

-- the disk at this time with its count of faults, what the store remembers, its files by level as their readers have them, the pages that no manifest cites any more, which
-- were left for pins, the jobs in flight in the order of their numbers, how many jobs were begun, how many rounds have ended, and the pins that are held
pub record View : Type 1 where
  pub disk : Seen
  pub faults : ℕ
  pub state : State
  pub levels : List (List Parts)
  pub retired : List Name
  pub flights : List Flying
  pub begun : ℕ
  pub rounds : ℕ
  pub pins : Held

abbrev pub view_of : {D Page Port : Type 0} {kind : Ghosts D Page Port} → Core D Page Port kind → View
view_of {kind = kind} core = record {
  disk = kind.seen core.disk;
  faults = kind.faults core.disk;
  state = core.state;
  levels = parts_by_level core.version;
  retired = core.retired.items;
  flights = core.flights;
  begun = core.begun.jobs;
  rounds = core.begun.rounds;
  pins = core.pins;
}

-- a pin that is held, as a user knows it: its number, and the time from which on a tick is refused for it
pub record Limited : Type 0 where
  pub number : ℕ
  pub limit : ℕ

abbrev pub limited_of : Pin → Limited
limited_of pin = record { number = pin.number; limit = pin.limit }

-- What the jobs and the pins of a store have come to: how many jobs were begun, how many rounds have ended, the jobs in flight, how many pins were made, and those that are held, by
-- limit, then by number. The face behind a call is a function of the one before, the call and its answer.
pub record Face : Type 0 where
  pub begun : ℕ
  pub rounds : ℕ
  pub flights : List Flying
  pub made : ℕ
  pub held : List Limited

abbrev pub face_of : View → Face
face_of view = record { begun = view.begun; rounds = view.rounds; flights = view.flights; made = view.pins.made; held = map limited_of view.pins.pins }

-- no job was begun, no round has ended yet, and no pin was made
abbrev pub no_jobs : Face
no_jobs = record { begun = 0; rounds = 0; flights = []; made = 0; held = [] }

-- objects with the bytes that they have in a directory
abbrev pub named_in : Directory → List Name → List (Name × List ℕ)
named_in d names = map (λ name. (name, content d name)) names

-- what lies in a directory beside what is stored: the retired pages, and those of the jobs in flight
abbrev pub beside_at : Directory → List Name → List Flying → List (Name × List ℕ)
beside_at d retired flights = named_in d retired ++ loose_in flights

abbrev pub beside_in : View → List (Name × List ℕ)
beside_in view = beside_at view.disk.directory view.retired view.flights

-- their names
abbrev pub names_beside : View → List Name
names_beside view = view.retired ++ names_in (loose_in view.flights)
