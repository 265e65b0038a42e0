-- The jobs that a store has in flight.
use Rattle.std.specs.Prelude.{◌≡◌, ◌<◌, ℕ, ◌==◌, not, List, [], ◌∷◌, ◌++◌, map, filter, find, flat_map, All, AllPairs, Option, if◌then◌else◌, false}
use Rattle.std.specs.Option.{option_map_or}
use Rattle.lethe_base.specs.declared.name.Name.{Name}
use Rattle.lethe_disk.specs.declared.disk.Disk.{Ghosts}
use Rattle.lethe_fade.specs.Claims.{meets}
use Rattle.lethe_follows.specs.Merged.{Company, Last, Beside}
use Rattle.lethe_job.specs.Claims.{claim_of_task}
use Rattle.lethe_job.specs.Works.{PlainTask, plain_task}
use Rattle.lethe_core.specs.declared.flight.Flight.{Flight}

-- a job in flight: its number, its task, and the pages that were written for it, with their bytes
pub record Flying : Type 0 where
  pub number : ℕ
  pub task : PlainTask
  pub written : List (Name × List ℕ)

abbrev pub flying_of : {D Page Port : Type 0} {kind : Ghosts D Page Port} → Flight D Page Port kind → Flying
flying_of flight = record { number = flight.number; task = plain_task flight.task.value; written = flight.written }

-- in the order of their numbers, each once, and no two claims meet
pub record AreFlights (flights : List Flying) : Type 0 where
  pub ascend : AllPairs (λ a b. a.number < b.number) flights
  pub apart : AllPairs (λ a b. meets (claim_of_task a.task) (claim_of_task b.task) ≡ false) flights

-- and the claims that they are held with are those of their tasks
pub record AreClaimed {D Page Port : Type 0} {kind : Ghosts D Page Port} (flights : List (Flight D Page Port kind)) : Type 0 where
  pub claims : All (λ flight. flight.claim ≡ claim_of_task (plain_task flight.task.value)) flights
  pub are : AreFlights (map flying_of flights)

-- the job of a number, where it is in flight
abbrev pub flying_by : ℕ → List Flying → Option Flying
flying_by number flights = find (λ flying. flying.number == number) flights

-- the jobs with another number
abbrev pub without : ℕ → List Flying → List Flying
without number flights = filter (λ flying. not (flying.number == number)) flights

-- more pages are written for a job
abbrev pub with_pages : Flying → List (Name × List ℕ) → Flying
with_pages flying pages = record flying { written = flying.written ++ pages }

-- more pages are written for the job of a number
abbrev pub with_pages_of : ℕ → List (Name × List ℕ) → List Flying → List Flying
with_pages_of number pages flights = map (λ flying. if flying.number == number then with_pages flying pages else flying) flights

-- one page more is
abbrev pub with_page_of : ℕ → Name × List ℕ → List Flying → List Flying
with_page_of number page flights = with_pages_of number (page ∷ []) flights

-- the pages that were written for a job
abbrev pub written_by : ℕ → List Flying → List (Name × List ℕ)
written_by number flights = option_map_or (λ flying. flying.written) (flying_by number flights) []

-- the pages that were written for the jobs in flight, which no manifest cites yet
abbrev pub loose_in : List Flying → List (Name × List ℕ)
loose_in flights = flat_map (λ flying. flying.written) flights

-- what a job is installed beside, where these are the others in flight
abbrev pub company_of : List Flying → Company
company_of [] = Last
company_of (flying ∷ more) = Beside
