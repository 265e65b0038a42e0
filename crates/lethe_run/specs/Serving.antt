-- What carrying out orders over a store comes to.
use Rattle.std.specs.Prelude.{◌≡◌, ◌≤◌, ℕ, List, ◌++◌, filter, filter_map, length, All, IfSome, IsPermutation, None, ◌-◌}
use Rattle.lethe_base.specs.History.{History, AreDone, IsLegal, after}
use Rattle.lethe_disk.specs.Directory.{Directory}
use Rattle.lethe_disk.specs.Disk.{Seen}
use Rattle.lethe_disk.specs.Runs.{Continues}
use Rattle.lethe_cert.specs.declared.certificate.Certificate.{Certificate}
use Rattle.lethe_engine.specs.Certificates.{HasCommitted}
use Rattle.lethe_engine.specs.StandsFor.{IsKeptFor, Opened, StandsSince}
use Rattle.lethe_stored.specs.Clean.{IsClean}
use Rattle.lethe_stored.specs.Left.{IsLeft, without_failed}
use Rattle.lethe_stored.specs.Numbers.{KeepsPace}
use Rattle.lethe_core.specs.View.{View}
use Rattle.lethe_script.specs.declared.order.Act.{Act}
use Rattle.lethe_script.specs.declared.order.Order.{Order}
use Rattle.lethe_run.specs.declared.reply.Line.{Line}
use Rattle.lethe_run.specs.declared.reply.Reply.{Reply}
use Rattle.lethe_run.specs.Carried.{AreLasting, HasConfig, IsBorneOut, IsSeen, certificate_in, certificates_in, failed_in, looked_in, looks_in}
use Rattle.lethe_run.specs.Transcript.{Course, Start, course, Answered, Answers, Follows, InTurn, Sees, AreServed, is_of, place_of, places_behind}

-- a history for which a store stood, and a moment of its disk from which on each crash has it
pub record Point : Type 0 where
  pub history : History
  pub moment : ℕ

-- what a store was whose opening began with the run, and answered at this point and with this count of faults
abbrev pub opened_in : Start → Point → ℕ → Opened
opened_in begin from faults = record { history = from.history; began = begin.moment; moment = from.moment; next = begin.next; faults = faults }

-- A store of a run's configuration stands for a history, and since a point each crash has what there was then.
pub record IsOn (begin : Start) (from : Point) (h : History) (view : View) : Type 0 where
  pub done : AreDone from.history
  -- a count of faults of its disk since opening
  pub counted : ℕ
  pub stands : StandsSince begin.config (opened_in begin from counted) h view
  pub faults_since : begin.faults ≤ counted
  pub moment_since : begin.moment ≤ from.moment

-- What a certificate says was so at a point of the run, whose history has its tick as the last change, and since then each crash has that.
pub record IsBorneOn (begin : Start) (h : History) (view : View) (told : ℕ × Certificate) : Type 0 where
  pub point : Point
  pub place : length point.history ≡ told.0
  pub on : IsOn begin point h view
  pub each : (c : Directory) → view.disk.left point.moment c → HasCommitted c told.1 told.0 × IsClean begin.config.threshold c point.history told.1.clock

-- The history went on from h to g, and the store stands for it, whatever point it is seen from.
pub record Advances (begin : Start) (h g : History) (old new : View) : Type 0 where
  pub calls : Continues old.disk new.disk
  pub stands : (from : Point) → IsOn begin from h old → IsOn begin from g new

-- the act was answered so, and the history went on from h to g
pub record IsAnswered (PortsFail : Type 0) (begin : Start) (h g : History) (caller : ℕ) (act : Act) (reply : Reply) (old new : View) : Type 0 where
  pub grows : (added : History) × (g ≡ h ++ added)
  pub answers : Answers (record { history = g; course = course PortsFail begin new.faults new.disk.moment }) caller act reply
  pub follows : Follows (course PortsFail begin new.faults new.disk.moment) (length h) reply (length g)
  pub certified : IfSome (certificate_in reply) (IsBorneOn begin g new)
  pub seen : IfSome (looked_in reply) (IsSeen begin.config begin.moment g new.disk)
  pub goes : Advances begin h g old new

-- the act was answered so by what only looked, with these counts of faults and at this moment
abbrev pub IsLookedUp : Type 0 → Start → ℕ → ℕ → History → ℕ → Act → Reply → Type 0
IsLookedUp PortsFail begin faults moment h caller act reply =
    Answers (record { history = h; course = course PortsFail begin faults moment }) caller act reply × Follows (course PortsFail begin faults moment) (length h) reply (length h) × (certificate_in reply ≡ None) × (looked_in reply ≡ None)

-- From the history `start` on, orders were answered by these lines one after another, and then the history is h.
pub record IsServedInTurn (course : Course) (start : History) (orders : List Order) (lines : List Line) (h : History) : Type 0 where
  pub begins : (added : History) × (h ≡ start ++ added)
  pub legal : IsLegal h
  pub answered : Answered (record { history = h; course = course }) orders lines
  pub once : IsPermutation (places_behind (length start) (length h - length start)) (filter_map place_of lines)
  pub seen : (caller : ℕ) → Sees (length start) (length h) (filter (is_of caller) lines)
  pub alone : InTurn course (length start) lines (length h)

-- the orders were answered by the lines, and the history went on from h to g
pub record IsPhase (PortsFail : Type 0) (begin : Start) (h g : History) (orders : List Order) (lines : List Line) (old new : View) : Type 0 where
  pub served : IsServedInTurn (course PortsFail begin new.faults new.disk.moment) h orders lines g
  pub certified : All (IsBorneOn begin g new) (certificates_in lines)
  pub seen : All (IsSeen begin.config begin.moment g new.disk) (looks_in lines)
  pub goes : Advances begin h g old new

-- the phases were answered by the lines, one after another as they are printed, from the opened history on
pub record IsCarried (course : Course) (begin : Start) (from : Point) (phases : List (List Order)) (lines : List (List Line)) (start finish : Seen) : Type 0 where
  pub history : History
  pub served : AreServed course from.history phases lines lines history
  pub calls : Continues start finish
  pub each : (m : ℕ) (c : Directory) → from.moment ≤ m → m ≤ finish.moment → finish.left m c → IsKeptFor begin.config from.history history c
  pub lasting : AreLasting begin.config from.history history finish from.moment lines
  pub certified : All (λ line. All (IsBorneOut begin.config begin.moment history finish) (certificates_in line)) lines
  pub seen : All (λ line. All (IsSeen begin.config begin.moment history finish) (looks_in line)) lines
  pub leaves : IsLeft begin.config finish (without_failed history) (failed_in history)
  pub config_is : failed_in history ≡ None → HasConfig begin.config finish.directory
  pub clean : failed_in history ≡ None → IsClean begin.config.threshold finish.directory history (after history).clock
  pub pace : KeepsPace begin.next begin.moment from.moment finish
