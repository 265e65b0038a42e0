-- Which history a store stands for, what it has kept of it since it was opened, and which certificates stand.
use Rattle.std.specs.Prelude.{◌≡◌, ◌≤◌, ◌+◌, ℕ, ◌++◌, List, All, length}
use Rattle.lethe_base.specs.Counts.{Rose}
use Rattle.lethe_base.specs.History.{History}
use Rattle.lethe_base.specs.declared.call.Call.TheVariants.{Tick}
use Rattle.lethe_base.specs.declared.call.Did.{Did}
use Rattle.lethe_base.specs.declared.call.Did.TheVariants.{Done, Failed}
use Rattle.lethe_base.specs.declared.config.Fields.{Fields}
use Rattle.lethe_base.specs.declared.name.Kind.TheVariants.{Page}
use Rattle.lethe_cert.specs.declared.certificate.Certificate.{Certificate}
use Rattle.lethe_cover.specs.Steps.{with_done}
use Rattle.lethe_disk.specs.Directory.{Directory}
use Rattle.lethe_stored.specs.Clean.{IsClean}
use Rattle.lethe_stored.specs.Kept.{IsKept, certificates}
use Rattle.lethe_stored.specs.Left.{IsOutcome}
use Rattle.lethe_stored.specs.Numbers.{KeepsPace}
use Rattle.lethe_core.specs.StandsNow.{StandsNow}
use Rattle.lethe_core.specs.View.{View}
use Rattle.lethe_engine.specs.Certificates.{HasCommitted}

-- g is a prefix of what a crash may make of h, and not shorter than the opened history
pub record IsPrefixFrom (opened h g : History) : Type 0 where
  pub begins : (added : History) × (g ≡ opened ++ added)
  pub outcome : History
  pub is : IsOutcome h outcome
  pub front : (rest : History) × (outcome ≡ g ++ rest)

-- the directory is kept for such a prefix
abbrev pub IsKeptFor : Fields → History → History → Directory → Type 0
IsKeptFor config opened h d = (g : History) × IsPrefixFrom opened h g × IsKept config d g

-- what a store was when it was opened
pub record Opened : Type 0 where
  pub history : History
  -- the moment of its disk when opening began, and when it answered
  pub began : ℕ
  pub moment : ℕ
  -- the next object number with which opening began
  pub next : ℕ
  -- the disk's count of faults when it answered
  pub faults : ℕ

-- what failed was told with counts of faults between these two, and they rose in it
abbrev pub HasCounts : ℕ → ℕ → Did → Type 0
HasCounts from upto Done = Unit {0}
HasCounts from upto (Failed before after) = (from ≤ before) × Rose before after × (after ≤ upto)

-- It stands for the history now, which goes on from the opened one, and what is retired are pages. Each crash since opening answered leaves what is kept for a prefix that is
-- not shorter than that. Numbers were drawn no faster than device calls were made since opening began, and what each crash leaves keeps pace too.
pub record StandsSince (config : Fields) (opened : Opened) (h : History) (view : View) : Type 0 where
  pub now : StandsNow config h view
  pub pages : All (λ name. name.kind ≡ Page) view.retired
  pub begins : (added : History) × (h ≡ opened.history ++ added)
  pub later : opened.moment ≤ view.disk.moment
  pub images : (moment : ℕ) (c : Directory) → opened.moment ≤ moment → moment ≤ view.disk.moment → view.disk.left moment c → IsKeptFor config opened.history h c
  pub numbers : view.state.next + opened.began ≤ opened.next + view.disk.moment
  pub pace : KeepsPace opened.next opened.began opened.moment view.disk
  pub since : opened.faults ≤ view.faults
  -- the counts with which changes failed since
  pub counts : All (λ change. HasCounts opened.faults view.faults change.did) begins.0

-- as if it had been opened at this moment with this history
abbrev pub opened_at : Opened → History → ℕ → Opened
opened_at opened front moment = record opened { history = front; moment = moment }

-- A tick of a caller behind this history answered the certificate, at a moment since opening. Each image at that moment had the manifest of the certificate's clock and digest,
-- with the tick's place as its count, and was clean for the history up to the tick; and each later crash leaves what is kept for a prefix that has the tick.
pub record IsCertifiedBy (config : Fields) (opened : Opened) (h : History) (view : View) (before_tick : History) (caller : ℕ) (certificate : Certificate) : Type 0 where
  pub moment : ℕ
  pub from : (added : History) × (before_tick ≡ opened.history ++ added)
  pub since : opened.moment ≤ moment
  pub stands : StandsSince config (opened_at opened (with_done before_tick caller (Tick certificate.clock)) moment) h view
  pub number : certificate.number ≡ certificates config.threshold (with_done before_tick caller (Tick certificate.clock))
  pub before : certificate.before + config.threshold ≡ certificate.clock
  pub each : (c : Directory) → view.disk.left moment c → HasCommitted c certificate (length before_tick + 1)
      × IsClean config.threshold c (with_done before_tick caller (Tick certificate.clock)) certificate.clock

-- some tick of the history did
abbrev pub IsCertified : Fields → Opened → History → View → Certificate → Type 0
IsCertified config opened h view certificate = (before_tick : History) × (caller : ℕ) × IsCertifiedBy config opened h view before_tick caller certificate

-- The store stands for the history since it was opened, and each of these certificates stands.
pub record StandsFor (config : Fields) (opened : Opened) (h : History) (view : View) (certificates : List Certificate) : Type 0 where
  pub since : StandsSince config opened h view
  pub certified : All (IsCertified config opened h view) certificates
