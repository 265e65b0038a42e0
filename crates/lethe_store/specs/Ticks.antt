-- What a session's ticks come to.
use Rattle.std.specs.Prelude.{◌≡◌, ◌≤◌, ◌<◌, ℕ, Bool, true, false, List, [], ◌∷◌, ◌++◌, Option, Some, None, IfSome, Result, Ok, Err}
use Rattle.lethe_base.specs.Counts.{Rose}
use Rattle.lethe_base.specs.History.{History}
use Rattle.lethe_base.specs.Limits.{max_place}
use Rattle.lethe_base.specs.declared.config.Fields.{Fields}
use Rattle.lethe_base.specs.declared.refused.Refused.{Refused}
use Rattle.lethe_base.specs.declared.refused.Refused.TheVariants.{Fault, Stopped, Backwards, Pinned, NothingDue, Cancelled, Exhausted, ReadFault, NoMemory, Damaged}
use Rattle.lethe_cert.specs.declared.certificate.Certificate.{Certificate}
use Rattle.lethe_core.specs.View.{face_of}
use Rattle.lethe_disk.specs.Directory.{Directory}
use Rattle.lethe_engine.specs.Certificates.{IsTrueCertificate}
use Rattle.lethe_engine.specs.StandsFor.{Opened, StandsSince}
use Rattle.lethe_engine.specs.Ticks.{IsCertificateAt}
use Rattle.lethe_engine.specs.declared.ticking.Ticked.{Ticked}
use Rattle.lethe_turn.specs.Seats.{count_of}
use Rattle.lethe_turn.specs.declared.view.View.{View}
use Rattle.lethe_store.specs.declared.entry.Entry.{Entry}
use Rattle.lethe_store.specs.declared.entry.Mark.{Mark}
use Rattle.lethe_store.specs.declared.entry.Mark.TheVariants.{Round, Certified}
use Rattle.lethe_store.specs.StoreViews.{StoreView}
use Rattle.lethe_store.specs.Diary.{IsHeldBehind, limited, spent_by}
use Rattle.lethe_store.specs.Entries.{changes_of}
use Rattle.lethe_store.specs.Reads.{IsClockSeen}
use Rattle.lethe_store.specs.Reasons.{HasReasonOfRead, IsStoppedAt, PortCounts}

-- the certificate of a tick at this place, if it answered one
abbrev pub certified_at : ℕ → Option Certificate → List Mark
certified_at place None = []
certified_at place (Some certificate) = Certified place certificate ∷ []

-- what a tick notes of its answer: a certificate, or that numbers are used up
abbrev pub answered_at : Result Ticked Refused → List Mark
answered_at (Ok told) = certified_at told.place told.certificate
answered_at (Err why) = spent_by (Some why)

-- what a tick notes, by whether it was begun: then a round has ended
abbrev pub ticked_by : Bool → Result Ticked Refused → List Mark
ticked_by true result = Round ∷ answered_at result
ticked_by false result = answered_at result

-- It was begun where its tests passed: where it was done, and where it failed on its way, but not where it was refused before any work. Numbers may run out before it and on its way.
abbrev pub IsBegunBy : Bool → Result Ticked Refused → Type 0
IsBegunBy begun (Ok told) = begun ≡ true
IsBegunBy begun (Err (Stopped at)) = begun ≡ false
IsBegunBy begun (Err (Backwards clock)) = begun ≡ false
IsBegunBy begun (Err (Pinned pin limit)) = begun ≡ false
IsBegunBy begun (Err (Exhausted last)) = Unit {0}
IsBegunBy begun (Err (Fault place before after)) = begun ≡ true
IsBegunBy begun (Err NothingDue) = begun ≡ true
IsBegunBy begun (Err (Cancelled other now)) = begun ≡ true
IsBegunBy begun (Err (ReadFault before after)) = begun ≡ true
IsBegunBy begun (Err NoMemory) = begun ≡ true
IsBegunBy begun (Err (Damaged name)) = begun ≡ true

module _ {V : Type 0} where
  -- by what it has noted the pin of this number is held, with this limit
  abbrev pub HoldsPin : (V → StoreView) → View V Entry Mark → ℕ → ℕ → Type 0
  HoldsPin see v number limit = (o : V) → v.opened ≡ Some o → IsHeldBehind (face_of (see o).view).held v.noted (limited number limit)

  -- a certificate was answered exactly where the time is at least the opened store's threshold, and then it has that clock and the time a threshold before it
  abbrev pub IsCertifiedFrom : (V → StoreView) → View V Entry Mark → ℕ → Option Certificate → Type 0
  IsCertifiedFrom see v to certificate = (o : V) → v.opened ≡ Some o → IsCertificateAt (see o).view.state.manifest.config.threshold to certificate

  -- it is true of a directory and of all that it has seen, whatever history the opened store stood for, on a disk that tells what it holds
  abbrev pub IsTrueOf : Type 0 → (V → StoreView) → View V Entry Mark → Option Certificate → Type 0
  IsTrueOf Tells see v certificate = (o : V) → v.opened ≡ Some o → Tells → (config : Fields) (opened : Opened) (h : History) → StandsSince config opened h (see o).view
      → IfSome certificate (λ told. (there : Directory) × IsTrueCertificate config.threshold told there (h ++ changes_of v.seen))

  -- Why a tick is refused, by what the session has seen and noted then: the disk failed in it, its count of faults rose, and the tick stands last there; a change that it has seen there failed; the
  -- clock there is ahead of its time; a pin is held, by what it has noted, whose limit is at most its time; the places, the rounds or numbers are used up; or as for a read.
  abbrev pub HasReasonOfTick : Type 0 → Type 0 → ℕ → (V → StoreView) → View V Entry Mark → PortCounts → PortCounts → Refused → Type 0
  HasReasonOfTick Tells PortsFail to see v before now (Fault place told_before told_now) = (place ≡ count_of v) × Rose told_before told_now
  HasReasonOfTick Tells PortsFail to see v before now (Stopped at) = IsStoppedAt see v at
  HasReasonOfTick Tells PortsFail to see v before now (Backwards clock) = (to < clock) × IsClockSeen see v clock
  HasReasonOfTick Tells PortsFail to see v before now (Pinned pin limit) = (limit ≤ to) × HoldsPin see v pin limit
  HasReasonOfTick Tells PortsFail to see v before now (Exhausted last) = last ≡ max_place
  HasReasonOfTick Tells PortsFail to see v before now (ReadFault told_before told_now) = HasReasonOfRead Tells PortsFail before now (ReadFault told_before told_now)
  HasReasonOfTick Tells PortsFail to see v before now (Damaged name) = HasReasonOfRead Tells PortsFail before now (Damaged name)
  HasReasonOfTick Tells PortsFail to see v before now NoMemory = Unit {0}
  HasReasonOfTick Tells PortsFail to see v before now NothingDue = ⊥
  HasReasonOfTick Tells PortsFail to see v before now (Cancelled begun other) = ⊥
