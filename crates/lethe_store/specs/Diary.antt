-- What the diary of a shared store says of it: rounds, pins and certificates since it was opened.
use Rattle.std.specs.Prelude.{◌≡◌, ◌≢◌, ◌≤◌, ◌⊎◌, ℕ, ◌+◌, List, [], ◌∷◌, ◌++◌, length, map, fold, filter_map, All, Contains, Option, Some, None}
use Rattle.lethe_base.specs.History.{History}
use Rattle.lethe_base.specs.Limits.{max_place}
use Rattle.lethe_base.specs.declared.config.Fields.{Fields}
use Rattle.lethe_base.specs.declared.refused.Refused.{Refused}
use Rattle.lethe_base.specs.declared.refused.Refused.TheVariants.{Fault, Stopped, Backwards, Pinned, NothingDue, Cancelled, Exhausted, ReadFault, NoMemory, Damaged}
use Rattle.lethe_build.specs.Built.{most_numbers}
use Rattle.lethe_cert.specs.declared.certificate.Certificate.{Certificate}
use Rattle.lethe_pins.specs.Held.{placed_by}
use Rattle.lethe_core.specs.Pins.{without_pin}
use Rattle.lethe_core.specs.View.{Face, Limited, View, face_of}
use Rattle.lethe_engine.specs.StandsFor.{IsCertifiedBy, Opened, StandsSince}
use Rattle.lethe_store.specs.declared.entry.Entry.{Entry}
use Rattle.lethe_store.specs.declared.entry.Mark.{Mark}
use Rattle.lethe_store.specs.declared.entry.Mark.TheVariants.{Round, Certified, Made, Released, Spent}
use Rattle.lethe_store.specs.Entries.{changes_of}
use Rattle.lethe_store.specs.StoreViews.{StoreView}

abbrev pub limited : ℕ → ℕ → Limited
limited number limit = record { number = number; limit = limit }

-- the pin that a mark says was made
abbrev pub made_by : Mark → Option Limited
made_by Round = None
made_by (Certified place certificate) = None
made_by (Made number limit) = Some (limited number limit)
made_by (Released number) = None
made_by Spent = None

-- the pins that were made
abbrev pub made_in : List Mark → List Limited
made_in marks = filter_map made_by marks

-- the certificate that a mark says was answered, behind the place of its tick
abbrev pub certified_by : Mark → Option (ℕ × Certificate)
certified_by Round = None
certified_by (Certified place certificate) = Some (place, certificate)
certified_by (Made number limit) = None
certified_by (Released number) = None
certified_by Spent = None

-- the certificates that were answered, each behind the place of its tick
abbrev pub certified_in : List Mark → List (ℕ × Certificate)
certified_in marks = filter_map certified_by marks

abbrev pub answered_in : List Mark → List Certificate
answered_in marks = map (λ (told : ℕ × Certificate). told.1) (certified_in marks)

-- The rounds, the jobs in flight and the pins behind a mark: a round ends and takes the jobs with it, a pin comes to those that are held, or one is held no more.
abbrev pub face_by : Face → Mark → Face
face_by face Round = record face { rounds = face.rounds + 1; flights = [] }
face_by face (Certified place certificate) = face
face_by face (Made number limit) = record face { made = number; held = placed_by (λ pin. pin.limit) (limited number limit) face.held }
face_by face (Released number) = without_pin face number
face_by face Spent = face

-- behind these marks
abbrev pub face_along : Face → List Mark → Face
face_along face marks = fold face_by face marks

-- numbered one behind another, from this number on
abbrev pub AreNumbered : ℕ → List Limited → Type 0
AreNumbered next [] = Unit {0}
AreNumbered next (pin ∷ pins) = (pin.number ≡ next) × AreNumbered (next + 1) pins

-- no pin of this number was let go
abbrev pub IsUnreleased : ℕ → List Mark → Type 0
IsUnreleased number marks = All (λ mark. mark ≢ Released number) marks

-- The pin was held at the opening, or was made, and wasn't let go behind that.
abbrev pub IsHeldBehind : List Limited → List Mark → Limited → Type 0
IsHeldBehind opened marks pin = (Contains opened pin × IsUnreleased pin.number marks)
    ⊎ ((before behind : List Mark) × (marks ≡ before ++ Made pin.number pin.limit ∷ behind) × IsUnreleased pin.number behind)

-- the certificate stands, by a tick at this place of the history
abbrev pub IsCertifiedAt : Fields → Opened → History → View → ℕ × Certificate → Type 0
IsCertifiedAt config opened h view told = (before_tick : History) × (caller : ℕ) × (told.0 ≡ length before_tick + 1) × IsCertifiedBy config opened h view before_tick caller told.1

-- what a call notes that is refused because numbers are used up
abbrev pub spent_by : Option Refused → List Mark
spent_by None = []
spent_by (Some (Exhausted last)) = Spent ∷ []
spent_by (Some (Fault place before after)) = []
spent_by (Some (Stopped at)) = []
spent_by (Some (Backwards clock)) = []
spent_by (Some (Pinned pin limit)) = []
spent_by (Some NothingDue) = []
spent_by (Some (Cancelled begun other)) = []
spent_by (Some (ReadFault before after)) = []
spent_by (Some NoMemory) = []
spent_by (Some (Damaged name)) = []

-- The numbers can't be drawn of as many objects as hold as many entries as there were changes and as a buffer may have, and of two more.
abbrev pub AreNumbersShort : View → Type 0
AreNumbersShort view = max_place ≤ view.state.next + most_numbers (view.state.count + 16384) + 2

-- The last place is taken, or the last pin's number, or the last round; or numbers of objects are short, where the opened store stood for a history, on a disk that tells what it holds. Whatever is
-- called, it stays so.
abbrev pub IsSpent : Type 0 → StoreView → StoreView → Type 0
IsSpent Tells o x = (x.view.state.count ≡ max_place) ⊎ (x.view.pins.made ≡ max_place) ⊎ (max_place ≤ x.view.rounds)
    ⊎ (Tells → (config : Fields) (opened : Opened) (h : History) → StandsSince config opened h o.view → AreNumbersShort x.view)

-- Its rounds, its jobs and its pins are those of the opened store, changed by these marks; the pins made since are numbered one behind another. Its certificates are those of the opened store
-- and those that were noted, and on a disk that tells what it holds each of these stands, by the tick at its place. Numbers are used up where that was noted.
pub record Diary (Tells : Type 0) (o : StoreView) (entries : List Entry) (marks : List Mark) (x : StoreView) : Type 0 where
  pub face : face_of x.view ≡ face_along (face_of o.view) marks
  pub numbered : AreNumbered (o.view.pins.made + 1) (made_in marks)
  pub certificates : x.certificates ≡ o.certificates ++ answered_in marks
  pub certified : Tells → (config : Fields) (opened : Opened) (h : History) → StandsSince config opened h o.view → All (IsCertifiedAt config opened (h ++ changes_of entries) x.view) (certified_in marks)
  pub spent : Contains marks Spent → IsSpent Tells o x
