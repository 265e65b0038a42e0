-- Ticks, as the store sees them.
use Rattle.std.specs.Prelude.{◌≡◌, ◌≤◌, ◌<◌, ◌⊎◌, ℕ, ◌+◌, true, List, [], ◌∷◌, Some, None, Bool, ◌&&◌, is_none, nat_le, nat_lt, option_to_list, Result, Ok, Err, if◌then◌else◌}
use Rattle.lethe_base.specs.Limits.{max_place}
use Rattle.lethe_base.specs.declared.refused.Refused.{Refused}
use Rattle.lethe_base.specs.declared.refused.Refused.TheVariants.{Fault, Stopped, Backwards, Pinned, NothingDue, Cancelled, Exhausted, ReadFault, NoMemory, Damaged}
use Rattle.lethe_cert.specs.declared.certificate.Certificate.{Certificate}
use Rattle.lethe_pins.specs.Held.{first_limit_of}
use Rattle.lethe_pins.specs.declared.pin.Pin.{Pin}
use Rattle.lethe_core.specs.Reasons.{HasReason, IsUnreadable}
use Rattle.lethe_core.specs.View.{Face, View, face_of}
pub use Rattle.lethe_tick.specs.Certified.{IsCertificateAt}
pub use Rattle.lethe_tick.specs.Ripened.{IsRipened, IsShortToTick, IsTickedInPart}
use Rattle.lethe_engine.specs.declared.ticking.Ticked.{Ticked}

-- the first limit of the pins that are held is above the time, so that all are
abbrev pub lets_pass : List Pin → ℕ → Bool
lets_pass [] to = true
lets_pass (pin ∷ pins) to = nat_lt to pin.limit

-- the tests that come before a tick's work: nothing has failed, its time isn't behind the clock, there is a place and a round for it, and no held pin bars it
abbrev pub passes : View → ℕ → Bool
passes view to =
    is_none view.state.stopped && nat_le view.state.manifest.clock to && nat_lt view.state.count max_place && nat_lt view.rounds max_place && lets_pass view.pins.pins to

-- Behind a tick that passes its tests a round more has ended, and no job is in flight.
abbrev pub ticked_face : View → ℕ → Face
ticked_face view to = if passes view to then record (face_of view) { rounds = view.rounds + 1; flights = [] } else face_of view

-- the certificate that a tick answered, if it did
abbrev pub answered_by : Result Ticked Refused → List Certificate
answered_by (Ok ticked) = option_to_list ticked.certificate
answered_by (Err why) = []

-- its time is behind the clock
abbrev pub IsBehind : View → ℕ → Refused → Type 0
IsBehind view to why = (view.state.stopped ≡ None) × (to < view.state.manifest.clock) × (why ≡ Backwards view.state.manifest.clock)

-- a pin is held whose limit is at most its time: the first of those of the least limit is told
pub record IsBarred (view : View) (to : ℕ) (why : Refused) : Type 0 where
  pub pin : ℕ
  pub limit : ℕ
  pub first : first_limit_of view.pins.pins ≡ Some (pin, limit)
  pub reached : limit ≤ to
  pub told : why ≡ Pinned pin limit

-- nothing has failed, its time isn't behind the clock, and there is a place and a round for it
pub record IsTickable (view : View) (to : ℕ) : Type 0 where
  pub runs : view.state.stopped ≡ None
  pub forward : view.state.manifest.clock ≤ to
  pub place : view.state.count < max_place
  pub round : view.rounds < max_place

-- why a tick is refused before any work
abbrev pub MayRefuseTick : View → ℕ → Refused → Type 0
MayRefuseTick view to (Stopped at) = view.state.stopped ≡ Some at
MayRefuseTick view to (Backwards clock) = (view.state.stopped ≡ None) × (to < view.state.manifest.clock) × (clock ≡ view.state.manifest.clock)
MayRefuseTick view to (Exhausted last) = (view.state.stopped ≡ None) × (view.state.manifest.clock ≤ to) × (last ≡ max_place) × ((view.state.count ≡ max_place) ⊎ (max_place ≤ view.rounds))
MayRefuseTick view to (Fault place before after) = ⊥
MayRefuseTick view to (Pinned pin limit) = IsTickable view to × IsBarred view to (Pinned pin limit)
MayRefuseTick view to NothingDue = ⊥
MayRefuseTick view to (Cancelled begun now) = ⊥
MayRefuseTick view to (ReadFault before after) = ⊥
MayRefuseTick view to NoMemory = ⊥
MayRefuseTick view to (Damaged name) = ⊥

-- Its time is behind the clock, or a pin bars it; or an earlier call failed, the places or the rounds are used up or numbers are short, the disk failed in this call, or
-- there was no memory; or reading a file was refused, by the port's counts of faults before and now.
abbrev pub HasReasonOfTick : Type 0 → Type 0 → ℕ → View → View → ℕ → ℕ → Refused → Type 0
HasReasonOfTick Tells PortsFail to old new before now why =
    IsBehind old to why
    ⊎ (IsTickable old to × IsBarred old to why)
    ⊎ HasReason ((max_place ≤ old.rounds) ⊎ IsShortToTick Tells to new) old.state old.faults new.faults why
    ⊎ ((old.state.stopped ≡ None) × IsUnreadable Tells PortsFail before now why)
