-- Steps behind others that were carried out: they may be done, and their refusals are those of the whole.
use Rattle.std.proofs.Common.{◌≡◌, ◌<◌, ◌≤◌, ◌⊎◌, inl, inr, ℕ, ◌+◌, Some, None, refl, sym, ap, ◌∙◌, subst, arith}
use Rattle.std.specs.Prelude.{option_map}
use Rattle.std.specs.Option.{option_map_or, option_or}
use Rattle.lethe_base.specs.Limits.{max_place}
use Rattle.lethe_base.specs.declared.refused.Refused.{Refused}
use Rattle.lethe_base.specs.declared.refused.Refused.TheVariants.{Fault, Stopped, Backwards, Pinned, NothingDue, Cancelled, Exhausted, ReadFault, NoMemory, Damaged}
use Rattle.lethe_cover.specs.Steps.{with_failed}
use Rattle.lethe_state.specs.declared.state.State.{State}
use Rattle.lethe_core.specs.Asked.{failure_of, stopped_by}
use Rattle.lethe_core.specs.Keeps.{Keeps, MayStep}
use Rattle.lethe_core.specs.Reasons.{HasReason, IsUnreadable, told_since}
use Rattle.lethe_core.specs.StandsNow.{StandsNow}
use Rattle.lethe_core.specs.Steps.{IsSteady}
use Rattle.lethe_core.specs.View.{View}
use Rattle.lethe_core.proofs.Hindered.{keeps_then}

-- the next step may be done
pub next_may : (Tells : Type 0) (old mid : View) (before : ℕ) → MayStep Tells old before → Keeps Tells old mid None → MayStep Tells mid before
next_may Tells old mid before may keeps =
    let rose = keeps.faults in
    record {
      sound = keeps.sound;
      runs = keeps.stopped ∙ may.runs;
      fits = let below = may.fits in let count = keeps.count in omega (arith, below, count);
      told_from = let told = may.told_from in omega (arith, told, rose);
    }

-- its reason is one of the whole
pub reason_behind : (Short Other : Type 0) (old mid : State) (before now : ℕ) → mid.stopped ≡ old.stopped → mid.count ≡ old.count → (Short → Other) → (why : Refused) → HasReason Short mid before now why → HasReason Other old before now why
reason_behind Short Other old mid before now stopped count wider (Fault place b a) is = (sym stopped ∙ is.0, is.1 ∙ ap (λ n. n + 1) count, is.2, is.3, is.4)
reason_behind Short Other old mid before now stopped count wider (Stopped at) is = sym stopped ∙ is
reason_behind Short Other old mid before now stopped count wider (Exhausted last) is = (sym stopped ∙ is.0, is.1, elim is.2 [ inl full ↦ inl (sym count ∙ full) | inr short ↦ inr (wider short) ])
reason_behind Short Other old mid before now stopped count wider NoMemory is = tt
reason_behind Short Other old mid before now stopped count wider (Backwards clock) is = is
reason_behind Short Other old mid before now stopped count wider (Pinned pin limit) is = is
reason_behind Short Other old mid before now stopped count wider NothingDue is = is
reason_behind Short Other old mid before now stopped count wider (Cancelled begun other) is = is
reason_behind Short Other old mid before now stopped count wider (ReadFault b a) is = is
reason_behind Short Other old mid before now stopped count wider (Damaged name) is = is

-- a step that takes no memory is refused where the disk failed alone, and stops the store
pub refused_stops : (state : State) (before now : ℕ) (why : Refused) → state.stopped ≡ None → state.count < max_place → HasReason ⊥ state before now why → (why ≡ NoMemory → ⊥)
    → (at : ℕ) × (stopped_by (Some why) state.stopped ≡ Some at)
refused_stops state before now (Fault place b a) runs fits is memory = (place, refl)
refused_stops state before now (Stopped at) runs fits is memory = absurd (let clash : Some at ≡ None = sym is ∙ runs in cc)
refused_stops state before now (Exhausted last) runs fits is memory = elim is.2 [ inl full ↦ absurd (omega (arith, full, fits)) | inr short ↦ absurd short ]
refused_stops state before now NoMemory runs fits is memory = absurd (memory refl)
refused_stops state before now (Backwards clock) runs fits is memory = absurd is
refused_stops state before now (Pinned pin limit) runs fits is memory = absurd is
refused_stops state before now NothingDue runs fits is memory = absurd is
refused_stops state before now (Cancelled begun other) runs fits is memory = absurd is
refused_stops state before now (ReadFault b a) runs fits is memory = absurd is
refused_stops state before now (Damaged name) runs fits is memory = absurd is

-- Reads that were refused, told with the count of faults before the first of them

-- whatever count of a port's faults it is told with, it tells of the same failure
failure_since : (earlier : ℕ) (why : Refused) → failure_of why ≡ failure_of (told_since earlier why)
failure_since earlier (Fault place before now) = refl
failure_since earlier (Stopped at) = refl
failure_since earlier (Backwards clock) = refl
failure_since earlier (Pinned pin limit) = refl
failure_since earlier NothingDue = refl
failure_since earlier (Cancelled begun now) = refl
failure_since earlier (Exhausted last) = refl
failure_since earlier (ReadFault before now) = refl
failure_since earlier NoMemory = refl
failure_since earlier (Damaged name) = refl

pub keeps_since : (Tells : Type 0) (old mid new : View) → Keeps Tells old mid None → (why : Refused) (earlier : ℕ) → Keeps Tells mid new (Some why) → Keeps Tells old new (Some (told_since earlier why))
keeps_since Tells old mid new before why earlier keeps =
    let both = keeps_then Tells old mid new before (Some why) keeps in
    let same = failure_since earlier why in
    record {
      sound = both.sound;
      count = both.count ∙ ap (λ f. option_map_or (λ failure. old.state.count + 1) f old.state.count) same;
      stopped = both.stopped ∙ ap (λ f. option_or (option_map (λ failure. failure.place) f) old.state.stopped) same;
      clock = both.clock;
      stands = λ told config h stands caller call.
          subst (λ f. StandsNow config (option_map_or (λ failure. with_failed h caller call failure.before failure.after) f h) new) same (both.stands told config h stands caller call);
      any_moment = both.any_moment;
      numbers = both.numbers;
      drawn = both.drawn;
      faults = both.faults;
      retired = both.retired;
      pins = both.pins;
      pinned = both.pinned;
    }

-- what was refused was no failure, then or as it is told
pub since_failed : (earlier : ℕ) (why : Refused) → failure_of (told_since earlier why) ≡ None → failure_of why ≡ None
since_failed earlier why none = failure_since earlier why ∙ none

reason_since : (Short : Type 0) (state : State) (before now earlier : ℕ) (why : Refused) → HasReason Short state before now why → HasReason Short state before now (told_since earlier why)
reason_since Short state before now earlier (Fault place b a) is = is
reason_since Short state before now earlier (Stopped at) is = is
reason_since Short state before now earlier (Exhausted last) is = is
reason_since Short state before now earlier NoMemory is = is
reason_since Short state before now earlier (Backwards clock) is = is
reason_since Short state before now earlier (Pinned pin limit) is = is
reason_since Short state before now earlier NothingDue is = is
reason_since Short state before now earlier (Cancelled begun other) is = is
reason_since Short state before now earlier (ReadFault b a) is = absurd is
reason_since Short state before now earlier (Damaged name) is = is

unreadable_since : (Tells PortsFail : Type 0) (earlier mid now : ℕ) → earlier ≤ mid → (why : Refused) → IsUnreadable Tells PortsFail mid now why → IsUnreadable Tells PortsFail earlier now (told_since earlier why)
unreadable_since Tells PortsFail earlier mid now later (ReadFault b a) is = (is.0, refl, is.2, let rose = is.3 in omega (arith, later, rose))
unreadable_since Tells PortsFail earlier mid now later (Damaged name) is = is
unreadable_since Tells PortsFail earlier mid now later (Fault place b a) is = absurd is
unreadable_since Tells PortsFail earlier mid now later (Stopped at) is = absurd is
unreadable_since Tells PortsFail earlier mid now later (Exhausted last) is = absurd is
unreadable_since Tells PortsFail earlier mid now later NoMemory is = absurd is
unreadable_since Tells PortsFail earlier mid now later (Backwards clock) is = absurd is
unreadable_since Tells PortsFail earlier mid now later (Pinned pin limit) is = absurd is
unreadable_since Tells PortsFail earlier mid now later NothingDue is = absurd is
unreadable_since Tells PortsFail earlier mid now later (Cancelled begun other) is = absurd is

pub either_since : (Short Tells PortsFail : Type 0) (old mid : State) (before now earlier between later : ℕ) → IsSteady old mid → earlier ≤ between → (why : Refused)
    → HasReason Short mid before now why ⊎ IsUnreadable Tells PortsFail between later why → HasReason Short old before now (told_since earlier why) ⊎ IsUnreadable Tells PortsFail earlier later (told_since earlier why)
either_since Short Tells PortsFail old mid before now earlier between later steady rose why (inl is) = inl (reason_since Short old before now earlier why (reason_behind Short Short old mid before now steady.stopped steady.count (λ short. short) why is))
either_since Short Tells PortsFail old mid before now earlier between later steady rose why (inr is) = inr (unreadable_since Tells PortsFail earlier between later rose why is)
