-- Refusals that tell of no failure: they are in no history, and the store goes on as before.
use Rattle.std.proofs.Common.{◌≡◌, ◌⊎◌, inl, inr, ℕ, ◌+◌, Option, Some, None, refl, ap}
use Rattle.std.specs.Prelude.{option_map}
use Rattle.std.specs.Option.{option_map_or, option_or}
use Rattle.lethe_base.specs.History.{History}
use Rattle.lethe_base.specs.Limits.{max_place}
use Rattle.lethe_base.specs.declared.call.Call.{Call}
use Rattle.lethe_base.specs.declared.call.Call.TheVariants.{Tick}
use Rattle.lethe_base.specs.declared.refused.Refused.{Refused}
use Rattle.lethe_base.specs.declared.refused.Refused.TheVariants.{Exhausted, NoMemory}
use Rattle.lethe_cover.specs.Steps.{with_failed}
use Rattle.lethe_state.specs.Clock.{Clock}
use Rattle.lethe_core.specs.Asked.{Asked, Failure, Makes, Serves, behind, clock_behind, counted, done_by, failure_of, refused_to, stopped_by, written_by}

pub not_none : (failure : Failure) → Some failure ≡ None → ⊥
not_none failure none = cc

pub not_failed : (why : Refused) → (why ≡ Exhausted max_place) ⊎ (why ≡ NoMemory) → failure_of why ≡ None
not_failed why (inl short) = ap failure_of short
not_failed why (inr memory) = ap failure_of memory

pub refused_none : (h : History) (caller : ℕ) (call : Call) (why : Refused) → failure_of why ≡ None → refused_to h caller call why ≡ h
refused_none h caller call why none = ap (λ f. option_map_or (λ failure. with_failed h caller call failure.before failure.after) f h) none

pub behind_none : (h : History) (caller : ℕ) (asked : Asked) (why : Refused) → failure_of why ≡ None → behind h caller asked (Some why) ≡ h
behind_none h caller (Makes call) why none = refused_none h caller call why none
behind_none h caller (Serves call) why none = refused_none h caller call why none

pub counted_none : (asked : Asked) (why : Refused) (count : ℕ) → failure_of why ≡ None → counted asked (Some why) count ≡ count
counted_none (Makes call) why count none = ap (λ f. option_map_or (λ failure. count + 1) f count) none
counted_none (Serves call) why count none = ap (λ f. option_map_or (λ failure. count + 1) f count) none

-- whatever was refused, the clock stands
pub clock_refused : (asked : Asked) (why : Refused) (clock : Clock) → clock_behind asked (Some why) clock ≡ clock
clock_refused (Makes (Tick to)) why clock = refl
clock_refused asked why clock = refl

pub stopped_none : (why : Refused) (stopped : Option ℕ) → failure_of why ≡ None → stopped_by (Some why) stopped ≡ stopped
stopped_none why stopped none = ap (λ f. option_or (option_map (λ failure. failure.place) f) stopped) none

pub written_none : (caller : ℕ) (asked : Asked) (why : Refused) → failure_of why ≡ None → written_by caller asked (Some why) ≡ None
written_none caller (Makes call) why none = ap (option_map (λ failure. done_by caller call)) none
written_none caller (Serves call) why none = refl
