-- Merges and sweeps one after another.
use Rattle.std.proofs.Common.{◌≡◌, ◌≤◌, ◌<◌, ◌⊎◌, inl, inr, ℕ, ◌+◌, ◌-◌, ◌^◌, min, List, [], ◌∷◌, ◌++◌, length, None, refl, ap, ◌∙◌, subst, arith}
use Rattle.std.specs.Prelude.{Option}
use Rattle.std.proofs.lemmas.List.Sums.{sum_by-append}
use Rattle.lethe_base.specs.declared.name.Name.{Name}
use Rattle.lethe_base.specs.declared.pending.Pending.{Pending}
use Rattle.lethe_fade.specs.declared.plan.Plan.{Plan}
use Rattle.lethe_stored.specs.Stored.{Stored, IsCoherent, pending_of}
use Rattle.lethe_job.specs.Works.{reads_of}
use Rattle.lethe_pins.specs.Held.{Held}
use Rattle.lethe_pins.specs.declared.pin.Pin.{Pin}
use Rattle.lethe_core.specs.Descent.{HasCountedErases, jobs_at_most, jobs_left}
use Rattle.lethe_core.specs.Keeps.{Keeps, MayStep}
use Rattle.lethe_core.specs.Merges.{AreOutcomesBy, AreRetiredBehind, AreSomeOutcomesBy, HasNoMergeBy, IsOutcomeBy, IsUncrowded, Outcome, pages_of, room_choice}
use Rattle.lethe_core.specs.Pinned.{AreNamed}
use Rattle.lethe_core.specs.Running.{Holds, IsSound}
use Rattle.lethe_core.specs.Steps.{IsSteady}
use Rattle.lethe_core.specs.View.{Flying, View}
use Rattle.lethe_core.proofs.Behind.{next_may}
use Rattle.lethe_core.proofs.Descending.{any_goes_on, few_at_most, few_jobs, goes_on}
use Rattle.lethe_core.proofs.Hindered.{keeps_itself, keeps_then}
use Rattle.lethe_core.proofs.Waiting.{still_counted}

-- Some of the jobs that are chosen

none_few : (s : Stored) (outcomes : List Outcome) (t : Stored) → outcomes ≡ [] → t ≡ s → length outcomes + jobs_left t ≤ jobs_left s
none_few s outcomes t none same =
    let zero : length outcomes ≡ 0 = ap length none in
    let left : jobs_left t ≡ jobs_left s = ap jobs_left same in
    omega (arith, zero, left)

module _ (chosen : Stored → Option Plan) where
  some_more : (s : Stored) (outcomes : List Outcome) (t : Stored) (next : Outcome) → AreSomeOutcomesBy chosen s outcomes t → IsOutcomeBy chosen t next → AreSomeOutcomesBy chosen s (outcomes ++ next ∷ []) next.to
  some_more s [] t next are is = (subst (λ x. IsOutcomeBy chosen x next) are is, refl)
  some_more s (outcome ∷ more) t next are is = (are.0, some_more outcome.to more t next are.1 is)

  some_ended : (s : Stored) (outcomes : List Outcome) (t : Stored) → AreSomeOutcomesBy chosen s outcomes t → HasNoMergeBy chosen t → AreOutcomesBy chosen s outcomes t
  some_ended s [] t are none = (subst (HasNoMergeBy chosen) are none, are)
  some_ended s (outcome ∷ more) t are none = (are.0, some_ended outcome.to more t are.1 none)

  pub ended_some : (s : Stored) (outcomes : List Outcome) (t : Stored) → AreOutcomesBy chosen s outcomes t → AreSomeOutcomesBy chosen s outcomes t
  ended_some s [] t are = are.1
  ended_some s (outcome ∷ more) t are = (are.0, ended_some outcome.to more t are.1)

  -- each leaves less to do
  pub outcomes_few : (s : Stored) (outcomes : List Outcome) (t : Stored) → IsCoherent s → HasCountedErases s → AreSomeOutcomesBy chosen s outcomes t → length outcomes + jobs_left t ≤ jobs_left s
  outcomes_few s [] t coherent counted are = let same : jobs_left t ≡ jobs_left s = ap jobs_left are in omega (arith, same)
  outcomes_few s (outcome ∷ more) t coherent counted are =
      let is = are.0 in
      let less = goes_on s outcome.to outcome.task coherent counted is.begun.planned is.installed in
      let rest = outcomes_few outcome.to more t is.coherent (still_counted s outcome.task outcome.to is.installed counted) are.1 in
      omega (arith, less, rest)

-- so does each of those that make room
pub uncrowded_few : (flights : List Flying) (s : Stored) (outcomes : List Outcome) (t : Stored) → IsCoherent s → HasCountedErases s → IsUncrowded flights s outcomes t → length outcomes + jobs_left t ≤ jobs_left s
uncrowded_few [] s outcomes t coherent counted (inl all) = outcomes_few room_choice s outcomes t coherent counted (ended_some room_choice s outcomes t all.1)
uncrowded_few [] s outcomes t coherent counted (inr none) = none_few s outcomes t none.1 none.2
uncrowded_few (flying ∷ more) s outcomes t coherent counted is = none_few s outcomes t is.0 is.1

-- behind a job the retired pages are those that a pin names
named_behind : (outcomes : List Outcome) (next : Outcome) (pins : List Pin) (before retired : List Name) → AreNamed pins retired → AreRetiredBehind (outcomes ++ next ∷ []) pins before retired
named_behind [] next pins before retired named = named
named_behind (outcome ∷ more) next pins before retired named = named

-- whatever the pins and the pages before are equal to
pub retired_since : (outcomes : List Outcome) (held was : Held) (before earlier retired : List Name) → held ≡ was → before ≡ earlier → AreRetiredBehind outcomes held.pins before retired → AreRetiredBehind outcomes was.pins earlier retired
retired_since outcomes held was before earlier retired pins names is = subst (λ held. AreRetiredBehind outcomes held.pins earlier retired) pins (subst (λ before. AreRetiredBehind outcomes held.pins before retired) names is)

-- what is stored behind so many jobs, whose pages were fetched, and the pages that are retired then
pub record AreBehind (chosen : Stored → Option Plan) (s : Stored) (old new : View) (count fetched : ℕ) : Type 0 where
  pub outcomes : List Outcome
  pub to : Stored
  pub are : AreSomeOutcomesBy chosen s outcomes to
  pub holds : Holds new to
  pub pages : pages_of outcomes ≡ fetched
  pub retired : AreRetiredBehind outcomes old.pins.pins old.retired new.retired
  pub down : HasCountedErases s → HasCountedErases to × (jobs_left to + count ≤ jobs_left s)
  pub always : jobs_at_most to + count ≤ jobs_at_most s

-- Of a store that has carried out so many jobs: what it keeps and what is stored, by its port's counts of fetches and of faults.
pub record HasMerged (chosen : Stored → Option Plan) (Tells : Type 0) (old new : View) (count fetches fetches' faults faults' : ℕ) : Type 0 where
  pub keeps : Keeps Tells old new None
  pub steady : IsSteady old.state new.state
  pub behind : Tells → (s : Stored) → Holds old s → (fetched : ℕ) × AreBehind chosen s old new count fetched × (fetches' ≡ fetches + fetched)
  pub port_faults : faults ≤ faults'

pub none_merged : (chosen : Stored → Option Plan) (Tells : Type 0) (view : View) (before fetches faults : ℕ) → MayStep Tells view before → HasMerged chosen Tells view view 0 fetches fetches faults faults
none_merged chosen Tells view before fetches faults may = record {
  keeps = keeps_itself Tells view may.sound may.runs None tt;
  steady = record { stopped = refl; count = refl; records = refl; config = refl };
  behind = λ told s holds. (0, record { outcomes = []; to = s; are = refl; holds = holds; pages = refl; retired = refl; down = λ counted. (counted, omega arith); always = omega arith }, omega arith);
  port_faults = omega arith;
}

-- what is stored has no more pending erases than a manifest may have
pub few_pending : (Tells : Type 0) (view : View) (s : Stored) → IsSound Tells view → Holds view s → length (pending_of s) < 2 ^ 32
few_pending Tells view s sound holds = subst (λ (pending : List Pending). length pending < 2 ^ 32) holds.remembers.pending sound.writable.pending.few

module _ (chosen : Stored → Option Plan) (Tells : Type 0) (old mid : View) (before count f0 f1 p0 p1 : ℕ) (merged : HasMerged chosen Tells old mid count f0 f1 p0 p1) where
  pub merged_may : MayStep Tells old before → MayStep Tells mid before
  merged_may may = next_may Tells old mid before may merged.keeps

  merged_steady : (new : View) → IsSteady mid.state new.state → IsSteady old.state new.state
  merged_steady new steady = record {
    stopped = steady.stopped ∙ merged.steady.stopped;
    count = steady.count ∙ merged.steady.count;
    records = steady.records ∙ merged.steady.records;
    config = steady.config ∙ merged.steady.config;
  }

  pub once_more : (new : View) (f2 p2 : ℕ) → Keeps Tells mid new None → IsSteady mid.state new.state
      → (Tells → (t : Stored) → Holds mid t → (next : Outcome) × IsOutcomeBy chosen t next × Holds new next.to × (f2 ≡ f1 + reads_of next.task)) → AreNamed new.pins.pins new.retired → p1 ≤ p2
      → HasMerged chosen Tells old new (count + 1) f0 f2 p0 p2
  once_more new f2 p2 keeps steady done named faults = record {
    keeps = keeps_then Tells old mid new merged.keeps None keeps;
    steady = merged_steady new steady;
    behind = λ told s holds.
        let had = merged.behind told s holds in
        let are = had.1 in
        let t = are.to in
        let made = done told t are.holds in
        let next = made.0 in
        let is = made.1 in
        let more = reads_of next.task in
        let all = sum_by-append (λ (outcome : Outcome). reads_of outcome.task) are.outcomes (next ∷ []) in
        let pages = are.pages in
        let first = had.2 in
        let then = made.3 in (
          had.0 + more,
          record {
            outcomes = are.outcomes ++ next ∷ [];
            to = next.to;
            are = some_more chosen s are.outcomes t next are.are is;
            holds = made.2;
            pages = omega (arith, all, pages);
            retired = named_behind are.outcomes next old.pins.pins old.retired new.retired (subst (λ (held : Held). AreNamed held.pins new.retired) (keeps.pins ∙ merged.keeps.pins) named);
            down = λ counted.
                let down = are.down counted in
                let before = down.1 in
                let below : jobs_left next.to < jobs_left t = goes_on t next.to next.task are.holds.remembers.coherent down.0 is.begun.planned is.installed in
                (still_counted t next.task next.to is.installed down.0, omega (arith, below, before));
            always =
                let few = few_pending Tells mid t merged.keeps.sound are.holds in
                let below : jobs_at_most next.to < jobs_at_most t = any_goes_on t next.to next.task are.holds.remembers.coherent few is.installed made.2.remembers.coherent in
                let before = are.always in
                omega (arith, below, before);
          },
          omega (arith, first, then),
        );
    port_faults = let early = merged.port_faults in omega (arith, early, faults);
  }

  -- no job is chosen any more
  pub no_more : Tells → (s : Stored) → Holds old s → ((t : Stored) → Holds mid t → HasNoMergeBy chosen t)
      → (t : Stored) × (outcomes : List Outcome) × AreOutcomesBy chosen s outcomes t × Holds mid t × (f1 ≡ f0 + pages_of outcomes) × AreRetiredBehind outcomes old.pins.pins old.retired mid.retired
  no_more told s holds none =
      let had = merged.behind told s holds in
      let are = had.1 in
      let pages = are.pages in
      let fetched = had.2 in
      (are.to, are.outcomes, some_ended chosen s are.outcomes are.to are.are (none are.to are.holds), are.holds, omega (arith, pages, fetched), are.retired)

  -- what some of them left
  pub some_merged : Tells → (s : Stored) → Holds old s → (t : Stored) × ((outcomes : List Outcome) × AreSomeOutcomesBy chosen s outcomes t) × Holds mid t
  some_merged told s holds = let are = (merged.behind told s holds).1 in (are.to, (are.outcomes, are.are), are.holds)

  -- there are no more jobs than there is to do, by either measure
  pub too_many : MayStep Tells old before → Tells → (s : Stored) → Holds old s → (most : ℕ) → (HasCountedErases s × (most ≡ jobs_left s)) ⊎ ((HasCountedErases s → ⊥) × (most ≡ jobs_at_most s))
      → min (most + 1) (2 ^ 128 - 1) ≤ count → ⊥
  too_many may told s holds most (inl counted) many =
      let down = ((merged.behind told s holds).1.down counted.0).1 in
      let most_is = counted.1 in
      let few = few_jobs s holds.remembers.coherent (few_pending Tells old s may.sound holds) in
      omega (arith, down, few, most_is, many)
  too_many may told s holds most (inr uncounted) many =
      let down = (merged.behind told s holds).1.always in
      let most_is = uncounted.1 in
      let few = few_at_most s holds.remembers.coherent (few_pending Tells old s may.sound holds) in
      omega (arith, down, few, most_is, many)
