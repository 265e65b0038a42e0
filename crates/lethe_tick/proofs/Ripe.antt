-- What is stored once a tick has done all but move the clock: nothing is due once the erases that are done have left.
use Rattle.std.proofs.Common.{◌≡◌, ◌≤◌, inl, inr, ℕ, ◌+◌, List, [], ◌∷◌, true, Option, None, sym, ap, ◌∙◌, subst, arith}
use Rattle.std.specs.Prelude.{IsTrue, filter}
use Rattle.std.proofs.lemmas.List.Elements.{All-weaker, filter_passes}
use Rattle.lethe_base.specs.History.{History, after}
use Rattle.lethe_base.specs.declared.call.Call.TheVariants.{Work}
use Rattle.lethe_base.specs.declared.config.Fields.{Fields}
use Rattle.lethe_base.specs.declared.name.Name.{Name}
use Rattle.lethe_disk.specs.Directory.{Directory}
use Rattle.lethe_fade.specs.Expired.{is_passed}
use Rattle.lethe_fade.specs.declared.plan.Plan.{Plan}
use Rattle.lethe_follows.proofs.NothingDue.{nothing_due}
use Rattle.lethe_follows.proofs.Young.{young_by}
use Rattle.lethe_follows.specs.Leaving.{let_go}
use Rattle.lethe_follows.specs.Young.{AreLaterRecorded, AreYoung, oldest_in}
use Rattle.lethe_manifest.specs.declared.manifest.Manifest.{Manifest}
use Rattle.lethe_moves.specs.Due.{HasNothingDue}
use Rattle.lethe_state.specs.Room.{IsUnfrozen}
use Rattle.lethe_state.proofs.Stepping.{flush_for}
use Rattle.lethe_stored.proofs.Freezing.{froze_for}
use Rattle.lethe_stored.proofs.Unique.{one_stored}
use Rattle.lethe_stored.specs.Kept.{IsFor}
use Rattle.lethe_stored.specs.Stored.{Segment, Stored, IsCoherent, layout_of, records_in}
use Rattle.lethe_pins.specs.Held.{is_named}
use Rattle.lethe_pins.specs.declared.pin.Pin.{Pin}
use Rattle.lethe_core.specs.Keeps.{Keeps, MayStep}
use Rattle.lethe_core.specs.Merges.{AreOutcomesBy, AreSomeOutcomesBy, HasNoMergeBy, IsInstalled, Outcome, due_choice}
use Rattle.lethe_core.specs.Pinned.{AreKept, AreNamed}
use Rattle.lethe_core.specs.Running.{Holds}
use Rattle.lethe_core.specs.StandsNow.{Merges, PlainTask, StandsNow, Sweeps}
use Rattle.lethe_core.specs.View.{View}
use Rattle.lethe_core.proofs.Standing.{stands_for, stands_holds}
use Rattle.lethe_tick.specs.Ripened.{AreBuffersFlushed, IsFrozenIfAny, IsRipened}

-- one thing alone is stored
pub one_held : (view : View) (s t : Stored) → Holds view s → Holds view t → s ≡ t
one_held view s t is other = one_stored view.disk.directory s t is.remembers.coherent other.remembers.coherent is.running.settled.encodes other.running.settled.encodes

-- How old records are

module _ (to : ℕ) where
  empty_young : (s : Stored) → s.active.records ≡ [] → s.frozen ≡ None → AreYoung s to
  empty_young s active frozen =
      let fields = s.manifest.config in
      (young_by s to).1 (ap (λ records. is_passed fields to 0 (oldest_in records)) active, ap (λ segment. is_passed fields to 0 (oldest_in (records_in segment))) frozen)

  same_young : (s t : Stored) → t.active ≡ s.active → t.frozen ≡ s.frozen → t.manifest.config ≡ s.manifest.config → AreYoung s to → AreYoung t to
  same_young s t active frozen config young =
      let is = (young_by s to).0 young in
      (young_by t to).1 ((λ i. is_passed (config i) to 0 (oldest_in (active i).records)) ∙ is.0, (λ i. is_passed (config i) to 0 (oldest_in (records_in (frozen i)))) ∙ is.1)

  -- behind a flush the active segment is the one that there was, and none is frozen
  unfrozen_is : (s t : Stored) → IsUnfrozen s t → (t.active ≡ s.active) × (t.frozen ≡ None)
  unfrozen_is s t (inl same) = (ap (λ (x : Stored). x.active) same.1, ap (λ (x : Stored). x.frozen) same.1 ∙ same.0)
  unfrozen_is s t (inr (some, is)) = (ap (λ (x : Stored). x.active) is.is, ap (λ (x : Stored). x.frozen) is.is)

  -- behind a freeze the active segment has no record
  frozen_empty : (s t : Stored) → IsFrozenIfAny s t → t.active.records ≡ []
  frozen_empty s t (inl same) = ap (λ (x : Stored). x.active.records) same.1 ∙ same.0
  frozen_empty s t (inr (some, is)) = ap (λ (x : Stored). x.active.records) is.is

  flushed_young : (s t : Stored) → AreBuffersFlushed s t → AreYoung t to
  flushed_young s t is =
      let last = unfrozen_is is.frozen t is.last in
      empty_young t (ap (λ (segment : Segment). segment.records) last.0 ∙ frozen_empty is.unfrozen is.frozen is.second) last.1

  pub ripened_young : (s t : Stored) → IsRipened to s t → AreYoung t to
  ripened_young s t (inl young) = subst (λ x. AreYoung x to) (sym young.1) young.0
  ripened_young s t (inr old) = flushed_young s t old.1

  -- merges and sweeps change no segment
  installed_young : (s : Stored) (task : PlainTask) (t : Stored) → IsInstalled s task t → AreYoung s to → AreYoung t to
  installed_young s (Merges task) t is young =
      let merged = is.merged_is in same_young s t merged.active merged.frozen (ap (λ (m : Manifest). m.config) merged.manifest) young
  installed_young s (Sweeps task) t is young =
      let swept = is.swept_is in same_young s t swept.active swept.frozen (ap (λ (m : Manifest). m.config) swept.manifest) young

  pub outcomes_young : (chosen : Stored → Option Plan) (s : Stored) (outcomes : List Outcome) (t : Stored) → AreOutcomesBy chosen s outcomes t → AreYoung s to → AreYoung t to
  outcomes_young chosen s [] t are young = subst (λ x. AreYoung x to) (sym are.1) young
  outcomes_young chosen s (outcome ∷ more) t are young =
      outcomes_young chosen outcome.to more t are.1 (installed_young s outcome.task outcome.to are.0.installed young)

-- Merges and sweeps until none is chosen

pub none_more : (chosen : Stored → Option Plan) (s : Stored) (outcomes : List Outcome) (t : Stored) → AreOutcomesBy chosen s outcomes t → HasNoMergeBy chosen t
none_more chosen s [] t are = subst (HasNoMergeBy chosen) (sym are.1) are.0
none_more chosen s (outcome ∷ more) t are = none_more chosen outcome.to more t are.1

pub all_some : (chosen : Stored → Option Plan) (s : Stored) (outcomes : List Outcome) (t : Stored) → AreOutcomesBy chosen s outcomes t → AreSomeOutcomesBy chosen s outcomes t
all_some chosen s [] t are = are.1
all_some chosen s (outcome ∷ more) t are = (are.0, all_some chosen outcome.to more t are.1)

-- The clock may move

module _ (Tells : Type 0) (old new : View) (before to : ℕ) (may : MayStep Tells old before) (forward : old.state.manifest.clock ≤ to) (keeps : Keeps Tells old new None)
    (done : Tells → (s : Stored) → Holds old s → (ripe t : Stored) × (outcomes : List Outcome) × IsRipened to s ripe × AreOutcomesBy (due_choice to) ripe outcomes t × Holds new t)
    (told : Tells) (config : Fields) (h : History) (stands : StandsNow config h old) where
  pub stands_then : StandsNow config h new
  stands_then = keeps.stands told config h stands 0 Work

  -- the time isn't behind the history's
  pub time_forward : (after h).clock ≤ to
  time_forward =
      let for = stands_for config h old stands may.runs in
      let clock = for.clock in
      let same : old.state.manifest.clock ≡ stands.stored.manifest.clock = ap (λ (m : Manifest). m.clock) stands.remembers.manifest in
      omega (arith, clock, same, forward)

  pub due_nothing : HasNothingDue stands_then.stored.manifest.config to (layout_of (let_go stands_then.stored))
  due_nothing =
      let runs = keeps.stopped ∙ may.runs in
      let is = done told stands.stored (stands_holds config h old stands may.runs) in
      let ripe = is.0 in
      let t = is.1 in
      let same = one_held new t stands_then.stored is.5 (stands_holds config h new stands_then runs) in
      subst (λ (x : Stored). HasNothingDue x.manifest.config to (layout_of (let_go x))) same
      (nothing_due h t is.5.remembers.coherent (subst (IsFor h) (sym same) (stands_for config h new stands_then runs)) (subst AreLaterRecorded (sym same) stands_then.recorded) to
      (none_more (due_choice to) ripe is.2 t is.4) (outcomes_young to (due_choice to) ripe is.2 t is.4 (ripened_young to stands.stored ripe is.3)))

-- What pins name

-- what stays twice stays
pub kept_twice : (pins : List Pin) (d mid end : Directory) → AreKept pins d mid → AreKept pins mid end → AreKept pins d end
kept_twice pins d mid end first last name named = last name named ∙ first name named

-- of names those that pins name are named
pub named_left : (pins : List Pin) (names : List Name) → AreNamed pins (filter (is_named pins) names)
named_left pins names = All-weaker (λ (name : Name). is_named pins name ≡ true) (λ (name : Name). IsTrue (is_named pins name)) (λ name is. is) (filter (is_named pins) names) (filter_passes (is_named pins) names)

-- What stands for a history still does so behind the flushes

module _ (h : History) where
  unfrozen_for : (s t : Stored) → IsCoherent s → IsFor h s → IsUnfrozen s t → IsFor h t
  unfrozen_for s t coherent is (inl same) = subst (IsFor h) (sym same.1) is
  unfrozen_for s t coherent is (inr some) = flush_for h s t coherent is some.1

  frozen_for : (s t : Stored) → IsCoherent s → IsFor h s → s.frozen ≡ None → IsFrozenIfAny s t → IsFor h t
  frozen_for s t coherent is none (inl same) = subst (IsFor h) (sym same.1) is
  frozen_for s t coherent is none (inr some) = subst (IsFor h) (sym some.1.is) (froze_for s coherent some.1.segment (some.1.segment + 1) none h is)

  pub ripened_for : (to : ℕ) (s t : Stored) → IsCoherent s → IsFor h s → IsRipened to s t → IsFor h t × IsCoherent t
  ripened_for to s t coherent is (inl young) = (subst (IsFor h) (sym young.1) is, subst IsCoherent (sym young.1) coherent)
  ripened_for to s t coherent is (inr old) =
      let flushed = old.1 in
      let first = unfrozen_for s flushed.unfrozen coherent is flushed.first in
      let second = frozen_for flushed.unfrozen flushed.frozen flushed.unfrozen_coherent first (unfrozen_is to s flushed.unfrozen flushed.first).1 flushed.second in
      (unfrozen_for flushed.frozen t flushed.frozen_coherent second flushed.last, flushed.coherent)
