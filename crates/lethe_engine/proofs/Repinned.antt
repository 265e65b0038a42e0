-- A pin was made or let go: all but the pins is as it was.
use Rattle.std.proofs.Common.{◌≡◌, ◌<◌, ◌≤◌, ◌⊎◌, inl, inr, ℕ, ◌+◌, Option, Result, Ok, Err, sym, ap, subst, arith}
use Rattle.std.specs.Prelude.{IfErr, IfOk, OnErr}
use Rattle.std.specs.Result.{result_err}
use Rattle.lethe_base.specs.History.{History}
use Rattle.lethe_base.specs.Limits.{max_place}
use Rattle.lethe_base.specs.declared.call.Call.TheVariants.{Work}
use Rattle.lethe_base.specs.declared.config.Fields.{Fields}
use Rattle.lethe_base.specs.declared.refused.Refused.{Refused}
use Rattle.lethe_base.specs.declared.refused.Refused.TheVariants.{Exhausted, NoMemory}
use Rattle.lethe_bound.specs.Limits.{IsLimit}
use Rattle.lethe_bound.proofs.Bounds.{limit_above}
use Rattle.lethe_disk.specs.Disk.{IsIdle, Seen}
use Rattle.lethe_disk.specs.declared.disk.Disk.{Ghosts}
use Rattle.lethe_core.specs.Snapshot.{Snapshot}
use Rattle.lethe_manifest.specs.declared.manifest.Manifest.{Manifest}
use Rattle.lethe_stored.specs.Left.{without_failed}
use Rattle.lethe_stored.specs.Stored.{layout_of}
use Rattle.lethe_core.specs.Asked.{Serves, failure_of}
use Rattle.lethe_core.specs.Pins.{IsPinOf}
use Rattle.lethe_core.specs.Running.{IsSound}
use Rattle.lethe_core.specs.StandsNow.{StandsNow}
use Rattle.lethe_core.specs.View.{View, face_of, view_of}
use Rattle.lethe_core.specs.declared.holding.Core.{Core}
use Rattle.lethe_core.proofs.Pinned.{pinned_face_is}
use Rattle.lethe_engine.specs.Answers.{Answers}
use Rattle.lethe_engine.specs.Pins.{pinned_face}
use Rattle.lethe_engine.proofs.Calls.{IsNoChange, idle_answers, idle_itself, refused_is_none, served_is_none}

pub repinned_answers : (Tells : Type 0) (why : Option Refused) (old new : View) → IsSound Tells new → new ≡ record old { pins = new.pins } → (Tells → (config : Fields) (h : History) → StandsNow config h old → StandsNow config h new)
    → IsNoChange (Serves Work) why → Answers Tells (Serves Work) why (face_of new) old new
repinned_answers Tells why old new sound same now none =
    idle_answers Tells why old new sound (ap (λ (v : View). v.state) same) (ap (λ (v : View). v.levels) same) (ap (λ (v : View). v.retired) same) (ap (λ (v : View). v.faults) same)
    (λ told. subst (λ (disk : Seen). IsIdle old.disk disk) (sym (ap (λ (v : View). v.disk) same)) (idle_itself old)) now none

-- the pins behind a call that makes one
pub pinned_by : {D Page Port : Type 0} {kind : Ghosts D Page Port} (old new : Core D Page Port kind) (result : Result (Snapshot D Page Port kind) Refused) → new ≡ record old { pins = new.pins }
    → IfOk result (λ snapshot. snapshot.pin.number ≡ old.pins.made + 1) → IfOk result (λ snapshot. IsPinOf (view_of old) (view_of new) snapshot.pin.number snapshot.pin.limit) → OnErr result (new ≡ old)
    → face_of (view_of new) ≡ pinned_face (face_of (view_of old)) result
pinned_by old new (Ok snapshot) same number pinned unchanged = pinned_face_is (view_of old) (view_of new) snapshot.pin.number snapshot.pin.limit (ap view_of same) number pinned
pinned_by old new (Err why) same number pinned unchanged = ap (λ core. face_of (view_of core)) unchanged

-- a pin that is refused is in no history, nor is one that is made
pub pin_is_none : {T : Type 0} (result : Result T Refused) → IfErr result (λ why. (why ≡ Exhausted max_place) ⊎ (why ≡ NoMemory)) → IsNoChange (Serves Work) (result_err result)
pin_is_none (Ok snapshot) is = served_is_none Work
pin_is_none (Err why) is = refused_is_none (Serves Work) why (elim is [ inl full ↦ ap failure_of full | inr memory ↦ ap failure_of memory ])

-- the limit of what is stored is above the clock, and at most a threshold above it
pub limit_near : (config : Fields) (h : History) (view : View) (stands : StandsNow config h view) (limit : ℕ) → IsLimit stands.stored.manifest.config.threshold (layout_of stands.stored) limit
    → (view.state.manifest.clock < limit) × (limit ≤ config.threshold + view.state.manifest.clock)
limit_near config h view stands limit is =
    let s = stands.stored in
    let some = stands.remembers.coherent.spelled.config.threshold.0 in
    let above = limit_above s.manifest.config.threshold limit (without_failed h) (layout_of s) stands.stands.covers is (omega (arith, some)) in
    let near = is.clock in
    let same : view.state.manifest.clock ≡ s.manifest.clock = ap (λ (m : Manifest). m.clock) stands.remembers.manifest in
    let threshold : s.manifest.config.threshold ≡ config.threshold = ap (λ (fields : Fields). fields.threshold) stands.config_is in
    (omega (arith, above, same), omega (arith, near, same, threshold))
