-- Of a store that stands for a history, each image is kept for a prefix of what a crash may make of it.
use Rattle.std.proofs.Common.{◌≡◌, ◌⊎◌, inl, inr, ℕ, suc, Bool, true, false, cond, [], ◌∷◌, ◌++◌, length, Option, Some, None, refl, sym, ap, ◌∙◌, subst, append_assoc, append-nil, arith}
use Rattle.std.specs.Prelude.{Contains}
use Rattle.std.proofs.lemmas.List.{length-append}
use Rattle.std.proofs.lemmas.List.Elements.{All-contains, Contains-push}
use Rattle.lethe_base.specs.History.{History, Change, after, change_at, AreDone}
use Rattle.lethe_base.specs.declared.call.Call.TheVariants.{Work}
use Rattle.lethe_base.specs.declared.config.Fields.{Fields}
use Rattle.lethe_base.specs.declared.call.Did.TheVariants.{Done, Failed}
use Rattle.lethe_base.proofs.Histories.{change_at-push}
use Rattle.lethe_disk.specs.Directory.{Directory}
use Rattle.lethe_disk.specs.Disk.{Image}
use Rattle.lethe_disk.proofs.Continuing.{continues_itself}
use Rattle.lethe_core.specs.Running.{IsRunning}
use Rattle.lethe_core.specs.StandsNow.{IsOpenOrStopped, IsStopped, StandsNow, retried}
use Rattle.lethe_core.specs.View.{View}
use Rattle.lethe_core.proofs.Histories.{all_done, last_failed}
use Rattle.lethe_engine.specs.StandsFor.{HasCounts}
use Rattle.lethe_engine.proofs.Clean.{now_clean}
use Rattle.lethe_stored.specs.Clean.{IsClean}
use Rattle.lethe_stored.specs.Encodes.{Encodes}
use Rattle.lethe_stored.specs.Kept.{IsFor, IsKept}
use Rattle.lethe_stored.specs.Left.{IsLeft, IsHistoryOr, IsKeptOr, as_done, is_work, without_failed}
use Rattle.lethe_load.proofs.Gated.{encodes_gated}
use Rattle.lethe_run.specs.Carried.{HasConfig, failed_in}
use Rattle.lethe_run.specs.Transcript.{Start, WasStopped, course}
use Rattle.lethe_run.specs.Serving.{Advances, IsOn, Point}
use Rattle.lethe_run.proofs.Histories.{none_failed, one_failed, same_last, split_last}

clash_did : (before after : ℕ) → Done ≡ Failed before after → ⊥
clash_did before after e = cc

-- a last change that failed was added to a history in which none has, and what stands before it goes on from that
failed_added : (opened before added : History) (change : Change) (b a : ℕ) → AreDone opened → change.did ≡ Failed b a → before ++ change ∷ [] ≡ opened ++ added → ((more : History) × (before ≡ opened ++ more)) × Contains added change
failed_added opened before added change b a done failed is = elim (split_last added) [
  | inl none ↦
      let same : before ++ change ∷ [] ≡ opened = is ∙ ap (λ l. opened ++ l) none ∙ append-nil opened in
      absurd (clash_did b a (sym (subst AreDone (sym same) done (suc (length before)) change (change_at-push before change)) ∙ failed))
  | inr more ↦
      let last = same_last before (opened ++ more.0) change more.1 (is ∙ ap (λ l. opened ++ l) more.2 ∙ sym (append_assoc opened more.0 (more.1 ∷ []))) in (
        (more.0, last.0),
        subst (λ l. Contains l change) (sym more.2) (subst (λ x. Contains (more.0 ++ x ∷ []) change) last.1 (Contains-push more.0 change)),
      )
]

no_work : (change : Change) → is_work change.call ≡ false → change.call ≡ Work → ⊥
no_work change e is = let clash : false ≡ true = sym e ∙ ap is_work is in cc

-- what failed was carried out only where it isn't work
module _ (before g : History) (change : Change) where
  pub retried_cases : IsHistoryOr before (retried change) g → (g ≡ before) ⊎ ((change.call ≡ Work → ⊥) × (g ≡ before ++ as_done change ∷ []))
  retried_cases is = by (is_work change.call) refl is
    where
      by : (b : Bool) → is_work change.call ≡ b → IsHistoryOr before (cond b None (Some change)) g → (g ≡ before) ⊎ ((change.call ≡ Work → ⊥) × (g ≡ before ++ as_done change ∷ []))
      by true e is = inl is
      by false e (inl old) = inl old
      by false e (inr new) = inr (no_work change e, new)

retried_kept : (config : Fields) (before : History) (change : Change) (d : Directory) → IsKeptOr config before (retried change) d → IsKeptOr config before (Some change) d
retried_kept config before change d kept = (kept.0, elim (retried_cases before kept.0 change kept.1) [ inl old ↦ inl old | inr new ↦ inr new.1 ], kept.2)

-- a store that takes changes has the one image
pub kept_open : (config : Fields) (h : History) (view : View) (stands : StandsNow config h view) → AreDone h → IsRunning view stands.stored → (d : Directory) → Image view.disk d → IsKept config d h
kept_open config h view stands done running d here = inr (record {
  s = stands.stored;
  config_is = stands.config_is;
  coherent = running.settled.coherent;
  encodes = subst (λ c. Encodes c stands.stored) (sym (running.settled.synced d here)) running.settled.encodes;
  stands = subst (λ g. IsFor g stands.stored) (all_done h done) stands.stands;
})

-- a store that stands for a history of which nothing failed takes changes
pub done_runs : (config : Fields) (h : History) (view : View) → StandsNow config h view → AreDone h → view.state.stopped ≡ None
done_runs config h view stands done = by view.state.stopped stands.held
  where
    by : (stopped : Option ℕ) → IsOpenOrStopped config view h stands.stored stopped → stopped ≡ None
    by None held = refl
    by (Some at) held = absurd (clash_did held.faults_before held.faults (sym (subst AreDone held.history done (suc (length held.before)) held.change (change_at-push held.before held.change)) ∙ held.failed))

-- where nothing is done
pub still : (begin : Start) (h : History) (view : View) → Advances begin h h view view
still begin h view = record { calls = continues_itself view.disk; stands = λ from on. on }

module _ (begin : Start) (from : Point) (h : History) (view : View) (on : IsOn begin from h view) where
  -- the change that stopped it, with its counts, was added since the point
  pub stopped_added : (at : ℕ) (held : IsStopped begin.config h view.disk at) → ((more : History) × (held.before ≡ from.history ++ more)) × HasCounts on.counted view.faults (Failed held.faults_before held.faults)
  stopped_added at held =
      let there = failed_added from.history held.before on.stands.begins.0 held.change held.faults_before held.faults on.done held.failed (sym held.history ∙ on.stands.begins.1) in (
        there.0,
        subst (HasCounts on.counted view.faults) held.failed (All-contains (λ (c : Change). HasCounts on.counted view.faults c.did) on.stands.begins.0 held.change on.stands.counts there.1),
      )

  -- the change that stopped it, and its counts
  stopped_at : (Ports : Type 0) (at : ℕ) → IsStopped begin.config h view.disk at → WasStopped (record { history = h; course = course Ports begin view.faults view.disk.moment }) at
  stopped_at Ports at now =
      let counts = (stopped_added at now).1 in
      let place : at ≡ suc (length now.before) = let is = now.place in omega (arith, is, ap length now.history, length-append now.before (now.change ∷ [])) in
      record {
        before = now.faults_before;
        after = now.faults;
        fails = record {
          change = now.change;
          is = ap (λ x. change_at x at) now.history ∙ ap (change_at (now.before ++ now.change ∷ [])) place ∙ change_at-push now.before now.change;
          failed = now.failed;
          rose = counts.1;
          from = let since = on.faults_since in let low = counts.0 in omega (arith, since, low);
          upto = counts.2;
        };
      }

  pub stopped_by : (Ports : Type 0) (at : ℕ) → view.state.stopped ≡ Some at → WasStopped (record { history = h; course = course Ports begin view.faults view.disk.moment }) at
  stopped_by Ports at stop = stopped_at Ports at (subst (IsOpenOrStopped begin.config view h on.stands.now.stored) stop on.stands.now.held)

  -- what the disk is left for
  left_by : Image view.disk view.disk.directory → (stopped : Option ℕ) → IsOpenOrStopped begin.config view h on.stands.now.stored stopped → IsLeft begin.config view.disk (without_failed h) (failed_in h)
  left_by itself None now =
      let kept : (d : Directory) → Image view.disk d → IsKeptOr begin.config h None d = λ d here. (h, refl, kept_open begin.config h view on.stands.now now.0 now.1 d here) in
      (let same = sym (all_done h now.0) in
      let none = sym (none_failed h now.0) in
      subst (IsLeft begin.config view.disk (without_failed h)) none (subst (λ x. IsLeft begin.config view.disk x None) same (record { now = kept view.disk.directory itself; images = kept })))
  left_by itself (Some at) now =
      let rest = last_failed now.before now.change now.faults_before now.faults now.done now.failed in
      let last = one_failed now.before now.change now.faults_before now.faults now.done now.failed in
      let history = now.history in
      let left : IsLeft begin.config view.disk now.before (Some now.change) = record {
        now = retried_kept begin.config now.before now.change view.disk.directory now.left.now;
        images = λ c here. retried_kept begin.config now.before now.change c (now.left.images c here);
      } in
      subst (λ x. IsLeft begin.config view.disk (without_failed x) (failed_in x)) (sym history)
      (subst (IsLeft begin.config view.disk (without_failed (now.before ++ now.change ∷ []))) (sym last) (subst (λ x. IsLeft begin.config view.disk x (Some now.change)) (sym rest) left))

  pub leaves : Image view.disk view.disk.directory → IsLeft begin.config view.disk (without_failed h) (failed_in h)
  leaves itself = left_by itself view.state.stopped on.stands.now.held

  -- unless a change failed, it has the configuration
  config_by : (stopped : Option ℕ) → IsOpenOrStopped begin.config view h on.stands.now.stored stopped → failed_in h ≡ None → HasConfig begin.config view.disk.directory
  config_by None now none = record {
    manifest = on.stands.now.stored.manifest;
    gated = encodes_gated view.disk.directory on.stands.now.stored now.1.settled.coherent now.1.settled.encodes;
    is = on.stands.now.config_is;
  }
  config_by (Some at) now none =
      let last = one_failed now.before now.change now.faults_before now.faults now.done now.failed in
      let clash : None ≡ Some now.change = sym none ∙ ap failed_in now.history ∙ last in cc

  pub has_config : failed_in h ≡ None → HasConfig begin.config view.disk.directory
  has_config = config_by view.state.stopped on.stands.now.held

  -- and it takes changes, so that it is clean
  pub runs_by : (stopped : Option ℕ) → IsOpenOrStopped begin.config view h on.stands.now.stored stopped → failed_in h ≡ None → stopped ≡ None
  runs_by None now none = refl
  runs_by (Some at) now none =
      let last = one_failed now.before now.change now.faults_before now.faults now.done now.failed in
      let clash : None ≡ Some now.change = sym none ∙ ap failed_in now.history ∙ last in cc

  pub is_clean : failed_in h ≡ None → IsClean begin.config.threshold view.disk.directory h (after h).clock
  is_clean none = now_clean begin.config h view on.stands.pages on.stands.now (runs_by view.state.stopped on.stands.now.held none)
