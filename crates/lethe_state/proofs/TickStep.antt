-- The step of a tick, and a state behind it.
use Rattle.std.proofs.Common.{◌≡◌, ◌≢◌, ◌≤◌, ◌<◌, ◌+◌, ◌-◌, inl, ℕ, Bool, true, false, cond, List, [], length, Contains, Option, Some, refl, sym, ap, ◌∙◌, subst, arith}
use Rattle.std.specs.Prelude.{◌↔◌, min, nat_le}
use Rattle.std.specs.List.Sorted.{IsPermutation}
use Rattle.std.proofs.lemmas.List.Elements.{All-nil, All-weaker}
use Rattle.std.proofs.lemmas.List.Sorted.{IsPermutation-refl}
use Rattle.lethe_base.specs.Limits.{max_place, max_time}
use Rattle.lethe_base.specs.declared.name.Name.{Name}
use Rattle.lethe_base.proofs.LayoutLaws.{none_in}
use Rattle.lethe_commit.specs.declared.objects.Object.{Object}
use Rattle.lethe_cover.proofs.Lists.{all_from}
use Rattle.lethe_fade.specs.Expired.{is_passed}
use Rattle.lethe_follows.specs.Leaving.{kept_erases}
use Rattle.lethe_follows.specs.Merged.{Last}
use Rattle.lethe_follows.specs.Ticked.{certificate_at, clocked, ticked}
use Rattle.lethe_follows.specs.Young.{AreYoung, oldest_in}
use Rattle.lethe_follows.proofs.LettingGo.{kept_are_erases}
use Rattle.lethe_follows.proofs.Ticking.{count_ticked, kept_clocked, pending_ticked, ticked_coherent}
use Rattle.lethe_follows.proofs.Young.{young_by}
use Rattle.lethe_manifest.specs.Manifests.{HasSpelling, IsCertificateOrNone}
use Rattle.lethe_manifest.specs.declared.manifest.Manifest.{Manifest}
use Rattle.lethe_stored.specs.Files.{Parts, objects_of}
use Rattle.lethe_stored.specs.Levels.{HasFiles}
use Rattle.lethe_stored.specs.Stored.{Stored, certificate_number, part_names, segments_of}
use Rattle.lethe_stored.proofs.Parts.{object_part}
use Rattle.lethe_advance.specs.Settled.{AreDrawn, AreUncited, names_in}
use Rattle.lethe_advance.specs.Steps.{IsObjectFrom, IsSegmentFrom, IsSettledBy, IsStep, IsUncited}
use Rattle.lethe_advance.specs.declared.new_header.NewHeader.{NewHeader}
use Rattle.lethe_advance.specs.declared.step.Step.{Step}
use Rattle.lethe_state.specs.Clock.{clock_at, clock_of}
use Rattle.lethe_state.specs.Left.{done_with, first_recorded, kept_with}
use Rattle.lethe_state.specs.Remembered.{IsCurrent, Remembers}
use Rattle.lethe_state.specs.Room.{IsStepFrom}
use Rattle.lethe_state.specs.Ticking.{moved, ticking_manifest}
use Rattle.lethe_state.specs.Writable.{IsWritable, segments_for}
use Rattle.lethe_state.specs.declared.state.State.{State}
use Rattle.lethe_state.proofs.FreezeStep.{later_files}
use Rattle.lethe_state.proofs.Left.{installed_writable, kept_remembered, same_files}
use Rattle.lethe_state.proofs.Shared.{all_kept, all_left, left_stays, left_there, loose_pages, none_all, none_once, still_uncited}

-- On any disk

certificate_spelled : (manifest : Manifest) (to : ℕ) → to ≤ max_time → IsCertificateOrNone manifest.certificate → IsCertificateOrNone (certificate_at manifest to)
certificate_spelled manifest to within is = by (nat_le manifest.config.threshold to)
  where
    by : (b : Bool) → IsCertificateOrNone (cond b (Some (record { number = min (certificate_number manifest.certificate + 1) max_place; clock = to; before = to - manifest.config.threshold })) manifest.certificate)
    by false = is
    by true = record { number = (omega arith, omega arith); clock = within; before = omega (arith, within) }

ticking_spelled : (state : State) (to : ℕ) → IsWritable state → state.next < max_place → state.count < max_place → to ≤ max_time → HasSpelling (ticking_manifest state to)
ticking_spelled state to is free fits within =
    let drawn = is.drawn in record {
      no = omega arith;
      config = (is.manifest).config;
      clock = within;
      count = omega (arith, fits);
      next = omega (arith, free);
      certificate = certificate_spelled state.manifest to within (is.manifest).certificate;
      erases = kept_are_erases (done_with state state.manifest.files) (first_recorded state) state.pending is.pending;
      segments = record {
        some = ((is.manifest).segments).some;
        few = ((is.manifest).segments).few;
        below = All-weaker (λ k. k < state.manifest.next) (λ k. k < state.next + 1) (λ k lt. omega (arith, lt, drawn)) state.manifest.segments ((is.manifest).segments).below;
      };
      files = record {
        few = ((is.manifest).files).few;
        each = later_files state.manifest.next (state.next + 1) state.manifest.config.levels state.manifest.files (omega (arith, drawn)) ((is.manifest).files).each;
        ascending = ((is.manifest).files).ascending;
      };
    }

pub tick_from : (state : State) (to : ℕ) (step : Step) → IsWritable state → state.next < max_place → state.count < max_place → to ≤ max_time → step.objects.items ≡ []
    → step.manifest ≡ ticking_manifest state to → IsStepFrom (segments_for state.frozen) (clock_at (clock_of state.manifest) to) state [] step
tick_from state to step is free fits within objects manifest =
    let written : length step.objects.items ≡ 0 = ap length objects in
    let number : step.manifest.no ≡ state.next = ap (λ (m : Manifest). m.no) manifest in
    let last : step.manifest.next ≡ state.next + 1 = ap (λ (m : Manifest). m.next) manifest in record {
      spelled = subst HasSpelling (sym manifest) (ticking_spelled state to is free fits within);
      segments_are = ap (λ (m : Manifest). length m.segments) manifest ∙ is.segments;
      config = ap (λ (m : Manifest). m.config) manifest;
      clock_is = ap clock_of manifest;
      levels = All-nil (λ (new : NewHeader). new.level ≤ state.manifest.config.levels);
      numbers = omega (arith, written, number);
      next = omega (arith, number, last);
    }

-- On a disk that tells

module _ (s : Stored) (state : State) (levels : List (List Parts)) (is : Remembers s state levels) (current : IsCurrent s state) (to : ℕ) (step : Step)
    (objects : step.objects.items ≡ []) (merged : step.merged.items ≡ []) (older : step.older ≡ state.manifest.no) (manifest : step.manifest ≡ ticking_manifest state to)
    (gone : step.gone.items ≡ []) (spelled : HasSpelling step.manifest) (drawn_before : state.manifest.next ≤ state.next)
    (loose : List (Name × List ℕ)) (drawn : AreDrawn state.next (names_in loose)) (uncited : AreUncited s loose) where
  abbrev n : ℕ
  n = state.next

  abbrev t : Stored
  t = ticked s to n

  -- what the manifest keeps is what is kept of what is stored then
  kept_is : kept_with state state.manifest.files ≡ kept_erases (clocked s to n)
  kept_is = ap (λ (m : Manifest). kept_with state m.files) is.manifest ∙ kept_remembered s s state levels is (same_files s is.coherent) ∙ sym (kept_clocked s to n)

  manifest_is : step.manifest ≡ t.manifest
  manifest_is = manifest ∙ (λ i. record (is.manifest i) {
    no = n;
    clock = to;
    count = current.count i + 1;
    next = n + 1;
    certificate = certificate_at (is.manifest i) to;
    erases = kept_is i;
  })

  later : s.manifest.next ≤ n
  later = let same = ap (λ (m : Manifest). m.next) is.manifest in omega (arith, same, drawn_before)

  pub tick_is_step : IsStep s loose t loose [] step
  tick_is_step = record {
    coherent = ticked_coherent s to n is.coherent later (subst HasSpelling manifest_is spelled);
    config = refl;
    older = older ∙ ap (λ (m : Manifest). m.no) is.manifest;
    manifest = manifest_is;
    later = later;
    fresh = none_all (λ (made : Object). s.manifest.next ≤ made.name.no) step.objects.items objects;
    once = none_once (λ (made other : Object). made.name ≢ other.name) step.objects.items objects;
    loose_pages = loose_pages n loose drawn;
    loose_uncited = uncited;
    beside = none_all (λ (made : Object). Contains (names_in loose) made.name → ⊥) step.objects.items objects;
    segments = all_from (IsSegmentFrom s step) (segments_of s) (λ segment there. inl there);
    objects = all_from (IsObjectFrom s loose step) (objects_of s.files) (λ named there. inl there);
    cited = none_all (λ (made : Object). Contains (part_names t) made.name) step.objects.items objects;
    stays = all_from (IsSettledBy step t loose) (part_names s) (λ name there. inl there);
    taken = all_left n loose drawn step t;
    gone = none_all (IsUncited s loose t) step.gone.items gone;
    gone_once = none_once (λ (name other : Name). name ≢ other) step.gone.items gone;
    left_there = left_there n loose drawn s;
    left_stays = left_stays n loose drawn s step.gone.items uncited (λ name there. absurd (none_in name (subst (λ l. Contains l name) gone there)));
    left_uncited = still_uncited n loose drawn s t (λ object there. inl (object_part s object there)) uncited;
    added = [];
    headers_are = refl;
    files = subst (λ files. IsPermutation files s.files) (sym (all_kept s step merged)) (IsPermutation-refl s.files);
  }

-- The state

pub tick_remembered : (s : Stored) (state : State) (levels next : List (List Parts)) (to number : ℕ) → Remembers s state levels → IsCurrent s state → s.manifest.next ≤ number
    → HasSpelling (ticked s to number).manifest → HasFiles (ticked s to number) next
    → Remembers (ticked s to number) (moved (ticked s to number).manifest state) next × IsCurrent (ticked s to number) (moved (ticked s to number).manifest state)
tick_remembered s state levels next to number is current later spelled files =
    let counts = ap (λ n. n + 1) current.count ∙ sym (count_ticked s to number) in
    let counted = is.counted in (
      record {
        coherent = ticked_coherent s to number is.coherent later spelled;
        manifest = refl;
        pending = kept_remembered s s state levels is (same_files s is.coherent) ∙ sym (pending_ticked s to number);
        active = is.active;
        records = is.records;
        oldest = is.oldest;
        firsts = is.firsts;
        frozen = is.frozen;
        frozen_oldest = is.frozen_oldest;
        frozen_firsts = is.frozen_firsts;
        files = files;
        counted = omega (arith, counted, count_ticked s to number);
      },
      record { runs = current.runs; count = counts },
    )

pub moved_writable : (manifest : Manifest) (state : State) → IsWritable state → HasSpelling manifest → length manifest.segments ≡ segments_for state.frozen → state.count < max_place → IsWritable (moved manifest state)
moved_writable manifest state is spelled segments fits =
    let kept = installed_writable Last manifest state is spelled segments in
    let records = is.records in record {
      manifest = kept.manifest;
      segments = kept.segments;
      pending = kept.pending;
      active = kept.active;
      frozen = kept.frozen;
      count = omega (arith, fits);
      records = omega (arith, records);
      drawn = kept.drawn;
      last = kept.last;
    }

-- no record is old exactly where neither least time that is remembered is
pub young_by_least : (s : Stored) (state : State) (levels : List (List Parts)) → Remembers s state levels → (to : ℕ)
    → AreYoung s to ↔ ((is_passed state.manifest.config to 0 state.oldest ≡ false) × (is_passed state.manifest.config to 0 state.frozen_oldest ≡ false))
young_by_least s state levels is to =
    let AreLeast : Manifest → Option ℕ → Option ℕ → Type 0 = λ m oldest frozen_oldest. AreYoung s to ↔ ((is_passed m.config to 0 oldest ≡ false) × (is_passed m.config to 0 frozen_oldest ≡ false)) in
    subst (λ (m : Manifest). AreLeast m state.oldest state.frozen_oldest) (sym is.manifest)
    (subst (λ oldest. AreLeast s.manifest oldest state.frozen_oldest) (sym is.oldest)
    (subst (AreLeast s.manifest (oldest_in s.active.records)) (sym is.frozen_oldest) (young_by s to)))
