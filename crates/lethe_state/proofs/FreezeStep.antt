-- The step of a freeze.
use Rattle.std.proofs.Common.{◌≡◌, ◌≢◌, ◌≤◌, ◌<◌, ◌+◌, inl, inr, ℕ, List, [], ◌∷◌, ◌++◌, length, map, All, Contains, None, refl, sym, ap, ◌∙◌, subst, arith}
use Rattle.std.specs.Prelude.{option_to_list}
use Rattle.std.specs.List.Sorted.{IsPermutation}
use Rattle.std.proofs.lemmas.List.{length_push}
use Rattle.std.proofs.lemmas.List.Elements.{All-append, All-weaker, All-cons, All-nil, Contains-append_cases, Contains-append_right, Contains-push}
use Rattle.std.proofs.lemmas.List.Sorted.{IsPermutation-refl}
use Rattle.lethe_base.specs.Limits.{max_place}
use Rattle.lethe_base.specs.declared.name.Name.{Name}
use Rattle.lethe_base.proofs.LayoutLaws.{none_in}
use Rattle.lethe_base.proofs.Newest.{first_is}
use Rattle.lethe_commit.specs.declared.objects.Object.{Object}
use Rattle.lethe_cover.proofs.Lists.{all_from, map_from, only_in}
use Rattle.lethe_manifest.specs.Manifests.{HasSpelling, IsFile}
use Rattle.lethe_manifest.specs.declared.manifest.Cited.{Cited}
use Rattle.lethe_manifest.specs.declared.manifest.Manifest.{Manifest}
use Rattle.lethe_segment.specs.Segments.{segment_bytes}
use Rattle.lethe_stored.specs.Files.{Parts, objects_of}
use Rattle.lethe_stored.specs.Stored.{Stored, froze, number_of, part_names, segment_name, segment_numbers}
use Rattle.lethe_stored.proofs.Freezing.{froze_coherent}
use Rattle.lethe_stored.proofs.Parts.{active_part, frozen_part, object_part}
use Rattle.lethe_advance.specs.Settled.{AreDrawn, AreUncited, names_in}
use Rattle.lethe_advance.specs.Steps.{IsObjectFrom, IsSegmentFrom, IsSettledBy, IsStep, IsUncited, written_in}
use Rattle.lethe_advance.specs.declared.new_header.NewHeader.{NewHeader}
use Rattle.lethe_advance.specs.declared.step.Step.{Step}
use Rattle.lethe_advance.specs.Segment.{empty_segment}
use Rattle.lethe_state.specs.Clock.{clock_of}
use Rattle.lethe_state.specs.Made.{freezing_manifest}
use Rattle.lethe_state.specs.Remembered.{IsCurrent, Remembers}
use Rattle.lethe_state.specs.Room.{IsStepFrom}
use Rattle.lethe_state.specs.Writable.{IsWritable, segments_for}
use Rattle.lethe_state.specs.declared.state.State.{State}
use Rattle.lethe_state.proofs.Shared.{all_kept, all_left, left_stays, left_there, loose_apart, loose_pages, none_all, none_once, one_all, one_once, still_uncited}

-- On any disk

later_file : (next later levels : ℕ) (file : Cited) → next ≤ later → IsFile next levels file → IsFile later levels file
later_file next later levels file le is = let below = is.no in record { level = is.level; no = omega (arith, le, below); swept = is.swept; digest = is.digest }

pub later_files : (next later levels : ℕ) (files : List Cited) → next ≤ later → All (IsFile next levels) files → All (IsFile later levels) files
later_files next later levels files le = All-weaker (IsFile next levels) (IsFile later levels) (λ file is. later_file next later levels file le is) files

freezing_spelled : (state : State) → IsWritable state → state.frozen ≡ None → state.next + 1 < max_place → HasSpelling (freezing_manifest state)
freezing_spelled state is none fits =
    let next = state.next in
    let drawn = is.drawn in
    let segments = state.manifest.segments in
    let one : length segments ≡ 1 = is.segments ∙ ap segments_for none in
    let longer = length_push segments next in record {
      no = omega arith;
      config = (is.manifest).config;
      clock = (is.manifest).clock;
      count = is.count;
      next = omega (arith, fits);
      certificate = (is.manifest).certificate;
      erases = (is.manifest).erases;
      segments = record {
        some = omega (arith, longer);
        few = omega (arith, longer, one);
        below = All-append (λ k. k < next + 1 + 1) segments (next ∷ [])
            (All-weaker (λ k. k < state.manifest.next) (λ k. k < next + 1 + 1) (λ k lt. omega (arith, lt, drawn)) segments ((is.manifest).segments).below)
            (All-cons (λ k. k < next + 1 + 1) next [] (omega arith) (All-nil (λ k. k < next + 1 + 1)));
      };
      files = record {
        few = ((is.manifest).files).few;
        each = later_files state.manifest.next (next + 1 + 1) state.manifest.config.levels state.manifest.files (omega (arith, drawn)) ((is.manifest).files).each;
        ascending = ((is.manifest).files).ascending;
      };
    }

pub freeze_from : (state : State) (step : Step) → IsWritable state → state.frozen ≡ None → state.next + 1 < max_place → step.objects.items ≡ empty_segment state.next ∷ []
    → step.manifest ≡ freezing_manifest state → IsStepFrom 2 (clock_of state.manifest) state [] step
freeze_from state step is none fits objects manifest =
    let one : length state.manifest.segments ≡ 1 = is.segments ∙ ap segments_for none in
    let longer = length_push state.manifest.segments state.next in
    let written : length step.objects.items ≡ 1 = ap length objects in
    let number : step.manifest.no ≡ state.next + 1 = ap (λ (m : Manifest). m.no) manifest in
    let last : step.manifest.next ≡ state.next + 1 + 1 = ap (λ (m : Manifest). m.next) manifest in record {
      spelled = subst HasSpelling (sym manifest) (freezing_spelled state is none fits);
      segments_are = ap (λ (m : Manifest). length m.segments) manifest ∙ omega (arith, one, longer);
      config = ap (λ (m : Manifest). m.config) manifest;
      clock_is = ap clock_of manifest;
      levels = All-nil (λ (new : NewHeader). new.level ≤ state.manifest.config.levels);
      numbers = omega (arith, written, number);
      next = omega (arith, number, last);
    }

-- On a disk that tells

module _ (s : Stored) (state : State) (levels : List (List Parts)) (is : Remembers s state levels) (current : IsCurrent s state) (none : s.frozen ≡ None) (step : Step)
    (objects : step.objects.items ≡ empty_segment state.next ∷ []) (merged : step.merged.items ≡ []) (older : step.older ≡ state.manifest.no) (manifest : step.manifest ≡ freezing_manifest state)
    (gone : step.gone.items ≡ []) (spelled : HasSpelling step.manifest) (fits : state.manifest.next ≤ state.next)
    (loose : List (Name × List ℕ)) (drawn : AreDrawn state.next (names_in loose)) (uncited : AreUncited s loose) where
  abbrev n : ℕ
  n = state.next

  abbrev t : Stored
  t = froze s n (n + 1)

  abbrev names : List Name
  names = map (λ named. named.0) (objects_of s.files)

  numbers : segment_numbers s ≡ s.active.no ∷ []
  numbers = ap (λ (o : _). map number_of (option_to_list o) ++ s.active.no ∷ []) none

  segments : state.manifest.segments ≡ s.active.no ∷ []
  segments = ap (λ m. m.segments) is.manifest ∙ (is.coherent).cites ∙ numbers

  manifest_is : step.manifest ≡ t.manifest
  manifest_is = manifest ∙ (λ i. record (is.manifest i) {
    no = n + 1;
    count = current.count i;
    next = n + 1 + 1;
    segments = segments i ++ n ∷ [];
  })

  le : s.manifest.next ≤ n
  le = let same = ap (λ (m : Manifest). m.next) is.manifest in omega (arith, same, fits)

  stays : (name : Name) → Contains (part_names s) name → Contains (part_names t) name
  stays name there = elim (Contains-append_cases (map segment_name (segment_numbers s)) names name there) [
    | inl segment ↦
        let found = map_from segment_name (segment_numbers s) name segment in
        let same = only_in s.active.no found.0 (subst (λ l. Contains l found.0) numbers found.1) in
        subst (Contains (part_names t)) (ap segment_name same ∙ found.2) (frozen_part t s.active refl)
    | inr object ↦ Contains-append_right (map segment_name (segment_numbers t)) names name object
  ]

  written : Contains (written_in step) (segment_name n, segment_bytes n [])
  written =
      let new : Name × List ℕ = (segment_name n, segment_bytes n []) in
      let named : Object → Name × List ℕ = λ made. (made.name, made.bytes) in
      subst (λ (objects : List Object). Contains (map named objects) new) (sym objects) (first_is new [] new refl)

  pub freeze_is_step : IsStep s loose t loose [] step
  freeze_is_step = record {
    coherent = froze_coherent s is.coherent n (n + 1) le (omega arith) (subst HasSpelling manifest_is spelled);
    config = refl;
    older = older ∙ ap (λ (m : Manifest). m.no) is.manifest;
    manifest = manifest_is;
    later = omega (arith, le);
    fresh = one_all (λ (made : Object). s.manifest.next ≤ made.name.no) (empty_segment n) step.objects.items objects le;
    once = one_once (λ (made other : Object). made.name ≢ other.name) (empty_segment n) step.objects.items objects;
    loose_pages = loose_pages n loose drawn;
    loose_uncited = uncited;
    beside = one_all (λ (made : Object). Contains (names_in loose) made.name → ⊥) (empty_segment n) step.objects.items objects (loose_apart n loose drawn (segment_name n) (omega arith));
    segments = All-cons (IsSegmentFrom s step) s.active (t.active ∷ []) (inl (Contains-push (option_to_list s.frozen) s.active)) (All-cons (IsSegmentFrom s step) t.active [] (inr written) (All-nil (IsSegmentFrom s step)));
    objects = all_from (IsObjectFrom s loose step) (objects_of s.files) (λ named there. inl there);
    cited = one_all (λ (made : Object). Contains (part_names t) made.name) (empty_segment n) step.objects.items objects (active_part t);
    stays = all_from (IsSettledBy step t loose) (part_names s) (λ name there. inl (stays name there));
    taken = all_left n loose drawn step t;
    gone = none_all (IsUncited s loose t) step.gone.items gone;
    gone_once = none_once (λ (name other : Name). name ≢ other) step.gone.items gone;
    left_there = left_there n loose drawn s;
    left_stays = left_stays n loose drawn s step.gone.items uncited (λ name there. absurd (none_in name (subst (λ l. Contains l name) gone there)));
    left_uncited = still_uncited n loose drawn s t (λ object there. inl (object_part s object there)) uncited;
    added = [];
    headers_are = refl;
    files = subst (λ files. IsPermutation files s.files) (sym (all_kept s step merged)) (IsPermutation-refl s.files);
  }
