-- A step is carried out on the disk.
use Rattle.std.proofs.Common.{◌≡◌, ◌<◌, ◌≤◌, ◌⊎◌, inl, inr, ℕ, ◌+◌, List, [], ◌∷◌, map, length, Some, refl, sym, ap, ◌∙◌, subst, arith}
use Rattle.std.specs.Prelude.{Contains, option_to_list}
use Rattle.std.proofs.lemmas.List.Elements.{All-contains, Contains-append_left, Contains-append_right, Contains-append_cases, Contains-push}
use Rattle.lethe_base.specs.History.{History}
use Rattle.lethe_base.specs.declared.config.Fields.{Fields}
use Rattle.lethe_base.specs.declared.name.Name.{Name}
use Rattle.lethe_disk.specs.Directory.{Directory, object, IsNoneOf}
use Rattle.lethe_disk.specs.Disk.{Seen, Image}
use Rattle.lethe_disk.specs.Goes.{Goes}
use Rattle.lethe_disk.proofs.Going.{goes_weaker}
use Rattle.lethe_segment.specs.Segments.{segment_bytes}
use Rattle.lethe_commit.specs.declared.objects.Object.{Object}
use Rattle.lethe_commit.specs.Append.{EndsAt}
use Rattle.lethe_commit.specs.Gates.{gate_name}
use Rattle.lethe_commit.specs.Place.{name_of, insert_all}
use Rattle.lethe_commit.proofs.Creations.{object_beside_all, object_contained}
use Rattle.lethe_stored.specs.Encodes.{Encodes}
use Rattle.lethe_stored.specs.Kept.{IsFor, IsKept}
use Rattle.lethe_stored.specs.Levels.{HasFiles}
use Rattle.lethe_stored.specs.Numbers.{GoesFrom}
use Rattle.lethe_stored.specs.Stored.{Stored, Segment, IsCoherent, number_of, segments_of, segment_numbers, segment_name, part_names}
use Rattle.lethe_stored.proofs.Frame.{none_of, same_no}
use Rattle.lethe_stored.proofs.Lists.{from_map, in_map}
use Rattle.lethe_stored.proofs.Numbers.{goes_from_encoded, goes_from_weaker, pace_stepped}
use Rattle.lethe_stored.proofs.Parts.{active_part, part_below}
use Rattle.lethe_advance.specs.Settled.{IsSettled, HasOnly}
use Rattle.lethe_advance.specs.Steps.{HasStayed, IsStep, IsSegmentFrom, MayAdvance}
use Rattle.lethe_advance.specs.declared.new_header.NewHeader.{NewHeader}
use Rattle.lethe_advance.specs.declared.step.Step.{Step}
use Rattle.lethe_advance.proofs.Placed.{written_absent}
use Rattle.lethe_advance.proofs.Standing.{ends_empty}
use Rattle.lethe_state.specs.Room.{IsFrozen}
use Rattle.lethe_core.specs.Running.{IsRunning}
use Rattle.lethe_core.specs.View.{View, beside_in}

-- a crash leaves what was stored or what is stored next, of which one stands for the first history and the other for the second
pub step_moments : (h g : History) (s t : Stored) (first count : ℕ) (old new : Seen) → IsCoherent s → IsCoherent t → t.manifest.config ≡ s.manifest.config → IsFor h s → IsFor g t → s.manifest.next ≤ first → t.manifest.next ≤ first + count + 1
    → Goes (λ c. Encodes c s ⊎ Encodes c t) old new
    → ((moment : ℕ) (c : Directory) → old.moment ≤ moment → moment ≤ new.moment → moment ≤ old.moment + count → new.left moment c → Encodes c s)
    → GoesFrom first (λ c. IsKept s.manifest.config c h ⊎ IsKept s.manifest.config c g) old new
step_moments h g s t first count old new coherent next same stands after below above goes early = record {
  goes = goes_weaker (λ c. Encodes c s ⊎ Encodes c t) (λ c. IsKept s.manifest.config c h ⊎ IsKept s.manifest.config c g) old new
      (λ c either. elim either [
        | inl was ↦ inl (inr (record { s = s; config_is = refl; coherent = coherent; encodes = was; stands = stands }))
        | inr is ↦ inr (inr (record { s = t; config_is = same; coherent = next; encodes = is; stands = after }))
      ]) goes;
  pace = pace_stepped s t first count old new coherent next below above goes early;
}

-- where only what was stored can be left, the first is kept
pub unmoved_moments : (h : History) (s : Stored) (first : ℕ) (old new : Seen) → IsCoherent s → IsFor h s → s.manifest.next ≤ first → Goes (λ c. Encodes c s) old new → GoesFrom first (λ c. IsKept s.manifest.config c h) old new
unmoved_moments h s first old new coherent stands below goes =
    goes_from_encoded (λ c. IsKept s.manifest.config c h) s first old new coherent below goes (λ c is. inr (record { s = s; config_is = refl; coherent = coherent; encodes = is; stands = stands }))

-- one of two that are one
pub one_kept : (config : Fields) (h : History) (first : ℕ) (old new : Seen) → GoesFrom first (λ c. IsKept config c h ⊎ IsKept config c h) old new → GoesFrom first (λ c. IsKept config c h) old new
one_kept config h first old new goes = goes_from_weaker (λ c. IsKept config c h ⊎ IsKept config c h) (λ c. IsKept config c h) first old new (λ c either. elim either [ inl kept ↦ kept | inr kept ↦ kept ]) goes

-- a step goes on from what is stored
pub may_advance : (view : View) (s t : Stored) (left : List (Name × List ℕ)) (headers : List NewHeader) (step : Step) → IsRunning view s → IsStep s (beside_in view) t left headers step
    → MayAdvance view.disk s (beside_in view) t left headers step
may_advance view s t left headers step running is = record { settled = running.settled; only = running.only; step_is = is }

-- What is known of a step once it is carried out. The new view may have another state.
pub record IsCarried (Tells : Type 0) (old new : View) (headers : List NewHeader) (step : Step) : Type 0 where
  pub moments : Tells → (s t : Stored) (left : List (Name × List ℕ)) → IsRunning old s → IsStep s (beside_in old) t left headers step → (h g : History) → IsFor h s → IsFor g t
      → s.manifest.next ≤ old.state.next → t.manifest.next ≤ old.state.next + length step.objects.items + 1
      → GoesFrom old.state.next (λ c. IsKept s.manifest.config c h ⊎ IsKept s.manifest.config c g) old.disk new.disk
  pub done : Tells → (s t : Stored) (left : List (Name × List ℕ)) → IsRunning old s → IsStep s (beside_in old) t left headers step → IsSettled new.disk t × HasOnly t left new.disk.directory
  pub kept : Tells → (s t : Stored) (left : List (Name × List ℕ)) → IsRunning old s → IsStep s (beside_in old) t left headers step
      → (name : Name) → Contains (part_names t) name → object new.disk.directory name ≡ object (insert_all step.objects.items old.disk.directory) name
  pub stays : Tells → (s t : Stored) (left : List (Name × List ℕ)) → IsRunning old s → IsStep s (beside_in old) t left headers step → HasStayed t left old.disk.directory new.disk.directory
  pub gate : Tells → (s t : Stored) (left : List (Name × List ℕ)) → IsRunning old s → IsStep s (beside_in old) t left headers step → object new.disk.directory (gate_name t.manifest.no) ≡ Some []
  pub files : Tells → (s t : Stored) (left : List (Name × List ℕ)) → IsRunning old s → IsStep s (beside_in old) t left headers step → HasFiles s old.levels → HasFiles t new.levels
  pub levels : length new.levels ≡ length old.levels
  pub retired : new.retired ≡ old.retired
  pub flights : new.flights ≡ old.flights
  pub pins : new.pins ≡ old.pins
  pub calls : Tells → old.disk.moment + length step.objects.items + 4 ≤ new.disk.moment
  pub faults : old.faults ≤ new.faults

-- a segment that is stored has a number that was drawn
segment_below : (s : Stored) (segment : Segment) → IsCoherent s → Contains (segments_of s) segment → segment.no < s.manifest.next
segment_below s segment coherent there =
    part_below s (segment_name segment.no) coherent
    (Contains-append_left (map segment_name (segment_numbers s)) _ (segment_name segment.no) (in_map segment_name (segment_numbers s) segment.no numbered))
  where
    one_of : Contains (s.active ∷ []) segment → Contains (s.active.no ∷ []) segment.no
    one_of last = in_map number_of (s.active ∷ []) segment last

    numbered : Contains (segment_numbers s) segment.no
    numbered = elim (Contains-append_cases (option_to_list s.frozen) (s.active ∷ []) segment there) [
      | inl older ↦ Contains-append_left (map number_of (option_to_list s.frozen)) (s.active.no ∷ []) segment.no (in_map number_of (option_to_list s.frozen) segment older)
      | inr last ↦ Contains-append_right (map number_of (option_to_list s.frozen)) (s.active.no ∷ []) segment.no (one_of last)
    ]

module _ (s t : Stored) (loose left : List (Name × List ℕ)) (headers : List NewHeader) (step : Step) (is : IsStep s loose t left headers step) (coherent : IsCoherent s) (old new : Seen) (settled : IsSettled new t)
    (kept : (name : Name) → Contains (part_names t) name → object new.directory name ≡ object (insert_all step.objects.items old.directory) name) where
  -- no object is written under a name that has been drawn
  apart : (name : Name) → name.no < s.manifest.next → IsNoneOf (map name_of step.objects.items) name
  apart name below = none_of (map name_of step.objects.items) name (λ there.
      let made = from_map name_of step.objects.items name there in
      let fresh = All-contains (λ (m : Object). s.manifest.next ≤ m.name.no) step.objects.items made.0 is.fresh made.1 in
      let same = same_no made.0.name name made.2 in
      omega (arith, fresh, same, below))

  -- the active segment stays
  pub active_ends : (at : ℕ) → t.active ≡ s.active → Image old old.directory → EndsAt old (segment_name s.active.no) s.active.no s.active.records at
      → EndsAt new (segment_name t.active.no) t.active.no t.active.records at
  active_ends at same here ends =
      let name = segment_name s.active.no in
      let part : Contains (part_names t) name = subst (λ (a : Segment). Contains (part_names t) (segment_name a.no)) same (active_part t) in
      let below = part_below s name coherent (active_part s) in
      subst (λ (a : Segment). EndsAt new (segment_name a.no) a.no a.records at) (sym same) (record {
        ascends = ends.ascends;
        spelled = λ c image. ap (λ d. object d name) (settled.synced c image) ∙ kept name part ∙ object_beside_all step.objects.items old.directory name (apart name below) ∙ ends.spelled old.directory here;
        place = ends.place;
      })

  -- the active segment is a new one
  pub frozen_ends : IsFrozen s t → HasOnly s loose old.directory → EndsAt new (segment_name t.active.no) t.active.no t.active.records 11
  frozen_ends frozen only =
      let drawn = frozen.drawn in
      let number : t.active.no ≡ frozen.segment = ap (λ (x : Stored). x.active.no) frozen.is in
      let none : t.active.records ≡ [] = ap (λ (x : Stored). x.active.records) frozen.is in
      let bytes = segment_bytes t.active.no t.active.records in
      let from = All-contains (IsSegmentFrom s step) (segments_of t) t.active is.segments (Contains-push (option_to_list t.frozen) t.active) in
      let written : object (insert_all step.objects.items old.directory) (segment_name t.active.no) ≡ Some bytes = elim from [
        | inl stored ↦ absurd (let below = segment_below s t.active coherent stored in omega (arith, below, number, drawn))
        | inr made ↦ placed made
      ] in
      let there : object new.directory (segment_name t.active.no) ≡ Some bytes = kept (segment_name t.active.no) (active_part t) ∙ written in
      let empty : object new.directory (segment_name t.active.no) ≡ Some (segment_bytes t.active.no []) = subst (λ records. object new.directory (segment_name t.active.no) ≡ Some (segment_bytes t.active.no records)) none there in
      subst (λ records. EndsAt new (segment_name t.active.no) t.active.no records 11) (sym none) (ends_empty new t t.active.no settled empty)
    where
      placed : Contains {X = Name × List ℕ} (map (λ (made : Object). (made.name, made.bytes)) step.objects.items) (segment_name t.active.no, segment_bytes t.active.no t.active.records)
          → object (insert_all step.objects.items old.directory) (segment_name t.active.no) ≡ Some (segment_bytes t.active.no t.active.records)
      placed there =
          let made = from_map {Y = Name × List ℕ} (λ (m : Object). (m.name, m.bytes)) step.objects.items (segment_name t.active.no, segment_bytes t.active.no t.active.records) there in
          let inside = object_contained step.objects.items old.directory made.0 made.1 (written_absent s t loose left headers step coherent is old.directory only) in
          let name : made.0.name ≡ segment_name t.active.no = ap (λ (p : Name × List ℕ). p.0) made.2 in
          let bytes : made.0.bytes ≡ segment_bytes t.active.no t.active.records = ap (λ (p : Name × List ℕ). p.1) made.2 in
          ap (object (insert_all step.objects.items old.directory)) (sym name) ∙ inside ∙ ap Some bytes
