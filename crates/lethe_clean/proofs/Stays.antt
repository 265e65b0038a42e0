-- What is stored stays untorn by a step, by a record, and where what is cited is as it was.
use Rattle.std.proofs.Common.{◌≡◌, ◌≢◌, inl, inr, ℕ, ◌<◌, ◌≤◌, List, [], ◌∷◌, ◌++◌, map, Contains, AllPairs, Some, refl, sym, ap, ◌∙◌, subst, arith}
use Rattle.std.specs.Prelude.{option_to_list}
use Rattle.std.specs.FinMap.{insert}
use Rattle.std.proofs.Math.Logic.{⊎_elim}
use Rattle.std.proofs.lemmas.List.Elements.{All-contains, Contains-append_cases, Contains-append_left, Contains-append_right}
use Rattle.lethe_base.specs.declared.name.Name.{Name}
use Rattle.lethe_disk.specs.Directory.{Directory, object, IsNoneOf}
use Rattle.lethe_disk.proofs.Objects.{object_beside_insert, object_inserted}
use Rattle.lethe_segment.specs.declared.record.Record.{Record}
use Rattle.lethe_segment.specs.Segments.{segment_bytes}
use Rattle.lethe_commit.specs.declared.objects.Object.{Object}
use Rattle.lethe_commit.specs.Gates.{gate_name}
use Rattle.lethe_commit.specs.Place.{insert_all, name_of}
use Rattle.lethe_commit.proofs.Creations.{object_beside_all, object_contained}
use Rattle.lethe_cover.proofs.Lists.{all_from, in_map, map_from, only_in, pairs_from, pairs_parts}
use Rattle.lethe_stored.specs.Stored.{Stored, Segment, IsCited, IsCoherent, appended, number_of, part_names, segment_name, segment_numbers, segments_of}
use Rattle.lethe_stored.proofs.Frame.{none_of, same_no, gate≢segment}
use Rattle.lethe_stored.proofs.Parts.{part_below}
use Rattle.lethe_advance.specs.Settled.{HasOnly}
use Rattle.lethe_advance.specs.Steps.{IsSegmentFrom, IsStep, written_in}
use Rattle.lethe_advance.specs.declared.new_header.NewHeader.{NewHeader}
use Rattle.lethe_advance.specs.declared.step.Step.{Step}
use Rattle.lethe_advance.proofs.Placed.{written_absent}
use Rattle.lethe_advance.specs.Untorn.{IsPlain, IsUntorn}

-- the name of a stored segment is cited
segment_part : (s : Stored) (segment : Segment) → Contains (segments_of s) segment → Contains (part_names s) (segment_name segment.no)
segment_part s segment there = Contains-append_left (map segment_name (segment_numbers s)) _ (segment_name segment.no) (in_map segment_name (segment_numbers s) segment.no numbered)
  where
    numbered : Contains (segment_numbers s) segment.no
    numbered = ⊎_elim
        (λ older. Contains-append_left (map number_of (option_to_list s.frozen)) (s.active.no ∷ []) segment.no (in_map number_of (option_to_list s.frozen) segment older))
        (λ last. Contains-append_right (map number_of (option_to_list s.frozen)) (s.active.no ∷ []) segment.no (in_map number_of (s.active ∷ []) segment last))
        (Contains-append_cases (option_to_list s.frozen) (s.active ∷ []) segment there)

-- A step

module _ (s t : Stored) (loose left : List (Name × List ℕ)) (headers : List NewHeader) (step : Step) (d c : Directory)
    (coherent : IsCoherent s) (is : IsStep s loose t left headers step) (only : HasOnly s loose d) (untorn : IsUntorn s d)
    (kept : (name : Name) → Contains (part_names t) name → object c name ≡ object (insert_all step.objects.items d) name) (gate : object c (gate_name t.manifest.no) ≡ Some []) where
  -- what is written is under other names than those drawn before
  apart : (name : Name) → name.no < s.manifest.next → IsNoneOf (map name_of step.objects.items) name
  apart name below = none_of (map name_of step.objects.items) name (λ there.
      let made = map_from name_of step.objects.items name there in
      let fresh = All-contains (λ (m : Object). s.manifest.next ≤ m.name.no) step.objects.items made.0 is.fresh made.1 in
      let same = same_no (made.0).name name made.2 in
      omega (arith, fresh, same, below))

  written_plain : (segment : Segment) → Contains (written_in step) (segment_name segment.no, segment_bytes segment.no segment.records)
      → object (insert_all step.objects.items d) (segment_name segment.no) ≡ Some (segment_bytes segment.no segment.records)
  written_plain segment there =
      let made = map_from {Y = Name × List ℕ} (λ (m : Object). (m.name, m.bytes)) step.objects.items (segment_name segment.no, segment_bytes segment.no segment.records) there in
      let inside = object_contained step.objects.items d made.0 made.1 (written_absent s t loose left headers step coherent is d only) in
      let name : (made.0).name ≡ segment_name segment.no = ap (λ (p : Name × List ℕ). p.0) made.2 in
      let bytes : (made.0).bytes ≡ segment_bytes segment.no segment.records = ap (λ (p : Name × List ℕ). p.1) made.2 in
      ap (object (insert_all step.objects.items d)) (sym name) ∙ inside ∙ ap (λ b. Some b) bytes

  segment_plain : (segment : Segment) → Contains (segments_of t) segment → IsPlain c segment
  segment_plain segment there =
      let part = segment_part t segment there in
      let from : IsSegmentFrom s step segment = All-contains (IsSegmentFrom s step) (segments_of t) segment is.segments there in
      ⊎_elim
      (λ stored.
      let below = part_below s (segment_name segment.no) coherent (segment_part s segment stored) in
      kept (segment_name segment.no) part ∙ object_beside_all step.objects.items d (segment_name segment.no) (apart (segment_name segment.no) below)
      ∙ All-contains (IsPlain d) (segments_of s) segment untorn.segments stored)
      (λ made. kept (segment_name segment.no) part ∙ written_plain segment made)
      from

  pub step_untorn : IsUntorn t c
  step_untorn = record { gate = gate; segments = all_from (IsPlain c) (segments_of t) segment_plain }

-- A record

module _ (s : Stored) (d : Directory) (next : Record) (coherent : IsCoherent s) (untorn : IsUntorn s d) where
  abbrev name : Name
  name = segment_name s.active.no

  abbrev bytes : List ℕ
  bytes = segment_bytes s.active.no (s.active.records ++ next ∷ [])

  older_apart : (older : Segment) → Contains (option_to_list s.frozen) older → segment_name older.no ≢ name
  older_apart older there same =
      let pairs = pairs_from (λ a b. a ≢ b) (map number_of (option_to_list s.frozen) ++ s.active.no ∷ []) (subst (AllPairs (λ a b. a ≢ b)) coherent.cites coherent.once) in
      let parts = pairs_parts (λ a b. a ≢ b) (map number_of (option_to_list s.frozen)) (s.active.no ∷ []) pairs in
      parts.2 older.no s.active.no (in_map number_of (option_to_list s.frozen) older there) (0, omega arith, refl) (same_no (segment_name older.no) name same)

  pub record_untorn : IsUntorn (appended s next) (insert d name bytes)
  record_untorn = record {
    gate = object_beside_insert d name bytes (gate_name s.manifest.no) (gate≢segment s.manifest.no s.active.no) ∙ untorn.gate;
    segments = all_from (IsPlain (insert d name bytes)) (segments_of (appended s next)) (λ segment there. ⊎_elim
        (λ older. object_beside_insert d name bytes (segment_name segment.no) (older_apart segment older)
        ∙ All-contains (IsPlain d) (segments_of s) segment untorn.segments (Contains-append_left (option_to_list s.frozen) (s.active ∷ []) segment older))
        (λ last. subst (IsPlain (insert d name bytes)) (only_in (record s.active { records = s.active.records ++ next ∷ [] }) segment last) (object_inserted d name bytes))
        (Contains-append_cases (option_to_list s.frozen) (record s.active { records = s.active.records ++ next ∷ [] } ∷ []) segment there));
  }

-- Whatever leaves what is cited as it was

pub beside_untorn : (s : Stored) (d c : Directory) → IsUntorn s d → ((name : Name) → IsCited s name → object c name ≡ object d name) → IsUntorn s c
beside_untorn s d c untorn kept = record {
  gate = kept (gate_name s.manifest.no) (inl refl) ∙ untorn.gate;
  segments = all_from (IsPlain c) (segments_of s) (λ segment there.
      kept (segment_name segment.no) (inr (inr (segment_part s segment there))) ∙ All-contains (IsPlain d) (segments_of s) segment untorn.segments there);
}
