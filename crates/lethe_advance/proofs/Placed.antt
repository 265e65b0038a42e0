-- A directory in which the objects of a step are written: it encodes what it encoded, and what is stored next is there.
use Rattle.std.proofs.Common.{◌≡◌, ◌≢◌, ◌<◌, ◌≤◌, inl, inr, ℕ, List, [], ◌∷◌, map, Option, Some, None, refl, sym, ap, ◌∙◌, subst, arith}
use Rattle.std.specs.Prelude.{Contains, IfSome, IsSome, is_some, option_to_list}
use Rattle.std.proofs.lemmas.List.Elements.{All-contains, Contains-append_left, Contains-append_cases, Contains-push}
use Rattle.lethe_base.specs.declared.name.Kind.TheVariants as kinds
use Rattle.lethe_base.specs.declared.name.Name.{Name}
use Rattle.lethe_base.proofs.LayoutLaws.{none_in}
use Rattle.lethe_base.proofs.Newest.{first_or_rest, first_is}
use Rattle.lethe_disk.specs.Directory.{Directory, object, IsNoneOf}
use Rattle.lethe_disk.specs.Disk.{Seen, IsSynced}
use Rattle.lethe_disk.proofs.Objects.{absent_of}
use Rattle.lethe_segment.specs.Segments.{segment_bytes}
use Rattle.lethe_segment.proofs.Runs.{holds_spelling}
use Rattle.lethe_commit.specs.declared.objects.Object.{Object}
use Rattle.lethe_commit.specs.Gates.{gate_name}
use Rattle.lethe_commit.specs.Place.{name_of, AreAbsent, insert_all}
use Rattle.lethe_commit.specs.Switch.{manifest_name, HasGreatest, IsFree}
use Rattle.lethe_commit.proofs.Creations.{object_beside_all, object_contained}
use Rattle.lethe_stored.specs.Files.{objects_of}
use Rattle.lethe_stored.specs.Stored.{Stored, Segment, IsCoherent, IsSpare, number_of, segments_of, segment_numbers, segment_name, part_names}
use Rattle.lethe_stored.specs.Encodes.{Encodes, HasParts, HasSegment, HasObject, AreSpare}
use Rattle.lethe_stored.proofs.Frame.{same_no, none_of, besides, fresh_spare}
use Rattle.lethe_stored.proofs.Lists.{all_from, from_map, in_map}
use Rattle.lethe_stored.proofs.Parts.{part_kind, part_below}
use Rattle.lethe_advance.specs.declared.new_header.NewHeader.{NewHeader}
use Rattle.lethe_advance.specs.declared.step.Step.{Step}
use Rattle.lethe_advance.specs.Settled.{HasOnly, names_in}
use Rattle.lethe_advance.specs.Steps.{IsStep, IsSegmentFrom, IsObjectFrom, written_in}

-- What is cited is there

active_in : (s : Stored) → Contains (segments_of s) s.active
active_in s = Contains-push (option_to_list s.frozen) s.active

frozen_in : (s : Stored) (older : Segment) → s.frozen ≡ Some older → Contains (segments_of s) older
frozen_in s older is = Contains-append_left (option_to_list s.frozen) (s.active ∷ []) older (subst (λ o. Contains (option_to_list o) older) (sym is) (first_is older [] older refl))

if_some : (d : Directory) (o : Option Segment) → ((older : Segment) → o ≡ Some older → HasSegment d older) → IfSome o (HasSegment d)
if_some d None each = tt
if_some d (Some older) each = each older refl

one_of : {X : Type 0} (x y : X) → Contains (x ∷ []) y → x ≡ y
one_of x y there = elim (first_or_rest x [] y there) [ inl same ↦ same | inr rest ↦ absurd (none_in y rest) ]

older_there : (d : Directory) (o : Option Segment) (segment : Segment) → IfSome o (HasSegment d) → Contains (option_to_list o) segment → HasSegment d segment
older_there d None segment has there = absurd (none_in segment there)
older_there d (Some older) segment has there = subst (HasSegment d) (one_of older segment there) has

segment_there : (d : Directory) (s : Stored) (segment : Segment) → HasParts d s → Contains (segments_of s) segment → HasSegment d segment
segment_there d s segment parts there = elim (Contains-append_cases (option_to_list s.frozen) (s.active ∷ []) segment there) [
  | inl older ↦ older_there d s.frozen segment parts.frozen older
  | inr active ↦ subst (HasSegment d) (one_of s.active segment active) parts.active
]

number_there : (d : Directory) (s : Stored) (number : ℕ) → HasParts d s → Contains (segment_numbers s) number → IsSome (object d (segment_name number))
number_there d s number parts there = elim (Contains-append_cases (map number_of (option_to_list s.frozen)) (s.active.no ∷ []) number there) [
  | inl older ↦
      let found = from_map number_of (option_to_list s.frozen) number older in
      subst (λ n. IsSome (object d (segment_name n))) found.2 (ap is_some (older_there d s.frozen found.0 parts.frozen found.1).there)
  | inr active ↦ subst (λ n. IsSome (object d (segment_name n))) (one_of s.active.no number active) (ap is_some parts.active.there)
]

pub part_there : (d : Directory) (s : Stored) (name : Name) → HasParts d s → Contains (part_names s) name → IsSome (object d name)
part_there d s name parts there = elim (Contains-append_cases (map segment_name (segment_numbers s)) (map (λ (named : Name × List ℕ). named.0) (objects_of s.files)) name there) [
  | inl segment ↦
      let found = from_map segment_name (segment_numbers s) name segment in
      subst (λ n. IsSome (object d n)) found.2 (number_there d s found.0 parts found.1)
  | inr held ↦
      let found = from_map (λ (named : Name × List ℕ). named.0) (objects_of s.files) name held in
      subst (λ n. IsSome (object d n)) found.2 (ap is_some (All-contains (HasObject d) (objects_of s.files) found.0 parts.files found.1))
]

-- What is written

module _ (s t : Stored) (loose left : List (Name × List ℕ)) (headers : List NewHeader) (step : Step) (coherent : IsCoherent s) (is : IsStep s loose t left headers step) where
  abbrev pub written : List Object
  written = step.objects.items

  abbrev pub names : List Name
  names = map name_of written

  pub older_below : s.manifest.no < t.manifest.no
  older_below = let own = coherent.spelled.no in let later = is.later in omega (arith, own, later)

  fresh_at : (made : Object) → Contains written made → s.manifest.next ≤ made.name.no
  fresh_at made there = All-contains (λ (m : Object). s.manifest.next ≤ m.name.no) written made is.fresh there

  kind_at : (made : Object) → Contains written made → (made.name.kind ≢ kinds.Gate) × (made.name.kind ≢ kinds.Manifest)
  kind_at made there = part_kind t made.name (All-contains (λ (m : Object). Contains (part_names t) m.name) written made is.cited there)

  spare_at : (made : Object) → Contains written made → IsSpare s made.name
  spare_at made there = fresh_spare s made.name coherent (fresh_at made there) (kind_at made there).0

  pub written_spare : AreSpare s names
  written_spare name there = let found = from_map name_of written name there in subst (IsSpare s) found.2 (spare_at found.0 found.1)

  -- and what is cited stays
  cited_beside : (name : Name) → Contains (part_names s) name → IsNoneOf names name
  cited_beside name part = none_of names name (λ there.
      let found = from_map name_of written name there in
      let fresh = fresh_at found.0 found.1 in
      let below = part_below s name coherent part in
      let same = same_no found.0.name name found.2 in
      omega (arith, fresh, below, same))

  -- and what is loose
  loose_beside : (named : Name × List ℕ) → Contains loose named → IsNoneOf names named.0
  loose_beside named among = none_of names named.0 (λ there.
      let found = from_map name_of written named.0 there in
      All-contains (λ (m : Object). Contains (names_in loose) m.name → ⊥) written found.0 is.beside found.1
      (subst (Contains (names_in loose)) (sym found.2) (in_map (λ (other : Name × List ℕ). other.0) loose named among)))

  -- no loose object is a manifest
  manifest_apart : Contains (names_in loose) (manifest_name t.manifest.no) → ⊥
  manifest_apart among =
      let found = from_map (λ (named : Name × List ℕ). named.0) loose (manifest_name t.manifest.no) among in
      let page = All-contains (λ (named : Name × List ℕ). named.0.kind ≡ kinds.Page) loose found.0 is.loose_pages found.1 in
      let clash : kinds.Page ≡ kinds.Manifest = sym page ∙ ap (λ (x : Name). x.kind) found.2 in
      cc

  manifest_beside : IsNoneOf names (manifest_name t.manifest.no)
  manifest_beside = none_of names (manifest_name t.manifest.no) (λ there.
      let found = from_map name_of written (manifest_name t.manifest.no) there in
      (kind_at found.0 found.1).1 (ap (λ (x : Name). x.kind) found.2))

  module _ (d : Directory) (only : HasOnly s loose d) where
    pub written_absent : AreAbsent written d
    written_absent = record {
      each = all_from (λ (made : Object). object d made.name ≡ None) written (λ made there. absent_of (object d made.name) (λ here. elim (only.only made.name here) [
        | inl cited ↦ (spare_at made there).uncited cited
        | inr among ↦ All-contains (λ (m : Object). Contains (names_in loose) m.name → ⊥) written made is.beside there among
      ]));
      apart = is.once;
    }

    module _ (e : Encodes d s) where
      abbrev pub after : Directory
      after = insert_all written d

      pub still : Encodes after s
      still = besides s d after names e written_spare (λ name none. object_beside_all written d name none)

      pub part_stays : (name : Name) → Contains (part_names s) name → object after name ≡ object d name
      part_stays name part = object_beside_all written d name (cited_beside name part)

      pub loose_stays : (named : Name × List ℕ) → Contains loose named → object after named.0 ≡ object d named.0
      loose_stays named among = object_beside_all written d named.0 (loose_beside named among)

      made_there : (named : Name × List ℕ) → Contains (written_in step) named → HasObject after named
      made_there named there =
          let found = from_map (λ (made : Object). (made.name, made.bytes)) written named there in
          subst (HasObject after) found.2 (object_contained written d found.0 found.1 written_absent)

      segment_from : (segment : Segment) → IsSegmentFrom s step segment → HasSegment after segment
      segment_from segment (inl old) = segment_there after s segment still.parts old
      segment_from segment (inr new) = record {
        bytes = segment_bytes segment.no segment.records;
        there = made_there (segment_name segment.no, segment_bytes segment.no segment.records) new;
        holds = holds_spelling segment.no segment.records;
      }

      segment_next : (segment : Segment) → Contains (segments_of t) segment → HasSegment after segment
      segment_next segment there = segment_from segment (All-contains (IsSegmentFrom s step) (segments_of t) segment is.segments there)

      object_from : (named : Name × List ℕ) → IsObjectFrom s loose step named → HasObject after named
      object_from named (inl old) = All-contains (HasObject after) (objects_of s.files) named still.parts.files old
      object_from named (inr (inl among)) = loose_stays named among ∙ All-contains (HasObject d) loose named only.there among
      object_from named (inr (inr new)) = made_there named new

      pub next_there : HasParts after t
      next_there = record {
        active = segment_next t.active (active_in t);
        frozen = if_some after t.frozen (λ older same. segment_next older (frozen_in t older same));
        files = all_from (HasObject after) (objects_of t.files) (λ named there. object_from named (All-contains (IsObjectFrom s loose step) (objects_of t.files) named is.objects there));
      }

      manifest_absent : object after (manifest_name t.manifest.no) ≡ None
      manifest_absent = object_beside_all written d (manifest_name t.manifest.no) manifest_beside
          ∙ absent_of (object d (manifest_name t.manifest.no)) (λ here. elim (only.only (manifest_name t.manifest.no) here) [
            | inl cited ↦ (fresh_spare s (manifest_name t.manifest.no) coherent is.later (λ k. let clash : kinds.Manifest ≡ kinds.Gate = k in cc)).uncited cited
            | inr among ↦ manifest_apart among
          ])

      pub is_free : (disk : Seen) → IsSynced disk → disk.directory ≡ after → IsFree disk t.manifest.no (Some s.manifest.no)
      is_free disk synced same = record {
        no_manifest = λ c here. ap (λ x. object x (manifest_name t.manifest.no)) (synced c here ∙ same) ∙ manifest_absent;
        no_gate = λ c here other above. ap (λ x. object x (gate_name other)) (synced c here ∙ same) ∙ still.greatest.1 other (let below = older_below in omega (arith, below, above));
        greatest_gate = λ c here. subst (HasGreatest (Some s.manifest.no)) (sym (synced c here ∙ same)) still.greatest;
      }
