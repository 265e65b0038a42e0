-- A directory with the three objects of a new store.
use Rattle.std.proofs.Common.{◌≡◌, ◌≢◌, ◌<◌, ◌≤◌, ◌+◌, ◌⊎◌, inl, inr, ℕ, List, [], Some, None, true, false, sym, ap, ◌∙◌, subst, arith}
use Rattle.std.specs.Prelude.{Contains, IsSome, is_some}
use Rattle.std.specs.FinMap.{empty, insert, get-empty}
use Rattle.std.proofs.lemmas.List.Elements.{All-nil}
use Rattle.lethe_base.specs.Configuration.{IsConfig}
use Rattle.lethe_base.specs.Names.{name_cmp}
use Rattle.lethe_base.specs.declared.name.Kind.TheVariants.{Page}
use Rattle.lethe_base.specs.declared.name.Name.{Name}
use Rattle.lethe_disk.specs.Directory.{Directory, object}
use Rattle.lethe_disk.specs.Disk.{Seen, IsSynced}
use Rattle.lethe_disk.proofs.Objects.{name_cases, object_inserted, object_beside_insert}
use Rattle.lethe_segment.specs.Holding.{Holds}
use Rattle.lethe_segment.proofs.Runs.{holds_spelling}
use Rattle.lethe_commit.specs.Gates.{gate_name}
use Rattle.lethe_commit.specs.Switch.{manifest_name}
use Rattle.lethe_stored.specs.Examples.{small, new_manifest, new_segment}
use Rattle.lethe_stored.specs.Stored.{IsCoherent, IsCited, segment_name, part_names}
use Rattle.lethe_stored.specs.Encodes.{Encodes, HasObject}
use Rattle.lethe_stored.proofs.ExamplesSpelled.{new_manifest_spelled, new_segment_spelled}
use Rattle.lethe_stored.proofs.Firsts.{empty_is_stored}
use Rattle.lethe_stored.proofs.Parts.{active_part}
use Rattle.lethe_stored.proofs.Lists.{no_pairs}
use Rattle.lethe_advance.specs.Settled.{IsSettled, HasOnly, AreDrawn, AreUncited, names_in}
use Rattle.lethe_loose.specs.Loose.{MayWrite, MayRemove}
use Rattle.lethe_loose.specs.Example.{new_stored, IsNew}

limits : IsConfig small
limits = record {
  threshold = (omega arith, omega arith);
  ratio = (omega arith, omega arith);
  levels = (omega arith, omega arith);
  page = (omega arith, omega arith);
  tile = (omega arith, omega arith);
  file = (omega arith, omega arith);
  entries = omega arith;
  buffer = (omega arith, omega arith);
  room = omega arith;
}

abbrev pub one_object : Directory
one_object = insert empty (segment_name 1) new_segment

abbrev pub two_objects : Directory
two_objects = insert one_object (manifest_name 2) new_manifest

abbrev pub three_objects : Directory
three_objects = insert two_objects (gate_name 2) []

pub none_at_first : (name : Name) → object empty name ≡ None
none_at_first name = get-empty name_cmp name

pub no_manifest : object one_object (manifest_name 2) ≡ None
no_manifest = object_beside_insert empty (segment_name 1) new_segment (manifest_name 2) (λ e. let clash = ap (λ (n : Name). n.kind) e in cc) ∙ none_at_first (manifest_name 2)

pub no_gate : object two_objects (gate_name 2) ≡ None
no_gate = object_beside_insert one_object (manifest_name 2) new_manifest (gate_name 2) (λ e. let clash = ap (λ (n : Name). n.kind) e in cc)
    ∙ object_beside_insert empty (segment_name 1) new_segment (gate_name 2) (λ e. let clash = ap (λ (n : Name). n.kind) e in cc) ∙ none_at_first (gate_name 2)

manifest_there : object three_objects (manifest_name 2) ≡ Some new_manifest
manifest_there = object_beside_insert two_objects (gate_name 2) [] (manifest_name 2) (λ e. let clash = ap (λ (n : Name). n.kind) e in cc) ∙ object_inserted one_object (manifest_name 2) new_manifest

segment_there : object three_objects (segment_name 1) ≡ Some new_segment
segment_there = object_beside_insert two_objects (gate_name 2) [] (segment_name 1) (λ e. let clash = ap (λ (n : Name). n.kind) e in cc)
    ∙ object_beside_insert one_object (manifest_name 2) new_manifest (segment_name 1) (λ e. let clash = ap (λ (n : Name). n.kind) e in cc) ∙ object_inserted empty (segment_name 1) new_segment

none_beside : (name : Name) → name ≢ gate_name 2 → name ≢ manifest_name 2 → name ≢ segment_name 1 → object three_objects name ≡ None
none_beside name gate manifest segment = object_beside_insert two_objects (gate_name 2) [] name gate ∙ object_beside_insert one_object (manifest_name 2) new_manifest name manifest
    ∙ object_beside_insert empty (segment_name 1) new_segment name segment ∙ none_at_first name

no_other_gate : (number : ℕ) → 2 < number → object three_objects (gate_name number) ≡ None
no_other_gate number lt = none_beside (gate_name number) (λ e. let same : number ≡ 2 = ap (λ (n : Name). n.no) e in omega (arith, same, lt))
    (λ e. let clash = ap (λ (n : Name). n.kind) e in cc) (λ e. let clash = ap (λ (n : Name). n.kind) e in cc)

encodes_new : Encodes three_objects new_stored
encodes_new = record {
  greatest = (ap is_some (object_inserted two_objects (gate_name 2) []), no_other_gate);
  manifest = manifest_there ∙ ap Some new_manifest_spelled;
  parts = record {
    active = record { bytes = new_segment; there = segment_there; holds = subst (Holds 1 []) (sym new_segment_spelled) (holds_spelling 1 []) };
    frozen = tt;
    files = All-nil (HasObject three_objects);
  };
}

true≢false : true ≡ false → ⊥
true≢false e = cc

cited_alone : (name : Name) → IsSome (object three_objects name) → IsCited new_stored name ⊎ Contains (names_in []) name
cited_alone name here = elim (name_cases name (gate_name 2)) [
  | inl gate ↦ inl (inl gate)
  | inr no_gate ↦ elim (name_cases name (manifest_name 2)) [
    | inl manifest ↦ inl (inr (inl manifest))
    | inr no_manifest ↦ elim (name_cases name (segment_name 1)) [
      | inl segment ↦ inl (inr (inr (subst (λ n. Contains (part_names new_stored) n) (sym segment) (active_part new_stored))))
      | inr no_segment ↦ absurd (true≢false (sym here ∙ ap is_some (none_beside name no_gate no_manifest no_segment)))
    ]
  ]
]

pub is_new : (disk : Seen) → IsSynced disk → disk.directory ≡ three_objects → IsNew disk
is_new disk synced is = (
  record {
    synced = synced;
    coherent = empty_is_stored small 2 3 1 limits (omega arith) (omega arith) (omega arith);
    encodes = subst (λ d. Encodes d new_stored) (sym is) encodes_new;
  },
  subst (HasOnly new_stored []) (sym is) (record { only = cited_alone; there = All-nil (HasObject three_objects) }),
)

-- A page is written into it, and removed again

may_write : (disk : Seen) (written : List (Name × List ℕ)) → IsNew disk → written ≡ [] → MayWrite disk new_stored written 3
may_write disk written new none = record {
  settled = new.0;
  only = subst (λ l. HasOnly new_stored l disk.directory) (sym none) new.1;
  drawn = subst (λ l. AreDrawn 3 (names_in l)) (sym none) (record { each = All-nil (λ (n : Name). (n.kind ≡ Page) × (n.no < 3)); once = no_pairs (λ a b. a ≢ b) });
  later = omega arith;
}

pub may_remove : (old new : Seen) (written now : List (Name × List ℕ)) → IsNew old → written ≡ [] → (MayWrite old new_stored written 3 → IsSettled new new_stored × HasOnly new_stored now new.directory)
    → (IsCoherent new_stored → 3 ≤ 3 → AreUncited new_stored written → AreUncited new_stored now) → (AreDrawn 3 (names_in written) → AreDrawn (3 + 1) (names_in now)) → MayRemove new new_stored [] now
may_remove old new written now is none done loose drawn =
    let may = may_write old written is none in
    let after = done may in
    record {
      settled = after.0;
      only = after.1;
      uncited = loose is.0.coherent (omega arith) (subst (AreUncited new_stored) (sym none) (All-nil (λ (named : Name × List ℕ). IsCited new_stored named.0 → ⊥)));
      once = (drawn may.drawn).once;
    }
