-- The images of a disk while an empty store is made on it.
use Rattle.std.proofs.Common.{◌≡◌, ◌≢◌, ◌⊎◌, inl, inr, ℕ, List, [], Option, Some, None, true, false, refl, sym, ap, ◌∙◌, subst, arith}
use Rattle.std.specs.Prelude.{Contains, IsSome, is_some}
use Rattle.std.specs.FinMap.{insert, keys}
use Rattle.lethe_base.specs.Configuration.{IsConfig}
use Rattle.lethe_base.specs.declared.config.Fields.{Fields}
use Rattle.lethe_base.specs.declared.name.Name.{Name}
use Rattle.lethe_disk.specs.Directory.{Directory, object, IsCreated}
use Rattle.lethe_disk.specs.Disk.{Seen, Image, IsSynced}
use Rattle.lethe_disk.specs.Runs.{Leads}
use Rattle.lethe_disk.proofs.Objects.{name_cases, object_inserted, object_beside_insert, same_directory}
use Rattle.lethe_segment.specs.Segments.{segment_bytes}
use Rattle.lethe_segment.proofs.Runs.{holds_spelling}
use Rattle.lethe_manifest.specs.Manifests.{HasSpelling, manifest_bytes}
use Rattle.lethe_commit.specs.Clear.{ArePresent, IsCleared, remove_all}
use Rattle.lethe_commit.specs.Gates.{gate_name}
use Rattle.lethe_commit.specs.Switch.{manifest_name, HasGreatest, IsFree, HasNew, IsSwitched, switched}
use Rattle.lethe_commit.proofs.Exchange.{beside_placed, placed_gate}
use Rattle.lethe_commit.proofs.Listed.{listed}
use Rattle.lethe_commit.proofs.Removals.{all_absent, cleared_absent}
use Rattle.lethe_stored.specs.Stored.{Stored, IsCited, IsCoherent, segment_name, part_names}
use Rattle.lethe_stored.specs.Encodes.{Encodes, HasParts, HasObject}
use Rattle.lethe_disk.specs.Goes.{Goes}
use Rattle.lethe_advance.specs.Settled.{IsSettled, HasOnly}
use Rattle.lethe_advance.specs.Untorn.{IsUntorn}
use Rattle.lethe_recover.specs.New.{first_manifest, new_stored}
use Rattle.lethe_stored.proofs.Frame.{gate≢segment, manifest≢segment}
use Rattle.std.proofs.lemmas.List.Elements.{All-nil}
use Rattle.lethe_stored.proofs.Parts.{active_part}
use Rattle.lethe_stored.proofs.Firsts.{empty_is_stored}
use Rattle.lethe_stored.proofs.Steps.{first_switch_encodes}
use Rattle.lethe_recover.proofs.Uncited.{all_present, apart_keys}
use Rattle.lethe_recover.proofs.Untorn.{one_untorn}
use Rattle.lethe_disk.proofs.Going.{goes_leads}

true≢false : true ≡ false → ⊥
true≢false e = cc

-- Everything goes

pub everything_present : (d : Directory) → ArePresent (keys d) d
everything_present d = all_present (keys d) d (apart_keys d) (λ name there. (listed d name).0 there)

pub everything_gone : (d : Directory) (name : Name) → object (remove_all (keys d) d) name ≡ None
everything_gone d name = by (object d name) refl
  where
    by : (o : Option (List ℕ)) → object d name ≡ o → object (remove_all (keys d) d) name ≡ None
    by None none = all_absent (keys d) d name none
    by (Some b) some = let there = (listed d name).1 (ap is_some some) in cleared_absent (keys d) there.0 name d there.1 (sym there.2)

pub cleared_none : (names : List Name) (d c : Directory) → HasGreatest None d → IsCleared names d c → HasGreatest None c
cleared_none names d c none cleared k = elim (cleared.either (gate_name k)) [
  | inl gone ↦ gone
  | inr same ↦ same ∙ none k
]

-- The new store

pub first_spelled : (config : Fields) → IsConfig config → HasSpelling (first_manifest config)
first_spelled config limits = (empty_is_stored config 2 3 1 limits (omega arith) (omega arith) (omega arith)).spelled

module _ (config : Fields) (limits : IsConfig config) where
  abbrev pub t : Stored
  t = new_stored config

  pub new_is_coherent : IsCoherent t
  new_is_coherent = empty_is_stored config 2 3 1 limits (omega arith) (omega arith) (omega arith)

  abbrev Either : Directory → Type 0
  Either c = HasGreatest None c ⊎ Encodes c t

  module _ (s1 : Seen) (synced : IsSynced s1) (nothing : (name : Name) → object s1.directory name ≡ None) (s2 : Seen) (placing : Leads (IsCreated (segment_name 1)) s1 s2) where
    pub place_none : Goes (HasGreatest None) s1 s2
    place_none = goes_leads (HasGreatest None) (IsCreated (segment_name 1)) s1 s2 placing (λ d c here made k.
        made.others (gate_name k) (gate≢segment k 1) ∙ ap (λ x. object x (gate_name k)) (synced d here) ∙ nothing (gate_name k))

    module _ (placed_synced : IsSynced s2) (done : s2.directory ≡ insert s1.directory (segment_name 1) (segment_bytes 1 [])) where
      beside_new : (name : Name) → name ≢ segment_name 1 → object s2.directory name ≡ None
      beside_new name ne = ap (λ x. object x name) done ∙ object_beside_insert s1.directory (segment_name 1) (segment_bytes 1 []) name ne ∙ nothing name

      no_gates : HasGreatest None s2.directory
      no_gates k = beside_new (gate_name k) (gate≢segment k 1)

      parts : HasParts s2.directory t
      parts = record {
        active = record {
          bytes = segment_bytes 1 [];
          there = ap (λ x. object x (segment_name 1)) done ∙ object_inserted s1.directory (segment_name 1) (segment_bytes 1 []);
          holds = holds_spelling 1 [];
        };
        frozen = tt;
        files = All-nil (HasObject s2.directory);
      }

      pub free_new : IsFree s2 2 None
      free_new = record {
        no_manifest = λ c here. ap (λ x. object x (manifest_name 2)) (placed_synced c here) ∙ beside_new (manifest_name 2) (manifest≢segment 2 1);
        no_gate = λ c here other above. ap (λ x. object x (gate_name other)) (placed_synced c here) ∙ no_gates other;
        greatest_gate = λ c here k. ap (λ x. object x (gate_name k)) (placed_synced c here) ∙ no_gates k;
      }

      switched_either : (c : Directory) → IsSwitched 2 (manifest_bytes (first_manifest config)) None s2.directory c → Either c
      switched_either c left = first_switch_encodes t s2.directory c no_gates parts left

      module _ (s3 : Seen) (switching : Leads (IsSwitched 2 (manifest_bytes (first_manifest config)) None) s2 s3) where
        pub switch_either : Goes Either s2 s3
        switch_either = goes_leads Either (IsSwitched 2 (manifest_bytes (first_manifest config)) None) s2 s3 switching (λ d c here left.
            switched_either c (subst (λ x. IsSwitched 2 (manifest_bytes (first_manifest config)) None x c) (placed_synced d here) left))

        module _ (new : (c : Directory) → Image s3 c → HasNew 2 (manifest_bytes (first_manifest config)) c) where
          pub image_new : (c : Directory) → Image s3 c → Encodes c t
          image_new c here =
              let d = switching.each s3.moment c switching.later (omega arith) here in
              elim (switched_either c (subst (λ x. IsSwitched 2 (manifest_bytes (first_manifest config)) None x c) (placed_synced d.0 d.1) d.2)) [
                | inl none ↦ absurd (true≢false (sym (new c here).greatest_gate.0 ∙ ap is_some (none 2)))
                | inr made ↦ made
              ]

          module _ (s4 : Seen) (clearing : Leads (IsCleared []) s3 s4) where
            pub clear_new : Goes Either s3 s4
            clear_new = goes_leads Either (IsCleared []) s3 s4 clearing (λ e c here cleared. inr (subst (λ x. Encodes x t) (same_all e c cleared) (image_new e here)))
              where
                same_all : (e c : Directory) → IsCleared [] e c → e ≡ c
                same_all e c cleared = sym (same_directory c e (λ name. cleared.others name tt))

            pub settled_new : Image s3 s3.directory → s3.directory ≡ switched 2 (manifest_bytes (first_manifest config)) None s2.directory → s4.directory ≡ s3.directory → IsSynced s4
                → IsSettled s4 t × HasOnly t [] s4.directory × IsUntorn t s4.directory
            settled_new here switched_is cleared_is synced_now = (
              record { synced = synced_now; coherent = new_is_coherent; encodes = subst (λ x. Encodes x t) (sym cleared_is) (image_new s3.directory here) },
              subst (HasOnly t []) (sym cleared_is) (record { only = λ name there. inl (only name there); there = All-nil (HasObject s3.directory) }),
              one_untorn t s4.directory refl (ap (λ x. object x (gate_name 2)) (cleared_is ∙ switched_is) ∙ placed_gate 2 (manifest_bytes (first_manifest config)) s2.directory) plain,
            )
              where
                plain : object s4.directory (segment_name 1) ≡ Some (segment_bytes 1 [])
                plain =
                    ap (λ x. object x (segment_name 1)) (cleared_is ∙ switched_is)
                    ∙ beside_placed 2 (manifest_bytes (first_manifest config)) s2.directory (segment_name 1) ((λ k. manifest≢segment 2 1 (sym k)), ((λ k. gate≢segment 2 1 (sym k)), tt))
                    ∙ ap (λ x. object x (segment_name 1)) done ∙ object_inserted s1.directory (segment_name 1) (segment_bytes 1 [])

                only : (name : Name) → IsSome (object s3.directory name) → IsCited t name
                only name there = elim (name_cases name (gate_name 2)) [
                  | inl is_gate ↦ inl is_gate
                  | inr ne_gate ↦ elim (name_cases name (manifest_name 2)) [
                    | inl is_manifest ↦ inr (inl is_manifest)
                    | inr ne_manifest ↦ elim (name_cases name (segment_name 1)) [
                      | inl is_segment ↦ inr (inr (subst (Contains (part_names t)) (sym is_segment) (active_part t)))
                      | inr ne_segment ↦ absurd (true≢false (sym there ∙ ap is_some (ap (λ x. object x name) switched_is ∙ beside_placed 2 (manifest_bytes (first_manifest config)) s2.directory name (ne_manifest, (ne_gate, tt)) ∙ beside_new name ne_segment)))
                    ]
                  ]
                ]
