-- A directory in which a step is done: the objects are written, the manifest is switched, and what isn't cited any more is removed.
use Rattle.std.proofs.Common.{◌≡◌, ◌≢◌, ◌⊎◌, inl, inr, ℕ, List, [], Some, None, true, false, refl, sym, ap, ◌∙◌, subst, arith}
use Rattle.std.specs.Prelude.{Contains, IsSome, is_some}
use Rattle.std.proofs.lemmas.List.Elements.{All-contains}
use Rattle.lethe_base.specs.declared.name.Kind.TheVariants as kinds
use Rattle.lethe_base.specs.declared.name.Name.{Name}
use Rattle.lethe_disk.specs.Directory.{Directory, object}
use Rattle.lethe_disk.proofs.Objects.{name_cases, object_removed, object_beside_remove}
use Rattle.lethe_manifest.specs.Manifests.{manifest_bytes}
use Rattle.lethe_commit.specs.Clear.{ArePresent, remove_all}
use Rattle.lethe_commit.specs.Gates.{gate_name}
use Rattle.lethe_commit.specs.Place.{name_of}
use Rattle.lethe_commit.specs.Switch.{manifest_name, IsSwitched, IsUnswitched, HasNew, placed, switched}
use Rattle.lethe_commit.proofs.Creations.{object_beside_all}
use Rattle.lethe_commit.proofs.Exchange.{beside_placed, placed_gate}
use Rattle.lethe_commit.proofs.Placing.{gate≢manifest, gate≢gate}
use Rattle.lethe_commit.proofs.Removals.{cleared_absent, cleared_others}
use Rattle.lethe_stored.specs.Stored.{Stored, IsCoherent, IsCited, part_names}
use Rattle.lethe_stored.specs.Encodes.{Encodes, AreSpare, HasObject}
use Rattle.lethe_stored.proofs.Frame.{none_of}
use Rattle.lethe_stored.proofs.Lists.{all_from, from_map}
use Rattle.lethe_stored.proofs.Parts.{object_part, part_kind}
use Rattle.lethe_stored.specs.Files.{objects_of}
use Rattle.lethe_stored.proofs.Steps.{switch_encodes}
use Rattle.lethe_advance.specs.declared.new_header.NewHeader.{NewHeader}
use Rattle.lethe_advance.specs.declared.step.Step.{Step}
use Rattle.lethe_advance.specs.Settled.{HasOnly, names_in}
use Rattle.lethe_advance.specs.Steps.{IsSettledBy, IsStep, IsUncited, WasThere}
use Rattle.lethe_advance.proofs.Names.{is_among, all_present}
use Rattle.lethe_advance.proofs.Placed.{part_there, written, names, older_below, still, part_stays, loose_stays, next_there, after}

true≢false : true ≡ false → ⊥
true≢false e = cc

module _ (s t : Stored) (loose left : List (Name × List ℕ)) (headers : List NewHeader) (step : Step) (coherent : IsCoherent s) (is : IsStep s loose t left headers step) where
  abbrev pub gone : List Name
  gone = step.gone.items

  uncited_at : (name : Name) → Contains gone name → IsUncited s loose t name
  uncited_at name there = All-contains (IsUncited s loose t) gone name is.gone there

  -- a page is neither gate nor manifest
  loose_kind : (named : Name × List ℕ) → Contains loose named → (named.0.kind ≢ kinds.Gate) × (named.0.kind ≢ kinds.Manifest)
  loose_kind named among = (no_gate, no_manifest)
    where
      page : named.0.kind ≡ kinds.Page
      page = All-contains (λ (other : Name × List ℕ). other.0.kind ≡ kinds.Page) loose named is.loose_pages among

      no_gate : named.0.kind ≢ kinds.Gate
      no_gate k = let clash : kinds.Page ≡ kinds.Gate = sym page ∙ k in cc

      no_manifest : named.0.kind ≢ kinds.Manifest
      no_manifest k = let clash : kinds.Page ≡ kinds.Manifest = sym page ∙ k in cc

  old_kind : (name : Name) → Contains (part_names s) name ⊎ Contains (names_in loose) name → (name.kind ≢ kinds.Gate) × (name.kind ≢ kinds.Manifest)
  old_kind name (inl part) = part_kind s name part
  old_kind name (inr among) =
      let found = from_map (λ (named : Name × List ℕ). named.0) loose name among in
      subst (λ (n : Name). (n.kind ≢ kinds.Gate) × (n.kind ≢ kinds.Manifest)) found.2 (loose_kind found.0 found.1)

  pub gone_spare : AreSpare t gone
  gone_spare name there = record {
    uncited = uncited;
    no_gate = λ k lt same. kind.0 (ap (λ (x : Name). x.kind) same);
  }
    where
      out : IsUncited s loose t name
      out = uncited_at name there

      kind : (name.kind ≢ kinds.Gate) × (name.kind ≢ kinds.Manifest)
      kind = old_kind name out.0

      uncited : IsCited t name → ⊥
      uncited (inl gate) = kind.0 (ap (λ (x : Name). x.kind) gate)
      uncited (inr (inl manifest)) = kind.1 (ap (λ (x : Name). x.kind) manifest)
      uncited (inr (inr part)) = out.1 part

  module _ (d : Directory) (only : HasOnly s loose d) (e : Encodes d s) where
    abbrev made : Directory
    made = after s t loose left headers step coherent is d only e

    -- what a switch leaves
    pub switch_left : (c : Directory) → IsSwitched t.manifest.no (manifest_bytes t.manifest) (Some s.manifest.no) made c → Encodes c s ⊎ Encodes c t
    switch_left c came = switch_encodes s t made c (still s t loose left headers step coherent is d only e) (next_there s t loose left headers step coherent is d only e) (older_below s t loose left headers step coherent is) came

    -- and what it leaves where the new gate is there
    pub switch_new : (c : Directory) → IsSwitched t.manifest.no (manifest_bytes t.manifest) (Some s.manifest.no) made c → HasNew t.manifest.no (manifest_bytes t.manifest) c → Encodes c t
    switch_new c came new = elim (switch_left c came) [
      | inl old ↦ absurd (true≢false (sym new.greatest_gate.0 ∙ ap is_some (old.greatest.1 t.manifest.no (older_below s t loose left headers step coherent is))))
      | inr next ↦ next
    ]

    -- and what it leaves where the new gate never came
    pub switch_old : (c : Directory) → IsUnswitched t.manifest.no made c → Encodes c s
    switch_old c un = elim (switch_left c (inl un)) [
      | inl old ↦ old
      | inr next ↦ absurd (true≢false (sym next.greatest.0 ∙ ap is_some un.no_gate))
    ]

    module _ (now : Directory) (done : now ≡ switched t.manifest.no (manifest_bytes t.manifest) (Some s.manifest.no) made) where
      -- an object beside all that was switched
      beside_all : (name : Name) → name ≢ manifest_name t.manifest.no → name ≢ gate_name t.manifest.no → name ≢ gate_name s.manifest.no → name ≢ manifest_name s.manifest.no → object now name ≡ object made name
      beside_all name a b x y = ap (λ z. object z name) done ∙ object_beside_remove _ (manifest_name s.manifest.no) name y ∙ object_beside_remove (placed t.manifest.no (manifest_bytes t.manifest) made) (gate_name s.manifest.no) name x
          ∙ beside_placed t.manifest.no (manifest_bytes t.manifest) made name (a, (b, tt))

      other_kind : (name : Name) → (name.kind ≢ kinds.Gate) × (name.kind ≢ kinds.Manifest) → object now name ≡ object made name
      other_kind name kind = beside_all name (λ k. kind.1 (ap (λ (x : Name). x.kind) k)) (λ k. kind.0 (ap (λ (x : Name). x.kind) k)) (λ k. kind.0 (ap (λ (x : Name). x.kind) k)) (λ k. kind.1 (ap (λ (x : Name). x.kind) k))

      -- what was cited or lay beside that is there
      old_there : (name : Name) → Contains (part_names s) name ⊎ Contains (names_in loose) name → IsSome (object now name)
      old_there name (inl part) = ap is_some (other_kind name (part_kind s name part) ∙ part_stays s t loose left headers step coherent is d only e name part) ∙ part_there d s name e.parts part
      old_there name (inr among) =
          let found = from_map (λ (named : Name × List ℕ). named.0) loose name among in
          subst (λ n. IsSome (object now n)) found.2 (ap is_some (other_kind found.0.0 (loose_kind found.0 found.1)
          ∙ loose_stays s t loose left headers step coherent is d only e found.0 found.1 ∙ All-contains (HasObject d) loose found.0 only.there found.1))

      pub gone_present : ArePresent gone now
      gone_present = all_present gone now is.gone_once (λ name there. old_there name (uncited_at name there).0)

      gate_gone : object now (gate_name s.manifest.no) ≡ None
      gate_gone = ap (λ z. object z (gate_name s.manifest.no)) done ∙ object_beside_remove _ (manifest_name s.manifest.no) (gate_name s.manifest.no) (gate≢manifest s.manifest.no s.manifest.no)
          ∙ object_removed (placed t.manifest.no (manifest_bytes t.manifest) made) (gate_name s.manifest.no)

      manifest_gone : object now (manifest_name s.manifest.no) ≡ None
      manifest_gone = ap (λ z. object z (manifest_name s.manifest.no)) done ∙ object_removed _ (manifest_name s.manifest.no)

      abbrev pub cleared : Directory
      cleared = remove_all gone now

      pub part_kept : (name : Name) → Contains (part_names t) name → object cleared name ≡ object made name
      part_kept name part = cleared_others gone now name (none_of gone name (λ there. (uncited_at name there).1 part)) ∙ other_kind name (part_kind t name part)

      -- the new gate is empty, and nothing that goes is the gate
      pub gate_kept : object cleared (gate_name t.manifest.no) ≡ Some []
      gate_kept =
          let below = older_below s t loose left headers step coherent is in
          cleared_others gone now (gate_name t.manifest.no) (none_of gone (gate_name t.manifest.no) (λ there. (gone_spare (gate_name t.manifest.no) there).uncited (inl refl)))
          ∙ ap (λ z. object z (gate_name t.manifest.no)) done ∙ object_beside_remove _ (manifest_name s.manifest.no) (gate_name t.manifest.no) (gate≢manifest t.manifest.no s.manifest.no)
          ∙ object_beside_remove (placed t.manifest.no (manifest_bytes t.manifest) made) (gate_name s.manifest.no) (gate_name t.manifest.no) (gate≢gate t.manifest.no s.manifest.no (λ e. omega (arith, e, below)))
          ∙ placed_gate t.manifest.no (manifest_bytes t.manifest) made

      abbrev IsCitedOrLeft : Name → Type 0
      IsCitedOrLeft name = IsCited t name ⊎ Contains (names_in left) name

      module _ (name : Name) (there : IsSome (object cleared name)) where
        isn't_gone : object cleared name ≡ None → ⊥
        isn't_gone none = true≢false (sym there ∙ ap is_some none)

        not_gone : Contains gone name → ⊥
        not_gone among = isn't_gone (cleared_absent gone among.0 name now among.1 (sym among.2))

        there_now : IsSome (object now name)
        there_now = sym (ap is_some (cleared_others gone now name (none_of gone name not_gone))) ∙ there

        not_gate : name ≢ gate_name s.manifest.no
        not_gate same = true≢false (sym there_now ∙ ap is_some (ap (object now) same ∙ gate_gone))

        not_manifest : name ≢ manifest_name s.manifest.no
        not_manifest same = true≢false (sym there_now ∙ ap is_some (ap (object now) same ∙ manifest_gone))

        settled_by : IsSettledBy step t left name → IsCitedOrLeft name
        settled_by (inl next) = inl (inr (inr next))
        settled_by (inr (inl out)) = absurd (not_gone out)
        settled_by (inr (inr stays)) = inr stays

        from_cited : IsCited s name → IsCitedOrLeft name
        from_cited (inl gate) = absurd (not_gate gate)
        from_cited (inr (inl manifest)) = absurd (not_manifest manifest)
        from_cited (inr (inr part)) = settled_by (All-contains (IsSettledBy step t left) (part_names s) name is.stays part)

        from_loose : Contains (names_in loose) name → IsCitedOrLeft name
        from_loose among =
            let found = from_map (λ (named : Name × List ℕ). named.0) loose name among in
            let taken = All-contains (λ (named : Name × List ℕ). IsSettledBy step t left named.0) loose found.0 is.taken found.1 in
            settled_by (subst (IsSettledBy step t left) found.2 taken)

        from_old : IsSome (object d name) → IsCitedOrLeft name
        from_old here = elim (only.only name here) [ inl cited ↦ from_cited cited | inr among ↦ from_loose among ]

        from_made : IsSome (object made name) → IsCitedOrLeft name
        from_made here = elim (is_among (names s t loose left headers step coherent is) name) [
          | inl among ↦
              let found = from_map name_of (written s t loose left headers step coherent is) name among in
              inl (inr (inr (subst (Contains (part_names t)) found.2 (All-contains (λ m. Contains (part_names t) m.name) step.objects.items found.0 is.cited found.1))))
          | inr out ↦ from_old (sym (ap is_some (object_beside_all step.objects.items d name (none_of (names s t loose left headers step coherent is) name out))) ∙ here)
        ]

        known_next : IsCitedOrLeft name
        known_next = elim (name_cases name (gate_name t.manifest.no)) [
          | inl gate ↦ inl (inl gate)
          | inr ne_gate ↦ elim (name_cases name (manifest_name t.manifest.no)) [
            | inl manifest ↦ inl (inr (inl manifest))
            | inr ne_manifest ↦ from_made (sym (ap is_some (beside_all name ne_manifest ne_gate not_gate not_manifest)) ∙ there_now)
          ]
        ]

      -- an object that is left has the bytes that it had
      made_there : (named : Name × List ℕ) → WasThere s loose named → HasObject made named
      made_there named (inl among) = loose_stays s t loose left headers step coherent is d only e named among ∙ All-contains (HasObject d) loose named only.there among
      made_there named (inr old) = All-contains (HasObject made) (objects_of s.files) named ((still s t loose left headers step coherent is d only e).parts).files old

      was_kind : (named : Name × List ℕ) → WasThere s loose named → (named.0.kind ≢ kinds.Gate) × (named.0.kind ≢ kinds.Manifest)
      was_kind named (inl among) = loose_kind named among
      was_kind named (inr old) = part_kind s named.0 (object_part s named old)

      left_there : (named : Name × List ℕ) → Contains left named → HasObject cleared named
      left_there named among =
          let was = All-contains (WasThere s loose) left named is.left_there among in
          cleared_others gone now named.0 (none_of gone named.0 (All-contains (λ (other : Name × List ℕ). Contains gone other.0 → ⊥) left named is.left_stays among))
          ∙ other_kind named.0 (was_kind named was) ∙ made_there named was

      pub only_next : HasOnly t left cleared
      only_next = record { only = known_next; there = all_from (HasObject cleared) left left_there }
