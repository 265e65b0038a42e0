-- The images of a disk through a step.
use Rattle.std.proofs.Common.{◌≡◌, ◌≤◌, ◌+◌, ◌⊎◌, ℕ, inl, inr, List, [], length, map, take, Some, refl, sym, ap, ◌∙◌, subst, arith}
use Rattle.std.specs.Prelude.{All, Contains, IsSome, is_some}
use Rattle.std.proofs.lemmas.List.{take_all}
use Rattle.lethe_base.specs.declared.name.Name.{Name}
use Rattle.lethe_disk.specs.Directory.{Directory, object, SameBeside}
use Rattle.lethe_disk.specs.Disk.{Seen, Image, IsSynced}
use Rattle.lethe_disk.specs.Goes.{Goes}
use Rattle.lethe_disk.specs.Runs.{Leads}
use Rattle.lethe_disk.proofs.Going.{goes_leads, goes_then, goes_weaker}
use Rattle.lethe_manifest.specs.Manifests.{manifest_bytes}
use Rattle.lethe_manifest.specs.declared.manifest.Manifest.{Manifest}
use Rattle.lethe_commit.specs.declared.objects.Object.{Object}
use Rattle.lethe_commit.specs.Clear.{ArePresent, IsCleared, remove_all}
use Rattle.lethe_commit.specs.Place.{AreAbsent, name_of, insert_all}
use Rattle.lethe_commit.specs.Gates.{gate_name}
use Rattle.lethe_commit.specs.Switch.{IsFree, IsSwitched, IsUnswitched, HasNew, IsTakenBack, manifest_name, switched}
use Rattle.lethe_commit.proofs.Creations.{all_present, taken_back}
use Rattle.lethe_commit.proofs.Removals.{cleared_others}
use Rattle.lethe_stored.specs.Stored.{Stored, part_names}
use Rattle.lethe_stored.specs.Encodes.{Encodes, HasParts}
use Rattle.lethe_stored.proofs.Frame.{besides}
use Rattle.lethe_advance.specs.declared.new_header.NewHeader.{NewHeader}
use Rattle.lethe_advance.specs.declared.step.Step.{Step}
use Rattle.lethe_advance.specs.Settled.{IsSettled, HasOnly}
use Rattle.lethe_advance.specs.Shown.{HasPages, new_parts_at}
use Rattle.lethe_advance.specs.Steps.{MayAdvance}
use Rattle.lethe_advance.proofs.Opened.{new_stored, headers_present, headers_opened}
use Rattle.lethe_advance.proofs.Placed.{written_spare, written_absent, still, next_there, is_free}
use Rattle.lethe_advance.proofs.Switched.{gone_spare, switch_left, switch_new, switch_old, gone_present, gate_kept, part_kept, only_next}

module _ (s t : Stored) (loose left : List (Name × List ℕ)) (headers : List NewHeader) (step : Step) (s0 : Seen) (may : MayAdvance s0 s loose t left headers step) where
  abbrev pub Either : Directory → Type 0
  Either c = Encodes c s ⊎ Encodes c t

  abbrev pub Before : Directory → Type 0
  Before c = Encodes c s

  -- by the manifest of the step, and by the one that is stored next
  abbrev Exchanges : Directory → Directory → Type 0
  Exchanges = IsSwitched step.manifest.no (manifest_bytes step.manifest) (Some s.manifest.no)

  abbrev Switches : Directory → Directory → Type 0
  Switches = IsSwitched t.manifest.no (manifest_bytes t.manifest) (Some s.manifest.no)

  -- the manifest that the step names as the older one is what counts
  pub exchanges_from : (a b : Seen) → Leads (IsSwitched step.manifest.no (manifest_bytes step.manifest) (Some step.older)) a b → Leads Exchanges a b
  exchanges_from a b run = subst (λ (k : ℕ). Leads (IsSwitched step.manifest.no (manifest_bytes step.manifest) (Some k)) a b) may.step_is.older run

  pub switched_from : (a b : Directory) → b ≡ switched step.manifest.no (manifest_bytes step.manifest) (Some step.older) a → b ≡ switched step.manifest.no (manifest_bytes step.manifest) (Some s.manifest.no) a
  switched_from a b is = subst (λ (k : ℕ). b ≡ switched step.manifest.no (manifest_bytes step.manifest) (Some k) a) may.step_is.older is

  as_next : (d c : Directory) → Exchanges d c → Switches d c
  as_next d c came = subst (λ (m : Manifest). IsSwitched m.no (manifest_bytes m) (Some s.manifest.no) d c) may.step_is.manifest came

  module _ (objects : List Object) (same : objects ≡ step.objects.items) where
    pub absent_before : AreAbsent objects s0.directory
    absent_before = subst (λ l. AreAbsent l s0.directory) (sym same) (written_absent s t loose left headers step may.settled.coherent may.step_is s0.directory may.only)

    beside_spare : (d c : Directory) → Encodes d s → SameBeside (map name_of objects) d c → Encodes c s
    beside_spare d c e others = besides s d c (map name_of step.objects.items) e (written_spare s t loose left headers step may.settled.coherent may.step_is) (subst (λ l. SameBeside (map name_of l) d c) same others)

    module _ (s1 : Seen) (placing : Leads (SameBeside (map name_of objects)) s0 s1) where
      pub place_still : Goes Before s0 s1
      place_still = goes_leads Before (SameBeside (map name_of objects)) s0 s1 placing (λ d c here others. beside_spare d c (subst (λ x. Encodes x s) (sym (may.settled.synced d here)) may.settled.encodes) others)

      pub place_moments : Goes Either s0 s1
      place_moments = goes_weaker Before Either s0 s1 (λ c e. inl e) place_still

      -- up to the end of the writing, it leaves what was stored
      pub early_placed : (moment : ℕ) (c : Directory) → s0.moment ≤ moment → moment ≤ s1.moment → s1.left moment c → Encodes c s
      early_placed moment c low high left =
          let d = placing.each moment c low high left in
          beside_spare d.0 c (subst (λ x. Encodes x s) (sym (may.settled.synced d.0 d.1)) may.settled.encodes) d.2

      module _ (calls : s0.moment + length objects ≤ s1.moment) (R : Directory → Directory → Type 0) (s2 : Seen) (exchanging : Leads R s1 s2) where
        is_early : (moment : ℕ) → moment ≤ s0.moment + length step.objects.items → moment ≤ s1.moment
        is_early moment few = let as_many = ap length same in omega (arith, calls, few, as_many)

        pub early_exchanged : (moment : ℕ) (c : Directory) → s0.moment ≤ moment → moment ≤ s0.moment + length step.objects.items → s2.left moment c → Encodes c s
        early_exchanged moment c low few left = early_placed moment c low (is_early moment few) ((exchanging.past moment c (is_early moment few)).0 left)

        pub early_behind : (Q : Directory → Directory → Type 0) (s3 : Seen) → Leads Q s2 s3 → (moment : ℕ) (c : Directory) → s0.moment ≤ moment → moment ≤ s0.moment + length step.objects.items → s3.left moment c → Encodes c s
        early_behind Q s3 behind moment c low few left =
            let soon = is_early moment few in
            let later = exchanging.later in
            early_exchanged moment c low few ((behind.past moment c (omega (arith, soon, later))).0 left)

      module _ (synced : IsSynced s1) (done : s1.directory ≡ insert_all objects s0.directory) where
        placed : s1.directory ≡ insert_all step.objects.items s0.directory
        placed = done ∙ ap (λ l. insert_all l s0.directory) same

        still_placed : Encodes s1.directory s
        still_placed = subst (λ d. Encodes d s) (sym placed) (still s t loose left headers step may.settled.coherent may.step_is s0.directory may.only may.settled.encodes)

        next_placed : HasParts s1.directory t
        next_placed = subst (λ d. HasParts d t) (sym placed) (next_there s t loose left headers step may.settled.coherent may.step_is s0.directory may.only may.settled.encodes)

        pub free_placed : IsFree s1 step.manifest.no (Some step.older)
        free_placed = subst (λ (k : ℕ). IsFree s1 step.manifest.no (Some k)) (sym may.step_is.older)
            (subst (λ (m : Manifest). IsFree s1 m.no (Some s.manifest.no)) (sym may.step_is.manifest) (is_free s t loose left headers step may.settled.coherent may.step_is s0.directory may.only may.settled.encodes s1 synced placed))

        pub older_placed : IsSome (object s1.directory (manifest_name step.older))
        older_placed = subst (λ (k : ℕ). IsSome (object s1.directory (manifest_name k))) (sym may.step_is.older) (ap is_some still_placed.manifest)

        pub pages_placed : All (λ new. HasPages s1.directory new.header) headers
        pages_placed = headers_present s t loose left headers step may.step_is s1.directory next_placed

        pub opened_placed : map (new_parts_at s1.directory) headers ≡ map new_stored may.step_is.added
        opened_placed = headers_opened s t loose left headers step may.step_is s1.directory next_placed

        image_left : (d c : Directory) → Image s1 d → Exchanges d c → Switches (insert_all step.objects.items s0.directory) c
        image_left d c here came = as_next (insert_all step.objects.items s0.directory) c (subst (λ x. Exchanges x c) (synced d here ∙ placed) came)

        -- where the new gate never came, it leaves what was stored
        image_old : (d c : Directory) → Image s1 d → IsUnswitched step.manifest.no d c → Encodes c s
        image_old d c here un = switch_old s t loose left headers step may.settled.coherent may.step_is s0.directory may.only may.settled.encodes c
            (subst (λ (m : Manifest). IsUnswitched m.no (insert_all step.objects.items s0.directory) c) may.step_is.manifest (subst (λ x. IsUnswitched step.manifest.no x c) (synced d here ∙ placed) un))

        pub exchange_still : (s2 : Seen) → Leads (IsUnswitched step.manifest.no) s1 s2 → Goes Before s0 s2
        exchange_still s2 unswitched = goes_then Before s0 s1 s2 place_still (goes_leads Before (IsUnswitched step.manifest.no) s1 s2 unswitched image_old)

        module _ (s2 : Seen) (exchanging : Leads Exchanges s1 s2) where
          pub exchange_moments : Goes Either s0 s2
          exchange_moments = goes_then Either s0 s1 s2 place_moments (goes_leads Either Exchanges s1 s2 exchanging (λ d c here came.
              switch_left s t loose left headers step may.settled.coherent may.step_is s0.directory may.only may.settled.encodes c (image_left d c here came)))

          -- Taken back

          module _ (back : IsTakenBack s1 s2) where
            all : s2.directory ≡ insert_all (take (length objects) objects) s0.directory
            all = back.directory ∙ done ∙ ap (λ l. insert_all l s0.directory) (sym (take_all (length objects) objects (omega arith)))

            pub present_again : ArePresent (map name_of objects) s2.directory
            present_again = subst (λ l. ArePresent (map name_of l) s2.directory) (take_all (length objects) objects (omega arith)) (all_present objects (length objects) s0 s2 absent_before all)

            removing_still : (s3 : Seen) → Leads (IsCleared (map name_of objects)) s2 s3 → Goes Before s2 s3
            removing_still s3 removing = goes_leads Before (IsCleared (map name_of objects)) s2 s3 removing (λ d c here came.
                beside_spare d c (subst (λ x. Encodes x s) (sym (synced d (back.images d here))) still_placed) came.others)

            pub removal_moments : (s3 : Seen) → Leads (IsCleared (map name_of objects)) s2 s3 → Goes Either s0 s3
            removal_moments s3 removing = goes_then Either s0 s2 s3 exchange_moments (goes_weaker Before Either s2 s3 (λ c e. inl e) (removing_still s3 removing))

            pub removal_still : (s3 : Seen) → Leads (IsCleared (map name_of objects)) s2 s3 → Leads (IsUnswitched step.manifest.no) s1 s2 → Goes Before s0 s3
            removal_still s3 removing unswitched = goes_then Before s0 s2 s3 (exchange_still s2 unswitched) (removing_still s3 removing)

            pub back_again : (s3 : Seen) → Image s0 s0.directory → s3.directory ≡ remove_all (map name_of objects) s2.directory → IsSynced s3 → IsTakenBack s0 s3
            back_again s3 here removed synced_again = taken_back objects (length objects) s0 s2 absent_before all s3 s3 here
                (removed ∙ ap (λ l. remove_all (map name_of l) s2.directory) (sym (take_all (length objects) objects (omega arith)))) refl synced_again

          -- Done

          module _ (new : (c : Directory) → Image s2 c → HasNew step.manifest.no (manifest_bytes step.manifest) c)
              (switched_is : s2.directory ≡ switched step.manifest.no (manifest_bytes step.manifest) (Some s.manifest.no) s1.directory) (gone : List Name) (gone_is : gone ≡ step.gone.items) where
            from_placed : s2.directory ≡ switched t.manifest.no (manifest_bytes t.manifest) (Some s.manifest.no) (insert_all step.objects.items s0.directory)
            from_placed = subst (λ (m : Manifest). s2.directory ≡ switched m.no (manifest_bytes m) (Some s.manifest.no) (insert_all step.objects.items s0.directory)) may.step_is.manifest
                (switched_is ∙ ap (switched step.manifest.no (manifest_bytes step.manifest) (Some s.manifest.no)) placed)

            image_new : (c : Directory) → Image s2 c → Encodes c t
            image_new c here =
                let d = exchanging.each s2.moment c exchanging.later (omega arith) here in
                switch_new s t loose left headers step may.settled.coherent may.step_is s0.directory may.only may.settled.encodes c (image_left d.0 c d.1 d.2) (subst (λ (m : Manifest). HasNew m.no (manifest_bytes m) c) may.step_is.manifest (new c here))

            beside_gone : (d c : Directory) → Encodes d t → SameBeside gone d c → Encodes c t
            beside_gone d c e others = besides t d c step.gone.items e (gone_spare s t loose left headers step may.settled.coherent may.step_is) (subst (λ l. SameBeside l d c) gone_is others)

            pub present_placed : ArePresent gone s2.directory
            present_placed = subst (λ l. ArePresent l s2.directory) (sym gone_is) (gone_present s t loose left headers step may.settled.coherent may.step_is s0.directory may.only may.settled.encodes s2.directory from_placed)

            module _ (s3 : Seen) (clearing : Leads (IsCleared gone) s2 s3) where
              pub clear_moments : Goes Either s0 s3
              clear_moments = goes_then Either s0 s2 s3 exchange_moments (goes_leads Either (IsCleared gone) s2 s3 clearing (λ d c here came. inr (beside_gone d c (image_new d here) came.others)))

              module _ (cleared_is : s3.directory ≡ remove_all gone s2.directory) where
                clear_is : s3.directory ≡ remove_all step.gone.items s2.directory
                clear_is = cleared_is ∙ ap (λ l. remove_all l s2.directory) gone_is

                pub settled_next : Image s2 s2.directory → IsSynced s3 → IsSettled s3 t × HasOnly t left s3.directory
                settled_next here synced_now = (
                  record {
                    synced = synced_now;
                    coherent = may.step_is.coherent;
                    encodes = beside_gone s2.directory s3.directory (image_new s2.directory here) (λ name none. ap (λ x. object x name) cleared_is ∙ cleared_others gone s2.directory name none);
                  },
                  subst (HasOnly t left) (sym clear_is) (only_next s t loose left headers step may.settled.coherent may.step_is s0.directory may.only may.settled.encodes s2.directory from_placed),
                )

                pub kept_next : (name : Name) → Contains (part_names t) name → object s3.directory name ≡ object (insert_all step.objects.items s0.directory) name
                kept_next name part = ap (λ x. object x name) clear_is ∙ part_kept s t loose left headers step may.settled.coherent may.step_is s0.directory may.only may.settled.encodes s2.directory from_placed name part

                pub gate_next : object s3.directory (gate_name t.manifest.no) ≡ Some []
                gate_next = ap (λ x. object x (gate_name t.manifest.no)) clear_is ∙ gate_kept s t loose left headers step may.settled.coherent may.step_is s0.directory may.only may.settled.encodes s2.directory from_placed
