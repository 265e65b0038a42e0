-- The images of a disk through a switch: what is older is listed, the new two are placed, and the older two are removed.
use Rattle.std.proofs.Common.{◌≡◌, ◌≢◌, ◌≤◌, ◌<◌, inl, inr, ℕ, List, [], ◌∷◌, Some, None, Option, true, false, refl, sym, ◌∙◌, ap, subst, arith}
use Rattle.std.specs.Prelude.{Result, Contains, IsSome, is_some}
use Rattle.std.specs.FinMap.{insert, remove, keys}
use Rattle.std.proofs.lemmas.Bool.{cases_eq, cases_lt}
use Rattle.lethe_base.specs.declared.name.Name.{Name}
use Rattle.lethe_disk.specs.declared.disk.DiskRefused.{DiskRefused}
use Rattle.lethe_disk.specs.Directory.{Directory, object, IsNoneOf, IsSame}
use Rattle.lethe_disk.specs.Disk.{Seen, Image, IsSynced, Takes}
use Rattle.lethe_disk.specs.Runs.{Leads, Throughout}
use Rattle.lethe_disk.proofs.Objects.{object_inserted, object_beside_insert, object_beside_remove, object_removed, name_cases, same_directory}
use Rattle.lethe_disk.proofs.Moments.{leads_start, after_start, after_same, leads_weaker, leads_leads, throughout_leads}
use Rattle.lethe_commit.specs.Clear.{ArePresent, IsCleared, remove_all}
use Rattle.lethe_commit.specs.Gates.{gate_name, IsGreatestOf}
use Rattle.lethe_commit.specs.Switch.{manifest_name, HasGreatest, IsFree, new_names, older_names, IsPlaced, IsUnswitched, IsSwitched, HasNew, HasOldOrNew, placed, TellsOlder}
use Rattle.lethe_commit.proofs.Listed.{listed}
use Rattle.lethe_commit.proofs.Placing.{gate≢manifest, manifest≢gate, gate≢gate}

-- Names

pub manifest≢manifest : (k n : ℕ) → k ≢ n → manifest_name k ≢ manifest_name n
manifest≢manifest k n ne e = ne (ap (λ (x : Name). x.no) e)

Some≢None : (b : List ℕ) → Some b ≡ None → ⊥
Some≢None b e = cc

true≢false : true ≡ false → ⊥
true≢false e = cc

-- what is there isn't absent
there_clash : (o : Option (List ℕ)) → IsSome o → o ≡ None → ⊥
there_clash o there none = true≢false (sym there ∙ ap is_some none)

-- The greatest gate

pub greatest_same : (greatest : Option ℕ) (d c : Directory) → ((k : ℕ) → object c (gate_name k) ≡ object d (gate_name k)) → HasGreatest greatest d → HasGreatest greatest c
greatest_same None d c same has = λ k. same k ∙ has k
greatest_same (Some greatest) d c same has = (ap is_some (same greatest) ∙ has.0, λ k above. same k ∙ has.1 k above)

pub greatest_below : (greatest number : ℕ) (d : Directory) → HasGreatest (Some greatest) d → ((other : ℕ) → number ≤ other → object d (gate_name other) ≡ None) → greatest < number
greatest_below greatest number d has free = elim (cases_lt greatest number) [
  | inl below ↦ below
  | inr late ↦ absurd (there_clash (object d (gate_name greatest)) has.0 (free greatest late))
]

-- the older names are none of the new
pub new_is_not_older : (greatest : Option ℕ) (number : ℕ) (d : Directory) → HasGreatest greatest d → ((other : ℕ) → number ≤ other → object d (gate_name other) ≡ None)
    → IsNoneOf (older_names greatest) (gate_name number) × IsNoneOf (older_names greatest) (manifest_name number)
new_is_not_older None number d has free = (tt, tt)
new_is_not_older (Some greatest) number d has free =
    let below = greatest_below greatest number d has free in (
      (gate≢gate number greatest (λ e. omega (arith, e, below)), (gate≢manifest number greatest, tt)),
      (manifest≢gate number greatest, (manifest≢manifest number greatest (λ e. omega (arith, e, below)), tt)),
    )

-- an object beside the new two
pub beside_placed : (number : ℕ) (bytes : List ℕ) (d : Directory) (name : Name) → IsNoneOf (new_names number) name → object (placed number bytes d) name ≡ object d name
beside_placed number bytes d name none =
    object_beside_insert (insert d (manifest_name number) bytes) (gate_name number) [] name none.1.0 ∙ object_beside_insert d (manifest_name number) bytes name none.0

pub placed_gate : (number : ℕ) (bytes : List ℕ) (d : Directory) → object (placed number bytes d) (gate_name number) ≡ Some []
placed_gate number bytes d = object_inserted (insert d (manifest_name number) bytes) (gate_name number) []

pub placed_manifest : (number : ℕ) (bytes : List ℕ) (d : Directory) → object (placed number bytes d) (manifest_name number) ≡ Some bytes
placed_manifest number bytes d =
    object_beside_insert (insert d (manifest_name number) bytes) (gate_name number) [] (manifest_name number) (manifest≢gate number number) ∙ object_inserted d (manifest_name number) bytes

-- the older two, where both are there
pub both_present : (k : ℕ) (d : Directory) → IsSome (object d (gate_name k)) → IsSome (object d (manifest_name k)) → ArePresent (gate_name k ∷ manifest_name k ∷ []) d
both_present k d gate manifest = (gate, (ap is_some (object_beside_remove d (gate_name k) (manifest_name k) (manifest≢gate k k)) ∙ manifest, tt))

-- The run

module _ (number : ℕ) (bytes : List ℕ) (greatest : Option ℕ) (s0 : Seen) (free : IsFree s0 number greatest) where
  Switched : Directory → Directory → Type 0
  Switched d c = IsSwitched number bytes greatest d c

  pub itself : (d : Directory) → Image s0 d → IsUnswitched number d d
  itself d here = record { others = λ other none. refl; no_gate = free.no_gate d here number (omega arith) }

  module _ {T : Type 0} (result : Result T DiskRefused) (s1 : Seen) (listing : Takes IsSame result s0 s1) where
    pub free_then : IsFree s1 number greatest
    free_then = record {
      no_manifest = λ d here. let e = listing.images d here in subst (λ x. object x (manifest_name number) ≡ None) (sym e.2) (free.no_manifest e.0 e.1);
      no_gate = λ d here other above. let e = listing.images d here in subst (λ x. object x (gate_name other) ≡ None) (sym e.2) (free.no_gate e.0 e.1 other above);
      greatest_gate = λ d here. let e = listing.images d here in subst (HasGreatest greatest) (sym e.2) (free.greatest_gate e.0 e.1);
    }

    pub same_run : Leads (IsUnswitched number) s0 s1
    same_run =
        let start = after_start IsSame IsSame s0 (λ d here. refl) (λ d c here same. same) in
        leads_weaker IsSame (IsUnswitched number) s0 s1 (after_same IsSame IsSame result s0 s0 s1 start listing (λ d c here same. same)).each
        (λ d c here same. subst (IsUnswitched number d) (sym same) (itself d here))

    pub listing_moments : Leads (IsSwitched number bytes greatest) s0 s1
    listing_moments = leads_weaker (IsUnswitched number) (IsSwitched number bytes greatest) s0 s1 same_run (λ d c here un. inl un)

  module _ (s1 : Seen) (quiet : Leads (IsUnswitched number) s0 s1) where
    -- where the gate never came
    pub still_unswitched : (s2 : Seen) → Leads (IsUnswitched number) s1 s2 → Leads (IsUnswitched number) s0 s2
    still_unswitched s2 more = leads_leads (IsUnswitched number) (IsUnswitched number) (IsUnswitched number) s0 s1 s2 quiet more (λ d c un. un)
        (λ d e c here un next. record { others = λ other none. next.others other none ∙ un.others other none; no_gate = next.no_gate })

    module _ (s2 : Seen) (placing : Leads (IsPlaced number bytes) s1 s2) where
      placed_switched : (d e c : Directory) → IsUnswitched number d e → IsPlaced number bytes e c → IsSwitched number bytes greatest d c
      placed_switched d e c un made = by_gate (object c (gate_name number)) refl
        where
          others : (other : Name) → IsNoneOf (new_names number) other → object c other ≡ object d other
          others other none = made.others other none ∙ un.others other none

          by_gate : (o : Option (List ℕ)) → object c (gate_name number) ≡ o → IsSwitched number bytes greatest d c
          by_gate None is = inl (record { others = others; no_gate = is })
          by_gate (Some b) is = elim made.either [
            | inl none ↦ absurd (Some≢None b (sym is ∙ none))
            | inr whole ↦ inr (record {
              others = λ other none. others other (none.0, (none.1.0, tt));
              older = λ other none. inr (others other none);
              gate = ap is_some is;
              manifest = whole;
            })
          ]

      pub placing_moments : Leads (IsSwitched number bytes greatest) s0 s2
      placing_moments = leads_leads (IsUnswitched number) (IsPlaced number bytes) (IsSwitched number bytes greatest) s0 s1 s2 quiet placing (λ d c un. inl un) (λ d e c here un made. placed_switched d e c un made)

      module _ (synced : IsSynced s2) (done : s2.directory ≡ placed number bytes s0.directory) (here : Image s0 s0.directory) where
        apart : IsNoneOf (older_names greatest) (gate_name number) × IsNoneOf (older_names greatest) (manifest_name number)
        apart = new_is_not_older greatest number s0.directory (free.greatest_gate s0.directory here) (free.no_gate s0.directory here)

        new_gate : (e : Directory) → Image s2 e → object e (gate_name number) ≡ Some []
        new_gate e there = ap (λ x. object x (gate_name number)) (synced e there ∙ done) ∙ placed_gate number bytes s0.directory

        new_manifest : (e : Directory) → Image s2 e → object e (manifest_name number) ≡ Some bytes
        new_manifest e there = ap (λ x. object x (manifest_name number)) (synced e there ∙ done) ∙ placed_manifest number bytes s0.directory

        record Removed (e c : Directory) : Type 0 where
          before : Image s2 e
          cleared : IsCleared (older_names greatest) e c

        module _ (s3 : Seen) (removing : Leads (IsCleared (older_names greatest)) s2 s3) where
          removed_switched : (d e c : Directory) → IsSwitched number bytes greatest d e → Image s2 e → IsCleared (older_names greatest) e c → IsSwitched number bytes greatest d c
          removed_switched d e c (inl un) there cleared = absurd (Some≢None [] (sym (new_gate e there) ∙ un.no_gate))
          removed_switched d e c (inr new) there cleared = inr (record {
            others = λ other none. cleared.others other none.1.1 ∙ new.others other none;
            older = λ other none. elim (cleared.either other) [
              | inl gone ↦ inl gone
              | inr same ↦ elim (new.older other none) [
                | inl gone ↦ inl (same ∙ gone)
                | inr kept ↦ inr (same ∙ kept)
              ]
            ];
            gate = ap is_some (cleared.others (gate_name number) apart.0) ∙ new.gate;
            manifest = cleared.others (manifest_name number) apart.1 ∙ new.manifest;
          })

          removed : Leads Removed s2 s3
          removed = leads_weaker (IsCleared (older_names greatest)) Removed s2 s3 removing (λ e c there cleared. record { before = there; cleared = cleared })

          pub removing_moments : Leads (IsSwitched number bytes greatest) s0 s3
          removing_moments = leads_leads (IsSwitched number bytes greatest) Removed (IsSwitched number bytes greatest) s0 s2 s3 placing_moments removed (λ d c so. so)
              (λ d e c there so gone. removed_switched d e c so gone.before gone.cleared)

          pub all_new : (c : Directory) → Image s3 c → HasNew number bytes c
          all_new c there =
              let e = removing.each s3.moment c removing.later (omega arith) there in
              let gate = e.2.others (gate_name number) apart.0 ∙ new_gate e.0 e.1 in
              record {
                manifest = e.2.others (manifest_name number) apart.1 ∙ new_manifest e.0 e.1;
                greatest_gate = (
                  ap is_some gate,
                  λ k above. elim (e.2.either (gate_name k)) [
                    | inl gone ↦ gone
                    | inr same ↦ same ∙ ap (λ x. object x (gate_name k)) (synced e.0 e.1 ∙ done)
                        ∙ beside_placed number bytes s0.directory (gate_name k) (gate≢manifest k number, (gate≢gate k number (λ e. omega (arith, e, above)), tt))
                        ∙ free.no_gate s0.directory here k (omega (arith, above))
                  ],
                );
              }

        -- the older two are still there
        pub older_present : ((k : ℕ) → greatest ≡ Some k → IsSome (object s0.directory (manifest_name k))) → ArePresent (older_names greatest) s2.directory
        older_present there = by greatest (free.greatest_gate s0.directory here) there
          where
            by : (g : Option ℕ) → HasGreatest g s0.directory → ((k : ℕ) → g ≡ Some k → IsSome (object s0.directory (manifest_name k))) → ArePresent (older_names g) s2.directory
            by None none there = tt
            by (Some k) has there =
                let below = greatest_below k number s0.directory has (free.no_gate s0.directory here) in
                let gate : object s2.directory (gate_name k) ≡ object s0.directory (gate_name k)
                = ap (λ x. object x (gate_name k)) done ∙ beside_placed number bytes s0.directory (gate_name k) (gate≢manifest k number, (gate≢gate k number (λ e. omega (arith, e, below)), tt)) in
                let manifest : object s2.directory (manifest_name k) ≡ object s0.directory (manifest_name k)
                = ap (λ x. object x (manifest_name k)) done ∙ beside_placed number bytes s0.directory (manifest_name k) (manifest≢manifest k number (λ e. omega (arith, e, below)), (manifest≢gate k number, tt)) in
                both_present k s2.directory (ap is_some gate ∙ has.0) (ap is_some manifest ∙ there k refl)

        -- the names tell which gate was the greatest
        pub tells_older : (names : List Name) → names ≡ keys s0.directory → TellsOlder names greatest s2.directory
        tells_older names is = by greatest (free.greatest_gate s0.directory here)
          where
            there_of : (name : Name) → Contains names name → IsSome (object s0.directory name)
            there_of name in_names = (listed s0.directory name).0 (subst (λ l. Contains l name) is in_names)

            in_of : (name : Name) → IsSome (object s0.directory name) → Contains names name
            in_of name there = subst (λ l. Contains l name) (sym is) ((listed s0.directory name).1 there)

            by : (g : Option ℕ) → HasGreatest g s0.directory → TellsOlder names g s2.directory
            by None none = λ k in_names. there_clash (object s0.directory (gate_name k)) (there_of (gate_name k) in_names) (none k)
            by (Some k) has =
                let below = greatest_below k number s0.directory has (free.no_gate s0.directory here) in
                let gate : object s2.directory (gate_name k) ≡ object s0.directory (gate_name k)
                = ap (λ x. object x (gate_name k)) done ∙ beside_placed number bytes s0.directory (gate_name k) (gate≢manifest k number, (gate≢gate k number (λ e. omega (arith, e, below)), tt)) in
                let manifest : object s2.directory (manifest_name k) ≡ object s0.directory (manifest_name k)
                = ap (λ x. object x (manifest_name k)) done ∙ beside_placed number bytes s0.directory (manifest_name k) (manifest≢manifest k number (λ e. omega (arith, e, below)), (manifest≢gate k number, tt)) in (
                  record {
                    there = in_of (gate_name k) has.0;
                    last = λ other in_names. elim (cases_lt k other) [
                      | inl above ↦ absurd (there_clash (object s0.directory (gate_name other)) (there_of (gate_name other) in_names) (has.1 other above))
                      | inr within ↦ within
                    ];
                  },
                  ap is_some gate ∙ has.0,
                  (
                    (λ in_names. ap is_some manifest ∙ there_of (manifest_name k) in_names),
                    (λ there. in_of (manifest_name k) (sym (ap is_some manifest) ∙ there)),
                  ),
                )

-- of two directories of which the first has no gate of the number or a greater one
pub switched_greatest : (number : ℕ) (bytes : List ℕ) (greatest : Option ℕ) (d c : Directory) → HasGreatest greatest d → ((other : ℕ) → number ≤ other → object d (gate_name other) ≡ None)
    → IsSwitched number bytes greatest d c → HasOldOrNew greatest number bytes c
switched_greatest number bytes greatest d c has free (inl un) = inl (greatest_same greatest d c same has)
  where
    same : (k : ℕ) → object c (gate_name k) ≡ object d (gate_name k)
    same k = elim (cases_eq k number) [
      | inl is ↦ ap (λ n. object c (gate_name n)) is ∙ un.no_gate ∙ sym (ap (λ n. object d (gate_name n)) is ∙ free number (omega arith))
      | inr ne ↦ un.others (gate_name k) (gate≢manifest k number, (gate≢gate k number ne, tt))
    ]
switched_greatest number bytes greatest d c has free (inr new) = inr (record { manifest = new.manifest; greatest_gate = (new.gate, above) })
  where
    above : (k : ℕ) → number < k → object c (gate_name k) ≡ None
    above k late = elim (new.older (gate_name k) (gate≢manifest k number, (gate≢gate k number (λ e. omega (arith, e, late)), tt))) [
      | inl gone ↦ gone
      | inr same ↦ same ∙ free k (omega (arith, late))
    ]

pub greatest_throughout : (number : ℕ) (bytes : List ℕ) (greatest : Option ℕ) (old new : Seen) → IsFree old number greatest → Leads (IsSwitched number bytes greatest) old new → Throughout (HasOldOrNew greatest number bytes) old new
greatest_throughout number bytes greatest old new free run =
    throughout_leads (λ d. HasGreatest greatest d × ((other : ℕ) → number ≤ other → object d (gate_name other) ≡ None)) (HasOldOrNew greatest number bytes) (IsSwitched number bytes greatest) old new run
    (λ d here. (free.greatest_gate d here, free.no_gate d here)) (λ d c before so. switched_greatest number bytes greatest d c before.0 before.1 so)

-- Removing the older two

pub greatest_once : (names : List Name) (a b : Option ℕ) → IsGreatestOf names a → IsGreatestOf names b → a ≡ b
greatest_once names None None x y = refl
greatest_once names None (Some b) x y = absurd (x b y.there)
greatest_once names (Some a) None x y = absurd (y a x.there)
greatest_once names (Some a) (Some b) x y = let le = x.last b y.there in let ge = y.last a x.there in ap Some (omega (arith, le, ge))

pub tells_greatest : (names : List Name) (greatest : Option ℕ) (d : Directory) → TellsOlder names greatest d → IsGreatestOf names greatest
tells_greatest names None d tells = tells
tells_greatest names (Some greatest) d tells = tells.0

-- where none is known, none is removed
pub none_cleared : (names : List Name) (old : Seen) → Leads (IsCleared names) old old
none_cleared names old = leads_start (IsCleared names) old (λ d here. record { others = λ other none. refl; either = λ name. inr refl })

pub none_removed : (greatest : Option ℕ) (d : Directory) → greatest ≡ None → d ≡ remove_all (older_names greatest) d
none_removed greatest d is = subst (λ g. d ≡ remove_all (older_names g) d) (sym is) refl

-- the gate alone is cleared, where its manifest isn't there
pub one_cleared : (k : ℕ) (d c : Directory) → IsCleared (gate_name k ∷ []) d c → IsCleared (older_names (Some k)) d c
one_cleared k d c cleared = record { others = λ other none. cleared.others other (none.0, tt); either = cleared.either }

pub one_removed : (k : ℕ) (d : Directory) → object d (manifest_name k) ≡ None → remove_all (gate_name k ∷ []) d ≡ remove_all (older_names (Some k)) d
one_removed k d none = same_directory _ _ (λ other. elim (name_cases other (manifest_name k)) [
  | inl same ↦ ap (object (remove d (gate_name k))) same ∙ object_beside_remove d (gate_name k) (manifest_name k) (manifest≢gate k k) ∙ none
      ∙ sym (ap (object (remove (remove d (gate_name k)) (manifest_name k))) same ∙ object_removed (remove d (gate_name k)) (manifest_name k))
  | inr ne ↦ sym (object_beside_remove (remove d (gate_name k)) (manifest_name k) other ne)
])
