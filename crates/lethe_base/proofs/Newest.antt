-- Of each key some entry that reads see is the newest, or none is of the key.
use Rattle.std.proofs.Common.{◌≡◌, ◌⊎◌, inl, inr, ℕ, zero, suc, ◌<◌, ◌≤◌, List, [], ◌∷◌, length, slice_index_or, Contains, Option, Some, None, refl, sym, ap, ◌∙◌, subst, arith, nat_le, Bool, true, false}
use Rattle.std.proofs.lemmas.List.Elements.{Contains-append_right}
use Rattle.std.proofs.lemmas.Grind.{common_steps}
use Rattle.std.specs.declared.cmp.Ordering.{Ordering}
use Rattle.std.specs.declared.cmp.Ordering.TheVariants.{Less, Equal, Greater}
use Rattle.std.specs.Ordering.{ordering_reverse, is_eq}
use Rattle.std.specs.Cmp.Lexicographic.{nat_list_cmp_total}
use Rattle.std.specs.FinMap as finmap
use Rattle.std.specs.FinMap.{slice_cmp-IsAntisymmetric, nat_cmp-IsAntisymmetric}
use Rattle.lethe_base.specs.declared.entry.Entry.{Entry}
use Rattle.lethe_base.specs.Keys.{Bytes, key_cmp, same_key}
use Rattle.lethe_base.specs.History.{History, after}
use Rattle.lethe_base.specs.Layout.{Layout, File, Buffer, buffer_of, frozen_records, entries_of, files_of}
use Rattle.lethe_base.specs.Held.{InFiles, IsFiled, InBuffer, Shows}
use Rattle.lethe_base.specs.SameMap.{IsNewest}
use Rattle.lethe_base.specs.Covers.{Covers}

-- the newest entry of the key, or that there is none
abbrev pub Newest : (Entry → Type 0) → Bytes → Type 0
Newest shows key = ((entry : Entry) × IsNewest shows entry × (entry.key ≡ key)) ⊎ ((entry : Entry) → shows entry → entry.key ≡ key → ⊥)

-- two keys are one, or they aren't
same_or_not : (a b : Bytes) → (a ≡ b) ⊎ (a ≡ b → ⊥)
same_or_not a b = by (key_cmp a b) refl
  where
    clash : (o : Ordering) → (o ≡ ordering_reverse o → ⊥) → key_cmp a b ≡ o → a ≡ b → ⊥
    clash o odd is same =
        let self : key_cmp a a ≡ o = subst (λ x. key_cmp a x ≡ o) (sym same) is in
        odd (sym self ∙ nat_list_cmp_total.antisymm a a ∙ ap ordering_reverse self)

    by : (o : Ordering) → key_cmp a b ≡ o → (a ≡ b) ⊎ (a ≡ b → ⊥)
    by Less is = inr (clash Less (λ e. absurd (let no : Less ≡ Greater = e in cc)) is)
    by Equal is = inl (slice_cmp-IsAntisymmetric nat_cmp-IsAntisymmetric a b is)
    by Greater is = inr (clash Greater (λ e. absurd (let no : Greater ≡ Less = e in cc)) is)

pub same_key-self : (a : Bytes) → same_key a a ≡ true
same_key-self a = by (key_cmp a a) refl
  where
    by : (o : Ordering) → key_cmp a a ≡ o → same_key a a ≡ true
    by Less is = absurd (let no : Less ≡ Greater = sym is ∙ nat_list_cmp_total.antisymm a a ∙ ap ordering_reverse is in cc)
    by Equal is = ap is_eq is
    by Greater is = absurd (let no : Greater ≡ Less = sym is ∙ nat_list_cmp_total.antisymm a a ∙ ap ordering_reverse is in cc)

pub same_key-true : (a b : Bytes) → same_key a b ≡ true → a ≡ b
same_key-true a b is = by (key_cmp a b) refl
  where
    by : (o : Ordering) → key_cmp a b ≡ o → a ≡ b
    by Less at = absurd (let no : false ≡ true = ap is_eq (sym at) ∙ is in cc)
    by Equal at = slice_cmp-IsAntisymmetric nat_cmp-IsAntisymmetric a b at
    by Greater at = absurd (let no : false ≡ true = ap is_eq (sym at) ∙ is in cc)

-- the same entries have the same newest
newest_same : (P Q : Entry → Type 0) (key : Bytes) → ((e : Entry) → P e → Q e) → ((e : Entry) → Q e → P e) → Newest P key → Newest Q key
newest_same P Q key to from found = elim found [
  | inl best ↦ inl (best.0, (let newest = best.1 in record { shown = to best.0 newest.shown; last = λ other is same. newest.last other (from other is) same }), best.2)
  | inr none ↦ inr (λ entry is same. none entry (from entry is) same)
]

-- the newest of two kinds of entries
newest_or : (P Q : Entry → Type 0) (key : Bytes) → Newest P key → Newest Q key → Newest (λ e. P e ⊎ Q e) key
newest_or P Q key p q = elim p [
  | inl best ↦ elim q [
    | inl other ↦ by best.0 best.1 best.2 other.0 other.1 other.2 (nat_le other.0.seq best.0.seq) refl
    | inr none ↦ inl (
      best.0,
      (record {
        shown = inl best.1.shown;
        last = λ e is same. elim is [
          | inl shown ↦ best.1.last e shown same
          | inr shown ↦ absurd (none e shown (same ∙ best.2))
        ];
      }),
      best.2,
    )
  ]
  | inr none ↦ elim q [
    | inl best ↦ inl (
      best.0,
      (record {
        shown = inr best.1.shown;
        last = λ e is same. elim is [
          | inl shown ↦ absurd (none e shown (same ∙ best.2))
          | inr shown ↦ best.1.last e shown same
        ];
      }),
      best.2,
    )
    | inr neither ↦ inr (λ e is same. elim is [
      | inl shown ↦ none e shown same
      | inr shown ↦ neither e shown same
    ])
  ]
]
  where
    by : (x : Entry) → IsNewest P x → x.key ≡ key → (y : Entry) → IsNewest Q y → y.key ≡ key → (b : Bool) → nat_le y.seq x.seq ≡ b → Newest (λ e. P e ⊎ Q e) key
    by x best named y other called true is = let above : y.seq ≤ x.seq = grind (arith, common_steps) in inl (
      x,
      (record {
        shown = inl best.shown;
        last = λ e there same. elim there [
          | inl shown ↦ best.last e shown same
          | inr shown ↦ let lower : e.seq ≤ y.seq = other.last e shown (same ∙ named ∙ sym called) in omega arith
        ];
      }),
      named,
    )
    by x best named y other called false is = let above : x.seq ≤ y.seq = grind (arith, common_steps) in inl (
      y,
      (record {
        shown = inr other.shown;
        last = λ e there same. elim there [
          | inl shown ↦ let lower : e.seq ≤ x.seq = best.last e shown (same ∙ called ∙ sym named) in omega arith
          | inr shown ↦ other.last e shown same
        ];
      }),
      called,
    )

newest_one : (entry : Entry) (key : Bytes) → Newest (λ e. entry ≡ e) key
newest_one entry key = elim (same_or_not entry.key key) [
  | inl named ↦ inl (entry, (record { shown = refl; last = λ other is same. let equal : entry.seq ≡ other.seq = ap (λ e. e.seq) is in omega arith }), named)
  | inr unlike ↦ inr (λ other is same. unlike (ap (λ e. e.key) is ∙ same))
]

pub first_or_rest : {X : Type 0} (x : X) (xs : List X) (y : X) → Contains (x ∷ xs) y → (x ≡ y) ⊎ Contains xs y
first_or_rest x xs y there = by there.0 there.1 there.2
  where
    by : (k : ℕ) → k < suc (length xs) → slice_index_or (x ∷ xs) k y ≡ y → (x ≡ y) ⊎ Contains xs y
    by zero within is = inl is
    by (suc k) within is = inr (k, omega arith, is)

pub first_is : {X : Type 0} (x : X) (xs : List X) (y : X) → x ≡ y → Contains (x ∷ xs) y
first_is x xs y is = (0, omega arith, is)

newest_in : (entries : List Entry) (key : Bytes) → Newest (Contains entries) key
newest_in [] key = inr (λ e there same. absurd (let lt : there.0 < 0 = there.1 in omega arith))
newest_in (entry ∷ entries) key = newest_same (λ e. (entry ≡ e) ⊎ Contains entries e) (Contains (entry ∷ entries)) key
    (λ e is. elim is [
      | inl same ↦ first_is entry entries e same
      | inr rest ↦ Contains-append_right (entry ∷ []) entries e rest
    ])
    (first_or_rest entry entries)
    (newest_or (λ e. entry ≡ e) (Contains entries) key (newest_one entry key) (newest_in entries key))

newest_filed : (files : List File) (key : Bytes) → Newest (InFiles files) key
newest_filed [] key = inr (λ e is same. absurd (let there = is.there in let lt : there.0 < 0 = there.1 in omega arith))
newest_filed (file ∷ files) key = newest_same (λ e. Contains (entries_of file) e ⊎ InFiles files e) (InFiles (file ∷ files)) key
    (λ e is. elim is [
      | inl spelled ↦ record { file = file; there = first_is file files file refl; spelled = spelled }
      | inr rest ↦ record { file = rest.file; there = Contains-append_right (file ∷ []) files rest.file rest.there; spelled = rest.spelled }
    ])
    (λ e is. elim (first_or_rest file files is.file is.there) [
      | inl same ↦ inl (subst (λ f. Contains (entries_of f) e) (sym same) is.spelled)
      | inr there ↦ inr (record { file = is.file; there = there; spelled = is.spelled })
    ])
    (newest_or (Contains (entries_of file)) (InFiles files) key (newest_in (entries_of file) key) (newest_filed files key))

newest_buffered : (buffer : Buffer) (key : Bytes) → Newest (InBuffer buffer) key
newest_buffered buffer key = by (finmap.get buffer key) refl
  where
    at_key : (e : Entry) → InBuffer buffer e → e.key ≡ key → finmap.get buffer key ≡ Some e
    at_key e is same = ap (finmap.get buffer) (sym same) ∙ is

    by : (o : Option Entry) → finmap.get buffer key ≡ o → Newest (InBuffer buffer) key
    by None is = inr (λ e there same. absurd (let clash : None ≡ Some e = sym is ∙ at_key e there same in cc))
    by (Some entry) is = elim (same_or_not entry.key key) [
      | inl named ↦ inl (
        entry,
        (record {
          shown = ap (finmap.get buffer) named ∙ is;
          last = λ e there same. let equal : Some entry ≡ Some e = sym is ∙ at_key e there (same ∙ named) in
              let one : entry ≡ e = cc in let places : entry.seq ≡ e.seq = ap (λ x. x.seq) one in omega arith;
        }),
        named,
      )
      | inr unlike ↦ inr (λ e there same. let equal : Some entry ≡ Some e = sym is ∙ at_key e there same in
          let one : entry ≡ e = cc in unlike (ap (λ x. x.key) one ∙ same))
    ]

pub newest_shown : (l : Layout) (key : Bytes) → Newest (Shows l) key
newest_shown l key = newest_or (λ e. InBuffer (buffer_of l.active) e ⊎ InBuffer (buffer_of (frozen_records l)) e) (IsFiled l) key
    (newest_or (InBuffer (buffer_of l.active)) (InBuffer (buffer_of (frozen_records l))) key
    (newest_buffered (buffer_of l.active) key) (newest_buffered (buffer_of (frozen_records l)) key))
    (newest_filed (files_of l) key)

-- histories that a layout stands for have one map
pub one_map : (threshold : ℕ) (h g : History) (l : Layout) → Covers threshold h l → Covers threshold g l → (after h).map ≡ (after g).map
one_map threshold h g l first second = finmap.same_map nat_list_cmp_total (slice_cmp-IsAntisymmetric nat_cmp-IsAntisymmetric) (after h).map (after g).map (λ key. elim (newest_shown l key) [
  | inl best ↦ subst (λ k. finmap.get (after h).map k ≡ finmap.get (after g).map k) best.2
      (sym (first.same_map.newest best.0 best.1) ∙ second.same_map.newest best.0 best.1)
  | inr none ↦ first.same_map.absent key none ∙ sym (second.same_map.absent key none)
])
