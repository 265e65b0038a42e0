-- A new store's layout, which has no entry and no erase.
use Rattle.std.proofs.Common.{◌≡◌, inl, inr, ℕ, zero, suc, ◌+◌, ◌-◌, ◌<◌, List, [], ◌∷◌, length, replicate, get_or, flat_map, Contains, All, AllPairs, Some, None, refl, sym, ap, ◌∙◌, arith, subst}
use Rattle.std.proofs.lemmas.List.{get_or-replicate, length-replicate}
use Rattle.std.proofs.lemmas.List.Elements.{All-replicate}
use Rattle.std.specs.FinMap as finmap
use Rattle.lethe_base.specs.Keys.{key_cmp}
use Rattle.lethe_base.specs.declared.entry.Entry.{Entry}
use Rattle.lethe_base.specs.declared.pending.Pending.{Pending}
use Rattle.lethe_base.specs.declared.shape.FileFacts.{FileFacts}
use Rattle.lethe_base.specs.Layout.{File, Record, Written, Erasing, files_of, new_layout}
use Rattle.lethe_base.specs.Held.{IsFiled, IsRecorded, Holds, Shows, Tells}
use Rattle.lethe_base.specs.Shapes.{facts_from, shape_of, deepest_files, HasOtherNumber, HasRange, IsBare, IsBelow, IsValidShape}
use Rattle.lethe_base.specs.NewerAbove.{IsOver}
use Rattle.lethe_base.specs.Covers.{Covers}

pub none_in : {X : Type 0} (x : X) → Contains [] x → ⊥
none_in x there = absurd (let lt : there.0 < 0 = there.1 in omega arith)

-- lists without elements make one without elements
flat_empty : (X : Type 0) (n : ℕ) → flat_map (λ xs. xs) (replicate n (let none : List X = [] in none)) ≡ []
flat_empty X zero = refl
flat_empty X (suc n) = flat_empty X n

pairs_none : {X : Type 0} (R : X → X → Type 0) → AllPairs R []
pairs_none R = λ i j d lt within. absurd (omega arith)

facts_empty : (level n : ℕ) → facts_from level (replicate n []) ≡ replicate n []
facts_empty level zero = refl
facts_empty level (suc n) = ap (λ deeper. [] ∷ deeper) (facts_empty (level + 1) n)

module _ (levels : ℕ) where
  pub no_file : (file : File) → Contains (files_of (new_layout levels)) file → ⊥
  no_file file there = none_in file (subst (λ files. Contains files file) (flat_empty File levels) there)

  pub none_filed : (entry : Entry) → IsFiled (new_layout levels) entry → ⊥
  none_filed entry filed = no_file filed.file filed.there

  none_recorded : (r : Record) → IsRecorded (new_layout levels) r → ⊥
  none_recorded r is = elim is [
    | inl there ↦ none_in r there
    | inr there ↦ none_in r there
  ]

  none_held : (entry : Entry) (swept : ℕ) → Holds (new_layout levels) entry swept → ⊥
  none_held entry swept is = elim is [
    | inl recorded ↦ none_recorded (Written entry) recorded.0
    | inr filed ↦ none_filed entry filed.0
  ]

  none_told : (erase : Pending) → Tells (new_layout levels) erase → ⊥
  none_told erase is = elim is [
    | inl pending ↦ none_in erase pending
    | inr recorded ↦ none_recorded (Erasing erase) recorded
  ]

  no_buffer : (entry : Entry) → finmap.get (finmap.empty {R = key_cmp}) entry.key ≡ Some entry → ⊥
  no_buffer entry is = absurd (let clash : None ≡ Some entry = sym (finmap.get-empty key_cmp entry.key) ∙ is in cc)

  none_shown : (entry : Entry) → Shows (new_layout levels) entry → ⊥
  none_shown entry is = elim is [
    | inl buffered ↦ elim buffered [
      | inl active ↦ no_buffer entry active
      | inr frozen ↦ no_buffer entry frozen
    ]
    | inr filed ↦ none_filed entry filed
  ]

  pub runs_over : AllPairs IsOver (replicate levels [])
  runs_over = λ i j d lt within entry older above below same.
      let bare : get_or (replicate levels []) i d ≡ [] = get_or-replicate levels i [] d (omega (arith, length-replicate levels (let none : List File = [] in none))) in
      absurd (none_in above.file (subst (λ run. Contains run above.file) bare above.there))

  pub new_covers' : (threshold : ℕ) → Covers threshold [] (new_layout levels)
  new_covers' threshold = record {
    places = record {
      entries = λ entry swept is. absurd (none_held entry swept is);
      erases = λ erase is. absurd (none_told erase is);
    };
    newer_above = record {
      runs = runs_over;
      active_frozen = λ r older is. absurd (none_in r is);
      active_files = λ r older is. absurd (none_in r is);
      frozen_files = λ r older is. absurd (none_in r is);
      active_buffer = λ entry is. absurd (none_in (Written entry) is);
      frozen_buffer = λ entry is. absurd (none_in (Written entry) is);
    };
    same_map = record {
      newest = λ entry is. absurd (none_shown entry is.shown);
      absent = λ key none. finmap.get-empty key_cmp key;
    };
    deletes_covered = λ entry swept cause is. absurd (none_held entry swept is);
    erases_covered = record {
      pending = λ entry swept cause range is. absurd (none_held entry swept is);
      swept = λ file is. absurd (no_file file is);
      unswept = λ file erase entry is. absurd (no_file file is);
    };
    times_fresh = record {
      entries = λ entry swept since is. absurd (none_held entry swept is);
      erases = λ erase is. absurd (none_told erase is);
    };
  }

pub new_covers : (threshold levels : ℕ) → Covers threshold [] (new_layout levels)
new_covers threshold levels = new_covers' levels threshold

-- the facts of no files
module _ (levels : ℕ) where
  facts_none : flat_map (λ files. files) (facts_from 1 (replicate levels [])) ≡ []
  facts_none = ap (λ lists. flat_map (λ files. files) lists) (facts_empty 1 levels) ∙ flat_empty FileFacts levels

  deepest_none : deepest_files (shape_of (new_layout levels)) ≡ []
  deepest_none = ap (λ deeper. get_or ([] ∷ deeper) (length ([] ∷ deeper) - 1) []) (facts_empty 1 levels)
      ∙ get_or-replicate (suc levels) (length (replicate (suc levels) (let none : List FileFacts = [] in none)) - 1) [] [] (omega (arith, length-replicate (suc levels) (let none : List FileFacts = [] in none)))

all_none : (P : FileFacts → Type 0) → All P []
all_none P = λ k d within. absurd (omega arith)

pub new_is_valid : (levels : ℕ) → IsValidShape (shape_of (new_layout levels))
new_is_valid levels = record {
  numbers = subst (AllPairs HasOtherNumber) (sym (facts_none levels)) (pairs_none HasOtherNumber);
  ranges = subst (All HasRange) (sym (facts_none levels)) (all_none HasRange);
  levels = subst (All (AllPairs IsBelow)) (sym (facts_empty 1 levels)) (All-replicate (AllPairs IsBelow) levels [] (pairs_none IsBelow));
  deepest = subst (All IsBare) (sym (deepest_none levels)) (all_none IsBare);
  places = λ i j d before within. absurd (omega arith);
  times = λ i j d before within. absurd (omega arith);
}
