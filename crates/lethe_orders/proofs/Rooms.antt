-- Due lists of which one is changed, or one more is put behind the others.
use Rattle.std.proofs.Common.{◌≡◌, ◌≢◌, ℕ, zero, suc, ◌+◌, ◌<◌, ◌≤◌, ◌⊎◌, Bool, true, false, List, [], ◌∷◌, ◌++◌, length, set, Some, refl, sym, ap, ◌∙◌, subst, inl, inr, arith, eqb, get_or-set_other, get_or-set_same}
use Rattle.std.specs.Prelude.{slice_get}
use Rattle.std.proofs.lemmas.Bool.{eqb-false, eqb-true}
use Rattle.std.proofs.lemmas.List.{length-set}
use Rattle.std.proofs.lemmas.Option.{get_or_from_slice_get, none-some, same_Some, slice_get-get_or, slice_get_within}
use Rattle.lethe_base.specs.declared.shape.FileFacts.{FileFacts}
use Rattle.lethe_due.specs.Due.{Due}
use Rattle.lethe_orders.specs.Changes.{KeepFiles}
use Rattle.lethe_orders.specs.Standing.{AreOrdersOf, IsOrderOf}

-- items

item_within : {X : Type 0} (xs : List X) (place other : ℕ) (x y : X) → slice_get (set xs place x) other ≡ Some y → other < length xs
item_within xs place other x y is = let within = slice_get_within (set xs place x) other y is in omega (arith, within, length-set xs place x)

item_other : {X : Type 0} (xs : List X) (place other : ℕ) (x y : X) → other ≢ place → slice_get (set xs place x) other ≡ Some y → slice_get xs other ≡ Some y
item_other xs place other x y differ is =
    slice_get-get_or xs other y (item_within xs place other x y is) ∙ ap Some (sym (get_or-set_other xs place other x y differ) ∙ get_or_from_slice_get (set xs place x) other y y is)

item_set : {X : Type 0} (xs : List X) (place : ℕ) (x y : X) → slice_get (set xs place x) place ≡ Some y → x ≡ y
item_set xs place x y is =
    let within : place < length xs = item_within xs place place x y is in
    sym (get_or-set_same xs place x y within) ∙ get_or_from_slice_get (set xs place x) place y y is

item_push : {X : Type 0} (xs : List X) (y z : X) (place : ℕ) → slice_get (xs ++ y ∷ []) place ≡ Some z → (slice_get xs place ≡ Some z) ⊎ ((place ≡ length xs) × (y ≡ z))
item_push [] y z zero is = inr (refl, same_Some y z is)
item_push [] y z (suc place) is = absurd (none-some z is)
item_push (x ∷ xs) y z zero is = inl is
item_push (x ∷ xs) y z (suc place) is = elim (item_push xs y z place is) [ inl there ↦ inl there | inr last ↦ inr (omega (arith, last.0), last.1) ]

-- room that is taken in one list more

pub room_more : (more : ℕ) (lists : List Due) (place : ℕ) (next : Due) → more ≤ next.spare → ((level : ℕ) (due : Due) → level < place → slice_get lists level ≡ Some due → more ≤ due.spare)
    → (level : ℕ) (due : Due) → level < place + 1 → slice_get (set lists place next) level ≡ Some due → more ≤ due.spare
room_more more lists place next room rooms level due before is = by (eqb level place) refl
  where
    by : (b : Bool) → eqb level place ≡ b → more ≤ due.spare
    by true same =
        let at : level ≡ place = eqb-true level place same in
        subst (λ (d : Due). more ≤ d.spare) (item_set lists place next due (subst (λ n. slice_get (set lists place next) n ≡ Some due) at is)) room
    by false differs =
        let other : level ≢ place = eqb-false level place differs in
        rooms level due (omega (arith, before, other)) (item_other lists place level next due other is)

module _ (start lists : List Due) (place : ℕ) (was next : Due) (here : slice_get lists place ≡ Some was) (same : next.files ≡ was.files) (no_less : was.spare ≤ next.spare) (kept : KeepFiles start lists) where
  record Kept (before after : Due) : Type 0 where
    files : after.files ≡ before.files
    spare : before.spare ≤ after.spare

  kept_at : (level : ℕ) (before after : Due) → slice_get start level ≡ Some before → slice_get (set lists place next) level ≡ Some after → Kept before after
  kept_at level before after old new = by (eqb level place) refl
    where
      by : (b : Bool) → eqb level place ≡ b → Kept before after
      by true e =
          let at : level ≡ place = eqb-true level place e in
          let is : next ≡ after = item_set lists place next after (subst (λ n. slice_get (set lists place next) n ≡ Some after) at new) in
          let old_there : slice_get start place ≡ Some before = subst (λ n. slice_get start n ≡ Some before) at old in
          subst (Kept before) is
          (record {
            files = same ∙ kept.files place before was old_there here;
            spare = let a = kept.spare place before was old_there here in omega (arith, a, no_less);
          })
      by false e =
          let other : level ≢ place = eqb-false level place e in
          let there = item_other lists place level next after other new in
          record { files = kept.files level before after old there; spare = kept.spare level before after old there }

  pub kept_more : KeepFiles start (set lists place next)
  kept_more = record {
    count = length-set lists place next ∙ kept.count;
    files = λ level before after old new. (kept_at level before after old new).files;
    spare = λ level before after old new. (kept_at level before after old new).spare;
  }

-- one list more

pub orders_push : (levels : List (List FileFacts)) (lists : List Due) (list : Due) (files : List FileFacts) → slice_get levels (length lists) ≡ Some files → IsOrderOf files list → AreOrdersOf levels lists
    → AreOrdersOf levels (lists ++ list ∷ [])
orders_push levels lists list files there stands orders level own due is made =
    elim (item_push lists list due level made) [
      | inl before ↦ orders level own due is before
      | inr last ↦
          let at : slice_get levels (length lists) ≡ Some own = subst (λ n. slice_get levels n ≡ Some own) last.0 is in
          subst (λ (l : List FileFacts). IsOrderOf l due) (same_Some files own (sym there ∙ at)) (subst (IsOrderOf files) last.1 stands)
    ]
