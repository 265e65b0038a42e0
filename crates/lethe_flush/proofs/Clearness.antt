-- Files without a key of a range, file by file and level by level; and the ends of lists.
use Rattle.std.proofs.Common.{◌≡◌, ℕ, suc, ◌+◌, ◌-◌, ◌<◌, ◌≤◌, inl, inr, List, [], ◌∷◌, ◌++◌, length, get_or, take, map, fold, Some, All, refl, sym, ap, ◌∙◌, subst, arith}
use Rattle.std.specs.Prelude.{flat_map, slice_get}
use Rattle.std.proofs.lemmas.List.Elements.{All-nil, All-append, All-head, All-tail, All-map}
use Rattle.std.proofs.lemmas.List.{length-map, take_more}
use Rattle.std.proofs.Math.ListN.{get_or-map}
use Rattle.std.proofs.lemmas.Bool.{cases_lt}
use Rattle.std.proofs.lemmas.Option.{slice_get-get_or}
use Rattle.lethe_base.specs.Keys.{Bytes}
use Rattle.lethe_base.specs.declared.entry.Entry.{Entry}
use Rattle.lethe_moves.specs.Flushes.{first_key}
use Rattle.lethe_fade.specs.Spans.{KeyRange}
use Rattle.lethe_header.specs.declared.header.Header.{Header}
use Rattle.lethe_tile.proofs.Orders.{all_left, all_right}
use Rattle.lethe_build.proofs.Whole.{parts_all}
use Rattle.lethe_flush.specs.Clear.{IsClearOf}

-- what the last item has
pub fold_last : {X : Type 0} (f : X → Bytes) (before : Bytes) (xs : List X) (d : X) → 0 < length xs → fold (λ before x. f x) before xs ≡ f (get_or xs (length xs - 1) d)
fold_last f before [] d some = absurd (omega (arith, some))
fold_last f before (x ∷ []) d some = refl
fold_last f before (x ∷ (y ∷ ys)) d some =
    let place : suc (length (y ∷ ys) - 1) ≡ length (x ∷ (y ∷ ys)) - 1 = omega arith in
    fold_last f (f x) (y ∷ ys) d (omega arith) ∙ ap (λ k. f (get_or (x ∷ (y ∷ ys)) k d)) place

some_is : {X : Type 0} (x y : X) → Some x ≡ Some y → x ≡ y
some_is x y e = cc

pub last_is : {X : Type 0} (f : X → Bytes) (xs : List X) (x : X) → 0 < length xs → slice_get xs (length xs - 1) ≡ Some x → f x ≡ fold (λ before x. f x) [] xs
last_is f xs x some is =
    let same = some_is x (get_or xs (length xs - 1) x) (sym is ∙ slice_get-get_or xs (length xs - 1) x (omega (arith, some))) in
    ap f same ∙ sym (fold_last f [] xs x some)

pub first_is : (entries : List Entry) (entry : Entry) → slice_get entries 0 ≡ Some entry → (0 < length entries) × (entry.key ≡ first_key entries)
first_is [] entry is = absurd cc
first_is (first ∷ entries) entry is = (omega arith, ap (λ (e : Entry). e.key) (sym (some_is first entry is)))

-- of each part, so of all
all_parts : {X : Type 0} (P : X → Type 0) (parts : List (List X)) → All (All P) parts → All P (flat_map (λ part. part) parts)
all_parts P [] each = All-nil P
all_parts P (part ∷ parts) each = All-append P part (flat_map (λ part. part) parts) (All-head (All P) part parts each) (all_parts P parts (All-tail (All P) part parts each))

pub unmapped : {X Y : Type 0} (P : Y → Type 0) (f : X → Y) (xs : List X) → All P (map f xs) → All (λ x. P (f x)) xs
unmapped P f xs each k d lt = subst P (get_or-map f xs k d) (each k (f d) (omega (arith, length-map xs f, lt)))

-- a level of files, as what stands for them
module _ {F S : Type 0} (P : F → Type 0) (v : S → F) (levels : List (List F)) (n : ℕ) (files : List S) (is : (d : List F) → map v files ≡ get_or levels n d) where
  pub level_more : ((k : ℕ) (d : List F) → k < n → All P (get_or levels k d)) → All (λ s. P (v s)) files → (k : ℕ) (d : List F) → k < n + 1 → All P (get_or levels k d)
  level_more before here k d lt = elim (cases_lt k n) [
    | inl lower ↦ before k d lower
    | inr behind ↦ let same : n ≡ k = omega (arith, lt, behind) in subst (λ (k : ℕ). All P (get_or levels k d)) same (subst (All P) (is d) (All-map P v files here))
  ]

  pub level_of_all : n < length levels → All P (flat_map (λ level. level) levels) → All (λ s. P (v s)) files
  level_of_all lt all = unmapped P v files (subst (All P) (sym (is [])) (parts_all P levels all n [] lt))

pub all_levels : {F : Type 0} (P : F → Type 0) (levels : List (List F)) (n : ℕ) → length levels ≤ n → ((k : ℕ) (d : List F) → k < n → All P (get_or levels k d)) → All P (flat_map (λ level. level) levels)
all_levels P levels n long each = all_parts P levels (λ k d lt. each k d (omega (arith, lt, long)))

-- no file and no header has a key of a range
module _ {F : Type 0} (head : F → Header) (keys span : KeyRange) (same : keys ≡ span) (files : List F) (more : List Header) where
  abbrev All_clear : Type 0
  All_clear = All (IsClearOf span) (map head files ++ more)

  pub clear_files : All_clear → All (λ file. IsClearOf keys (head file)) files
  clear_files all = subst (λ keys. All (λ file. IsClearOf keys (head file)) files) (sym same) (unmapped (IsClearOf span) head files (all_left (IsClearOf span) (map head files) more all))

  pub clear_headers : All_clear → All (IsClearOf keys) more
  clear_headers all = subst (λ keys. All (IsClearOf keys) more) (sym same) (all_right (IsClearOf span) (map head files) more all)

  pub clear_all : All (λ file. IsClearOf keys (head file)) files → All (IsClearOf keys) more → All_clear
  clear_all left right = subst (λ span. All (IsClearOf span) (map head files ++ more)) same (All-append (IsClearOf keys) (map head files) more (All-map (IsClearOf keys) head files left) right)

pub take_next : {X : Type 0} (xs : List X) (k : ℕ) (x : X) → k < length xs → slice_get xs k ≡ Some x → take (k + 1) xs ≡ take k xs ++ x ∷ []
take_next xs k x lt is = take_more xs k x lt ∙ ap (λ x. take k xs ++ x ∷ []) (sym (some_is x (get_or xs k x) (sym is ∙ slice_get-get_or xs k x lt)))
