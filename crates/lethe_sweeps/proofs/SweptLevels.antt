-- The levels of what is stored, before a sweep and after it.
use Rattle.std.proofs.Common.{◌≡◌, ◌≢◌, ℕ, zero, suc, ◌+◌, ◌-◌, ◌≤◌, cond, eqb, List, [], ◌∷◌, ◌++◌, map, All, Option, Some, None, refl, sym, ap, ◌∙◌, arith}
use Rattle.std.specs.Prelude.{option_map}
use Rattle.std.specs.List.{cons_option, range_with_len}
use Rattle.std.proofs.lemmas.Bool.{eq-eqb, ne_eqb}
use Rattle.std.proofs.lemmas.List.{map-append}
use Rattle.std.proofs.lemmas.List.Elements.{All-head, All-tail, filter-append}
use Rattle.lethe_base.specs.Layout.{File}
use Rattle.lethe_moves.specs.Sweeps as sweeps
use Rattle.lethe_moves.specs.Sweeps.{Sweep}
use Rattle.lethe_stored.specs.Files.{StoredFile, file_of, at_level, levels_of}
use Rattle.lethe_stored.proofs.Leveled.{of_level}
use Rattle.lethe_follows.proofs.MergeLevels.{range_same}
use Rattle.lethe_sweeps.specs.Swept.{StoredSweep, files_before, files_then}

-- Ranges of numbers

range_split : {X : Type 0} (f : ℕ → X) (first k rest count : ℕ) → count ≡ k + rest
    → map f (range_with_len first count) ≡ map f (range_with_len first k) ++ map f (range_with_len (first + k) rest)
range_split f first zero rest count is =
    let begins : first ≡ first + 0 = omega arith in
    let as_long : count ≡ rest = omega (arith, is) in
    λ i. map f (range_with_len (begins i) (as_long i))
range_split f first (suc k) rest zero is = absurd (omega (arith, is))
range_split f first (suc k) rest (suc count) is =
    let begins : (first + 1) + k ≡ first + suc k = omega arith in
    ap (λ l. f first ∷ l) (range_split f (first + 1) k rest count (omega (arith, is)) ∙ ap (λ n. map f (range_with_len (first + 1) k) ++ map f (range_with_len n rest)) begins)

-- Levels

abbrev above_of : ℕ → List StoredFile → List (List File)
above_of level files = map (at_level files) (range_with_len 0 level)

abbrev deeper_of : ℕ → ℕ → List StoredFile → List (List File)
deeper_of deepest level files = map (at_level files) (range_with_len (level + 1) (deepest - level))

levels_split : (deepest level : ℕ) (files : List StoredFile) → level ≤ deepest
    → levels_of deepest files ≡ above_of level files ++ (at_level files level ∷ deeper_of deepest level files)
levels_split deepest level files low =
    let rest : ℕ = deepest - level in
    let count : suc deepest ≡ level + suc rest = omega (arith, low) in
    let begins : 0 + level ≡ level = omega arith in
    let behind : 0 + level + 1 ≡ level + 1 = omega arith in
    range_split (at_level files) 0 level (suc rest) (suc deepest) count
    ∙ (λ i. above_of level files ++ (at_level files (begins i) ∷ map (at_level files) (range_with_len (behind i) rest)))

-- The files of the sweep's level, and of the others

module _ (w : StoredSweep) where
  abbrev own : ℕ
  own = w.file.level

  pub own_before : of_level (files_before w) own ≡ of_level w.front own ++ (w.file ∷ of_level w.back own)
  own_before = filter-append (λ (file : StoredFile). eqb file.level own) w.front (w.file ∷ w.back)
      ∙ ap (λ b. of_level w.front own ++ cond b (w.file ∷ of_level w.back own) (of_level w.back own)) (eq-eqb own own refl)

  other_before : (level : ℕ) → level ≢ own → of_level (files_before w) level ≡ of_level w.front level ++ of_level w.back level
  other_before level other = filter-append (λ (file : StoredFile). eqb file.level level) w.front (w.file ∷ w.back)
      ∙ ap (λ b. of_level w.front level ++ cond b (w.file ∷ of_level w.back level) (of_level w.back level)) (ne_eqb own level (λ same. other (sym same)))

  abbrev AreOwn : List StoredFile → Type 0
  AreOwn made = All (λ file. file.level ≡ own) made

  own_made : (made : List StoredFile) → AreOwn made → of_level (made ++ w.back) own ≡ made ++ of_level w.back own
  own_made [] are = refl
  own_made (file ∷ made) are =
      let rest = of_level (made ++ w.back) own in
      ap (λ b. cond b (file ∷ rest) rest) (eq-eqb file.level own (All-head (λ (file : StoredFile). file.level ≡ own) file made are))
      ∙ ap (λ l. file ∷ l) (own_made made (All-tail (λ (file : StoredFile). file.level ≡ own) file made are))

  other_made : (level : ℕ) → level ≢ own → (made : List StoredFile) → AreOwn made → of_level (made ++ w.back) level ≡ of_level w.back level
  other_made level other [] are = refl
  other_made level other (file ∷ made) are =
      let rest = of_level (made ++ w.back) level in
      let here : file.level ≡ own = All-head (λ (file : StoredFile). file.level ≡ own) file made are in
      ap (λ b. cond b (file ∷ rest) rest) (ne_eqb file.level level (λ same. other (sym same ∙ here)))
      ∙ other_made level other made (All-tail (λ (file : StoredFile). file.level ≡ own) file made are)

  pub own_then : (made : Option StoredFile) → AreOwn (cons_option made []) → of_level (files_then w made) own ≡ of_level w.front own ++ (cons_option made [] ++ of_level w.back own)
  own_then made are = filter-append (λ (file : StoredFile). eqb file.level own) w.front (cons_option made [] ++ w.back)
      ∙ ap (λ l. of_level w.front own ++ l) (own_made (cons_option made []) are)

  pub other_then : (level : ℕ) → level ≢ own → (made : Option StoredFile) → AreOwn (cons_option made []) → of_level (files_then w made) level ≡ of_level (files_before w) level
  other_then level other made are =
      filter-append (λ (file : StoredFile). eqb file.level level) w.front (cons_option made [] ++ w.back)
      ∙ ap (λ l. of_level w.front level ++ l) (other_made level other (cons_option made []) are) ∙ sym (other_before level other)

  -- the sweep of the layout
  abbrev pub sweep_of : ℕ → Option StoredFile → Sweep
  sweep_of deepest made = record {
    above = above_of own (files_before w);
    before = map file_of (of_level w.front own);
    file = file_of w.file;
    behind = map file_of (of_level w.back own);
    deeper = deeper_of deepest own (files_before w);
    made = option_map file_of made;
  }

  pub made_is : (made : Option StoredFile) → cons_option (option_map file_of made) [] ≡ map file_of (cons_option made [])
  made_is None = refl
  made_is (Some file) = refl

  pub levels_are : (deepest : ℕ) (made : Option StoredFile) → own ≤ deepest → levels_of deepest (files_before w) ≡ sweeps.levels_before (sweep_of deepest made)
  levels_are deepest made low =
      let here : at_level (files_before w) own ≡ map file_of (of_level w.front own) ++ (file_of w.file ∷ map file_of (of_level w.back own)) =
      ap (map file_of) own_before ∙ map-append file_of (of_level w.front own) (w.file ∷ of_level w.back own) in
      levels_split deepest own (files_before w) low ∙ (λ i. above_of own (files_before w) ++ (here i ∷ deeper_of deepest own (files_before w)))

  pub levels_become : (deepest : ℕ) (made : Option StoredFile) → own ≤ deepest → AreOwn (cons_option made [])
      → levels_of deepest (files_then w made) ≡ sweeps.levels_then (sweep_of deepest made)
  levels_become deepest made low are =
      let same : (level : ℕ) → level ≢ own → at_level (files_then w made) level ≡ at_level (files_before w) level =
      λ level other. ap (map file_of) (other_then level other made are) in
      let here : at_level (files_then w made) own ≡ map file_of (of_level w.front own) ++ (cons_option (option_map file_of made) [] ++ map file_of (of_level w.back own)) =
      ap (map file_of) (own_then made are) ∙ map-append file_of (of_level w.front own) (cons_option made [] ++ of_level w.back own)
      ∙ ap (λ l. map file_of (of_level w.front own) ++ l)
      (map-append file_of (cons_option made []) (of_level w.back own) ∙ ap (λ l. l ++ map file_of (of_level w.back own)) (sym (made_is made))) in
      let above : above_of own (files_then w made) ≡ above_of own (files_before w) =
      range_same (at_level (files_then w made)) (at_level (files_before w)) 0 own (λ n from to. same n (λ is. omega (arith, to, is))) in
      let deeper : deeper_of deepest own (files_then w made) ≡ deeper_of deepest own (files_before w) =
      range_same (at_level (files_then w made)) (at_level (files_before w)) (own + 1) (deepest - own) (λ n from to. same n (λ is. omega (arith, from, is))) in
      levels_split deepest own (files_then w made) low ∙ (λ i. above i ++ (here i ∷ deeper i))
