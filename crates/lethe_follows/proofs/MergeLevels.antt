-- The levels of what is stored, before a merge and after it.
use Rattle.std.proofs.Common.{◌≡◌, ◌≢◌, ℕ, zero, suc, ◌+◌, ◌-◌, ◌<◌, ◌≤◌, List, ◌∷◌, ◌++◌, map, Contains, refl, ap, ◌∙◌, arith}
use Rattle.std.specs.List.{range_with_len}
use Rattle.std.proofs.lemmas.List.{map-append}
use Rattle.lethe_base.specs.Layout.{File}
use Rattle.lethe_cover.proofs.Common.{⊎_elim, none_in, first_or_rest}
use Rattle.lethe_moves.specs.Merges as moves
use Rattle.lethe_moves.specs.Merges.{Merge}
use Rattle.lethe_stored.specs.Files.{StoredFile, file_of, at_level, levels_of}
use Rattle.lethe_follows.specs.Merged.{StoredMerge, at}

-- Ranges of numbers

range_split : {X : Type 0} (f : ℕ → X) (first k rest count : ℕ) → count ≡ k + rest → map f (range_with_len first count) ≡ map f (range_with_len first k) ++ map f (range_with_len (first + k) rest)
range_split f first zero rest count is =
    let begins : first ≡ first + 0 = omega arith in
    let as_long : count ≡ rest = omega (arith, is) in
    λ i. map f (range_with_len (begins i) (as_long i))
range_split f first (suc k) rest zero is = absurd (omega (arith, is))
range_split f first (suc k) rest (suc count) is =
    let begins : (first + 1) + k ≡ first + suc k = omega arith in
    ap (λ l. f first ∷ l) (range_split f (first + 1) k rest count (omega (arith, is)) ∙ ap (λ n. map f (range_with_len (first + 1) k) ++ map f (range_with_len n rest)) begins)

pub range_same : {X : Type 0} (f g : ℕ → X) (first count : ℕ) → ((n : ℕ) → first ≤ n → n < first + count → f n ≡ g n) → map f (range_with_len first count) ≡ map g (range_with_len first count)
range_same f g first zero each = refl
range_same f g first (suc count) each = λ i. each first (omega arith) (omega arith) i ∷ range_same f g (first + 1) count (λ n from to. each n (omega (arith, from)) (omega (arith, to))) i

pub range_from : {X : Type 0} (f : ℕ → X) (first count : ℕ) (x : X) → Contains (map f (range_with_len first count)) x → (n : ℕ) × (first ≤ n) × (f n ≡ x)
range_from f first zero x there = absurd (none_in x there)
range_from f first (suc count) x there = ⊎_elim (λ same. (first, omega arith, same))
    (λ rest. let found = range_from f (first + 1) count x rest in let above = found.1 in (found.0, omega (arith, above), found.2))
    (first_or_rest (f first) (map f (range_with_len (first + 1) count)) x there)

-- Levels

abbrev pub above_of : ℕ → List StoredFile → List (List File)
above_of level files = map (at_level files) (range_with_len 0 level)

abbrev pub deeper_of : ℕ → ℕ → List StoredFile → List (List File)
deeper_of deepest level files = map (at_level files) (range_with_len (level + 2) (deepest - (level + 1)))

pub levels_split : (deepest level : ℕ) (files : List StoredFile) → level < deepest
    → levels_of deepest files ≡ above_of level files ++ (at_level files level ∷ (at_level files (level + 1) ∷ deeper_of deepest level files))
levels_split deepest level files low =
    let rest : ℕ = deepest - (level + 1) in
    let count : suc deepest ≡ level + suc (suc rest) = omega (arith, low) in
    let begins : 0 + level ≡ level = omega arith in
    let behind : 0 + level + 1 + 1 ≡ level + 2 = omega arith in
    range_split (at_level files) 0 level (suc (suc rest)) (suc deepest) count
    ∙ (λ i. above_of level files ++ (at_level files (begins i) ∷ (at_level files (begins i + 1) ∷ map (at_level files) (range_with_len (behind i) rest))))

-- the merge of the layout
abbrev pub merge_of : ℕ → List StoredFile → StoredMerge → List StoredFile → Merge
merge_of deepest files m made = record {
  above = above_of m.level files;
  newer = map file_of m.newer;
  sources = map file_of m.sources;
  older = map file_of m.older;
  lower = map file_of m.lower;
  met = map file_of m.met;
  higher = map file_of m.higher;
  deeper = deeper_of deepest m.level files;
  made = map file_of made;
}

map_three : {X Y : Type 0} (f : X → Y) (xs ys zs : List X) → map f (xs ++ (ys ++ zs)) ≡ map f xs ++ (map f ys ++ map f zs)
map_three f xs ys zs = map-append f xs (ys ++ zs) ∙ ap (λ l. map f xs ++ l) (map-append f ys zs)

pub levels_are : (deepest : ℕ) (files : List StoredFile) (m : StoredMerge) (made : List StoredFile) → m.level < deepest → at m.level files ≡ m.newer ++ (m.sources ++ m.older)
    → at (m.level + 1) files ≡ m.lower ++ (m.met ++ m.higher) → levels_of deepest files ≡ moves.levels_before (merge_of deepest files m made)
levels_are deepest files m made low from into =
    let here : at_level files m.level ≡ map file_of m.newer ++ (map file_of m.sources ++ map file_of m.older) = ap (map file_of) from ∙ map_three file_of m.newer m.sources m.older in
    let next : at_level files (m.level + 1) ≡ map file_of m.lower ++ (map file_of m.met ++ map file_of m.higher) = ap (map file_of) into ∙ map_three file_of m.lower m.met m.higher in
    levels_split deepest m.level files low ∙ (λ i. above_of m.level files ++ (here i ∷ (next i ∷ deeper_of deepest m.level files)))

pub levels_become : (deepest : ℕ) (files others : List StoredFile) (m : StoredMerge) (made : List StoredFile) → m.level < deepest → at m.level others ≡ m.newer ++ m.older
    → at (m.level + 1) others ≡ m.lower ++ (made ++ m.higher) → ((level : ℕ) → level ≢ m.level → level ≢ m.level + 1 → at level others ≡ at level files)
    → levels_of deepest others ≡ moves.levels_then (merge_of deepest files m made)
levels_become deepest files others m made low from into rest =
    let here : at_level others m.level ≡ map file_of m.newer ++ map file_of m.older = ap (map file_of) from ∙ map-append file_of m.newer m.older in
    let next : at_level others (m.level + 1) ≡ map file_of m.lower ++ (map file_of made ++ map file_of m.higher) = ap (map file_of) into ∙ map_three file_of m.lower made m.higher in
    let above : above_of m.level others ≡ above_of m.level files = range_same (at_level others) (at_level files) 0 m.level (λ n from to. ap (map file_of) (rest n (λ same. omega (arith, to, same)) (λ same. omega (arith, to, same)))) in
    let deeper : deeper_of deepest m.level others ≡ deeper_of deepest m.level files =
    range_same (at_level others) (at_level files) (m.level + 2) (deepest - (m.level + 1)) (λ n from to. ap (map file_of) (rest n (λ same. omega (arith, from, same)) (λ same. omega (arith, from, same)))) in
    levels_split deepest m.level others low ∙ (λ i. above i ++ (here i ∷ (next i ∷ deeper i)))
