-- Numbers of objects, which differ.
use Rattle.std.proofs.Common.{◌≡◌, ◌≢◌, ℕ, zero, suc, ◌+◌, ◌<◌, ◌≤◌, List, [], ◌∷◌, ◌++◌, length, map, take, All, Contains, refl, sym, ap, ◌∙◌, subst, arith}
use Rattle.std.specs.List.{range_with_len, zip}
use Rattle.std.proofs.lemmas.List.Elements.{All-contains, All-contains_itself, All-head, All-map, All-tail, All-take}
use Rattle.std.proofs.lemmas.List.FromFn.{length-range_with_len, get_or-range_with_len}
use Rattle.lethe_advance.specs.Settled.{AreDrawn}
use Rattle.lethe_base.specs.declared.name.Kind.TheVariants.{Page}
use Rattle.lethe_base.specs.declared.name.Name.{Name}
use Rattle.lethe_cover.proofs.Lists.{Pairs, map_from, pairs_from, pairs_unmap}
use Rattle.lethe_file.specs.Agreement.{page_name}

abbrev pub Differ : ℕ → ℕ → Type 0
Differ a b = a ≢ b

pub range_from : (a n x : ℕ) → Contains (range_with_len a n) x → (a ≤ x) × (x < a + n)
range_from a n x there =
    let inside : there.0 < n = omega (arith, there.1, length-range_with_len a n) in
    let at : a + there.0 ≡ x = sym (get_or-range_with_len a n there.0 x inside) ∙ there.2 in
    (omega (arith, at), omega (arith, at, inside))

pub range_differs : (a n : ℕ) → Pairs Differ (range_with_len a n)
range_differs a zero = tt
range_differs a (suc n) = ((λ x there same. let above = (range_from (a + 1) n x there).0 in omega (arith, above, same)), range_differs (a + 1) n)

-- one more number
pub range_more : (a n : ℕ) → range_with_len a (n + 1) ≡ range_with_len a n ++ (a + n) ∷ []
range_more a zero = ap (λ (x : ℕ). x ∷ []) (omega arith)
range_more a (suc n) =
    let one : suc n + 1 ≡ suc (n + 1) = omega arith in
    let at : a + 1 + n ≡ a + suc n = omega arith in
    ap (range_with_len a) one ∙ ap (λ rest. a ∷ rest) (range_more (a + 1) n) ∙ ap (λ (x : ℕ). a ∷ (range_with_len (a + 1) n ++ x ∷ [])) at

-- Objects under their names

abbrev pub Named : Type 0
Named = Name × List ℕ

abbrev pub IsOther : Named → Named → Type 0
IsOther a b = a.0 ≢ b.0

abbrev pub no_of : Named → ℕ
no_of named = (named.0).no

pub others : (names : List Named) → Pairs Differ (map no_of names) → Pairs IsOther names
others names pairs = weaker names (pairs_unmap Differ no_of names pairs)
  where
    weaker : (names : List Named) → Pairs (λ a b. no_of a ≢ no_of b) names → Pairs IsOther names
    weaker [] pairs = tt
    weaker (name ∷ names) pairs = ((λ other there same. pairs.0 other there (ap (λ (n : Name). n.no) same)), weaker names pairs.1)

pub numbers_zip : (numbers : List ℕ) (pages : List (List ℕ)) → length pages ≡ length numbers → map no_of (zip (map page_name numbers) pages) ≡ numbers
numbers_zip [] pages same = refl
numbers_zip (number ∷ numbers) [] same = absurd (omega arith)
numbers_zip (number ∷ numbers) (page ∷ pages) same = ap (λ rest. number ∷ rest) (numbers_zip numbers pages (omega (arith, same)))

-- Pages that were written before

abbrev pub number_in : Name → ℕ
number_in name = name.no

abbrev IsPage : ℕ → Name → Type 0
IsPage first name = (name.kind ≡ Page) × (name.no < first)

page_again : (name : Name) → name.kind ≡ Page → page_name name.no ≡ name
page_again name is = λ i. record { kind = sym is i; no = name.no }

pub pages_again : (first : ℕ) (names : List Name) → All (IsPage first) names → map page_name (map number_in names) ≡ names
pages_again first [] each = refl
pages_again first (name ∷ names) each =
    let here = page_again name (All-head (IsPage first) name names each).0 in
    let rest = pages_again first names (All-tail (IsPage first) name names each) in
    λ i. here i ∷ rest i

pub numbers_below : (first : ℕ) (names : List Name) → All (IsPage first) names → All (λ number. number < first) (map number_in names)
numbers_below first names each = All-map (λ number. number < first) number_in names (λ k d lt. (each k d lt).1)

pub numbers_once : (first : ℕ) (names : List Name) → AreDrawn first names → Pairs Differ (map number_in names)
numbers_once first names drawn = by names drawn.each (pairs_from (λ a b. a ≢ b) names drawn.once)
  where
    by : (names : List Name) → All (IsPage first) names → Pairs (λ a b. a ≢ b) names → Pairs Differ (map number_in names)
    by [] each pairs = tt
    by (name ∷ names) each pairs =
        let own = (All-head (IsPage first) name names each).0 in
        let behind = All-tail (IsPage first) name names each in (
          (λ number there same.
              let found = map_from number_in names number there in
              pairs.0 found.0 found.1 (sym (page_again name own) ∙ ap page_name (same ∙ sym found.2) ∙ page_again found.0 (All-contains (IsPage first) names found.0 behind found.1).0)),
          by names behind pairs.1,
        )

-- a page with the number of one of the names has one of the names
pub name_there : (first : ℕ) (names : List Name) → All (IsPage first) names → (number : ℕ) → Contains (map number_in names) number → Contains names (page_name number)
name_there first names each number there =
    let found = map_from number_in names number there in
    subst (Contains names) (sym (ap page_name (sym found.2) ∙ page_again found.0 (All-contains (IsPage first) names found.0 each found.1).0)) found.1

pub in_first : {X : Type 0} (n : ℕ) (xs : List X) (x : X) → Contains (take n xs) x → Contains xs x
in_first n xs x there = All-contains (Contains xs) (take n xs) x (All-take (Contains xs) n xs (All-contains_itself xs)) there
