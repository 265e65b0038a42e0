-- What a range takes from a map, and what entries answer under erases.
use Rattle.std.proofs.Common.{◌≡◌, List, [], ◌∷◌, Option, Some, None, Bool, true, false, not, T, cond, filter, sym, ap, ◌∙◌, ℕ, ◌<◌, ◌≤◌, ◌++◌, Contains, refl, arith}
use Rattle.std.specs.FinMap as finmap
use Rattle.lethe_base.specs.declared.entry.Body.TheVariants as body
use Rattle.lethe_cover.proofs.Common.{find, below_all, is_sorted, Bytes, key_cmp, Ends, in_range, Pair, Map, without_range, same_key-true, first_is, nat_tests, Contains-append_right, pair_of, IsPut, matches, pair_under, Body, Pending}
use Rattle.std.proofs.lemmas.List.Folds.{list_any-append, Any-from_list_any, list_any-from_Any}
use Rattle.std.specs.List.{list_any}

-- a pair, unless the range takes it
abbrev pub left_by : Ends → Option Pair → Option Pair
left_by range None = None
left_by range (Some pair) = cond (in_range range pair.0) None (Some pair)

module _ (range : Ends) where
  abbrev left : List (Bytes × Pair) → List (Bytes × Pair)
  left es = filter (λ e. not (in_range range (e.1).0)) es

  below_left : (key : Bytes) (es : List (Bytes × Pair)) → T (below_all key_cmp key es) → T (below_all key_cmp key (left es))
  below_left key [] h = tt
  below_left key (e ∷ es) h = grind (arith, below_left key es)

  sorted_left : (es : List (Bytes × Pair)) → T (is_sorted key_cmp es) → T (is_sorted key_cmp (left es))
  sorted_left [] h = tt
  sorted_left (e ∷ es) h = grind (arith, sorted_left es, below_left e.0 es)

  none_above : (key : Bytes) (es : List (Bytes × Pair)) → T (below_all key_cmp key es) → find key_cmp key es ≡ None
  none_above key [] h = refl
  none_above key (e ∷ es) h = grind (arith, none_above key es)

  find_left : (key : Bytes) (es : List (Bytes × Pair)) → T (is_sorted key_cmp es) → find key_cmp key (left es) ≡ left_by range (find key_cmp key es)
  find_left key [] h = refl
  find_left key (e ∷ es) h = grind (arith, find_left key es, none_above e.0 es, same_key-true key e.0)

  pub get_left : (m : Map) (key : Bytes) → finmap.get (without_range range m) key ≡ left_by range (finmap.get m key)
  get_left m key =
      let sorted = finmap.entries_sorted m in
      finmap.get-from_sorted key_cmp (left (finmap.entries m)) key (sorted_left (finmap.entries m) sorted)
      ∙ find_left key (finmap.entries m) sorted ∙ ap (left_by range) (sym (finmap.get-entries m key))

abbrev pub any_match : List Pending → ℕ → ℕ → Bool
any_match erases seq dkey = list_any (λ erase. matches erase seq dkey) erases

pub any_found : (erases : List Pending) (seq dkey : ℕ) → any_match erases seq dkey ≡ true → (erase : Pending) × Contains erases erase × (matches erase seq dkey ≡ true)
any_found erases seq dkey is = let any = Any-from_list_any (λ erase. matches erase seq dkey) erases is in (any.1, (any.0, any.2, any.3), any.4)

pub any_made : (erases : List Pending) (seq dkey : ℕ) (erase : Pending) → Contains erases erase → matches erase seq dkey ≡ true → any_match erases seq dkey ≡ true
any_made erases seq dkey erase there hit = list_any-from_Any (λ erase. matches erase seq dkey) erases (there.0, erase, there.1, there.2, hit)

-- what a match says
pub match_parts : (erase : Pending) (seq dkey : ℕ) → matches erase seq dkey ≡ true → (seq < erase.seq) × (in_range erase.range dkey ≡ true)
match_parts erase seq dkey is = grind (arith, nat_tests)

pub match_made : (erase : Pending) (seq dkey : ℕ) → seq < erase.seq → in_range erase.range dkey ≡ true → matches erase seq dkey ≡ true
match_made erase seq dkey lower within = grind (arith, nat_tests)

-- an erase matches no put behind it
none_match : (erases : List Pending) (seq dkey : ℕ) → ((erase : Pending) → Contains erases erase → erase.seq ≤ seq) → any_match erases seq dkey ≡ false
none_match [] seq dkey before = refl
none_match (erase ∷ erases) seq dkey before =
    let more = none_match erases seq dkey (λ other there. before other (Contains-append_right (erase ∷ []) erases other there)) in
    grind (arith, nat_tests, more, before erase (first_is erase erases erase refl))

-- an entry behind all pending erases answers what it says
pub answer_late : (erases : List Pending) (seq : ℕ) (b : Body) → ((erase : Pending) → Contains erases erase → erase.seq ≤ seq) → pair_under erases seq b ≡ pair_of b
answer_late erases seq b before = grind (arith, λ (dkey : ℕ). none_match erases seq dkey before)

-- one more erase takes what is in its range, of what stands before it
pub answer_push : (erases : List Pending) (erase : Pending) (seq : ℕ) (b : Body) → seq < erase.seq → pair_under (erases ++ erase ∷ []) seq b ≡ left_by erase.range (pair_under erases seq b)
answer_push erases erase seq b lower = grind (arith, nat_tests, list_any-append {X = Pending})

pub put_of : (b : Body) → IsPut b → (dkey : ℕ) × (value : Bytes) × (b ≡ body.Put dkey value)
put_of b put = grind arith

-- what answers a pair is its put, which no erase matches
pub under_some : (erases : List Pending) (seq : ℕ) (b : Body) (pair : Pair) → pair_under erases seq b ≡ Some pair → (b ≡ body.Put pair.0 pair.1) × (any_match erases seq pair.0 ≡ false)
under_some erases seq b pair is = grind arith

-- what is a put where the erases are applied is one that none of them matches
pub unstruck : (erases : List Pending) (seq : ℕ) (b made : Body) → pair_of made ≡ pair_under erases seq b → IsPut made → (dkey : ℕ) × (value : Bytes) × (b ≡ body.Put dkey value) × (any_match erases seq dkey ≡ false)
unstruck erases seq b made is put = grind arith

-- erases that match nothing more than the others change no answer where they are applied first
pub answer_applied : (pending applied : List Pending) (seq : ℕ) (made b : Body)
    → ((dkey : ℕ) (value : Bytes) → b ≡ body.Put dkey value → any_match applied seq dkey ≡ true → any_match pending seq dkey ≡ true)
    → pair_of made ≡ pair_under applied seq b → pair_under pending seq made ≡ pair_under pending seq b
answer_applied pending applied seq made b more is = grind arith
