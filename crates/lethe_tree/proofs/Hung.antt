-- What an insert makes of the entries of a tree.
use Rattle.std.proofs.Common.{◌≡◌, ◌≢◌, ℕ, ◌+◌, ◌<◌, inl, inr, Bool, true, false, cond, Option, Some, None, List, [], ◌∷◌, ◌++◌, length, slice_get, slice_set, IsTrue, refl, sym, ap, ◌∙◌, subst, arith}
use Rattle.std.specs.Ordering.{is_lt, is_eq}
use Rattle.std.specs.declared.cmp.Ordering.{Ordering}
use Rattle.std.specs.declared.cmp.Ordering.TheVariants.{Less, Equal, Greater}
use Rattle.std.specs.Cmp.Lexicographic.{nat_list_cmp_total}
use Rattle.std.specs.FinMap.Entries.{below_all, by_order, put as put_key}
use Rattle.std.proofs.lemmas.Bool.{and_parts, true≢false}
use Rattle.lethe_base.specs.Keys.{Bytes, key_cmp}
use Rattle.lethe_base.specs.Entries.{by_key, IsAscending, entry_of}
use Rattle.lethe_base.specs.declared.entry.Entry.{Entry}
use Rattle.lethe_mem.proofs.Places.{above_head, less_is, own_key, tail_ascends, turned}
use Rattle.lethe_tree.specs.Shape.{Apart, NotIn}
use Rattle.lethe_tree.specs.Grown.{AllTrue, Turns, goes_left, is_below, put}
use Rattle.lethe_tree.specs.Looked.{Holds, Stands, is_above, is_behind}
use Rattle.lethe_tree.specs.Tree.{AllBelow, at_each, last_of}
use Rattle.lethe_tree.proofs.Ordered.{each_here, got}
use Rattle.lethe_tree.proofs.Written.{get_front, get_new, other_set, same_set}

-- an entry is replaced

abbrev pub Under : Bytes → List Entry → Type 0
Under key es = IsTrue (below_all key_cmp key (by_key es))

pub under_parts : (key : Bytes) (e : Entry) (es : List Entry) → Under key (e ∷ es) → (key_cmp key e.key ≡ Less) × Under key es
under_parts key e es h = let p = and_parts (is_lt (key_cmp key e.key)) (below_all key_cmp key (by_key es)) h in (less_is _ p.0, p.1)

pub under_stands : (entries : List Entry) (key : Bytes) (at : ℕ) (e : Entry) (is : List ℕ) → AllBelow (length entries) is → Under key (at_each entries is) → Stands at is → slice_get entries at ≡ Some e → key_cmp key e.key ≡ Less
under_stands entries key at e [] known under stands is_e = absurd stands
under_stands entries key at e (i ∷ is) known under stands is_e =
    let x = got entries i known.0 in
    let p = under_parts key x.0 (at_each entries is) (subst (Under key) (each_here entries i is x.0 x.1) under) in
    elim stands [
      | inl same ↦ let there : slice_get entries i ≡ Some e = ap (slice_get entries) same ∙ is_e in let y = x.1 in let one : x.0 ≡ e = cc in subst (λ (z : Entry). key_cmp key z.key ≡ Less) one p.0
      | inr behind ↦ under_stands entries key at e is known.1 p.1 behind is_e
    ]

not_there : (at : ℕ) (i : ℕ) (is : List ℕ) → NotIn i is → Stands at is → at ≢ i
not_there at i [] none stands same = absurd stands
not_there at i (j ∷ is) none stands same = elim stands [ inl here ↦ none.0 (here ∙ same) | inr behind ↦ not_there at i is none.1 behind same ]

each_beside : (entries : List Entry) (at : ℕ) (entry : Entry) (is : List ℕ) → NotIn at is → AllBelow (length entries) is → at_each (slice_set entries at entry) is ≡ at_each entries is
each_beside entries at entry [] none known = refl
each_beside entries at entry (i ∷ is) none known =
    let x = got entries i known.0 in
    each_here (slice_set entries at entry) i is x.0 (other_set entries at i entry none.0 ∙ x.1)
    ∙ (ap (λ es. x.0 ∷ es) (each_beside entries at entry is none.1 known.1) ∙ sym (each_here entries i is x.0 x.1))

pub replaced : (entries : List Entry) (at : ℕ) (entry : Entry) (is : List ℕ) → Apart is → AllBelow (length entries) is → IsAscending (at_each entries is) → Holds entries entry.key is at
    → by_key (at_each (slice_set entries at entry) is) ≡ put_key key_cmp entry.key entry (by_key (at_each entries is))
replaced entries at entry [] apart known rising holds = absurd holds.3
replaced entries at entry (i ∷ is) apart known rising holds = by x.0 x.1 (λ s h. replaced entries at entry is apart.1 known.1 s h)
  where
    x : (e : Entry) × (slice_get entries i ≡ Some e)
    x = got entries i known.0

    by : (e : Entry) → slice_get entries i ≡ Some e
        → (IsAscending (at_each entries is) → Holds entries entry.key is at → by_key (at_each (slice_set entries at entry) is) ≡ put_key key_cmp entry.key entry (by_key (at_each entries is)))
        → by_key (at_each (slice_set entries at entry) (i ∷ is)) ≡ put_key key_cmp entry.key entry (by_key (at_each entries (i ∷ is)))
    by e there rest =
        let s = subst IsAscending (each_here entries i is e there) rising in
        let right : put_key key_cmp entry.key entry (by_key (e ∷ at_each entries is)) ≡ put_key key_cmp entry.key entry (by_key (at_each entries (i ∷ is))) = ap (λ es. put_key key_cmp entry.key entry (by_key es)) (sym (each_here entries i is e there)) in
        elim holds.3 [
          | inl same ↦
              let set_here : slice_get (slice_set entries at entry) i ≡ Some entry = ap (slice_get (slice_set entries at entry)) same ∙ same_set entries at entry (subst (λ k. k < length entries) same known.0) in
              let there_at : slice_get entries at ≡ Some e = ap (slice_get entries) (sym same) ∙ there in
              let held : slice_get entries at ≡ Some holds.0 = holds.1 in
              let one : holds.0 ≡ e = cc in
              let key_is : e.key ≡ entry.key = sym (ap (λ (z : Entry). z.key) one) ∙ holds.2 in
              let tie : key_cmp entry.key e.key ≡ Equal = subst (λ k. key_cmp entry.key k ≡ Equal) (sym key_is) (own_key entry.key) in
              ap by_key (each_here (slice_set entries at entry) i is entry set_here)
              ∙ (ap (λ es. (entry.key, entry) ∷ by_key es) (each_beside entries at entry is (subst (λ k. NotIn k is) same apart.0) known.1)
              ∙ (ap (λ k. (k, entry) ∷ by_key (at_each entries is)) (sym key_is)
              ∙ (ap (λ r. by_order r ((entry.key, entry) ∷ by_key (e ∷ at_each entries is)) ((e.key, entry) ∷ by_key (at_each entries is)) ((e.key, e) ∷ put_key key_cmp entry.key entry (by_key (at_each entries is)))) (sym tie) ∙ right)))
          | inr behind ↦
              let other : i ≢ at = λ same. not_there at i is apart.0 behind (sym same) in
              let low : key_cmp e.key (holds.0).key ≡ Less = under_stands entries e.key at holds.0 is known.1 (above_head e (at_each entries is) s) behind holds.1 in
              let lower : key_cmp e.key entry.key ≡ Less = subst (λ k. key_cmp e.key k ≡ Less) holds.2 low in
              let high : key_cmp entry.key e.key ≡ Greater = turned e.key entry.key Less lower in
              ap by_key (each_here (slice_set entries at entry) i is e (other_set entries at i entry other ∙ there))
              ∙ (ap (λ es. (e.key, e) ∷ es) (rest (tail_ascends e (at_each entries is) s) (holds.0, holds.1, holds.2, behind))
              ∙ (ap (λ r. by_order r ((entry.key, entry) ∷ by_key (e ∷ at_each entries is)) ((e.key, entry) ∷ by_key (at_each entries is)) ((e.key, e) ∷ put_key key_cmp entry.key entry (by_key (at_each entries is)))) (sym high) ∙ right))
        ]

-- an entry is added

each_more : (entries ys : List Entry) (is : List ℕ) → AllBelow (length entries) is → at_each (entries ++ ys) is ≡ at_each entries is
each_more entries ys [] known = refl
each_more entries ys (i ∷ is) known =
    let x = got entries i known.0 in
    each_here (entries ++ ys) i is x.0 (get_front entries i ys x.0 x.1) ∙ (ap (λ es. x.0 ∷ es) (each_more entries ys is known.1) ∙ sym (each_here entries i is x.0 x.1))

-- the test parts the entries by the key, which none of them has
abbrev pub Fits : List Entry → (ℕ → Bool) → Bytes → List ℕ → Type 0
Fits entries test key [] = Unit {0}
Fits entries test key (i ∷ is) = ((e : Entry) → slice_get entries i ≡ Some e → (test i ≡ is_lt (key_cmp key e.key)) × (key_cmp key e.key ≢ Equal)) × Fits entries test key is

pub added : (entries : List Entry) (entry : Entry) (test : ℕ → Bool) (is : List ℕ) → AllBelow (length entries) is → Fits entries test entry.key is
    → by_key (at_each (entries ++ entry ∷ []) (put test (length entries) is)) ≡ put_key key_cmp entry.key entry (by_key (at_each entries is))
added entries entry test [] known fits = ap by_key (each_here (entries ++ entry ∷ []) (length entries) [] entry (get_new entries entry))
added entries entry test (i ∷ is) known fits = by x.0 x.1 (fits.0 x.0 x.1) (key_cmp entry.key x.0.key) refl (added entries entry test is known.1 fits.1)
  where
    x : (e : Entry) × (slice_get entries i ≡ Some e)
    x = got entries i known.0

    by : (e : Entry) → slice_get entries i ≡ Some e → (test i ≡ is_lt (key_cmp entry.key e.key)) × (key_cmp entry.key e.key ≢ Equal) → (r : Ordering) → key_cmp entry.key e.key ≡ r
        → by_key (at_each (entries ++ entry ∷ []) (put test (length entries) is)) ≡ put_key key_cmp entry.key entry (by_key (at_each entries is))
        → by_key (at_each (entries ++ entry ∷ []) (put test (length entries) (i ∷ is))) ≡ put_key key_cmp entry.key entry (by_key (at_each entries (i ∷ is)))
    by e there fit Less r_is rest =
        let new = length entries in
        let here = get_front entries i (entry ∷ []) e there in
        ap (λ b. by_key (at_each (entries ++ entry ∷ []) (cond b (new ∷ i ∷ is) (i ∷ put test new is)))) (fit.0 ∙ ap is_lt r_is)
        ∙ (ap by_key (each_here (entries ++ entry ∷ []) new (i ∷ is) entry (get_new entries entry))
        ∙ (ap (λ es. (entry.key, entry) ∷ by_key es) (each_more entries (entry ∷ []) (i ∷ is) known)
        ∙ (ap (λ es. (entry.key, entry) ∷ by_key es) (each_here entries i is e there)
        ∙ (ap (λ r. by_order r ((entry.key, entry) ∷ by_key (e ∷ at_each entries is)) ((e.key, entry) ∷ by_key (at_each entries is)) ((e.key, e) ∷ put_key key_cmp entry.key entry (by_key (at_each entries is)))) (sym r_is)
        ∙ ap (λ es. put_key key_cmp entry.key entry (by_key es)) (sym (each_here entries i is e there))))))
    by e there fit Equal r_is rest = absurd (fit.1 r_is)
    by e there fit Greater r_is rest =
        let new = length entries in
        let here = get_front entries i (entry ∷ []) e there in
        ap (λ b. by_key (at_each (entries ++ entry ∷ []) (cond b (new ∷ i ∷ is) (i ∷ put test new is)))) (fit.0 ∙ ap is_lt r_is)
        ∙ (ap by_key (each_here (entries ++ entry ∷ []) i (put test new is) e here)
        ∙ (ap (λ es. (e.key, e) ∷ es) rest
        ∙ (ap (λ r. by_order r ((entry.key, entry) ∷ by_key (e ∷ at_each entries is)) ((e.key, entry) ∷ by_key (at_each entries is)) ((e.key, e) ∷ put_key key_cmp entry.key entry (by_key (at_each entries is)))) (sym r_is)
        ∙ ap (λ es. put_key key_cmp entry.key entry (by_key es)) (sym (each_here entries i is e there)))))

-- the places of an added index

pub below_put : (test : ℕ → Bool) (n : ℕ) (is : List ℕ) → AllBelow n is → AllBelow (n + 1) (put test n is)
below_put test n [] all = (omega arith, tt)
below_put test n (i ∷ is) all = by (test i) (more (i ∷ is) all) (below_put test n is all.1)
  where
    more : (js : List ℕ) → AllBelow n js → AllBelow (n + 1) js
    more [] all = tt
    more (j ∷ js) all = (omega (arith, all.0), more js all.1)

    by : (b : Bool) → AllBelow (n + 1) (i ∷ is) → AllBelow (n + 1) (put test n is) → AllBelow (n + 1) (cond b (n ∷ i ∷ is) (i ∷ put test n is))
    by true old rest = (omega arith, old)
    by false old rest = (old.0, rest)

pub not_below : (n : ℕ) (is : List ℕ) → AllBelow n is → NotIn n is
not_below n [] all = tt
not_below n (i ∷ is) all = ((λ same. absurd (omega (arith, same, all.0))), not_below n is all.1)

pub length_put : (test : ℕ → Bool) (new : ℕ) (is : List ℕ) → length (put test new is) ≡ length is + 1
length_put test new [] = refl
length_put test new (i ∷ is) = by (test i) (length_put test new is)
  where
    by : (b : Bool) → length (put test new is) ≡ length is + 1 → length (cond b (new ∷ i ∷ is) (i ∷ put test new is)) ≡ length (i ∷ is) + 1
    by true rest = omega arith
    by false rest = omega (arith, rest)

-- behind all

pub turns_behind : (entries : List Entry) (is : List ℕ) → Turns (goes_left entries None) is
turns_behind entries [] = tt
turns_behind entries (i ∷ is) = ((λ e. absurd (true≢false (sym e))), turns_behind entries is)

pub last_behind : (entries : List Entry) (new : ℕ) (is : List ℕ) → last_of (put (goes_left entries None) new is) ≡ Some new
last_behind entries new [] = refl
last_behind entries new (i ∷ []) = refl
last_behind entries new (i ∷ j ∷ is) = last_behind entries new (j ∷ is)

above_is : (key : Bytes) (o : Option Entry) (e : Entry) → o ≡ Some e → is_above key o ≡ true → key_cmp e.key key ≡ Less
above_is key o e is above = less_is _ (sym (ap (is_above key) is) ∙ above)

pub fits_behind : (entries : List Entry) (key : Bytes) (is : List ℕ) → AllBelow (length entries) is → IsAscending (at_each entries is) → is_behind entries key (last_of is) ≡ true → Fits entries (goes_left entries None) key is
fits_behind entries key [] known rising behind = tt
fits_behind entries key (i ∷ []) known rising behind =
    ((λ e is. let low = above_is key (slice_get entries i) e is behind in high e low), tt)
  where
    high : (e : Entry) → key_cmp e.key key ≡ Less → (false ≡ is_lt (key_cmp key e.key)) × (key_cmp key e.key ≢ Equal)
    high e low = let turn = turned e.key key Less low in (sym (ap is_lt turn), λ tie. let x : Greater ≡ Equal = sym turn ∙ tie in absurd cc)
fits_behind entries key (i ∷ j ∷ is) known rising behind = by x.0 x.1 y.0 y.1 (λ s. fits_behind entries key (j ∷ is) known.1 s behind)
  where
    x : (e : Entry) × (slice_get entries i ≡ Some e)
    x = got entries i known.0

    y : (e : Entry) × (slice_get entries j ≡ Some e)
    y = got entries j known.1.0

    by : (a : Entry) → slice_get entries i ≡ Some a → (b : Entry) → slice_get entries j ≡ Some b → (IsAscending (at_each entries (j ∷ is)) → Fits entries (goes_left entries None) key (j ∷ is)) → Fits entries (goes_left entries None) key (i ∷ j ∷ is)
    by a a_is b b_is more =
        let s = subst IsAscending (each_here entries i (j ∷ is) a a_is) rising in
        let rest = more (tail_ascends a (at_each entries (j ∷ is)) s) in
        let under : Under a.key (b ∷ at_each entries is) = subst (Under a.key) (each_here entries j is b b_is) (above_head a (at_each entries (j ∷ is)) s) in
        let next = (under_parts a.key b (at_each entries is) under).0 in
        let fit = rest.0 b b_is in
        let low : key_cmp b.key key ≡ Less = greater b (key_cmp key b.key) refl fit.0 fit.1 in
        let lower : key_cmp a.key key ≡ Less = nat_list_cmp_total.trans a.key b.key key next low in
        let turn = turned a.key key Less lower in
        ((λ e is. let one : a ≡ e = cc in subst (λ (z : Entry). (false ≡ is_lt (key_cmp key z.key)) × (key_cmp key z.key ≢ Equal)) one (sym (ap is_lt turn), λ tie. let z : Greater ≡ Equal = sym turn ∙ tie in absurd cc)), rest)
      where
        greater : (e : Entry) (r : Ordering) → key_cmp key e.key ≡ r → false ≡ is_lt (key_cmp key e.key) → key_cmp key e.key ≢ Equal → key_cmp e.key key ≡ Less
        greater e Less is low tie = let z : false ≡ true = low ∙ ap is_lt is in absurd cc
        greater e Equal is low tie = absurd (tie is)
        greater e Greater is low tie = turned key e.key Greater is

-- among them

all_pass : (entries : List Entry) (key x : Bytes) (is : List ℕ) → AllBelow (length entries) is → Under x (at_each entries is) → key_cmp key x ≡ Less → AllTrue (goes_left entries (Some key)) is
all_pass entries key x [] known under low = tt
all_pass entries key x (i ∷ is) known under low =
    let e = got entries i known.0 in
    let p = under_parts x e.0 (at_each entries is) (subst (Under x) (each_here entries i is e.0 e.1) under) in
    (ap (is_below key) e.1 ∙ ap is_lt (nat_list_cmp_total.trans key x e.0.key low p.0), all_pass entries key x is known.1 p.1 low)

pub turns_among : (entries : List Entry) (key : Bytes) (is : List ℕ) → AllBelow (length entries) is → IsAscending (at_each entries is) → Turns (goes_left entries (Some key)) is
turns_among entries key [] known rising = tt
turns_among entries key (i ∷ is) known rising =
    let e = got entries i known.0 in
    let s = subst IsAscending (each_here entries i is e.0 e.1) rising in
    ((λ passes. all_pass entries key e.0.key is known.1 (above_head e.0 (at_each entries is) s) (less_is _ (sym (ap (is_below key) e.1) ∙ passes))), turns_among entries key is known.1 (tail_ascends e.0 (at_each entries is) s))

-- a key that isn't found is another than each
lacks_parts : (key : Bytes) (e : Entry) (es : List Entry) (r : Ordering) → key_cmp key e.key ≡ r → entry_of key (e ∷ es) ≡ None → (key_cmp key e.key ≢ Equal) × (entry_of key es ≡ None)
lacks_parts key e es Less is none = ((λ tie. let z : Less ≡ Equal = sym is ∙ tie in absurd cc), ap (λ r. cond (is_eq r) (Some e) (entry_of key es)) (sym is) ∙ none)
lacks_parts key e es Equal is none = let z : Some e ≡ None = ap (λ r. cond (is_eq r) (Some e) (entry_of key es)) (sym is) ∙ none in absurd cc
lacks_parts key e es Greater is none = ((λ tie. let z : Greater ≡ Equal = sym is ∙ tie in absurd cc), ap (λ r. cond (is_eq r) (Some e) (entry_of key es)) (sym is) ∙ none)

pub fits_among : (entries : List Entry) (key : Bytes) (is : List ℕ) → AllBelow (length entries) is → entry_of key (at_each entries is) ≡ None → Fits entries (goes_left entries (Some key)) key is
fits_among entries key [] known none = tt
fits_among entries key (i ∷ is) known none =
    let e = got entries i known.0 in
    let p = lacks_parts key e.0 (at_each entries is) (key_cmp key e.0.key) refl (ap (entry_of key) (sym (each_here entries i is e.0 e.1)) ∙ none) in
    ((λ x x_is. let e_is = e.1 in let one : e.0 ≡ x = cc in (ap (is_below key) x_is, subst (λ (z : Entry). key_cmp key z.key ≢ Equal) one p.0)), fits_among entries key is known.1 p.1)

last_more : (test : ℕ → Bool) (new i j : ℕ) (is : List ℕ) → last_of (i ∷ put test new (j ∷ is)) ≡ last_of (put test new (j ∷ is))
last_more test new i j is = by (test j)
  where
    by : (b : Bool) → last_of (i ∷ cond b (new ∷ j ∷ is) (j ∷ put test new is)) ≡ last_of (cond b (new ∷ j ∷ is) (j ∷ put test new is))
    by true = refl
    by false = refl

-- the last one stays the last where the key isn't behind it
pub last_among : (entries : List Entry) (key : Bytes) (new : ℕ) (is : List ℕ) → AllBelow (length entries) is → entry_of key (at_each entries is) ≡ None → is_behind entries key (last_of is) ≡ false
    → last_of (put (goes_left entries (Some key)) new is) ≡ last_of is
last_among entries key new [] known none behind = absurd (true≢false behind)
last_among entries key new (i ∷ []) known none behind =
    let e = got entries i known.0 in
    let p = lacks_parts key e.0 [] (key_cmp key e.0.key) refl (ap (entry_of key) (sym (each_here entries i [] e.0 e.1)) ∙ none) in
    let low = lower e.0 (key_cmp key e.0.key) refl p.0 (ap (is_above key) (sym e.1) ∙ behind) in
    ap (λ b. last_of (cond b (new ∷ i ∷ []) (i ∷ new ∷ []))) (ap (is_below key) e.1 ∙ ap is_lt low)
  where
    lower : (e : Entry) (r : Ordering) → key_cmp key e.key ≡ r → key_cmp key e.key ≢ Equal → is_lt (key_cmp e.key key) ≡ false → key_cmp key e.key ≡ Less
    lower e Less is other high = is
    lower e Equal is other high = absurd (other is)
    lower e Greater is other high = let z : true ≡ false = ap is_lt (sym (turned key e.key Greater is)) ∙ high in absurd cc
last_among entries key new (i ∷ j ∷ is) known none behind =
    let e = got entries i known.0 in
    let p = lacks_parts key e.0 (at_each entries (j ∷ is)) (key_cmp key e.0.key) refl (ap (entry_of key) (sym (each_here entries i (j ∷ is) e.0 e.1)) ∙ none) in
    by (goes_left entries (Some key) i) (last_more (goes_left entries (Some key)) new i j is ∙ last_among entries key new (j ∷ is) known.1 p.1 behind)
  where
    by : (b : Bool) → last_of (i ∷ put (goes_left entries (Some key)) new (j ∷ is)) ≡ last_of (j ∷ is)
        → last_of (cond b (new ∷ i ∷ j ∷ is) (i ∷ put (goes_left entries (Some key)) new (j ∷ is))) ≡ last_of (j ∷ is)
    by true rest = refl
    by false rest = rest
