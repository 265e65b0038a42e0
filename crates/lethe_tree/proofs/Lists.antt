-- Indices of which each stands once.
use Rattle.std.proofs.Common.{◌≡◌, ◌≢◌, ℕ, Bool, true, false, cond, List, [], ◌∷◌, ◌++◌, sym, refl, ap, ◌∙◌}
use Rattle.std.specs.Prelude.{slice_get}
use Rattle.lethe_tree.specs.declared.link.Link.{Link}
use Rattle.lethe_tree.specs.Grown.{AllTrue, Turns, put}
use Rattle.lethe_tree.specs.Shape.{Shape, Leaf, Fork, Lies, NotIn, Apart, order}

pub notin_parts : (k : ℕ) (xs ys : List ℕ) → NotIn k (xs ++ ys) → NotIn k xs × NotIn k ys
notin_parts k [] ys h = (tt, h)
notin_parts k (x ∷ xs) ys h = let p = notin_parts k xs ys h.1 in ((h.0, p.0), p.1)

pub notin_join : (k : ℕ) (xs ys : List ℕ) → NotIn k xs → NotIn k ys → NotIn k (xs ++ ys)
notin_join k [] ys a b = b
notin_join k (x ∷ xs) ys a b = (a.0, notin_join k xs ys a.1 b)

-- none of the second stands in the first
abbrev pub Disjoint : List ℕ → List ℕ → Type 0
Disjoint xs [] = Unit {0}
Disjoint xs (y ∷ ys) = NotIn y xs × Disjoint xs ys

disjoint_nil : (ys : List ℕ) → Disjoint [] ys
disjoint_nil [] = tt
disjoint_nil (y ∷ ys) = (tt, disjoint_nil ys)

disjoint_cons : (x : ℕ) (xs ys : List ℕ) → NotIn x ys → Disjoint xs ys → Disjoint (x ∷ xs) ys
disjoint_cons x xs [] n d = tt
disjoint_cons x xs (y ∷ ys) n d = (((λ same. n.0 (sym same)), d.0), disjoint_cons x xs ys n.1 d.1)

pub disjoint_parts : (xs ys zs : List ℕ) → Disjoint xs (ys ++ zs) → Disjoint xs ys × Disjoint xs zs
disjoint_parts xs [] zs d = (tt, d)
disjoint_parts xs (y ∷ ys) zs d = let p = disjoint_parts xs ys zs d.1 in ((d.0, p.0), p.1)

pub apart_split : (xs ys : List ℕ) → Apart (xs ++ ys) → Apart xs × (Apart ys × Disjoint xs ys)
apart_split [] ys h = (tt, (h, disjoint_nil ys))
apart_split (x ∷ xs) ys h =
    let n = notin_parts x xs ys h.0 in
    let s = apart_split xs ys h.1 in
    ((n.0, s.0), (s.1.0, disjoint_cons x xs ys n.1 s.1.1))

-- one of the first doesn't stand in the second
pub not_of : (a : ℕ) (xs zs ys : List ℕ) → Disjoint (xs ++ a ∷ zs) ys → NotIn a ys
not_of a xs zs [] d = tt
not_of a xs zs (y ∷ ys) d = let p = notin_parts y xs (a ∷ zs) d.0 in ((λ same. p.1.0 (sym same)), not_of a xs zs ys d.1)

-- a tree none of whose nodes was written stays
pub stays : (old new : List Link) (at : ℕ) → ((i : ℕ) → i ≢ at → slice_get new i ≡ slice_get old i) → (t : Shape) → NotIn at (order t) → Lies old t → Lies new t
stays old new at beside Leaf other lies = tt
stays old new at beside (Fork l i r) other lies =
    let p = notin_parts at (order l) (i ∷ order r) other in
    (beside i p.1.0 ∙ lies.0, (stays old new at beside l p.0 lies.1.0, stays old new at beside r p.1.1 lies.1.1))

-- the same where others were written
pub lies_beside : (old new : List Link) (xs : List ℕ) (k : ℕ) → ((i : ℕ) → NotIn i xs → i ≢ k → slice_get new i ≡ slice_get old i)
    → (t : Shape) → Disjoint xs (order t) → NotIn k (order t) → Lies old t → Lies new t
lies_beside old new xs k beside Leaf d other lies = tt
lies_beside old new xs k beside (Fork l i r) d other lies =
    let p = notin_parts k (order l) (i ∷ order r) other in
    let e = disjoint_parts xs (order l) (i ∷ order r) d in
    (beside i e.1.0 p.1.0 ∙ lies.0, (lies_beside old new xs k beside l e.0 p.0 lies.1.0, lies_beside old new xs k beside r e.1.1 p.1.1 lies.1.1))

-- putting an index in

put_cases : (b : Bool) (new x : ℕ) (xs zs ps qs : List ℕ) → ps ≡ qs ++ zs → cond b (new ∷ x ∷ (xs ++ zs)) (x ∷ ps) ≡ cond b (new ∷ x ∷ xs) (x ∷ qs) ++ zs
put_cases true new x xs zs ps qs e = refl
put_cases false new x xs zs ps qs e = ap (λ l. x ∷ l) e

pub put_left : (test : ℕ → Bool) (new top : ℕ) (xs ys : List ℕ) → test top ≡ true → put test new (xs ++ top ∷ ys) ≡ put test new xs ++ top ∷ ys
put_left test new top [] ys is = ap (λ b. cond b (new ∷ top ∷ ys) (top ∷ put test new ys)) is
put_left test new top (x ∷ xs) ys is = put_cases (test x) new x xs (top ∷ ys) (put test new (xs ++ top ∷ ys)) (put test new xs) (put_left test new top xs ys is)

all_true_at : (test : ℕ → Bool) (top : ℕ) (xs ys : List ℕ) → AllTrue test (xs ++ top ∷ ys) → test top ≡ true
all_true_at test top [] ys all = all.0
all_true_at test top (x ∷ xs) ys all = all_true_at test top xs ys all.1

put_right_cases : (b : Bool) (new x : ℕ) (xs ps qs : List ℕ) → (b ≡ true → ⊥) → ps ≡ qs → cond b (new ∷ x ∷ xs) (x ∷ ps) ≡ x ∷ qs
put_right_cases true new x xs ps qs not e = absurd (not refl)
put_right_cases false new x xs ps qs not e = ap (λ l. x ∷ l) e

pub put_right : (test : ℕ → Bool) (new top : ℕ) (xs ys : List ℕ) → test top ≡ false → Turns test (xs ++ top ∷ ys) → put test new (xs ++ top ∷ ys) ≡ xs ++ top ∷ put test new ys
put_right test new top [] ys is turns = ap (λ b. cond b (new ∷ top ∷ ys) (top ∷ put test new ys)) is
put_right test new top (x ∷ xs) ys is turns =
    put_right_cases (test x) new x (xs ++ top ∷ ys) (put test new (xs ++ top ∷ ys)) (xs ++ top ∷ put test new ys)
    (λ passes. let yes = all_true_at test top xs ys (turns.0 passes) in absurd cc) (put_right test new top xs ys is turns.1)

pub turns_left : (test : ℕ → Bool) (xs ys : List ℕ) → Turns test (xs ++ ys) → Turns test xs
turns_left test [] ys h = tt
turns_left test (x ∷ xs) ys h = ((λ is. all_front xs (h.0 is)), turns_left test xs ys h.1)
  where
    all_front : (xs : List ℕ) → AllTrue test (xs ++ ys) → AllTrue test xs
    all_front [] all = tt
    all_front (z ∷ zs) all = (all.0, all_front zs all.1)

pub turns_right : (test : ℕ → Bool) (xs ys : List ℕ) → Turns test (xs ++ ys) → Turns test ys
turns_right test [] ys h = h
turns_right test (x ∷ xs) ys h = turns_right test xs ys h.1

notin_put_cases : (b : Bool) (k new x : ℕ) (xs ps : List ℕ) → new ≢ k → x ≢ k → NotIn k xs → NotIn k ps → NotIn k (cond b (new ∷ x ∷ xs) (x ∷ ps))
notin_put_cases true k new x xs ps n a b c = (n, (a, b))
notin_put_cases false k new x xs ps n a b c = (a, c)

pub notin_put : (test : ℕ → Bool) (k new : ℕ) (xs : List ℕ) → new ≢ k → NotIn k xs → NotIn k (put test new xs)
notin_put test k new [] n h = (n, tt)
notin_put test k new (x ∷ xs) n h = notin_put_cases (test x) k new x xs (put test new xs) n h.0 h.1 (notin_put test k new xs n h.1)

apart_put_cases : (b : Bool) (new x : ℕ) (xs ps : List ℕ) → NotIn new (x ∷ xs) → NotIn x xs → Apart xs → NotIn x ps → Apart ps → Apart (cond b (new ∷ x ∷ xs) (x ∷ ps))
apart_put_cases true new x xs ps n a b c d = (n, (a, b))
apart_put_cases false new x xs ps n a b c d = (c, d)

pub apart_put : (test : ℕ → Bool) (new : ℕ) (xs : List ℕ) → NotIn new xs → Apart xs → Apart (put test new xs)
apart_put test new [] n h = (tt, tt)
apart_put test new (x ∷ xs) n h =
    apart_put_cases (test x) new x xs (put test new xs) n h.0 h.1 (notin_put test x new xs (λ same. n.0 (sym same)) h.0) (apart_put test new xs n.1 h.1)
