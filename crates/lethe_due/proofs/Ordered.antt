-- A file that comes to those of a list.
use Rattle.std.proofs.Common.{◌≡◌, ◌≢◌, ℕ, suc, ◌<◌, Bool, true, false, List, [], ◌∷◌, ◌++◌, All, AllPairs, Some, refl, sym, ap, ◌∙◌, subst, arith, ltb, eqb}
use Rattle.std.specs.Prelude.{◌==◌, ◌||◌, ◌&&◌, nat_lt}
use Rattle.std.specs.List.{slice_get}
use Rattle.std.proofs.lemmas.List.Elements.{All-nil, All-cons, All-head, All-tail, All-weaker}
use Rattle.std.proofs.lemmas.List.Kept.{AllPairs-cons}
use Rattle.std.proofs.lemmas.Bool.{ltb-true, ltb-false, eqb-true, eqb-false}
use Rattle.lethe_due.specs.declared.due_file.DueFile.{DueFile}
use Rattle.lethe_due.specs.declared.stop.Stop.TheVariants as stop
use Rattle.lethe_due.specs.Due.{ComesBefore, IsFirst, is_linked}
use Rattle.lethe_due.specs.Linked.{stops_at}

-- a relation of each item to all later ones, item by item

pub pairs_nil : {X : Type 0} (R : X → X → Type 0) → AllPairs R []
pairs_nil R i j d lt below = absurd (omega (arith, below))

pub pairs_head : {X : Type 0} (R : X → X → Type 0) (x : X) (xs : List X) → AllPairs R (x ∷ xs) → All (R x) xs
pairs_head R x xs h k d below = h 0 (suc k) d (omega arith) (omega arith)

pub pairs_tail : {X : Type 0} (R : X → X → Type 0) (x : X) (xs : List X) → AllPairs R (x ∷ xs) → AllPairs R xs
pairs_tail R x xs h i j d lt below = h (suc i) (suc j) d (omega arith) (omega arith)

pub all_between : {X : Type 0} (P : X → Type 0) (x : X) (front back : List X) → P x → All P (front ++ back) → All P (front ++ x ∷ back)
all_between P x [] back one all = All-cons P x back one all
all_between P x (first ∷ front) back one all = All-cons P first (front ++ x ∷ back) (All-head P first (front ++ back) all) (all_between P x front back one (All-tail P first (front ++ back) all))

-- one item more, to which the relation holds of those before it, and of it to those behind
pub pairs_between : {X : Type 0} (R : X → X → Type 0) (x : X) (front back : List X) → All (λ y. R y x) front → All (R x) back → AllPairs R (front ++ back) → AllPairs R (front ++ x ∷ back)
pairs_between R x [] back before behind pairs = AllPairs-cons R x back behind pairs
pairs_between R x (first ∷ front) back before behind pairs =
    AllPairs-cons R first (front ++ x ∷ back) (all_between (R first) x front back (All-head (λ y. R y x) first front before) (pairs_head R first (front ++ back) pairs))
    (pairs_between R x front back (All-tail (λ y. R y x) first front before) behind (pairs_tail R first (front ++ back) pairs))

pub pairs_back : {X : Type 0} (R : X → X → Type 0) (front back : List X) → AllPairs R (front ++ back) → AllPairs R back
pairs_back R [] back pairs = pairs
pairs_back R (first ∷ front) back pairs = pairs_back R front back (pairs_tail R first (front ++ back) pairs)

pub all_front : {X : Type 0} (P : X → Type 0) (front back : List X) → All P (front ++ back) → All P front
all_front P [] back all = All-nil P
all_front P (first ∷ front) back all = All-cons P first front (All-head P first (front ++ back) all) (all_front P front back (All-tail P first (front ++ back) all))

pub all_back : {X : Type 0} (P : X → Type 0) (front back : List X) → All P (front ++ back) → All P back
all_back P [] back all = all
all_back P (first ∷ front) back all = all_back P front back (All-tail P first (front ++ back) all)

-- what is passed comes before, or has the same number
pub passed_before : (file other : DueFile) → other.no ≢ file.no → stops_at (stop.Behind file) other ≡ false → ComesBefore other file
passed_before file other differ passed = by (ltb file.oldest other.oldest) refl
  where
    number : (b : Bool) → eqb file.oldest other.oldest ≡ b → (c : Bool) → ltb file.no other.no ≡ c → (b && c) ≡ false → other.oldest ≡ file.oldest → other.no < file.no
    number true same true less e is = absurd cc
    number false other true less e is = absurd (eqb-false _ _ other (sym is))
    number true same false less e is = omega (arith, ltb-false _ _ less, differ)
    number false other false less e is = omega (arith, ltb-false _ _ less, differ)

    by : (b : Bool) → ltb file.oldest other.oldest ≡ b → ComesBefore other file
    by true is = let e : true ≡ false = ap (λ b. b || ((file.oldest == other.oldest) && nat_lt file.no other.no)) (sym is) ∙ passed in absurd cc
    by false is = record {
      time = ltb-false _ _ is;
      number = number (eqb file.oldest other.oldest) refl (ltb file.no other.no) refl (ap (λ b. b || ((file.oldest == other.oldest) && nat_lt file.no other.no)) (sym is) ∙ passed);
    }

-- what is stopped at goes behind
pub stopped_behind : (file other : DueFile) → stops_at (stop.Behind file) other ≡ true → ComesBefore file other
stopped_behind file other stopped = by (ltb file.oldest other.oldest) refl
  where
    same : (b : Bool) → eqb file.oldest other.oldest ≡ b → (c : Bool) → ltb file.no other.no ≡ c → (b && c) ≡ true → ComesBefore file other
    same true is true less e = record { time = omega (arith, eqb-true _ _ is); number = λ at. ltb-true _ _ less }
    same true is false less e = absurd cc
    same false is c less e = absurd cc

    by : (b : Bool) → ltb file.oldest other.oldest ≡ b → ComesBefore file other
    by true is = let less = ltb-true _ _ is in record { time = omega (arith, less); number = λ at. absurd (omega (arith, less, at)) }
    by false is = same (eqb file.oldest other.oldest) refl (ltb file.no other.no) refl (ap (λ b. b || ((file.oldest == other.oldest) && nat_lt file.no other.no)) (sym is) ∙ stopped)

pub before_all : (a b : DueFile) → ComesBefore a b → (c : DueFile) → ComesBefore b c → ComesBefore a c
before_all a b ab c bc = record {
  time = let x = ab.time in let y = bc.time in omega arith;
  number = λ same. let x = ab.time in let y = bc.time in let ab_same : a.oldest ≡ b.oldest = omega arith in let bc_same : b.oldest ≡ c.oldest = omega arith in
      let p = ab.number ab_same in let q = bc.number bc_same in omega arith;
}

-- where none has the number, each has another
pub none_linked : (number : ℕ) (files : List DueFile) → is_linked number files ≡ false → All (λ file. file.no ≢ number) files
none_linked number [] none = All-nil (λ file. file.no ≢ number)
none_linked number (file ∷ files) none = by (file.no == number) refl (none_linked number files)
  where
    by : (b : Bool) → (file.no == number) ≡ b → (is_linked number files ≡ false → All (λ other. other.no ≢ number) files) → All (λ other. other.no ≢ number) (file ∷ files)
    by true is rest = let e : true ≡ false = ap (λ b. b || is_linked number files) (sym is) ∙ none in absurd cc
    by false is rest = All-cons (λ other. other.no ≢ number) file files (eqb-false _ _ is) (rest (ap (λ b. b || is_linked number files) (sym is) ∙ none))

-- the first one comes before all others
pub first_is_least : (files : List DueFile) (file : DueFile) → AllPairs ComesBefore files → Some file ≡ slice_get files 0 → All (IsFirst file.no file.oldest) files
first_is_least [] file ordered is = absurd cc
first_is_least (first ∷ files) file ordered is =
    let same : first ≡ file = cc in
    subst (λ (x : DueFile). All (IsFirst x.no x.oldest) (first ∷ files)) same
    (All-cons (IsFirst first.no first.oldest) first files (record { time = omega arith; number = λ same. omega arith })
    (All-weaker (ComesBefore first) (IsFirst first.no first.oldest) (λ other before. record { time = before.time; number = λ same. omega (arith, before.number same) }) files
    (pairs_head ComesBefore first files ordered)))
