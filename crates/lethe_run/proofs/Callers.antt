-- The orders and the lines of each caller, and a phase that is carried out caller by caller.
use Rattle.std.proofs.Common.{◌≡◌, ◌≢◌, ◌⊎◌, ◌≤◌, ◌<◌, inl, inr, ℕ, zero, suc, ◌+◌, Bool, true, false, cond, List, [], ◌∷◌, ◌++◌, map, length, get_or, All, Option, Some, refl, sym, ap, ◌∙◌, subst, arith, append-nil}
use Rattle.std.specs.Prelude.{◌==◌, filter, replicate, slice_set}
use Rattle.std.specs.List.{flat_map, sum_by}
use Rattle.std.proofs.lemmas.Bool.{cases_lt, eq-eqb, eqb-true, ne_eqb}
use Rattle.std.proofs.lemmas.List.{get_or-set_other, get_or-set_same, length-append, length-replicate, length-set}
use Rattle.std.proofs.lemmas.List.Elements.{All-append, All-cons, All-nil, All-set, All-tail, All-weaker, filter-append, filter_passes}
use Rattle.std.proofs.lemmas.List.Sums.{sum_by-append, sum_by-cons}
use Rattle.lethe_disk.specs.declared.disk.Disk.{Ghosts}
use Rattle.lethe_snapshot.specs.declared.snapshot.Snapshot.{Snapshot}
use Rattle.lethe_core.specs.View.{View}
use Rattle.lethe_script.specs.declared.order.Order.{Order}
use Rattle.lethe_script.specs.Slots.{held_through, orders_by}
use Rattle.lethe_run.specs.declared.reply.Line.{Line}
use Rattle.lethe_run.specs.declared.reply.Line.TheVariants as line
use Rattle.lethe_run.specs.Anywhere.{AreTold, Standing, caller_in, standing_of}
use Rattle.lethe_run.specs.Callers.{AreAll, AreFronts, IsCaller, IsPhaseOfAll, each_own}
use Rattle.lethe_run.specs.Ends.{IsFrontByCaller}
use Rattle.lethe_run.specs.Holding.{AreShown, AreTen, held_at, held_for, held_in, slots_for, slots_of}
use Rattle.lethe_run.specs.Rows.{IsStretch}
use Rattle.lethe_run.specs.Slots.{AreInSlots, no_slots}
use Rattle.lethe_run.specs.Transcript.{callers, is_of, places_behind, printed}
use Rattle.lethe_run.proofs.Anywhere.{later_itself, told_wider}
use Rattle.lethe_run.proofs.Calm.{printed_len}
use Rattle.lethe_run.proofs.Holding.{shown_later}
use Rattle.lethe_run.proofs.Rows.{phase_then, told_append}
use Rattle.lethe_run.proofs.Serving.{built_start, phase_of}
use Rattle.lethe_run.proofs.Staying.{in_slots_append}

-- What a test keeps

pub keeps_all : {X : Type 0} (p : X → Bool) (xs : List X) → All (λ x. p x ≡ true) xs → filter p xs ≡ xs
keeps_all p [] all = refl
keeps_all p (x ∷ xs) all = ap (λ b. cond b (x ∷ filter p xs) (filter p xs)) (all 0 x (omega arith)) ∙ ap (λ l. x ∷ l) (keeps_all p xs (All-tail (λ x. p x ≡ true) x xs all))

keeps_none : {X : Type 0} (p : X → Bool) (xs : List X) → All (λ x. p x ≡ false) xs → filter p xs ≡ []
keeps_none p [] all = refl
keeps_none p (x ∷ xs) all = ap (λ b. cond b (x ∷ filter p xs) (filter p xs)) (all 0 x (omega arith)) ∙ keeps_none p xs (All-tail (λ x. p x ≡ false) x xs all)

-- The orders of a caller

-- they are its own
abbrev pub AreOf : ℕ → List Order → Type 0
AreOf caller orders = All (λ (order : Order). order.caller ≡ caller) orders

pub own_of : (caller : ℕ) (orders : List Order) → AreOf caller (orders_by caller orders)
own_of caller orders =
    All-weaker (λ (order : Order). (order.caller == caller) ≡ true) (λ (order : Order). order.caller ≡ caller) (λ order is. eqb-true order.caller caller is) (orders_by caller orders)
    (filter_passes (λ (order : Order). order.caller == caller) orders)

pub by_itself : (caller : ℕ) (orders : List Order) → AreOf caller orders → orders_by caller orders ≡ orders
by_itself caller orders of =
    keeps_all (λ (order : Order). order.caller == caller) orders
    (All-weaker (λ (order : Order). order.caller ≡ caller) (λ (order : Order). (order.caller == caller) ≡ true) (λ order is. eq-eqb order.caller caller is) orders of)

pub by_another : (caller other : ℕ) (orders : List Order) → other ≢ caller → AreOf caller orders → orders_by other orders ≡ []
by_another caller other orders apart of =
    keeps_none (λ (order : Order). order.caller == other) orders
    (All-weaker (λ (order : Order). order.caller ≡ caller) (λ (order : Order). (order.caller == other) ≡ false) (λ order is. ne_eqb order.caller other (λ same. apart (sym same ∙ is))) orders of)

pub by_append : (caller : ℕ) (first second : List Order) → orders_by caller (first ++ second) ≡ orders_by caller first ++ orders_by caller second
by_append caller first second = filter-append (λ (order : Order). order.caller == caller) first second

-- where none has this number, there are none
by_nobody : (caller : ℕ) (orders : List Order) → All (λ (order : Order). order.caller ≢ caller) orders → orders_by caller orders ≡ []
by_nobody caller orders none =
    keeps_none (λ (order : Order). order.caller == caller) orders
    (All-weaker (λ (order : Order). order.caller ≢ caller) (λ (order : Order). (order.caller == caller) ≡ false) (λ order is. ne_eqb order.caller caller is) orders none)

-- The lines of a caller

-- they answer the callers of these orders
pub told_callers : (Ports : Type 0) (from upto : ℕ) (orders : List Order) (s : Standing) (lines : List Line) (t : Standing) → AreTold Ports from upto orders s lines t → map caller_in lines ≡ map (λ (order : Order). order.caller) orders
told_callers Ports from upto [] s [] t told = refl
told_callers Ports from upto [] s (l ∷ lines) t told = absurd told
told_callers Ports from upto (order ∷ orders) s [] t told = absurd told
told_callers Ports from upto (order ∷ orders) s (line.Answer caller reply ∷ lines) t told =
    let first = told.0 in
    let rest = told_callers Ports from upto orders told.1 lines t told.3 in
    λ i. first i ∷ rest i

abbrev pub LinesOf : ℕ → List Line → Type 0
LinesOf caller lines = All (λ line. caller_in line ≡ caller) lines

told_of_caller : (Ports : Type 0) (from upto caller : ℕ) (orders : List Order) (s : Standing) (lines : List Line) (t : Standing) → AreOf caller orders → AreTold Ports from upto orders s lines t → LinesOf caller lines
told_of_caller Ports from upto caller [] s [] t of told = All-nil (λ line. caller_in line ≡ caller)
told_of_caller Ports from upto caller [] s (l ∷ lines) t of told = absurd told
told_of_caller Ports from upto caller (order ∷ orders) s [] t of told = absurd told
told_of_caller Ports from upto caller (order ∷ orders) s (line.Answer by reply ∷ lines) t of told =
    All-cons (λ line. caller_in line ≡ caller) (line.Answer by reply) lines (told.0 ∙ of 0 order (omega arith))
    (told_of_caller Ports from upto caller orders told.1 lines t (All-tail (λ (order : Order). order.caller ≡ caller) order orders of) told.3)

is_of_caller : (caller : ℕ) (l : Line) → caller_in l ≡ caller → is_of caller l ≡ true
is_of_caller caller (line.Answer by reply) is = eq-eqb by caller is

is_of_other : (caller other : ℕ) (l : Line) → other ≢ caller → caller_in l ≡ caller → is_of other l ≡ false
is_of_other caller other (line.Answer by reply) apart is = ne_eqb by other (λ same. apart (sym same ∙ is))

lines_itself : (caller : ℕ) (lines : List Line) → LinesOf caller lines → filter (is_of caller) lines ≡ lines
lines_itself caller lines of = keeps_all (is_of caller) lines (All-weaker (λ line. caller_in line ≡ caller) (λ line. is_of caller line ≡ true) (is_of_caller caller) lines of)

lines_another : (caller other : ℕ) (lines : List Line) → other ≢ caller → LinesOf caller lines → filter (is_of other) lines ≡ []
lines_another caller other lines apart of = keeps_none (is_of other) lines (All-weaker (λ line. caller_in line ≡ caller) (λ line. is_of other line ≡ false) (λ line is. is_of_other caller other line apart is) lines of)

-- Lists of the orders of callers that follow one another: the first list is of the caller behind n

-- each list is a front of its caller's orders
abbrev pub FrontsFrom : ℕ → List Order → List (List Order) → Type 0
FrontsFrom n orders [] = Unit {0}
FrontsFrom n orders (part ∷ parts) = ((rest : List Order) × (orders_by (suc n) orders ≡ part ++ rest)) × FrontsFrom (suc n) orders parts

abbrev pub all_in : List (List Order) → List Order
all_in parts = flat_map (λ (part : List Order). part) parts

front_of_all : {X : Type 0} (P : X → Type 0) (xs ys : List X) → All P (xs ++ ys) → All P xs
front_of_all P [] ys all = All-nil P
front_of_all P (x ∷ xs) ys all = All-cons P x xs (all 0 x (omega arith)) (front_of_all P xs ys (All-tail P x (xs ++ ys) all))

front_is_own : (n : ℕ) (orders part : List Order) → ((rest : List Order) × (orders_by (suc n) orders ≡ part ++ rest)) → AreOf (suc n) part
front_is_own n orders part front =
    front_of_all (λ (order : Order). order.caller ≡ suc n) part front.0 (subst (AreOf (suc n)) front.1 (own_of (suc n) orders))

-- the callers of the lists behind n are above n, and not further than there are lists
above_all : (n : ℕ) (orders : List Order) (parts : List (List Order)) → FrontsFrom n orders parts → All (λ (order : Order). (n < order.caller) × (order.caller ≤ n + length parts)) (all_in parts)
above_all n orders [] fronts = All-nil (λ (order : Order). (n < order.caller) × (order.caller ≤ n + 0))
above_all n orders (part ∷ parts) fronts =
    let size = n + suc (length parts) in
    All-append (λ (order : Order). (n < order.caller) × (order.caller ≤ size)) part (all_in parts)
    (All-weaker (λ (order : Order). order.caller ≡ suc n) (λ (order : Order). (n < order.caller) × (order.caller ≤ size)) (λ order is. (omega (arith, is), omega (arith, is))) part (front_is_own n orders part fronts.0))
    (All-weaker (λ (order : Order). (suc n < order.caller) × (order.caller ≤ suc n + length parts)) (λ (order : Order). (n < order.caller) × (order.caller ≤ size))
    (λ order is. let low = is.0 in let high = is.1 in (omega (arith, low), omega (arith, high))) (all_in parts) (above_all (suc n) orders parts fronts.1))

-- what of them is the first caller's, and what is of the others
own_first : (n : ℕ) (orders part : List Order) (parts : List (List Order)) → FrontsFrom n orders (part ∷ parts) → orders_by (suc n) (part ++ all_in parts) ≡ part
own_first n orders part parts fronts =
    let none = by_nobody (suc n) (all_in parts) (All-weaker (λ (order : Order). (suc n < order.caller) × (order.caller ≤ suc n + length parts)) (λ (order : Order). order.caller ≢ suc n)
    (λ order is same. let low = is.0 in omega (arith, low, same)) (all_in parts) (above_all (suc n) orders parts fronts.1)) in
    by_append (suc n) part (all_in parts) ∙ ap (λ l. orders_by (suc n) part ++ l) none ∙ append-nil (orders_by (suc n) part) ∙ by_itself (suc n) part (front_is_own n orders part fronts.0)

own_later : (n m : ℕ) (orders part : List Order) (parts : List (List Order)) → FrontsFrom n orders (part ∷ parts) → n < m → orders_by (suc m) (part ++ all_in parts) ≡ orders_by (suc m) (all_in parts)
own_later n m orders part parts fronts above =
    by_append (suc m) part (all_in parts) ∙ ap (λ l. l ++ orders_by (suc m) (all_in parts)) (by_another (suc n) (suc m) part (λ same. omega (arith, same, above)) (front_is_own n orders part fronts.0))

-- caller by caller they are as they stand
printed_from : (n : ℕ) (orders all : List Order) (parts : List (List Order)) → FrontsFrom n orders parts → ((m : ℕ) → n ≤ m → orders_by (suc m) all ≡ orders_by (suc m) (all_in parts))
    → flat_map (λ caller. orders_by caller all) (places_behind n (length parts)) ≡ all_in parts
printed_from n orders all [] fronts same = refl
printed_from n orders all (part ∷ parts) fronts same =
    let first = same n (omega arith) ∙ own_first n orders part parts fronts in
    let rest = printed_from (suc n) orders all parts fronts.1 (λ m above. same m (omega (arith, above)) ∙ own_later n m orders part parts fronts (omega (arith, above))) in
    ap (λ l. l ++ flat_map (λ caller. orders_by caller all) (places_behind (suc n) (length parts))) first ∙ ap (λ l. part ++ l) rest

-- and of each caller they have the first
cut_from : (n m : ℕ) (orders : List Order) (parts : List (List Order)) → FrontsFrom n orders parts → n ≤ m → m < n + length parts → (rest : List Order) × (orders_by (suc m) orders ≡ orders_by (suc m) (all_in parts) ++ rest)
cut_from n m orders [] fronts low high = absurd (omega (arith, low, high))
cut_from n m orders (part ∷ parts) fronts low high = elim (cases_lt n m) [
  | inl above ↦
      let later = cut_from (suc n) m orders parts fronts.1 (omega (arith, above)) (omega (arith, high)) in
      (later.0, later.1 ∙ ap (λ l. l ++ later.0) (sym (own_later n m orders part parts fronts above)))
  | inr not ↦
      let is : m ≡ n = omega (arith, not, low) in
      (fronts.0.0, ap (λ m. orders_by (suc m) orders) is ∙ fronts.0.1 ∙ ap (λ l. l ++ fronts.0.0) (sym (ap (λ m. orders_by (suc m) (part ++ all_in parts)) is ∙ own_first n orders part parts fronts)))
]

-- all orders of so many callers

own_fronts : (n k : ℕ) (orders : List Order) → FrontsFrom n orders (map (λ caller. orders_by caller orders) (places_behind n k))
own_fronts n zero orders = tt
own_fronts n (suc k) orders = (([], sym (append-nil (orders_by (suc n) orders))), own_fronts (suc n) k orders)

own_all : (n k m : ℕ) (orders : List Order) → n ≤ m → m < n + k → orders_by (suc m) (all_in (map (λ caller. orders_by caller orders) (places_behind n k))) ≡ orders_by (suc m) orders
own_all n zero m orders low high = absurd (omega (arith, low, high))
own_all n (suc k) m orders low high =
    let rest = map (λ caller. orders_by caller orders) (places_behind (suc n) k) in
    let fronts = own_fronts n (suc k) orders in
    elim (cases_lt n m) [
      | inl above ↦ own_later n m orders (orders_by (suc n) orders) rest fronts above ∙ own_all (suc n) k m orders (omega (arith, above)) (omega (arith, high))
      | inr not ↦
          let is : m ≡ n = omega (arith, not, low) in
          ap (λ m. orders_by (suc m) (orders_by (suc n) orders ++ all_in rest)) is ∙ own_first n orders (orders_by (suc n) orders) rest fronts ∙ ap (λ m. orders_by (suc m) orders) (sym is)
    ]

flat_own : (orders : List Order) (cs : List ℕ) → all_in (map (λ caller. orders_by caller orders) cs) ≡ flat_map (λ caller. orders_by caller orders) cs
flat_own orders [] = refl
flat_own orders (c ∷ cs) = ap (λ l. orders_by c orders ++ l) (flat_own orders cs)

-- one list more
pub fronts_more : (n : ℕ) (orders part rest : List Order) (parts : List (List Order)) → FrontsFrom n orders parts → orders_by (suc (n + length parts)) orders ≡ part ++ rest → FrontsFrom n orders (parts ++ part ∷ [])
fronts_more n orders part rest [] fronts is = ((rest, ap (λ m. orders_by (suc m) orders) (let same : n ≡ n + 0 = omega arith in same) ∙ is), tt)
fronts_more n orders part rest (p ∷ parts) fronts is =
    (fronts.0, fronts_more (suc n) orders part rest parts fronts.1 (ap (λ m. orders_by (suc m) orders) (let same : suc n + length parts ≡ n + suc (length parts) = omega arith in same) ∙ is))

-- the orders of eight callers
pub fronts_of_all : (orders : List Order) (parts : List (List Order)) → All (λ (order : Order). IsCaller order.caller) orders → length parts ≡ 8 → FrontsFrom 0 orders parts → AreFronts orders (all_in parts)
fronts_of_all orders parts are eight fronts = record {
  cut = cut;
  printed = ap (λ n. flat_map (λ caller. orders_by caller (all_in parts)) (places_behind 0 n)) (sym eight) ∙ printed_from 0 orders (all_in parts) parts fronts (λ m above. refl);
  callers = All-weaker (λ (order : Order). (0 < order.caller) × (order.caller ≤ 0 + length parts)) (λ (order : Order). IsCaller order.caller)
      (λ order is. let high = is.1 in record { from = is.0; upto = omega (arith, high, eight) }) (all_in parts) all_above;
}
  where
    all_above : All (λ (order : Order). (0 < order.caller) × (order.caller ≤ 0 + length parts)) (all_in parts)
    all_above = above_all 0 orders parts fronts

    -- nobody else has any
    strange : (caller : ℕ) → (IsCaller caller → ⊥) → orders_by caller orders ≡ orders_by caller (all_in parts) ++ []
    strange caller never =
        by_nobody caller orders (All-weaker (λ (order : Order). IsCaller order.caller) (λ (order : Order). order.caller ≢ caller) (λ order is same. never (subst IsCaller same is)) orders are)
        ∙ sym (append-nil (orders_by caller (all_in parts))
        ∙ by_nobody caller (all_in parts) (All-weaker (λ (order : Order). (0 < order.caller) × (order.caller ≤ 0 + length parts)) (λ (order : Order). order.caller ≢ caller)
        (λ order is same. let low = is.0 in let high = is.1 in never (record { from = omega (arith, low, same); upto = omega (arith, high, eight, same) })) (all_in parts) all_above))

    cut : IsFrontByCaller orders (all_in parts)
    cut zero = ([], strange 0 (λ is. let low = is.from in omega (arith, low)))
    cut (suc m) = elim (cases_lt m 8) [
      | inl below ↦ cut_from 0 m orders parts fronts (omega arith) (omega (arith, below, eight))
      | inr not ↦ ([], strange (suc m) (λ is. let high = is.upto in omega (arith, high, not)))
    ]

-- none of them
pub none_fronts : (orders : List Order) → AreFronts orders []
none_fronts orders = record { cut = λ caller. (orders_by caller orders, refl); printed = refl; callers = All-nil (λ (order : Order). IsCaller order.caller) }

-- where they are all of them
pub all_of_all : (orders : List Order) (parts : List (List Order)) → All (λ (order : Order). IsCaller order.caller) orders → parts ≡ each_own orders → AreAll orders (all_in parts)
all_of_all orders parts are is = record {
  is = ap all_in is ∙ flat_own orders callers;
  by = by;
}
  where
    eight : length parts ≡ 8
    eight = ap length is

    fronts : FrontsFrom 0 orders parts
    fronts = subst (FrontsFrom 0 orders) (sym is) (own_fronts 0 8 orders)

    none : (caller : ℕ) → (IsCaller caller → ⊥) → orders_by caller (all_in parts) ≡ orders_by caller orders
    none caller never =
        by_nobody caller (all_in parts) (All-weaker (λ (order : Order). IsCaller order.caller) (λ (order : Order). order.caller ≢ caller) (λ order is same. never (subst IsCaller same is)) (all_in parts)
        (let whole = fronts_of_all orders parts are eight fronts in whole.callers))
        ∙ sym (by_nobody caller orders (All-weaker (λ (order : Order). IsCaller order.caller) (λ (order : Order). order.caller ≢ caller) (λ order is same. never (subst IsCaller same is)) orders are))

    by : (caller : ℕ) → orders_by caller (all_in parts) ≡ orders_by caller orders
    by zero = none 0 (λ is. let low = is.from in omega (arith, low))
    by (suc m) = elim (cases_lt m 8) [
      | inl below ↦ ap (λ parts. orders_by (suc m) (all_in parts)) is ∙ own_all 0 8 m orders (omega arith) (omega (arith, below))
      | inr not ↦ none (suc m) (λ is. let high = is.upto in omega (arith, high, not))
    ]

-- The lists of all callers, one after another

-- the next one is that of the caller behind those
pub own_next : {X : Type 0} (f : X → List Order) (n k : ℕ) (orders : List Order) (before : List X) (x : X) (rest : List X) → map f (before ++ x ∷ rest) ≡ map (λ caller. orders_by caller orders) (places_behind n k)
    → (f x ≡ orders_by (suc (n + length before)) orders) × (length before < k)
own_next f n zero orders [] x rest are = absurd (let clash : f x ∷ map f rest ≡ [] = are in cc)
own_next f n (suc k) orders [] x rest are =
    let first : f x ≡ orders_by (suc n) orders = cc in
    (first ∙ ap (λ m. orders_by (suc m) orders) (let same : n ≡ n + 0 = omega arith in same), omega arith)
own_next f n zero orders (y ∷ before) x rest are = absurd (let clash : f y ∷ map f (before ++ x ∷ rest) ≡ [] = are in cc)
own_next f n (suc k) orders (y ∷ before) x rest are =
    let tail : map f (before ++ x ∷ rest) ≡ map (λ caller. orders_by caller orders) (places_behind (suc n) k) = cc in
    let later = own_next f (suc n) k orders before x rest tail in
    let within = later.1 in
    (later.0 ∙ ap (λ m. orders_by (suc m) orders) (let same : suc n + length before ≡ n + suc (length before) = omega arith in same), omega (arith, within))

sum_all : {X : Type 0} (f : X → List Order) (xs : List X) → sum_by (λ x. length (f x)) xs ≡ length (all_in (map f xs))
sum_all f [] = refl
sum_all f (x ∷ xs) =
    let whole = length-append (f x) (all_in (map f xs)) in
    omega (arith, whole, sum_by-cons (λ x. length (f x)) x xs, sum_all f xs)

-- together they are no longer than all orders
pub own_fit : {X : Type 0} (f : X → List Order) (orders : List Order) (before : List X) (x : X) (rest : List X) → map f (before ++ x ∷ rest) ≡ each_own orders
    → sum_by (λ x. length (f x)) before + length (f x) ≤ length orders
own_fit f orders before x rest are =
    let all = sum_all f (before ++ x ∷ rest) ∙ ap (λ l. length (all_in l)) are ∙ ap length (flat_own orders callers) in
    let parts = sum_by-append (λ x. length (f x)) before (x ∷ rest) in
    let first = sum_by-cons (λ x. length (f x)) x rest in
    omega (arith, all, parts, first, printed_len orders)

pub own_fit_all : {X : Type 0} (f : X → List Order) (orders : List Order) (all : List X) → map f all ≡ each_own orders → sum_by (λ x. length (f x)) all ≤ length orders
own_fit_all f orders all are =
    let whole = sum_all f all ∙ ap (λ l. length (all_in l)) are ∙ ap length (flat_own orders callers) in
    omega (arith, whole, printed_len orders)

pub next_fronts : (orders part rest : List Order) (parts : List (List Order)) (index : ℕ) → FrontsFrom 0 orders parts → length parts ≡ index → orders_by (suc index) orders ≡ part ++ rest
    → FrontsFrom 0 orders (parts ++ part ∷ []) × (length (parts ++ part ∷ []) ≡ index + 1)
next_fronts orders part rest parts index fronts size is =
    (fronts_more 0 orders part rest parts fronts (ap (λ m. orders_by (suc m) orders) (let same : 0 + length parts ≡ index = omega (arith, size) in same) ∙ is), (let more = length-append parts (part ∷ []) in omega (arith, more, size)))

-- the part of the next caller is its own
pub part_is_own : (index : ℕ) (orders part rest : List Order) → orders_by (suc index) orders ≡ part ++ rest → AreOf (suc index) part
part_is_own index orders part rest is = front_is_own index orders part (rest, is)

pub own_get : (n k index : ℕ) (orders default : List Order) → index < k → get_or (map (λ caller. orders_by caller orders) (places_behind n k)) index default ≡ orders_by (suc (n + index)) orders
own_get n zero index orders default within = absurd (omega (arith, within))
own_get n (suc k) zero orders default within = ap (λ m. orders_by (suc m) orders) (let same : n ≡ n + 0 = omega arith in same)
own_get n (suc k) (suc index) orders default within = own_get (suc n) k index orders default (omega (arith, within)) ∙ ap (λ m. orders_by (suc m) orders) (let same : suc n + index ≡ n + suc index = omega arith in same)

-- one order more isn't of another caller
one_still : (caller : ℕ) (orders : List Order) (order : Order) → order.caller ≢ caller → orders_by caller orders ≡ orders_by caller (orders ++ order ∷ [])
one_still caller orders order apart =
    sym (by_append caller orders (order ∷ []) ∙ ap (λ l. orders_by caller orders ++ l) (by_nobody caller (order ∷ []) (All-cons (λ (order : Order). order.caller ≢ caller) order [] apart (All-nil (λ (order : Order). order.caller ≢ caller))))
    ∙ append-nil (orders_by caller orders))

own_still : (n k : ℕ) (orders : List Order) (order : Order) → order.caller ≤ n → map (λ caller. orders_by caller orders) (places_behind n k) ≡ map (λ caller. orders_by caller (orders ++ order ∷ [])) (places_behind n k)
own_still n zero orders order low = refl
own_still n (suc k) orders order low =
    let first = one_still (suc n) orders order (λ same. omega (arith, same, low)) in
    let rest = own_still (suc n) k orders order (omega (arith, low)) in
    λ i. first i ∷ rest i

-- one order more, in the list of its caller
pub own_set : (n k index : ℕ) (orders : List Order) (order : Order) → index < k → order.caller ≡ suc (n + index)
    → slice_set (map (λ caller. orders_by caller orders) (places_behind n k)) index (orders_by (suc (n + index)) orders ++ order ∷ []) ≡ map (λ caller. orders_by caller (orders ++ order ∷ [])) (places_behind n k)
own_set n zero index orders order within is = absurd (omega (arith, within))
own_set n (suc k) zero orders order within is =
    let at : order.caller ≡ suc n = omega (arith, is) in
    let first : orders_by (suc (n + 0)) orders ++ order ∷ [] ≡ orders_by (suc n) (orders ++ order ∷ []) =
    ap (λ m. orders_by (suc m) orders ++ order ∷ []) (let same : n + 0 ≡ n = omega arith in same)
    ∙ sym (by_append (suc n) orders (order ∷ []) ∙ ap (λ l. orders_by (suc n) orders ++ l) (by_itself (suc n) (order ∷ []) (All-cons (λ (order : Order). order.caller ≡ suc n) order [] at (All-nil (λ (order : Order). order.caller ≡ suc n))))) in
    let rest = own_still (suc n) k orders order (omega (arith, at)) in
    λ i. first i ∷ rest i
own_set n (suc k) (suc index) orders order within is =
    let at : order.caller ≡ suc (suc n + index) = omega (arith, is) in
    let first = one_still (suc n) orders order (λ same. omega (arith, same, is)) in
    let rest = own_set (suc n) k index orders order (omega (arith, within)) at in
    λ i. first i ∷ (ap (λ m. slice_set (map (λ caller. orders_by caller orders) (places_behind (suc n) k)) index (orders_by (suc m) orders ++ order ∷ [])) (let same : n + suc index ≡ suc n + index = omega arith in same) ∙ rest) i

-- Where they are all of one caller

none_in : (k : ℕ) → all_in (replicate k []) ≡ []
none_in zero = refl
none_in (suc k) = none_in k

none_from : (n k : ℕ) (orders : List Order) → FrontsFrom n orders (replicate k [])
none_from n zero orders = tt
none_from n (suc k) orders = ((orders_by (suc n) orders, refl), none_from (suc n) k orders)

-- so many lists, of which the one at an index isn't empty
abbrev alone : (k index : ℕ) → List Order → List (List Order)
alone zero index part = []
alone (suc k) zero part = part ∷ replicate k []
alone (suc k) (suc index) part = [] ∷ alone k index part

alone_len : (k index : ℕ) (part : List Order) → length (alone k index part) ≡ k
alone_len zero index part = refl
alone_len (suc k) zero part = ap suc (length-replicate k [])
alone_len (suc k) (suc index) part = ap suc (alone_len k index part)

alone_in : (k index : ℕ) (part : List Order) → index < k → all_in (alone k index part) ≡ part
alone_in zero index part within = absurd (omega (arith, within))
alone_in (suc k) zero part within = ap (λ l. part ++ l) (none_in k) ∙ append-nil part
alone_in (suc k) (suc index) part within = alone_in k index part (omega (arith, within))

alone_from : (n k index : ℕ) (orders part rest : List Order) → orders_by (suc (n + index)) orders ≡ part ++ rest → FrontsFrom n orders (alone k index part)
alone_from n zero index orders part rest is = tt
alone_from n (suc k) zero orders part rest is = ((rest, ap (λ m. orders_by (suc m) orders) (let same : n ≡ n + 0 = omega arith in same) ∙ is), none_from (suc n) k orders)
alone_from n (suc k) (suc index) orders part rest is =
    ((orders_by (suc n) orders, refl), alone_from (suc n) k index orders part rest (ap (λ m. orders_by (suc m) orders) (let same : suc n + index ≡ n + suc index = omega arith in same) ∙ is))

pub fronts_alone : (index : ℕ) (orders part rest : List Order) → index < 8 → AreOf (suc index) orders → orders ≡ part ++ rest → AreFronts orders part
fronts_alone index orders part rest within of is =
    subst (AreFronts orders) (alone_in 8 index part within)
    (fronts_of_all orders (alone 8 index part)
    (All-weaker (λ (order : Order). order.caller ≡ suc index) (λ (order : Order). IsCaller order.caller) (λ order same. record { from = omega (arith, same); upto = omega (arith, same, within) }) orders of)
    (alone_len 8 index part) (alone_from 0 8 index orders part rest (ap (λ m. orders_by (suc m) orders) (let same : 0 + index ≡ index = omega arith in same) ∙ by_itself (suc index) orders of ∙ is)))

pub all_alone : (orders part : List Order) → AreFronts orders part → part ≡ orders → AreAll orders part
all_alone orders part fronts is = record { is = sym fronts.printed ∙ ap printed is; by = λ caller. ap (orders_by caller) is }

-- A phase, caller by caller

module _ {D Page Port : Type 0} {kind : Ghosts D Page Port} (Tells Ports : Type 0) where
  pub phase_none : (view : View) (held : List (List (Option (Snapshot D Page Port kind)))) → IsPhaseOfAll Tells Ports [] [] view held view held
  phase_none view held = record {
    told = later_itself (standing_of view);
    slots = λ caller. refl;
    served = λ told begin from start on shown. (start, phase_of Ports begin from start start [] [] view view on (built_start Ports begin start view), shown);
    faults = omega arith;
  }

  -- the stretch of one more caller
  module _ (first part : List Order) (lines more : List Line) (old mid new : View) (was between : List (List (Option (Snapshot D Page Port kind)))) (next : List (Option (Snapshot D Page Port kind))) (index : ℕ) (within : index < length between) (own : AreOf (suc index) part) where
    slots_so : (caller : ℕ) → LinesOf (suc index) more → AreInSlots (orders_by caller first) (slots_for caller was) (filter (is_of caller) lines) (slots_for caller between) → AreInSlots part (slots_of (held_at between index)) more (slots_of next)
        → AreInSlots (orders_by caller first ++ orders_by caller part) (slots_for caller was) (filter (is_of caller) lines ++ filter (is_of caller) more) (slots_for caller (slice_set between index next))
    slots_so zero of a b =
        let no_orders = by_another (suc index) 0 part (λ same. omega (arith, same)) own in
        let no_lines = lines_another (suc index) 0 more (λ same. omega (arith, same)) of in
        in_slots_append (orders_by 0 first) (orders_by 0 part) no_slots no_slots no_slots (filter (is_of 0) lines) (filter (is_of 0) more) a (rw (no_orders, no_lines) refl)
    slots_so (suc i) of a b = elim (decided (i == index) refl) [
      | inl same ↦
          let here = by_itself (suc index) part own in
          let there = lines_itself (suc index) more of in
          in_slots_append (orders_by (suc i) first) (orders_by (suc i) part) (slots_for (suc i) was) (slots_for (suc i) between) (slots_for (suc i) (slice_set between index next)) (filter (is_of (suc i)) lines) (filter (is_of (suc i)) more) a
          (subst (λ i. AreInSlots (orders_by (suc i) part) (slots_for (suc i) between) (filter (is_of (suc i)) more) (slots_for (suc i) (slice_set between index next))) (sym same)
          (rw (here, there, get_or-set_same between index next _ within) b))
      | inr apart ↦
          let no_orders = by_another (suc index) (suc i) part (λ same. apart (omega (arith, same))) own in
          let no_lines = lines_another (suc index) (suc i) more (λ same. apart (omega (arith, same))) of in
          in_slots_append (orders_by (suc i) first) (orders_by (suc i) part) (slots_for (suc i) was) (slots_for (suc i) between) (slots_for (suc i) (slice_set between index next)) (filter (is_of (suc i)) lines) (filter (is_of (suc i)) more) a
          (rw (no_orders, no_lines) (ap slots_of (get_or-set_other between index i next _ apart)))
    ]
      where
        decided : (b : Bool) → (i == index) ≡ b → (i ≡ index) ⊎ (i ≢ index)
        decided true is = inl (eqb-true i index is)
        decided false is = inr (λ same. let clash : true ≡ false = sym (eq-eqb i index same) ∙ is in cc)

    pub phase_more : IsPhaseOfAll Tells Ports first lines old was mid between → IsStretch Tells Ports part more mid (held_at between index) new next → IsPhaseOfAll Tells Ports (first ++ part) (lines ++ more) old was new (slice_set between index next)
    phase_more a b =
        let up = a.faults in
        let on_up = b.faults in
        let of = told_of_caller Ports mid.faults new.faults (suc index) part (standing_of mid) more (standing_of new) own b.told in
        record {
          told = told_append Ports old.faults new.faults first part (standing_of old) (standing_of mid) (standing_of new) lines more
              (told_wider Ports old.faults mid.faults old.faults new.faults (omega arith) on_up first (standing_of old) lines (standing_of mid) a.told)
              (told_wider Ports mid.faults new.faults old.faults new.faults up (omega arith) part (standing_of mid) more (standing_of new) b.told);
          slots = λ caller.
              subst (λ orders. AreInSlots orders (slots_for caller was) (filter (is_of caller) (lines ++ more)) (slots_for caller (slice_set between index next))) (sym (by_append caller first part))
              (subst (λ ls. AreInSlots (orders_by caller first ++ orders_by caller part) (slots_for caller was) ls (slots_for caller (slice_set between index next))) (sym (filter-append (is_of caller) lines more)) (slots_so caller of (a.slots caller) b.slots));
          served = λ told begin from start on shown.
              let so_far = a.served told begin from start on shown in
              let h = so_far.0 in
              let then = b.served told begin from h (so_far.1.goes.stands from on) (so_far.2 index _ within) in
              let g = then.0 in
              let begins = then.1.served.begins in
              let later : All (AreShown g) between =
              All-weaker (AreShown h) (AreShown g) (λ (held : List (Option (Snapshot D Page Port kind))) shown. subst (λ g. AreShown g held) (sym begins.1) (shown_later held h begins.0 shown)) between so_far.2 in
              (g, phase_then Ports begin from start h g first part lines more old mid new on_up on so_far.1 then.1, All-set (AreShown g) between index next then.2 later);
          faults = omega (arith, up, on_up);
        }

-- The slots of one caller change

module _ {D Page Port : Type 0} {kind : Ghosts D Page Port} (held : List (List (Option (Snapshot D Page Port kind)))) (index : ℕ) (next : List (Option (Snapshot D Page Port kind))) where
  pub held_other : (caller : ℕ) → caller ≢ suc index → held_for caller (slice_set held index next) ≡ held_for caller held
  held_other zero apart = refl
  held_other (suc i) apart = ap held_in (get_or-set_other held index i next _ (λ same. apart (omega (arith, same))))

  pub held_same : index < length held → held_for (suc index) (slice_set held index next) ≡ held_in next
  held_same within = ap held_in (get_or-set_same held index next _ within)

  pub ten_more : AreTen held → length next ≡ 10 → AreTen (slice_set held index next)
  ten_more tens ten = record { eight = length-set held index next ∙ tens.eight; ten = All-set (λ own. length own ≡ 10) held index next ten tens.ten }

-- nobody has the number 0
pub none_of_nobody : {D Page Port : Type 0} {kind : Ghosts D Page Port} (orders : List Order) (held : List (List (Option (Snapshot D Page Port kind)))) (caller : ℕ) → All (λ (order : Order). IsCaller order.caller) orders → caller ≤ 0
    → held_through (orders_by caller orders) (held_for caller held) ≡ Some (held_for caller held)
none_of_nobody orders held zero are low =
    ap (λ l. held_through l (held_for zero held))
    (by_nobody 0 orders (All-weaker (λ (order : Order). IsCaller order.caller) (λ (order : Order). order.caller ≢ 0) (λ order is same. let from = is.from in omega (arith, from, same)) orders are))
none_of_nobody orders held (suc caller) are low = absurd (omega (arith, low))

-- where it is above eight, too
pub none_of_strange : (orders : List Order) (caller : ℕ) → All (λ (order : Order). IsCaller order.caller) orders → 8 < caller → orders_by caller orders ≡ []
none_of_strange orders caller are above =
    by_nobody caller orders (All-weaker (λ (order : Order). IsCaller order.caller) (λ (order : Order). order.caller ≢ caller) (λ order is same. let upto = is.upto in omega (arith, upto, same, above)) orders are)

-- what stands at an index, seen by f
pub seen_at : {X Y : Type 0} (f : X → Y) (xs : List X) (index : ℕ) (x : X) (default : Y) → index < length xs → x ≡ get_or xs index x → f x ≡ get_or (map f xs) index default
seen_at f [] index x default within is = absurd (omega (arith, within))
seen_at f (y ∷ xs) zero x default within is = ap f is
seen_at f (y ∷ xs) (suc index) x default within is = seen_at f xs index x default (omega (arith, within)) is
