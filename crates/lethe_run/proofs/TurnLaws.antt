-- What the one order of a phase's lines comes to: with one caller, and for the pins.
use Rattle.std.proofs.Common.{◌≡◌, ◌≢◌, ◌⊎◌, ◌≤◌, ◌<◌, inl, inr, ℕ, zero, suc, ◌+◌, Bool, true, false, cond, List, [], ◌∷◌, ◌++◌, length, replicate, All, Option, Some, None, refl, sym, ap, ◌∙◌, subst, arith, append_assoc, append-nil}
use Rattle.std.specs.Prelude.{◌==◌, not, nat_lt, filter, filter_map, slice_index_or, slice_set, Contains, IsPermutation}
use Rattle.std.specs.List.{cons_option, flat_map}
use Rattle.std.proofs.lemmas.Bool.{cases_lt, eq-eqb, eqb-true}
use Rattle.std.proofs.lemmas.Grind.{flat_map-append}
use Rattle.std.proofs.lemmas.List.Elements.{All-cons, All-contains, All-contains_itself, All-filter, All-head, All-nil, All-tail, All-weaker, Contains-append_cases, Contains-append_left, Contains-append_right, filter-append, filter_map-append, filter_passes}
use Rattle.std.proofs.lemmas.List.Sorted.{IsPermutation-cons, IsPermutation-middle, IsPermutation-refl, IsPermutation-sym, IsPermutation-trans, length_permutation}
use Rattle.lethe_base.specs.declared.config.Fields.{Fields}
use Rattle.lethe_core.specs.View.{Limited}
use Rattle.lethe_pins.specs.Held.{placed_by}
use Rattle.lethe_script.specs.declared.order.Act.{Act}
use Rattle.lethe_script.specs.declared.order.Order.{Order}
use Rattle.lethe_script.specs.Slots.{orders_by}
use Rattle.lethe_run.specs.declared.reply.Line.{Line}
use Rattle.lethe_run.specs.declared.reply.Line.TheVariants as line
use Rattle.lethe_run.specs.declared.reply.Reply.{Reply}
use Rattle.lethe_run.specs.declared.reply.Reply.TheVariants.{Done, Ticked, Got, Scanned, Counted, Pinned, PinGot, PinScanned, Unpinned, Fault, Stopped, Exhausted, Backwards, Barred, ReadFault, Damaged}
use Rattle.lethe_run.specs.Anywhere.{AreTold, AreToldThrough, IsPlausible, Standing, caller_in}
use Rattle.lethe_run.specs.Callers.{IsCaller}
use Rattle.lethe_run.specs.PinLaws.{IsAt, MayBeHeld, MayComeBefore, MustComeBefore, number_in, numbers_in}
use Rattle.lethe_run.specs.Pins.{InPins, Pins, no_pins, with_pin, without_pin}
use Rattle.lethe_run.specs.Refusals.{all_of}
use Rattle.lethe_run.specs.Slots.{AreInSlots, InSlots, Pin, Slots, no_slots, pin_in}
use Rattle.lethe_run.specs.Transcript.{AreTurned, is_of, places_behind, printed}
use Rattle.lethe_run.proofs.Callers.{AreOf, by_another, by_itself, keeps_all}

-- Elements of lists

contains_here : {X : Type 0} (x : X) (xs : List X) → Contains (x ∷ xs) x
contains_here x xs = (0, omega arith, refl)

contains_later : {X : Type 0} (y : X) (xs : List X) (x : X) → Contains xs x → Contains (y ∷ xs) x
contains_later y xs x has = Contains-append_right (y ∷ []) xs x has

first_or_later : {X : Type 0} (y : X) (xs : List X) (x : X) → Contains (y ∷ xs) x → (y ≡ x) ⊎ Contains xs x
first_or_later {X} y xs x has = by has.0 has.1 has.2
  where
    by : (k : ℕ) → k < suc (length xs) → slice_index_or (y ∷ xs) k x ≡ x → (y ≡ x) ⊎ Contains xs x
    by zero within is = inl is
    by (suc k) within is = inr (k, omega (arith, within), is)

has_none : {X : Type 0} (x : X) → Contains [] x → ⊥
has_none x has = let within = has.1 in omega (arith, within)

contains_filtered : {X : Type 0} (p : X → Bool) (xs : List X) (x : X) → Contains (filter p xs) x → Contains xs x
contains_filtered p xs x has = All-contains (Contains xs) (filter p xs) x (All-filter p (Contains xs) xs (All-contains_itself xs)) has

filter_contains : {X : Type 0} (p : X → Bool) (xs : List X) (x : X) → p x ≡ true → Contains xs x → Contains (filter p xs) x
filter_contains p [] x passes has = absurd (has_none x has)
filter_contains {X} p (y ∷ xs) x passes has = elim (first_or_later y xs x has) [
  | inl same ↦ subst (λ l. Contains l x) (sym (ap (λ b. cond b (y ∷ filter p xs) (filter p xs)) (ap p same ∙ passes))) (0, omega arith, same)
  | inr later ↦ by (p y) (filter_contains p xs x passes later)
]
  where
    by : (b : Bool) → Contains (filter p xs) x → Contains (cond b (y ∷ filter p xs) (filter p xs)) x
    by true has = contains_later y (filter p xs) x has
    by false has = has

-- a list, cut at an element
pub record IsCut {X : Type 0} (xs : List X) (x : X) : Type 0 where
  pub front : List X
  pub behind : List X
  pub are : xs ≡ front ++ x ∷ behind

cut_at : {X : Type 0} (xs : List X) (x : X) → Contains xs x → IsCut xs x
cut_at [] x has = absurd (has_none x has)
cut_at (y ∷ xs) x has = elim (first_or_later y xs x has) [
  | inl same ↦ record { front = []; behind = xs; are = ap (λ y. y ∷ xs) same }
  | inr later ↦ let rest = cut_at xs x later in record { front = y ∷ rest.front; behind = rest.behind; are = ap (λ l. y ∷ l) rest.are }
]

-- and cut where what passes a test is cut so
pub record IsCutSo {X : Type 0} (p : X → Bool) (xs front : List X) (x : X) (behind : List X) : Type 0 where
  pub first : List X
  pub rest : List X
  pub are : xs ≡ first ++ x ∷ rest
  pub fronts : filter p first ≡ front
  pub behinds : filter p rest ≡ behind

cut_so : {X : Type 0} (p : X → Bool) (xs front : List X) (x : X) (behind : List X) → filter p xs ≡ front ++ x ∷ behind → IsCutSo p xs front x behind
cut_so p [] [] x behind are = absurd (let clash : [] ≡ x ∷ behind = are in cc)
cut_so p [] (f ∷ front) x behind are = absurd (let clash : [] ≡ f ∷ (front ++ x ∷ behind) = are in cc)
cut_so {X} p (y ∷ ys) front x behind are = by (λ front are. cut_so p ys front x behind are) (p y) front refl are
  where
    by : ((front : List X) → filter p ys ≡ front ++ x ∷ behind → IsCutSo p ys front x behind)
        → (b : Bool) (front : List X) → p y ≡ b → cond b (y ∷ filter p ys) (filter p ys) ≡ front ++ x ∷ behind → IsCutSo p (y ∷ ys) front x behind
    by later true [] passes are =
        let same : y ≡ x = cc in
        let rest : filter p ys ≡ behind = cc in
        record { first = []; rest = ys; are = ap (λ y. y ∷ ys) same; fronts = refl; behinds = rest }
    by later true (f ∷ front) passes are =
        let same : y ≡ f = cc in
        let rest : filter p ys ≡ front ++ x ∷ behind = cc in
        let cut = later front rest in
        record {
          first = y ∷ cut.first;
          rest = cut.rest;
          are = ap (λ l. y ∷ l) cut.are;
          fronts = ap (λ b. cond b (y ∷ filter p cut.first) (filter p cut.first)) passes ∙ ap (λ l. y ∷ l) cut.fronts ∙ ap (λ y. y ∷ front) same;
          behinds = cut.behinds;
        }
    by later false front passes are =
        let cut = later front are in
        record {
          first = y ∷ cut.first;
          rest = cut.rest;
          are = ap (λ l. y ∷ l) cut.are;
          fronts = ap (λ b. cond b (y ∷ filter p cut.first) (filter p cut.first)) passes ∙ cut.fronts;
          behinds = cut.behinds;
        }

-- Lists of which each key has the same elements in the same order

module _ {X : Type 0} (key : X → ℕ) (p : ℕ → X → Bool) (passes : (x : X) → p (key x) x ≡ true) (xs ys : List X) (same : (k : ℕ) → filter (p k) ys ≡ filter (p k) xs) where
  same_has : (x : X) → Contains ys x → Contains xs x
  same_has x has = contains_filtered (p (key x)) xs x (subst (λ l. Contains l x) (same (key x)) (filter_contains (p (key x)) ys x (passes x) has))

  one_key : (k : ℕ) → All (λ x. key x ≡ k) xs → ys ≡ xs
  one_key k own = sym (itself ys own_too) ∙ same k ∙ itself xs own
    where
      own_too : All (λ x. key x ≡ k) ys
      own_too = All-weaker (Contains ys) (λ x. key x ≡ k) (λ x has. All-contains (λ x. key x ≡ k) xs x own (same_has x has)) ys (All-contains_itself ys)

      itself : (l : List X) → All (λ x. key x ≡ k) l → filter (p k) l ≡ l
      itself l own = keeps_all (p k) l (All-weaker (λ x. key x ≡ k) (λ x. p k x ≡ true) (λ x is. ap (λ k. p k x) (sym is) ∙ passes x) l own)

-- what is read off both has the same elements
module _ {X Y : Type 0} (key : X → ℕ) (p : ℕ → X → Bool) (passes : (x : X) → p (key x) x ≡ true) (only : (k : ℕ) (x : X) → p k x ≡ true → key x ≡ k) (h : X → Option Y) where
  -- without the first of a key
  less : (x : X) (ys first rest : List X) (k : ℕ) → filter (p (key x)) first ≡ [] → filter (p k) (x ∷ ys) ≡ filter (p k) (first ++ x ∷ rest) → filter (p k) ys ≡ filter (p k) (first ++ rest)
  less x ys first rest k none same = by (p k x) refl (same ∙ filter-append (p k) first (x ∷ rest)) ∙ sym (filter-append (p k) first rest)
    where
      by : (b : Bool) → p k x ≡ b → cond b (x ∷ filter (p k) ys) (filter (p k) ys) ≡ filter (p k) first ++ cond b (x ∷ filter (p k) rest) (filter (p k) rest) → filter (p k) ys ≡ filter (p k) first ++ filter (p k) rest
      by true is same =
          let no : filter (p k) first ≡ [] = subst (λ k. filter (p k) first ≡ []) (only k x is) none in
          let whole : x ∷ filter (p k) ys ≡ x ∷ filter (p k) rest = same ∙ ap (λ l. l ++ x ∷ filter (p k) rest) no in
          let tail : filter (p k) ys ≡ filter (p k) rest = cc in
          tail ∙ sym (ap (λ l. l ++ filter (p k) rest) no)
      by false is same = same

  permuted : (o : Option Y) (ys first rest : List Y) → IsPermutation ys (first ++ rest) → IsPermutation (cons_option o ys) (first ++ cons_option o rest)
  permuted None ys first rest same = same
  permuted (Some y) ys first rest same =
      IsPermutation-trans (y ∷ ys) (y ∷ (first ++ rest)) (first ++ y ∷ rest) (IsPermutation-cons y ys (first ++ rest) same) (IsPermutation-sym (first ++ y ∷ rest) (y ∷ (first ++ rest)) (IsPermutation-middle first y rest))

  read_off : (ys xs : List X) → ((k : ℕ) → filter (p k) ys ≡ filter (p k) xs) → IsPermutation (filter_map h ys) (filter_map h xs)
  read_off [] [] same = IsPermutation-refl []
  read_off [] (x ∷ xs) same = absurd (has_none x (same_has key p passes [] (x ∷ xs) (λ k. sym (same k)) x (contains_here x xs)))
  read_off (y ∷ ys) xs same =
      let cut = cut_so (p (key y)) xs [] y (filter (p (key y)) ys) (sym (same (key y)) ∙ ap (λ b. cond b (y ∷ filter (p (key y)) ys) (filter (p (key y)) ys)) (passes y)) in
      let later = read_off ys (cut.first ++ cut.rest) (λ k. less y ys cut.first cut.rest k cut.fronts (same k ∙ ap (filter (p k)) cut.are)) in
      subst (IsPermutation (cons_option (h y) (filter_map h ys))) (sym (ap (filter_map h) cut.are ∙ filter_map-append h cut.first (y ∷ cut.rest)))
      (permuted (h y) (filter_map h ys) (filter_map h cut.first) (filter_map h cut.rest) (subst (IsPermutation (filter_map h ys)) (filter_map-append h cut.first cut.rest) later))

own_line : (l : Line) → is_of (caller_in l) l ≡ true
own_line (line.Answer caller reply) = eq-eqb caller caller refl

only_line : (caller : ℕ) (l : Line) → is_of caller l ≡ true → caller_in l ≡ caller
only_line caller (line.Answer other reply) is = eqb-true other caller is

turned_has : (lines turned : List Line) → AreTurned lines turned → (l : Line) → Contains turned l → Contains lines l
turned_has lines turned are = same_has caller_in is_of own_line lines turned are

printed_has : (lines turned : List Line) → AreTurned lines turned → (l : Line) → Contains lines l → Contains turned l
printed_has lines turned are = same_has caller_in is_of own_line turned lines (λ caller. sym (are caller))

-- One caller's lines and orders

pub one_order_of_lines : (lines turned : List Line) (caller : ℕ) → All (λ line. caller_in line ≡ caller) lines → AreTurned lines turned → turned ≡ lines
one_order_of_lines lines turned caller own are = one_key caller_in is_of own_line lines turned are caller own

pub one_order_of_orders : (orders asked : List Order) (caller : ℕ) → AreOf caller orders → ((other : ℕ) → orders_by other asked ≡ orders_by other orders) → asked ≡ orders
one_order_of_orders orders asked caller own are =
    one_key (λ (order : Order). order.caller) (λ caller (order : Order). order.caller == caller) (λ order. eq-eqb order.caller order.caller refl) orders asked are caller own

printed_none : (n k caller : ℕ) (orders : List Order) → AreOf caller orders → caller ≤ n → flat_map (λ caller. orders_by caller orders) (places_behind n k) ≡ []
printed_none n zero caller orders own low = refl
printed_none n (suc k) caller orders own low =
    let none = by_another caller (suc n) orders (λ same. omega (arith, same, low)) own in
    ap (λ l. l ++ flat_map (λ caller. orders_by caller orders) (places_behind (suc n) k)) none ∙ printed_none (suc n) k caller orders own (omega (arith, low))

printed_own : (n k caller : ℕ) (orders : List Order) → AreOf caller orders → n < caller → caller ≤ n + k → flat_map (λ caller. orders_by caller orders) (places_behind n k) ≡ orders
printed_own n zero caller orders own low high = absurd (omega (arith, low, high))
printed_own n (suc k) caller orders own low high = elim (cases_lt (suc n) caller) [
  | inl above ↦
      let none = by_another caller (suc n) orders (λ same. omega (arith, same, above)) own in
      ap (λ l. l ++ flat_map (λ caller. orders_by caller orders) (places_behind (suc n) k)) none ∙ printed_own (suc n) k caller orders own above (omega (arith, high))
  | inr not ↦
      let is : suc n ≡ caller = omega (arith, not, low) in
      ap (λ l. orders_by (suc n) orders ++ l) (printed_none (suc n) k caller orders own not) ∙ append-nil (orders_by (suc n) orders) ∙ ap (λ c. orders_by c orders) is ∙ by_itself caller orders own
]

pub one_order_printed : (orders : List Order) (caller : ℕ) → IsCaller caller → AreOf caller orders → printed orders ≡ orders
one_order_printed orders caller is own = printed_own 0 8 caller orders own is.from (let high = is.upto in omega (arith, high))

-- The pins along lines

abbrev pub PinsAlong : Pins → List Line → Pins → Type 0
PinsAlong s [] t = t ≡ s
PinsAlong s (line.Answer caller reply ∷ lines) t = (middle : Pins) × InPins reply s middle × PinsAlong middle lines t

-- behind the first lines
pub record PinsParted (s : Pins) (lines more : List Line) (t : Pins) : Type 0 where
  pub middle : Pins
  pub first : PinsAlong s lines middle
  pub then : PinsAlong middle more t

part_along : (s : Pins) (lines more : List Line) (t : Pins) → PinsAlong s (lines ++ more) t → PinsParted s lines more t
part_along s [] more t along = record { middle = s; first = refl; then = along }
part_along s (line.Answer caller reply ∷ lines) more t along =
    let rest = part_along along.0 lines more t along.2 in
    record { middle = rest.middle; first = (along.0, along.1, rest.first); then = rest.then }

join_along : (s : Pins) (lines : List Line) (m : Pins) (more : List Line) (t : Pins) → PinsAlong s lines m → PinsAlong m more t → PinsAlong s (lines ++ more) t
join_along s [] m more t first then = subst (λ m. PinsAlong m more t) first then
join_along s (line.Answer caller reply ∷ lines) m more t first then = (first.0, first.1, join_along first.0 lines m more t first.2 then)

-- a reply makes a pin, lets one go, or leaves them
abbrev IsMaking : Reply → Pins → Pins → Type 0
IsMaking reply s t = (point : ℕ) × (limit : ℕ) × (reply ≡ Pinned point (s.made + 1) limit) × (t ≡ with_pin limit s)

abbrev IsLettingGo : Pins → Pins → Type 0
IsLettingGo s t = (number : ℕ) × (t ≡ without_pin number s)

one_of_three : (reply : Reply) (s t : Pins) → InPins reply s t → IsMaking reply s t ⊎ (IsLettingGo s t ⊎ (t ≡ s))
one_of_three (Pinned point number limit) s t is = inl (point, limit, ap (λ n. Pinned point n limit) is.0, is.1)
one_of_three (Unpinned point number) s t is = inr (inl (number, is))
one_of_three (Barred number limit) s t is = inr (inr is.2)
one_of_three (Ticked ticked) s t is = inr (inr is.1)
one_of_three (Counted point stat) s t is = inr (inr is.1)
one_of_three (PinGot number point found) s t is = inr (inr is)
one_of_three (PinScanned number point pairs) s t is = inr (inr is)
one_of_three (Done place) s t is = inr (inr is)
one_of_three (Got point found) s t is = inr (inr is)
one_of_three (Scanned point pairs) s t is = inr (inr is)
one_of_three (Fault place before after) s t is = inr (inr is)
one_of_three (Stopped at) s t is = inr (inr is)
one_of_three (Exhausted last) s t is = inr (inr is)
one_of_three (Backwards point clock) s t is = inr (inr is)
one_of_three ReadFault s t is = inr (inr is)
one_of_three (Damaged page) s t is = inr (inr is)

all_placed : {X : Type 0} (P : X → Type 0) (limit_of : X → ℕ) (x : X) (xs : List X) → P x → All P xs → All P (placed_by limit_of x xs)
all_placed P limit_of x [] one all = All-cons P x [] one all
all_placed {X} P limit_of x (y ∷ xs) one all = by (nat_lt (limit_of x) (limit_of y)) (all_placed P limit_of x xs one (All-tail P y xs all))
  where
    by : (b : Bool) → All P (placed_by limit_of x xs) → All P (cond b (x ∷ y ∷ xs) (y ∷ placed_by limit_of x xs))
    by true later = All-cons P x (y ∷ xs) one all
    by false later = All-cons P y (placed_by limit_of x xs) (All-head P y xs all) later

-- each pin that is held was made by a line
held_are_made : (Q : Limited → Type 0) (s : Pins) (lines : List Line) (t : Pins) → PinsAlong s lines t → All Q s.held
    → ((caller point number limit : ℕ) → Contains lines (line.Answer caller (Pinned point number limit)) → Q (record { number = number; limit = limit })) → All Q t.held
held_are_made Q s [] t along all made = subst (λ (p : Pins). All Q p.held) (sym along) all
held_are_made Q s (line.Answer caller reply ∷ lines) t along all made =
    held_are_made Q along.0 lines t along.2 next (λ by point number limit has. made by point number limit (contains_later (line.Answer caller reply) lines (line.Answer by (Pinned point number limit)) has))
  where
    next : All Q along.0.held
    next = elim (one_of_three reply s along.0 along.1) [
      | inl making ↦
          let it : Q (record { number = s.made + 1; limit = making.1 }) = made caller making.0 (s.made + 1) making.1 (0, omega arith, ap (line.Answer caller) making.2) in
          subst (λ (p : Pins). All Q p.held) (sym making.3) (all_placed Q (λ (pin : Limited). pin.limit) (record { number = s.made + 1; limit = making.1 }) s.held it all)
      | inr other ↦ elim other [
        | inl letting ↦ subst (λ (p : Pins). All Q p.held) (sym letting.1) (All-filter (λ (pin : Limited). not (pin.number == letting.0)) Q s.held all)
        | inr same ↦ subst (λ (p : Pins). All Q p.held) (sym same) all
      ]
    ]

-- The numbers that were given

made_next : (reply : Reply) (s t : Pins) → InPins reply s t → s.made ≤ t.made
made_next reply s t is = elim (one_of_three reply s t is) [
  | inl making ↦ let more = ap (λ (p : Pins). p.made) making.3 in omega (arith, more)
  | inr other ↦ elim other [
    | inl letting ↦ let same = ap (λ (p : Pins). p.made) letting.1 in omega (arith, same)
    | inr same ↦ let same = ap (λ (p : Pins). p.made) same in omega (arith, same)
  ]
]

made_along : (s : Pins) (lines : List Line) (t : Pins) → PinsAlong s lines t → s.made ≤ t.made
made_along s [] t along = let same = ap (λ (p : Pins). p.made) along in omega (arith, same)
made_along s (line.Answer caller reply ∷ lines) t along =
    let first = made_next reply s along.0 along.1 in
    let rest = made_along along.0 lines t along.2 in
    omega (arith, first, rest)

made_counts : (s : Pins) (lines : List Line) (t : Pins) (caller point number limit : ℕ) → PinsAlong s lines t → Contains lines (line.Answer caller (Pinned point number limit)) → number ≤ t.made
made_counts s [] t caller point number limit along has = absurd (has_none (line.Answer caller (Pinned point number limit)) has)
made_counts s (line.Answer by reply ∷ lines) t caller point number limit along has = elim (first_or_later (line.Answer by reply) lines (line.Answer caller (Pinned point number limit)) has) [
  | inl same ↦
      let same_reply : reply ≡ Pinned point number limit = cc in
      let is = subst (λ reply. InPins reply s along.0) same_reply along.1 in
      let given : number ≡ s.made + 1 = is.0 in
      let more = ap (λ (p : Pins). p.made) is.1 in
      let rest = made_along along.0 lines t along.2 in
      omega (arith, given, more, rest)
  | inr later ↦ made_counts along.0 lines t caller point number limit along.2 later
]

-- the pin of a number was let go
pub record IsGone (number : ℕ) (s : Pins) : Type 0 where
  pub given : number ≤ s.made
  pub none : All (λ (pin : Limited). pin.number ≢ number) s.held

gone_next : (number : ℕ) (reply : Reply) (s t : Pins) → InPins reply s t → IsGone number s → IsGone number t
gone_next number reply s t is gone = elim (one_of_three reply s t is) [
  | inl making ↦
      let given = gone.given in
      subst (IsGone number) (sym making.3)
      (record {
        given = omega (arith, given);
        none = all_placed (λ (pin : Limited). pin.number ≢ number) (λ (pin : Limited). pin.limit) (record { number = s.made + 1; limit = making.1 }) s.held (λ same. omega (arith, same, given)) gone.none;
      })
  | inr other ↦ elim other [
    | inl letting ↦
        subst (IsGone number) (sym letting.1)
        (record { given = gone.given; none = All-filter (λ (pin : Limited). not (pin.number == letting.0)) (λ (pin : Limited). pin.number ≢ number) s.held gone.none })
    | inr same ↦ subst (IsGone number) (sym same) gone
  ]
]

gone_along : (number : ℕ) (s : Pins) (lines : List Line) (t : Pins) → PinsAlong s lines t → IsGone number s → IsGone number t
gone_along number s [] t along gone = subst (IsGone number) (sym along) gone
gone_along number s (line.Answer caller reply ∷ lines) t along gone = gone_along number along.0 lines t along.2 (gone_next number reply s along.0 along.1 gone)

gone_behind : (number : ℕ) (s : Pins) → number ≤ s.made → IsGone number (without_pin number s)
gone_behind number s given = record {
  given = given;
  none = All-weaker (λ (pin : Limited). not (pin.number == number) ≡ true) (λ (pin : Limited). pin.number ≢ number)
      (λ pin is same. let clash : false ≡ true = ap not (sym (eq-eqb pin.number number same)) ∙ is in cc) (filter (λ (pin : Limited). not (pin.number == number)) s.held)
      (filter_passes (λ (pin : Limited). not (pin.number == number)) s.held);
}

-- A pin is let go that an earlier line of the caller made

-- a slot holds the pin of a number
abbrev HoldsPin : Slots → ℕ → Type 0
HoldsPin s number = (slot : ℕ) × (pin : Pin) × (pin_in s slot ≡ Some pin) × (pin.number ≡ number)

abbrev IsMadeIn : List Line → ℕ → Type 0
IsMadeIn lines number = (caller : ℕ) × (point : ℕ) × (limit : ℕ) × Contains lines (line.Answer caller (Pinned point number limit))

set_or_was : (s : Slots) (i : ℕ) (held : Option Pin) (slot : ℕ) (pin : Pin) → pin_in (slice_set s i held) slot ≡ Some pin → (held ≡ Some pin) ⊎ (pin_in s slot ≡ Some pin)
set_or_was [] zero held slot pin is = inr is
set_or_was [] (suc i) held slot pin is = inr is
set_or_was (x ∷ s) zero held zero pin is = inl is
set_or_was (x ∷ s) zero held (suc slot) pin is = inr is
set_or_was (x ∷ s) (suc i) held zero pin is = inr is
set_or_was (x ∷ s) (suc i) held (suc slot) pin is = set_or_was s i held slot pin is

holds_none : (n slot : ℕ) (pin : Pin) → pin_in (replicate n None) slot ≡ Some pin → ⊥
holds_none zero zero pin is = cc
holds_none zero (suc slot) pin is = cc
holds_none (suc n) zero pin is = cc
holds_none (suc n) (suc slot) pin is = holds_none n slot pin is

module _ (act : Act) (s t : Slots) (caller number : ℕ) (lines : List Line) where
  same_holds : (reply : Reply) → t ≡ s → HoldsPin t number → HoldsPin s number ⊎ IsMadeIn (line.Answer caller reply ∷ lines) number
  same_holds reply same holds = inl (subst (λ s. HoldsPin s number) same holds)

  held_or_made : (reply : Reply) → InSlots act reply s t → HoldsPin t number → HoldsPin s number ⊎ IsMadeIn (line.Answer caller reply ∷ lines) number
  held_or_made (Pinned point given limit) is holds =
      elim (set_or_was s is.0 (Some (record { number = given; point = point; limit = limit })) holds.0 holds.1 (subst (λ t. pin_in t holds.0 ≡ Some holds.1) is.3 holds.2)) [
        | inl it ↦
            let pin_is : ◌≡◌ {A = Pin} (record { number = given; point = point; limit = limit }) holds.1 = cc in
            let same : given ≡ number = ap (λ (pin : Pin). pin.number) pin_is ∙ holds.3 in
            inr (caller, point, limit, (0, omega arith, ap (λ n. line.Answer caller (Pinned point n limit)) same))
        | inr was ↦ inl (holds.0, holds.1, was, holds.3)
      ]
  held_or_made (Unpinned point given) is holds =
      elim (set_or_was s is.0 None holds.0 holds.1 (subst (λ t. pin_in t holds.0 ≡ Some holds.1) is.5 holds.2)) [
        | inl it ↦ absurd (let clash : ◌≡◌ {A = Option Pin} None (Some holds.1) = it in cc)
        | inr was ↦ inl (holds.0, holds.1, was, holds.3)
      ]
  held_or_made (PinGot given point found) is holds = same_holds (PinGot given point found) is.4 holds
  held_or_made (PinScanned given point pairs) is holds = same_holds (PinScanned given point pairs) is.5 holds
  held_or_made (Barred given limit) is holds = same_holds (Barred given limit) is holds
  held_or_made (Ticked ticked) is holds = same_holds (Ticked ticked) is holds
  held_or_made (Counted point stat) is holds = same_holds (Counted point stat) is holds
  held_or_made (Done place) is holds = same_holds (Done place) is holds
  held_or_made (Got point found) is holds = same_holds (Got point found) is holds
  held_or_made (Scanned point pairs) is holds = same_holds (Scanned point pairs) is holds
  held_or_made (Fault place before after) is holds = same_holds (Fault place before after) is holds
  held_or_made (Stopped at) is holds = same_holds (Stopped at) is holds
  held_or_made (Exhausted last) is holds = same_holds (Exhausted last) is holds
  held_or_made (Backwards point clock) is holds = same_holds (Backwards point clock) is holds
  held_or_made ReadFault is holds = same_holds ReadFault is holds
  held_or_made (Damaged page) is holds = same_holds (Damaged page) is holds

unpin_made : (orders : List Order) (s : Slots) (front : List Line) (caller point number : ℕ) (behind : List Line) (t : Slots)
    → AreInSlots orders s (front ++ line.Answer caller (Unpinned point number) ∷ behind) t → HoldsPin s number ⊎ IsMadeIn front number
unpin_made [] s [] caller point number behind t in_slots = absurd in_slots
unpin_made [] s (l ∷ front) caller point number behind t in_slots = absurd in_slots
unpin_made (order ∷ orders) s [] caller point number behind t in_slots = let is = in_slots.1 in inl (is.0, is.2, is.3, is.4)
unpin_made (order ∷ orders) s (line.Answer by reply ∷ front) caller point number behind t in_slots = elim (unpin_made orders in_slots.0 front caller point number behind t in_slots.2) [
  | inl holds ↦ held_or_made order.act s in_slots.0 by number front reply in_slots.1 holds
  | inr made ↦ inr (made.0, made.1, made.2, contains_later (line.Answer by reply) front (line.Answer made.0 (Pinned made.1 number made.2)) made.3)
]

-- Phases

pins_told : (Ports : Type 0) (from upto : ℕ) (orders : List Order) (s : Standing) (lines : List Line) (t : Standing) → AreTold Ports from upto orders s lines t → PinsAlong s.pins lines t.pins
pins_told Ports from upto [] s [] t told = ap (λ (s : Standing). s.pins) told.1
pins_told Ports from upto [] s (l ∷ lines) t told = absurd told
pins_told Ports from upto (order ∷ orders) s [] t told = absurd told
pins_told Ports from upto (order ∷ orders) s (line.Answer caller reply ∷ lines) t told =
    let before = told.2 in
    (told.1.pins, subst (λ pins. InPins reply pins told.1.pins) (ap (λ (s : Standing). s.pins) before.1.1) before.2.1, pins_told Ports from upto orders told.1 lines t told.3)

-- the one order of the lines up to a phase's end, and the pins along it
pub record IsTurnedUpTo (s : Pins) (before : List (List Line)) (phase : List Line) : Type 0 where
  pub earlier : List Line
  pub now : List Line
  pub middle : Pins
  pub end : Pins
  pub earlier_are : AreTurned (all_of before) earlier
  pub now_are : AreTurned phase now
  pub earlier_pins : PinsAlong s earlier middle
  pub now_pins : PinsAlong middle now end

turned_upto : (Ports : Type 0) (from upto : ℕ) (phases : List (List Order)) (s : Standing) (before : List (List Line)) (phase : List Line) (after turned : List (List Line)) (t : Standing)
    → AreToldThrough Ports from upto phases s (before ++ phase ∷ after) turned t → IsTurnedUpTo s.pins before phase
turned_upto Ports from upto [] s [] phase after turned t told = absurd told
turned_upto Ports from upto [] s (b ∷ before) phase after turned t told = absurd told
turned_upto Ports from upto (orders ∷ phases) s [] phase after [] t told = absurd told
turned_upto Ports from upto (orders ∷ phases) s (b ∷ before) phase after [] t told = absurd told
turned_upto Ports from upto (orders ∷ phases) s [] phase after (now ∷ turned) t told = record {
  earlier = [];
  now = now;
  middle = s.pins;
  end = told.0.pins;
  earlier_are = λ caller. refl;
  now_are = told.1.order;
  earlier_pins = refl;
  now_pins = pins_told Ports from upto told.1.asked s now told.0 told.1.told;
}
turned_upto Ports from upto (orders ∷ phases) s (b ∷ before) phase after (now ∷ turned) t told =
    let rest = turned_upto Ports from upto phases told.0 before phase after turned t told.2 in
    record {
      earlier = now ++ rest.earlier;
      now = rest.now;
      middle = rest.middle;
      end = rest.end;
      earlier_are = λ caller.
          filter-append (is_of caller) now rest.earlier ∙ ap (λ l. l ++ filter (is_of caller) rest.earlier) (told.1.order caller) ∙ ap (λ l. filter (is_of caller) b ++ l) (rest.earlier_are caller)
          ∙ sym (filter-append (is_of caller) b (all_of before));
      now_are = rest.now_are;
      earlier_pins = join_along s.pins now told.0.pins rest.earlier rest.middle (pins_told Ports from upto told.1.asked s now told.0 told.1.told) rest.earlier_pins;
      now_pins = rest.now_pins;
    }

turned_append : (first second turned more : List Line) → AreTurned first turned → AreTurned second more → AreTurned (first ++ second) (turned ++ more)
turned_append first second turned more a b = λ caller.
    filter-append (is_of caller) turned more ∙ ap (λ l. l ++ filter (is_of caller) more) (a caller) ∙ ap (λ l. filter (is_of caller) first ++ l) (b caller) ∙ sym (filter-append (is_of caller) first second)

own_first : (caller : ℕ) (reply : Reply) (lines : List Line) → filter (is_of caller) (line.Answer caller reply ∷ lines) ≡ line.Answer caller reply ∷ filter (is_of caller) lines
own_first caller reply lines = ap (λ b. cond b (line.Answer caller reply ∷ filter (is_of caller) lines) (filter (is_of caller) lines)) (eq-eqb caller caller refl)

-- A pin that bars

-- In the one order the lines `earlier` stand in the phases before, and `first` in the phase of a line that tells so before it.
module _ (before front behind earlier first rest : List Line) (middle end : Pins) (caller number limit : ℕ)
    (earlier_are : AreTurned before earlier)
    (now_are : AreTurned (front ++ line.Answer caller (Barred number limit) ∷ behind) (first ++ line.Answer caller (Barred number limit) ∷ rest))
    (earlier_pins : PinsAlong no_pins earlier middle) (now_pins : PinsAlong middle (first ++ line.Answer caller (Barred number limit) ∷ rest) end) where
  abbrev bar : Line
  bar = line.Answer caller (Barred number limit)

  at_bar : PinsParted middle first (bar ∷ rest) end
  at_bar = part_along middle first (bar ∷ rest) end now_pins

  so_far : PinsAlong no_pins (earlier ++ first) at_bar.middle
  so_far = join_along no_pins earlier middle first at_bar.middle earlier_pins at_bar.first

  is_held : Contains at_bar.middle.held (record { number = number; limit = limit })
  is_held = at_bar.then.1.0

  abbrev WasMade : Limited → Type 0
  WasMade pin = (owner : ℕ) × (point : ℕ) × Contains (earlier ++ first) (line.Answer owner (Pinned point pin.number pin.limit))

  was_made : WasMade (record { number = number; limit = limit })
  was_made = All-contains WasMade at_bar.middle.held (record { number = number; limit = limit })
      (held_are_made WasMade no_pins (earlier ++ first) at_bar.middle so_far (All-nil WasMade) (λ owner point number limit has. (owner, point, has))) is_held

  never_gone : IsGone number at_bar.middle → ⊥
  never_gone gone = All-contains (λ (pin : Limited). pin.number ≢ number) at_bar.middle.held (record { number = number; limit = limit }) gone.none is_held refl

  -- A caller's lines up to this phase's end answer orders as its slots allow, and more lines behind them.
  module _ (other now : ℕ) (orders : List Order) (more : List Line) (held : Slots) (slots : AreInSlots orders no_slots (filter (is_of other) (before ++ (front ++ bar ∷ behind)) ++ more) held) where
    abbrev unpin : Line
    unpin = line.Answer other (Unpinned now number)

    module _ (has : Contains (earlier ++ first) unpin) where
      cut : IsCut (earlier ++ first) unpin
      cut = cut_at (earlier ++ first) unpin has

      parts : PinsParted no_pins cut.front (unpin ∷ cut.behind) at_bar.middle
      parts = part_along no_pins cut.front (unpin ∷ cut.behind) at_bar.middle (subst (λ l. PinsAlong no_pins l at_bar.middle) cut.are so_far)

      whole : earlier ++ (first ++ bar ∷ rest) ≡ cut.front ++ unpin ∷ (cut.behind ++ bar ∷ rest)
      whole = sym (append_assoc earlier first (bar ∷ rest)) ∙ ap (λ l. l ++ bar ∷ rest) cut.are ∙ append_assoc cut.front (unpin ∷ cut.behind) (bar ∷ rest)

      abbrev behind_it : List Line
      behind_it = filter (is_of other) (cut.behind ++ bar ∷ rest)

      own_are : filter (is_of other) (before ++ (front ++ bar ∷ behind)) ≡ filter (is_of other) cut.front ++ unpin ∷ behind_it
      own_are =
          sym (turned_append before (front ++ bar ∷ behind) earlier (first ++ bar ∷ rest) earlier_are now_are other) ∙ ap (filter (is_of other)) whole
          ∙ filter-append (is_of other) cut.front (unpin ∷ (cut.behind ++ bar ∷ rest)) ∙ ap (λ l. filter (is_of other) cut.front ++ l) (own_first other (Unpinned now number) (cut.behind ++ bar ∷ rest))

      slots_are : AreInSlots orders no_slots (filter (is_of other) cut.front ++ unpin ∷ (behind_it ++ more)) held
      slots_are = subst (λ l. AreInSlots orders no_slots l held) (ap (λ l. l ++ more) own_are ∙ append_assoc (filter (is_of other) cut.front) (unpin ∷ behind_it) more) slots

      -- it would let a pin go that an earlier line made
      never_let_go : ⊥
      never_let_go = elim (unpin_made orders no_slots (filter (is_of other) cut.front) other now number (behind_it ++ more) held slots_are) [
        | inl holds ↦ holds_none 10 holds.0 holds.1 holds.2
        | inr made ↦
            let given = made_counts no_pins cut.front parts.middle made.0 made.1 number made.2 parts.first (contains_filtered (is_of other) cut.front (line.Answer made.0 (Pinned made.1 number made.2)) made.3) in
            never_gone (gone_along number parts.then.0 cut.behind at_bar.middle parts.then.2 (subst (IsGone number) (sym parts.then.1) (gone_behind number parts.middle given)))
      ]

all_upto : (before : List (List Line)) (phase : List Line) (after : List (List Line)) → all_of (before ++ phase ∷ after) ≡ (all_of before ++ phase) ++ all_of after
all_upto before phase after = flat_map-append (λ (phase : List Line). phase) before (phase ∷ after) ∙ sym (append_assoc (all_of before) phase (all_of after))

-- what bars may be held
module _ (Ports : Type 0) (config : Fields) (from upto : ℕ) (phases : List (List Order)) (lines turned : List (List Line)) (plausible : IsPlausible Ports config from upto phases lines turned)
    (caller number limit : ℕ) (at : IsAt lines (line.Answer caller (Barred number limit))) where
  abbrev barred : Line
  barred = line.Answer caller (Barred number limit)

  abbrev own_phase : List Line
  own_phase = at.front ++ barred ∷ at.behind

  up : IsTurnedUpTo no_pins at.before own_phase
  up = subst (λ pins. IsTurnedUpTo pins at.before own_phase) plausible.unpinned
      (turned_upto Ports from upto phases plausible.opened at.before own_phase at.after turned plausible.end
      (subst (λ lines. AreToldThrough Ports from upto phases plausible.opened lines turned plausible.end) at.are plausible.told))

  halves : IsCutSo (is_of caller) up.now (filter (is_of caller) at.front) barred (filter (is_of caller) at.behind)
  halves = cut_so (is_of caller) up.now (filter (is_of caller) at.front) barred (filter (is_of caller) at.behind)
      (up.now_are caller ∙ filter-append (is_of caller) at.front (barred ∷ at.behind) ∙ ap (λ l. filter (is_of caller) at.front ++ l) (own_first caller (Barred number limit) at.behind))

  turned_so : AreTurned own_phase (halves.first ++ barred ∷ halves.rest)
  turned_so = subst (AreTurned own_phase) halves.are up.now_are

  pins_so : PinsAlong up.middle (halves.first ++ barred ∷ halves.rest) up.end
  pins_so = subst (λ l. PinsAlong up.middle l up.end) halves.are up.now_pins

  pin : (owner : ℕ) × (point : ℕ) × Contains (up.earlier ++ halves.first) (line.Answer owner (Pinned point number limit))
  pin = was_made (all_of at.before) at.front at.behind up.earlier halves.first halves.rest up.middle up.end caller number limit up.earlier_are turned_so up.earlier_pins pins_so

  may_come_before : MayComeBefore at (line.Answer pin.0 (Pinned pin.1 number limit))
  may_come_before =
      let it = line.Answer pin.0 (Pinned pin.1 number limit) in
      elim (Contains-append_cases up.earlier halves.first it pin.2) [
        | inl earlier ↦ inl (turned_has (all_of at.before) up.earlier up.earlier_are it earlier)
        | inr here ↦ inr (
          turned_has own_phase (halves.first ++ barred ∷ halves.rest) turned_so it (Contains-append_left halves.first (barred ∷ halves.rest) it here),
          λ same. contains_filtered (is_of caller) at.front it (subst (λ l. Contains l it) halves.fronts (filter_contains (is_of caller) halves.first it (eq-eqb pin.0 caller same) here)),
        )
      ]

  not_let_go : (other now : ℕ) → Contains (up.earlier ++ halves.first) (line.Answer other (Unpinned now number)) → ⊥
  not_let_go other now has =
      let orders = orders_by other (flat_map (λ (orders : List Order). orders) phases) in
      let more = filter (is_of other) (all_of at.after) in
      let own = plausible.slots other in
      let are : filter (is_of other) (all_of lines) ≡ filter (is_of other) (all_of at.before ++ own_phase) ++ more =
      ap (λ l. filter (is_of other) (all_of l)) at.are ∙ ap (filter (is_of other)) (all_upto at.before own_phase at.after) ∙ filter-append (is_of other) (all_of at.before ++ own_phase) (all_of at.after) in
      never_let_go (all_of at.before) at.front at.behind up.earlier halves.first halves.rest up.middle up.end caller number limit up.earlier_are turned_so up.earlier_pins pins_so
      other now orders more own.0 (subst (λ l. AreInSlots orders no_slots l own.0) are own.1) has

  kept : (other now : ℕ) → MustComeBefore at (line.Answer other (Unpinned now number)) → ⊥
  kept other now comes =
      let it = line.Answer other (Unpinned now number) in
      elim comes [
        | inl earlier ↦ not_let_go other now (Contains-append_left up.earlier halves.first it (printed_has (all_of at.before) up.earlier up.earlier_are it earlier))
        | inr own ↦ not_let_go other now (Contains-append_right up.earlier halves.first it
            (contains_filtered (is_of caller) halves.first it (subst (λ l. Contains l it) (sym halves.fronts) (filter_contains (is_of caller) at.front it (eq-eqb other caller own.0) own.1))))
      ]

  pub bar_may_be_held : MayBeHeld at number limit
  bar_may_be_held = record { owner = pin.0; point = pin.1; made = may_come_before; kept = kept }

-- The numbers of the pins that are made

abbrev AreFrom : ℕ → List Line → Type 0
AreFrom made lines = filter_map number_in lines ≡ places_behind made (length (filter_map number_in lines))

module _ (caller : ℕ) (lines : List Line) (s t : Pins) (rest : AreFrom t.made lines) where
  as_before : t ≡ s → AreFrom s.made lines
  as_before same = subst (λ (p : Pins). AreFrom p.made lines) same rest

  numbered_next : (reply : Reply) → InPins reply s t → AreFrom s.made (line.Answer caller reply ∷ lines)
  numbered_next (Pinned point number limit) is =
      let first : number ≡ suc s.made = is.0 ∙ (let same : s.made + 1 ≡ suc s.made = omega arith in same) in
      let made : t.made ≡ suc s.made = ap (λ (p : Pins). p.made) is.1 ∙ (let same : s.made + 1 ≡ suc s.made = omega arith in same) in
      ap (λ n. n ∷ filter_map number_in lines) first ∙ ap (λ l. suc s.made ∷ l) (subst (λ n. AreFrom n lines) made rest)
  numbered_next (Unpinned point number) is = subst (λ n. AreFrom n lines) (ap (λ (p : Pins). p.made) is) rest
  numbered_next (Barred number limit) is = as_before is.2
  numbered_next (Ticked ticked) is = as_before is.1
  numbered_next (Counted point stat) is = as_before is.1
  numbered_next (PinGot number point found) is = as_before is
  numbered_next (PinScanned number point pairs) is = as_before is
  numbered_next (Done place) is = as_before is
  numbered_next (Got point found) is = as_before is
  numbered_next (Scanned point pairs) is = as_before is
  numbered_next (Fault place before after) is = as_before is
  numbered_next (Stopped at) is = as_before is
  numbered_next (Exhausted last) is = as_before is
  numbered_next (Backwards point clock) is = as_before is
  numbered_next ReadFault is = as_before is
  numbered_next (Damaged page) is = as_before is

numbered_along : (s : Pins) (lines : List Line) (t : Pins) → PinsAlong s lines t → AreFrom s.made lines
numbered_along s [] t along = refl
numbered_along s (line.Answer caller reply ∷ lines) t along = numbered_next caller lines s along.0 (numbered_along along.0 lines t along.2) reply along.1

-- all phases

pub record AreAllTurned (s : Pins) (lines turned : List (List Line)) (t : Pins) : Type 0 where
  pub order : AreTurned (all_of lines) (all_of turned)
  pub pins : PinsAlong s (all_of turned) t

all_turned : (Ports : Type 0) (from upto : ℕ) (phases : List (List Order)) (s : Standing) (lines turned : List (List Line)) (t : Standing) → AreToldThrough Ports from upto phases s lines turned t → AreAllTurned s.pins lines turned t.pins
all_turned Ports from upto [] s [] [] t told = record { order = λ caller. refl; pins = ap (λ (s : Standing). s.pins) told }
all_turned Ports from upto [] s [] (now ∷ turned) t told = absurd told
all_turned Ports from upto [] s (phase ∷ lines) turned t told = absurd told
all_turned Ports from upto (orders ∷ phases) s [] turned t told = absurd told
all_turned Ports from upto (orders ∷ phases) s (phase ∷ lines) [] t told = absurd told
all_turned Ports from upto (orders ∷ phases) s (phase ∷ lines) (now ∷ turned) t told =
    let rest = all_turned Ports from upto phases told.0 lines turned t told.2 in
    record {
      order = turned_append phase (all_of lines) now (all_of turned) told.1.order rest.order;
      pins = join_along s.pins now told.0.pins (all_of turned) t.pins (pins_told Ports from upto told.1.asked s now told.0 told.1.told) rest.pins;
    }

module _ (Ports : Type 0) (config : Fields) (from upto : ℕ) (phases : List (List Order)) (lines turned : List (List Line)) (plausible : IsPlausible Ports config from upto phases lines turned) where
  all : AreAllTurned no_pins lines turned plausible.end.pins
  all = subst (λ pins. AreAllTurned pins lines turned plausible.end.pins) plausible.unpinned (all_turned Ports from upto phases plausible.opened lines turned plausible.end plausible.told)

  pub turned_numbers : numbers_in turned ≡ places_behind 0 (length (numbers_in turned))
  turned_numbers = numbered_along no_pins (all_of turned) plausible.end.pins all.pins

  same_numbers : IsPermutation (numbers_in turned) (numbers_in lines)
  same_numbers = read_off caller_in is_of own_line only_line number_in (all_of turned) (all_of lines) all.order

  pub printed_numbers : IsPermutation (places_behind 0 (length (numbers_in lines))) (numbers_in lines)
  printed_numbers =
      subst (λ n. IsPermutation (places_behind 0 n) (numbers_in lines)) (sym (length_permutation (numbers_in turned) (numbers_in lines) same_numbers))
      (subst (λ l. IsPermutation l (numbers_in lines)) turned_numbers same_numbers)
