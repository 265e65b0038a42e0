-- The sum behind a history and a diary with one more entry or mark.
use Rattle.std.proofs.Common.{◌≡◌, ℕ, zero, suc, ◌+◌, ◌-◌, ◌/◌, ◌<◌, ◌^◌, List, [], ◌∷◌, ◌++◌, length, Option, Some, None, Ok, Err, refl, sym, ap, ◌∙◌, subst, arith, length-append, append_assoc, append-nil, ne_eqb}
use Rattle.std.specs.Prelude.{Result, IfOk, IfErr, if◌then◌else◌}
use Rattle.lethe_turn.specs.Lists.{total, placed, AllStand, WeighTogether}
use Rattle.lethe_turn.specs.Seats.{passed, left_of, right_of, Joined, HasSeenMore, OthersFit, Finished}
use Rattle.lethe_turn.proofs.Sums.{total_append}
use Rattle.lethe_test_turn.specs.declared.sum.Entry.{Entry}
use Rattle.lethe_test_turn.specs.declared.sum.Mark.{Mark}
use Rattle.lethe_test_turn.specs.declared.sum.Refused.{Refused}
use Rattle.lethe_test_turn.specs.declared.sum.Refused.TheVariants.{Ceiling, Full}
use Rattle.lethe_test_turn.specs.declared.sum.Sum.{Sum}
use Rattle.lethe_test_turn.specs.Sums.{addition, ceiling_mark, sum_of, last_ceiling, added_to, IsReason, Stands, Since, is_zero, NoneIsZero}
use Rattle.lethe_test_turn.specs.Sessions.{Known, HasAdded, IsKnown, Acted, StoodAt, answered}

sum_of-append : (xs : List Entry) (e : Entry) → sum_of (xs ++ e ∷ []) ≡ sum_of xs + e.amount
sum_of-append [] e = omega arith
sum_of-append (x ∷ xs) e = let r = sum_of-append xs e in omega arith

last_ceiling-append : (before : Option ℕ) (ms : List Mark) (m : Mark) → last_ceiling before (ms ++ m ∷ []) ≡ Some m.ceiling
last_ceiling-append before [] m = refl
last_ceiling-append before (x ∷ xs) m = last_ceiling-append (Some x.ceiling) xs m

is_added : (history : List Entry) (x : Sum) (by amount : ℕ) → Stands history x → Stands (history ++ addition by amount ∷ []) (added_to amount x)
is_added history x by amount is = let l : length (history ++ addition by amount ∷ []) ≡ length history + 1 = length-append history (addition by amount ∷ []) in let s = sum_of-append history (addition by amount) in
    let a = is.value in let b = is.count in record { value = (let n : x.value + amount ≡ sum_of (history ++ addition by amount ∷ []) = omega arith in n); count = (let n : x.count + 1 ≡ length (history ++ addition by amount ∷ []) = omega arith in n) }

-- one addition more since the opening
pub since_added : (o : Sum) (additions : List Entry) (ceilings : List Mark) (x : Sum) (by amount : ℕ) → Since o additions ceilings x → Since o (additions ++ addition by amount ∷ []) ceilings (added_to amount x)
since_added o additions ceilings x by amount is = record {
  stands = λ h s. subst (λ l. Stands l (added_to amount x)) (append_assoc h additions (addition by amount ∷ [])) (is_added (h ++ additions) x by amount (is.stands h s));
  count = (let l : length (additions ++ addition by amount ∷ []) ≡ length additions + 1 = length-append additions (addition by amount ∷ []) in let c = is.count in let n : x.count + 1 ≡ o.count + length (additions ++ addition by amount ∷ []) = omega arith in n);
  ceiling = is.ceiling;
}

-- one ceiling more
pub since_limited : (o : Sum) (additions : List Entry) (ceilings : List Mark) (x : Sum) (ceiling : ℕ) → Since o additions ceilings x → Since o additions (ceilings ++ ceiling_mark ceiling ∷ []) (record x { ceiling = Some ceiling })
since_limited o additions ceilings x ceiling is = record {
  stands = λ h s. let t = is.stands h s in record { value = t.value; count = t.count };
  count = is.count;
  ceiling = sym (last_ceiling-append o.ceiling ceilings (ceiling_mark ceiling));
}

no_zero : (n : ℕ) → 0 < n → is_zero (ceiling_mark n) ≡ 0
no_zero n some_ceiling = ap (λ b. if b then 1 else 0) (ne_eqb n 0 (λ e. omega arith))

zero_weight : (n : ℕ) → is_zero (ceiling_mark n) ≡ 0 → 0 < n
zero_weight zero h = absurd (omega arith)
zero_weight (suc n) h = omega arith

pub fits_more : (ms : List Mark) (ceiling : ℕ) → 0 < ceiling → NoneIsZero ms → NoneIsZero (ms ++ ceiling_mark ceiling ∷ [])
fits_more ms zero some_ceiling h = absurd (omega arith)
fits_more ms (suc n) some_ceiling h = let t = total_append is_zero ms (ceiling_mark (suc n) ∷ []) in let here = no_zero (suc n) some_ceiling in let sum : total is_zero ms ≡ 0 = h in omega arith

-- where no ceiling is 0, the last one isn't
last_positive : (before : Option ℕ) (ms : List Mark) (n : ℕ) → ((k : ℕ) → before ≡ Some k → 0 < k) → NoneIsZero ms → last_ceiling before ms ≡ Some n → 0 < n
last_positive before [] n first none is = first n is
last_positive before (m ∷ ms) n first none is =
    let here : is_zero m ≡ 0 = omega arith in let rest : total is_zero ms ≡ 0 = omega arith in
    last_positive (Some m.ceiling) ms n (λ k e. subst (λ z. 0 < z) (some_nat m.ceiling k e) (zero_weight m.ceiling here)) rest is
  where
    some_nat : (a b : ℕ) → Some a ≡ Some b → a ≡ b
    some_nat a b e = ap value_or e
      where
        value_or : Option ℕ → ℕ
        value_or None = a
        value_or (Some c) = c

none_first : (k : ℕ) → None ≡ Some k → 0 < k
none_first k e = absurd (subst is_none e tt)
  where
    is_none : Option ℕ → Type 0
    is_none None = Unit {0}
    is_none (Some c) = ⊥

-- the ceiling that a seat learns isn't 0, whoever set it: its own marks fit, and so do those of the others
pub known_positive : (own noted : List Mark) (n : ℕ) → NoneIsZero own → ((others : List Mark) × NoneIsZero others × WeighTogether own others noted) → last_ceiling None noted ≡ Some n → 0 < n
known_positive own noted n fit others is = let w = others.2 is_zero in let a : total is_zero own ≡ 0 = fit in let b : total is_zero others.0 ≡ 0 = others.1 in
    let none : total is_zero noted ≡ 0 = omega arith in last_positive None noted n none_first none is

counted : {A : Type 0} (xs : List A) → total (λ _. 1) xs ≡ length xs
counted [] = refl
counted (x ∷ xs) = let r = counted xs in omega arith

length_placed : {A : Type 0} (n : ℕ) (xs : List A) → length (placed n xs) ≡ length xs
length_placed n [] = refl
length_placed n (x ∷ xs) = let r = length_placed (n + 1) xs in omega arith

-- with all parts, as many entries are the own ones as there are in the whole history
whole_length : (o x : Sum) (v : Known) (f : Finished Since NoneIsZero v x) → v.parts ≡ 2 ^ 62 → length f.last.seen ≡ length v.mine
whole_length o x v f all =
    let weights = (f.knows.all (f.more.parts ∙ all)).0 (λ _. 1) in
    let a : total (λ _. 1) f.last.mine ≡ length f.last.mine = counted f.last.mine in
    let b : total (λ _. 1) (placed (f.last.start + 1) f.last.seen) ≡ length (placed (f.last.start + 1) f.last.seen) = counted (placed (f.last.start + 1) f.last.seen) in
    let c = length_placed (f.last.start + 1) f.last.seen in let d : length f.last.mine ≡ length v.mine = ap length f.more.mine in omega arith

-- the sum that is taken out stands for the opened history with as many additions as were the seats' own
pub settles : (o x : Sum) (n : ℕ) (v w : Known) → v.mine ≡ [] → v.opened ≡ Some o → v.parts ≡ 2 ^ 62 → Acted n v w → Finished Since NoneIsZero w x
    → (additions : List Entry) × (length additions ≡ n) × ((history : List Entry) → Stands history o → Stands (history ++ additions) x)
settles o x n v w none op all acted f =
    let own : w.mine ≡ acted.own.0 = acted.own.1 ∙ ap (λ l. l ++ acted.own.0) none in
    (f.last.seen, whole_length o x w f (acted.parts ∙ all) ∙ (ap length own ∙ acted.own.2), λ h s. (f.leads o (f.more.opened ∙ (acted.opened ∙ op))).stands h s)

-- what a seat has seen more it keeps when it passes
pub more_passed : (v w : Known) → HasSeenMore v w → HasSeenMore v (passed w)
more_passed v w h = record { seen = h.seen; noted = h.noted; mine = h.mine; marks = h.marks; parts = h.parts; opened = h.opened; start = h.start }

-- a ceiling that refuses an addition is one that the seat has noted
pub known_reason : (why : Refused) (w : Known) (o x : Sum) → IsReason why x → o.ceiling ≡ None → Since o w.seen w.noted x → NoneIsZero w.marks → OthersFit NoneIsZero w → IsKnown why (passed w)
known_reason (Ceiling n) w o x is none s fit others = let e : last_ceiling None w.noted ≡ Some n = ap (λ b. last_ceiling b w.noted) (sym none) ∙ (sym s.ceiling ∙ is) in (e, known_positive w.marks w.noted n fit others e)
known_reason Full w o x is none s fit others = tt

-- two seats that acted beside each other, and were joined
pub acted_both : (n m : ℕ) (u v w x y z : Known) → v.mine ≡ u.mine → v.opened ≡ u.opened → v.start ≡ u.start → x.mine ≡ [] → v.parts + x.parts ≡ u.parts → Acted n v w → Acted m x y → Joined w y z → Acted (n + m) u z
acted_both n m u v w x y z mine op st none parts a b j =
    let left : w.mine ≡ u.mine ++ a.own.0 = a.own.1 ∙ ap (λ l. l ++ a.own.0) mine in
    let right : y.mine ≡ b.own.0 = b.own.1 ∙ ap (λ l. l ++ b.own.0) none in
    let long : length (a.own.0 ++ b.own.0) ≡ length a.own.0 + length b.own.0 = length-append a.own.0 b.own.0 in let p = a.own.2 in let q = b.own.2 in
    let sum : z.parts ≡ u.parts = (let i = j.parts in let k = a.parts in let l = b.parts in omega arith) in record {
      parts = sum;
      opened = j.opened ∙ (a.opened ∙ op);
      start = j.start ∙ (a.start ∙ st);
      own = (a.own.0 ++ b.own.0, j.mine ∙ ((λ i. left i ++ right i) ∙ append_assoc u.mine a.own.0 b.own.0), omega arith);
    }

pub acted_none : (v w : Known) → HasSeenMore v w → Acted 0 v w
acted_none v w h = record { parts = h.parts; opened = h.opened; start = h.start; own = ([], h.mine ∙ sym (append-nil v.mine), refl) }

pub acted_once : (e : Entry) (place : ℕ) (v w : Known) → HasAdded e place v w → Acted 1 v w
acted_once e place v w h = record { parts = h.parts; opened = h.opened; start = h.start; own = ((place, e) ∷ [], h.mine, refl) }

pub acted_not : (v : Known) → Acted 0 v v
acted_not v = record { parts = refl; opened = refl; start = refl; own = ([], sym (append-nil v.mine), refl) }

-- what one call has made of a seat with no entry
abbrev pub Once : Entry → Result ℕ Refused → Known → Known → Type 0
Once e (Ok place) v w = HasAdded e place v w
Once e (Err why) v w = HasSeenMore v w

abbrev own_of : Entry → Result ℕ Refused → List (ℕ × Entry)
own_of e (Ok place) = (place, e) ∷ []
own_of e (Err why) = []

acted_of : (e : Entry) (r : Result ℕ Refused) (v w : Known) → Once e r v w → Acted (answered r) v w
acted_of e (Ok place) v w h = acted_once e place v w h
acted_of e (Err why) v w h = acted_none v w h

own_after : (e : Entry) (r : Result ℕ Refused) (v w : Known) → v.mine ≡ [] → Once e r v w → w.mine ≡ own_of e r
own_after e (Ok place) v w none h = h.mine ∙ ap (λ l. l ++ (place, e) ∷ []) none
own_after e (Err why) v w none h = h.mine ∙ none

stood : (start : ℕ) (additions : List Entry) (e : Entry) (r : Result ℕ Refused) (rest : List (ℕ × Entry)) → AllStand start additions (own_of e r ++ rest) → StoodAt start additions e r × AllStand start additions rest
stood start additions e (Ok place) rest all = (all.0, all.1)
stood start additions e (Err why) rest all = (tt, all)

pub once_of : (e : Entry) (r : Result ℕ Refused) (v w : Known) → IfOk r (λ place. HasAdded e place v w) → IfErr r (λ why. HasSeenMore v w × IsKnown why w) → Once e r v w
once_of e (Ok place) v w added refused = added
once_of e (Err why) v w added refused = refused.0

owns_length : (a b : Entry) (r q : Result ℕ Refused) → length (own_of a r ++ own_of b q) ≡ answered r + answered q
owns_length a b (Ok n) (Ok m) = refl
owns_length a b (Ok n) (Err why) = refl
owns_length a b (Err why) (Ok m) = refl
owns_length a b (Err why) (Err other) = refl

-- two seats that added once each: the sum stands for one history, in which what was answered stands at its place
pub settles_both : (o x : Sum) (a b : Entry) (r q : Result ℕ Refused) (u v w left right z : Known) → u.mine ≡ [] → u.opened ≡ Some o → u.start ≡ o.count → u.parts ≡ 2 ^ 62
    → v ≡ left_of u → w ≡ right_of u → Once a r v left → Once b q w right → Joined left right z → Finished Since NoneIsZero z x
    → (additions : List Entry) × ((history : List Entry) → Stands history o → Stands (history ++ additions) x) × StoodAt o.count additions a r × StoodAt o.count additions b q × (length additions ≡ answered r + answered q)
settles_both o x a b r q u v w left right z none op st all is is' one two j f =
    let vm : v.mine ≡ u.mine = ap (λ k. k.mine) is in let wm : w.mine ≡ [] = ap (λ k. k.mine) is' in
    let half : (u.parts - u.parts / 2) + u.parts / 2 ≡ u.parts = omega arith in
    let acted : Acted (answered r + answered q) u z = acted_both (answered r) (answered q) u v left w right z vm (ap (λ k. k.opened) is) (ap (λ k. k.start) is) wm ((λ i. (ap (λ k. k.parts) is) i + (ap (λ k. k.parts) is') i) ∙ half) (acted_of a r v left one) (acted_of b q w right two) j in
    let mine : z.mine ≡ own_of a r ++ own_of b q = j.mine ∙ (λ i. own_after a r v left (vm ∙ none) one i ++ own_after b q w right wm two i) in
    let start : f.last.start ≡ o.count = f.more.start ∙ (acted.start ∙ st) in
    let stand : AllStand o.count f.last.seen (own_of a r ++ own_of b q) = subst (λ l. AllStand o.count f.last.seen l) (f.more.mine ∙ mine) (subst (λ n. AllStand n f.last.seen f.last.mine) start f.knows.mine) in
    let first = stood o.count f.last.seen a r (own_of b q) stand in
    let second = stood o.count f.last.seen b q [] (subst (λ l. AllStand o.count f.last.seen l) (sym (append-nil (own_of b q))) first.1) in
    (f.last.seen, (λ h s. (f.leads o (f.more.opened ∙ (acted.opened ∙ op))).stands h s), first.0, second.0, whole_length o x z f (acted.parts ∙ all) ∙ (ap length mine ∙ owns_length a b r q))
