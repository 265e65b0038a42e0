-- Stretches of orders one behind another, and a row of changes.
use Rattle.std.proofs.Common.{◌≡◌, ◌≤◌, ℕ, zero, suc, ◌+◌, ◌-◌, Bool, true, false, cond, List, [], ◌∷◌, ◌++◌, map, length, Option, Some, None, IsSomeAnd, refl, sym, ap, ◌∙◌, subst, arith, append_assoc, append-nil, add-one}
use Rattle.std.specs.Prelude.{All, IsSome, is_some, option_map, option_to_list}
use Rattle.std.proofs.lemmas.List.{length-append, length-map, map-append}
use Rattle.std.proofs.lemmas.List.Elements.{All-append, All-nil, filter_map-append}
use Rattle.lethe_base.specs.Counts.{Rose}
use Rattle.lethe_base.specs.History.{History, Change, IsLegal, change_at}
use Rattle.lethe_base.specs.declared.call.Did.TheVariants as did
use Rattle.lethe_base.specs.Limits.{max_place}
use Rattle.lethe_base.specs.declared.refused.Refused.{Refused}
use Rattle.lethe_base.specs.declared.refused.Refused.TheVariants as refusal
use Rattle.lethe_base.proofs.Histories.{change_at-append, change_at-push}
use Rattle.lethe_disk.specs.declared.disk.Disk.{Ghosts}
use Rattle.lethe_snapshot.specs.declared.snapshot.Snapshot.{Snapshot}
use Rattle.lethe_core.specs.Asked.{Failure, done_by, stopped_by}
use Rattle.lethe_core.specs.View.{View}
use Rattle.lethe_engine.specs.Along.{IsEnded, row_behind, tried}
use Rattle.lethe_engine.specs.ChangeRows as rows
use Rattle.lethe_engine.specs.Asked.{Asked}
use Rattle.lethe_engine.specs.Asked.TheVariants as asked
use Rattle.lethe_engine.specs.Rows.{AnswersRow}
use Rattle.lethe_script.specs.declared.order.Act.{Act}
use Rattle.lethe_script.specs.declared.order.Order.{Order}
use Rattle.lethe_script.specs.Slots.{Held, held_behind}
use Rattle.lethe_run.specs.declared.reply.Line.{Line}
use Rattle.lethe_run.specs.declared.reply.Line.TheVariants as line
use Rattle.lethe_run.specs.declared.reply.Reply.{Reply}
use Rattle.lethe_run.specs.declared.reply.Reply.TheVariants as reply
use Rattle.lethe_run.specs.Anywhere.{AreTold, IsLater, IsTold, Standing, entries_of, standing_of}
use Rattle.lethe_run.specs.Carried.{IsSeen, certificate_of, certificates_in, look_of, looks_in}
use Rattle.lethe_run.specs.Holding.{AreShown, slots_of}
use Rattle.lethe_run.specs.Rows.{HasMade, HasServed, IsStretch, act_of, done_lines, orders_of, stopped_lines, unlined}
use Rattle.lethe_run.specs.Serving.{Advances, IsAnswered, IsBorneOn, IsOn, IsPhase, Point, opened_in}
use Rattle.lethe_run.specs.Slots.{AreInSlots, InSlots, Slots}
use Rattle.lethe_run.specs.Transcript.{Answered, Course, InTurn, IsFailedAt, IsFaultOf, Start, Told, WasStopped, call_of, change_of, course, places_behind}
use Rattle.lethe_run.proofs.Anywhere.{later_itself, later_then, stands_so, told_wider}
use Rattle.lethe_run.proofs.Holding.{none_if, shown_later}
use Rattle.lethe_run.proofs.Pins.{same_pins}
use Rattle.lethe_run.proofs.Staying.{in_slots_append}
use Rattle.lethe_run.proofs.Outcomes.{told_of}
use Rattle.lethe_run.proofs.Seen.{all_seen_later}
use Rattle.lethe_run.proofs.Serving.{advances_then, all_borne_later, answered_before, built_more, built_start, built_still, in_turn_later, phase_of}
use Rattle.lethe_run.proofs.Steps.{longer}

-- Orders, on whichever lines they stand

told_lined : (Ports : Type 0) (from upto : ℕ) (orders : List Order) (s : Standing) (lines : List Line) (t : Standing) → AreTold Ports from upto (map unlined orders) s lines t → AreTold Ports from upto orders s lines t
told_lined Ports from upto [] s [] t told = told
told_lined Ports from upto [] s (l ∷ lines) t told = absurd told
told_lined Ports from upto (o ∷ orders) s [] t told = absurd told
told_lined Ports from upto (o ∷ orders) s (line.Answer caller r ∷ lines) t told = (told.0, told.1, told.2, told_lined Ports from upto orders told.1 lines t told.3)

answered_lined : (told : Told) (orders : List Order) (lines : List Line) → Answered told (map unlined orders) lines → Answered told orders lines
answered_lined told [] [] a = tt
answered_lined told [] (l ∷ lines) a = absurd a
answered_lined told (o ∷ orders) [] a = absurd a
answered_lined told (o ∷ orders) (line.Answer caller r ∷ lines) a = (a.0, a.1, answered_lined told orders lines a.2)

slots_lined : (orders : List Order) (s : Slots) (lines : List Line) (t : Slots) → AreInSlots (map unlined orders) s lines t → AreInSlots orders s lines t
slots_lined [] s [] t is = is
slots_lined [] s (l ∷ lines) t is = absurd is
slots_lined (o ∷ orders) s [] t is = absurd is
slots_lined (o ∷ orders) s (line.Answer caller r ∷ lines) t is = (is.0, is.1, slots_lined orders is.0 lines t is.2)

phase_lined : (Ports : Type 0) (begin : Start) (start h : History) (orders : List Order) (lines : List Line) (old new : View) → IsPhase Ports begin start h (map unlined orders) lines old new → IsPhase Ports begin start h orders lines old new
phase_lined Ports begin start h orders lines old new is = record {
  served = record {
    begins = is.served.begins;
    legal = is.served.legal;
    answered = answered_lined (told_of h (course Ports begin new.faults new.disk.moment)) orders lines is.served.answered;
    once = is.served.once;
    seen = is.served.seen;
    alone = is.served.alone;
  };
  certified = is.certified;
  seen = is.seen;
  goes = is.goes;
}

-- a front of them
pub lined_parts : (orders front rest : List Order) → map unlined orders ≡ front ++ rest → (p : List Order) × (r : List Order) × (orders ≡ p ++ r) × (map unlined p ≡ front) × (map unlined r ≡ rest)
lined_parts orders [] rest e = ([], orders, refl, refl, e)
lined_parts [] (f ∷ front) rest e = absurd (let clash : [] ≡ f ∷ (front ++ rest) = e in cc)
lined_parts (o ∷ orders) (f ∷ front) rest e =
    let head : unlined o ≡ f = cc in
    let tail : map unlined orders ≡ front ++ rest = cc in
    let more = lined_parts orders front rest tail in
    (o ∷ more.0, more.1, ap (λ l. o ∷ l) more.2, (λ i. head i ∷ more.3 i), more.4)

pub none_lined : (orders : List Order) → map unlined orders ≡ [] → orders ≡ []
none_lined [] e = refl
none_lined (o ∷ orders) e = absurd (let clash : unlined o ∷ map unlined orders ≡ [] = e in cc)

-- Lines one behind another

told_later : (Ports : Type 0) (from upto : ℕ) (orders : List Order) (s m t : Standing) (lines : List Line) → IsLater s m → AreTold Ports from upto orders m lines t → AreTold Ports from upto orders s lines t
told_later Ports from upto [] s m t [] later told = later_then s m t later told
told_later Ports from upto [] s m t (l ∷ lines) later told = absurd told
told_later Ports from upto (o ∷ orders) s m t [] later told = absurd told
told_later Ports from upto (o ∷ orders) s m t (line.Answer caller r ∷ lines) later told = (told.0, told.1, (told.2.0, later_then s m told.2.0 later told.2.1, told.2.2), told.3)

pub told_append : (Ports : Type 0) (from upto : ℕ) (first second : List Order) (s m t : Standing) (lines more : List Line) → AreTold Ports from upto first s lines m → AreTold Ports from upto second m more t
    → AreTold Ports from upto (first ++ second) s (lines ++ more) t
told_append Ports from upto [] second s m t [] more a b = told_later Ports from upto second s m t more a b
told_append Ports from upto [] second s m t (l ∷ lines) more a b = absurd a
told_append Ports from upto (o ∷ first) second s m t [] more a b = absurd a
told_append Ports from upto (o ∷ first) second s m t (line.Answer caller r ∷ lines) more a b = (a.0, a.1, a.2, told_append Ports from upto first second a.1 m t lines more a.3 b)

answered_append : (told : Told) (first second : List Order) (lines more : List Line) → Answered told first lines → Answered told second more → Answered told (first ++ second) (lines ++ more)
answered_append told [] second [] more a b = b
answered_append told [] second (l ∷ lines) more a b = absurd a
answered_append told (o ∷ first) second [] more a b = absurd a
answered_append told (o ∷ first) second (line.Answer caller r ∷ lines) more a b = (a.0, a.1, answered_append told first second lines more a.2 b)

in_turn_append : (c : Course) (n m k : ℕ) (lines more : List Line) → InTurn c n lines m → InTurn c m more k → InTurn c n (lines ++ more) k
in_turn_append c n m k [] more a b = subst (λ n. InTurn c n more k) a b
in_turn_append c n m k (line.Answer caller r ∷ lines) more a b = (a.0, a.1, in_turn_append c a.0 m k lines more a.2 b)

-- one phase behind another, as if they were one
pub phase_then : (Ports : Type 0) (begin : Start) (from : Point) (start h g : History) (first second : List Order) (lines more : List Line) (old mid new : View) → mid.faults ≤ new.faults → IsOn begin from start old
    → IsPhase Ports begin start h first lines old mid → IsPhase Ports begin h g second more mid new → IsPhase Ports begin start g (first ++ second) (lines ++ more) old new
phase_then Ports begin from start h g first second lines more old mid new le on p q =
    let added = q.served.begins.0 in
    let whole = q.served.begins.1 in
    let later = q.goes.calls.later in
    let Then = course Ports begin new.faults new.disk.moment in
    phase_of Ports begin from start g (first ++ second) (lines ++ more) old new on (record {
      begins = (p.served.begins.0 ++ added, whole ∙ ap (λ l. l ++ added) p.served.begins.1 ∙ append_assoc start p.served.begins.0 added);
      answered = answered_append (told_of g Then) first second lines more
          (subst (λ x. Answered (told_of x Then) first lines) (sym whole)
          (answered_before h added (subst IsLegal whole q.served.legal) Ports begin mid.faults new.faults mid.disk.moment new.disk.moment le later first lines p.served.answered))
          q.served.answered;
      alone = in_turn_append Then (length start) (length h) (length g) lines more (in_turn_later Ports begin mid.faults new.faults mid.disk.moment new.disk.moment later (length start) (length h) lines p.served.alone) q.served.alone;
      certified = subst (All (IsBorneOn begin g new)) (sym (filter_map-append certificate_of lines more))
          (All-append (IsBorneOn begin g new) (certificates_in lines) (certificates_in more) (all_borne_later begin h g mid new q.goes (certificates_in lines) p.certified) q.certified);
      seen = subst (All (IsSeen begin.config begin.moment g new.disk)) (sym (filter_map-append look_of lines more))
          (All-append (IsSeen begin.config begin.moment g new.disk) (looks_in lines) (looks_in more) (all_seen_later begin.config begin.moment h g q.served.begins mid.disk new.disk q.goes.calls (looks_in lines) p.seen) q.seen);
      goes = advances_then begin start h g old mid new p.goes q.goes;
    })

-- Stretches

module _ {D Page Port : Type 0} {kind : Ghosts D Page Port} (Tells Ports : Type 0) where
  pub stretch_none : (view : View) (held : List (Option (Snapshot D Page Port kind))) → IsStretch Tells Ports [] [] view held view held
  stretch_none view held = record {
    told = later_itself (standing_of view);
    slots = refl;
    served = λ told begin from start on shown. (start, phase_of Ports begin from start start [] [] view view on (built_start Ports begin start view), shown);
    faults = omega arith;
  }

  pub stretch_then : (first second : List Order) (lines more : List Line) (old mid new : View) (was between held : List (Option (Snapshot D Page Port kind)))
      → IsStretch Tells Ports first lines old was mid between → IsStretch Tells Ports second more mid between new held → IsStretch Tells Ports (first ++ second) (lines ++ more) old was new held
  stretch_then first second lines more old mid new was between held a b =
      let up = a.faults in
      let on_up = b.faults in
      record {
        told = told_append Ports old.faults new.faults first second (standing_of old) (standing_of mid) (standing_of new) lines more
            (told_wider Ports old.faults mid.faults old.faults new.faults (omega arith) on_up first (standing_of old) lines (standing_of mid) a.told)
            (told_wider Ports mid.faults new.faults old.faults new.faults up (omega arith) second (standing_of mid) more (standing_of new) b.told);
        slots = in_slots_append first second (slots_of was) (slots_of between) (slots_of held) lines more a.slots b.slots;
        served = λ told begin from start on shown.
            let so_far = a.served told begin from start on shown in
            let then = b.served told begin from so_far.0 (so_far.1.goes.stands from on) so_far.2 in
            (then.0, phase_then Ports begin from start so_far.0 then.0 first second lines more old mid new on_up on so_far.1 then.1, then.2);
        faults = omega (arith, up, on_up);
      }

  pub stretch_lined : (orders : List Order) (lines : List Line) (old new : View) (was held : List (Option (Snapshot D Page Port kind)))
      → IsStretch Tells Ports (map unlined orders) lines old was new held → IsStretch Tells Ports orders lines old was new held
  stretch_lined orders lines old new was held a = record {
    told = told_lined Ports old.faults new.faults orders (standing_of old) lines (standing_of new) a.told;
    slots = slots_lined orders (slots_of was) lines (slots_of held) a.slots;
    served = λ told begin from start on shown. let is = a.served told begin from start on shown in (is.0, phase_lined Ports begin start is.0 orders lines old new is.1, is.2);
    faults = a.faults;
  }

  -- one order that is answered
  pub stretch_one : (order : Order) (r : Reply) (old new : View) (was held : List (Option (Snapshot D Page Port kind))) → old.faults ≤ new.faults
      → IsTold Ports old.faults new.faults order.act (standing_of old) r (standing_of new) → InSlots order.act r (slots_of was) (slots_of held)
      → (Tells → (begin : Start) (from : Point) (h : History) → IsOn begin from h old → AreShown h was → (g : History) × IsAnswered Ports begin h g order.caller order.act r old new)
      → (Tells → (begin : Start) (from : Point) (h : History) → IsOn begin from h old → AreShown h was → AreShown h held)
      → IsStretch Tells Ports (order ∷ []) (line.Answer order.caller r ∷ []) old was new held
  stretch_one order r old new was held up told slots served shown = record {
    told = (refl, standing_of new, (standing_of old, later_itself (standing_of old), told), later_itself (standing_of new));
    slots = (slots_of held, slots, refl);
    served = λ tells begin from start on before.
        let is = served tells begin from start on before in (
          is.0,
          phase_of Ports begin from start is.0 (order ∷ []) (line.Answer order.caller r ∷ []) old new on (built_more Ports begin from start start [] [] old old new up on (built_start Ports begin start old) is.0 order r is.1),
          subst (λ h. AreShown h held) (sym is.1.grows.1) (shown_later held start is.1.grows.0 (shown tells begin from start on before)),
        );
    faults = up;
  }

  -- one for which there was no memory
  pub stretch_still : (old new : View) (was held : List (Option (Snapshot D Page Port kind))) → old.faults ≤ new.faults → IsLater (standing_of old) (standing_of new) → slots_of held ≡ slots_of was
      → (Tells → (begin : Start) (from : Point) (h : History) → IsOn begin from h old → AreShown h was → Advances begin h h old new)
      → (Tells → (begin : Start) (from : Point) (h : History) → IsOn begin from h old → AreShown h was → AreShown h held)
      → IsStretch Tells Ports [] [] old was new held
  stretch_still old new was held up same kept still shown = record {
    told = same;
    slots = kept;
    served = λ tells begin from start on before. (
      start,
      phase_of Ports begin from start start [] [] old new on (built_still Ports begin from start start [] [] old old new up on (built_start Ports begin start old) (still tells begin from start on before)),
      shown tells begin from start on before,
    );
    faults = up;
  }

-- The lines of a row, on any disk

change_is : (change : Asked) → change_of (act_of change) ≡ Some (rows.call_of change)
change_is (asked.Put key dkey value) = refl
change_is (asked.Delete key) = refl
change_is (asked.Erase range) = refl

call_is : (change : Asked) → call_of (act_of change) ≡ Some (rows.call_of change)
call_is (asked.Put key dkey value) = refl
call_is (asked.Delete key) = refl
call_is (asked.Erase range) = refl

asks : (change : Asked) → IsSome (call_of (act_of change))
asks change = subst IsSome (sym (call_is change)) refl

pub orders_append : (caller : ℕ) (first second : List Asked) → orders_of caller (first ++ second) ≡ orders_of caller first ++ orders_of caller second
orders_append caller first second = map-append (λ (change : Asked). record { line = 0; caller = caller; act = act_of change }) first second

module _ (Ports : Type 0) (from upto caller : ℕ) where
  told_done : (made : List Asked) (s t : Standing) → s.failed ≡ None → t.count ≡ s.count + length made → t.failed ≡ None → t.clock ≡ s.clock → t.pins ≡ s.pins → s.next ≤ t.next
      → AreTold Ports from upto (orders_of caller made) s (done_lines caller s.count (length made)) t
  told_done [] s t runs count failed clock kept drawn =
      let counted : t.count ≡ s.count = omega (arith, count) in
      (drawn, λ i. record { count = counted i; failed = (failed ∙ sym runs) i; clock = clock i; pins = kept i; next = t.next; entries = t.entries })
  told_done (x ∷ made) s t runs count failed clock kept drawn =
      let next : Standing = record s { count = suc s.count; failed = None; next = t.next; entries = t.entries } in (
        refl,
        next,
        (s, later_itself s, ((subst IsSome (sym (change_is x)) refl, runs, sym (add-one s.count), refl), refl, drawn)),
        told_done made next t refl (omega (arith, count)) failed clock kept (omega arith),
      )

  told_stopped : (more : List Asked) (s : Standing) (at : ℕ) → s.failed ≡ Some at → AreTold Ports from upto (orders_of caller more) s (stopped_lines caller at (length more)) s
  told_stopped [] s at stopped = later_itself s
  told_stopped (x ∷ more) s at stopped = (refl, s, (s, later_itself s, ((asks x, stopped, refl), refl, omega arith)), told_stopped more s at stopped)

slots_done : (caller : ℕ) (made : List Asked) (n : ℕ) (s : Slots) → AreInSlots (orders_of caller made) s (done_lines caller n (length made)) s
slots_done caller [] n s = refl
slots_done caller (x ∷ made) n s = (s, refl, slots_done caller made (suc n) s)

slots_stopped : (caller : ℕ) (more : List Asked) (at : ℕ) (s : Slots) → AreInSlots (orders_of caller more) s (stopped_lines caller at (length more)) s
slots_stopped caller [] at s = refl
slots_stopped caller (x ∷ more) at s = (s, refl, slots_stopped caller more at s)

-- and on one that tells what it holds

abbrev changes_of : ℕ → List Asked → History
changes_of caller made = map (λ change. done_by caller (rows.call_of change)) made

module _ (c : Course) (caller : ℕ) where
  answered_done : (made : List Asked) (front tail g : History) (n : ℕ) → n ≡ length front → g ≡ front ++ (changes_of caller made ++ tail) → Answered (told_of g c) (orders_of caller made) (done_lines caller n (length made))
  answered_done [] front tail g n at is = tt
  answered_done (x ∷ made) front tail g n at is =
      let change = done_by caller (rows.call_of x) in
      let rest = changes_of caller made ++ tail in
      let whole : g ≡ (front ++ change ∷ []) ++ rest = is ∙ sym (append_assoc front (change ∷ []) rest) in
      let there : change_at g (suc n) ≡ Some change =
      subst (λ k. change_at g (suc k) ≡ Some change) (sym at) (subst (λ l. change_at l (suc (length front)) ≡ Some change) (sym whole) (change_at-append (front ++ change ∷ []) rest (suc (length front)) change (change_at-push front change))) in (
        refl,
        subst (λ o. IsSomeAnd o (λ call. change_at g (suc n) ≡ Some (record { caller = caller; call = call; did = did.Done }))) (sym (change_is x)) there,
        answered_done made (front ++ change ∷ []) tail g (suc n) (ap suc at ∙ sym (longer front change)) whole,
      )

  in_turn_done : (n k m : ℕ) → m ≡ n + k → InTurn c n (done_lines caller n k) m
  in_turn_done n zero m is = omega (arith, is)
  in_turn_done n (suc k) m is = (suc n, (refl, refl), in_turn_done (suc n) k m (omega (arith, is)))

  answered_stopped : (more : List Asked) (g : History) (at : ℕ) → WasStopped (told_of g c) at → Answered (told_of g c) (orders_of caller more) (stopped_lines caller at (length more))
  answered_stopped [] g at was = tt
  answered_stopped (x ∷ more) g at was = (refl, (asks x, was), answered_stopped more g at was)

  in_turn_stopped : (n at k : ℕ) → at ≡ n → InTurn c n (stopped_lines caller at k) n
  in_turn_stopped n at zero is = refl
  in_turn_stopped n at (suc k) is = (n, (is, refl), in_turn_stopped n at k is)

none_certified : (caller n k : ℕ) → certificates_in (done_lines caller n k) ≡ []
none_certified caller n zero = refl
none_certified caller n (suc k) = none_certified caller (suc n) k

stopped_certified : (caller at k : ℕ) → certificates_in (stopped_lines caller at k) ≡ []
stopped_certified caller at zero = refl
stopped_certified caller at (suc k) = stopped_certified caller at k

none_looked : (caller n k : ℕ) → looks_in (done_lines caller n k) ≡ []
none_looked caller n zero = refl
none_looked caller n (suc k) = none_looked caller (suc n) k

stopped_looked : (caller at k : ℕ) → looks_in (stopped_lines caller at k) ≡ []
stopped_looked caller at zero = refl
stopped_looked caller at (suc k) = stopped_looked caller at k

-- one line more

places_more : (n k : ℕ) → places_behind n k ++ suc (n + k) ∷ [] ≡ places_behind n (suc k)
places_more n zero = let same : n + 0 ≡ n = omega arith in ap (λ m. suc m ∷ []) same
places_more n (suc k) =
    let same : suc (n + suc k) ≡ suc (suc n + k) = omega arith in
    ap (λ l. suc n ∷ l) (ap (λ m. places_behind (suc n) k ++ m ∷ []) same ∙ places_more (suc n) k)

pub done_more : (caller count n place : ℕ) → place ≡ count + n + 1 → done_lines caller count n ++ line.Answer caller (reply.Done place) ∷ [] ≡ done_lines caller count (n + 1)
done_more caller count n place is =
    let next : place ≡ suc (count + n) = omega (arith, is) in
    let f = λ (place : ℕ). line.Answer caller (reply.Done place) in
    sym (map-append f (places_behind count n) (place ∷ [])) ∙ ap (map f) (ap (λ m. places_behind count n ++ m ∷ []) next ∙ places_more count n) ∙ ap (done_lines caller count) (sym (add-one n))

-- A row that was made

module _ (Tells Ports : Type 0) (caller : ℕ) (changes left : List Asked) (done : ℕ) (refused : Option Refused) (old new : View) (is : AnswersRow Tells changes left done refused old new) (pins : new.pins ≡ old.pins) where
  -- the store goes on to the history behind it
  advances : Tells → (begin : Start) (from : Point) (h : History) → IsOn begin from h old → Advances begin h (row_behind h caller is.row.made is.row.failed) old new
  advances told begin from h on = record {
    calls = let run = is.goes told begin.config (opened_in begin from on.counted) h on.stands caller in record { later = run.later; past = run.past };
    stands = λ point on. record {
      done = on.done;
      counted = on.counted;
      stands = is.stands told begin.config (opened_in begin point on.counted) h on.stands caller;
      faults_since = on.faults_since;
      moment_since = on.moment_since;
    };
  }

  -- none of the changes failed
  module _ (runs : old.state.stopped ≡ None) (fine : is.row.failed ≡ None) (still : new.state.stopped ≡ None) (before behind : List Line) (pushed : behind ≡ before ++ done_lines caller old.state.count done) where
    pub row_made : HasMade Tells Ports caller changes is.row.rest before behind old new
    row_made = record {
      front = is.row.made;
      more = done_lines caller old.state.count (length is.row.made);
      are = is.row.are;
      lines = pushed ∙ ap (λ n. before ++ done_lines caller old.state.count n) (sym is.row.many);
      told = told_done Ports old.faults new.faults caller is.row.made (standing_of old) (standing_of new) runs (is.row.count ∙ ap (λ l. old.state.count + length l) tried_is) still is.clock (same_pins old new pins) is.drawn;
      slots = slots_done caller is.row.made old.state.count;
      served = served;
      faults = is.row.faults;
      face = is.face_is;
      retired = is.retired;
      pins = pins;
    }
      where
        tried_is : tried is.row.made is.row.failed ≡ is.row.made
        tried_is = ap (tried is.row.made) fine ∙ append-nil is.row.made

        served : Tells → (begin : Start) (from : Point) (start : History) → IsOn begin from start old
            → (h : History) × IsPhase Ports begin start h (orders_of caller is.row.made) (done_lines caller old.state.count (length is.row.made)) old new
        served told begin from start on =
            let h : History = row_behind start caller is.row.made is.row.failed in
            let added : History = changes_of caller is.row.made in
            let whole : h ≡ start ++ added = ap (row_behind start caller is.row.made) fine in
            let c = course Ports begin new.faults new.disk.moment in
            let counted : old.state.count ≡ length start = on.stands.now.count in
            let lines = done_lines caller old.state.count (length is.row.made) in
            let size : length h ≡ length start + length is.row.made = ap length whole ∙ length-append start added ∙ ap (λ n. length start + n) (length-map is.row.made (λ (change : Asked). done_by caller (rows.call_of change))) in (
              h,
              phase_of Ports begin from start h (orders_of caller is.row.made) lines old new on (record {
                begins = (added, whole);
                answered = answered_done c caller is.row.made start [] h old.state.count counted (whole ∙ ap (λ l. start ++ l) (sym (append-nil added)));
                alone = subst (λ n. InTurn c n lines (length h)) counted (in_turn_done c caller old.state.count (length is.row.made) (length h) (size ∙ ap (λ n. n + length is.row.made) (sym counted)));
                certified = subst (All (IsBorneOn begin h new)) (sym (none_certified caller old.state.count (length is.row.made))) (All-nil (IsBorneOn begin h new));
                seen = subst (All (IsSeen begin.config begin.moment h new.disk)) (sym (none_looked caller old.state.count (length is.row.made))) (All-nil (IsSeen begin.config begin.moment h new.disk));
                goes = advances told begin from start on;
              }),
            )

  -- the disk failed in one of them, and those behind it are told so
  module _ (runs : old.state.stopped ≡ None) (next : Asked) (others : List Asked) (failure : Failure) (rest_is : is.row.rest ≡ next ∷ others) (fault : is.row.failed ≡ Some (next, failure))
      (place_is : failure.place ≡ new.state.count) (before_is : failure.before ≡ old.faults) (after_is : failure.after ≡ new.faults) (rose : Rose failure.before failure.after) (stopped : new.state.stopped ≡ Some failure.place) where
    abbrev fault_lines : List Line
    fault_lines = line.Answer caller (reply.Fault failure.place failure.before failure.after) ∷ stopped_lines caller failure.place (length others)

    abbrev all_lines : List Line
    all_lines = done_lines caller old.state.count (length is.row.made) ++ fault_lines

    tried_is : length (tried is.row.made is.row.failed) ≡ length is.row.made + 1
    tried_is = ap (λ f. length (tried is.row.made f)) fault ∙ length-append is.row.made (next ∷ [])

    told_failed : AreTold Ports old.faults new.faults (orders_of caller (is.row.made ++ next ∷ others)) (standing_of old) all_lines (standing_of new)
    told_failed =
        let mid : Standing = record (standing_of old) { count = old.state.count + length is.row.made; failed = None; next = new.state.next; entries = entries_of new.levels new.state.manifest.files } in
        let t = standing_of new in
        let count = is.row.count in
        subst (λ orders. AreTold Ports old.faults new.faults orders (standing_of old) all_lines t) (sym (orders_append caller is.row.made (next ∷ others)))
        (told_append Ports old.faults new.faults (orders_of caller is.row.made) (orders_of caller (next ∷ others)) (standing_of old) mid t (done_lines caller old.state.count (length is.row.made)) fault_lines
        (told_done Ports old.faults new.faults caller is.row.made (standing_of old) mid runs refl refl refl refl is.drawn) (
          refl,
          t,
          (
            mid,
            later_itself mid,
            (
              (
                (asks next, refl),
                omega (arith, place_is, count, tried_is),
                omega (arith, before_is),
                rose,
                omega (arith, after_is),
                stands_so new (record mid { count = failure.place; failed = Some failure.place }) (sym place_is) stopped is.clock (same_pins old new pins),
              ),
              same_pins old new pins,
              omega arith,
            ),
          ),
          told_stopped Ports old.faults new.faults caller others t failure.place stopped,
        ))

    slots_failed : (slots : Slots) → AreInSlots (orders_of caller (is.row.made ++ next ∷ others)) slots all_lines slots
    slots_failed slots =
        subst (λ orders. AreInSlots orders slots all_lines slots) (sym (orders_append caller is.row.made (next ∷ others)))
        (in_slots_append (orders_of caller is.row.made) (orders_of caller (next ∷ others)) slots slots slots (done_lines caller old.state.count (length is.row.made)) fault_lines
        (slots_done caller is.row.made old.state.count slots) (slots, refl, slots_stopped caller others failure.place slots))

    none_in_all : certificates_in all_lines ≡ []
    none_in_all =
        filter_map-append certificate_of (done_lines caller old.state.count (length is.row.made)) fault_lines
        ∙ ap (λ l. l ++ certificates_in fault_lines) (none_certified caller old.state.count (length is.row.made)) ∙ stopped_certified caller failure.place (length others)

    none_looked_in_all : looks_in all_lines ≡ []
    none_looked_in_all =
        filter_map-append look_of (done_lines caller old.state.count (length is.row.made)) fault_lines
        ∙ ap (λ l. l ++ looks_in fault_lines) (none_looked caller old.state.count (length is.row.made)) ∙ stopped_looked caller failure.place (length others)

    served_failed : Tells → (begin : Start) (from : Point) (start : History) → IsOn begin from start old
        → (h : History) × IsPhase Ports begin start h (orders_of caller (is.row.made ++ next ∷ others)) all_lines old new
    served_failed told begin from start on =
        let h : History = row_behind start caller is.row.made is.row.failed in
        let added : History = changes_of caller is.row.made in
        let change : Change = record { caller = caller; call = rows.call_of next; did = did.Failed failure.before failure.after } in
        let whole : h ≡ (start ++ added) ++ change ∷ [] = ap (row_behind start caller is.row.made) fault in
        let all : h ≡ start ++ (added ++ change ∷ []) = whole ∙ append_assoc start added (change ∷ []) in
        let c = course Ports begin new.faults new.disk.moment in
        let counted : old.state.count ≡ length start = on.stands.now.count in
        let count = is.row.count in
        let size : length (start ++ added) ≡ length start + length is.row.made = length-append start added ∙ ap (λ n. length start + n) (length-map is.row.made (λ (change : Asked). done_by caller (rows.call_of change))) in
        let longer_is : length h ≡ suc (length (start ++ added)) = ap length whole ∙ longer (start ++ added) change in
        let at : failure.place ≡ suc (length (start ++ added)) = omega (arith, place_is, count, tried_is, counted, size) in
        let fails : IsFailedAt (told_of h c) failure.place failure.before failure.after = record {
          change = change;
          is = subst (λ l. change_at l failure.place ≡ Some change) (sym whole) (ap (change_at ((start ++ added) ++ change ∷ [])) at ∙ change_at-push (start ++ added) change);
          failed = refl;
          rose = rose;
          from = let low = on.faults_since in let since = on.stands.since in omega (arith, low, since, before_is);
          upto = omega (arith, after_is);
        } in
        let was : WasStopped (told_of h c) failure.place = record { before = failure.before; after = failure.after; fails = fails } in
        let failed_is : IsSomeAnd (call_of (act_of next)) (IsFaultOf (told_of h c) caller failure.place failure.before failure.after) =
        subst (λ o. IsSomeAnd o (IsFaultOf (told_of h c) caller failure.place failure.before failure.after)) (sym (call_is next)) (record { fails = fails; who = refl; what = refl }) in
        let done = done_lines caller old.state.count (length is.row.made) in
        let answered : Answered (told_of h c) (orders_of caller is.row.made ++ orders_of caller (next ∷ others)) all_lines =
        answered_append (told_of h c) (orders_of caller is.row.made) (orders_of caller (next ∷ others)) done fault_lines (answered_done c caller is.row.made start (change ∷ []) h old.state.count counted all)
        (refl, failed_is, answered_stopped c caller others h failure.place was) in
        let first : InTurn c (length start) done (length (start ++ added)) =
        subst (λ n. InTurn c n done (length (start ++ added))) counted (in_turn_done c caller old.state.count (length is.row.made) (length (start ++ added)) (size ∙ ap (λ n. n + length is.row.made) (sym counted))) in (
          h,
          phase_of Ports begin from start h (orders_of caller (is.row.made ++ next ∷ others)) all_lines old new on (record {
            begins = (added ++ change ∷ [], all);
            answered = subst (λ orders. Answered (told_of h c) orders all_lines) (sym (orders_append caller is.row.made (next ∷ others))) answered;
            alone = in_turn_append c (length start) (length (start ++ added)) (length h) done fault_lines first (length h, (at, longer_is), in_turn_stopped c caller (length h) failure.place (length others) (at ∙ sym longer_is));
            certified = subst (All (IsBorneOn begin h new)) (sym none_in_all) (All-nil (IsBorneOn begin h new));
            seen = subst (All (IsSeen begin.config begin.moment h new.disk)) (sym none_looked_in_all) (All-nil (IsSeen begin.config begin.moment h new.disk));
            goes = advances told begin from start on;
          }),
        )

    pub row_failed : (before behind : List Line) → behind ≡ before ++ all_lines → HasMade Tells Ports caller changes [] before behind old new
    row_failed before behind pushed = record {
      front = is.row.made ++ next ∷ others;
      more = all_lines;
      are = is.row.are ∙ ap (λ l. is.row.made ++ l) rest_is ∙ sym (append-nil (is.row.made ++ next ∷ others));
      lines = pushed;
      told = told_failed;
      slots = slots_failed;
      served = served_failed;
      faults = is.row.faults;
      face = is.face_is;
      retired = is.retired;
      pins = pins;
    }

-- a row in which no change failed
pub unfailed : (refused : Option Refused) (rest left : List Asked) (failed : Option (Asked × Failure)) (old new : View) → IsEnded refused rest left failed old new → ((place before after : ℕ) → refused ≡ Some (refusal.Fault place before after) → ⊥)
    → (failed ≡ None) × (length left ≤ length rest) × ((stopped : Option ℕ) → stopped_by refused stopped ≡ stopped)
unfailed None rest left failed old new is never = let same = ap length is.1 in (is.0, omega (arith, same), λ stopped. refl)
unfailed (Some refusal.NoMemory) rest left failed old new is never = let more = ap length is.2 in (is.0, omega (arith, more), λ stopped. refl)
unfailed (Some (refusal.Fault place before after)) rest left failed old new is never = absurd (never place before after refl)
unfailed (Some (refusal.Stopped at)) rest left failed old new is never = absurd is
unfailed (Some (refusal.Exhausted last)) rest left failed old new is never = absurd is
unfailed (Some (refusal.Backwards clock)) rest left failed old new is never = absurd is
unfailed (Some (refusal.Pinned pin limit)) rest left failed old new is never = absurd is
unfailed (Some refusal.NothingDue) rest left failed old new is never = absurd is
unfailed (Some (refusal.Cancelled begun now)) rest left failed old new is never = absurd is
unfailed (Some (refusal.ReadFault before after)) rest left failed old new is never = absurd is
unfailed (Some (refusal.Damaged name)) rest left failed old new is never = absurd is

-- how many changes were asked, and how many places they took
module _ (Tells : Type 0) (changes left : List Asked) (done : ℕ) (refused : Option Refused) (old new : View) (is : AnswersRow Tells changes left done refused old new) where
  pub row_size : length changes ≡ done + length is.row.rest
  row_size = ap length is.row.are ∙ length-append is.row.made is.row.rest ∙ ap (λ n. n + length is.row.rest) is.row.many

  pub row_fits : old.state.count + done ≤ max_place
  row_fits =
      let few = is.row.sound.writable.count in
      let count = is.row.count in
      let many = is.row.many in
      let more = length-append is.row.made (option_to_list (option_map (λ (f : Asked × Failure). f.0) is.row.failed)) in
      omega (arith, few, count, many, more)

-- a store that isn't told to be stopped runs
pub runs_so : (told stopped : Option ℕ) (b : Bool) → told ≡ stopped → b ≡ is_some told → b ≡ false → stopped ≡ None
runs_so told stopped b is tells false_is = sym is ∙ none_if told (sym tells ∙ false_is)

-- by why it went no further
module _ (Tells Ports : Type 0) (caller : ℕ) (changes left : List Asked) (done : ℕ) (refused : Option Refused) (old new : View) (is : AnswersRow Tells changes left done refused old new) (pins : new.pins ≡ old.pins) (runs : old.state.stopped ≡ None) (before behind : List Line) where
  pub row_unfailed : ((place faults now : ℕ) → refused ≡ Some (refusal.Fault place faults now) → ⊥) → behind ≡ before ++ done_lines caller old.state.count done → HasMade Tells Ports caller changes is.row.rest before behind old new
  row_unfailed never pushed =
      let ended = unfailed refused is.row.rest left is.row.failed old new is.row.ended never in
      row_made Tells Ports caller changes left done refused old new is pins runs ended.0 (is.row.stopped ∙ ended.2 old.state.stopped ∙ runs) before behind pushed

  pub row_whole : refused ≡ None → is.row.rest ≡ left
  row_whole whole = let ended = subst (λ r. IsEnded r is.row.rest left is.row.failed old new) whole is.row.ended in sym ended.1

  pub row_fault : (place faults now many : ℕ) → refused ≡ Some (refusal.Fault place faults now) → many ≡ length changes - done - 1
      → behind ≡ ((before ++ done_lines caller old.state.count done) ++ line.Answer caller (reply.Fault place faults now) ∷ []) ++ stopped_lines caller place many → HasMade Tells Ports caller changes [] before behind old new
  row_fault place faults now many why many_is pushed =
      let ended = subst (λ r. IsEnded r is.row.rest left is.row.failed old new) why is.row.ended in
      let next = ended.0 in
      let others = ended.1 in
      let size = row_size Tells changes left done refused old new is in
      let rest_size = ap length ended.2 in
      let fewer : many ≡ length others = omega (arith, many_is, size, rest_size) in
      let fault_line = line.Answer caller (reply.Fault place faults now) in
      let dones = done_lines caller old.state.count done in
      let stopped : new.state.stopped ≡ Some place = is.row.stopped ∙ ap (λ r. stopped_by r old.state.stopped) why in
      row_failed Tells Ports caller changes left done refused old new is pins runs next others (record { place = place; before = faults; after = now }) ended.2 ended.3 ended.4 ended.5 ended.6 ended.7 stopped before behind
      (pushed ∙ append_assoc (before ++ dones) (fault_line ∷ []) (stopped_lines caller place many) ∙ append_assoc before dones (fault_line ∷ stopped_lines caller place many)
      ∙ ap (λ n. before ++ (done_lines caller old.state.count n ++ fault_line ∷ stopped_lines caller place many)) (sym is.row.many)
      ∙ ap (λ n. before ++ (done_lines caller old.state.count (length is.row.made) ++ fault_line ∷ stopped_lines caller place n)) fewer)

-- where nothing was done
pub row_still : (Tells Ports : Type 0) (caller : ℕ) (changes : List Asked) (lines : List Line) (view : View) → HasMade Tells Ports caller changes changes lines lines view view
row_still Tells Ports caller changes lines view = record {
  front = [];
  more = [];
  are = refl;
  lines = sym (append-nil lines);
  told = later_itself (standing_of view);
  slots = λ slots. refl;
  served = λ told begin from start on. (start, phase_of Ports begin from start start [] [] view view on (built_start Ports begin start view));
  faults = omega arith;
  face = refl;
  retired = refl;
  pins = refl;
}

pub no_more : {X : Type 0} (xs : List X) → length xs ≡ 0 → xs ≡ []
no_more [] none = refl
no_more (x ∷ xs) none = absurd (omega (arith, none))

-- a change leaves the slots as they are
pub held_same : (change : Asked) (held next : Held) → held_behind (act_of change) held ≡ Some next → next ≡ held
held_same (asked.Put key dkey value) held next is = cc
held_same (asked.Delete key) held next is = cc
held_same (asked.Erase range) held next is = cc

-- Rows one behind another

module _ {D Page Port : Type 0} {kind : Ghosts D Page Port} (Tells Ports : Type 0) (caller : ℕ) where
  pub served_none : (changes : List Asked) (lines : List Line) (view : View) (held : List (Option (Snapshot D Page Port kind))) → HasServed Tells Ports caller changes changes lines lines view held view held
  served_none changes lines view held = record { front = []; more = []; are = refl; lines = sym (append-nil lines); stretch = stretch_none Tells Ports view held }

  -- what the slots hold stays so
  pub served_made : (changes left : List Asked) (before behind : List Line) (old new : View) (held : List (Option (Snapshot D Page Port kind))) → HasMade Tells Ports caller changes left before behind old new
      → HasServed Tells Ports caller changes left before behind old held new held
  served_made changes left before behind old new held made = record {
    front = made.front;
    more = made.more;
    are = made.are;
    lines = made.lines;
    stretch = record {
      told = made.told;
      slots = made.slots (slots_of held);
      served = λ told begin from start on shown.
          let is = made.served told begin from start on in
          let begins = is.1.served.begins in
          (is.0, is.1, subst (λ h. AreShown h held) (sym begins.1) (shown_later held start begins.0 shown));
      faults = made.faults;
    };
  }

  -- the next change is answered, unless there was no memory
  pub served_act : (change : Asked) (rest : List Asked) (act : Act) → act ≡ act_of change → (before behind : List Line) (old new : View) (was held : List (Option (Snapshot D Page Port kind))) (more : List Line) → behind ≡ before ++ more
      → IsStretch Tells Ports (record { line = 0; caller = caller; act = act } ∷ []) more old was new held → HasServed Tells Ports caller (change ∷ rest) rest before behind old was new held
  served_act change rest act is before behind old new was held more pushed stretch = record {
    front = change ∷ [];
    more = more;
    are = refl;
    lines = pushed;
    stretch = subst (λ act. IsStretch Tells Ports (record { line = 0; caller = caller; act = act } ∷ []) more old was new held) is stretch;
  }

  pub served_still : (changes : List Asked) (before behind : List Line) (old new : View) (was held : List (Option (Snapshot D Page Port kind))) (more : List Line) → behind ≡ before ++ more
      → IsStretch Tells Ports [] more old was new held → HasServed Tells Ports caller changes changes before behind old was new held
  served_still changes before behind old new was held more pushed stretch = record { front = []; more = more; are = refl; lines = pushed; stretch = stretch }

  pub served_then : (changes mid left : List Asked) (lines between behind : List Line) (old middle new : View) (was amid held : List (Option (Snapshot D Page Port kind)))
      → HasServed Tells Ports caller changes mid lines between old was middle amid → HasServed Tells Ports caller mid left between behind middle amid new held
      → HasServed Tells Ports caller changes left lines behind old was new held
  served_then changes mid left lines between behind old middle new was amid held a b = record {
    front = a.front ++ b.front;
    more = a.more ++ b.more;
    are = a.are ∙ ap (λ l. a.front ++ l) b.are ∙ sym (append_assoc a.front b.front left);
    lines = b.lines ∙ ap (λ l. l ++ b.more) a.lines ∙ append_assoc lines a.more b.more;
    stretch = subst (λ orders. IsStretch Tells Ports orders (a.more ++ b.more) old was new held) (sym (orders_append caller a.front b.front))
        (stretch_then Tells Ports (orders_of caller a.front) (orders_of caller b.front) a.more b.more old middle new was amid held a.stretch b.stretch);
  }

-- One order more, behind the changes that wait

order_is : (order : Order) (caller : ℕ) (act : Act) → order.caller ≡ caller → order.act ≡ act → unlined order ≡ record { line = 0; caller = caller; act = act }
order_is order caller act by is = λ i. record { line = 0; caller = by i; act = is i }

module _ {D Page Port : Type 0} {kind : Ghosts D Page Port} (Tells Ports : Type 0) (caller : ℕ) (changes : List Asked) (order : Order) (before behind : List Line)
    (old : View) (was : List (Option (Snapshot D Page Port kind))) (new : View) (held : List (Option (Snapshot D Page Port kind))) where
  -- what comes of it
  abbrev pub GoesOn : Type 0 → List Order → Type 0
  GoesOn Whole next =
      (part : List Order) × (left : List Order) × (more : List Line) × (orders_of caller changes ++ unlined order ∷ [] ≡ part ++ left) × (Whole → left ≡ next) × (behind ≡ before ++ more)
      × IsStretch Tells Ports part more old was new held

  -- there was no memory for one of those
  pub row_refused : (left : List Asked) (Whole : Type 0) (next : List Order) → (Whole → ⊥) → HasServed Tells Ports caller changes left before behind old was new held → GoesOn Whole next
  row_refused left Whole next never row = (
    orders_of caller row.front,
    orders_of caller left ++ unlined order ∷ [],
    row.more,
    ap (λ l. l ++ unlined order ∷ []) (ap (orders_of caller) row.are ∙ orders_append caller row.front left) ∙ append_assoc (orders_of caller row.front) (orders_of caller left) (unlined order ∷ []),
    (λ whole. absurd (never whole)),
    row.lines,
    row.stretch,
  )

  -- they are answered, and it waits
  pub row_begins : (left : List Asked) (Whole : Type 0) (next : List Order) → left ≡ [] → (Whole → unlined order ∷ [] ≡ next) → HasServed Tells Ports caller changes left before behind old was new held → GoesOn Whole next
  row_begins left Whole next none waits row = (
    orders_of caller row.front,
    unlined order ∷ [],
    row.more,
    ap (λ l. l ++ unlined order ∷ []) (ap (orders_of caller) (row.are ∙ ap (λ l. row.front ++ l) none ∙ append-nil row.front)),
    waits,
    row.lines,
    row.stretch,
  )

-- it waits with them
pub row_longer : {D Page Port : Type 0} {kind : Ghosts D Page Port} (Tells Ports : Type 0) (caller : ℕ) (changes : List Asked) (order : Order) (lines : List Line) (view : View) (held : List (Option (Snapshot D Page Port kind)))
    (Whole : Type 0) (next : List Order) → (Whole → orders_of caller changes ++ unlined order ∷ [] ≡ next) → GoesOn Tells Ports caller changes order lines lines view held view held Whole next
row_longer Tells Ports caller changes order lines view held Whole next waits =
    ([], orders_of caller changes ++ unlined order ∷ [], [], refl, waits, sym (append-nil lines), stretch_none Tells Ports view held)

pub waits_behind : (caller : ℕ) (changes : List Asked) (change : Asked) (order : Order) → order.caller ≡ caller → order.act ≡ act_of change → orders_of caller changes ++ unlined order ∷ [] ≡ orders_of caller (changes ++ change ∷ [])
waits_behind caller changes change order by is =
    ap (λ o. orders_of caller changes ++ o ∷ []) (order_is order caller (act_of change) by is) ∙ sym (orders_append caller changes (change ∷ []))

-- they are answered, and so is it, unless there was no memory
pub row_then : {D Page Port : Type 0} {kind : Ghosts D Page Port} (Tells Ports : Type 0) (caller : ℕ) (changes : List Asked) (order : Order) (act : Act) → order.act ≡ act
    → (lines between behind : List Line) (old mid new : View) (was amid held : List (Option (Snapshot D Page Port kind))) (left : List Asked) (b : Bool) (next : List Order) → left ≡ [] → next ≡ []
    → HasServed Tells Ports caller changes left lines between old was mid amid → (more : List Line) → behind ≡ between ++ more
    → IsStretch Tells Ports (cond b (record { line = 0; caller = order.caller; act = act } ∷ []) []) more mid amid new held → GoesOn Tells Ports caller changes order lines behind old was new held (b ≡ true) next
row_then Tells Ports caller changes order act is lines between behind old mid new was amid held left b next none ends row more pushed stretch =
    let order' : Order = record { line = 0; caller = order.caller; act = act } in
    let one = cond b (order' ∷ []) [] in
    let rest = cond b [] (order' ∷ []) in
    let whole : unlined order ∷ [] ≡ one ++ rest = ap (λ o. o ∷ []) (order_is order order.caller act refl is) ∙ by b order' in (
      orders_of caller row.front ++ one,
      rest,
      row.more ++ more,
      ap (λ l. l ++ unlined order ∷ []) (ap (orders_of caller) (row.are ∙ ap (λ l. row.front ++ l) none ∙ append-nil row.front)) ∙ ap (λ l. orders_of caller row.front ++ l) whole
          ∙ sym (append_assoc (orders_of caller row.front) one rest),
      (λ all. ap (λ b. cond b [] (order' ∷ [])) all ∙ sym ends),
      pushed ∙ ap (λ l. l ++ more) row.lines ∙ append_assoc lines row.more more,
      stretch_then Tells Ports (orders_of caller row.front) one row.more more old mid new was amid held row.stretch stretch,
    )
  where
    by : (b : Bool) (o : Order) → o ∷ [] ≡ cond b (o ∷ []) [] ++ cond b [] (o ∷ [])
    by true o = refl
    by false o = refl

-- the queue is longer, unless there was no memory
pub pushed_behind : {X : Type 0} (xs ys : List X) (x : X) (ok b : Bool) → ys ≡ cond ok (xs ++ x ∷ []) xs → b ≡ ok → b ≡ true → ys ≡ xs ++ x ∷ []
pushed_behind xs ys x ok b is tells so = is ∙ ap (λ b. cond b (xs ++ x ∷ []) xs) (sym tells ∙ so)

-- The orders of a phase, but for those that wait

pub waits_more : (yielded front part left waiting : List Order) (order : Order) → map unlined yielded ≡ front ++ waiting → waiting ++ unlined order ∷ [] ≡ part ++ left → map unlined (yielded ++ order ∷ []) ≡ (front ++ part) ++ left
waits_more yielded front part left waiting order so_far step =
    map-append unlined yielded (order ∷ []) ∙ ap (λ l. l ++ unlined order ∷ []) so_far ∙ append_assoc front waiting (unlined order ∷ []) ∙ ap (λ l. front ++ l) step ∙ sym (append_assoc front part left)

-- and those that come behind them
pub waits_all : (orders yielded front part left waiting rest : List Order) (order : Order) → orders ≡ yielded ++ order ∷ rest → map unlined yielded ≡ front ++ waiting → waiting ++ unlined order ∷ [] ≡ part ++ left
    → map unlined orders ≡ (front ++ part) ++ (left ++ map unlined rest)
waits_all orders yielded front part left waiting rest order whole so_far step =
    ap (map unlined) (whole ∙ sym (append_assoc yielded (order ∷ []) rest)) ∙ map-append unlined (yielded ++ order ∷ []) rest
    ∙ ap (λ l. l ++ map unlined rest) (waits_more yielded front part left waiting order so_far step) ∙ append_assoc (front ++ part) left (map unlined rest)

pub waits_row : (orders front waiting served left : List Order) → map unlined orders ≡ front ++ waiting → waiting ≡ served ++ left → map unlined orders ≡ (front ++ served) ++ left
waits_row orders front waiting served left so_far row = so_far ∙ ap (λ l. front ++ l) row ∙ sym (append_assoc front served left)

module _ {D Page Port : Type 0} {kind : Ghosts D Page Port} (Tells Ports Whole : Type 0) (orders front left : List Order) (lines : List Line)
    (old : View) (was : List (Option (Snapshot D Page Port kind))) (new : View) (held : List (Option (Snapshot D Page Port kind))) where
  -- what of a phase was answered
  pub phase_parts : map unlined orders ≡ front ++ left → (Whole → left ≡ []) → IsStretch Tells Ports front lines old was new held
      → (part : List Order) × (rest : List Order) × (orders ≡ part ++ rest) × (Whole → rest ≡ [])
      × IsStretch Tells Ports part lines old was new held
  phase_parts are all stretch =
      let parts = lined_parts orders front left are in
      let part = parts.0 in
      let is = stretch_lined Tells Ports part lines old new was held (subst (λ os. IsStretch Tells Ports os lines old was new held) (sym parts.3) stretch) in
      (part, parts.1, parts.2, (λ whole. none_lined parts.1 (parts.4 ∙ all whole)), is)
