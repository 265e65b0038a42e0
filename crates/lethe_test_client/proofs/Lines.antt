-- Which two lines answer a put and what comes behind it, over a new store.
use Rattle.std.proofs.Common.{◌≡◌, ◌∙◌, ℕ, take, false, List, [], ◌∷◌, Option, Some, None, ap, subst, arith, length}
use Rattle.std.specs.Prelude.{codes, Contains, IfSome}
use Rattle.lethe_base.specs.History.{History, after, change_at}
use Rattle.lethe_base.specs.Read as answers
use Rattle.lethe_base.specs.Keys.{Bytes}
use Rattle.lethe_cert.specs.declared.certificate.Certificate.{Certificate}
use Rattle.lethe_engine.specs.Ticks.{IsCertificateAt}
use Rattle.lethe_engine.specs.declared.ticking.Ticked.{Ticked}
use Rattle.lethe_stored.specs.Kept.{certificates}
use Rattle.lethe_script.specs.declared.order.Order.{Order}
use Rattle.lethe_run.specs.Anywhere.{AreTold, IsLater, Standing}
use Rattle.lethe_run.specs.Pins.{InPins, Pins, no_pins}
use Rattle.lethe_run.specs.Transcript.{Course, InTurn, IsTickAt, is_refusal}
use Rattle.lethe_run.specs.Transcript as transcript
use Rattle.lethe_run.specs.declared.reply.Line.{Line}
use Rattle.lethe_run.specs.declared.reply.Line.TheVariants.{Answer}
use Rattle.lethe_run.specs.declared.reply.Reply.{Reply}
use Rattle.lethe_run.specs.declared.reply.Reply.TheVariants.{Done, Got, Barred}
use Rattle.lethe_run.specs.declared.reply.Reply.TheVariants as replies
use Rattle.lethe_test_client.specs.Scripts.{get_order, put_order, the_put, the_tick, tick_order}
use Rattle.lethe_test_client.proofs.Changes.{found_put, take_one, take_two, whole}
use Rattle.lethe_test_client.proofs.Replies.{IsCalm, never_refused, put_done, got_here, tick_done}

-- The lines answer the orders of one caller one after another, over a new store.
pub record InOneTurn (course : Course) (orders : List Order) (lines : List Line) (h : History) : Type 0 where
  pub answered : transcript.Answered (record { history = h; course = course }) orders lines
  pub turns : InTurn course 0 lines (length h)

-- Two lines, neither of which is refused, since the disk never failed

module _ (course : Course) (h : History) where
  abbrev told : transcript.Told
  told = record { history = h; course = course }

  -- the first answers the put, so that the second follows behind one place
  record IsBehindPut (second : Order) (caller : ℕ) (first reply : Reply) (end : ℕ) : Type 0 where
    pub done : first ≡ Done 1
    pub caller_is : caller ≡ 1
    pub put : take 1 h ≡ the_put ∷ []
    pub unrefused : is_refusal (Answer second.caller reply) ≡ false
    pub answered : transcript.Answers told second.caller second.act reply
    pub follows : transcript.Follows course 1 reply end
    pub ends : length h ≡ end

  behind_put : (second : Order) (c1 c2 : ℕ) (r1 r2 : Reply) → transcript.Answered told (put_order ∷ second ∷ []) (Answer c1 r1 ∷ Answer c2 r2 ∷ [])
      → InTurn course 0 (Answer c1 r1 ∷ Answer c2 r2 ∷ []) (length h) → IsCalm course → (end : ℕ) × IsBehindPut second c1 r1 r2 end
  behind_put second c1 c2 r1 r2 a turn calm =
      let done = put_done told 1 0 turn.0 (codes "a") 5 (codes "x") r1 (never_refused told calm 1 0 turn.0 put_order.act r1 (omega arith) a.1 turn.1) a.1 turn.1 in
      let follows = subst (λ n. transcript.Follows course n r2 turn.2.0) done.1 turn.2.1 in (
        turn.2.0,
        record {
          done = done.0;
          caller_is = a.0;
          put = take_one h the_put (subst (λ r. transcript.Answers told 1 put_order.act r) done.0 a.1);
          unrefused = never_refused told calm second.caller 1 turn.2.0 second.act r2 (omega arith) a.2.1 follows;
          answered = a.2.1;
          follows = follows;
          ends = turn.2.2;
        },
      )

-- both lines, by their parts
two : (c1 c2 : ℕ) (r1 r2 s : Reply) → c1 ≡ 1 → r1 ≡ Done 1 → c2 ≡ 1 → r2 ≡ s → ◌≡◌ {A = List Line} (Answer c1 r1 ∷ Answer c2 r2 ∷ []) (Answer 1 (Done 1) ∷ Answer 1 s ∷ [])
two c1 c2 r1 r2 s one done other is = λ i. Answer (one i) (done i) ∷ Answer (other i) (is i) ∷ []

-- The get

abbrev pub get_lines : List Line
get_lines = Answer 1 (Done 1) ∷ Answer 1 (Got 1 (Some (5, codes "x"))) ∷ []

found_in : (h : History) (held : Option (ℕ × Bytes)) → take 1 h ≡ the_put ∷ [] → answers.Found held ≡ answers.answer (after (take 1 h)) (answers.Get (codes "a")) → held ≡ Some (5, codes "x")
found_in h held put is = let same : answers.Found held ≡ answers.Found (Some (5, codes "x")) = is ∙ ap (λ l. answers.answer (after l) (answers.Get (codes "a"))) put ∙ found_put in cc

pub get_answered : (course : Course) (h : History) (lines : List Line) → InOneTurn course (put_order ∷ get_order ∷ []) lines h → IsCalm course → (lines ≡ get_lines) × (h ≡ the_put ∷ [])
get_answered course h [] served calm = absurd served.answered
get_answered course h (Answer c1 r1 ∷ []) served calm = absurd served.answered.2
get_answered course h (Answer c1 r1 ∷ Answer c2 r2 ∷ line ∷ more) served calm = absurd served.answered.2.2
get_answered course h (Answer c1 r1 ∷ Answer c2 r2 ∷ []) served calm =
    let behind = behind_put course h get_order c1 c2 r1 r2 served.answered served.turns calm in
    let got = got_here (told course h) 1 1 behind.0 (codes "a") r2 behind.1.unrefused behind.1.answered behind.1.follows in (
      two c1 c2 r1 r2 _ behind.1.caller_is behind.1.done served.answered.2.0 (got.1 ∙ ap (λ o. Got 1 o) (found_in h got.0 behind.1.put got.3)),
      whole h 1 (the_put ∷ []) behind.1.put (behind.1.ends ∙ got.2),
    )

-- The tick

-- it is the second change, moves the clock to the threshold, and has the first certificate, with this digest
pub record IsFirstTick (ticked : Ticked) (digest : Bytes) : Type 0 where
  pub place : ticked.place ≡ 2
  pub clock : ticked.clock ≡ 1000
  pub certificate : ticked.certificate ≡ Some (record { number = 1; clock = 1000; before = 0; digest = digest })

certified : (o : Option Certificate) → IsCertificateAt 1000 1000 o → IfSome o (λ c. c.number ≡ 1) → (digest : Bytes) × (o ≡ Some (record { number = 1; clock = 1000; before = 0; digest = digest }))
certified None due number = absurd (omega (arith, due))
certified (Some c) due number =
    let none : c.before ≡ 0 = omega (arith, due.1) in
    (c.digest, λ i. Some (record { number = number i; clock = due.0 i; before = none i; digest = c.digest }))

first_tick : (course : Course) (h : History) (ticked : Ticked) → course.config.threshold ≡ 1000 → take 1 h ≡ the_put ∷ [] → ticked.place ≡ 2 → IsTickAt (told course h) 1 1000 ticked
    → (digest : Bytes) × IsFirstTick ticked digest × (take 2 h ≡ the_put ∷ the_tick ∷ [])
first_tick course h ticked threshold put place is =
    let both : take 2 h ≡ the_put ∷ the_tick ∷ [] = both_in h (put_at h put) (subst (λ p. change_at h p ≡ Some the_tick) place is.done) in
    let due = subst (λ n. IsCertificateAt n 1000 ticked.certificate) threshold is.due in
    let number = numbered ticked.certificate (ap (λ n. certificates n (take ticked.place h)) threshold ∙ ap (λ p. certificates 1000 (take p h)) place ∙ ap (certificates 1000) both) is.number in
    let found = certified ticked.certificate due number in
    (found.0, record { place = place; clock = is.clock; certificate = found.1 }, both)
  where
    put_at : (h : History) → take 1 h ≡ the_put ∷ [] → change_at h 1 ≡ Some the_put
    put_at [] e = cc
    put_at (x ∷ h) e = cc

    both_in : (h : History) → change_at h 1 ≡ Some the_put → change_at h 2 ≡ Some the_tick → take 2 h ≡ the_put ∷ the_tick ∷ []
    both_in h one next = take_two h the_put the_tick one next

    numbered : (o : Option Certificate) {n m : ℕ} → n ≡ m → IfSome o (λ c. c.number ≡ n) → IfSome o (λ c. c.number ≡ m)
    numbered None e is = tt
    numbered (Some c) e is = is ∙ e

pins_later : (s t : Standing) → IsLater s t → t.pins ≡ s.pins
pins_later s t later = ap (λ standing. standing.pins) later.1

module _ (P : Type 0) (from upto : ℕ) (s t : Standing) (c1 c2 : ℕ) (r1 r2 : Reply) (free : s.pins ≡ no_pins) where
  -- no pin bars the tick, since none was made
  unbarred : AreTold P from upto (put_order ∷ tick_order ∷ []) s (Answer c1 r1 ∷ Answer c2 r2 ∷ []) t → r1 ≡ Done 1 → (number limit : ℕ) → r2 ≡ Barred number limit → ⊥
  unbarred known done number limit barred =
      let first = known.2 in
      let second = known.3.2 in
      let kept = subst (λ r. InPins r first.0.pins known.1.pins) done first.2.1 in
      let bars = subst (λ r. InPins r second.0.pins known.3.1.pins) barred second.2.1 in
      let none = pins_later known.1 second.0 second.1 ∙ kept ∙ pins_later s first.0 first.1 ∙ free in
      let there : Contains no_pins.held (record { number = number; limit = limit }) = subst (λ (pins : Pins). Contains pins.held (record { number = number; limit = limit })) none bars.0 in
      omega (arith, there.1)

pub tick_answered : (P : Type 0) (from upto : ℕ) (course : Course) (h : History) (s t : Standing) (lines : List Line) → course.config.threshold ≡ 1000 → s.pins ≡ no_pins
    → AreTold P from upto (put_order ∷ tick_order ∷ []) s lines t → InOneTurn course (put_order ∷ tick_order ∷ []) lines h → IsCalm course
    → (ticked : Ticked) × (digest : Bytes) × IsFirstTick ticked digest × (lines ≡ Answer 1 (Done 1) ∷ Answer 1 (replies.Ticked ticked) ∷ []) × (h ≡ the_put ∷ the_tick ∷ [])
tick_answered P from upto course h s t [] threshold free known served calm = absurd served.answered
tick_answered P from upto course h s t (Answer c1 r1 ∷ []) threshold free known served calm = absurd served.answered.2
tick_answered P from upto course h s t (Answer c1 r1 ∷ Answer c2 r2 ∷ line ∷ more) threshold free known served calm = absurd served.answered.2.2
tick_answered P from upto course h s t (Answer c1 r1 ∷ Answer c2 r2 ∷ []) threshold free known served calm =
    let behind = behind_put course h tick_order c1 c2 r1 r2 served.answered served.turns calm in
    let early : (after (take 1 h)).clock ≡ 0 = ap (λ l. (after l).clock) behind.1.put in
    let done = tick_done (told course h) 1 1 behind.0 1000 r2 behind.1.unrefused behind.1.answered behind.1.follows (unbarred P from upto s t c1 c2 r1 r2 free known behind.1.done) (omega (arith, early)) in
    let first = first_tick course h done.0 threshold behind.1.put done.2 done.4 in (
      done.0,
      first.0,
      first.1,
      two c1 c2 r1 r2 _ behind.1.caller_is behind.1.done served.answered.2.0 done.1,
      whole h 2 (the_put ∷ the_tick ∷ []) first.2 (behind.1.ends ∙ done.3),
    )
