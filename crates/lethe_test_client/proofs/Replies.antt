-- Which reply a line has that isn't refused, and why none is on a disk that never failed, on which numbers are to spare.
use Rattle.std.proofs.Common.{◌≡◌, ◌+◌, ◌≤◌, ℕ, suc, take, false, Option, Some, None, refl, ap, ◌∙◌, arith, inl, inr}
use Rattle.std.specs.Prelude.{IsSomeAnd}
use Rattle.lethe_base.specs.History.{after}
use Rattle.lethe_base.specs.Keys.{Bytes}
use Rattle.lethe_base.specs.Limits.{max_place}
use Rattle.lethe_base.specs.Read as answers
use Rattle.lethe_engine.specs.declared.ticking.Ticked.{Ticked}
use Rattle.lethe_script.specs.declared.order.Act.{Act}
use Rattle.lethe_script.specs.declared.order.Act.TheVariants.{Put, Get, Tick}
use Rattle.lethe_run.specs.declared.reply.Line.TheVariants.{Answer}
use Rattle.lethe_run.specs.declared.reply.Reply.{Reply}
use Rattle.lethe_run.specs.declared.reply.Reply.TheVariants.{Done, Got, Scanned, Counted, Pinned, PinGot, PinScanned, Unpinned, Fault, Stopped, Exhausted, Backwards, Barred, ReadFault, Damaged}
use Rattle.lethe_run.specs.declared.reply.Reply.TheVariants as replies
use Rattle.lethe_run.specs.Transcript.{Told, Course, Answers, Follows, IsFailedAt, IsTickAt, call_of, is_refusal}

-- what is known of the disk at the end of a run
pub record IsCalm (course : Course) : Type 0 where
  pub now : course.now ≡ 0
  pub ports : course.PortsFail → ⊥
  pub spare : course.next + course.calls ≤ 2000

some_and : {X : Type 0} {P : X → Type 0} {Q : Type 0} (o : Option X) → IsSomeAnd o P → ((x : X) → P x → Q) → Q
some_and None is f = absurd is
some_and (Some x) is f = f x is

module _ (told : Told) (calm : IsCalm told.course) where
  not_failed : (place before after : ℕ) → IsFailedAt told place before after → ⊥
  not_failed place before after f = omega (arith, f.rose, f.upto, calm.now)

  -- no line among the first three is refused
  pub never_refused : (caller n m : ℕ) (act : Act) (reply : Reply) → n ≤ 2 → Answers told caller act reply → Follows told.course n reply m → is_refusal (Answer caller reply) ≡ false
  never_refused caller n m act (Done place) few a f = refl
  never_refused caller n m act (replies.Ticked ticked) few a f = refl
  never_refused caller n m act (Backwards point clock) few a f = refl
  never_refused caller n m act (Barred number limit) few a f = refl
  never_refused caller n m act (Got point held) few a f = refl
  never_refused caller n m act (Scanned point pairs) few a f = refl
  never_refused caller n m act (Counted point stat) few a f = refl
  never_refused caller n m act (Pinned point number limit) few a f = refl
  never_refused caller n m act (PinGot number point held) few a f = refl
  never_refused caller n m act (PinScanned number point pairs) few a f = refl
  never_refused caller n m act (Unpinned point number) few a f = refl
  never_refused caller n m act (Fault place before now) few a f = absurd (some_and (call_of act) a (λ call is. not_failed place before now is.fails))
  never_refused caller n m act (Stopped at) few a f = absurd (not_failed at a.1.before a.1.after a.1.fails)
  never_refused caller n m act (Exhausted last) few a f =
      let is : last ≡ max_place = a.1.0 in
      elim f.0 [
        | inl here ↦ absurd (omega (arith, here, is, few))
        | inr short ↦ absurd (omega (arith, short, calm.spare, few))
      ]
  never_refused caller n m act ReadFault few a f = absurd (calm.ports a.1)
  never_refused caller n m act (Damaged page) few a f = absurd a

module _ (told : Told) (caller n m : ℕ) where
  -- a put that isn't refused is done at the next place
  pub put_done : (key : Bytes) (dkey : ℕ) (value : Bytes) (reply : Reply) → is_refusal (Answer caller reply) ≡ false → Answers told caller (Put key dkey value) reply → Follows told.course n reply m
      → (reply ≡ Done (suc n)) × (m ≡ suc n)
  put_done key dkey value (Done place) none a f = (ap Done f.0, f.1)
  put_done key dkey value (replies.Ticked ticked) none a f = let clash = a.1 in cc
  put_done key dkey value (Backwards point clock) none a f = let clash = a.1 in cc
  put_done key dkey value (Barred number limit) none a f = let clash = a.1 in cc
  put_done key dkey value (Got point held) none a f = absurd a
  put_done key dkey value (Scanned point pairs) none a f = absurd a
  put_done key dkey value (Counted point stat) none a f = let clash = a.0 in cc
  put_done key dkey value (Pinned point number limit) none a f = let clash = a.0.1 in cc
  put_done key dkey value (PinGot number point held) none a f = absurd a
  put_done key dkey value (PinScanned number point pairs) none a f = absurd a
  put_done key dkey value (Unpinned point number) none a f = let clash = a.0.1 in cc
  put_done key dkey value (Fault place before now) none a f = cc
  put_done key dkey value (Stopped at) none a f = cc
  put_done key dkey value (Exhausted last) none a f = cc
  put_done key dkey value ReadFault none a f = cc
  put_done key dkey value (Damaged page) none a f = absurd a

  -- a get that isn't refused is answered here
  pub got_here : (key : Bytes) (reply : Reply) → is_refusal (Answer caller reply) ≡ false → Answers told caller (Get key) reply → Follows told.course n reply m
      → (held : Option (ℕ × Bytes)) × (reply ≡ Got n held) × (m ≡ n) × (answers.Found held ≡ answers.answer (after (take n told.history)) (answers.Get key))
  got_here key (Got point held) none a f = (held, ap (λ p. Got p held) f.0, f.1, a.is ∙ ap (λ p. answers.answer (after (take p told.history)) (answers.Get key)) f.0)
  got_here key (Done place) none a f = absurd a
  got_here key (replies.Ticked ticked) none a f = let clash = a.1 in cc
  got_here key (Backwards point clock) none a f = let clash = a.1 in cc
  got_here key (Barred number limit) none a f = let clash = a.1 in cc
  got_here key (Scanned point pairs) none a f = let clash = a.is in cc
  got_here key (Counted point stat) none a f = let clash = a.0 in cc
  got_here key (Pinned point number limit) none a f = let clash = a.0.1 in cc
  got_here key (PinGot number point held) none a f = absurd a
  got_here key (PinScanned number point pairs) none a f = absurd a
  got_here key (Unpinned point number) none a f = let clash = a.0.1 in cc
  got_here key (Fault place before now) none a f = cc
  got_here key (Stopped at) none a f = cc
  got_here key (Exhausted last) none a f = cc
  got_here key ReadFault none a f = cc
  got_here key (Damaged page) none a f = absurd a

  -- a tick that isn't refused is done at the next place, where no pin bars it and the clock isn't ahead of its time
  pub tick_done : (to : ℕ) (reply : Reply) → is_refusal (Answer caller reply) ≡ false → Answers told caller (Tick to) reply → Follows told.course n reply m
      → ((number limit : ℕ) → reply ≡ Barred number limit → ⊥) → (after (take n told.history)).clock ≤ to
      → (ticked : Ticked) × (reply ≡ replies.Ticked ticked) × (ticked.place ≡ suc n) × (m ≡ suc n) × IsTickAt told caller to ticked
  tick_done to (replies.Ticked ticked) none a f free late =
      let same : a.0 ≡ to = let e = a.1 in cc in
      (ticked, refl, f.0, f.1, rw (← same) a.2)
  tick_done to (Done place) none a f free late = absurd a
  tick_done to (Backwards point clock) none a f free late =
      let same : a.0 ≡ to = let e = a.1 in cc in
      absurd (omega (arith, same, a.2.is, a.2.ahead, ap (λ p. (after (take p told.history)).clock) f.0, late))
  tick_done to (Barred number limit) none a f free late = absurd (free number limit refl)
  tick_done to (Got point held) none a f free late = absurd a
  tick_done to (Scanned point pairs) none a f free late = absurd a
  tick_done to (Counted point stat) none a f free late = let clash = a.0 in cc
  tick_done to (Pinned point number limit) none a f free late = let clash = a.0.1 in cc
  tick_done to (PinGot number point held) none a f free late = absurd a
  tick_done to (PinScanned number point pairs) none a f free late = absurd a
  tick_done to (Unpinned point number) none a f free late = let clash = a.0.1 in cc
  tick_done to (Fault place before now) none a f free late = cc
  tick_done to (Stopped at) none a f free late = cc
  tick_done to (Exhausted last) none a f free late = cc
  tick_done to ReadFault none a f free late = cc
  tick_done to (Damaged page) none a f free late = absurd a
