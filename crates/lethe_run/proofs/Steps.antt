-- A change is answered, and what a tick's answer has in common with it.
use Rattle.std.proofs.Common.{◌≡◌, ◌⊎◌, inl, inr, ◌≤◌, ℕ, suc, ◌+◌, [], ◌∷◌, ◌++◌, length, Option, Some, None, Result, Ok, Err, IsSomeAnd, refl, sym, ap, ◌∙◌, subst, arith, add-one, append-nil}
use Rattle.std.specs.Prelude.{IfErr, IfOk, IfSome, IsSome}
use Rattle.std.specs.Result.{result_err}
use Rattle.std.proofs.lemmas.List.{length-append}
use Rattle.lethe_base.specs.Counts.{Rose}
use Rattle.lethe_base.specs.History.{History, Change, change_at, AreDone}
use Rattle.lethe_base.specs.Limits.{max_place}
use Rattle.lethe_build.specs.Built.{most_numbers}
use Rattle.lethe_base.specs.declared.call.Call.{Call}
use Rattle.lethe_base.specs.declared.call.Did.TheVariants.{Done, Failed}
use Rattle.lethe_base.specs.declared.refused.Refused.{Refused}
use Rattle.lethe_base.specs.declared.refused.Refused.TheVariants as refused
use Rattle.lethe_base.proofs.Histories.{change_at-push}
use Rattle.lethe_cover.specs.Steps.{with_done, with_failed}
use Rattle.lethe_state.specs.Room.{frozen_len}
use Rattle.lethe_core.specs.Asked.{Makes, behind, done_by}
use Rattle.lethe_core.specs.Merges.{IsShortToMerge}
use Rattle.lethe_core.specs.Reasons.{HasReason, IsShortOfRoom, IsUnreadable}
use Rattle.lethe_core.specs.StandsNow.{IsOpenOrStopped, StandsNow}
use Rattle.lethe_core.specs.View.{Face, View, face_of}
use Rattle.lethe_engine.specs.Answers as engine
use Rattle.lethe_engine.specs.Refusals.{HasReasonOfChange, SeesRoom}
use Rattle.lethe_script.specs.declared.order.Act.{Act}
use Rattle.lethe_run.specs.declared.reply.Reply.{Reply}
use Rattle.lethe_run.specs.declared.reply.Reply.TheVariants as reply
use Rattle.lethe_run.specs.Replies.{refusal_of, reply_of}
use Rattle.lethe_run.specs.Carried.{IsSeen, certificate_in, looked_in}
use Rattle.lethe_run.specs.Serving.{Advances, IsBorneOn, IsOn, IsAnswered, Point, opened_in}
use Rattle.lethe_run.specs.Transcript.{Course, Start, course, IsFailedAt, IsFaultOf, IsShort, WasStopped, Answers, Follows, call_of, change_of}
use Rattle.lethe_run.proofs.Images.{stopped_by}
use Rattle.lethe_run.proofs.Shorts.{short_of}
use Rattle.lethe_run.proofs.Outcomes.{Outcome, told_of}

-- a failed change stays one when the count of faults rises
stopped_later : (Ports : Type 0) (begin : Start) (h : History) (now moment later behind at : ℕ) → now ≤ later → WasStopped (told_of h (course Ports begin now moment)) at → WasStopped (told_of h (course Ports begin later behind)) at
stopped_later Ports begin h now moment later behind at le was = record {
  before = was.before;
  after = was.after;
  fails = record { change = was.fails.change; is = was.fails.is; failed = was.fails.failed; rose = was.fails.rose; from = was.fails.from; upto = let upto = was.fails.upto in omega (arith, upto, le) };
}

pub longer : (h : History) (change : Change) → length (h ++ change ∷ []) ≡ suc (length h)
longer h change = omega (arith, length-append h (change ∷ []))

pub asks_change : (act : Act) (call : Call) → call_of act ≡ Some call → IsSome (call_of act)
asks_change act call is = subst IsSome (sym is) refl

-- A call of any face

module _ (Tells Ports : Type 0) (told : Tells) (begin : Start) (from : Point) (h : History) (caller : ℕ) (act : Act) (call : Call) (is : call_of act ≡ Some call) (face : Face) (old new : View) (on : IsOn begin from h old) where
  abbrev Now : Course
  Now = course Ports begin new.faults new.disk.moment

  -- what it says of itself
  abbrev pub Says : Option Refused → Type 0
  Says why = engine.Answers Tells (Makes call) why face old new

  -- it is answered so
  abbrev pub Replied : Reply → Type 0
  Replied r = (g : History) × IsAnswered Ports begin h g caller act r old new

  -- the history goes on to the one behind it, over a stopped store too
  pub advances : (why : Option Refused) → Says why → Advances begin h (behind h caller (Makes call) why) old new
  advances why says = record {
    calls = let run = says.goes told begin.config (opened_in begin from on.counted) h on.stands caller in record { later = run.later; past = run.past };
    stands = λ point on. record {
      done = on.done;
      counted = on.counted;
      stands = says.stands told begin.config (opened_in begin point on.counted) h on.stands caller;
      faults_since = on.faults_since;
      moment_since = on.moment_since;
    };
  }

  -- it has the next place
  pub next_place : (place : ℕ) → place ≡ old.state.count + 1 → place ≡ suc (length h)
  next_place place is = is ∙ add-one old.state.count ∙ ap suc on.stands.now.count

  failed : (place b a : ℕ) → place ≡ old.state.count + 1 → b ≡ old.faults → a ≡ new.faults → Rose old.faults new.faults → Says (Some (refused.Fault place b a)) → Replied (reply.Fault place b a)
  failed place b a place_is b_is a_is rose says =
      let change : Change = record { caller = caller; call = call; did = Failed b a } in
      let g : History = with_failed h caller call b a in
      let at : place ≡ suc (length h) = next_place place place_is in
      let fails : IsFailedAt (told_of g Now) place b a = record {
        change = change;
        is = ap (change_at g) at ∙ change_at-push h change;
        failed = refl;
        rose = subst (λ n. Rose n a) (sym b_is) (subst (Rose old.faults) (sym a_is) rose);
        from = let low = on.faults_since in let since = on.stands.since in omega (arith, low, since, b_is);
        upto = omega (arith, a_is);
      } in (
        g,
        record {
          grows = (change ∷ [], refl);
          answers = subst (λ asks. IsSomeAnd asks (IsFaultOf (told_of g Now) caller place b a)) (sym is) (record { fails = fails; who = refl; what = refl });
          follows = (at, longer h change);
          certified = tt;
          seen = tt;
          goes = advances (Some (refused.Fault place b a)) says;
        },
      )

  -- it wasn't begun, or what was done for it stands for the same history
  pub not_made : (r : Reply) → IfSome (certificate_in r) (IsBorneOn begin h new) → IfSome (looked_in r) (IsSeen begin.config begin.moment h new.disk) → Advances begin h h old new → Answers (told_of h Now) caller act r → Follows Now (length h) r (length h) → Replied r
  not_made r certified seen still what follows = (h, record { grows = ([], sym (append-nil h)); answers = what; follows = follows; certified = certified; seen = seen; goes = still })

  stopped : (at : ℕ) → old.state.stopped ≡ Some at → Says (Some (refused.Stopped at)) → Replied (reply.Stopped at)
  stopped at was says =
      let held = subst (IsOpenOrStopped begin.config old h on.stands.now.stored) was on.stands.now.held in
      not_made (reply.Stopped at) tt tt (advances (Some (refused.Stopped at)) says)
      (asks_change act call is, stopped_later Ports begin h old.faults old.disk.moment new.faults new.disk.moment at says.faults (stopped_by begin from h old on Ports at was)) (held.place, refl)

  -- places run out, or numbers
  exhausted : (last : ℕ) → last ≡ max_place → (old.state.count ≡ max_place) ⊎ IsShort (length h) Now → Says (Some (refused.Exhausted last)) → Replied (reply.Exhausted last)
  exhausted last last_is (inl full) says =
      let all : length h ≡ max_place = sym on.stands.now.count ∙ full in
      not_made (reply.Exhausted last) tt tt (advances (Some (refused.Exhausted last)) says) (asks_change act call is, (last_is, inl all)) (inl (all ∙ sym last_is), refl)
  exhausted last last_is (inr short) says = not_made (reply.Exhausted last) tt tt (advances (Some (refused.Exhausted last)) says) (asks_change act call is, (last_is, inr short)) (inr short, refl)

  module _ (Short : Type 0) (lacks : (last : ℕ) → old.state.stopped ≡ None → Says (Some (refused.Exhausted last)) → Short → IsShort (length h) Now) where
    full_or_short : (last : ℕ) → old.state.stopped ≡ None → Says (Some (refused.Exhausted last)) → (old.state.count ≡ max_place) ⊎ Short → (old.state.count ≡ max_place) ⊎ IsShort (length h) Now
    full_or_short last runs says (inl full) = inl full
    full_or_short last runs says (inr short) = inr (lacks last runs says short)

    -- it was refused, and not for reading a file
    pub hindered : (why : Refused) → HasReason Short old.state old.faults new.faults why → Says (Some why) → Outcome Ports begin h caller act (refusal_of why) old new
    hindered (refused.Fault place b a) reason says = failed place b a reason.1 reason.2 reason.3 reason.4 says
    hindered (refused.Stopped at) reason says = stopped at reason says
    hindered (refused.Exhausted last) reason says = exhausted last reason.1 (full_or_short last reason.0 says reason.2) says
    hindered refused.NoMemory reason says = advances (Some refused.NoMemory) says
    hindered (refused.Backwards clock) reason says = absurd reason
    hindered (refused.Pinned pin limit) reason says = absurd reason
    hindered refused.NothingDue reason says = absurd reason
    hindered (refused.Cancelled begun other) reason says = absurd reason
    hindered (refused.ReadFault b a) reason says = absurd reason
    hindered (refused.Damaged name) reason says = absurd reason

  -- it was refused for that
  pub unreadable : (before now : ℕ) (why : Refused) → IsUnreadable Tells Ports before now why → Says (Some why) → Outcome Ports begin h caller act (refusal_of why) old new
  unreadable before now (refused.ReadFault b a) reason says = not_made reply.ReadFault tt tt (advances (Some (refused.ReadFault b a)) says) (inr (asks_change act call is), reason.0) refl
  unreadable before now (refused.Damaged name) reason says = absurd (reason told)
  unreadable before now (refused.Fault place b a) reason says = absurd reason
  unreadable before now (refused.Stopped at) reason says = absurd reason
  unreadable before now (refused.Exhausted last) reason says = absurd reason
  unreadable before now refused.NoMemory reason says = absurd reason
  unreadable before now (refused.Backwards clock) reason says = absurd reason
  unreadable before now (refused.Pinned pin limit) reason says = absurd reason
  unreadable before now refused.NothingDue reason says = absurd reason
  unreadable before now (refused.Cancelled begun other) reason says = absurd reason

-- A change

module _ (Tells Ports : Type 0) (told : Tells) (begin : Start) (from : Point) (h : History) (caller : ℕ) (act : Act) (call : Call) (is : call_of act ≡ Some call) (writes : change_of act ≡ Some call) (old new : View)
    (on : IsOn begin from h old) (small : frozen_len old.state.frozen ≤ 16384)
    (merges : StandsNow begin.config h new → new.state.stopped ≡ None → IsShortToMerge Tells new → max_place ≤ new.state.next + most_numbers (length h)) where
  abbrev face : Face
  face = face_of old

  made : (place : ℕ) → place ≡ old.state.count + 1 → Says Tells Ports told begin from h caller act call is face old new on None → Replied Tells Ports told begin from h caller act call is face old new on (reply.Done place)
  made place place_is says =
      let change = done_by caller call in
      let g : History = with_done h caller call in
      let at : place ≡ suc (length h) = next_place Tells Ports told begin from h caller act call is face old new on place place_is in (
        g,
        record {
          grows = (change ∷ [], refl);
          answers = subst (λ asks. IsSomeAnd asks (λ c. change_at g place ≡ Some (record { caller = caller; call = c; did = Done }))) (sym writes) (ap (change_at g) at ∙ change_at-push h change);
          follows = (at, longer h change);
          certified = tt;
          seen = tt;
          goes = advances Tells Ports told begin from h caller act call is face old new on None says;
        },
      )

  -- numbers run out only where there is no room
  lacks : (last : ℕ) → old.state.stopped ≡ None → Says Tells Ports told begin from h caller act call is face old new on (Some (refused.Exhausted last)) → (SeesRoom old.state → ⊥) × IsShortOfRoom Tells old.state new
      → IsShort (length h) (course Ports begin new.faults new.disk.moment)
  lacks last runs says few =
      let opened = opened_in begin from on.counted in
      let done : AreDone h = (subst (IsOpenOrStopped begin.config old h on.stands.now.stored) runs on.stands.now.held).0 in
      let later = (says.goes told begin.config opened h on.stands caller).later in
      short_of Tells Ports begin from h old new on small merges later done (says.stands told begin.config opened h on.stands caller) few.1

  pub changes : (before now : ℕ) (result : Result ℕ Refused) → Says Tells Ports told begin from h caller act call is face old new on (result_err result) → IfOk result (λ place. place ≡ old.state.count + 1)
      → IfErr result (HasReasonOfChange Tells Ports old new before now) → Outcome Ports begin h caller act (reply_of result) old new
  changes before now (Ok place) says place_is why = made place place_is says
  changes before now (Err e) says place_is (inl reason) =
      hindered Tells Ports told begin from h caller act call is face old new on ((SeesRoom old.state → ⊥) × IsShortOfRoom Tells old.state new) lacks e reason says
  changes before now (Err e) says place_is (inr reason) = unreadable Tells Ports told begin from h caller act call is face old new on before now e reason.2 says
