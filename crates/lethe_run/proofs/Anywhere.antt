-- What replies and lines tell on any disk.
use Rattle.std.proofs.Common.{◌≡◌, ◌⊎◌, inl, inr, ◌≤◌, ℕ, suc, ◌+◌, List, [], ◌∷◌, ◌++◌, length, Option, Some, None, Result, Ok, Err, refl, sym, ap, ◌∙◌, subst, arith}
use Rattle.std.specs.Prelude.{IfErr, IfOk, IsErrOf, IsSome, MatchResult}
use Rattle.std.specs.Result.{result_err}
use Rattle.lethe_base.specs.Counts.{Rose}
use Rattle.lethe_base.specs.declared.call.Call.{Call}
use Rattle.lethe_base.specs.declared.call.Call.TheVariants as calls
use Rattle.lethe_base.specs.Limits.{max_place}
use Rattle.lethe_base.specs.declared.memory.NoMemory.{NoMemory}
use Rattle.lethe_base.specs.declared.refused.Refused.{Refused}
use Rattle.lethe_base.specs.declared.refused.Refused.TheVariants as refused
use Rattle.lethe_core.specs.Asked.{Makes, clock_behind}
use Rattle.lethe_core.proofs.Asked.{clock_refused}
use Rattle.lethe_core.specs.Reasons.{HasReason, IsShortOfRoom, IsUnreadable}
use Rattle.lethe_core.specs.View.{Face, View, face_of}
use Rattle.lethe_engine.specs.Answers as engine
use Rattle.lethe_read.specs.Refusals.{IsReadRefusal}
use Rattle.lethe_engine.specs.Refusals.{HasReasonOfChange, SeesRoom}
use Rattle.lethe_script.specs.declared.order.Act.{Act}
use Rattle.lethe_script.specs.declared.order.Act.TheVariants as acts
use Rattle.lethe_script.specs.declared.order.Order.{Order}
use Rattle.lethe_state.specs.Clock.{Clock, clock_of}
use Rattle.lethe_state.specs.Room.{frozen_len}
use Rattle.lethe_state.specs.declared.state.State.{State}
use Rattle.lethe_run.specs.declared.reply.Line.{Line}
use Rattle.lethe_run.specs.declared.reply.Line.TheVariants as line
use Rattle.lethe_run.specs.declared.reply.Reply.{Reply}
use Rattle.lethe_run.specs.declared.reply.Reply.TheVariants.{Done, Ticked, Got, Scanned, Counted, Pinned, PinGot, PinScanned, Unpinned, Fault, Stopped, Exhausted, Backwards, Barred, ReadFault, Damaged}
use Rattle.lethe_run.specs.Anywhere.{AreTold, AreToldThrough, IsDrawn, IsLater, IsPhaseTold, IsTold, MayChange, Standing, entries_of, standing_of}
use Rattle.lethe_run.specs.Replies.{refusal_of, reply_of, unread_of}
use Rattle.lethe_run.specs.Pins.{pins_of}
use Rattle.lethe_run.specs.Transcript.{IsRead, call_of, change_of}
use Rattle.lethe_run.proofs.Shorts.{drawn_for_room}
use Rattle.lethe_run.proofs.Steps.{asks_change}

-- what a reply tells of the store before and behind; for want of memory all stand alike
abbrev pub Tells : Type 0 → Act → Result Reply NoMemory → View → View → Type 0
Tells PortsFail act result old new =
    MatchResult result (λ reply. IsTold PortsFail old.faults new.faults act (standing_of old) reply (standing_of new)) (λ why. IsLater (standing_of old) (standing_of new))

-- Standings

pub stands_so : (view : View) (s : Standing) → view.state.count ≡ s.count → view.state.stopped ≡ s.failed → clock_of view.state.manifest ≡ s.clock → pins_of view ≡ s.pins
    → standing_of view ≡ record s { next = view.state.next; entries = entries_of view.levels view.state.manifest.files }
stands_so view s counted stopped clock holds = λ i. record {
  count = counted i;
  failed = stopped i;
  clock = clock i;
  pins = holds i;
  next = view.state.next;
  entries = entries_of view.levels view.state.manifest.files;
}

-- all is as it was
pub stands_still : (old new : View) → new.state ≡ old.state → new.levels ≡ old.levels → pins_of new ≡ pins_of old → standing_of new ≡ standing_of old
stands_still old new state levels kept = λ i. record {
  count = (state i).count;
  failed = (state i).stopped;
  clock = clock_of (state i).manifest;
  pins = kept i;
  next = (state i).next;
  entries = entries_of (levels i) (state i).manifest.files;
}

-- and so is the next number
pub next_still : (old new : View) → new.state ≡ old.state → old.state.next ≤ new.state.next
next_still old new state = let same = ap (λ (state : State). state.next) state in omega (arith, same)

pub later_itself : (s : Standing) → IsLater s s
later_itself s = (omega arith, refl)

pub later_then : (s m t : Standing) → IsLater s m → IsLater m t → IsLater s t
later_then s m t first then =
    let a = first.0 in
    let b = then.0 in
    (omega (arith, a, b), then.1 ∙ ap (λ (m : Standing). record m { next = t.next; entries = t.entries }) first.1)

-- where for want of memory all is as it was, no less is said
pub match_later : {T E : Type 0} (P : T → Type 0) (r : Result T E) (s t : Standing) → MatchResult r P (λ why. t ≡ s) → MatchResult r P (λ why. IsLater s t)
match_later P (Ok x) s t is = is
match_later P (Err why) s t is = subst (IsLater s) (sym is) (later_itself s)

none_of : (stopped : Option ℕ) → ((at : ℕ) → stopped ≡ Some at → ⊥) → stopped ≡ None
none_of None never = refl
none_of (Some at) never = absurd (never at refl)

-- where a call is answered that is refused where an earlier one failed, none has
pub ok_runs : {T : Type 0} (old : View) (result : Result T Refused) (x : T) → result ≡ Ok x → ((at : ℕ) → old.state.stopped ≡ Some at → IsErrOf result (refused.Stopped at)) → old.state.stopped ≡ None
ok_runs old result x ok stop = none_of old.state.stopped (λ at was. let clash : Ok x ≡ Err (refused.Stopped at) = sym ok ∙ stop at was in cc)

-- A call of any face

module _ (Told Ports : Type 0) (act : Act) (call : Call) (is : call_of act ≡ Some call) (face : Face) (old new : View) (kept : pins_of new ≡ pins_of old) where
  -- what it says of itself
  abbrev pub Says : Option Refused → Type 0
  Says why = engine.Answers Told (Makes call) why face old new

  -- the clock stands
  stood : (why : Refused) → Says (Some why) → clock_of new.state.manifest ≡ clock_of old.state.manifest
  stood why says = says.clock ∙ clock_refused (Makes call) why (clock_of old.state.manifest)

  -- it isn't made
  pub still : (why : Refused) → Says (Some why) → new.state.count ≡ old.state.count → new.state.stopped ≡ old.state.stopped → IsLater (standing_of old) (standing_of new)
  still why says count stopped = (says.drawn, stands_so new (standing_of old) count stopped (stood why says) kept)

  may : old.state.stopped ≡ None → MayChange act (standing_of old)
  may runs = (asks_change act call is, runs)

  failed : (place b a : ℕ) → old.state.stopped ≡ None → place ≡ old.state.count + 1 → b ≡ old.faults → a ≡ new.faults → Rose old.faults new.faults → Says (Some (refused.Fault place b a)) → Tells Ports act (Ok (Fault place b a)) old new
  failed place b a runs place_is b_is a_is rose says = (
    (
      may runs,
      place_is,
      omega (arith, b_is),
      subst (λ n. Rose n a) (sym b_is) (subst (Rose old.faults) (sym a_is) rose),
      omega (arith, a_is),
      stands_so new (record (standing_of old) { count = place; failed = Some place }) (says.count ∙ sym place_is) says.stopped (stood (refused.Fault place b a) says) kept,
    ),
    kept,
    says.drawn,
  )

  -- behind a change that failed all is as it was
  stopped : (at : ℕ) → old.state.stopped ≡ Some at → Says (Some (refused.Stopped at)) → Tells Ports act (Ok (Stopped at)) old new
  stopped at was says =
      let idle = says.still (subst IsSome (sym was) refl) in
      ((asks_change act call is, was, stands_still old new idle.state idle.levels kept), kept, says.drawn)

  -- places run out, or numbers
  exhausted : (last : ℕ) → old.state.stopped ≡ None → last ≡ max_place → (old.state.count ≡ max_place) ⊎ IsDrawn (standing_of new) → Says (Some (refused.Exhausted last)) → Tells Ports act (Ok (Exhausted last)) old new
  exhausted last runs last_is why says = ((may runs, last_is, why, (still (refused.Exhausted last) says says.count says.stopped).1), kept, says.drawn)

  full_or_drawn : (Short : Type 0) → (Short → IsDrawn (standing_of new)) → (old.state.count ≡ max_place) ⊎ Short → (old.state.count ≡ max_place) ⊎ IsDrawn (standing_of new)
  full_or_drawn Short lacks (inl full) = inl full
  full_or_drawn Short lacks (inr short) = inr (lacks short)

  pub hindered : (Short : Type 0) → (Short → IsDrawn (standing_of new)) → (why : Refused) → HasReason Short old.state old.faults new.faults why → Says (Some why) → Tells Ports act (refusal_of why) old new
  hindered Short lacks (refused.Fault place b a) reason says = failed place b a reason.0 reason.1 reason.2 reason.3 reason.4 says
  hindered Short lacks (refused.Stopped at) reason says = stopped at reason says
  hindered Short lacks (refused.Exhausted last) reason says = exhausted last reason.0 reason.1 (full_or_drawn Short lacks reason.2) says
  hindered Short lacks refused.NoMemory reason says = still refused.NoMemory says says.count says.stopped
  hindered Short lacks (refused.Backwards clock) reason says = absurd reason
  hindered Short lacks (refused.Pinned pin limit) reason says = absurd reason
  hindered Short lacks refused.NothingDue reason says = absurd reason
  hindered Short lacks (refused.Cancelled begun other) reason says = absurd reason
  hindered Short lacks (refused.ReadFault b a) reason says = absurd reason
  hindered Short lacks (refused.Damaged name) reason says = absurd reason

  pub unreadable : (faults_before faults_now : ℕ) (why : Refused) → old.state.stopped ≡ None → IsUnreadable Told Ports faults_before faults_now why → Says (Some why) → Tells Ports act (refusal_of why) old new
  unreadable faults_before faults_now (refused.ReadFault b a) runs reason says = ((inr (may runs, (still (refused.ReadFault b a) says says.count says.stopped).1), reason.0), kept, says.drawn)
  unreadable faults_before faults_now (refused.Damaged name) runs reason says = (inr (may runs, (still (refused.Damaged name) says says.count says.stopped).1), kept, says.drawn)
  unreadable faults_before faults_now (refused.Fault place b a) runs reason says = absurd reason
  unreadable faults_before faults_now (refused.Stopped at) runs reason says = absurd reason
  unreadable faults_before faults_now (refused.Exhausted last) runs reason says = absurd reason
  unreadable faults_before faults_now refused.NoMemory runs reason says = absurd reason
  unreadable faults_before faults_now (refused.Backwards clock) runs reason says = absurd reason
  unreadable faults_before faults_now (refused.Pinned pin limit) runs reason says = absurd reason
  unreadable faults_before faults_now refused.NothingDue runs reason says = absurd reason
  unreadable faults_before faults_now (refused.Cancelled begun other) runs reason says = absurd reason

-- A change, which is no tick

no_tick : (act : Act) (to : ℕ) → change_of act ≡ Some (calls.Tick to) → ⊥
no_tick (acts.Put key dkey value) to is = cc
no_tick (acts.Get key) to is = cc
no_tick (acts.Scan lo hi) to is = cc
no_tick (acts.Delete key) to is = cc
no_tick (acts.Erase range) to is = cc
no_tick acts.Stat to is = cc
no_tick (acts.Tick time) to is = cc
no_tick (acts.Pin slot) to is = cc
no_tick (acts.PinGet slot key) to is = cc
no_tick (acts.PinScan slot lo hi) to is = cc
no_tick (acts.Unpin slot) to is = cc

clock_made : (act : Act) (call : Call) (clock : Clock) → change_of act ≡ Some call → clock_behind (Makes call) None clock ≡ clock
clock_made act (calls.Tick to) clock is = absurd (no_tick act to is)
clock_made act (calls.Put key dkey value) clock is = refl
clock_made act (calls.Delete key) clock is = refl
clock_made act (calls.Erase range) clock is = refl
clock_made act calls.Work clock is = refl

module _ (Told Ports : Type 0) (act : Act) (call : Call) (is : call_of act ≡ Some call) (writes : change_of act ≡ Some call) (old new : View) where
  abbrev face : Face
  face = face_of old

  pub change_tells : frozen_len old.state.frozen ≤ 16384 → pins_of new ≡ pins_of old → (faults_before faults_now : ℕ) (result : Result ℕ Refused) → engine.Answers Told (Makes call) (result_err result) face old new → IfOk result (λ place. place ≡ old.state.count + 1)
      → IfErr result (HasReasonOfChange Told Ports old new faults_before faults_now) → ((at : ℕ) → old.state.stopped ≡ Some at → IsErrOf result (refused.Stopped at)) → Tells Ports act (reply_of result) old new
  change_tells small kept faults_before faults_now (Ok place) says place_is why stop =
      let runs = ok_runs old (Ok place) place refl stop in
      let clock = says.clock ∙ clock_made act call (clock_of old.state.manifest) writes in (
        (
          subst IsSome (sym writes) refl,
          runs,
          place_is,
          stands_so new (record (standing_of old) { count = place; failed = None }) (says.count ∙ sym place_is) (says.stopped ∙ runs) clock kept,
        ),
        kept,
        says.drawn,
      )
  change_tells small kept faults_before faults_now (Err why) says place_is (inl reason) stop =
      hindered Told Ports act call is face old new kept ((SeesRoom old.state → ⊥) × IsShortOfRoom Told old.state new) (λ short. drawn_for_room Told old new small says.drawn short.1) why reason says
  change_tells small kept faults_before faults_now (Err why) says place_is (inr reason) stop = unreadable Told Ports act call is face old new kept faults_before faults_now why reason.1 reason.2 says

-- A read that is refused

pub unread_tells : (Ports : Type 0) (act : Act) (view : View) → IsRead act → (why : Refused) → IsReadRefusal why → ((before after : ℕ) → why ≡ refused.ReadFault before after → Ports) → Tells Ports act (unread_of why) view view
unread_tells Ports act view is (refused.ReadFault before after) reason fails = ((inl (is, refl), fails before after refl), refl, omega arith)
unread_tells Ports act view is (refused.Damaged name) reason fails = (inl (is, refl), refl, omega arith)
unread_tells Ports act view is refused.NoMemory reason fails = later_itself (standing_of view)
unread_tells Ports act view is (refused.Fault place before after) reason fails = absurd reason
unread_tells Ports act view is (refused.Stopped at) reason fails = absurd reason
unread_tells Ports act view is (refused.Exhausted last) reason fails = absurd reason
unread_tells Ports act view is (refused.Backwards clock) reason fails = absurd reason
unread_tells Ports act view is (refused.Pinned pin limit) reason fails = absurd reason
unread_tells Ports act view is refused.NothingDue reason fails = absurd reason
unread_tells Ports act view is (refused.Cancelled begun other) reason fails = absurd reason

-- and one of what a slot holds
pub slot_unread_tells : (Ports : Type 0) (from upto : ℕ) (act : Act) (s : Standing) → IsRead act → (why : Refused) → IsReadRefusal why → ((before after : ℕ) → why ≡ refused.ReadFault before after → Ports)
    → IfOk (unread_of why) (λ reply. IsTold Ports from upto act s reply s)
slot_unread_tells Ports from upto act s is (refused.ReadFault before after) reason fails = ((inl (is, refl), fails before after refl), refl, omega arith)
slot_unread_tells Ports from upto act s is (refused.Damaged name) reason fails = (inl (is, refl), refl, omega arith)
slot_unread_tells Ports from upto act s is refused.NoMemory reason fails = tt
slot_unread_tells Ports from upto act s is (refused.Fault place before after) reason fails = absurd reason
slot_unread_tells Ports from upto act s is (refused.Stopped at) reason fails = absurd reason
slot_unread_tells Ports from upto act s is (refused.Exhausted last) reason fails = absurd reason
slot_unread_tells Ports from upto act s is (refused.Backwards clock) reason fails = absurd reason
slot_unread_tells Ports from upto act s is (refused.Pinned pin limit) reason fails = absurd reason
slot_unread_tells Ports from upto act s is refused.NothingDue reason fails = absurd reason
slot_unread_tells Ports from upto act s is (refused.Cancelled begun now) reason fails = absurd reason

-- Lines, and what stays of them when the counts of faults lie further apart

module _ (Ports : Type 0) (from upto low high : ℕ) (below : low ≤ from) (above : upto ≤ high) where
  wider : (act : Act) (s : Standing) (reply : Reply) (t : Standing) → IsTold Ports from upto act s reply t → IsTold Ports low high act s reply t
  wider act s (Done place) t told = told
  wider act s (Ticked ticked) t told = told
  wider act s (Backwards point clock) t told = told
  wider act s (Barred number limit) t told = told
  wider act s (Fault place b a) t told = let first = told.0.2 in let last = told.0.4 in ((told.0.0, told.0.1, omega (arith, first, below), told.0.3, omega (arith, last, above), told.0.5), told.1, told.2)
  wider act s (Stopped at) t told = told
  wider act s (Exhausted last) t told = told
  wider act s (Got point held) t told = told
  wider act s (Scanned point pairs) t told = told
  wider act s (Counted point stat) t told = told
  wider act s (Pinned point number limit) t told = told
  wider act s (PinGot number point held) t told = told
  wider act s (PinScanned number point pairs) t told = told
  wider act s (Unpinned point number) t told = told
  wider act s ReadFault t told = told
  wider act s (Damaged page) t told = told

  pub told_wider : (orders : List Order) (s : Standing) (lines : List Line) (t : Standing) → AreTold Ports from upto orders s lines t → AreTold Ports low high orders s lines t
  told_wider [] s [] t told = told
  told_wider [] s (l ∷ lines) t told = absurd told
  told_wider (order ∷ orders) s [] t told = absurd told
  told_wider (order ∷ orders) s (line.Answer caller reply ∷ lines) t told = (told.0, told.1, (told.2.0, told.2.1, wider order.act told.2.0 reply told.1 told.2.2), told_wider orders told.1 lines t told.3)

  phase_wider : (orders : List Order) (s : Standing) (lines turned : List Line) (t : Standing) → IsPhaseTold Ports from upto orders s lines turned t → IsPhaseTold Ports low high orders s lines turned t
  phase_wider orders s lines turned t phase = record { callers = phase.callers; order = phase.order; asked = phase.asked; are = phase.are; told = told_wider phase.asked s turned t phase.told }

  pub through_wider : (phases : List (List Order)) (s : Standing) (lines turned : List (List Line)) (t : Standing) → AreToldThrough Ports from upto phases s lines turned t → AreToldThrough Ports low high phases s lines turned t
  through_wider [] s [] [] t told = told
  through_wider [] s [] (l ∷ turned) t told = absurd told
  through_wider [] s (l ∷ lines) turned t told = absurd told
  through_wider (orders ∷ phases) s [] turned t told = absurd told
  through_wider (orders ∷ phases) s (l ∷ lines) [] t told = absurd told
  through_wider (orders ∷ phases) s (l ∷ lines) (m ∷ turned) t told = (told.0, phase_wider orders s l m told.0 told.1, through_wider phases told.0 lines turned t told.2)

module _ (Ports : Type 0) (from upto : ℕ) where
  phase_more : (part : List Order) (more : List Line) (phases : List (List Order)) (s : Standing) (lines : List (List Line)) (middle t : Standing) → AreToldThrough Ports from upto phases s lines lines middle → IsPhaseTold Ports from upto part middle more more t
      → AreToldThrough Ports from upto (phases ++ part ∷ []) s (lines ++ more ∷ []) (lines ++ more ∷ []) t
  phase_more part more [] s [] middle t told last = (t, subst (λ s. IsPhaseTold Ports from upto part s more more t) told last, refl)
  phase_more part more [] s (l ∷ lines) middle t told last = absurd told
  phase_more part more (orders ∷ phases) s [] middle t told last = absurd told
  phase_more part more (orders ∷ phases) s (l ∷ lines) middle t told last = (told.0, told.1, phase_more part more phases told.0 lines middle t told.2 last)

-- as many lists of lines as phases
pub as_many : (Ports : Type 0) (from upto : ℕ) (phases : List (List Order)) (s : Standing) (lines turned : List (List Line)) (t : Standing) → AreToldThrough Ports from upto phases s lines turned t → length lines ≡ length phases
as_many Ports from upto [] s [] [] t told = refl
as_many Ports from upto [] s [] (l ∷ turned) t told = absurd told
as_many Ports from upto [] s (l ∷ lines) turned t told = absurd told
as_many Ports from upto (orders ∷ phases) s [] turned t told = absurd told
as_many Ports from upto (orders ∷ phases) s (l ∷ lines) [] t told = absurd told
as_many Ports from upto (orders ∷ phases) s (l ∷ lines) (m ∷ turned) t told = ap suc (as_many Ports from upto phases told.0 lines turned t told.2)

-- One call after another, whose counts of faults rise

module _ (Ports : Type 0) (old mid new : View) (first : old.faults ≤ mid.faults) (then : mid.faults ≤ new.faults) where
  pub through_more : (phases : List (List Order)) (lines : List (List Line)) (part : List Order) (more : List Line) → AreToldThrough Ports old.faults mid.faults phases (standing_of old) lines lines (standing_of mid)
      → IsPhaseTold Ports mid.faults new.faults part (standing_of mid) more more (standing_of new)
      → AreToldThrough Ports old.faults new.faults (phases ++ part ∷ []) (standing_of old) (lines ++ more ∷ []) (lines ++ more ∷ []) (standing_of new)
  through_more phases lines part more told last =
      phase_more Ports old.faults new.faults part more phases (standing_of old) lines (standing_of mid) (standing_of new)
      (through_wider Ports old.faults mid.faults old.faults new.faults (omega arith) then phases (standing_of old) lines lines (standing_of mid) told)
      (phase_wider Ports mid.faults new.faults old.faults new.faults first (omega arith) part (standing_of mid) more more (standing_of new) last)
