-- What a session of changes knows after its calls.
use Rattle.std.proofs.Common.{◌≡◌, ◌≤◌, ◌<◌, ◌^◌, inl, inr, ℕ, ◌+◌, List, [], ◌∷◌, ◌++◌, length, Option, Some, None, Result, Ok, Err, refl, sym, ap, ◌∙◌, subst, arith, append-nil}
use Rattle.std.specs.Prelude.{IfErr, IfOk, IsErrOf}
use Rattle.std.specs.Result.{result_err}
use Rattle.std.proofs.lemmas.List.{length-append}
use Rattle.lethe_base.specs.Counts.{Rose}
use Rattle.lethe_base.specs.History.{History, after}
use Rattle.lethe_base.specs.Limits.{max_place}
use Rattle.lethe_base.specs.Read.{Answer, Read, answer}
use Rattle.lethe_base.specs.declared.call.Call.{Call}
use Rattle.lethe_base.specs.declared.call.Did.{Did}
use Rattle.lethe_base.specs.declared.config.Fields.{Fields}
use Rattle.lethe_base.specs.declared.name.Name.{Name}
use Rattle.lethe_base.specs.declared.refused.Refused.{Refused}
use Rattle.lethe_base.specs.declared.refused.Refused.TheVariants.{Fault, Stopped, Backwards, Pinned, NothingDue, Cancelled, Exhausted, ReadFault, NoMemory, Damaged}
use Rattle.lethe_core.specs.Asked.{Makes}
use Rattle.lethe_core.specs.StandsNow.{StandsNow}
use Rattle.lethe_core.specs.View as core
use Rattle.lethe_engine.specs.Answers.{Answers}
use Rattle.lethe_engine.specs.Refusals as engine
use Rattle.lethe_read.specs.Refusals.{IsReadRefusal}
use Rattle.lethe_turn.specs.Seats.{HasSeenMore, count_of, entered, passed, passed_noting}
use Rattle.lethe_turn.specs.declared.view.View.{View}
use Rattle.lethe_store.specs.declared.entry.Entry.{Entry}
use Rattle.lethe_store.specs.declared.entry.Mark.{Mark}
use Rattle.lethe_store.specs.StoreViews.{StoreView}
use Rattle.lethe_store.specs.Entries.{changes_of, did_by, entries_by, entries_of, stopped_behind}
use Rattle.lethe_store.specs.Reads.{HasRead, HasReadClock, IsClockSeen}
use Rattle.lethe_store.specs.Reasons.{HasReasonOfChange, HasReasonOfRead, IsStoppedAt, PortCounts}
use Rattle.lethe_store.specs.Sessions.{IsLedTo, KnowsOpened}
use Rattle.lethe_store.specs.Since.{Since, all_counted}
use Rattle.lethe_store.proofs.Seats.{knows_after}
use Rattle.lethe_store.specs.Laws.{IsFirstFailure, IsNoted, since_call, stands_along, stays_stopped}

-- a change in which the disk failed is the first one, and has the next place
pub first_failure : (Tells PortsFail : Type 0) (old new : core.View) (before now : ℕ) (result : Result ℕ Refused) → IfErr result (engine.HasReasonOfChange Tells PortsFail old new before now)
    → IsFirstFailure old.state.stopped old.state.count (result_err result)
first_failure Tells PortsFail old new before now (Ok place) reason = λ failure is. let clash : None ≡ Some failure = is in cc
first_failure Tells PortsFail old new before now (Err why) reason = by why reason
  where
    by : (why : Refused) → engine.HasReasonOfChange Tells PortsFail old new before now why → IsFirstFailure old.state.stopped old.state.count (Some why)
    by (Fault place told_before told_now) (inl is) = λ failure same. (is.0, sym (ap (λ o. elim o [ None ↦ place | Some f ↦ f.place ]) same) ∙ is.1)
    by (Fault place told_before told_now) (inr is) = absurd is.2
    by (Stopped at) is = λ failure same. let clash : None ≡ Some failure = same in cc
    by (Backwards clock) is = λ failure same. let clash : None ≡ Some failure = same in cc
    by (Pinned pin limit) is = λ failure same. let clash : None ≡ Some failure = same in cc
    by NothingDue is = λ failure same. let clash : None ≡ Some failure = same in cc
    by (Cancelled begun other) is = λ failure same. let clash : None ≡ Some failure = same in cc
    by (Exhausted last) is = λ failure same. let clash : None ≡ Some failure = same in cc
    by (ReadFault told_before told_now) is = λ failure same. let clash : None ≡ Some failure = same in cc
    by NoMemory is = λ failure same. let clash : None ≡ Some failure = same in cc
    by (Damaged name) is = λ failure same. let clash : None ≡ Some failure = same in cc

abbrev pub Knows : Type 0 → Type 0
Knows V = View V Entry Mark

module _ {V : Type 0} (Tells PortsFail : Type 0) (see : V → StoreView) where
  abbrev pub Leads : Knows V → StoreView → Type 0
  Leads v x = IsLedTo see (Since Tells PortsFail) v x

  -- how many changes the store counts, by what the session has seen
  pub counts_seen : (v : Knows V) (x : StoreView) → KnowsOpened all_counted see v → Leads v x → x.view.state.count ≡ count_of v
  counts_seen v x (o, is, start) leads = let c = (leads o is).count in let s : v.start ≡ (see o).view.state.count = start in let e : x.view.state.count ≡ count_of v = omega arith in e

  -- there is room for what was entered
  pub has_room : (v : Knows V) (said : List Entry) (noted : List Mark) (x : StoreView) → KnowsOpened all_counted see v → Leads (passed_noting noted (entered said v)) x → count_of v + length said < 2 ^ 62
  has_room v said noted x (o, is, start) leads =
      let c = (leads o is).count in let few : x.view.state.count ≤ max_place = (leads o is).sound.writable.count in
      let l : length (v.seen ++ said) ≡ length v.seen + length said = length-append v.seen said in let s : v.start ≡ (see o).view.state.count = start in omega arith

  -- passing a turn on changes nothing of what was seen
  pub leads_passed : (w x : Knows V) (shown : StoreView) → Leads w shown → x ≡ passed w → Leads x shown
  leads_passed w x shown leads is = λ o op. subst (λ v. Since Tells PortsFail (see o) v.seen v.noted shown) (sym is) (leads o (sym (ap (λ v. v.opened) is) ∙ op))

  -- the store behind a read answers as the map is behind what was seen
  pub read_at : (v : Knows V) (x : StoreView) (asked : Read) (given : Answer) → Leads v x → (Tells → (config : Fields) (h : History) → StandsNow config h x.view → answer (after h) asked ≡ given) → HasRead Tells see v asked given
  read_at v x asked given leads clause =
      λ o is told config opened h s. clause told config (h ++ changes_of v.seen) (stands_along Tells PortsFail (see o) x v.seen v.noted (leads o is) told config opened h s).now

  pub clock_at : (v : Knows V) (x : StoreView) (given : ℕ) → Leads v x → ((config : Fields) (h : History) → StandsNow config h x.view → given ≡ (after h).clock) → HasReadClock Tells see v given
  clock_at v x given leads clause =
      λ o is told config opened h s. sym (clause config (h ++ changes_of v.seen) (stands_along Tells PortsFail (see o) x v.seen v.noted (leads o is) told config opened h s).now)

  pub clock_seen : (v : Knows V) (x : StoreView) (given : ℕ) → Leads v x → given ≡ x.view.state.manifest.clock → IsClockSeen see v given
  clock_seen v x given leads is = λ o op. is ∙ ap (λ c. c.time) (leads o op).clock

  -- Behind a change: v is what the session knew before it, w in its turn, and x behind it

  module _ (v w : Knows V) (old new : StoreView) (caller : ℕ) (call : Call) (why : Option Refused) (face : core.Face) (marked : List Mark) (more : HasSeenMore v w) (leads : Leads w old) where
    abbrev made : List Entry
    made = entries_by caller (Makes call) why

    -- what is told of it is what it comes to
    told_is : (said : List Entry) (calls : List Call) (did : Option Did) → said ≡ entries_of caller calls did → calls ≡ call ∷ [] → did ≡ did_by (Makes call) why → said ≡ made
    told_is said calls did is called went = is ∙ (λ i. entries_of caller (called i) (went i))

    -- the store behind it is the one to which its entry leads
    pub leads_behind : (said : List Entry) (calls : List Call) (did : Option Did) (noted : List Mark) → said ≡ entries_of caller calls did → calls ≡ call ∷ [] → did ≡ did_by (Makes call) why → noted ≡ marked
        → Answers Tells (Makes call) why face old.view new.view → IsFirstFailure old.view.state.stopped old.view.state.count why → IsNoted Tells caller (Makes call) why marked old new
        → Leads (passed_noting noted (entered said w)) new
    leads_behind said calls did noted is called went marks answers first noted_is =
        λ o op. subst (λ l. Since Tells PortsFail (see o) (w.seen ++ l) (w.noted ++ noted) new) (sym (told_is said calls did is called went))
        (subst (λ l. Since Tells PortsFail (see o) (w.seen ++ made) (w.noted ++ l) new) (sym marks)
        (since_call Tells PortsFail (see o) old w.seen w.noted (leads o op) new caller (Makes call) why face answers first marked noted_is))

    -- and there is room for it
    pub room_behind : (said : List Entry) (calls : List Call) (did : Option Did) (noted : List Mark) → said ≡ entries_of caller calls did → calls ≡ call ∷ [] → did ≡ did_by (Makes call) why → noted ≡ marked
        → Answers Tells (Makes call) why face old.view new.view → IsFirstFailure old.view.state.stopped old.view.state.count why → IsNoted Tells caller (Makes call) why marked old new
        → KnowsOpened all_counted see v → count_of w + length said < 2 ^ 62
    room_behind said calls did noted is called went marks answers first noted_is knows =
        has_room w said noted new (knows_after all_counted see v w knows more.opened more.start) (leads_behind said calls did noted is called went marks answers first noted_is)

    -- and this is what it knows then
    pub knows_made : (x : Knows V) (said : List Entry) (calls : List Call) (did : Option Did) (noted : List Mark) → said ≡ entries_of caller calls did → calls ≡ call ∷ [] → did ≡ did_by (Makes call) why → noted ≡ marked
        → x ≡ passed_noting noted (entered said w) → x ≡ passed_noting marked (entered made w)
    knows_made x said calls did noted is called went marks given = given ∙ (λ i. passed_noting (marks i) (entered (told_is said calls did is called went i) w))

  -- the place that it answered is how many changes it has then seen
  pub placed_at : (v w x : Knows V) (old : StoreView) (caller : ℕ) (call : Call) (result : Result ℕ Refused) (marked : List Mark) → KnowsOpened all_counted see v → HasSeenMore v w → Leads w old
      → IfOk result (λ place. place ≡ old.view.state.count + 1) → x ≡ passed_noting marked (entered (entries_by caller (Makes call) (result_err result)) w) → IfOk result (λ place. place ≡ count_of x)
  placed_at v w x old caller call (Ok place) marked knows more leads told is =
      let n = counts_seen w old (knows_after all_counted see v w knows more.opened more.start) leads in
      let l : length x.seen ≡ length w.seen + 1 = ap (λ u. length u.seen) is ∙ length-append w.seen (entries_by caller (Makes call) None) in
      let s : x.start ≡ w.start = ap (λ u. u.start) is in let t : place ≡ old.view.state.count + 1 = told in let e : place ≡ count_of x = omega arith in e
  placed_at v w x old caller call (Err why) marked knows more leads told is = tt

  -- where a change that it had seen failed, it is refused for that
  pub stopped_before : (v w : Knows V) (old : StoreView) (at : ℕ) → KnowsOpened all_counted see v → HasSeenMore v w → Leads w old → IsStoppedAt see v at → old.view.state.stopped ≡ Some at
  stopped_before v w old at (o, is, start) more leads stopped =
      (leads o (more.opened ∙ is)).stopped
      ∙ ap (stopped_behind (see o).view.state.stopped (see o).view.state.count) (sym more.seen.1)
      ∙ stays_stopped (see o).view.state.stopped (see o).view.state.count at v.seen more.seen.0 (stopped o is)

  module _ (v w x : Knows V) (old new : StoreView) (caller : ℕ) (call : Call) (marked : List Mark) (knows : KnowsOpened all_counted see v) (more : HasSeenMore v w) (leads : Leads w old) (before now : PortCounts) where
    reason : (why : Refused) → engine.HasReasonOfChange Tells PortsFail old.view new.view before.faults now.faults why → ((name : Name) → why ≡ Damaged name → before.fetches < now.fetches)
        → x ≡ passed_noting marked (entered (entries_by caller (Makes call) (Some why)) w) → HasReasonOfChange Tells PortsFail see x before now why
    reason (Fault place told_before told_now) (inl is) fetched given =
        let n = counts_seen w old (knows_after all_counted see v w knows more.opened more.start) leads in
        let l : length x.seen ≡ length w.seen + 1 = ap (λ u. length u.seen) given ∙ length-append w.seen (entries_by caller (Makes call) (Some (Fault place told_before told_now))) in
        let s : x.start ≡ w.start = ap (λ u. u.start) given in let p = is.1 in
        ((let e : place ≡ count_of x = omega arith in e), subst (λ n. Rose n told_now) (sym is.2) (subst (λ n. Rose old.view.faults n) (sym is.3) is.4))
    reason (Fault place told_before told_now) (inr is) fetched given = absurd is.2
    reason (Stopped at) (inl is) fetched given =
        λ o op. ap (λ u. stopped_behind (see o).view.state.stopped (see o).view.state.count u.seen) given ∙ ap (stopped_behind (see o).view.state.stopped (see o).view.state.count) (append-nil w.seen)
        ∙ sym (leads o (sym (ap (λ u. u.opened) given) ∙ op)).stopped ∙ is
    reason (Stopped at) (inr is) fetched given = absurd is.2
    reason (Backwards clock) (inl is) fetched given = is
    reason (Backwards clock) (inr is) fetched given = is.2
    reason (Pinned pin limit) (inl is) fetched given = is
    reason (Pinned pin limit) (inr is) fetched given = is.2
    reason NothingDue (inl is) fetched given = is
    reason NothingDue (inr is) fetched given = is.2
    reason (Cancelled begun other) (inl is) fetched given = is
    reason (Cancelled begun other) (inr is) fetched given = is.2
    reason (Exhausted last) (inl is) fetched given = is.1
    reason (Exhausted last) (inr is) fetched given = absurd is.2
    reason (ReadFault told_before told_now) (inl is) fetched given = absurd is
    reason (ReadFault told_before told_now) (inr is) fetched given =
        (is.2.0, is.2.1, is.2.2, subst (λ n. Rose n told_now) (sym is.2.1) (subst (λ n. Rose before.faults n) (sym is.2.2) is.2.3))
    reason NoMemory is fetched given = tt
    reason (Damaged name) (inl is) fetched given = absurd is
    reason (Damaged name) (inr is) fetched given = (is.2, fetched name refl)

    -- why it was refused, if it was
    pub reason_behind : (result : Result ℕ Refused) → IfErr result (engine.HasReasonOfChange Tells PortsFail old.view new.view before.faults now.faults)
        → ((name : Name) → IsErrOf result (Damaged name) → before.fetches < now.fetches) → x ≡ passed_noting marked (entered (entries_by caller (Makes call) (result_err result)) w)
        → IfErr result (HasReasonOfChange Tells PortsFail see x before now)
    reason_behind (Ok place) is fetched given = tt
    reason_behind (Err why) is fetched given = reason why is (λ name same. fetched name (ap Err same)) given

-- what is known of a result, once that is known
pub ok_of : {T E : Type 0} (P : T → Type 0) (r : Result T E) → IfOk r P → (x : T) → r ≡ Ok x → P x
ok_of P r p x is = subst (λ q. IfOk q P) is p

pub err_of : {T E : Type 0} (P : E → Type 0) (r : Result T E) → IfErr r P → (e : E) → r ≡ Err e → P e
err_of P r p e is = subst (λ q. IfErr q P) is p

-- why a read was refused, if it was
pub reason_of_read : {T : Type 0} (Tells PortsFail : Type 0) (before now : PortCounts) (result : Result T Refused) → IfErr result IsReadRefusal
    → ((name : Name) → IsErrOf result (Damaged name) → (Tells → ⊥) × (before.fetches < now.fetches))
    → ((told_before told_now : ℕ) → IsErrOf result (ReadFault told_before told_now) → PortsFail × (told_before ≡ before.faults) × (told_now ≡ now.faults) × Rose told_before told_now)
    → IfErr result (HasReasonOfRead Tells PortsFail before now)
reason_of_read Tells PortsFail before now (Ok answer) is damaged failed = tt
reason_of_read {T} Tells PortsFail before now (Err why) is damaged failed = by why is damaged failed
  where
    by : (why : Refused) → IsReadRefusal why → ((name : Name) → IsErrOf {T = T} (Err why) (Damaged name) → (Tells → ⊥) × (before.fetches < now.fetches))
        → ((told_before told_now : ℕ) → IsErrOf {T = T} (Err why) (ReadFault told_before told_now) → PortsFail × (told_before ≡ before.faults) × (told_now ≡ now.faults) × Rose told_before told_now)
        → HasReasonOfRead Tells PortsFail before now why
    by (ReadFault told_before told_now) is damaged failed = failed told_before told_now refl
    by NoMemory is damaged failed = tt
    by (Damaged name) is damaged failed = damaged name refl
    by (Fault place told_before told_now) is damaged failed = is
    by (Stopped at) is damaged failed = is
    by (Backwards clock) is damaged failed = is
    by (Pinned pin limit) is damaged failed = is
    by NothingDue is damaged failed = is
    by (Cancelled begun other) is damaged failed = is
    by (Exhausted last) is damaged failed = is
