-- What runs of events come to: two puts and a get, and a job from its begin to its end.
use Rattle.std.proofs.Common.{◌≡◌, ◌≢◌, ◌≤◌, ◌⊎◌, inl, inr, ℕ, ◌+◌, Bool, true, false, List, [], ◌∷◌, length, All, cond, not, Option, Some, None, Result, Ok, Err, refl, sym, ap, ◌∙◌, subst, arith}
use Rattle.std.specs.Prelude.{◌==◌, if◌then◌else◌}
use Rattle.std.proofs.lemmas.Bool.Decides.{nat_tests}
use Rattle.std.proofs.lemmas.List.{length_push}
use Rattle.std.proofs.lemmas.List.Elements.{All-head, All-tail}
use Rattle.std.proofs.lemmas.Option.{none-some, same_Some}
use Rattle.lethe_base.specs.Counts.{Rose}
use Rattle.lethe_base.specs.History.{AreDone, History, after}
use Rattle.lethe_base.specs.Keys.{Bytes}
use Rattle.lethe_base.specs.Limits.{max_place}
use Rattle.lethe_base.specs.Read as reads
use Rattle.lethe_base.specs.declared.call.Call.{Call}
use Rattle.lethe_base.specs.declared.call.Call.TheVariants as call
use Rattle.lethe_base.specs.declared.call.Did.TheVariants.{Done}
use Rattle.lethe_base.specs.declared.config.Fields.{Fields}
use Rattle.lethe_base.specs.declared.refused.Refused.{Refused}
use Rattle.lethe_base.specs.declared.refused.Refused.TheVariants.{Fault, Stopped, Backwards, Pinned, NothingDue, Cancelled, Exhausted, ReadFault, NoMemory, Damaged}
use Rattle.lethe_base.proofs.Histories.{done_push}
use Rattle.lethe_cover.specs.Steps.{with_done}
use Rattle.lethe_header.specs.declared.header.Header.{Header}
use Rattle.lethe_manifest.specs.declared.manifest.Manifest.{Manifest}
use Rattle.lethe_segment.specs.declared.record.Record.{Record}
use Rattle.lethe_stored.specs.Stored.{Stored}
use Rattle.lethe_state.specs.Room.{HasRoom}
use Rattle.lethe_job.specs.Works.{IsBegunIn, PlainTask}
use Rattle.lethe_core.specs.Changes.{put_over}
use Rattle.lethe_file.specs.Agreement.{page_name}
use Rattle.lethe_core.specs.Flights.{Flying, company_of, without}
use Rattle.lethe_core.specs.Merges.{IsInstalled, IsInstalledWith, IsRoomMadeBy}
use Rattle.lethe_core.specs.Reasons.{HasReason, IsShort, IsUnreadable}
use Rattle.lethe_engine.specs.Refusals.{SeesRoom}
use Rattle.lethe_drive.specs.Answers.{HasBegun, IsBegin, IsChange, IsChanged, IsFull, IsInstall, IsRead, IsShortToMerge, IsUnchanged, IsWriteOut}
use Rattle.lethe_drive.specs.Moments.{Going, IsMomentOf, IsStoppedBy, Moment}
use Rattle.lethe_drive.specs.Past.{IsPastRefused, Run, refusal_of}
use Rattle.lethe_drive.specs.Replies.{flagged, got, numbered, placed, united}
use Rattle.lethe_drive.specs.Steps.{IsStep, Steps}
use Rattle.lethe_drive.specs.declared.event.Event.TheVariants as event
use Rattle.lethe_drive.specs.declared.event.Reply.{Reply}
use Rattle.lethe_drive.specs.declared.event.Reply.TheVariants as reply
use Rattle.lethe_drive.proofs.Knowing.{done_last, done_or_failed, room_in}
use Rattle.lethe_drive.proofs.Resting.{without_pages}

-- A put that is done

-- a store in whose history nothing failed runs
never_stopped : (h : History) (stopped : Option ℕ) → AreDone h → IsStoppedBy h stopped → stopped ≡ None
never_stopped h None done is = refl
never_stopped h (Some at) done is =
    let failed = is.4 in
    absurd (done_or_failed is.1 failed.0 failed.1 (done_last is.0 is.1 (subst AreDone is.2 done)) failed.2)

-- where a count rose within a time it rose in the whole of it
rose_within : (first before now last : ℕ) → first ≤ before → now ≤ last → Rose before now → Rose first last
rose_within first before now last begins ends rose = omega (arith, begins, ends, rose)

-- a read whose fetches are fine is not refused
never_unread : (PortsFail : Type 0) (before now : ℕ) (why : Refused) → (Rose before now → ⊥) → IsUnreadable (Unit {0}) PortsFail before now why → ⊥
never_unread PortsFail before now (ReadFault b a) calm is = calm is.3
never_unread PortsFail before now (Damaged name) calm is = is tt
never_unread PortsFail before now (Fault place b a) calm is = is
never_unread PortsFail before now (Stopped at) calm is = is
never_unread PortsFail before now (Exhausted last) calm is = is
never_unread PortsFail before now NoMemory calm is = is
never_unread PortsFail before now (Backwards clock) calm is = is
never_unread PortsFail before now (Pinned pin limit) calm is = is
never_unread PortsFail before now NothingDue calm is = is
never_unread PortsFail before now (Cancelled begun other) calm is = is

module _ (PortsFail : Type 0) (config : Fields) (h : History) (old : Moment) (is : IsMomentOf config h old) (done : AreDone h) (few : length h + 1 ≤ max_place) where
  runs : old.state.stopped ≡ None
  runs = never_stopped h old.state.stopped done is.stopped

  abbrev HasRoomForOne : Type 0
  HasRoomForOne = length old.stored.active.records + 1 ≤ config.buffer

  sees : HasRoomForOne → SeesRoom old.state
  sees room =
      let records = is.remembers.records in
      let buffer : old.state.manifest.config.buffer ≡ config.buffer = ap (λ (m : Manifest). m.config.buffer) is.remembers.manifest ∙ ap (λ (c : Fields). c.buffer) is.config_is in
      omega (arith, records, buffer, room)

  has : HasRoomForOne → HasRoom old.stored
  has room = room_in old.stored old.state old.levels is.remembers (sees room)

  cleared_is : HasRoomForOne → {outcomes : List _} (cleared : Stored) → IsRoomMadeBy old.flights old.stored outcomes cleared → cleared ≡ old.stored
  cleared_is room cleared (inl made) = made.2
  cleared_is room cleared (inr made) = absurd (made.0 (has room))

  module _ (call : Call) (IsNext : Stored → List Header → Record → Type 0) (g : History) (new : Moment) where
    one_record : HasRoomForOne → (place : ℕ) → IsChanged call IsNext h old place g new → length new.stored.active.records ≡ length old.stored.active.records + 1
    one_record room place made =
        ap (λ (s : Stored). length s.active.records) made.stored ∙ length_push made.cleared.active.records made.next
        ∙ ap (λ (s : Stored). length s.active.records + 1) (cleared_is room made.cleared made.room)

    module _ (why : Refused) (numbers : why ≡ Exhausted max_place → IsFull old → ⊥) (calm : Rose old.faults new.faults → ⊥) (memory : why ≡ NoMemory → ⊥) where
      no_reason : HasReason (IsFull old × (IsShort old.state ⊎ IsShortToMerge new)) old.state old.faults new.faults why → ⊥
      no_reason = by why refl
        where
          by : (told : Refused) → told ≡ why → HasReason (IsFull old × (IsShort old.state ⊎ IsShortToMerge new)) old.state old.faults new.faults told → ⊥
          by (Fault place before behind) same reason = calm reason.4
          by (Stopped at) same reason = none-some at (sym runs ∙ reason)
          by (Exhausted last) same reason = enough reason.2
            where
              enough : (old.state.count ≡ max_place) ⊎ (IsFull old × (IsShort old.state ⊎ IsShortToMerge new)) → ⊥
              enough (inl full) = let count = is.count in absurd (omega (arith, full, count, few))
              enough (inr short) = numbers (sym same ∙ (λ i. Exhausted (reason.1 i))) short.0
          by NoMemory same reason = memory (sym same)
          by (Backwards clock) same reason = reason
          by (Pinned pin limit) same reason = reason
          by NothingDue same reason = reason
          by (Cancelled begun other) same reason = reason
          by (ReadFault before behind) same reason = reason
          by (Damaged name) same reason = reason

      never_refused : (Rose old.port_faults new.port_faults → ⊥) → IsUnchanged PortsFail call h old why g new → ⊥
      never_refused quiet refused = by refused.reason
        where
          by : HasReason (IsFull old × (IsShort old.state ⊎ IsShortToMerge new)) old.state old.faults new.faults why
              ⊎ (IsFull old × (old.state.stopped ≡ None) × IsUnreadable (Unit {0}) PortsFail old.port_faults new.port_faults why) → ⊥
          by (inl reason) = no_reason reason
          by (inr unread) = never_unread PortsFail old.port_faults new.port_faults why quiet unread.2

    -- there is room, or it isn't said that numbers ran out
    abbrev HasWay : Result ℕ Refused → Type 0
    HasWay result = HasRoomForOne ⊎ (result ≢ Err (Exhausted max_place))

    put_done : (result : Result ℕ Refused) → IsChange PortsFail call IsNext h old result g new → HasWay result → (Rose old.faults new.faults → ⊥) → (Rose old.port_faults new.port_faults → ⊥) → (result ≡ Err NoMemory → ⊥)
        → (result ≡ Ok (length h + 1)) × (g ≡ with_done h 0 call) × (HasRoomForOne → length new.stored.active.records ≡ length old.stored.active.records + 1)
    put_done (Ok place) made way calm quiet memory = let changed = made.answers in (λ i. Ok (changed.place_is i), changed.history, λ room. one_record room place changed)
    put_done (Err why) made way calm quiet memory = absurd (never_refused why (numbers way) calm (λ e. memory (λ i. Err (e i))) quiet made.answers)
      where
        numbers : HasWay (Err why) → why ≡ Exhausted max_place → IsFull old → ⊥
        numbers (inl room) same full = full (sees room)
        numbers (inr other) same full = other (λ i. Err (same i))

-- A get that is answered

get_done : (PortsFail : Type 0) (asked : Bytes) (h : History) (old : Moment) (result : Result (Option (ℕ × Bytes)) Refused) (g : History) (new : Moment) → IsRead PortsFail (reads.Get asked) reads.Found h old result g new
    → (Rose old.port_faults new.port_faults → ⊥) → (result ≡ Err NoMemory → ⊥) → (held : Option (ℕ × Bytes)) × (result ≡ Ok held) × (reads.answer (after h) (reads.Get asked) ≡ reads.Found held)
get_done PortsFail asked h old (Ok held) g new is calm memory = (held, refl, is.answers)
get_done PortsFail asked h old (Err why) g new is calm memory = absurd (by is.answers)
  where
    by : (why ≡ NoMemory) ⊎ IsUnreadable (Unit {0}) PortsFail old.port_faults new.port_faults why → ⊥
    by (inl none) = memory (λ i. Err (none i))
    by (inr unread) = never_unread PortsFail old.port_faults new.port_faults why calm unread

-- Two puts and a get

module _ (PortsFail : Type 0) (config : Fields) (h g : History) (start finish : Run) (first second asked : Bytes) (dkey other : ℕ) (value next : Bytes) where
  abbrev pub one : Call
  one = call.Put first dkey value

  abbrev pub two : Call
  two = call.Put second other next

  abbrev pub Answered : List Reply → Type 0
  Answered replies = (g ≡ with_done (with_done h 0 one) 0 two)
      × ((held : Option (ℕ × Bytes)) × (replies ≡ reply.Place (length h + 1) ∷ reply.Place (length h + 2) ∷ reply.Got held ∷ []) × (reads.answer (after g) (reads.Get asked) ≡ reads.Found held))

  abbrev pub Goes : List Reply → Type 0
  Goes replies = Steps PortsFail config h start (event.Put first dkey value ∷ event.Put second other next ∷ event.Get asked ∷ []) replies g finish

  abbrev pub Remembers : List Reply → Type 0
  Remembers replies = All (λ (given : Reply). given ≢ reply.Refused NoMemory) replies

  -- there is room for both records, or no reply says that numbers ran out
  abbrev pub IsWithin : List Reply → Type 0
  IsWithin replies = (length start.now.stored.active.records + 2 ≤ config.buffer) ⊎ All (λ (given : Reply). given ≢ reply.Refused (Exhausted max_place)) replies

  module _ (is : IsMomentOf config h start.now) (done : AreDone h) (few : length h + 2 ≤ max_place)
      (calm : Rose start.now.faults finish.now.faults → ⊥) (quiet : Rose start.now.port_faults finish.now.port_faults → ⊥) where
    three : (a b c : Reply) → IsWithin (a ∷ b ∷ c ∷ []) → Goes (a ∷ b ∷ c ∷ []) → Remembers (a ∷ b ∷ c ∷ []) → Answered (a ∷ b ∷ c ∷ [])
    three a b c within steps memory =
        let enough : Reply → Type 0 = λ (given : Reply). given ≢ reply.Refused (Exhausted max_place) in
        let given : Reply → Type 0 = λ (given : Reply). given ≢ reply.Refused NoMemory in
        let others = steps.5 in
        let last = others.5 in
        let end = last.5 in
        let behind : All given (b ∷ c ∷ []) = All-tail given a (b ∷ c ∷ []) memory in
        let faults : last.1.now.faults ≤ finish.now.faults = subst (λ (run : Run). last.1.now.faults ≤ run.now.faults) (sym end.1) (omega arith) in
        let port_faults : last.1.now.port_faults ≤ finish.now.port_faults = subst (λ (run : Run). last.1.now.port_faults ≤ run.now.port_faults) (sym end.1) (omega arith) in
        let put = steps.4.0 in
        let put_next = others.4.0 in
        let get = last.4.0 in
        let first_way : (length start.now.stored.active.records + 1 ≤ config.buffer) ⊎ (put.0 ≢ Err (Exhausted max_place)) =
        elim within [
          | inl room ↦ inl (omega (arith, room))
          | inr told ↦ inr (λ none. All-head enough a (b ∷ c ∷ []) told (put.1 ∙ (λ i. placed (none i))))
        ] in
        let a_done =
        put_done PortsFail config h start.now is done (omega (arith, few)) one (λ s headers next_record. next_record ≡ put_over s first dkey value) steps.0 steps.1.now put.0 put.2 first_way
        (λ rose. calm (rose_within start.now.faults start.now.faults steps.1.now.faults finish.now.faults (omega arith) (omega (arith, others.3.faults, last.3.faults, faults)) rose))
        (λ rose. quiet (rose_within start.now.port_faults start.now.port_faults steps.1.now.port_faults finish.now.port_faults (omega arith) (omega (arith, others.3.port_faults, last.3.port_faults, port_faults)) rose))
        (λ none. All-head given a (b ∷ c ∷ []) memory (put.1 ∙ (λ i. placed (none i)))) in
        let count : length steps.0 ≡ length h + 1 = ap length a_done.1 ∙ length_push h (record { caller = 0; call = one; did = Done }) in
        let done_one : AreDone steps.0 = subst AreDone (sym a_done.1) (done_push h (record { caller = 0; call = one; did = Done }) done refl) in
        let second_way : (length steps.1.now.stored.active.records + 1 ≤ config.buffer) ⊎ (put_next.0 ≢ Err (Exhausted max_place)) =
        elim within [
          | inl room ↦ inl (omega (arith, room, a_done.2 (omega (arith, room))))
          | inr told ↦ inr (λ none. All-head enough b (c ∷ []) (All-tail enough a (b ∷ c ∷ []) told) (put_next.1 ∙ (λ i. placed (none i))))
        ] in
        let b_done =
        put_done PortsFail config steps.0 steps.1.now steps.2.now done_one (omega (arith, few, count)) two (λ s headers next_record. next_record ≡ put_over s second other next)
        others.0 others.1.now put_next.0 put_next.2 second_way
        (λ rose. calm (rose_within start.now.faults steps.1.now.faults others.1.now.faults finish.now.faults steps.3.faults (omega (arith, last.3.faults, faults)) rose))
        (λ rose. quiet (rose_within start.now.port_faults steps.1.now.port_faults others.1.now.port_faults finish.now.port_faults steps.3.port_faults (omega (arith, last.3.port_faults, port_faults)) rose))
        (λ none. All-head given b (c ∷ []) behind (put_next.1 ∙ (λ i. placed (none i)))) in
        let got_it =
        get_done PortsFail asked others.0 others.1.now get.0 last.0 last.1.now get.2
        (λ rose. quiet (rose_within start.now.port_faults others.1.now.port_faults last.1.now.port_faults finish.now.port_faults (omega (arith, steps.3.port_faults, others.3.port_faults)) port_faults rose))
        (λ none. All-head given c [] (All-tail given b (c ∷ []) behind) (get.1 ∙ (λ i. got (none i)))) in
        let same : g ≡ others.0 = end.0 ∙ get.2.history in
        let a_is : a ≡ reply.Place (length h + 1) = put.1 ∙ (λ i. placed (a_done.0 i)) in
        let b_is : b ≡ reply.Place (length h + 2) = put_next.1 ∙ (λ i. placed (b_done.0 i)) ∙ ap reply.Place (omega (arith, count)) in
        let c_is : c ≡ reply.Got got_it.0 = get.1 ∙ (λ i. got (got_it.1 i)) in (
          same ∙ b_done.1 ∙ ap (λ (before : History). with_done before 0 two) a_done.1,
          (got_it.0, (λ i. a_is i ∷ b_is i ∷ c_is i ∷ []), subst (λ (g : History). reads.answer (after g) (reads.Get asked) ≡ reads.Found got_it.0) (sym same) got_it.2),
        )

    pub puts_read : (replies : List Reply) → IsWithin replies → Goes replies → Remembers replies → Answered replies
    puts_read [] within steps memory = absurd steps
    puts_read (a ∷ []) within steps memory = absurd steps.5
    puts_read (a ∷ b ∷ []) within steps memory = let others = steps.5 in absurd others.5
    puts_read (a ∷ b ∷ c ∷ []) within steps memory = three a b c within steps memory
    puts_read (a ∷ b ∷ c ∷ d ∷ more) within steps memory = let others = steps.5 in let last = others.5 in absurd last.5

-- A job from its begin to its end

-- it was begun
module _ (h : History) (old : Moment) (number : ℕ) (g : History) (new : Moment) where
  begun_as : (result : Result ℕ Refused) → reply.Job number ≡ numbered result → IsBegin h old result g new → (own : ℕ) × HasBegun old own new
  begun_as (Ok own) told is = (own, is.answers)
  begun_as (Err why) told is = absurd (let clash : reply.Job number ≡ reply.Refused why = told in cc)

-- its next page was written, or none was left
module _ (PortsFail : Type 0) (h : History) (old : Moment) (going : Going) (wrote : Bool) (g : History) (new : Moment) where
  record Keeps : Type 0 where
    history : g ≡ h
    stored : new.stored ≡ old.stored
    after : Going
    there : new.there ≡ Some after
    task : after.task ≡ going.task
    own : after.own ≡ going.own
    others : without going.own new.flights ≡ without going.own old.flights

  wrote_as : (result : Result Bool Refused) → reply.Flag wrote ≡ flagged result → IsWriteOut PortsFail going h old result g new → Keeps
  wrote_as (Ok true) told is =
      let written = is.answers in
      let goes_on = written.goes_on in
      record {
        history = is.history;
        stored = written.stored;
        after = record going { written = going.written + 1; port_faults = goes_on.port_faults };
        there = goes_on.there;
        task = refl;
        own = refl;
        others = ap (without going.own) written.flights ∙ without_pages going.own ((page_name old.state.next, written.bytes) ∷ []) old.flights;
      }
  wrote_as (Ok false) told is =
      let none = is.answers in
      let goes_on = none.goes_on in
      record {
        history = is.history;
        stored = none.stored;
        after = record going { written = going.written; port_faults = goes_on.port_faults };
        there = goes_on.there;
        task = refl;
        own = refl;
        others = ap (without going.own) none.flights;
      }
  wrote_as (Err why) told is = absurd (let clash : reply.Flag wrote ≡ reply.Refused why = told in cc)

-- and it was installed
module _ (PortsFail : Type 0) (number : ℕ) (h : History) (old : Moment) (going : Going) (there : old.there ≡ Some going) (g : History) (new : Moment) where
  wrote_next : (wrote : Bool) → IsStep PortsFail h old (event.WriteOut number) (reply.Flag wrote) g new → Keeps PortsFail h old going wrote g new
  wrote_next wrote (inl none) = absurd (let clash : reply.Flag wrote ≡ reply.NoSuch = none.is in cc)
  wrote_next wrote (inr was) =
      let same : was.0 ≡ going = same_Some was.0 going (sym was.1.0.0 ∙ there) in
      wrote_as PortsFail h old going wrote g new was.2 was.3 (subst (λ (going : Going). IsWriteOut PortsFail going h old was.2 g new) same was.4)

  record Ends : Type 0 where
    history : g ≡ h
    installed : IsInstalledWith (company_of (without going.own old.flights)) old.stored going.task new.stored
    flights : new.flights ≡ without going.own old.flights
    gone : new.there ≡ None

  ended_as : (result : Result (Unit {0}) Refused) → reply.Unit ≡ united result → IsInstall PortsFail going h old result g new → Ends
  ended_as (Ok done) told is = let installed = is.answers in record { history = is.history; installed = installed.installed; flights = installed.flights; gone = installed.there }
  ended_as (Err why) told is = absurd (let clash : reply.Unit ≡ reply.Refused why = told in cc)

  ends : IsStep PortsFail h old (event.Install number) reply.Unit g new → Ends
  ends (inl none) = absurd (let clash : reply.Unit ≡ reply.NoSuch = none.is in cc)
  ends (inr was) =
      let same : was.0 ≡ going = same_Some was.0 going (sym was.1.0.0 ∙ there) in
      ended_as was.2 was.3 (subst (λ (going : Going). IsInstall PortsFail going h old was.2 g new) same was.4)

-- a job of an earlier round is refused where it was to go on
module _ (number : ℕ) (h : History) (old : Run) (g : History) (new : Run) where
  never_past : (answer : Reply) → (answer ≡ reply.NoSuch → ⊥) → ((why : Refused) → answer ≡ reply.Refused why → ⊥) → IsPastRefused number h old answer g new → ⊥
  never_past answer there fine is = by is.job.refused (refusal_of old.now.state.stopped is.job.round old.now.rounds) is.answer_is
    where
      by : (refused : Bool) (why : Refused) → answer ≡ (if refused then reply.NoSuch else reply.Refused why) → ⊥
      by true why told = there told
      by false why told = fine why told

-- where a job flies alone none is left without it
alone_gone : (number : ℕ) (flying : Flying) → flying.number ≡ number → without number (flying ∷ []) ≡ []
alone_gone number flying same =
    let at : (flying.number == number) ≡ true = grind (arith, nat_tests) in
    ap (λ (b : Bool). cond (not b) (flying ∷ []) []) at

pub job_done : (PortsFail : Type 0) (config : Fields) (h g : History) (start finish : Run) (number : ℕ) (wrote : Bool)
    → Steps PortsFail config h start (event.Begin ∷ event.WriteOut number ∷ event.Install number ∷ []) (reply.Job number ∷ reply.Flag wrote ∷ reply.Unit ∷ []) g finish
    → (g ≡ h) × ((task : PlainTask) × IsBegunIn start.now.stored task × IsInstalled start.now.stored task finish.now.stored) × (finish.now.flights ≡ []) × (finish.now.there ≡ None)
job_done PortsFail config h g start finish number wrote steps =
    let others = steps.5 in
    let last = others.5 in
    let end = last.5 in
    let begin = steps.4.0 in
    let begun = (begun_as h start.now number steps.0 steps.1.now begin.0 begin.1 begin.2).1 in
    let own = (begun_as h start.now number steps.0 steps.1.now begin.0 begin.1 begin.2).0 in
    let first : Going = record { number = own; own = begun.own; round = start.now.rounds; refused = false; task = begun.task; written = 0; port_faults = 0 } in
    let write : IsStep PortsFail steps.0 steps.1.now (event.WriteOut number) (reply.Flag wrote) others.0 others.1.now = elim others.4 [
      | inl past ↦ absurd (never_past number steps.0 steps.1 others.0 others.1 (reply.Flag wrote) (λ clash. cc) (λ why clash. cc) past)
      | inr present ↦ present.1.0
    ] in
    let install : IsStep PortsFail others.0 others.1.now (event.Install number) reply.Unit last.0 last.1.now = elim last.4 [
      | inl past ↦ absurd (never_past number others.0 others.1 last.0 last.1 reply.Unit (λ clash. cc) (λ why clash. cc) past)
      | inr present ↦ present.1.0
    ] in
    let written = wrote_next PortsFail number steps.0 steps.1.now first begun.there others.0 others.1.now wrote write in
    let ended = ends PortsFail number others.0 others.1.now written.after written.there last.0 last.1.now install in
    let stored : others.1.now.stored ≡ start.now.stored = written.stored ∙ begin.2.stored in
    let rest : without written.after.own others.1.now.flights ≡ [] =
    (λ i. without (written.own i) others.1.now.flights) ∙ written.others ∙ ap (without begun.own) begun.flights ∙ alone_gone begun.own (record { number = begun.own; task = begun.task; written = [] }) refl in
    let last_one : IsInstalled others.1.now.stored written.after.task last.1.now.stored =
    subst (λ (rest : List Flying). IsInstalledWith (company_of rest) others.1.now.stored written.after.task last.1.now.stored) rest ended.installed in
    let installed : IsInstalled start.now.stored begun.task last.1.now.stored =
    subst (λ (s : Stored). IsInstalled s begun.task last.1.now.stored) stored (subst (λ (task : PlainTask). IsInstalled others.1.now.stored task last.1.now.stored) written.task last_one) in (
      end.0 ∙ ended.history ∙ written.history ∙ begin.2.history,
      (begun.task, begun.begun, subst (λ (run : Run). IsInstalled start.now.stored begun.task run.now.stored) (sym end.1) installed),
      ap (λ (run : Run). run.now.flights) end.1 ∙ ended.flights ∙ rest,
      ap (λ (run : Run). run.now.there) end.1 ∙ ended.gone,
    )
