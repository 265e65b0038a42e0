-- What a row of changes is of its store's history: a step of its turn.
use Rattle.std.proofs.Common.{◌≡◌, ◌≤◌, ◌<◌, ◌^◌, inl, inr, zero, suc, ℕ, ◌+◌, List, [], ◌∷◌, ◌++◌, length, map, take, drop, Option, Some, None, Bool, true, false, refl, sym, ap, ◌∙◌, subst, arith, append-nil, append_assoc}
use Rattle.std.specs.Prelude.{Contains, IfSome, IsSome, option_and_then, option_map}
use Rattle.std.specs.Option.{option_or}
use Rattle.std.proofs.lemmas.List.{length-append, map-append}
use Rattle.std.proofs.lemmas.List.Elements.{All-nil}
use Rattle.std.proofs.lemmas.List.Sums.{fold-append}
use Rattle.lethe_base.specs.Counts.{Rose}
use Rattle.lethe_base.specs.History.{Change, History}
use Rattle.lethe_base.specs.Limits.{max_place}
use Rattle.lethe_base.specs.declared.call.Call.{Call}
use Rattle.lethe_base.specs.declared.call.Call.TheVariants.{Work}
use Rattle.lethe_base.specs.declared.call.Did.{Did}
use Rattle.lethe_base.specs.declared.call.Did.TheVariants.{Done, Failed}
use Rattle.lethe_base.specs.declared.config.Fields.{Fields}
use Rattle.lethe_base.specs.declared.refused.Refused.{Refused}
use Rattle.lethe_base.specs.declared.refused.Refused.TheVariants.{Fault, Stopped, Backwards, Pinned, NothingDue, Cancelled, Exhausted, ReadFault, NoMemory, Damaged}
use Rattle.lethe_core.specs.Asked.{Failure, done_by, stopped_by}
use Rattle.lethe_core.specs.View as core
use Rattle.lethe_core.specs.View.{face_of}
use Rattle.lethe_engine.specs.Along.{IsEnded, row_behind, tried, with_all}
use Rattle.lethe_engine.specs.Asked.{Asked}
use Rattle.lethe_engine.specs.Asked.TheVariants as asked
use Rattle.lethe_engine.specs.ChangeRows.{call_of}
use Rattle.lethe_engine.specs.Rows.{AnswersRow}
use Rattle.lethe_engine.specs.StandsFor.{Opened, StandsSince}
use Rattle.lethe_state.specs.Clock.{Clock, clock_of}
use Rattle.lethe_turn.specs.Lists.{placed}
use Rattle.lethe_turn.specs.Seats.{HasSeenMore, count_of, entered, passed_noting}
use Rattle.lethe_turn.specs.declared.view.View.{View}
use Rattle.lethe_store.specs.declared.entry.Entry.{Entry}
use Rattle.lethe_store.specs.declared.entry.Mark.{Mark}
use Rattle.lethe_store.specs.Diary.{IsCertifiedAt, spent_by}
use Rattle.lethe_store.specs.Entries.{change_of, changes_of, clock_along, clock_by, entries_of, entry_of, failed_by, stopped_behind}
use Rattle.lethe_store.specs.Laws.{IsStep, nothing_noted, since_step, stopped-append}
use Rattle.lethe_store.specs.Reasons.{HasReasonOfChange, PortCounts}
use Rattle.lethe_store.specs.Rows.{HasMadeRow, entries_in_row, failed_entries, made_entries, made_entry}
use Rattle.lethe_store.specs.Sessions.{IsLedTo, KnowsOpened}
use Rattle.lethe_store.specs.Since.{Since, all_counted}
use Rattle.lethe_store.specs.StoreViews.{StoreView}
use Rattle.lethe_store.proofs.Behind.{Knows, counts_seen, has_room, stopped_before}
use Rattle.lethe_store.proofs.Seats.{done_so, knows_after}

-- the first ones, and the others, of two lists one behind another
taken : (made rest : List Asked) → take (length made) (made ++ rest) ≡ made
taken [] rest = refl
taken (change ∷ made) rest = ap (λ l. change ∷ l) (taken made rest)

dropped : (made rest : List Asked) → drop (length made) (made ++ rest) ≡ rest
dropped [] rest = refl
dropped (change ∷ made) rest = dropped made rest

-- what is told of a row is what it made, and the failed one
pub told_is : (caller : ℕ) (row made rest : List Asked) (done : ℕ) (refused : Option Refused) → row ≡ made ++ rest → length made ≡ done
    → entries_in_row caller row done refused ≡ made_entries caller made ++ failed_entries caller refused rest
told_is caller row made rest done refused are many =
    (λ i. made_entries caller (take (sym many i) (are i)) ++ failed_entries caller refused (drop (sym many i) (are i)))
    ∙ (λ i. made_entries caller (taken made rest i) ++ failed_entries caller refused (dropped made rest i))

-- the entry of the change in which the disk failed
abbrev failing : ℕ → Option (Asked × Failure) → List Entry
failing caller None = []
failing caller (Some (change, failure)) = entry_of caller (Failed failure.before failure.after) (call_of change) ∷ []

pub counts_made : (caller : ℕ) (made : List Asked) → length (made_entries caller made) ≡ length made
counts_made caller [] = refl
counts_made caller (change ∷ made) = ap suc (counts_made caller made)

module _ (caller : ℕ) (rest left : List Asked) (failed : Option (Asked × Failure)) (old new : core.View) where
  -- where a row ended the failed entry is that of the change in which the disk failed
  failed_is : (refused : Option Refused) → IsEnded refused rest left failed old new → failed_entries caller refused rest ≡ failing caller failed
  failed_is None ended = sym (ap (failing caller) ended.0)
  failed_is (Some NoMemory) ended = ap (failed_entries caller (Some NoMemory)) ended.2 ∙ sym (ap (failing caller) ended.0)
  failed_is (Some (Fault place before after)) ended = ap (failed_entries caller (Some (Fault place before after))) ended.2 ∙ sym (ap (failing caller) ended.3)
  failed_is (Some (Stopped at)) ended = absurd ended
  failed_is (Some (Exhausted last)) ended = absurd ended
  failed_is (Some (Backwards clock)) ended = absurd ended
  failed_is (Some (Pinned pin limit)) ended = absurd ended
  failed_is (Some NothingDue) ended = absurd ended
  failed_is (Some (Cancelled begun now)) ended = absurd ended
  failed_is (Some (ReadFault before after)) ended = absurd ended
  failed_is (Some (Damaged name)) ended = absurd ended

  -- a row uses no numbers up
  pub unspent_row : (refused : Option Refused) → IsEnded refused rest left failed old new → spent_by refused ≡ []
  unspent_row None ended = refl
  unspent_row (Some NoMemory) ended = refl
  unspent_row (Some (Fault place before after)) ended = refl
  unspent_row (Some (Stopped at)) ended = absurd ended
  unspent_row (Some (Exhausted last)) ended = absurd ended
  unspent_row (Some (Backwards clock)) ended = absurd ended
  unspent_row (Some (Pinned pin limit)) ended = absurd ended
  unspent_row (Some NothingDue) ended = absurd ended
  unspent_row (Some (Cancelled begun now)) ended = absurd ended
  unspent_row (Some (ReadFault before after)) ended = absurd ended
  unspent_row (Some (Damaged name)) ended = absurd ended

  -- those that weren't made are left, unless the next one was refused
  pub left_so : (refused : Option Refused) → IsEnded refused rest left failed old new → refused ≡ None → left ≡ rest
  left_so None ended none = ended.1
  left_so (Some why) ended none = cc

  pub next_so : (refused : Option Refused) → IsEnded refused rest left failed old new → (why : Refused) → refused ≡ Some why → (next : Asked) × (more : List Asked) × (rest ≡ next ∷ more)
  next_so None ended why is = cc
  next_so (Some NoMemory) ended why is = (ended.1, left, ended.2)
  next_so (Some (Fault place before after)) ended why is = (ended.0, ended.1, ended.2)
  next_so (Some (Stopped at)) ended why is = absurd ended
  next_so (Some (Exhausted last)) ended why is = absurd ended
  next_so (Some (Backwards clock)) ended why is = absurd ended
  next_so (Some (Pinned pin limit)) ended why is = absurd ended
  next_so (Some NothingDue) ended why is = absurd ended
  next_so (Some (Cancelled begun now)) ended why is = absurd ended
  next_so (Some (ReadFault before after)) ended why is = absurd ended
  next_so (Some (Damaged name)) ended why is = absurd ended

  -- how many entries the failed one is
  pub counts_failed : (refused : Option Refused) → IsEnded refused rest left failed old new → (number : ℕ) → ((by : ℕ) (call : Call) → length (entries_of by (call ∷ []) (option_and_then failed_by refused)) ≡ number)
      → length (failed_entries caller refused rest) ≡ number
  counts_failed None ended number counts = counts caller Work
  counts_failed (Some why) ended number counts = let next = next_so (Some why) ended why refl in ap (λ l. length (failed_entries caller (Some why) l)) next.2 ∙ counts caller (call_of next.0)

-- The changes that are entered are those that the history has more

changes_made : (caller : ℕ) (made : List Asked) → map (λ change. done_by caller (call_of change)) made ≡ changes_of (made_entries caller made)
changes_made caller [] = refl
changes_made caller (change ∷ made) = ap (λ l. done_by caller (call_of change) ∷ l) (changes_made caller made)

row_is : (h : History) (caller : ℕ) (made : List Asked) (failed : Option (Asked × Failure)) → row_behind h caller made failed ≡ h ++ changes_of (made_entries caller made ++ failing caller failed)
row_is h caller made None = ap (λ l. h ++ l) (changes_made caller made ∙ ap changes_of (sym (append-nil (made_entries caller made))))
row_is h caller made (Some (change, failure)) =
    let last : Change = record { caller = caller; call = call_of change; did = Failed failure.before failure.after } in
    ap (λ l. h ++ l ++ last ∷ []) (changes_made caller made) ∙ append_assoc h (changes_of (made_entries caller made)) (last ∷ [])
    ∙ ap (λ l. h ++ l) (sym (map-append change_of (made_entries caller made) (failing caller (Some (change, failure)))))

length_tried : (caller : ℕ) (made : List Asked) (failed : Option (Asked × Failure)) → length (tried made failed) ≡ length (made_entries caller made ++ failing caller failed)
length_tried caller made None = length-append made [] ∙ ap (λ n. n + 0) (sym (counts_made caller made)) ∙ sym (length-append (made_entries caller made) [])
length_tried caller made (Some (change, failure)) =
    length-append made (change ∷ []) ∙ ap (λ n. n + 1) (sym (counts_made caller made)) ∙ sym (length-append (made_entries caller made) (failing caller (Some (change, failure))))

-- changes that are done stop no store, and move no clock

made_stops : (stopped : Option ℕ) (count caller : ℕ) (made : List Asked) → stopped_behind stopped count (made_entries caller made) ≡ stopped
made_stops (Some at) count caller made = refl
made_stops None count caller [] = refl
made_stops None count caller (change ∷ made) = made_stops None (count + 1) caller made

nothing_stops : (stopped : Option ℕ) (count : ℕ) → stopped_behind stopped count [] ≡ stopped
nothing_stops (Some at) count = refl
nothing_stops None count = refl

change_clocks : (change : Asked) (clock : Clock) → clock_by Done (call_of change) clock ≡ clock
change_clocks (asked.Put key dkey value) clock = refl
change_clocks (asked.Delete key) clock = refl
change_clocks (asked.Erase range) clock = refl

made_clocks : (clock : Clock) (caller : ℕ) (made : List Asked) → clock_along clock (made_entries caller made) ≡ clock
made_clocks clock caller [] = refl
made_clocks clock caller (change ∷ made) = ap (λ c. clock_along c (made_entries caller made)) (change_clocks change clock) ∙ made_clocks clock caller made

failing_clocks : (clock : Clock) (caller : ℕ) (failed : Option (Asked × Failure)) → clock_along clock (failing caller failed) ≡ clock
failing_clocks clock caller None = refl
failing_clocks clock caller (Some (change, failure)) = refl

module _ (Tells : Type 0) (row left : List Asked) (done : ℕ) (refused : Option Refused) (old new : StoreView) (answers : AnswersRow Tells row left done refused old.view new.view) (caller : ℕ) where
  abbrev made : List Asked
  made = answers.row.made

  abbrev rest : List Asked
  rest = answers.row.rest

  abbrev failed : Option (Asked × Failure)
  failed = answers.row.failed

  abbrev pub said : List Entry
  said = made_entries caller made ++ failed_entries caller refused rest

  -- what is entered, by what failed
  said_is : said ≡ made_entries caller made ++ failing caller failed
  said_is = ap (λ l. made_entries caller made ++ l) (failed_is caller rest left failed old.view new.view refused answers.row.ended)

  count_is : new.view.state.count ≡ old.view.state.count + length said
  count_is = answers.row.count ∙ ap (λ n. old.view.state.count + n) (length_tried caller made failed ∙ ap length (sym said_is))

  -- a row in which the disk failed is of a store that took changes
  runs : (place before after : ℕ) → refused ≡ Some (Fault place before after) → (stopped : Option ℕ) → stopped ≡ old.view.state.stopped → stopped ≡ None
  runs place before after is None same = refl
  runs place before after is (Some at) same = absurd (clash (sym is ∙ (answers.idle (subst IsSome same refl)).1))
    where
      clash : Some (Fault place before after) ≡ None → ⊥
      clash e = cc

  failed_stops : (r : Option Refused) → r ≡ refused → IsEnded r rest left failed old.view new.view → stopped_by r old.view.state.stopped ≡ stopped_behind old.view.state.stopped (old.view.state.count + length made) (failing caller failed)
  failed_stops None same ended = sym (ap (λ f. stopped_behind old.view.state.stopped (old.view.state.count + length made) (failing caller f)) ended.0 ∙ nothing_stops old.view.state.stopped (old.view.state.count + length made))
  failed_stops (Some NoMemory) same ended = sym (ap (λ f. stopped_behind old.view.state.stopped (old.view.state.count + length made) (failing caller f)) ended.0 ∙ nothing_stops old.view.state.stopped (old.view.state.count + length made))
  failed_stops (Some (Fault place before after)) same ended =
      let none = runs place before after (sym same) old.view.state.stopped refl in
      let c = answers.row.count in let here = ended.4 in
      let longer : length (tried made failed) ≡ length made + 1 = ap (λ f. length (tried made f)) ended.3 ∙ length-append made (ended.0 ∷ []) in
      ap Some (let e : place ≡ old.view.state.count + length made + 1 = omega arith in e)
      ∙ sym ((λ i. stopped_behind (none i) (old.view.state.count + length made) (failing caller (ended.3 i))))
  failed_stops (Some (Stopped at)) same ended = absurd ended
  failed_stops (Some (Exhausted last)) same ended = absurd ended
  failed_stops (Some (Backwards clock)) same ended = absurd ended
  failed_stops (Some (Pinned pin limit)) same ended = absurd ended
  failed_stops (Some NothingDue) same ended = absurd ended
  failed_stops (Some (Cancelled begun now)) same ended = absurd ended
  failed_stops (Some (ReadFault before after)) same ended = absurd ended
  failed_stops (Some (Damaged name)) same ended = absurd ended

  stops : new.view.state.stopped ≡ stopped_behind old.view.state.stopped old.view.state.count said
  stops =
      let same = sym (made_stops old.view.state.stopped old.view.state.count caller made) in
      let many = sym (counts_made caller made) in
      answers.row.stopped ∙ failed_stops refused refl answers.row.ended ∙ (λ i. stopped_behind (same i) (old.view.state.count + many i) (failing caller failed))
      ∙ sym (stopped-append old.view.state.stopped old.view.state.count (made_entries caller made) (failing caller failed))
      ∙ ap (stopped_behind old.view.state.stopped old.view.state.count) (sym said_is)

  clocks : clock_of new.view.state.manifest ≡ clock_along (clock_of old.view.state.manifest) said
  clocks =
      answers.clock
      ∙ sym (ap (clock_along (clock_of old.view.state.manifest)) said_is
      ∙ fold-append (λ (clock : Clock) (entry : Entry). clock_by entry.did entry.call clock) (clock_of old.view.state.manifest) (made_entries caller made) (failing caller failed)
      ∙ ap (λ (c : Clock). clock_along c (failing caller failed)) (made_clocks (clock_of old.view.state.manifest) caller made) ∙ failing_clocks (clock_of old.view.state.manifest) caller failed)

  -- a row is a step, which notes nothing
  pub step_of_row : new.certificates ≡ old.certificates → IsStep Tells said [] old new
  step_of_row certificates = record {
    sound = answers.row.sound;
    count = count_is;
    stopped = stops;
    clock = clocks;
    faults = answers.row.faults;
    drawn = answers.row.drawn;
    stands = λ told config opened h s. subst (λ l. StandsSince config opened l new.view) (row_is h caller made failed ∙ ap (λ l. h ++ changes_of l) (sym said_is)) (answers.stands told config opened h s caller);
    calls = λ told config opened h s. (let goes = answers.goes told config opened h s caller in record { later = goes.later; past = goes.past });
    face = answers.face_is;
    numbered = tt;
    certificates = certificates ∙ sym (append-nil old.certificates);
    certified = λ told config opened h s. All-nil (IsCertifiedAt config opened (h ++ changes_of said) new.view);
    spent = λ has. absurd (nothing_noted has);
  }

  -- what is told is what is entered
  pub told_so : (other : ℕ) (told : List Asked) (l : List Entry) → l ≡ entries_in_row other told done refused → other ≡ caller → told ≡ row → l ≡ said
  told_so other told l is same rows = is ∙ (λ i. entries_in_row (same i) (rows i) done refused) ∙ told_is caller row made rest done refused answers.row.are answers.row.many

  pub number_is : (did : Option Did) (number : ℕ) → did ≡ option_and_then failed_by refused → ((by : ℕ) (call : Call) → length (entries_of by (call ∷ []) did) ≡ number) → length said ≡ done + number
  number_is did number is counts =
      length-append (made_entries caller made) (failed_entries caller refused rest)
      ∙ (λ i. (counts_made caller made ∙ answers.row.many) i + counts_failed caller rest left failed old.view new.view refused answers.row.ended number (subst (λ d. (by : ℕ) (call : Call) → length (entries_of by (call ∷ []) d) ≡ number) is counts) i)

  pub few_said : length said < 2 ^ 62
  few_said = let c = count_is in let few : new.view.state.count ≤ max_place = answers.row.sound.writable.count in omega arith

  -- What a session knows behind it: v before it, w in its turn

  module _ {V : Type 0} (PortsFail : Type 0) (see : V → StoreView) (v w : Knows V) (more : HasSeenMore v w) (leads : IsLedTo see (Since Tells PortsFail) w old) (certificates : new.certificates ≡ old.certificates) where
    pub leads_row : (told : List Entry) (noted : List Mark) → told ≡ said → noted ≡ [] → IsLedTo see (Since Tells PortsFail) (passed_noting noted (entered told w)) new
    leads_row told noted is none = λ o op.
        subst (λ l. Since Tells PortsFail (see o) (w.seen ++ l) (w.noted ++ noted) new) (sym is)
        (subst (λ l. Since Tells PortsFail (see o) (w.seen ++ said) (w.noted ++ l) new) (sym none)
        (since_step Tells PortsFail (see o) old w.seen w.noted (leads o op) new said [] (step_of_row certificates)))

    pub room_row : (told : List Entry) (noted : List Mark) → told ≡ said → noted ≡ [] → KnowsOpened all_counted see v → count_of w + length told < 2 ^ 62
    room_row told noted is none knows = has_room Tells PortsFail see w told noted new (knows_after all_counted see v w knows more.opened more.start) (leads_row told noted is none)

    -- there were as many changes before it as the session had seen
    seen_before : KnowsOpened all_counted see v → old.view.state.count ≡ count_of w
    seen_before knows = counts_seen Tells PortsFail see w old (knows_after all_counted see v w knows more.opened more.start) leads

    pub fits_row : KnowsOpened all_counted see v → (count : ℕ) → count ≡ count_of w → count + done < 2 ^ 62
    fits_row knows count is =
        let n = seen_before knows in let c = answers.row.count in let few : new.view.state.count ≤ max_place = answers.row.sound.writable.count in
        let l = length_tried caller made failed ∙ length-append (made_entries caller made) (failing caller failed) in let m = counts_made caller made in let d : length made ≡ done = answers.row.many in omega arith

    pub stopped_row : KnowsOpened all_counted see v → (at : ℕ) → ((o : V) → v.opened ≡ Some o → stopped_behind (see o).view.state.stopped (see o).view.state.count v.seen ≡ Some at) → (done ≡ 0) × (refused ≡ None)
    stopped_row knows at stopped =
        let is = answers.idle (subst IsSome (sym (stopped_before Tells PortsFail see v w old at knows more leads stopped)) refl) in (is.0, is.1)

    -- and its change that wasn't made has a reason
    pub reason_row : KnowsOpened all_counted see v → (x : Knows V) (told : List Entry) (noted : List Mark) → told ≡ said → x ≡ passed_noting noted (entered told w) → (before now : PortCounts)
        → IfSome refused (HasReasonOfChange Tells PortsFail see x before now)
    reason_row knows x told noted is given before now = by refused refl answers.row.ended
      where
        by : (r : Option Refused) → r ≡ refused → IsEnded r rest left failed old.view new.view → IfSome r (HasReasonOfChange Tells PortsFail see x before now)
        by None same ended = tt
        by (Some NoMemory) same ended = tt
        by (Some (Fault place told_before told_now)) same ended =
            let n = seen_before knows in let c = count_is in
            let l : length x.seen ≡ length w.seen + length said = ap (λ u. length u.seen) given ∙ length-append w.seen told ∙ ap (λ l. length w.seen + length l) is in
            let s : x.start ≡ w.start = ap (λ u. u.start) given in let p = ended.4 in
            ((let e : place ≡ count_of x = omega arith in e), ended.7)
        by (Some (Stopped at)) same ended = absurd ended
        by (Some (Exhausted last)) same ended = absurd ended
        by (Some (Backwards clock)) same ended = absurd ended
        by (Some (Pinned pin limit)) same ended = absurd ended
        by (Some NothingDue) same ended = absurd ended
        by (Some (Cancelled begun other)) same ended = absurd ended
        by (Some (ReadFault told_before told_now)) same ended = absurd ended
        by (Some (Damaged name)) same ended = absurd ended

    -- this is what became of it
    pub made_row : (x : Knows V) (told : List Entry) (noted : List Mark) (count : ℕ) → told ≡ said → noted ≡ [] → x ≡ passed_noting noted (entered told w) → count ≡ count_of w → HasMadeRow caller row left count done refused v x
    made_row x told noted count is none given here = record {
      made = made;
      rest = rest;
      are = answers.row.are;
      many = answers.row.many;
      left_is = left_so caller rest left failed old.view new.view refused answers.row.ended;
      next = next_so caller rest left failed old.view new.view refused answers.row.ended;
      turn = record (done_so v w x said (spent_by refused) more (given ∙ (λ i. passed_noting ((none ∙ sym (unspent_row caller rest left failed old.view new.view refused answers.row.ended)) i) (entered (is i) w)))) {
        seen = (w.seen, more.seen, ap (λ u. u.seen) given ∙ ap (λ l. w.seen ++ l) is);
        mine = ap (λ u. u.mine) given ∙ (λ i. more.mine i ++ placed (w.start + length w.seen + 1) (is i)) ∙ ap (λ n. v.mine ++ placed (n + length w.seen + 1) said) more.start;
      };
      counted = here ∙ ap (λ n. n + length w.seen) more.start;
    }
