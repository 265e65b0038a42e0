-- The laws of the log of changes: each call keeps what became of the opened store.
use Rattle.std.proofs.Common.{◌≡◌, ◌≢◌, ◌≤◌, inl, inr, ℕ, ◌+◌, List, [], ◌∷◌, ◌++◌, length, Option, Some, None, Result, Ok, Err, refl, sym, ap, ◌∙◌, subst, arith, append-nil, append_assoc}
use Rattle.std.specs.Prelude.{All, Contains, option_map}
use Rattle.std.specs.Option.{option_map_or, option_or}
use Rattle.std.specs.Result.{result_err}
use Rattle.std.proofs.lemmas.List.{length-append, map-append}
use Rattle.std.proofs.lemmas.List.Elements.{All-append, All-cons, All-contains, All-map, All-nil, All-weaker, Contains-append_cases}
use Rattle.std.proofs.lemmas.List.Sums.{fold-append}
use Rattle.lethe_base.specs.History.{History}
use Rattle.lethe_base.specs.declared.call.Call.{Call}
use Rattle.lethe_base.specs.declared.call.Call.TheVariants.{Put, Delete, Erase, Tick, Work}
use Rattle.lethe_base.specs.declared.call.Did.TheVariants.{Failed}
use Rattle.lethe_base.specs.declared.config.Fields.{Fields}
use Rattle.lethe_base.specs.declared.refused.Refused.{Refused}
use Rattle.lethe_base.specs.declared.refused.Refused.TheVariants.{Exhausted, NoMemory}
use Rattle.lethe_cert.specs.declared.certificate.Certificate.{Certificate}
use Rattle.lethe_core.specs.Asked.{Asked, Makes, Serves, Failure, behind, clock_behind, counted, failure_of, stopped_by}
use Rattle.lethe_core.specs.Running.{IsSound}
use Rattle.lethe_core.specs.View.{Face, View, face_of}
use Rattle.lethe_cover.specs.Steps.{with_done, with_failed}
use Rattle.lethe_disk.specs.Runs.{Continues}
use Rattle.lethe_disk.proofs.Continuing.{continues_itself, continues_then}
use Rattle.lethe_engine.specs.Answers.{Answers}
use Rattle.lethe_engine.specs.StandsFor.{IsCertified, IsCertifiedBy, Opened, StandsFor, StandsSince, opened_at}
use Rattle.lethe_state.specs.Clock.{Clock, clock_of}
use Rattle.lethe_store.specs.declared.entry.Entry.{Entry}
use Rattle.lethe_store.specs.declared.entry.Mark.{Mark}
use Rattle.lethe_store.specs.declared.entry.Mark.TheVariants.{Spent}
use Rattle.lethe_store.specs.StoreViews.{StoreView, IsSameStore, failure_in}
use Rattle.lethe_store.specs.Entries.{change_of, changes_of, clock_along, clock_by, entries_by, entries_of, failed_at, stopped_behind}
use Rattle.lethe_store.specs.Diary.{AreNumbered, Diary, IsCertifiedAt, IsSpent, answered_in, certified_in, face_along, face_by, made_in, spent_by}
use Rattle.lethe_store.specs.DiaryLaws.{answered-append, certified-append, made-append, made_along, numbered-append, rounds_rise, spent_either}
use Rattle.lethe_store.specs.Since.{AnyMarks, Since}

-- What is entered of a call is what the call says of the history, of the count, of what stopped the store, and of the clock

failed_is : (h : History) (caller : ℕ) (call : Call) (o : Option Failure)
    → option_map_or (λ failure. with_failed h caller call failure.before failure.after) o h ≡ h ++ changes_of (entries_of caller (call ∷ []) (option_map (λ failure. Failed failure.before failure.after) o))
failed_is h caller call None = sym (append-nil h)
failed_is h caller call (Some failure) = refl

pub behind_is : (h : History) (caller : ℕ) (asked : Asked) (why : Option Refused) → behind h caller asked why ≡ h ++ changes_of (entries_by caller asked why)
behind_is h caller (Makes call) None = refl
behind_is h caller (Serves call) None = sym (append-nil h)
behind_is h caller (Makes call) (Some why) = failed_is h caller call (failure_of why)
behind_is h caller (Serves call) (Some why) = failed_is h caller call (failure_of why)

failed_counts : (caller : ℕ) (call : Call) (count : ℕ) (o : Option Failure)
    → option_map_or (λ failure. count + 1) o count ≡ count + length (entries_of caller (call ∷ []) (option_map (λ failure. Failed failure.before failure.after) o))
failed_counts caller call count None = (let e : count ≡ count + 0 = omega arith in e)
failed_counts caller call count (Some failure) = refl

pub counted_is : (caller : ℕ) (asked : Asked) (why : Option Refused) (count : ℕ) → counted asked why count ≡ count + length (entries_by caller asked why)
counted_is caller (Makes call) None count = refl
counted_is caller (Serves call) None count = (let e : count ≡ count + 0 = omega arith in e)
counted_is caller (Makes call) (Some why) count = failed_counts caller call count (failure_of why)
counted_is caller (Serves call) (Some why) count = failed_counts caller call count (failure_of why)

-- the disk's failure in a call is the first one, and it has the next place
abbrev pub IsFirstFailure : Option ℕ → ℕ → Option Refused → Type 0
IsFirstFailure stopped count why = (failure : Failure) → failure_in why ≡ Some failure → (stopped ≡ None) × (failure.place ≡ count + 1)

failed_stops : (caller : ℕ) (call : Call) (stopped : Option ℕ) (count : ℕ) (o : Option Failure) → ((failure : Failure) → o ≡ Some failure → (stopped ≡ None) × (failure.place ≡ count + 1))
    → option_or (option_map (λ failure. failure.place) o) stopped ≡ stopped_behind stopped count (entries_of caller (call ∷ []) (option_map (λ failure. Failed failure.before failure.after) o))
failed_stops caller call (Some at) count None first = refl
failed_stops caller call None count None first = refl
failed_stops caller call stopped count (Some failure) first =
    let is = first failure refl in
    ap Some is.1 ∙ sym (ap (λ s. stopped_behind s count (entries_of caller (call ∷ []) (Some (Failed failure.before failure.after)))) is.0)

same_stopped : (stopped : Option ℕ) (count : ℕ) → stopped ≡ stopped_behind stopped count []
same_stopped (Some at) count = refl
same_stopped None count = refl

done_stops : (stopped : Option ℕ) (count caller : ℕ) (call : Call) → stopped ≡ stopped_behind stopped count (entries_by caller (Makes call) None)
done_stops (Some at) count caller call = refl
done_stops None count caller call = refl

pub stopped_is : (caller : ℕ) (asked : Asked) (why : Option Refused) (stopped : Option ℕ) (count : ℕ) → IsFirstFailure stopped count why
    → stopped_by why stopped ≡ stopped_behind stopped count (entries_by caller asked why)
stopped_is caller (Makes call) None stopped count first = done_stops stopped count caller call
stopped_is caller (Serves call) None stopped count first = same_stopped stopped count
stopped_is caller (Makes call) (Some why) stopped count first = failed_stops caller call stopped count (failure_of why) first
stopped_is caller (Serves call) (Some why) stopped count first = failed_stops caller call stopped count (failure_of why) first

pub stopped-append : (stopped : Option ℕ) (count : ℕ) (a b : List Entry) → stopped_behind stopped count (a ++ b) ≡ stopped_behind (stopped_behind stopped count a) (count + length a) b
stopped-append (Some at) count a b = refl
stopped-append None count [] b = ap (λ n. stopped_behind None n b) (let e : count ≡ count + 0 = omega arith in e)
stopped-append None count (entry ∷ a) b =
    stopped-append (failed_at entry.did (count + 1)) (count + 1) a b
    ∙ ap (λ n. stopped_behind (stopped_behind (failed_at entry.did (count + 1)) (count + 1) a) n b) (let e : count + 1 + length a ≡ count + length (entry ∷ a) = omega arith in e)

-- once a store is stopped it stays so, whatever is seen behind that
pub stays_stopped : (stopped : Option ℕ) (count at : ℕ) (a b : List Entry) → stopped_behind stopped count a ≡ Some at → stopped_behind stopped count (a ++ b) ≡ Some at
stays_stopped stopped count at a b is = stopped-append stopped count a b ∙ ap (λ s. stopped_behind s (count + length a) b) is

failed_clocks : (caller : ℕ) (call : Call) (clock : Clock) (o : Option Failure) → clock ≡ clock_along clock (entries_of caller (call ∷ []) (option_map (λ failure. Failed failure.before failure.after) o))
failed_clocks caller call clock None = refl
failed_clocks caller call clock (Some failure) = refl

refused_clock : (call : Call) (why : Refused) (clock : Clock) → clock_behind (Makes call) (Some why) clock ≡ clock
refused_clock (Put key dkey value) why clock = refl
refused_clock (Delete key) why clock = refl
refused_clock (Erase range) why clock = refl
refused_clock (Tick to) why clock = refl
refused_clock Work why clock = refl

pub clock_is : (caller : ℕ) (asked : Asked) (why : Option Refused) (clock : Clock) → clock_behind asked why clock ≡ clock_along clock (entries_by caller asked why)
clock_is caller (Makes call) None clock = refl
clock_is caller (Serves call) None clock = refl
clock_is caller (Makes call) (Some why) clock = refused_clock call why clock ∙ failed_clocks caller call clock (failure_of why)
clock_is caller (Serves call) (Some why) clock = failed_clocks caller call clock (failure_of why)

-- A certificate that stood stands behind a call, whatever was seen of the store's opening

module _ (config : Fields) (opened : Opened) (h g : History) (old new : View) (on : (start : Opened) → StandsSince config start h old → StandsSince config start g new) (calls : Continues old.disk new.disk) where
  still_certified : (before_tick : History) (caller : ℕ) (certificate : Certificate) → IsCertifiedBy config opened h old before_tick caller certificate → IsCertifiedBy config opened g new before_tick caller certificate
  still_certified before_tick caller certificate is = record {
    moment = is.moment;
    from = is.from;
    since = is.since;
    stands = on (opened_at opened (with_done before_tick caller (Tick certificate.clock)) is.moment) is.stands;
    number = is.number;
    before = is.before;
    each = λ d left. is.each d ((calls.past is.moment d is.stands.later).0 left);
  }

  some_certified : (certificate : Certificate) → IsCertified config opened h old certificate → IsCertified config opened g new certificate
  some_certified certificate (before_tick, caller, is) = (before_tick, caller, still_certified before_tick caller certificate is)

  placed_certified : (told : ℕ × Certificate) → IsCertifiedAt config opened h old told → IsCertifiedAt config opened g new told
  placed_certified told (before_tick, caller, place, is) = (before_tick, caller, place, still_certified before_tick caller told.1 is)

  all_certified : (answered : List Certificate) → StandsFor config opened h old answered → StandsFor config opened g new answered
  all_certified answered stands = record {
    since = on opened stands.since;
    certified = All-weaker (IsCertified config opened h old) (IsCertified config opened g new) some_certified answered stands.certified;
  }

-- What a call that notes these marks says of its face and its certificates
pub record IsNoted (Tells : Type 0) (caller : ℕ) (asked : Asked) (why : Option Refused) (more : List Mark) (old new : StoreView) : Type 0 where
  pub face : face_of new.view ≡ face_along (face_of old.view) more
  pub numbered : AreNumbered (old.view.pins.made + 1) (made_in more)
  pub certificates : new.certificates ≡ old.certificates ++ answered_in more
  pub certified : Tells → (config : Fields) (opened : Opened) (h : History) → StandsSince config opened h old.view → All (IsCertifiedAt config opened (behind h caller asked why) new.view) (certified_in more)
  pub spent : Contains more Spent → IsSpent Tells old new

pub nothing_noted : Contains [] Spent → ⊥
nothing_noted has = let few = has.1 in omega (arith, few)

-- one other mark isn't that numbers are used up
pub none_spent : (mark : Mark) → mark ≢ Spent → Contains (mark ∷ []) Spent → ⊥
none_spent mark other has = All-contains (λ m. m ≢ Spent) (mark ∷ []) Spent (All-cons (λ m. m ≢ Spent) mark [] other (All-nil (λ m. m ≢ Spent))) has refl

-- a call that notes none leaves both
pub noted_none : (Tells : Type 0) (caller : ℕ) (asked : Asked) (why : Option Refused) (old new : StoreView) → face_of new.view ≡ face_of old.view → new.certificates ≡ old.certificates → IsNoted Tells caller asked why [] old new
noted_none Tells caller asked why old new face certificates = record {
  face = face;
  numbered = tt;
  certificates = certificates ∙ sym (append-nil old.certificates);
  certified = λ told config opened h s. All-nil (IsCertifiedAt config opened (behind h caller asked why) new.view);
  spent = λ has. absurd (nothing_noted has);
}

-- a call that leaves face and certificates notes at most that numbers are used up
pub noted_spent : (Tells : Type 0) (caller : ℕ) (asked : Asked) (why : Option Refused) (old new : StoreView) → face_of new.view ≡ face_of old.view → new.certificates ≡ old.certificates
    → ((last : ℕ) → why ≡ Some (Exhausted last) → IsSpent Tells old new) → IsNoted Tells caller asked why (spent_by why) old new
noted_spent Tells caller asked why old new face certificates spent = record {
  face = spent_either (λ l. face_of new.view ≡ face_along (face_of old.view) l) why face (λ last is. face);
  numbered = spent_either (λ l. AreNumbered (old.view.pins.made + 1) (made_in l)) why tt (λ last is. tt);
  certificates = spent_either (λ l. new.certificates ≡ old.certificates ++ answered_in l) why (certificates ∙ sym (append-nil old.certificates)) (λ last is. certificates ∙ sym (append-nil old.certificates));
  certified = λ told config opened h s. spent_either (λ l. All (IsCertifiedAt config opened (behind h caller asked why) new.view) (certified_in l)) why (All-nil (IsCertifiedAt config opened (behind h caller asked why) new.view))
      (λ last is. All-nil (IsCertifiedAt config opened (behind h caller asked why) new.view));
  spent = spent_either (λ l. Contains l Spent → IsSpent Tells old new) why (λ has. absurd (nothing_noted has)) (λ last is has. spent last is);
}

-- What one turn does of the store, by what is entered and noted of it. Each call is such a step, and so is a row of changes.
pub record IsStep (Tells : Type 0) (said : List Entry) (more : List Mark) (old new : StoreView) : Type 0 where
  pub sound : IsSound Tells new.view
  -- it counts what is entered, of which the first that failed stops it, and whose ticks move its clock
  pub count : new.view.state.count ≡ old.view.state.count + length said
  pub stopped : new.view.state.stopped ≡ stopped_behind old.view.state.stopped old.view.state.count said
  pub clock : clock_of new.view.state.manifest ≡ clock_along (clock_of old.view.state.manifest) said
  pub faults : old.view.faults ≤ new.view.faults
  pub drawn : old.view.state.next ≤ new.view.state.next
  -- whatever history it stood for, it stands for that with what is entered, and what a crash before may leave is as it was
  pub stands : Tells → (config : Fields) (opened : Opened) (h : History) → StandsSince config opened h old.view → StandsSince config opened (h ++ changes_of said) new.view
  pub calls : Tells → (config : Fields) (opened : Opened) (h : History) → StandsSince config opened h old.view → Continues old.view.disk new.view.disk
  -- its face and its certificates are those that were, with what is noted
  pub face : face_of new.view ≡ face_along (face_of old.view) more
  pub numbered : AreNumbered (old.view.pins.made + 1) (made_in more)
  pub certificates : new.certificates ≡ old.certificates ++ answered_in more
  pub certified : Tells → (config : Fields) (opened : Opened) (h : History) → StandsSince config opened h old.view → All (IsCertifiedAt config opened (h ++ changes_of said) new.view) (certified_in more)
  pub spent : Contains more Spent → IsSpent Tells old new

-- a call is one
pub step_of_call : (Tells : Type 0) (old new : StoreView) (caller : ℕ) (asked : Asked) (why : Option Refused) (face : Face) → Answers Tells asked why face old.view new.view
    → IsFirstFailure old.view.state.stopped old.view.state.count why → (more : List Mark) → IsNoted Tells caller asked why more old new → IsStep Tells (entries_by caller asked why) more old new
step_of_call Tells old new caller asked why face answers first more noted = record {
  sound = answers.sound;
  count = answers.count ∙ counted_is caller asked why old.view.state.count;
  stopped = answers.stopped ∙ stopped_is caller asked why old.view.state.stopped old.view.state.count first;
  clock = answers.clock ∙ clock_is caller asked why (clock_of old.view.state.manifest);
  faults = answers.faults;
  drawn = answers.drawn;
  stands = λ told config opened h s. subst (λ l. StandsSince config opened l new.view) (behind_is h caller asked why) (answers.stands told config opened h s caller);
  calls = λ told config opened h s. (let goes = answers.goes told config opened h s caller in record { later = goes.later; past = goes.past });
  face = noted.face;
  numbered = noted.numbered;
  certificates = noted.certificates;
  certified = λ told config opened h s. subst (λ l. All (IsCertifiedAt config opened l new.view) (certified_in more)) (behind_is h caller asked why) (noted.certified told config opened h s);
  spent = noted.spent;
}

module _ (Tells PortsFail : Type 0) (o old : StoreView) (entries : List Entry) (marks : List Mark) (since : Since Tells PortsFail o entries marks old) where
  -- whatever history the opened store stood for, it stands for that with the entries
  pub stands_along : Tells → (config : Fields) (opened : Opened) (h : History) → StandsSince config opened h o.view → StandsSince config opened (h ++ changes_of entries) old.view
  stands_along told config opened h s = (since.stands told config opened h [] (record { since = s; certified = All-nil (IsCertified config opened h o.view) })).since

  module _ (new : StoreView) (said : List Entry) (more : List Mark) (step : IsStep Tells said more old new) where
    history_is : (h : History) → h ++ changes_of entries ++ changes_of said ≡ h ++ changes_of (entries ++ said)
    history_is h = append_assoc h (changes_of entries) (changes_of said) ∙ ap (λ l. h ++ l) (sym (map-append change_of entries said))

    abbrev grown : History → History
    grown h = h ++ changes_of entries ++ changes_of said

    -- what was noted stands behind the step
    placed_behind : Tells → (config : Fields) (opened : Opened) (h : History) → StandsSince config opened h o.view → All (IsCertifiedAt config opened (grown h) new.view) (certified_in (marks ++ more))
    placed_behind told config opened h s =
        let stood = stands_along told config opened h s in
        let carried = placed_certified config opened (h ++ changes_of entries) (grown h) old.view new.view (λ start on. step.stands told config start (h ++ changes_of entries) on) (step.calls told config opened (h ++ changes_of entries) stood) in
        subst (All (IsCertifiedAt config opened (grown h) new.view)) (sym (certified-append marks more))
        (All-append (IsCertifiedAt config opened (grown h) new.view) (certified_in marks) (certified_in more)
        (All-weaker (IsCertifiedAt config opened (h ++ changes_of entries) old.view) (IsCertifiedAt config opened (grown h) new.view) carried (certified_in marks) (since.diary.certified told config opened h s))
        (step.certified told config opened (h ++ changes_of entries) stood))

    -- so do all certificates
    all_behind : Tells → (config : Fields) (opened : Opened) (h : History) (answered : List Certificate) → StandsFor config opened h o.view answered → StandsFor config opened (grown h) new.view (answered ++ answered_in (marks ++ more))
    all_behind told config opened h answered s =
        let stood = since.stands told config opened h answered s in
        let carried = all_certified config opened (h ++ changes_of entries) (grown h) old.view new.view (λ start on. step.stands told config start (h ++ changes_of entries) on)
        (step.calls told config opened (h ++ changes_of entries) stood.since) (answered ++ answered_in marks) stood in
        let P : Certificate → Type 0 = IsCertified config opened (grown h) new.view in
        let added : All P (answered_in more) = All-map P (λ (told : ℕ × Certificate). told.1) (certified_in more)
        (All-weaker (IsCertifiedAt config opened (grown h) new.view) (λ (told : ℕ × Certificate). P told.1) (λ told is. (is.0, is.1, is.3)) (certified_in more) (step.certified told config opened (h ++ changes_of entries) stood.since)) in
        record {
          since = carried.since;
          certified = subst (All P) (append_assoc answered (answered_in marks) (answered_in more) ∙ ap (λ l. answered ++ l) (sym (answered-append marks more)))
              (All-append P (answered ++ answered_in marks) (answered_in more) carried.certified added);
        }

    -- numbers that are used up stay so
    spent_on : IsSpent Tells o old → IsSpent Tells o new
    spent_on (inl full) = inl (let more = step.count in let most = step.sound.writable.count in omega (arith, full, more, most))
    spent_on (inr (inl full)) = inr (inl (let more = ap (λ (f : Face). f.made) step.face ∙ made_along (face_of old.view) more step.numbered in let most = step.sound.pins.made in omega (arith, full, more, most)))
    spent_on (inr (inr (inl full))) = inr (inr (inl (let is = ap (λ (f : Face). f.rounds) step.face in let rise = rounds_rise (face_of old.view) more in omega (arith, full, is, rise))))
    spent_on (inr (inr (inr short))) = inr (inr (inr (λ told config opened h s. let was = short told config opened h s in let more = step.count in let drawn = step.drawn in omega (arith, was, more, drawn))))

    spent_since : IsSpent Tells old new → IsSpent Tells o new
    spent_since (inl full) = inl full
    spent_since (inr (inl full)) = inr (inl full)
    spent_since (inr (inr (inl full))) = inr (inr (inl full))
    spent_since (inr (inr (inr short))) = inr (inr (inr (λ told config opened h s. short told config opened (h ++ changes_of entries) (stands_along told config opened h s))))

    spent_behind : Contains (marks ++ more) Spent → IsSpent Tells o new
    spent_behind has = elim (Contains-append_cases marks more Spent has) [ inl before ↦ spent_on (since.diary.spent before) | inr now ↦ spent_since (step.spent now) ]

    -- the diary with the step's own marks
    diary_behind : Diary Tells o (entries ++ said) (marks ++ more) new
    diary_behind = record {
      face = step.face ∙ ap (λ (f : Face). face_along f more) since.diary.face ∙ sym (fold-append face_by (face_of o.view) marks more);
      numbered = subst (AreNumbered (o.view.pins.made + 1)) (sym (made-append marks more))
          (numbered-append (o.view.pins.made + 1) (made_in marks) (made_in more) since.diary.numbered
          (subst (λ n. AreNumbered n (made_in more)) (let m : old.view.pins.made ≡ o.view.pins.made + length (made_in marks) = ap (λ (f : Face). f.made) since.diary.face ∙ made_along (face_of o.view) marks since.diary.numbered in
          let e : old.view.pins.made + 1 ≡ o.view.pins.made + 1 + length (made_in marks) = omega arith in e) step.numbered));
      certificates = step.certificates ∙ ap (λ l. l ++ answered_in more) since.diary.certificates ∙ append_assoc o.certificates (answered_in marks) (answered_in more)
          ∙ ap (λ l. o.certificates ++ l) (sym (answered-append marks more));
      certified = λ told config opened h s. subst (λ l. All (IsCertifiedAt config opened l new.view) (certified_in (marks ++ more))) (history_is h) (placed_behind told config opened h s);
      spent = spent_behind;
    }

    -- the store behind a step is what became of the opened one by the step's own entries and marks
    pub since_step : Since Tells PortsFail o (entries ++ said) (marks ++ more) new
    since_step = record {
      sound = step.sound;
      count = (let c = since.count in let n = step.count in let l : length (entries ++ said) ≡ length entries + length said = length-append entries said in
          let e : new.view.state.count ≡ o.view.state.count + length (entries ++ said) = omega arith in e);
      stopped = step.stopped ∙ (λ i. stopped_behind (since.stopped i) (since.count i) said) ∙ sym (stopped-append o.view.state.stopped o.view.state.count entries said);
      clock = step.clock ∙ ap (λ (clock : Clock). clock_along clock said) since.clock
          ∙ sym (fold-append (λ (clock : Clock) (entry : Entry). clock_by entry.did entry.call clock) (clock_of o.view.state.manifest) entries said);
      faults = (let a = since.faults in let b = step.faults in omega arith);
      diary = diary_behind;
      stands = λ told config opened h answered s. subst (λ l. StandsFor config opened l new.view (answered ++ answered_in (marks ++ more))) (history_is h) (all_behind told config opened h answered s);
      calls = λ told config opened h s.
          continues_then o.view.disk old.view.disk new.view.disk (since.calls told config opened h s) (step.calls told config opened (h ++ changes_of entries) (stands_along told config opened h s));
    }

  -- so is the store behind a call, by the call's own entry and its own marks
  pub since_call : (new : StoreView) (caller : ℕ) (asked : Asked) (why : Option Refused) (face : Face) → Answers Tells asked why face old.view new.view → IsFirstFailure old.view.state.stopped old.view.state.count why
      → (more : List Mark) → IsNoted Tells caller asked why more old new → Since Tells PortsFail o (entries ++ entries_by caller asked why) (marks ++ more) new
  since_call new caller asked why face answers first more noted = since_step new (entries_by caller asked why) more (step_of_call Tells old new caller asked why face answers first more noted)

-- the opened store has had no entry and no mark
pub since_opened : (Tells PortsFail : Type 0) (o : StoreView) → IsSound Tells o.view → Since Tells PortsFail o [] [] o
since_opened Tells PortsFail o sound = record {
  sound = sound;
  count = (let e : o.view.state.count ≡ o.view.state.count + 0 = omega arith in e);
  stopped = same_stopped o.view.state.stopped o.view.state.count;
  clock = refl;
  faults = omega arith;
  diary = record {
    face = refl;
    numbered = tt;
    certificates = sym (append-nil o.certificates);
    certified = λ told config opened h s. All-nil (IsCertifiedAt config opened (h ++ []) o.view);
    spent = λ has. absurd (nothing_noted has);
  };
  stands = λ told config opened h answered s. subst (λ l. StandsFor config opened (h ++ []) o.view l) (sym (append-nil answered)) (subst (λ l. StandsFor config opened l o.view answered) (sym (append-nil h)) s);
  calls = λ told config opened h s. continues_itself o.view.disk;
}

pub nothing_said : (caller : ℕ) (why : Option Refused) → failure_in why ≡ None → entries_by caller (Serves Work) why ≡ []
nothing_said caller None unfailed = refl
nothing_said caller (Some why) unfailed = ap (λ o. entries_of caller (Work ∷ []) (option_map (λ failure. Failed failure.before failure.after) o)) unfailed

-- where nothing of the store was changed it is what it was
pub since_same : (Tells PortsFail : Type 0) (o : StoreView) (entries : List Entry) (marks : List Mark) (old new : StoreView) → Since Tells PortsFail o entries marks old → IsSameStore Tells old new → Since Tells PortsFail o entries marks new
since_same Tells PortsFail o entries marks old new since same =
    subst (λ l. Since Tells PortsFail o l marks new) (ap (λ l. entries ++ l) (nothing_said 0 same.why same.unfailed) ∙ append-nil entries)
    (subst (λ l. Since Tells PortsFail o (entries ++ entries_by 0 (Serves Work) same.why) l new) (append-nil marks)
    (since_call Tells PortsFail o old entries marks since new 0 (Serves Work) same.why (face_of old.view) same.answers (λ failure is. absurd (clash failure (sym same.unfailed ∙ is))) []
    (noted_none Tells 0 (Serves Work) same.why old new same.answers.face_is same.certificates)))
  where
    clash : (failure : Failure) → None ≡ Some failure → ⊥
    clash failure is = cc

-- making a port is no failure of the disk
port_unfailed : {T E : Type 0} (r : Result T E) → failure_in (option_map (λ none. NoMemory) (result_err r)) ≡ None
port_unfailed (Ok port) = refl
port_unfailed (Err none) = refl

-- so nothing of the store is changed, whether or not there was memory
pub same_behind_port : {T E : Type 0} (Tells : Type 0) (old new : StoreView) (r : Result T E) → Answers Tells (Serves Work) (option_map (λ none. NoMemory) (result_err r)) (face_of old.view) old.view new.view
    → new.view.state ≡ old.view.state → new.view.pins ≡ old.view.pins → new.certificates ≡ old.certificates → IsSameStore Tells old new
same_behind_port Tells old new r answers state pins certificates = record {
  why = option_map (λ none. NoMemory) (result_err r);
  unfailed = port_unfailed r;
  answers = answers;
  state = state;
  pins = pins;
  certificates = certificates;
}

-- The laws

pub any_none : AnyMarks []
any_none = tt

pub any_both : (a b : List Mark) → AnyMarks a → AnyMarks b → AnyMarks (a ++ b)
any_both a b first second = tt

pub since_sound : (Tells PortsFail : Type 0) (opened : StoreView) (entries : List Entry) (marks : List Mark) (shown : StoreView) → Since Tells PortsFail opened entries marks shown → IsSound Tells shown.view
since_sound Tells PortsFail opened entries marks shown since = since.sound
