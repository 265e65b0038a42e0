-- What a session knows after its ticks.
use Rattle.std.proofs.Common.{◌≡◌, ◌≤◌, ◌<◌, inl, inr, ℕ, ◌+◌, Bool, true, false, if◌then◌else◌, List, [], ◌∷◌, ◌++◌, length, map, Option, Some, None, Result, Ok, Err, refl, sym, ap, ◌∙◌, subst, arith, append-nil, append_assoc}
use Rattle.std.specs.Prelude.{All, Contains, IfErr, IfOk, IfSome, IsErrOf, MatchResult, option_to_list, unwrap_or}
use Rattle.std.specs.Result.{result_err}
use Rattle.std.proofs.lemmas.List.{length-append, map-append}
use Rattle.std.proofs.lemmas.List.Elements.{All-head, All-nil, All-cons, Contains-append_cases}
use Rattle.lethe_base.specs.Counts.{Rose}
use Rattle.lethe_base.specs.History.{History}
use Rattle.lethe_base.specs.declared.call.Call.{Call}
use Rattle.lethe_base.specs.declared.call.Call.TheVariants.{Put, Delete, Erase, Tick, Work}
use Rattle.lethe_base.specs.declared.call.Did.{Did}
use Rattle.lethe_base.specs.declared.call.Did.TheVariants.{Done, Failed}
use Rattle.lethe_base.specs.declared.config.Fields.{Fields}
use Rattle.lethe_base.specs.declared.name.Name.{Name}
use Rattle.lethe_base.specs.declared.refused.Refused.{Refused}
use Rattle.lethe_base.specs.declared.refused.Refused.TheVariants.{Fault, Stopped, Backwards, Pinned, NothingDue, Cancelled, Exhausted, ReadFault, NoMemory, Damaged}
use Rattle.lethe_cert.specs.declared.certificate.Certificate.{Certificate}
use Rattle.lethe_core.specs.Asked.{Makes, behind}
use Rattle.lethe_core.specs.Running.{IsSound}
use Rattle.lethe_core.specs.View as core
use Rattle.lethe_core.specs.View.{Face, face_of, limited_of}
use Rattle.lethe_cover.specs.Steps.{with_done}
use Rattle.lethe_disk.specs.Directory.{Directory}
use Rattle.lethe_engine.specs.Answers.{Answers}
use Rattle.lethe_engine.specs.Certificates.{IsTrueCertificate}
use Rattle.lethe_engine.specs.StandsFor.{IsCertified, Opened, StandsFor, StandsSince}
use Rattle.lethe_engine.specs.Ticks as engine
use Rattle.lethe_engine.specs.Ticks.{IsCertificateAt, answered_by, passes, ticked_face}
use Rattle.lethe_engine.specs.declared.ticking.Ticked.{Ticked}
use Rattle.lethe_pins.specs.Held.{Held, first_limit_of}
use Rattle.lethe_pins.specs.declared.pin.Pin.{Pin}
use Rattle.lethe_state.specs.Clock.{Clock, clock_of}
use Rattle.lethe_turn.specs.Seats.{HasSeenMore, count_of, entered, passed_noting}
use Rattle.lethe_store.specs.declared.entry.Entry.{Entry}
use Rattle.lethe_store.specs.declared.entry.Mark.{Mark}
use Rattle.lethe_store.specs.declared.entry.Mark.TheVariants.{Round, Certified, Spent}
use Rattle.lethe_store.specs.Diary.{AreNumbered, IsCertifiedAt, IsHeldBehind, IsSpent, answered_in, certified_in, face_along, limited, made_in, spent_by}
use Rattle.lethe_store.specs.DiaryLaws.{held_along, rounds_rise, spent_either}
use Rattle.lethe_store.specs.Entries.{change_of, changes_of, clock_along, clock_by, entries_by}
use Rattle.lethe_store.specs.Laws.{IsFirstFailure, IsNoted, none_spent, nothing_noted, stands_along}
use Rattle.lethe_store.specs.Reasons.{PortCounts}
use Rattle.lethe_store.specs.Sessions.{KnowsOpened}
use Rattle.lethe_store.specs.Since.{all_counted}
use Rattle.lethe_store.specs.StoreViews.{StoreView}
use Rattle.lethe_store.specs.Ticks.{HasReasonOfTick, HoldsPin, IsBegunBy, IsCertifiedFrom, IsTrueOf, answered_at, certified_at, ticked_by}
use Rattle.lethe_store.proofs.Behind.{Knows, Leads, counts_seen}
use Rattle.lethe_store.proofs.Placed.{placed_last}
use Rattle.lethe_store.proofs.Seats.{knows_after}
use Rattle.lethe_store.proofs.Spent.{tick_at}

-- a tick in which the disk failed is the first change that did, and has the next place
pub first_failure_of_tick : (Tells PortsFail : Type 0) (to : ℕ) (old new : core.View) (before now : ℕ) (result : Result Ticked Refused) → IfErr result (engine.HasReasonOfTick Tells PortsFail to old new before now)
    → IsFirstFailure old.state.stopped old.state.count (result_err result)
first_failure_of_tick Tells PortsFail to old new before now (Ok told) reason = λ failure is. let clash : None ≡ Some failure = is in cc
first_failure_of_tick Tells PortsFail to old new before now (Err why) reason = by why reason
  where
    by : (why : Refused) → engine.HasReasonOfTick Tells PortsFail to old new before now why → IsFirstFailure old.state.stopped old.state.count (Some why)
    by (Fault place told_before told_now) (inl behind) = let clash : Fault place told_before told_now ≡ Backwards old.state.manifest.clock = behind.2 in cc
    by (Fault place told_before told_now) (inr (inl barred)) = let bars = barred.1 in let clash : Fault place told_before told_now ≡ Pinned bars.pin bars.limit = bars.told in cc
    by (Fault place told_before told_now) (inr (inr (inl is))) = λ failure same. (is.0, sym (ap (λ o. elim o [ None ↦ place | Some f ↦ f.place ]) same) ∙ is.1)
    by (Fault place told_before told_now) (inr (inr (inr unread))) = absurd unread.1
    by (Stopped at) is = λ failure same. let clash : None ≡ Some failure = same in cc
    by (Backwards clock) is = λ failure same. let clash : None ≡ Some failure = same in cc
    by (Pinned pin limit) is = λ failure same. let clash : None ≡ Some failure = same in cc
    by NothingDue is = λ failure same. let clash : None ≡ Some failure = same in cc
    by (Cancelled begun other) is = λ failure same. let clash : None ≡ Some failure = same in cc
    by (Exhausted last) is = λ failure same. let clash : None ≡ Some failure = same in cc
    by (ReadFault told_before told_now) is = λ failure same. let clash : None ≡ Some failure = same in cc
    by NoMemory is = λ failure same. let clash : None ≡ Some failure = same in cc
    by (Damaged name) is = λ failure same. let clash : None ≡ Some failure = same in cc

-- The marks of a tick

face_noted : (face : Face) (result : Result Ticked Refused) → face_along face (answered_at result) ≡ face
face_noted face (Err why) = spent_either (λ l. face_along face l ≡ face) (Some why) refl (λ last is. refl)
face_noted face (Ok told) = by told.certificate
  where
    by : (answer : Option Certificate) → face_along face (certified_at told.place answer) ≡ face
    by None = refl
    by (Some certificate) = refl

made_none : (result : Result Ticked Refused) → made_in (answered_at result) ≡ []
made_none (Err why) = spent_either (λ l. made_in l ≡ []) (Some why) refl (λ last is. refl)
made_none (Ok told) = by told.certificate
  where
    by : (answer : Option Certificate) → made_in (certified_at told.place answer) ≡ []
    by None = refl
    by (Some certificate) = refl

answered_none : (why : Refused) → answered_in (spent_by (Some why)) ≡ []
answered_none why = spent_either (λ l. answered_in l ≡ []) (Some why) refl (λ last is. refl)

answered_is : (place : ℕ) (answer : Option Certificate) → answered_in (certified_at place answer) ≡ option_to_list answer
answered_is place None = refl
answered_is place (Some certificate) = refl

unspent : (place : ℕ) (answer : Option Certificate) → Contains (certified_at place answer) Spent → ⊥
unspent place None has = nothing_noted has
unspent place (Some certificate) has = none_spent (Certified place certificate) (λ is. cc) has

none_certified : (P : ℕ × Certificate → Type 0) (why : Refused) → All P (certified_in (spent_by (Some why)))
none_certified P why = spent_either (λ l. All P (certified_in l)) (Some why) (All-nil P) (λ last is. All-nil P)

module _ (Tells PortsFail : Type 0) (before now : ℕ) (caller to : ℕ) (old new : StoreView) (directory : Directory) (result : Result Ticked Refused) (sound : IsSound Tells old.view)
    (reason : IfErr result (engine.HasReasonOfTick Tells PortsFail to old.view new.view before now)) (begun : IsBegunBy (passes old.view to) result)
    (answers : Answers Tells (Makes (Tick to)) (result_err result) (ticked_face old.view to) old.view new.view)
    (place : IfOk result (λ told. (told.place ≡ old.view.state.count + 1) × (told.clock ≡ to))) (due : IfOk result (λ told. IsCertificateAt new.view.state.manifest.config.threshold to told.certificate))
    (kept : MatchResult result (λ told. new.certificates ≡ old.certificates ++ option_to_list told.certificate) (λ why. new.certificates ≡ old.certificates))
    (is_true : Tells → (config : Fields) (opened : Opened) (h : History) → StandsSince config opened h old.view → (caller : ℕ) → IfOk result (λ told. IfSome told.certificate (λ certificate. IsTrueCertificate config.threshold certificate directory (with_done h caller (Tick to)))))
    (certified : Tells → (config : Fields) (opened : Opened) (h : History) (answered : List Certificate) → StandsFor config opened h old.view answered → (caller : ℕ)
    → StandsFor config opened (behind h caller (Makes (Tick to)) (result_err result)) new.view (answered ++ answered_by result)) where
  face_by_passing : (passed : Bool) → face_of new.view ≡ (if passed then record (face_of old.view) { rounds = old.view.rounds + 1; flights = [] } else face_of old.view) → face_of new.view ≡ face_along (face_of old.view) (ticked_by passed result)
  face_by_passing true is = is ∙ sym (face_noted (record (face_of old.view) { rounds = old.view.rounds + 1; flights = [] }) result)
  face_by_passing false is = is ∙ sym (face_noted (face_of old.view) result)

  none_made : (passed : Bool) → made_in (ticked_by passed result) ≡ []
  none_made true = made_none result
  none_made false = made_none result

  kept_by : (passed : Bool) (answer : Result Ticked Refused) → IsBegunBy passed answer → MatchResult answer (λ told. new.certificates ≡ old.certificates ++ option_to_list told.certificate) (λ why. new.certificates ≡ old.certificates)
      → new.certificates ≡ old.certificates ++ answered_in (ticked_by passed answer)
  kept_by true (Ok told) is kept = kept ∙ ap (λ l. old.certificates ++ l) (sym (answered_is told.place told.certificate))
  kept_by false (Ok told) is kept = let clash : false ≡ true = is in cc
  kept_by true (Err why) is kept = kept ∙ sym (append-nil old.certificates) ∙ ap (λ l. old.certificates ++ l) (sym (answered_none why))
  kept_by false (Err why) is kept = kept ∙ sym (append-nil old.certificates) ∙ ap (λ l. old.certificates ++ l) (sym (answered_none why))

  -- its certificate stands, by its own place
  stands_at : Tells → (config : Fields) (opened : Opened) (h : History) → StandsSince config opened h old.view → (told : Ticked) → result ≡ Ok told → (answer : Option Certificate) → told.certificate ≡ answer
      → All (IsCertifiedAt config opened (with_done h caller (Tick to)) new.view) (certified_in (certified_at told.place answer))
  stands_at tells config opened h s told ok None same = All-nil (IsCertifiedAt config opened (with_done h caller (Tick to)) new.view)
  stands_at tells config opened h s told ok (Some certificate) same =
      let g = with_done h caller (Tick to) in
      let truth : IsTrueCertificate config.threshold certificate directory g =
      subst (λ o. IfSome o (λ certificate. IsTrueCertificate config.threshold certificate directory g)) same
      (subst (λ r. IfOk r (λ told. IfSome told.certificate (λ certificate. IsTrueCertificate config.threshold certificate directory g))) ok (is_true tells config opened h s caller)) in
      let at : IsCertificateAt new.view.state.manifest.config.threshold to (Some certificate) = subst (IsCertificateAt new.view.state.manifest.config.threshold to) same (subst (λ r. IfOk r (λ told. IsCertificateAt new.view.state.manifest.config.threshold to told.certificate)) ok due) in
      let here = (subst (λ r. IfOk r (λ told. (told.place ≡ old.view.state.count + 1) × (told.clock ≡ to))) ok place).0 in
      let all = certified tells config opened h [] (record { since = s; certified = All-nil (IsCertified config opened h old.view) }) caller in
      let some : All (IsCertified config opened g new.view) (option_to_list told.certificate) =
      subst (λ r. All (IsCertified config opened (behind h caller (Makes (Tick to)) (result_err r)) new.view) (answered_by r)) ok all.certified in
      let own : IsCertified config opened g new.view certificate = All-head (IsCertified config opened g new.view) certificate [] (subst (λ o. All (IsCertified config opened g new.view) (option_to_list o)) same some) in
      let counts = s.now.count in
      let before = truth.before in
      let clock = at.0 in
      All-cons (IsCertifiedAt config opened g new.view) (told.place, certificate) []
      (placed_last config opened h caller to new.view certificate told.place (omega (arith, before, clock)) (let e : told.place ≡ length h + 1 = omega (arith, here, counts) in e) truth.number own)
      (All-nil (IsCertifiedAt config opened g new.view))

  certified_by_passing : Tells → (config : Fields) (opened : Opened) (h : History) → StandsSince config opened h old.view → (passed : Bool) → (answer : Result Ticked Refused) → result ≡ answer
      → All (IsCertifiedAt config opened (behind h caller (Makes (Tick to)) (result_err answer)) new.view) (certified_in (ticked_by passed answer))
  certified_by_passing tells config opened h s false (Err why) is = none_certified (IsCertifiedAt config opened (behind h caller (Makes (Tick to)) (Some why)) new.view) why
  certified_by_passing tells config opened h s true (Err why) is = none_certified (IsCertifiedAt config opened (behind h caller (Makes (Tick to)) (Some why)) new.view) why
  certified_by_passing tells config opened h s false (Ok told) is = stands_at tells config opened h s told is told.certificate refl
  certified_by_passing tells config opened h s true (Ok told) is = stands_at tells config opened h s told is told.certificate refl

  -- where it notes that numbers are used up it was refused for that
  spent_noted : (passed : Bool) → face_of new.view ≡ face_along (face_of old.view) (ticked_by passed result) → (answer : Result Ticked Refused) → result ≡ answer → Contains (ticked_by passed answer) Spent → IsSpent Tells old new
  spent_noted false face (Ok told) is has = absurd (unspent told.place told.certificate has)
  spent_noted true face (Ok told) is has = absurd (elim (Contains-append_cases (Round ∷ []) (certified_at told.place told.certificate) Spent has) as (λ _. ⊥) [ inl first ↦ none_spent Round (λ is. cc) first | inr rest ↦ unspent told.place told.certificate rest ])
  spent_noted passed face (Err why) is has = spent_err passed face why is (err_spent passed why has)
    where
      -- it stands among what the refusal notes
      err_spent : (passed : Bool) (why : Refused) → Contains (ticked_by passed (Err why)) Spent → Contains (spent_by (Some why)) Spent
      err_spent false why has = has
      err_spent true why has = elim (Contains-append_cases (Round ∷ []) (spent_by (Some why)) Spent has) [ inl first ↦ absurd (none_spent Round (λ is. cc) first) | inr rest ↦ rest ]

      spent_err : (passed : Bool) → face_of new.view ≡ face_along (face_of old.view) (ticked_by passed result) → (why : Refused) → result ≡ Err why → Contains (spent_by (Some why)) Spent → IsSpent Tells old new
      spent_err passed face why is = spent_either (λ l. Contains l Spent → IsSpent Tells old new) (Some why) (λ has. absurd (nothing_noted has))
          (λ last same has.
          let e : why ≡ Exhausted last = ap (λ o. unwrap_or o why) same in
          let risen : old.view.rounds ≤ new.view.rounds = (let r = ap (λ (f : Face). f.rounds) face in let n = rounds_rise (face_of old.view) (ticked_by passed result) in omega (arith, r, n)) in
          tick_at Tells PortsFail old new to (ticked_face old.view to) before now sound risen last
          (subst (λ r. Answers Tells (Makes (Tick to)) (result_err r) (ticked_face old.view to) old.view new.view) (is ∙ ap Err e) answers)
          (subst (λ r. IfErr r (engine.HasReasonOfTick Tells PortsFail to old.view new.view before now)) (is ∙ ap Err e) reason))

  -- what a tick notes is what it says of its face and its certificates
  pub noted_tick : IsNoted Tells caller (Makes (Tick to)) (result_err result) (ticked_by (passes old.view to) result) old new
  noted_tick = record {
    face = face_by_passing (passes old.view to) answers.face_is;
    numbered = subst (AreNumbered (old.view.pins.made + 1)) (sym (none_made (passes old.view to))) tt;
    certificates = kept_by (passes old.view to) result begun kept;
    certified = λ tells config opened h s. certified_by_passing tells config opened h s (passes old.view to) result refl;
    spent = spent_noted (passes old.view to) (face_by_passing (passes old.view to) answers.face_is) result refl;
  }

-- What a session knows then

clock_threshold : (did : Did) (call : Call) (clock : Clock) → (clock_by did call clock).threshold ≡ clock.threshold
clock_threshold (Failed before after) call clock = refl
clock_threshold Done (Put key dkey value) clock = refl
clock_threshold Done (Delete key) clock = refl
clock_threshold Done (Erase range) clock = refl
clock_threshold Done (Tick to) clock = refl
clock_threshold Done Work clock = refl

threshold_along : (clock : Clock) (entries : List Entry) → (clock_along clock entries).threshold ≡ clock.threshold
threshold_along clock [] = refl
threshold_along clock (entry ∷ entries) = threshold_along (clock_by entry.did entry.call clock) entries ∙ clock_threshold entry.did entry.call clock

module _ {V : Type 0} (Tells PortsFail : Type 0) (see : V → StoreView) where
  abbrev Led : Knows V → StoreView → Type 0
  Led = Leads Tells PortsFail see

  -- a pin that the store holds is held by what was noted
  pub holds_noted : (x : Knows V) (shown : StoreView) (number limit : ℕ) → Led x shown → first_limit_of shown.view.pins.pins ≡ Some (number, limit) → HoldsPin see x number limit
  holds_noted x shown number limit leads first o op = by shown.view.pins.pins refl first
    where
      all : All (IsHeldBehind (face_of (see o).view).held x.noted) (map limited_of shown.view.pins.pins)
      all = subst (All (IsHeldBehind (face_of (see o).view).held x.noted)) (ap (λ (f : Face). f.held) (sym (leads o op).diary.face)) (held_along (face_of (see o).view) x.noted)

      by : (pins : List Pin) → shown.view.pins.pins ≡ pins → first_limit_of pins ≡ Some (number, limit) → IsHeldBehind (face_of (see o).view).held x.noted (limited number limit)
      by [] same is = let clash : first_limit_of [] ≡ Some (number, limit) = is in cc
      by (pin ∷ pins) same is =
          subst (IsHeldBehind (face_of (see o).view).held x.noted) (ap (λ (found : Option (ℕ × ℕ)). limited (unwrap_or found (number, limit)).0 (unwrap_or found (number, limit)).1) is)
          (All-head (IsHeldBehind (face_of (see o).view).held x.noted) (limited_of pin) (map limited_of pins) (subst (λ l. All (IsHeldBehind (face_of (see o).view).held x.noted) (map limited_of l)) same all))

  -- a tick answers a certificate by the opened store's threshold
  pub due_seen : (x : Knows V) (shown : StoreView) (to : ℕ) (answer : Option Certificate) → Led x shown → IsCertificateAt shown.view.state.manifest.config.threshold to answer → IsCertifiedFrom see x to answer
  due_seen x shown to answer leads at o op =
      subst (λ n. IsCertificateAt n to answer) (ap (λ (clock : Clock). clock.threshold) (leads o op).clock ∙ threshold_along (clock_of (see o).view.state.manifest) x.seen) at

  pub tick_due : (x : Knows V) (shown : StoreView) (to : ℕ) (result : Result Ticked Refused) → Led x shown → IfOk result (λ told. IsCertificateAt shown.view.state.manifest.config.threshold to told.certificate)
      → IfOk result (λ told. IsCertifiedFrom see x to told.certificate)
  tick_due x shown to (Ok told) leads at = due_seen x shown to told.certificate leads at
  tick_due x shown to (Err why) leads at = tt

  module _ (v w x : Knows V) (old new : StoreView) (caller to : ℕ) (marked : List Mark) (knows : KnowsOpened all_counted see v) (more : HasSeenMore v w) (leads : Led w old) (result : Result Ticked Refused)
      (given : x ≡ passed_noting marked (entered (entries_by caller (Makes (Tick to)) (result_err result)) w)) where
    seen_is : x.seen ≡ w.seen ++ entries_by caller (Makes (Tick to)) (result_err result)
    seen_is = ap (λ u. u.seen) given

    opened_before : (o : V) → x.opened ≡ Some o → w.opened ≡ Some o
    opened_before o op = sym (ap (λ u. u.opened) given) ∙ op

    pub tick_placed : IfOk result (λ told. (told.place ≡ old.view.state.count + 1) × (told.clock ≡ to)) → IfOk result (λ told. (told.place ≡ count_of x) × (told.clock ≡ to))
    tick_placed told = by result refl told
      where
        by : (answer : Result Ticked Refused) → result ≡ answer → IfOk answer (λ told. (told.place ≡ old.view.state.count + 1) × (told.clock ≡ to)) → IfOk answer (λ told. (told.place ≡ count_of x) × (told.clock ≡ to))
        by (Err why) same told = tt
        by (Ok answer) same told =
            let n = counts_seen Tells PortsFail see w old (knows_after all_counted see v w knows more.opened more.start) leads in
            let l : length x.seen ≡ length w.seen + 1 = ap length seen_is ∙ length-append w.seen (entries_by caller (Makes (Tick to)) (result_err result)) ∙ ap (λ r. length w.seen + length (entries_by caller (Makes (Tick to)) (result_err r))) same in
            let s : x.start ≡ w.start = ap (λ u. u.start) given in let t : answer.place ≡ old.view.state.count + 1 = told.0 in
            ((let e : answer.place ≡ count_of x = omega (arith, n, l, s, t) in e), told.1)

    -- its certificate is true of what was seen
    pub tick_true : (directory : Directory)
        → (Tells → (config : Fields) (opened : Opened) (h : History) → StandsSince config opened h old.view → (caller : ℕ) → IfOk result (λ told. IfSome told.certificate (λ certificate. IsTrueCertificate config.threshold certificate directory (with_done h caller (Tick to)))))
        → IfOk result (λ told. IsTrueOf Tells see x told.certificate)
    tick_true directory clause = by result refl
      where
        some : (answer : Option Certificate) (directory : Directory) (threshold : ℕ) (g k : History) → g ≡ k → IfSome answer (λ certificate. IsTrueCertificate threshold certificate directory g)
            → IfSome answer (λ certificate. (there : Directory) × IsTrueCertificate threshold certificate there k)
        some None directory threshold g k same is = tt
        some (Some certificate) directory threshold g k same is = (directory, subst (IsTrueCertificate threshold certificate directory) same is)

        by : (answer : Result Ticked Refused) → result ≡ answer → IfOk answer (λ told. IsTrueOf Tells see x told.certificate)
        by (Err why) same = tt
        by (Ok told) same = λ o op tells config opened h s.
            let along : with_done (h ++ changes_of w.seen) caller (Tick to) ≡ h ++ changes_of x.seen =
            append_assoc h (changes_of w.seen) (changes_of (entries_by caller (Makes (Tick to)) None)) ∙ ap (λ l. h ++ l) (sym (map-append change_of w.seen (entries_by caller (Makes (Tick to)) None)))
            ∙ ap (λ r. h ++ changes_of (w.seen ++ entries_by caller (Makes (Tick to)) (result_err r))) (sym same) ∙ ap (λ l. h ++ changes_of l) (sym seen_is) in
            let is = subst (λ r. IfOk r (λ told. IfSome told.certificate (λ certificate. IsTrueCertificate config.threshold certificate directory (with_done (h ++ changes_of w.seen) caller (Tick to))))) same
            (clause tells config opened (h ++ changes_of w.seen) (stands_along Tells PortsFail (see o) old w.seen w.noted (leads o (opened_before o op)) tells config opened h s) caller) in
            some told.certificate directory config.threshold (with_done (h ++ changes_of w.seen) caller (Tick to)) (h ++ changes_of x.seen) along is

  module _ (v w x : Knows V) (old new : StoreView) (caller to : ℕ) (marked : List Mark) (knows : KnowsOpened all_counted see v) (more : HasSeenMore v w) (leads : Led w old) (leads_now : Led x new) (before now : PortCounts)
      (pins : new.view.pins ≡ old.view.pins) where
    reason : (why : Refused) → engine.HasReasonOfTick Tells PortsFail to old.view new.view before.faults now.faults why → Answers Tells (Makes (Tick to)) (Some why) (ticked_face old.view to) old.view new.view
        → ((name : Name) → why ≡ Damaged name → before.fetches < now.fetches) → x ≡ passed_noting marked (entered (entries_by caller (Makes (Tick to)) (Some why)) w) → HasReasonOfTick Tells PortsFail to see x before now why
    reason (Fault place told_before told_now) (inl behind) answers fetched given = let clash : Fault place told_before told_now ≡ Backwards old.view.state.manifest.clock = behind.2 in cc
    reason (Fault place told_before told_now) (inr (inl barred)) answers fetched given = let bars = barred.1 in let clash : Fault place told_before told_now ≡ Pinned bars.pin bars.limit = bars.told in cc
    reason (Fault place told_before told_now) (inr (inr (inl is))) answers fetched given =
        let n = counts_seen Tells PortsFail see w old (knows_after all_counted see v w knows more.opened more.start) leads in
        let l : length x.seen ≡ length w.seen + 1 = ap (λ u. length u.seen) given ∙ length-append w.seen (entries_by caller (Makes (Tick to)) (Some (Fault place told_before told_now))) in
        let s : x.start ≡ w.start = ap (λ u. u.start) given in let p = is.1 in
        ((let e : place ≡ count_of x = omega (arith, n, l, s, p) in e), subst (λ n. Rose n told_now) (sym is.2) (subst (λ n. Rose old.view.faults n) (sym is.3) is.4))
    reason (Fault place told_before told_now) (inr (inr (inr unread))) answers fetched given = absurd unread.1
    reason (Stopped at) (inl behind) answers fetched given = let clash : Stopped at ≡ Backwards old.view.state.manifest.clock = behind.2 in cc
    reason (Stopped at) (inr (inl barred)) answers fetched given = let bars = barred.1 in let clash : Stopped at ≡ Pinned bars.pin bars.limit = bars.told in cc
    reason (Stopped at) (inr (inr (inl is))) answers fetched given = λ o op. sym (leads_now o op).stopped ∙ answers.stopped ∙ is
    reason (Stopped at) (inr (inr (inr unread))) answers fetched given = absurd unread.1
    reason (Backwards clock) (inl behind) answers fetched given =
        let same : clock ≡ old.view.state.manifest.clock = ap (λ (why : Refused). elim why [ Backwards c ↦ c | _ ↦ clock ]) behind.2 in
        let low = behind.1 in
        ((let e : to < clock = omega (arith, same, low) in e), λ o op. same ∙ ap (λ (c : Clock). c.time) (sym answers.clock ∙ (leads_now o op).clock))
    reason (Backwards clock) (inr (inl barred)) answers fetched given = let bars = barred.1 in let clash : Backwards clock ≡ Pinned bars.pin bars.limit = bars.told in cc
    reason (Backwards clock) (inr (inr (inl is))) answers fetched given = absurd is
    reason (Backwards clock) (inr (inr (inr unread))) answers fetched given = absurd unread.1
    reason (Pinned pin limit) (inl behind) answers fetched given = let clash : Pinned pin limit ≡ Backwards old.view.state.manifest.clock = behind.2 in cc
    reason (Pinned pin limit) (inr (inl barred)) answers fetched given =
        let bars = barred.1 in
        let number : pin ≡ bars.pin = ap (λ (why : Refused). elim why [ Pinned p l ↦ p | _ ↦ pin ]) bars.told in
        let same : limit ≡ bars.limit = ap (λ (why : Refused). elim why [ Pinned p l ↦ l | _ ↦ limit ]) bars.told in
        let reached = bars.reached in (
          (let e : limit ≤ to = omega (arith, same, reached) in e),
          holds_noted x new pin limit leads_now (ap (λ (held : Held). first_limit_of held.pins) pins ∙ bars.first ∙ (λ i. Some (sym number i, sym same i))),
        )
    reason (Pinned pin limit) (inr (inr (inl is))) answers fetched given = absurd is
    reason (Pinned pin limit) (inr (inr (inr unread))) answers fetched given = absurd unread.1
    reason (Exhausted last) (inl behind) answers fetched given = let clash : Exhausted last ≡ Backwards old.view.state.manifest.clock = behind.2 in cc
    reason (Exhausted last) (inr (inl barred)) answers fetched given = let bars = barred.1 in let clash : Exhausted last ≡ Pinned bars.pin bars.limit = bars.told in cc
    reason (Exhausted last) (inr (inr (inl is))) answers fetched given = is.1
    reason (Exhausted last) (inr (inr (inr unread))) answers fetched given = absurd unread.1
    reason (ReadFault told_before told_now) (inl behind) answers fetched given = let clash : ReadFault told_before told_now ≡ Backwards old.view.state.manifest.clock = behind.2 in cc
    reason (ReadFault told_before told_now) (inr (inl barred)) answers fetched given = let bars = barred.1 in let clash : ReadFault told_before told_now ≡ Pinned bars.pin bars.limit = bars.told in cc
    reason (ReadFault told_before told_now) (inr (inr (inl is))) answers fetched given = absurd is
    reason (ReadFault told_before told_now) (inr (inr (inr unread))) answers fetched given =
        let is = unread.1 in (is.0, is.1, is.2, subst (λ n. Rose n told_now) (sym is.1) (subst (λ n. Rose before.faults n) (sym is.2) is.3))
    reason NoMemory is answers fetched given = tt
    reason (Damaged name) (inl behind) answers fetched given = let clash : Damaged name ≡ Backwards old.view.state.manifest.clock = behind.2 in cc
    reason (Damaged name) (inr (inl barred)) answers fetched given = let bars = barred.1 in let clash : Damaged name ≡ Pinned bars.pin bars.limit = bars.told in cc
    reason (Damaged name) (inr (inr (inl is))) answers fetched given = absurd is
    reason (Damaged name) (inr (inr (inr unread))) answers fetched given = (unread.1, fetched name refl)
    reason NothingDue (inl behind) answers fetched given = let clash : NothingDue ≡ Backwards old.view.state.manifest.clock = behind.2 in cc
    reason NothingDue (inr (inl barred)) answers fetched given = let bars = barred.1 in let clash : NothingDue ≡ Pinned bars.pin bars.limit = bars.told in cc
    reason NothingDue (inr (inr (inl is))) answers fetched given = is
    reason NothingDue (inr (inr (inr unread))) answers fetched given = unread.1
    reason (Cancelled begun other) (inl behind) answers fetched given = let clash : Cancelled begun other ≡ Backwards old.view.state.manifest.clock = behind.2 in cc
    reason (Cancelled begun other) (inr (inl barred)) answers fetched given = let bars = barred.1 in let clash : Cancelled begun other ≡ Pinned bars.pin bars.limit = bars.told in cc
    reason (Cancelled begun other) (inr (inr (inl is))) answers fetched given = is
    reason (Cancelled begun other) (inr (inr (inr unread))) answers fetched given = unread.1

    -- why it was refused, if it was
    pub reason_of_tick : (result : Result Ticked Refused) → IfErr result (engine.HasReasonOfTick Tells PortsFail to old.view new.view before.faults now.faults)
        → Answers Tells (Makes (Tick to)) (result_err result) (ticked_face old.view to) old.view new.view
        → ((name : Name) → IsErrOf result (Damaged name) → before.fetches < now.fetches) → x ≡ passed_noting marked (entered (entries_by caller (Makes (Tick to)) (result_err result)) w)
        → IfErr result (HasReasonOfTick Tells PortsFail to see x before now)
    reason_of_tick (Ok told) is answers fetched given = tt
    reason_of_tick (Err why) is answers fetched given = reason why is answers (λ name same. fetched name (ap Err same)) given
