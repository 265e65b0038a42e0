-- The pages of a job, written one after another: what is stored stays, and where one of them is refused so is the whole.
use Rattle.std.proofs.Common.{◌≡◌, ◌≤◌, ◌⊎◌, inl, inr, ℕ, Bool, true, false, List, [], ◌∷◌, ◌++◌, cond, not, Option, Some, None, Result, Ok, Err, refl, sym, ap, ◌∙◌, subst, append-nil, append_assoc, arith}
use Rattle.std.specs.Prelude.{◌==◌, IsSome, if◌then◌else◌}
use Rattle.std.specs.Result.{result_err}
use Rattle.lethe_base.specs.History.{History}
use Rattle.lethe_base.specs.Limits.{max_place}
use Rattle.lethe_base.specs.declared.call.Call.TheVariants.{Work}
use Rattle.lethe_base.specs.declared.config.Fields.{Fields}
use Rattle.lethe_base.specs.declared.name.Name.{Name}
use Rattle.lethe_base.specs.declared.refused.Refused.{Refused}
use Rattle.lethe_base.specs.declared.refused.Refused.TheVariants.{Fault, Stopped, Backwards, Pinned, NothingDue, Cancelled, Exhausted, ReadFault, NoMemory, Damaged}
use Rattle.lethe_cert.specs.declared.certificate.Certificate.{Certificate}
use Rattle.lethe_disk.specs.declared.disk.Disk.{Ghosts}
use Rattle.lethe_file.specs.Agreement.{page_name}
use Rattle.lethe_stored.specs.Stored.{Stored}
use Rattle.lethe_job.specs.declared.job.Job.{Job}
use Rattle.lethe_core.specs.Asked.{Serves, behind}
use Rattle.lethe_core.specs.Jobs.{IsAtWork}
use Rattle.lethe_core.specs.Reasons.{HasReason, IsUnreadable}
use Rattle.lethe_core.specs.Flights.{Flying, flying_by, with_pages, with_pages_of, without}
use Rattle.lethe_core.specs.View.{View}
use Rattle.lethe_engine.specs.StandsFor.{Opened, StandsFor}
use Rattle.lethe_drive.specs.Answers.{IsWriteOut}
use Rattle.lethe_drive.specs.Driving.{IsWritingOn, IsWrittenOn}
use Rattle.lethe_drive.specs.Moments.{Going, IsKnown, Moment, going_of, moment_of}
use Rattle.lethe_drive.proofs.Knowing.{count_same, stopped_same}
use Rattle.lethe_drive.proofs.Reasons.{reason_on}

-- The pages of a job in flight

module _ (number : ℕ) where
  abbrev with_more : List (Name × List ℕ) → Flying → Flying
  with_more pages flying = if flying.number == number then with_pages flying pages else flying

  none_of : (flying : Flying) (same : Bool) → (if same then with_pages flying [] else flying) ≡ flying
  none_of flying true = λ i. record flying { written = append-nil flying.written i }
  none_of flying false = refl

  pages_none : (flights : List Flying) → with_pages_of number [] flights ≡ flights
  pages_none [] = refl
  pages_none (flying ∷ more) = λ i. none_of flying (flying.number == number) i ∷ pages_none more i

  again_of : (pages more : List (Name × List ℕ)) (flying : Flying) → with_more more (with_more pages flying) ≡ with_more (pages ++ more) flying
  again_of pages more flying = by (flying.number == number) refl
    where
      by : (same : Bool) → (flying.number == number) ≡ same → with_more more (with_more pages flying) ≡ with_more (pages ++ more) flying
      by true at =
          (λ i. with_more more (if at i then with_pages flying pages else flying)) ∙ (λ i. if at i then with_pages (with_pages flying pages) more else with_pages flying pages)
          ∙ (λ i. record flying { written = append_assoc flying.written pages more i }) ∙ sym (λ i. if at i then with_pages flying (pages ++ more) else flying)
      by false at = (λ i. with_more more (if at i then with_pages flying pages else flying)) ∙ (λ i. if at i then with_pages flying more else flying) ∙ sym (λ i. if at i then with_pages flying (pages ++ more) else flying)

  pages_again : (pages more : List (Name × List ℕ)) (flights : List Flying) → with_pages_of number more (with_pages_of number pages flights) ≡ with_pages_of number (pages ++ more) flights
  pages_again pages more [] = refl
  pages_again pages more (flying ∷ flights) = λ i. again_of pages more flying i ∷ pages_again pages more flights i

  abbrev kept : Bool → Flying → List Flying → List Flying
  kept same first rest = cond (not same) (first ∷ rest) rest

  -- which pages were written doesn't matter to the others
  pub without_pages : (pages : List (Name × List ℕ)) (flights : List Flying) → without number (with_pages_of number pages flights) ≡ without number flights
  without_pages pages [] = refl
  without_pages pages (flying ∷ more) = by (flying.number == number) refl (without_pages pages more)
    where
      by : (same : Bool) → (flying.number == number) ≡ same → without number (with_pages_of number pages more) ≡ without number more
          → without number (with_pages_of number pages (flying ∷ more)) ≡ without number (flying ∷ more)
      by true at rest =
          (λ i. without number ((if at i then with_pages flying pages else flying) ∷ with_pages_of number pages more))
          ∙ (λ i. kept (at i) (with_pages flying pages) (without number (with_pages_of number pages more))) ∙ rest ∙ sym (λ i. kept (at i) flying (without number more))
      by false at rest =
          (λ i. without number ((if at i then with_pages flying pages else flying) ∷ with_pages_of number pages more))
          ∙ (λ i. kept (at i) flying (without number (with_pages_of number pages more))) ∙ (λ i. flying ∷ rest i) ∙ sym (λ i. kept (at i) flying (without number more))

  pub none_more : (flights : List Flying) (flying : Flying) → flying_by number flights ≡ Some flying → IsWrittenOn number flights flights
  none_more flights flying is = record { flying = flying; flies = is; pages = []; is = sym (pages_none flights) }

  some_more : (old mid new : List Flying) → IsWrittenOn number old mid → (pages : List (Name × List ℕ)) → new ≡ with_pages_of number pages mid → IsWrittenOn number old new
  some_more old mid new so_far pages is = record {
    flying = so_far.flying;
    flies = so_far.flies;
    pages = so_far.pages ++ pages;
    is = is ∙ ap (with_pages_of number pages) so_far.is ∙ pages_again so_far.pages pages old;
  }

  no_more : (old mid new : List Flying) → IsWrittenOn number old mid → new ≡ mid → IsWrittenOn number old new
  no_more old mid new so_far same = subst (IsWrittenOn number old) (sym same) so_far

one_more : (PortsFail : Type 0) (going : Going) (h : History) (first : List Flying) (old : Moment) (wrote : Bool) (g : History) (new : Moment) → IsWriteOut PortsFail going h old (Ok wrote) g new
    → IsWrittenOn going.own first old.flights → IsWrittenOn going.own first new.flights
one_more PortsFail going h first old true g new is so_far =
    let wrote = is.answers in
    some_more going.own first old.flights new.flights so_far ((page_name old.state.next, wrote.bytes) ∷ []) wrote.flights
one_more PortsFail going h first old false g new is so_far = no_more going.own first old.flights new.flights so_far is.answers.flights

-- the history for which a store stands, what it is known to have stored, the retired pages and the pins are as they were, and the job of a number has more pages
abbrev pub Rests : Type 0 → ℕ → View → View → Type 0
Rests Tells number old new =
    Tells → (config : Fields) (opened : Opened) (h : History) (answered : List Certificate) → StandsFor config opened h old answered → (s : Stored) → IsKnown config h old s → StandsFor config opened h new answered × IsKnown config h new s × IsWrittenOn number old.flights new.flights
    × (new.retired ≡ old.retired) × (new.pins ≡ old.pins)

-- nothing was written yet
pub rests_first : {D Page Port : Type 0} {kind : Ghosts D Page Port} (Tells : Type 0) (old : View) (job : Job D Page Port kind) → IsAtWork Tells old job → Rests Tells job.number old old
rests_first Tells old job works = λ told config opened h answered stands s known. (stands, known, none_more job.number old.flights works.flies.flying works.flies.is, refl, refl)

same_stored : (PortsFail : Type 0) (going : Going) (h : History) (old : Moment) (wrote : Bool) (g : History) (new : Moment) → IsWriteOut PortsFail going h old (Ok wrote) g new → new.stored ≡ old.stored
same_stored PortsFail going h old true g new is = is.answers.stored
same_stored PortsFail going h old false g new is = is.answers.stored

-- The reason of a refusal

abbrev port_of : Option Going → ℕ
port_of None = 0
port_of (Some going) = going.port_faults

-- no fetch failed
unread : (PortsFail : Type 0) (first before now : ℕ) (why : Refused) → ((b n : ℕ) → why ≡ ReadFault b n → ⊥) → IsUnreadable (Unit {0}) PortsFail before now why → IsUnreadable (Unit {0}) PortsFail first now why
unread PortsFail first before now (ReadFault b n) never is = absurd (never b n refl)
unread PortsFail first before now (Damaged name) never is = is
unread PortsFail first before now (Fault place b a) never is = is
unread PortsFail first before now (Stopped at) never is = is
unread PortsFail first before now (Exhausted last) never is = is
unread PortsFail first before now NoMemory never is = is
unread PortsFail first before now (Backwards clock) never is = is
unread PortsFail first before now (Pinned pin limit) never is = is
unread PortsFail first before now NothingDue never is = is
unread PortsFail first before now (Cancelled begun other) never is = is

unread_since : (PortsFail : Type 0) (first before now : ℕ) (why : Refused) → (before ≡ first) ⊎ ((b n : ℕ) → why ≡ ReadFault b n → ⊥)
    → IsUnreadable (Unit {0}) PortsFail before now why → IsUnreadable (Unit {0}) PortsFail first now why
unread_since PortsFail first before now why (inl same) is = subst (λ (n : ℕ). IsUnreadable (Unit {0}) PortsFail n now why) same is
unread_since PortsFail first before now why (inr never) is = unread PortsFail first before now why never is

module _ (PortsFail : Type 0) (old mid new : View) (faults : old.faults ≤ mid.faults) (drawn : new.state.next ≡ mid.state.next) (first before now : ℕ) (why : Refused)
    (port : (before ≡ first) ⊎ ((b n : ℕ) → why ≡ ReadFault b n → ⊥)) (stopped : mid.state.stopped ≡ old.state.stopped) (count : mid.state.count ≡ old.state.count) where
  -- it is one for what came before
  since : ((b : ℕ) × (n : ℕ) × (mid.faults ≤ b) × (n ≤ new.faults) × HasReason (max_place ≤ mid.state.next) mid.state b n why) ⊎ IsUnreadable (Unit {0}) PortsFail before now why
      → ((b : ℕ) × (n : ℕ) × (old.faults ≤ b) × (n ≤ new.faults) × HasReason (max_place ≤ new.state.next) old.state b n why) ⊎ IsUnreadable (Unit {0}) PortsFail first now why
  since (inl is) =
      let later = is.2 in
      inl (
        is.0,
        is.1,
        omega arith,
        is.3,
        reason_on (max_place ≤ mid.state.next) (max_place ≤ new.state.next) old.state mid.state is.0 is.1 stopped count why is.4
            (λ last e runs short. subst (λ (n : ℕ). max_place ≤ n) (sym drawn) short),
      )
  since (inr is) = inr (unread_since PortsFail first before now why port is)

-- A turn

module _ {D Page Port : Type 0} {kind : Ghosts D Page Port} (Tells PortsFail : Type 0) (old mid new : View) (job after : Job D Page Port kind) (own : ℕ) where
  -- the next page is written, or none is left
  abbrev pub Turns : Result Bool Refused → Type 0
  Turns result = Tells → (config : Fields) (opened : Opened) (h : History) (answered : List Certificate) → StandsFor config opened h mid answered → (s : Stored) → IsKnown config h mid s → (number fetches faults begun : ℕ) (snapshots : List ℕ)
      → (t : Stored) × IsKnown config (behind h 0 (Serves Work) (result_err result)) new t × StandsFor config opened (behind h 0 (Serves Work) (result_err result)) new answered
      × IsWriteOut PortsFail (going_of number job) h (moment_of mid s fetches faults begun (Some (going_of number job)) snapshots) result
      (behind h 0 (Serves Work) (result_err result)) (moment_of new t fetches faults begun (Some (going_of number after)) snapshots)

  -- what the turns come to
  abbrev pub Comes : ℕ → Result (Unit {0}) Refused → Type 0
  Comes first result = Tells → (config : Fields) (opened : Opened) (h : History) (answered : List Certificate) → StandsFor config opened h old answered → (s : Stored) → IsKnown config h old s
      → (t : Stored) × IsKnown config (behind h 0 (Serves Work) (result_err result)) new t × StandsFor config opened (behind h 0 (Serves Work) (result_err result)) new answered × IsWritingOn PortsFail own old new first (kind.port_faults after.port) s t result

  -- one more was acknowledged
  pub rests_on : job.number ≡ own → (wrote : Bool) → Rests Tells own old mid → Turns (Ok wrote) → Rests Tells own old new
  rests_on same wrote rests turn = λ told config opened h answered stands s known.
      let so_far = rests told config opened h answered stands s known in
      let turned = turn told config opened h answered so_far.0 s so_far.1 0 0 0 0 [] in
      let before = moment_of mid s 0 0 0 (Some (going_of 0 job)) [] in
      let now = moment_of new turned.0 0 0 0 (Some (going_of 0 after)) [] in (
        turned.2,
        subst (IsKnown config h new) (same_stored PortsFail (going_of 0 job) h before wrote h now turned.3) turned.1,
        subst (λ (n : ℕ). IsWrittenOn n old.flights new.flights) same
            (one_more PortsFail (going_of 0 job) h old.flights before wrote h now turned.3 (subst (λ (n : ℕ). IsWrittenOn n old.flights mid.flights) (sym same) so_far.2)),
        turned.3.retired ∙ so_far.3,
        turned.3.pins.held ∙ so_far.4,
      )

  -- the last one was acknowledged
  pub all_written : (first : ℕ) → Rests Tells own old new → Comes first (Ok tt)
  all_written first rests = λ told config opened h answered stands s known.
      let in_the_end = rests told config opened h answered stands s known in
      (s, in_the_end.1, in_the_end.0, record { done = refl; why = tt; kept = tt; flights = in_the_end.2; retired = in_the_end.3; pins = in_the_end.4 })

  -- once its outputs are made a job reads no more
  no_more_read : (first : Job D Page Port kind) (why : Refused) → (job.port ≡ first.port) ⊎ IsSome job.made → (IsSome job.made → (b n : ℕ) → ◌≡◌ {A = Result Bool Refused} (Err why) (Err (ReadFault b n)) → ⊥)
      → (kind.port_faults job.port ≡ kind.port_faults first.port) ⊎ ((b n : ℕ) → why ≡ ReadFault b n → ⊥)
  no_more_read first why (inl same) never = inl (ap kind.port_faults same)
  no_more_read first why (inr made) never = inr (λ b n e. never made b n (λ i. Err (e i)))

  -- one was refused
  pub turn_refused : (first : Job D Page Port kind) (why : Refused) → Rests Tells own old mid → Turns (Err why) → old.faults ≤ mid.faults → new.state.next ≡ mid.state.next
      → (job.port ≡ first.port) ⊎ IsSome job.made → (IsSome job.made → (b n : ℕ) → ◌≡◌ {A = Result Bool Refused} (Err why) (Err (ReadFault b n)) → ⊥) → Comes (kind.port_faults first.port) (Err why)
  turn_refused first why rests turn faults drawn port never = λ told config opened h answered stands s known.
      let so_far = rests told config opened h answered stands s known in
      let turned = turn told config opened h answered so_far.0 s so_far.1 0 0 0 0 [] in
      let refused = turned.3.answers in
      let spoilt = refused.spoilt in
      let now : kind.port_faults after.port ≡ spoilt.port_faults = ap port_of spoilt.there in
      let Cause : ℕ → Type 0 = λ n. ((b : ℕ) × (c : ℕ) × (old.faults ≤ b) × (c ≤ new.faults) × HasReason (max_place ≤ new.state.next) old.state b c why) ⊎ IsUnreadable (Unit {0}) PortsFail (kind.port_faults first.port) n why in (
        turned.0,
        turned.1,
        turned.2,
        record {
          done = tt;
          why = subst Cause (sym now)
              (since PortsFail old mid new faults drawn (kind.port_faults first.port) (kind.port_faults job.port) spoilt.port_faults why (no_more_read first why port never)
              (stopped_same config h old mid stands.since.now so_far.0.since.now) (count_same config h old mid stands.since.now so_far.0.since.now) refused.reason);
          kept = λ none. (refused.untouched none).stored;
          flights = no_more own old.flights mid.flights new.flights so_far.2 refused.flights;
          retired = turned.3.retired ∙ so_far.3;
          pins = turned.3.pins.held ∙ so_far.4;
        },
      )
