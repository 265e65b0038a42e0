-- What asking a job for its next page and writing it comes to.
use Rattle.std.proofs.Common.{◌≡◌, ◌≤◌, ◌<◌, ◌⊎◌, inl, inr, ℕ, Bool, true, false, [], length, Option, Some, Result, Ok, Err, refl, sym, ap, ◌∙◌, subst, arith}
use Rattle.std.specs.FinMap.{insert}
use Rattle.std.specs.Prelude.{IfSome, IsSome, List, None, ◌+◌, slice_index_or}
use Rattle.std.specs.Option.{option_map_or}
use Rattle.std.specs.Result.{result_err}
use Rattle.lethe_base.specs.History.{History}
use Rattle.lethe_base.specs.Limits.{max_place}
use Rattle.lethe_base.specs.declared.call.Call.TheVariants.{Work}
use Rattle.lethe_base.specs.declared.config.Fields.{Fields}
use Rattle.lethe_base.specs.declared.refused.Refused.{Refused}
use Rattle.lethe_cert.specs.declared.certificate.Certificate.{Certificate}
use Rattle.lethe_disk.specs.declared.disk.Disk.{Ghosts}
use Rattle.lethe_file.specs.Agreement.{page_name}
use Rattle.lethe_stored.specs.Stored.{Stored}
use Rattle.lethe_job.specs.Jobs.{IsJob, IsUnread, next_bytes}
use Rattle.lethe_job.specs.MadeOf.{pages_of}
use Rattle.lethe_job.specs.Tasks.{AreSound}
use Rattle.lethe_job.specs.Works.{inputs_in, plain_task}
use Rattle.lethe_job.specs.declared.job.Job.{Job}
use Rattle.lethe_job.specs.declared.made.Made.{Made}
use Rattle.lethe_core.specs.Asked.{Serves, behind, failure_of, refused_to}
use Rattle.lethe_core.specs.Flights.{Flying, with_page_of}
use Rattle.lethe_core.specs.Jobs.{IsAtWork}
use Rattle.lethe_core.specs.Reasons.{HasReason, IsUnreadable}
use Rattle.lethe_core.specs.Steps.{IsUndone}
use Rattle.lethe_core.specs.View.{Face, View, face_of}
use Rattle.lethe_base.specs.declared.name.Name.{Name}
use Rattle.lethe_core.proofs.Hindered.{as_itself}
use Rattle.lethe_engine.specs.Answers.{IsStill}
use Rattle.lethe_engine.specs.Jobs.{written_face}
use Rattle.lethe_drive.specs.Answers.{IsJobRefusal, IsWriteOut}
use Rattle.lethe_engine.specs.StandsFor.{Opened, StandsFor}
use Rattle.lethe_drive.specs.Moments.{IsKnown, Moment, going_of, moment_of}
use Rattle.lethe_drive.proofs.Freezing.{work_refused, work_untouched}
use Rattle.lethe_drive.proofs.Reasons.{unread_cause, unread_history}
use Rattle.lethe_drive.proofs.Writing.{goes_on, outputs_for, some_of, spoilt}

module _ {D Page Port : Type 0} {kind : Ghosts D Page Port} (Tells PortsFail : Type 0) (h : History) (old : View) (s : Stored) (number fetches faults begun : ℕ) (snapshots : List ℕ) (job mid : Job D Page Port kind)
    (task : mid.task.value ≡ job.task.value) (own : mid.number ≡ job.number) (round : mid.round ≡ job.round) where
  abbrev before : Moment
  before = moment_of old s fetches faults begun (Some (going_of number job)) snapshots

  abbrev later : View → Stored → Job D Page Port kind → Moment
  later new t after = moment_of new t fetches faults begun (Some (going_of number after)) snapshots

  -- what a store that stood for a history and held this comes to
  abbrev pub Paged : Fields → Opened → List Certificate → View → Job D Page Port kind → Result Bool Refused → Type 0
  Paged config opened answered new after result = (t : Stored) × IsKnown config (behind h 0 (Serves Work) (result_err result)) new t × StandsFor config opened (behind h 0 (Serves Work) (result_err result)) new answered
      × IsWriteOut PortsFail (going_of number job) h before result (behind h 0 (Serves Work) (result_err result)) (later new t after)

  -- the engine refused the page
  module _ (told : Tells) (config : Fields) (opened : Opened) (known : IsKnown config h old s) (new : View) (why : Refused) (undone : IsUndone Tells old new why) (face : face_of new ≡ face_of old)
      (retired : new.retired ≡ old.retired) (pins : new.pins ≡ old.pins) where
    page_refused : (t : Stored) → (failure_of why ≡ None → t ≡ s) → HasReason (max_place ≤ old.state.next) old.state old.faults new.faults why → mid.refused ≡ true
        → IsWriteOut PortsFail (going_of number job) h before (Err why) (refused_to h 0 Work why) (later new t mid)
    page_refused t same is refused = record {
      history = refl;
      answers = record {
        spoilt = record { written = mid.written; port_faults = kind.port_faults mid.port; there = spoilt Tells PortsFail job mid task number own round refused };
        reason = inl (old.faults, new.faults, omega arith, omega arith, is);
        flights = ap (λ (face : Face). face.flights) face;
        untouched = work_untouched Tells told config opened h old new s known why undone pins t same fetches fetches faults faults begun begun (Some (going_of number job)) (Some (going_of number mid)) snapshots;
      };
      retired = retired;
      pins = record { held = pins; snapshots = refl };
      begun = refl;
      port = record { fetches = refl; port_faults = refl };
    }

    pub refused_paged : (IsSome old.state.stopped → IsStill Tells old new) → (result : Result Bool Refused) → result ≡ Err why → (answered : List Certificate) → StandsFor config opened (refused_to h 0 Work why) new answered
        → HasReason (max_place ≤ old.state.next) old.state old.faults new.faults why → mid.refused ≡ true → Paged config opened answered new mid result
    refused_paged still result refusal answered stands is refused =
        let known_then = work_refused Tells told config opened h old new s known why undone stands.since still face pins in
        subst (Paged config opened answered new mid) (sym refusal) (known_then.0, known_then.1, stands, page_refused known_then.0 known_then.2 is refused)

  unread_reason : (why : Refused) → HasReason (max_place ≤ old.state.next) old.state old.faults old.faults why ⊎ IsUnreadable (Unit {0}) PortsFail (kind.port_faults job.port) (kind.port_faults mid.port) why
      → IsJobRefusal PortsFail (max_place ≤ old.state.next) before (going_of number job) (kind.port_faults mid.port) (later old s mid) why
  unread_reason why (inl is) = inl (old.faults, old.faults, omega arith, omega arith, is)
  unread_reason why (inr is) = inr is

  -- the inputs could not be read
  pub page_unread : Tells → AreSound (inputs_in (plain_task job.task.value)) → (why : Refused)
      → IsUnread Tells PortsFail (inputs_in (plain_task job.task.value)) (kind.port_faults job.port) (kind.port_faults mid.port) why → mid.refused ≡ true
      → IsWriteOut PortsFail (going_of number job) h before (Err why) (refused_to h 0 Work why) (later old s mid)
  page_unread told sound why is refused = record {
    history = refl;
    answers = record {
      spoilt = record { written = mid.written; port_faults = kind.port_faults mid.port; there = spoilt Tells PortsFail job mid task number own round refused };
      reason = unread_reason why (unread_cause Tells PortsFail (max_place ≤ old.state.next) (inputs_in (plain_task job.task.value)) (kind.port_faults job.port) (kind.port_faults mid.port)
          old.state old.faults old.faults told sound why is);
      flights = refl;
      untouched = λ none. record { stored = refl; state = (as_itself Tells old).state; levels = refl; retired = refl; pins = refl; directory = refl };
    };
    retired = refl;
    pins = record { held = refl; snapshots = refl };
    begun = refl;
    port = record { fetches = refl; port_faults = refl };
  }

  pub unread_paged : (config : Fields) (opened : Opened) → Tells → AreSound (inputs_in (plain_task job.task.value)) → (answered : List Certificate) → StandsFor config opened h old answered → IsKnown config h old s → (result : Result Bool Refused) (why : Refused) → result ≡ Err why
      → IsUnread Tells PortsFail (inputs_in (plain_task job.task.value)) (kind.port_faults job.port) (kind.port_faults mid.port) why → mid.refused ≡ true → Paged config opened answered old mid result
  unread_paged config opened told sound answered stands known result why refusal is refused =
      let same = sym (unread_history Tells PortsFail (inputs_in (plain_task job.task.value)) (kind.port_faults job.port) (kind.port_faults mid.port) h Work why is) in
      subst (Paged config opened answered old mid) (sym refusal) (
        s,
        subst (λ (g : History). IsKnown config g old s) same known,
        subst (λ (g : History). StandsFor config opened g old answered) same stands,
        page_unread told sound why is refused,
      )

  module _ (told : Tells) (sound : AreSound (inputs_in (plain_task job.task.value))) (works : IsAtWork Tells old job) (written : mid.written ≡ job.written) (some : IsSome mid.made) (is : IsJob Tells mid) where
    abbrev flying : Flying
    flying = works.flies.flying

    abbrev made : Made
    made = (some_of mid.made some).0

    made_is : mid.made ≡ Some made
    made_is = (some_of mid.made some).1

    -- the next page was written
    pub page_written : (new : View) (after : Job D Page Port kind) → after.task.value ≡ mid.task.value → after.number ≡ mid.number → after.round ≡ mid.round → after.refused ≡ false → after.written ≡ mid.written + 1 → IfSome mid.made (λ made. job.written < length (pages_of made))
        → face_of new ≡ written_face mid.number (face_of old) (page_name old.state.next, next_bytes mid) (Ok tt) → new.retired ≡ old.retired → new.pins ≡ old.pins → new.disk.directory ≡ insert old.disk.directory (page_name old.state.next) (next_bytes mid)
        → IsWriteOut PortsFail (going_of number job) h before (Ok true) h (later new s after)
    page_written new after kept named stays asked more left face retired pins directory =
        let P : Option Made → Type 0 = λ o. IfSome o (λ made. job.written < length (pages_of made)) in
        let few : job.written < length (pages_of made) = subst P made_is left in
        let count = works.count in
        let bytes : next_bytes mid ≡ slice_index_or (pages_of made) mid.written [] =
        ap (λ (o : Option Made). option_map_or (λ (made : Made). slice_index_or (pages_of made) mid.written []) o []) made_is in
        let page : List ℕ → Name × List ℕ = λ bytes. (page_name old.state.next, bytes) in
        let put : new.flights ≡ with_page_of job.number (page (slice_index_or (pages_of made) mid.written [])) old.flights =
        ap (λ (face : Face). face.flights) face ∙ ap (λ (n : ℕ). with_page_of n (page (next_bytes mid)) old.flights) own ∙ ap (λ (b : List ℕ). with_page_of job.number (page b) old.flights) bytes in
        let place : mid.written ≡ length flying.written = written ∙ sym count in
        record {
          history = refl;
          answers = record {
            flying = flying;
            flies = works.flies.is;
            made = made;
            outputs = outputs_for Tells PortsFail job mid task told sound is made made_is;
            left = let low : length flying.written < length (pages_of made) = omega arith in low;
            bytes = slice_index_or (pages_of made) (length flying.written) [];
            next = refl;
            flights = put ∙ (λ i. with_page_of job.number (page (slice_index_or (pages_of made) (place i) [])) old.flights);
            directory = directory ∙ ap (insert old.disk.directory (page_name old.state.next)) (bytes ∙ (λ i. slice_index_or (pages_of made) (place i) []));
            stored = refl;
            goes_on = record {
              port_faults = kind.port_faults after.port;
              there = goes_on Tells PortsFail job after (kept ∙ task) number (job.written + 1) (named ∙ own) (stays ∙ round) works.asked asked (more ∙ ap (λ n. n + 1) written);
            };
          };
          retired = retired;
          pins = record { held = pins; snapshots = refl };
          begun = refl;
          port = record { fetches = refl; port_faults = refl };
        }

    -- none was left
    pub no_page : mid.refused ≡ false → IfSome mid.made (λ made. job.written < length (pages_of made) → ⊥) → IsWriteOut PortsFail (going_of number job) h before (Ok false) h (later old s mid)
    no_page asked left =
        let P : Option Made → Type 0 = λ o. IfSome o (λ made. job.written < length (pages_of made) → ⊥) in
        let over : job.written < length (pages_of made) → ⊥ = subst P made_is left in
        let Q : Option Made → Type 0 = λ o. IfSome o (λ made. mid.written ≤ length (pages_of made)) in
        let few : mid.written ≤ length (pages_of made) = subst Q made_is is.few in
        let count = works.count in
        record {
          history = refl;
          answers = record {
            flying = flying;
            flies = works.flies.is;
            made = made;
            outputs = outputs_for Tells PortsFail job mid task told sound is made made_is;
            all = count ∙ whole job.written mid.written (length (pages_of made)) written few over;
            flights = refl;
            stored = refl;
            state = refl;
            calls = refl;
            goes_on = record { port_faults = kind.port_faults mid.port; there = goes_on Tells PortsFail job mid task number job.written own round works.asked asked written };
          };
          retired = refl;
          pins = record { held = refl; snapshots = refl };
          begun = refl;
          port = record { fetches = refl; port_faults = refl };
        }
      where
        whole : (first written all : ℕ) → written ≡ first → written ≤ all → (first < all → ⊥) → first ≡ all
        whole first written all same few over = omega arith
