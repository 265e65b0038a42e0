-- What a certificate says stays so, and a tick's new one is true.
use Rattle.std.proofs.Common.{◌≡◌, ◌≤◌, inl, inr, ℕ, zero, suc, ◌+◌, ◌-◌, ◌<◌, Bool, false, true, if◌then◌else◌, List, [], ◌∷◌, ◌++◌, length, take, get_or, Option, Some, None, Result, Err, refl, sym, ap, ◌∙◌, subst, append-nil, arith}
use Rattle.std.specs.Prelude.{All, IfSome, IsSomeAnd, nat_le, option_map, option_to_list, unwrap_or}
use Rattle.std.specs.Result.{result_err}
use Rattle.std.proofs.Math.Seq.{take-append_seam}
use Rattle.std.proofs.lemmas.List.{length-append, take_all, take_more}
use Rattle.std.proofs.lemmas.List.Elements.{All-append, All-cons, All-nil, All-weaker}
use Rattle.std.proofs.lemmas.Option.{slice_get-get_or}
use Rattle.sha2.specs.Sha256.{sha256}
use Rattle.lethe_base.specs.History.{Change, History, IsLegal, State, after, change_at, changed, outcome}
use Rattle.lethe_base.specs.declared.call.Call.{Call}
use Rattle.lethe_base.specs.declared.call.Call.TheVariants.{Put, Delete, Erase, Tick, Work}
use Rattle.lethe_base.specs.declared.call.Did.{Did}
use Rattle.lethe_base.specs.declared.call.Did.TheVariants.{Done, Failed}
use Rattle.lethe_base.specs.declared.config.Fields.{Fields}
use Rattle.lethe_base.specs.declared.refused.Refused.{Refused}
use Rattle.lethe_base.proofs.Histories.{after-push}
use Rattle.lethe_cert.specs.declared.certificate.Certificate.{Certificate}
use Rattle.lethe_cover.specs.Steps.{with_done}
use Rattle.lethe_disk.specs.Directory.{Directory}
use Rattle.lethe_disk.specs.Disk.{IsSynced, Seen}
use Rattle.lethe_manifest.specs.Manifests.{manifest_bytes}
use Rattle.lethe_manifest.specs.declared.manifest.LastCert.{LastCert}
use Rattle.lethe_manifest.specs.declared.manifest.Manifest.{Manifest}
use Rattle.lethe_stored.specs.Clean.{IsClean}
use Rattle.lethe_stored.specs.Kept.{IsKept, certificates}
use Rattle.lethe_stored.specs.Left.{IsLeft}
use Rattle.lethe_stored.specs.Numbers.{IsNextNumber}
use Rattle.lethe_stored.specs.Stored.{Stored, certificate_number}
use Rattle.lethe_state.specs.Writable.{IsWritable}
use Rattle.lethe_core.specs.Asked.{Asked, behind}
use Rattle.lethe_core.specs.StandsNow.{StandsNow}
use Rattle.lethe_core.specs.View.{Face, View}
use Rattle.lethe_core.proofs.Standing.{stands_done, stands_for, stands_holds, stands_moments}
use Rattle.lethe_row.specs.Along.{row_behind}
use Rattle.lethe_row.specs.declared.asking.Asked as row
use Rattle.lethe_tick.specs.Certified.{IsCertificateAt, certificate_of, certificate_with}
use Rattle.lethe_engine.specs.Answers.{Answers}
use Rattle.lethe_engine.specs.Certificates.{HasCommitted, HoldsNoneErasedBy, IsTrueCertificate}
use Rattle.lethe_engine.specs.Opening.{IsResumed}
use Rattle.lethe_engine.specs.Rows.{AnswersRow}
use Rattle.lethe_engine.specs.StandsFor.{HasCounts, IsCertified, IsCertifiedBy, IsKeptFor, Opened, StandsFor, StandsSince, opened_at}
use Rattle.lethe_engine.specs.Ticks.{answered_by}
use Rattle.lethe_engine.specs.declared.ticking.Ticked.{Ticked}
use Rattle.lethe_engine.proofs.Clean.{now_clean}
use Rattle.lethe_engine.proofs.Prefixes.{prefix_itself}

-- The clock never goes back

-- a call that isn't a tick to an earlier time doesn't turn the clock back
no_back : (s : State) (did : Did) (call : Call) → ((to : ℕ) → call ≡ Tick to → did ≡ Done → s.clock ≤ to) → s.clock ≤ (outcome did call s).clock
no_back s Done (Put key dkey value) forward = omega arith
no_back s Done (Delete key) forward = omega arith
no_back s Done (Erase range) forward = omega arith
no_back s Done (Tick to) forward = forward to refl refl
no_back s Done Work forward = omega arith
no_back s (Failed before now) call forward = omega arith

module _ (h : History) (legal : IsLegal h) where
  one_forward : (place : ℕ) (d : Change) → place < length h → (after (take place h)).clock ≤ (after (take (place + 1) h)).clock
  one_forward place d within =
      let change = get_or h place d in
      let there : change_at h (suc place) ≡ Some change = slice_get-get_or h place d within in
      let same : suc place - 1 ≡ place = omega arith in
      let more : after (take (place + 1) h) ≡ changed (after (take place h)) change = ap after (take_more h place d within) ∙ after-push (take place h) change in
      subst (λ (s : State). (after (take place h)).clock ≤ s.clock) (sym more) (no_back (after (take place h)) change.did change.call (λ to is did. subst (λ n. (after (take n h)).clock ≤ to) same (legal.forward (suc place) to change there is did)))

  all_forward : (k n : ℕ) (d : Change) → k + n ≤ length h → (after (take k h)).clock ≤ (after (take (k + n) h)).clock
  all_forward k zero d within = let same : k ≡ k + 0 = omega arith in let clocks = ap (λ m. (after (take m h)).clock) same in omega (arith, clocks)
  all_forward k (suc n) d within =
      let before = all_forward k n d (omega (arith, within)) in
      let step = one_forward (k + n) d (omega (arith, within)) in
      let same : k + n + 1 ≡ k + suc n = omega arith in
      let clocks = ap (λ m. (after (take m h)).clock) same in
      omega (arith, before, step, clocks)

-- the clock of a history isn't below that of one that it goes on from
prefix_forward : (front rest : History) → IsLegal (front ++ rest) → (after front).clock ≤ (after (front ++ rest)).clock
prefix_forward front [] legal = let same = ap (λ (l : History). (after l).clock) (append-nil front) in omega (arith, same)
prefix_forward front (first ∷ rest) legal =
    let h = front ++ first ∷ rest in
    let len = length-append front (first ∷ rest) in
    let risen = all_forward h legal (length front) (length (first ∷ rest)) first (omega (arith, len)) in
    let start = ap (λ (l : History). (after l).clock) (take-append_seam front (first ∷ rest)) in
    let end = ap (λ (l : History). (after l).clock) (take_all (length front + length (first ∷ rest)) h (omega (arith, len))) in
    omega (arith, risen, start, end)

-- What is gone

-- a value that was erased early enough is overdue
pub clean_gone : (threshold : ℕ) (d : Directory) (h : History) (time before : ℕ) → IsClean threshold d h time → before + threshold ≤ time → HoldsNoneErasedBy d h before
clean_gone threshold d h time before clean late = λ entry held put since is early.
    clean.timely entry held put (subst (λ (o : Option ℕ). IsSomeAnd o (λ since. since + threshold ≤ time)) (sym is) (omega (arith, early, late)))

-- the clock once it was ticked
ticked_clock : (h : History) (caller to : ℕ) → (after (with_done h caller (Tick to))).clock ≡ to
ticked_clock h caller to = ap (λ (s : State). s.clock) (after-push h (record { caller = caller; call = Tick to; did = Done }))

-- where a store takes changes, nothing is held that was erased at a certificate's time or earlier
pub certified_gone : (config : Fields) (opened : Opened) (h : History) (view : View) → StandsNow config h view → view.state.stopped ≡ None → (certificate : Certificate) → IsCertified config opened h view certificate
    → HoldsNoneErasedBy view.disk.directory h certificate.before
certified_gone config opened h view now runs certificate (before_tick, caller, is) =
    let front = with_done before_tick caller (Tick certificate.clock) in
    let begins = is.stands.begins in
    let risen = prefix_forward front begins.0 (subst IsLegal begins.1 now.legal) in
    let end = ap (λ (l : History). (after l).clock) begins.1 in
    let start = ticked_clock before_tick caller certificate.clock in
    clean_gone config.threshold view.disk.directory h (after h).clock certificate.before (now_clean config h view is.stands.pages now runs) (let before = is.before in omega (arith, before, risen, end, start))

-- What stays

module _ (config : Fields) (opened : Opened) (h g : History) (old new : View) (on : (start : Opened) → StandsSince config start h old → StandsSince config start g new)
    (past : (moment : ℕ) (d : Directory) → moment ≤ old.disk.moment → new.disk.left moment d → old.disk.left moment d) where
  pub still_certified : (before_tick : History) (caller : ℕ) (certificate : Certificate) → IsCertifiedBy config opened h old before_tick caller certificate → IsCertifiedBy config opened g new before_tick caller certificate
  still_certified before_tick caller certificate is = record {
    moment = is.moment;
    from = is.from;
    since = is.since;
    stands = on (opened_at opened (with_done before_tick caller (Tick certificate.clock)) is.moment) is.stands;
    number = is.number;
    before = is.before;
    each = λ d left. is.each d (past is.moment d is.stands.later left);
  }

  some_certified : (certificate : Certificate) → IsCertified config opened h old certificate → IsCertified config opened g new certificate
  some_certified certificate (before_tick, caller, is) = (before_tick, caller, still_certified before_tick caller certificate is)

  pub still_all_certified : (answered : List Certificate) → StandsFor config opened h old answered → StandsFor config opened g new answered
  still_all_certified answered stands = record {
    since = on opened stands.since;
    certified = All-weaker (IsCertified config opened h old) (IsCertified config opened g new) some_certified answered stands.certified;
  }

-- a call leaves the certificates as they stand
pub call_certified : (Tells : Type 0) (asked : Asked) (why : Option Refused) (face : Face) (old new : View) → Answers Tells asked why face old new → Tells → (config : Fields) (opened : Opened) (h : History) (caller : ℕ)
    (answered : List Certificate) → StandsFor config opened h old answered → StandsFor config opened (behind h caller asked why) new answered
call_certified Tells asked why face old new answers told config opened h caller answered stands =
    still_all_certified config opened h (behind h caller asked why) old new (λ start since. answers.stands told config start h since caller)
    (λ moment d early left. ((answers.goes told config opened h stands.since caller).past moment d early).0 left) answered stands

-- so does a row of changes
pub row_certified : (Tells : Type 0) (asked left : List row.Asked) (done : ℕ) (refused : Option Refused) (old new : View) (answers : AnswersRow Tells asked left done refused old new) → Tells → (config : Fields) (opened : Opened)
    (h : History) (caller : ℕ) (answered : List Certificate) → StandsFor config opened h old answered → StandsFor config opened (row_behind h caller answers.row.made answers.row.failed) new answered
row_certified Tells asked left done refused old new answers told config opened h caller answered stands =
    still_all_certified config opened h (row_behind h caller answers.row.made answers.row.failed) old new (λ start since. answers.stands told config start h since caller)
    (λ moment d early left. ((answers.goes told config opened h stands.since caller).past moment d early).0 left) answered stands

-- A tick's certificate

-- what the manifest has prepared
taken : (manifest : Manifest) (to : ℕ) (certificate : Certificate) → certificate_of manifest to ≡ Some certificate
    → (last : LastCert) × (manifest.certificate ≡ Some last) × (certificate ≡ certificate_with (sha256 (manifest_bytes manifest)) last)
taken manifest to certificate is = by (nat_le manifest.config.threshold to) manifest.certificate refl is
  where
    digest : List ℕ
    digest = sha256 (manifest_bytes manifest)

    by : (due : Bool) (held : Option LastCert) → manifest.certificate ≡ held → (if due then option_map (certificate_with digest) held else None) ≡ Some certificate
        → (last : LastCert) × (manifest.certificate ≡ Some last) × (certificate ≡ certificate_with digest last)
    by true (Some last) held is = (last, held, sym (ap (λ (o : Option Certificate). unwrap_or o certificate) is))
    by true None held is = let clash : None ≡ Some certificate = is in cc
    by false last held is = let clash : None ≡ Some certificate = is in cc

module _ (config : Fields) (opened : Opened) (h : History) (caller to : ℕ) (new : View) (stands : StandsSince config opened (with_done h caller (Tick to)) new) (runs : new.state.stopped ≡ None)
    (writable : IsWritable new.state) (synced : IsSynced new.disk) (clock : new.state.manifest.clock ≡ to) (count : new.state.manifest.count ≡ new.state.count) (certificate : Certificate)
    (is : certificate_of new.state.manifest to ≡ Some certificate) (at : IsCertificateAt new.state.manifest.config.threshold to (Some certificate)) where
  abbrev g : History
  g = with_done h caller (Tick to)

  abbrev now : StandsNow config g new
  now = stands.now

  abbrev s : Stored
  s = stands.now.stored

  manifest_is : new.state.manifest ≡ s.manifest
  manifest_is = now.remembers.manifest

  of_manifest : (last : LastCert) × (new.state.manifest.certificate ≡ Some last) × (certificate ≡ certificate_with (sha256 (manifest_bytes new.state.manifest)) last)
  of_manifest = taken new.state.manifest to certificate is

  counted : new.state.count ≡ length h + 1
  counted = now.count ∙ length-append h _

  committed : (n : ℕ) → new.state.count ≡ n → HasCommitted new.disk.directory certificate n
  committed n is_n =
      let encodes = (stands_holds config g new now runs).running.settled.encodes in
      record {
        manifest = s.manifest;
        greatest = encodes.greatest;
        there = encodes.manifest;
        digest = ap (λ (m : Manifest). sha256 (manifest_bytes m)) (sym manifest_is) ∙ sym (ap (λ (c : Certificate). c.digest) of_manifest.2);
        clock = ap (λ (m : Manifest). m.clock) (sym manifest_is) ∙ clock ∙ sym at.0;
        count_is = ap (λ (m : Manifest). m.count) (sym manifest_is) ∙ count ∙ is_n;
      }

  threshold_is : new.state.manifest.config.threshold ≡ config.threshold
  threshold_is = ap (λ (m : Manifest). m.config.threshold) manifest_is ∙ ap (λ (fields : Fields). fields.threshold) now.config_is

  before_is : certificate.before + config.threshold ≡ certificate.clock
  before_is = ap (λ n. certificate.before + n) (sym threshold_is) ∙ at.1 ∙ sym at.0

  number_is : certificate.number ≡ certificates config.threshold g
  number_is = ap (λ (c : Certificate). c.number) of_manifest.2 ∙ ap certificate_number (sym of_manifest.1 ∙ ap (λ (m : Manifest). m.certificate) manifest_is) ∙ (stands_for config g new now runs).certificate
      ∙ ap (λ (fields : Fields). certificates fields.threshold g) now.config_is

  clean : IsClean config.threshold new.disk.directory g certificate.clock
  clean = subst (IsClean config.threshold new.disk.directory g) (ticked_clock h caller to ∙ sym at.0) (now_clean config g new stands.pages now runs)

  pub true_certificate : IsTrueCertificate config.threshold certificate new.disk.directory g
  true_certificate = record {
    before = before_is;
    committed = committed (length g) now.count;
    gone = clean_gone config.threshold new.disk.directory g certificate.clock certificate.before clean (omega (arith, before_is));
    number = number_is;
  }

  -- it stands since now
  stands_here : StandsSince config (opened_at opened g new.disk.moment) g new
  stands_here = record {
    now = now;
    pages = stands.pages;
    begins = ([], sym (append-nil g));
    later = omega arith;
    images = λ m d low high left. (g, prefix_itself g g (stands_done config g new now runs) ([], sym (append-nil g)), (stands_moments config g new now runs writable).goes.each m d low high left);
    numbers = stands.numbers;
    pace = λ m d low high left. let later = stands.later in stands.pace m d (omega (arith, later, low)) high left;
    since = stands.since;
    counts = All-nil (λ (change : Change). HasCounts opened.faults new.faults change.did);
  }

  pub now_certified : (added : History) × (h ≡ opened.history ++ added) → IsCertifiedBy config opened g new h caller certificate
  now_certified from = record {
    moment = new.disk.moment;
    from = from;
    since = stands.later;
    stands = subst (λ n. StandsSince config (opened_at opened (with_done h caller (Tick n)) new.disk.moment) g new) (sym at.0) stands_here;
    number = subst (λ n. certificate.number ≡ certificates config.threshold (with_done h caller (Tick n))) (sym at.0) number_is;
    before = before_is;
    each = λ d left. subst (λ d. HasCommitted d certificate (length h + 1) × IsClean config.threshold d (with_done h caller (Tick certificate.clock)) certificate.clock) (sym (synced d left))
        (committed (length h + 1) counted, subst (λ n. IsClean config.threshold new.disk.directory (with_done h caller (Tick n)) certificate.clock) (sym at.0) clean);
  }

-- the same of what a tick answers
module _ (config : Fields) (opened : Opened) (h : History) (caller to : ℕ) (new : View) (stands : StandsSince config opened (with_done h caller (Tick to)) new) (runs : new.state.stopped ≡ None)
    (writable : IsWritable new.state) (synced : IsSynced new.disk) (clock : new.state.manifest.clock ≡ to) (count : new.state.manifest.count ≡ new.state.count) where
  pub answer_true : (answer : Option Certificate) → answer ≡ certificate_of new.state.manifest to → IsCertificateAt new.state.manifest.config.threshold to answer
      → IfSome answer (λ certificate. IsTrueCertificate config.threshold certificate new.disk.directory (with_done h caller (Tick to)))
  answer_true None is at = tt
  answer_true (Some certificate) is at = true_certificate config opened h caller to new stands runs writable synced clock count certificate (sym is) at

  answer_certified : (added : History) × (h ≡ opened.history ++ added) → (answer : Option Certificate) → answer ≡ certificate_of new.state.manifest to → IsCertificateAt new.state.manifest.config.threshold to answer
      → All (IsCertified config opened (with_done h caller (Tick to)) new) (option_to_list answer)
  answer_certified from None is at = All-nil (IsCertified config opened (with_done h caller (Tick to)) new)
  answer_certified from (Some certificate) is at = All-cons (IsCertified config opened (with_done h caller (Tick to)) new) certificate []
      (h, caller, now_certified config opened h caller to new stands runs writable synced clock count certificate (sym is) at from) (All-nil (IsCertified config opened (with_done h caller (Tick to)) new))

  pub with_answer : (added : History) × (h ≡ opened.history ++ added) → (answer : Option Certificate) → answer ≡ certificate_of new.state.manifest to → IsCertificateAt new.state.manifest.config.threshold to answer
      → (answered : List Certificate) → StandsFor config opened (with_done h caller (Tick to)) new answered → StandsFor config opened (with_done h caller (Tick to)) new (answered ++ option_to_list answer)
  with_answer from answer is at answered stood = record {
    since = stood.since;
    certified = All-append (IsCertified config opened (with_done h caller (Tick to)) new) answered (option_to_list answer) stood.certified (answer_certified from answer is at);
  }

-- a tick that was refused answered none
pub refused_certified : (config : Fields) (opened : Opened) (h : History) (caller : ℕ) (asked : Asked) (new : View) (result : Result Ticked Refused) (why : Refused) → result ≡ Err why → (answered : List Certificate)
    → StandsFor config opened (behind h caller asked (result_err result)) new answered → StandsFor config opened (behind h caller asked (result_err result)) new (answered ++ answered_by result)
refused_certified config opened h caller asked new result why refusal answered =
    subst (StandsFor config opened (behind h caller asked (result_err result)) new) (sym (append-nil answered) ∙ ap (λ r. answered ++ answered_by r) (sym refusal))

-- Behind a crash

-- which number comes next where a directory is kept
next_kept : (config : Fields) (d : Directory) (h : History) → IsKept config d h → (next : ℕ) × IsNextNumber d next
next_kept config d h (inl none) = (3, inl (none.0, refl))
next_kept config d h (inr is) = (is.s.manifest.next, inr (is.s, is.coherent, is.encodes, refl))

module _ (config : Fields) (opened : Opened) (h : History) (view : View) (before_tick : History) (caller : ℕ) (certificate : Certificate)
    (is : IsCertifiedBy config opened h view before_tick caller certificate) (moment : ℕ) (left : Directory) (low : is.moment ≤ moment)
    (high : moment ≤ view.disk.moment) (there : view.disk.left moment left) (start : Seen) (same : start.directory ≡ left) (synced : IsSynced start) where
  abbrev front : History
  front = with_done before_tick caller (Tick certificate.clock)

  abbrev was : IsKeptFor config front h left
  was = is.stands.images moment left low high there

  abbrev pub left_history : History
  left_history = was.0

  pub left_behind : IsLeft config start left_history None
  left_behind = record {
    now = (left_history, refl, subst (λ d. IsKept config d left_history) (sym same) was.2);
    images = λ d image. (left_history, refl, subst (λ d. IsKept config d left_history) (sym (synced d image ∙ same)) was.2);
  }

  -- a store that is opened from what the crash left
  pub reopened_gone : (reopened : View) → reopened.state.stopped ≡ None → IsResumed config left_history None start reopened → HoldsNoneErasedBy reopened.disk.directory left_history certificate.before
  reopened_gone reopened runs resumed =
      let next = next_kept config start.directory resumed.history resumed.was in
      let since = resumed.stands next.0 next.1 in
      let now = since.now in
      let begins = (was.1).begins in
      let on = resumed.either ∙ begins.1 in
      let risen = prefix_forward front begins.0 (subst IsLegal on now.legal) in
      let end = ap (λ (l : History). (after l).clock) on in
      let begun = ticked_clock before_tick caller certificate.clock in
      subst (λ g. HoldsNoneErasedBy reopened.disk.directory g certificate.before) resumed.either
      (clean_gone config.threshold reopened.disk.directory resumed.history (after resumed.history).clock certificate.before (now_clean config resumed.history reopened since.pages now runs)
      (let before = is.before in omega (arith, before, risen, end, begun)))
