use Rattle.std.proofs.Common.{◌≡◌, inl, inr, ℕ, List, ◌++◌, Result, Ok, Err, Vec, Global, refl, sym, ap, ◌∙◌, subst, append-nil}
use Rattle.std.specs.Result.{result_err}
use Rattle.lethe_base.specs.History.{History}
use Rattle.lethe_base.specs.Keys.{Bytes}
use Rattle.lethe_base.specs.Read.{Answer, Read}
use Rattle.lethe_base.specs.Read as reads
use Rattle.lethe_base.specs.declared.call.Call.TheVariants as call
use Rattle.lethe_base.specs.declared.config.Fields.{Fields}
use Rattle.lethe_base.specs.declared.refused.Refused.{Refused}
use Rattle.lethe_cert.specs.declared.certificate.Certificate.{Certificate}
use Rattle.lethe_disk.proofs.Quieting.{on_ok}
use Rattle.lethe_stored.specs.Stored.{Stored}
use Rattle.lethe_state.specs.Room.{IsFlushed, IsFrozen, IsShortToFlush, IsShortToFreeze}
use Rattle.lethe_core.specs.Asked.{Makes, Serves, behind}
use Rattle.lethe_core.specs.Changes.{erase_over, put_over}
use Rattle.lethe_core.specs.View.{Face, View, view_of}
use Rattle.lethe_engine.specs.Rows.{IsDeleteOver}
use Rattle.lethe_engine.specs.Reads.{listed}
use Rattle.lethe_engine.specs.StandsFor.{Opened, StandsFor}
use Rattle.lethe_engine.specs.Ticks.{answered_by}
use Rattle.lethe_engine.specs.Work.{HasNoFlush, HasNoFreeze}
use Rattle.lethe_drive.specs.Answers.{IsRead, ReadAnswers}
use Rattle.lethe_drive.specs.Certificates.{certificates_of}
use Rattle.lethe_drive.specs.Moments.{IsKnown, Moment, moment_of, numbers_of, there_of}
use Rattle.lethe_drive.specs.Past.{IsTickAsked}
use Rattle.lethe_drive.specs.Replies.{got, paired}
use Rattle.lethe_drive.specs.Steps.{IsStep}
use Rattle.lethe_drive.specs.Ticks.{IsTick}
use Rattle.lethe_drive.specs.declared.event.Event.{Event}
use Rattle.lethe_drive.specs.declared.event.Reply.{Reply}
use Rattle.lethe_drive.specs.declared.event.Reply.TheVariants as reply
use Rattle.lethe_drive.proofs.Certificates.{listed_none, none_flagged, none_placed, of_told, stands_call, stands_none, stands_with}
use Rattle.lethe_drive.proofs.Changing.{changed}
use Rattle.lethe_drive.proofs.Freezing.{worked}
use Rattle.lethe_drive.proofs.Giving.{theirs_on}
use Rattle.lethe_drive.proofs.Reading.{is_read}
use Rattle.lethe_drive.proofs.Kept.{kept_but_pins, kept_call, kept_itself}
use Rattle.lethe_drive.proofs.answering.answer.Goals as goal

-- what the call for an event comes to
abbrev Comes : Type 0 → Fields → Opened → History → List Certificate → Moment → View → (Stored → Moment) → Reply → Event → Type 0
Comes PortsFail config opened h answered before new behind reply event =
    (g : History) × (t : Stored) × IsKnown config g new t × StandsFor config opened g new (answered ++ certificates_of reply) × IsStep PortsFail h before event reply g (behind t)

-- what a read gives, seen as another value
abbrev seen_as : {T U : Type 0} → (T → U) → Result T Refused → Result U Refused
seen_as see (Ok given) = Ok (see given)
seen_as see (Err why) = Err why

module _ {T U : Type 0} (see : T → U) (PortsFail : Type 0) (read : Read) (told : U → Answer) (h : History) (old new : Moment) where
  answers_as : (result : Result T Refused) → ReadAnswers PortsFail read (λ given. told (see given)) h old result new → ReadAnswers PortsFail read told h old (seen_as see result) new
  answers_as (Ok given) is = is
  answers_as (Err why) is = is

  read_as : (result : Result T Refused) (g : History) → IsRead PortsFail read (λ given. told (see given)) h old result g new → IsRead PortsFail read told h old (seen_as see result) g new
  read_as result g is = record { history = is.history; answers = answers_as result is.answers; same = is.same }

-- Put

pub returns-in-Put-clause-jobs : goal.returns-in-Put-clause-jobs
returns-in-Put-clause-jobs g c =
    theirs_on g.D.Disk.tells (view_of c.args.engine.now.core) (view_of c.put.new.self.core) c.args.jobs.now (ap (λ (face : Face). face.flights) c.put.ensures.answers.face_is) (ap (λ (face : Face). face.rounds) c.put.ensures.answers.face_is) c.requires.jobs

pub returns-in-Put-clause-step : goal.returns-in-Put-clause-step
returns-in-Put-clause-step g c = λ told config opened h answered stands s known.
    let old = view_of c.args.engine.now.core in
    let new = view_of c.put.new.self.core in
    let jobs = c.args.jobs.now in
    let snapshots = numbers_of c.args.snapshots.now.items in
    let Put = call.Put c.in-Put.key c.in-Put.dkey c.in-Put.value in
    let result = c.put.result in
    let fetches = g.D.Disk.fetches c.put.new.port in
    let faults = g.D.Disk.port_faults c.put.new.port in
    let before = moment_of old s (g.D.Disk.fetches c.args.port.now) (g.D.Disk.port_faults c.args.port.now) jobs.begun (there_of jobs) snapshots in
    let stood = stands_call c.put.ensures.answers told config opened h answered stands in
    let is = changed g.D.Disk.tells g.D.Disk.ports_fail told Put (λ s headers next. next ≡ put_over s c.in-Put.key c.in-Put.dkey c.in-Put.value) config opened h old new s known
    (g.D.Disk.fetches c.args.port.now) fetches (g.D.Disk.port_faults c.args.port.now) faults jobs.begun (there_of jobs) snapshots stands.since (ap (λ (face : Face). face.flights) c.put.ensures.answers.face_is)
    c.put.ensures.pins (λ room. room) (λ t begun. begun) result stood.since c.put.ensures.answers.still c.put.ensures.answers.refused c.put.ensures.place c.put.ensures.why
    (λ holds. on_ok result _ _ (c.put.ensures.written told s holds) (λ done. (done.0, done.1, put_over done.0 c.in-Put.key c.in-Put.dkey c.in-Put.value, done.2, refl, done.3, done.4, done.5)))
    (λ at e. (c.put.ensures.stopped at e).0) (λ runs full. (c.put.ensures.exhausted runs full).0) in
    subst (Comes g.D.Disk.ports_fail config opened h answered before new (λ t. moment_of new t fetches faults jobs.begun (there_of jobs) snapshots) c.placed.result) (sym c.in-Put.is)
    (behind h 0 (Makes Put) (result_err result), is.0, is.1, stands_none config opened (behind h 0 (Makes Put) (result_err result)) new answered c.placed.result (ap certificates_of c.placed.ensures ∙ none_placed result) stood, (result, c.placed.ensures, is.2))

-- Delete

pub returns-in-Delete-clause-jobs : goal.returns-in-Delete-clause-jobs
returns-in-Delete-clause-jobs g c =
    theirs_on g.D.Disk.tells (view_of c.args.engine.now.core) (view_of c.delete.new.self.core) c.args.jobs.now (ap (λ (face : Face). face.flights) c.delete.ensures.answers.face_is) (ap (λ (face : Face). face.rounds) c.delete.ensures.answers.face_is) c.requires.jobs

pub returns-in-Delete-clause-step : goal.returns-in-Delete-clause-step
returns-in-Delete-clause-step g c = λ told config opened h answered stands s known.
    let old = view_of c.args.engine.now.core in
    let new = view_of c.delete.new.self.core in
    let jobs = c.args.jobs.now in
    let snapshots = numbers_of c.args.snapshots.now.items in
    let Delete = call.Delete c.in-Delete.key in
    let result = c.delete.result in
    let fetches = g.D.Disk.fetches c.delete.new.port in
    let faults = g.D.Disk.port_faults c.delete.new.port in
    let before = moment_of old s (g.D.Disk.fetches c.args.port.now) (g.D.Disk.port_faults c.args.port.now) jobs.begun (there_of jobs) snapshots in
    let stood = stands_call c.delete.ensures.answers told config opened h answered stands in
    let is = changed g.D.Disk.tells g.D.Disk.ports_fail told Delete (λ s headers next. IsDeleteOver s headers c.in-Delete.key next) config opened h old new s known
    (g.D.Disk.fetches c.args.port.now) fetches (g.D.Disk.port_faults c.args.port.now) faults jobs.begun (there_of jobs) snapshots stands.since (ap (λ (face : Face). face.flights) c.delete.ensures.answers.face_is)
    c.delete.ensures.pins (λ room. room) (λ t begun. begun) result stood.since c.delete.ensures.answers.still c.delete.ensures.answers.refused c.delete.ensures.place c.delete.ensures.why (c.delete.ensures.written told s)
    (λ at e. (c.delete.ensures.stopped at e).0) (λ runs full. (c.delete.ensures.exhausted runs full).0) in
    subst (Comes g.D.Disk.ports_fail config opened h answered before new (λ t. moment_of new t fetches faults jobs.begun (there_of jobs) snapshots) c.placed-in-Delete.result) (sym c.in-Delete.is)
    (behind h 0 (Makes Delete) (result_err result), is.0, is.1, stands_none config opened (behind h 0 (Makes Delete) (result_err result)) new answered c.placed-in-Delete.result (ap certificates_of c.placed-in-Delete.ensures ∙ none_placed result) stood, (result, c.placed-in-Delete.ensures, is.2))

-- Erase

pub returns-in-Erase-clause-jobs : goal.returns-in-Erase-clause-jobs
returns-in-Erase-clause-jobs g c =
    let face = c.erase.ensures.answers.face_is in
    theirs_on g.D.Disk.tells (view_of c.args.engine.now.core) (view_of c.erase.new.self.core) c.args.jobs.now (ap (λ (face : Face). face.flights) face) (ap (λ (face : Face). face.rounds) face) c.requires.jobs

pub returns-in-Erase-clause-step : goal.returns-in-Erase-clause-step
returns-in-Erase-clause-step g c = λ told config opened h answered stands s known.
    let old = view_of c.args.engine.now.core in
    let new = view_of c.erase.new.self.core in
    let jobs = c.args.jobs.now in
    let snapshots = numbers_of c.args.snapshots.now.items in
    let Erase = call.Erase c.in-Erase.range in
    let result = c.erase.result in
    let fetches = g.D.Disk.fetches c.erase.new.port in
    let faults = g.D.Disk.port_faults c.erase.new.port in
    let before = moment_of old s (g.D.Disk.fetches c.args.port.now) (g.D.Disk.port_faults c.args.port.now) jobs.begun (there_of jobs) snapshots in
    let stood = stands_call c.erase.ensures.answers told config opened h answered stands in
    let is = changed g.D.Disk.tells g.D.Disk.ports_fail told Erase (λ s headers next. next ≡ erase_over s c.in-Erase.range) config opened h old new s known
    (g.D.Disk.fetches c.args.port.now) fetches (g.D.Disk.port_faults c.args.port.now) faults jobs.begun (there_of jobs) snapshots stands.since (ap (λ (face : Face). face.flights) c.erase.ensures.answers.face_is)
    c.erase.ensures.pins (λ room. room) (λ t begun. begun) result stood.since c.erase.ensures.answers.still c.erase.ensures.answers.refused c.erase.ensures.place c.erase.ensures.why
    (λ holds. on_ok result _ _ (c.erase.ensures.written told s holds) (λ done. (done.0, done.1, erase_over done.0 c.in-Erase.range, done.2, refl, done.3, done.4, done.5)))
    (λ at e. (c.erase.ensures.stopped at e).0) (λ runs full. (c.erase.ensures.exhausted runs full).0) in
    subst (Comes g.D.Disk.ports_fail config opened h answered before new (λ t. moment_of new t fetches faults jobs.begun (there_of jobs) snapshots) c.placed-in-Erase.result) (sym c.in-Erase.is)
    (behind h 0 (Makes Erase) (result_err result), is.0, is.1, stands_none config opened (behind h 0 (Makes Erase) (result_err result)) new answered c.placed-in-Erase.result (ap certificates_of c.placed-in-Erase.ensures ∙ none_placed result) stood, (result, c.placed-in-Erase.ensures, is.2))

-- Tick

pub returns-in-Tick-clause-step : goal.returns-in-Tick-clause-step
returns-in-Tick-clause-step g c = λ told config opened h answered stands s known.
    let new = view_of c.tick.new.engine.core in
    let jobs = c.tick.new.jobs in
    let snapshots = numbers_of c.args.snapshots.now.items in
    let fetches = g.D.Disk.fetches c.tick.new.port in
    let faults = g.D.Disk.port_faults c.tick.new.port in
    let before = moment_of (view_of c.args.engine.now.core) s (g.D.Disk.fetches c.args.port.now) (g.D.Disk.port_faults c.args.port.now) c.args.jobs.now.begun (there_of c.args.jobs.now) snapshots in
    let is = c.tick.ensures.step told config opened h answered stands s known snapshots in
    let now = moment_of new is.1 fetches faults jobs.begun (there_of jobs) snapshots in
    subst (Comes g.D.Disk.ports_fail config opened h answered before new (λ t. moment_of new t fetches faults jobs.begun (there_of jobs) snapshots) c.told.result) (sym c.in-Tick.is)
    (is.0, is.1, is.2, stands_with config opened is.0 new answered (answered_by c.tick.result) c.told.result (ap certificates_of c.told.ensures ∙ of_told c.tick.result) is.3, (c.tick.result, c.told.ensures, subst (λ (to : ℕ). IsTick g.D.Disk.ports_fail to h before c.tick.result is.0 now) c.get.ensures.number is.4))

pub returns-in-Tick-clause-rounds : goal.returns-in-Tick-clause-rounds
returns-in-Tick-clause-rounds g c = elim c.tick.ensures.rounds [ inl kept ↦ inl kept.0 | inr ended ↦ inr (subst IsTickAsked (sym c.in-Tick.is) tt, ended.0, ended.1) ]

-- Get

pub returns-in-Ok-clause-step : goal.returns-in-Ok-clause-step
returns-in-Ok-clause-step g c = λ told config opened h answered stands s known.
    let view = view_of c.args.engine.now.core in
    let jobs = c.args.jobs.now in
    let snapshots = numbers_of c.args.snapshots.now.items in
    let fetches = g.D.Disk.fetches c.get-in-Get.new.port in
    let faults = g.D.Disk.port_faults c.get-in-Get.new.port in
    let before = moment_of view s (g.D.Disk.fetches c.args.port.now) (g.D.Disk.port_faults c.args.port.now) jobs.begun (there_of jobs) snapshots in
    let is = is_read g.D.Disk.ports_fail (reads.Get c.in-Get.key) reads.Found h view s (g.D.Disk.fetches c.args.port.now) fetches (g.D.Disk.port_faults c.args.port.now) faults jobs.begun (there_of jobs) snapshots
    c.get-in-Get.result (c.get-in-Get.ensures.answer told config h stands.since.now) c.get-in-Get.ensures.why c.get-in-Get.ensures.fault c.get-in-Get.ensures.can_fail (c.get-in-Get.ensures.undamaged told c.requires.sound) in
    subst (Comes g.D.Disk.ports_fail config opened h answered before view (λ t. moment_of view t fetches faults jobs.begun (there_of jobs) snapshots) (reply.Got c.in-Ok.held)) (sym c.in-Get.is)
    (h, s, known, stands_none config opened h view answered (reply.Got c.in-Ok.held) refl stands, (c.get-in-Get.result, sym (ap got c.in-Ok.is), is))

pub returns-in-Get-clause-step : goal.returns-in-Get-clause-step
returns-in-Get-clause-step g c = λ told config opened h answered stands s known.
    let view = view_of c.args.engine.now.core in
    let jobs = c.args.jobs.now in
    let snapshots = numbers_of c.args.snapshots.now.items in
    let fetches = g.D.Disk.fetches c.get-in-Get.new.port in
    let faults = g.D.Disk.port_faults c.get-in-Get.new.port in
    let before = moment_of view s (g.D.Disk.fetches c.args.port.now) (g.D.Disk.port_faults c.args.port.now) jobs.begun (there_of jobs) snapshots in
    let is = is_read g.D.Disk.ports_fail (reads.Get c.in-Get.key) reads.Found h view s (g.D.Disk.fetches c.args.port.now) fetches (g.D.Disk.port_faults c.args.port.now) faults jobs.begun (there_of jobs) snapshots
    c.get-in-Get.result (c.get-in-Get.ensures.answer told config h stands.since.now) c.get-in-Get.ensures.why c.get-in-Get.ensures.fault c.get-in-Get.ensures.can_fail (c.get-in-Get.ensures.undamaged told c.requires.sound) in
    subst (Comes g.D.Disk.ports_fail config opened h answered before view (λ t. moment_of view t fetches faults jobs.begun (there_of jobs) snapshots) (reply.Refused c.in-Err.why)) (sym c.in-Get.is)
    (h, s, known, stands_none config opened h view answered (reply.Refused c.in-Err.why) refl stands, (c.get-in-Get.result, sym (ap got c.in-Err.is), is))

-- Scan

abbrev items_in : Vec (Bytes × ℕ × Bytes) Global → List (Bytes × ℕ × Bytes)
items_in pairs = pairs.items

pub returns-in-Ok-scan-clause-step : goal.returns-in-Ok-scan-clause-step
returns-in-Ok-scan-clause-step g c = λ told config opened h answered stands s known.
    let view = view_of c.args.engine.now.core in
    let jobs = c.args.jobs.now in
    let snapshots = numbers_of c.args.snapshots.now.items in
    let Scan = reads.Scan c.in-Scan.lo c.in-Scan.hi in
    let fetches = g.D.Disk.fetches c.scan.new.port in
    let faults = g.D.Disk.port_faults c.scan.new.port in
    let before = moment_of view s (g.D.Disk.fetches c.args.port.now) (g.D.Disk.port_faults c.args.port.now) jobs.begun (there_of jobs) snapshots in
    let now = moment_of view s fetches faults jobs.begun (there_of jobs) snapshots in
    let is = is_read g.D.Disk.ports_fail Scan (λ pairs. listed (items_in pairs)) h view s (g.D.Disk.fetches c.args.port.now) fetches (g.D.Disk.port_faults c.args.port.now) faults jobs.begun (there_of jobs) snapshots
    c.scan.result (c.scan.ensures.answer told config h stands.since.now) c.scan.ensures.why c.scan.ensures.fault c.scan.ensures.can_fail (c.scan.ensures.undamaged told c.requires.sound) in
    let told_as : reply.Pairs c.of.result ≡ paired (seen_as items_in c.scan.result) = ap reply.Pairs c.of.ensures ∙ sym (ap (λ result. paired (seen_as items_in result)) c.in-Ok-scan.is) in
    subst (Comes g.D.Disk.ports_fail config opened h answered before view (λ t. moment_of view t fetches faults jobs.begun (there_of jobs) snapshots) (reply.Pairs c.of.result)) (sym c.in-Scan.is)
    (h, s, known, stands_none config opened h view answered (reply.Pairs c.of.result) refl stands, (seen_as items_in c.scan.result, told_as, read_as items_in g.D.Disk.ports_fail Scan listed h before now c.scan.result h is))

pub returns-in-Scan-clause-step : goal.returns-in-Scan-clause-step
returns-in-Scan-clause-step g c = λ told config opened h answered stands s known.
    let view = view_of c.args.engine.now.core in
    let jobs = c.args.jobs.now in
    let snapshots = numbers_of c.args.snapshots.now.items in
    let Scan = reads.Scan c.in-Scan.lo c.in-Scan.hi in
    let fetches = g.D.Disk.fetches c.scan.new.port in
    let faults = g.D.Disk.port_faults c.scan.new.port in
    let before = moment_of view s (g.D.Disk.fetches c.args.port.now) (g.D.Disk.port_faults c.args.port.now) jobs.begun (there_of jobs) snapshots in
    let now = moment_of view s fetches faults jobs.begun (there_of jobs) snapshots in
    let is = is_read g.D.Disk.ports_fail Scan (λ pairs. listed (items_in pairs)) h view s (g.D.Disk.fetches c.args.port.now) fetches (g.D.Disk.port_faults c.args.port.now) faults jobs.begun (there_of jobs) snapshots
    c.scan.result (c.scan.ensures.answer told config h stands.since.now) c.scan.ensures.why c.scan.ensures.fault c.scan.ensures.can_fail (c.scan.ensures.undamaged told c.requires.sound) in
    subst (Comes g.D.Disk.ports_fail config opened h answered before view (λ t. moment_of view t fetches faults jobs.begun (there_of jobs) snapshots) (reply.Refused c.in-Err-scan.why)) (sym c.in-Scan.is) (
      h,
      s,
      known,
      stands_none config opened h view answered (reply.Refused c.in-Err-scan.why) refl stands,
      (seen_as items_in c.scan.result, sym (ap (λ result. paired (seen_as items_in result)) c.in-Err-scan.is), read_as items_in g.D.Disk.ports_fail Scan listed h before now c.scan.result h is),
    )

-- Freeze

pub returns-in-Freeze-clause-jobs : goal.returns-in-Freeze-clause-jobs
returns-in-Freeze-clause-jobs g c =
    theirs_on g.D.Disk.tells (view_of c.args.engine.now.core) (view_of c.freeze.new.self.core) c.args.jobs.now (ap (λ (face : Face). face.flights) c.freeze.ensures.answers.face_is) (ap (λ (face : Face). face.rounds) c.freeze.ensures.answers.face_is) c.requires.jobs

pub returns-in-Freeze-clause-step : goal.returns-in-Freeze-clause-step
returns-in-Freeze-clause-step g c = λ told config opened h answered stands s known.
    let old = view_of c.args.engine.now.core in
    let new = view_of c.freeze.new.self.core in
    let jobs = c.args.jobs.now in
    let snapshots = numbers_of c.args.snapshots.now.items in
    let result = c.freeze.result in
    let fetches = g.D.Disk.fetches c.args.port.now in
    let faults = g.D.Disk.port_faults c.args.port.now in
    let stood = stands_call c.freeze.ensures.answers told config opened h answered stands in
    let is = worked g.D.Disk.tells told config opened h old new s known fetches faults jobs.begun (there_of jobs) snapshots HasNoFreeze IsFrozen (IsShortToFreeze old.state) c.freeze.ensures.answers.face_is (let left = c.freeze.ensures.retired in λ i. (left i).items) c.freeze.ensures.pins
    result stood.since c.freeze.ensures.answers.still c.freeze.ensures.answers.refused c.freeze.ensures.idle (λ none. (let same = c.freeze.ensures.same none in λ i. view_of (same i).core)) (c.freeze.ensures.done told s) c.freeze.ensures.why (λ at e. (c.freeze.ensures.stopped at e).0)
    (λ runs some full. (c.freeze.ensures.exhausted runs some full).0) in
    subst (Comes g.D.Disk.ports_fail config opened h answered (moment_of old s fetches faults jobs.begun (there_of jobs) snapshots) new (λ t. moment_of new t fetches faults jobs.begun (there_of jobs) snapshots) c.flagged.result) (sym c.in-Freeze.is)
    (behind h 0 (Serves call.Work) (result_err result), is.0, is.1, stands_none config opened (behind h 0 (Serves call.Work) (result_err result)) new answered c.flagged.result (ap certificates_of c.flagged.ensures ∙ none_flagged result) stood, (result, c.flagged.ensures, is.2))

-- Flush

pub returns-in-Flush-clause-jobs : goal.returns-in-Flush-clause-jobs
returns-in-Flush-clause-jobs g c =
    theirs_on g.D.Disk.tells (view_of c.args.engine.now.core) (view_of c.flush.new.self.core) c.args.jobs.now (ap (λ (face : Face). face.flights) c.flush.ensures.answers.face_is) (ap (λ (face : Face). face.rounds) c.flush.ensures.answers.face_is) c.requires.jobs

pub returns-in-Flush-clause-step : goal.returns-in-Flush-clause-step
returns-in-Flush-clause-step g c = λ told config opened h answered stands s known.
    let old = view_of c.args.engine.now.core in
    let new = view_of c.flush.new.self.core in
    let jobs = c.args.jobs.now in
    let snapshots = numbers_of c.args.snapshots.now.items in
    let result = c.flush.result in
    let fetches = g.D.Disk.fetches c.args.port.now in
    let faults = g.D.Disk.port_faults c.args.port.now in
    let stood = stands_call c.flush.ensures.answers told config opened h answered stands in
    let is = worked g.D.Disk.tells told config opened h old new s known fetches faults jobs.begun (there_of jobs) snapshots HasNoFlush IsFlushed (IsShortToFlush old.state) c.flush.ensures.answers.face_is (let left = c.flush.ensures.retired in λ i. (left i).items) c.flush.ensures.pins
    result stood.since c.flush.ensures.answers.still c.flush.ensures.answers.refused c.flush.ensures.idle (λ none. (let same = c.flush.ensures.same none in λ i. view_of (same i).core)) (c.flush.ensures.done told s) c.flush.ensures.why (λ at e. (c.flush.ensures.stopped at e).0)
    (λ runs some full. (c.flush.ensures.exhausted runs some full).0) in
    subst (Comes g.D.Disk.ports_fail config opened h answered (moment_of old s fetches faults jobs.begun (there_of jobs) snapshots) new (λ t. moment_of new t fetches faults jobs.begun (there_of jobs) snapshots) c.flagged-in-Flush.result) (sym c.in-Flush.is)
    (behind h 0 (Serves call.Work) (result_err result), is.0, is.1, stands_none config opened (behind h 0 (Serves call.Work) (result_err result)) new answered c.flagged-in-Flush.result (ap certificates_of c.flagged-in-Flush.ensures ∙ none_flagged result) stood, (result, c.flagged-in-Flush.ensures, is.2))

-- Jobs

pub returns-in-Begin-clause-step : goal.returns-in-Begin-clause-step
returns-in-Begin-clause-step g c = λ told config opened h answered stands s known.
    let jobs = c.args.jobs.now in
    let snapshots = numbers_of c.args.snapshots.now.items in
    let new = c.begin.new.jobs in
    let fetches = g.D.Disk.fetches c.args.port.now in
    let faults = g.D.Disk.port_faults c.args.port.now in
    subst (Comes g.D.Disk.ports_fail config opened h answered (moment_of (view_of c.args.engine.now.core) s fetches faults jobs.begun (there_of jobs) snapshots) (view_of c.begin.new.engine.core)
    (λ t. moment_of (view_of c.begin.new.engine.core) t fetches faults new.begun (there_of new) snapshots) c.begin.result) (sym c.in-Begin.is)
    (let is = c.begin.ensures.step told config opened h answered stands s known fetches faults snapshots in (is.0, is.1, is.2, stands_none config opened is.0 (view_of c.begin.new.engine.core) answered c.begin.result c.begin.ensures.none is.3, is.4))

pub returns-in-WriteOut-clause-step : goal.returns-in-WriteOut-clause-step
returns-in-WriteOut-clause-step g c = λ told config opened h answered stands s known.
    let jobs = c.args.jobs.now in
    let snapshots = numbers_of c.args.snapshots.now.items in
    let new = c.write_out.new.jobs in
    let fetches = g.D.Disk.fetches c.args.port.now in
    let faults = g.D.Disk.port_faults c.args.port.now in
    subst (Comes g.D.Disk.ports_fail config opened h answered (moment_of (view_of c.args.engine.now.core) s fetches faults jobs.begun (there_of jobs) snapshots) (view_of c.write_out.new.engine.core)
    (λ t. moment_of (view_of c.write_out.new.engine.core) t fetches faults new.begun (there_of new) snapshots) c.write_out.result) (sym c.in-WriteOut.is)
    (let is = c.write_out.ensures.step told config opened h answered stands s known fetches faults snapshots in (is.0, is.1, is.2, stands_none config opened is.0 (view_of c.write_out.new.engine.core) answered c.write_out.result c.write_out.ensures.none is.3, is.4))

pub returns-in-Install-clause-step : goal.returns-in-Install-clause-step
returns-in-Install-clause-step g c = λ told config opened h answered stands s known.
    let jobs = c.args.jobs.now in
    let snapshots = numbers_of c.args.snapshots.now.items in
    let new = c.install.new.jobs in
    let fetches = g.D.Disk.fetches c.args.port.now in
    let faults = g.D.Disk.port_faults c.args.port.now in
    subst (Comes g.D.Disk.ports_fail config opened h answered (moment_of (view_of c.args.engine.now.core) s fetches faults jobs.begun (there_of jobs) snapshots) (view_of c.install.new.engine.core)
    (λ t. moment_of (view_of c.install.new.engine.core) t fetches faults new.begun (there_of new) snapshots) c.install.result) (sym c.in-Install.is)
    (let is = c.install.ensures.step told config opened h answered stands s known fetches faults snapshots in (is.0, is.1, is.2, stands_none config opened is.0 (view_of c.install.new.engine.core) answered c.install.result c.install.ensures.none is.3, is.4))

pub returns-in-Cancel-clause-step : goal.returns-in-Cancel-clause-step
returns-in-Cancel-clause-step g c = λ told config opened h answered stands s known.
    let jobs = c.args.jobs.now in
    let snapshots = numbers_of c.args.snapshots.now.items in
    let new = c.cancel.new.jobs in
    let fetches = g.D.Disk.fetches c.args.port.now in
    let faults = g.D.Disk.port_faults c.args.port.now in
    subst (Comes g.D.Disk.ports_fail config opened h answered (moment_of (view_of c.args.engine.now.core) s fetches faults jobs.begun (there_of jobs) snapshots) (view_of c.cancel.new.engine.core)
    (λ t. moment_of (view_of c.cancel.new.engine.core) t fetches faults new.begun (there_of new) snapshots) c.cancel.result) (sym c.in-Cancel.is)
    (let is = c.cancel.ensures.step told config opened h answered stands s known fetches faults snapshots in (is.0, is.1, is.2, stands_none config opened is.0 (view_of c.cancel.new.engine.core) answered c.cancel.result c.cancel.ensures.none is.3, is.4))

-- Pins

pub returns-in-Pin-clause-jobs : goal.returns-in-Pin-clause-jobs
returns-in-Pin-clause-jobs g c =
    let same = c.pin.ensures.same in
    let view : view_of c.pin.new.engine.core ≡ record (view_of c.args.engine.now.core) { pins = (view_of c.pin.new.engine.core).pins } = λ i. view_of (same i).core in
    theirs_on g.D.Disk.tells (view_of c.args.engine.now.core) (view_of c.pin.new.engine.core) c.args.jobs.now (ap (λ (view : View). view.flights) view) (ap (λ (view : View). view.rounds) view) c.requires.jobs

pub returns-in-Pin-clause-step : goal.returns-in-Pin-clause-step
returns-in-Pin-clause-step g c = λ told config opened h answered stands s known.
    let jobs = c.args.jobs.now in
    let fetches = g.D.Disk.fetches c.args.port.now in
    let faults = g.D.Disk.port_faults c.args.port.now in
    subst (Comes g.D.Disk.ports_fail config opened h answered (moment_of (view_of c.args.engine.now.core) s fetches faults jobs.begun (there_of jobs) (numbers_of c.args.snapshots.now.items)) (view_of c.pin.new.engine.core)
    (λ t. moment_of (view_of c.pin.new.engine.core) t fetches faults jobs.begun (there_of jobs) (numbers_of c.pin.new.snapshots.items)) c.pin.result) (sym c.in-Pin.is)
    (let is = c.pin.ensures.step told config opened h answered stands s known fetches faults jobs.begun (there_of jobs) in (is.0, is.1, is.2, stands_none config opened is.0 (view_of c.pin.new.engine.core) answered c.pin.result c.pin.ensures.none is.3, is.4))

pub returns-clause-jobs : goal.returns-clause-jobs
returns-clause-jobs g c =
    let same = c.release.ensures.same in
    let view : view_of c.release.new.engine.core ≡ record (view_of c.args.engine.now.core) { pins = (view_of c.release.new.engine.core).pins } = λ i. view_of (same i).core in
    theirs_on g.D.Disk.tells (view_of c.args.engine.now.core) (view_of c.release.new.engine.core) c.args.jobs.now (ap (λ (view : View). view.flights) view) (ap (λ (view : View). view.rounds) view) c.requires.jobs

pub returns-clause-step : goal.returns-clause-step
returns-clause-step g c = λ told config opened h answered stands s known.
    let jobs = c.args.jobs.now in
    let fetches = g.D.Disk.fetches c.args.port.now in
    let faults = g.D.Disk.port_faults c.args.port.now in
    subst (Comes g.D.Disk.ports_fail config opened h answered (moment_of (view_of c.args.engine.now.core) s fetches faults jobs.begun (there_of jobs) (numbers_of c.args.snapshots.now.items)) (view_of c.release.new.engine.core)
    (λ t. moment_of (view_of c.release.new.engine.core) t fetches faults jobs.begun (there_of jobs) (numbers_of c.release.new.snapshots.items)) c.release.result) (sym c.in-Release.is)
    (let is = c.release.ensures.step told config opened h answered stands s known fetches faults jobs.begun (there_of jobs) in (is.0, is.1, is.2, stands_none config opened is.0 (view_of c.release.new.engine.core) answered c.release.result c.release.ensures.none is.3, is.4))

-- No round ends but by a tick

pub returns-in-Put-clause-rounds : goal.returns-in-Put-clause-rounds
returns-in-Put-clause-rounds g c = inl (ap (λ (face : Face). face.rounds) c.put.ensures.answers.face_is)

pub returns-in-Delete-clause-rounds : goal.returns-in-Delete-clause-rounds
returns-in-Delete-clause-rounds g c = inl (ap (λ (face : Face). face.rounds) c.delete.ensures.answers.face_is)

pub returns-in-Erase-clause-rounds : goal.returns-in-Erase-clause-rounds
returns-in-Erase-clause-rounds g c = inl (ap (λ (face : Face). face.rounds) c.erase.ensures.answers.face_is)

pub returns-in-Freeze-clause-rounds : goal.returns-in-Freeze-clause-rounds
returns-in-Freeze-clause-rounds g c = inl (ap (λ (face : Face). face.rounds) c.freeze.ensures.answers.face_is)

pub returns-in-Flush-clause-rounds : goal.returns-in-Flush-clause-rounds
returns-in-Flush-clause-rounds g c = inl (ap (λ (face : Face). face.rounds) c.flush.ensures.answers.face_is)

pub returns-in-Begin-clause-rounds : goal.returns-in-Begin-clause-rounds
returns-in-Begin-clause-rounds g c = inl c.begin.ensures.rounds

pub returns-in-WriteOut-clause-rounds : goal.returns-in-WriteOut-clause-rounds
returns-in-WriteOut-clause-rounds g c = inl c.write_out.ensures.rounds

pub returns-in-Install-clause-rounds : goal.returns-in-Install-clause-rounds
returns-in-Install-clause-rounds g c = inl c.install.ensures.rounds

pub returns-in-Cancel-clause-rounds : goal.returns-in-Cancel-clause-rounds
returns-in-Cancel-clause-rounds g c = inl c.cancel.ensures.rounds

pub returns-in-Pin-clause-rounds : goal.returns-in-Pin-clause-rounds
returns-in-Pin-clause-rounds g c = inl (let same = c.pin.ensures.same in λ i. (same i).core.begun.rounds)

pub returns-clause-rounds : goal.returns-clause-rounds
returns-clause-rounds g c = inl (let same = c.release.ensures.same in λ i. (same i).core.begun.rounds)

-- What pins name stays

pub returns-in-Put-clause-pinned : goal.returns-in-Put-clause-pinned
returns-in-Put-clause-pinned g c = kept_call c.put.ensures.answers

pub returns-in-Delete-clause-pinned : goal.returns-in-Delete-clause-pinned
returns-in-Delete-clause-pinned g c = kept_call c.delete.ensures.answers

pub returns-in-Erase-clause-pinned : goal.returns-in-Erase-clause-pinned
returns-in-Erase-clause-pinned g c = kept_call c.erase.ensures.answers

pub returns-in-Tick-clause-pinned : goal.returns-in-Tick-clause-pinned
returns-in-Tick-clause-pinned g c = c.tick.ensures.pinned

pub returns-in-Ok-clause-pinned : goal.returns-in-Ok-clause-pinned
returns-in-Ok-clause-pinned g c = λ told. kept_itself (view_of c.args.engine.now.core)

pub returns-in-Get-clause-pinned : goal.returns-in-Get-clause-pinned
returns-in-Get-clause-pinned g c = λ told. kept_itself (view_of c.args.engine.now.core)

pub returns-in-Ok-scan-clause-pinned : goal.returns-in-Ok-scan-clause-pinned
returns-in-Ok-scan-clause-pinned g c = λ told. kept_itself (view_of c.args.engine.now.core)

pub returns-in-Scan-clause-pinned : goal.returns-in-Scan-clause-pinned
returns-in-Scan-clause-pinned g c = λ told. kept_itself (view_of c.args.engine.now.core)

pub returns-in-Freeze-clause-pinned : goal.returns-in-Freeze-clause-pinned
returns-in-Freeze-clause-pinned g c = kept_call c.freeze.ensures.answers

pub returns-in-Flush-clause-pinned : goal.returns-in-Flush-clause-pinned
returns-in-Flush-clause-pinned g c = kept_call c.flush.ensures.answers

pub returns-in-Begin-clause-pinned : goal.returns-in-Begin-clause-pinned
returns-in-Begin-clause-pinned g c = c.begin.ensures.pinned

pub returns-in-WriteOut-clause-pinned : goal.returns-in-WriteOut-clause-pinned
returns-in-WriteOut-clause-pinned g c = c.write_out.ensures.pinned

pub returns-in-Install-clause-pinned : goal.returns-in-Install-clause-pinned
returns-in-Install-clause-pinned g c = c.install.ensures.pinned

pub returns-in-Cancel-clause-pinned : goal.returns-in-Cancel-clause-pinned
returns-in-Cancel-clause-pinned g c = c.cancel.ensures.pinned

pub returns-in-Pin-clause-pinned : goal.returns-in-Pin-clause-pinned
returns-in-Pin-clause-pinned g c = λ told. kept_but_pins (view_of c.args.engine.now.core) (view_of c.pin.new.engine.core) (view_of c.pin.new.engine.core).pins (let same = c.pin.ensures.same in λ i. view_of (same i).core)

pub returns-clause-pinned : goal.returns-clause-pinned
returns-clause-pinned g c = λ told. kept_but_pins (view_of c.args.engine.now.core) (view_of c.release.new.engine.core) (view_of c.release.new.engine.core).pins (let same = c.release.ensures.same in λ i. view_of (same i).core)

-- The store's certificates

pub returns-in-Put-clause-certificates : goal.returns-in-Put-clause-certificates
returns-in-Put-clause-certificates g c =
    listed_none c.args.engine.now.certificates.items c.put.new.self.certificates.items c.placed.result (let same = c.put.ensures.certificates in λ i. (same i).items) (ap certificates_of c.placed.ensures ∙ none_placed c.put.result)

pub returns-in-Delete-clause-certificates : goal.returns-in-Delete-clause-certificates
returns-in-Delete-clause-certificates g c =
    listed_none c.args.engine.now.certificates.items c.delete.new.self.certificates.items c.placed-in-Delete.result (let same = c.delete.ensures.certificates in λ i. (same i).items) (ap certificates_of c.placed-in-Delete.ensures ∙ none_placed c.delete.result)

pub returns-in-Erase-clause-certificates : goal.returns-in-Erase-clause-certificates
returns-in-Erase-clause-certificates g c =
    listed_none c.args.engine.now.certificates.items c.erase.new.self.certificates.items c.placed-in-Erase.result (let same = c.erase.ensures.certificates in λ i. (same i).items) (ap certificates_of c.placed-in-Erase.ensures ∙ none_placed c.erase.result)

pub returns-in-Freeze-clause-certificates : goal.returns-in-Freeze-clause-certificates
returns-in-Freeze-clause-certificates g c =
    listed_none c.args.engine.now.certificates.items c.freeze.new.self.certificates.items c.flagged.result (let same = c.freeze.ensures.certificates in λ i. (same i).items) (ap certificates_of c.flagged.ensures ∙ none_flagged c.freeze.result)

pub returns-in-Flush-clause-certificates : goal.returns-in-Flush-clause-certificates
returns-in-Flush-clause-certificates g c =
    listed_none c.args.engine.now.certificates.items c.flush.new.self.certificates.items c.flagged-in-Flush.result (let same = c.flush.ensures.certificates in λ i. (same i).items) (ap certificates_of c.flagged-in-Flush.ensures ∙ none_flagged c.flush.result)

pub returns-in-Tick-clause-certificates : goal.returns-in-Tick-clause-certificates
returns-in-Tick-clause-certificates g c =
    c.tick.ensures.certificates ∙ ap (λ (l : List Certificate). c.args.engine.now.certificates.items ++ l) (sym (ap certificates_of c.told.ensures ∙ of_told c.tick.result))

pub returns-in-Ok-clause-certificates : goal.returns-in-Ok-clause-certificates
returns-in-Ok-clause-certificates g c = sym (append-nil c.args.engine.now.certificates.items)

pub returns-in-Get-clause-certificates : goal.returns-in-Get-clause-certificates
returns-in-Get-clause-certificates g c = sym (append-nil c.args.engine.now.certificates.items)

pub returns-in-Ok-scan-clause-certificates : goal.returns-in-Ok-scan-clause-certificates
returns-in-Ok-scan-clause-certificates g c = sym (append-nil c.args.engine.now.certificates.items)

pub returns-in-Scan-clause-certificates : goal.returns-in-Scan-clause-certificates
returns-in-Scan-clause-certificates g c = sym (append-nil c.args.engine.now.certificates.items)

pub returns-in-Begin-clause-certificates : goal.returns-in-Begin-clause-certificates
returns-in-Begin-clause-certificates g c =
    listed_none c.args.engine.now.certificates.items c.begin.new.engine.certificates.items c.begin.result (let same = c.begin.ensures.certificates in λ i. (same i).items) c.begin.ensures.none

pub returns-in-WriteOut-clause-certificates : goal.returns-in-WriteOut-clause-certificates
returns-in-WriteOut-clause-certificates g c =
    listed_none c.args.engine.now.certificates.items c.write_out.new.engine.certificates.items c.write_out.result (let same = c.write_out.ensures.certificates in λ i. (same i).items) c.write_out.ensures.none

pub returns-in-Install-clause-certificates : goal.returns-in-Install-clause-certificates
returns-in-Install-clause-certificates g c =
    listed_none c.args.engine.now.certificates.items c.install.new.engine.certificates.items c.install.result (let same = c.install.ensures.certificates in λ i. (same i).items) c.install.ensures.none

pub returns-in-Cancel-clause-certificates : goal.returns-in-Cancel-clause-certificates
returns-in-Cancel-clause-certificates g c =
    listed_none c.args.engine.now.certificates.items c.cancel.new.engine.certificates.items c.cancel.result (let same = c.cancel.ensures.certificates in λ i. (same i).items) c.cancel.ensures.none

pub returns-in-Pin-clause-certificates : goal.returns-in-Pin-clause-certificates
returns-in-Pin-clause-certificates g c =
    listed_none c.args.engine.now.certificates.items c.pin.new.engine.certificates.items c.pin.result (let same = c.pin.ensures.same in λ i. (same i).certificates.items) c.pin.ensures.none

pub returns-clause-certificates : goal.returns-clause-certificates
returns-clause-certificates g c =
    listed_none c.args.engine.now.certificates.items c.release.new.engine.certificates.items c.release.result (let same = c.release.ensures.same in λ i. (same i).certificates.items) c.release.ensures.none
