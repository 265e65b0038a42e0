use Rattle.std.proofs.Common.{◌≡◌, ◌<◌, ◌≤◌, ◌+◌, [], ◌∷◌, ◌++◌, map, refl, sym, ap, ◌∙◌, subst}
use Rattle.std.specs.Prelude.{◌^◌, All, IfSome, SomeIff}
use Rattle.lethe_base.specs.Limits.{max_place, max_time}
use Rattle.lethe_stored.specs.Stored.{Stored}
use Rattle.lethe_job.specs.Works.{IsBegunIn, IsInLevels, applied_upto, erases_of, plain_task}
use Rattle.lethe_core.specs.Flights.{flying_by}
use Rattle.lethe_core.specs.Jobs.{IsAtWork, with_begun}
use Rattle.lethe_core.specs.Merges.{IsBegunBy, room_choice}
use Rattle.lethe_core.specs.Running.{Holds, IsSound}
use Rattle.lethe_core.specs.StandsNow.{StandsNow}
use Rattle.lethe_core.specs.View.{Face, Flying, face_of, limited_of, view_of}
use Rattle.lethe_core.proofs.Begun.{begun_found, begun_holds, begun_sound, begun_stands, idle_holds, idle_sound, idle_stands}
use Rattle.lethe_core.proofs.Chosen.{begun_in}
use Rattle.lethe_core.proofs.holding.Core.begin_now.Given.{Over}
use Rattle.lethe_core.proofs.holding.Core.begin_now.Goals as goal
use goal.{After-begun}

-- Where there was no memory

pub returns-in_err-port-clause-sound : goal.returns-in_err-port-clause-sound
returns-in_err-port-clause-sound g c = idle_sound g.D.Disk.tells (view_of c.args.self.now) (g.D.Disk.seen c.port.new.self) (g.D.Disk.faults c.port.new.self) c.port.ensures.idle c.requires.sound

pub returns-in_err-port-clause-stands : goal.returns-in_err-port-clause-stands
returns-in_err-port-clause-stands g c = λ told. idle_stands (view_of c.args.self.now) (g.D.Disk.seen c.port.new.self) (g.D.Disk.faults c.port.new.self) (c.port.ensures.idle told)

pub returns-in_err-port-clause-held : goal.returns-in_err-port-clause-held
returns-in_err-port-clause-held g c = λ told. idle_holds (view_of c.args.self.now) (g.D.Disk.seen c.port.new.self) (g.D.Disk.faults c.port.new.self) (c.port.ensures.idle told)

pub returns-in_err-task-2-clause-sound : goal.returns-in_err-task-2-clause-sound
returns-in_err-task-2-clause-sound g c = idle_sound g.D.Disk.tells (view_of c.args.self.now) (g.D.Disk.seen c.port.new.self) (g.D.Disk.faults c.port.new.self) c.port.ensures.idle c.requires.sound

pub returns-in_err-task-2-clause-stands : goal.returns-in_err-task-2-clause-stands
returns-in_err-task-2-clause-stands g c = λ told. idle_stands (view_of c.args.self.now) (g.D.Disk.seen c.port.new.self) (g.D.Disk.faults c.port.new.self) (c.port.ensures.idle told)

pub returns-in_err-task-2-clause-held : goal.returns-in_err-task-2-clause-held
returns-in_err-task-2-clause-held g c = λ told. idle_holds (view_of c.args.self.now) (g.D.Disk.seen c.port.new.self) (g.D.Disk.faults c.port.new.self) (c.port.ensures.idle told)

pub returns-in_err-shared-clause-sound : goal.returns-in_err-shared-clause-sound
returns-in_err-shared-clause-sound g c = idle_sound g.D.Disk.tells (view_of c.args.self.now) (g.D.Disk.seen c.port.new.self) (g.D.Disk.faults c.port.new.self) c.port.ensures.idle c.requires.sound

pub returns-in_err-shared-clause-stands : goal.returns-in_err-shared-clause-stands
returns-in_err-shared-clause-stands g c = λ told. idle_stands (view_of c.args.self.now) (g.D.Disk.seen c.port.new.self) (g.D.Disk.faults c.port.new.self) (c.port.ensures.idle told)

pub returns-in_err-shared-clause-held : goal.returns-in_err-shared-clause-held
returns-in_err-shared-clause-held g c = λ told. idle_holds (view_of c.args.self.now) (g.D.Disk.seen c.port.new.self) (g.D.Disk.faults c.port.new.self) (c.port.ensures.idle told)

pub returns-in_err-begin-clause-sound : goal.returns-in_err-begin-clause-sound
returns-in_err-begin-clause-sound g c =
    let old = view_of c.args.self.now in
    subst (λ flights. IsSound g.D.Disk.tells (record old { disk = g.D.Disk.seen c.port.new.self; faults = g.D.Disk.faults c.port.new.self; flights = flights })) (sym c.in_err-begin.ensures.kept)
    (idle_sound g.D.Disk.tells old (g.D.Disk.seen c.port.new.self) (g.D.Disk.faults c.port.new.self) c.port.ensures.idle c.requires.sound)

pub returns-in_err-begin-clause-stands : goal.returns-in_err-begin-clause-stands
returns-in_err-begin-clause-stands g c = λ told config h stands.
    let old = view_of c.args.self.now in
    subst (λ flights. StandsNow config h (record old { disk = g.D.Disk.seen c.port.new.self; faults = g.D.Disk.faults c.port.new.self; flights = flights })) (sym c.in_err-begin.ensures.kept)
    (idle_stands old (g.D.Disk.seen c.port.new.self) (g.D.Disk.faults c.port.new.self) (c.port.ensures.idle told) config h stands)

pub returns-in_err-begin-clause-held : goal.returns-in_err-begin-clause-held
returns-in_err-begin-clause-held g c = λ told s holds.
    let old = view_of c.args.self.now in
    subst (λ flights. Holds (record old { disk = g.D.Disk.seen c.port.new.self; faults = g.D.Disk.faults c.port.new.self; flights = flights }) s) (sym c.in_err-begin.ensures.kept)
    (idle_holds old (g.D.Disk.seen c.port.new.self) (g.D.Disk.faults c.port.new.self) (c.port.ensures.idle told) s holds)

-- The job is in flight

-- it alone
flights_now : (g : Over) (c : After-begun g)
    → c.begin.new.self ≡ record { number = (view_of c.args.self.now).begun; task = plain_task c.in-Some.task; written = [] } ∷ []
flights_now g c =
    let value : c.in_ok-shared.shared.value ≡ c.in-Some.task = c.in_ok-shared.ensures.cases ∙ c.in_ok-task-2.ensures.ok in
    c.in_ok-begin.ensures.begun ∙ λ i. c.requires.free i ++ record { number = c.args.self.now.begun.jobs; task = plain_task (value i); written = [] } ∷ []

begun_more : (g : Over) (c : After-begun g) → c.in_ok-begun.begun ≡ c.args.self.now.begun.jobs + 1
begun_more g c = (subst (λ sum. SomeIff sum (c.args.self.now.begun.jobs + 1 < 2 ^ 64) (c.args.self.now.begun.jobs + 1)) c.in_ok-begun.ensures.ok_part c.checked_add.ensures).1

begun_is : (g : Over) (c : After-begun g) (s : Stored) → Holds (view_of c.args.self.now) s → IsBegunIn s (plain_task c.in-Some.task)
begun_is g c s holds = begun_in s (plain_task c.in-Some.task) (subst (λ found. IfSome found (λ task. IsBegunBy room_choice s (plain_task task))) c.in-Some.is (c.in_ok-task.ensures.some s holds))

pub returns-clause-sound : goal.returns-clause-sound
returns-clause-sound g c =
    let old = view_of c.args.self.now in
    let seen = g.D.Disk.seen c.port.new.self in
    let faults = g.D.Disk.faults c.port.new.self in
    let task = plain_task c.in-Some.task in
    let flying : Flying = record { number = old.begun; task = task; written = [] } in
    let levels = subst (λ found. IfSome found (λ task. IsInLevels old.state.manifest.config.levels (plain_task task))) c.in-Some.is c.in_ok-task.ensures.levels in
    let upto = subst (λ found. IfSome found (λ task. applied_upto (plain_task task) ≤ max_place)) c.in-Some.is c.in_ok-task.ensures.upto in
    let times = subst (λ found. IfSome found (λ task. All (λ erase. erase.time ≤ max_time) (erases_of (plain_task task)))) c.in-Some.is c.in_ok-task.ensures.times in
    subst (λ begun. IsSound g.D.Disk.tells (record old { disk = seen; faults = faults; flights = c.begin.new.self; begun = begun })) (sym (begun_more g c))
    (subst (λ flights. IsSound g.D.Disk.tells (record old { disk = seen; faults = faults; flights = flights; begun = old.begun + 1 })) (sym (flights_now g c))
    (idle_sound g.D.Disk.tells (record old { flights = flying ∷ []; begun = old.begun + 1 }) seen faults c.port.ensures.idle
    (begun_sound g.D.Disk.tells old task c.requires.free c.requires.runs c.requires.sound (begun_is g c) levels upto times)))

pub returns-clause-stands : goal.returns-clause-stands
returns-clause-stands g c = λ told config h stands.
    let old = view_of c.args.self.now in
    let seen = g.D.Disk.seen c.port.new.self in
    let faults = g.D.Disk.faults c.port.new.self in
    let task = plain_task c.in-Some.task in
    let flying : Flying = record { number = old.begun; task = task; written = [] } in
    subst (λ begun. StandsNow config h (record old { disk = seen; faults = faults; flights = c.begin.new.self; begun = begun })) (sym (begun_more g c))
    (subst (λ flights. StandsNow config h (record old { disk = seen; faults = faults; flights = flights; begun = old.begun + 1 })) (sym (flights_now g c))
    (idle_stands (record old { flights = flying ∷ []; begun = old.begun + 1 }) seen faults (c.port.ensures.idle told) config h
    (begun_stands g.D.Disk.tells old task c.requires.free c.requires.runs c.requires.sound (begun_is g c) config h stands)))

pub returns-clause-held : goal.returns-clause-held
returns-clause-held g c = λ told s holds.
    let old = view_of c.args.self.now in
    let seen = g.D.Disk.seen c.port.new.self in
    let faults = g.D.Disk.faults c.port.new.self in
    let task = plain_task c.in-Some.task in
    let flying : Flying = record { number = old.begun; task = task; written = [] } in
    subst (λ begun. Holds (record old { disk = seen; faults = faults; flights = c.begin.new.self; begun = begun }) s) (sym (begun_more g c))
    (subst (λ flights. Holds (record old { disk = seen; faults = faults; flights = flights; begun = old.begun + 1 }) s) (sym (flights_now g c))
    (idle_holds (record old { flights = flying ∷ []; begun = old.begun + 1 }) seen faults (c.port.ensures.idle told) s
    (begun_holds g.D.Disk.tells old task c.requires.free c.requires.runs c.requires.sound (begun_is g c) s holds)))

pub returns-clause-works : goal.returns-clause-works
returns-clause-works g c =
    let old = view_of c.args.self.now in
    let flying : Flying = record { number = old.begun; task = plain_task c.in-Some.task; written = [] } in
    subst (IsAtWork g.D.Disk.tells _) (sym c.begun.ensures.is) (record {
      flies = record {
        flying = flying;
        is = ap (flying_by old.begun) (flights_now g c) ∙ begun_found flying;
        task = ap plain_task c.in_ok-task-2.ensures.ok;
        round = refl;
      };
      asked = refl;
      job_is = record { made = tt; few = tt; unmade = λ none. refl };
      count = refl;
      pages = tt;
    })

pub returns-clause-face : goal.returns-clause-face
returns-clause-face g c =
    let old = view_of c.args.self.now in
    let face : Face = with_begun (face_of old) (plain_task c.in_ok-task-2.task.value) in
    let flights = c.in_ok-begin.ensures.begun ∙ λ i. old.flights ++ record { number = old.begun; task = plain_task (c.in_ok-shared.ensures.cases i); written = [] } ∷ [] in
    let is : record { begun = c.in_ok-begun.begun; rounds = old.rounds; flights = c.begin.new.self; made = old.pins.made; held = map limited_of old.pins.pins } ≡ face =
    λ i. record { begun = begun_more g c i; rounds = old.rounds; flights = flights i; made = old.pins.made; held = map limited_of old.pins.pins } in
    is ∙ ap (λ job. with_begun (face_of old) (plain_task job.task.value)) (sym c.begun.ensures.is)
