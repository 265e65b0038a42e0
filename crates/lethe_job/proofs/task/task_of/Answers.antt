use Rattle.std.proofs.Common.{◌≤◌, leb, map, sym, subst}
use Rattle.std.specs.Prelude.{All}
use Rattle.std.proofs.lemmas.List.Elements.{All-filter}
use Rattle.lethe_base.specs.Limits.{max_place, max_time}
use Rattle.lethe_base.specs.declared.config.Fields.{Fields}
use Rattle.lethe_base.specs.declared.pending.Pending.{Pending}
use Rattle.lethe_sweep_task.specs.Outcome.{plain_sweep}
use Rattle.lethe_job.specs.Tasks.{plain_file}
use Rattle.lethe_job.specs.Works.{IsPlanIn}
use Rattle.lethe_job.proofs.SweepPlanned.{found_sweep, sweep_counted, sweep_from, sweep_low, sweep_planned, sweep_times, sweep_upto}
use Rattle.lethe_job.proofs.task.task_of.Goals as goal

pub returns-in_ok-merge-in-None-clause-times : goal.returns-in_ok-merge-in-None-clause-times
returns-in_ok-merge-in-None-clause-times g c = λ each.
    subst (All (λ (erase : Pending). erase.time ≤ max_time)) (sym c.in_ok-merge-in-None.ensures.erases)
    (All-filter (λ (erase : Pending). leb erase.seq c.args.count) (λ (erase : Pending). erase.time ≤ max_time) c.args.erases.now each)

pub returns-in_ok-sweep-in-Some-clause-planned : goal.returns-in_ok-sweep-in-Some-clause-planned
returns-in_ok-sweep-in-Some-clause-planned g c = λ s store names.
    let files = map plain_file c.args.files.now in
    let levels = c.fields.result.now.levels in
    let task = plain_sweep c.in_ok-sweep-in-Some.sweep in
    let one = found_sweep levels c.args.plan c.in-Some.place files c.args.erases.now task c.in_ok-sweep-in-Some.ensures in
    sweep_planned levels c.args.plan c.in-Some.place files c.args.erases.now task one s store.coherent store.files_are store.erases_are c.in-Some.is
    (subst (IsPlanIn s c.args.plan.file) c.in-Some.is names)

pub returns-in_ok-sweep-in-Some-clause-levels : goal.returns-in_ok-sweep-in-Some-clause-levels
returns-in_ok-sweep-in-Some-clause-levels g c =
    let files = map plain_file c.args.files.now in
    let levels = c.fields.result.now.levels in
    let task = plain_sweep c.in_ok-sweep-in-Some.sweep in
    let one = found_sweep levels c.args.plan c.in-Some.place files c.args.erases.now task c.in_ok-sweep-in-Some.ensures in
    subst (λ (fields : Fields). task.file.level ≤ fields.levels) c.fields.ensures.fields (sweep_low levels c.args.plan c.in-Some.place files c.args.erases.now task one)

pub returns-in_ok-sweep-in-Some-clause-upto : goal.returns-in_ok-sweep-in-Some-clause-upto
returns-in_ok-sweep-in-Some-clause-upto g c = λ few each.
    let files = map plain_file c.args.files.now in
    let levels = c.fields.result.now.levels in
    let task = plain_sweep c.in_ok-sweep-in-Some.sweep in
    let one = found_sweep levels c.args.plan c.in-Some.place files c.args.erases.now task c.in_ok-sweep-in-Some.ensures in
    sweep_upto levels c.args.plan c.in-Some.place files c.args.erases.now task one max_place each

pub returns-in_ok-sweep-in-Some-clause-times : goal.returns-in_ok-sweep-in-Some-clause-times
returns-in_ok-sweep-in-Some-clause-times g c = λ each.
    let files = map plain_file c.args.files.now in
    let levels = c.fields.result.now.levels in
    let task = plain_sweep c.in_ok-sweep-in-Some.sweep in
    let one = found_sweep levels c.args.plan c.in-Some.place files c.args.erases.now task c.in_ok-sweep-in-Some.ensures in
    sweep_times levels c.args.plan c.in-Some.place files c.args.erases.now task one max_time each

pub returns-in_ok-sweep-in-Some-clause-some_of : goal.returns-in_ok-sweep-in-Some-clause-some_of
returns-in_ok-sweep-in-Some-clause-some_of g c =
    let files = map plain_file c.args.files.now in
    let levels = c.fields.result.now.levels in
    let task = plain_sweep c.in_ok-sweep-in-Some.sweep in
    let one = found_sweep levels c.args.plan c.in-Some.place files c.args.erases.now task c.in_ok-sweep-in-Some.ensures in
    sweep_counted levels c.args.plan c.in-Some.place files c.args.erases.now task one

pub returns-in_ok-sweep-in-Some-clause-inputs : goal.returns-in_ok-sweep-in-Some-clause-inputs
returns-in_ok-sweep-in-Some-clause-inputs g c =
    let files = map plain_file c.args.files.now in
    let levels = c.fields.result.now.levels in
    let task = plain_sweep c.in_ok-sweep-in-Some.sweep in
    let one = found_sweep levels c.args.plan c.in-Some.place files c.args.erases.now task c.in_ok-sweep-in-Some.ensures in
    sweep_from levels c.args.plan c.in-Some.place files c.args.erases.now task one
