use Rattle.std.proofs.Common.{◌≡◌, ◌<◌, ◌≤◌, map}
use Rattle.std.specs.Prelude.{All, Contains}
use Rattle.std.proofs.lemmas.Result.{IfOk-weaker}
use Rattle.lethe_job.specs.Chosen.{merge_in}
use Rattle.lethe_job.specs.Tasks.{IsPlannedMerge, counted_in, merge_inputs, plain_file, plain_merge}
use Rattle.lethe_job.proofs.Next.{level_small, planned, some_source, task_from, task_low, task_some}
use Rattle.lethe_job.proofs.merge.merge_of.Goals as goal

pub merge_in-requires-clause-level : goal.merge_in-requires-clause-level
merge_in-requires-clause-level g c κs within =
    level_small c.args.files.now c.args.config.now c.args.erases.now c.args.count c.fields.ensures.limits c.args.plan c.fields.result.now c.fields.ensures.fields c.in-Some.level c.in-Some.ensures

pub merge_in-requires-clause-some : goal.merge_in-requires-clause-some
merge_in-requires-clause-some g c κs within =
    some_source c.args.files.now c.args.config.now c.args.erases.now c.args.count c.fields.ensures.limits c.args.plan c.fields.result.now c.fields.ensures.fields c.in-Some.level c.in-Some.ensures

pub returns-clause-planned : goal.returns-clause-planned
returns-clause-planned g c = λ s store.
    let files = map plain_file c.args.files.now in
    IfOk-weaker c.merge_in.result (λ task. plain_merge task ≡ merge_in c.in-Some.level c.args.plan files c.args.config.now c.args.erases.now c.args.count)
    (λ task. IsPlannedMerge s (plain_merge task))
    (λ task is. planned c.args.files.now c.args.config.now c.args.erases.now c.args.count c.fields.ensures.limits c.args.plan c.fields.result.now c.fields.ensures.fields c.in-Some.level c.in-Some.ensures
    (plain_merge task) is s store) c.merge_in.ensures

pub returns-clause-level : goal.returns-clause-level
returns-clause-level g c =
    let files = map plain_file c.args.files.now in
    IfOk-weaker c.merge_in.result (λ task. plain_merge task ≡ merge_in c.in-Some.level c.args.plan files c.args.config.now c.args.erases.now c.args.count) (λ task. task.level < c.args.config.now.levels)
    (λ task is. task_low c.args.files.now c.args.config.now c.args.erases.now c.args.count c.fields.ensures.limits c.args.plan c.fields.result.now c.fields.ensures.fields c.in-Some.level c.in-Some.ensures
    (plain_merge task) is) c.merge_in.ensures

pub returns-clause-some_of : goal.returns-clause-some_of
returns-clause-some_of g c =
    let files = map plain_file c.args.files.now in
    IfOk-weaker c.merge_in.result (λ task. plain_merge task ≡ merge_in c.in-Some.level c.args.plan files c.args.config.now c.args.erases.now c.args.count) (λ task. counted_in (merge_inputs (plain_merge task)) ≤ counted_in files)
    (λ task is. task_some c.in-Some.level c.args.plan files c.args.config.now c.args.erases.now c.args.count (plain_merge task) is) c.merge_in.ensures

pub returns-clause-inputs : goal.returns-clause-inputs
returns-clause-inputs g c =
    let files = map plain_file c.args.files.now in
    IfOk-weaker c.merge_in.result (λ task. plain_merge task ≡ merge_in c.in-Some.level c.args.plan files c.args.config.now c.args.erases.now c.args.count) (λ task. All (Contains files) (merge_inputs (plain_merge task)))
    (λ task is. task_from c.in-Some.level c.args.plan files c.args.config.now c.args.erases.now c.args.count (plain_merge task) is) c.merge_in.ensures
