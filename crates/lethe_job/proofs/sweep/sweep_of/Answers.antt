use Rattle.std.proofs.Common.{◌≡◌, None, Some, map, sym, ◌∙◌}
use Rattle.lethe_job.specs.Tasks.{plain_file}
use Rattle.lethe_job.proofs.SweepPlanned.{some_erase, some_file}
use Rattle.lethe_job.proofs.sweep.sweep_of.Goals as goal

pub unreachable-requires : goal.unreachable-requires
unreachable-requires g c =
    let there = some_file c.args.levels c.args.plan c.args.place (map plain_file c.args.files.now) c.args.erases.now c.requires.file in
    let clash : None ≡ Some there.0 = c.in_default.ensures ∙ there.1 in
    cc

pub unreachable-requires-in_default-erase_at : goal.unreachable-requires-in_default-erase_at
unreachable-requires-in_default-erase_at g c =
    let there = some_erase c.args.levels c.args.plan c.args.place (map plain_file c.args.files.now) c.args.erases.now c.requires.erase in
    let clash : None ≡ Some there.0 = sym c.in_default-erase_at.is ∙ c.erase_at.ensures ∙ there.1 in
    cc
