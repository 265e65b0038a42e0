use Rattle.std.proofs.Common.{refl, arith}
use Rattle.lethe_header.specs.Facts.{lines_of}
use Rattle.lethe_sweep_task.proofs.Behind.{each_before, most_before}
use Rattle.lethe_sweep_task.proofs.Counting.{has_line}
use Rattle.lethe_sweep_task.proofs.task.SweepTask.new.Goals as goal

pub invariant_of-result : goal.invariant_of-result
invariant_of-result g c = record { behind = each_before c.args.erase.seq (lines_of c.args.file.file.value.header.tiles) (omega (arith, c.max_seq.ensures, c.if-max_seq-erase.false)) }

pub returns-clause-is : goal.returns-clause-is
returns-clause-is g c = (c.result-1.given.0, refl)

pub returns-then-max_seq-erase-clause-none : goal.returns-then-max_seq-erase-clause-none
returns-then-max_seq-erase-clause-none g c = λ none behind.
    let view = c.args.file.file.value in
    let most = most_before c.args.erase.seq (lines_of view.header.tiles) (has_line view.header view.spelled) behind in
    omega (arith, most, c.max_seq.ensures, c.if-max_seq-erase.true)
