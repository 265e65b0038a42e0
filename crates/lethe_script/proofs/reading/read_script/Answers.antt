use Rattle.std.proofs.Common.{Ok, sym, ap, ◌∙◌}
use Rattle.lethe_script.proofs.Counts.{script_few}
use Rattle.lethe_script.proofs.SlotLemmas.{script_slotted}
use Rattle.lethe_script.proofs.reading.read_script.Goals as goal

pub returns-clause-few : goal.returns-clause-few
returns-clause-few c =
    let read = rw c.within_limit.ensures.bytes at c.in_ok-phases.ensures in
    script_few _ c.args.bytes.now c.of.result (read ∙ ap Ok (sym c.of.ensures))

pub returns-clause-slots : goal.returns-clause-slots
returns-clause-slots c =
    let read = rw c.within_limit.ensures.bytes at c.in_ok-phases.ensures in
    script_slotted _ c.args.bytes.now c.of.result (read ∙ ap Ok (sym c.of.ensures))
