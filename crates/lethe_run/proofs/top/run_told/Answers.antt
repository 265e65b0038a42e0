use Rattle.std.proofs.Common.{ap, ◌∙◌}
use Rattle.lethe_run.specs.Reasons.{status_of}
use Rattle.lethe_run.specs.Status.{code_of}
use Rattle.lethe_run.proofs.Ending.{ends_so}
use Rattle.lethe_run.proofs.Named.{ends_by_cases}
use Rattle.lethe_run.proofs.top.run_told.Goals as goal

pub returns : goal.returns
returns g c =
    let why = c.carry_out-reason.result.0 in
    record {
      ends = rw c.code.ensures (rw c.status.ensures (ends_by_cases _ (status_of why) (ends_so _ why c.carry_out-reason.ensures)));
      reason = (c.code.ensures ∙ ap code_of c.status.ensures, c.carry_out-reason.ensures);
    }
