use Rattle.std.proofs.Common.{◌≡◌, ℕ, Vec, Result, Ok, Err, sym, subst}
use Rattle.std.specs.Prelude.{IsErrAnd}
use Rattle.std.specs.declared.alloc.Global.{Global}
use Rattle.lethe_base.specs.declared.entry.Entry.{Entry}
use Rattle.lethe_build.specs.declared.draft.Draft.{Draft}
use Rattle.lethe_disk.specs.Reads.{HasReadCause}
use Rattle.lethe_disk.specs.declared.cursor.ReadRefused.{ReadRefused}
use Rattle.lethe_disk.proofs.Causes.{cause_as}
use Rattle.lethe_job.proofs.merge.MergeTask.outcome.Goals as goal

-- the same refusal, handed on by a `?`
handed_on : (old new : ℕ) (result : Result (Vec Draft Global) ReadRefused) (why : ReadRefused) → IsErrAnd result (λ e. e ≡ why) → HasReadCause {T = Vec Entry Global} old new (Err why) → HasReadCause {T = Vec Draft Global} old new result
handed_on old new (Ok drafts) why is cause = absurd is
handed_on old new (Err other) why is cause = subst (λ (w : ReadRefused). HasReadCause {T = Vec Draft Global} old new (Err w)) (sym is) (cause_as {T = Vec Entry Global} {U = Vec Draft Global} old new why cause)

pub returns-in_err-entries-clause-cause : goal.returns-in_err-entries-clause-cause
returns-in_err-entries-clause-cause g c =
    handed_on (g.D.Disk.port_faults c.args.port.now) (g.D.Disk.port_faults c.entries.new.port) c.from_residual.result c.in_err-entries.field-0.0 c.from_residual.ensures.1 c.in_err-entries.ensures.cause
