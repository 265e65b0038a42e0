use Rattle.std.proofs.Common.{◌≡◌, Err, sym, ap, ◌∙◌, subst}
use Rattle.std.specs.Prelude.{Any}
use Rattle.lethe_base.specs.declared.refused.Refused.TheVariants.{Damaged}
use Rattle.lethe_job.specs.Jobs.{IsUnread}
use Rattle.lethe_job.specs.Tasks.{HasDamaged}
use Rattle.lethe_job.specs.Works.{inputs_in, plain_task}
use Rattle.lethe_job.specs.declared.task.Task.{Task}
use Rattle.lethe_job.proofs.Pieces.{unread}
use Rattle.lethe_job.proofs.Told.{damaged_as}
use Rattle.lethe_job.proofs.job.Job.make.Goals as goal

pub returns-in-Err-clause-unread : goal.returns-in-Err-clause-unread
returns-in-Err-clause-unread g c =
    subst (λ (task : Task g.row.D.Denot g.row.D-Page.Denot g.row.D-Port.Denot g.D.Disk). IsUnread g.D.Disk.tells g.D.Disk.ports_fail (inputs_in (plain_task task)) (g.D.Disk.port_faults c.args.self.now.port) (g.D.Disk.port_faults c.outcome.new.port) c.told_as.result) c.deref.ensures
    (unread g.D.Disk.tells g.D.Disk.ports_fail (inputs_in (plain_task c.deref.result.now)) (g.D.Disk.port_faults c.args.self.now.port) (g.D.Disk.port_faults c.outcome.new.port) c.in-Err.why c.told_as.result
    c.told_as.ensures c.in-Err.ensures.cause c.in-Err.ensures.can_fail (λ name e. (c.in-Err.ensures.damaged name e).0) c.in-Err.ensures.undamaged)

pub returns-in-Err-clause-damaged : goal.returns-in-Err-clause-damaged
returns-in-Err-clause-damaged g c = λ name e.
    let told : c.told_as.result ≡ Damaged name = cc in
    let read = damaged_as c.in-Err.why name (sym c.told_as.ensures ∙ told) in
    let found = c.in-Err.ensures.damaged name (ap Err read) in (
      subst (λ (task : Task g.row.D.Denot g.row.D-Page.Denot g.row.D-Port.Denot g.D.Disk). Any (HasDamaged g.D.Disk.tells name) (inputs_in (plain_task task))) c.deref.ensures found.0,
      found.1,
    )
