use Rattle.std.proofs.Common.{Option, Vec, sym, subst}
use Rattle.std.specs.Prelude.{Any}
use Rattle.std.specs.declared.alloc.Global.{Global}
use Rattle.lethe_build.specs.declared.draft.Draft.{Draft}
use Rattle.lethe_disk.proofs.Causes.{cause_as, damage_as}
use Rattle.lethe_swept.specs.declared.draft.SweptDraft.{SweptDraft}
use Rattle.lethe_sweep_task.specs.Outcome.{plain_sweep}
use Rattle.lethe_job.specs.Tasks.{AreSound, HasDamaged}
use Rattle.lethe_job.specs.Works.{AreOutputs, inputs_in, plain_task}
use Rattle.lethe_job.specs.declared.made.Made.{Made}
use Rattle.lethe_job.specs.declared.made.Made.TheVariants.{Files, Left}
use Rattle.lethe_job.specs.declared.task.Task.{Task}
use Rattle.lethe_job.proofs.SweepMade.{one_sound, sweep_damaged, sweep_output}
use Rattle.lethe_job.proofs.task.Task.outcome.Goals as goal

-- A merge

pub returns-in-Ok-clause-outputs : goal.returns-in-Ok-clause-outputs
returns-in-Ok-clause-outputs g c =
    let drafts = c.in-Ok.ensures in
    subst (λ (task : Task g.row.D.Denot g.row.D-Page.Denot g.row.D-Port.Denot g.D.Disk). AreOutputs g.D.Disk.tells (plain_task task) (Files c.in-Ok.drafts)) (sym c.in-Merge.is)
    (record { each = drafts.each; few = drafts.few; bounded = drafts.bounded; told = drafts.drafts })

pub returns-in-Err-clause-undamaged : goal.returns-in-Err-clause-undamaged
returns-in-Err-clause-undamaged g c = λ told sound name e.
    c.in-Err.ensures.undamaged told (subst (λ (task : Task g.row.D.Denot g.row.D-Page.Denot g.row.D-Port.Denot g.D.Disk). AreSound (inputs_in (plain_task task))) c.in-Merge.is sound) name
    (damage_as {T = Vec Draft Global} {U = Made} c.in-Err.why name e)

pub returns-in-Err-clause-cause : goal.returns-in-Err-clause-cause
returns-in-Err-clause-cause g c =
    cause_as {T = Vec Draft Global} {U = Made} (g.D.Disk.port_faults c.args.port.now) (g.D.Disk.port_faults c.outcome.new.port) c.in-Err.why c.in-Err.ensures.cause

-- A sweep

pub returns-in-Ok-outcome-clause-outputs : goal.returns-in-Ok-outcome-clause-outputs
returns-in-Ok-outcome-clause-outputs g c =
    let draft = c.in-Ok-outcome.ensures in
    subst (λ (task : Task g.row.D.Denot g.row.D-Page.Denot g.row.D-Port.Denot g.D.Disk). AreOutputs g.D.Disk.tells (plain_task task) (Left c.in-Ok-outcome.draft)) (sym c.in-Sweep.is)
    (sweep_output g.D.Disk.tells (plain_sweep c.in-Sweep.sweep) c.in-Ok-outcome.draft draft.each draft.few draft.bounded draft.left)

pub returns-in-Err-outcome-clause-damaged : goal.returns-in-Err-outcome-clause-damaged
returns-in-Err-outcome-clause-damaged g c = λ name e.
    let named = c.in-Err-outcome.ensures.damaged name (damage_as {T = Option SweptDraft} {U = Made} c.in-Err-outcome.why name e) in (
      subst (λ (task : Task g.row.D.Denot g.row.D-Page.Denot g.row.D-Port.Denot g.D.Disk). Any (HasDamaged g.D.Disk.tells name) (inputs_in (plain_task task))) (sym c.in-Sweep.is)
          (sweep_damaged g.D.Disk.tells (plain_sweep c.in-Sweep.sweep) name named.0),
      named.1,
    )

pub returns-in-Err-outcome-clause-undamaged : goal.returns-in-Err-outcome-clause-undamaged
returns-in-Err-outcome-clause-undamaged g c = λ told sound name e.
    let own = subst (λ (task : Task g.row.D.Denot g.row.D-Page.Denot g.row.D-Port.Denot g.D.Disk). AreSound (inputs_in (plain_task task))) c.in-Sweep.is sound in
    c.in-Err-outcome.ensures.undamaged told (one_sound (plain_sweep c.in-Sweep.sweep).file own) name (damage_as {T = Option SweptDraft} {U = Made} c.in-Err-outcome.why name e)

pub returns-in-Err-outcome-clause-cause : goal.returns-in-Err-outcome-clause-cause
returns-in-Err-outcome-clause-cause g c =
    cause_as {T = Option SweptDraft} {U = Made} (g.D.Disk.port_faults c.args.port.now) (g.D.Disk.port_faults c.outcome-in-Sweep.new.port) c.in-Err-outcome.why c.in-Err-outcome.ensures.cause
