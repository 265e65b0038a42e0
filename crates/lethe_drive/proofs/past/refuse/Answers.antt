use Rattle.std.proofs.Common.{◌≡◌, ℕ, Option, sym, ap, ◌∙◌}
use Rattle.lethe_base.specs.declared.refused.Refused.TheVariants.{Cancelled}
use Rattle.lethe_drive.specs.Past.{refusal_of}
use Rattle.lethe_drive.specs.declared.event.Reply.TheVariants as reply
use Rattle.lethe_drive.proofs.Among.{refused_again, refused_at, refused_first}
use Rattle.lethe_drive.proofs.past.refuse.Goals as goal
use Rattle.lethe_drive.proofs.past.refuse.Goals.{in-None, in-Some}

pub returns-then-job-clause-refused : goal.returns-then-job-clause-refused
returns-then-job-clause-refused g c =
    let job = c.index-job.result.now in
    let stopped = c.args.engine.now.core.state.stopped in
    let now = c.args.engine.now.core.begun.rounds in
    refused_at c.args.past.now.items c.args.place c.requires job c.index-job.ensures c.index_mut.result.now c.index_mut.ensures.value stopped now reply.NoSuch
    (refused_again stopped now job c.if-job.true)

pub returns-clause-refused : goal.returns-clause-refused
returns-clause-refused g c =
    let job = c.index-job.result.now in
    let stopped = c.args.engine.now.core.state.stopped in
    let now = c.args.engine.now.core.begun.rounds in
    let why = c.match-stopped.result in
    let told : why ≡ refusal_of stopped job.round now = elim c.match-stopped.branch [
      | in-Some w ↦ w.result-is ∙ sym (ap (λ (stopped : Option ℕ). refusal_of stopped job.round now) (sym c.stopped.ensures ∙ w.in-Some.is))
      | in-None w ↦ w.result-is ∙ (λ i. Cancelled job.round (w.rounds.ensures i)) ∙ sym (ap (λ (stopped : Option ℕ). refusal_of stopped job.round now) (sym c.stopped.ensures ∙ w.in-None.is))
    ] in
    refused_at c.args.past.now.items c.args.place c.requires job c.index-job.ensures c.index_mut.result.now c.index_mut.ensures.value stopped now (reply.Refused why)
    (refused_first stopped now job why c.if-job.false told)
