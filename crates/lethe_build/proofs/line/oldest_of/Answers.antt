use Rattle.std.proofs.Common.{take, sym, ap, ◌∙◌}
use Rattle.lethe_base.specs.Shapes.{earlier, oldest_of}
use Rattle.lethe_build.proofs.Lines.{oldest_more}
use Rattle.lethe_build.proofs.line.oldest_of.Goals as goal

pub loop-entry-preserved : goal.loop-entry-preserved
loop-entry-preserved c =
    let entries = c.args.entries.now in
    let i = c.loop-entry.entry-index in
    let entry = c.entry-item.result in
    c.earlier-oldest.ensures
    ∙ ap (λ time. earlier time entry.since) c.loop-entry.invariant
    ∙ ap (λ e. earlier (oldest_of (take i entries)) e.since) c.entry-item.is
    ∙ sym (oldest_more entries i entry c.loop-entry-test.true)
