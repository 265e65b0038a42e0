use Rattle.std.proofs.Common.{sym, ap, ◌∙◌}
use Rattle.std.specs.Prelude.{is_some}
use Rattle.lethe_state.specs.Clock.{clock_of}
use Rattle.lethe_core.specs.View.{View, view_of}
use Rattle.lethe_core.proofs.Likes.{jobs_same}
use Rattle.lethe_engine.proofs.RowsSince.{is_there, none_there, row_answers, stopped_answers}
use Rattle.lethe_engine.proofs.engine.Engine.change_row.Goals as goal

pub returns-then-is_some-clause-answers : goal.returns-then-is_some-clause-answers
returns-then-is_some-clause-answers g c =
    let old = view_of c.args.self.now.core in
    stopped_answers g.D.Disk.tells c.args.asked.now.items old c.requires (is_there old.state.stopped (ap is_some (sym c.stopped.ensures) ∙ sym c.is_some.ensures ∙ c.if-is_some.true))

pub returns-clause-answers : goal.returns-clause-answers
returns-clause-answers g c =
    let old = view_of c.args.self.now.core in
    let new : View = view_of c.record_row.new.core in
    let is = c.record_row.ensures in
    let face = jobs_same c.args.self.now.core c.record_row.new.core is.begun is.flights is.pins in
    row_answers g.D.Disk.tells c.args.asked.now.items c.record_row.new.asked.items c.record_row.result.done c.record_row.result.refused old new (none_there old.state.stopped (ap is_some (sym c.stopped.ensures) ∙ sym c.is_some.ensures ∙ c.if-is_some.false)) (ap clock_of is.manifest) face (ap (λ names. names.items) is.retired) is.row
