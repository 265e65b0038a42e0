use Rattle.std.proofs.Common.{◌+◌, Result, Ok, Err, ℕ, List, true, refl, sym, subst}
use Rattle.std.specs.Prelude.{OnOk}
use Rattle.lethe_base.specs.declared.name.Name.{Name}
use Rattle.lethe_base.specs.declared.refused.Refused.{Refused}
use Rattle.lethe_file.specs.Agreement.{page_name}
use Rattle.lethe_job.specs.Jobs.{next_bytes}
use Rattle.lethe_core.specs.Jobs.{IsAtWork, IsInFlight}
use Rattle.lethe_core.specs.View.{view_of}
use Rattle.lethe_engine.proofs.AtWork.{one_more}
use Rattle.lethe_engine.proofs.Rounds.{flies_written}
use Rattle.lethe_engine.proofs.engine.Engine.write_out.Goals as goal

-- where it was written the job was at work
written_then : {P : Type 0} (Q : Type 0) (result : Result (Unit {0}) Refused) → OnOk result P → (P → OnOk result Q) → OnOk result Q
written_then Q (Ok done) is then = then is
written_then Q (Err why) is then = tt

pub returns-then-is_ok-clause-works : goal.returns-then-is_ok-clause-works
returns-then-is_ok-clause-works g c =
    let new = view_of c.write_next-written.new.self.core in
    let result = c.write_next-written.result in
    subst (λ job. OnOk result (IsAtWork g.D.Disk.tells new job)) (sym c.count_written.ensures.written)
    (written_then (IsAtWork g.D.Disk.tells new (record c.args.job.now { written = c.args.job.now.written + 1 })) result c.write_next-written.ensures.present (λ works.
    one_more g.D.Disk.tells (view_of c.args.self.now.core) c.args.job.now works c.args.piece c.requires.next new (page_name c.args.self.now.core.state.next) result c.write_next-written.ensures.answers.face_is))

pub returns-then-is_ok-clause-flies : goal.returns-then-is_ok-clause-flies
returns-then-is_ok-clause-flies g c = λ flies.
    let old = view_of c.args.self.now.core in
    let new = view_of c.write_next-written.new.self.core in
    let job = c.args.job.now in
    let page : Name × List ℕ = (page_name old.state.next, next_bytes job) in
    subst (λ job. IsInFlight new job) (sym c.count_written.ensures.written)
    (flies_written old new job (record job { written = job.written + 1 }) refl refl refl flies page c.write_next-written.result c.write_next-written.ensures.answers.face_is)

pub returns-else-is_ok-clause-flies : goal.returns-else-is_ok-clause-flies
returns-else-is_ok-clause-flies g c = λ flies.
    let old = view_of c.args.self.now.core in
    let new = view_of c.write_next-written.new.self.core in
    let job = c.args.job.now in
    let page : Name × List ℕ = (page_name old.state.next, next_bytes job) in
    subst (λ job. IsInFlight new job) (sym c.refuse.ensures)
    (flies_written old new job (record job { refused = true }) refl refl refl flies page c.write_next-written.result c.write_next-written.ensures.answers.face_is)
