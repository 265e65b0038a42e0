use Rattle.std.proofs.Common.{ap, ◌∙◌}
use Rattle.lethe_core.specs.View.{Face, view_of}
use Rattle.lethe_engine.proofs.Rounds.{flies_still}
use Rattle.lethe_engine.proofs.engine.Engine.install.Goals as goal

pub returns-in-Err-clause-back : goal.returns-in-Err-clause-back
returns-in-Err-clause-back g c =
    let old = view_of c.args.self.now.core in
    let new = view_of c.install_whole.new.self.core in
    let refused = c.refuse.ensures in
    let same = c.install_whole.ensures.job in
    let face = c.in-Err.ensures.answers.face_is in (
      λ flies. flies_still old new c.args.job c.refuse.new.self (ap (λ job. job.number) refused ∙ ap (λ job. job.number) same) (ap (λ job. job.task.value) refused ∙ ap (λ job. job.task.value) same)
          (ap (λ job. job.round) refused ∙ ap (λ job. job.round) same) flies (ap (λ (face : Face). face.flights) face) (ap (λ (face : Face). face.rounds) face),
      ap (λ job. job.refused) refused,
    )
