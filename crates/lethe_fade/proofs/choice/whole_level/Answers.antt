use Rattle.std.proofs.Common.{◌≡◌, min, fold, take, ap, ◌∙◌}
use Rattle.std.proofs.lemmas.List.{take_all}
use Rattle.lethe_fade.proofs.Chosen.{whole_result}
use Rattle.lethe_fade.proofs.choice.whole_level.Goals as goal

pub returns : goal.returns
returns c =
    let others = c.in_ok-first.others.now in
    let all : take c.loop-file.file-index others ≡ others = take_all c.loop-file.file-index others c.loop-file-test.false in
    c.then_some.ensures
    ∙ whole_result c.args.claims.now c.args.files.now others c.args.next.now c.in_ok-first.first.now c.of_all.result c.loop-file.least c.is_merge_free.result
    c.in_ok-first.ensures.cases.0
    c.of_all.ensures
    (c.loop-file.invariant ∙ ap (fold (λ least file. min least file.no) c.in_ok-first.first.now.no) all)
    c.is_merge_free.ensures
