use Rattle.std.proofs.Common.{Bool, true, false, Some, refl, sym, ap, ◌∙◌}
use Rattle.std.proofs.lemmas.Bool.{and_from, and_left, and_right}
use Rattle.std.specs.Option.{option_map}
use Rattle.lethe_fade.specs.declared.rank.Age.{Age}
use Rattle.lethe_fade.specs.Candidates.{is_free}
use Rattle.lethe_fade.specs.Sweeps.{is_unswept, sweep_of, sweep_plan}
use Rattle.lethe_fade.proofs.Oldest.{oldest_result, oldest_step}
use Rattle.lethe_fade.proofs.Sweeping.{is_free_sweep, swept, unswept}
use Rattle.lethe_fade.proofs.sweeps.oldest_unswept.Goals as goal
use Rattle.lethe_fade.proofs.sweeps.oldest_unswept.Goals.{then-file-place+then-is_free, else-file-place, else-file-place-via-then-file-place+else-is_free, else-file-place-via-else-file-place}

pub loop-file-preserved : goal.loop-file-preserved
loop-file-preserved c =
    let place = c.args.place in
    let level = c.args.level in
    let claims = c.args.claims.now in
    let file = c.file-item.result in
    let kept : Bool = is_unswept place file in
    let free : Bool = is_free claims (sweep_of place level file) in
    let more =
    oldest_step (is_unswept place) (sweep_of place level) claims c.args.files.now c.loop-file.file-index file c.loop-file.oldest c.loop-file-test.true c.file-item.is
    c.loop-file.invariant
    in
    elim c.if-file-place.branch [
      | then-file-place+then-is_free w ↦
          w.oldest-is ∙ ap Some w.older.ensures
          ∙ more.taken (and_from kept free (unswept place file w.if-file-place.true)
          (is_free_sweep place level claims file w.of.result w.is_free.result true w.of.ensures w.is_free.ensures w.if-is_free.true))
      | else-file-place w ↦ elim w.else-file-place.branch [
        | else-file-place-via-then-file-place+else-is_free v ↦
            w.oldest-is
            ∙ more.passed (and_right kept free (is_free_sweep place level claims file v.of.result v.is_free.result false v.of.ensures v.is_free.ensures v.if-is_free.false))
        | else-file-place-via-else-file-place v ↦ w.oldest-is ∙ more.passed (and_left kept free (swept place file v.if-file-place.false))
      ]
    ]

pub returns-in_err-age : goal.returns-in_err-age
returns-in_err-age c =
    c.from_residual.ensures ∙ ap (option_map (λ (a : Age). sweep_plan c.args.place a.no)) (sym c.in_err-age.was)
    ∙ oldest_result (is_unswept c.args.place) (sweep_of c.args.place c.args.level) c.args.claims.now (sweep_plan c.args.place) (λ file. refl)
    c.args.files.now c.loop-file.file-index c.loop-file.oldest c.loop-file-test.false c.loop-file.invariant

pub returns : goal.returns
returns c =
    ap (option_map (λ (a : Age). sweep_plan c.args.place a.no)) (sym c.in_ok-age.was)
    ∙ oldest_result (is_unswept c.args.place) (sweep_of c.args.place c.args.level) c.args.claims.now (sweep_plan c.args.place) (λ file. refl)
    c.args.files.now c.loop-file.file-index c.loop-file.oldest c.loop-file-test.false c.loop-file.invariant
