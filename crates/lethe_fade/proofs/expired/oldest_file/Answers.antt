use Rattle.std.proofs.Common.{◌≡◌, Bool, true, false, Some, refl, sym, ap, ◌∙◌}
use Rattle.std.proofs.lemmas.Bool.{and_from, and_left, and_right}
use Rattle.std.specs.Option.{option_map}
use Rattle.lethe_fade.specs.declared.rank.Age.{Age}
use Rattle.lethe_fade.specs.Candidates.{merge_plan}
use Rattle.lethe_fade.specs.Expired.{is_expired}
use Rattle.lethe_fade.proofs.Chosen.{is_file_free}
use Rattle.lethe_fade.proofs.Oldest.{oldest_result, oldest_step}
use Rattle.lethe_fade.proofs.Expiring.{is_free_file, own_merge}
use Rattle.lethe_fade.proofs.expired.oldest_file.Goals as goal
use Rattle.lethe_fade.proofs.expired.oldest_file.Goals.{then-is_passed+then-is_merge_free, else-is_passed, else-is_passed-via-then-is_passed+else-is_merge_free, else-is_passed-via-else-is_passed}

pub loop-file-preserved : goal.loop-file-preserved
loop-file-preserved c =
    let config = c.args.config.now in
    let level = c.args.level in
    let file = c.file-item.result in
    let expired : Bool = is_expired config c.args.clock level file in
    let free : Bool = is_file_free level c.args.next.now c.args.claims.now file in
    let passed : c.is_passed.result ≡ expired = c.is_passed.ensures config level c.cum-deadline.ensures in
    let more =
    oldest_step (is_expired config c.args.clock level) (own_merge level c.args.next.now) c.args.claims.now c.args.files.now c.loop-file.file-index file c.loop-file.oldest
    c.loop-file-test.true c.file-item.is c.loop-file.invariant
    in
    elim c.if-is_passed.branch [
      | then-is_passed+then-is_merge_free w ↦
          w.oldest-is ∙ ap Some w.older.ensures
          ∙ more.taken (and_from expired free (sym passed ∙ w.if-is_passed.true)
          (is_free_file level c.args.next.now c.args.claims.now file w.of.result w.is_merge_free.result true w.of.ensures w.is_merge_free.ensures w.if-is_merge_free.true))
      | else-is_passed w ↦ elim w.else-is_passed.branch [
        | else-is_passed-via-then-is_passed+else-is_merge_free v ↦
            w.oldest-is
            ∙ more.passed (and_right expired free
            (is_free_file level c.args.next.now c.args.claims.now file v.of.result v.is_merge_free.result false v.of.ensures v.is_merge_free.ensures v.if-is_merge_free.false))
        | else-is_passed-via-else-is_passed v ↦ w.oldest-is ∙ more.passed (and_left expired free (sym passed ∙ v.if-is_passed.false))
      ]
    ]

pub returns-in_err-age : goal.returns-in_err-age
returns-in_err-age c =
    c.from_residual.ensures ∙ ap (option_map (λ (a : Age). merge_plan a.no)) (sym c.in_err-age.was)
    ∙ oldest_result (is_expired c.args.config.now c.args.clock c.args.level) (own_merge c.args.level c.args.next.now) c.args.claims.now merge_plan (λ file. refl)
    c.args.files.now c.loop-file.file-index c.loop-file.oldest c.loop-file-test.false c.loop-file.invariant

pub returns : goal.returns
returns c =
    ap (option_map (λ (a : Age). merge_plan a.no)) (sym c.in_ok-age.was)
    ∙ oldest_result (is_expired c.args.config.now c.args.clock c.args.level) (own_merge c.args.level c.args.next.now) c.args.claims.now merge_plan (λ file. refl)
    c.args.files.now c.loop-file.file-index c.loop-file.oldest c.loop-file-test.false c.loop-file.invariant
