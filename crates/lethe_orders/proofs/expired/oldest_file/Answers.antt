use Rattle.std.proofs.Common.{◌≡◌, Some, sym, ap, ◌∙◌, arith}
use Rattle.std.specs.Option.{option_map}
use Rattle.lethe_base.specs.declared.shape.FileFacts.{FileFacts}
use Rattle.std.proofs.Common.{Bool}
use Rattle.lethe_fade.specs.Expired.{is_expired}
use Rattle.lethe_orders.specs.declared.age.Age.{Age}
use Rattle.lethe_orders.proofs.Ages.{age_result, age_step}
use Rattle.lethe_orders.proofs.expired.oldest_file.Goals as goal
use Rattle.lethe_orders.proofs.expired.oldest_file.Goals.{then-is_passed, else-is_passed}

pub loop-file-preserved : goal.loop-file-preserved
loop-file-preserved g c =
    let config = c.args.config.now in
    let file = c.file-item.result in
    let p : FileFacts → Bool = is_expired config c.args.to c.args.level in
    let passed : c.is_passed.result ≡ p file = c.is_passed.ensures config c.args.level c.cum-deadline.ensures in
    let more = age_step p c.args.files.now c.loop-file.file-index file c.loop-file.oldest c.loop-file-test.true c.file-item.is c.loop-file.invariant.first in
    record {
      first = elim c.if-is_passed.branch [
        | then-is_passed w ↦ w.oldest-is ∙ ap Some w.older.ensures ∙ more.taken (sym passed ∙ w.if-is_passed.true)
        | else-is_passed w ↦ w.oldest-is ∙ more.passed (sym passed ∙ w.if-is_passed.false)
      ];
      few = omega arith;
    }

pub returns-in_err-age-clause-first : goal.returns-in_err-age-clause-first
returns-in_err-age-clause-first g c =
    c.from_residual.ensures ∙ ap (option_map (λ (a : Age). a.no)) (sym c.in_err-age.was)
    ∙ age_result (is_expired c.args.config.now c.args.to c.args.level) c.args.files.now c.loop-file.file-index c.loop-file.oldest c.loop-file-test.false c.loop-file.invariant.first

pub returns-clause-first : goal.returns-clause-first
returns-clause-first g c =
    ap (option_map (λ (a : Age). a.no)) (sym c.in_ok-age.was)
    ∙ age_result (is_expired c.args.config.now c.args.to c.args.level) c.args.files.now c.loop-file.file-index c.loop-file.oldest c.loop-file-test.false c.loop-file.invariant.first
