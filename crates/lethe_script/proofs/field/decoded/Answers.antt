use Rattle.std.proofs.Common.{◌∙◌, sym}
use Rattle.lethe_script.proofs.Digits.{no_digits, few_digits, many_digits}
use Rattle.lethe_script.proofs.field.decoded.Goals as goal
use Rattle.lethe_script.proofs.field.decoded.Goals.{then-digits-most-via-then-digits-most, then-digits-most-via-else-digits-most+then-not-are_lower_digits}

pub returns-then-digits-most : goal.returns-then-digits-most
returns-then-digits-most c =
    elim c.then-digits-most.branch [
      | then-digits-most-via-then-digits-most w ↦ many_digits c.args.why c.args.most c.args.digits.now w.if-digits-most.true
      | then-digits-most-via-else-digits-most+then-not-are_lower_digits w ↦ no_digits c.args.why c.args.most c.args.digits.now (sym w.are_lower_digits.ensures ∙ w.if-not-are_lower_digits.true)
    ]

pub returns-in-Ok : goal.returns-in-Ok
returns-in-Ok c =
    few_digits c.args.why c.args.most c.args.digits.now c.in-Ok.bytes.items (sym c.are_lower_digits.ensures ∙ c.if-not-are_lower_digits.false) c.in-Ok.ensures.ok c.if-digits-most.false
