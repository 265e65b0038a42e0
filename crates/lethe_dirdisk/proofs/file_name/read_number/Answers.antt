use Rattle.std.proofs.Common.{arith}
use Rattle.lethe_dirdisk.proofs.Digits.{next_digit, no_digit, no_room}
use Rattle.lethe_dirdisk.proofs.file_name.read_number.Goals as goal

pub returns-then-not-is_ascii_digit : goal.returns-then-not-is_ascii_digit
returns-then-not-is_ascii_digit c = λ number small. (
  λ some. absurd cc,
  λ is.
      let now = c.loop-digit.invariant in
      let next = next_digit c.args.text.now c.loop-digit.digit-index c.loop-digit.no number (omega arith) (omega arith) now.told now.small small is in
      absurd (no_digit _ _ next.0 next.1 c.if-not-is_ascii_digit.ensures.cases),
)

pub returns-in_err-checked_mul : goal.returns-in_err-checked_mul
returns-in_err-checked_mul c = λ number small. (
  λ some. let none = c.from_residual.ensures in absurd cc,
  λ is.
      let now = c.loop-digit.invariant in
      let next = next_digit c.args.text.now c.loop-digit.digit-index c.loop-digit.no number (omega arith) (omega arith) now.told now.small small is in
      absurd (c.in_err-checked_mul.ensures (let fits = no_room _ _ next.0 next.1 in omega arith)),
)

pub returns-in_err-no : goal.returns-in_err-no
returns-in_err-no c = λ number small. (
  λ some. let none = c.from_residual-in_err-no.ensures in absurd cc,
  λ is.
      let now = c.loop-digit.invariant in
      let next = next_digit c.args.text.now c.loop-digit.digit-index c.loop-digit.no number (omega arith) (omega arith) now.told now.small small is in
      let product = c.in_ok-checked_mul.ensures in
      absurd (c.in_err-no.ensures (let fits = no_room _ _ next.0 next.1 in omega (arith, product))),
)
