use Rattle.std.proofs.Common.{rules, ◌≡◌, ◌+◌, ◌++◌, position, false, Some, None, sym, subst, arith}
use Rattle.std.specs.Prelude.{is_some}
use Rattle.std.specs.List.{list_any}
use Rattle.lethe_run.specs.Refusals.{IsFirstOr}
use Rattle.lethe_run.specs.Transcript.{is_refusal}
use Rattle.lethe_run.proofs.Holding.{none_if}
use Rattle.lethe_run.proofs.Refusals.{found_more, none_more}
use Rattle.lethe_run.proofs.script.first_refusal.Goals as goal

pub returns-in_err-index : goal.returns-in_err-index
returns-in_err-index c = λ so_far size first.
    let before : is_some c.args.before ≡ false = search rules in
    let was : list_any is_refusal so_far ≡ false = subst (IsFirstOr so_far) (none_if c.args.before before) first in
    let found : position is_refusal c.args.lines.now ≡ None = search rules in
    let result : c.from_residual.result ≡ None = search rules in
    subst (IsFirstOr (so_far ++ c.args.lines.now)) (sym result) (none_more so_far c.args.lines.now was found)

pub returns : goal.returns
returns c = λ so_far size first.
    let before : is_some c.args.before ≡ false = search rules in
    let was : list_any is_refusal so_far ≡ false = subst (IsFirstOr so_far) (none_if c.args.before before) first in
    let found : position is_refusal c.args.lines.now ≡ Some c.in_ok-index.index = search rules in
    found_more so_far c.args.lines.now c.in_ok-index.index (c.args.printed + c.in_ok-index.index + 1) was found (omega (arith, size))
