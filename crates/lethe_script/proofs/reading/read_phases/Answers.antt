use Rattle.std.proofs.Common.{arith, Ok, sym, ap, ◌∙◌}
use Rattle.std.proofs.lemmas.Result.{err_from_is_err_and}
use Rattle.lethe_script.proofs.Lines.{none_in_front, item_read, item_refused, last_long, last_read, last_refused}
use Rattle.lethe_script.proofs.reading.read_phases.Goals as goal

pub loop-text-init : goal.loop-text-init
loop-text-init c =
    let new = c.new-reading.ensures in
    record { told = rw (new.ended, new.current, new.held) (none_in_front _); few = omega arith }

pub returns-in_err-push_line : goal.returns-in_err-push_line
returns-in_err-push_line c =
    let p = err_from_is_err_and c.from_residual.result c.from_residual.ensures.1 in
    let refused = rw c.without_cr.ensures at c.in_err-push_line.ensures in
    let so_far = c.loop-text.reading in
    rw (p.1, p.2) (item_refused c.args.is_long so_far.ended.items so_far.current.items c.loop-text.line so_far.held c.loop-text.rest.now c.in-Some.text.now c.in-Some.after.now _ c.in-Some.ensures.lines_are
    c.loop-text.invariant.told _ refused)

pub loop-text-preserved : goal.loop-text-preserved
loop-text-preserved c =
    let read = rw c.without_cr.ensures at c.in_ok-push_line.ensures in
    let so_far = c.loop-text.reading in
    record {
      told = item_read c.args.is_long so_far.ended.items so_far.current.items c.loop-text.line so_far.held c.loop-text.rest.now c.in-Some.text.now c.in-Some.after.now _ c.in-Some.ensures.lines_are
          c.loop-text.invariant.told _ _ read;
      few = omega (arith, c.in-Some.ensures.shorter);
    }

pub returns-then-is_long : goal.returns-then-is_long
returns-then-is_long c =
    let so_far = c.loop-text.reading in
    last_long c.args.is_long so_far.ended.items so_far.current.items c.loop-text.line so_far.held c.loop-text.rest.now _ c.in_default.ensures c.loop-text.invariant.told c.if-is_long.true

pub returns-in_err-push_line-2 : goal.returns-in_err-push_line-2
returns-in_err-push_line-2 c =
    let p = err_from_is_err_and c.from_residual-in_err-push_line-2.result c.from_residual-in_err-push_line-2.ensures.1 in
    let so_far = c.loop-text.reading in
    rw (p.1, p.2) (last_refused c.args.is_long so_far.ended.items so_far.current.items c.loop-text.line so_far.held c.loop-text.rest.now _ c.in_default.ensures c.loop-text.invariant.told _
    c.if-is_long.false c.in_err-push_line-2.ensures)

pub returns : goal.returns
returns c =
    let so_far = c.loop-text.reading in
    last_read c.args.is_long so_far.ended.items so_far.current.items c.loop-text.line so_far.held c.loop-text.rest.now _ c.in_default.ensures c.loop-text.invariant.told _ _
    c.if-is_long.false c.in_ok-push_line-2.ensures ∙ ap Ok (sym c.in_ok-into_phases.ensures)
