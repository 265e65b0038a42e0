use Rattle.std.proofs.Common.{sym, ◌∙◌}
use Rattle.std.proofs.lemmas.Result.{err_from_is_err_and}
use Rattle.lethe_page.specs.Finding.{found_in}
use Rattle.lethe_page.proofs.Passing.{refused_if, head_fails, entries_fail, page_goes_on, page_ends}
use Rattle.lethe_page.proofs.finding.find_entry.Goals as goal

pub returns-in_err-class : goal.returns-in_err-class
returns-in_err-class c =
    let p = err_from_is_err_and c.from_residual.result c.from_residual.ensures.1 in
    rw (p.1, p.2) (refused_if c.in_err-class.field-0.0 (found_in c.args.key.now c.args.bytes.now) (head_fails c.args.key.now c.args.bytes.now c.in_err-class.field-0.0 (sym c.in_err-class.ensures)))

pub returns-in_err-place : goal.returns-in_err-place
returns-in_err-place c =
    let p = err_from_is_err_and c.from_residual-in_err-place.result c.from_residual-in_err-place.ensures.1 in
    rw (p.1, p.2) (refused_if c.in_err-place.field-0.0 (found_in c.args.key.now c.args.bytes.now) (entries_fail c.args.key.now c.args.bytes.now c.in_ok-class.class c.in_ok-class.entries c.in_err-place.field-0.0 (sym c.in_ok-class.ensures) c.in_err-place.ensures))

pub returns-then-end-bytes : goal.returns-then-end-bytes
returns-then-end-bytes c = page_goes_on c.args.key.now c.args.bytes.now c.in_ok-class.class c.in_ok-class.entries c.in_ok-place.place c.in_ok-place.end (sym c.in_ok-class.ensures) c.in_ok-place.ensures c.if-end-bytes.true

pub returns-in_err-entry : goal.returns-in_err-entry
returns-in_err-entry c =
    let p = err_from_is_err_and c.from_residual-in_err-entry.result c.from_residual-in_err-entry.ensures.1 in
    let passed = c.in_ok-place.ensures in
    rw (p.1, p.2 ∙ c.in_err-entry.ensures c.args.key.now passed.entries passed.place) tt

pub returns : goal.returns
returns c =
    let passed = c.in_ok-place.ensures in
    page_ends c.args.key.now c.args.bytes.now c.in_ok-class.class c.in_ok-class.entries c.in_ok-place.place c.in_ok-place.end (sym c.in_ok-class.ensures) passed c.in_ok-entry.entry c.if-end-bytes.false (c.in_ok-entry.ensures c.args.key.now passed.entries passed.place)
