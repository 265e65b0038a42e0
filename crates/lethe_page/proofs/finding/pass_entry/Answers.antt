use Rattle.std.proofs.Common.{◌≡◌, ℕ, List, Result, Ok, Err, sym, ap, ◌∙◌}
use Rattle.std.specs.Int.{w8}
use Rattle.std.proofs.lemmas.Result.{err_from_is_err_and}
use Rattle.lethe_page.specs.Finding.{key_in}
use Rattle.lethe_page.specs.Pages.{class_byte}
use Rattle.lethe_page.specs.Reading.{fixed_at}
use Rattle.lethe_page.specs.declared.class.Class.{Class}
use Rattle.lethe_page.specs.declared.refused.PageRefused.{PageRefused}
use Rattle.lethe_page.proofs.Passing.{kind_refused, front_refused, order_refused, body_refused, all_passed, front_within}
use Rattle.lethe_page.proofs.finding.pass_entry.Goals as goal

-- the byte of the class, as the code has it
kind : (class : Class) (byte : ℕ) (bytes : List ℕ) (at : ℕ) (read : Result ℕ PageRefused) → byte ≡ class_byte class → read ≡ fixed_at w8 byte bytes at → fixed_at w8 (class_byte class) bytes at ≡ read
kind class byte bytes at read spelled e = ap (λ (n : ℕ). fixed_at w8 n bytes at) (sym spelled) ∙ sym e

pub returns-in_err-fixed_byte : goal.returns-in_err-fixed_byte
returns-in_err-fixed_byte c =
    let p = err_from_is_err_and c.from_residual.result c.from_residual.ensures.1 in
    let k = kind c.args.class c.byte.result c.args.bytes.now c.args.at (Err c.in_err-fixed_byte.field-0.0) c.byte.ensures c.in_err-fixed_byte.ensures in
    rw (p.1, p.2) (sym (kind_refused c.args.class (key_in c.args.bytes.now c.args.last.now) c.args.bytes.now c.args.at c.in_err-fixed_byte.field-0.0 k))

pub returns-in_err-front : goal.returns-in_err-front
returns-in_err-front c =
    let p = err_from_is_err_and c.from_residual-in_err-front.result c.from_residual-in_err-front.ensures.1 in
    let k = kind c.args.class c.byte.result c.args.bytes.now c.args.at (Ok c.in_ok-fixed_byte.field-0) c.byte.ensures c.in_ok-fixed_byte.ensures in
    rw (p.1, p.2) (sym (front_refused c.args.class (key_in c.args.bytes.now c.args.last.now) c.args.bytes.now c.args.at c.in_ok-fixed_byte.field-0 c.in_err-front.field-0.0 k (sym c.in_err-front.ensures)))

pub is_above-requires-clause-front : goal.is_above-requires-clause-front
is_above-requires-clause-front c = (front_within c.args.bytes.now c.args.at c.in_ok-front.front (sym c.in_ok-front.ensures)).4

pub returns-then-not-is_above : goal.returns-then-not-is_above
returns-then-not-is_above c =
    let k = kind c.args.class c.byte.result c.args.bytes.now c.args.at (Ok c.in_ok-fixed_byte.field-0) c.byte.ensures c.in_ok-fixed_byte.ensures in
    let lower = sym c.is_above.ensures ∙ c.if-not-is_above.true in
    rw c.saturating_sub.ensures (sym (order_refused c.args.class (key_in c.args.bytes.now c.args.last.now) c.args.bytes.now c.args.at c.in_ok-fixed_byte.field-0 c.in_ok-front.front k (sym c.in_ok-front.ensures) lower))

pub returns-in_err-end : goal.returns-in_err-end
returns-in_err-end c =
    let p = err_from_is_err_and c.from_residual-in_err-end.result c.from_residual-in_err-end.ensures.1 in
    let k = kind c.args.class c.byte.result c.args.bytes.now c.args.at (Ok c.in_ok-fixed_byte.field-0) c.byte.ensures c.in_ok-fixed_byte.ensures in
    let higher = sym c.is_above.ensures ∙ c.if-not-is_above.false in
    rw (p.1, p.2) (sym (body_refused c.args.class (key_in c.args.bytes.now c.args.last.now) c.args.bytes.now c.args.at c.in_ok-fixed_byte.field-0 c.in_ok-front.front c.in_err-end.field-0.0 k (sym c.in_ok-front.ensures) higher (sym c.in_err-end.ensures)))

pub returns : goal.returns
returns c =
    let k = kind c.args.class c.byte.result c.args.bytes.now c.args.at (Ok c.in_ok-fixed_byte.field-0) c.byte.ensures c.in_ok-fixed_byte.ensures in
    let higher = sym c.is_above.ensures ∙ c.if-not-is_above.false in
    sym (all_passed c.args.class (key_in c.args.bytes.now c.args.last.now) c.args.bytes.now c.args.at c.in_ok-fixed_byte.field-0 c.in_ok-front.front c.in_ok-end.end k (sym c.in_ok-front.ensures) higher (sym c.in_ok-end.ensures))
