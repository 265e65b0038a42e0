use Rattle.std.proofs.Common.{arith, rules, sym, ap, ◌∙◌}
use Rattle.lethe_base.proofs.ReadingSteps.{ok_is}
use Rattle.lethe_page.specs.declared.finding.Found.{Found}
use Rattle.lethe_page.specs.declared.refused.PageRefused.{PageRefused}
use Rattle.lethe_file.proofs.Looking.{found_told, told_found, told_refused}
use Rattle.lethe_file.proofs.page.found_in_page.Goals as goal

pub returns-then-is_told-clause-found : goal.returns-then-is_told-clause-found
returns-then-is_told-clause-found c =
    let told = c.is_told.ensures.0 c.if-is_told.true in
    found_told c.args.check.now c.args.key.now c.args.bytes.now c.in-Ok.found (λ i. omega (arith, c.type_inv.bytes i)) c.in-Ok.ensures (c.has_digest.ensures.0 c.if-not-has_digest.false) told.0 told.1

pub returns-else-is_told-clause-other : goal.returns-else-is_told-clause-other
returns-else-is_told-clause-other c = λ entries page is _.
    let same = ok_is {E = PageRefused} _ c.in-Ok.found (sym (told_found c.args.check.now c.args.key.now c.args.bytes.now entries page is) ∙ c.in-Ok.ensures) in
    let told = c.is_told.ensures.1 (sym (ap (λ (f : Found). f.class) same), sym (ap (λ (f : Found). f.entries) same)) in
    let other = c.if-is_told.false in
    cc

pub returns-in-Err : goal.returns-in-Err
returns-in-Err c = record {
  found = tt;
  other = λ entries page is _. let no = told_refused c.args.check.now c.args.key.now c.args.bytes.now entries c.in-Err.field-0 page is c.in-Err.ensures in search rules;
}
