use Rattle.std.proofs.Common.{◌≡◌, sym, ◌∙◌}
use Rattle.std.proofs.lemmas.Result.{err_from_is_err_and}
use Rattle.lethe_base.specs.Keys.{same_key}
use Rattle.lethe_page.specs.Finding.{key_at, key_in}
use Rattle.lethe_page.proofs.Passing.{or_here, is_here, not_here, found_before, entry_passed, one_passed, passing_fails}
use Rattle.lethe_page.proofs.finding.find_place.Goals as goal
use Rattle.lethe_page.proofs.finding.find_place.Goals.{then-is_none+then-is_key, else-is_none, else-is_none-via-then-is_none+else-is_key, else-is_none-via-else-is_none}

pub returns-in_err-entry : goal.returns-in_err-entry
returns-in_err-entry c =
    let p = err_from_is_err_and c.from_residual.result c.from_residual.ensures.1 in
    rw (p.1, p.2) (passing_fails c.args.class c.args.count c.args.key.now c.args.bytes.now c.entries.found c.entries.last c.entries.at c.entries.passed c.entries.invariant c.in_err-entry.field-0.0 c.entries-test.true (sym c.in_err-entry.ensures))

pub is_key-requires : goal.is_key-requires
is_key-requires c = (entry_passed c.args.class (key_in c.args.bytes.now c.entries.last) c.args.bytes.now c.entries.at c.in_ok-entry.entry (sym c.in_ok-entry.ensures)).within

pub entries-preserved : goal.entries-preserved
entries-preserved c =
    let front = c.in_ok-entry.entry.front in
    let is = same_key (key_at c.args.bytes.now front) c.args.key.now in
    let before = c.entries.found in
    let at = c.entries.at in
    let found : c.if-is_none.found ≡ or_here before is at =
    elim c.if-is_none.branch [
      | then-is_none+then-is_key w ↦ w.found-is ∙ is_here before is at w.if-is_none.ensures (sym w.if-is_key.ensures)
      | else-is_none w ↦ w.found-is
          ∙ elim w.else-is_none.branch [
            | else-is_none-via-then-is_none+else-is_key w' ↦ not_here before is at (sym w'.if-is_key.ensures)
            | else-is_none-via-else-is_none w' ↦ found_before before is at w'.if-is_none.ensures
          ]
    ] in
    let more = one_passed c.args.class c.args.count c.args.key.now c.args.bytes.now before c.entries.last at c.entries.passed c.entries.invariant c.in_ok-entry.entry c.entries-test.true (sym c.in_ok-entry.ensures) in
    rw found more
