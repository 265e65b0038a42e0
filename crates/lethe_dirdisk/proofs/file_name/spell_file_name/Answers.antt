use Rattle.std.proofs.Common.{◌+◌, ◌-◌, ◌%◌, ◌∙◌, arith, rules}
use Rattle.std.proofs.lemmas.List.{take-set-le}
use Rattle.lethe_dirdisk.proofs.Digits.{one_written}
use Rattle.lethe_dirdisk.proofs.file_name.spell_file_name.Goals as goal

pub loop-at-preserved : goal.loop-at-preserved
loop-at-preserved c =
    let now = c.loop-at.invariant in
    let more = c.loop-at-test.true in
    record {
      behind_dash = omega arith;
      within = omega arith;
      long = search (rules, now.long);
      head = take-set-le 2 c.loop-at.text (c.loop-at.at - 1) (48 + c.loop-at.rest % 10) (omega arith) ∙ now.head;
      digits_told = one_written c.loop-at.rest c.loop-at.at c.loop-at.text (omega arith) (omega arith) ∙ now.digits_told;
    }
