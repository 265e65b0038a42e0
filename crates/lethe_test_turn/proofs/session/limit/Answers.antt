use Rattle.std.proofs.Common.{◌++◌, Some, sym, subst}
use Rattle.lethe_test_turn.specs.Sums.{Since, NoneIsZero}
use Rattle.lethe_test_turn.proofs.Adds.{since_limited, fits_more}
use Rattle.lethe_test_turn.proofs.session.limit.Goals as goal

pub pass_noting-requires-clause-since : goal.pass_noting-requires-clause-since
pass_noting-requires-clause-since g c o op = let t = c.take-held.new.seat.me.0 in
    subst (λ l. Since o t.seen (t.noted ++ l) (record c.take-held.result.value { ceiling = Some c.args.ceiling })) (sym c.told_mark.ensures)
    (since_limited o t.seen t.noted c.take-held.result.value c.args.ceiling (c.take-held.ensures.since o op))

pub pass_noting-requires-clause-fits : goal.pass_noting-requires-clause-fits
pass_noting-requires-clause-fits g c fit = let t = c.take-held.new.seat.me.0 in
    subst (λ l. NoneIsZero (t.marks ++ l)) (sym c.told_mark.ensures) (fits_more t.marks c.args.ceiling c.requires.positive fit)
