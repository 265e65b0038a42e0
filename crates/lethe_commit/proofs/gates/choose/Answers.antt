use Rattle.std.proofs.Common.{◌≤◌, length, take, subst, arith}
use Rattle.std.proofs.lemmas.List.{take_all}
use Rattle.lethe_commit.specs.Gates.{IsGreatestOf}
use Rattle.lethe_commit.proofs.Greatest.{one_more}
use Rattle.lethe_commit.proofs.Removals.{name_at, name_at_is}
use Rattle.lethe_commit.proofs.gates.choose.Goals as goal

pub loop-name-preserved : goal.loop-name-preserved
loop-name-preserved c =
    let names = c.args.names.now in
    let i = c.loop-name.name-index in
    one_more names i (name_at names i) c.with_name-greatest.result c.loop-name-test.true (name_at_is names i c.loop-name-test.true) (c.with_name-greatest.ensures (take i names) c.loop-name.invariant)

pub returns : goal.returns
returns c =
    let names = c.args.names.now in
    let past : length names ≤ c.loop-name.name-index = omega (arith, c.loop-name-test.false) in
    subst (λ l. IsGreatestOf l c.loop-name.greatest) (take_all c.loop-name.name-index names past) c.loop-name.invariant
