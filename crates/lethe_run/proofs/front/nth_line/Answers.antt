use Rattle.std.proofs.Common.{rules}
use Rattle.std.proofs.lemmas.Iterator.Consumers.{nth_from_yields_List}
use Rattle.std.proofs.lemmas.Iterator.Splits.{YieldsList-from_slice_split}
use Rattle.lethe_run.proofs.Fronts.{at_some}
use Rattle.lethe_run.proofs.front.nth_line.Goals as goal

pub returns : goal.returns
returns c = at_some (λ line. line.now) c.nth.result _ (nth_from_yields_List c.nth.result _ c.args.index c.nth.ensures.ran
    (YieldsList-from_slice_split _ _ c.args.bytes.now c.split.ensures.rest c.split.ensures.done c.split.ensures.closure (λ x b q called. search rules)))
