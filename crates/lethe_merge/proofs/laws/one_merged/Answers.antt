use Rattle.std.proofs.Common.{sym, subst}
use Rattle.lethe_cover.specs.Merged.{IsMerged}
use Rattle.lethe_merge.proofs.Merges.{merged_is, is_merged}
use Rattle.lethe_merge.proofs.laws.one_merged.Goals as goal

pub returns : goal.returns
returns c = λ inputs erases alone list. (
  is_merged inputs erases alone list,
  λ same. subst (IsMerged inputs erases alone) (sym same) (merged_is inputs erases alone),
)
