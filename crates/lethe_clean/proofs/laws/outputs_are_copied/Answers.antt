use Rattle.lethe_clean.proofs.Copied.{page_copied}
use Rattle.lethe_clean.proofs.laws.outputs_are_copied.Goals as goal

pub returns : goal.returns
returns c = λ config inputs erases alone drafts are number bytes there. page_copied inputs erases alone config drafts are number bytes there
