use Rattle.lethe_stored.proofs.FileFacts.{facts_are}
use Rattle.lethe_stored.proofs.laws.facts_are_of_the_header.Goals as goal

pub returns : goal.returns
returns c = facts_are
