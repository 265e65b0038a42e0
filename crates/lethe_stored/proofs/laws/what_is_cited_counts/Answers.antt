use Rattle.lethe_stored.proofs.Frame.{framed, kept_framed}
use Rattle.lethe_stored.proofs.laws.what_is_cited_counts.Goals as goal

pub returns-clause-encodes : goal.returns-clause-encodes
returns-clause-encodes c = framed

pub returns-clause-kept : goal.returns-clause-kept
returns-clause-kept c = kept_framed
