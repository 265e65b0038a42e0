use Rattle.std.proofs.Common.{ap}
use Rattle.lethe_base.specs.Read.{Listed}
use Rattle.lethe_moves.proofs.Scanning.{scanned}
use Rattle.lethe_stored.specs.Stored.{layout_of}
use Rattle.lethe_follows.proofs.Answering.{get_answers, lacking, shown_between}
use Rattle.lethe_follows.proofs.reads.read_answers.Goals as goal

pub returns-clause-get : goal.returns-clause-get
returns-clause-get c = λ h s coherent stands active frozen levels held key filed newest. get_answers s coherent active frozen levels held h stands key filed newest

pub returns-clause-scan : goal.returns-clause-scan
returns-clause-scan c = λ h s coherent stands active frozen levels held lo hi entries all.
    ap Listed (scanned s.manifest.config.threshold h (layout_of s) stands.covers lo hi entries (shown_between s coherent active frozen levels held lo hi entries all))

pub returns-clause-lacks : goal.returns-clause-lacks
returns-clause-lacks c = λ s coherent active frozen levels held key. lacking s coherent active frozen levels held key
