use Rattle.lethe_run.proofs.ScanLaws.{answer_scan, scan_answer}
use Rattle.lethe_run.proofs.laws.one_scan.Goals as goal

pub returns : goal.returns
returns c = λ s lo hi pairs. (answer_scan s lo hi pairs, scan_answer s lo hi pairs)
