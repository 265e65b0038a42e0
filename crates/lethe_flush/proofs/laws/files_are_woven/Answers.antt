use Rattle.lethe_flush.proofs.Weaving.{are_woven}
use Rattle.lethe_flush.proofs.laws.files_are_woven.Goals as goal

pub returns : goal.returns
returns c = λ fields entries drafts up of level upto written first made files are. are_woven fields entries up drafts of files are.each upto are.spelled are.swept
