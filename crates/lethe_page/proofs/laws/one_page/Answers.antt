use Rattle.lethe_page.proofs.PageLaws.{same_page}
use Rattle.lethe_page.proofs.laws.one_page.Goals as goal

pub returns : goal.returns
returns c = same_page
