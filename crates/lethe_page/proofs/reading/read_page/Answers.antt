use Rattle.std.proofs.Common.{arith}
use Rattle.lethe_page.proofs.PageLaws.{found_page, only_page}
use Rattle.lethe_page.proofs.reading.read_page.Goals as goal

pub returns-clause-found : goal.returns-clause-found
returns-clause-found c = found_page c.read_all.result c.args.bytes.now (λ i. omega (arith, c.type_inv.bytes i)) c.read_all.ensures

pub returns-clause-only : goal.returns-clause-only
returns-clause-only c = only_page c.read_all.result c.args.bytes.now c.read_all.ensures
