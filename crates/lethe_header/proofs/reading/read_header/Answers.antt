use Rattle.std.proofs.Common.{arith}
use Rattle.lethe_header.proofs.HeaderLaws.{found_header, only_header}
use Rattle.lethe_header.proofs.reading.read_header.Goals as goal

pub returns-clause-found : goal.returns-clause-found
returns-clause-found c = found_header c.read_all.result c.args.bytes.now (λ i. omega (arith, c.type_inv.bytes i)) c.read_all.ensures

pub returns-clause-only : goal.returns-clause-only
returns-clause-only c = only_header c.read_all.result c.args.bytes.now c.read_all.ensures
