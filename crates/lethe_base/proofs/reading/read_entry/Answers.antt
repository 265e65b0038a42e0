use Rattle.std.proofs.Common.{arith}
use Rattle.lethe_base.proofs.EntryLaws.{found_entry, only_entry}
use Rattle.lethe_base.proofs.reading.read_entry.Goals as goal

pub returns-clause-found : goal.returns-clause-found
returns-clause-found c = found_entry c.read_parts.result c.args.bytes.now c.args.at (λ i. omega (arith, c.type_inv.bytes i)) c.read_parts.ensures

pub returns-clause-only : goal.returns-clause-only
returns-clause-only c = only_entry c.read_parts.result c.args.bytes.now c.args.at c.read_parts.ensures
