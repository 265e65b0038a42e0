use Rattle.lethe_file.proofs.Unique.{one_found}
use Rattle.lethe_file.proofs.laws.one_entry.Goals as goal

pub returns : goal.returns
returns c = λ header bytes key a b fits agree p q. one_found header.tiles bytes key fits.tiles agree a b p q
