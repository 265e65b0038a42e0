use Rattle.lethe_cert.proofs.Again.{one_reading, written_reads}
use Rattle.lethe_cert.proofs.laws.what_json_tells.Goals as goal

pub returns-clause-reads : goal.returns-clause-reads
returns-clause-reads c = written_reads

pub returns-clause-one : goal.returns-clause-one
returns-clause-one c = one_reading
