-- What a job's refusal says of the read that was refused.
use Rattle.std.proofs.Common.{◌≡◌, ap}
use Rattle.lethe_base.specs.declared.name.Name.{Name}
use Rattle.lethe_base.specs.declared.refused.Refused.TheVariants.{Damaged}
use Rattle.lethe_disk.specs.declared.cursor.ReadRefused.{ReadRefused}
use Rattle.lethe_disk.specs.declared.cursor.ReadRefused.TheVariants as reads
use Rattle.lethe_job.specs.Jobs.{told_as}

-- the page is the one that the read told of
pub damaged_as : (why : ReadRefused) (name : Name) → told_as why ≡ Damaged name → why ≡ reads.Damaged name
damaged_as (reads.ReadFault before after) name is = absurd cc
damaged_as (reads.Damaged other) name is = let same : other ≡ name = cc in ap (λ (n : Name). reads.Damaged n) same
damaged_as reads.NoMemory name is = absurd cc
