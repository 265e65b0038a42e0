-- What is told of a store as a whole.
use Rattle.std.specs.Prelude.{◌≡◌, length, sum_by}
use Rattle.lethe_base.specs.Shapes.{all_files}
use Rattle.lethe_base.specs.declared.shape.Shape.{Shape}
use Rattle.lethe_engine.specs.Capped.{capped}
use Rattle.lethe_engine.specs.declared.telling.Stat.{Stat}

-- the erases, the files and their tombstones are counted
pub record IsStatOf (shape : Shape) (stat : Stat) : Type 0 where
  pub pending : stat.pending ≡ length shape.erases
  pub files : stat.files ≡ capped (length (all_files shape))
  pub tombs : stat.tombs ≡ capped (sum_by (λ file. file.tombs) (all_files shape))
