use Rattle.std.proofs.Common.{◌∙◌, ap, map, sym}
use Rattle.lethe_file.specs.Agreement.{entries_in}
use Rattle.lethe_swept.specs.Left.{fresh_in}
use Rattle.lethe_swept.proofs.Agreeing.{are_read, left_agrees}
use Rattle.lethe_swept.proofs.laws.swept_agrees.Goals as goal

pub returns : goal.returns
returns c = λ tiles bytes swept draft numbers agrees held is long. left_agrees tiles bytes swept draft numbers agrees held is.each (are_read (fresh_in swept) (ap (map entries_in) (sym is.pages) ∙ is.entries))
