use Rattle.lethe_build.proofs.Numbering.{draft_numbers}
use Rattle.lethe_build.proofs.laws.numbered_lines.Goals as goal

pub returns : goal.returns
returns c = draft_numbers
