use Rattle.std.proofs.Common.{◌≡◌, take}
use Rattle.lethe_file.specs.Finding.{allowed_in}
use Rattle.lethe_version.proofs.probing.is_allowed_in.Given as goal

abbrev pub invariant-loop-line : goal.invariant-loop-line
invariant-loop-line l = allowed_in l.key (take l.line-index l.lines) ≡ 0
