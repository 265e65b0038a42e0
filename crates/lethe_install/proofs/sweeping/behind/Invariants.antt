use Rattle.std.proofs.Common.{◌≡◌, drop}
use Rattle.lethe_install.specs.Replaced.{behind}
use Rattle.lethe_install.proofs.sweeping.behind.Given as goal

-- the file of that number isn't among the first ones
abbrev pub invariant-loop-place : goal.invariant-loop-place
invariant-loop-place l = behind l.number l.cited ≡ behind l.number (drop l.place l.cited)
