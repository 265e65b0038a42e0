use Rattle.std.proofs.Common.{◌≡◌, min, fold, take}
use Rattle.lethe_fade.proofs.choice.whole_level.Given as goal

abbrev pub invariant-loop-file : goal.invariant-loop-file
invariant-loop-file l = l.least ≡ fold (λ least file. min least file.no) l.initial.least (take l.file-index l.others)
