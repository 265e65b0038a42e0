use Rattle.std.proofs.Common.{◌≡◌, take}
use Rattle.lethe_fade.specs.Spans.{hull}
use Rattle.lethe_fade.proofs.span.Span.of_all.Given as goal

abbrev pub invariant-loop-file : goal.invariant-loop-file
invariant-loop-file l = l.keys ≡ hull l.initial.keys (take l.file-index l.others)
