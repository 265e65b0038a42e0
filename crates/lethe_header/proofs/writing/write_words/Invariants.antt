use Rattle.std.proofs.Common.{◌≡◌, ◌++◌, take}
use Rattle.std.specs.List.{flat_map}
use Rattle.std.specs.Int.{to_be_bytes, w64}
use Rattle.lethe_header.proofs.writing.write_words.Given as goal

-- those so far
abbrev pub invariant-loop-word : goal.invariant-loop-word
invariant-loop-word l = l.out.items ≡ l.fn.out.items ++ flat_map (to_be_bytes w64) (take l.word-index l.words)
