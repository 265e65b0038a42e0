use Rattle.std.proofs.Common.{◌-◌, length}
use Rattle.lethe_header.specs.Reading.{word_at}
use Rattle.lethe_header.proofs.Loop.{IsReadTo}
use Rattle.lethe_header.proofs.line.read_words.Given as goal

abbrev pub invariant-words : goal.invariant-words
invariant-words l = IsReadTo word_at l.count l.bytes l.start l.words.items l.at

abbrev pub decreases-words : goal.decreases-words
decreases-words l = l.count - length l.words.items
