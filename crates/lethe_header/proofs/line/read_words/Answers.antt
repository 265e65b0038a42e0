use Rattle.std.proofs.Common.{◌≡◌, ◌+◌, ◌<◌, ◌++◌, ◌∷◌, [], length, Ok, sym, arith, rules}
use Rattle.lethe_header.specs.Reading.{word_at}
use Rattle.lethe_header.proofs.Loop.{one_more, word_read}
use Rattle.lethe_header.proofs.line.read_words.Goals as goal

pub words-preserved : goal.words-preserved
words-preserved c =
    let fewer : length c.words.words.items < c.args.count = omega (arith, c.words-test.true, c.len.ensures) in
    let pushed : c.push.new.self.items ≡ c.words.words.items ++ c.in_ok-word.word ∷ [] = search rules in
    let read : word_at c.words.words.items c.args.bytes.now c.words.at ≡ Ok (c.in_ok-word.word, c.words.at + 8) = word_read c.words.words.items c.args.bytes.now c.words.at c.in_ok-word.word (sym c.in_ok-word.ensures.number) in
    rw pushed (one_more word_at c.args.count c.args.bytes.now c.args.start c.words.words.items c.words.at c.words.invariant c.in_ok-word.word (c.words.at + 8) fewer read)
