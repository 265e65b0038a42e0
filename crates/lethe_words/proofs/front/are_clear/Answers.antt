use Rattle.std.proofs.Common.{◌∙◌, sym}
use Rattle.lethe_words.proofs.Words.{all_clear}
use Rattle.lethe_words.proofs.front.are_clear.Goals as goal

pub returns : goal.returns
returns c = c.each_is_clear.ensures ∙ sym (all_clear c.args.words.now)
