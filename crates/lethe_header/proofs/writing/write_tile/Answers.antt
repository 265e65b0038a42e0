use Rattle.lethe_header.proofs.Lines.{have_few_words}
use Rattle.lethe_header.proofs.writing.write_tile.Goals as goal

pub write_lines-requires : goal.write_lines-requires
write_lines-requires c = rw c.items-2.ensures (have_few_words c.args.tile.now.pages c.requires.lines)
