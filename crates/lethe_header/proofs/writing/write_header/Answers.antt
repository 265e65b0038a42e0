use Rattle.lethe_header.proofs.Lines.{are_tiles}
use Rattle.lethe_header.proofs.writing.write_header.Goals as goal

pub write_tiles-requires : goal.write_tiles-requires
write_tiles-requires c = rw c.items-2.ensures (are_tiles c.args.header.now.tiles c.requires.tiles)
