use Rattle.lethe_remade.proofs.Made.{is_file, is_left}
use Rattle.lethe_remade.proofs.laws.a_draft_is_left.Goals as goal

pub returns : goal.returns
returns c = λ s coherent file there erase alone behind swept is draft of numbers no number count differ new next less spelled.
    let tiles = file.header.tiles in
    let bytes = file.pages in
    let agrees = (is_file s coherent file there).agrees in
    let held = c.no_key_leaves_its_tile.ensures alone erase tiles bytes swept agrees is in
    is_left s coherent file there erase alone swept is draft of numbers no number count differ new next less spelled
    (c.swept_agrees.ensures tiles bytes swept draft numbers agrees held of count)
    (c.swept_is_the_sweep.ensures alone erase tiles bytes swept agrees behind is)
