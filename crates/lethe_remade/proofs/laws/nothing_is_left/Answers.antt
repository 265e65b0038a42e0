use Rattle.lethe_remade.proofs.Made.{is_file, nothing_left}
use Rattle.lethe_remade.proofs.laws.nothing_is_left.Goals as goal

pub returns : goal.returns
returns c = λ s coherent file there erase alone behind swept is none number.
    let agrees = (is_file s coherent file there).agrees in
    nothing_left s coherent file there erase alone swept (c.swept_is_the_sweep.ensures alone erase file.header.tiles file.pages swept agrees behind is) none number
