use Rattle.std.proofs.Common.{◌≡◌, ◌<◌, List, [], Some, length, ap, arith, sym, ◌∙◌}
use Rattle.std.proofs.lemmas.Option.{get_or_from_slice_get}
use Rattle.std.specs.Prelude.{slice_get}
use Rattle.lethe_header.specs.declared.header.TileLine.{TileLine}
use Rattle.lethe_header.specs.Facts.{lines_of}
use Rattle.lethe_file.specs.Agreement.{entries_in}
use Rattle.lethe_file.proofs.Pages.{agrees_here}
use Rattle.lethe_file.proofs.Tiles.{told_at}
use Rattle.lethe_file.proofs.view.FileView.fetch_page.Goals as goal

pub returns-clause-told : goal.returns-clause-told
returns-clause-told g c = λ told.
    told_at (λ page. g.D.Disk.page_bytes page.value) c.args.self.now.pages.items c.args.place c.index.result.now (g.D.Disk.page_bytes c.deref-2.result.now) c.line_at-line.result.now c.fetch_line.result
    c.index.ensures (ap g.D.Disk.page_bytes c.deref-2.ensures) c.requires c.fetch_line.ensures.page (c.fetch_line.ensures.told told)

pub returns-clause-undamaged : goal.returns-clause-undamaged
returns-clause-undamaged g c = λ told agree name e.
    let file = c.args.self.now in
    let line = c.line_at-line.result.now in
    let lines = lines_of file.header.tiles in
    let there : slice_get lines c.args.place ≡ Some line = ap (λ (tiles : List TileLine). slice_get (lines_of tiles) c.args.place) (sym c.items.ensures) ∙ c.line_at-line.ensures in
    let inside : c.args.place < length lines = omega (arith, c.requires, file.paged) in
    let agrees = agrees_here (λ page. g.D.Disk.page_bytes page.value) [] lines file.pages.items c.args.place line c.index.result.now (g.D.Disk.page_bytes c.deref-2.result.now)
    (sym (get_or_from_slice_get lines c.args.place line line there)) c.index.ensures (ap g.D.Disk.page_bytes c.deref-2.ensures) inside file.paged agree.pages in
    c.fetch_line.ensures.undamaged told (entries_in (g.D.Disk.page_bytes c.deref-2.result.now)) agrees.page agrees.spelled name e
