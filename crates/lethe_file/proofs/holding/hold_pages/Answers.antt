use Rattle.std.proofs.Common.{◌≡◌, ◌<◌, length, map, ap, sym, ◌∙◌, arith}
use Rattle.std.proofs.lemmas.List.{get_or-map, length-map}
use Rattle.lethe_file.proofs.Held.{page_pushed}
use Rattle.lethe_file.proofs.holding.hold_pages.Goals as goal

pub loop-place-preserved : goal.loop-place-preserved
loop-place-preserved g c =
    let pages = c.args.pages.now in
    let arc = c.index-pages-place.result in
    let page = g.D.Disk.page_bytes arc.value in
    let place = c.loop-place.place in
    let inside : place < length pages = omega (arith, c.loop-place-test.true, c.requires) in
    let len : length (map (λ page. g.D.Disk.page_bytes page.value) pages) ≡ length c.args.lines.now = length-map pages (λ page. g.D.Disk.page_bytes page.value) ∙ c.requires in
    page_pushed g.D.Disk.page_bytes c.args.lines.now (map (λ page. g.D.Disk.page_bytes page.value) pages) place c.index-lines-place.result page c.loop-place.held.items c.push.new.self.items
    (record { check = c.check_of.result; page = c.in_ok-clone.field-0 }) _ c.loop-place-test.true len c.index-lines-place.is
    (ap (λ page. g.D.Disk.page_bytes page.value) c.index-pages-place.is ∙ sym (get_or-map (λ page. g.D.Disk.page_bytes page.value) pages place arc page inside))
    c.check_of.ensures (ap g.D.Disk.page_bytes c.in_ok-clone.ensures.cases) c.in_ok-push.ensures.items c.loop-place.invariant
