use Rattle.std.proofs.Common.{◌<◌, [], ◌∷◌, ◌++◌, List, get_or, length, map, sym, subst, arith, ◌∙◌}
use Rattle.std.proofs.lemmas.List.{length-map}
use Rattle.std.proofs.lemmas.Option.{slice_get-get_or}
use Rattle.std.proofs.lemmas.Result.{on_ok_weaker}
use Rattle.lethe_file.specs.Agreement.{entries_in}
use Rattle.lethe_sweep.specs.Steps.{Goes, IsLeft, Stays}
use Rattle.lethe_swept.specs.Left.{Placed}
use Rattle.lethe_swept.specs.declared.part.Part.{Part}
use Rattle.lethe_sweep.proofs.Stepping.{fetched_more}
use Rattle.lethe_sweep.proofs.tile.sweep_line.Goals as goal

pub returns-then-is_fetched-clause-left : goal.returns-then-is_fetched-clause-left
returns-then-is_fetched-clause-left g c = λ before so_far.
    let left = c.args.left.now in
    on_ok_weaker c.fetch_left.result
    (fetched_more g.D.Disk.tells c.args.mode c.args.erase.now (map entries_in (map (λ page. g.D.Disk.page_bytes page.value) c.args.file.now.pages.items)) before left.tombs.items left.parts.items
    (record { place = c.args.place; line = c.args.line.now }) c.fetch_left.new.left.tombs.items c.fetch_left.new.left.parts.items (sym c.is_fetched.ensures ∙ c.if-is_fetched.true) so_far)
    c.fetch_left.ensures.left

pub returns-then-is_fetched-clause-damaged : goal.returns-then-is_fetched-clause-damaged
returns-then-is_fetched-clause-damaged g c = λ name e.
    let pages = c.args.file.now.pages.items in
    let all = map (λ page. g.D.Disk.page_bytes page.value) pages in
    let within : c.args.place < length all = omega (arith, c.requires.place, length-map pages (λ page. g.D.Disk.page_bytes page.value)) in
    let there = slice_get-get_or all c.args.place [] within in (
      record {
        fetched = sym c.is_fetched.ensures ∙ c.if-is_fetched.true;
        own = get_or all c.args.place [];
        there = there;
        damaged = c.fetch_left.ensures.damaged (get_or all c.args.place []) there name e;
      },
      omega (arith, c.fetch_left.ensures.fetches),
    )

pub returns-in_ok-push-clause-left : goal.returns-in_ok-push-clause-left
returns-in_ok-push-clause-left g c = λ before so_far.
    let left = c.args.left.now in
    let page : Placed = record { place = c.args.place; line = c.args.line.now } in
    let pages = map entries_in (map (λ page. g.D.Disk.page_bytes page.value) c.args.file.now.pages.items) in
    subst (λ (parts : List Part). IsLeft g.D.Disk.tells c.args.mode c.args.erase.now pages (before ++ page ∷ []) left.tombs.items parts) (sym c.in_ok-push.ensures.items)
    (Stays before left.tombs.items left.parts.items so_far page (sym c.is_fetched.ensures ∙ c.if-is_fetched.false) (sym c.meets.ensures ∙ c.if-not-meets.true))

pub returns-else-not-meets-clause-left : goal.returns-else-not-meets-clause-left
returns-else-not-meets-clause-left g c = λ before so_far.
    let left = c.args.left.now in
    let page : Placed = record { place = c.args.place; line = c.args.line.now } in
    Goes before left.tombs.items left.parts.items so_far page (sym c.is_fetched.ensures ∙ c.if-is_fetched.false) (sym c.meets.ensures ∙ c.if-not-meets.false)
