use Rattle.std.proofs.Common.{rules, ◌≡◌, All, sym, subst}
use Rattle.lethe_tile.specs.Woven.{plain}
use Rattle.lethe_tile.proofs.Pages.{going_next}
use Rattle.lethe_build.specs.Parts.{IsPage, IsLineOf}
use Rattle.lethe_build.proofs.Loops.{told_none, told_more}
use Rattle.lethe_build.proofs.TileLines.{tile_pages}
use Rattle.lethe_build.proofs.tile.build_tile.Goals as goal

pub loop-entries-init : goal.loop-entries-init
loop-entries-init c = rw c.new-lines.ensures.items (told_none _ _)

pub build_page-requires : goal.build_page-requires
build_page-requires c =
    let told = rw (c.in-Some.ensures.steps.0) at c.loop-entries.invariant in
    let all : c.into_iter-entries-iterator.result.rest.items ≡ c.args.tile.pages = search rules in
    going_next IsLineOf IsPage _ _ _ c.in-Some.entries told.going (subst (All IsPage) (sym all) (tile_pages (plain c.args.tile) c.requires))

pub loop-entries-preserved : goal.loop-entries-preserved
loop-entries-preserved c =
    let told = rw (c.in-Some.ensures.steps.0) at c.loop-entries.invariant in
    rw (c.in_ok-push.ensures.items, c.in_ok-push-2.ensures.items, c.in_ok-line.ensures.bytes) (told_more _ _ _ _ _ c.in-Some.entries c.in_ok-line.line told c.in_ok-line.ensures.line)
