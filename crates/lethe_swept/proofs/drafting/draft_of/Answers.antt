use Rattle.std.proofs.Common.{◌≡◌, ◌<◌, length, All, sym, ap, arith}
use Rattle.std.proofs.lemmas.Bool.{eqb-false}
use Rattle.lethe_header.specs.Facts.{lines_of}
use Rattle.lethe_tile.proofs.Pages.{going_next}
use Rattle.lethe_swept.specs.Drafts.{IsTileFor, MayBeDrafted}
use Rattle.lethe_swept.proofs.Fitting.{draftable, is_draft_of}
use Rattle.lethe_swept.proofs.Loops.{all_pages, all_tiles, tiles_more}
use Rattle.lethe_swept.proofs.drafting.draft_of.Goals as goal

pub draft_tile-requires : goal.draft_tile-requires
draft_tile-requires c =
    let so_far = rw (c.in-Some.ensures.steps.0) at c.loop-tile.invariant in
    let lines = lines_of c.args.tiles.now in
    going_next (IsTileFor lines) (λ tile. All (MayBeDrafted lines) tile.parts) _ _ _ c.in-Some.tile so_far.going (draftable c.args.tiles.now c.args.swept c.requires.fits)

pub loop-tile-preserved : goal.loop-tile-preserved
loop-tile-preserved c =
    let so_far = rw (c.in-Some.ensures.steps.0) at c.loop-tile.invariant in
    let drafted = c.in_ok-draft_tile.ensures in
    rw (c.in_ok-push.ensures.items) (tiles_more _ _ _ _ _ _ c.in-Some.tile c.in_ok-draft_tile.field-0 so_far drafted.tile drafted.pages)

pub returns-clause-draft : goal.returns-clause-draft
returns-clause-draft c =
    let lines = lines_of c.args.tiles.now in
    let none : length c.loop-tile.tile-iterator.rest.items ≡ 0 = omega (arith, c.in-None.ensures.steps.0) in
    let left = c.into_vec-left.result in
    let other = eqb-false _ 0 (sym c.if-is_empty.ensures) in
    let some : 0 < length c.args.swept.tiles = omega (arith, other, left.ok.0, ap length c.into_vec-left.ensures) in
    let each = all_tiles lines c.args.swept.tiles c.loop-tile.tile-iterator.rest.items c.loop-tile.drafts.items c.loop-tile.pages.items none c.loop-tile.invariant in
    let pages = all_pages lines c.args.swept.tiles c.loop-tile.tile-iterator.rest.items c.loop-tile.drafts.items c.loop-tile.pages.items none c.loop-tile.invariant in
    rw (c.of.ensures, c.of-2.ensures) (is_draft_of c.args.tiles.now c.args.swept (record { tiles = c.loop-tile.drafts.items; pages = c.loop-tile.pages.items }) c.requires.spelled c.requires.fits some each pages)
