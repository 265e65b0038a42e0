use Rattle.std.proofs.Common.{arith}
use Rattle.lethe_tile.specs.Woven.{plain}
use Rattle.lethe_tile.proofs.Pages.{going_next}
use Rattle.lethe_build.specs.Parts.{IsWhole, IsTileLineOf}
use Rattle.lethe_build.proofs.Files.{all_done, is_draft_of}
use Rattle.lethe_build.proofs.Loops.{joined_more}
use Rattle.lethe_build.proofs.file.draft_of.Goals as goal

pub build_tile-requires : goal.build_tile-requires
build_tile-requires c =
    let made = rw (c.in-Some.ensures.steps.0) at c.loop-tile.invariant in
    going_next IsTileLineOf IsWhole _ _ _ (plain c.in-Some.tile) made.going c.requires.whole

pub loop-tile-preserved : goal.loop-tile-preserved
loop-tile-preserved c =
    let made = rw (c.in-Some.ensures.steps.0) at c.loop-tile.invariant in
    let told = c.in_ok-build_tile.ensures in
    rw (c.in_ok-push.ensures.items) (joined_more _ _ _ _ _ (plain c.in-Some.tile) c.in_ok-build_tile.field-0 made told.line told.pages)

pub returns : goal.returns
returns c =
    let made = all_done _ _ _ _ _ (omega (arith, c.in-None.ensures.steps.0)) c.of.ensures c.loop-tile.invariant in
    rw c.of-2.ensures (is_draft_of _ (record { tiles = c.of.result; pages = c.loop-tile.pages.items }) c.requires made)
