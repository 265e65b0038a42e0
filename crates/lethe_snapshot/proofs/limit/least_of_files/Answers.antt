use Rattle.std.proofs.Common.{◌≡◌, List, subst, arith}
use Rattle.lethe_header.specs.declared.header.TileLine.{TileLine}
use Rattle.lethe_version.specs.declared.shared.Shared.{Shared}
use Rattle.lethe_snapshot.specs.Times.{IsLeast, IsOldestIn}
use Rattle.lethe_snapshot.proofs.Least.{least_all, least_more}
use Rattle.lethe_snapshot.proofs.limit.least_of_files.Goals as goal

pub loop-shared-preserved : goal.loop-shared-preserved
loop-shared-preserved g c =
    let same : c.items.result.now ≡ c.shared-item.result.file.value.header.tiles = cc in
    least_more (λ (shared : Shared _ _ _ _) time. IsOldestIn shared.file.value.header.tiles time) c.args.time c.args.files.now c.loop-shared.shared-index c.shared-item.result c.loop-shared.least
    c.least_of_tiles-least.result c.loop-shared-test.true c.shared-item.is c.loop-shared.invariant
    (subst (λ (tiles : List TileLine). IsLeast c.loop-shared.least (IsOldestIn tiles) c.least_of_tiles-least.result) same c.least_of_tiles-least.ensures)

pub returns : goal.returns
returns g c =
    least_all (λ (shared : Shared _ _ _ _) time. IsOldestIn shared.file.value.header.tiles time) c.args.time c.args.files.now c.loop-shared.shared-index c.loop-shared.least (omega arith) c.loop-shared.invariant
