use Rattle.std.proofs.Common.{◌<◌, List, Any, length, map, arith}
use Rattle.lethe_file.specs.declared.view.FileView.{FileView}
use Rattle.lethe_state.proofs.Leveled.{any_mapped, any_unmapped}
use Rattle.lethe_version.specs.Versions.{levels_of}
use Rattle.lethe_version.specs.declared.shared.Shared.{Shared}
use Rattle.lethe_snapshot.specs.Times.{IsOldestIn}
use Rattle.lethe_snapshot.proofs.Least.{least_all, least_more, least_same}
use Rattle.lethe_snapshot.proofs.limit.least_of_version.Goals as goal

pub loop-level-preserved : goal.loop-level-preserved
loop-level-preserved g c =
    let files = map (λ (shared : Shared _ _ _ _). shared.file.value) c.files.result.now in
    let within : c.loop-level.level < length (levels_of c.args.version.now) = omega arith in
    least_more (λ (files : List (FileView _ _ _ _)) time. Any (λ file. IsOldestIn file.header.tiles time) files) c.args.time (levels_of c.args.version.now) c.loop-level.level files c.loop-level.least c.least_of_files-least.result
    within (c.files.ensures files) c.loop-level.invariant
    (least_same c.loop-level.least c.least_of_files-least.result _ _
    (λ time. any_mapped (λ (file : FileView _ _ _ _). IsOldestIn file.header.tiles time) (λ (shared : Shared _ _ _ _). shared.file.value) c.files.result.now)
    (λ time. any_unmapped (λ (file : FileView _ _ _ _). IsOldestIn file.header.tiles time) (λ (shared : Shared _ _ _ _). shared.file.value) c.files.result.now) c.least_of_files-least.ensures)

pub returns : goal.returns
returns g c =
    least_all (λ (files : List (FileView _ _ _ _)) time. Any (λ file. IsOldestIn file.header.tiles time) files) c.args.time (levels_of c.args.version.now) c.loop-level.level c.loop-level.least (omega arith) c.loop-level.invariant
