-- What a job made is what its task makes, by cases.
use Rattle.std.proofs.Common.{◌<◌, ◌^◌, Some, None, length, arith}
use Rattle.lethe_flush.proofs.Adding.{pages_few}
use Rattle.lethe_job.specs.MadeOf.{pages_of}
use Rattle.lethe_job.specs.Tasks.{AreSound}
use Rattle.lethe_job.specs.Works.{AreOutputs, Merges, PlainTask, Sweeps, inputs_in}
use Rattle.lethe_job.specs.declared.made.Made.{Made}
use Rattle.lethe_job.specs.declared.made.Made.TheVariants.{Files, Left}
use Rattle.lethe_drive.specs.Answers.{AreOutputsFor}

-- as a disk that tells what it holds has it
pub told_outputs : (Tells : Type 0) (task : PlainTask) (made : Made) → AreOutputs Tells task made → Tells → AreSound (inputs_in task) → AreOutputsFor task made
told_outputs Tells (Merges task) (Files drafts) outputs told sound = outputs.told told sound
told_outputs Tells (Merges task) (Left left) outputs told sound = absurd outputs
told_outputs Tells (Sweeps task) (Files drafts) outputs told sound = absurd outputs
told_outputs Tells (Sweeps task) (Left left) outputs told sound = outputs.told told sound

-- its pages are few
pub few_pages : (Tells : Type 0) (task : PlainTask) (made : Made) → AreOutputs Tells task made → length (pages_of made) < 2 ^ 63
few_pages Tells (Merges task) (Files drafts) outputs =
    let few = outputs.few in
    let all = pages_few drafts.items in
    omega arith
few_pages Tells (Merges task) (Left left) outputs = absurd outputs
few_pages Tells (Sweeps task) (Files drafts) outputs = absurd outputs
few_pages Tells (Sweeps task) (Left None) outputs = omega arith
few_pages Tells (Sweeps task) (Left (Some draft)) outputs = let few = outputs.few in omega arith
