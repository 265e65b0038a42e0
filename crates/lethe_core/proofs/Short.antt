-- A merge or a sweep is refused for want of numbers only where they nearly run out.
use Rattle.std.proofs.Common.{◌≡◌, ◌+◌, ◌≤◌, [], ◌∷◌, length, None, ap, arith}
use Rattle.std.specs.Prelude.{Option}
use Rattle.std.proofs.lemmas.List.Elements.{All-contains}
use Rattle.std.proofs.lemmas.List.Sums.{sum_by-append, sum_by-cons}
use Rattle.lethe_base.specs.History.{History}
use Rattle.lethe_base.specs.Limits.{max_place}
use Rattle.lethe_base.specs.declared.config.Fields.{Fields}
use Rattle.lethe_build.specs.Built.{most_numbers}
use Rattle.lethe_fade.specs.declared.plan.Plan.{Plan}
use Rattle.lethe_cover.proofs.Lists.{all_from}
use Rattle.lethe_follows.specs.Merged.{entries_in, inputs_of}
use Rattle.lethe_install.proofs.Beside.{input_in}
use Rattle.lethe_job.specs.Tasks.{counted_in}
use Rattle.lethe_job.specs.Works.{IsTaskFor, Merges, PlainTask, Sweeps, inputs_in}
use Rattle.lethe_stored.specs.Files.{IsFile, StoredFile}
use Rattle.lethe_stored.specs.Stored.{IsCoherent, Stored}
use Rattle.lethe_core.specs.Merges.{IsShortToMerge, IsShortToMergeBy, room_choice}
use Rattle.lethe_core.specs.StandsNow.{StandsNow}
use Rattle.lethe_core.specs.View.{View}
use Rattle.lethe_core.proofs.Counted.{all_counted, entries_by}
use Rattle.lethe_core.proofs.Descending.{inputs_few}
use Rattle.lethe_core.proofs.Installing.{planned_for}
use Rattle.lethe_core.proofs.Merged.{inputs_same}
use Rattle.lethe_core.proofs.Places.{entries_few}
use Rattle.lethe_core.proofs.Standing.{stands_for, stands_holds}

-- a task's inputs have no more entries than all files
inputs_counted : (s : Stored) → IsCoherent s → (task : PlainTask) → IsTaskFor s task → counted_in (inputs_in task) ≤ length (entries_in s.files)
inputs_counted s coherent (Merges task) is =
    let inputs = inputs_of is.0 in
    let each = all_from (IsFile s.manifest.next) inputs (λ file there.
    All-contains (IsFile s.manifest.next) s.files file coherent.each (input_in s coherent is.0 is.1.merge file there)) in
    omega (arith, ap counted_in (inputs_same s is.0 task is.1), all_counted s.manifest.next inputs each, inputs_few s is.0 coherent is.1.merge)
inputs_counted s coherent (Sweeps task) is =
    let w = is.0 in
    let own = ap (λ (file : StoredFile). entries_by file) is.1.file in
    let parts = ap counted_in is.1.sweep.files in
    let front = sum_by-append entries_by w.front (w.file ∷ w.back) in
    let rest = sum_by-cons entries_by w.file w.back in
    omega (arith, own, parts, sum_by-cons entries_by task.file [], front, rest, all_counted s.manifest.next s.files coherent.each)

-- its objects are at most twice as many as the changes
pub chosen_are_short : (chosen : Stored → Option Plan) (Tells : Type 0) (config : Fields) (h : History) (view : View) → Tells → StandsNow config h view → view.state.stopped ≡ None → IsShortToMergeBy chosen Tells view
    → max_place ≤ view.state.next + most_numbers (length h)
chosen_are_short chosen Tells config h view told stands runs short =
    let s = stands.stored in
    let coherent = stands.remembers.coherent in
    let begun = short.begun told s (stands_holds config h view stands runs) in
    let few = inputs_counted s coherent short.task (planned_for s short.task begun.planned) in
    let all = entries_few h s coherent (stands_for config h view stands runs) in
    omega (arith, short.short, short.bounded, few, all)

pub merges_are_short : (Tells : Type 0) (config : Fields) (h : History) (view : View) → Tells → StandsNow config h view → view.state.stopped ≡ None → IsShortToMerge Tells view → max_place ≤ view.state.next + most_numbers (length h)
merges_are_short = chosen_are_short room_choice
