-- How many device calls a flush takes.
use Rattle.std.proofs.Common.{◌≤◌, ◌+◌, ◌*◌, ℕ, Bool, List, length, ◌∙◌, ap, arith}
use Rattle.std.proofs.lemmas.List.{length-map}
use Rattle.std.proofs.lemmas.List.Sorted.{length_permutation}
use Rattle.lethe_base.specs.declared.config.Fields.{Fields}
use Rattle.lethe_base.specs.declared.entry.Entry.{Entry}
use Rattle.lethe_base.specs.declared.pending.Pending.{Pending}
use Rattle.lethe_flush.specs.Flushed.{IsFlushOf}
use Rattle.lethe_flush.specs.Made.{named_of}
use Rattle.lethe_flush.specs.declared.made.MadeFiles.{MadeFiles}
use Rattle.lethe_stored.specs.Files.{StoredFile, objects_of}
use Rattle.lethe_advance.specs.Calls.{most_calls, opened_by}
use Rattle.lethe_advance.specs.declared.new_header.NewHeader.{NewHeader}
use Rattle.lethe_advance.specs.declared.step.Step.{Step}
use Rattle.lethe_advance.proofs.Calls.{opened_objects}
use Rattle.lethe_state.specs.Made.{IsFlushStep}
use Rattle.lethe_state.specs.declared.state.State.{State}

pub flush_calls : {fields : Fields} {entries : List Entry} {erases : List Pending} {alone : Bool} {upto first : ℕ} (made : MadeFiles) (files : List StoredFile) (state : State) (headers : List NewHeader) (step : Step)
    → IsFlushOf fields entries erases alone upto first made files → IsFlushStep state made headers step → most_calls headers step ≤ 2 * length step.objects.items + 9
flush_calls made files state headers step flush is =
    let opened = opened_objects made.next files flush.new.each in
    let same = ap opened_by (is.headers_are ∙ flush.headers) in
    let objects = length_permutation (objects_of files) _ flush.objects in
    omega (arith, opened, same, objects, length-map made.objects.items named_of, ap length is.objects, ap length is.gone)
