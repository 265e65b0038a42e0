-- What a job made, of what is stored: it is what is stored that its task reads.
use Rattle.std.proofs.Common.{◌≡◌, List, [], ◌∷◌, ◌++◌, map, All, Contains, Option, refl, sym, ◌∙◌, subst}
use Rattle.std.proofs.lemmas.List.Elements.{All-contains}
use Rattle.lethe_base.specs.declared.config.Fields.{Fields}
use Rattle.lethe_base.specs.declared.pending.Pending.{Pending}
use Rattle.lethe_build.specs.Drafts.{AreDraftsOf}
use Rattle.lethe_build.specs.declared.draft.Draft.{Draft}
use Rattle.lethe_cover.proofs.Common.{first_is}
use Rattle.lethe_cover.proofs.Lists.{all_from, in_middle, only_in}
use Rattle.lethe_file.specs.Agreement as pages
use Rattle.lethe_file.specs.Agreement.{FileAgrees}
use Rattle.lethe_follows.specs.Merged.{StoredMerge, entries_in, erases_upto, inputs_of}
use Rattle.lethe_job.specs.SweepTasks.{IsSweepTask}
use Rattle.lethe_job.specs.Tasks.{AreSound, IsMergeTask, PlainMerge, merge_inputs}
use Rattle.lethe_job.specs.Works.{AreMergeOutputs, IsSweepOutput}
use Rattle.lethe_merge.specs.Merge.{merged}
use Rattle.lethe_stored.specs.Files.{StoredFile, IsFile}
use Rattle.lethe_stored.specs.Stored.{IsCoherent, Stored, pending_of}
use Rattle.lethe_sweep_task.specs.Outcome.{IsDraftLeft, PlainSweep}
use Rattle.lethe_swept.specs.declared.draft.SweptDraft.{SweptDraft}
use Rattle.lethe_sweeps.specs.Swept.{StoredSweep}
use Rattle.lethe_install.proofs.Beside.{input_in}

abbrev Agrees : StoredFile → Type 0
Agrees file = FileAgrees file.header.tiles file.pages

module _ (Tells : Type 0) (tells : Tells) (s : Stored) (coherent : IsCoherent s) where
  agrees : (file : StoredFile) → Contains s.files file → Agrees file
  agrees file there = (All-contains (IsFile s.manifest.next) s.files file coherent.each there).agrees

  module _ (m : StoredMerge) (task : PlainMerge) (begun : IsMergeTask s m task) (drafts : List Draft) (are : AreMergeOutputs Tells task drafts) where
    inputs_are : merge_inputs task ≡ inputs_of m
    inputs_are = λ i. begun.sources i ++ begun.met i

    sound : AreSound (merge_inputs task)
    sound = subst (All Agrees) (sym inputs_are) (all_from Agrees (inputs_of m) (λ file there. agrees file (input_in s coherent m begun.merge file there)))

    pub merge_drafts : AreDraftsOf s.manifest.config (merged (entries_in (inputs_of m)) (erases_upto task.upto (pending_of s)) task.alone) drafts
    merge_drafts =
        subst (λ (config : Fields). AreDraftsOf config (merged (entries_in (inputs_of m)) (erases_upto task.upto (pending_of s)) task.alone) drafts) begun.config
        (subst (λ (erases : List Pending). AreDraftsOf task.config (merged (entries_in (inputs_of m)) erases task.alone) drafts) begun.erases
        (subst (λ (files : List StoredFile). AreDraftsOf task.config (merged (entries_in files) task.erases task.alone) drafts) inputs_are (are.told tells sound)))

  module _ (w : StoredSweep) (task : PlainSweep) (begun : IsSweepTask s w task) (draft : Option SweptDraft) (is : IsSweepOutput Tells task draft) where
    own : Contains s.files w.file
    own = subst (λ files. Contains files w.file) (sym ((begun.sweep).files)) (in_middle w.front (w.file ∷ []) w.back w.file (first_is w.file [] w.file refl))

    alone_sound : AreSound (task.file ∷ [])
    alone_sound = all_from Agrees (task.file ∷ []) (λ file there. subst Agrees (begun.file ∙ only_in task.file file there) (agrees w.file own))

    pub sweep_draft : IsDraftLeft task.alone task.erase w.file.header.tiles (map pages.entries_in w.file.pages) draft
    sweep_draft = subst (λ (file : StoredFile). IsDraftLeft task.alone task.erase file.header.tiles (map pages.entries_in file.pages) draft) (sym begun.file)
        (is.told tells alone_sound)
