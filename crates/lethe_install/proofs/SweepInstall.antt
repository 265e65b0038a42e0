-- What is stored once a sweep's outcome is installed, as its task has it.
use Rattle.std.proofs.Common.{◌≡◌, ◌≤◌, inr, ℕ, Bool, List, [], ◌∷◌, ◌++◌, length, map, All, Contains, Option, refl, sym, ap, subst, arith}
use Rattle.std.proofs.lemmas.List.Elements.{All-contains, Contains-append_right}
use Rattle.lethe_advance.specs.Settled.{AreDrawn, AreUncited, names_in}
use Rattle.lethe_advance.specs.Steps.{IsStep}
use Rattle.lethe_advance.specs.declared.new_header.NewHeader.{NewHeader}
use Rattle.lethe_base.specs.declared.name.Kind.TheVariants.{Page}
use Rattle.lethe_base.specs.declared.name.Name.{Name}
use Rattle.lethe_cover.proofs.Common.{first_is}
use Rattle.lethe_cover.proofs.Lists.{in_middle, map_from}
use Rattle.lethe_file.specs.Agreement.{entries_in}
use Rattle.lethe_flush.specs.declared.made.MadeFiles.{MadeFiles}
use Rattle.lethe_follows.specs.Merged.{Company}
use Rattle.lethe_header.specs.declared.header.Header.{Header}
use Rattle.lethe_job.specs.SweepTasks.{IsSweepTask}
use Rattle.lethe_manifest.specs.Manifests.{HasSpelling}
use Rattle.lethe_manifest.specs.declared.manifest.Cited.{Cited}
use Rattle.lethe_manifest.specs.declared.manifest.Manifest.{Manifest}
use Rattle.lethe_remade.specs.Making.{AreMadeOf}
use Rattle.lethe_state.specs.Remembered.{IsCurrent, Remembers}
use Rattle.lethe_state.specs.Writable.{IsWritable}
use Rattle.lethe_state.specs.declared.state.State.{State}
use Rattle.lethe_stored.specs.Files.{Parts, StoredFile}
use Rattle.lethe_stored.specs.Stored.{IsCited, Stored, part_names}
use Rattle.lethe_sweep_task.specs.Sweeping.{IsBehind}
use Rattle.lethe_sweep_task.specs.Drafted.{new_pages, written_pages}
use Rattle.lethe_sweep_task.specs.Outcome.{IsDraftLeft, PlainSweep}
use Rattle.lethe_swept.specs.declared.draft.SweptDraft.{SweptDraft}
use Rattle.lethe_sweeps.specs.Swept.{StoredSweep}
use Rattle.lethe_install.specs.Installed.{IsInstallStep}
use Rattle.lethe_install.specs.Outcomes.{AreFirst, IsSweepInstalledWith}
use Rattle.lethe_install.specs.Replaced.{IsReplaced}
use Rattle.lethe_install.specs.declared.inputs.Inputs.{Inputs}
use Rattle.lethe_install.specs.declared.steps.Installation.{Installation}
use Rattle.lethe_install.proofs.InstallStep.{zip_firsts}
use Rattle.lethe_install.proofs.Named.{drawn_behind, name_in}
use Rattle.lethe_install.proofs.SweepMade.{DraftIsLeft, NothingIsLeft, made_for}
use Rattle.lethe_install.proofs.SweepStep.{sweep_installed}

-- for what it is asked of
pub replaced_is : (file : StoredFile) (header : Header) (made heads : List NewHeader) (cited files : List Cited) (inputs : Inputs)
    → header ≡ file.header → made ≡ heads → cited ≡ files → IsReplaced (record file { header = header }) made cited inputs → IsReplaced file heads files inputs
replaced_is file header made heads cited files inputs of_header of_made of_cited is =
    subst (λ (h : Header). IsReplaced (record file { header = h }) heads files inputs) of_header
    (subst (λ (l : List NewHeader). IsReplaced (record file { header = header }) l files inputs) of_made
    (subst (λ (l : List Cited). IsReplaced (record file { header = header }) made l inputs) of_cited is))

module _ (draft_is_left : DraftIsLeft) (nothing_is_left : NothingIsLeft) (company : Company) (s : Stored) (state : State) (levels : List (List Parts))
    (is : Remembers s state levels) (current : IsCurrent s state) (writable : IsWritable state) (w : StoredSweep) (task : PlainSweep) (begun : IsSweepTask s w task) (behind : IsBehind task.erase task.file.header.tiles)
    (retired written : List Name) (draft : Option SweptDraft) (drawn : AreDrawn state.next (retired ++ written)) (few : length written ≤ length (new_pages draft))
    (beside : List (Name × List ℕ)) (named : names_in beside ≡ retired) (uncited : AreUncited s (beside ++ written_pages written draft))
    (of : IsDraftLeft task.alone task.erase w.file.header.tiles (map entries_in w.file.pages) draft)
    (parts : MadeFiles) (inputs : Inputs) (are : AreMadeOf task.file.level task.erase.seq written state.next draft parts)
    (replaced : IsReplaced task.file parts.headers.items state.manifest.files inputs) (needs : Name → Bool) (installing : Installation)
    (stepped : IsInstallStep company state task.file.level inputs parts retired needs installing) (spelled : HasSpelling installing.step.manifest)
    (paged : All (λ (name : Name). name.kind ≡ Page) installing.left.items) where
  abbrev pages : List (Name × List ℕ)
  pages = written_pages written draft

  pages_named : names_in pages ≡ written
  pages_named = zip_firsts written (new_pages draft) few

  own : Contains s.files w.file
  own = subst (λ files. Contains files w.file) (sym ((begun.sweep).files)) (in_middle w.front (w.file ∷ []) w.back w.file (first_is w.file [] w.file refl))

  later : s.manifest.next ≤ state.next
  later = let fits = writable.drawn in let same = ap (λ (m : Manifest). m.next) is.manifest in omega (arith, fits, same)

  written_uncited : (name : Name) → Contains written name → Contains (part_names s) name → ⊥
  written_uncited name there cited =
      let among = subst (λ l. Contains l name) (sym pages_named) there in
      let found = map_from name_in pages name among in
      All-contains (λ (named : Name × List ℕ). IsCited s named.0 → ⊥) (beside ++ pages) found.0 uncited (Contains-append_right beside pages found.0 found.1)
      (inr (inr (subst (Contains (part_names s)) (sym found.2) cited)))

  of_file : AreMadeOf w.file.level task.erase.seq written state.next draft parts
  of_file = subst (λ (file : StoredFile). AreMadeOf file.level task.erase.seq written state.next draft parts) (sym begun.file) are

  pub sweep_installs : (t : Stored) × IsSweepInstalledWith company s task t
      × ((left : List (Name × List ℕ)) × IsStep s (beside ++ pages) t left installing.headers.items installing.step × (installing.left.items ≡ names_in left)
      × AreDrawn installing.step.manifest.next installing.left.items)
      × AreFirst written s t
  sweep_installs =
      let have = made_for draft_is_left nothing_is_left s is.coherent w own task.erase task.alone
      (subst (λ (file : StoredFile). IsBehind task.erase file.header.tiles) (sym begun.file) behind) state.next later written (drawn_behind state.next retired written drawn) written_uncited draft of few parts of_file in
      let found = sweep_installed company s state levels is current writable w task.erase task.alone begun.sweep retired written drawn beside pages named pages_named uncited
      parts have inputs (subst (λ (file : StoredFile). IsReplaced file parts.headers.items state.manifest.files inputs) (sym begun.file) replaced) needs installing
      (subst (λ (file : StoredFile). IsInstallStep company state file.level inputs parts retired needs installing) (sym begun.file) stepped) spelled paged in
      (found.0, record { w = w; tasked = begun; swept_is = found.1.0; file_left = found.1.1 }, found.2, found.3)
