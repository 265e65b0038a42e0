-- What a sweep makes, and the pages that it tells as damaged, as those of a job.
use Rattle.std.proofs.Common.{◌<◌, ◌≤◌, ◌^◌, ℕ, List, [], ◌∷◌, zip, Option, Some, None, map, refl, arith}
use Rattle.std.specs.Prelude.{Any, IfSome}
use Rattle.std.proofs.lemmas.List.Elements.{All-contains}
use Rattle.std.proofs.lemmas.List.Sums.{sum_by-cons}
use Rattle.lethe_base.specs.declared.name.Name.{Name}
use Rattle.lethe_build.specs.Built.{most_numbers}
use Rattle.lethe_cover.proofs.Common.{first_is}
use Rattle.lethe_file.specs.Agreement as pages
use Rattle.lethe_file.specs.Agreement.{FileAgrees}
use Rattle.lethe_file.specs.Damage.{IsDamagedAs}
use Rattle.lethe_header.specs.Facts.{lines_of}
use Rattle.lethe_header.specs.Headers.{entries_in}
use Rattle.lethe_header.specs.declared.header.PageLine.{PageLine}
use Rattle.lethe_stored.specs.Files.{StoredFile, lines_in}
use Rattle.lethe_sweep_task.specs.Damage.{IsDamagedFor}
use Rattle.lethe_swept.specs.Drafts.{IsDraft, numbers_for}
use Rattle.lethe_swept.specs.declared.draft.SweptDraft.{SweptDraft}
use Rattle.lethe_sweep_task.specs.Drafted.{numbers_of}
use Rattle.lethe_sweep_task.specs.Outcome.{IsDraftLeft, PlainSweep}
use Rattle.lethe_job.specs.Tasks.{AreSound, HasDamaged}
use Rattle.lethe_job.specs.Works.{IsSweepOutput}
use Rattle.lethe_job.proofs.Listed.{any_from}

abbrev Agrees : StoredFile → Type 0
Agrees file = FileAgrees file.header.tiles file.pages

pub one_sound : (file : StoredFile) → AreSound (file ∷ []) → Agrees file
one_sound file sound = All-contains Agrees (file ∷ []) file sound (first_is file [] file refl)

-- a page that the sweep fetches is one of its file's
pub sweep_damaged : (tells : Type 0) (task : PlainSweep) (name : Name) → IsDamagedFor tells task.alone task.erase.range task.file.header.tiles task.file.pages name → Any (HasDamaged tells name) (task.file ∷ [])
sweep_damaged tells task name damaged =
    let line : PageLine = damaged.line in
    let bytes : List ℕ = damaged.bytes in
    let among : HasDamaged tells name task.file = any_from (λ (of : PageLine × List ℕ). IsDamagedAs tells name of.0 of.1) (zip (lines_in task.file) task.file.pages) (line, bytes) damaged.page damaged.damaged in
    any_from (HasDamaged tells name) (task.file ∷ []) task.file (first_is task.file [] task.file refl) among

few_numbers : (made : Option SweptDraft) → IfSome made (λ draft. numbers_for draft < 2 ^ 63) → numbers_of made < 2 ^ 63
few_numbers None few = omega arith
few_numbers (Some draft) few = few

bound_numbers : (made : Option SweptDraft) (most : ℕ) → IfSome made (λ draft. numbers_for draft ≤ most) → numbers_of made ≤ most
bound_numbers None most bounded = omega arith
bound_numbers (Some draft) most bounded = bounded

pub sweep_output : (tells : Type 0) (task : PlainSweep) (made : Option SweptDraft) → IfSome made IsDraft → IfSome made (λ draft. numbers_for draft < 2 ^ 63)
    → IfSome made (λ draft. numbers_for draft ≤ most_numbers (entries_in (lines_of task.file.header.tiles)))
    → (tells → Agrees task.file → IsDraftLeft task.alone task.erase task.file.header.tiles (map pages.entries_in task.file.pages) made) → IsSweepOutput tells task made
sweep_output tells task made each few bounded told = record {
  each = each;
  few = few_numbers made few;
  bounded =
      let counted : StoredFile → ℕ = λ file. entries_in (lines_in file) in
      let most = bound_numbers made (most_numbers (entries_in (lines_of task.file.header.tiles))) bounded in
      omega (arith, most, sum_by-cons counted task.file []);
  told = λ given sound. told given (one_sound task.file sound);
}
