-- How many pages a job's work has, and what its reads are refused for.
use Rattle.std.proofs.Common.{◌≡◌, ◌+◌, ◌<◌, ◌≤◌, ◌^◌, ℕ, suc, List, [], ◌∷◌, length, Result, Some, None, Err, refl, sym, ap, ◌∙◌, arith, length-append}
use Rattle.std.specs.Prelude.{sum_by, Any, IsErrOf}
use Rattle.std.proofs.lemmas.List.Sums.{sum_by-append}
use Rattle.lethe_base.specs.declared.name.Name.{Name}
use Rattle.lethe_base.specs.declared.refused.Refused.{Refused}
use Rattle.lethe_build.specs.Drafts.{numbers_for}
use Rattle.lethe_build.specs.declared.draft.Draft.{Draft}
use Rattle.lethe_disk.specs.Reads.{HasReadCause, IsFault}
use Rattle.lethe_disk.specs.declared.cursor.ReadRefused.{ReadRefused}
use Rattle.lethe_disk.specs.declared.cursor.ReadRefused.TheVariants.{ReadFault, Damaged}
use Rattle.lethe_disk.proofs.Causes.{cause_as}
use Rattle.lethe_build.specs.Drafts.{pages_in}
use Rattle.lethe_stored.specs.Files.{StoredFile}
use Rattle.lethe_job.specs.Jobs.{IsUnread, told_as}
use Rattle.lethe_job.specs.MadeOf.{numbers_in, pages_of}
use Rattle.lethe_job.specs.Tasks.{AreSound, HasDamaged}
use Rattle.lethe_job.specs.Works.{AreOutputs, Merges, PlainTask, Sweeps}
use Rattle.lethe_job.specs.declared.made.Made.{Made}
use Rattle.lethe_job.specs.declared.made.Made.TheVariants.{Files, Left}

-- a draft takes one number more than it has pages
pub numbers_are : (drafts : List Draft) → length (pages_in drafts) + length drafts ≡ sum_by numbers_for drafts
numbers_are [] = refl
numbers_are (draft ∷ drafts) =
    let pages : length (pages_in (draft ∷ drafts)) ≡ length draft.pages + length (pages_in drafts) = length-append draft.pages (pages_in drafts) in
    let sum : sum_by numbers_for (draft ∷ drafts) ≡ sum_by numbers_for (draft ∷ []) + sum_by numbers_for drafts = sum_by-append numbers_for (draft ∷ []) drafts in
    let one : sum_by numbers_for (draft ∷ []) ≡ length draft.pages + 1 = omega arith in
    let more : length (pages_in drafts) + length drafts ≡ sum_by numbers_for drafts = numbers_are drafts in
    pages_more (length (pages_in (draft ∷ drafts))) (length draft.pages) (length (pages_in drafts)) (length drafts) (sum_by numbers_for drafts) pages more ∙ ap (λ (own : ℕ). own + sum_by numbers_for drafts) (sym one) ∙ sym sum
  where
    pages_more : (all own rest count numbers : ℕ) → all ≡ own + rest → rest + count ≡ numbers → all + suc count ≡ (own + 1) + numbers
    pages_more all own rest count numbers is more = omega arith

-- it takes a number for each page, if not more
pub pages_few : (made : Made) → length (pages_of made) ≤ numbers_in made
pages_few (Files drafts) = omega (arith, numbers_are drafts.items)
pages_few (Left None) = omega arith
pages_few (Left (Some draft)) = omega arith

pub numbers_few : (Tells : Type 0) (task : PlainTask) (made : Made) → AreOutputs Tells task made → numbers_in made < 2 ^ 63
numbers_few Tells (Merges task) (Files drafts) are = are.few
numbers_few Tells (Merges task) (Left made) are = absurd are
numbers_few Tells (Sweeps task) (Files drafts) are = absurd are
numbers_few Tells (Sweeps task) (Left made) are = are.few

abbrev refused : ReadRefused → Result Made ReadRefused
refused why = Err why

-- the refusal of the reads of what is made
pub unread : (Tells PortsFail : Type 0) (files : List StoredFile) (old new : ℕ) (told : ReadRefused) (why : Refused) → why ≡ told_as told → HasReadCause {T = Made} old new (Err told)
    → (IsFault {T = Made} (Err told) → PortsFail) → ((name : Name) → IsErrOf {T = Made} (Err told) (Damaged name) → Any (HasDamaged Tells name) files)
    → (Tells → AreSound files → (name : Name) → IsErrOf {T = Made} (Err told) (Damaged name) → ⊥) → IsUnread Tells PortsFail files old new why
unread Tells PortsFail files old new told why is cause can_fail damaged undamaged = record {
  told = told;
  is = is;
  cause = cause_as {T = Made} {U = Unit {0}} old new told cause;
  can_fail = λ fault. can_fail (again fault);
  damaged = λ name named. damaged name (ap refused named);
  undamaged = λ tells sound name named. undamaged tells sound name (ap refused named);
}
  where
    again : IsFault {T = Unit {0}} (Err told) → IsFault {T = Made} (Err told)
    again (before, after, e) = let same : told ≡ ReadFault before after = cc in (before, after, ap refused same)
