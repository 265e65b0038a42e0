-- What a sweep's task makes, by what the sweep leaves and the draft of that.
use Rattle.std.proofs.Common.{◌≡◌, ℕ, ◌<◌, ◌≤◌, ◌^◌, Bool, List, [], Option, Some, None, Result, Ok, Err, refl, sym, ap, ◌∙◌, subst, arith}
use Rattle.std.specs.Prelude.{◌↔◌, IfSome, IsErrAnd, IsErrOf, IsNone, MatchOption}
use Rattle.std.proofs.lemmas.Option.{IfSome_then}
use Rattle.lethe_base.specs.declared.entry.Entry.{Entry}
use Rattle.lethe_base.specs.declared.pending.Pending.{Pending}
use Rattle.lethe_disk.specs.Reads.{HasReadCause}
use Rattle.lethe_disk.specs.declared.cursor.ReadRefused.{ReadRefused}
use Rattle.lethe_base.specs.declared.name.Name.{Name}
use Rattle.lethe_disk.specs.declared.cursor.ReadRefused.TheVariants.{Damaged}
use Rattle.lethe_disk.proofs.Causes.{cause_as}
use Rattle.lethe_header.specs.Facts.{lines_of}
use Rattle.lethe_header.specs.Headers.{HasSpelling, entries_in}
use Rattle.lethe_header.specs.declared.header.Header.{Header}
use Rattle.lethe_header.specs.declared.header.TileLine.{TileLine}
use Rattle.lethe_swept.specs.Built.{most_numbers}
use Rattle.lethe_sweep.specs.Sweeping.{IsSweptBy}
use Rattle.lethe_swept.specs.Drafts.{IsDraft, IsDraftOf, header_of, numbers_for}
use Rattle.lethe_swept.specs.Fits.{Fits}
use Rattle.lethe_swept.specs.declared.draft.SweptDraft.{SweptDraft}
use Rattle.lethe_swept.specs.declared.part.SweptFile.{SweptFile}
use Rattle.lethe_sweep_task.specs.Outcome.{IsDraftLeft}
use Rattle.lethe_sweep_task.proofs.Counting.{file_holds, numbers_bounded}

-- a draft has no number yet
pub unnumbered : (header : Header) (tiles : List TileLine) → tiles ≡ header.tiles → HasSpelling header → HasSpelling (header_of 0 tiles)
unnumbered header tiles same has =
    subst (λ (ts : List TileLine). HasSpelling (header_of 0 ts)) (sym same) (record { no = omega arith; some = has.some; few = has.few; tiles = has.tiles })

module _ (header : Header) (tiles : List TileLine) (same : tiles ≡ header.tiles) (swept : SweptFile) (made : Option SweptDraft) (drafted : IfSome made (IsDraftOf tiles swept)) where
  draft_of_file : IfSome made (IsDraftOf header.tiles swept)
  draft_of_file = subst (λ (ts : List TileLine). IfSome made (IsDraftOf ts swept)) same drafted

  pub made_each : IfSome made IsDraft
  made_each = IfSome_then made drafted (λ draft is. is.is)

  pub made_bounded : HasSpelling header → Fits header.tiles swept → IfSome made (λ draft. numbers_for draft ≤ most_numbers (entries_in (lines_of header.tiles)))
  made_bounded has fits = IfSome_then made draft_of_file (λ draft is. numbers_bounded header swept draft has fits is)

  pub made_few : HasSpelling header → Fits header.tiles swept → IfSome made (λ draft. numbers_for draft < 2 ^ 63)
  made_few has fits = let most = file_holds header has in IfSome_then made (made_bounded has fits) (λ draft less. omega (arith, most, less))

  pub made_left : (alone : Bool) (erase : Pending) (pages : List (List Entry)) → IsSweptBy alone erase header.tiles pages swept → IsNone made ↔ (swept.tiles ≡ [])
      → IsDraftLeft alone erase header.tiles pages made
  made_left alone erase pages is none = record { swept = swept; is = is; made_of = by made draft_of_file none }
    where
      by : (made : Option SweptDraft) → IfSome made (IsDraftOf header.tiles swept) → IsNone made ↔ (swept.tiles ≡ []) → MatchOption made (swept.tiles ≡ []) (IsDraftOf header.tiles swept)
      by None drafted none = none.0 refl
      by (Some draft) drafted none = drafted

-- the same refusal, handed on by a `?`
pub handed_on : (old new : ℕ) (result : Result (Option SweptDraft) ReadRefused) (why : ReadRefused) → IsErrAnd result (λ e. e ≡ why)
    → HasReadCause {T = SweptFile} old new (Err why) → HasReadCause {T = Option SweptDraft} old new result
handed_on old new (Ok made) why is cause = absurd is
handed_on old new (Err other) why is cause =
    subst (λ (w : ReadRefused). HasReadCause {T = Option SweptDraft} old new (Err w)) (sym is) (cause_as {T = SweptFile} {U = Option SweptDraft} old new why cause)

pub handed_damaged : (result : Result (Option SweptDraft) ReadRefused) (why : ReadRefused) (name : Name) → IsErrAnd result (λ e. e ≡ why) → IsErrOf result (Damaged name)
    → IsErrOf {T = SweptFile} (Err why) (Damaged name)
handed_damaged (Ok made) why name is told = absurd is
handed_damaged (Err other) why name is told = let same : other ≡ Damaged name = cc in ap refused (sym is ∙ same)
  where
    refused : ReadRefused → Result SweptFile ReadRefused
    refused told = Err told
