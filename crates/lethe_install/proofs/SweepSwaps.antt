-- What a sweep takes away and brings, level by level.
use Rattle.std.proofs.Common.{◌≡◌, ◌≢◌, inl, inr, ℕ, Bool, List, [], ◌∷◌, ◌++◌, refl, sym, ap, ◌∙◌, subst, arith, append-nil}
use Rattle.std.specs.Prelude.{Contains}
use Rattle.std.specs.List.{cons_option}
use Rattle.std.proofs.lemmas.Bool.{cases_eq}
use Rattle.std.proofs.lemmas.List.Elements.{All-contains, Contains-append_right}
use Rattle.lethe_base.specs.declared.pending.Pending.{Pending}
use Rattle.lethe_cover.proofs.Common.{first_is, none_in}
use Rattle.lethe_cover.proofs.Lists.{only_in}
use Rattle.lethe_fade.specs.Claims.{claim_over}
use Rattle.lethe_fade.specs.declared.claim.Claim.{Claim}
use Rattle.lethe_follows.specs.Merged.{Company, at, range_of}
use Rattle.lethe_moves.specs.Files.{IsWithin}
use Rattle.lethe_moves.proofs.KeyOrder.{Spans}
use Rattle.lethe_stored.specs.Files.{StoredFile}
use Rattle.lethe_stored.specs.Stored.{Stored}
use Rattle.lethe_sweeps.specs.Swept.{IsSweepIn, IsSweptWith, StoredSweep}
use Rattle.lethe_sweeps.proofs.SweptLevels.{own_before, other_then, own_then}
use Rattle.lethe_job.specs.Chosen.{range_in}
use Rattle.lethe_job.proofs.Planned.{range_same}
use Rattle.lethe_install.proofs.ClaimsApart.{clear_within, spans_itself}
use Rattle.lethe_install.proofs.Swaps.{IsSwapAt}

module _ (company : Company) (s : Stored) (w : StoredSweep) (erase : Pending) (alone : Bool) (begun : IsSweepIn s w erase alone) (t : Stored) (is : IsSweptWith company s w erase alone t) where
  abbrev own : ℕ
  own = w.file.level

  abbrev claim : Claim
  claim = claim_over own own (range_in w.file)

  abbrev made : List StoredFile
  made = cons_option is.made []

  file_there : Contains s.files w.file
  file_there = subst (λ files. Contains files w.file) (sym begun.files) (Contains-append_right w.front (w.file ∷ w.back) w.file (first_is w.file w.back w.file refl))

  made_spanned : (file : StoredFile) → Contains made file → Spans (range_of w.file) (range_of file)
  made_spanned file there = (
    (All-contains (λ (left : StoredFile). IsWithin (range_of w.file).lo (range_of w.file).hi (range_of left).lo) made file is.left.lo there).0,
    (All-contains (λ (left : StoredFile). IsWithin (range_of w.file).lo (range_of w.file).hi (range_of left).hi) made file is.left.hi there).1,
  )

  -- the file's keys are claimed as its header has them
  by_header : (file : StoredFile) → Spans (range_of w.file) (range_of file) → Spans (range_in w.file) (range_of file)
  by_header file within = subst (λ keys. Spans keys (range_of file)) (sym (range_same w.file)) within

  here : (level : ℕ) → level ≡ own → IsSwapAt claim s.files t.files level
  here level same = record {
    before = at level w.front;
    gone = w.file ∷ [];
    made = made;
    behind = at level w.back;
    was_is = ap (at level) begun.files ∙ subst (λ k. at k (w.front ++ (w.file ∷ w.back)) ≡ at k w.front ++ (w.file ∷ at k w.back)) (sym same) (own_before w);
    now_is = ap (at level) is.files ∙ subst (λ k. at k (w.front ++ (made ++ w.back)) ≡ at k w.front ++ (made ++ at k w.back)) (sym same) (own_then w is.made is.left.level);
    gone_in = λ file there. ((omega (arith, same), omega (arith, same)), by_header file (subst (λ (f : StoredFile). Spans (range_of w.file) (range_of f)) (only_in w.file file there) (spans_itself (range_of w.file))));
    made_in = λ file there. ((omega (arith, same), omega (arith, same)), by_header file (made_spanned file there));
    top = λ zeroth. inr (w.file, first_is w.file [] w.file refl);
    clear = λ keys proper above less all file there. clear_within keys (range_of w.file) (range_of file) (all w.file file_there less) (made_spanned file there);
  }

  away : (level : ℕ) → level ≢ own → IsSwapAt claim s.files t.files level
  away level other = record {
    before = at level s.files;
    gone = [];
    made = [];
    behind = [];
    was_is = sym (append-nil (at level s.files));
    now_is = ap (at level) is.files ∙ other_then w level other is.made is.left.level ∙ ap (at level) (sym begun.files) ∙ sym (append-nil (at level s.files));
    gone_in = λ file there. absurd (none_in file there);
    made_in = λ file there. absurd (none_in file there);
    top = λ zeroth. inl (refl, refl);
    clear = λ keys proper above less all file there. absurd (none_in file there);
  }

  pub sweep_swaps : (level : ℕ) → IsSwapAt claim s.files t.files level
  sweep_swaps level = elim (cases_eq level own) [ inl same ↦ here level same | inr other ↦ away level other ]
