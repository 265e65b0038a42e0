-- A sweep stays one while files within another claim take the place of others, and no erase leaves.
use Rattle.std.proofs.Common.{◌≡◌, ◌≢◌, ℕ, ◌<◌, false, cond, eqb, IsTrue, List, ◌∷◌, ◌++◌, refl, sym, ap, ◌∙◌, subst, arith}
use Rattle.std.specs.Prelude.{Contains}
use Rattle.std.proofs.lemmas.Bool.{eq-eqb}
use Rattle.std.proofs.lemmas.List.Elements.{All-contains, Contains-append_right, filter-append}
use Rattle.lethe_base.specs.declared.config.Fields.{Fields}
use Rattle.lethe_cover.proofs.Common.{⊎_elim, first_is}
use Rattle.lethe_cover.proofs.Lists.{Pairs, all_from, pairs_from, pairs_parts}
use Rattle.lethe_fade.specs.Claims.{claim_over, keys_of, meets}
use Rattle.lethe_fade.specs.Spans.{KeyRange}
use Rattle.lethe_fade.specs.declared.claim.Claim.{Claim}
use Rattle.lethe_follows.specs.Merged.{at, range_of}
use Rattle.lethe_moves.specs.Files.{IsClearOf}
use Rattle.lethe_moves.proofs.KeyOrder.{IsUpto, Spans}
use Rattle.lethe_stored.specs.Files.{StoredFile, IsFile, file_of}
use Rattle.lethe_stored.specs.Stored.{Stored, IsCoherent}
use Rattle.lethe_stored.proofs.Leveled.{from_level, in_level}
use Rattle.lethe_sweep_task.specs.Outcome.{PlainSweep}
use Rattle.lethe_sweeps.specs.Swept.{HasNoneBelow, IsSweepIn, StoredSweep}
use Rattle.lethe_job.specs.Chosen.{range_in}
use Rattle.lethe_job.specs.SweepTasks.{IsSweepTask}
use Rattle.lethe_job.proofs.Listed.{IsAmong, among}
use Rattle.lethe_job.proofs.Planned.{range_same}
use Rattle.lethe_install.proofs.ClaimsApart.{file_proper, spans_itself}
use Rattle.lethe_install.proofs.OtherStep.{IsStep, apart_from, not_both, number_in, still_clear, still_there}
use Rattle.lethe_install.proofs.Swaps.{IsClaimed, IsSwapAt, behind_swap}

abbrev AreApart : StoredFile → StoredFile → Type 0
AreApart a b = number_in a ≢ number_in b

-- of files with distinct numbers, none in front of one is it
not_before : (front : List StoredFile) (file : StoredFile) (back : List StoredFile) → Pairs AreApart (front ++ (file ∷ back)) → Contains front file → ⊥
not_before front file back pairs there = (pairs_parts AreApart front (file ∷ back) pairs).2 file file there (first_is file back file refl) refl

module _ (s t : Stored) (coherent : IsCoherent s) (after : IsCoherent t) (claim : Claim) (step : IsStep claim s t) (w : StoredSweep) (task : PlainSweep) (is : IsSweepTask s w task)
    (apart : meets claim (claim_over w.file.level w.file.level (range_in w.file)) ≡ false)
  where
    abbrev sweep : IsSweepIn s w task.erase task.alone
    sweep = is.sweep

    abbrev file : StoredFile
    file = w.file

    abbrev own : ℕ
    own = file.level

    abbrev mine : Claim
    mine = claim_over own own (range_in file)

    was_there : Contains s.files file
    was_there = subst (λ files. Contains files file) (sym sweep.files) (Contains-append_right w.front (file ∷ w.back) file (first_is file w.back file refl))

    proper : IsUpto (range_of file).lo (range_of file).hi
    proper = file_proper s.manifest.next file (All-contains (IsFile s.manifest.next) s.files file coherent.each was_there)

    claimed : IsClaimed mine own file
    claimed = ((omega arith, omega arith), subst (λ keys. Spans keys (range_of file)) (sym (range_same file)) (spans_itself (range_of file)))

    mine_proper : IsUpto (range_in file).lo (range_in file).hi
    mine_proper = subst (λ (keys : KeyRange). IsUpto keys.lo keys.hi) (sym (range_same file)) proper

    now_there : Contains t.files file
    now_there = (from_level t.files own file (still_there s t coherent after claim step mine apart own file was_there refl claimed)).0

    once : Pairs AreApart t.files
    once = pairs_from AreApart t.files after.files_once

    pub split : IsAmong number_in t.files file
    split = among number_in t.files file once now_there

    abbrev pub sweep_then : StoredSweep
    sweep_then = record { front = split.before; file = file; back = split.behind }

    -- the files of a level around the file
    own_split : (files front back : List StoredFile) → files ≡ front ++ (file ∷ back) → at own files ≡ at own front ++ (file ∷ at own back)
    own_split files front back are = ap (at own) are ∙ filter-append (λ (f : StoredFile). eqb f.level own) front (file ∷ back)
        ∙ ap (λ b. at own front ++ cond b (file ∷ at own back) (at own back)) (eq-eqb own own refl)

    once_before : Contains (at own w.front) file → ⊥
    once_before there = not_before w.front file w.back (subst (Pairs AreApart) sweep.files (pairs_from AreApart s.files coherent.files_once)) (from_level w.front own file there).0

    once_now : Contains (at own split.before) file → ⊥
    once_now there = not_before split.before file split.behind (subst (Pairs AreApart) split.are once) (from_level split.before own file there).0

    abbrev here : IsSwapAt claim s.files t.files own
    here = step.swaps own

    clear_header : (other : StoredFile) → IsClearOf (range_of file) (file_of other) → IsClearOf (keys_of mine) (file_of other)
    clear_header other clear = subst (λ keys. IsClearOf keys (file_of other)) (sym (range_same file)) clear

    none_below : IsTrue task.alone → HasNoneBelow t sweep_then
    none_below alone =
        let before = sweep.clear alone in
        let IsClearBelow : StoredFile → Type 0 = λ other. own < other.level → IsClearOf (range_of file) (file_of other) in
        let IsClearAtTop : StoredFile → Type 0 = λ other. other.level ≡ 0 → IsClearOf (range_of file) (file_of other) in
        record {
          deeper = all_from IsClearBelow t.files (λ other there below. subst (λ keys. IsClearOf keys (file_of other)) (range_same file)
              (still_clear s t coherent after claim step mine apart own (omega arith, omega arith) mine_proper
              (λ old was deeper. clear_header old (All-contains IsClearBelow s.files old before.deeper was deeper)) other there below));
          older = λ zeroth. all_from IsClearAtTop split.behind (λ other there top.
              let at_own : other.level ≡ own = top ∙ sym zeroth in
              ⊎_elim
              (λ stays. All-contains IsClearAtTop w.back other (before.older zeroth) (from_level w.back own other stays).0 top)
              (λ came. subst (λ keys. IsClearOf keys (file_of other)) (range_same file)
              (apart_from s t coherent after claim step mine apart own own other (here.made_in other came) (here.made_in other came).0 (omega arith, omega arith)))
              (behind_swap here.before here.gone here.made here.behind (at own w.front) (at own w.back) (at own split.before) (at own split.behind) file
              (sym here.was_is ∙ own_split s.files w.front w.back sweep.files) (sym here.now_is ∙ own_split t.files split.before split.behind split.are)
              (λ went. not_both s t coherent after claim step mine apart own file proper (here.gone_in file went) claimed)
              (λ came. not_both s t coherent after claim step mine apart own file proper (here.made_in file came) claimed)
              once_before once_now other (in_level split.behind own other there at_own)));
        }

    sweep_in_then : IsSweepIn t sweep_then task.erase task.alone
    sweep_in_then = record {
      files = split.are;
      pending = subst (λ erases. Contains erases task.erase) (sym step.pending) sweep.pending;
      unswept = sweep.unswept;
      oldest = λ other there. sweep.oldest other (subst (λ erases. Contains erases other) step.pending there);
      clear = none_below;
      bottom = λ last. sweep.bottom (last ∙ ap (λ (fields : Fields). fields.levels) step.config);
    }

    pub sweep_stays : IsSweepTask t sweep_then task
    sweep_stays = record { sweep = sweep_in_then; file = is.file }
