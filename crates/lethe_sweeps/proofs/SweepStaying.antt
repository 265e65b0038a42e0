-- A sweep that was begun stays one.
use Rattle.std.proofs.Common.{◌≡◌, ℕ, ◌<◌, ◌≤◌, ◌++◌, ◌∷◌, Bool, List, None, AllPairs, All, Contains, append_assoc, sym, ap, ◌∙◌, subst, arith}
use Rattle.std.specs.Prelude.{option_to_list}
use Rattle.std.proofs.lemmas.List.Elements.{All-append, All-weaker, Contains-append_cases, Contains-append_left}
use Rattle.lethe_base.specs.declared.pending.Pending.{Pending}
use Rattle.lethe_cover.proofs.Common.{⊎_elim}
use Rattle.lethe_cover.proofs.Lists.{pairs_from, pairs_parts}
use Rattle.lethe_moves.specs.Files.{IsClearOf}
use Rattle.lethe_segment.specs.declared.record.Record.{Record}
use Rattle.lethe_stored.specs.Files.{StoredFile, file_of}
use Rattle.lethe_stored.specs.Stored.{Stored, appended, erase_of, froze, pending_of}
use Rattle.lethe_stored.proofs.Appended.{pending_appended}
use Rattle.lethe_follows.specs.Filed.{flushed}
use Rattle.lethe_follows.specs.Merged.{range_of}
use Rattle.lethe_follows.proofs.ErasesStaying.{pending_flushed, pending_frozen}
use Rattle.lethe_follows.proofs.Filing.{AreNewest}
use Rattle.lethe_sweeps.specs.Swept.{IsSweepIn, StoredSweep, files_before, with_front}

abbrev IsEarlier : Pending → Pending → Type 0
IsEarlier a b = a.seq < b.seq

-- no pending erase that the file isn't swept of is older
abbrev IsOldest : List Pending → StoredSweep → Pending → Type 0
IsOldest pending w erase = (other : Pending) → Contains pending other → w.file.swept < other.seq → erase.seq ≤ other.seq

module _ (s : Stored) (w : StoredSweep) (erase : Pending) (alone : Bool) (is : IsSweepIn s w erase alone) where
  module _ (next : Record) (rises : AllPairs (λ (a b : Pending). a.seq < b.seq) (pending_of s ++ option_to_list (erase_of next))) where
    abbrev added : List Pending
    added = option_to_list (erase_of next)

    both : pending_of (appended s next) ≡ pending_of s ++ added
    both = pending_appended s next rises

    -- the erase of the record comes behind all others
    later : (other : Pending) → Contains added other → erase.seq < other.seq
    later other there = (pairs_parts IsEarlier (pending_of s) added (pairs_from IsEarlier (pending_of s ++ added) rises)).2 erase other is.pending there

    oldest_appended : IsOldest (pending_of s ++ added) w erase
    oldest_appended other there behind = ⊎_elim
        (λ before. is.oldest other before behind)
        (λ new. let up = later other new in omega (arith, up))
        (Contains-append_cases (pending_of s) added other there)

    pub stays_appended : IsSweepIn (appended s next) w erase alone
    stays_appended = record {
      files = is.files;
      pending = subst (λ pending. Contains pending erase) (sym both) (Contains-append_left (pending_of s) added erase is.pending);
      unswept = is.unswept;
      oldest = subst (λ pending. IsOldest pending w erase) (sym both) oldest_appended;
      clear = λ lone. let none = is.clear lone in record { deeper = none.deeper; older = none.older };
      bottom = is.bottom;
    }

  pub stays_frozen : (segment number : ℕ) → s.frozen ≡ None → IsSweepIn (froze s segment number) w erase alone
  stays_frozen segment number unfrozen =
      let same = pending_frozen s segment number unfrozen in
      record {
        files = is.files;
        pending = subst (λ pending. Contains pending erase) (sym same) is.pending;
        unswept = is.unswept;
        oldest = subst (λ pending. IsOldest pending w erase) (sym same) is.oldest;
        clear = λ lone. let none = is.clear lone in record { deeper = none.deeper; older = none.older };
        bottom = is.bottom;
      }

  module _ (made : List StoredFile) (number : ℕ) (newest : AreNewest made) where
    abbrev IsClearBelow : StoredFile → Type 0
    IsClearBelow file = w.file.level < file.level → IsClearOf (range_of w.file) (file_of file)

    -- no file of level 0 is below another level
    clear_made : All IsClearBelow made
    clear_made = All-weaker (λ (file : StoredFile). file.level ≡ 0) IsClearBelow (λ file zeroth deeper. absurd (omega (arith, zeroth, deeper))) made newest

    files_flushed : made ++ s.files ≡ files_before (with_front made w)
    files_flushed = ap (λ files. made ++ files) is.files ∙ sym (append_assoc made w.front (w.file ∷ w.back))

    pub stays_flushed : IsSweepIn (flushed s made number) (with_front made w) erase alone
    stays_flushed =
        let same = pending_flushed s made number in
        record {
          files = files_flushed;
          pending = subst (λ pending. Contains pending erase) (sym same) is.pending;
          unswept = is.unswept;
          oldest = subst (λ pending. IsOldest pending w erase) (sym same) is.oldest;
          clear = λ lone. let none = is.clear lone in record { deeper = All-append IsClearBelow made s.files clear_made none.deeper; older = none.older };
          bottom = is.bottom;
        }
