-- A merge that was begun stays one.
use Rattle.std.proofs.Common.{◌≡◌, ℕ, ◌+◌, eqb, List, ◌++◌, sym, ap, ◌∙◌, arith}
use Rattle.std.proofs.Common.{append_assoc}
use Rattle.std.proofs.lemmas.List.Elements.{filter-append}
use Rattle.lethe_segment.specs.declared.record.Record.{Record}
use Rattle.lethe_stored.specs.Files.{StoredFile}
use Rattle.lethe_stored.specs.Stored.{Stored, appended, froze}
use Rattle.lethe_follows.specs.Filed.{flushed}
use Rattle.lethe_follows.specs.Merged.{IsMergeIn, StoredMerge, at, with_newer}
use Rattle.lethe_follows.proofs.Filing.{AreNewest, deeper_filed}

module _ (s : Stored) (m : StoredMerge) (is : IsMergeIn s m) where
  pub stays_appended : (next : Record) → IsMergeIn (appended s next) m
  stays_appended next = record { level = is.level; from = is.from; whole = is.whole; into = is.into; lower = is.lower; met = is.met; higher = is.higher }

  pub stays_frozen : (segment number : ℕ) → IsMergeIn (froze s segment number) m
  stays_frozen segment number = record { level = is.level; from = is.from; whole = is.whole; into = is.into; lower = is.lower; met = is.met; higher = is.higher }

  module _ (made : List StoredFile) (number : ℕ) (newest : AreNewest made) where
    from_flushed : at m.level (made ++ s.files) ≡ (at m.level made ++ m.newer) ++ (m.sources ++ m.older)
    from_flushed = filter-append (λ (file : StoredFile). eqb file.level m.level) made s.files ∙ ap (λ files. at m.level made ++ files) is.from ∙ sym (append_assoc (at m.level made) m.newer (m.sources ++ m.older))

    pub stays_flushed : IsMergeIn (flushed s made number) (with_newer made m)
    stays_flushed = record {
      level = is.level;
      from = from_flushed;
      whole = is.whole;
      into = deeper_filed made s.files (m.level + 1) (omega arith) newest ∙ is.into;
      lower = is.lower;
      met = is.met;
      higher = is.higher;
    }
