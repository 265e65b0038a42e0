-- A merge stays one while files within another claim take the place of others, and no erase leaves.
use Rattle.std.proofs.Common.{◌≡◌, ◌≢◌, ◌⊎◌, inl, inr, ◌+◌, ◌<◌, Bool, false, eqb, IsTrue, List, [], ◌∷◌, ◌++◌, length, sym, ap, ◌∙◌, subst, arith, append_assoc, append-nil}
use Rattle.std.specs.Prelude.{Contains, filter}
use Rattle.std.specs.declared.cmp.Ordering.TheVariants.{Less}
use Rattle.std.proofs.lemmas.List.Elements.{All-contains, Contains-append_left, Contains-append_right}
use Rattle.std.proofs.lemmas.List.Kept.{AllPairs-filter}
use Rattle.lethe_base.specs.Keys.{key_cmp}
use Rattle.lethe_base.specs.declared.config.Fields.{Fields}
use Rattle.lethe_cover.proofs.Lists.{all_from, pairs_from}
use Rattle.lethe_fade.specs.Claims.{claim_at, keys_of, meets}
use Rattle.lethe_fade.specs.Spans.{KeyRange}
use Rattle.lethe_fade.specs.declared.claim.Claim.{Claim}
use Rattle.lethe_follows.specs.Merged.{IsAlone, IsMergeIn, StoredMerge, at, erases_upto, hull_of, inputs_of, range_of}
use Rattle.lethe_header.specs.Facts.{greatest_key, least_key}
use Rattle.lethe_moves.specs.Files.{IsClearOf}
use Rattle.lethe_moves.proofs.KeyOrder.{IsUpto}
use Rattle.lethe_stored.specs.Files.{StoredFile, IsFile, file_of}
use Rattle.lethe_stored.specs.Stored.{Stored, IsCoherent}
use Rattle.lethe_stored.proofs.Leveled.{from_level}
use Rattle.lethe_job.specs.Chosen.{hull_in}
use Rattle.lethe_job.specs.Tasks.{IsMergeTask, PlainMerge}
use Rattle.lethe_job.proofs.Listed.{IsAmong, among, pairs_weaker}
use Rattle.lethe_job.proofs.Planned.{range_same}
use Rattle.lethe_job.proofs.Split.{IsParted, does_meet, parted}
use Rattle.lethe_job.proofs.Hulls.{met_are, only_one}
use Rattle.lethe_job.proofs.Planned.{hull_same}
use Rattle.lethe_job.proofs.Split.{none_meet}
use Rattle.lethe_install.proofs.ClaimsApart.{file_proper, hull_proper, hull_spans, hull_spans_first, inner_apart, keys_apart, some_item}
use Rattle.lethe_install.proofs.Swaps.{IsClaimed, IsSwapAt, filter_swap, suffix_behind}
use Rattle.lethe_install.proofs.OtherStep.{IsStep, not_both, number_in, still_clear, still_there}

module _ (s t : Stored) (coherent : IsCoherent s) (after : IsCoherent t) (claim : Claim) (step : IsStep claim s t) (m : StoredMerge) (task : PlainMerge) (is : IsMergeTask s m task)
    (apart : meets claim (claim_at m.level (hull_in (inputs_of m))) ≡ false)
  where
    abbrev begun : IsMergeIn s m
    begun = is.merge

    abbrev keys : KeyRange
    keys = hull_in (inputs_of m)

    abbrev mine : Claim
    mine = claim_at m.level keys

    abbrev here : IsSwapAt claim s.files t.files m.level
    here = step.swaps m.level

    abbrev next : IsSwapAt claim s.files t.files (m.level + 1)
    next = step.swaps (m.level + 1)

    source_there : (file : StoredFile) → Contains m.sources file → Contains s.files file × (file.level ≡ m.level)
    source_there file source = from_level s.files m.level file (subst (λ files. Contains files file) (sym begun.from)
        (Contains-append_right m.newer (m.sources ++ m.older) file (Contains-append_left m.sources m.older file source)))

    stored_file : (file : StoredFile) → Contains s.files file → IsFile s.manifest.next file
    stored_file file there = All-contains (IsFile s.manifest.next) s.files file coherent.each there

    source_claimed : (file : StoredFile) → Contains m.sources file → IsClaimed mine m.level file
    source_claimed file source = ((omega arith, omega arith), hull_spans (inputs_of m) file (Contains-append_left m.sources m.met file source))

    some_source : m.sources ≢ []
    some_source none = elim begun.whole [ inl whole ↦ whole.2 none | inr one ↦ let empty = ap length none in let single = one.1 in absurd (omega (arith, empty, single)) ]

    proper : IsUpto keys.lo keys.hi
    proper =
        let source = some_item m.sources some_source in
        hull_proper s.manifest.next (inputs_of m) source.0 (Contains-append_left m.sources m.met source.0 source.1) (stored_file source.0 (source_there source.0 source.1).0)

    -- the sources

    pub record AreSourcesThen : Type 0 where
      pub newer : List StoredFile
      pub older : List StoredFile
      pub from : at m.level t.files ≡ newer ++ (m.sources ++ older)
      pub whole : ((m.level ≡ 0) × (older ≡ []) × (m.sources ≢ [])) ⊎ ((0 < m.level) × (length m.sources ≡ 1))

    at_top : m.level ≡ 0 → m.older ≡ [] → AreSourcesThen
    at_top zeroth none = elim (here.top zeroth) [
      | inl same ↦ record {
        newer = m.newer;
        older = m.older;
        from = here.now_is ∙ (λ i. here.before ++ (same.1 i ++ here.behind)) ∙ (λ i. here.before ++ (sym same.0 i ++ here.behind)) ∙ sym here.was_is ∙ begun.from;
        whole = inl (zeroth, none, some_source);
      }
      | inr some ↦
          let parts = suffix_behind here.before here.gone here.behind m.newer (m.sources ++ m.older) (sym begun.from ∙ here.was_is) some.0 some.1
          (λ file went inside. went_no_source file went (subst (λ files. Contains files file) (ap (λ older. m.sources ++ older) none ∙ append-nil m.sources) inside)) in
          record {
            newer = here.before ++ (here.made ++ parts.0);
            older = m.older;
            from = here.now_is
                ∙ ap (λ behind. here.before ++ (here.made ++ behind)) parts.1
                ∙ ap (λ l. here.before ++ l) (sym (append_assoc here.made parts.0 (m.sources ++ m.older)))
                ∙ sym (append_assoc here.before (here.made ++ parts.0) (m.sources ++ m.older));
            whole = inl (zeroth, none, some_source);
          }
    ]
      where
        went_no_source : (file : StoredFile) → Contains here.gone file → Contains m.sources file → ⊥
        went_no_source file went source = not_both s t coherent after claim step mine apart m.level file (file_proper s.manifest.next file (stored_file file (source_there file source).0)) (here.gone_in file went) (source_claimed file source)

    with_one : (source : StoredFile) → m.sources ≡ source ∷ [] → IsAmong number_in (at m.level t.files) source → 0 < m.level → length m.sources ≡ 1 → AreSourcesThen
    with_one source alone split deep one = record {
      newer = split.before;
      older = split.behind;
      from = split.are ∙ ap (λ l. split.before ++ (l ++ split.behind)) (sym alone);
      whole = inr (deep, one);
    }

    below_top : 0 < m.level → length m.sources ≡ 1 → AreSourcesThen
    below_top deep one =
        let source = some_item m.sources some_source in
        let stored = source_there source.0 source.1 in
        with_one source.0 (only_one m.sources source.0 one source.1)
        (among number_in (at m.level t.files) source.0
        (pairs_from (λ a b. number_in a ≢ number_in b) (at m.level t.files) (AllPairs-filter (λ a b. number_in a ≢ number_in b) (λ (f : StoredFile). eqb f.level m.level) t.files after.files_once))
        (still_there s t coherent after claim step mine apart m.level source.0 stored.0 stored.1 (source_claimed source.0 source.1)))
        deep one

    pub sources_then : AreSourcesThen
    sources_then = elim begun.whole [ inl whole ↦ at_top whole.0 whole.1 | inr deep ↦ below_top deep.0 deep.1 ]

    -- the files of the next level

    pub split_next : IsParted range_of (hull_of m.sources) (at (m.level + 1) t.files)
    split_next = parted range_of (hull_of m.sources) (at (m.level + 1) t.files)
        (λ f inside. file_proper t.manifest.next f (All-contains (IsFile t.manifest.next) t.files f after.each (from_level t.files (m.level + 1) f inside).0))
        (pairs_weaker (λ a b. key_cmp (greatest_key a.header.tiles) (least_key b.header.tiles) ≡ Less) (λ a b. key_cmp (range_of a).hi (range_of b).lo ≡ Less) (at (m.level + 1) t.files)
        (λ a b less. sym (λ i. key_cmp (range_same a i).hi (range_same b i).lo) ∙ less)
        (pairs_from (λ a b. key_cmp (greatest_key a.header.tiles) (least_key b.header.tiles) ≡ Less) (at (m.level + 1) t.files) (step.rising (m.level + 1) (omega arith))))

    abbrev meets_sources : StoredFile → Bool
    meets_sources = does_meet range_of (hull_of m.sources)

    -- nothing of the other claim overlaps the sources
    other_clear : (file : StoredFile) → IsClaimed claim (m.level + 1) file → meets_sources file ≡ false
    other_clear file other = inner_apart (keys_of claim) keys (range_of file) (hull_of m.sources) (keys_apart claim mine (m.level + 1) other.0 (omega arith, omega arith) apart) other.1
        (hull_spans_first m.sources m.met some_source)

    met_then : filter meets_sources (at (m.level + 1) t.files) ≡ m.met
    met_then = ap (filter meets_sources) next.now_is
        ∙ filter_swap meets_sources next.before next.gone next.made next.behind
        (none_meet range_of (hull_of m.sources) next.gone (λ file there. other_clear file (next.gone_in file there)))
        (none_meet range_of (hull_of m.sources) next.made (λ file there. other_clear file (next.made_in file there)))
        ∙ ap (filter meets_sources) (sym next.was_is)
        ∙ met_are s m begun

    abbrev pub merge_then : StoredMerge
    merge_then = record { level = m.level; newer = sources_then.newer; sources = m.sources; older = sources_then.older; lower = split_next.lower; met = m.met; higher = split_next.higher }

    begun_then : IsMergeIn t merge_then
    begun_then = record {
      level = let levels = ap (λ (fields : Fields). fields.levels) step.config in let low = begun.level in omega (arith, levels, low);
      from = sources_then.from;
      whole = sources_then.whole;
      into = split_next.are ∙ ap (λ l. split_next.lower ++ (l ++ split_next.higher)) met_then;
      lower = split_next.below;
      met = begun.met;
      higher = split_next.above;
    }

    alone_then : IsTrue task.alone → IsAlone t m.level (hull_of (inputs_of m))
    alone_then alone =
        let IsClearBelow : StoredFile → Type 0 = λ file. m.level + 1 < file.level → IsClearOf (hull_of (inputs_of m)) (file_of file) in
        let same = hull_same (inputs_of m) in
        all_from IsClearBelow t.files (λ file there deeper.
        subst (λ keys. IsClearOf keys (file_of file)) same
        (still_clear s t coherent after claim step mine apart (m.level + 1) (omega arith, omega arith) proper
        (λ old was below. subst (λ keys. IsClearOf keys (file_of old)) (sym same) (All-contains IsClearBelow s.files old (is.clear alone) was below))
        file there deeper))

    pub merge_stays : IsMergeTask t merge_then task
    merge_stays = record {
      merge = begun_then;
      level = is.level;
      sources = is.sources;
      met = is.met;
      clear = alone_then;
      bottom = λ last. is.bottom (last ∙ ap (λ (fields : Fields). fields.levels) step.config);
      erases = is.erases ∙ ap (erases_upto task.upto) (sym step.pending);
      upto = let within = is.upto in let same = step.count in omega (arith, within, same);
      config = is.config ∙ sym step.config;
    }
