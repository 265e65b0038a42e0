-- What a merge takes away and brings, level by level.
use Rattle.std.proofs.Common.{◌≡◌, ◌≢◌, ◌⊎◌, inl, inr, ℕ, ◌+◌, Bool, true, false, IsTrue, List, [], ◌∷◌, ◌++◌, length, map, refl, sym, ap, ◌∙◌, subst, arith, append-nil}
use Rattle.std.specs.Prelude.{Contains}
use Rattle.std.specs.Ordering.{is_le}
use Rattle.std.specs.declared.cmp.Ordering.{Ordering}
use Rattle.std.specs.declared.cmp.Ordering.TheVariants.{Less, Equal, Greater}
use Rattle.std.proofs.lemmas.Bool.{and_from, and_parts, cases_eq}
use Rattle.std.proofs.lemmas.List.Elements.{All-contains, Contains-append_cases, Contains-append_left, Contains-append_right}
use Rattle.lethe_base.specs.Keys.{Bytes, key_cmp}
use Rattle.lethe_base.specs.Layout.{entries_of}
use Rattle.lethe_base.specs.declared.entry.Entry.{Entry}
use Rattle.lethe_base.specs.declared.pending.Pending.{Pending}
use Rattle.lethe_cover.proofs.Common.{⊎_elim, nat_list_cmp_total, none_in}
use Rattle.lethe_cover.proofs.Lists.{flat_from, flat_in, in_map, only_in}
use Rattle.lethe_fade.specs.Claims.{claim_at}
use Rattle.lethe_fade.specs.Spans.{KeyRange, overlaps}
use Rattle.lethe_fade.specs.declared.claim.Claim.{Claim}
use Rattle.lethe_fade.proofs.MeetingLaws.{key_upto}
use Rattle.lethe_follows.specs.Merged.{Company, IsMergeIn, IsMergedWith, StoredMerge, at, entries_in, hull_of, inputs_of, range_of}
use Rattle.lethe_follows.proofs.Tiled.{file_tiled}
use Rattle.lethe_moves.specs.Files.{IsClearOf}
use Rattle.lethe_moves.proofs.KeyOrder.{IsUpto, Spans}
use Rattle.lethe_moves.proofs.Outputs.{made_ends}
use Rattle.lethe_moves.proofs.Tiled.{entry_keys}
use Rattle.lethe_stored.specs.Files.{StoredFile, IsFile, file_of}
use Rattle.lethe_stored.specs.Stored.{Stored, IsCoherent}
use Rattle.lethe_stored.proofs.Leveled.{from_level}
use Rattle.lethe_job.specs.Chosen.{hull_in}
use Rattle.lethe_job.proofs.Hulls.{only_one}
use Rattle.lethe_install.proofs.ClaimsApart.{file_proper, hull_spans, refuted, some_item}
use Rattle.lethe_install.proofs.Swaps.{IsSwapAt}

-- a file has an entry
record IsIn (files : List StoredFile) (entry : Entry) : Type 0 where
  file : StoredFile
  there : Contains files file
  spelled : Contains (entries_of (file_of file)) entry

to_in : (files : List StoredFile) (entry : Entry) → Contains (entries_in files) entry → IsIn files entry
to_in files entry there = let found = flat_from (λ (file : StoredFile). entries_of (file_of file)) files entry there in record { file = found.0; there = found.1; spelled = found.2 }

from_in : (files : List StoredFile) (entry : Entry) → IsIn files entry → Contains (entries_in files) entry
from_in files entry is = flat_in (λ (file : StoredFile). entries_of (file_of file)) files is.file entry is.there is.spelled

-- of two keys one is at most the other
other_way : (a b : Bytes) → (IsUpto a b → ⊥) → IsUpto b a
other_way a b not_upto = by (key_cmp a b) refl not_upto
  where
    by : (o : Ordering) → key_cmp a b ≡ o → (IsTrue (is_le o) → ⊥) → IsUpto b a
    by Less at none = absurd (none refl)
    by Equal at none = absurd (none refl)
    by Greater at none = grind (arith, nat_list_cmp_total.antisymm a b)

module _ (company : Company) (s : Stored) (coherent : IsCoherent s) (m : StoredMerge) (begun : IsMergeIn s m) (applied : List Pending) (alone : Bool) (upto : ℕ) (t : Stored) (is : IsMergedWith company s m applied alone upto t) where
  abbrev inputs : List StoredFile
  inputs = inputs_of m

  abbrev claim : Claim
  claim = claim_at m.level (hull_in inputs)

  source_there : (file : StoredFile) → Contains m.sources file → Contains s.files file × (file.level ≡ m.level)
  source_there file source = from_level s.files m.level file (subst (λ files. Contains files file) (sym begun.from)
      (Contains-append_right m.newer (m.sources ++ m.older) file (Contains-append_left m.sources m.older file source)))

  met_there : (file : StoredFile) → Contains m.met file → Contains s.files file × (file.level ≡ m.level + 1)
  met_there file met = from_level s.files (m.level + 1) file (subst (λ files. Contains files file) (sym begun.into)
      (Contains-append_right m.lower (m.met ++ m.higher) file (Contains-append_left m.met m.higher file met)))

  input_there : (file : StoredFile) → Contains inputs file → Contains s.files file
  input_there file there = ⊎_elim (λ source. (source_there file source).0) (λ met. (met_there file met).0) (Contains-append_cases m.sources m.met file there)

  input_file : (file : StoredFile) → Contains inputs file → IsFile s.manifest.next file
  input_file file there = All-contains (IsFile s.manifest.next) s.files file coherent.each (input_there file there)

  -- the two keys of what is made are within those of inputs
  record IsOver (file : StoredFile) : Type 0 where
    low : StoredFile
    low_in : Contains inputs low
    low_upto : IsUpto (range_of low).lo (range_of file).lo
    high : StoredFile
    high_in : Contains inputs high
    high_upto : IsUpto (range_of file).hi (range_of high).hi

  over : (file : StoredFile) → Contains is.made file → IsOver file
  over file there =
      let ends = made_ends (IsIn inputs) (entries_in inputs) (to_in inputs) (from_in inputs) applied alone upto (map file_of is.made) is.woven.made (file_of file) (in_map file_of is.made file there) in
      let keys = λ (entry : Entry) (own : IsIn inputs entry). entry_keys (file_of own.file) (file_tiled s.manifest.next own.file (input_file own.file own.there)) entry own.spelled in
      let low = ends.0 in
      let high = ends.1 in
      record {
        low = low.1.file;
        low_in = low.1.there;
        low_upto = subst (IsUpto (range_of low.1.file).lo) low.2 (keys low.0 low.1).0;
        high = high.1.file;
        high_in = high.1.there;
        high_upto = subst (λ key. IsUpto key (range_of high.1.file).hi) high.2 (keys high.0 high.1).1;
      }

  made_spanned : (file : StoredFile) → Contains is.made file → Spans (hull_in inputs) (range_of file)
  made_spanned file there =
      let ends = over file there in (
        key_upto (hull_in inputs).lo (range_of ends.low).lo (range_of file).lo (hull_spans inputs ends.low ends.low_in).0 ends.low_upto,
        key_upto (range_of file).hi (range_of ends.high).hi (hull_in inputs).hi ends.high_upto (hull_spans inputs ends.high ends.high_in).1,
      )

  -- The one source and the files that overlap it lie on the same side of keys that all of them are clear of, and so does what is made of them.
  module _ (keys : KeyRange) (proper : IsUpto keys.lo keys.hi) (source : StoredFile) (one : m.sources ≡ source ∷ []) (clear : (file : StoredFile) → Contains inputs file → IsClearOf keys (file_of file)) where
    source_in : Contains m.sources source
    source_in = subst (λ files. Contains files source) (sym one) (0, omega arith, refl)

    abbrev own : KeyRange
    own = range_of source

    own_clear : overlaps keys own ≡ false
    own_clear = clear source (Contains-append_left m.sources m.met source source_in)

    own_proper : IsUpto own.lo own.hi
    own_proper = file_proper s.manifest.next source (input_file source (Contains-append_left m.sources m.met source source_in))

    meets_source : (file : StoredFile) → Contains m.met file → IsUpto own.lo (range_of file).hi × IsUpto (range_of file).lo own.hi
    meets_source file met =
        let all : overlaps (hull_of (source ∷ [])) (range_of file) ≡ true = subst (λ files. overlaps (hull_of files) (range_of file) ≡ true) one
        (All-contains (λ file. overlaps (hull_of m.sources) (range_of file) ≡ true) m.met file begun.met met) in
        and_parts (is_le (key_cmp own.lo (range_of file).hi)) (is_le (key_cmp (range_of file).lo own.hi)) all

    -- a range that isn't clear of the keys
    no_overlap : (range : KeyRange) → overlaps keys range ≡ false → IsUpto keys.lo range.hi → IsUpto range.lo keys.hi → ⊥
    no_overlap range none low high =
        let clash : true ≡ false = sym (and_from (is_le (key_cmp keys.lo range.hi)) (is_le (key_cmp range.lo keys.hi)) low high) ∙ none in cc

    -- where the source lies below the keys, so do all inputs
    all_under : (IsUpto keys.lo own.hi → ⊥) → (file : StoredFile) → Contains inputs file → IsUpto keys.lo (range_of file).hi → ⊥
    all_under under file there = ⊎_elim
        (λ is_source. subst (λ (f : StoredFile). IsUpto keys.lo (range_of f).hi → ⊥) (sym (same_source file is_source)) under)
        (λ met reach. no_overlap (range_of file) (clear file there) reach (key_upto (range_of file).lo own.hi keys.hi (meets_source file met).1 (below own.hi keys.lo keys.hi under proper)))
        (Contains-append_cases m.sources m.met file there)
      where
        same_source : (f : StoredFile) → Contains m.sources f → f ≡ source
        same_source f inside = sym (only_in source f (subst (λ files. Contains files f) one inside))

        below : (x lo hi : Bytes) → (IsUpto lo x → ⊥) → IsUpto lo hi → IsUpto x hi
        below x lo hi under upto = key_upto x lo hi (other_way lo x under) upto

    -- where it lies above them, so do all inputs
    all_over : (IsUpto own.lo keys.hi → ⊥) → (file : StoredFile) → Contains inputs file → IsUpto (range_of file).lo keys.hi → ⊥
    all_over over file there = ⊎_elim
        (λ is_source. subst (λ (f : StoredFile). IsUpto (range_of f).lo keys.hi → ⊥) (sym (same_source file is_source)) over)
        (λ met reach. no_overlap (range_of file) (clear file there) (key_upto keys.lo own.lo (range_of file).hi (above own.lo keys.lo keys.hi over proper) (meets_source file met).0) reach)
        (Contains-append_cases m.sources m.met file there)
      where
        same_source : (f : StoredFile) → Contains m.sources f → f ≡ source
        same_source f inside = sym (only_in source f (subst (λ files. Contains files f) one inside))

        above : (x lo hi : Bytes) → (IsUpto x hi → ⊥) → IsUpto lo hi → IsUpto lo x
        above x lo hi over upto = key_upto lo hi x upto (other_way x hi over)

    side : ((IsUpto keys.lo own.hi → ⊥)) ⊎ ((IsUpto own.lo keys.hi → ⊥))
    side = by (is_le (key_cmp keys.lo own.hi)) refl
      where
        by : (b : Bool) → is_le (key_cmp keys.lo own.hi) ≡ b → ((IsUpto keys.lo own.hi → ⊥)) ⊎ ((IsUpto own.lo keys.hi → ⊥))
        by true reach = inr (λ other. no_overlap own own_clear reach other)
        by false short = inl (λ reach. let clash : true ≡ false = sym reach ∙ short in cc)

    made_clear : (file : StoredFile) → Contains is.made file → IsClearOf keys (file_of file)
    made_clear file there =
        let ends = over file there in
        refuted (overlaps keys (range_of file)) (λ meet.
        let parts = and_parts (is_le (key_cmp keys.lo (range_of file).hi)) (is_le (key_cmp (range_of file).lo keys.hi)) meet in
        ⊎_elim (λ under. all_under under ends.high ends.high_in (key_upto keys.lo (range_of file).hi (range_of ends.high).hi parts.0 ends.high_upto))
        (λ above. all_over above ends.low ends.low_in (key_upto (range_of ends.low).lo (range_of file).lo keys.hi ends.low_upto parts.1)) side)

  -- the levels

  here : (level : ℕ) → level ≡ m.level → IsSwapAt claim s.files t.files level
  here level same = record {
    before = m.newer;
    gone = m.sources;
    made = [];
    behind = m.older;
    was_is = ap (λ k. at k s.files) same ∙ begun.from;
    now_is = ap (λ k. at k t.files) same ∙ is.from;
    gone_in = λ file source. ((omega (arith, same), omega (arith, same)), hull_spans inputs file (Contains-append_left m.sources m.met file source));
    made_in = λ file there. absurd (none_in file there);
    top = λ zeroth. inr (elim begun.whole [ inl whole ↦ some_item m.sources whole.2 | inr deep ↦ let below = deep.0 in absurd (omega (arith, below, same, zeroth)) ]);
    clear = λ keys proper above less all file there. absurd (none_in file there);
  }

  next : (level : ℕ) → level ≡ m.level + 1 → IsSwapAt claim s.files t.files level
  next level same = record {
    before = m.lower;
    gone = m.met;
    made = is.made;
    behind = m.higher;
    was_is = ap (λ k. at k s.files) same ∙ begun.into;
    now_is = ap (λ k. at k t.files) same ∙ is.into;
    gone_in = λ file met. ((omega (arith, same), omega (arith, same)), hull_spans inputs file (Contains-append_right m.sources m.met file met));
    made_in = λ file there. ((omega (arith, same), omega (arith, same)), made_spanned file there);
    top = λ zeroth. absurd (omega (arith, same, zeroth));
    clear = λ keys proper above less all. elim begun.whole [
      | inl whole ↦ let zeroth = whole.0 in absurd (omega (arith, zeroth, less))
      | inr deep ↦
          let source = some_item m.sources (λ none. let empty = ap length none in let single = deep.1 in omega (arith, empty, single)) in
          made_clear keys proper source.0 (only_one m.sources source.0 deep.1 source.1) (λ file there. all file (input_there file there) (⊎_elim
          (λ is_source. let level = (source_there file is_source).1 in omega (arith, level, less))
          (λ met. let level = (met_there file met).1 in omega (arith, level, less)) (Contains-append_cases m.sources m.met file there)))
    ];
  }

  away : (level : ℕ) → level ≢ m.level → level ≢ m.level + 1 → IsSwapAt claim s.files t.files level
  away level other further = record {
    before = at level s.files;
    gone = [];
    made = [];
    behind = [];
    was_is = sym (append-nil (at level s.files));
    now_is = is.rest level other further ∙ sym (append-nil (at level s.files));
    gone_in = λ file there. absurd (none_in file there);
    made_in = λ file there. absurd (none_in file there);
    top = λ zeroth. inl (refl, refl);
    clear = λ keys proper above less all file there. absurd (none_in file there);
  }

  pub merge_swaps : (level : ℕ) → IsSwapAt claim s.files t.files level
  merge_swaps level = elim (cases_eq level m.level) [ inl same ↦ here level same | inr other ↦ elim (cases_eq level (m.level + 1)) [ inl same ↦ next level same | inr further ↦ away level other further ] ]
