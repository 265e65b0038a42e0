-- Behind level 0 the files of a level ascend after a merge too.
use Rattle.std.proofs.Common.{◌≡◌, inl, inr, ℕ, ◌+◌, ◌<◌, Bool, List, [], ◌∷◌, ◌++◌, map, Contains, sym, ap, ◌∙◌, subst, arith}
use Rattle.std.specs.declared.cmp.Ordering.TheVariants.{Less}
use Rattle.std.proofs.lemmas.Bool.{cases_eq}
use Rattle.std.proofs.lemmas.List.Elements.{All-contains, Contains-append_cases, Contains-append_left, Contains-append_right}
use Rattle.lethe_base.specs.Keys.{Bytes, key_cmp}
use Rattle.lethe_base.specs.Layout.{entries_of}
use Rattle.lethe_base.specs.declared.entry.Entry.{Entry}
use Rattle.lethe_base.specs.declared.pending.Pending.{Pending}
use Rattle.lethe_cover.proofs.Common.{⊎_elim, none_in}
use Rattle.lethe_cover.proofs.Lists.{Pairs, flat_from, flat_in, in_map, pairs_from, pairs_parts, pairs_to, pairs_unmap, spliced}
use Rattle.lethe_header.specs.Facts.{least_key, greatest_key}
use Rattle.lethe_moves.specs.Merges as moves
use Rattle.lethe_moves.proofs.Apart.{files_spanned}
use Rattle.lethe_moves.proofs.KeyOrder.{IsUpto, less_upto, upto_less}
use Rattle.lethe_moves.proofs.Outputs.{made_ends}
use Rattle.lethe_moves.proofs.Tiled.{entry_keys}
use Rattle.lethe_stored.specs.Files.{StoredFile, IsFile, file_of}
use Rattle.lethe_stored.specs.Levels.{AreRising}
use Rattle.lethe_stored.specs.Stored.{Stored, IsCoherent}
use Rattle.lethe_stored.proofs.FileFacts.{lower_is, upper_is}
use Rattle.lethe_stored.proofs.Leveled.{from_level}
use Rattle.lethe_follows.specs.Merged.{Company, IsMergeIn, IsMergedWith, StoredMerge, at, entries_in, hull_of, inputs_of, range_of}
use Rattle.lethe_follows.proofs.Tiled.{file_tiled}

-- every key of the first file is below every key of the second
abbrev IsRising : StoredFile → StoredFile → Type 0
IsRising a b = key_cmp (greatest_key a.header.tiles) (least_key b.header.tiles) ≡ Less

abbrev IsBelow : StoredFile → StoredFile → Type 0
IsBelow a b = moves.IsBelow (file_of a) (file_of b)

rising_is : (a b : StoredFile) → IsBelow a b → IsRising a b
rising_is a b below = ap (λ key. key_cmp key (least_key b.header.tiles)) (upper_is [] a.header.tiles a.pages) ∙ ap (key_cmp (range_of a).hi) (lower_is b.header.tiles b.pages) ∙ below

below_is : (a b : StoredFile) → IsRising a b → IsBelow a b
below_is a b rising = ap (key_cmp (range_of a).hi) (sym (lower_is b.header.tiles b.pages)) ∙ ap (λ key. key_cmp key (least_key b.header.tiles)) (sym (upper_is [] a.header.tiles a.pages)) ∙ rising

all_rising : (files : List StoredFile) → Pairs IsBelow files → Pairs IsRising files
all_rising [] pairs = tt
all_rising (file ∷ files) pairs = ((λ other there. rising_is file other (pairs.0 other there)), all_rising files pairs.1)

all_below : (files : List StoredFile) → Pairs IsRising files → Pairs IsBelow files
all_below [] pairs = tt
all_below (file ∷ files) pairs = ((λ other there. below_is file other (pairs.0 other there)), all_below files pairs.1)

-- a file has an entry
record IsIn (files : List StoredFile) (entry : Entry) : Type 0 where
  file : StoredFile
  there : Contains files file
  spelled : Contains (entries_of (file_of file)) entry

to_in : (files : List StoredFile) (entry : Entry) → Contains (entries_in files) entry → IsIn files entry
to_in files entry there = let found = flat_from (λ (file : StoredFile). entries_of (file_of file)) files entry there in record { file = found.0; there = found.1; spelled = found.2 }

from_in : (files : List StoredFile) (entry : Entry) → IsIn files entry → Contains (entries_in files) entry
from_in files entry is = flat_in (λ (file : StoredFile). entries_of (file_of file)) files is.file entry is.there is.spelled

module _ {company : Company} (s : Stored) (coherent : IsCoherent s) (rising : AreRising s.files) (m : StoredMerge) (begun : IsMergeIn s m) (applied : List Pending) (alone : Bool)
    (upto : ℕ) (t : Stored) (is : IsMergedWith company s m applied alone upto t)
  where
    before : Pairs IsBelow (m.lower ++ (m.met ++ m.higher))
    before = subst (Pairs IsBelow) begun.into (all_below (at (m.level + 1) s.files) (pairs_from IsRising (at (m.level + 1) s.files) (rising (m.level + 1) (omega arith))))

    next_parts : Pairs IsBelow m.lower × Pairs IsBelow (m.met ++ m.higher) × ((file other : StoredFile) → Contains m.lower file → Contains (m.met ++ m.higher) other → IsBelow file other)
    next_parts = pairs_parts IsBelow m.lower (m.met ++ m.higher) before

    input_file : (file : StoredFile) → Contains (inputs_of m) file → IsFile s.manifest.next file
    input_file file there = All-contains (IsFile s.manifest.next) s.files file coherent.each (⊎_elim
        (λ source. (from_level s.files m.level file (subst (λ files. Contains files file) (sym begun.from)
        (Contains-append_right m.newer (m.sources ++ m.older) file (Contains-append_left m.sources m.older file source)))).0)
        (λ met. (from_level s.files (m.level + 1) file (subst (λ files. Contains files file) (sym begun.into)
        (Contains-append_right m.lower (m.met ++ m.higher) file (Contains-append_left m.met m.higher file met)))).0)
        (Contains-append_cases m.sources m.met file there))

    -- what stays of the next level lies below all inputs, or above them
    lower_below : (file input : StoredFile) → Contains m.lower file → Contains (inputs_of m) input → IsBelow file input
    lower_below file input left there = ⊎_elim
        (λ source. less_upto (range_of file).hi (hull_of m.sources).lo (range_of input).lo
        (All-contains (λ file. key_cmp (range_of file).hi (hull_of m.sources).lo ≡ Less) m.lower file begun.lower left) (files_spanned (map file_of m.sources) (file_of input) (in_map file_of m.sources input source)).0)
        (λ met. next_parts.2 file input left (Contains-append_left m.met m.higher input met)) (Contains-append_cases m.sources m.met input there)

    higher_above : (input file : StoredFile) → Contains (inputs_of m) input → Contains m.higher file → IsBelow input file
    higher_above input file there right = ⊎_elim
        (λ source. upto_less (range_of input).hi (hull_of m.sources).hi (range_of file).lo (files_spanned (map file_of m.sources) (file_of input) (in_map file_of m.sources input source)).1
        (All-contains (λ file. key_cmp (hull_of m.sources).hi (range_of file).lo ≡ Less) m.higher file begun.higher right))
        (λ met. (pairs_parts IsBelow m.met m.higher next_parts.1).2 input file met right) (Contains-append_cases m.sources m.met input there)

    -- the two keys of what is made are those of entries of inputs
    abbrev HasInput : Bytes → Type 0
    HasInput key = (input : Entry) × IsIn (inputs_of m) input × (input.key ≡ key)

    ends : (file : StoredFile) → Contains is.made file → HasInput (range_of file).lo × HasInput (range_of file).hi
    ends file there = made_ends (IsIn (inputs_of m)) (entries_in (inputs_of m)) (to_in (inputs_of m)) (from_in (inputs_of m)) applied alone upto (map file_of is.made) is.woven.made
        (file_of file) (in_map file_of is.made file there)

    keys : (entry : Entry) (own : IsIn (inputs_of m) entry) → IsUpto (range_of own.file).lo entry.key × IsUpto entry.key (range_of own.file).hi
    keys entry own = entry_keys (file_of own.file) (file_tiled s.manifest.next own.file (input_file own.file own.there)) entry own.spelled

    into_rises : Pairs IsBelow (m.lower ++ (is.made ++ m.higher))
    into_rises = spliced IsBelow m.lower m.met is.made m.higher before (pairs_unmap moves.IsBelow file_of is.made (pairs_from moves.IsBelow (map file_of is.made) is.woven.ascending))
        (λ file made left there. let low = (ends made there).0 in
        less_upto (range_of file).hi (range_of low.1.file).lo (range_of made).lo (lower_below file low.1.file left low.1.there) (subst (IsUpto (range_of low.1.file).lo) low.2 (keys low.0 low.1).0))
        (λ made file there right. let high = (ends made there).1 in
        upto_less (range_of made).hi (range_of high.1.file).hi (range_of file).lo (subst (λ key. IsUpto key (range_of high.1.file).hi) high.2 (keys high.0 high.1).1) (higher_above high.1.file file high.1.there right))

    here_rises : 0 < m.level → Pairs IsRising (m.newer ++ m.older)
    here_rises behind = spliced IsRising m.newer m.sources [] m.older (subst (Pairs IsRising) begun.from (pairs_from IsRising (at m.level s.files) (rising m.level behind))) tt
        (λ file other left there. absurd (none_in other there)) (λ file other there. absurd (none_in file there))

    pub merged_rises : AreRising t.files
    merged_rises level behind = pairs_to IsRising (at level t.files) (elim (cases_eq level m.level) [
      | inl here ↦ subst (Pairs IsRising) (sym is.from ∙ ap (λ k. at k t.files) (sym here)) (here_rises (omega (arith, here, behind)))
      | inr other ↦ elim (cases_eq level (m.level + 1)) [
        | inl next ↦ subst (Pairs IsRising) (sym is.into ∙ ap (λ k. at k t.files) (sym next)) (all_rising (m.lower ++ (is.made ++ m.higher)) into_rises)
        | inr away ↦ subst (Pairs IsRising) (sym (is.rest level other away)) (pairs_from IsRising (at level s.files) (rising level behind))
      ]
    ])
