-- Behind level 0 the files of a level ascend after a sweep too.
use Rattle.std.proofs.Common.{◌≡◌, ◌≢◌, inl, inr, ℕ, ◌<◌, Bool, List, [], ◌∷◌, ◌++◌, Contains, refl, sym, ap, ◌∙◌, subst, arith}
use Rattle.std.specs.List.{cons_option}
use Rattle.std.specs.declared.cmp.Ordering.TheVariants.{Less}
use Rattle.std.proofs.lemmas.Bool.{cases_eq}
use Rattle.std.proofs.lemmas.List.Elements.{All-contains}
use Rattle.lethe_base.specs.Keys.{key_cmp}
use Rattle.lethe_base.specs.declared.pending.Pending.{Pending}
use Rattle.lethe_cover.proofs.Common.{first_is}
use Rattle.lethe_cover.proofs.Lists.{Pairs, pairs_from, pairs_parts, pairs_to, spliced}
use Rattle.lethe_header.specs.Facts.{least_key, greatest_key}
use Rattle.lethe_moves.specs.Files.{IsWithin}
use Rattle.lethe_moves.specs.Merges as moves
use Rattle.lethe_moves.proofs.KeyOrder.{less_upto, upto_less}
use Rattle.lethe_stored.specs.Files.{StoredFile, file_of}
use Rattle.lethe_stored.specs.Levels.{AreRising}
use Rattle.lethe_stored.specs.Stored.{Stored, IsCoherent}
use Rattle.lethe_stored.proofs.FileFacts.{lower_is, upper_is}
use Rattle.lethe_stored.proofs.Leveled.{of_level}
use Rattle.lethe_follows.specs.Merged.{Company, range_of}
use Rattle.lethe_sweeps.specs.Swept.{IsSweepIn, IsSweptWith, StoredSweep}
use Rattle.lethe_sweeps.proofs.SweptFiles.{few}
use Rattle.lethe_sweeps.proofs.SweptLevels.{own_before, other_then, own_then}

abbrev IsRising : StoredFile → StoredFile → Type 0
IsRising a b = key_cmp (greatest_key a.header.tiles) (least_key b.header.tiles) ≡ Less

abbrev IsBelow : StoredFile → StoredFile → Type 0
IsBelow a b = moves.IsBelow (file_of a) (file_of b)

rising_is : (a b : StoredFile) → IsBelow a b → IsRising a b
rising_is a b below = ap (λ key. key_cmp key (least_key b.header.tiles)) (upper_is [] a.header.tiles a.pages)
    ∙ ap (key_cmp (range_of a).hi) (lower_is b.header.tiles b.pages) ∙ below

below_is : (a b : StoredFile) → IsRising a b → IsBelow a b
below_is a b rising = ap (key_cmp (range_of a).hi) (sym (lower_is b.header.tiles b.pages))
    ∙ ap (λ key. key_cmp key (least_key b.header.tiles)) (sym (upper_is [] a.header.tiles a.pages)) ∙ rising

all_rising : (files : List StoredFile) → Pairs IsBelow files → Pairs IsRising files
all_rising [] pairs = tt
all_rising (file ∷ files) pairs = ((λ other there. rising_is file other (pairs.0 other there)), all_rising files pairs.1)

all_below : (files : List StoredFile) → Pairs IsRising files → Pairs IsBelow files
all_below [] pairs = tt
all_below (file ∷ files) pairs = ((λ other there. below_is file other (pairs.0 other there)), all_below files pairs.1)

module _ {company : Company} (s : Stored) (coherent : IsCoherent s) (rising : AreRising s.files) (w : StoredSweep) (erase : Pending) (alone : Bool) (begun : IsSweepIn s w erase alone) (t : Stored)
    (is : IsSweptWith company s w erase alone t)
  where
    abbrev own : ℕ
    own = w.file.level

    abbrev made : List StoredFile
    made = cons_option is.made []

    lo_within : (file : StoredFile) → Contains made file → IsWithin (range_of w.file).lo (range_of w.file).hi (range_of file).lo
    lo_within file there = All-contains (λ (left : StoredFile). IsWithin (range_of w.file).lo (range_of w.file).hi (range_of left).lo) made file is.left.lo there

    hi_within : (file : StoredFile) → Contains made file → IsWithin (range_of w.file).lo (range_of w.file).hi (range_of file).hi
    hi_within file there = All-contains (λ (left : StoredFile). IsWithin (range_of w.file).lo (range_of w.file).hi (range_of left).hi) made file is.left.hi there

    module _ (behind : 0 < own) where
      before : Pairs IsBelow (of_level w.front own ++ (w.file ∷ of_level w.back own))
      before = all_below (of_level w.front own ++ (w.file ∷ of_level w.back own))
          (subst (Pairs IsRising) (ap (λ files. of_level files own) begun.files ∙ own_before w) (pairs_from IsRising (of_level s.files own) (rising own behind)))

      parts : Pairs IsBelow (of_level w.front own) × Pairs IsBelow (w.file ∷ of_level w.back own)
          × ((a b : StoredFile) → Contains (of_level w.front own) a → Contains (w.file ∷ of_level w.back own) b → IsBelow a b)
      parts = pairs_parts IsBelow (of_level w.front own) (w.file ∷ of_level w.back own) before

      own_rises : Pairs IsRising (of_level t.files own)
      own_rises = subst (Pairs IsRising) (sym (ap (λ files. of_level files own) is.files ∙ own_then w is.made is.left.level))
          (all_rising (of_level w.front own ++ (made ++ of_level w.back own))
          (spliced IsBelow (of_level w.front own) (w.file ∷ []) made (of_level w.back own) before (few IsBelow is.made)
          (λ a b left there. less_upto (range_of a).hi (range_of w.file).lo (range_of b).lo
          (parts.2 a w.file left (first_is w.file (of_level w.back own) w.file refl)) (lo_within b there).0)
          (λ a b there right. upto_less (range_of a).hi (range_of w.file).hi (range_of b).lo (hi_within a there).1 (parts.1.0 b right))))

    -- the other levels stay as they are
    other_same : (level : ℕ) → level ≢ own → of_level t.files level ≡ of_level s.files level
    other_same level other = ap (λ files. of_level files level) is.files ∙ other_then w level other is.made is.left.level ∙ ap (λ files. of_level files level) (sym begun.files)

    pub swept_rises : AreRising t.files
    swept_rises level behind = pairs_to IsRising (of_level t.files level) (elim (cases_eq level own) [
      | inl same ↦ subst (λ k. Pairs IsRising (of_level t.files k)) (sym same) (own_rises (omega (arith, same, behind)))
      | inr other ↦ subst (Pairs IsRising) (sym (other_same level other)) (pairs_from IsRising (of_level s.files level) (rising level behind))
    ])
