-- The files of each level, which ascend by key behind level 0.
use Rattle.std.proofs.Common.{◌≡◌, inl, inr, ℕ, zero, suc, ◌+◌, ◌<◌, ◌≤◌, Bool, true, cond, eqb, List, [], ◌∷◌, get_or, map, filter, sym, ap, ◌∙◌, subst, arith}
use Rattle.std.specs.Prelude.{AllPairs, Contains}
use Rattle.std.specs.List.{range_with_len}
use Rattle.std.specs.declared.cmp.Ordering.TheVariants.{Less}
use Rattle.std.proofs.lemmas.Bool.{cond_both, cases_eq, cases_lt, eqb-true, eq-eqb}
use Rattle.std.proofs.lemmas.List.Elements.{All-contains, Contains-get_or, All-filter, All-contains_itself, filter_passes}
use Rattle.lethe_base.specs.History.{History}
use Rattle.lethe_base.specs.Keys.{key_cmp}
use Rattle.lethe_base.specs.Shapes.{IsBelow, facts_of, facts_from, upper_key}
use Rattle.lethe_base.proofs.LayoutLaws.{none_in}
use Rattle.lethe_base.proofs.Newest.{first_or_rest, first_is}
use Rattle.lethe_header.specs.Facts.{least_key, greatest_key}
use Rattle.lethe_manifest.specs.Manifests as manifests
use Rattle.lethe_cover.proofs.Lists.{Pairs, pairs_from, pairs_to, pairs_unmap}
use Rattle.lethe_stored.specs.Files.{StoredFile, cited_of, file_of, at_level}
use Rattle.lethe_stored.specs.Stored.{Stored, IsCoherent}
use Rattle.lethe_stored.specs.Kept.{IsFor}
use Rattle.lethe_stored.specs.Levels.{AreRising}
use Rattle.lethe_stored.proofs.FileFacts.{lower_is, upper_is}
use Rattle.lethe_stored.proofs.Lists.{in_map, later_in}

pub from_filter : {X : Type 0} (p : X → Bool) (xs : List X) (x : X) → Contains (filter p xs) x → Contains xs x × (p x ≡ true)
from_filter p xs x there = (All-contains (Contains xs) (filter p xs) x (All-filter p (Contains xs) xs (All-contains_itself xs)) there, All-contains (λ x. p x ≡ true) (filter p xs) x (filter_passes p xs) there)

pub in_filter : {X : Type 0} (p : X → Bool) (xs : List X) (x : X) → Contains xs x → p x ≡ true → Contains (filter p xs) x
in_filter p [] x there passes = absurd (none_in x there)
in_filter p (first ∷ xs) x there passes = elim (first_or_rest first xs x there) [
  | inl same ↦ subst (λ b. Contains (cond b (first ∷ filter p xs) (filter p xs)) x) (sym (ap p same ∙ passes)) (first_is first (filter p xs) x same)
  | inr rest ↦ cond_both (p first) (first ∷ filter p xs) (filter p xs) (λ kept. Contains kept x) (λ _. later_in first (filter p xs) x (in_filter p xs x rest passes)) (λ _. in_filter p xs x rest passes)
]

-- the files of a level
abbrev pub of_level : List StoredFile → ℕ → List StoredFile
of_level files level = filter (λ file. eqb file.level level) files

pub from_level : (files : List StoredFile) (level : ℕ) (file : StoredFile) → Contains (of_level files level) file → Contains files file × (file.level ≡ level)
from_level files level file there = let is = from_filter (λ (file : StoredFile). eqb file.level level) files file there in (is.0, eqb-true file.level level is.1)

pub in_level : (files : List StoredFile) (level : ℕ) (file : StoredFile) → Contains files file → file.level ≡ level → Contains (of_level files level) file
in_level files level file there is = in_filter (λ (file : StoredFile). eqb file.level level) files file there (eq-eqb file.level level is)

-- what a manifest cites is of one of its levels
pub low_level : (s : Stored) → IsCoherent s → (file : StoredFile) → Contains s.files file → file.level ≤ s.manifest.config.levels
low_level s coherent file there =
    let cited : Contains s.manifest.files (cited_of file) = subst (λ files. Contains files (cited_of file)) (sym coherent.files) (in_map cited_of s.files file there) in
    (All-contains (manifests.IsFile s.manifest.next s.manifest.config.levels) s.manifest.files (cited_of file) coherent.spelled.files.each cited).level

-- the facts of a level's files stand among those of all levels
level_facts : (files : List StoredFile) (first count level : ℕ) → first ≤ level → level < first + count
    → Contains (facts_from first (map (at_level files) (range_with_len first count))) (map (facts_of level) (at_level files level))
level_facts files first zero level from to = absurd (omega arith)
level_facts files first (suc count) level from to = elim (cases_eq first level) [
  | inl same ↦ first_is (map (facts_of first) (at_level files first)) (facts_from (first + 1) (map (at_level files) (range_with_len (first + 1) count))) (map (facts_of level) (at_level files level)) (ap (λ n. map (facts_of n) (at_level files n)) same)
  | inr other ↦ later_in (map (facts_of first) (at_level files first)) (facts_from (first + 1) (map (at_level files) (range_with_len (first + 1) count))) (map (facts_of level) (at_level files level)) (level_facts files (first + 1) count level (omega (arith, other, from)) (omega (arith, to)))
]

abbrev IsRising : StoredFile → StoredFile → Type 0
IsRising a b = key_cmp (greatest_key a.header.tiles) (least_key b.header.tiles) ≡ Less

rising_pairs : (level : ℕ) (files : List StoredFile) → Pairs (λ a b. IsBelow (facts_of level (file_of a)) (facts_of level (file_of b))) files → Pairs IsRising files
rising_pairs level [] pairs = tt
rising_pairs level (a ∷ files) pairs = (
  (λ b there.
      let lower = lower_is b.header.tiles b.pages in
      let upper = upper_is [] a.header.tiles a.pages in
      ap (λ key. key_cmp key (least_key b.header.tiles)) upper ∙ ap (key_cmp (upper_key (file_of a).tiles)) lower ∙ pairs.0 b there),
  rising_pairs level files pairs.1,
)

pub kept_rise : (h : History) (s : Stored) → IsCoherent s → IsFor h s → AreRising s.files
kept_rise h s coherent stands level behind = elim (cases_lt s.manifest.config.levels level) [ inl deep ↦ none deep | inr le ↦ within le ]
  where
    within : level ≤ s.manifest.config.levels → AllPairs IsRising (of_level s.files level)
    within le =
        let there = level_facts s.files 1 s.manifest.config.levels level (omega arith) (omega (arith, le)) in
        let pairs = All-contains (AllPairs IsBelow) (facts_from 1 (map (at_level s.files) (range_with_len 1 s.manifest.config.levels))) (map (facts_of level) (at_level s.files level)) stands.shape.levels there in
        let mapped = pairs_unmap IsBelow (facts_of level) (at_level s.files level) (pairs_from IsBelow (map (facts_of level) (at_level s.files level)) pairs) in
        pairs_to IsRising (of_level s.files level) (rising_pairs level (of_level s.files level) (pairs_unmap (λ a b. IsBelow (facts_of level a) (facts_of level b)) file_of (of_level s.files level) mapped))

    none : s.manifest.config.levels < level → AllPairs IsRising (of_level s.files level)
    none deep = λ i j d before there.
        let file = from_level s.files level (get_or (of_level s.files level) j d) (Contains-get_or (of_level s.files level) j d there) in
        let low = low_level s coherent (get_or (of_level s.files level) j d) file.0 in
        let same = file.1 in
        absurd (omega (arith, low, same, deep))
