-- The keys of a merge's inputs, by their headers and as they are stored, and the files of the next level that it meets.
use Rattle.std.proofs.Common.{◌≡◌, ◌≢◌, ℕ, ◌+◌, Bool, List, [], ◌∷◌, ◌++◌, length, map, refl, ap, ◌∙◌, arith, append-nil}
use Rattle.std.specs.Prelude.{Contains, filter}
use Rattle.std.proofs.lemmas.List.Elements.{All-contains, filter-append}
use Rattle.std.proofs.lemmas.List.Sums.{fold-append}
use Rattle.std.specs.declared.cmp.Ordering.TheVariants.{Less}
use Rattle.lethe_sweeps.proofs.Lists.{filter_all}
use Rattle.lethe_base.specs.Keys.{key_cmp}
use Rattle.lethe_base.specs.declared.shape.FileFacts.{FileFacts}
use Rattle.lethe_cover.proofs.Common.{none_in, first_or_rest, ⊎_elim}
use Rattle.lethe_fade.specs.Spans as facts
use Rattle.lethe_fade.specs.Spans.{KeyRange, joined}
use Rattle.lethe_follows.specs.Merged.{StoredMerge, IsMergeIn, at, hull_of, range_of}
use Rattle.lethe_header.specs.Facts.{facts_of}
use Rattle.lethe_stored.specs.Files.{StoredFile}
use Rattle.lethe_stored.specs.Stored.{Stored}
use Rattle.lethe_job.specs.Chosen.{hull_in, hull_with, range_in}
use Rattle.lethe_job.proofs.Split.{does_meet, higher_clear, lower_clear, none_meet}

-- what the choice looks at
abbrev pub fact : ℕ → StoredFile → FileFacts
fact level file = facts_of level file.swept file.header

pub hull_facts : (level : ℕ) (keys : KeyRange) (files : List StoredFile) → facts.hull keys (map (fact level) files) ≡ hull_with keys files
hull_facts level keys [] = refl
hull_facts level keys (file ∷ files) = hull_facts level (joined keys (range_in file)) files

pub hull_of_facts : (level : ℕ) (files : List StoredFile) → facts.hull_of (map (fact level) files) ≡ hull_in files
hull_of_facts level [] = refl
hull_of_facts level (file ∷ files) = hull_facts level (range_in file) files

pub hull_append : (files others : List StoredFile) → files ≢ [] → hull_in (files ++ others) ≡ hull_with (hull_in files) others
hull_append [] others some = absurd (some refl)
hull_append (file ∷ files) others some = fold-append (λ keys file. joined keys (range_in file)) (range_in file) files others

-- of one file
pub only_one : {X : Type 0} (xs : List X) (x : X) → length xs ≡ 1 → Contains xs x → xs ≡ x ∷ []
only_one [] x one there = absurd (none_in x there)
only_one (first ∷ []) x one there = ⊎_elim (λ same. ap (λ y. y ∷ []) same) (λ none. absurd (none_in x none)) (first_or_rest first [] x there)
only_one (first ∷ (second ∷ xs)) x one there = absurd (omega (arith, one))

-- the files of the next level that overlap the keys of the sources are those that it meets
pub met_are : (s : Stored) (m : StoredMerge) → IsMergeIn s m → filter (does_meet range_of (hull_of m.sources)) (at (m.level + 1) s.files) ≡ m.met
met_are s m begun =
    let meets : StoredFile → Bool = does_meet range_of (hull_of m.sources) in
    let none_lower : filter meets m.lower ≡ [] = none_meet range_of (hull_of m.sources) m.lower (λ file there. lower_clear range_of (hull_of m.sources) file
    (All-contains (λ file. key_cmp (range_of file).hi (hull_of m.sources).lo ≡ Less) m.lower file begun.lower there)) in
    let none_higher : filter meets m.higher ≡ [] = none_meet range_of (hull_of m.sources) m.higher (λ file there. higher_clear range_of (hull_of m.sources) file
    (All-contains (λ file. key_cmp (hull_of m.sources).hi (range_of file).lo ≡ Less) m.higher file begun.higher there)) in
    ap (filter meets) begun.into
    ∙ filter-append meets m.lower (m.met ++ m.higher)
    ∙ (λ i. none_lower i ++ filter meets (m.met ++ m.higher))
    ∙ filter-append meets m.met m.higher
    ∙ (λ i. filter_all meets m.met begun.met i ++ none_higher i)
    ∙ append-nil m.met
