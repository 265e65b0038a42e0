-- The orders in which the files of a level are candidates.
use Rattle.std.specs.Prelude.{ℕ, IsTrue, List, [], ◌∷◌, AllPairs, Option, Some, None, if◌then◌else◌}
use Rattle.std.specs.declared.cmp.Ordering.{Ordering}
use Rattle.std.specs.declared.cmp.Ordering.TheVariants.{Less, Equal, Greater}
use Rattle.std.specs.Ordering.{nat_cmp, ordering_then, is_le, is_gt, min_by_ordering}
use Rattle.std.specs.List.Sorted.{IsPermutation}
use Rattle.lethe_base.specs.declared.config.Pick.{Pick}
use Rattle.lethe_base.specs.declared.config.Pick.TheVariants.{So, Sd}
use Rattle.lethe_base.specs.declared.shape.FileFacts.{FileFacts}
use Rattle.lethe_fade.specs.declared.rank.Age.{Age}
use Rattle.lethe_fade.specs.declared.rank.Rank.{Rank}
use Rattle.lethe_fade.specs.Saturation.{entries_in}
use Rattle.lethe_fade.specs.Spans.{range_of, overlapping}

-- least time first, and none last
abbrev pub oldest_cmp : Option ℕ → Option ℕ → Ordering
oldest_cmp None None = Equal
oldest_cmp None (Some time) = Greater
oldest_cmp (Some time) None = Less
oldest_cmp (Some time) (Some other) = nat_cmp time other

-- of expired files the least time comes first, then the most tombstones
abbrev pub age_cmp : Age → Age → Ordering
age_cmp a b = ordering_then (oldest_cmp a.oldest b.oldest) (ordering_then (nat_cmp b.tombs a.tombs) (nat_cmp a.no b.no))

-- by `so` the fewest entries below come first, by `sd` the most tombstones
abbrev pub rank_cmp : Pick → Rank → Rank → Ordering
rank_cmp So a b = ordering_then (nat_cmp a.below b.below) (ordering_then (nat_cmp b.tombs a.tombs) (nat_cmp a.no b.no))
rank_cmp Sd a b = ordering_then (nat_cmp b.tombs a.tombs) (ordering_then (oldest_cmp a.oldest b.oldest) (nat_cmp a.no b.no))

-- what a file is ranked by, given the files of the next level
abbrev pub rank_of : List FileFacts → FileFacts → Rank
rank_of next file = record { below = entries_in (overlapping (range_of file) next); tombs = file.tombs; oldest = file.oldest; no = file.no }

abbrev pub file_cmp : Pick → List FileFacts → FileFacts → FileFacts → Ordering
file_cmp order next a b = rank_cmp order (rank_of next a) (rank_of next b)

-- the lesser of two in an order, the first where they are tied
abbrev pub lesser_of : {X : Type 0} → (X → X → Ordering) → Option X → X → X
lesser_of cmp None x = x
lesser_of cmp (Some before) x = min_by_ordering (cmp before x) before x

-- a list with one more item at its place in an order, before what it is tied with
abbrev pub with_item : {X : Type 0} → (X → X → Ordering) → X → List X → List X
with_item cmp x [] = x ∷ []
with_item cmp x (y ∷ ys) = if is_gt (cmp x y) then y ∷ with_item cmp x ys else x ∷ y ∷ ys

-- the items in an order
abbrev pub sorted_by : {X : Type 0} → (X → X → Ordering) → List X → List X
sorted_by cmp [] = []
sorted_by cmp (x ∷ xs) = with_item cmp x (sorted_by cmp xs)

-- the same files, and none before a lesser one
pub record IsInOrder (cmp : FileFacts → FileFacts → Ordering) (files sorted : List FileFacts) : Type 0 where
  pub same : IsPermutation files sorted
  pub ascending : AllPairs (λ file later. IsTrue (is_le (cmp file later))) sorted

abbrev pub FilesComeInOrder : Type 0
FilesComeInOrder = (order : Pick) (next files : List FileFacts) → IsInOrder (file_cmp order next) files (sorted_by (file_cmp order next) files)
