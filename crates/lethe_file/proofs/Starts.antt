-- Where the pages of each tile begin.
use Rattle.std.proofs.Common.{◌≡◌, ℕ, zero, suc, ◌+◌, ◌-◌, ◌<◌, ◌≤◌, true, false, List, [], ◌∷◌, ◌++◌, length, get_or, take, inl, inr, sym, ap, ◌∙◌, arith, length-append}
use Rattle.std.specs.Prelude.{slice_index, nat_le}
use Rattle.std.specs.List.Sorted.{IsNonDecreasingBy, IsPartitionedBy, IsPartitionPoint}
use Rattle.std.proofs.lemmas.Bool.{cases_lt, leb-true, leb-false}
use Rattle.std.proofs.lemmas.Grind.{flat_map-append}
use Rattle.std.proofs.lemmas.List.{take_all, take_more}
use Rattle.std.proofs.lemmas.List.Sorted.{IsNonDecreasingBy-from_default, IsPartitionedBy-leb}
use Rattle.lethe_header.specs.Facts.{lines_of}
use Rattle.lethe_header.specs.declared.header.TileLine.{TileLine}
use Rattle.lethe_file.specs.Finding.{AreStarts}

fewer : (i j : ℕ) (tiles : List TileLine) → i ≤ j → length (lines_of (take i tiles)) ≤ length (lines_of (take j tiles))
fewer zero j tiles le = omega arith
fewer (suc i) zero tiles le = absurd (omega arith)
fewer (suc i) (suc j) [] le = omega arith
fewer (suc i) (suc j) (tile ∷ tiles) le =
    omega (arith, length-append tile.pages (lines_of (take i tiles)), length-append tile.pages (lines_of (take j tiles)), fewer i j tiles (omega arith))

-- the pages in front of a tile are no more than those of all
pub lines_upto : (tiles : List TileLine) (t : ℕ) → t ≤ length tiles → length (lines_of (take t tiles)) ≤ length (lines_of tiles)
lines_upto tiles t le = omega (arith, fewer t (length tiles) tiles le, ap (λ (l : List TileLine). length (lines_of l)) (take_all (length tiles) tiles (omega arith)))

lines_more : (tiles : List TileLine) (t : ℕ) (d : TileLine) → t < length tiles → length (lines_of (take (t + 1) tiles)) ≡ length (lines_of (take t tiles)) + length (get_or tiles t d).pages
lines_more tiles t d lt =
    let pages = (get_or tiles t d).pages in
    let all = ap (λ (l : List TileLine). length (lines_of l)) (take_more tiles t d lt)
    ∙ ap length (flat_map-append (λ (tile : TileLine). tile.pages) (take t tiles) (get_or tiles t d ∷ []))
    ∙ length-append (lines_of (take t tiles)) (pages ++ []) in
    omega (arith, all, length-append pages [])

-- a tile that has a line at that place, by its start
pub record HasLine (tiles : List TileLine) (starts : List ℕ) (t place : ℕ) : Type 0 where
  pub tile : t < length tiles
  pub start : slice_index starts t ≡ length (lines_of (take t tiles))
  pub after : slice_index starts t ≤ place
  pub before : (d : TileLine) → place < slice_index starts t + length (get_or tiles t d).pages

module _ (tiles : List TileLine) (starts : List ℕ) (are : AreStarts tiles starts) (place : ℕ) where
  starts_rise : IsNonDecreasingBy (λ x. x) starts
  starts_rise = IsNonDecreasingBy-from_default (λ x. x) starts 0
      (λ i j le lt. omega (arith, are.0, are.1 i (omega (arith, are.0, le, lt)), are.1 j (omega (arith, are.0, lt)), fewer i j tiles le))

  pub parted : IsPartitionedBy (λ y. nat_le y place) starts
  parted = IsPartitionedBy-leb (λ x. x) starts place starts_rise

  module _ (point : ℕ) (inside : place < length (lines_of tiles)) (bound : point ≤ length starts) (is_point : IsPartitionPoint (λ y. nat_le y place ≡ true) (λ y. nat_le y place ≡ false) starts point) where
    some_tile : 0 < length tiles
    some_tile = elim (cases_lt 0 (length tiles)) [
      | inl some ↦ some
      | inr none ↦ absurd (omega (arith, inside, ap (λ (l : List TileLine). length (lines_of l)) (sym (take_all 0 tiles none))))
    ]

    pub some_before : 1 ≤ point
    some_before = elim (cases_lt 0 point) [
      | inl some ↦ omega (arith, some)
      | inr none ↦
          let above = leb-false (slice_index starts 0) place (is_point.1 0 0 none (omega (arith, are.0, some_tile))) in
          absurd (omega (arith, above, are.1 0 some_tile))
    ]

    pub has_line : HasLine tiles starts (point - 1) place
    has_line =
        let t = point - 1 in
        let lt : t < length tiles = omega (arith, some_before, bound, are.0) in
        let start = are.1 t lt in
        record {
          tile = lt;
          start = start;
          after = leb-true (slice_index starts t) place (is_point.0 t 0 (omega arith) (omega (arith, some_before)));
          before = λ d.
              let more = lines_more tiles t d lt in
              let next : t + 1 ≡ point = omega (arith, some_before) in
              let upto = ap (λ (n : ℕ). length (lines_of (take n tiles))) next in
              elim (cases_lt point (length tiles)) [
                | inl some ↦
                    let above = leb-false (slice_index starts point) place (is_point.1 point 0 (omega arith) (omega (arith, are.0, some))) in
                    omega (arith, above, are.1 point some, more, upto, start)
                | inr none ↦
                    let all = ap (λ (l : List TileLine). length (lines_of l)) (take_all point tiles none) in
                    omega (arith, all, more, upto, start, inside)
              ];
        }
