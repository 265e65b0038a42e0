-- New pages get their numbers.
use Rattle.std.proofs.Common.{◌≡◌, ℕ, suc, ◌+◌, ◌≤◌, ◌<◌, List, [], ◌∷◌, ◌++◌, Option, Some, None, length, drop, get_or, All, refl, ◌∙◌, ap, sym, subst, append_assoc, length-append, arith}
use Rattle.std.specs.Prelude.{filter_map, flat_map}
use Rattle.std.proofs.Math.Seq.{drop-nil}
use Rattle.std.proofs.lemmas.List.{drop-drop, drop_more}
use Rattle.std.proofs.lemmas.List.Elements.{All-drop, All-head, All-tail}
use Rattle.std.proofs.lemmas.List.Sums.{sum_by-cons}
use Rattle.lethe_base.specs.Keys.{Bytes}
use Rattle.lethe_base.specs.Limits.{max_place}
use Rattle.lethe_header.specs.Headers.{HasSpelling, IsLine, IsTile, entries_in}
use Rattle.lethe_header.specs.declared.header.PageLine.{PageLine}
use Rattle.lethe_header.specs.declared.header.TileLine.{TileLine}
use Rattle.lethe_build.specs.Drafts.{header_of, with_number}
use Rattle.lethe_swept.specs.Drafts.{new_in, new_line, numbered, tile_of, tiles_with}
use Rattle.lethe_swept.specs.declared.draft.DraftLine.{DraftLine}
use Rattle.lethe_swept.specs.declared.draft.DraftLine.TheVariants.{Own, New}
use Rattle.lethe_swept.specs.declared.draft.DraftTile.{DraftTile}
use Rattle.lethe_swept.proofs.Rules.{LinesFollow, TilesFollow, few_entries, lines_follow_from, lines_follow_to, tiles_follow_from, tiles_follow_to}

-- ---- the loop over the lines of a tile

-- the lines so far have their numbers, and the others get those behind the taken ones
pub record AreNumbering (numbers : List ℕ) (before taken : ℕ) (whole rest : List DraftLine) (lines : List PageLine) : Type 0 where
  pub made : lines ++ numbered (drop taken numbers) rest ≡ numbered (drop before numbers) whole
  pub count : taken + length (filter_map new_line rest) ≡ before + length (filter_map new_line whole)

module _ (numbers : List ℕ) (before taken : ℕ) (whole rest : List DraftLine) (lines : List PageLine) (line : PageLine) where
  pub own_more : AreNumbering numbers before taken whole (Own line ∷ rest) lines → AreNumbering numbers before taken whole rest (lines ++ line ∷ [])
  own_more so_far = record {
    made = append_assoc lines (line ∷ []) (numbered (drop taken numbers) rest) ∙ so_far.made;
    count = so_far.count;
  }

  pub new_more : AreNumbering numbers before taken whole (New line ∷ rest) lines → taken < length numbers → AreNumbering numbers before (taken + 1) whole rest (lines ++ with_number (get_or numbers taken 0, line) ∷ [])
  new_more so_far inside =
      let count = so_far.count in
      record {
        made =
            append_assoc lines (with_number (get_or numbers taken 0, line) ∷ []) (numbered (drop (taken + 1) numbers) rest)
            ∙ ap (λ (left : List ℕ). lines ++ numbered left (New line ∷ rest)) (sym (drop_more numbers taken 0 inside))
            ∙ so_far.made;
        count = omega (arith, count);
      }

-- ---- the loop over the tiles of a file

-- the tiles so far have their lines, and the others get the numbers behind the taken ones
pub record AreTilesNumbering (numbers : List ℕ) (taken : ℕ) (whole rest : List DraftTile) (tiles : List TileLine) : Type 0 where
  pub made : tiles ++ tiles_with (drop taken numbers) rest ≡ tiles_with numbers whole
  pub count : taken + length (flat_map new_in rest) ≡ length (flat_map new_in whole)

pub tile_more : (numbers : List ℕ) (taken now : ℕ) (whole rest : List DraftTile) (tiles : List TileLine) (tile : DraftTile) (pages : List PageLine) → AreTilesNumbering numbers taken whole (tile ∷ rest) tiles
    → pages ≡ numbered (drop taken numbers) tile.lines → now ≡ taken + length (new_in tile) → AreTilesNumbering numbers now whole rest (tiles ++ record { lo = tile.lo; hi = tile.hi; pages = pages } ∷ [])
tile_more numbers taken now whole rest tiles tile pages so_far made counted =
    let count = so_far.count in
    let own : TileLine = record { lo = tile.lo; hi = tile.hi; pages = pages } in
    let left : drop now numbers ≡ drop (length (new_in tile)) (drop taken numbers) = ap (λ (n : ℕ). drop n numbers) counted ∙ sym (drop-drop (length (new_in tile)) taken numbers) in
    record {
      made =
          append_assoc tiles (own ∷ []) (tiles_with (drop now numbers) rest)
          ∙ ap (λ (ps : List PageLine). tiles ++ (record own { pages = ps } ∷ tiles_with (drop now numbers) rest)) made
          ∙ ap (λ (ns : List ℕ). tiles ++ (tile_of tile (drop taken numbers) ∷ tiles_with ns rest)) left
          ∙ so_far.made;
      count = omega (arith, count, counted, length-append (new_in tile) (flat_map new_in rest));
    }

-- ---- the rules of a header

abbrev IsSmall : ℕ → Type 0
IsSmall number = number ≤ max_place

line_again : (number : ℕ) (line : PageLine) → number ≤ max_place → IsLine line → IsLine (with_number (number, line))
line_again number line small is = record { no = small; some = is.some; place = is.place; oldest = is.oldest; fence = is.fence; filter = is.filter; digest = is.digest }

lines_again : (numbers : List ℕ) (lines : List DraftLine) (puts count dkey : ℕ) → All IsSmall numbers → LinesFollow puts count dkey (numbered [] lines) → LinesFollow puts count dkey (numbered numbers lines)
lines_again numbers [] puts count dkey small follow = tt
lines_again numbers (Own line ∷ lines) puts count dkey small follow = (follow.0, follow.1, follow.2, lines_again numbers lines _ _ _ small follow.3)
lines_again [] (New line ∷ lines) puts count dkey small follow = follow
lines_again (number ∷ numbers) (New line ∷ lines) puts count dkey small follow = (
  line_again number line (All-head IsSmall number numbers small) follow.0,
  follow.1,
  follow.2,
  lines_again numbers lines _ _ _ (All-tail IsSmall number numbers small) follow.3,
)

entries_again : (numbers : List ℕ) (lines : List DraftLine) → entries_in (numbered numbers lines) ≡ entries_in (numbered [] lines)
entries_again numbers [] = refl
entries_again numbers (Own line ∷ lines) =
    let rest = entries_again numbers lines in
    omega (arith, rest, sum_by-cons (λ (l : PageLine). l.entries) line (numbered numbers lines), sum_by-cons (λ (l : PageLine). l.entries) line (numbered [] lines))
entries_again [] (New line ∷ lines) = refl
entries_again (number ∷ numbers) (New line ∷ lines) =
    let rest = entries_again numbers lines in
    omega (arith, rest, sum_by-cons (λ (l : PageLine). l.entries) (with_number (number, line)) (numbered numbers lines), sum_by-cons (λ (l : PageLine). l.entries) line (numbered [] lines))

pub lines_long : (numbers : List ℕ) (lines : List DraftLine) → length (numbered numbers lines) ≡ length lines
lines_long numbers [] = refl
lines_long numbers (Own line ∷ lines) = ap suc (lines_long numbers lines)
lines_long [] (New line ∷ lines) = ap suc (lines_long [] lines)
lines_long (number ∷ numbers) (New line ∷ lines) = ap suc (lines_long numbers lines)

tile_again : (numbers : List ℕ) (tile : DraftTile) → All IsSmall numbers → IsTile (tile_of tile []) → IsTile (tile_of tile numbers)
tile_again numbers tile small is =
    let some = is.some in
    let few = is.few in
    let long = lines_long numbers tile.lines in
    let before = lines_long [] tile.lines in
    let entries = few_entries (numbered [] tile.lines) is.lines in
    let same = entries_again numbers tile.lines in
    record {
      lo = is.lo;
      hi = is.hi;
      keys = is.keys;
      some = omega (arith, some, long, before);
      few = omega (arith, few, long, before);
      lines = lines_follow_to (numbered numbers tile.lines) (lines_again numbers tile.lines 0 0 0 small (lines_follow_from (numbered [] tile.lines) is.lines)) (omega (arith, entries, same));
    }

-- with no numbers each tile is by itself
pub tiles_by_themselves : (tile : DraftTile) (tiles : List DraftTile) → tiles_with [] (tile ∷ tiles) ≡ tile_of tile [] ∷ tiles_with [] tiles
tiles_by_themselves tile tiles = ap (λ (ns : List ℕ). tile_of tile [] ∷ tiles_with ns tiles) (drop-nil (length (new_in tile)))

tiles_again : (numbers : List ℕ) (tiles : List DraftTile) (last : Option Bytes) → All IsSmall numbers → TilesFollow last (tiles_with [] tiles) → TilesFollow last (tiles_with numbers tiles)
tiles_again numbers [] last small follow = tt
tiles_again numbers (tile ∷ tiles) last small follow =
    let own = subst (TilesFollow last) (tiles_by_themselves tile tiles) follow in
    (tile_again numbers tile small own.0, own.1, tiles_again (drop (length (new_in tile)) numbers) tiles (Some tile.hi) (All-drop IsSmall (length (new_in tile)) numbers small) own.2)

pub tiles_long : (numbers : List ℕ) (tiles : List DraftTile) → length (tiles_with numbers tiles) ≡ length tiles
tiles_long numbers [] = refl
tiles_long numbers (tile ∷ tiles) = ap suc (tiles_long (drop (length (new_in tile)) numbers) tiles)

pub spelled_again : (tiles : List DraftTile) (numbers : List ℕ) (number : ℕ) → HasSpelling (header_of 0 (tiles_with [] tiles)) → All IsSmall numbers → number ≤ max_place → HasSpelling (header_of number (tiles_with numbers tiles))
spelled_again tiles numbers number has small low =
    let some = has.some in
    let few = has.few in
    let long = tiles_long numbers tiles in
    let before = tiles_long [] tiles in
    record {
      no = low;
      some = omega (arith, some, long, before);
      few = omega (arith, few, long, before);
      tiles = tiles_follow_to (tiles_with numbers tiles) (tiles_again numbers tiles None small (tiles_follow_from (tiles_with [] tiles) has.tiles));
    }
