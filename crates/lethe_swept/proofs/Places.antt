-- Page lines by their places among those of all tiles.
use Rattle.std.proofs.Common.{◌≡◌, ℕ, zero, suc, ◌+◌, ◌<◌, List, [], ◌∷◌, ◌++◌, Some, length, map, drop, get_or, slice_get, All, refl, ◌∙◌, ap, sym, subst, append_assoc, length-append, arith}
use Rattle.std.proofs.lemmas.List.{drop_all, drop_more}
use Rattle.std.proofs.lemmas.List.Elements.{All-cons, All-nil}
use Rattle.lethe_header.specs.Facts.{lines_of}
use Rattle.lethe_header.specs.declared.header.PageLine.{PageLine}
use Rattle.lethe_header.specs.declared.header.TileLine.{TileLine}
use Rattle.lethe_swept.specs.Left.{Placed, placed}

-- ---- places in two lists, one behind the other

get_before : {X : Type 0} (xs ys : List X) (k : ℕ) → k < length xs → slice_get (xs ++ ys) k ≡ slice_get xs k
get_before [] ys k inside = absurd (omega (arith, inside))
get_before (x ∷ xs) ys zero inside = refl
get_before (x ∷ xs) ys (suc k) inside = get_before xs ys k (omega (arith, inside))

get_behind : {X : Type 0} (xs ys : List X) (j k : ℕ) → length xs + j ≡ k → slice_get (xs ++ ys) k ≡ slice_get ys j
get_behind [] ys j k is = let same : k ≡ j = omega (arith, is) in ap (slice_get ys) same
get_behind (x ∷ xs) ys j zero is = absurd (omega (arith, is))
get_behind (x ∷ xs) ys j (suc k) is = get_behind xs ys j k (omega (arith, is))

-- ---- looking for a place, tile by tile

-- in the tiles from the i-th on, the line at that place has so many lines before it
pub record IsAhead (tiles : List TileLine) (place i left : ℕ) : Type 0 where
  pub inside : left < length (lines_of (drop i tiles))
  pub same : slice_get (lines_of (drop i tiles)) left ≡ slice_get (lines_of tiles) place

module _ (tiles : List TileLine) (place i left : ℕ) (ahead : IsAhead tiles place i left) where
  -- so not all tiles are behind it
  pub none_ahead : length tiles ≡ i → ⊥
  none_ahead all =
      let gone : length (lines_of (drop i tiles)) ≡ 0 = ap (λ (ts : List TileLine). length (lines_of ts)) (drop_all i tiles (omega (arith, all))) in
      let inside = ahead.inside in
      omega (arith, gone, inside)

  module _ (tile : TileLine) (within : i < length tiles) (is : tile ≡ get_or tiles i tile) where
    parts : lines_of (drop i tiles) ≡ tile.pages ++ lines_of (drop (i + 1) tiles)
    parts = ap lines_of (drop_more tiles i tile within) ∙ ap (λ (t : TileLine). t.pages ++ lines_of (drop (i + 1) tiles)) (sym is)

    -- it is one of this tile's lines
    pub found_here : left < length tile.pages → slice_get (lines_of tiles) place ≡ slice_get tile.pages left
    found_here here = sym ahead.same ∙ ap (λ (lines : List PageLine). slice_get lines left) parts ∙ get_before tile.pages (lines_of (drop (i + 1) tiles)) left here

    -- it is a line of a later tile
    pub ahead_more : (less : ℕ) → length tile.pages + less ≡ left → IsAhead tiles place (i + 1) less
    ahead_more less is_less =
        let inside = ahead.inside in
        record {
          inside = omega (arith, inside, is_less, ap length parts, length-append tile.pages (lines_of (drop (i + 1) tiles)));
          same = sym (get_behind tile.pages (lines_of (drop (i + 1) tiles)) less left is_less) ∙ ap (λ (lines : List PageLine). slice_get lines left) (sym parts) ∙ ahead.same;
        }

-- ---- pages by their places

-- the page's line stands at its place among these
abbrev pub IsPlacedIn : List PageLine → Placed → Type 0
IsPlacedIn lines page = slice_get lines page.place ≡ Some page.line

pub all_placed : (before lines after : List PageLine) (first : ℕ) → length before ≡ first → All (IsPlacedIn (before ++ (lines ++ after))) (placed first lines)
all_placed before [] after first long = All-nil (IsPlacedIn (before ++ after))
all_placed before (line ∷ lines) after first long =
    let all = before ++ (line ∷ (lines ++ after)) in
    let more = all_placed (before ++ line ∷ []) lines after (first + 1) (omega (arith, long, length-append before (line ∷ []))) in
    All-cons (IsPlacedIn all) (record { place = first; line = line }) (placed (first + 1) lines)
    (get_behind before (line ∷ (lines ++ after)) 0 first (omega (arith, long)))
    (subst (λ (ls : List PageLine). All (IsPlacedIn ls) (placed (first + 1) lines)) (append_assoc before (line ∷ []) (lines ++ after)) more)

pub lines_placed : (first : ℕ) (lines : List PageLine) → map (λ (page : Placed). page.line) (placed first lines) ≡ lines
lines_placed first [] = refl
lines_placed first (line ∷ lines) = ap (λ (ls : List PageLine). line ∷ ls) (lines_placed (first + 1) lines)
