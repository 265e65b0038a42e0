-- Lists that are read off tiles, one tile after another.
use Rattle.std.proofs.Common.{◌≡◌, ℕ, ◌+◌, ◌<◌, List, ◌∷◌, ◌++◌, flat_map, filter_map, drop, length, get_or, ap, sym, ◌∙◌}
use Rattle.std.proofs.lemmas.List.{append_assoc, drop_more}
use Rattle.std.proofs.lemmas.List.Elements.{filter_map-append}
use Rattle.lethe_base.specs.declared.entry.Entry.{Entry}
use Rattle.lethe_swept.specs.Left.{fresh_of}
use Rattle.lethe_swept.specs.declared.part.SweptTile.{SweptTile}

-- the new pages of one more tile were added
pub fresh_more : (all before then : List (List Entry)) (tile : SweptTile) (tiles rest : List SweptTile) → before ++ filter_map fresh_of (flat_map (λ tile. tile.parts) tiles) ≡ all → tiles ≡ tile ∷ rest
    → then ≡ before ++ filter_map fresh_of tile.parts → then ++ filter_map fresh_of (flat_map (λ tile. tile.parts) rest) ≡ all
fresh_more all before then tile tiles rest so_far is added =
    ap (λ pages. pages ++ filter_map fresh_of (flat_map (λ (tile : SweptTile). tile.parts) rest)) added
    ∙ append_assoc before (filter_map fresh_of tile.parts) (filter_map fresh_of (flat_map (λ tile. tile.parts) rest))
    ∙ ap (λ pages. before ++ pages) (sym (filter_map-append fresh_of tile.parts (flat_map (λ tile. tile.parts) rest)))
    ∙ ap (λ (tiles : List SweptTile). before ++ filter_map fresh_of (flat_map (λ tile. tile.parts) tiles)) (sym is)
    ∙ so_far

-- what is read off one more item was added
pub read_more : {X Y : Type 0} (read : X → List Y) (all before then : List Y) (xs : List X) (place : ℕ) (x : X) → place < length xs → x ≡ get_or xs place x
    → before ++ flat_map read (drop place xs) ≡ all → then ≡ before ++ read x → then ++ flat_map read (drop (place + 1) xs) ≡ all
read_more {X} {Y} read all before then xs place x within is so_far added =
    ap (λ (ys : List Y). ys ++ flat_map read (drop (place + 1) xs)) added
    ∙ append_assoc before (read x) (flat_map read (drop (place + 1) xs))
    ∙ ap (λ (y : X). before ++ (read y ++ flat_map read (drop (place + 1) xs))) is
    ∙ ap (λ (ys : List X). before ++ flat_map read ys) (sym (drop_more xs place x within))
    ∙ so_far
