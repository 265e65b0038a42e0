-- What becomes of a tree where a node gets other sides.
use Rattle.std.specs.Prelude.{◌≡◌, ◌≢◌, ℕ, ◌+◌, ◌≤◌, ◌<◌, ◌^◌, max, List, ◌∷◌, ◌++◌, Option, Some, slice_get}
use Rattle.lethe_tree.specs.declared.link.Link.{Link}
use Rattle.lethe_tree.specs.Shape.{Shape, Apart, DifferByAtMost, IsBalanced, Lies, NotIn, height, link_of, order, root_of, size}

-- a node got two sides, and the others are as they were
pub record IsJoined (old new : List Link) (at : ℕ) (left right : Option ℕ) : Type 0 where
  pub there : (l r : Shape) → Lies old l → Lies old r → left ≡ root_of l → right ≡ root_of r → size l + size r + 1 < 2 ^ 64 → slice_get new at ≡ Some (link_of l r)
  pub beside : (i : ℕ) → i ≢ at → slice_get new i ≡ slice_get old i

-- two trees to be hung under a node, of which one may be too high by one
pub record IsReady (links : List Link) (left : Option ℕ) (top : ℕ) (right : Option ℕ) (l r : Shape) : Type 0 where
  pub lies_left : Lies links l
  pub lies_right : Lies links r
  pub left_is : left ≡ root_of l
  pub right_is : right ≡ root_of r
  pub balanced_left : IsBalanced l
  pub balanced_right : IsBalanced r
  pub differ : DifferByAtMost 2 (height l) (height r)
  pub apart : Apart (order l ++ top ∷ order r)
  pub few : size l + size r + 1 < 2 ^ 64

-- the height of what two sides become
abbrev pub IsHeightOf : ℕ → ℕ → ℕ → Type 0
IsHeightOf l r h = (max l r ≤ h) × (h ≤ max l r + 1) × (DifferByAtMost 1 l r → h ≡ max l r + 1)

-- they hang under one node, in the same order, and are balanced
pub record IsSettled (old new : List Link) (l : Shape) (top : ℕ) (r : Shape) (root : ℕ) : Type 0 where
  pub tree : Shape
  pub lies : Lies new tree
  pub root_is : root_of tree ≡ Some root
  pub balanced : IsBalanced tree
  pub same : order tree ≡ order l ++ top ∷ order r
  pub size_is : size tree ≡ size l + size r + 1
  pub height_is : IsHeightOf (height l) (height r) (height tree)
  pub beside : (i : ℕ) → NotIn i (order l ++ top ∷ order r) → slice_get new i ≡ slice_get old i
