-- A tree of indices, and how it lies in links.
use Rattle.std.specs.Prelude.{◌≡◌, ◌≢◌, ℕ, ◌+◌, ◌≤◌, max, List, [], ◌∷◌, ◌++◌, Option, Some, None, slice_get}
use Rattle.lethe_tree.specs.declared.link.Link.{Link}

pub data Shape : Type 0 where
  Leaf : Shape
  Fork : Shape → ℕ → Shape → Shape

abbrev pub root_of : Shape → Option ℕ
root_of Leaf = None
root_of (Fork l i r) = Some i

-- the indices from left to right
abbrev pub order : Shape → List ℕ
order Leaf = []
order (Fork l i r) = order l ++ i ∷ order r

abbrev pub height : Shape → ℕ
height Leaf = 0
height (Fork l i r) = max (height l) (height r) + 1

abbrev pub size : Shape → ℕ
size Leaf = 0
size (Fork l i r) = size l + size r + 1

-- the node above two sides
abbrev pub link_of : Shape → Shape → Link
link_of l r = record { left = root_of l; right = root_of r; height = max (height l) (height r) + 1; size = size l + size r + 1 }

-- each link names the roots of its two sides, and tells how high they are and how many
abbrev pub Lies : List Link → Shape → Type 0
Lies links Leaf = Unit {0}
Lies links (Fork l i r) = (slice_get links i ≡ Some (link_of l r)) × (Lies links l × Lies links r)

abbrev pub DifferByAtMost : ℕ → ℕ → ℕ → Type 0
DifferByAtMost by l r = (l ≤ r + by) × (r ≤ l + by)

abbrev pub IsBalanced : Shape → Type 0
IsBalanced Leaf = Unit {0}
IsBalanced (Fork l i r) = DifferByAtMost 1 (height l) (height r) × (IsBalanced l × IsBalanced r)

abbrev pub NotIn : ℕ → List ℕ → Type 0
NotIn i [] = Unit {0}
NotIn i (j ∷ js) = (j ≢ i) × NotIn i js

-- no index stands twice
abbrev pub Apart : List ℕ → Type 0
Apart [] = Unit {0}
Apart (i ∷ is) = NotIn i is × Apart is
