-- What becomes of a tree where a node is hung in.
use Rattle.std.specs.Prelude.{◌≡◌, ◌≢◌, ℕ, ◌+◌, ◌≤◌, ◌<◌, ◌^◌, Bool, true, false, if◌then◌else◌, List, [], ◌∷◌, Option, Some, None, slice_get, length}
use Rattle.std.specs.Ordering.{is_lt}
use Rattle.lethe_base.specs.Keys.{Bytes, key_cmp}
use Rattle.lethe_base.specs.declared.entry.Entry.{Entry}
use Rattle.lethe_tree.specs.declared.link.Link.{Link}
use Rattle.lethe_tree.specs.Shape.{Shape, Leaf, Apart, IsBalanced, Lies, NotIn, height, link_of, order, root_of, size}
use Rattle.lethe_tree.specs.Tree.{AllBelow}

-- whether a key is below that of an entry
abbrev pub is_below : Bytes → Option Entry → Bool
is_below key None = false
is_below key (Some entry) = is_lt (key_cmp key entry.key)

-- whether a new node goes to the left of another: by its key, or else behind all
abbrev pub goes_left : List Entry → Option Bytes → ℕ → Bool
goes_left entries None at = false
goes_left entries (Some key) at = is_below key (slice_get entries at)

-- the new index before the first one that passes
abbrev pub put : (ℕ → Bool) → ℕ → List ℕ → List ℕ
put test new [] = new ∷ []
put test new (i ∷ is) = if test i then (new ∷ i ∷ is) else (i ∷ put test new is)

abbrev pub AllTrue : (ℕ → Bool) → List ℕ → Type 0
AllTrue test [] = Unit {0}
AllTrue test (i ∷ is) = (test i ≡ true) × AllTrue test is

-- behind one that passes all do
abbrev pub Turns : (ℕ → Bool) → List ℕ → Type 0
Turns test [] = Unit {0}
Turns test (i ∷ is) = (test i ≡ true → AllTrue test is) × Turns test is

pub record MayGrow (links : List Link) (test : ℕ → Bool) (from : Option ℕ) (new : ℕ) (t : Shape) : Type 0 where
  pub lies : Lies links t
  pub from_is : from ≡ root_of t
  pub balanced : IsBalanced t
  pub apart : Apart (order t)
  pub other : NotIn new (order t)
  pub alone : slice_get links new ≡ Some (link_of Leaf Leaf)
  pub few : size t + 1 < 2 ^ 64
  pub turns : Turns test (order t)

-- the node stands in its place, and the tree is balanced
pub record IsGrown (old now : List Link) (test : ℕ → Bool) (t : Shape) (new root : ℕ) : Type 0 where
  pub tree : Shape
  pub lies : Lies now tree
  pub root_is : root_of tree ≡ Some root
  pub balanced : IsBalanced tree
  pub same : order tree ≡ put test new (order t)
  pub size_is : size tree ≡ size t + 1
  pub not_lower : height t ≤ height tree
  pub at_most_one : height tree ≤ height t + 1
  pub beside : (i : ℕ) → NotIn i (order t) → i ≢ new → slice_get now i ≡ slice_get old i

-- a whole tree, into which one more node is to be hung
pub record MayHang (links : List Link) (test : ℕ → Bool) (root : Option ℕ) (t : Shape) : Type 0 where
  pub lies : Lies links t
  pub root_is : root ≡ root_of t
  pub balanced : IsBalanced t
  pub apart : Apart (order t)
  pub known : AllBelow (length links) (order t)
  pub few : size t ≤ length links
  pub turns : Turns test (order t)

-- it is the last one
pub record IsHung (old new : List Link) (test : ℕ → Bool) (t : Shape) (root : ℕ) : Type 0 where
  pub tree : Shape
  pub lies : Lies new tree
  pub root_is : root_of tree ≡ Some root
  pub balanced : IsBalanced tree
  pub same : order tree ≡ put test (length old) (order t)
  pub count : length new ≡ length old + 1
  pub few : length new < 2 ^ 64
