-- Entries in the order in which they came, and the tree that puts them in the order of their keys.
use Rattle.std.specs.Prelude.{◌≡◌, ℕ, zero, suc, ◌<◌, ◌^◌, List, [], ◌∷◌, ◌++◌, length, filter_map, Option, Some, None, slice_get}
use Rattle.lethe_base.specs.declared.entry.Entry.{Entry}
use Rattle.lethe_tree.specs.declared.link.Link.{Link}
use Rattle.lethe_tree.specs.Shape.{Shape, Apart, IsBalanced, Lies, order, root_of}

-- the entries at these indices
abbrev pub at_each : List Entry → List ℕ → List Entry
at_each entries is = filter_map (λ i. slice_get entries i) is

-- the indices below one from left to right, no more than so many nodes deep
abbrev pub walk : ℕ → List Link → Option ℕ → List ℕ
walk zero links from = []
walk (suc depth) links None = []
walk (suc depth) links (Some i) = elim (slice_get links i) [ None ↦ [] | Some link ↦ walk depth links link.left ++ i ∷ walk depth links link.right ]

-- the entries of a tree from left to right
unfoldable pub entries_from : List Entry → List Link → Option ℕ → List Entry
entries_from entries links root = at_each entries (walk (length links) links root)

abbrev pub last_of : List ℕ → Option ℕ
last_of [] = None
last_of (i ∷ []) = Some i
last_of (i ∷ j ∷ is) = last_of (j ∷ is)

abbrev pub AllBelow : ℕ → List ℕ → Type 0
AllBelow n [] = Unit {0}
AllBelow n (i ∷ is) = (i < n) × AllBelow n is

-- a balanced tree lies in the links. Each entry's index stands in it once, and the greatest key's last
pub record IsTree (entries : List Entry) (links : List Link) (root last : Option ℕ) : Type 0 where
  pub tree : Shape
  pub lies : Lies links tree
  pub root_is : root ≡ root_of tree
  pub balanced : IsBalanced tree
  pub apart : Apart (order tree)
  pub known : AllBelow (length entries) (order tree)
  pub count : length (order tree) ≡ length entries
  pub linked : length links ≡ length entries
  pub few : length links < 2 ^ 64
  pub last_is : last ≡ last_of (order tree)
