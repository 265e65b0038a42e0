-- Files in nodes that name each other by index.
use Rattle.std.specs.Prelude.{◌≡◌, ◌≢◌, ℕ, zero, suc, ◌==◌, Bool, true, false, nat_lt, List, [], ◌∷◌, ◌++◌, length, map, All, AllPairs, Option, None, Some, ◌||◌, ◌&&◌}
use Rattle.slab.specs.Slab.{Slab, get, slab_len}
use Rattle.lethe_due.specs.declared.node.Node.{Node}
use Rattle.lethe_due.specs.declared.due_file.DueFile.{DueFile}
use Rattle.lethe_due.specs.declared.stop.Stop.{Stop}
use Rattle.lethe_due.specs.declared.stop.Stop.TheVariants as stop
use Rattle.lethe_due.specs.Due.{AreInOrder}

-- an index with the file of its node
abbrev pub Cell : Type 0
Cell = ℕ × DueFile

abbrev pub file_of : Cell → DueFile
file_of cell = cell.1

-- the list leads over these nodes to an index
abbrev pub Path : (ℕ → Option Node) → Option ℕ → List (ℕ × DueFile) → Option ℕ → Type 0
Path nodes from [] to = from ≡ to
Path nodes from (cell ∷ cells) to = (next : Option ℕ) × (from ≡ Some cell.0) × (nodes cell.0 ≡ Some (record { file = cell.1; next = next })) × Path nodes next cells to

-- the node at an index, where there is one
abbrev pub node_from : (ℕ → Option Node) → Option ℕ → Option Node
node_from nodes None = None
node_from nodes (Some key) = nodes key

-- the files that a walk comes to in so many steps
abbrev pub walk : ℕ → (ℕ → Option Node) → Option ℕ → List DueFile
walk zero nodes from = []
walk (suc n) nodes from = elim (node_from nodes from) [ None ↦ [] | Some node ↦ node.file ∷ walk n nodes node.next ]

-- the files of a list that leads over all nodes
abbrev pub files_from : Slab Node → Option ℕ → List DueFile
files_from nodes first = walk (slab_len nodes) (get nodes) first

-- the list leads over all nodes, over each once, and their files come in order
pub record AreLinked (nodes : Slab Node) (first : Option ℕ) : Type 0 where
  pub cells : List (ℕ × DueFile)
  pub path : Path (get nodes) first cells None
  pub apart : AllPairs (λ cell other. cell.0 ≢ other.0) cells
  pub count : slab_len nodes ≡ length cells
  pub order : AreInOrder (map file_of cells)

-- whether a walk stops at the file
abbrev pub stops_at : Stop → DueFile → Bool
stops_at (stop.Behind other) file = nat_lt other.oldest file.oldest || ((other.oldest == file.oldest) && nat_lt other.no file.no)
stops_at (stop.Number number) file = file.no == number

-- the last index, where there is one
abbrev pub last_from : Option ℕ → List (ℕ × DueFile) → Option ℕ
last_from behind [] = behind
last_from behind (cell ∷ cells) = last_from (Some cell.0) cells

-- the first file, where there is one, passes
abbrev pub Heads : (DueFile → Bool) → List (ℕ × DueFile) → Type 0
Heads test [] = Unit {0}
Heads test (cell ∷ cells) = test cell.1 ≡ true

-- the list in two parts, the second from the first file on that passes
pub record Parted (nodes : ℕ → Option Node) (first : Option ℕ) (cells : List (ℕ × DueFile)) (test : DueFile → Bool) (behind from : Option ℕ) : Type 0 where
  pub front : List (ℕ × DueFile)
  pub back : List (ℕ × DueFile)
  pub whole : cells ≡ front ++ back
  pub last : behind ≡ last_from None front
  pub to : Path nodes first front from
  pub on : Path nodes from back None
  pub passed : All (λ cell. test cell.1 ≡ false) front
  pub stopped : Heads test back

-- the same so far on the way: so many were passed
pub record Passed (nodes : ℕ → Option Node) (first : Option ℕ) (cells : List (ℕ × DueFile)) (test : DueFile → Bool) (behind from : Option ℕ) (place : ℕ) : Type 0 where
  pub front : List (ℕ × DueFile)
  pub back : List (ℕ × DueFile)
  pub whole : cells ≡ front ++ back
  pub last : behind ≡ last_from None front
  pub to : Path nodes first front from
  pub on : Path nodes from back None
  pub passed : All (λ cell. test cell.1 ≡ false) front
  pub count : length front ≡ place

-- the node behind goes on at an index, or where there is none the list begins there
abbrev pub IsRelinked : (ℕ → Option Node) → (ℕ → Option Node) → Option ℕ → Option ℕ → Option ℕ → Option ℕ → Type 0
IsRelinked old new first to now None = (now ≡ to) × ((other : ℕ) → new other ≡ old other)
IsRelinked old new first to now (Some key) =
    (now ≡ first) × ((node : Node) → old key ≡ Some node → new key ≡ Some (record node { next = to })) × ((other : ℕ) → other ≢ key → new other ≡ old other)
