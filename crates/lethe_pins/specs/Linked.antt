-- Pins in nodes that name each other by index.
use Rattle.std.specs.Prelude.{◌≡◌, ◌≢◌, ℕ, zero, suc, ◌==◌, Bool, true, false, nat_lt, List, [], ◌∷◌, ◌++◌, length, map, All, AllPairs, Option, None, Some}
use Rattle.slab.specs.Slab.{Slab, get, slab_len}
use Rattle.lethe_pins.specs.declared.node.Node.{Node}
use Rattle.lethe_pins.specs.declared.pin.Pin.{Pin}
use Rattle.lethe_pins.specs.declared.stop.Stop.{Stop}
use Rattle.lethe_pins.specs.declared.stop.Stop.TheVariants as stop
use Rattle.lethe_pins.specs.Held.{AreHeld, has_name}

-- an index with the pin of its node
abbrev pub Cell : Type 0
Cell = ℕ × Pin

abbrev pub pin_of : Cell → Pin
pin_of cell = cell.1

-- the list leads over these nodes to an index
abbrev pub Path : (ℕ → Option Node) → Option ℕ → List (ℕ × Pin) → Option ℕ → Type 0
Path nodes from [] to = from ≡ to
Path nodes from (cell ∷ cells) to = (next : Option ℕ) × (from ≡ Some cell.0) × (nodes cell.0 ≡ Some (record { pin = cell.1; next = next })) × Path nodes next cells to

-- the node at an index, where there is one
abbrev pub node_from : (ℕ → Option Node) → Option ℕ → Option Node
node_from nodes None = None
node_from nodes (Some key) = nodes key

-- the pins that a walk comes to in so many steps
abbrev pub walk : ℕ → (ℕ → Option Node) → Option ℕ → List Pin
walk zero nodes from = []
walk (suc n) nodes from = elim (node_from nodes from) [ None ↦ [] | Some node ↦ node.pin ∷ walk n nodes node.next ]

-- the pins of a list that leads over all nodes
abbrev pub pins_from : Slab Node → Option ℕ → List Pin
pins_from nodes first = walk (slab_len nodes) (get nodes) first

-- the list leads over all nodes, over each once, and their pins are those that are held
pub record AreLinked (nodes : Slab Node) (first : Option ℕ) (made : ℕ) : Type 0 where
  pub cells : List (ℕ × Pin)
  pub path : Path (get nodes) first cells None
  pub apart : AllPairs (λ cell other. cell.0 ≢ other.0) cells
  pub count : slab_len nodes ≡ length cells
  pub held : AreHeld (record { pins = map pin_of cells; made = made })

-- whether a walk stops at the pin
abbrev pub stops_at : Stop → Pin → Bool
stops_at (stop.Limit limit) pin = nat_lt limit pin.limit
stops_at (stop.Number number) pin = pin.number == number
stops_at (stop.Name name) pin = has_name pin.names name

-- the last index, where there is one
abbrev pub last_from : Option ℕ → List (ℕ × Pin) → Option ℕ
last_from behind [] = behind
last_from behind (cell ∷ cells) = last_from (Some cell.0) cells

-- the first pin, where there is one, passes
abbrev pub Heads : (Pin → Bool) → List (ℕ × Pin) → Type 0
Heads test [] = Unit {0}
Heads test (cell ∷ cells) = test cell.1 ≡ true

-- the list in two parts, the second from the first pin on that passes
pub record Parted (nodes : ℕ → Option Node) (first : Option ℕ) (cells : List (ℕ × Pin)) (test : Pin → Bool) (behind from : Option ℕ) : Type 0 where
  pub front : List (ℕ × Pin)
  pub back : List (ℕ × Pin)
  pub whole : cells ≡ front ++ back
  pub last : behind ≡ last_from None front
  pub to : Path nodes first front from
  pub on : Path nodes from back None
  pub passed : All (λ cell. test cell.1 ≡ false) front
  pub stopped : Heads test back

-- the same so far on the way: so many were passed
pub record Passed (nodes : ℕ → Option Node) (first : Option ℕ) (cells : List (ℕ × Pin)) (test : Pin → Bool) (behind from : Option ℕ) (place : ℕ) : Type 0 where
  pub front : List (ℕ × Pin)
  pub back : List (ℕ × Pin)
  pub whole : cells ≡ front ++ back
  pub last : behind ≡ last_from None front
  pub to : Path nodes first front from
  pub on : Path nodes from back None
  pub passed : All (λ cell. test cell.1 ≡ false) front
  pub count : length front ≡ place

-- the node behind goes on at an index, or where there is none the list begins there
abbrev pub IsRelinked : (ℕ → Option Node) → (ℕ → Option Node) → Option ℕ → Option ℕ → Option ℕ → Option ℕ → Type 0
IsRelinked old new first to now None = (now ≡ to) × ((other : ℕ) → new other ≡ old other)
IsRelinked old new first to now (Some key) =
    (now ≡ first) × ((node : Node) → old key ≡ Some node → new key ≡ Some (record node { next = to })) × ((other : ℕ) → other ≢ key → new other ≡ old other)
