-- What a look for a key finds.
use Rattle.std.specs.Prelude.{◌≡◌, ℕ, ◌+◌, ◌<◌, ◌^◌, ◌⊎◌, List, [], ◌∷◌, length, Bool, true, false, Option, Some, None, slice_get}
use Rattle.std.specs.Ordering.{is_lt}
use Rattle.std.specs.declared.cmp.Ordering.{Ordering}
use Rattle.std.specs.declared.cmp.Ordering.TheVariants.{Less, Equal, Greater}
use Rattle.lethe_base.specs.Keys.{Bytes, key_cmp}
use Rattle.lethe_base.specs.Entries.{IsAscending, entry_of}
use Rattle.lethe_base.specs.declared.entry.Entry.{Entry}
use Rattle.lethe_tree.specs.declared.link.Link.{Link}
use Rattle.lethe_tree.specs.declared.placing.Spot.{Spot}
use Rattle.lethe_tree.specs.declared.placing.Spot.TheVariants as spot
use Rattle.lethe_tree.specs.Shape.{Shape, Leaf, Fork, IsBalanced, Lies, order, root_of, size}
use Rattle.lethe_tree.specs.Tree.{AllBelow, at_each, last_of}

-- a balanced tree of entries in the order of their keys
pub record MayLook (links : List Link) (entries : List Entry) (from : Option ℕ) (t : Shape) : Type 0 where
  pub lies : Lies links t
  pub from_is : from ≡ root_of t
  pub balanced : IsBalanced t
  pub ascending : IsAscending (at_each entries (order t))
  pub known : AllBelow (length entries) (order t)
  pub few : size t < 2 ^ 64

abbrev pub Stands : ℕ → List ℕ → Type 0
Stands at [] = ⊥
Stands at (i ∷ is) = (i ≡ at) ⊎ Stands at is

-- the entry at one of these indices has the key
abbrev pub Holds : List Entry → Bytes → List ℕ → ℕ → Type 0
Holds entries key is at = (e : Entry) × (slice_get entries at ≡ Some e) × (e.key ≡ key) × Stands at is

-- the index of the key's entry, or none where there is no such entry
abbrev pub IsFound : List Entry → Bytes → List ℕ → Option ℕ → Type 0
IsFound entries key is None = entry_of key (at_each entries is) ≡ None
IsFound entries key is (Some at) = Holds entries key is at

-- the side of a node on which a look goes on, or none where the keys are one
abbrev pub side_of : Link → Ordering → Option (Option ℕ)
side_of link Less = Some link.left
side_of link Equal = None
side_of link Greater = Some link.right

-- of two counts that of the side on which a look goes on, or 0 where the keys are one
abbrev pub by_side : Ordering → ℕ → ℕ → ℕ
by_side Less left right = left
by_side Equal left right = 0
by_side Greater left right = right

abbrev pub below_of : Bytes → Option Entry → ℕ → ℕ → ℕ
below_of key None left right = 0
below_of key (Some entry) left right = by_side (key_cmp key entry.key) left right

-- how many nodes stand on the way of a look for a key
abbrev pub looks : List Entry → Bytes → Shape → ℕ
looks entries key Leaf = 0
looks entries key (Fork l i r) = below_of key (slice_get entries i) (looks entries key l) (looks entries key r) + 1

-- whether a key is above that of an entry
abbrev pub is_above : Bytes → Option Entry → Bool
is_above key None = false
is_above key (Some entry) = is_lt (key_cmp entry.key key)

-- whether it is above that of the last entry, or there is none
abbrev pub is_behind : List Entry → Bytes → Option ℕ → Bool
is_behind entries key None = true
is_behind entries key (Some at) = is_above key (slice_get entries at)

-- where a key goes: to its entry, behind all, or among them
abbrev pub IsSpot : List Entry → Bytes → List ℕ → Spot → Type 0
IsSpot entries key is (spot.Held at) = Holds entries key is at
IsSpot entries key is spot.Behind = is_behind entries key (last_of is) ≡ true
IsSpot entries key is spot.Among = (is_behind entries key (last_of is) ≡ false) × (entry_of key (at_each entries is) ≡ None)
