-- Which files a level has, and their order.
use Rattle.std.specs.Prelude.{◌≡◌, ◌==◌, ℕ, Bool, not, IsTrue, List, filter, All, AllPairs, if◌then◌else◌}
use Rattle.std.specs.List.{list_any}
use Rattle.std.specs.List.Sorted.{IsPermutation, IsSortedBy, ties}
use Rattle.std.specs.Ordering.{is_lt, nat_cmp}
use Rattle.lethe_base.specs.Keys.{key_cmp}
use Rattle.lethe_header.specs.Facts.{lines_of, max_seq_in, least_key, greatest_key}
use Rattle.lethe_header.specs.declared.header.Header.{Header}

-- the greatest place of an entry of the file
abbrev pub greatest_place : Header → ℕ
greatest_place header = max_seq_in (lines_of header.tiles)

-- level 0 stands by the greatest place, greatest first, which is newest first; each other level by the least key
abbrev pub comes_before : ℕ → Header → Header → Bool
comes_before level a b = if level == 0 then is_lt (nat_cmp (greatest_place b) (greatest_place a)) else is_lt (key_cmp (least_key a.tiles) (least_key b.tiles))

-- these files in this order; files that tie stand as they were given
pub record IsOrderedBy {F : Type 0} (lt : F → F → Bool) (given files : List F) : Type 0 where
  pub same : IsPermutation given files
  pub sorted : IsSortedBy lt files
  pub stable : All (λ file. filter (ties lt file) files ≡ filter (ties lt file) given) given

-- the number of the file isn't among those that are gone
abbrev pub is_kept : List ℕ → Header → Bool
is_kept gone header = not (list_any (λ no. no == header.no) gone)

-- the files ascend by key and are disjoint
abbrev pub Rise : List Header → Type 0
Rise headers = AllPairs (λ a b. IsTrue (is_lt (key_cmp (greatest_key a.tiles) (least_key b.tiles)))) headers
