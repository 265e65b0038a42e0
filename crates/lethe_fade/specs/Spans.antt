-- Ranges of keys that both ends belong to.
use Rattle.std.specs.Prelude.{Bool, ◌&&◌, List, [], ◌∷◌, fold, filter}
use Rattle.std.specs.Ordering.{is_le, ord_min, ord_max}
use Rattle.lethe_base.specs.Keys.{Bytes, key_cmp}
use Rattle.lethe_base.specs.declared.shape.FileFacts.{FileFacts}

pub record KeyRange : Type 0 where
  pub lo : Bytes
  pub hi : Bytes

-- the keys that a file may have
abbrev pub range_of : FileFacts → KeyRange
range_of file = record { lo = file.lo; hi = file.hi }

-- whether two ranges, each with its ends in order, share a key
abbrev pub overlaps : KeyRange → KeyRange → Bool
overlaps a b = is_le (key_cmp a.lo b.hi) && is_le (key_cmp b.lo a.hi)

-- the least range with all keys of both
abbrev pub joined : KeyRange → KeyRange → KeyRange
joined a b = record { lo = ord_min key_cmp a.lo b.lo; hi = ord_max key_cmp a.hi b.hi }

-- the least range with all keys of a range and of some files
abbrev pub hull : KeyRange → List FileFacts → KeyRange
hull range files = fold (λ keys file. joined keys (range_of file)) range files

-- the least range with all keys of some files, of which there has to be one
abbrev pub hull_of : List FileFacts → KeyRange
hull_of [] = record { lo = []; hi = [] }
hull_of (first ∷ others) = hull (range_of first) others

-- the files that overlap a range
abbrev pub overlapping : KeyRange → List FileFacts → List FileFacts
overlapping range files = filter (λ file. overlaps range (range_of file)) files
