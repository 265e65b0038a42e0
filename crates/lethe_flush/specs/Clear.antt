-- Files that have no key of a range.
use Rattle.std.specs.Prelude.{◌≡◌, false}
use Rattle.lethe_fade.specs.Spans.{KeyRange, overlaps}
use Rattle.lethe_header.specs.Facts.{least_key, greatest_key}
use Rattle.lethe_header.specs.declared.header.Header.{Header}

-- the keys that a file may have, by its header
abbrev pub range_of : Header → KeyRange
range_of header = record { lo = least_key header.tiles; hi = greatest_key header.tiles }

-- the file has no key of the range
abbrev pub IsClearOf : KeyRange → Header → Type 0
IsClearOf keys header = overlaps keys (range_of header) ≡ false
