use Rattle.std.proofs.Common.{◌≡◌, take}
use Rattle.lethe_tile.specs.Filters.{hash_of}
use Rattle.lethe_tile.proofs.hash.hash_key.Given as goal

abbrev pub invariant-loop-byte : goal.invariant-loop-byte
invariant-loop-byte l = l.hash ≡ hash_of (take l.byte-index l.byte-items)
