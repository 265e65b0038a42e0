use Rattle.std.proofs.Common.{◌≡◌, ◌*◌, ◌<◌, ◌^◌, All, length}
use Rattle.lethe_tile.specs.Filters.{filter_len}
use Rattle.lethe_tile.proofs.Bits.{SetsKeys}
use Rattle.lethe_tile.proofs.filter.Filter.build.Given as goal

abbrev pub invariant-loop-key : goal.invariant-loop-key
invariant-loop-key l = (64 * length l.words.items ≡ filter_len (length l.keys)) × SetsKeys l.words.items l.keys l.key-index × All (λ word. word < 2 ^ 64) l.words.items
