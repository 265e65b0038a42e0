use Rattle.std.proofs.Common.{◌≡◌, ◌<◌, ℕ, length, take}
use Rattle.std.specs.Prelude.{slice_index}
use Rattle.lethe_header.specs.Facts.{lines_of}
use Rattle.lethe_file.proofs.finding.starts_of.Given as goal

abbrev pub invariant-loop-tile : goal.invariant-loop-tile
invariant-loop-tile l = record {
  start : l.start ≡ length (lines_of (take l.tile-index l.tiles));
  count : length l.starts.items ≡ l.tile-index;
  each : (k : ℕ) → k < l.tile-index → slice_index l.starts.items k ≡ length (lines_of (take k l.tiles));
}
