use Rattle.std.proofs.Common.{◌≤◌, length}
use Rattle.lethe_stored.specs.Replayed.{AreNewestOf}
use Rattle.lethe_flush.proofs.replaying.entered.Given as goal

-- the entries are the newest of the records so far
abbrev pub invariant-loop-record : goal.invariant-loop-record
invariant-loop-record l = record { newest : AreNewestOf l.yielded l.buffer.entries; few : length l.buffer.entries ≤ length l.yielded }
