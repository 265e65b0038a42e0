use Rattle.std.proofs.Common.{◌≡◌, ◌+◌, take}
use Rattle.lethe_fade.specs.Expired.{is_expired}
use Rattle.lethe_orders.proofs.Ages.{first_age}
use Rattle.lethe_orders.proofs.expired.oldest_file.Given as goal

abbrev pub invariant-loop-file : goal.invariant-loop-file
invariant-loop-file g l = record {
  first : l.oldest ≡ first_age (is_expired l.config l.to l.level) (take l.file-index l.files);
  few : l.steps ≡ l.initial.steps + l.file-index;
}
