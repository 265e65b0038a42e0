use Rattle.std.proofs.Common.{All}
use Rattle.lethe_base.specs.Spelling.{HasSpelling}
use Rattle.lethe_stored.specs.Replayed.{AreNewestOf}
use Rattle.lethe_flush.proofs.Newest.{newest_spelled}
use Rattle.lethe_flush.proofs.Results.{ok_weaker}
use Rattle.lethe_flush.proofs.replaying.newest_of.Goals as goal

pub returns-clause-spelled : goal.returns-clause-spelled
returns-clause-spelled c =
    ok_weaker c.entered.result (λ buffer. AreNewestOf c.args.records buffer.entries) (λ buffer. All HasSpelling buffer.entries) c.entered.ensures.newest
    (λ buffer newest. newest_spelled c.args.records buffer.entries c.requires buffer.ascending newest)
