use Rattle.std.proofs.Common.{sym, ap, ◌∙◌}
use Rattle.std.specs.FinMap as finmap
use Rattle.lethe_base.specs.Layout.{buffer_of, frozen_records}
use Rattle.lethe_flush.proofs.Newest.{newest_values}
use Rattle.lethe_flush.proofs.laws.newest_are_frozen.Goals as goal

pub returns : goal.returns
returns c = λ l records entries is ascends newest.
    newest_values (frozen_records l) entries ascends (λ key. newest key ∙ ap (λ records. finmap.get (buffer_of records) key) (sym is))
