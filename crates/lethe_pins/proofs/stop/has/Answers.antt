use Rattle.std.proofs.Common.{◌∙◌}
use Rattle.lethe_pins.proofs.Searched.{has_by_search}
use Rattle.lethe_pins.proofs.stop.has.Goals as goal

pub returns : goal.returns
returns c = c.is_ok.ensures.value ∙ has_by_search c.args.names.now c.args.name c.binary_search.result c.requires c.binary_search.ensures.bound c.binary_search.ensures.position
