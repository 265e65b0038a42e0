use Rattle.lethe_file.proofs.Allowed.{allows_is}
use Rattle.lethe_version.proofs.probing.is_allowed.Goals as goal

pub returns : goal.returns
returns c = allows_is c.args.filter.now c.args.key.now c.may_hold.result c.may_hold.ensures
