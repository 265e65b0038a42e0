use Rattle.std.proofs.Common.{rules}
use Rattle.std.specs.Prelude.{vec_capacity}
use Rattle.lethe_memdisk.proofs.Keeping.{has_room}
use Rattle.lethe_memdisk.proofs.past.Past.sync.Goals as goal

pub keep-requires : goal.keep-requires
keep-requires c = let room = has_room c.self.inside.objects c.self.inside.calls.items c.self.inside.room (vec_capacity c.self.inside.calls) c.args.self.now c.self.invariant c.self.view_is c.requires in search rules
