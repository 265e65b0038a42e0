use Rattle.std.proofs.Common.{sym, ◌∙◌}
use Rattle.lethe_memdisk.specs.Effects.{Synced}
use Rattle.lethe_memdisk.proofs.Taking.{answers_ok, answers_failed, held_taken}
use Rattle.lethe_memdisk.proofs.disk.MemDiskDisk.sync.Goals as goal

pub returns-then-fails-clause-call : goal.returns-then-fails-clause-call
returns-then-fails-clause-call c = answers_failed Synced c.fail.result c.args.self.now c.fail.new.self c.fail.ensures.refused c.fail.ensures.failed (sym c.fails.ensures.fails ∙ c.if-fails.true) c.fail.ensures.later

pub returns-clause-call : goal.returns-clause-call
returns-clause-call c = answers_ok Synced c.args.self.now _ tt (held_taken Synced c.args.self.now c.self.inside.past c.sync.new.self c.self.inside.earlier c.self.inside.room c.self.inside.failing.items c.self.inside.fuse c.self.inside.faults c.sync.ensures c.self.view_is) (sym c.fails.ensures.fails ∙ c.if-fails.false)
