use Rattle.std.proofs.Common.{sym, ◌∙◌}
use Rattle.lethe_memdisk.specs.Effects.{Removed}
use Rattle.lethe_memdisk.proofs.Taking.{answers_ok, answers_failed, held_taken}
use Rattle.lethe_memdisk.proofs.disk.MemDiskDisk.remove.Goals as goal

pub returns-then-fails-clause-call : goal.returns-then-fails-clause-call
returns-then-fails-clause-call c = answers_failed (Removed c.args.name) c.fail.result c.args.self.now c.fail.new.self c.fail.ensures.refused c.fail.ensures.failed (sym c.fails.ensures.fails ∙ c.if-fails.true) c.fail.ensures.later

pub returns-clause-call : goal.returns-clause-call
returns-clause-call c = answers_ok (Removed c.args.name) c.args.self.now _ tt (held_taken (Removed c.args.name) c.args.self.now c.self.inside.past c.remove.new.self c.self.inside.earlier c.self.inside.room c.self.inside.failing.items c.self.inside.fuse c.self.inside.faults c.remove.ensures c.self.view_is) (sym c.fails.ensures.fails ∙ c.if-fails.false)
