use Rattle.std.proofs.Common.{◌≡◌, sym, ◌∙◌, rules}
use Rattle.std.specs.Prelude.{Err}
use Rattle.lethe_disk.specs.declared.disk.DiskRefused.TheVariants.{NoMemory}
use Rattle.lethe_memdisk.specs.Effects.{Written}
use Rattle.lethe_memdisk.proofs.Taking.{answers_ok, answers_failed, answers_refused, held_taken, held_same}
use Rattle.lethe_memdisk.proofs.disk.MemDiskDisk.write_at.Goals as goal

pub returns-then-fails-clause-call : goal.returns-then-fails-clause-call
returns-then-fails-clause-call c = answers_failed (Written c.args.name c.args.at c.args.bytes.now) c.fail.result c.args.self.now c.fail.new.self c.fail.ensures.refused c.fail.ensures.failed (sym c.fails.ensures.fails ∙ c.if-fails.true) c.fail.ensures.later

pub returns-in_err-write-clause-call : goal.returns-in_err-write-clause-call
returns-in_err-write-clause-call c =
    let refusal : c.from_residual.result ≡ Err NoMemory = search rules in
    answers_refused (Written c.args.name c.args.at c.args.bytes.now) c.from_residual.result c.args.self.now _ refusal (held_same c.args.self.now c.self.inside.past c.write.new.self c.self.inside.earlier c.self.inside.room c.self.inside.failing.items c.self.inside.fuse c.self.inside.faults c.in_err-write.ensures.err c.self.view_is) (sym c.fails.ensures.fails ∙ c.if-fails.false)

pub returns-clause-call : goal.returns-clause-call
returns-clause-call c = answers_ok (Written c.args.name c.args.at c.args.bytes.now) c.args.self.now _ tt (held_taken (Written c.args.name c.args.at c.args.bytes.now) c.args.self.now c.self.inside.past c.write.new.self c.self.inside.earlier c.self.inside.room c.self.inside.failing.items c.self.inside.fuse c.self.inside.faults c.in_ok-write.ensures.ok c.self.view_is) (sym c.fails.ensures.fails ∙ c.if-fails.false)
