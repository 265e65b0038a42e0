use Rattle.std.proofs.Common.{◌≡◌, refl, sym, ◌∙◌, rules}
use Rattle.std.specs.Prelude.{Err}
use Rattle.lethe_disk.specs.declared.disk.DiskRefused.TheVariants.{NoMemory}
use Rattle.lethe_memdisk.specs.Effects.{Nothing}
use Rattle.lethe_memdisk.proofs.Taking.{answers_ok, answers_failed, answers_refused, held_taken}
use Rattle.lethe_memdisk.proofs.disk.MemDiskDisk.read.Goals as goal

pub returns-then-fails-clause-call : goal.returns-then-fails-clause-call
returns-then-fails-clause-call c = answers_failed Nothing c.fail.result c.args.self.now c.fail.new.self c.fail.ensures.refused c.fail.ensures.failed (sym c.fails.ensures.fails ∙ c.if-fails.true) c.fail.ensures.later

pub returns-in_err-bytes-clause-call : goal.returns-in_err-bytes-clause-call
returns-in_err-bytes-clause-call c =
    let refusal : c.from_residual.result ≡ Err NoMemory = search rules in
    answers_refused Nothing c.from_residual.result c.args.self.now _ refusal refl (sym c.fails.ensures.fails ∙ c.if-fails.false)

pub returns-clause-call : goal.returns-clause-call
returns-clause-call c = answers_ok Nothing c.args.self.now _ c.in_ok-bytes.bytes (held_taken Nothing c.args.self.now c.self.inside.past c.nothing.new.self c.self.inside.earlier c.self.inside.room c.self.inside.failing.items c.self.inside.fuse c.self.inside.faults c.nothing.ensures c.self.view_is) (sym c.fails.ensures.fails ∙ c.if-fails.false)
