use Rattle.std.proofs.Common.{◌≡◌, ℕ, List, ap, sym, ◌∙◌, rules}
use Rattle.std.specs.Prelude.{Err}
use Rattle.lethe_disk.specs.declared.disk.DiskRefused.TheVariants.{NoMemory}
use Rattle.lethe_memdisk.specs.Effects.{Created}
use Rattle.lethe_memdisk.specs.Past.{with_effect}
use Rattle.lethe_memdisk.proofs.Taking.{answers_ok, answers_failed, answers_refused, held_taken, held_same}
use Rattle.lethe_memdisk.proofs.disk.MemDiskDisk.create.Goals as goal

pub returns-then-fails : goal.returns-then-fails
returns-then-fails c = answers_failed (Created c.args.name c.args.bytes.now) c.fail.result c.args.self.now c.fail.new.self c.fail.ensures.refused c.fail.ensures.failed (sym c.fails.ensures.fails ∙ c.if-fails.true) c.fail.ensures.later

pub returns-in_err-to_vec : goal.returns-in_err-to_vec
returns-in_err-to_vec c =
    let refusal : c.from_residual.result ≡ Err NoMemory = search rules in
    answers_refused (Created c.args.name c.args.bytes.now) c.from_residual.result c.args.self.now _ refusal c.self.view_is (sym c.fails.ensures.fails ∙ c.if-fails.false)

pub returns-in_err-create : goal.returns-in_err-create
returns-in_err-create c =
    let refusal : c.from_residual-in_err-create.result ≡ Err NoMemory = search rules in
    answers_refused (Created c.args.name c.args.bytes.now) c.from_residual-in_err-create.result c.args.self.now _ refusal (held_same c.args.self.now c.self.inside.past c.create.new.self c.self.inside.earlier c.self.inside.room c.self.inside.failing.items c.self.inside.fuse c.self.inside.faults c.in_err-create.ensures.err c.self.view_is) (sym c.fails.ensures.fails ∙ c.if-fails.false)

pub returns : goal.returns
returns c =
    let copy : c.in_ok-to_vec.field-0.items ≡ c.args.bytes.now = search rules in
    let did = c.in_ok-create.ensures.ok ∙ ap (λ (b : List ℕ). with_effect (Created c.args.name b) c.self.inside.past) copy in
    answers_ok (Created c.args.name c.args.bytes.now) c.args.self.now _ tt (held_taken (Created c.args.name c.args.bytes.now) c.args.self.now c.self.inside.past c.create.new.self c.self.inside.earlier c.self.inside.room c.self.inside.failing.items c.self.inside.fuse c.self.inside.faults did c.self.view_is) (sym c.fails.ensures.fails ∙ c.if-fails.false)
