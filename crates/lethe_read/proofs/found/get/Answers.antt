use Rattle.std.proofs.Common.{◌≡◌, Option, Some, ap, subst, ◌∙◌}
use Rattle.std.specs.Prelude.{IfSome}
use Rattle.std.specs.Option.{option_copied}
use Rattle.lethe_base.specs.declared.entry.Entry.{Entry}
use Rattle.lethe_disk.proofs.Causes.{cause_as}
use Rattle.lethe_version.specs.Versions.{IsVouchedBy}
use Rattle.lethe_read.specs.Found.{frozen_entries}
use Rattle.lethe_read.proofs.Backed.{backed_buffered, backed_filed}
use Rattle.lethe_read.proofs.found.get.Goals as goal

pub returns-in-Err-clause-cause : goal.returns-in-Err-clause-cause
returns-in-Err-clause-cause g c = cause_as (g.D.Disk.port_faults c.args.port.now) (g.D.Disk.port_faults c.find.new.port) c.in-Err.why c.in-Err.ensures.cause

pub returns-in-Some-clause-backed : goal.returns-in-Some-clause-backed
returns-in-Some-clause-backed g c =
    backed_buffered c.args.key.now (g.B.Buffer.entries c.args.active.now) (frozen_entries g.B.Buffer.entries (option_copied c.args.frozen)) (IsVouchedBy c.args.version.now)
    c.args.erases.now c.in_ok-copy.field-0 c.held_by.result c.held_by.ensures (ap (λ (entry : Entry). let o : Option Entry = Some entry in o) c.in_ok-copy.ensures ∙ c.in-Some.ensures)

pub returns-in-Ok-Some-clause-backed : goal.returns-in-Ok-Some-clause-backed
returns-in-Ok-Some-clause-backed g c =
    backed_filed c.args.key.now (g.B.Buffer.entries c.args.active.now) (frozen_entries g.B.Buffer.entries (option_copied c.args.frozen)) (IsVouchedBy c.args.version.now)
    c.args.erases.now c.in-Ok-Some.entry c.held_by-in-Ok-Some.result c.held_by-in-Ok-Some.ensures
    (subst (λ (o : Option Entry). IfSome o (λ entry. (entry.key ≡ c.args.key.now) × IsVouchedBy c.args.version.now entry)) c.in-Ok-Some.field-0-is c.in-Ok-Some.ensures.vouched)
