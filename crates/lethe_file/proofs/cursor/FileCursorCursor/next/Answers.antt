use Rattle.std.proofs.Common.{◌≡◌, ℕ, Option, Result, Ok, Err, ⊎_elim, inl, inr, sym, subst}
use Rattle.std.specs.Prelude.{IsErrAnd}
use Rattle.lethe_base.specs.declared.entry.Entry.{Entry}
use Rattle.lethe_disk.specs.Reads.{HasReadCause}
use Rattle.lethe_disk.specs.declared.cursor.ReadRefused.{ReadRefused}
use Rattle.lethe_disk.proofs.Causes.{cause_as}
use Rattle.lethe_file.specs.Damage.{gives_in}
use Rattle.lethe_file.proofs.Vouching.{last_given, others_given}
use Rattle.lethe_file.proofs.cursor.FileCursorCursor.next.Goals as goal

-- the same refusal, handed on by a `?`
handed_on : (old new : ℕ) (result : Result (Option Entry) ReadRefused) (why : ReadRefused) → IsErrAnd result (λ e. e ≡ why) → HasReadCause {T = Unit {0}} old new (Err why) → HasReadCause {T = Option Entry} old new result
handed_on old new (Ok next) why is cause = absurd is
handed_on old new (Err other) why is cause = subst (λ (w : ReadRefused). HasReadCause {T = Option Entry} old new (Err w)) (sym is) (cause_as {T = Unit {0}} {U = Option Entry} old new why cause)

pub returns-in_err-fill-clause-cause : goal.returns-in_err-fill-clause-cause
returns-in_err-fill-clause-cause g c = handed_on (g.D.Disk.port_faults c.args.port.now) (g.D.Disk.port_faults c.fill.new.port) c.from_residual.result c.in_err-fill.field-0.0 c.from_residual.ensures.1 c.in_err-fill.ensures.cause

pub returns-clause-among : goal.returns-clause-among
returns-clause-among g c =
    last_given c.fill.new.unread.entries.items c.pop.new.self.items c.pop.result c.pop.ensures.items (gives_in g.D.Disk.page_bytes c.args.self.now.unread) (λ entry has. c.fill.ensures.given entry (inl has))

pub returns-clause-no_more : goal.returns-clause-no_more
returns-clause-no_more g c = λ entry may. c.fill.ensures.given entry
    (⊎_elim (λ has. inl (others_given c.fill.new.unread.entries.items c.pop.new.self.items c.pop.result c.pop.ensures.items entry has)) (λ some. inr some) may)
