use Rattle.std.proofs.Common.{sym, subst}
use Rattle.lethe_advance.specs.Shown.{parts_by_level}
use Rattle.lethe_state.specs.Records.{headers_in}
use Rattle.lethe_row.specs.Rows.{IsRecordOf}
use Rattle.lethe_row.proofs.asking.Asked.record_behind.Goals as goal

pub returns-in-Delete-clause-is : goal.returns-in-Delete-clause-is
returns-in-Delete-clause-is g c = λ then end is.
    subst (λ asked. IsRecordOf then (headers_in (parts_by_level c.args.core.now.version)) asked c.delete_record_behind.result) (sym c.in-Delete.is) (c.delete_record_behind.ensures.is then end is)

pub returns-in-Erase-clause-is : goal.returns-in-Erase-clause-is
returns-in-Erase-clause-is g c = λ then end is.
    subst (λ asked. IsRecordOf then (headers_in (parts_by_level c.args.core.now.version)) asked c.erase_record_behind.result) (sym c.in-Erase.is) (c.erase_record_behind.ensures.is then end is)
