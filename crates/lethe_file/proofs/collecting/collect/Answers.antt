use Rattle.std.proofs.Common.{rules, ◌≡◌, ◌+◌, ◌++◌, List, Vec, Result, Err, arith, ap, sym, subst, ◌∙◌}
use Rattle.std.specs.Prelude.{Contains}
use Rattle.std.specs.declared.alloc.Global.{Global}
use Rattle.lethe_base.specs.declared.entry.Entry.{Entry}
use Rattle.lethe_disk.specs.Reads.{HasReadCause, IsFault}
use Rattle.lethe_disk.specs.declared.cursor.ReadRefused.{ReadRefused}
use Rattle.lethe_file.specs.Agreement.{entries_in}
use Rattle.lethe_disk.specs.Reads.{refused_since}
use Rattle.lethe_file.proofs.Damaged.{held_damage}
use Rattle.lethe_file.proofs.Held.{IsCollected, collected_more, written_at}
use Rattle.lethe_disk.proofs.Causes.{cause_since, damage_since, fault_since}
use Rattle.lethe_file.proofs.collecting.collect.Goals as goal

abbrev refused : ReadRefused → Result (Vec Entry Global) ReadRefused
refused why = Err why

pub loop-held-init : goal.loop-held-init
loop-held-init g c = record {
  risen = omega arith;
  counted = omega arith;
  given = λ told. search rules;
  vouched = λ entry has. absurd (let none = subst (λ (es : List Entry). Contains es entry) c.new-all.ensures.items has in omega (arith, none.1));
}

pub loop-held-preserved : goal.loop-held-preserved
loop-held-preserved g c =
    let all : c.append.new.self.items ≡ c.loop-held.all.items ++ c.keep_in.new.entries.items = c.in_ok-append-in-Ok.ensures.items in
    subst (λ (es : List Entry). IsCollected g.S.PageSource.page_bytes g.S.PageSource.tells c.args.range.now.lo c.args.range.now.hi c.args.pages.now (c.loop-held.held-index + 1) es
    (g.S.PageSource.fetches c.args.port.now) (g.S.PageSource.fetches c.fetch_checked.new.port) (g.S.PageSource.port_faults c.args.port.now) (g.S.PageSource.port_faults c.fetch_checked.new.port)) (sym all)
    (collected_more g.S.PageSource.page_bytes g.S.PageSource.tells c.args.range.now.lo c.args.range.now.hi c.args.pages.now c.loop-held.held-index c.loop-held.all.items c.keep_in.new.entries.items c.in-Ok.entries.items
    (g.S.PageSource.fetches c.args.port.now) (g.S.PageSource.fetches c.loop-held.port) (g.S.PageSource.fetches c.fetch_checked.new.port)
    (g.S.PageSource.port_faults c.args.port.now) (g.S.PageSource.port_faults c.loop-held.port) (g.S.PageSource.port_faults c.fetch_checked.new.port) c.held-item.result
    c.loop-held.invariant c.loop-held-test.true c.held-item.is c.fetch_checked.ensures.fetches c.fetch_checked.ensures.cause.later c.in-Ok.ensures.page
    (λ told. sym (ap g.S.PageSource.page_bytes c.deref.ensures) ∙ c.in-Ok.ensures.told told) c.keep_in.ensures)

pub returns-in-Err-clause-damaged : goal.returns-in-Err-clause-damaged
returns-in-Err-clause-damaged g c = λ name e.
    let named = c.in-Err.ensures.damaged name (damage_since {T = Vec Entry Global} {U = Vec Entry Global} c.count_faults-before.result c.in-Err.why name (ap refused (sym c.since.ensures) ∙ e)) in
    let damage = held_damage g.S.PageSource.page_bytes g.S.PageSource.tells name c.args.pages.now c.loop-held.held-index c.held-item.result (g.S.PageSource.page_bytes c.deref.result.now)
    c.loop-held-test.true c.held-item.is (ap g.S.PageSource.page_bytes c.deref.ensures) named in
    (damage, omega (arith, c.loop-held.invariant.counted, c.fetch_checked.ensures.fetches))

pub returns-in-Err-clause-undamaged : goal.returns-in-Err-clause-undamaged
returns-in-Err-clause-undamaged g c = λ told each name e.
    let page = written_at g.S.PageSource.page_bytes c.args.pages.now c.loop-held.held-index c.held-item.result (g.S.PageSource.page_bytes c.deref.result.now) each c.loop-held-test.true c.held-item.is (ap g.S.PageSource.page_bytes c.deref.ensures) in
    c.in-Err.ensures.undamaged told (entries_in (g.S.PageSource.page_bytes c.deref.result.now)) page.checked page.spelled name
    (damage_since {T = Vec Entry Global} {U = Vec Entry Global} c.count_faults-before.result c.in-Err.why name (ap refused (sym c.since.ensures) ∙ e))

pub returns-in-Err-clause-cause : goal.returns-in-Err-clause-cause
returns-in-Err-clause-cause g c =
    let cause = cause_since {T = Vec Entry Global} {U = Vec Entry Global} (g.S.PageSource.port_faults c.args.port.now) (g.S.PageSource.port_faults c.loop-held.port) (g.S.PageSource.port_faults c.fetch_checked.new.port) c.in-Err.why c.loop-held.invariant.risen c.in-Err.ensures.cause in
    subst (λ (why : ReadRefused). HasReadCause {T = Vec Entry Global} (g.S.PageSource.port_faults c.args.port.now) (g.S.PageSource.port_faults c.fetch_checked.new.port) (Err why))
    (ap (λ n. refused_since n c.in-Err.why) (sym c.count_faults-before.ensures) ∙ sym c.since.ensures) cause

pub returns-in-Err-clause-can_fail : goal.returns-in-Err-clause-can_fail
returns-in-Err-clause-can_fail g c = λ fault.
    c.in-Err.ensures.can_fail (fault_since {T = Vec Entry Global} {U = Vec Entry Global} c.count_faults-before.result c.in-Err.why (subst (λ (why : ReadRefused). IsFault {T = Vec Entry Global} (Err why)) c.since.ensures fault))
