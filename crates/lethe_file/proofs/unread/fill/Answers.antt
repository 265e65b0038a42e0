use Rattle.std.proofs.Common.{◌≡◌, ◌-◌, ℕ, arith, [], Vec, Result, Err, Some, length, take, reverse, ⊎_elim, inl, inr, ap, refl, sym, subst, ◌∙◌}
use Rattle.std.specs.Prelude.{Any, slice_get}
use Rattle.std.proofs.lemmas.Bool.{eqb-true}
use Rattle.std.specs.declared.alloc.Global.{Global}
use Rattle.lethe_base.specs.Entries.{IsAscending}
use Rattle.lethe_base.specs.declared.entry.Entry.{Entry}
use Rattle.lethe_disk.specs.Reads.{HasReadCause}
use Rattle.lethe_disk.specs.declared.cursor.ReadRefused.{ReadRefused}
use Rattle.lethe_header.proofs.Parts.{empty_is}
use Rattle.lethe_file.specs.Damage.{IsDamagedIn, IsVouchedIn}
use Rattle.lethe_disk.specs.Reads.{refused_since}
use Rattle.lethe_file.specs.Waiting.{of_waiting, waiting, waits_in}
use Rattle.lethe_file.specs.declared.range.KeyRange.{KeyRange}
use Rattle.lethe_file.proofs.Filling.{filling_fewer, filling_none, refused_at_most, refused_damage, refused_written, turn}
use Rattle.lethe_disk.proofs.Causes.{cause_since, damage_since}
use Rattle.lethe_file.proofs.unread.fill.Goals as goal

abbrev refused : ReadRefused → Result (Unit {0}) ReadRefused
refused why = Err why

pub loop-alloc-init : goal.loop-alloc-init
loop-alloc-init g c = (refl, filling_none g.S.PageSource.tells c.args.unread.now.range.lo c.args.unread.now.range.hi (waiting g.S.PageSource.page_bytes c.args.unread.now.tiles.items) c.args.unread.now.entries.items (g.S.PageSource.fetches c.args.port.now) (g.S.PageSource.port_faults c.args.port.now), λ entry has. inl has)

pub loop-alloc-preserved-in-Ok : goal.loop-alloc-preserved-in-Ok
loop-alloc-preserved-in-Ok g c =
    let lo = c.args.unread.now.range.lo in
    let hi = c.args.unread.now.range.hi in
    let tiles = c.loop-alloc.unread.tiles.items in
    let tile = c.items.result.now in
    let entries = c.loop-alloc.unread.entries in
    let at = ap Some c.items.ensures ∙ c.in-Some.ensures.value ∙ ap (λ l. slice_get l (length l - 1)) c.deref.ensures.value in
    let none : entries.items ≡ [] = empty_is entries.items (sym entries.ok.0 ∙ eqb-true entries.len 0 (sym c.loop-alloc-test.ensures)) in
    let popped = c.pop.ensures.rest ∙ ap (λ n. take (n - 1) tiles) c.loop-alloc.unread.tiles.ok.0 in
    let given = subst (λ (r : KeyRange). g.S.PageSource.tells → IsAscending (of_waiting r.lo r.hi (waits_in g.S.PageSource.page_bytes tile)) → reverse c.in-Ok.entries.items ≡ of_waiting r.lo r.hi (waits_in g.S.PageSource.page_bytes tile)) c.loop-alloc.invariant.0 c.in-Ok.ensures.given in (
      c.loop-alloc.invariant.0,
      turn g.S.PageSource.page_bytes g.S.PageSource.tells lo hi (waiting g.S.PageSource.page_bytes c.args.unread.now.tiles.items) c.args.unread.now.entries.items tiles entries.items
          (g.S.PageSource.fetches c.args.port.now) (g.S.PageSource.fetches c.loop-alloc.port) (g.S.PageSource.port_faults c.args.port.now) (g.S.PageSource.port_faults c.loop-alloc.port) c.loop-alloc.invariant.1 tile at
          c.pop.new.self.items c.in-Ok.entries.items (g.S.PageSource.fetches c.fetch_tile.new.port) (g.S.PageSource.port_faults c.fetch_tile.new.port) popped none c.in-Ok.ensures.fetches c.in-Ok.ensures.cause.later given,
      λ entry has. inr (refused_damage g.S.PageSource.page_bytes g.S.PageSource.tells lo hi (waiting g.S.PageSource.page_bytes c.args.unread.now.tiles.items) c.args.unread.now.entries.items tiles entries.items
          (g.S.PageSource.fetches c.args.port.now) (g.S.PageSource.fetches c.loop-alloc.port) (g.S.PageSource.port_faults c.args.port.now) (g.S.PageSource.port_faults c.loop-alloc.port) c.loop-alloc.invariant.1 tile at
          (IsVouchedIn entry) (c.in-Ok.ensures.vouched entry has)),
    )

pub loop-alloc-preserved : goal.loop-alloc-preserved
loop-alloc-preserved g c =
    let lo = c.args.unread.now.range.lo in
    let hi = c.args.unread.now.range.hi in
    let tiles = c.loop-alloc.unread.tiles.items in
    let tile = c.items.result.now in
    let entries = c.loop-alloc.unread.entries in
    let at = ap Some c.items.ensures ∙ c.in-Some.ensures.value ∙ ap (λ l. slice_get l (length l - 1)) c.deref.ensures.value in
    let none : entries.items ≡ [] = empty_is entries.items (sym entries.ok.0 ∙ eqb-true entries.len 0 (sym c.loop-alloc-test.ensures)) in
    let popped = c.pop.ensures.rest ∙ ap (λ n. take (n - 1) tiles) c.loop-alloc.unread.tiles.ok.0 in
    let given = subst (λ (r : KeyRange). g.S.PageSource.tells → IsAscending (of_waiting r.lo r.hi (waits_in g.S.PageSource.page_bytes tile)) → reverse c.in-Ok.entries.items ≡ of_waiting r.lo r.hi (waits_in g.S.PageSource.page_bytes tile)) c.loop-alloc.invariant.0 c.in-Ok.ensures.given in (
      c.loop-alloc.invariant.0,
      turn g.S.PageSource.page_bytes g.S.PageSource.tells lo hi (waiting g.S.PageSource.page_bytes c.args.unread.now.tiles.items) c.args.unread.now.entries.items tiles entries.items
          (g.S.PageSource.fetches c.args.port.now) (g.S.PageSource.fetches c.loop-alloc.port) (g.S.PageSource.port_faults c.args.port.now) (g.S.PageSource.port_faults c.loop-alloc.port) c.loop-alloc.invariant.1 tile at
          c.pop.new.self.items c.in-Ok.entries.items (g.S.PageSource.fetches c.fetch_tile.new.port) (g.S.PageSource.port_faults c.fetch_tile.new.port) popped none c.in-Ok.ensures.fetches c.in-Ok.ensures.cause.later given,
      λ entry has. inr (refused_damage g.S.PageSource.page_bytes g.S.PageSource.tells lo hi (waiting g.S.PageSource.page_bytes c.args.unread.now.tiles.items) c.args.unread.now.entries.items tiles entries.items
          (g.S.PageSource.fetches c.args.port.now) (g.S.PageSource.fetches c.loop-alloc.port) (g.S.PageSource.port_faults c.args.port.now) (g.S.PageSource.port_faults c.loop-alloc.port) c.loop-alloc.invariant.1 tile at
          (IsVouchedIn entry) (c.in-Ok.ensures.vouched entry has)),
    )

pub returns-in-Err-clause-at_most : goal.returns-in-Err-clause-at_most
returns-in-Err-clause-at_most g c =
    let at = ap Some c.items.ensures ∙ c.in-Some.ensures.value ∙ ap (λ l. slice_get l (length l - 1)) c.deref.ensures.value in
    refused_at_most g.S.PageSource.page_bytes g.S.PageSource.tells c.args.unread.now.range.lo c.args.unread.now.range.hi (waiting g.S.PageSource.page_bytes c.args.unread.now.tiles.items) c.args.unread.now.entries.items c.loop-alloc.unread.tiles.items c.loop-alloc.unread.entries.items
    (g.S.PageSource.fetches c.args.port.now) (g.S.PageSource.fetches c.loop-alloc.port) (g.S.PageSource.port_faults c.args.port.now) (g.S.PageSource.port_faults c.loop-alloc.port) c.loop-alloc.invariant.1 c.items.result.now at
    (g.S.PageSource.fetches c.fetch_tile.new.port) c.fetch_tile.ensures.at_most

pub returns-in-Err-clause-damaged : goal.returns-in-Err-clause-damaged
returns-in-Err-clause-damaged g c = λ name e.
    let at = ap Some c.items.ensures ∙ c.in-Some.ensures.value ∙ ap (λ l. slice_get l (length l - 1)) c.deref.ensures.value in
    let named = c.in-Err.ensures.damaged name (damage_since {T = Vec Entry Global} {U = Unit {0}} c.count_faults-before.result c.in-Err.why name (ap refused (sym c.since.ensures) ∙ e)) in
    let page = refused_damage g.S.PageSource.page_bytes g.S.PageSource.tells c.args.unread.now.range.lo c.args.unread.now.range.hi
    (waiting g.S.PageSource.page_bytes c.args.unread.now.tiles.items) c.args.unread.now.entries.items c.loop-alloc.unread.tiles.items c.loop-alloc.unread.entries.items
    (g.S.PageSource.fetches c.args.port.now) (g.S.PageSource.fetches c.loop-alloc.port) (g.S.PageSource.port_faults c.args.port.now) (g.S.PageSource.port_faults c.loop-alloc.port)
    c.loop-alloc.invariant.1 c.items.result.now at (IsDamagedIn g.S.PageSource.tells name) named.0 in
    (page, omega (arith, c.loop-alloc.invariant.1.counted, named.1))

pub returns-in-Err-clause-fewer : goal.returns-in-Err-clause-fewer
returns-in-Err-clause-fewer g c = λ name some. filling_fewer c.loop-alloc.invariant.1 (Any (IsDamagedIn g.S.PageSource.tells name)) some

pub returns-clause-fewer : goal.returns-clause-fewer
returns-clause-fewer g c = λ name some. filling_fewer c.loop-alloc.invariant.1 (Any (IsDamagedIn g.S.PageSource.tells name)) some

pub returns-in-Err-clause-undamaged : goal.returns-in-Err-clause-undamaged
returns-in-Err-clause-undamaged g c = λ sound name e.
    let at = ap Some c.items.ensures ∙ c.in-Some.ensures.value ∙ ap (λ l. slice_get l (length l - 1)) c.deref.ensures.value in
    let written = refused_written g.S.PageSource.page_bytes g.S.PageSource.tells c.args.unread.now.range.lo c.args.unread.now.range.hi (waiting g.S.PageSource.page_bytes c.args.unread.now.tiles.items) c.args.unread.now.entries.items c.loop-alloc.unread.tiles.items c.loop-alloc.unread.entries.items
    (g.S.PageSource.fetches c.args.port.now) (g.S.PageSource.fetches c.loop-alloc.port) (g.S.PageSource.port_faults c.args.port.now) (g.S.PageSource.port_faults c.loop-alloc.port) c.loop-alloc.invariant.1 c.items.result.now at sound in
    c.in-Err.ensures.undamaged sound.told written name (damage_since {T = Vec Entry Global} {U = Unit {0}} c.count_faults-before.result c.in-Err.why name (ap refused (sym c.since.ensures) ∙ e))

pub returns-in-Err-clause-cause : goal.returns-in-Err-clause-cause
returns-in-Err-clause-cause g c =
    let cause = cause_since {T = Vec Entry Global} {U = Unit {0}} (g.S.PageSource.port_faults c.args.port.now) (g.S.PageSource.port_faults c.loop-alloc.port) (g.S.PageSource.port_faults c.fetch_tile.new.port) c.in-Err.why c.loop-alloc.invariant.1.risen c.in-Err.ensures.cause in
    subst (λ (why : ReadRefused). HasReadCause {T = Unit {0}} (g.S.PageSource.port_faults c.args.port.now) (g.S.PageSource.port_faults c.fetch_tile.new.port) (Err why))
    (ap (λ (n : ℕ). refused_since n c.in-Err.why) (sym c.count_faults-before.ensures) ∙ sym c.since.ensures) cause

pub returns-in-Err-clause-given : goal.returns-in-Err-clause-given
returns-in-Err-clause-given g c = λ entry may. ⊎_elim (λ has. c.loop-alloc.invariant.2 entry has) (λ some. inr (filling_fewer c.loop-alloc.invariant.1 (Any (IsVouchedIn entry)) some)) may

pub returns-clause-given : goal.returns-clause-given
returns-clause-given g c = λ entry may. ⊎_elim (λ has. c.loop-alloc.invariant.2 entry has) (λ some. inr (filling_fewer c.loop-alloc.invariant.1 (Any (IsVouchedIn entry)) some)) may
