use Rattle.std.proofs.Common.{◌≡◌, ◌+◌, ◌≤◌, ◌∷◌, [], ℕ, get_or, Option, Result, Err, arith, ap, sym, subst, ◌∙◌}
use Rattle.lethe_base.specs.declared.entry.Entry.{Entry}
use Rattle.lethe_disk.specs.Reads.{HasReadCause}
use Rattle.lethe_disk.specs.declared.cursor.ReadRefused.{ReadRefused}
use Rattle.lethe_header.specs.declared.header.PageLine.{PageLine}
use Rattle.lethe_file.specs.Agreement.{entries_in}
use Rattle.lethe_disk.specs.Reads.{refused_since}
use Rattle.lethe_disk.proofs.Causes.{cause_since, damage_since}
use Rattle.std.specs.Prelude.{IfSome, IsTrue}
use Rattle.lethe_file.specs.Damage.{IsDamagedAs, IsVouched}
use Rattle.lethe_file.specs.Finding.{IsEntryOf, allowed_in, allows}
use Rattle.lethe_file.proofs.Damaged.{vouched_here, zip_here}
use Rattle.lethe_file.proofs.Pages.{agrees_here, all_lack, allowed_more, allowed_upto, found_here, lacks_here, searched_more}
use Rattle.lethe_file.proofs.finding.find_in.Goals as goal

pub returns-in-Ok-Some-clause-found : goal.returns-in-Ok-Some-clause-found
returns-in-Ok-Some-clause-found g c = λ told agree.
    found_here (λ page. g.D.Disk.page_bytes page.value) c.args.key.now c.args.lines.now c.args.pages.now c.loop-place.place c.index-lines-place.result c.index-pages-place.result (g.D.Disk.page_bytes c.deref.result.now)
    c.index-lines-place.is c.index-pages-place.is (ap g.D.Disk.page_bytes c.deref.ensures) c.loop-place-test.true c.requires agree c.in-Ok-Some.entry (λ agrees. subst (IsEntryOf c.args.key.now (entries_in (g.D.Disk.page_bytes c.deref.result.now) ∷ [])) c.in-Ok-Some.field-0-is (c.in-Ok-Some.ensures.found told agrees))

pub returns-in-Ok-Some-clause-fetches : goal.returns-in-Ok-Some-clause-fetches
returns-in-Ok-Some-clause-fetches g c =
    let key = c.args.key.now in
    let lines = c.args.lines.now in
    let line = c.index-lines-place.result in
    let same = ap (λ (l : PageLine). allowed_in key (l ∷ [])) c.index-lines-place.is in
    let more = allowed_more key lines c.loop-place.place line c.loop-place-test.true in
    let all = allowed_upto key lines (c.loop-place.place + 1) in
    omega (arith, c.look.ensures.fetches, c.loop-place.invariant.at_most, same, more, all)

pub returns-in-Err-clause-fetches : goal.returns-in-Err-clause-fetches
returns-in-Err-clause-fetches g c =
    let key = c.args.key.now in
    let lines = c.args.lines.now in
    let line = c.index-lines-place.result in
    let same = ap (λ (l : PageLine). allowed_in key (l ∷ [])) c.index-lines-place.is in
    let more = allowed_more key lines c.loop-place.place line c.loop-place-test.true in
    let all = allowed_upto key lines (c.loop-place.place + 1) in
    omega (arith, c.look.ensures.fetches, c.loop-place.invariant.at_most, same, more, all)

pub returns-in-Err-clause-undamaged : goal.returns-in-Err-clause-undamaged
returns-in-Err-clause-undamaged g c = λ told agree name e.
    let agrees = agrees_here (λ page. g.D.Disk.page_bytes page.value) c.args.key.now c.args.lines.now c.args.pages.now c.loop-place.place c.index-lines-place.result c.index-pages-place.result (g.D.Disk.page_bytes c.deref.result.now) c.index-lines-place.is c.index-pages-place.is (ap g.D.Disk.page_bytes c.deref.ensures) c.loop-place-test.true c.requires agree in
    c.in-Err.ensures.undamaged told agrees name
    (damage_since {T = Option Entry} {U = Option Entry} c.port_faults-before.result c.in-Err.why name (ap (λ (why : ReadRefused). let r : Result (Option Entry) ReadRefused = Err why in r) (sym c.since.ensures) ∙ e))

pub returns-in-Err-clause-cause : goal.returns-in-Err-clause-cause
returns-in-Err-clause-cause g c =
    let before = c.port_faults-before.ensures in
    let cause = cause_since {T = Option Entry} {U = Option Entry} (g.D.Disk.port_faults c.args.port.now) (g.D.Disk.port_faults c.loop-place.port) (g.D.Disk.port_faults c.look.new.port) c.in-Err.why c.loop-place.invariant.risen c.in-Err.ensures.cause in
    subst (λ (why : ReadRefused). HasReadCause {T = Option Entry} (g.D.Disk.port_faults c.args.port.now) (g.D.Disk.port_faults c.look.new.port) (Err why))
    (ap (λ (n : ℕ). refused_since n c.in-Err.why) (sym before) ∙ sym c.since.ensures) cause

pub loop-place-preserved : goal.loop-place-preserved
loop-place-preserved g c =
    let same = ap (λ (l : PageLine). allowed_in c.args.key.now (l ∷ [])) c.index-lines-place.is in
    let few : g.D.Disk.fetches c.look.new.port ≤ g.D.Disk.fetches c.loop-place.port + allowed_in c.args.key.now (get_or c.args.lines.now c.loop-place.place c.index-lines-place.result ∷ []) = omega (arith, c.look.ensures.fetches, same) in
    searched_more (λ page. g.D.Disk.page_bytes page.value) g.D.Disk.tells c.args.key.now c.args.lines.now c.args.pages.now c.loop-place.place
    (g.D.Disk.fetches c.args.port.now) (g.D.Disk.fetches c.loop-place.port) (g.D.Disk.fetches c.look.new.port)
    (g.D.Disk.port_faults c.args.port.now) (g.D.Disk.port_faults c.loop-place.port) (g.D.Disk.port_faults c.look.new.port)
    c.index-lines-place.result c.loop-place.invariant c.loop-place-test.true few c.look.ensures.later c.look.ensures.cause.later
    (λ told agree. lacks_here (λ page. g.D.Disk.page_bytes page.value) c.args.key.now c.args.lines.now c.args.pages.now c.loop-place.place c.index-lines-place.result c.index-pages-place.result (g.D.Disk.page_bytes c.deref.result.now) c.index-lines-place.is c.index-pages-place.is (ap g.D.Disk.page_bytes c.deref.ensures) c.loop-place-test.true c.requires agree (λ agrees. subst (IsEntryOf c.args.key.now (entries_in (g.D.Disk.page_bytes c.deref.result.now) ∷ [])) c.in-Ok-None.field-0-is (c.in-Ok-None.ensures.found told agrees)))

pub returns-clause-found : goal.returns-clause-found
returns-clause-found g c = λ told agree.
    all_lack c.args.key.now (λ page. entries_in (g.D.Disk.page_bytes page.value)) c.args.pages.now (λ k d lt. c.loop-place.invariant.lacks told agree k d (omega (arith, lt, c.requires, c.loop-place-test.false)))

pub returns-in-Err-clause-damaged : goal.returns-in-Err-clause-damaged
returns-in-Err-clause-damaged g c = λ name e.
    let named = c.in-Err.ensures.damaged name (damage_since {T = Option Entry} {U = Option Entry} c.port_faults-before.result c.in-Err.why name
    (ap (λ (why : ReadRefused). let r : Result (Option Entry) ReadRefused = Err why in r) (sym c.since.ensures) ∙ e)) in
    let page = zip_here (λ page. g.D.Disk.page_bytes page.value) (λ line bytes. IsDamagedAs g.D.Disk.tells name line bytes × IsTrue (allows c.args.key.now line.filter)) c.args.lines.now c.args.pages.now
    c.loop-place.place c.index-lines-place.result c.index-pages-place.result (g.D.Disk.page_bytes c.deref.result.now)
    c.index-lines-place.is c.index-pages-place.is (ap g.D.Disk.page_bytes c.deref.ensures) c.loop-place-test.true c.requires (named.0, named.1) in
    (page, omega (arith, c.loop-place.invariant.later, named.2))

pub returns-in-Ok-Some-clause-vouched : goal.returns-in-Ok-Some-clause-vouched
returns-in-Ok-Some-clause-vouched g c =
    let has = subst (λ found. IfSome found (λ entry. (entry.key ≡ c.args.key.now) × IsVouched (c.index-lines-place.result ∷ []) entry)) c.in-Ok-Some.field-0-is c.in-Ok-Some.ensures.vouched in
    (has.0, vouched_here c.args.lines.now c.loop-place.place c.index-lines-place.result c.in-Ok-Some.entry c.index-lines-place.is c.loop-place-test.true has.1)
