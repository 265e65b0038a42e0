use Rattle.std.proofs.Common.{◌≡◌, ◌<◌, ◌≤◌, ℕ, List, Vec, Result, Err, length, map, arith, ap, sym, subst, ◌∙◌}
use Rattle.std.specs.Prelude.{Some, slice_get}
use Rattle.std.proofs.lemmas.List.{length-map}
use Rattle.std.specs.declared.alloc.Global.{Global}
use Rattle.lethe_base.specs.declared.entry.Entry.{Entry}
use Rattle.lethe_disk.specs.Reads.{HasReadCause, IsFault, refused_since}
use Rattle.lethe_disk.specs.declared.cursor.ReadRefused.{ReadRefused}
use Rattle.lethe_disk.proofs.Causes.{cause_since, damage_since, fault_since}
use Rattle.lethe_header.specs.Facts.{lines_of}
use Rattle.lethe_header.specs.declared.header.PageLine.{PageLine}
use Rattle.lethe_file.specs.Agreement.{entries_in}
use Rattle.lethe_file.specs.Damage.{IsDamagedAs}
use Rattle.lethe_file.specs.declared.view.FileView.{FileView}
use Rattle.lethe_version.specs.Versions.{bytes_of}
use Rattle.lethe_job.specs.Tasks.{plain_file}
use Rattle.lethe_job.proofs.Adding.{file_many, file_read, page_damaged, page_read}
use Rattle.lethe_job.proofs.reading.add_file.Goals as goal

abbrev refused : ReadRefused → Result (Unit {0}) ReadRefused
refused why = Err why

pub loop-place-preserved : goal.loop-place-preserved
loop-place-preserved g c =
    let file = c.args.filed.now.file.file.value in
    let same = c.file-file.ensures in
    let lines : lines_of c.file-file.result.now.header.tiles ≡ lines_of file.header.tiles = ap (λ (f : FileView g.row.D.Denot g.row.D-Page.Denot g.row.D-Port.Denot g.D.Disk). lines_of f.header.tiles) same in
    let many : length c.file-file.result.now.pages.items ≡ length file.pages.items = ap (λ (f : FileView g.row.D.Denot g.row.D-Page.Denot g.row.D-Port.Denot g.D.Disk). length f.pages.items) same in
    let inside : c.loop-place.place < length (lines_of file.header.tiles) = omega (arith, c.loop-place-test.true, c.count_pages-place-end.ensures, many, file.paged) in
    let paged : length (bytes_of file) ≡ length (lines_of file.header.tiles) = length-map file.pages.items (λ page. g.D.Disk.page_bytes page.value) ∙ file.paged in
    let told : g.D.Disk.tells → slice_get (map entries_in (bytes_of file)) c.loop-place.place ≡ Some c.in-Ok.fetched.items =
    λ tells. ap (λ (f : FileView g.row.D.Denot g.row.D-Page.Denot g.row.D-Port.Denot g.D.Disk). slice_get (map entries_in (bytes_of f)) c.loop-place.place) (sym same) ∙ c.in-Ok.ensures.told tells in
    page_read g.D.Disk.tells (lines_of file.header.tiles) (bytes_of file) c.args.entries.now.items c.loop-place.entries.items c.append.new.self.items c.in-Ok.fetched.items c.loop-place.place
    (g.D.Disk.fetches c.args.port.now) (g.D.Disk.fetches c.loop-place.port) (g.D.Disk.fetches c.fetch_page.new.port)
    (g.D.Disk.port_faults c.args.port.now) (g.D.Disk.port_faults c.loop-place.port) (g.D.Disk.port_faults c.fetch_page.new.port)
    c.loop-place.invariant inside paged (λ line there. c.in-Ok.ensures.page line (ap (λ (ls : List PageLine). slice_get ls c.loop-place.place) lines ∙ there)) told
    c.fetch_page.ensures.fetches c.fetch_page.ensures.cause.later c.in_ok-append-in-Ok.ensures.items

pub returns-clause-given : goal.returns-clause-given
returns-clause-given g c = λ told.
    let file = c.args.filed.now.file.file.value in
    let many : length c.file-file.result.now.pages.items ≡ length file.pages.items = ap (λ (f : FileView g.row.D.Denot g.row.D-Page.Denot g.row.D-Port.Denot g.D.Disk). length f.pages.items) c.file-file.ensures in
    let all : length (bytes_of file) ≡ length file.pages.items = length-map file.pages.items (λ page. g.D.Disk.page_bytes page.value) in
    let past : length (bytes_of file) ≤ c.loop-place.place = omega (arith, c.loop-place-test.false, c.count_pages-place-end.ensures, many, all) in
    file_read g.D.Disk.tells (plain_file c.args.filed.now) c.args.entries.now.items c.loop-place.entries.items c.loop-place.place
    (g.D.Disk.fetches c.args.port.now) (g.D.Disk.fetches c.loop-place.port) (g.D.Disk.port_faults c.args.port.now) (g.D.Disk.port_faults c.loop-place.port)
    c.loop-place.invariant (all ∙ file.paged) past told

pub returns-clause-counted : goal.returns-clause-counted
returns-clause-counted g c =
    let file = c.args.filed.now.file.file.value in
    let many : length c.file-file.result.now.pages.items ≡ length file.pages.items = ap (λ (f : FileView g.row.D.Denot g.row.D-Page.Denot g.row.D-Port.Denot g.D.Disk). length f.pages.items) c.file-file.ensures in
    file_many g.D.Disk.tells (plain_file c.args.filed.now) c.args.entries.now.items c.loop-place.entries.items c.loop-place.place
    (g.D.Disk.fetches c.args.port.now) (g.D.Disk.fetches c.loop-place.port) (g.D.Disk.port_faults c.args.port.now) (g.D.Disk.port_faults c.loop-place.port)
    c.loop-place.invariant (omega (arith, c.loop-place-test.false, c.count_pages-place-end.ensures, many, file.paged))

pub returns-in-Err-clause-damaged : goal.returns-in-Err-clause-damaged
returns-in-Err-clause-damaged g c = λ name e.
    let file = c.args.filed.now.file.file.value in
    let same = c.file-file.ensures in
    let lines : lines_of c.file-file.result.now.header.tiles ≡ lines_of file.header.tiles = ap (λ (f : FileView g.row.D.Denot g.row.D-Page.Denot g.row.D-Port.Denot g.D.Disk). lines_of f.header.tiles) same in
    let many : length c.file-file.result.now.pages.items ≡ length file.pages.items = ap (λ (f : FileView g.row.D.Denot g.row.D-Page.Denot g.row.D-Port.Denot g.D.Disk). length f.pages.items) same in
    let inside : c.loop-place.place < length (lines_of file.header.tiles) = omega (arith, c.loop-place-test.true, c.count_pages-place-end.ensures, many, file.paged) in
    let paged : length (bytes_of file) ≡ length (lines_of file.header.tiles) = length-map file.pages.items (λ page. g.D.Disk.page_bytes page.value) ∙ file.paged in
    let damaged = page_damaged (plain_file c.args.filed.now) c.loop-place.place (λ (of : PageLine × List ℕ). IsDamagedAs g.D.Disk.tells name of.0 of.1) inside paged
    (λ line bytes there at. c.in-Err.ensures.damaged line bytes (ap (λ (ls : List PageLine). slice_get ls c.loop-place.place) lines ∙ there)
    (ap (λ (f : FileView g.row.D.Denot g.row.D-Page.Denot g.row.D-Port.Denot g.D.Disk). slice_get (bytes_of f) c.loop-place.place) same ∙ at) name
    (damage_since {T = Vec Entry Global} {U = Unit {0}} c.port_faults-before.result c.in-Err.why name (ap refused (sym c.since.ensures) ∙ e))) in
    (damaged, omega (arith, c.loop-place.invariant.counted, c.fetch_page.ensures.fetches))

pub returns-in-Err-clause-cause : goal.returns-in-Err-clause-cause
returns-in-Err-clause-cause g c =
    let cause = cause_since {T = Vec Entry Global} {U = Unit {0}} (g.D.Disk.port_faults c.args.port.now) (g.D.Disk.port_faults c.loop-place.port) (g.D.Disk.port_faults c.fetch_page.new.port) c.in-Err.why c.loop-place.invariant.risen c.in-Err.ensures.cause in
    subst (λ (why : ReadRefused). HasReadCause {T = Unit {0}} (g.D.Disk.port_faults c.args.port.now) (g.D.Disk.port_faults c.fetch_page.new.port) (Err why))
    (ap (λ (n : ℕ). refused_since n c.in-Err.why) (sym c.port_faults-before.ensures) ∙ sym c.since.ensures) cause

pub returns-in-Err-clause-can_fail : goal.returns-in-Err-clause-can_fail
returns-in-Err-clause-can_fail g c = λ fault.
    c.in-Err.ensures.can_fail (fault_since {T = Vec Entry Global} {U = Unit {0}} c.port_faults-before.result c.in-Err.why (subst (λ (why : ReadRefused). IsFault {T = Unit {0}} (Err why)) c.since.ensures fault))
