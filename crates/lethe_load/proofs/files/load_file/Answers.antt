use Rattle.std.proofs.Common.{[], List, inl, inr, All, sym, ap, subst, ◌∙◌}
use Rattle.std.specs.Prelude.{IsSome}
use Rattle.std.specs.FinMap.{keys}
use Rattle.lethe_disk.specs.Directory.{object}
use Rattle.lethe_disk.proofs.Quieting.{quiet_then}
use Rattle.lethe_file.specs.Agreement.{page_name}
use Rattle.lethe_header.specs.Facts.{lines_of}
use Rattle.lethe_header.specs.declared.header.PageLine.{PageLine}
use Rattle.lethe_manifest.specs.declared.manifest.Cited.{Cited}
use Rattle.lethe_load.specs.Damaged.{placed_lines}
use Rattle.lethe_load.specs.Progress.{ArePages, IsBadPage, IsBadHeader, IsBadInFile}
use Rattle.lethe_load.specs.Refused.{MayFail}
use Rattle.lethe_load.proofs.Sets.{one_more}
use Rattle.lethe_load.proofs.FilesInOrder.{pages_start, file_sound, files_more, bad_header, bad_page, known_or_not}
use Rattle.lethe_load.proofs.Refusals.{err_moved, fails_so}
use Rattle.lethe_load.proofs.files.load_file.Goals as goal

pub returns-in_err-header-clause-refused : goal.returns-in_err-header-clause-refused
returns-in_err-header-clause-refused g c =
    let d = (g.D.Disk.seen c.args.disk.now).directory in
    let now = g.D.Disk.faults c.load_header.new.disk in
    err_moved c.from_residual.result c.in_err-header.field-0.0 (MayFail g.D.Disk.tells (IsBadInFile d c.args.numbers.now c.args.known.now c.args.cited.now) c.args.listing.now.faults now) c.from_residual.ensures.1
    (fails_so g.D.Disk.tells (IsBadHeader d c.args.known.now c.args.cited.now) (IsBadInFile d c.args.numbers.now c.args.known.now c.args.cited.now) c.args.listing.now.faults now c.in_err-header.field-0.0
    (λ told name bad before are. inl (bad_header d before c.args.numbers.now c.args.known.now are c.args.cited.now name bad (known_or_not c.args.known.now c.args.cited.now.no)))
    c.in_err-header.ensures.refused)

pub check_pages-requires-clause-listed : goal.check_pages-requires-clause-listed
check_pages-requires-clause-listed g c κs within = λ told. c.requires.listed told ∙ ap keys (sym (c.load_header.ensures.quiet told).directory)

pub returns-in_err-check_pages-clause-refused : goal.returns-in_err-check_pages-clause-refused
returns-in_err-check_pages-clause-refused g c =
    let d = (g.D.Disk.seen c.args.disk.now).directory in
    let mid = (g.D.Disk.seen c.load_header.new.disk).directory in
    let now = g.D.Disk.faults c.check_pages.new.disk in
    let header = c.in_ok-header.header in
    let numbers = c.args.numbers.now in
    err_moved c.from_residual-in_err-check_pages.result c.in_err-check_pages.field-0.0 (MayFail g.D.Disk.tells (IsBadInFile d numbers c.args.known.now c.args.cited.now) c.args.listing.now.faults now) c.from_residual-in_err-check_pages.ensures.1
    (fails_so g.D.Disk.tells (λ name. (before : List Cited) → ArePages mid before [] numbers → IsBadPage mid numbers.next before (placed_lines header) name) (IsBadInFile d numbers c.args.known.now c.args.cited.now) c.args.listing.now.faults now c.in_err-check_pages.field-0.0
    (λ told name bad before are.
    let here = subst (λ e. (before : List Cited) → ArePages e before [] numbers → IsBadPage e numbers.next before (placed_lines header) name) (c.load_header.ensures.quiet told).directory bad in
    inr (bad_page d before numbers c.args.known.now are c.args.cited.now name header (c.in_ok-header.ensures.found told) c.in_ok-header.ensures.new (here before (pages_start d before numbers c.args.known.now are c.args.cited.now))))
    c.in_err-check_pages.ensures.refused)

pub returns-in_err-check_pages-clause-quiet : goal.returns-in_err-check_pages-clause-quiet
returns-in_err-check_pages-clause-quiet g c = λ told. quiet_then (g.D.Disk.seen c.args.disk.now) (g.D.Disk.seen c.load_header.new.disk) (g.D.Disk.seen c.check_pages.new.disk) (c.load_header.ensures.quiet told) (c.check_pages.ensures.quiet told)

pub open_file-requires-clause-present : goal.open_file-requires-clause-present
open_file-requires-clause-present g c κs within = λ told.
    subst (λ e. All (λ (line : PageLine). IsSome (object e (page_name line.no))) (lines_of c.in_ok-header.header.tiles)) (sym (c.check_pages.ensures.quiet told).directory) (c.in_ok-check_pages.ensures.there told)

pub returns-in_err-insert-clause-quiet : goal.returns-in_err-insert-clause-quiet
returns-in_err-insert-clause-quiet g c = λ told. quiet_then (g.D.Disk.seen c.args.disk.now) (g.D.Disk.seen c.load_header.new.disk) (g.D.Disk.seen c.check_pages.new.disk) (c.load_header.ensures.quiet told) (c.check_pages.ensures.quiet told)

pub returns-in-Ok-clause-sound : goal.returns-in-Ok-clause-sound
returns-in-Ok-clause-sound g c = λ told before are.
    let d = (g.D.Disk.seen c.args.disk.now).directory in
    let dir = (c.load_header.ensures.quiet told).directory in
    let header = c.in_ok-header.header in
    let start = subst (λ e. ArePages e before [] c.args.numbers.now) (sym dir) (pages_start d before c.args.numbers.now c.args.known.now are c.args.cited.now) in
    let pages = subst (λ e. ArePages e before (placed_lines header) c.check_pages.new.numbers) dir (c.in_ok-check_pages.ensures.found told before start) in
    file_sound d before c.args.numbers.now c.args.known.now are c.args.cited.now header (c.in_ok-header.ensures.found told) c.check_pages.new.numbers c.check_pages.ensures.next pages c.in_ok-header.ensures.new

pub returns-in-Ok-clause-more : goal.returns-in-Ok-clause-more
returns-in-Ok-clause-more g c = λ told before are.
    let d = (g.D.Disk.seen c.args.disk.now).directory in
    let dir = (c.load_header.ensures.quiet told).directory in
    let header = c.in_ok-header.header in
    let start = subst (λ e. ArePages e before [] c.args.numbers.now) (sym dir) (pages_start d before c.args.numbers.now c.args.known.now are c.args.cited.now) in
    let pages = subst (λ e. ArePages e before (placed_lines header) c.check_pages.new.numbers) dir (c.in_ok-check_pages.ensures.found told before start) in
    files_more d before c.args.numbers.now c.args.known.now are c.args.cited.now header (c.in_ok-header.ensures.found told) c.check_pages.new.numbers c.check_pages.ensures.next pages c.insert.new.self
    (one_more c.args.known.now c.insert.new.self c.args.cited.now.no c.in_ok-insert.ensures.updates)

pub returns-in-Ok-clause-quiet : goal.returns-in-Ok-clause-quiet
returns-in-Ok-clause-quiet g c = λ told.
    let first = quiet_then (g.D.Disk.seen c.args.disk.now) (g.D.Disk.seen c.load_header.new.disk) (g.D.Disk.seen c.check_pages.new.disk) (c.load_header.ensures.quiet told) (c.check_pages.ensures.quiet told) in
    quiet_then (g.D.Disk.seen c.args.disk.now) (g.D.Disk.seen c.check_pages.new.disk) (g.D.Disk.seen c.open_file.new.disk) first (c.open_file.ensures.quiet told)

pub returns-in-Err-clause-quiet : goal.returns-in-Err-clause-quiet
returns-in-Err-clause-quiet g c = λ told.
    let first = quiet_then (g.D.Disk.seen c.args.disk.now) (g.D.Disk.seen c.load_header.new.disk) (g.D.Disk.seen c.check_pages.new.disk) (c.load_header.ensures.quiet told) (c.check_pages.ensures.quiet told) in
    quiet_then (g.D.Disk.seen c.args.disk.now) (g.D.Disk.seen c.check_pages.new.disk) (g.D.Disk.seen c.open_file.new.disk) first (c.open_file.ensures.quiet told)
