use Rattle.std.proofs.Common.{◌≡◌, ◌+◌, ◌⊎◌, [], ◌∷◌, ◌++◌, map, get_or, take, drop, refl, sym, ap, subst, ◌∙◌, arith}
use Rattle.std.proofs.lemmas.List.{take-append-drop, drop_more, get_or_default}
use Rattle.lethe_disk.specs.Directory.{object}
use Rattle.lethe_disk.proofs.Quieting.{quiet_itself, quiet_then}
use Rattle.lethe_file.specs.Agreement.{page_name}
use Rattle.lethe_header.specs.Facts.{lines_of}
use Rattle.lethe_header.specs.declared.header.PageLine.{PageLine}
use Rattle.lethe_header.proofs.Follows.{follows_none}
use Rattle.lethe_manifest.specs.declared.manifest.Cited.{Cited}
use Rattle.lethe_load.specs.Damaged.{IsHeaderOf, IsSoundFile, IsDamagedFile, HasBadHeader, HasBadPage}
use Rattle.lethe_load.specs.Progress.{AreFiles, IsBadInFile}
use Rattle.lethe_load.specs.Refused.{MayFail}
use Rattle.lethe_load.proofs.Orders.{taken_more, follows_more, zip_more, zip_none, zip_all}
use Rattle.lethe_load.proofs.FilesInOrder.{files_start, Own, Headed, Paged}
use Rattle.lethe_load.proofs.Refusals.{err_moved, fails_so}
use Rattle.lethe_load.proofs.files.load_files.Goals as goal

pub loop-file-init : goal.loop-file-init
loop-file-init g c =
    let d = (g.D.Disk.seen c.args.disk.now).directory in
    record {
      own = zip_none Own c.new-files.result.items c.new-files.ensures.items;
      headers = λ told. zip_none (Headed d) c.new-files.result.items c.new-files.ensures.items;
      pages = λ told. zip_none (Paged d) c.new-files.result.items c.new-files.ensures.items;
      sound = λ told. follows_none (IsSoundFile d c.args.next);
      are = λ told. files_start d (record { next = c.args.next; taken = c.new.result }) c.new-known.result c.new.ensures.empty c.new-known.ensures.empty;
      next = refl;
      quiet = λ told. quiet_itself (g.D.Disk.seen c.args.disk.now);
      faults = omega arith;
    }

pub loop-file-preserved : goal.loop-file-preserved
loop-file-preserved g c =
    let d = (g.D.Disk.seen c.args.disk.now).directory in
    let mid = (g.D.Disk.seen c.loop-file.disk).directory in
    let cited = c.args.cited.now in
    let i = c.loop-file.file-index in
    let other : Cited = record { level = 0; no = 0; swept = 0; digest = [] } in
    let item = get_or cited i other in
    let view = c.in_ok-view.view in
    let old = c.loop-file.files.items in
    let lt = c.loop-file-test.true in
    let is : item ≡ get_or cited i item = get_or_default cited i other item c.loop-file-test.true in
    let pushed = c.in_ok-push.ensures.items in
    record {
      own = zip_more Own cited i item old c.push.new.self.items view lt is pushed c.loop-file.invariant.own c.in_ok-view.ensures.own;
      headers = λ told. zip_more (Headed d) cited i item old c.push.new.self.items view lt is pushed (c.loop-file.invariant.headers told)
          (subst (λ e. IsHeaderOf e item view.header) (c.loop-file.invariant.quiet told).directory (c.in_ok-view.ensures.header told));
      pages = λ told. zip_more (Paged d) cited i item old c.push.new.self.items view lt is pushed (c.loop-file.invariant.pages told)
          (c.in_ok-view.ensures.pages told ∙ ap (λ e. map (λ (line : PageLine). object e (page_name line.no)) (lines_of view.header.tiles)) (c.loop-file.invariant.quiet told).directory);
      sound = λ told.
          let are = subst (λ e. AreFiles e (take i cited) c.loop-file.numbers c.loop-file.known) (sym (c.loop-file.invariant.quiet told).directory) (c.loop-file.invariant.are told) in
          follows_more (IsSoundFile d c.args.next) cited i item lt is (c.loop-file.invariant.sound told)
          (subst (λ e. IsSoundFile e c.args.next (take i cited) item) (c.loop-file.invariant.quiet told).directory
          (subst (λ n. IsSoundFile mid n (take i cited) item) c.loop-file.invariant.next (c.in_ok-view.ensures.sound told (take i cited) are)));
      are = λ told.
          let are = subst (λ e. AreFiles e (take i cited) c.loop-file.numbers c.loop-file.known) (sym (c.loop-file.invariant.quiet told).directory) (c.loop-file.invariant.are told) in
          subst (λ l. AreFiles d l c.load_file.new.numbers c.load_file.new.known) (sym (taken_more cited i item lt is))
          (subst (λ e. AreFiles e (take i cited ++ item ∷ []) c.load_file.new.numbers c.load_file.new.known) (c.loop-file.invariant.quiet told).directory (c.in_ok-view.ensures.more told (take i cited) are));
      next = c.load_file.ensures.next ∙ c.loop-file.invariant.next;
      quiet = λ told. quiet_then (g.D.Disk.seen c.args.disk.now) (g.D.Disk.seen c.loop-file.disk) (g.D.Disk.seen c.load_file.new.disk) (c.loop-file.invariant.quiet told) (c.load_file.ensures.quiet told);
      faults = omega (arith, c.loop-file.invariant.faults, c.load_file.ensures.faults);
    }

pub returns-in_err-view-clause-refused : goal.returns-in_err-view-clause-refused
returns-in_err-view-clause-refused g c =
    let d = (g.D.Disk.seen c.args.disk.now).directory in
    let mid = (g.D.Disk.seen c.loop-file.disk).directory in
    let now = g.D.Disk.faults c.load_file.new.disk in
    let cited = c.args.cited.now in
    let i = c.loop-file.file-index in
    let other : Cited = record { level = 0; no = 0; swept = 0; digest = [] } in
    let item = get_or cited i other in
    let lt = c.loop-file-test.true in
    let is : item ≡ get_or cited i item = get_or_default cited i other item c.loop-file-test.true in
    err_moved c.from_residual.result c.in_err-view.field-0.0 (MayFail g.D.Disk.tells (IsDamagedFile d c.args.next cited) c.args.listing.now.faults now) c.from_residual.ensures.1
    (fails_so g.D.Disk.tells (IsBadInFile mid c.loop-file.numbers c.loop-file.known item) (IsDamagedFile d c.args.next cited) c.args.listing.now.faults now c.in_err-view.field-0.0
    (λ told name bad.
    let here = subst (λ e. IsBadInFile e c.loop-file.numbers c.loop-file.known item name) (c.loop-file.invariant.quiet told).directory bad in
    record {
      before = take i cited;
      cited = item;
      behind = drop (i + 1) cited;
      split = sym (take-append-drop i cited) ∙ ap (λ l. take i cited ++ l) (drop_more cited i item lt ∙ ap (λ x. x ∷ drop (i + 1) cited) (sym is));
      good = c.loop-file.invariant.sound told;
      bad = subst (λ n. HasBadHeader d (take i cited) item name ⊎ HasBadPage d n (take i cited) item name) c.loop-file.invariant.next (here (take i cited) (c.loop-file.invariant.are told));
    })
    c.in_err-view.ensures.refused)

pub returns-in_err-view-clause-quiet : goal.returns-in_err-view-clause-quiet
returns-in_err-view-clause-quiet g c = λ told. quiet_then (g.D.Disk.seen c.args.disk.now) (g.D.Disk.seen c.loop-file.disk) (g.D.Disk.seen c.load_file.new.disk) (c.loop-file.invariant.quiet told) (c.load_file.ensures.quiet told)

pub returns-in_err-push-clause-quiet : goal.returns-in_err-push-clause-quiet
returns-in_err-push-clause-quiet g c = λ told. quiet_then (g.D.Disk.seen c.args.disk.now) (g.D.Disk.seen c.loop-file.disk) (g.D.Disk.seen c.load_file.new.disk) (c.loop-file.invariant.quiet told) (c.load_file.ensures.quiet told)

pub returns-clause-headers : goal.returns-clause-headers
returns-clause-headers g c = λ told. zip_all (Headed (g.D.Disk.seen c.args.disk.now).directory) c.args.cited.now c.loop-file.file-index c.loop-file.files.items (omega (arith, c.loop-file-test.false)) (c.loop-file.invariant.headers told)

pub returns-clause-pages : goal.returns-clause-pages
returns-clause-pages g c = λ told. zip_all (Paged (g.D.Disk.seen c.args.disk.now).directory) c.args.cited.now c.loop-file.file-index c.loop-file.files.items (omega (arith, c.loop-file-test.false)) (c.loop-file.invariant.pages told)
