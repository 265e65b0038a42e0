use Rattle.std.proofs.Common.{inl, inr, length, map, refl, sym, ap, subst, ◌∙◌}
use Rattle.std.specs.List.{AllZip}
use Rattle.lethe_disk.proofs.Quieting.{quiet_then}
use Rattle.lethe_header.specs.Headers.{EachFollows}
use Rattle.lethe_manifest.specs.declared.manifest.Manifest.{Manifest}
use Rattle.lethe_commit.specs.Switch.{manifest_name}
use Rattle.lethe_version.specs.Versions.{bytes_of}
use Rattle.lethe_load.specs.Damaged.{IsSoundSegment, IsDamagedSegment, IsDamagedFile}
use Rattle.lethe_load.specs.Refused.{MayRefuse}
use Rattle.lethe_load.proofs.FilesInOrder.{Own}
use Rattle.lethe_load.proofs.Gated.{gated_of}
use Rattle.lethe_load.proofs.Refusals.{err_moved, refuses_so}
use Rattle.lethe_load.proofs.Whole.{whole_read, zip_length, parts_spelled}
use Rattle.lethe_load.proofs.loading.load_gated.Goals as goal

pub returns-in_err-segments-clause-refused : goal.returns-in_err-segments-clause-refused
returns-in_err-segments-clause-refused g c =
    let d = (g.D.Disk.seen c.args.disk.now).directory in
    let first = (g.D.Disk.seen c.load_manifest.new.disk).directory in
    let now = g.D.Disk.faults c.load_segments.new.disk in
    let m = c.in_ok-manifest.manifest in
    err_moved c.from_residual-in_err-segments.result c.in_err-segments.field-0.0 (MayRefuse g.D.Disk.tells c.args.config.now d c.args.listing.faults now) c.from_residual-in_err-segments.ensures.1
    (refuses_so g.D.Disk.tells (IsDamagedSegment first c.items.result.now) c.args.config.now d c.args.listing.faults now c.in_err-segments.field-0.0
    (λ told name bad. inr (
      m,
      gated_of d c.args.number m (c.requires.greatest told) (c.in_ok-manifest.ensures.found told),
      c.is_same.ensures.0 c.if-not-is_same.false,
      inl (subst (λ l. IsDamagedSegment d l name) c.items.ensures (subst (λ e. IsDamagedSegment e c.items.result.now name) (c.load_manifest.ensures.quiet told).directory bad)),
    )) c.in_err-segments.ensures.refused)

pub returns-in_err-segments-clause-quiet : goal.returns-in_err-segments-clause-quiet
returns-in_err-segments-clause-quiet g c = λ told. quiet_then (g.D.Disk.seen c.args.disk.now) (g.D.Disk.seen c.load_manifest.new.disk) (g.D.Disk.seen c.load_segments.new.disk) (c.load_manifest.ensures.quiet told) (c.load_segments.ensures.quiet told)

pub returns-in_err-files-clause-refused : goal.returns-in_err-files-clause-refused
returns-in_err-files-clause-refused g c =
    let d = (g.D.Disk.seen c.args.disk.now).directory in
    let first = (g.D.Disk.seen c.load_manifest.new.disk).directory in
    let second = (g.D.Disk.seen c.load_segments.new.disk).directory in
    let now = g.D.Disk.faults c.load_files.new.disk in
    let m = c.in_ok-manifest.manifest in
    err_moved c.from_residual-in_err-files.result c.in_err-files.field-0.0 (MayRefuse g.D.Disk.tells c.args.config.now d c.args.listing.faults now) c.from_residual-in_err-files.ensures.1
    (refuses_so g.D.Disk.tells (IsDamagedFile second m.next c.items-2.result.now) c.args.config.now d c.args.listing.faults now c.in_err-files.field-0.0
    (λ told name bad.
    let one = (c.load_manifest.ensures.quiet told).directory in
    let two = (c.load_segments.ensures.quiet told).directory in
    inr (
      m,
      gated_of d c.args.number m (c.requires.greatest told) (c.in_ok-manifest.ensures.found told),
      c.is_same.ensures.0 c.if-not-is_same.false,
      inr (inl (
        subst (EachFollows (IsSoundSegment d)) c.items.ensures (subst (λ e. EachFollows (IsSoundSegment e) c.items.result.now) one (c.in_ok-segments.ensures.sound told)),
        subst (λ l. IsDamagedFile d m.next l name) c.items-2.ensures (subst (λ e. IsDamagedFile e m.next c.items-2.result.now name) (two ∙ one) bad),
      )),
    )) c.in_err-files.ensures.refused)

pub returns-in_err-files-clause-quiet : goal.returns-in_err-files-clause-quiet
returns-in_err-files-clause-quiet g c = λ told.
    let first = quiet_then (g.D.Disk.seen c.args.disk.now) (g.D.Disk.seen c.load_manifest.new.disk) (g.D.Disk.seen c.load_segments.new.disk) (c.load_manifest.ensures.quiet told) (c.load_segments.ensures.quiet told) in
    quiet_then (g.D.Disk.seen c.args.disk.now) (g.D.Disk.seen c.load_segments.new.disk) (g.D.Disk.seen c.load_files.new.disk) first (c.load_files.ensures.quiet told)

pub are_rising-requires-clause-count : goal.are_rising-requires-clause-count
are_rising-requires-clause-count g c κs within =
    ap length c.deref.ensures.value ∙ zip_length Own c.items-2.result.now c.in_ok-files.files.items c.in_ok-files.ensures.own ∙ ap length (c.items-2.ensures ∙ sym c.items-3.ensures)

pub returns-then-not-are_rising-clause-refused : goal.returns-then-not-are_rising-clause-refused
returns-then-not-are_rising-clause-refused g c = λ told.
    let d = (g.D.Disk.seen c.args.disk.now).directory in
    let first = (g.D.Disk.seen c.load_manifest.new.disk).directory in
    let second = (g.D.Disk.seen c.load_segments.new.disk).directory in
    let m = c.in_ok-manifest.manifest in
    let spelled = c.in_ok-manifest.ensures.found told in
    let w = whole_read d first second c.args.number m (c.load_manifest.ensures.quiet told).directory (c.load_segments.ensures.quiet told).directory (c.requires.greatest told) spelled
    c.items.result.now c.in_ok-segments.segments c.items.ensures (c.in_ok-segments.ensures.found told) (c.in_ok-segments.ensures.sound told)
    (λ file. file.header) bytes_of c.items-2.result.now c.in_ok-files.files.items c.items-2.ensures (c.in_ok-files.ensures.headers told) (c.in_ok-files.ensures.pages told) (c.in_ok-files.ensures.sound told) in
    let cites = sym w.coherent.files ∙ ap (λ (x : Manifest). x.files) w.manifest ∙ sym c.items-3.ensures in
    let heads = w.headers ∙ ap (map (λ file. file.header)) (sym c.deref.ensures.value) in
    inr (
      m,
      gated_of d c.args.number m (c.requires.greatest told) spelled,
      c.is_same.ensures.0 c.if-not-is_same.false,
      inr (inr (record {
        named = ap manifest_name (sym spelled.own);
        s = w.s;
        coherent = w.coherent;
        encodes = w.encodes;
        manifest = w.manifest;
        falls = λ rising. let yes = (c.are_rising.ensures w.s.files cites heads).1 rising in let not_so = c.if-not-are_rising.true in cc;
      })),
    )

pub returns-then-not-are_rising-clause-quiet : goal.returns-then-not-are_rising-clause-quiet
returns-then-not-are_rising-clause-quiet g c = λ told.
    let first = quiet_then (g.D.Disk.seen c.args.disk.now) (g.D.Disk.seen c.load_manifest.new.disk) (g.D.Disk.seen c.load_segments.new.disk) (c.load_manifest.ensures.quiet told) (c.load_segments.ensures.quiet told) in
    quiet_then (g.D.Disk.seen c.args.disk.now) (g.D.Disk.seen c.load_segments.new.disk) (g.D.Disk.seen c.load_files.new.disk) first (c.load_files.ensures.quiet told)

pub returns-clause-quiet : goal.returns-clause-quiet
returns-clause-quiet g c = λ told.
    let first = quiet_then (g.D.Disk.seen c.args.disk.now) (g.D.Disk.seen c.load_manifest.new.disk) (g.D.Disk.seen c.load_segments.new.disk) (c.load_manifest.ensures.quiet told) (c.load_segments.ensures.quiet told) in
    quiet_then (g.D.Disk.seen c.args.disk.now) (g.D.Disk.seen c.load_segments.new.disk) (g.D.Disk.seen c.load_files.new.disk) first (c.load_files.ensures.quiet told)

pub returns-clause-spelled : goal.returns-clause-spelled
returns-clause-spelled g c =
    let m = c.in_ok-manifest.manifest in
    inr (
      m,
      record {
        manifest = refl;
        spelled = c.in_ok-manifest.ensures.spelled;
        config_is = c.is_same.ensures.0 c.if-not-is_same.false;
        segments = c.in_ok-segments.ensures.count ∙ ap length c.items.ensures;
        ascends = c.in_ok-segments.ensures.ascends;
        files = parts_spelled (λ file. file.header) bytes_of (λ file. file.spelled) m.files c.in_ok-files.files.items (subst (λ l. AllZip Own l c.in_ok-files.files.items) c.items-2.ensures c.in_ok-files.ensures.own);
      },
    )

pub returns-clause-found : goal.returns-clause-found
returns-clause-found g c = λ told.
    let d = (g.D.Disk.seen c.args.disk.now).directory in
    let first = (g.D.Disk.seen c.load_manifest.new.disk).directory in
    let second = (g.D.Disk.seen c.load_segments.new.disk).directory in
    let m = c.in_ok-manifest.manifest in
    let w = whole_read d first second c.args.number m (c.load_manifest.ensures.quiet told).directory (c.load_segments.ensures.quiet told).directory (c.requires.greatest told) (c.in_ok-manifest.ensures.found told)
    c.items.result.now c.in_ok-segments.segments c.items.ensures (c.in_ok-segments.ensures.found told) (c.in_ok-segments.ensures.sound told)
    (λ file. file.header) bytes_of c.items-2.result.now c.in_ok-files.files.items c.items-2.ensures (c.in_ok-files.ensures.headers told) (c.in_ok-files.ensures.pages told) (c.in_ok-files.ensures.sound told) in
    let cites = sym w.coherent.files ∙ ap (λ (x : Manifest). x.files) w.manifest ∙ sym c.items-3.ensures in
    let heads = w.headers ∙ ap (map (λ file. file.header)) (sym c.deref.ensures.value) in
    record {
      s = w.s;
      coherent = w.coherent;
      encodes = w.encodes;
      rising = (c.are_rising.ensures w.s.files cites heads).0 c.if-not-are_rising.false;
      config_is = ap (λ (x : Manifest). x.config) w.manifest ∙ c.is_same.ensures.0 c.if-not-is_same.false;
      all = w.all;
    }
