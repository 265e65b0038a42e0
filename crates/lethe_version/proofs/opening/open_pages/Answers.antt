use Rattle.std.proofs.Common.{[], ◌∷◌, ◌++◌, Some, length, map, sym, ap, subst, ◌∙◌, arith, length-append}
use Rattle.std.specs.Prelude.{IsSome}
use Rattle.std.proofs.lemmas.List.{append-nil, take_all}
use Rattle.lethe_disk.specs.Directory.{object}
use Rattle.lethe_disk.proofs.Quieting.{quiet_itself, quiet_then}
use Rattle.lethe_file.specs.Agreement.{page_name}
use Rattle.lethe_header.specs.declared.header.PageLine.{PageLine}
use Rattle.lethe_version.proofs.Opened.{page_pushed}
use Rattle.lethe_version.proofs.opening.open_pages.Goals as goal

pub loop-line-init : goal.loop-line-init
loop-line-init g c = record {
  quiet = λ told. quiet_itself (g.D.Disk.seen c.args.disk.now);
  faults = omega arith;
  soon = λ told. omega arith;
  count = omega arith;
  pages = λ told. sym (append-nil (map (λ page. Some (g.D.Disk.page_bytes page.value)) c.args.pages.now.items));
}

pub open_page-requires-after_bounds : goal.open_page-requires-after_bounds
open_page-requires-after_bounds g c κs within = λ told.
    let d = (g.D.Disk.seen c.args.disk.now).directory in
    subst (λ e. IsSome (object e (page_name c.line-item.result.no))) (sym (c.loop-line.invariant.quiet told).directory)
    (subst (λ (line : PageLine). IsSome (object d (page_name line.no))) (sym c.line-item.is) (c.requires told c.loop-line.line-index c.line-item.result c.loop-line-test.true))

pub returns-in_err-open_page-clause-quiet : goal.returns-in_err-open_page-clause-quiet
returns-in_err-open_page-clause-quiet g c = λ told. quiet_then (g.D.Disk.seen c.args.disk.now) (g.D.Disk.seen c.loop-line.disk) (g.D.Disk.seen c.open_page.new.disk) (c.loop-line.invariant.quiet told) (c.open_page.ensures.quiet told)

pub returns-in_err-push-clause-quiet : goal.returns-in_err-push-clause-quiet
returns-in_err-push-clause-quiet g c = λ told. quiet_then (g.D.Disk.seen c.args.disk.now) (g.D.Disk.seen c.loop-line.disk) (g.D.Disk.seen c.open_page.new.disk) (c.loop-line.invariant.quiet told) (c.open_page.ensures.quiet told)

pub loop-line-preserved : goal.loop-line-preserved
loop-line-preserved g c =
    let page = c.in_ok-open_page.field-0 in
    let pushed = c.in_ok-push.ensures.items in
    record {
      quiet = λ told. quiet_then (g.D.Disk.seen c.args.disk.now) (g.D.Disk.seen c.loop-line.disk) (g.D.Disk.seen c.open_page.new.disk) (c.loop-line.invariant.quiet told) (c.open_page.ensures.quiet told);
      faults = omega (arith, c.loop-line.invariant.faults, c.open_page.ensures.cause.later);
      soon = λ told. let so_far = c.loop-line.invariant.soon told in let next = c.open_page.ensures.soon told in omega (arith, so_far, next);
      count = omega (arith, ap length pushed, length-append c.loop-line.pages.items (page ∷ []), c.loop-line.invariant.count);
      pages = λ told.
          let d = (g.D.Disk.seen c.args.disk.now).directory in
          page_pushed (λ page. Some (g.D.Disk.page_bytes page.value)) (λ (line : PageLine). object d (page_name line.no)) c.args.pages.now.items c.loop-line.pages.items c.push.new.self.items page c.args.lines.now c.loop-line.line-index c.line-item.result
          c.loop-line-test.true c.line-item.is (sym (c.in_ok-open_page.ensures.page told) ∙ ap (λ e. object e (page_name c.line-item.result.no)) (c.loop-line.invariant.quiet told).directory) pushed (c.loop-line.invariant.pages told);
    }

pub returns-clause-pages : goal.returns-clause-pages
returns-clause-pages g c = λ told.
    let d = (g.D.Disk.seen c.args.disk.now).directory in
    c.loop-line.invariant.pages told ∙ ap (λ lines. map (λ page. Some (g.D.Disk.page_bytes page.value)) c.args.pages.now.items ++ map (λ (line : PageLine). object d (page_name line.no)) lines)
    (take_all c.loop-line.line-index c.args.lines.now (omega (arith, c.loop-line-test.false)))
