use Rattle.std.proofs.Common.{◌≡◌, ◌+◌, [], ◌++◌, All, map, take, drop, refl, sym, ap, subst, ◌∙◌, arith, append-nil}
use Rattle.std.specs.Prelude.{IsSome, is_some}
use Rattle.std.specs.FinMap.{keys}
use Rattle.std.proofs.lemmas.List.{take_all}
use Rattle.std.proofs.lemmas.List.Elements.{All-nil, All-push}
use Rattle.lethe_disk.specs.Directory.{object}
use Rattle.lethe_disk.proofs.Quieting.{quiet_itself, quiet_then}
use Rattle.lethe_file.specs.Agreement.{page_name}
use Rattle.lethe_header.specs.Headers.{EachFollows, IsLine, LineFollows}
use Rattle.lethe_header.specs.declared.header.PageLine.{PageLine}
use Rattle.lethe_header.proofs.Follows.{follows_at}
use Rattle.lethe_agreement.specs.Soundness.{IsTaken}
use Rattle.lethe_load.specs.Damaged.{IsSoundPage, IsTakenBy}
use Rattle.lethe_load.specs.Progress.{IsNextPage, ArePages, IsBadInTile}
use Rattle.lethe_load.specs.Refused.{MayFail}
use Rattle.lethe_load.proofs.Orders.{taken_more}
use Rattle.lethe_load.proofs.PagesInOrder.{KeysAre, keys_more, pages_more, next_sound, placed_more, placed_split}
use Rattle.lethe_load.proofs.Refusals.{err_moved, fails_so}
use Rattle.lethe_load.proofs.pages.check_tile.Goals as goal

pub loop-line-init : goal.loop-line-init
loop-line-init g c =
    let d = (g.D.Disk.seen c.args.disk.now).directory in
    record {
      there = λ told. All-nil (λ (line : PageLine). IsSome (object d (page_name line.no)));
      keys = λ told key. (λ held. absurd (c.new-keys.ensures key held), λ any. absurd (omega (arith, any.2)));
      pages = λ told before items are below. subst (λ l. ArePages d before l c.args.numbers.now) (sym (append-nil items)) are;
      next = refl;
      quiet = λ told. quiet_itself (g.D.Disk.seen c.args.disk.now);
      faults = omega arith;
    }

pub check_page-requires-clause-listed : goal.check_page-requires-clause-listed
check_page-requires-clause-listed g c κs within = λ told. c.requires.listed told ∙ ap keys (sym (c.loop-line.invariant.quiet told).directory)

pub check_page-requires-clause-line : goal.check_page-requires-clause-line
check_page-requires-clause-line g c κs within =
    let lines = c.items-line-items.result.now in
    let each = subst (EachFollows LineFollows) (sym c.items-line-items.ensures) c.requires.tile.lines in
    subst IsLine (sym c.line-item.is) (follows_at LineFollows lines c.loop-line.line-index c.line-item.result each c.loop-line-test.true).itself

pub loop-line-preserved : goal.loop-line-preserved
loop-line-preserved g c =
    let d = (g.D.Disk.seen c.args.disk.now).directory in
    let mid = (g.D.Disk.seen c.loop-line.disk).directory in
    let lines = c.items-line-items.result.now in
    let i = c.loop-line.line-index in
    let line = c.line-item.result in
    let tile = c.args.tile.now in
    let lt = c.loop-line-test.true in
    let is = c.line-item.is in
    record {
      there = λ told.
          let next = subst (λ e. IsNextPage e c.loop-line.numbers (IsTaken c.loop-line.keys) tile line) (c.loop-line.invariant.quiet told).directory (c.in_ok-check_page.ensures.found told) in
          subst (All (λ (l : PageLine). IsSome (object d (page_name l.no)))) (sym (taken_more lines i line lt is))
          (All-push (λ (l : PageLine). IsSome (object d (page_name l.no))) (take i lines) line (c.loop-line.invariant.there told) (ap is_some next.there));
      keys = λ told.
          let next = subst (λ e. IsNextPage e c.loop-line.numbers (IsTaken c.loop-line.keys) tile line) (c.loop-line.invariant.quiet told).directory (c.in_ok-check_page.ensures.found told) in
          subst (KeysAre d (IsTaken c.check_page.new.taken)) (sym (taken_more lines i line lt is))
          (keys_more d [] c.loop-line.numbers tile [] (take i lines) (IsTaken c.loop-line.keys) (c.loop-line.invariant.keys told) line next.bytes next.there (IsTaken c.check_page.new.taken)
          (c.in_ok-check_page.ensures.keys told next.bytes (ap (λ e. object e (page_name line.no)) (c.loop-line.invariant.quiet told).directory ∙ next.there)));
      pages = λ told before items are below.
          let next = subst (λ e. IsNextPage e c.loop-line.numbers (IsTaken c.loop-line.keys) tile line) (c.loop-line.invariant.quiet told).directory (c.in_ok-check_page.ensures.found told) in
          subst (λ l. ArePages d before l c.check_page.new.numbers) (sym (placed_more tile items lines i line lt is))
          (pages_more d before c.loop-line.numbers tile items (take i lines) (IsTaken c.loop-line.keys) (c.loop-line.invariant.pages told before items are below) (c.loop-line.invariant.keys told) line below next
          c.check_page.new.numbers c.check_page.ensures.next c.in_ok-check_page.ensures.numbers);
      next = c.check_page.ensures.next ∙ c.loop-line.invariant.next;
      quiet = λ told. quiet_then (g.D.Disk.seen c.args.disk.now) (g.D.Disk.seen c.loop-line.disk) (g.D.Disk.seen c.check_page.new.disk) (c.loop-line.invariant.quiet told) (c.check_page.ensures.quiet told);
      faults = omega (arith, c.loop-line.invariant.faults, c.check_page.ensures.faults);
    }

pub returns-in_err-check_page-clause-refused : goal.returns-in_err-check_page-clause-refused
returns-in_err-check_page-clause-refused g c =
    let d = (g.D.Disk.seen c.args.disk.now).directory in
    let mid = (g.D.Disk.seen c.loop-line.disk).directory in
    let now = g.D.Disk.faults c.check_page.new.disk in
    let lines = c.items-line-items.result.now in
    let i = c.loop-line.line-index in
    let line = c.line-item.result in
    let tile = c.args.tile.now in
    err_moved c.from_residual.result c.in_err-check_page.field-0.0 (MayFail g.D.Disk.tells (IsBadInTile d c.args.numbers.now tile) c.args.listing.now.faults now) c.from_residual.ensures.1
    (fails_so g.D.Disk.tells (λ name. (name ≡ page_name line.no) × (IsNextPage mid c.loop-line.numbers (IsTaken c.loop-line.keys) tile line → ⊥)) (IsBadInTile d c.args.numbers.now tile) c.args.listing.now.faults now c.in_err-check_page.field-0.0
    (λ told name bad before items are below.
    let so_far = c.loop-line.invariant.pages told before items are below in (
      items ++ map (λ l. (tile, l)) (take i lines),
      (tile, line),
      record {
        behind = map (λ l. (tile, l)) (drop (i + 1) lines);
        split = placed_split tile items tile.pages lines i line c.items-line-items.ensures c.loop-line-test.true c.line-item.is;
        good = subst (λ n. EachFollows (IsSoundPage d n (IsTakenBy d before)) (items ++ map (λ l. (tile, l)) (take i lines))) c.loop-line.invariant.next so_far.good;
        is = λ sound. bad.1 (subst (λ e. IsNextPage e c.loop-line.numbers (IsTaken c.loop-line.keys) tile line) (sym (c.loop-line.invariant.quiet told).directory)
            (next_sound d before c.loop-line.numbers tile items (take i lines) (IsTaken c.loop-line.keys) so_far (c.loop-line.invariant.keys told) line
            (subst (λ n. IsSoundPage d n (IsTakenBy d before) (items ++ map (λ l. (tile, l)) (take i lines)) (tile, line)) (sym c.loop-line.invariant.next) sound)));
      },
      bad.0,
    )) c.in_err-check_page.ensures.refused)

pub returns-in_err-check_page-clause-quiet : goal.returns-in_err-check_page-clause-quiet
returns-in_err-check_page-clause-quiet g c = λ told. quiet_then (g.D.Disk.seen c.args.disk.now) (g.D.Disk.seen c.loop-line.disk) (g.D.Disk.seen c.check_page.new.disk) (c.loop-line.invariant.quiet told) (c.check_page.ensures.quiet told)

pub returns-clause-there : goal.returns-clause-there
returns-clause-there g c = λ told.
    let d = (g.D.Disk.seen c.args.disk.now).directory in
    subst (All (λ (l : PageLine). IsSome (object d (page_name l.no)))) (take_all c.loop-line.line-index c.items-line-items.result.now (omega (arith, c.loop-line-test.false)) ∙ c.items-line-items.ensures) (c.loop-line.invariant.there told)

pub returns-clause-found : goal.returns-clause-found
returns-clause-found g c = λ told before items are below.
    let d = (g.D.Disk.seen c.args.disk.now).directory in
    subst (λ ls. ArePages d before (items ++ map (λ l. (c.args.tile.now, l)) ls) c.loop-line.numbers) (take_all c.loop-line.line-index c.items-line-items.result.now (omega (arith, c.loop-line-test.false)) ∙ c.items-line-items.ensures)
    (c.loop-line.invariant.pages told before items are below)
