use Rattle.std.proofs.Common.{◌≡◌, [], ◌∷◌, ◌++◌, length, map, sym, ap, subst, ◌∙◌, arith}
use Rattle.std.proofs.lemmas.Iterator.Adapters.{YieldsList-from_vec}
use Rattle.std.proofs.lemmas.Iterator.Consumers.{YieldsList-end, YieldsList-so_far, YieldsList-turn}
use Rattle.std.proofs.lemmas.List.{map-id, map-append}
use Rattle.lethe_disk.proofs.Quieting.{quiet_itself, quiet_then}
use Rattle.lethe_header.specs.Facts.{lines_of}
use Rattle.lethe_header.specs.Headers.{HasSpelling}
use Rattle.lethe_advance.specs.declared.new_header.NewHeader.{NewHeader}
use Rattle.lethe_advance.specs.Calls.{opened_by}
use Rattle.lethe_advance.specs.Shown.{HasPages, new_parts, new_parts_at, parts_at, parts_in}
use Rattle.lethe_advance.proofs.Calls.{opened_among, opened_more}
use Rattle.lethe_advance.proofs.Opened.{pages_are}
use Rattle.lethe_advance.proofs.exchanging.open_files.Goals as goal

pub loop-new-init : goal.loop-new-init
loop-new-init g c = record {
  quiet = λ told. quiet_itself (g.D.Disk.seen c.args.disk.now);
  soon = λ told. omega arith;
  faults = omega arith;
  opened = λ told. ap (map new_parts) c.new-files.ensures.items;
  levels = ap (map (λ new. new.level)) c.new-files.ensures.items;
}

pub open_file-requires-clause-spelled : goal.open_file-requires-clause-spelled
open_file-requires-clause-spelled g c κs within =
    let begin = c.into_iter-new-iterator.ensures.into_iter_gives in
    let turn = YieldsList-turn (YieldsList-from_vec {s = c.into_iter-new-iterator.result} c.args.headers.items begin.0 (begin.1 ∙ c.args.headers.ok.0)) c.loop-new.yielded c.loop-new.new-iterator c.loop-new.yielded_by c.next.result c.next.new.self c.in-Some.new c.in-Some.is c.next.ensures.steps in
    subst (λ (new : NewHeader). HasSpelling new.header) (sym turn.1) (c.requires.headers (length c.loop-new.yielded) c.in-Some.new turn.0)

pub open_file-requires-clause-present : goal.open_file-requires-clause-present
open_file-requires-clause-present g c κs within = λ told.
    let begin = c.into_iter-new-iterator.ensures.into_iter_gives in
    let turn = YieldsList-turn (YieldsList-from_vec {s = c.into_iter-new-iterator.result} c.args.headers.items begin.0 (begin.1 ∙ c.args.headers.ok.0)) c.loop-new.yielded c.loop-new.new-iterator c.loop-new.yielded_by c.next.result c.next.new.self c.in-Some.new c.in-Some.is c.next.ensures.steps in
    subst (λ d. HasPages d c.in-Some.new.header) (sym (c.loop-new.invariant.quiet told).directory)
    (subst (λ (new : NewHeader). HasPages (g.D.Disk.seen c.args.disk.now).directory new.header) (sym turn.1) (c.requires.present told (length c.loop-new.yielded) c.in-Some.new turn.0))

pub returns-in_err-file-clause-quiet : goal.returns-in_err-file-clause-quiet
returns-in_err-file-clause-quiet g c = λ told. quiet_then (g.D.Disk.seen c.args.disk.now) (g.D.Disk.seen c.loop-new.disk) (g.D.Disk.seen c.open_file.new.disk) (c.loop-new.invariant.quiet told) (c.open_file.ensures.quiet told)

pub returns-in_err-push-clause-quiet : goal.returns-in_err-push-clause-quiet
returns-in_err-push-clause-quiet g c = λ told. quiet_then (g.D.Disk.seen c.args.disk.now) (g.D.Disk.seen c.loop-new.disk) (g.D.Disk.seen c.open_file.new.disk) (c.loop-new.invariant.quiet told) (c.open_file.ensures.quiet told)

pub loop-new-preserved : goal.loop-new-preserved
loop-new-preserved g c = record {
  quiet = λ told. quiet_then (g.D.Disk.seen c.args.disk.now) (g.D.Disk.seen c.loop-new.disk) (g.D.Disk.seen c.open_file.new.disk) (c.loop-new.invariant.quiet told) (c.open_file.ensures.quiet told);
  soon = λ told. opened_more c.loop-new.yielded c.in-Some.new (g.D.Disk.seen c.args.disk.now).moment (g.D.Disk.seen c.loop-new.disk).moment (g.D.Disk.seen c.open_file.new.disk).moment (c.loop-new.invariant.soon told) (c.open_file.ensures.soon told);
  faults = omega (arith, c.loop-new.invariant.faults, c.open_file.ensures.cause.later);
  opened = λ told.
      let d = (g.D.Disk.seen c.args.disk.now).directory in
      let d1 = (g.D.Disk.seen c.loop-new.disk).directory in
      let new = c.in-Some.new in
      let file = c.in_ok-file.file in
      let pages = pages_are d1 (lines_of new.header.tiles) _ (c.in_ok-file.ensures.pages told) in
      let opened : parts_in file ≡ parts_at d1 new.header = (λ i. record { header = c.in_ok-file.ensures.header i; pages = pages i }) in
      let same : parts_at d1 new.header ≡ parts_at d new.header = ap (λ x. parts_at x new.header) (c.loop-new.invariant.quiet told).directory in
      ap (map new_parts) c.in_ok-push.ensures.items ∙ map-append new_parts c.loop-new.files.items _
      ∙ (λ i. c.loop-new.invariant.opened told i ++ record { level = new.level; parts = (opened ∙ same) i } ∷ [])
      ∙ sym (map-append (new_parts_at d) c.loop-new.yielded (new ∷ []));
  levels =
      let new = c.in-Some.new in
      ap (map (λ one. one.level)) c.in_ok-push.ensures.items ∙ map-append (λ one. one.level) c.loop-new.files.items _
      ∙ ap (λ l. l ++ new.level ∷ []) c.loop-new.invariant.levels ∙ sym (map-append (λ (one : NewHeader). one.level) c.loop-new.yielded (new ∷ []));
}

pub returns-clause-opened : goal.returns-clause-opened
returns-clause-opened g c = λ told.
    let begin = c.into_iter-new-iterator.ensures.into_iter_gives in
    let end = YieldsList-end (YieldsList-from_vec {s = c.into_iter-new-iterator.result} c.args.headers.items begin.0 (begin.1 ∙ c.args.headers.ok.0)) c.loop-new.yielded c.loop-new.new-iterator c.loop-new.yielded_by c.next.result c.next.new.self c.in-None.is c.next.ensures.steps in
    c.loop-new.invariant.opened told ∙ ap (map (new_parts_at (g.D.Disk.seen c.args.disk.now).directory)) (sym (map-id c.loop-new.yielded) ∙ end.0)

pub returns-clause-levels : goal.returns-clause-levels
returns-clause-levels g c =
    let begin = c.into_iter-new-iterator.ensures.into_iter_gives in
    let end = YieldsList-end (YieldsList-from_vec {s = c.into_iter-new-iterator.result} c.args.headers.items begin.0 (begin.1 ∙ c.args.headers.ok.0)) c.loop-new.yielded c.loop-new.new-iterator c.loop-new.yielded_by c.next.result c.next.new.self c.in-None.is c.next.ensures.steps in
    c.loop-new.invariant.levels ∙ ap (map (λ (new : NewHeader). new.level)) (sym (map-id c.loop-new.yielded) ∙ end.0)

pub returns-in_err-file-clause-soon : goal.returns-in_err-file-clause-soon
returns-in_err-file-clause-soon g c = λ told.
    let begin = c.into_iter-new-iterator.ensures.into_iter_gives in
    let gives = YieldsList-from_vec {s = c.into_iter-new-iterator.result} c.args.headers.items begin.0 (begin.1 ∙ c.args.headers.ok.0) in
    let turn = YieldsList-turn gives c.loop-new.yielded c.loop-new.new-iterator c.loop-new.yielded_by c.next.result c.next.new.self c.in-Some.new c.in-Some.is c.next.ensures.steps in
    let first = sym (map-id c.loop-new.yielded) ∙ YieldsList-so_far gives c.loop-new.yielded c.loop-new.new-iterator c.loop-new.yielded_by in
    opened_among c.args.headers.items c.loop-new.yielded c.in-Some.new (g.D.Disk.seen c.args.disk.now).moment (g.D.Disk.seen c.loop-new.disk).moment (g.D.Disk.seen c.open_file.new.disk).moment first turn.0 turn.1
    (c.loop-new.invariant.soon told) (c.open_file.ensures.soon told)

pub returns-in_err-push-clause-soon : goal.returns-in_err-push-clause-soon
returns-in_err-push-clause-soon g c = λ told.
    let begin = c.into_iter-new-iterator.ensures.into_iter_gives in
    let gives = YieldsList-from_vec {s = c.into_iter-new-iterator.result} c.args.headers.items begin.0 (begin.1 ∙ c.args.headers.ok.0) in
    let turn = YieldsList-turn gives c.loop-new.yielded c.loop-new.new-iterator c.loop-new.yielded_by c.next.result c.next.new.self c.in-Some.new c.in-Some.is c.next.ensures.steps in
    let first = sym (map-id c.loop-new.yielded) ∙ YieldsList-so_far gives c.loop-new.yielded c.loop-new.new-iterator c.loop-new.yielded_by in
    opened_among c.args.headers.items c.loop-new.yielded c.in-Some.new (g.D.Disk.seen c.args.disk.now).moment (g.D.Disk.seen c.loop-new.disk).moment (g.D.Disk.seen c.open_file.new.disk).moment first turn.0 turn.1
    (c.loop-new.invariant.soon told) (c.open_file.ensures.soon told)

pub returns-clause-soon : goal.returns-clause-soon
returns-clause-soon g c = λ told.
    let begin = c.into_iter-new-iterator.ensures.into_iter_gives in
    let end = YieldsList-end (YieldsList-from_vec {s = c.into_iter-new-iterator.result} c.args.headers.items begin.0 (begin.1 ∙ c.args.headers.ok.0)) c.loop-new.yielded c.loop-new.new-iterator c.loop-new.yielded_by c.next.result c.next.new.self c.in-None.is c.next.ensures.steps in
    omega (arith, c.loop-new.invariant.soon told, ap opened_by (sym (map-id c.loop-new.yielded) ∙ end.0))
