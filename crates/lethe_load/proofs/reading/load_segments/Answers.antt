use Rattle.std.proofs.Common.{◌≡◌, ◌<◌, ◌+◌, [], ◌∷◌, ◌++◌, All, length, get_or, take, sym, ap, subst, ◌∙◌, arith, length-append}
use Rattle.std.specs.FinMap.{keys}
use Rattle.std.specs.List.{AllZip}
use Rattle.std.proofs.lemmas.List.{get_or_default}
use Rattle.std.proofs.lemmas.List.Elements.{All-nil, All-push}
use Rattle.lethe_disk.proofs.Quieting.{quiet_itself, quiet_then}
use Rattle.lethe_header.proofs.Follows.{follows_none}
use Rattle.lethe_segment.specs.Segments.{Ascends}
use Rattle.lethe_load.specs.Damaged.{IsReplayed, IsSoundSegment, IsDamagedSegment}
use Rattle.lethe_load.specs.Refused.{MayFail, IsUnsound}
use Rattle.lethe_load.proofs.Refusals.{err_moved, fails_so}
use Rattle.lethe_load.proofs.Orders.{follows_more, first_bad, zip_more}
use Rattle.lethe_load.proofs.reading.load_segments.Goals as goal

pub loop-place-init : goal.loop-place-init
loop-place-init g c =
    let d = (g.D.Disk.seen c.args.disk.now).directory in
    let none = sym c.new-segments.ensures.items in
    record {
      count = ap length c.new-segments.ensures.items;
      ascends = subst (All (Ascends 0)) none (All-nil (Ascends 0));
      found = λ told. subst (AllZip (IsReplayed d) []) none tt;
      sound = λ told. follows_none (IsSoundSegment d);
      quiet = λ told. quiet_itself (g.D.Disk.seen c.args.disk.now);
      faults = omega arith;
    }

pub load_next_segment-requires-clause-listed : goal.load_next_segment-requires-clause-listed
load_next_segment-requires-clause-listed g c κs within = λ told. c.requires.listed told ∙ ap keys (sym (c.loop-place.invariant.quiet told).directory)

pub loop-place-preserved : goal.loop-place-preserved
loop-place-preserved g c =
    let d = (g.D.Disk.seen c.args.disk.now).directory in
    let i = c.loop-place.place in
    let numbers = c.args.numbers.now in
    let number = get_or numbers i 0 in
    let lt : i < length numbers = c.loop-place-test.true in
    let is : number ≡ get_or numbers i number = get_or_default numbers i 0 number lt in
    let old = c.loop-place.segments.items in
    let records = c.in_ok-records.records.items in
    let pushed : c.push.new.self.items ≡ old ++ records ∷ [] = c.in_ok-push.ensures.items ∙ ap (λ r. old ++ r ∷ []) c.of.ensures in
    record {
      count = ap length pushed ∙ length-append old (records ∷ []) ∙ ap (λ n. n + 1) c.loop-place.invariant.count;
      ascends = subst (All (Ascends 0)) (sym pushed) (All-push (Ascends 0) old records c.loop-place.invariant.ascends c.in_ok-records.ensures.ascends);
      found = λ told.
          zip_more (IsReplayed d) numbers i number old c.push.new.self.items records lt is pushed (c.loop-place.invariant.found told)
          (subst (λ e. IsReplayed e number records) (c.loop-place.invariant.quiet told).directory (c.in_ok-records.ensures.found told));
      sound = λ told.
          follows_more (IsSoundSegment d) numbers i number lt is (c.loop-place.invariant.sound told)
          (subst (λ e. IsSoundSegment e (take i numbers) number) (c.loop-place.invariant.quiet told).directory
          (subst (λ earlier. IsSoundSegment (g.D.Disk.seen c.loop-place.disk).directory earlier number) c.split_at.ensures.front (c.in_ok-records.ensures.sound told)));
      quiet = λ told. quiet_then (g.D.Disk.seen c.args.disk.now) (g.D.Disk.seen c.loop-place.disk) (g.D.Disk.seen c.load_next_segment.new.disk) (c.loop-place.invariant.quiet told) (c.load_next_segment.ensures.quiet told);
      faults = omega (arith, c.loop-place.invariant.faults, c.load_next_segment.ensures.faults);
    }

pub returns-in_err-records-clause-refused : goal.returns-in_err-records-clause-refused
returns-in_err-records-clause-refused g c =
    let d = (g.D.Disk.seen c.args.disk.now).directory in
    let mid = (g.D.Disk.seen c.loop-place.disk).directory in
    let i = c.loop-place.place in
    let numbers = c.args.numbers.now in
    let number = get_or numbers i 0 in
    let earlier = c.split_at.result.0.now in
    let is : number ≡ get_or numbers i number = get_or_default numbers i 0 number c.loop-place-test.true in
    err_moved c.from_residual.result c.in_err-records.field-0.0 (MayFail g.D.Disk.tells (IsDamagedSegment d numbers) c.args.listing.now.faults (g.D.Disk.faults c.load_next_segment.new.disk)) c.from_residual.ensures.1
    (fails_so g.D.Disk.tells (IsUnsound mid earlier number) (IsDamagedSegment d numbers) c.args.listing.now.faults (g.D.Disk.faults c.load_next_segment.new.disk) c.in_err-records.field-0.0
    (λ told name bad. (
      take i numbers,
      number,
      first_bad (IsSoundSegment d) numbers i number c.loop-place-test.true is (c.loop-place.invariant.sound told) (λ sound.
          bad.1 (subst (λ e. IsSoundSegment e earlier number) (sym (c.loop-place.invariant.quiet told).directory) (subst (λ l. IsSoundSegment d l number) (sym c.split_at.ensures.front) sound))),
      bad.0,
    )) c.in_err-records.ensures.refused)

pub returns-in_err-records-clause-quiet : goal.returns-in_err-records-clause-quiet
returns-in_err-records-clause-quiet g c = λ told. quiet_then (g.D.Disk.seen c.args.disk.now) (g.D.Disk.seen c.loop-place.disk) (g.D.Disk.seen c.load_next_segment.new.disk) (c.loop-place.invariant.quiet told) (c.load_next_segment.ensures.quiet told)

pub returns-in_err-push-clause-quiet : goal.returns-in_err-push-clause-quiet
returns-in_err-push-clause-quiet g c = λ told. quiet_then (g.D.Disk.seen c.args.disk.now) (g.D.Disk.seen c.loop-place.disk) (g.D.Disk.seen c.load_next_segment.new.disk) (c.loop-place.invariant.quiet told) (c.load_next_segment.ensures.quiet told)
