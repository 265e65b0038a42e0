use Rattle.std.proofs.Common.{rules, ◌≡◌, ◌+◌, [], ◌∷◌, ◌++◌, length, None, Some, refl, sym, ap, ◌∙◌, subst, arith}
use Rattle.lethe_core.specs.View.{Face, View, face_of, view_of}
use Rattle.lethe_engine.specs.Along.{IsEnded}
use Rattle.lethe_changes.specs.Changes.{AnswersAll, counts_of}
use Rattle.lethe_changes.proofs.Making.{IsFresh, IsMade, all_made, calls_of_all, fresh_at_first, never_fresh, none_yet, one_longer_by, one_made, one_refused, row_ended, row_left, row_made, row_many, row_went, row_went_written, written_all}
use Rattle.lethe_changes.proofs.Rounds.{no_rounds, round_made}
use Rattle.lethe_changes.proofs.changes.make_all.Goals as goal

pub loop-alloc-init : goal.loop-alloc-init
loop-alloc-init g c =
    let old = view_of c.args.engine.now.core in
    let all : c.from-left.result.items ≡ c.args.asked.items = search rules in
    record {
      so_far = ([], refl, subst (λ left. IsMade g.D.Disk.tells old c.args.asked.items [] left old) (sym all) (none_yet g.D.Disk.tells old c.args.asked.items c.requires), no_rounds g.D.Disk.tells old (g.D.Disk.fetches c.args.port.now));
      fresh = λ room. subst (λ left. IsFresh g.D.Disk.tells old c.args.asked.items left old) (sym all) (fresh_at_first g.D.Disk.tells old c.args.asked.items room);
      port_faults = omega arith;
      fetches = omega arith;
      certificates = refl;
      pins = refl;
    }

-- A row was refused

pub returns-then-is_some-clause-answers : goal.returns-then-is_some-clause-answers
returns-then-is_some-clause-answers g c =
    let so_far = c.loop-alloc.invariant.so_far in
    let row = c.change_row-row in
    row_ended g.D.Disk.tells g.D.Disk.ports_fail (view_of c.args.engine.now.core) c.args.asked.items so_far.0 c.loop-alloc.left.items (view_of c.loop-alloc.engine.core) so_far.2
    (counts_of (g.D.Disk.fetches c.args.port.now) (g.D.Disk.port_faults c.args.port.now)) (counts_of (g.D.Disk.fetches c.loop-alloc.port) (g.D.Disk.port_faults c.loop-alloc.port)) c.loop-alloc.invariant.port_faults so_far.3
    row.new.asked.items row.result.done c.loop-alloc.done (view_of row.new.self.core) row.result.refused row.ensures.pins so_far.1 (sym c.is_some.ensures ∙ c.if-is_some.true) row.ensures.answers

-- All were made

pub returns-in_default-clause-answers : goal.returns-in_default-clause-answers
returns-in_default-clause-answers g c =
    let tells = g.D.Disk.tells in
    let Ports = g.D.Disk.ports_fail in
    let old = view_of c.args.engine.now.core in
    let mid : View = view_of c.loop-alloc.engine.core in
    let so_far = c.loop-alloc.invariant.so_far in
    let row = c.change_row-row in
    let new : View = view_of row.new.self.core in
    let left = row.new.asked.items in
    let went = row_went tells Ports old c.args.asked.items so_far.0 c.loop-alloc.left.items mid so_far.2 left row.result.done new row.result.refused (sym c.is_some.ensures ∙ c.if-is_some.false) row.ensures.answers in
    let made = row_made tells Ports old c.args.asked.items so_far.0 c.loop-alloc.left.items mid so_far.2 left row.result.done new went row.ensures.pins in
    let many = row_many tells Ports old c.args.asked.items so_far.0 c.loop-alloc.left.items mid so_far.2 left row.result.done c.loop-alloc.done new so_far.1 went in
    let none : row.new.asked.items ≡ [] = search rules in
    let before = counts_of (g.D.Disk.fetches c.args.port.now) (g.D.Disk.port_faults c.args.port.now) in
    let now = counts_of (g.D.Disk.fetches c.loop-alloc.port) (g.D.Disk.port_faults c.loop-alloc.port) in
    let calls = calls_of_all tells old mid new c.args.asked.items c.loop-alloc.left.items left row.result.done c.loop-alloc.invariant.fresh went none in
    let rows = row_went_written tells old mid new so_far.0 c.loop-alloc.left.items left row.result.done None before.fetches now.fetches went so_far.3 in
    let written = written_all tells old mid new c.args.asked.items c.loop-alloc.left.items left row.result.done c.loop-alloc.invariant.fresh went none in
    subst (λ n. AnswersAll tells Ports c.args.asked.items n None before now old new) many (all_made tells Ports old c.args.asked.items (so_far.0 ++ went.row.made) left new made before now none rows calls written)

-- One more, which made room

pub loop-alloc-smaller : goal.loop-alloc-smaller
loop-alloc-smaller g c =
    let so_far = c.loop-alloc.invariant.so_far in
    let row = c.change_row-row in
    let went =
    row_went g.D.Disk.tells g.D.Disk.ports_fail (view_of c.args.engine.now.core) c.args.asked.items so_far.0 c.loop-alloc.left.items (view_of c.loop-alloc.engine.core) so_far.2 row.new.asked.items row.result.done
    (view_of row.new.self.core) row.result.refused (sym c.is_some.ensures ∙ c.if-is_some.false) row.ensures.answers in
    let fewer =
    row_left g.D.Disk.tells g.D.Disk.ports_fail (view_of c.args.engine.now.core) c.args.asked.items so_far.0 c.loop-alloc.left.items (view_of c.loop-alloc.engine.core) so_far.2 row.new.asked.items row.result.done
    (view_of row.new.self.core) went in
    let popped : row.new.asked.items ≡ c.in-Some.change ∷ c.pop_front.new.self.items = c.in-Some.ensures.items in
    let one = ap length popped in
    omega (arith, fewer, one)

pub loop-alloc-preserved : goal.loop-alloc-preserved
loop-alloc-preserved g c =
    let tells = g.D.Disk.tells in
    let Ports = g.D.Disk.ports_fail in
    let old = view_of c.args.engine.now.core in
    let mid : View = view_of c.loop-alloc.engine.core in
    let so_far = c.loop-alloc.invariant.so_far in
    let row = c.change_row-row in
    let new : View = view_of row.new.self.core in
    let then : View = view_of c.change_one.new.engine.core in
    let went = row_went tells Ports old c.args.asked.items so_far.0 c.loop-alloc.left.items mid so_far.2 row.new.asked.items row.result.done new row.result.refused (sym c.is_some.ensures ∙ c.if-is_some.false) row.ensures.answers in
    let made = row_made tells Ports old c.args.asked.items so_far.0 c.loop-alloc.left.items mid so_far.2 row.new.asked.items row.result.done new went row.ensures.pins in
    let many = row_many tells Ports old c.args.asked.items so_far.0 c.loop-alloc.left.items mid so_far.2 row.new.asked.items row.result.done c.loop-alloc.done new so_far.1 went in
    record {
      so_far = (
        (so_far.0 ++ went.row.made) ++ c.in-Some.change ∷ [],
        one_longer_by (so_far.0 ++ went.row.made) c.in-Some.change (c.loop-alloc.done + row.result.done) many,
        one_made tells Ports old c.args.asked.items (so_far.0 ++ went.row.made) row.new.asked.items new made c.in-Some.change c.pop_front.new.self.items c.in-Some.ensures.items
            then c.change_one.ensures.pins c.in-Ok.ensures.answers,
        round_made tells old mid new then so_far.0 c.loop-alloc.left.items row.new.asked.items c.pop_front.new.self.items row.result.done c.in-Some.change (face_of new) (g.D.Disk.fetches c.args.port.now) (g.D.Disk.fetches c.loop-alloc.port)
            (g.D.Disk.fetches c.change_one.new.port) went c.in-Some.ensures.items (ap (λ (face : Face). face.flights) made.face) made.pins c.in-Ok.ensures.answers c.in-Ok.ensures.written so_far.3,
      );
      fresh = never_fresh tells old mid new then c.args.asked.items c.loop-alloc.left.items row.new.asked.items c.pop_front.new.self.items c.pop_front.new.self.items row.result.done c.in-Some.change
          (face_of new) c.loop-alloc.invariant.fresh went c.in-Some.ensures.items c.in-Ok.ensures.answers;
      port_faults = let was = c.loop-alloc.invariant.port_faults in let more = c.change_one.ensures.port_faults in omega (arith, was, more);
      fetches = let was = c.loop-alloc.invariant.fetches in let more = c.change_one.ensures.fetches in omega (arith, was, more);
      certificates = c.change_one.ensures.certificates ∙ row.ensures.certificates ∙ c.loop-alloc.invariant.certificates;
      pins = c.change_one.ensures.pins ∙ row.ensures.pins ∙ c.loop-alloc.invariant.pins;
    }

-- It wasn't made

pub returns-in-Err-clause-answers : goal.returns-in-Err-clause-answers
returns-in-Err-clause-answers g c =
    let tells = g.D.Disk.tells in
    let Ports = g.D.Disk.ports_fail in
    let old = view_of c.args.engine.now.core in
    let mid : View = view_of c.loop-alloc.engine.core in
    let so_far = c.loop-alloc.invariant.so_far in
    let row = c.change_row-row in
    let new : View = view_of row.new.self.core in
    let then : View = view_of c.change_one.new.engine.core in
    let went = row_went tells Ports old c.args.asked.items so_far.0 c.loop-alloc.left.items mid so_far.2 row.new.asked.items row.result.done new row.result.refused (sym c.is_some.ensures ∙ c.if-is_some.false) row.ensures.answers in
    let made = row_made tells Ports old c.args.asked.items so_far.0 c.loop-alloc.left.items mid so_far.2 row.new.asked.items row.result.done new went row.ensures.pins in
    let many = row_many tells Ports old c.args.asked.items so_far.0 c.loop-alloc.left.items mid so_far.2 row.new.asked.items row.result.done c.loop-alloc.done new so_far.1 went in
    let first = counts_of (g.D.Disk.fetches c.args.port.now) (g.D.Disk.port_faults c.args.port.now) in
    let before = counts_of (g.D.Disk.fetches c.loop-alloc.port) (g.D.Disk.port_faults c.loop-alloc.port) in
    let now = counts_of (g.D.Disk.fetches c.change_one.new.port) (g.D.Disk.port_faults c.change_one.new.port) in
    subst (λ n. AnswersAll tells Ports c.args.asked.items n (Some c.in-Err.why) first now old then) many
    (one_refused tells Ports old c.args.asked.items (so_far.0 ++ went.row.made) row.new.asked.items new made c.in-Some.change c.pop_front.new.self.items c.in-Some.ensures.items then c.change_one.ensures.pins
    first before now c.loop-alloc.invariant.port_faults c.change_one.ensures.fetches c.in-Err.why
    (row_went_written tells old mid new so_far.0 c.loop-alloc.left.items row.new.asked.items row.result.done (Some c.in-Err.why) first.fetches before.fetches went so_far.3) c.in-Err.ensures.answers c.in-Err.ensures.why)

-- Where a page is told as damaged

pub returns-then-is_some-clause-damaged : goal.returns-then-is_some-clause-damaged
returns-then-is_some-clause-damaged g c = λ name is.
    let says = c.change_row-row.ensures.answers in
    absurd (subst (λ r. IsEnded r says.row.rest c.change_row-row.new.asked.items says.row.failed (view_of c.loop-alloc.engine.core) (view_of c.change_row-row.new.self.core)) is says.row.ended)
