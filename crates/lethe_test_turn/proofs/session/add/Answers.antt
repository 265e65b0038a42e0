use Rattle.std.proofs.Common.{◌≡◌, [], ◌∷◌, length, sym, ap, ◌∙◌, subst, arith}
use Rattle.lethe_turn.specs.Seats.{entered, HasSeenMore}
use Rattle.lethe_test_turn.specs.Sums.{addition, added_to, Since}
use Rattle.lethe_test_turn.specs.Sessions.{IsKnown}
use Rattle.lethe_test_turn.proofs.Adds.{since_added, more_passed, known_reason}
use Rattle.lethe_test_turn.proofs.session.add.Goals as goal

pub enter-place-requires-clause-room : goal.enter-place-requires-clause-room
enter-place-requires-clause-room g c = let r = c.requires.ready.1 in let more = c.take-held.ensures.more in
    let s = (c.take-held.ensures.since r.0 (more.opened ∙ r.1)).count in let start : c.take-held.new.seat.me.0.start ≡ r.0.count = more.start ∙ r.2 in
    let one : length c.in-Ok.said.items ≡ 1 = ap length c.in-Ok.ensures.added.0 in let few = c.in-Ok.ensures.added.1 in omega arith

pub pass-requires-clause-since : goal.pass-requires-clause-since
pass-requires-clause-since g c o op = let t = c.take-held.new.seat.me.0 in let w = c.enter-place.new.seat.me.0 in let told = c.in-Ok.ensures.added in
    let now : w ≡ entered (addition c.args.by c.args.amount ∷ []) t = ap (λ m. m.0) c.enter-place.ensures.entered ∙ ap (λ l. entered l t) told.0 in
    subst (λ x. Since o w.seen w.noted x) (sym told.2)
    (subst (λ v. Since o v.seen v.noted (added_to c.args.amount c.take-held.result.value)) (sym now)
    (since_added o t.seen t.noted c.take-held.result.value c.args.by c.args.amount (c.take-held.ensures.since o (sym (ap (λ v. v.opened) now) ∙ op))))

pub pass-requires-in-Err-clause-since : goal.pass-requires-in-Err-clause-since
pass-requires-in-Err-clause-since g c o op = let t = c.take-held.new.seat.me.0 in subst (λ x. Since o t.seen t.noted x) (sym c.in-Err.ensures.refused.0) (c.take-held.ensures.since o op)

pub returns-in-Err-clause-refused : goal.returns-in-Err-clause-refused
returns-in-Err-clause-refused g c = let t = c.take-held.new.seat.me.0 in let r = c.requires.ready.1 in let more = c.take-held.ensures.more in let knows = c.take-held.ensures.knows in (
  subst (λ m. HasSeenMore c.args.seat.now.me.0 m.0) (sym c.pass-in-Err.ensures.passed) (more_passed c.args.seat.now.me.0 t more),
  subst (λ m. IsKnown c.in-Err.why m.0) (sym c.pass-in-Err.ensures.passed) (known_reason c.in-Err.why t r.0 c.take-held.result.value c.in-Err.ensures.refused.1 r.3 (c.take-held.ensures.since r.0 (more.opened ∙ r.1)) knows.own knows.others),
)
