use Rattle.std.proofs.Common.{rules, ◌≡◌, ◌≤◌, inl, inr, ℕ, ◌+◌, [], ◌∷◌, ◌++◌, List, length, Option, Some, None, true, false, refl, sym, ap, ◌∙◌, subst, arith, append-nil}
use Rattle.std.specs.Prelude.{IfSome, is_some, vec_capacity, vec_len}
use Rattle.std.specs.List.{range_with_len}
use Rattle.std.specs.Result.{result_err}
use Rattle.lethe_core.specs.Asked.{Makes}
use Rattle.lethe_engine.specs.ChangeRows.{call_of}
use Rattle.lethe_turn.specs.Seats.{count_of}
use Rattle.lethe_store.specs.Diary.{spent_by}
use Rattle.lethe_store.specs.Entries.{entries_by}
use Rattle.lethe_store.specs.StoreViews.{store_view}
use Rattle.lethe_store.specs.Reasons.{AreLater, HasReasonOfChange, counts_of}
use Rattle.lethe_store.specs.Rows.{HasMadeAll, HasMadeRow}
use Rattle.lethe_store.specs.Sessions.{HasDone}
use Rattle.lethe_store.proofs.Behind.{err_of, ok_of}
use Rattle.lethe_store.proofs.Listed.{IsListed, ended_by_change, ended_if, ended_waiting, ended_whole, few_behind, later_then, left_listed, listed_by_change, listed_by_row, no_both, no_items, none_is, reason_listed, same_listed, same_why, still_stopped}
use Rattle.lethe_store.proofs.listing.Store+D+Changes.change_each.Goals as goal

pub returns-then-not-fill-clause-made : goal.returns-then-not-fill-clause-made
returns-then-not-fill-clause-made g c =
    let l = c.loop-alloc in let caller = c.args.session.now.caller in let asked = c.args.left.items in
    let v = c.args.session.now.seat.me.0 in let w = l.session.seat.me.0 in
    ended_waiting caller asked l.places.items (l.row.items ++ l.left.items) v w l.invariant.listed (c.fill.ensures.some c.if-not-fill.true)

pub returns-then-not-fill-clause-stopped : goal.returns-then-not-fill-clause-stopped
returns-then-not-fill-clause-stopped g c =
    let l = c.loop-alloc in let caller = c.args.session.now.caller in let asked = c.args.left.items in
    let v = c.args.session.now.seat.me.0 in let w = l.session.seat.me.0 in
    λ at stopped. (l.invariant.stopped at stopped, inl refl)

pub returns-then-is_some-clause-made : goal.returns-then-is_some-clause-made
returns-then-is_some-clause-made g c =
    let l = c.loop-alloc in let caller = c.args.session.now.caller in let asked = c.args.left.items in
    let v = c.args.session.now.seat.me.0 in let w = l.session.seat.me.0 in
    let listed = same_listed caller asked l.places.items (l.row.items ++ l.left.items) (c.fill.new.row.items ++ c.fill.new.left.items) v w (sym (c.fill.ensures.same c.if-not-fill.false)) l.invariant.listed in
    let few = c.fill.ensures.short l.invariant.few in
    let row = c.change_row-made in let u = row.new.session.seat.me.0 in
    let made = subst (λ n. HasMadeRow n c.fill.new.row.items row.new.asked.items row.result.count row.result.row.done row.result.row.refused w u) l.invariant.of.1 row.ensures.made in
    let some = sym c.is_some.ensures ∙ c.if-is_some.true in
    subst (λ p. HasMadeAll caller asked p row.result.row.refused v u) (sym c.append_places.ensures.items)
    (ended_if caller asked l.places.items c.fill.new.row.items c.fill.new.left.items v w listed row.result.count row.result.row.done row.new.asked.items row.result.row.refused u made few some g.D.Disk.tells g.D.Disk.ports_fail (λ o. store_view o.engine) (counts_of (g.D.Disk.fetches row.new.session.port) (g.D.Disk.port_faults row.new.session.port)) (counts_of (g.D.Disk.fetches row.new.session.port) (g.D.Disk.port_faults row.new.session.port)) row.ensures.why)

pub returns-then-is_some-clause-stopped : goal.returns-then-is_some-clause-stopped
returns-then-is_some-clause-stopped g c =
    let l = c.loop-alloc in let caller = c.args.session.now.caller in let asked = c.args.left.items in
    let v = c.args.session.now.seat.me.0 in let w = l.session.seat.me.0 in
    let row = c.change_row-made in let u = row.new.session.seat.me.0 in
    let made = subst (λ n. HasMadeRow n c.fill.new.row.items row.new.asked.items row.result.count row.result.row.done row.result.row.refused w u) l.invariant.of.1 row.ensures.made in
    λ at stopped.
    let idle = row.ensures.stopped at (still_stopped caller asked l.places.items (l.row.items ++ l.left.items) v w l.invariant.listed (λ o. store_view o.engine) at stopped) in
    let some = sym c.is_some.ensures ∙ c.if-is_some.true in
    absurd (let clash = sym some ∙ ap is_some idle.1 in cc)

pub returns-then-is_some-clause-why : goal.returns-then-is_some-clause-why
returns-then-is_some-clause-why g c =
    let l = c.loop-alloc in let caller = c.args.session.now.caller in let asked = c.args.left.items in
    let v = c.args.session.now.seat.me.0 in let w = l.session.seat.me.0 in
    let row = c.change_row-made in let u = row.new.session.seat.me.0 in
    let made = subst (λ n. HasMadeRow n c.fill.new.row.items row.new.asked.items row.result.count row.result.row.done row.result.row.refused w u) l.invariant.of.1 row.ensures.made in
    reason_listed g.D.Disk.tells g.D.Disk.ports_fail (λ o. store_view o.engine) u (counts_of (g.D.Disk.fetches c.args.session.now.port) (g.D.Disk.port_faults c.args.session.now.port)) (counts_of (g.D.Disk.fetches row.new.session.port) (g.D.Disk.port_faults row.new.session.port)) (counts_of (g.D.Disk.fetches row.new.session.port) (g.D.Disk.port_faults row.new.session.port)) row.result.row.refused (subst (λ p. AreLater (counts_of (g.D.Disk.fetches c.args.session.now.port) (g.D.Disk.port_faults c.args.session.now.port)) (counts_of (g.D.Disk.fetches p) (g.D.Disk.port_faults p))) (sym row.ensures.of.2) l.invariant.counts) row.ensures.why

pub returns-then-is_empty-clause-made : goal.returns-then-is_empty-clause-made
returns-then-is_empty-clause-made g c =
    let l = c.loop-alloc in let caller = c.args.session.now.caller in let asked = c.args.left.items in
    let v = c.args.session.now.seat.me.0 in let w = l.session.seat.me.0 in
    let listed = same_listed caller asked l.places.items (l.row.items ++ l.left.items) (c.fill.new.row.items ++ c.fill.new.left.items) v w (sym (c.fill.ensures.same c.if-not-fill.false)) l.invariant.listed in
    let few = c.fill.ensures.short l.invariant.few in
    let row = c.change_row-made in let u = row.new.session.seat.me.0 in
    let made = subst (λ n. HasMadeRow n c.fill.new.row.items row.new.asked.items row.result.count row.result.row.done row.result.row.refused w u) l.invariant.of.1 row.ensures.made in
    let none = none_is row.result.row.refused (sym c.is_some.ensures ∙ c.if-is_some.false) in
    let on = listed_by_row caller asked l.places.items c.fill.new.row.items c.fill.new.left.items v w listed row.result.count row.result.row.done row.new.asked.items row.result.row.refused u made few none in
    let places : c.append_places.new.places.items ≡ l.places.items ++ range_with_len (row.result.count + 1) row.result.row.done = c.append_places.ensures.items in
    let listed_on = subst (λ p. IsListed caller asked p (row.new.asked.items ++ c.fill.new.left.items) v u) (sym places) on in
    let empty : row.new.asked.items ≡ [] = search rules in
    let none_left = no_items c.fill.new.left.items (let ok = c.fill.new.left.ok.0 in let none = c.is_empty.ensures in let is = c.if-is_empty.true in search rules) in
    ended_whole caller asked c.append_places.new.places.items (row.new.asked.items ++ c.fill.new.left.items) v u listed_on ((λ i. empty i ++ none_left i))

pub returns-then-is_empty-clause-stopped : goal.returns-then-is_empty-clause-stopped
returns-then-is_empty-clause-stopped g c =
    let l = c.loop-alloc in let caller = c.args.session.now.caller in let asked = c.args.left.items in
    let v = c.args.session.now.seat.me.0 in let w = l.session.seat.me.0 in
    let row = c.change_row-made in let u = row.new.session.seat.me.0 in
    let made = subst (λ n. HasMadeRow n c.fill.new.row.items row.new.asked.items row.result.count row.result.row.done row.result.row.refused w u) l.invariant.of.1 row.ensures.made in
    λ at stopped. (
      let idle = row.ensures.stopped at (still_stopped caller asked l.places.items (l.row.items ++ l.left.items) v w l.invariant.listed (λ o. store_view o.engine) at stopped) in
          c.append_places.ensures.items ∙ (λ i. l.invariant.stopped at stopped i ++ range_with_len (row.result.count + 1) (idle.0 i)),
      tt,
    )

pub loop-alloc-preserved-in_default : goal.loop-alloc-preserved-in_default
loop-alloc-preserved-in_default g c =
    let l = c.loop-alloc in let caller = c.args.session.now.caller in let asked = c.args.left.items in
    let v = c.args.session.now.seat.me.0 in let w = l.session.seat.me.0 in
    let listed = same_listed caller asked l.places.items (l.row.items ++ l.left.items) (c.fill.new.row.items ++ c.fill.new.left.items) v w (sym (c.fill.ensures.same c.if-not-fill.false)) l.invariant.listed in
    let few = c.fill.ensures.short l.invariant.few in
    let row = c.change_row-made in let u = row.new.session.seat.me.0 in
    let made = subst (λ n. HasMadeRow n c.fill.new.row.items row.new.asked.items row.result.count row.result.row.done row.result.row.refused w u) l.invariant.of.1 row.ensures.made in
    let none = none_is row.result.row.refused (sym c.is_some.ensures ∙ c.if-is_some.false) in
    let on = listed_by_row caller asked l.places.items c.fill.new.row.items c.fill.new.left.items v w listed row.result.count row.result.row.done row.new.asked.items row.result.row.refused u made few none in
    let places : c.append_places.new.places.items ≡ l.places.items ++ range_with_len (row.result.count + 1) row.result.row.done = c.append_places.ensures.items in
    let listed_on = subst (λ p. IsListed caller asked p (row.new.asked.items ++ c.fill.new.left.items) v u) (sym places) on in
    let e = ap length (c.fill.ensures.same c.if-not-fill.false) in
    let gone = left_listed caller c.fill.new.row.items row.new.asked.items c.fill.new.left.items row.result.count row.result.row.done w u (subst (λ r. HasMadeRow caller c.fill.new.row.items row.new.asked.items row.result.count row.result.row.done r w u) none made) in
    let len = c.append_places.ensures.len in let before = l.invariant.len in
    let kept : row.new.asked.items ≡ c.pop_front.new.self.items = search rules in
    let fewer = ap length kept in let same_left = ap (λ r. length (r ++ c.fill.new.left.items)) kept in
    record {
      of = (row.ensures.of.0 ∙ l.invariant.of.0, row.ensures.of.1 ∙ l.invariant.of.1);
      ready = row.ensures.ready;
      listed = same_listed caller asked c.append_places.new.places.items (row.new.asked.items ++ c.fill.new.left.items) (c.pop_front.new.self.items ++ c.fill.new.left.items) v u (ap (λ r. r ++ c.fill.new.left.items) kept) listed_on;
      few = (let behind = few_behind caller c.fill.new.row.items row.new.asked.items row.result.count row.result.row.done w u (subst (λ r. HasMadeRow caller c.fill.new.row.items row.new.asked.items row.result.count row.result.row.done r w u) none made) few in omega (arith, behind, fewer));
      len = omega (arith, len, before, gone, e, same_left);
      room = subst (λ n. length asked ≤ n) (sym c.append_places.ensures.capacity) l.invariant.room;
      stopped = λ at stopped.
          let idle = row.ensures.stopped at (still_stopped caller asked l.places.items (l.row.items ++ l.left.items) v w l.invariant.listed (λ o. store_view o.engine) at stopped) in
          c.append_places.ensures.items ∙ (λ i. l.invariant.stopped at stopped i ++ range_with_len (row.result.count + 1) (idle.0 i));
      counts = (subst (λ p. AreLater (counts_of (g.D.Disk.fetches c.args.session.now.port) (g.D.Disk.port_faults c.args.session.now.port)) (counts_of (g.D.Disk.fetches p) (g.D.Disk.port_faults p))) (sym row.ensures.of.2) l.invariant.counts);
    }

pub push_reserved-requires : goal.push_reserved-requires
push_reserved-requires g c =
    let l = c.loop-alloc in let caller = c.args.session.now.caller in let asked = c.args.left.items in
    let v = c.args.session.now.seat.me.0 in let w = l.session.seat.me.0 in
    let listed = same_listed caller asked l.places.items (l.row.items ++ l.left.items) (c.fill.new.row.items ++ c.fill.new.left.items) v w (sym (c.fill.ensures.same c.if-not-fill.false)) l.invariant.listed in
    let few = c.fill.ensures.short l.invariant.few in
    let row = c.change_row-made in let u = row.new.session.seat.me.0 in
    let made = subst (λ n. HasMadeRow n c.fill.new.row.items row.new.asked.items row.result.count row.result.row.done row.result.row.refused w u) l.invariant.of.1 row.ensures.made in
    let none = none_is row.result.row.refused (sym c.is_some.ensures ∙ c.if-is_some.false) in
    let on = listed_by_row caller asked l.places.items c.fill.new.row.items c.fill.new.left.items v w listed row.result.count row.result.row.done row.new.asked.items row.result.row.refused u made few none in
    let listed_on = subst (λ p. IsListed caller asked p (row.new.asked.items ++ c.fill.new.left.items) v u) (sym c.append_places.ensures.items) on in
    let made_none = subst (λ r. HasMadeRow caller c.fill.new.row.items row.new.asked.items row.result.count row.result.row.done r w u) none made in
    let gone = left_listed caller c.fill.new.row.items row.new.asked.items c.fill.new.left.items row.result.count row.result.row.done w u made_none in
    let e = ap length (c.fill.ensures.same c.if-not-fill.false) in
    let popped = ap (λ b. length (b ++ c.fill.new.left.items)) c.in-Some.ensures.items in
    let len = c.append_places.ensures.len in let before = l.invariant.len in let capacity = c.append_places.ensures.capacity in let room = l.invariant.room in
    omega (arith, gone, e, popped, len, before, capacity, room)

pub loop-alloc-smaller : goal.loop-alloc-smaller
loop-alloc-smaller g c =
    let l = c.loop-alloc in let caller = c.args.session.now.caller in let asked = c.args.left.items in
    let v = c.args.session.now.seat.me.0 in let w = l.session.seat.me.0 in
    let listed = same_listed caller asked l.places.items (l.row.items ++ l.left.items) (c.fill.new.row.items ++ c.fill.new.left.items) v w (sym (c.fill.ensures.same c.if-not-fill.false)) l.invariant.listed in
    let few = c.fill.ensures.short l.invariant.few in
    let row = c.change_row-made in let u = row.new.session.seat.me.0 in
    let made = subst (λ n. HasMadeRow n c.fill.new.row.items row.new.asked.items row.result.count row.result.row.done row.result.row.refused w u) l.invariant.of.1 row.ensures.made in
    let none = none_is row.result.row.refused (sym c.is_some.ensures ∙ c.if-is_some.false) in
    let on = listed_by_row caller asked l.places.items c.fill.new.row.items c.fill.new.left.items v w listed row.result.count row.result.row.done row.new.asked.items row.result.row.refused u made few none in
    let listed_on = subst (λ p. IsListed caller asked p (row.new.asked.items ++ c.fill.new.left.items) v u) (sym c.append_places.ensures.items) on in
    let made_none = subst (λ r. HasMadeRow caller c.fill.new.row.items row.new.asked.items row.result.count row.result.row.done r w u) none made in
    let gone = left_listed caller c.fill.new.row.items row.new.asked.items c.fill.new.left.items row.result.count row.result.row.done w u made_none in
    let e = ap length (c.fill.ensures.same c.if-not-fill.false) in
    let popped = ap (λ b. length (b ++ c.fill.new.left.items)) c.in-Some.ensures.items in
    let len = c.append_places.ensures.len in let before = l.invariant.len in let capacity = c.append_places.ensures.capacity in let room = l.invariant.room in
    omega (arith, gone, e, popped)

pub loop-alloc-preserved : goal.loop-alloc-preserved
loop-alloc-preserved g c =
    let l = c.loop-alloc in let caller = c.args.session.now.caller in let asked = c.args.left.items in
    let v = c.args.session.now.seat.me.0 in let w = l.session.seat.me.0 in
    let listed = same_listed caller asked l.places.items (l.row.items ++ l.left.items) (c.fill.new.row.items ++ c.fill.new.left.items) v w (sym (c.fill.ensures.same c.if-not-fill.false)) l.invariant.listed in
    let few = c.fill.ensures.short l.invariant.few in
    let row = c.change_row-made in let u = row.new.session.seat.me.0 in
    let made = subst (λ n. HasMadeRow n c.fill.new.row.items row.new.asked.items row.result.count row.result.row.done row.result.row.refused w u) l.invariant.of.1 row.ensures.made in
    let none = none_is row.result.row.refused (sym c.is_some.ensures ∙ c.if-is_some.false) in
    let on = listed_by_row caller asked l.places.items c.fill.new.row.items c.fill.new.left.items v w listed row.result.count row.result.row.done row.new.asked.items row.result.row.refused u made few none in
    let listed_on = subst (λ p. IsListed caller asked p (row.new.asked.items ++ c.fill.new.left.items) v u) (sym c.append_places.ensures.items) on in
    let made_none = subst (λ r. HasMadeRow caller c.fill.new.row.items row.new.asked.items row.result.count row.result.row.done r w u) none made in
    let gone = left_listed caller c.fill.new.row.items row.new.asked.items c.fill.new.left.items row.result.count row.result.row.done w u made_none in
    let e = ap length (c.fill.ensures.same c.if-not-fill.false) in
    let popped = ap (λ b. length (b ++ c.fill.new.left.items)) c.in-Some.ensures.items in
    let len = c.append_places.ensures.len in let before = l.invariant.len in let capacity = c.append_places.ensures.capacity in let room = l.invariant.room in
    let x = c.change.new.session.seat.me.0 in let rest = c.pop_front.new.self.items ++ c.fill.new.left.items in
    let listed_next = same_listed caller asked c.append_places.new.places.items (row.new.asked.items ++ c.fill.new.left.items) (c.in-Some.change ∷ rest) v u (ap (λ b. b ++ c.fill.new.left.items) c.in-Some.ensures.items) listed_on in
    let whose = row.ensures.of.1 ∙ l.invariant.of.1 in
    let done = subst (λ n. HasDone (entries_by n (Makes (call_of c.in-Some.change)) (result_err c.change.result)) (spent_by (result_err c.change.result)) u x) whose c.change.ensures.done in
    let done_ok = subst (λ r. HasDone (entries_by caller (Makes (call_of c.in-Some.change)) (result_err r)) (spent_by (result_err r)) u x) c.in-Ok.is done in
    let here = ok_of (λ p. p ≡ count_of x) c.change.result c.change.ensures.place c.in-Ok.place c.in-Ok.is in
    let pushed = c.push_reserved.ensures.len in let fewer = few_behind caller c.fill.new.row.items row.new.asked.items row.result.count row.result.row.done w u made_none few in let one = ap length c.in-Some.ensures.items in
    record {
      of = (c.change.ensures.of.0 ∙ row.ensures.of.0 ∙ l.invariant.of.0, c.change.ensures.of.1 ∙ whose);
      ready = c.change.ensures.ready;
      listed = subst (λ p. IsListed caller asked p rest v x) (sym c.push_reserved.ensures.items) (listed_by_change caller asked c.append_places.new.places.items c.in-Some.change rest v u x listed_next c.in-Ok.place done_ok here);
      few = omega (arith, fewer, one);
      len = omega (arith, gone, e, popped, len, before, pushed);
      room = let kept = c.push_reserved.ensures.capacity in omega (arith, capacity, room, kept);
      stopped = λ at stopped. (let fails = c.change.ensures.stopped at (still_stopped caller asked c.append_places.new.places.items (row.new.asked.items ++ c.fill.new.left.items) v u listed_on (λ o. store_view o.engine) at stopped) in absurd (no_both c.in-Ok.place at c.change.result c.in-Ok.is fails));
      counts = later_then (counts_of (g.D.Disk.fetches c.args.session.now.port) (g.D.Disk.port_faults c.args.session.now.port)) (counts_of (g.D.Disk.fetches row.new.session.port) (g.D.Disk.port_faults row.new.session.port)) (counts_of (g.D.Disk.fetches c.change.new.session.port) (g.D.Disk.port_faults c.change.new.session.port)) (subst (λ p. AreLater (counts_of (g.D.Disk.fetches c.args.session.now.port) (g.D.Disk.port_faults c.args.session.now.port)) (counts_of (g.D.Disk.fetches p) (g.D.Disk.port_faults p))) (sym row.ensures.of.2) l.invariant.counts) c.change.ensures.counts;
    }

pub returns-in-Err-clause-made : goal.returns-in-Err-clause-made
returns-in-Err-clause-made g c =
    let l = c.loop-alloc in let caller = c.args.session.now.caller in let asked = c.args.left.items in
    let v = c.args.session.now.seat.me.0 in let w = l.session.seat.me.0 in
    let listed = same_listed caller asked l.places.items (l.row.items ++ l.left.items) (c.fill.new.row.items ++ c.fill.new.left.items) v w (sym (c.fill.ensures.same c.if-not-fill.false)) l.invariant.listed in
    let few = c.fill.ensures.short l.invariant.few in
    let row = c.change_row-made in let u = row.new.session.seat.me.0 in
    let made = subst (λ n. HasMadeRow n c.fill.new.row.items row.new.asked.items row.result.count row.result.row.done row.result.row.refused w u) l.invariant.of.1 row.ensures.made in
    let none = none_is row.result.row.refused (sym c.is_some.ensures ∙ c.if-is_some.false) in
    let on = listed_by_row caller asked l.places.items c.fill.new.row.items c.fill.new.left.items v w listed row.result.count row.result.row.done row.new.asked.items row.result.row.refused u made few none in
    let listed_on = subst (λ p. IsListed caller asked p (row.new.asked.items ++ c.fill.new.left.items) v u) (sym c.append_places.ensures.items) on in
    let x = c.change.new.session.seat.me.0 in let rest = c.pop_front.new.self.items ++ c.fill.new.left.items in
    let listed_next = same_listed caller asked c.append_places.new.places.items (row.new.asked.items ++ c.fill.new.left.items) (c.in-Some.change ∷ rest) v u (ap (λ b. b ++ c.fill.new.left.items) c.in-Some.ensures.items) listed_on in
    let whose = row.ensures.of.1 ∙ l.invariant.of.1 in
    let done = subst (λ n. HasDone (entries_by n (Makes (call_of c.in-Some.change)) (result_err c.change.result)) (spent_by (result_err c.change.result)) u x) whose c.change.ensures.done in
    let done_err = subst (λ r. HasDone (entries_by caller (Makes (call_of c.in-Some.change)) (result_err r)) (spent_by (result_err r)) u x) c.in-Err.is done in
    let reason = err_of (HasReasonOfChange g.D.Disk.tells g.D.Disk.ports_fail (λ o. store_view o.engine) x (counts_of (g.D.Disk.fetches row.new.session.port) (g.D.Disk.port_faults row.new.session.port)) (counts_of (g.D.Disk.fetches c.change.new.session.port) (g.D.Disk.port_faults c.change.new.session.port))) c.change.result c.change.ensures.why c.in-Err.why c.in-Err.is in
    ended_by_change caller asked c.append_places.new.places.items c.in-Some.change rest v u x listed_next g.D.Disk.tells g.D.Disk.ports_fail (λ o. store_view o.engine) (counts_of (g.D.Disk.fetches row.new.session.port) (g.D.Disk.port_faults row.new.session.port)) (counts_of (g.D.Disk.fetches c.change.new.session.port) (g.D.Disk.port_faults c.change.new.session.port)) c.in-Err.why done_err reason

pub returns-in-Err-clause-stopped : goal.returns-in-Err-clause-stopped
returns-in-Err-clause-stopped g c =
    let l = c.loop-alloc in let caller = c.args.session.now.caller in let asked = c.args.left.items in
    let v = c.args.session.now.seat.me.0 in let w = l.session.seat.me.0 in
    let listed = same_listed caller asked l.places.items (l.row.items ++ l.left.items) (c.fill.new.row.items ++ c.fill.new.left.items) v w (sym (c.fill.ensures.same c.if-not-fill.false)) l.invariant.listed in
    let few = c.fill.ensures.short l.invariant.few in
    let row = c.change_row-made in let u = row.new.session.seat.me.0 in
    let made = subst (λ n. HasMadeRow n c.fill.new.row.items row.new.asked.items row.result.count row.result.row.done row.result.row.refused w u) l.invariant.of.1 row.ensures.made in
    let none = none_is row.result.row.refused (sym c.is_some.ensures ∙ c.if-is_some.false) in
    let on = listed_by_row caller asked l.places.items c.fill.new.row.items c.fill.new.left.items v w listed row.result.count row.result.row.done row.new.asked.items row.result.row.refused u made few none in
    let listed_on = subst (λ p. IsListed caller asked p (row.new.asked.items ++ c.fill.new.left.items) v u) (sym c.append_places.ensures.items) on in
    λ at stopped.
    let idle = row.ensures.stopped at (still_stopped caller asked l.places.items (l.row.items ++ l.left.items) v w l.invariant.listed (λ o. store_view o.engine) at stopped) in
    let fails = c.change.ensures.stopped at (still_stopped caller asked c.append_places.new.places.items (row.new.asked.items ++ c.fill.new.left.items) v u listed_on (λ o. store_view o.engine) at stopped) in
    (c.append_places.ensures.items ∙ (λ i. l.invariant.stopped at stopped i ++ range_with_len (row.result.count + 1) (idle.0 i)), inr (same_why c.in-Err.why at c.change.result c.in-Err.is fails))

pub returns-in-Err-clause-why : goal.returns-in-Err-clause-why
returns-in-Err-clause-why g c =
    let l = c.loop-alloc in let caller = c.args.session.now.caller in let asked = c.args.left.items in
    let v = c.args.session.now.seat.me.0 in let w = l.session.seat.me.0 in
    let row = c.change_row-made in let u = row.new.session.seat.me.0 in
    let made = subst (λ n. HasMadeRow n c.fill.new.row.items row.new.asked.items row.result.count row.result.row.done row.result.row.refused w u) l.invariant.of.1 row.ensures.made in
    let x = c.change.new.session.seat.me.0 in
    let reason = err_of (HasReasonOfChange g.D.Disk.tells g.D.Disk.ports_fail (λ o. store_view o.engine) x (counts_of (g.D.Disk.fetches row.new.session.port) (g.D.Disk.port_faults row.new.session.port)) (counts_of (g.D.Disk.fetches c.change.new.session.port) (g.D.Disk.port_faults c.change.new.session.port))) c.change.result c.change.ensures.why c.in-Err.why c.in-Err.is in
    reason_listed g.D.Disk.tells g.D.Disk.ports_fail (λ o. store_view o.engine) x (counts_of (g.D.Disk.fetches c.args.session.now.port) (g.D.Disk.port_faults c.args.session.now.port)) (counts_of (g.D.Disk.fetches row.new.session.port) (g.D.Disk.port_faults row.new.session.port)) (counts_of (g.D.Disk.fetches c.change.new.session.port) (g.D.Disk.port_faults c.change.new.session.port)) (Some c.in-Err.why) (subst (λ p. AreLater (counts_of (g.D.Disk.fetches c.args.session.now.port) (g.D.Disk.port_faults c.args.session.now.port)) (counts_of (g.D.Disk.fetches p) (g.D.Disk.port_faults p))) (sym row.ensures.of.2) l.invariant.counts) reason
