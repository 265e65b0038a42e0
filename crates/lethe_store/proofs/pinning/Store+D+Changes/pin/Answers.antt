use Rattle.std.proofs.Common.{◌≡◌, [], ◌∷◌, Some, None, Err, refl, sym, ap, ◌∙◌, subst}
use Rattle.lethe_base.specs.Limits.{max_place}
use Rattle.lethe_store.specs.declared.entry.Mark.TheVariants as mark
use Rattle.lethe_store.specs.Diary.{spent_by}
use Rattle.lethe_store.specs.Since.{Since, all_counted}
use Rattle.lethe_store.specs.Sessions.{HasDone, IsLedTo}
use Rattle.lethe_store.specs.StoreViews.{store_view}
use Rattle.lethe_turn.specs.Seats.{count_of}
use Rattle.lethe_store.proofs.Behind.{counts_seen}
use Rattle.lethe_store.proofs.Pinned.{leads_noting, made_seen, noted_made, noted_refusal, point_of, reason_of_pin, unfailed_refusal}
use Rattle.lethe_store.proofs.Seats.{knows_after, noted_ready, noted_so}
use Rattle.lethe_store.proofs.pinning.Store+D+Changes.pin.Goals as goal

pub note-requires-clause-since : goal.note-requires-clause-since
note-requires-clause-since g c κs within =
    let w = c.take-held.new.session.seat.me.0 in
    let old = store_view c.take-held.result.value.engine in
    let new = store_view c.pin.new.self in
    let does = c.in-Ok.ensures in
    let said : c.told_made-noted.result.items ≡ mark.Made c.in-Ok.snapshot.pin.number c.in-Ok.snapshot.pin.limit ∷ [] = c.told_made-noted.ensures ∙ (λ i. mark.Made (c.number.ensures i) (c.limit.ensures i) ∷ []) in
    leads_noting g.D.Disk.tells g.D.Disk.ports_fail (λ o. store_view o.engine) w old new None _ c.told_made-noted.result.items (mark.Made c.in-Ok.snapshot.pin.number c.in-Ok.snapshot.pin.limit ∷ []) refl c.take-held.ensures.since does.answers said
    (noted_made g.D.Disk.tells old new c.in-Ok.snapshot.pin.number c.in-Ok.snapshot.pin.limit does.number does.answers.face_is (ap (λ l. l.items) does.certificates))

pub returns-in-Ok-clause-ready : goal.returns-in-Ok-clause-ready
returns-in-Ok-clause-ready g c =
    noted_ready all_counted (λ o. store_view o.engine) c.args.session.now.seat.me c.take-held.new.session.seat.me.0 c.note.new.session.seat.me c.told_made-noted.result.items c.requires.ready c.take-held.ensures.more c.note.ensures.noted

pub returns-in-Ok-clause-done : goal.returns-in-Ok-clause-done
returns-in-Ok-clause-done g c =
    let said : c.told_made-noted.result.items ≡ mark.Made c.in-Ok.snapshot.pin.number c.in-Ok.snapshot.pin.limit ∷ [] = c.told_made-noted.ensures ∙ (λ i. mark.Made (c.number.ensures i) (c.limit.ensures i) ∷ []) in
    subst (λ l. HasDone [] l c.args.session.now.seat.me.0 c.note.new.session.seat.me.0) said
    (noted_so c.args.session.now.seat.me.0 c.take-held.new.session.seat.me.0 c.note.new.session.seat.me.0 c.told_made-noted.result.items c.take-held.ensures.more (ap (λ m. m.0) c.note.ensures.noted))

pub returns-in-Ok-clause-number : goal.returns-in-Ok-clause-number
returns-in-Ok-clause-number g c =
    let x = c.note.new.session.seat.me.0 in
    let new = store_view c.pin.new.self in
    let w = c.take-held.new.session.seat.me.0 in
    let old = store_view c.take-held.result.value.engine in
    let does = c.in-Ok.ensures in
    let said : c.told_made-noted.result.items ≡ mark.Made c.in-Ok.snapshot.pin.number c.in-Ok.snapshot.pin.limit ∷ [] = c.told_made-noted.ensures ∙ (λ i. mark.Made (c.number.ensures i) (c.limit.ensures i) ∷ []) in
    let leads = subst (λ m. IsLedTo (λ o. store_view o.engine) (Since g.D.Disk.tells g.D.Disk.ports_fail) m.0 new) (sym c.note.ensures.noted)
    (leads_noting g.D.Disk.tells g.D.Disk.ports_fail (λ o. store_view o.engine) w old new None _ c.told_made-noted.result.items (mark.Made c.in-Ok.snapshot.pin.number c.in-Ok.snapshot.pin.limit ∷ []) refl c.take-held.ensures.since does.answers said
    (noted_made g.D.Disk.tells old new c.in-Ok.snapshot.pin.number c.in-Ok.snapshot.pin.limit does.number does.answers.face_is (ap (λ l. l.items) does.certificates))) in
    made_seen g.D.Disk.tells g.D.Disk.ports_fail (λ o. store_view o.engine) x new c.in-Ok.snapshot.pin.number leads (ap (λ p. p.made) c.in-Ok.ensures.pinned.is)

pub returns-in-Ok-clause-point : goal.returns-in-Ok-clause-point
returns-in-Ok-clause-point g c =
    let v = c.args.session.now.seat.me.0 in
    let w = c.take-held.new.session.seat.me.0 in
    let more = c.take-held.ensures.more in
    c.in-Ok.ensures.point
    ∙ counts_seen g.D.Disk.tells g.D.Disk.ports_fail (λ o. store_view o.engine) w (store_view c.take-held.result.value.engine) (knows_after all_counted (λ o. store_view o.engine) v w c.requires.ready.1 more.opened more.start) c.take-held.ensures.since
    ∙ ap (λ m. count_of m.0) (sym c.note.ensures.noted)

pub returns-in-Ok-clause-shows : goal.returns-in-Ok-clause-shows
returns-in-Ok-clause-shows g c =
    point_of g.D.Disk.tells g.D.Disk.ports_fail (λ o. store_view o.engine) c.take-held.new.session.seat.me.0 c.note.new.session.seat.me.0 (store_view c.take-held.result.value.engine) c.told_made-noted.result.items c.in-Ok.snapshot
    c.take-held.ensures.since (ap (λ m. m.0) c.note.ensures.noted) c.in-Ok.ensures.of c.in-Ok.ensures.near

pub note-requires-in-Err-clause-since : goal.note-requires-in-Err-clause-since
note-requires-in-Err-clause-since g c κs within =
    let is = c.in-Err.ensures in
    let old = store_view c.take-held.result.value.engine in
    let new = store_view c.pin.new.self in
    leads_noting g.D.Disk.tells g.D.Disk.ports_fail (λ o. store_view o.engine) c.take-held.new.session.seat.me.0 old new (Some c.in-Err.why) _ c.told_refusal-noted.result.items (spent_by (Some c.in-Err.why))
    (unfailed_refusal c.in-Err.why is.why) c.take-held.ensures.since is.answers c.told_refusal-noted.ensures
    (noted_refusal g.D.Disk.tells old new c.in-Err.why is.answers.face_is (ap (λ l. l.items) is.certificates) is.why (λ e. ap (λ e. e.core.pins.made) is.unchanged ∙ is.exhausted.0 (ap Err e)))

pub returns-in-Err-clause-ready : goal.returns-in-Err-clause-ready
returns-in-Err-clause-ready g c =
    noted_ready all_counted (λ o. store_view o.engine) c.args.session.now.seat.me c.take-held.new.session.seat.me.0 c.note-in-Err.new.session.seat.me c.told_refusal-noted.result.items c.requires.ready c.take-held.ensures.more c.note-in-Err.ensures.noted

pub returns-in-Err-clause-done : goal.returns-in-Err-clause-done
returns-in-Err-clause-done g c =
    subst (λ l. HasDone [] l c.args.session.now.seat.me.0 c.note-in-Err.new.session.seat.me.0) c.told_refusal-noted.ensures
    (noted_so c.args.session.now.seat.me.0 c.take-held.new.session.seat.me.0 c.note-in-Err.new.session.seat.me.0 c.told_refusal-noted.result.items c.take-held.ensures.more (ap (λ m. m.0) c.note-in-Err.ensures.noted))

pub returns-in-Err-clause-why : goal.returns-in-Err-clause-why
returns-in-Err-clause-why g c =
    let is = c.in-Err.ensures in
    let x = c.note-in-Err.new.session.seat.me.0 in
    let old = store_view c.take-held.result.value.engine in
    let new = store_view c.pin.new.self in
    let leads = subst (λ m. IsLedTo (λ o. store_view o.engine) (Since g.D.Disk.tells g.D.Disk.ports_fail) m.0 new) (sym c.note-in-Err.ensures.noted)
    (leads_noting g.D.Disk.tells g.D.Disk.ports_fail (λ o. store_view o.engine) c.take-held.new.session.seat.me.0 old new (Some c.in-Err.why) _ c.told_refusal-noted.result.items (spent_by (Some c.in-Err.why))
    (unfailed_refusal c.in-Err.why is.why) c.take-held.ensures.since is.answers c.told_refusal-noted.ensures
    (noted_refusal g.D.Disk.tells old new c.in-Err.why is.answers.face_is (ap (λ l. l.items) is.certificates) is.why (λ e. ap (λ e. e.core.pins.made) is.unchanged ∙ is.exhausted.0 (ap Err e)))) in
    reason_of_pin g.D.Disk.tells g.D.Disk.ports_fail (λ o. store_view o.engine) x c.in-Err.why is.why
    (λ e. made_seen g.D.Disk.tells g.D.Disk.ports_fail (λ o. store_view o.engine) x new max_place leads (ap (λ e. e.core.pins.made) is.unchanged ∙ is.exhausted.0 (ap Err e)))
