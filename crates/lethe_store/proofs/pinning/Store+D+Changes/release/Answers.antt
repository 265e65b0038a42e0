use Rattle.std.proofs.Common.{◌≡◌, [], ◌∷◌, None, refl, sym, ap, ◌∙◌, subst}
use Rattle.lethe_store.specs.declared.entry.Mark.TheVariants as mark
use Rattle.lethe_store.specs.Since.{Since, all_counted}
use Rattle.lethe_store.specs.Sessions.{HasDone, IsLedTo}
use Rattle.lethe_store.specs.StoreViews.{store_view}
use Rattle.lethe_turn.specs.Seats.{passed_noting}
use Rattle.lethe_store.proofs.Pinned.{leads_noting, noted_released}
use Rattle.lethe_store.proofs.Seats.{noted_ready, noted_so}
use Rattle.lethe_store.proofs.pinning.Store+D+Changes.release.Goals as goal

pub note-requires-clause-since : goal.note-requires-clause-since
note-requires-clause-since g c κs within =
    let w = c.take-held.new.session.seat.me.0 in
    let old = store_view c.take-held.result.value.engine in
    let new = store_view c.release.new.self in
    let number = c.args.snapshot.pin.number in
    let said : c.told_released-noted.result.items ≡ mark.Released number ∷ [] = c.told_released-noted.ensures ∙ ap (λ n. mark.Released n ∷ []) c.number.ensures in
    subst (λ m. IsLedTo (λ o. store_view o.engine) (Since g.D.Disk.tells g.D.Disk.ports_fail) (passed_noting c.told_released-noted.result.items m.0) new) (sym c.learn-at.ensures.same)
    (leads_noting g.D.Disk.tells g.D.Disk.ports_fail (λ o. store_view o.engine) w old new None _ c.told_released-noted.result.items (mark.Released number ∷ []) refl c.take-held.ensures.since c.release.ensures.answers said
    (noted_released g.D.Disk.tells old new number c.release.ensures.answers.face_is (ap (λ e. e.certificates.items) c.release.ensures.same)))

pub returns-clause-ready : goal.returns-clause-ready
returns-clause-ready g c =
    noted_ready all_counted (λ o. store_view o.engine) c.args.session.now.seat.me c.take-held.new.session.seat.me.0 c.note.new.session.seat.me c.told_released-noted.result.items c.requires.ready c.take-held.ensures.more
    (c.note.ensures.noted ∙ ap (λ m. (passed_noting c.told_released-noted.result.items m.0, [])) c.learn-at.ensures.same)

pub returns-clause-done : goal.returns-clause-done
returns-clause-done g c =
    let number = c.args.snapshot.pin.number in
    let said : c.told_released-noted.result.items ≡ mark.Released number ∷ [] = c.told_released-noted.ensures ∙ ap (λ n. mark.Released n ∷ []) c.number.ensures in
    subst (λ l. HasDone [] l c.args.session.now.seat.me.0 c.note.new.session.seat.me.0) said
    (noted_so c.args.session.now.seat.me.0 c.take-held.new.session.seat.me.0 c.note.new.session.seat.me.0 c.told_released-noted.result.items c.take-held.ensures.more
    (ap (λ m. m.0) c.note.ensures.noted ∙ ap (λ m. passed_noting c.told_released-noted.result.items m.0) c.learn-at.ensures.same))
