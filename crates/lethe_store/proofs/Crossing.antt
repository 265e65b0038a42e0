-- Threads may share a store, and a session may go to another thread: over any disk whose own parts may, whatever the log.
use denote.RattleType.{RattleType}
use denote.Hole.{as_row}
use denote.Struct.Field.{u64-field}
use denote.Param.Send.{IsSend, IsSync, sendable}
use denote.Param.SendFields.{as_row_send, declared_send, declared_sync}
use Rattle.std.specs.contracts.marker.PhantomData as PhantomData
use Rattle.lethe_disk.specs.declared.disk.Disk.{Ghosts}
use Rattle.lethe_engine.proofs.Crossing.{engine_send}
use Rattle.lethe_turn.specs.declared.behind.Behind.{Ghosts as BehindGhosts}
use Rattle.lethe_turn.proofs.Crossing.{seat_send, turn_sync}
use Rattle.lethe_store.specs.contracts.lent.Lent as Lent
use Rattle.lethe_store.specs.contracts.session.Session as Session
use Rattle.lethe_store.specs.contracts.store.Store as Store
use Rattle.lethe_store.specs.declared.log.Log as log
use Rattle.lethe_store.specs.StoreViews.{store_view}

u64_send : IsSend (as_row u64-field)
u64_send = search (as_row_send, sendable)

phantom_send : (L : RattleType) → IsSend (PhantomData.the_row L)
phantom_send L = declared_send (PhantomData.the_type L) tt

module _ (D L P Q E M : RattleType) (g : Ghosts D.Denot P.Denot Q.Denot) (s : IsSend P) (y : IsSync P) (d : IsSend D) where
  pub lent_send : IsSend (Lent.the_row D L P Q E M g)
  lent_send = declared_send (Lent.the_type D L P Q E M g) (engine_send D P Q g s y d, (phantom_send L, tt))

  pub session_send : IsSend Q → IsSend (Session.the_row D L P Q E M g)
  session_send q = declared_send (Session.the_type D L P Q E M g) (u64_send, (seat_send (Lent.the_row D L P Q E M g) E M lent_send, (search (q, sendable) depth 20, tt)))

  -- what the turn asks of the store that it lends
  abbrev lent_ghosts : log.Ghosts L.Denot E.Denot M.Denot → BehindGhosts (Lent.the_row D L P Q E M g).Denot E.Denot M.Denot
  lent_ghosts h = record {
    since = λ o l m x. h.since g.tells g.ports_fail (store_view o.engine) l m (store_view x.engine);
    fits = h.fits;
    fits_none = h.fits_none;
    fits_both = h.fits_both;
  }

  pub store_sync : (h : log.Ghosts L.Denot E.Denot M.Denot) → IsSync (Store.the_row D L P Q E M g h)
  store_sync h = declared_sync (Store.the_type D L P Q E M g h) (turn_sync (Lent.the_row D L P Q E M g) E M (lent_ghosts h) lent_send, tt)
