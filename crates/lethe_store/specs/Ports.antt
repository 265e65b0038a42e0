-- A session's port, lent to whoever fetches through it.
use denote.RattleType.{RattleType}
use Rattle.std.specs.Borrow.{Fml, Lends, MutBor}
use Rattle.lethe_disk.specs.declared.disk.Disk.{Ghosts}
use Rattle.lethe_store.specs.contracts.session.Session.{the_row}
use Rattle.lethe_store.specs.declared.session.Session.{Session}

module _ (D L Page Port E M : RattleType) {disk : Ghosts D.Denot Page.Denot Port.Denot} where
  -- the session with another port
  abbrev pub with_port : Session D.Denot L.Denot Page.Denot Port.Denot E.Denot M.Denot disk → Port.Denot → Session D.Denot L.Denot Page.Denot Port.Denot E.Denot M.Denot disk
  with_port session port = record session { port = port }

  -- the session ends with the last value of its port, and nothing else of it is changed
  abbrev pub LendsPort : MutBor (Session D.Denot L.Denot Page.Denot Port.Denot E.Denot M.Denot disk) → MutBor Port.Denot → Fml
  LendsPort session port = Lends (the_row D L Page Port E M disk) Port session port (with_port session.now)
