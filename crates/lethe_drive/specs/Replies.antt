-- The replies to what a call answered.
use Rattle.std.specs.Prelude.{ℕ, Bool, List, Option, Result, Ok, Err}
use Rattle.lethe_base.specs.Keys.{Bytes}
use Rattle.lethe_base.specs.declared.refused.Refused.{Refused}
use Rattle.lethe_engine.specs.declared.ticking.Ticked.{Ticked}
use Rattle.lethe_drive.specs.declared.event.Reply.{Reply}
use Rattle.lethe_drive.specs.declared.event.Reply.TheVariants as reply

abbrev pub placed : Result ℕ Refused → Reply
placed (Ok place) = reply.Place place
placed (Err why) = reply.Refused why

abbrev pub told : Result Ticked Refused → Reply
told (Ok ticked) = reply.Ticked ticked
told (Err why) = reply.Refused why

abbrev pub got : Result (Option (ℕ × Bytes)) Refused → Reply
got (Ok held) = reply.Got held
got (Err why) = reply.Refused why

abbrev pub paired : Result (List (Bytes × ℕ × Bytes)) Refused → Reply
paired (Ok pairs) = reply.Pairs pairs
paired (Err why) = reply.Refused why

abbrev pub flagged : Result Bool Refused → Reply
flagged (Ok flag) = reply.Flag flag
flagged (Err why) = reply.Refused why

abbrev pub numbered : Result ℕ Refused → Reply
numbered (Ok number) = reply.Job number
numbered (Err why) = reply.Refused why

abbrev pub pinned : Result ℕ Refused → Reply
pinned (Ok number) = reply.Pinned number
pinned (Err why) = reply.Refused why

abbrev pub united : Result (Unit {0}) Refused → Reply
united (Ok done) = reply.Unit
united (Err why) = reply.Refused why
