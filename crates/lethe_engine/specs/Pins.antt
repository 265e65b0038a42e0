-- What the pins have come to behind a call that makes one.
use Rattle.std.specs.Prelude.{Result, Ok, Err}
use Rattle.lethe_base.specs.declared.refused.Refused.{Refused}
use Rattle.lethe_disk.specs.declared.disk.Disk.{Ghosts}
use Rattle.lethe_core.specs.Snapshot.{Snapshot}
use Rattle.lethe_core.specs.Pins.{with_pin}
use Rattle.lethe_core.specs.View.{Face}

-- it was made, with the snapshot's limit, unless it is refused
abbrev pub pinned_face : {D Page Port : Type 0} {kind : Ghosts D Page Port} → Face → Result (Snapshot D Page Port kind) Refused → Face
pinned_face face (Ok snapshot) = with_pin face snapshot.pin.limit
pinned_face face (Err why) = face
