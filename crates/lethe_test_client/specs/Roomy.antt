-- A disk in memory that never fails, and a sink that fails only where it is full.
use Rattle.std.specs.Prelude.{◌≡◌, ◌<◌, ◌≤◌, ℕ, [], length, None}
use Rattle.lethe_memdisk.specs.Held.{Held, calls_of}
use Rattle.lethe_wire.specs.Memory.{Wired, sink_room}

-- as many device calls as the disk has room for
abbrev pub disk_room : ℕ
disk_room = 1000

-- it has taken as many
abbrev pub IsFull : Held → Type 0
IsFull held = calls_of held ≡ disk_room

-- no call failed, and none does but those past the room
pub record IsRoomyDisk (held : Held) : Type 0 where
  pub room : held.room ≡ disk_room
  pub within : calls_of held ≤ disk_room
  pub failing : held.failing ≡ []
  pub unburnt : held.fuse ≡ None
  pub faultless : held.faults ≡ 0

-- no call fails but where the room is used up
pub record IsRoomySink (wired : Wired) : Type 0 where
  pub failing : wired.failing ≡ []
  pub fault : 0 < wired.faults → length wired.bytes ≡ sink_room
