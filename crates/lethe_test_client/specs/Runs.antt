-- The runs of the clients.
use Rattle.std.specs.Prelude.{◌≡◌, ⊤, [], ◌∷◌, Some, codes}
use Rattle.std.specs.FinMap.{empty}
use Rattle.lethe_base.specs.Counts.{Rose}
use Rattle.lethe_base.specs.Keys.{Bytes}
use Rattle.lethe_memdisk.specs.Held.{Held, fresh, seen_of}
use Rattle.lethe_wire.specs.Memory.{Wired}
use Rattle.lethe_run.specs.Ends.{Run}
use Rattle.lethe_test_client.specs.Roomy.{disk_room}

-- the disk before: empty, with its room
abbrev pub empty_disk : Held
empty_disk = fresh empty disk_room []

-- a sink that has taken nothing
abbrev pub empty_sink : Wired
empty_sink = record { bytes = []; failing = []; calls = 0; faults = 0 }

-- The word `run` over the bytes of a script, which never fail, a sink that had taken nothing, and the empty disk; what the sink and the disk are behind it.
abbrev pub client_run : Bytes → Wired → Held → Run
client_run script sink disk = record {
  words = codes "run" ∷ [];
  source = Some script;
  taken_before = Some [];
  taken = Some sink.bytes;
  SourceRose = Rose 0 0;
  SinkRose = Rose 0 sink.faults;
  Tells = ⊤;
  start = seen_of empty_disk;
  finish = seen_of disk;
  faults_before = 0;
  faults = disk.faults;
  PortsFail = ⊥;
  Unused = disk ≡ empty_disk;
}
