-- A port of a flaky disk may cross threads. Crates above cite it, since they don't see what a port consists of.
use Rattle.std.proofs.Crossing as boxes
use denote.Param.Send.{IsSend, sendable}
use Rattle.lethe_memdisk.specs.contracts.flaky.FlakyPort as FlakyPort

pub port_send : IsSend FlakyPort.the_row
port_send = search (boxes.crosses, sendable) depth 60
