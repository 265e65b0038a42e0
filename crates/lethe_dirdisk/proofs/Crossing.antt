-- A port of a folder may cross threads. Crates above cite it, since they don't see what a port consists of.
use Rattle.std.proofs.MapsCrossing as maps
use Rattle.std.proofs.Crossing as boxes
use denote.Param.Send.{IsSend, sendable}
use Rattle.lethe_dirdisk.specs.contracts.page.DirPort as DirPort
use Rattle.lethe_dirdisk.specs.contracts.place.Place as Place

place_send : IsSend Place.the_row
place_send = search (maps.crosses, boxes.crosses, sendable) depth 60

pub port_send : IsSend DirPort.the_row
port_send = search (place_send, maps.crosses, boxes.crosses, sendable) depth 60
