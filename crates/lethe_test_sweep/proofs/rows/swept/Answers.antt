use denote.Param.Send.{sendable}
use Rattle.lethe_memdisk.proofs.Crossing.{port_send}
use Rattle.lethe_test_sweep.proofs.rows.swept.Goals as goal

pub sweep_tiles-tiles-requires-send-D-Port : goal.sweep_tiles-tiles-requires-send-D-Port
sweep_tiles-tiles-requires-send-D-Port c κs = search (sendable, port_send)

pub sweep_file-pages-requires-send-D-Port : goal.sweep_file-pages-requires-send-D-Port
sweep_file-pages-requires-send-D-Port c κs = search (sendable, port_send)
