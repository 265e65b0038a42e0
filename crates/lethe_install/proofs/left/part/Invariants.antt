use Rattle.std.proofs.Common.{◌≡◌, take}
use Rattle.lethe_pins.specs.Held.{is_named}
use Rattle.lethe_install.specs.Left.{needed_of, unneeded_of}
use Rattle.lethe_install.proofs.left.part.Given as goal

abbrev pub invariant-loop-name : goal.invariant-loop-name
invariant-loop-name l = record {
  gone : l.gone.items ≡ unneeded_of (is_named l.pins.pins) (take l.name-index l.name-items);
  left : l.left.items ≡ needed_of (is_named l.pins.pins) (take l.name-index l.name-items);
}
