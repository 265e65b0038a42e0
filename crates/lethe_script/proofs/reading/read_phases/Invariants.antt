use Rattle.std.proofs.Common.{◌≡◌, ◌+◌, ◌≤◌, length}
use Rattle.lethe_script.specs.Grammar.{items_from, lines}
use Rattle.lethe_script.specs.Reading.{phases_read}
use Rattle.lethe_script.specs.Slots.{none_held_by_all}
use Rattle.lethe_script.proofs.Lines.{with_front}
use Rattle.lethe_script.proofs.reading.read_phases.Given as goal

-- the phases so far and those of what is left, behind the slots that are held, are those of all
abbrev pub invariant-loop-text : goal.invariant-loop-text
invariant-loop-text l = record {
  told : with_front l.reading.ended.items l.reading.current.items (items_from l.is_long l.line l.reading.held (lines l.rest)) ≡ phases_read (items_from l.is_long 1 none_held_by_all (lines l.bytes));
  few : l.line + length l.rest ≤ 1 + length l.bytes;
}

abbrev pub decreases-loop-text : goal.decreases-loop-text
decreases-loop-text l = length l.rest
