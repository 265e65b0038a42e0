use Rattle.std.proofs.Common.{◌≡◌, ◌++◌, map, take}
use Rattle.std.specs.List.{range_with_len}
use Rattle.lethe_base.specs.declared.name.Name.{Name}
use Rattle.lethe_flush.proofs.made.numbers_of.Given as goal

abbrev pub invariant-loop-name : goal.invariant-loop-name
invariant-loop-name l = l.numbers.items ≡ map (λ (name : Name). name.no) (take l.name-index l.written)

abbrev pub invariant-loop-place : goal.invariant-loop-place
invariant-loop-place l = l.numbers.items ≡ map (λ (name : Name). name.no) l.written ++ range_with_len l.next l.place
