use Rattle.std.proofs.Common.{subst, sym, refl}
use Rattle.lethe_base.specs.Entries.{IsAscending}
use Rattle.lethe_tree.proofs.Seen.{nothing_seen}
use Rattle.lethe_tree.proofs.tree_buffer.TreeBuffer.new.Goals as goal

pub invariant_of-result : goal.invariant_of-result
invariant_of-result c = (subst IsAscending (sym (nothing_seen c.new.result.items c.new-2.result.items)) refl, tt)

pub returns-clause-entries : goal.returns-clause-entries
returns-clause-entries c = nothing_seen c.new.result.items c.new-2.result.items
