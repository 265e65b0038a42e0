use Rattle.std.proofs.Common.{ℕ, ◌<◌, get_or}
use Rattle.lethe_base.specs.declared.entry.Entry.{Entry}
use Rattle.lethe_file.specs.Agreement.{IsWithin}
use Rattle.lethe_agreement.proofs.page.is_within.Given as goal

abbrev pub invariant-loop-entry : goal.invariant-loop-entry
invariant-loop-entry l = (k : ℕ) (d : Entry) → k < l.entry-index → IsWithin l.tile (get_or l.entries k d).key
