use Rattle.std.proofs.Common.{◌++◌, ap, ◌∙◌, sym}
use Rattle.lethe_store.proofs.Listed.{has_first}
use Rattle.lethe_store.proofs.listing.fill.Goals as goal

pub returns-then-is_err-clause-some : goal.returns-then-is_err-clause-some
returns-then-is_err-clause-some c = λ none.
    has_first c.loop-left.row.items c.in-Some.change c.pop_front.new.self.items (c.args.row.now.items ++ c.args.left.now.items) (sym (ap (λ l. c.loop-left.row.items ++ l) c.in-Some.ensures.items) ∙ c.loop-left.invariant.same)
