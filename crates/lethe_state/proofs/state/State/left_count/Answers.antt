use Rattle.std.proofs.Common.{◌≡◌, ◌∙◌, ap, Bool, length, filter, rules}
use Rattle.std.proofs.lemmas.Iterator.{YieldsList-from_slice}
use Rattle.std.proofs.lemmas.Iterator.Consumers.{YieldsList-from_filter, count_from_yields_List}
use Rattle.lethe_base.specs.Spent.{is_above}
use Rattle.lethe_base.specs.declared.pending.Pending.{Pending}
use Rattle.lethe_state.specs.Left.{done_with, left_with}
use Rattle.lethe_state.proofs.Left.{left_remembered}
use Rattle.lethe_state.proofs.state.State.left_count.Goals as goal

pub returns-clause-is : goal.returns-clause-is
returns-clause-is c =
    let state = c.args.self.now in
    let above : Pending → Bool = λ erase. is_above c.done_upto-done.result erase.seq in
    let counted : c.count.result ≡ length (filter above c.items-2.result.now) =
    count_from_yields_List c.filter-left.result _ c.count.ensures.ran (YieldsList-from_filter _ above (YieldsList-from_slice c.items-2.result.now (search rules)) c.filter-left.ensures.closure (λ x r q k. search rules)) in
    let done : c.done_upto-done.result ≡ done_with state state.manifest.files = search rules in
    let listed : c.items-2.result.now ≡ state.pending = search rules in
    counted ∙ (λ i. length (filter (λ (erase : Pending). is_above (done i) erase.seq) (listed i)))

pub returns-clause-left : goal.returns-clause-left
returns-clause-left c = λ s levels is.
    let count : c.count.result ≡ length (left_with c.args.self.now) = returns-clause-is c in
    count ∙ ap length (left_remembered s c.args.self.now levels is)
