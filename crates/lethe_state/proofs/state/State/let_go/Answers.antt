use Rattle.std.proofs.Common.{◌≡◌, ◌∙◌, Bool, rules, filter}
use Rattle.std.proofs.lemmas.Fn.{filter_same}
use Rattle.lethe_base.specs.declared.pending.Pending.{Pending}
use Rattle.lethe_follows.specs.Leaving.{is_kept}
use Rattle.lethe_state.specs.Left.{done_with, first_recorded}
use Rattle.lethe_state.proofs.state.State.let_go.Goals as goal

pub returns : goal.returns
returns c =
    let state = c.args.self.now in
    let stays : Pending → Bool = λ erase. is_kept c.done_upto-done.result c.first_recorded-first.result erase.seq in
    let kept : c.of-2.result ≡ filter stays c.into_vec-pending.result.items = c.of-2.ensures ∙ filter_same _ stays _ (λ x b f called. search rules) _ _ c.retain.ensures.filtered in
    let old : c.into_vec-pending.result.items ≡ state.pending = search rules in
    let done : c.done_upto-done.result ≡ done_with state state.manifest.files = search rules in
    let first : c.first_recorded-first.result ≡ first_recorded state = search rules in
    λ i. record state { pending = (kept ∙ (λ j. filter (λ (erase : Pending). is_kept (done j) (first j) erase.seq) (old j))) i }
