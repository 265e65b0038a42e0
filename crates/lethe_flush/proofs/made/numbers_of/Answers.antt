use Rattle.std.proofs.Common.{◌+◌, ◌++◌, ◌∷◌, [], List, ℕ, map, append_assoc, sym, ap, ◌∙◌}
use Rattle.std.specs.List.{range_with_len}
use Rattle.lethe_flush.proofs.Numbers.{number_in, range_more}
use Rattle.lethe_flush.proofs.made.numbers_of.Goals as goal

pub loop-place-preserved : goal.loop-place-preserved
loop-place-preserved c =
    let next = c.args.next in
    let place = c.loop-place.place in
    let names : List ℕ = map number_in c.args.written.now in
    c.in_ok-push-2.ensures.items ∙ ap (λ (numbers : List ℕ). numbers ++ (next + place) ∷ []) c.loop-place.invariant
    ∙ append_assoc names (range_with_len next place) ((next + place) ∷ [])
    ∙ ap (λ (numbers : List ℕ). names ++ numbers) (sym (range_more next place))
