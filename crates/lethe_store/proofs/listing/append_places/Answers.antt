use Rattle.std.proofs.Common.{◌≡◌, ◌+◌, ◌++◌, ◌∷◌, [], sym, ap, ◌∙◌, arith, append_assoc}
use Rattle.std.specs.Prelude.{vec_len}
use Rattle.std.specs.List.{range_with_len}
use Rattle.lethe_store.proofs.Listed.{range_more}
use Rattle.lethe_store.proofs.listing.append_places.Goals as goal

pub loop-n-preserved : goal.loop-n-preserved
loop-n-preserved c =
    let first = c.args.count + 1 in
    let place = c.args.count + c.loop-n.n + 1 in
    let next : place ≡ first + c.loop-n.n = omega arith in
    let more = c.push_reserved.ensures.len in let len = c.loop-n.invariant.len in
    record {
      items = c.push_reserved.ensures.items ∙ ap (λ l. l ++ place ∷ []) c.loop-n.invariant.items ∙ append_assoc c.args.places.now.items (range_with_len first c.loop-n.n) (place ∷ [])
          ∙ ap (λ l. c.args.places.now.items ++ l) (ap (λ n. range_with_len first c.loop-n.n ++ n ∷ []) next ∙ sym (range_more first c.loop-n.n));
      len = omega (arith, more, len);
      capacity = c.push_reserved.ensures.capacity ∙ c.loop-n.invariant.capacity;
    }
