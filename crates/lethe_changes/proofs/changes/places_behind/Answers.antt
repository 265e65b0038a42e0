use Rattle.std.proofs.Common.{rules, ◌≡◌, ◌+◌, ◌++◌, ◌∷◌, [], true, cond, ap, ◌∙◌, sym, arith}
use Rattle.std.specs.Prelude.{is_ok, vec_len}
use Rattle.std.specs.List.{range_with_len}
use Rattle.lethe_changes.proofs.Making.{range_more}
use Rattle.lethe_changes.proofs.changes.places_behind.Goals as goal

pub loop-n-preserved : goal.loop-n-preserved
loop-n-preserved c =
    let first = c.args.count + 1 in
    let place = c.args.count + c.loop-n.n + 1 in
    let so_far = c.loop-n.places in
    let ok : is_ok c.push.result ≡ true = search rules in
    let pushed : c.push.new.self.items ≡ so_far.items ++ place ∷ [] = search rules in
    let longer : vec_len c.push.new.self ≡ vec_len so_far + 1 = c.push.ensures.len ∙ ap (λ b. cond b (vec_len so_far + 1) (vec_len so_far)) ok in
    let next : place ≡ first + c.loop-n.n = omega arith in
    record {
      items = pushed ∙ ap (λ l. l ++ place ∷ []) c.loop-n.invariant.items ∙ ap (λ n. range_with_len first c.loop-n.n ++ n ∷ []) next ∙ sym (range_more first c.loop-n.n);
      len = let len = c.loop-n.invariant.len in omega (arith, longer, len);
      capacity = let capacity = c.loop-n.invariant.capacity in let more = c.push.ensures.capacity in omega (arith, capacity, more);
    }
