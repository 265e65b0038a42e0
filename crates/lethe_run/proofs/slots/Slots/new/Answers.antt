use Rattle.std.proofs.Common.{rules, ◌≡◌, ◌<◌, ◌+◌, ◌++◌, ◌∷◌, [], None, true, cond, sym, ap, ◌∙◌, arith}
use Rattle.std.specs.Prelude.{is_ok, replicate, vec_len}
use Rattle.lethe_run.proofs.Holding.{free_more}
use Rattle.lethe_run.proofs.slots.Slots.new.Goals as goal

pub slots-preserved : goal.slots-preserved
slots-preserved g c =
    let held = c.slots.held in
    let left = c.push.new.self in
    let ok : is_ok c.push.result ≡ true = search rules in
    let pushed : left.items ≡ held.items ++ None ∷ [] = search rules in
    let longer : vec_len left ≡ vec_len held + 1 = c.push.ensures.len ∙ ap (λ b. cond b (vec_len held + 1) (vec_len held)) ok in
    let fewer : vec_len held < 10 = omega (arith, c.slots-test.true, c.len.ensures) in
    record {
      none = free_more held.items left.items (vec_len held) pushed c.slots.invariant.none ∙ ap (λ n. replicate n None) (sym longer);
      few = omega (arith, longer, fewer);
      room = let room = c.slots.invariant.room in let more = c.push.ensures.capacity in omega (arith, room, more);
    }

pub returns : goal.returns
returns g c =
    let few = c.slots.invariant.few in
    let all : vec_len c.slots.held ≡ 10 = omega (arith, few, c.slots-test.false, c.len.ensures) in
    c.slots.invariant.none ∙ ap (λ n. replicate n None) all
