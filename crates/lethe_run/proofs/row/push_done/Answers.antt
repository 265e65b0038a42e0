use Rattle.std.proofs.Common.{rules, ◌≡◌, ◌+◌, ◌++◌, ◌∷◌, [], true, cond, ap, ◌∙◌, arith, append_assoc}
use Rattle.std.specs.Prelude.{is_ok, vec_len}
use Rattle.lethe_run.specs.declared.reply.Line.TheVariants.{Answer}
use Rattle.lethe_run.specs.declared.reply.Reply.TheVariants.{Done}
use Rattle.lethe_run.specs.Rows.{done_lines}
use Rattle.lethe_run.proofs.Rows.{done_more}
use Rattle.lethe_run.proofs.row.push_done.Goals as goal

pub loop-n-preserved : goal.loop-n-preserved
loop-n-preserved c =
    let line = Answer c.args.caller (Done (c.args.count + c.loop-n.n + 1)) in
    let so_far = c.loop-n.lines in
    let ok : is_ok c.push.result ≡ true = search rules in
    let pushed : c.push.new.self.items ≡ so_far.items ++ line ∷ [] = search rules in
    let longer : vec_len c.push.new.self ≡ vec_len so_far + 1 = c.push.ensures.len ∙ ap (λ b. cond b (vec_len so_far + 1) (vec_len so_far)) ok in
    let before = c.args.lines.now.items in
    record {
      lines = pushed ∙ ap (λ l. l ++ line ∷ []) c.loop-n.invariant.lines ∙ append_assoc before (done_lines c.args.caller c.args.count c.loop-n.n) (line ∷ [])
          ∙ ap (λ l. before ++ l) (done_more c.args.caller c.args.count c.loop-n.n (c.args.count + c.loop-n.n + 1) (omega arith));
      len = let len = c.loop-n.invariant.len in omega (arith, longer, len);
      capacity = let capacity = c.loop-n.invariant.capacity in let more = c.push.ensures.capacity in omega (arith, capacity, more);
    }
