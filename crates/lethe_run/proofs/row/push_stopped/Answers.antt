use Rattle.std.proofs.Common.{rules, ◌≡◌, ◌+◌, ◌++◌, ◌∷◌, [], true, cond, ap, ◌∙◌, arith, append_assoc}
use Rattle.std.specs.Prelude.{is_ok, vec_len}
use Rattle.std.proofs.lemmas.List.{replicate_more}
use Rattle.lethe_run.specs.declared.reply.Line.TheVariants.{Answer}
use Rattle.lethe_run.specs.declared.reply.Reply.TheVariants.{Stopped}
use Rattle.lethe_run.specs.Rows.{stopped_lines}
use Rattle.lethe_run.proofs.row.push_stopped.Goals as goal

pub loop-preserved : goal.loop-preserved
loop-preserved c =
    let line = Answer c.args.caller (Stopped c.args.at) in
    let so_far = c.loop.lines in
    let ok : is_ok c.push.result ≡ true = search rules in
    let pushed : c.push.new.self.items ≡ so_far.items ++ line ∷ [] = search rules in
    let longer : vec_len c.push.new.self ≡ vec_len so_far + 1 = c.push.ensures.len ∙ ap (λ b. cond b (vec_len so_far + 1) (vec_len so_far)) ok in
    let before = c.args.lines.now.items in
    record {
      lines = pushed ∙ ap (λ l. l ++ line ∷ []) c.loop.invariant.lines ∙ append_assoc before (stopped_lines c.args.caller c.args.at c.loop.counter) (line ∷ [])
          ∙ ap (λ l. before ++ l) (replicate_more c.loop.counter line);
      len = let len = c.loop.invariant.len in omega (arith, longer, len);
      capacity = let capacity = c.loop.invariant.capacity in let more = c.push.ensures.capacity in omega (arith, capacity, more);
    }
