use Rattle.std.proofs.Common.{sym, ◌∙◌}
use Rattle.lethe_fade.proofs.Expiring.{whole_free, whole_taken}
use Rattle.lethe_fade.proofs.expired.first_in_level.Goals as goal

pub returns-then-is_merge_free : goal.returns-then-is_merge_free
returns-then-is_merge_free c =
    c.oldest_file.ensures
    ∙ whole_free c.args.config.now c.args.clock c.args.level c.args.files.now c.args.next.now c.args.claims.now c.in_ok-first.first.now c.in_ok-first.others.now c.if-level-eq0.true c.in_ok-first.ensures.cases.0
    c.of_all.result c.of_all.ensures (sym c.is_merge_free.ensures ∙ c.if-is_merge_free.true)

pub returns-else-is_merge_free : goal.returns-else-is_merge_free
returns-else-is_merge_free c =
    whole_taken c.args.config.now c.args.clock c.args.level c.args.files.now c.args.next.now c.args.claims.now c.in_ok-first.first.now c.in_ok-first.others.now c.if-level-eq0.true c.in_ok-first.ensures.cases.0
    c.of_all.result c.of_all.ensures (sym c.is_merge_free.ensures ∙ c.if-is_merge_free.false)
