use Rattle.std.proofs.Common.{◌≡◌, ◌<◌, ◌∷◌, ◌++◌, [], map, length, ap, ◌∙◌, sym, inl, inr, arith, vec_len}
use Rattle.std.proofs.lemmas.Bool.{eqb-true, eqb-false}
use Rattle.std.proofs.lemmas.List.{map-append}
use Rattle.lethe_tile.proofs.Parts.{cutting_turn, cutting_end}
use Rattle.lethe_tile.proofs.cutting.cut.Goals as goal
use Rattle.lethe_tile.proofs.cutting.cut.Goals.{then-len-most+in_ok-push, else-len-most, then-not-is_empty+in_ok-push-3, else-not-is_empty}

pub loop-entry-preserved : goal.loop-entry-preserved
loop-entry-preserved c =
    let parts = map (λ part. part.items) c.loop-entry.parts.items in
    let start = rw (c.in-Some.ensures.steps.0) at c.loop-entry.invariant in
    let long : length c.loop-entry.part.items ≡ c.len.result = omega (arith, c.loop-entry.part.ok.0) in
    cutting_turn c.args.most parts _ c.loop-entry.part.items _ _ c.in-Some.entry _ _ c.requires start
    (elim c.if-len-most.branch [
      | then-len-most+in_ok-push w ↦ inl (
        long ∙ w.if-len-most.true,
        ap (λ v. map (λ part. part.items) v.items) w.parts-is ∙ ap (map (λ part. part.items)) w.in_ok-push.ensures.items ∙ map-append _ _ _ ∙ ap (λ v. parts ++ v.items ∷ []) w.replace.ensures.value,
        ap (λ v. v.items) (w.part-is ∙ w.replace.ensures.after) ∙ w.new.ensures.items,
      )
      | else-len-most w ↦ inr (λ e. w.if-len-most.false (sym long ∙ e), ap (λ v. map (λ part. part.items) v.items) w.parts-is, ap (λ v. v.items) w.part-is)
    ])
    c.in_ok-push-2.ensures.items

pub returns-clause-lengths : goal.returns-clause-lengths
returns-clause-lengths c =
    let parts = map (λ part. part.items) c.loop-entry.parts.items in
    let long : length c.loop-entry.part.items ≡ vec_len c.loop-entry.part = omega (arith, c.loop-entry.part.ok.0) in
    cutting_end c.args.most parts _ c.loop-entry.part.items _ _ c.loop-entry.invariant
    (elim c.if-not-is_empty.branch [
      | then-not-is_empty+in_ok-push-3 w ↦
          let other = eqb-false _ 0 (sym w.if-not-is_empty.ensures) in
          inl (
            let some : 0 < length c.loop-entry.part.items = omega (arith, long, other) in some,
            ap (λ v. map (λ part. part.items) v.items) w.parts-is ∙ ap (map (λ part. part.items)) w.in_ok-push-3.ensures.items ∙ map-append _ _ _,
          )
      | else-not-is_empty w ↦ inr (long ∙ eqb-true _ 0 (sym w.if-not-is_empty.ensures), ap (λ v. map (λ part. part.items) v.items) w.parts-is)
    ])
