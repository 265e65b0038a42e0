use Rattle.std.proofs.Common.{◌≡◌, ◌<◌, ◌∷◌, ◌++◌, [], map, length, ap, ◌∙◌, sym, inl, inr, arith, vec_len}
use Rattle.std.proofs.lemmas.Bool.{eqb-true, eqb-false}
use Rattle.std.proofs.lemmas.List.{length-map, map-append}
use Rattle.lethe_tile.specs.Woven.{plain}
use Rattle.lethe_tile.proofs.Parts.{cutting_turn, cutting_end}
use Rattle.lethe_build.proofs.cutting.cut.Goals as goal
use Rattle.lethe_build.proofs.cutting.cut.Goals.{then-len-most+in_ok-push, else-len-most, then-not-is_empty+in_ok-push-3, else-not-is_empty}

pub loop-tile-preserved : goal.loop-tile-preserved
loop-tile-preserved c =
    let groups = map (λ group. map plain group.items) c.loop-tile.groups.items in
    let group = c.loop-tile.group in
    let start = rw (c.in-Some.ensures.steps.0) at c.loop-tile.invariant in
    let long : length (map plain group.items) ≡ c.len.result = length-map group.items plain ∙ omega (arith, group.ok.0) in
    cutting_turn c.args.most groups _ (map plain group.items) _ _ (plain c.in-Some.tile) _ _ c.requires start
    (elim c.if-len-most.branch [
      | then-len-most+in_ok-push w ↦ inl (
        long ∙ w.if-len-most.true,
        ap (λ v. map (λ g. map plain g.items) v.items) w.groups-is ∙ ap (map (λ g. map plain g.items)) w.in_ok-push.ensures.items ∙ map-append _ _ _ ∙ ap (λ v. groups ++ map plain v.items ∷ []) w.replace.ensures.value,
        ap (λ v. map plain v.items) (w.group-is ∙ w.replace.ensures.after) ∙ ap (map plain) w.new.ensures.items,
      )
      | else-len-most w ↦ inr (λ e. w.if-len-most.false (sym long ∙ e), ap (λ v. map (λ g. map plain g.items) v.items) w.groups-is, ap (λ v. map plain v.items) w.group-is)
    ])
    (ap (map plain) c.in_ok-push-2.ensures.items ∙ map-append _ _ _)

pub returns-clause-lengths : goal.returns-clause-lengths
returns-clause-lengths c =
    let groups = map (λ group. map plain group.items) c.loop-tile.groups.items in
    let group = c.loop-tile.group in
    let long : length (map plain group.items) ≡ vec_len group = length-map group.items plain ∙ omega (arith, group.ok.0) in
    cutting_end c.args.most groups _ (map plain group.items) _ _ c.loop-tile.invariant
    (elim c.if-not-is_empty.branch [
      | then-not-is_empty+in_ok-push-3 w ↦
          let other = eqb-false _ 0 (sym w.if-not-is_empty.ensures) in
          inl (
            let some : 0 < length (map plain group.items) = omega (arith, long, other) in some,
            ap (λ v. map (λ g. map plain g.items) v.items) w.groups-is ∙ ap (map (λ g. map plain g.items)) w.in_ok-push-3.ensures.items ∙ map-append _ _ _,
          )
      | else-not-is_empty w ↦ inr (long ∙ eqb-true _ 0 (sym w.if-not-is_empty.ensures), ap (λ v. map (λ g. map plain g.items) v.items) w.groups-is)
    ])
