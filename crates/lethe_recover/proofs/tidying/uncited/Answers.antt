use Rattle.std.proofs.Common.{◌≡◌, Bool, true, false, not, refl, sym, ap, ◌∙◌}
use Rattle.std.specs.BTreeSet.{contains}
use Rattle.lethe_base.specs.Names.{name_cmp}
use Rattle.lethe_base.specs.declared.name.Name.{Name}
use Rattle.lethe_recover.proofs.Names.{filter_kept, filter_dropped}
use Rattle.lethe_recover.proofs.tidying.uncited.Goals as goal
use Rattle.lethe_recover.proofs.tidying.uncited.Goals.{then-not-is_in+in_ok-push, else-not-is_in}

not_true : (b : Bool) → not b ≡ true → b ≡ false
not_true true e = sym e
not_true false e = refl

not_false : (b : Bool) → not b ≡ false → b ≡ true
not_false true e = refl
not_false false e = sym e

pub loop-name-preserved : goal.loop-name-preserved
loop-name-preserved c =
    let test : Name → Bool = contains name_cmp c.args.cited.now in
    elim c.if-not-is_in.branch [
      | then-not-is_in+in_ok-push w ↦
          let out : c.is_in.result ≡ false = w.if-not-is_in.true in
          filter_kept test c.args.names.now c.loop-name.rest.items c.if-not-is_in.rest.items c.loop-name.name-index _ c.loop-name-test.true (sym c.is_in.ensures ∙ out) c.loop-name.invariant (ap (λ v. v.items) w.rest-is ∙ w.in_ok-push.ensures.items)
      | else-not-is_in w ↦
          let in_it : c.is_in.result ≡ true = w.if-not-is_in.false in
          filter_dropped test c.args.names.now c.loop-name.rest.items c.if-not-is_in.rest.items c.loop-name.name-index _ c.loop-name-test.true (sym c.is_in.ensures ∙ in_it) c.loop-name.invariant (ap (λ v. v.items) w.rest-is)
    ]
