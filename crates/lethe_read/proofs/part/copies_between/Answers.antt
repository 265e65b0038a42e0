use Rattle.std.proofs.Common.{◌≡◌, ◌<◌, [], ◌∷◌, ◌++◌, sym, ap, ◌∙◌, arith, reverse}
use Rattle.std.specs.Global.{Vec}
use Rattle.std.specs.Option.{option_copied}
use Rattle.std.proofs.lemmas.List.{reverse-reverse}
use Rattle.lethe_base.specs.declared.entry.Entry.{Entry}
use Rattle.lethe_mem.specs.Order.{count_below}
use Rattle.lethe_read.proofs.Ranges.{from_first, next_in_range, stands_before, all_found}
use Rattle.lethe_read.proofs.part.copies_between.Goals as goal
use Rattle.lethe_read.proofs.part.copies_between.Goals.{in-Some+in_ok-copy+in_ok-push, in_default}

pub loop-place-init : goal.loop-place-init
loop-place-init g c =
    let laws = g.met.B.Buffer g.world.𝓛 g.world.𝓜 g.world.𝓡 ((λ s x. x), (λ x. x), (λ x. x), λ x. x) in
    record {
      so_far = rw (c.new-entries.ensures.items, c.first_from-first.ensures) (from_first c.args.lo.now c.args.hi.now _ (laws.ascending c.args.buffer.now));
      from = omega (arith, c.first_from-first.ensures);
    }

pub loop-place-preserved : goal.loop-place-preserved
loop-place-preserved g c =
    let entries = g.B.Buffer.entries c.args.buffer.now in
    let laws = g.met.B.Buffer g.world.𝓛 g.world.𝓜 g.world.𝓡 ((λ s x. x), (λ x. x), (λ x. x), λ x. x) in
    let before : c.loop-place.place < count_below c.args.hi.now entries = omega (arith, c.first_from-end.ensures, c.loop-place-test.true) in
    record {
      so_far = elim c.match-at.branch [
        | in-Some+in_ok-copy+in_ok-push w ↦
            let more : c.match-at.entries.items ≡ c.loop-place.entries.items ++ w.in-Some.entry.now ∷ [] =
            ap (λ (v : Vec Entry). v.items) w.entries-is ∙ w.in_ok-push.ensures.items ∙ ap (λ (entry : Entry). c.loop-place.entries.items ++ entry ∷ []) w.in_ok-copy.ensures in
            rw more (next_in_range c.args.lo.now c.args.hi.now entries c.loop-place.place w.in-Some.entry.now c.loop-place.entries.items (laws.ascending c.args.buffer.now) c.loop-place.invariant.from before (sym w.in-Some.ensures) c.loop-place.invariant.so_far)
        | in_default w ↦ absurd (stands_before c.args.hi.now entries c.loop-place.place before (sym c.at.ensures ∙ ap option_copied w.in_default.is))
      ];
      from = omega (arith, c.loop-place.invariant.from);
    }

pub returns : goal.returns
returns g c =
    let laws = g.met.B.Buffer g.world.𝓛 g.world.𝓜 g.world.𝓡 ((λ s x. x), (λ x. x), (λ x. x), λ x. x) in
    ap reverse c.reverse.ensures.items ∙ reverse-reverse c.loop-place.entries.items
    ∙ all_found c.args.lo.now c.args.hi.now _ c.loop-place.place _ (laws.ascending c.args.buffer.now) (omega (arith, c.first_from-end.ensures, c.loop-place-test.false)) c.loop-place.invariant.so_far
