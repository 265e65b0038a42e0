use Rattle.std.proofs.Common.{sym, ◌∙◌, ◌≤◌, ◌<◌, ◌≡◌, ℕ, inl, inr}
use Rattle.std.proofs.Math.Nat.{eq-or-lt_of_le}
use Rattle.lethe_tree.proofs.Placed.{linked_here, stands_here, seeks_left, seeks_right}
use Rattle.lethe_tree.proofs.Written.{none_of}
use Rattle.lethe_tree.proofs.looking.index_at.Goals as goal
use Rattle.lethe_tree.proofs.looking.index_at.Goals.{then-rest-before-2, else-rest-before-2}

pub returns-in_default-link_at : goal.returns-in_default-link_at
returns-in_default-link_at c = λ t lies is low.
    absurd (linked_here c.args.links.now t c.args.place c.loop-left.at c.loop-left.left c.loop-left.rest c.in-Some.here (c.loop-left.invariant t lies is low) c.in-Some.is (sym c.link_at.ensures ∙ none_of c.link_at.result c.in_default-link_at.not-Some))

pub returns-then-rest-before : goal.returns-then-rest-before
returns-then-rest-before c = λ t lies is low.
    stands_here c.args.links.now t c.args.place c.loop-left.at c.loop-left.left c.loop-left.rest c.in-Some.here c.in-Some-link_at.link c.size_at-before.result (c.loop-left.invariant t lies is low) c.in-Some.is
    (sym c.link_at.ensures ∙ c.in-Some-link_at.is) c.size_at-before.ensures c.if-rest-before.true

pub loop-left-preserved : goal.loop-left-preserved
loop-left-preserved c = λ t lies is low.
    let seeking = c.loop-left.invariant t lies is low in
    let node = sym c.link_at.ensures ∙ c.in-Some-link_at.is in
    elim c.if-rest-before-2.branch [
      | then-rest-before-2 w ↦ rw (w.at-is, w.rest-is)
          (seeks_left c.args.links.now t c.args.place c.loop-left.at c.loop-left.left c.loop-left.rest c.in-Some.here c.in-Some-link_at.link c.size_at-before.result seeking c.in-Some.is node c.size_at-before.ensures w.if-rest-before-2.true)
      | else-rest-before-2 w ↦ rw (w.at-is, w.rest-is)
          (seeks_right c.args.links.now t c.args.place c.loop-left.at c.loop-left.left c.loop-left.rest c.in-Some.here c.in-Some-link_at.link c.size_at-before.result seeking c.in-Some.is node c.size_at-before.ensures
          (let a = w.if-rest-before-2.false in let b = c.if-rest-before.false in above c.size_at-before.result c.loop-left.rest a b))
    ]
  where
    above : (before rest : ℕ) → before ≤ rest → (rest ≡ before → ⊥) → before < rest
    above before rest a b = elim (eq-or-lt_of_le a) [ inl same ↦ absurd (b (sym same)) | inr lt ↦ lt ]
