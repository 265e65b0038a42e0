use Rattle.std.proofs.Common.{◌≡◌, ◌-◌, ◌<◌, length, get_or, refl, sym, ◌∙◌, subst, arith}
use Rattle.std.proofs.lemmas.List.{get_or_default}
use Rattle.lethe_base.specs.declared.entry.Entry.{Entry}
use Rattle.lethe_tile.proofs.Orders.{HasLowerKey, pairs_from_neighbours, pairs_from_ascending, ascending_from_pairs}
use Rattle.lethe_tile.proofs.ordering.is_ascending.Goals as goal

pub returns-in_default : goal.returns-in_default
returns-in_default c =
    let es = c.args.entries.now in
    let i = c.loop-i.i in
    let before = c.index-entries-i.result in
    let here = c.index-entries-i-in-loop-i.result in
    let below : i < length es = omega arith in
    let read : get_or es i before ≡ here = get_or_default es i before here below ∙ sym c.index-entries-i-in-loop-i.is in (
      λ t. absurd cc,
      λ s.
          let lower : HasLowerKey (get_or es (i - 1) before) (get_or es i before) = pairs_from_ascending es s (i - 1) i before (omega arith) below in
          absurd (c.in_default.not-Less (c.compare_by_key.ensures ∙ subst (λ (e : Entry). HasLowerKey e here) (sym c.index-entries-i.is) (subst (λ (f : Entry). HasLowerKey (get_or es (i - 1) before) f) read lower))),
    )

pub returns : goal.returns
returns c = (λ t. ascending_from_pairs c.args.entries.now (pairs_from_neighbours c.args.entries.now (λ k d below. c.loop-i.invariant k d (omega arith))), λ s. refl)
