use Rattle.std.proofs.Common.{◌≡◌, ◌∷◌, [], ◌++◌, Some, ap, sym, ◌∙◌, arith}
use Rattle.std.specs.Prelude.{slice_get}
use Rattle.std.specs.Option.{option_copied}
use Rattle.lethe_flush.proofs.Clearness.{take_next}
use Rattle.lethe_flush.proofs.flushing.entries_of.Goals as goal

pub loop-place-preserved : goal.loop-place-preserved
loop-place-preserved c =
    let entries = c.args.buffer.now.entries in
    let here : slice_get entries c.loop-place.place ≡ Some c.in_ok-copy.field-0 = sym c.at.ensures ∙ ap option_copied c.unwrap.ensures ∙ ap Some (sym c.in_ok-copy.ensures) in
    c.in_ok-push.ensures.items ∙ ap (λ es. es ++ c.in_ok-copy.field-0 ∷ []) c.loop-place.invariant
    ∙ sym (take_next entries c.loop-place.place c.in_ok-copy.field-0 (omega (arith, c.loop-place-test.true, c.len-place-end.ensures)) here)
