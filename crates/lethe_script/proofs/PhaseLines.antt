-- What the line of the word that ends a phase says.
use Rattle.std.proofs.Common.{◌≡◌, ℕ, Some, Ok, refl}
use Rattle.std.specs.Prelude.{codes}
use Rattle.lethe_script.specs.Grammar.{line_of, fields_say, item_fields, phase_end_of}
use Rattle.lethe_script.specs.declared.order.Item.TheVariants as item

pub phase_line : (number : ℕ) → line_of number (codes "phase") ≡ Ok (Some item.PhaseEnd)
unfolding line_of fields_say item_fields phase_end_of
phase_line number = refl
