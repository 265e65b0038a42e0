use Rattle.std.proofs.Common.{◌≡◌, ◌-◌, length, Some, sym, ap, ◌∙◌}
use Rattle.std.specs.Prelude.{slice_get}
use Rattle.lethe_flush.proofs.Clearness.{first_is, last_is}
use Rattle.lethe_flush.proofs.clear.ends_of.Goals as goal

pub returns : goal.returns
returns c =
    let entries = c.args.buffer.now.entries in
    let first = first_is entries c.in_ok-first.first.now (sym c.in_ok-first.ensures) in
    let last : slice_get entries (length entries - 1) ≡ Some c.in_ok-last.last.now = ap (λ n. slice_get entries (n - 1)) (sym c.len.ensures) ∙ sym c.in_ok-last.ensures in
    (first.0, first.1, last_is (λ entry. entry.key) entries c.in_ok-last.last.now first.0 last)
