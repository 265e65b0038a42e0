use Rattle.std.proofs.Common.{◌≡◌, [], map, ap, ◌∙◌, filter_map, rules, ℕ}
use Rattle.lethe_base.specs.declared.pending.Pending.{Pending}
use Rattle.lethe_stored.specs.Stored.{erase_of}
use Rattle.lethe_flush.specs.ByPlace.{with_erases}
use Rattle.lethe_flush.proofs.Places.{ordered_is}
use Rattle.lethe_flush.proofs.pending.pending_of.Goals as goal

pub returns : goal.returns
returns c =
    let entries : c.add_erases.new.by_place.entries ≡ with_erases c.args.erases.now (with_erases (filter_map erase_of c.args.records.now) []) =
    c.in_ok-add_erases.ensures ∙ ap (with_erases c.args.erases.now) (c.in_ok-add_recorded.ensures ∙ ap (with_erases (filter_map erase_of c.args.records.now)) c.new-by_place.ensures.empty) in
    let collected : c.in_ok-collect.field-0.items ≡ c.into_values.result = search rules in
    collected ∙ c.into_values.ensures.rest ∙ ap (map (λ (e : ℕ × Pending). e.1)) entries ∙ ordered_is c.args.erases.now (filter_map erase_of c.args.records.now)
