use Rattle.std.proofs.Common.{rules, ◌≡◌, [], ◌∷◌, List, Some, length, ap, ◌∙◌, sym, subst}
use Rattle.std.specs.Prelude.{min}
use Rattle.lethe_base.specs.declared.refused.Refused.TheVariants.{NoMemory}
use Rattle.lethe_engine.specs.Asked.{Asked}
use Rattle.lethe_store.specs.Reasons.{counts_of}
use Rattle.lethe_store.specs.Rows.{HasMadeAll}
use Rattle.lethe_store.proofs.Listed.{nothing_made, some_items}
use Rattle.lethe_store.proofs.listing.Store+D+Changes.change_all.Goals.{in_default-via-in-Ok+in_default, in_default-via-in_default}
use Rattle.lethe_store.proofs.listing.Store+D+Changes.change_all.Goals as goal

pub returns-in_default-clause-made : goal.returns-in_default-clause-made
returns-in_default-clause-made g c =
    let none_asked : length c.args.asked.items ≡ 0 → c.len-many.result ≡ 0 = λ none. (let ok = c.args.asked.ok in let is = c.len-many.ensures in search rules) in
    let some : (next : Asked) × (more : List Asked) × (c.args.asked.items ≡ next ∷ more) = elim c.in_default.branch [
      | in_default-via-in-Ok+in_default w ↦ some_items c.args.asked.items (λ none. (let empty : c.min.result ≡ 0 = c.min.ensures ∙ ap (λ n. min n 256) (none_asked none) in let ok = c.with_capacity-2.ensures.succeeds empty in search rules))
      | in_default-via-in_default w ↦ some_items c.args.asked.items (λ none. (let ok = c.with_capacity.ensures.succeeds (none_asked none) in search rules))
    ] in
    subst (λ p. HasMadeAll c.args.session.now.caller c.args.asked.items p (Some NoMemory) c.args.session.now.seat.me.0 c.args.session.now.seat.me.0) (sym c.new.ensures.items) (nothing_made c.args.session.now.caller c.args.asked.items c.args.session.now.seat.me.0 some)

pub returns-in_default-clause-why : goal.returns-in_default-clause-why
returns-in_default-clause-why g c =
    let counts = counts_of (g.D.Disk.fetches c.args.session.now.port) (g.D.Disk.port_faults c.args.session.now.port) in
    record { from = counts; since = (search rules, search rules); reason = tt }
