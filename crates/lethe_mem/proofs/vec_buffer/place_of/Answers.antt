use Rattle.std.proofs.Common.{◌≡◌, ◌-◌, Some, length, rules}
use Rattle.std.proofs.lemmas.Fn.{always_returns_same}
use Rattle.std.specs.List.{slice_get}
use Rattle.std.specs.declared.cmp.Ordering.TheVariants.{Less}
use Rattle.lethe_base.specs.Keys.{key_cmp}
use Rattle.lethe_mem.proofs.Places.{behind_last, searched}
use Rattle.lethe_mem.proofs.vec_buffer.place_of.Goals as goal

pub returns-in_default-clause-found : goal.returns-in_default-clause-found
returns-in_default-clause-found c =
    let facts = c.binary_search_by.ensures in
    let by_key = facts.position (λ entry. key_cmp entry.key c.args.key.now) (always_returns_same _ _ _ (λ a r g called. search rules)) in
    (searched c.args.key.now c.args.entries.now _ c.requires facts.bound by_key).0

pub returns-in_default-clause-absent : goal.returns-in_default-clause-absent
returns-in_default-clause-absent c =
    let facts = c.binary_search_by.ensures in
    let by_key = facts.position (λ entry. key_cmp entry.key c.args.key.now) (always_returns_same _ _ _ (λ a r g called. search rules)) in
    (searched c.args.key.now c.args.entries.now _ c.requires facts.bound by_key).1

pub returns-in-Some-clause-absent : goal.returns-in-Some-clause-absent
returns-in-Some-clause-absent c =
    let entries = c.args.entries.now in
    let last = c.in-Some.last.now in
    let found : slice_get entries (length entries - 1) ≡ Some last = search rules in
    let below : key_cmp last.key c.args.key.now ≡ Less = search rules in
    let gap = behind_last c.args.key.now entries last c.requires found below in
    search rules
