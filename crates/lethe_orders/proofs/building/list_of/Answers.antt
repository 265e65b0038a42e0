use Rattle.std.proofs.Common.{◌∙◌, ◌↔◌, ap, sym, subst, AllPairs, Contains, IsPermutation, List, arith}
use Rattle.lethe_due.specs.Due.{Due}
use Rattle.lethe_due.specs.declared.due_file.DueFile.{DueFile}
use Rattle.lethe_orders.specs.Standing.{timed}
use Rattle.lethe_orders.proofs.Lists.{HasOther, apart_in_order, order_of_all}
use Rattle.lethe_orders.proofs.building.list_of.Goals as goal

pub link_all-requires-clause-empty : goal.link_all-requires-clause-empty
link_all-requires-clause-empty g c = c.reserve.ensures.files ∙ ap (λ (d : Due). d.files) c.new-list.ensures

pub link_all-requires-clause-apart : goal.link_all-requires-clause-apart
link_all-requires-clause-apart g c =
    let order = c.sort_last_first.new.order.items in
    let moved : IsPermutation (timed c.args.files.now) order = subst (λ (l : List DueFile). IsPermutation l order) c.in_ok-order.ensures c.sort_last_first.ensures in
    subst (AllPairs HasOther) (sym c.deref.ensures.value) (apart_in_order c.args.files.now order c.requires moved)

pub link_all-requires-clause-room : goal.link_all-requires-clause-room
link_all-requires-clause-room g c = omega (arith, c.deref.ensures.len, c.len.ensures, c.in_ok-reserve.ensures.spare)

pub returns : goal.returns
returns g c =
    let order = c.sort_last_first.new.order.items in
    let moved : IsPermutation (timed c.args.files.now) order = subst (λ (l : List DueFile). IsPermutation l order) c.in_ok-order.ensures c.sort_last_first.ensures in
    let same : (x : DueFile) → Contains c.link_all.new.list.files x ↔ Contains order x =
    subst (λ (l : List DueFile). (x : DueFile) → Contains c.link_all.new.list.files x ↔ Contains l x) c.deref.ensures.value c.link_all.ensures.same
    in
    record { same = order_of_all c.args.files.now order c.link_all.new.list.files moved same; order = c.link_all.ensures.order }
