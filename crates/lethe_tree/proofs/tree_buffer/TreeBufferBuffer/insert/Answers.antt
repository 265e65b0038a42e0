use Rattle.std.proofs.Common.{◌≡◌, ◌∙◌, ◌++◌, ◌∷◌, [], ap, subst, cond, true, is_ok, length, Some, arith}
use Rattle.std.proofs.lemmas.Option.{slice_get_within}
use Rattle.lethe_base.specs.Entries.{Inserts}
use Rattle.lethe_mem.specs.Buffered.{Buffered}
use Rattle.lethe_tree.specs.Tree.{entries_from}
use Rattle.lethe_tree.proofs.Seen.{may_look}
use Rattle.lethe_tree.proofs.Inserted.{added_among, added_behind, inserts_replaced}
use Rattle.lethe_tree.proofs.tree_buffer.TreeBufferBuffer.insert.Goals as goal
use Rattle.lethe_tree.proofs.tree_buffer.TreeBufferBuffer.insert.Goals.{in-Put-1, in-Tomb-1}

pub index_mut-requires : goal.index_mut-requires
index_mut-requires c =
    let inside = c.self.inside in
    let is = c.self.invariant in
    let told = rw (c.deref.ensures.value, c.deref-2.ensures.value) at c.in-Held.ensures in
    let holds = told is.tree (may_look inside.entries.items inside.links.items inside.root inside.last is inside.ascending) is.last_is in
    let within = slice_get_within inside.entries.items c.in-Held.at holds.0 holds.1 in
    omega (arith, within)

pub invariant_of-self-inside : goal.invariant_of-self-inside
invariant_of-self-inside c =
    let inside = c.self.inside in
    let is = c.self.invariant in
    let told = rw (c.deref.ensures.value, c.deref-2.ensures.value) at c.in-Held.ensures in
    let holds = told is.tree (may_look inside.entries.items inside.links.items inside.root inside.last is inside.ascending) is.last_is in
    ((inserts_replaced inside.entries.items inside.links.items inside.root inside.last is c.in-Held.at c.args.entry inside.ascending holds).ascending, tt)

pub returns-in-Held-clause-entries : goal.returns-in-Held-clause-entries
returns-in-Held-clause-entries c =
    let inside = c.self.inside in
    let is = c.self.invariant in
    let told = rw (c.deref.ensures.value, c.deref-2.ensures.value) at c.in-Held.ensures in
    let holds = told is.tree (may_look inside.entries.items inside.links.items inside.root inside.last is inside.ascending) is.last_is in
    let made = inserts_replaced inside.entries.items inside.links.items inside.root inside.last is c.in-Held.at c.args.entry inside.ascending holds in
    let old = ap (λ (b : Buffered). b.entries) c.self.view_is in
    elim c.match-index_mut-entry.branch [ in-Put-1 w ↦ rw (w.self-is, ← old) made | in-Tomb-1 w ↦ rw (w.self-is, ← old) made ]

pub invariant_of-self-in-Behind : goal.invariant_of-self-in-Behind
invariant_of-self-in-Behind c =
    let inside = c.self.inside in
    let items = c.self.inside.entries.items in
    let links = c.self.inside.links.items in
    let is = c.self.invariant in
    let told = rw (c.deref.ensures.value, c.deref-2.ensures.value) at c.in-Behind.ensures in
    let spot = told is.tree (may_look items links inside.root inside.last is inside.ascending) is.last_is in
    let grown = rw c.deref-in-Behind.ensures.value at c.hang.ensures.grown in
    let spare = ap (λ (b : Buffered). b.spare) c.self.view_is in
    let ok : is_ok c.push.result ≡ true = c.push.ensures.succeeds (grind (arith, spare, c.requires)) in
    let pushed : c.push.new.self.items ≡ items ++ c.args.entry ∷ [] = c.push.ensures.items ∙ ap (λ b. cond b (items ++ c.args.entry ∷ []) items) ok in
    let len : c.len.result ≡ length links = omega arith in
    (added_behind items links inside.root inside.last is c.args.entry c.push.new.self.items c.hang.new.links.items c.hang.result inside.ascending c.len.result len pushed spot grown).0

pub invariant_of-self-inside-in-Behind : goal.invariant_of-self-inside-in-Behind
invariant_of-self-inside-in-Behind c =
    let inside = c.self.inside in
    let items = c.self.inside.entries.items in
    let links = c.self.inside.links.items in
    let is = c.self.invariant in
    let told = rw (c.deref.ensures.value, c.deref-2.ensures.value) at c.in-Behind.ensures in
    let spot = told is.tree (may_look items links inside.root inside.last is inside.ascending) is.last_is in
    let grown = rw c.deref-in-Behind.ensures.value at c.hang.ensures.grown in
    let spare = ap (λ (b : Buffered). b.spare) c.self.view_is in
    let ok : is_ok c.push.result ≡ true = c.push.ensures.succeeds (grind (arith, spare, c.requires)) in
    let pushed : c.push.new.self.items ≡ items ++ c.args.entry ∷ [] = c.push.ensures.items ∙ ap (λ b. cond b (items ++ c.args.entry ∷ []) items) ok in
    let len : c.len.result ≡ length links = omega arith in
    ((added_behind items links inside.root inside.last is c.args.entry c.push.new.self.items c.hang.new.links.items c.hang.result inside.ascending c.len.result len pushed spot grown).1.ascending, tt)

pub returns-in-Behind-clause-entries : goal.returns-in-Behind-clause-entries
returns-in-Behind-clause-entries c =
    let inside = c.self.inside in
    let items = c.self.inside.entries.items in
    let links = c.self.inside.links.items in
    let is = c.self.invariant in
    let told = rw (c.deref.ensures.value, c.deref-2.ensures.value) at c.in-Behind.ensures in
    let spot = told is.tree (may_look items links inside.root inside.last is inside.ascending) is.last_is in
    let grown = rw c.deref-in-Behind.ensures.value at c.hang.ensures.grown in
    let spare = ap (λ (b : Buffered). b.spare) c.self.view_is in
    let ok : is_ok c.push.result ≡ true = c.push.ensures.succeeds (grind (arith, spare, c.requires)) in
    let pushed : c.push.new.self.items ≡ items ++ c.args.entry ∷ [] = c.push.ensures.items ∙ ap (λ b. cond b (items ++ c.args.entry ∷ []) items) ok in
    let len : c.len.result ≡ length links = omega arith in
    subst (λ es. Inserts c.args.entry es (entries_from c.push.new.self.items c.hang.new.links.items (Some c.hang.result))) (ap (λ (b : Buffered). b.entries) c.self.view_is)
    (added_behind items links inside.root inside.last is c.args.entry c.push.new.self.items c.hang.new.links.items c.hang.result inside.ascending c.len.result len pushed spot grown).1

pub invariant_of-self-in-Among : goal.invariant_of-self-in-Among
invariant_of-self-in-Among c =
    let inside = c.self.inside in
    let items = c.self.inside.entries.items in
    let links = c.self.inside.links.items in
    let is = c.self.invariant in
    let told = rw (c.deref.ensures.value, c.deref-2.ensures.value) at c.in-Among.ensures in
    let spot = told is.tree (may_look items links inside.root inside.last is inside.ascending) is.last_is in
    let grown = rw c.deref-in-Among.ensures.value at c.hang-in-Among.ensures.grown in
    let spare = ap (λ (b : Buffered). b.spare) c.self.view_is in
    let ok : is_ok c.push-in-Among.result ≡ true = c.push-in-Among.ensures.succeeds (grind (arith, spare, c.requires)) in
    let pushed : c.push-in-Among.new.self.items ≡ items ++ c.args.entry ∷ [] = c.push-in-Among.ensures.items ∙ ap (λ b. cond b (items ++ c.args.entry ∷ []) items) ok in
    (added_among items links inside.root inside.last is c.args.entry c.push-in-Among.new.self.items c.hang-in-Among.new.links.items c.hang-in-Among.result inside.ascending pushed spot grown).0

pub invariant_of-self-inside-in-Among : goal.invariant_of-self-inside-in-Among
invariant_of-self-inside-in-Among c =
    let inside = c.self.inside in
    let items = c.self.inside.entries.items in
    let links = c.self.inside.links.items in
    let is = c.self.invariant in
    let told = rw (c.deref.ensures.value, c.deref-2.ensures.value) at c.in-Among.ensures in
    let spot = told is.tree (may_look items links inside.root inside.last is inside.ascending) is.last_is in
    let grown = rw c.deref-in-Among.ensures.value at c.hang-in-Among.ensures.grown in
    let spare = ap (λ (b : Buffered). b.spare) c.self.view_is in
    let ok : is_ok c.push-in-Among.result ≡ true = c.push-in-Among.ensures.succeeds (grind (arith, spare, c.requires)) in
    let pushed : c.push-in-Among.new.self.items ≡ items ++ c.args.entry ∷ [] = c.push-in-Among.ensures.items ∙ ap (λ b. cond b (items ++ c.args.entry ∷ []) items) ok in
    ((added_among items links inside.root inside.last is c.args.entry c.push-in-Among.new.self.items c.hang-in-Among.new.links.items c.hang-in-Among.result inside.ascending pushed spot grown).1.ascending, tt)

pub returns-in-Among-clause-entries : goal.returns-in-Among-clause-entries
returns-in-Among-clause-entries c =
    let inside = c.self.inside in
    let items = c.self.inside.entries.items in
    let links = c.self.inside.links.items in
    let is = c.self.invariant in
    let told = rw (c.deref.ensures.value, c.deref-2.ensures.value) at c.in-Among.ensures in
    let spot = told is.tree (may_look items links inside.root inside.last is inside.ascending) is.last_is in
    let grown = rw c.deref-in-Among.ensures.value at c.hang-in-Among.ensures.grown in
    let spare = ap (λ (b : Buffered). b.spare) c.self.view_is in
    let ok : is_ok c.push-in-Among.result ≡ true = c.push-in-Among.ensures.succeeds (grind (arith, spare, c.requires)) in
    let pushed : c.push-in-Among.new.self.items ≡ items ++ c.args.entry ∷ [] = c.push-in-Among.ensures.items ∙ ap (λ b. cond b (items ++ c.args.entry ∷ []) items) ok in
    subst (λ es. Inserts c.args.entry es (entries_from c.push-in-Among.new.self.items c.hang-in-Among.new.links.items (Some c.hang-in-Among.result))) (ap (λ (b : Buffered). b.entries) c.self.view_is)
    (added_among items links inside.root inside.last is c.args.entry c.push-in-Among.new.self.items c.hang-in-Among.new.links.items c.hang-in-Among.result inside.ascending pushed spot grown).1
