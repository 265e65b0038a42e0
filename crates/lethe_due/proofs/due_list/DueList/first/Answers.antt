use Rattle.std.proofs.Common.{◌∙◌, ap, sym, All, List, subst}
use Rattle.std.specs.List.{slice_get}
use Rattle.slab.specs.Slab.{get}
use Rattle.lethe_due.specs.declared.due_file.DueFile.{DueFile}
use Rattle.lethe_due.specs.Due.{Due, IsFirst, first_of}
use Rattle.lethe_due.specs.Linked.{files_from}
use Rattle.lethe_due.proofs.Ordered.{first_is_least}
use Rattle.lethe_due.proofs.Walked.{first_file, first_is, order_seen, seen}
use Rattle.lethe_due.proofs.due_list.DueList.first.Goals as goal

pub returns-in-Some-clause-first : goal.returns-in-Some-clause-first
returns-in-Some-clause-first g c =
    let inside = c.self.inside in
    let linked = c.self.invariant in
    let stands = first_file (get inside.nodes) inside.first linked.cells c.in-Some.node.now linked.path c.in-Some.ensures ∙ ap (λ (l : List DueFile). slice_get l 0) (sym (seen inside.nodes inside.first linked)) in
    first_is (files_from inside.nodes inside.first) c.in-Some.node.now.file stands ∙ ap (λ (d : Due). first_of d.files) c.self.view_is

pub returns-in-Some-clause-least : goal.returns-in-Some-clause-least
returns-in-Some-clause-least g c =
    let inside = c.self.inside in
    let linked = c.self.invariant in
    let file = c.in-Some.node.now.file in
    let stands = first_file (get inside.nodes) inside.first linked.cells c.in-Some.node.now linked.path c.in-Some.ensures ∙ ap (λ (l : List DueFile). slice_get l 0) (sym (seen inside.nodes inside.first linked)) in
    subst (λ (d : Due). All (IsFirst file.no file.oldest) d.files) c.self.view_is
    (first_is_least (files_from inside.nodes inside.first) file (order_seen inside.nodes inside.first linked).ordered stands)
