use Rattle.std.proofs.Common.{◌≡◌, ◌∙◌, ap, sym, false, length, map, arith}
use Rattle.lethe_due.specs.declared.due_file.DueFile.{DueFile}
use Rattle.lethe_due.specs.Due.{Due, is_linked}
use Rattle.lethe_due.specs.Linked.{file_of}
use Rattle.lethe_due.proofs.Relinked.{one_linked}
use Rattle.lethe_due.proofs.Walked.{count_seen, order_seen, seen}
use Rattle.lethe_due.proofs.due_list.DueList.link.Goals as goal

pub invariant_of-self : goal.invariant_of-self
invariant_of-self g c =
    let inside = c.self.inside in
    let linked = c.self.invariant in
    let parts = c.seek-behind.ensures.parted linked.cells linked.path linked.count in
    let file : DueFile = record { no = c.args.no; oldest = c.args.oldest } in
    let missing : is_linked c.args.no (map file_of linked.cells) ≡ false =
    ap (is_linked c.args.no) (sym (seen inside.nodes inside.first linked)) ∙ ap (λ (d : Due). is_linked c.args.no d.files) c.self.view_is ∙ c.requires.other in
    (one_linked inside.nodes c.insert_reserved-key.new.self c.relink-self-inside.new.nodes inside.first c.relink-self-inside.result c.seek-behind.result.0 c.seek-behind.result.1 c.insert_reserved-key.result file linked
    parts.front parts.back parts.whole parts.last parts.to parts.on parts.passed parts.stopped missing c.insert_reserved-key.ensures.was_vacant c.insert_reserved-key.ensures.updates c.insert_reserved-key.ensures.len
    c.relink-self-inside.ensures.linked c.relink-self-inside.ensures.len).0

pub returns-clause-with : goal.returns-clause-with
returns-clause-with g c =
    let inside = c.self.inside in
    let linked = c.self.invariant in
    let parts = c.seek-behind.ensures.parted linked.cells linked.path linked.count in
    let file : DueFile = record { no = c.args.no; oldest = c.args.oldest } in
    let missing : is_linked c.args.no (map file_of linked.cells) ≡ false =
    ap (is_linked c.args.no) (sym (seen inside.nodes inside.first linked)) ∙ ap (λ (d : Due). is_linked c.args.no d.files) c.self.view_is ∙ c.requires.other in
    let after = one_linked inside.nodes c.insert_reserved-key.new.self c.relink-self-inside.new.nodes inside.first c.relink-self-inside.result c.seek-behind.result.0 c.seek-behind.result.1 c.insert_reserved-key.result file linked
    parts.front parts.back parts.whole parts.last parts.to parts.on parts.passed parts.stopped missing c.insert_reserved-key.ensures.was_vacant c.insert_reserved-key.ensures.updates c.insert_reserved-key.ensures.len
    c.relink-self-inside.ensures.linked c.relink-self-inside.ensures.len in
    record {
      front = after.1.front;
      back = after.1.back;
      was = sym (ap (λ (d : Due). d.files) c.self.view_is) ∙ seen inside.nodes inside.first linked ∙ after.1.was;
      is = seen c.relink-self-inside.new.nodes c.relink-self-inside.result after.0 ∙ after.1.is;
    }

pub returns-clause-order : goal.returns-clause-order
returns-clause-order g c = order_seen c.relink-self-inside.new.nodes c.relink-self-inside.result (invariant_of-self g c)

pub returns-clause-few : goal.returns-clause-few
returns-clause-few g c =
    omega (arith, c.relink-self-inside.ensures.few, c.seek-behind.ensures.few, count_seen c.self.inside.nodes c.self.inside.first c.self.invariant, ap (λ (d : Due). length d.files) c.self.view_is)
