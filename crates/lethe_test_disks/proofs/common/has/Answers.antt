use Rattle.std.proofs.Common.{◌≡◌, None, sym, ap, subst, ◌∙◌}
use Rattle.std.specs.FinMap.{keys}
use Rattle.std.specs.Prelude.{Contains, IsSome}
use Rattle.lethe_disk.specs.Directory.{object}
use Rattle.lethe_memdisk.specs.Held.{Held, seen_of}
use Rattle.lethe_commit.proofs.Listed.{listed, found_decides}
use Rattle.lethe_disk.proofs.Objects.{absent_of}
use Rattle.lethe_test_disks.proofs.common.has.Goals as goal

pub returns-clause-there : goal.returns-clause-there
returns-clause-there c = λ yes.
    let d = (seen_of c.args.disk.now).directory in
    let is : c.deref.result.now ≡ keys d = c.deref.ensures.value ∙ c.in_ok-names.ensures.done in
    let found = found_decides c.deref.result.now c.args.name c.contains.result c.contains.ensures.cases in
    let there : IsSome (object d c.args.name) = (listed d c.args.name).0 (subst (λ l. Contains l c.args.name) is (found.0 yes)) in
    subst (λ (held : Held). IsSome (object (seen_of held).directory c.args.name)) (sym c.in_ok-names.ensures.call.answer) there

pub returns-clause-absent : goal.returns-clause-absent
returns-clause-absent c = λ no.
    let d = (seen_of c.args.disk.now).directory in
    let is : c.deref.result.now ≡ keys d = c.deref.ensures.value ∙ c.in_ok-names.ensures.done in
    let found = found_decides c.deref.result.now c.args.name c.contains.result c.contains.ensures.cases in
    let absent : object d c.args.name ≡ None = absent_of (object d c.args.name) (λ there.
    let yes = found.1 (subst (λ l. Contains l c.args.name) (sym is) ((listed d c.args.name).1 there)) in
    let not_so = no in
    cc) in
    ap (λ (held : Held). object (seen_of held).directory c.args.name) c.in_ok-names.ensures.call.answer ∙ absent
