use Rattle.std.proofs.Common.{◌≡◌, ◌+◌, ◌≤◌, Some, None, length, sym, ap, subst, ◌∙◌, rules}
use Rattle.std.specs.Prelude.{[], IsSome, is_some, unwrap_or}
use Rattle.std.specs.BTreeMap as tree
use Rattle.lethe_base.specs.Names.{name_cmp}
use Rattle.lethe_disk.specs.Directory.{object, content}
use Rattle.lethe_memdisk.specs.Objects.{directory_of, write_to}
use Rattle.lethe_memdisk.proofs.Maps.{object_of, held, directory_written, directory_same}
use Rattle.std.proofs.lemmas.Result.{on_ok_weaker, on_err_weaker}
use Rattle.lethe_memdisk.proofs.objects.Objects.write.Goals as goal

pub returns-in_default-clause-ok : goal.returns-in_default-clause-ok
returns-in_default-clause-ok c =
    let none : tree.get name_cmp c.self.inside.map c.args.name ≡ None = search rules in
    let absent : object c.args.self.now c.args.name ≡ None = ap (λ d. object d c.args.name) (sym c.self.view_is) ∙ object_of c.self.inside.map c.args.name ∙ ap held none in
    ap directory_of c.get_mut.follows.holds-at-none ∙ c.self.view_is ∙ sym (ap (λ o. write_to o c.args.self.now c.args.name c.args.at c.args.bytes.now) absent)

pub returns-clause-ok : goal.returns-clause-ok
returns-clause-ok c =
    let m = c.self.inside.map in
    let was : tree.get name_cmp m c.args.name ≡ Some c.in-Some.held.now = sym c.in-Some.ensures.value in
    let found : IsSome (tree.get name_cmp m c.args.name) = ap is_some was in
    let updates = (c.get_mut.follows.holds c.overwrite.new.held).3 found in
    on_ok_weaker c.overwrite.result (λ wrote.
    directory_written m (c.get_mut.follows.lender c.overwrite.new.held) c.args.name c.args.at c.args.bytes.now c.in-Some.held.now c.overwrite.new.held was updates wrote
    ∙ ap (λ d. write_to (object d c.args.name) d c.args.name c.args.at c.args.bytes.now) c.self.view_is) c.overwrite.ensures.ok

pub returns-clause-err : goal.returns-clause-err
returns-clause-err c =
    let m = c.self.inside.map in
    let was : tree.get name_cmp m c.args.name ≡ Some c.in-Some.held.now = sym c.in-Some.ensures.value in
    let found : IsSome (tree.get name_cmp m c.args.name) = ap is_some was in
    let updates = (c.get_mut.follows.holds c.overwrite.new.held).3 found in
    on_err_weaker c.overwrite.result (λ same.
    directory_same m (c.get_mut.follows.lender c.overwrite.new.held) c.args.name c.in-Some.held.now c.overwrite.new.held was updates same ∙ c.self.view_is) c.overwrite.ensures.err

pub returns-clause-inside : goal.returns-clause-inside
returns-clause-inside c = λ fits.
    let was : tree.get name_cmp c.self.inside.map c.args.name ≡ Some c.in-Some.held.now = sym c.in-Some.ensures.value in
    let here : object c.args.self.now c.args.name ≡ Some c.in-Some.held.now.items = ap (λ d. object d c.args.name) (sym c.self.view_is) ∙ object_of c.self.inside.map c.args.name ∙ ap held was in
    let same : content c.args.self.now c.args.name ≡ c.in-Some.held.now.items = ap (λ o. unwrap_or o []) here in
    c.overwrite.ensures.inside (subst (λ b. c.args.at + length c.args.bytes.now ≤ length b) same fits)
