use Rattle.std.proofs.Common.{◌≡◌, ℕ, List, [], Some, None, length, ap, sym, subst, ◌∙◌, rules}
use Rattle.std.specs.Prelude.{IsSome, IsSomeAnd, is_some, unwrap_or}
use Rattle.std.specs.BTreeMap as tree
use Rattle.std.specs.FinMap.{insert}
use Rattle.lethe_base.specs.Names.{name_cmp}
use Rattle.lethe_disk.specs.Directory.{object, content}
use Rattle.lethe_memdisk.specs.Bytes.{restored, IsRange}
use Rattle.lethe_memdisk.proofs.Maps.{object_of, held, directory_inserted}
use Rattle.lethe_memdisk.proofs.objects.Objects.restore.Goals as goal

pub unreachable-requires : goal.unreachable-requires
unreachable-requires c =
    let none : tree.get name_cmp c.self.inside.map c.args.name ≡ None = search rules in
    let absent : object c.args.self.now c.args.name ≡ None = ap (λ d. object d c.args.name) (sym c.self.view_is) ∙ object_of c.self.inside.map c.args.name ∙ ap held none in
    let nothing = subst (λ o. IsSomeAnd o (λ (bytes : List ℕ). IsRange c.args.at c.args.len (length c.args.before.now) (length bytes))) absent c.requires in
    nothing

pub put_back-requires : goal.put_back-requires
put_back-requires c =
    let was : tree.get name_cmp c.self.inside.map c.args.name ≡ Some c.in-Some.held.now = sym c.in-Some.ensures.value in
    let here : object c.args.self.now c.args.name ≡ Some c.in-Some.held.now.items = ap (λ d. object d c.args.name) (sym c.self.view_is) ∙ object_of c.self.inside.map c.args.name ∙ ap held was in
    subst (λ o. IsSomeAnd o (λ (bytes : List ℕ). IsRange c.args.at c.args.len (length c.args.before.now) (length bytes))) here c.requires

pub returns : goal.returns
returns c =
    let m = c.self.inside.map in
    let was : tree.get name_cmp m c.args.name ≡ Some c.in-Some.held.now = sym c.in-Some.ensures.value in
    let found : IsSome (tree.get name_cmp m c.args.name) = ap is_some was in
    let updates = (c.get_mut.follows.holds c.put_back.new.held).3 found in
    let here : object c.args.self.now c.args.name ≡ Some c.in-Some.held.now.items = ap (λ d. object d c.args.name) (sym c.self.view_is) ∙ object_of m c.args.name ∙ ap held was in
    let same : content c.args.self.now c.args.name ≡ c.in-Some.held.now.items = ap (λ o. unwrap_or o []) here in
    directory_inserted m (c.get_mut.follows.lender c.put_back.new.held) c.args.name c.put_back.new.held updates
    ∙ ap (λ d. insert d c.args.name c.put_back.new.held.items) c.self.view_is
    ∙ ap (insert c.args.self.now c.args.name) (c.put_back.ensures ∙ ap (λ b. restored b c.args.at c.args.len c.args.before.now) (sym same))
