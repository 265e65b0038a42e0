use Rattle.std.proofs.Common.{◌≡◌, None, sym, ap, subst, ◌∙◌}
use Rattle.std.specs.FinMap.{keys}
use Rattle.std.specs.Prelude.{Contains}
use Rattle.lethe_base.specs.declared.name.Name.{Name}
use Rattle.lethe_disk.specs.Directory.{object}
use Rattle.lethe_memdisk.specs.Held.{Held, seen_of}
use Rattle.lethe_commit.proofs.Listed.{listed, found_decides}
use Rattle.lethe_disk.proofs.Objects.{absent_of}
use Rattle.lethe_test_state.proofs.recover.add.Goals as goal

pub create-requires : goal.create-requires
create-requires c =
    let d = (seen_of c.args.disk.now).directory in
    let name : Name = record { kind = c.args.kind; no = c.args.no } in
    let is : c.deref.result.now ≡ keys d = c.deref.ensures.value ∙ c.in-Ok.ensures.done in
    let found = found_decides c.deref.result.now name c.contains.result c.contains.ensures.cases in
    let absent : object d name ≡ None = absent_of (object d name) (λ there.
    let in_names : Contains c.deref.result.now name = subst (λ l. Contains l name) (sym is) ((listed d name).1 there) in
    let yes = found.1 in_names in
    let not_so = c.if-contains.false in
    cc) in
    ap (λ (held : Held). object (seen_of held).directory name) c.in-Ok.ensures.call.answer ∙ absent
