use Rattle.std.proofs.Common.{◌≡◌, sym, ap, subst, ◌∙◌}
use Rattle.std.specs.FinMap.{keys}
use Rattle.std.specs.Prelude.{Contains, IsSome}
use Rattle.lethe_disk.specs.Directory.{object}
use Rattle.lethe_memdisk.specs.Held.{Held, seen_of}
use Rattle.lethe_commit.proofs.Listed.{listed, found_decides}
use Rattle.lethe_images.proofs.disks.bytes_at.Goals as goal

pub read-requires : goal.read-requires
read-requires c =
    let d = (seen_of c.args.disk.now).directory in
    let name = c.args.name in
    let is : c.deref.result.now ≡ keys d = c.deref.ensures.value ∙ c.in-Ok.ensures.done in
    let found = found_decides c.deref.result.now name c.contains.result c.contains.ensures.cases in
    let in_names : Contains (keys d) name = subst (λ l. Contains l name) is (found.0 c.if-contains.true) in
    subst IsSome (sym (ap (λ (held : Held). object (seen_of held).directory name) c.in-Ok.ensures.call.answer)) ((listed d name).0 in_names)
