use Rattle.std.proofs.Common.{◌≡◌, List, sym, subst, ◌∙◌}
use Rattle.std.specs.FinMap.{keys}
use Rattle.std.specs.Prelude.{Contains, IsSome}
use Rattle.lethe_base.specs.declared.name.Name.{Name}
use Rattle.lethe_disk.specs.Directory.{object}
use Rattle.lethe_memdisk.specs.Held.{Held, seen_of}
use Rattle.lethe_commit.proofs.Listed.{listed, found_decides}
use Rattle.lethe_test_chain.specs.declared.disks.TheConstants.{SEGMENT}
use Rattle.lethe_test_chain.proofs.disks.has_segment.Goals as goal

pub returns-in-Ok : goal.returns-in-Ok
returns-in-Ok c = λ yes.
    let d = (seen_of c.args.disk.now).directory in
    let is : c.deref.result.now ≡ keys d = c.deref.ensures.value ∙ c.in-Ok.ensures.done in
    let found = found_decides c.deref.result.now SEGMENT c.contains.result c.contains.ensures.cases in
    let there : IsSome (object d SEGMENT) = (listed d SEGMENT).0 (subst (λ (l : List Name). Contains l SEGMENT) is (found.0 yes)) in
    subst (λ (held : Held). IsSome (object (seen_of held).directory SEGMENT)) (sym c.in-Ok.ensures.call.answer) there
