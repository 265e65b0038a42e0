use Rattle.std.proofs.Common.{◌≡◌, [], ap, ◌∙◌}
use Rattle.std.specs.FinMap.{insert}
use Rattle.lethe_disk.specs.Directory.{Directory, object}
use Rattle.lethe_commit.specs.Gates.{gate_name}
use Rattle.lethe_commit.specs.Switch.{manifest_name}
use Rattle.lethe_memdisk.specs.Held.{Held, seen_of}
use Rattle.lethe_stored.specs.Examples.{new_manifest, new_segment}
use Rattle.lethe_stored.specs.Stored.{segment_name}
use Rattle.lethe_loose.proofs.NewStore.{one_object, two_objects, three_objects, none_at_first, no_manifest, no_gate, is_new}
use Rattle.lethe_test_disks.proofs.loose.new_store.Goals as goal

pub add-requires : goal.add-requires
add-requires c = ap (λ (h : Held). object (seen_of h).directory (segment_name 1)) c.in_ok-disk.ensures ∙ none_at_first (segment_name 1)

pub add-requires-2 : goal.add-requires-2
add-requires-2 c =
    let first : (seen_of c.add.new.disk).directory ≡ one_object = c.in_ok-add.ensures ∙ ap (λ (h : Held). insert (seen_of h).directory (segment_name 1) new_segment) c.in_ok-disk.ensures in
    ap (λ (d : Directory). object d (manifest_name 2)) first ∙ no_manifest

pub add-requires-3 : goal.add-requires-3
add-requires-3 c =
    let first : (seen_of c.add.new.disk).directory ≡ one_object = c.in_ok-add.ensures ∙ ap (λ (h : Held). insert (seen_of h).directory (segment_name 1) new_segment) c.in_ok-disk.ensures in
    let second : (seen_of c.add-2.new.disk).directory ≡ two_objects = c.in_ok-add-2.ensures ∙ ap (λ (d : Directory). insert d (manifest_name 2) new_manifest) first in
    ap (λ (d : Directory). object d (gate_name 2)) second ∙ no_gate

pub returns-in-Ok : goal.returns-in-Ok
returns-in-Ok c =
    let first : (seen_of c.add.new.disk).directory ≡ one_object = c.in_ok-add.ensures ∙ ap (λ (h : Held). insert (seen_of h).directory (segment_name 1) new_segment) c.in_ok-disk.ensures in
    let second : (seen_of c.add-2.new.disk).directory ≡ two_objects = c.in_ok-add-2.ensures ∙ ap (λ (d : Directory). insert d (manifest_name 2) new_manifest) first in
    let third : (seen_of c.add-3.new.disk).directory ≡ three_objects = c.in_ok-add-3.ensures ∙ ap (λ (d : Directory). insert d (gate_name 2) []) second in
    is_new (seen_of c.sync.new.self) c.in-Ok.ensures.done (ap (λ (h : Held). (seen_of h).directory) c.in-Ok.ensures.call.answer ∙ third)
