use Rattle.std.proofs.Common.{◌≡◌, ℕ, List, [], ◌∷◌, None, sym, ap, subst, ◌∙◌}
use Rattle.std.specs.Prelude.{is_some}
use Rattle.std.specs.FinMap.{insert}
use Rattle.lethe_disk.specs.Directory.{Directory}
use Rattle.lethe_disk.proofs.Objects.{object_inserted, object_beside_insert, object_beside_remove}
use Rattle.lethe_memdisk.specs.Held.{seen_of}
use Rattle.lethe_manifest.specs.Manifests.{manifest_bytes}
use Rattle.lethe_commit.specs.Clear.{ArePresent}
use Rattle.lethe_commit.specs.Gates.{gate_name}
use Rattle.lethe_commit.specs.Switch.{manifest_name, IsFree}
use Rattle.lethe_commit.proofs.Placing.{manifest≢gate}
use Rattle.lethe_test_disks.proofs.switches.switch_to_new.Goals as goal

both_made : (old : Directory) (bytes : List ℕ) → ArePresent (gate_name 2 ∷ manifest_name 2 ∷ []) (insert (insert old (manifest_name 2) bytes) (gate_name 2) [])
both_made old bytes =
    let with_manifest = insert old (manifest_name 2) bytes in
    let with_both = insert with_manifest (gate_name 2) [] in (
      ap is_some (object_inserted with_manifest (gate_name 2) []),
      (
        ap is_some (object_beside_remove with_both (gate_name 2) (manifest_name 2) (manifest≢gate 2 2)
            ∙ object_beside_insert with_manifest (gate_name 2) [] (manifest_name 2) (manifest≢gate 2 2) ∙ object_inserted old (manifest_name 2) bytes),
        tt,
      ),
    )

both_now : (old new : Directory) (number : ℕ) (bytes : List ℕ) → number ≡ 2 → new ≡ insert (insert old (manifest_name number) bytes) (gate_name number) [] → ArePresent (gate_name 2 ∷ manifest_name 2 ∷ []) new
both_now old new number bytes is done =
    subst (ArePresent (gate_name 2 ∷ manifest_name 2 ∷ [])) (sym (done ∙ ap (λ n. insert (insert old (manifest_name n) bytes) (gate_name n) []) is)) (both_made old bytes)

pub switch-requires-clause-free : goal.switch-requires-clause-free
switch-requires-clause-free c κs = λ told. (None, subst (λ n. IsFree (seen_of c.args.disk.now) n None) (sym c.in_ok-manifest.ensures.number) c.requires)

pub returns-in-Ok-clause-both : goal.returns-in-Ok-clause-both
returns-in-Ok-clause-both c = λ so. both_now (seen_of c.args.disk.now).directory (seen_of c.switch.new.disk).directory c.in_ok-manifest.manifest.no (manifest_bytes c.in_ok-manifest.manifest) c.in_ok-manifest.ensures.number (c.in-Ok.ensures.done tt None (subst (λ n. IsFree (seen_of c.args.disk.now) n None) (sym c.in_ok-manifest.ensures.number) c.requires))
