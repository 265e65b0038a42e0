use Rattle.std.proofs.Common.{ℕ, List, None, sym, ap, subst, ◌∙◌}
use Rattle.std.specs.FinMap.{empty, get-empty}
use Rattle.lethe_base.specs.Names.{name_cmp}
use Rattle.lethe_disk.specs.Directory.{object}
use Rattle.lethe_memdisk.specs.Held.{seen_of, fresh}
use Rattle.lethe_commit.specs.Gates.{gate_name}
use Rattle.lethe_commit.specs.Switch.{manifest_name, IsFree}
use Rattle.lethe_test_disks.proofs.switches.empty_disk.Goals as goal

free_fresh : (failing : List ℕ) → IsFree (seen_of (fresh empty 20 failing)) 2 None
free_fresh failing = record {
  no_manifest = λ d here. ap (λ x. object x (manifest_name 2)) here ∙ get-empty name_cmp (manifest_name 2);
  no_gate = λ d here other above. ap (λ x. object x (gate_name other)) here ∙ get-empty name_cmp (gate_name other);
  greatest_gate = λ d here number. ap (λ x. object x (gate_name number)) here ∙ get-empty name_cmp (gate_name number);
}

pub returns-clause-free : goal.returns-clause-free
returns-clause-free c = subst (λ held. IsFree (seen_of held) 2 None) (sym c.in_ok-new.ensures) (free_fresh c.args.failing.items)
