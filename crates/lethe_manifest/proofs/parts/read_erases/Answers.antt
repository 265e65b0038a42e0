use Rattle.std.proofs.Common.{◌≡◌, ◌+◌, ◌<◌, ◌++◌, ◌∷◌, [], length, sym, arith, rules}
use Rattle.lethe_base.specs.declared.pending.Pending.{Pending}
use Rattle.lethe_manifest.specs.Parts.{erase_at}
use Rattle.lethe_manifest.proofs.Items.{one_more}
use Rattle.lethe_manifest.proofs.parts.read_erases.Goals as goal

pub erases-preserved : goal.erases-preserved
erases-preserved c =
    let fewer : length c.erases.erases.items < c.in_ok-count.count = omega (arith, c.erases-test.true, c.len.ensures) in
    let pushed : c.push.new.self.items ≡ c.erases.erases.items ++ c.in_ok-erase.erase ∷ [] = search rules in
    rw pushed (one_more erase_at (λ (erase : Pending). erase.seq) c.in_ok-count.count c.args.bytes.now (c.args.start + 4) c.erases.erases.items c.erases.last c.erases.at c.erases.invariant c.in_ok-erase.erase c.in_ok-erase.end fewer (sym c.in_ok-erase.ensures))
