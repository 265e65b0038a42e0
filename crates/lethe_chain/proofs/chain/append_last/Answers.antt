use Rattle.lethe_disk.proofs.Quieting.{on_ok, on_ok_both}
use Rattle.lethe_chain.proofs.Opening.{after_gate, opened_now, ends_now}
use Rattle.lethe_chain.proofs.chain.append_last.Goals as goal

pub returns-clause-any_moment : goal.returns-clause-any_moment
returns-clause-any_moment g c = λ told a waits.
    after_gate c.args.segment c.args.at a (g.D.Disk.seen c.args.disk.now) waits (g.D.Disk.seen c.write_and_sync.new.disk) (c.write_and_sync.ensures.any_moment told)

pub returns-clause-done : goal.returns-clause-done
returns-clause-done g c = λ told a waits.
    let s0 = g.D.Disk.seen c.args.disk.now in
    let s2 = g.D.Disk.seen c.write_and_sync.new.disk in
    let here = (g.met.D.Disk g.world.𝓛 g.world.𝓜 g.world.𝓡 ((λ s x. x), (λ x. x), (λ x. x), λ x. x)).itself told c.args.disk.now in
    on_ok c.write_and_sync.result _ _ (c.write_and_sync.ensures.done told) (λ done. opened_now c.args.segment c.args.at a s0 waits s2 here done)

pub returns-clause-ready : goal.returns-clause-ready
returns-clause-ready g c = λ told a waits.
    let s0 = g.D.Disk.seen c.args.disk.now in
    let s2 = g.D.Disk.seen c.write_and_sync.new.disk in
    let here = (g.met.D.Disk g.world.𝓛 g.world.𝓜 g.world.𝓡 ((λ s x. x), (λ x. x), (λ x. x), λ x. x)).itself told c.args.disk.now in
    on_ok_both c.write_and_sync.result _ _ _ (c.write_and_sync.ensures.done told) (c.write_and_sync.ensures.synced told) (λ done synced.
    ends_now c.args.segment c.args.at a s0 waits s2 here done synced)
