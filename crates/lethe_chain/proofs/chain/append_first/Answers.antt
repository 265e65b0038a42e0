use Rattle.std.proofs.Common.{◌≡◌, ◌+◌, ◌∷◌, [], ◌++◌, rules}
use Rattle.lethe_disk.proofs.Quieting.{on_ok, on_ok_both}
use Rattle.lethe_chain.proofs.Waiting.{at_start, unopened_at_start, after_record, unopened_record, waiting_now, waits_now}
use Rattle.lethe_chain.proofs.chain.append_first.Goals as goal

pub returns-in_default-clause-any_moment : goal.returns-in_default-clause-any_moment
returns-in_default-clause-any_moment g c = λ told a ready. at_start c.args.segment c.args.at c.args.body.now a (g.D.Disk.seen c.args.disk.now) ready

pub returns-in_default-clause-unopened : goal.returns-in_default-clause-unopened
returns-in_default-clause-unopened g c = λ told a ready. unopened_at_start c.args.segment c.args.at c.args.body.now a (g.D.Disk.seen c.args.disk.now) ready

pub returns-in_err-bytes-clause-any_moment : goal.returns-in_err-bytes-clause-any_moment
returns-in_err-bytes-clause-any_moment g c = λ told a ready. at_start c.args.segment c.args.at c.args.body.now a (g.D.Disk.seen c.args.disk.now) ready

pub returns-in_err-bytes-clause-unopened : goal.returns-in_err-bytes-clause-unopened
returns-in_err-bytes-clause-unopened g c = λ told a ready. unopened_at_start c.args.segment c.args.at c.args.body.now a (g.D.Disk.seen c.args.disk.now) ready

pub returns-clause-any_moment : goal.returns-clause-any_moment
returns-clause-any_moment g c = λ told a ready.
    let s0 = g.D.Disk.seen c.args.disk.now in
    let s2 = g.D.Disk.seen c.write_and_sync.new.disk in
    let behind_is : c.in-Some.behind ≡ c.args.at + 1 = c.in-Some.ensures.1 in
    let bytes_are : c.deref.result.now ≡ c.args.body.now ++ 0 ∷ [] = search rules in
    after_record c.args.segment c.args.at c.args.body.now a s0 ready c.in-Some.behind c.deref.result.now behind_is bytes_are s2 (c.write_and_sync.ensures.any_moment told)

pub returns-clause-unopened : goal.returns-clause-unopened
returns-clause-unopened g c = λ told a ready.
    let s0 = g.D.Disk.seen c.args.disk.now in
    let s2 = g.D.Disk.seen c.write_and_sync.new.disk in
    let behind_is : c.in-Some.behind ≡ c.args.at + 1 = c.in-Some.ensures.1 in
    let bytes_are : c.deref.result.now ≡ c.args.body.now ++ 0 ∷ [] = search rules in
    unopened_record c.args.segment c.args.at c.args.body.now a s0 ready c.in-Some.behind c.deref.result.now behind_is bytes_are s2 (c.write_and_sync.ensures.any_moment told)

pub returns-clause-done : goal.returns-clause-done
returns-clause-done g c = λ told a ready.
    let s0 = g.D.Disk.seen c.args.disk.now in
    let s2 = g.D.Disk.seen c.write_and_sync.new.disk in
    let behind_is : c.in-Some.behind ≡ c.args.at + 1 = c.in-Some.ensures.1 in
    let bytes_are : c.deref.result.now ≡ c.args.body.now ++ 0 ∷ [] = search rules in
    let here = (g.met.D.Disk g.world.𝓛 g.world.𝓜 g.world.𝓡 ((λ s x. x), (λ x. x), (λ x. x), λ x. x)).itself told c.args.disk.now in
    on_ok c.write_and_sync.result _ _ (c.write_and_sync.ensures.done told) (λ done.
    waiting_now c.args.segment c.args.at c.args.body.now a s0 ready c.in-Some.behind c.deref.result.now behind_is bytes_are s2 here done)

pub returns-clause-waits : goal.returns-clause-waits
returns-clause-waits g c = λ told a ready.
    let s0 = g.D.Disk.seen c.args.disk.now in
    let s2 = g.D.Disk.seen c.write_and_sync.new.disk in
    let behind_is : c.in-Some.behind ≡ c.args.at + 1 = c.in-Some.ensures.1 in
    let bytes_are : c.deref.result.now ≡ c.args.body.now ++ 0 ∷ [] = search rules in
    let here = (g.met.D.Disk g.world.𝓛 g.world.𝓜 g.world.𝓡 ((λ s x. x), (λ x. x), (λ x. x), λ x. x)).itself told c.args.disk.now in
    on_ok_both c.write_and_sync.result _ _ _ (c.write_and_sync.ensures.done told) (c.write_and_sync.ensures.synced told) (λ done synced.
    waits_now c.args.segment c.args.at c.args.body.now a s0 ready c.in-Some.behind c.deref.result.now behind_is bytes_are s2 here done synced)
