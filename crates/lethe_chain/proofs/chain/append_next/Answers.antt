use Rattle.std.proofs.Common.{◌≡◌, ◌+◌, ◌∷◌, [], ◌++◌, ◌∙◌, length, rules}
use Rattle.lethe_disk.proofs.Quieting.{on_ok}
use Rattle.lethe_commit.proofs.Writes.{after_write, after_sync}
use Rattle.lethe_chain.proofs.Opening.{at_start, after_next, after_both, waiting_now, waits_now}
use Rattle.lethe_chain.proofs.chain.append_next.Goals as goal

pub returns-in_default-clause-any_moment : goal.returns-in_default-clause-any_moment
returns-in_default-clause-any_moment g c = λ told a waits end_is. at_start c.args.segment c.args.at a (g.D.Disk.seen c.args.disk.now) waits _

pub returns-in_err-bytes-clause-any_moment : goal.returns-in_err-bytes-clause-any_moment
returns-in_err-bytes-clause-any_moment g c = λ told a waits end_is. at_start c.args.segment c.args.at a (g.D.Disk.seen c.args.disk.now) waits _

pub returns-in_err-write_at-clause-any_moment : goal.returns-in_err-write_at-clause-any_moment
returns-in_err-write_at-clause-any_moment g c = λ told a waits end_is.
    let s0 = g.D.Disk.seen c.args.disk.now in
    let s1 = g.D.Disk.seen c.write_at.new.self in
    let behind_is : c.in-Some.behind ≡ c.args.end + 1 = c.in-Some.ensures.1 in
    let bytes_are : c.deref.result.now ≡ c.args.body.now ++ 0 ∷ [] = search rules in
    let run = (after_write c.args.segment c.in-Some.behind (length c.deref.result.now) c.write_at.result s0 s1 (c.write_at.ensures.call told)).each in
    after_next c.args.segment c.args.at a s0 waits c.args.end end_is c.in-Some.behind c.deref.result.now c.args.body.now behind_is bytes_are s1 run

pub returns-in_err-write_at-2-clause-any_moment : goal.returns-in_err-write_at-2-clause-any_moment
returns-in_err-write_at-2-clause-any_moment g c = λ told a waits end_is.
    let s0 = g.D.Disk.seen c.args.disk.now in
    let s1 = g.D.Disk.seen c.write_at.new.self in
    let s2 = g.D.Disk.seen c.write_at-2.new.self in
    let behind_is : c.in-Some.behind ≡ c.args.end + 1 = c.in-Some.ensures.1 in
    let bytes_are : c.deref.result.now ≡ c.args.body.now ++ 0 ∷ [] = search rules in
    let run = (after_write c.args.segment c.in-Some.behind (length c.deref.result.now) c.write_at.result s0 s1 (c.write_at.ensures.call told)).each in
    let gate = after_write c.args.segment c.args.at 1 c.write_at-2.result s1 s2 (c.write_at-2.ensures.call told) in
    after_both c.args.segment c.args.at a s0 waits c.args.end end_is c.in-Some.behind c.deref.result.now c.args.body.now behind_is bytes_are s1 run s2 gate.each

pub returns-clause-any_moment : goal.returns-clause-any_moment
returns-clause-any_moment g c = λ told a waits end_is.
    let s0 = g.D.Disk.seen c.args.disk.now in
    let s1 = g.D.Disk.seen c.write_at.new.self in
    let s2 = g.D.Disk.seen c.write_at-2.new.self in
    let s3 = g.D.Disk.seen c.sync.new.self in
    let behind_is : c.in-Some.behind ≡ c.args.end + 1 = c.in-Some.ensures.1 in
    let bytes_are : c.deref.result.now ≡ c.args.body.now ++ 0 ∷ [] = search rules in
    let run = (after_write c.args.segment c.in-Some.behind (length c.deref.result.now) c.write_at.result s0 s1 (c.write_at.ensures.call told)).each in
    let gate = after_write c.args.segment c.args.at 1 c.write_at-2.result s1 s2 (c.write_at-2.ensures.call told) in
    let synced = after_sync c.args.segment c.args.at 1 c.sync.result s1 s2 s3 gate (c.sync.ensures.call told) in
    after_both c.args.segment c.args.at a s0 waits c.args.end end_is c.in-Some.behind c.deref.result.now c.args.body.now behind_is bytes_are s1 run s3 synced.each

pub returns-clause-done : goal.returns-clause-done
returns-clause-done g c = λ told a b waits end_is next.
    let s0 = g.D.Disk.seen c.args.disk.now in
    let s1 = g.D.Disk.seen c.write_at.new.self in
    let s3 = g.D.Disk.seen c.sync.new.self in
    let behind_is : c.in-Some.behind ≡ c.args.end + 1 = c.in-Some.ensures.1 in
    let bytes_are : c.deref.result.now ≡ c.args.body.now ++ 0 ∷ [] = search rules in
    let here = (g.met.D.Disk g.world.𝓛 g.world.𝓜 g.world.𝓡 ((λ s x. x), (λ x. x), (λ x. x), λ x. x)).itself told c.args.disk.now in
    let staged = c.in_ok-write_at.ensures.done told in
    let opened = c.sync.ensures.directory told ∙ c.in_ok-write_at-2.ensures.done told in
    on_ok c.sync.result _ _ (c.sync.ensures.done told) (λ synced.
    waiting_now c.args.segment c.args.at a s0 waits c.args.end end_is c.in-Some.behind c.deref.result.now c.args.body.now behind_is bytes_are s1 here staged b next s3 opened)

pub returns-clause-waits : goal.returns-clause-waits
returns-clause-waits g c = λ told a b waits end_is next.
    let s0 = g.D.Disk.seen c.args.disk.now in
    let s1 = g.D.Disk.seen c.write_at.new.self in
    let s3 = g.D.Disk.seen c.sync.new.self in
    let behind_is : c.in-Some.behind ≡ c.args.end + 1 = c.in-Some.ensures.1 in
    let bytes_are : c.deref.result.now ≡ c.args.body.now ++ 0 ∷ [] = search rules in
    let here = (g.met.D.Disk g.world.𝓛 g.world.𝓜 g.world.𝓡 ((λ s x. x), (λ x. x), (λ x. x), λ x. x)).itself told c.args.disk.now in
    let staged = c.in_ok-write_at.ensures.done told in
    let opened = c.sync.ensures.directory told ∙ c.in_ok-write_at-2.ensures.done told in
    on_ok c.sync.result _ _ (c.sync.ensures.done told) (λ synced.
    waits_now c.args.segment c.args.at a s0 waits c.args.end end_is c.in-Some.behind c.deref.result.now c.args.body.now behind_is bytes_are s1 here staged b next s3 opened synced)
