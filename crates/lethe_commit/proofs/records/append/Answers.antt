use Rattle.std.proofs.Common.{◌≡◌, ◌+◌, ℕ, ◌∷◌, [], ◌++◌, Result, Ok, Err, length, refl, sym, ap, subst, rules}
use Rattle.std.specs.Prelude.{IsErrAnd, IsErrOf}
use Rattle.lethe_base.specs.declared.name.Name.{Name}
use Rattle.lethe_disk.specs.declared.disk.DiskRefused.{DiskRefused}
use Rattle.lethe_disk.specs.declared.disk.DiskRefused.TheVariants.{Failed, NoMemory}
use Rattle.lethe_disk.specs.Directory.{IsWritten}
use Rattle.lethe_disk.specs.Disk.{Seen}
use Rattle.lethe_commit.specs.Append.{IsUntouched}
use Rattle.lethe_commit.proofs.Stages.{at_start, unopened_at_start, after_first, unopened_first, gate_inside, gate_before, after_gate, unopened_gate, done_now, ends_now, written_now, on_ok, on_ok_both, unless_failed}
use Rattle.lethe_commit.proofs.Writes.{written_itself}
use Rattle.lethe_commit.proofs.records.append.Goals as goal

-- a refusal that is handed on and isn't the disk's has changed nothing
refused_written : {T U : Type 0} (name : Name) (at n : ℕ) (old new : Seen) (result : Result T DiskRefused) (why : DiskRefused) → IsErrAnd result (λ e. e ≡ why)
    → (IsErrOf {T = U} (Err why) NoMemory → IsUntouched old new) → (IsErrOf result Failed → ⊥) → IsWritten name at n old.directory new.directory
refused_written name at n old new (Ok x) why is memory failed = absurd is
refused_written name at n old new (Err e) Failed is memory failed = absurd (failed (ap Err is))
refused_written name at n old new (Err e) NoMemory is memory failed = subst (IsWritten name at n old.directory) (sym (memory refl).directory) (written_itself name at n old.directory)

pub returns-in_default-clause-any_moment : goal.returns-in_default-clause-any_moment
returns-in_default-clause-any_moment g c = λ told a ready. at_start c.args.segment c.args.at c.args.body.now a (g.D.Disk.seen c.args.disk.now) ready

pub returns-in_default-clause-unopened : goal.returns-in_default-clause-unopened
returns-in_default-clause-unopened g c = λ told a ready. unopened_at_start c.args.segment c.args.at c.args.body.now a (g.D.Disk.seen c.args.disk.now) ready

pub returns-in_err-bytes-clause-any_moment : goal.returns-in_err-bytes-clause-any_moment
returns-in_err-bytes-clause-any_moment g c = λ told a ready. at_start c.args.segment c.args.at c.args.body.now a (g.D.Disk.seen c.args.disk.now) ready

pub returns-in_err-bytes-clause-unopened : goal.returns-in_err-bytes-clause-unopened
returns-in_err-bytes-clause-unopened g c = λ told a ready. unopened_at_start c.args.segment c.args.at c.args.body.now a (g.D.Disk.seen c.args.disk.now) ready

pub returns-in_err-write_and_sync-clause-any_moment : goal.returns-in_err-write_and_sync-clause-any_moment
returns-in_err-write_and_sync-clause-any_moment g c = λ told a ready.
    let s0 = g.D.Disk.seen c.args.disk.now in
    let s2 = g.D.Disk.seen c.write_and_sync.new.disk in
    let behind_is : c.in-Some.behind ≡ c.args.at + 1 = c.in-Some.ensures.1 in
    let bytes_are : c.deref.result.now ≡ c.args.body.now ++ 0 ∷ [] = search rules in
    after_first c.args.segment c.args.at c.args.body.now a s0 ready c.in-Some.behind c.deref.result.now behind_is bytes_are s2 (c.write_and_sync.ensures.any_moment told)

pub returns-in_err-write_and_sync-clause-unopened : goal.returns-in_err-write_and_sync-clause-unopened
returns-in_err-write_and_sync-clause-unopened g c = λ told a ready.
    let s0 = g.D.Disk.seen c.args.disk.now in
    let s2 = g.D.Disk.seen c.write_and_sync.new.disk in
    let behind_is : c.in-Some.behind ≡ c.args.at + 1 = c.in-Some.ensures.1 in
    let bytes_are : c.deref.result.now ≡ c.args.body.now ++ 0 ∷ [] = search rules in
    unopened_first c.args.segment c.args.at c.args.body.now a s0 ready c.in-Some.behind c.deref.result.now behind_is bytes_are s2 (c.write_and_sync.ensures.any_moment told)

pub returns-in_err-write_and_sync-clause-directory : goal.returns-in_err-write_and_sync-clause-directory
returns-in_err-write_and_sync-clause-directory g c = λ told failed.
    refused_written c.args.segment c.args.at (length c.args.body.now + 2) (g.D.Disk.seen c.args.disk.now) (g.D.Disk.seen c.write_and_sync.new.disk) c.from_residual-in_err-write_and_sync.result c.in_err-write_and_sync.field-0.0
    c.from_residual-in_err-write_and_sync.ensures.1 (c.in_err-write_and_sync.ensures.no_memory told) failed

pub write_and_sync-requires-2-after_bounds : goal.write_and_sync-requires-2-after_bounds
write_and_sync-requires-2-after_bounds g c κs within = λ told.
    let a = (c.requires told).0 in
    let ready = (c.requires told).1 in
    let s0 = g.D.Disk.seen c.args.disk.now in
    let s2 = g.D.Disk.seen c.write_and_sync.new.disk in
    let behind_is : c.in-Some.behind ≡ c.args.at + 1 = c.in-Some.ensures.1 in
    let bytes_are : c.deref.result.now ≡ c.args.body.now ++ 0 ∷ [] = search rules in
    let here = (g.met.D.Disk g.world.𝓛 g.world.𝓜 g.world.𝓡 ((λ s x. x), (λ x. x), (λ x. x), λ x. x)).itself told c.args.disk.now in
    gate_inside c.args.segment c.args.at c.args.body.now a s0 ready c.in-Some.behind c.deref.result.now behind_is bytes_are s2 (c.write_and_sync.ensures.any_moment told) here (c.in_ok-write_and_sync.ensures.done told)

pub returns-clause-any_moment : goal.returns-clause-any_moment
returns-clause-any_moment g c = λ told a ready.
    let s0 = g.D.Disk.seen c.args.disk.now in
    let s2 = g.D.Disk.seen c.write_and_sync.new.disk in
    let s4 = g.D.Disk.seen c.write_and_sync-2.new.disk in
    let behind_is : c.in-Some.behind ≡ c.args.at + 1 = c.in-Some.ensures.1 in
    let bytes_are : c.deref.result.now ≡ c.args.body.now ++ 0 ∷ [] = search rules in
    let here = (g.met.D.Disk g.world.𝓛 g.world.𝓜 g.world.𝓡 ((λ s x. x), (λ x. x), (λ x. x), λ x. x)).itself told c.args.disk.now in
    after_gate c.args.segment c.args.at c.args.body.now a s0 ready c.in-Some.behind c.deref.result.now behind_is bytes_are s2 (c.write_and_sync.ensures.any_moment told) here (c.in_ok-write_and_sync.ensures.done told) (c.in_ok-write_and_sync.ensures.synced told) s4 (c.write_and_sync-2.ensures.any_moment told)

pub returns-clause-unopened : goal.returns-clause-unopened
returns-clause-unopened g c = λ told a ready.
    let s0 = g.D.Disk.seen c.args.disk.now in
    let s2 = g.D.Disk.seen c.write_and_sync.new.disk in
    let s4 = g.D.Disk.seen c.write_and_sync-2.new.disk in
    let behind_is : c.in-Some.behind ≡ c.args.at + 1 = c.in-Some.ensures.1 in
    let bytes_are : c.deref.result.now ≡ c.args.body.now ++ 0 ∷ [] = search rules in
    let here = (g.met.D.Disk g.world.𝓛 g.world.𝓜 g.world.𝓡 ((λ s x. x), (λ x. x), (λ x. x), λ x. x)).itself told c.args.disk.now in
    unopened_gate c.args.segment c.args.at c.args.body.now a s0 ready c.in-Some.behind c.deref.result.now behind_is bytes_are s2 (c.write_and_sync.ensures.any_moment told) here (c.in_ok-write_and_sync.ensures.done told) (c.in_ok-write_and_sync.ensures.synced told) s4 (c.write_and_sync-2.ensures.any_moment told) (c.in_ok-write_and_sync.ensures.calls told)

pub returns-clause-done : goal.returns-clause-done
returns-clause-done g c = λ told a ready.
    let s0 = g.D.Disk.seen c.args.disk.now in
    let s2 = g.D.Disk.seen c.write_and_sync.new.disk in
    let s4 = g.D.Disk.seen c.write_and_sync-2.new.disk in
    let behind_is : c.in-Some.behind ≡ c.args.at + 1 = c.in-Some.ensures.1 in
    let bytes_are : c.deref.result.now ≡ c.args.body.now ++ 0 ∷ [] = search rules in
    let here = (g.met.D.Disk g.world.𝓛 g.world.𝓜 g.world.𝓡 ((λ s x. x), (λ x. x), (λ x. x), λ x. x)).itself told c.args.disk.now in
    on_ok c.write_and_sync-2.result _ _ (c.write_and_sync-2.ensures.done told) (λ opened. done_now c.args.segment c.args.at c.args.body.now a s0 ready c.in-Some.behind c.deref.result.now behind_is bytes_are s2 (c.write_and_sync.ensures.any_moment told) here (c.in_ok-write_and_sync.ensures.done told) (c.in_ok-write_and_sync.ensures.synced told) s4 (c.write_and_sync-2.ensures.any_moment told) opened)

pub returns-clause-ready : goal.returns-clause-ready
returns-clause-ready g c = λ told a ready.
    let s0 = g.D.Disk.seen c.args.disk.now in
    let s2 = g.D.Disk.seen c.write_and_sync.new.disk in
    let s4 = g.D.Disk.seen c.write_and_sync-2.new.disk in
    let behind_is : c.in-Some.behind ≡ c.args.at + 1 = c.in-Some.ensures.1 in
    let bytes_are : c.deref.result.now ≡ c.args.body.now ++ 0 ∷ [] = search rules in
    let here = (g.met.D.Disk g.world.𝓛 g.world.𝓜 g.world.𝓡 ((λ s x. x), (λ x. x), (λ x. x), λ x. x)).itself told c.args.disk.now in
    on_ok c.write_and_sync-2.result _ _ (on_ok_both c.write_and_sync-2.result _ _ (c.write_and_sync-2.ensures.done told) (c.write_and_sync-2.ensures.synced told)) (λ both. ends_now c.args.segment c.args.at c.args.body.now a s0 ready c.in-Some.behind c.deref.result.now behind_is bytes_are s2 (c.write_and_sync.ensures.any_moment told) here (c.in_ok-write_and_sync.ensures.done told) (c.in_ok-write_and_sync.ensures.synced told) s4 (c.write_and_sync-2.ensures.any_moment told) both.0 both.1)

pub returns-clause-directory : goal.returns-clause-directory
returns-clause-directory g c = λ told failed.
    let a = (c.requires told).0 in
    let ready = (c.requires told).1 in
    let s0 = g.D.Disk.seen c.args.disk.now in
    let s2 = g.D.Disk.seen c.write_and_sync.new.disk in
    let s4 = g.D.Disk.seen c.write_and_sync-2.new.disk in
    let behind_is : c.in-Some.behind ≡ c.args.at + 1 = c.in-Some.ensures.1 in
    let bytes_are : c.deref.result.now ≡ c.args.body.now ++ 0 ∷ [] = search rules in
    let here = (g.met.D.Disk g.world.𝓛 g.world.𝓜 g.world.𝓡 ((λ s x. x), (λ x. x), (λ x. x), λ x. x)).itself told c.args.disk.now in
    let inside = gate_before c.args.segment c.args.at c.args.body.now a s0 ready c.in-Some.behind c.deref.result.now behind_is bytes_are s2 (c.write_and_sync.ensures.any_moment told) here (c.in_ok-write_and_sync.ensures.done told) in
    unless_failed c.write_and_sync-2.result _ _ (c.write_and_sync-2.ensures.done told) (λ opened. written_now c.args.segment c.args.at c.args.body.now a s0 ready c.in-Some.behind c.deref.result.now behind_is bytes_are s2 (c.write_and_sync.ensures.any_moment told) here (c.in_ok-write_and_sync.ensures.done told) (c.in_ok-write_and_sync.ensures.synced told) s4 (c.write_and_sync-2.ensures.any_moment told) opened) (c.write_and_sync-2.ensures.byte refl (λ told. inside)) failed

pub returns-clause-no_memory : goal.returns-clause-no_memory
returns-clause-no_memory g c = λ told refused.
    let a = (c.requires told).0 in
    let ready = (c.requires told).1 in
    let s0 = g.D.Disk.seen c.args.disk.now in
    let s2 = g.D.Disk.seen c.write_and_sync.new.disk in
    let behind_is : c.in-Some.behind ≡ c.args.at + 1 = c.in-Some.ensures.1 in
    let bytes_are : c.deref.result.now ≡ c.args.body.now ++ 0 ∷ [] = search rules in
    let here = (g.met.D.Disk g.world.𝓛 g.world.𝓜 g.world.𝓡 ((λ s x. x), (λ x. x), (λ x. x), λ x. x)).itself told c.args.disk.now in
    let inside = gate_before c.args.segment c.args.at c.args.body.now a s0 ready c.in-Some.behind c.deref.result.now behind_is bytes_are s2 (c.write_and_sync.ensures.any_moment told) here (c.in_ok-write_and_sync.ensures.done told) in
    absurd (c.write_and_sync-2.ensures.byte refl (λ told. inside) refused)
