use Rattle.std.proofs.Common.{refl, sym, subst}
use Rattle.std.specs.Prelude.{OnOk}
use Rattle.lethe_disk.proofs.Quieting.{on_ok}
use Rattle.lethe_stored.specs.Stored.{Stored, appended}
use Rattle.lethe_core.specs.Changes.{erase_over, put_over}
use Rattle.lethe_core.specs.Running.{Holds}
use Rattle.lethe_core.specs.View.{View, view_of}
use Rattle.lethe_engine.specs.Asked.TheVariants as asked
use Rattle.lethe_changes.specs.Changes.{IsMadeAlone, point_of}
use Rattle.lethe_changes.proofs.Rounds.{alone_of}
use Rattle.lethe_changes.proofs.changes.change_one.Goals as goal

pub returns-in-Put-clause-written : goal.returns-in-Put-clause-written
returns-in-Put-clause-written g c = λ told s holds full.
    let old = view_of c.args.engine.now.core in
    let new : View = view_of c.put.new.self.core in
    let before = g.D.Disk.fetches c.args.port.now in
    let now = g.D.Disk.fetches c.put.new.port in
    let change = asked.Put c.in-Put.key c.in-Put.dkey c.in-Put.value in
    subst (λ change. OnOk c.put.result ((t : Stored) × IsMadeAlone old (point_of s old before) change (point_of t new now) × Holds new t)) (sym c.in-Put.is)
    (on_ok c.put.result _ ((t : Stored) × IsMadeAlone old (point_of s old before) change (point_of t new now) × Holds new t) (c.put.ensures.written told s holds)
    (λ done.
    let next = put_over done.0 c.in-Put.key c.in-Put.dkey c.in-Put.value in
    (appended done.0 next, alone_of old new before now s change done.0 done.1 new.levels next full done.2 done.3.remembers.files refl done.4 done.5 (c.put.ensures.answers.later told), done.3)))

pub returns-in-Delete-clause-written : goal.returns-in-Delete-clause-written
returns-in-Delete-clause-written g c = λ told s holds full.
    let old = view_of c.args.engine.now.core in
    let new : View = view_of c.delete.new.self.core in
    let before = g.D.Disk.fetches c.args.port.now in
    let now = g.D.Disk.fetches c.delete.new.port in
    let change = asked.Delete c.in-Delete.key in
    subst (λ change. OnOk c.delete.result ((t : Stored) × IsMadeAlone old (point_of s old before) change (point_of t new now) × Holds new t)) (sym c.in-Delete.is)
    (on_ok c.delete.result _ ((t : Stored) × IsMadeAlone old (point_of s old before) change (point_of t new now) × Holds new t) (c.delete.ensures.written told s holds)
    (λ done. (appended done.0 done.2, alone_of old new before now s change done.0 done.1 new.levels done.2 full done.3 done.5.remembers.files done.4 done.6 done.7 (c.delete.ensures.answers.later told), done.5)))

pub returns-in-Erase-clause-written : goal.returns-in-Erase-clause-written
returns-in-Erase-clause-written g c = λ told s holds full.
    let old = view_of c.args.engine.now.core in
    let new : View = view_of c.erase.new.self.core in
    let before = g.D.Disk.fetches c.args.port.now in
    let now = g.D.Disk.fetches c.erase.new.port in
    let change = asked.Erase c.in-Erase.range in
    subst (λ change. OnOk c.erase.result ((t : Stored) × IsMadeAlone old (point_of s old before) change (point_of t new now) × Holds new t)) (sym c.in-Erase.is)
    (on_ok c.erase.result _ ((t : Stored) × IsMadeAlone old (point_of s old before) change (point_of t new now) × Holds new t) (c.erase.ensures.written told s holds)
    (λ done.
    let next = erase_over done.0 c.in-Erase.range in
    (appended done.0 next, alone_of old new before now s change done.0 done.1 new.levels next full done.2 done.3.remembers.files refl done.4 done.5 (c.erase.ensures.answers.later told), done.3)))
