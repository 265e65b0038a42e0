use Rattle.std.proofs.Common.{◌≡◌, ◌+◌, Some, None, refl, sym, ap, ◌∙◌, subst, arith}
use Rattle.std.specs.Prelude.{is_some}
use Rattle.lethe_base.specs.Counts.{Rose}
use Rattle.lethe_base.specs.declared.refused.Refused.TheVariants.{Fault}
use Rattle.lethe_loose.specs.Loose.{MayRemove}
use Rattle.lethe_state.specs.declared.state.State.{State}
use Rattle.lethe_stored.specs.Stored.{Stored}
use Rattle.lethe_core.specs.Flights.{flying_by, without}
use Rattle.lethe_core.specs.Keeps.{Keeps}
use Rattle.lethe_core.specs.Running.{Holds}
use Rattle.lethe_core.specs.View.{view_of}
use Rattle.lethe_core.proofs.Asked.{not_none}
use Rattle.lethe_core.proofs.Flying.{without_none}
use Rattle.lethe_core.proofs.Hindered.{keeps_itself}
use Rattle.lethe_core.proofs.Pages.{held_now, may_remove, refused_keeps, stays, taken_found}
use Rattle.lethe_core.proofs.Removed.{grounded_keeps, named_kept, only_failed, others_left_of, removed_holds, removed_keeps}
use Rattle.lethe_core.proofs.holding.Core.cancel_now.Goals as goal

-- beside what is stored the retired pages and those of the jobs lie there
pub remove_pages-requires-clause-there : goal.remove_pages-requires-clause-there
remove_pages-requires-clause-there g c κs within = λ told.
    let self = c.args.self.now in
    let old = view_of self in
    let may = c.requires.may in
    let found = taken_found c.args.number self.flights c.in-Some.written c.end.result c.in-Some.is c.end.ensures.none c.in-Some.ensures.some in
    let held = held_now g.D.Disk.tells old may.sound told may.runs in
    let left = stays g.D.Disk.tells old c.args.number found.0 found.1 may.sound in
    (held.0, left, subst (MayRemove old.disk held.0 left) found.2 (may_remove g.D.Disk.tells old c.args.number found.0 found.1 may.sound told held.0 held.1))

pub returns-in_default-clause-keeps : goal.returns-in_default-clause-keeps
returns-in_default-clause-keeps g c =
    let self = c.args.self.now in
    let old = view_of self in
    let may = c.requires.may in
    let none : flying_by c.args.number self.flights ≡ None = c.end.ensures.none.0 (ap is_some c.in_default.is) in
    subst (λ flights. Keeps g.D.Disk.tells old (record old { flights = flights }) None) (sym (c.end.ensures.ended ∙ without_none c.args.number self.flights none))
    (keeps_itself g.D.Disk.tells old may.sound may.runs None tt)

pub returns-in_default-clause-held : goal.returns-in_default-clause-held
returns-in_default-clause-held g c = λ told s holds.
    let self = c.args.self.now in
    let old = view_of self in
    let none : flying_by c.args.number self.flights ≡ None = c.end.ensures.none.0 (ap is_some c.in_default.is) in
    subst (λ flights. Holds (record old { flights = flights }) s) (sym (c.end.ensures.ended ∙ without_none c.args.number self.flights none)) holds

pub returns-in-Ok-clause-keeps : goal.returns-in-Ok-clause-keeps
returns-in-Ok-clause-keeps g c =
    let self = c.args.self.now in
    let old = view_of self in
    let disk = c.remove_pages.new.disk in
    let may = c.requires.may in
    let laws = g.met.D.Disk g.world.𝓛 g.world.𝓜 g.world.𝓡 ((λ s x. x), (λ x. x), (λ x. x), λ x. x) in
    let found = taken_found c.args.number self.flights c.in-Some.written c.end.result c.in-Some.is c.end.ensures.none c.in-Some.ensures.some in
    let left = stays g.D.Disk.tells old c.args.number found.0 found.1 may.sound in
    let rest = without c.args.number self.flights in
    let are = others_left_of c.args.number self.flights found.0 may.sound.flights found.1 in
    subst (λ flights. Keeps g.D.Disk.tells old (record old { disk = g.D.Disk.seen disk; faults = g.D.Disk.faults disk; flights = flights }) None) (sym c.end.ensures.ended)
    (removed_keeps g.D.Disk.tells old may.sound may.runs self.retired.items rest left c.in-Some.written refl are (g.D.Disk.seen disk) (g.D.Disk.faults disk) (λ told. laws.itself told self.disk)
    (λ name there. there) (λ name named there. there) (λ told. are.drawn old.state.next old.retired (may.sound.drawn told))
    (λ told s holds. subst (MayRemove old.disk s left) found.2 (may_remove g.D.Disk.tells old c.args.number found.0 found.1 may.sound told s holds))
    (λ told s. c.in-Ok.ensures.done told s left) c.remove_pages.ensures.others (λ told s. c.in-Ok.ensures.any_moment told s left) c.in-Ok.ensures.cause.later)

pub returns-in-Ok-clause-held : goal.returns-in-Ok-clause-held
returns-in-Ok-clause-held g c = λ told s holds.
    let self = c.args.self.now in
    let old = view_of self in
    let disk = c.remove_pages.new.disk in
    let may = c.requires.may in
    let laws = g.met.D.Disk g.world.𝓛 g.world.𝓜 g.world.𝓡 ((λ s x. x), (λ x. x), (λ x. x), λ x. x) in
    let found = taken_found c.args.number self.flights c.in-Some.written c.end.result c.in-Some.is c.end.ensures.none c.in-Some.ensures.some in
    let left = stays g.D.Disk.tells old c.args.number found.0 found.1 may.sound in
    let rest = without c.args.number self.flights in
    let are = others_left_of c.args.number self.flights found.0 may.sound.flights found.1 in
    subst (λ flights. Holds (record old { disk = g.D.Disk.seen disk; faults = g.D.Disk.faults disk; flights = flights }) s) (sym c.end.ensures.ended)
    (removed_holds g.D.Disk.tells old may.sound may.runs self.retired.items rest left c.in-Some.written refl are (g.D.Disk.seen disk) (g.D.Disk.faults disk) (λ told. laws.itself told self.disk)
    (λ name there. there) (λ name named there. there) (λ told. are.drawn old.state.next old.retired (may.sound.drawn told))
    (λ told s holds. subst (MayRemove old.disk s left) found.2 (may_remove g.D.Disk.tells old c.args.number found.0 found.1 may.sound told s holds))
    (λ told s. c.in-Ok.ensures.done told s left) c.remove_pages.ensures.others told s holds)

pub returns-in-Err-clause-keeps : goal.returns-in-Err-clause-keeps
returns-in-Err-clause-keeps g c =
    let self = c.args.self.now in
    let old = view_of self in
    let disk = c.remove_pages.new.disk in
    let state = c.stop-place.new.self in
    let may = c.requires.may in
    let laws = g.met.D.Disk g.world.𝓛 g.world.𝓜 g.world.𝓡 ((λ s x. x), (λ x. x), (λ x. x), λ x. x) in
    let found = taken_found c.args.number self.flights c.in-Some.written c.end.result c.in-Some.is c.end.ensures.none c.in-Some.ensures.some in
    let left = stays g.D.Disk.tells old c.args.number found.0 found.1 may.sound in
    let rest = without c.args.number self.flights in
    let are = others_left_of c.args.number self.flights found.0 may.sound.flights found.1 in
    let goes : g.D.Disk.tells → (s : Stored) → Holds old s → MayRemove old.disk s left c.in-Some.written =
    λ told s holds. subst (MayRemove old.disk s left) found.2 (may_remove g.D.Disk.tells old c.args.number found.0 found.1 may.sound told s holds) in
    let rose = c.remove_pages.ensures.cause.failed (only_failed c.remove_pages.result c.in-Err.field-0 c.in-Err.is c.remove_pages.ensures.no_memory) in
    let from = may.told_from in
    let told : Rose c.args.before (g.D.Disk.faults disk) = omega (arith, rose, from) in
    let why = Fault c.stop-place.result c.args.before c.faults.result in
    let new = record old { disk = g.D.Disk.seen disk; faults = g.D.Disk.faults disk; state = state } in
    subst (λ flights. Keeps g.D.Disk.tells old (record new { flights = flights }) (Some why)) (sym c.end.ensures.ended)
    (grounded_keeps rest g.D.Disk.tells old new (Some why) (self.state.count + 1) are (ap (λ (s : State). s.stopped) c.stop-place.ensures.is)
    (refused_keeps g.D.Disk.tells old may.sound new c.args.before may (λ told s holds. c.remove_pages.ensures.any_moment told s left (goes told s holds))
    (λ told. laws.itself told disk) c.remove_pages.ensures.cause.later
    (named_kept g.D.Disk.tells old may.sound may.runs self.retired.items rest left c.in-Some.written refl (g.D.Disk.seen disk) goes c.remove_pages.ensures.others (λ name named there. there))
    why
    (c.stop-place.ensures.place, refl, c.faults.ensures, told, c.stop-place.ensures.is, record { levels = refl; retired = refl; flights = refl; begun = refl; rounds = refl; pins = refl })))

pub returns-in-Err-clause-undone : goal.returns-in-Err-clause-undone
returns-in-Err-clause-undone g c = λ none. absurd (not_none (record { place = c.stop-place.result; before = c.args.before; after = c.faults.result }) none)
