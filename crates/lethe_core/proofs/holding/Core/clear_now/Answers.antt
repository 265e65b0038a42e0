use Rattle.std.proofs.Common.{rules, ◌≡◌, ◌+◌, ◌++◌, [], List, None, Some, vec_len, length, refl, sym, ap, ◌∙◌, subst, arith}
use Rattle.std.proofs.lemmas.Bool.{eqb-false, eqb-true}
use Rattle.std.proofs.lemmas.Fn.{filter_same}
use Rattle.lethe_base.specs.Counts.{Rose}
use Rattle.lethe_base.specs.declared.name.Name.{Name}
use Rattle.lethe_base.specs.declared.refused.Refused.TheVariants.{Fault}
use Rattle.lethe_disk.specs.Directory.{SameBeside}
use Rattle.lethe_advance.specs.Settled.{names_in}
use Rattle.lethe_pins.specs.Held.{is_named}
use Rattle.lethe_state.specs.declared.state.State.{State}
use Rattle.lethe_stored.specs.Stored.{Stored}
use Rattle.lethe_core.specs.Keeps.{Keeps}
use Rattle.lethe_core.specs.Running.{Holds}
use Rattle.lethe_core.specs.View.{view_of}
use Rattle.lethe_core.proofs.Cleared.{cleared_holds, cleared_keeps, cleared_kept, gone, idle_holds, idle_keeps, left, may_clear, names_gone, none_goes, nothing_goes, stays_same}
use Rattle.lethe_core.proofs.Pages.{held_now, refused_keeps}
use Rattle.lethe_core.proofs.Removed.{grounded_keeps, none_left_of, only_failed}
use Rattle.lethe_core.proofs.holding.Core.clear_now.Goals as goal

-- Nothing goes

pub returns-then-is_empty-clause-keeps : goal.returns-then-is_empty-clause-keeps
returns-then-is_empty-clause-keeps g c =
    let self = c.args.self.now in
    let may = c.requires.may in
    let laws = g.met.D.Disk g.world.𝓛 g.world.𝓜 g.world.𝓡 ((λ s x. x), (λ x. x), (λ x. x), λ x. x) in
    let count : length c.in-Ok.names.items ≡ 0 = omega (arith, eqb-true (vec_len c.in-Ok.names) 0 (sym c.if-is_empty.ensures), c.in-Ok.names.ok.0) in
    let none = nothing_goes g.D.Disk.tells (view_of self) may.sound c.in-Ok.names.items c.in-Ok.ensures count in
    subst (λ flights. Keeps g.D.Disk.tells (view_of self) (record (view_of self) { flights = flights }) None) (sym c.clear.ensures) (idle_keeps g.D.Disk.tells (view_of self) may.sound may.runs (λ told. laws.itself told self.disk) none)

pub returns-then-is_empty-clause-held : goal.returns-then-is_empty-clause-held
returns-then-is_empty-clause-held g c =
    let self = c.args.self.now in
    let may = c.requires.may in
    let laws = g.met.D.Disk g.world.𝓛 g.world.𝓜 g.world.𝓡 ((λ s x. x), (λ x. x), (λ x. x), λ x. x) in
    let count : length c.in-Ok.names.items ≡ 0 = omega (arith, eqb-true (vec_len c.in-Ok.names) 0 (sym c.if-is_empty.ensures), c.in-Ok.names.ok.0) in
    let none = nothing_goes g.D.Disk.tells (view_of self) may.sound c.in-Ok.names.items c.in-Ok.ensures count in
    subst (λ flights. g.D.Disk.tells → (s : Stored) → Holds (view_of self) s → Holds (record (view_of self) { flights = flights }) s) (sym c.clear.ensures) (idle_holds g.D.Disk.tells (view_of self) may.sound may.runs (λ told. laws.itself told self.disk) none)

pub returns-then-is_empty-clause-retired : goal.returns-then-is_empty-clause-retired
returns-then-is_empty-clause-retired g c =
    let self = c.args.self.now in
    let may = c.requires.may in
    let laws = g.met.D.Disk g.world.𝓛 g.world.𝓜 g.world.𝓡 ((λ s x. x), (λ x. x), (λ x. x), λ x. x) in
    let count : length c.in-Ok.names.items ≡ 0 = omega (arith, eqb-true (vec_len c.in-Ok.names) 0 (sym c.if-is_empty.ensures), c.in-Ok.names.ok.0) in
    let none = nothing_goes g.D.Disk.tells (view_of self) may.sound c.in-Ok.names.items c.in-Ok.ensures count in
    sym (stays_same g.D.Disk.tells (view_of self) may.sound may.runs (λ told. laws.itself told self.disk) none)

-- Some pages go

pub remove_named-requires-clause-there : goal.remove_named-requires-clause-there
remove_named-requires-clause-there g c κs within = λ told.
    let old = view_of c.args.self.now in
    let may = c.requires.may in
    let held = held_now g.D.Disk.tells old may.sound told may.runs in (
      held.0,
      left g.D.Disk.tells old may.sound,
      gone g.D.Disk.tells old may.sound,
      may_clear g.D.Disk.tells old may.sound told held.0 held.1,
      c.deref.ensures.value ∙ c.in-Ok.ensures ∙ sym (names_gone g.D.Disk.tells old may.sound),
    )

pub returns-in-Ok-remove_named-clause-retired : goal.returns-in-Ok-remove_named-clause-retired
returns-in-Ok-remove_named-clause-retired g c = filter_same _ _ _ (λ x b f' k. search rules) _ _ c.retain.ensures.filtered

pub returns-in-Ok-remove_named-clause-keeps : goal.returns-in-Ok-remove_named-clause-keeps
returns-in-Ok-remove_named-clause-keeps g c =
    let self = c.args.self.now in
    let old = view_of self in
    let disk = c.remove_named.new.disk in
    let may = c.requires.may in
    let laws = g.met.D.Disk g.world.𝓛 g.world.𝓜 g.world.𝓡 ((λ s x. x), (λ x. x), (λ x. x), λ x. x) in
    let stays = left g.D.Disk.tells old may.sound in
    let goes = gone g.D.Disk.tells old may.sound in
    let names : c.deref.result.now ≡ names_in goes = c.deref.ensures.value ∙ c.in-Ok.ensures ∙ sym (names_gone g.D.Disk.tells old may.sound) in
    subst (λ flights. Keeps g.D.Disk.tells old (record old { disk = g.D.Disk.seen disk; faults = g.D.Disk.faults disk; flights = flights; retired = c.retain.new.self.items }) None) (sym c.clear.ensures)
    (subst (λ (retired : List Name). Keeps g.D.Disk.tells old (record old { disk = g.D.Disk.seen disk; faults = g.D.Disk.faults disk; flights = []; retired = retired }) None)
    (sym (returns-in-Ok-remove_named-clause-retired g c))
    (cleared_keeps g.D.Disk.tells old may.sound may.runs (g.D.Disk.seen disk) (g.D.Disk.faults disk) (λ told. laws.itself told self.disk)
    (λ told s may. c.in-Ok-remove_named.ensures.done told s stays goes may names)
    (λ told. subst (λ names. SameBeside names (g.D.Disk.seen self.disk).directory (g.D.Disk.seen disk).directory) names (c.remove_named.ensures.others told))
    (λ told s may. c.in-Ok-remove_named.ensures.any_moment told s stays goes may names) c.in-Ok-remove_named.ensures.cause.later))

pub returns-in-Ok-remove_named-clause-held : goal.returns-in-Ok-remove_named-clause-held
returns-in-Ok-remove_named-clause-held g c = λ told s holds.
    let self = c.args.self.now in
    let old = view_of self in
    let disk = c.remove_named.new.disk in
    let may = c.requires.may in
    let laws = g.met.D.Disk g.world.𝓛 g.world.𝓜 g.world.𝓡 ((λ s x. x), (λ x. x), (λ x. x), λ x. x) in
    let stays = left g.D.Disk.tells old may.sound in
    let goes = gone g.D.Disk.tells old may.sound in
    let names : c.deref.result.now ≡ names_in goes = c.deref.ensures.value ∙ c.in-Ok.ensures ∙ sym (names_gone g.D.Disk.tells old may.sound) in
    subst (λ flights. Holds (record old { disk = g.D.Disk.seen disk; faults = g.D.Disk.faults disk; flights = flights; retired = c.retain.new.self.items }) s) (sym c.clear.ensures)
    (subst (λ (retired : List Name). Holds (record old { disk = g.D.Disk.seen disk; faults = g.D.Disk.faults disk; flights = []; retired = retired }) s)
    (sym (returns-in-Ok-remove_named-clause-retired g c))
    (cleared_holds g.D.Disk.tells old may.sound may.runs (g.D.Disk.seen disk) (g.D.Disk.faults disk) (λ told. laws.itself told self.disk)
    (λ told s may. c.in-Ok-remove_named.ensures.done told s stays goes may names)
    (λ told. subst (λ names. SameBeside names (g.D.Disk.seen self.disk).directory (g.D.Disk.seen disk).directory) names (c.remove_named.ensures.others told)) told s holds))

-- where all retired pages are named and the job has written nothing, none of them goes
pub returns-in-Ok-remove_named-clause-idle : goal.returns-in-Ok-remove_named-clause-idle
returns-in-Ok-remove_named-clause-idle g c = λ written named.
    let old = view_of c.args.self.now in
    let none : c.in-Ok.names.items ≡ [] = c.in-Ok.ensures ∙ (λ i. none_goes (λ name. is_named old.pins.pins name) old.retired named i ++ names_in (written i)) in
    let count : length c.in-Ok.names.items ≡ 0 = ap length none in
    let some = eqb-false (vec_len c.in-Ok.names) 0 (sym c.if-is_empty.ensures) in
    absurd (some (omega (arith, count, c.in-Ok.names.ok.0)))

-- The disk failed

pub returns-clause-keeps : goal.returns-clause-keeps
returns-clause-keeps g c =
    let self = c.args.self.now in
    let old = view_of self in
    let disk = c.remove_named.new.disk in
    let state = c.stop-place.new.self in
    let may = c.requires.may in
    let laws = g.met.D.Disk g.world.𝓛 g.world.𝓜 g.world.𝓡 ((λ s x. x), (λ x. x), (λ x. x), λ x. x) in
    let stays = left g.D.Disk.tells old may.sound in
    let goes = gone g.D.Disk.tells old may.sound in
    let names : c.deref.result.now ≡ names_in goes = c.deref.ensures.value ∙ c.in-Ok.ensures ∙ sym (names_gone g.D.Disk.tells old may.sound) in
    let rose = c.remove_named.ensures.cause.failed (only_failed c.remove_named.result c.in-Err.field-0 c.in-Err.is c.remove_named.ensures.no_memory) in
    let from = may.told_from in
    let told : Rose c.args.before (g.D.Disk.faults disk) = omega (arith, rose, from) in
    let why = Fault c.stop-place.result c.args.before c.faults.result in
    subst (λ flights. Keeps g.D.Disk.tells old (record old { disk = g.D.Disk.seen disk; faults = g.D.Disk.faults disk; state = state; flights = flights }) (Some why)) (sym c.clear.ensures)
    (grounded_keeps [] g.D.Disk.tells old (record old { disk = g.D.Disk.seen disk; faults = g.D.Disk.faults disk; state = state }) (Some why) (self.state.count + 1) (none_left_of old.flights) (ap (λ (s : State). s.stopped) c.stop-place.ensures.is)
    (refused_keeps g.D.Disk.tells old may.sound (record old { disk = g.D.Disk.seen disk; faults = g.D.Disk.faults disk; state = state }) c.args.before may
    (λ told s holds. c.remove_named.ensures.any_moment told s stays goes (may_clear g.D.Disk.tells old may.sound told s holds) names)
    (λ told. laws.itself told disk) c.remove_named.ensures.cause.later
    (cleared_kept g.D.Disk.tells old may.sound may.runs (g.D.Disk.seen disk) (λ told. subst (λ names. SameBeside names (g.D.Disk.seen self.disk).directory (g.D.Disk.seen disk).directory) names (c.remove_named.ensures.others told)))
    why
    (c.stop-place.ensures.place, refl, c.faults.ensures, told, c.stop-place.ensures.is, record { levels = refl; retired = refl; flights = refl; begun = refl; rounds = refl; pins = refl })))
