use Rattle.std.proofs.Common.{◌≡◌, ◌<◌, [], None, Some, Err, length, refl, sym, ap, ◌∙◌, subst}
use Rattle.lethe_base.specs.Limits.{max_place}
use Rattle.lethe_state.specs.declared.state.State.{State}
use Rattle.lethe_core.specs.Keeps.{Keeps}
use Rattle.lethe_core.specs.View.{view_of}
use Rattle.lethe_core.proofs.Behind.{refused_stops}
use Rattle.lethe_core.proofs.Hindered.{keeps_itself, keeps_then}
use Rattle.lethe_core.proofs.Pages.{fewer_without}
use Rattle.lethe_core.proofs.Removed.{grounded_keeps, none_left_of}
use Rattle.lethe_core.proofs.holding.Core.cancel_all.Goals as goal

pub loop-number-init : goal.loop-number-init
loop-number-init g c = record {
  keeps = keeps_itself g.D.Disk.tells (view_of c.args.self.now) c.requires.may.sound c.requires.may.runs None tt;
  held = λ told s holds. holds;
  state = refl;
  version = refl;
  retired = refl;
  begun = refl;
}

pub loop-number-preserved : goal.loop-number-preserved
loop-number-preserved g c =
    let before = c.loop-number.invariant in
    record {
      keeps = keeps_then g.D.Disk.tells (view_of c.args.self.now) (view_of c.loop-number.self) (view_of c.cancel_now.new.self) before.keeps None c.in_default-cancel_now.ensures.keeps;
      held = λ told s holds. c.in_default-cancel_now.ensures.held told s (before.held told s holds);
      state = c.in_default-cancel_now.ensures.state ∙ before.state;
      version = c.cancel_now.ensures.version ∙ before.version;
      retired = c.cancel_now.ensures.retired ∙ before.retired;
      begun = c.cancel_now.ensures.begun ∙ before.begun;
    }

pub loop-number-smaller : goal.loop-number-smaller
loop-number-smaller g c = subst (λ flights. length flights < length c.loop-number.self.flights) (sym c.cancel_now.ensures.ended) (fewer_without c.in-Some.number c.loop-number.self.flights c.in-Some.ensures.some)

-- where one is refused the disk failed, and the others are let go as they are
pub returns-in-Err-clause-keeps : goal.returns-in-Err-clause-keeps
returns-in-Err-clause-keeps g c =
    let may = c.requires.may in
    let old = view_of c.args.self.now in
    let mid = view_of c.loop-number.self in
    let new = view_of c.cancel_now.new.self in
    let same = c.loop-number.invariant.state in
    let runs : mid.state.stopped ≡ None = ap (λ (state : State). state.stopped) same ∙ may.runs in
    let fits : mid.state.count < max_place = subst (λ (state : State). state.count < max_place) (sym same) may.fits in
    let stops = refused_stops mid.state c.args.before new.faults c.in-Err.why runs fits c.in-Err.ensures.why (λ none. c.cancel_now.ensures.no_memory (c.in-Err.is ∙ ap Err none)) in
    subst (λ flights. Keeps g.D.Disk.tells old (record new { flights = flights }) (Some c.in-Err.why)) (sym c.clear.ensures)
    (grounded_keeps [] g.D.Disk.tells old new (Some c.in-Err.why) stops.0 (none_left_of new.flights) (c.in-Err.ensures.keeps.stopped ∙ stops.1)
    (keeps_then g.D.Disk.tells old mid new c.loop-number.invariant.keeps (Some c.in-Err.why) c.in-Err.ensures.keeps))
