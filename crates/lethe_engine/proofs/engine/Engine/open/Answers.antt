use Rattle.std.proofs.Common.{◌≡◌, ◌+◌, ◌++◌, [], map, refl, ap, Err, subst, sym, ◌∙◌, arith}
use Rattle.std.specs.Prelude.{All}
use Rattle.std.proofs.lemmas.List.{length-map}
use Rattle.std.proofs.lemmas.List.Elements.{All-nil}
use Rattle.lethe_follows.proofs.Behind.{later_none}
use Rattle.lethe_manifest.specs.declared.manifest.Manifest.{Manifest}
use Rattle.lethe_stored.specs.Stored.{records_in}
use Rattle.lethe_version.specs.Versions.{levels_of}
use Rattle.lethe_advance.specs.Shown.{parts_by_level}
use Rattle.lethe_core.specs.Flights.{AreFlights}
use Rattle.lethe_core.specs.Running.{IsFlying}
use Rattle.lethe_core.specs.View.{limited_of}
use Rattle.lethe_core.proofs.Flying.{no_flights}
use Rattle.lethe_engine.proofs.Opened.{drawn_none, held_none, opened_running, pages_none, resumed, small_fresh, untouched_by}
use Rattle.lethe_engine.proofs.engine.Engine.open.Goals as goal

pub returns-in-Ok-opened-clause-sound : goal.returns-in-Ok-opened-clause-sound
returns-in-Ok-opened-clause-sound g c =
    let fresh = c.in-Ok-opened.ensures.fresh in
    let told = c.in-Ok.ensures.spelled in
    let version = c.in-Ok.field-0.version in
    let disk = c.open.new.disk in
    record {
      writable = c.in-Ok-opened.ensures.writable;
      small = small_fresh c.in-Ok.field-0.manifest c.in-Ok-opened.state fresh;
      count = length-map (levels_of version) _ ∙ told.levels ∙ ap (λ fields. fields.levels + 1) (sym told.config_is ∙ ap (λ (m : Manifest). m.config) (sym fresh.manifest_is));
      flights = subst AreFlights (sym c.new-in-Ok-opened.ensures) no_flights;
      flies = subst (All (IsFlying c.in-Ok-opened.state)) (sym c.new-in-Ok-opened.ensures) (All-nil (IsFlying c.in-Ok-opened.state));
      loose = drawn_none c.in-Ok-opened.state.next [] c.new-in-Ok-opened.result refl c.new-in-Ok-opened.ensures;
      drawn = λ tells. drawn_none c.in-Ok-opened.state.next c.new.result.items c.new-in-Ok-opened.result c.new.ensures.items c.new-in-Ok-opened.ensures;
      pins = held_none c.new-in-Ok-opened-2.result c.new-in-Ok-opened-2.ensures;
      pages = pages_none c.new-in-Ok-opened-2.result c.new-in-Ok-opened-2.ensures;
      held = λ tells.
          let is = c.in-Ok.ensures.opened tells in
          let remembers = c.in-Ok-opened.ensures.remembers is.s (parts_by_level version) is.settled.coherent is.told.files (sym is.told.manifest) is.told.frozen is.told.active is.told.erases in
          let state = c.in-Ok-opened.state in
          let levels = parts_by_level version in (
            is.s,
            remembers.0,
            λ runs. opened_running (g.D.Disk.seen disk) (g.D.Disk.faults disk) c.new.result.items c.new.ensures.items c.new-in-Ok-opened.result c.new-in-Ok-opened.ensures c.new-in-Ok-opened-2.result c.new-in-Ok-opened-2.ensures c.none.result.jobs c.none.result.rounds is.s state levels
                is.settled is.only is.untorn is.rising is.told.active is.ends c.in-Ok-opened.ensures.end remembers.1,
          );
    }

pub returns-in-Ok-opened-clause-runs : goal.returns-in-Ok-opened-clause-runs
returns-in-Ok-opened-clause-runs g c = c.in-Ok-opened.ensures.fresh.stopped

pub returns-in-Ok-opened-clause-config_is : goal.returns-in-Ok-opened-clause-config_is
returns-in-Ok-opened-clause-config_is g c = ap (λ (m : Manifest). m.config) c.in-Ok-opened.ensures.fresh.manifest_is ∙ c.in-Ok.ensures.spelled.config_is

pub returns-in-Ok-opened-clause-face : goal.returns-in-Ok-opened-clause-face
returns-in-Ok-opened-clause-face g c = λ i. record { begun = c.none.ensures.jobs i; rounds = c.none.ensures.rounds i; flights = c.new-in-Ok-opened.ensures i; made = (c.new-in-Ok-opened-2.ensures i).made; held = map limited_of (c.new-in-Ok-opened-2.ensures i).pins }

pub returns-in-Ok-opened-clause-opened : goal.returns-in-Ok-opened-clause-opened
returns-in-Ok-opened-clause-opened g c = λ tells.
    let levels = parts_by_level c.in-Ok.field-0.version in
    let is = c.in-Ok.ensures.opened tells in
    let remembers = c.in-Ok-opened.ensures.remembers is.s levels is.settled.coherent is.told.files (sym is.told.manifest) is.told.frozen is.told.active is.told.erases in
    let disk = c.open.new.disk in
    let running = opened_running (g.D.Disk.seen disk) (g.D.Disk.faults disk) c.new.result.items c.new.ensures.items c.new-in-Ok-opened.result c.new-in-Ok-opened.ensures c.new-in-Ok-opened-2.result c.new-in-Ok-opened-2.ensures c.none.result.jobs c.none.result.rounds is.s c.in-Ok-opened.state levels
    is.settled is.only is.untorn is.rising is.told.active is.ends c.in-Ok-opened.ensures.end remembers.1 in
    (is.s, record { remembers = remembers.0; running = running }, is.opened_as)

pub returns-in-Ok-opened-clause-numbers : goal.returns-in-Ok-opened-clause-numbers
returns-in-Ok-opened-clause-numbers g c = λ told next is.
    let next_is : c.in-Ok-opened.state.next ≡ c.in-Ok.field-0.manifest.next = c.in-Ok-opened.ensures.fresh.next in
    omega (arith, next_is, c.in-Ok.ensures.numbers told next is)

pub returns-in-Ok-opened-clause-resumed : goal.returns-in-Ok-opened-clause-resumed
returns-in-Ok-opened-clause-resumed g c = λ tells kept h change left.
    let seen = g.D.Disk.seen c.open.new.disk in
    let state = c.in-Ok-opened.state in
    let levels = parts_by_level c.in-Ok.field-0.version in
    let again = c.in-Ok.ensures.resumed tells kept h change left in
    let is = again.is in
    let remembers = c.in-Ok-opened.ensures.remembers is.s levels is.settled.coherent is.told.files (sym is.told.manifest) is.told.frozen is.told.active is.told.erases in
    let faults = g.D.Disk.faults c.open.new.disk in
    let running = opened_running seen faults c.new.result.items c.new.ensures.items c.new-in-Ok-opened.result c.new-in-Ok-opened.ensures c.new-in-Ok-opened-2.result c.new-in-Ok-opened-2.ensures c.none.result.jobs c.none.result.rounds is.s state levels
    is.settled is.only is.untorn is.rising is.told.active is.ends c.in-Ok-opened.ensures.end remembers.1 in
    resumed c.args.config.now h again.history change (g.D.Disk.seen c.args.disk) seen faults c.new.result.items c.new.ensures.items c.new-in-Ok-opened.result c.new-in-Ok-opened.ensures c.new-in-Ok-opened-2.result c.new-in-Ok-opened-2.ensures c.none.result.jobs c.none.result.rounds is.s state levels again.either again.was
    c.in-Ok-opened.ensures.writable running remembers.0 is.config_is again.stands
    (later_none is.s (λ i. records_in (is.told.frozen i) ++ is.told.active i))
    (λ next from. returns-in-Ok-opened-clause-numbers g c tells next from)

pub returns-in-Err-clause-untouched : goal.returns-in-Err-clause-untouched
returns-in-Err-clause-untouched g c = λ told.
    untouched_by g.D.Disk.tells c.args.config.now (g.D.Disk.seen c.args.disk) (g.D.Disk.seen c.open.new.disk) (g.D.Disk.faults c.args.disk) (g.D.Disk.faults c.open.new.disk) c.in-Err.why told
    c.in-Err.ensures.refused (λ reason is. c.open.ensures.untouched told reason is) (λ last is. (c.in-Err.ensures.exhausted told last (ap Err is)).0)

pub returns-in-Ok-opened-clause-nothing : goal.returns-in-Ok-opened-clause-nothing
returns-in-Ok-opened-clause-nothing g c = (c.new.ensures.items, c.new-in-Ok-opened-2.ensures)
