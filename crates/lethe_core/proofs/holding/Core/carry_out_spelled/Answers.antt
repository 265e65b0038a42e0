use Rattle.std.proofs.Common.{Err, length, ap, ◌∙◌}
use Rattle.lethe_core.specs.View.{beside_in, view_of}
use Rattle.lethe_core.proofs.Carried.{may_advance, step_moments, unmoved_moments}
use Rattle.lethe_core.proofs.holding.Core.carry_out_spelled.Goals as goal

pub advance-requires-clause-step : goal.advance-requires-clause-step
advance-requires-clause-step g c κs within = λ told.
    let asked = c.requires.step told in
    (asked.0, asked.1, beside_in (view_of c.args.self.now), asked.2, may_advance (view_of c.args.self.now) asked.0 asked.1 asked.2 c.args.headers.items c.args.step.now asked.3 asked.4)

pub returns-in-Ok-clause-done : goal.returns-in-Ok-clause-done
returns-in-Ok-clause-done g c = λ told s t left running is.
    c.in-Ok.ensures.done told s t (beside_in (view_of c.args.self.now)) left (may_advance (view_of c.args.self.now) s t left c.args.headers.items c.args.step.now running is)

pub returns-in-Ok-clause-kept : goal.returns-in-Ok-clause-kept
returns-in-Ok-clause-kept g c = λ told s t left running is.
    c.in-Ok.ensures.kept told s t (beside_in (view_of c.args.self.now)) left (may_advance (view_of c.args.self.now) s t left c.args.headers.items c.args.step.now running is)

pub returns-in-Ok-clause-gate : goal.returns-in-Ok-clause-gate
returns-in-Ok-clause-gate g c = λ told s t left running is.
    c.in-Ok.ensures.gate told s t (beside_in (view_of c.args.self.now)) left (may_advance (view_of c.args.self.now) s t left c.args.headers.items c.args.step.now running is)

pub returns-in-Ok-clause-files : goal.returns-in-Ok-clause-files
returns-in-Ok-clause-files g c = λ told s t left running is has.
    c.in-Ok.ensures.files told s t (beside_in (view_of c.args.self.now)) left (may_advance (view_of c.args.self.now) s t left c.args.headers.items c.args.step.now running is) has

pub returns-in-Ok-clause-moments : goal.returns-in-Ok-clause-moments
returns-in-Ok-clause-moments g c = λ told s t left running is h other stands next below above.
    let old = view_of c.args.self.now in
    let may = may_advance old s t left c.args.headers.items c.args.step.now running is in
    step_moments h other s t old.state.next (length c.args.step.now.objects.items) old.disk (g.D.Disk.seen c.advance.new.disk) running.settled.coherent is.coherent is.config stands next below above
    (c.advance.ensures.any_moment told s t (beside_in old) left may) (c.advance.ensures.early told s t (beside_in old) left may)

pub returns-in-Err-Failed-clause-moments : goal.returns-in-Err-Failed-clause-moments
returns-in-Err-Failed-clause-moments g c = λ told s t left running is h other stands next below above.
    let old = view_of c.args.self.now in
    let may = may_advance old s t left c.args.headers.items c.args.step.now running is in
    step_moments h other s t old.state.next (length c.args.step.now.objects.items) old.disk (g.D.Disk.seen c.advance.new.disk) running.settled.coherent is.coherent is.config stands next below above
    (c.advance.ensures.any_moment told s t (beside_in old) left may) (c.advance.ensures.early told s t (beside_in old) left may)

pub returns-in-Err-NoMemory-clause-moments : goal.returns-in-Err-NoMemory-clause-moments
returns-in-Err-NoMemory-clause-moments g c = λ told s t left running is h other stands next below above.
    let old = view_of c.args.self.now in
    let may = may_advance old s t left c.args.headers.items c.args.step.now running is in
    step_moments h other s t old.state.next (length c.args.step.now.objects.items) old.disk (g.D.Disk.seen c.advance.new.disk) running.settled.coherent is.coherent is.config stands next below above
    (c.advance.ensures.any_moment told s t (beside_in old) left may) (c.advance.ensures.early told s t (beside_in old) left may)

pub returns-in-Err-Failed-clause-later : goal.returns-in-Err-Failed-clause-later
returns-in-Err-Failed-clause-later g c = λ told.
    let asked = c.requires.step told in
    let old = view_of c.args.self.now in
    (c.advance.ensures.any_moment told asked.0 asked.1 (beside_in old) asked.2 (may_advance old asked.0 asked.1 asked.2 c.args.headers.items c.args.step.now asked.3 asked.4)).later

pub returns-in-Err-NoMemory-clause-later : goal.returns-in-Err-NoMemory-clause-later
returns-in-Err-NoMemory-clause-later g c = λ told.
    let asked = c.requires.step told in
    let old = view_of c.args.self.now in
    (c.advance.ensures.any_moment told asked.0 asked.1 (beside_in old) asked.2 (may_advance old asked.0 asked.1 asked.2 c.args.headers.items c.args.step.now asked.3 asked.4)).later

pub returns-in-Err-NoMemory-clause-unmoved : goal.returns-in-Err-NoMemory-clause-unmoved
returns-in-Err-NoMemory-clause-unmoved g c = λ told s t left running is h stands below refused.
    let old = view_of c.args.self.now in
    let may = may_advance old s t left c.args.headers.items c.args.step.now running is in
    unmoved_moments h s old.state.next old.disk (g.D.Disk.seen c.advance.new.disk) running.settled.coherent stands below
    (c.advance.ensures.unmoved told s t (beside_in old) left may (c.in-Err-NoMemory.is ∙ ap (λ e. Err e) c.in-Err-NoMemory.field-0-is))

pub returns-in-Ok-clause-stays : goal.returns-in-Ok-clause-stays
returns-in-Ok-clause-stays g c = λ told s t left running is.
    c.advance.ensures.stays told s t (beside_in (view_of c.args.self.now)) left (may_advance (view_of c.args.self.now) s t left c.args.headers.items c.args.step.now running is)

pub returns-in-Err-Failed-clause-stays : goal.returns-in-Err-Failed-clause-stays
returns-in-Err-Failed-clause-stays g c = λ told s t left running is.
    c.advance.ensures.stays told s t (beside_in (view_of c.args.self.now)) left (may_advance (view_of c.args.self.now) s t left c.args.headers.items c.args.step.now running is)

pub returns-in-Err-NoMemory-clause-stays : goal.returns-in-Err-NoMemory-clause-stays
returns-in-Err-NoMemory-clause-stays g c = λ told s t left running is.
    c.advance.ensures.stays told s t (beside_in (view_of c.args.self.now)) left (may_advance (view_of c.args.self.now) s t left c.args.headers.items c.args.step.now running is)
