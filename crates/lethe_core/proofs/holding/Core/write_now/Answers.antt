use Rattle.std.proofs.Common.{rules, ◌≡◌, ◌≤◌, ◌+◌, ◌++◌, None, Some, Err, refl, sym, ap, subst, ◌∙◌, arith}
use Rattle.lethe_base.specs.Counts.{Rose}
use Rattle.lethe_base.specs.Limits.{max_place}
use Rattle.lethe_base.specs.declared.refused.Refused.TheVariants as refused
use Rattle.lethe_disk.specs.declared.disk.DiskRefused.TheVariants.{Failed, NoMemory}
use Rattle.lethe_commit.proofs.Placing.{refused_at_once}
use Rattle.lethe_file.specs.Agreement.{page_name}
use Rattle.lethe_state.specs.declared.state.State.{State}
use Rattle.lethe_loose.specs.Loose.{MayWrite}
use Rattle.lethe_core.specs.Flights.{with_page_of, written_by}
use Rattle.lethe_core.specs.Keeps.{Keeps}
use Rattle.lethe_core.specs.Running.{Holds}
use Rattle.lethe_core.specs.View.{view_of}
use Rattle.lethe_stored.specs.Stored.{Stored}
use Rattle.lethe_core.proofs.Hindered.{as_itself, keeps_itself, like_of}
use Rattle.lethe_core.proofs.Pages.{flying_found, held_now, may_write, refused_keeps, stays, unwritten_kept, written_holds, written_keeps}
use Rattle.lethe_core.proofs.holding.Core.write_now.Goals as goal

pub returns-in_default-clause-keeps : goal.returns-in_default-clause-keeps
returns-in_default-clause-keeps g c = keeps_itself g.D.Disk.tells (view_of c.args.self.now) c.requires.may.sound c.requires.may.runs (Some (refused.Exhausted max_place)) refl

pub returns-in_default-clause-undone : goal.returns-in_default-clause-undone
returns-in_default-clause-undone g c = λ none. as_itself g.D.Disk.tells (view_of c.args.self.now)

-- the page is written beside the retired ones, those of the other jobs and those that were written
pub write-requires-clause-fresh : goal.write-requires-clause-fresh
write-requires-clause-fresh g c κs within = λ told.
    let self = c.args.self.now in
    let may = c.requires.may in
    let found = flying_found c.args.number self.flights c.requires.flies in
    let held = held_now g.D.Disk.tells (view_of self) may.sound told may.runs in
    let left = stays g.D.Disk.tells (view_of self) c.args.number found.0 found.1 may.sound in (
      held.0,
      left,
      subst (MayWrite (view_of self).disk held.0 (left ++ written_by c.args.number self.flights)) (sym c.in-Some.ensures.some)
          (may_write g.D.Disk.tells (view_of self) c.args.number found.0 found.1 may.sound told held.0 held.1),
    )

pub returns-in-Ok-clause-keeps : goal.returns-in-Ok-clause-keeps
returns-in-Ok-clause-keeps g c =
    let self = c.args.self.now in
    let old = view_of self in
    let laws = g.met.D.Disk g.world.𝓛 g.world.𝓜 g.world.𝓡 ((λ s x. x), (λ x. x), (λ x. x), λ x. x) in
    let seen = g.D.Disk.seen c.write.new.disk in
    let faults = g.D.Disk.faults c.write.new.disk in
    let found = flying_found c.args.number self.flights c.requires.flies in
    let sound = c.requires.may.sound in
    let left = stays g.D.Disk.tells old c.args.number found.0 found.1 sound in
    let number : c.in-Some.no ≡ self.state.next = c.in-Some.ensures.some in
    let fits : self.state.next + 1 ≤ max_place = search rules in
    let longer = rw number at c.in-Ok.ensures.written in
    subst (λ flights. Keeps g.D.Disk.tells old (record old { disk = seen; faults = faults; state = c.draw.new.self; flights = flights }) None) (sym longer)
    (subst (λ (state : State). Keeps g.D.Disk.tells old (record old { disk = seen; faults = faults; state = state; flights = with_page_of c.args.number (page_name self.state.next, c.args.bytes.now) self.flights }) None) (sym c.draw.ensures.is)
    (written_keeps g.D.Disk.tells old c.args.number found.0 found.1 sound seen faults c.args.bytes.now (λ told. laws.itself told self.disk) fits (λ told s. rw number at (c.in-Ok.ensures.done told s left))
    (rw number at c.in-Ok.ensures.others) c.requires.copied c.requires.may.runs (λ told s. rw number at (c.in-Ok.ensures.any_moment told s left)) c.in-Ok.ensures.calls c.in-Ok.ensures.cause.later))

pub returns-in-Ok-clause-held : goal.returns-in-Ok-clause-held
returns-in-Ok-clause-held g c =
    let self = c.args.self.now in
    let old = view_of self in
    let laws = g.met.D.Disk g.world.𝓛 g.world.𝓜 g.world.𝓡 ((λ s x. x), (λ x. x), (λ x. x), λ x. x) in
    let seen = g.D.Disk.seen c.write.new.disk in
    let faults = g.D.Disk.faults c.write.new.disk in
    let found = flying_found c.args.number self.flights c.requires.flies in
    let sound = c.requires.may.sound in
    let left = stays g.D.Disk.tells old c.args.number found.0 found.1 sound in
    let number : c.in-Some.no ≡ self.state.next = c.in-Some.ensures.some in
    let fits : self.state.next + 1 ≤ max_place = search rules in
    let longer = rw number at c.in-Ok.ensures.written in
    subst (λ flights. g.D.Disk.tells → (s : Stored) → Holds old s → Holds (record old { disk = seen; faults = faults; state = c.draw.new.self; flights = flights }) s) (sym longer)
    (subst (λ (state : State). g.D.Disk.tells → (s : Stored) → Holds old s → Holds (record old { disk = seen; faults = faults; state = state; flights = with_page_of c.args.number (page_name self.state.next, c.args.bytes.now) self.flights }) s) (sym c.draw.ensures.is)
    (written_holds g.D.Disk.tells old c.args.number found.0 found.1 sound seen faults c.args.bytes.now (λ told. laws.itself told self.disk) fits (λ told s. rw number at (c.in-Ok.ensures.done told s left))
    (rw number at c.in-Ok.ensures.others) c.requires.copied))

pub returns-in-Err-Failed-clause-keeps : goal.returns-in-Err-Failed-clause-keeps
returns-in-Err-Failed-clause-keeps g c =
    let self = c.args.self.now in
    let old = view_of self in
    let laws = g.met.D.Disk g.world.𝓛 g.world.𝓜 g.world.𝓡 ((λ s x. x), (λ x. x), (λ x. x), λ x. x) in
    let may = c.requires.may in
    let seen = g.D.Disk.seen c.write.new.disk in
    let found = flying_found c.args.number self.flights c.requires.flies in
    let left = stays g.D.Disk.tells old c.args.number found.0 found.1 may.sound in
    let failed : c.write.result ≡ Err Failed = c.in-Err-Failed.is ∙ ap (λ e. Err e) c.in-Err-Failed.field-0-is in
    let rose = c.write.ensures.cause.failed failed in
    let from = may.told_from in
    let told : Rose c.args.before (g.D.Disk.faults c.write.new.disk) = omega (arith, rose, from) in
    refused_keeps g.D.Disk.tells old may.sound _ c.args.before may
    (λ told s holds. (rw c.in-Some.ensures.some at (c.write.ensures.any_moment told s left)) (may_write g.D.Disk.tells old c.args.number found.0 found.1 may.sound told s holds))
    (λ told. laws.itself told c.write.new.disk) c.write.ensures.cause.later
    (unwritten_kept g.D.Disk.tells old c.args.number found.0 found.1 may.sound seen (λ told. rw c.in-Some.ensures.some at (c.write.ensures.beside told)) may.runs) (refused.Fault c.stop-place.result c.args.before c.faults.result)
    (c.stop-place.ensures.place, refl, c.faults.ensures, told, c.stop-place.ensures.is, record { levels = refl; retired = refl; flights = c.in-Err-Failed.ensures.kept; begun = refl; rounds = refl; pins = refl })

pub returns-in-Err-Failed-clause-drawn : goal.returns-in-Err-Failed-clause-drawn
returns-in-Err-Failed-clause-drawn g c = ap (λ (state : State). state.next) c.stop-place.ensures.is

pub returns-in-Err-NoMemory-clause-keeps : goal.returns-in-Err-NoMemory-clause-keeps
returns-in-Err-NoMemory-clause-keeps g c =
    let self = c.args.self.now in
    let old = view_of self in
    let laws = g.met.D.Disk g.world.𝓛 g.world.𝓜 g.world.𝓡 ((λ s x. x), (λ x. x), (λ x. x), λ x. x) in
    let may = c.requires.may in
    let seen = g.D.Disk.seen c.write.new.disk in
    let found = flying_found c.args.number self.flights c.requires.flies in
    let left = stays g.D.Disk.tells old c.args.number found.0 found.1 may.sound in
    let failed : c.write.result ≡ Err NoMemory = c.in-Err-NoMemory.is ∙ ap (λ e. Err e) c.in-Err-NoMemory.field-0-is in
    refused_keeps g.D.Disk.tells old may.sound _ c.args.before may
    (λ told s holds. (rw c.in-Some.ensures.some at (c.write.ensures.any_moment told s left)) (may_write g.D.Disk.tells old c.args.number found.0 found.1 may.sound told s holds))
    (λ told. laws.itself told c.write.new.disk) c.write.ensures.cause.later
    (unwritten_kept g.D.Disk.tells old c.args.number found.0 found.1 may.sound seen (λ told. rw c.in-Some.ensures.some at (c.write.ensures.beside told)) may.runs) refused.NoMemory (
      refl,
      record { levels = refl; retired = refl; flights = c.in-Err-NoMemory.ensures.kept; begun = refl; rounds = refl; pins = refl },
      λ told. refused_at_once (g.D.Disk.seen self.disk) seen (c.write.ensures.no_memory told failed),
    )

pub returns-in-Err-NoMemory-clause-undone : goal.returns-in-Err-NoMemory-clause-undone
returns-in-Err-NoMemory-clause-undone g c = λ none.
    let self = c.args.self.now in
    let failed : c.write.result ≡ Err NoMemory = c.in-Err-NoMemory.is ∙ ap (λ e. Err e) c.in-Err-NoMemory.field-0-is in
    record {
      state = like_of self.state self.state refl;
      levels = refl;
      retired = refl;
      disk = λ told. refused_at_once (g.D.Disk.seen self.disk) (g.D.Disk.seen c.write.new.disk) (c.write.ensures.no_memory told failed);
    }
