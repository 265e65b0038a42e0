use Rattle.std.proofs.Common.{Err, map, sym, ap, ◌∙◌, subst}
use Rattle.lethe_disk.specs.Runs.{Leads}
use Rattle.lethe_commit.specs.Clear.{ArePresent, IsCleared, remove_all}
use Rattle.lethe_commit.specs.Place.{name_of}
use Rattle.lethe_advance.specs.Shown.{AreLevelsWith, parts_by_level}
use Rattle.lethe_advance.proofs.Leveled.{files_next}
use Rattle.lethe_advance.proofs.Running.{absent_before, early_placed, early_exchanged, early_behind, exchanges_from, switched_from, place_still, place_moments, free_placed, older_placed, pages_placed, opened_placed}
use Rattle.lethe_advance.proofs.Running.{exchange_moments, present_again, removal_moments, removal_still, back_again, present_placed, clear_moments, settled_next, kept_next, gate_next}
use Rattle.lethe_advance.proofs.Stayed.{had_cleared, had_first, had_switched, had_taken_back, had_written}
use Rattle.lethe_advance.proofs.advancing.advance.Goals as goal

pub place_new-requires-clause-synced : goal.place_new-requires-clause-synced
place_new-requires-clause-synced g c κs within = λ told. (c.requires.step told).4.settled.synced

pub place_new-requires-clause-absent : goal.place_new-requires-clause-absent
place_new-requires-clause-absent g c κs within = λ told.
    let asked = c.requires.step told in
    let s = asked.0 in
    let t = asked.1 in
    let loose = asked.2 in
    let left = asked.3 in
    let may = asked.4 in
    let s0 = g.D.Disk.seen c.args.disk.now in
    let headers = c.args.headers.items in
    let step = c.args.step.now in
    let objects = c.deref.result.now in
    let same = c.deref.ensures.value in
    absent_before s t loose left headers step s0 may objects same

pub returns-in_err-place_new-clause-any_moment : goal.returns-in_err-place_new-clause-any_moment
returns-in_err-place_new-clause-any_moment g c = λ told s t loose left may.
    let s0 = g.D.Disk.seen c.args.disk.now in
    let headers = c.args.headers.items in
    let step = c.args.step.now in
    let objects = c.deref.result.now in
    let same = c.deref.ensures.value in
    let s1 = g.D.Disk.seen c.place_new.new.disk in
    let placing = c.place_new.ensures.any_moment told in
    place_moments s t loose left headers step s0 may objects same s1 placing

pub exchange-requires-clause-present : goal.exchange-requires-clause-present
exchange-requires-clause-present g c κs within = λ told.
    let asked = c.requires.step told in
    let s = asked.0 in
    let t = asked.1 in
    let loose = asked.2 in
    let left = asked.3 in
    let may = asked.4 in
    let s0 = g.D.Disk.seen c.args.disk.now in
    let headers = c.args.headers.items in
    let step = c.args.step.now in
    let objects = c.deref.result.now in
    let same = c.deref.ensures.value in
    let s1 = g.D.Disk.seen c.place_new.new.disk in
    let placing = c.place_new.ensures.any_moment told in
    let synced = c.in_ok-place_new.ensures.synced told in
    let done = c.in_ok-place_new.ensures.done told in
    pages_placed s t loose left headers step s0 may objects same s1 placing synced done

pub exchange-requires-clause-free : goal.exchange-requires-clause-free
exchange-requires-clause-free g c κs within = λ told.
    let asked = c.requires.step told in
    let s = asked.0 in
    let t = asked.1 in
    let loose = asked.2 in
    let left = asked.3 in
    let may = asked.4 in
    let s0 = g.D.Disk.seen c.args.disk.now in
    let headers = c.args.headers.items in
    let step = c.args.step.now in
    let objects = c.deref.result.now in
    let same = c.deref.ensures.value in
    let s1 = g.D.Disk.seen c.place_new.new.disk in
    let placing = c.place_new.ensures.any_moment told in
    let synced = c.in_ok-place_new.ensures.synced told in
    let done = c.in_ok-place_new.ensures.done told in
    free_placed s t loose left headers step s0 may objects same s1 placing synced done

pub exchange-requires-clause-older : goal.exchange-requires-clause-older
exchange-requires-clause-older g c κs within = λ told.
    let asked = c.requires.step told in
    let s = asked.0 in
    let t = asked.1 in
    let loose = asked.2 in
    let left = asked.3 in
    let may = asked.4 in
    let s0 = g.D.Disk.seen c.args.disk.now in
    let headers = c.args.headers.items in
    let step = c.args.step.now in
    let objects = c.deref.result.now in
    let same = c.deref.ensures.value in
    let s1 = g.D.Disk.seen c.place_new.new.disk in
    let placing = c.place_new.ensures.any_moment told in
    let synced = c.in_ok-place_new.ensures.synced told in
    let done = c.in_ok-place_new.ensures.done told in
    older_placed s t loose left headers step s0 may objects same s1 placing synced done

pub clear-requires-after_bounds : goal.clear-requires-after_bounds
clear-requires-after_bounds g c κs within = λ told.
    let asked = c.requires.step told in
    let s = asked.0 in
    let t = asked.1 in
    let loose = asked.2 in
    let left = asked.3 in
    let may = asked.4 in
    let s0 = g.D.Disk.seen c.args.disk.now in
    let headers = c.args.headers.items in
    let step = c.args.step.now in
    let objects = c.deref.result.now in
    let same = c.deref.ensures.value in
    let s1 = g.D.Disk.seen c.place_new.new.disk in
    let placing = c.place_new.ensures.any_moment told in
    let synced = c.in_ok-place_new.ensures.synced told in
    let done = c.in_ok-place_new.ensures.done told in
    let s2 = g.D.Disk.seen c.exchange.new.disk in
    let exchanging = exchanges_from s t loose left headers step s0 may s1 s2 (c.exchange.ensures.any_moment told) in
    let new = c.in-Ok.ensures.new told in
    let switched_is = switched_from s t loose left headers step s0 may s1.directory s2.directory (c.in-Ok.ensures.done told) in
    let gone = c.deref-in-Ok.result.now in
    let gone_is = c.deref-in-Ok.ensures.value in
    present_placed s t loose left headers step s0 may objects same s1 placing synced done s2 exchanging new switched_is gone gone_is

pub returns-in_err-clear-in-Ok-clause-any_moment : goal.returns-in_err-clear-in-Ok-clause-any_moment
returns-in_err-clear-in-Ok-clause-any_moment g c = λ told s t loose left may.
    let s0 = g.D.Disk.seen c.args.disk.now in
    let headers = c.args.headers.items in
    let step = c.args.step.now in
    let objects = c.deref.result.now in
    let same = c.deref.ensures.value in
    let s1 = g.D.Disk.seen c.place_new.new.disk in
    let placing = c.place_new.ensures.any_moment told in
    let synced = c.in_ok-place_new.ensures.synced told in
    let done = c.in_ok-place_new.ensures.done told in
    let s2 = g.D.Disk.seen c.exchange.new.disk in
    let exchanging = exchanges_from s t loose left headers step s0 may s1 s2 (c.exchange.ensures.any_moment told) in
    let new = c.in-Ok.ensures.new told in
    let switched_is = switched_from s t loose left headers step s0 may s1.directory s2.directory (c.in-Ok.ensures.done told) in
    let gone = c.deref-in-Ok.result.now in
    let gone_is = c.deref-in-Ok.ensures.value in
    let s3 = g.D.Disk.seen c.clear.new.disk in
    let clearing = c.clear.ensures.any_moment told in
    clear_moments s t loose left headers step s0 may objects same s1 placing synced done s2 exchanging new switched_is gone gone_is s3 clearing

pub take_back-requires-after_bounds : goal.take_back-requires-after_bounds
take_back-requires-after_bounds g c κs within = λ told.
    let asked = c.requires.step told in
    let s = asked.0 in
    let t = asked.1 in
    let loose = asked.2 in
    let left = asked.3 in
    let may = asked.4 in
    let s0 = g.D.Disk.seen c.args.disk.now in
    let headers = c.args.headers.items in
    let step = c.args.step.now in
    let objects = c.deref.result.now in
    let same = c.deref.ensures.value in
    let s1 = g.D.Disk.seen c.place_new.new.disk in
    let placing = c.place_new.ensures.any_moment told in
    let synced = c.in_ok-place_new.ensures.synced told in
    let done = c.in_ok-place_new.ensures.done told in
    let s2 = g.D.Disk.seen c.exchange.new.disk in
    let exchanging = exchanges_from s t loose left headers step s0 may s1 s2 (c.exchange.ensures.any_moment told) in
    let back = c.exchange.ensures.no_memory told (c.in-Err-NoMemory.is ∙ ap (λ e. Err e) c.in-Err-NoMemory.field-0-is) in
    subst (λ l. ArePresent (map name_of l) s2.directory) (same ∙ sym c.deref-in-Err-NoMemory.ensures.value) (present_again s t loose left headers step s0 may objects same s1 placing synced done s2 exchanging back)

pub returns-in_err-take_back-in-Err-NoMemory-clause-any_moment : goal.returns-in_err-take_back-in-Err-NoMemory-clause-any_moment
returns-in_err-take_back-in-Err-NoMemory-clause-any_moment g c = λ told s t loose left may.
    let s0 = g.D.Disk.seen c.args.disk.now in
    let headers = c.args.headers.items in
    let step = c.args.step.now in
    let objects = c.deref.result.now in
    let same = c.deref.ensures.value in
    let s1 = g.D.Disk.seen c.place_new.new.disk in
    let placing = c.place_new.ensures.any_moment told in
    let synced = c.in_ok-place_new.ensures.synced told in
    let done = c.in_ok-place_new.ensures.done told in
    let s2 = g.D.Disk.seen c.exchange.new.disk in
    let exchanging = exchanges_from s t loose left headers step s0 may s1 s2 (c.exchange.ensures.any_moment told) in
    let back = c.exchange.ensures.no_memory told (c.in-Err-NoMemory.is ∙ ap (λ e. Err e) c.in-Err-NoMemory.field-0-is) in
    let s3 = g.D.Disk.seen c.take_back.new.disk in
    let as_placed = c.deref-in-Err-NoMemory.ensures.value ∙ sym same in
    let removing = subst (λ l. Leads (IsCleared (map name_of l)) s2 s3) as_placed (c.take_back.ensures.any_moment told) in
    removal_moments s t loose left headers step s0 may objects same s1 placing synced done s2 exchanging back s3 removing

pub returns-in_ok-clear-in-Ok-clause-any_moment : goal.returns-in_ok-clear-in-Ok-clause-any_moment
returns-in_ok-clear-in-Ok-clause-any_moment g c = λ told s t loose left may.
    let s0 = g.D.Disk.seen c.args.disk.now in
    let headers = c.args.headers.items in
    let step = c.args.step.now in
    let objects = c.deref.result.now in
    let same = c.deref.ensures.value in
    let s1 = g.D.Disk.seen c.place_new.new.disk in
    let placing = c.place_new.ensures.any_moment told in
    let synced = c.in_ok-place_new.ensures.synced told in
    let done = c.in_ok-place_new.ensures.done told in
    let s2 = g.D.Disk.seen c.exchange.new.disk in
    let exchanging = exchanges_from s t loose left headers step s0 may s1 s2 (c.exchange.ensures.any_moment told) in
    let new = c.in-Ok.ensures.new told in
    let switched_is = switched_from s t loose left headers step s0 may s1.directory s2.directory (c.in-Ok.ensures.done told) in
    let gone = c.deref-in-Ok.result.now in
    let gone_is = c.deref-in-Ok.ensures.value in
    let s3 = g.D.Disk.seen c.clear.new.disk in
    let clearing = c.clear.ensures.any_moment told in
    clear_moments s t loose left headers step s0 may objects same s1 placing synced done s2 exchanging new switched_is gone gone_is s3 clearing

pub returns-in_ok-clear-in-Ok-clause-done : goal.returns-in_ok-clear-in-Ok-clause-done
returns-in_ok-clear-in-Ok-clause-done g c = λ told s t loose left may.
    let s0 = g.D.Disk.seen c.args.disk.now in
    let headers = c.args.headers.items in
    let step = c.args.step.now in
    let objects = c.deref.result.now in
    let same = c.deref.ensures.value in
    let s1 = g.D.Disk.seen c.place_new.new.disk in
    let placing = c.place_new.ensures.any_moment told in
    let synced = c.in_ok-place_new.ensures.synced told in
    let done = c.in_ok-place_new.ensures.done told in
    let s2 = g.D.Disk.seen c.exchange.new.disk in
    let exchanging = exchanges_from s t loose left headers step s0 may s1 s2 (c.exchange.ensures.any_moment told) in
    let new = c.in-Ok.ensures.new told in
    let switched_is = switched_from s t loose left headers step s0 may s1.directory s2.directory (c.in-Ok.ensures.done told) in
    let gone = c.deref-in-Ok.result.now in
    let gone_is = c.deref-in-Ok.ensures.value in
    let s3 = g.D.Disk.seen c.clear.new.disk in
    let clearing = c.clear.ensures.any_moment told in
    let here = (g.met.D.Disk g.world.𝓛 g.world.𝓜 g.world.𝓡 ((λ s x. x), (λ x. x), (λ x. x), λ x. x)).itself told c.exchange.new.disk in
    settled_next s t loose left headers step s0 may objects same s1 placing synced done s2 exchanging new switched_is gone gone_is s3 clearing (c.in_ok-clear-in-Ok.ensures.done told) here (c.in_ok-clear-in-Ok.ensures.synced told)

pub returns-in_ok-clear-in-Ok-clause-kept : goal.returns-in_ok-clear-in-Ok-clause-kept
returns-in_ok-clear-in-Ok-clause-kept g c = λ told s t loose left may.
    let s0 = g.D.Disk.seen c.args.disk.now in
    let headers = c.args.headers.items in
    let step = c.args.step.now in
    let objects = c.deref.result.now in
    let same = c.deref.ensures.value in
    let s1 = g.D.Disk.seen c.place_new.new.disk in
    let placing = c.place_new.ensures.any_moment told in
    let synced = c.in_ok-place_new.ensures.synced told in
    let done = c.in_ok-place_new.ensures.done told in
    let s2 = g.D.Disk.seen c.exchange.new.disk in
    let exchanging = exchanges_from s t loose left headers step s0 may s1 s2 (c.exchange.ensures.any_moment told) in
    let new = c.in-Ok.ensures.new told in
    let switched_is = switched_from s t loose left headers step s0 may s1.directory s2.directory (c.in-Ok.ensures.done told) in
    let gone = c.deref-in-Ok.result.now in
    let gone_is = c.deref-in-Ok.ensures.value in
    let s3 = g.D.Disk.seen c.clear.new.disk in
    let clearing = c.clear.ensures.any_moment told in
    kept_next s t loose left headers step s0 may objects same s1 placing synced done s2 exchanging new switched_is gone gone_is s3 clearing (c.in_ok-clear-in-Ok.ensures.done told)

pub returns-in_ok-clear-in-Ok-clause-files : goal.returns-in_ok-clear-in-Ok-clause-files
returns-in_ok-clear-in-Ok-clause-files g c = λ told s t loose left may has.
    let s0 = g.D.Disk.seen c.args.disk.now in
    let headers = c.args.headers.items in
    let step = c.args.step.now in
    let objects = c.deref.result.now in
    let same = c.deref.ensures.value in
    let s1 = g.D.Disk.seen c.place_new.new.disk in
    let placing = c.place_new.ensures.any_moment told in
    let synced = c.in_ok-place_new.ensures.synced told in
    let done = c.in_ok-place_new.ensures.done told in
    let old = parts_by_level c.args.version.now in
    let new = parts_by_level c.in-Ok.next in
    let made = subst (λ added. AreLevelsWith step.merged.items added old new) (opened_placed s t loose left headers step s0 may objects same s1 placing synced done) (c.in-Ok.ensures.files told) in
    files_next s t loose left headers step may.step_is old new has made

pub returns-in-Err-Failed-clause-any_moment : goal.returns-in-Err-Failed-clause-any_moment
returns-in-Err-Failed-clause-any_moment g c = λ told s t loose left may.
    let s0 = g.D.Disk.seen c.args.disk.now in
    let headers = c.args.headers.items in
    let step = c.args.step.now in
    let objects = c.deref.result.now in
    let same = c.deref.ensures.value in
    let s1 = g.D.Disk.seen c.place_new.new.disk in
    let placing = c.place_new.ensures.any_moment told in
    let synced = c.in_ok-place_new.ensures.synced told in
    let done = c.in_ok-place_new.ensures.done told in
    let s2 = g.D.Disk.seen c.exchange.new.disk in
    let exchanging = exchanges_from s t loose left headers step s0 may s1 s2 (c.exchange.ensures.any_moment told) in
    exchange_moments s t loose left headers step s0 may objects same s1 placing synced done s2 exchanging

pub returns-in_ok-take_back-in-Err-NoMemory-clause-any_moment : goal.returns-in_ok-take_back-in-Err-NoMemory-clause-any_moment
returns-in_ok-take_back-in-Err-NoMemory-clause-any_moment g c = λ told s t loose left may.
    let s0 = g.D.Disk.seen c.args.disk.now in
    let headers = c.args.headers.items in
    let step = c.args.step.now in
    let objects = c.deref.result.now in
    let same = c.deref.ensures.value in
    let s1 = g.D.Disk.seen c.place_new.new.disk in
    let placing = c.place_new.ensures.any_moment told in
    let synced = c.in_ok-place_new.ensures.synced told in
    let done = c.in_ok-place_new.ensures.done told in
    let s2 = g.D.Disk.seen c.exchange.new.disk in
    let exchanging = exchanges_from s t loose left headers step s0 may s1 s2 (c.exchange.ensures.any_moment told) in
    let back = c.exchange.ensures.no_memory told (c.in-Err-NoMemory.is ∙ ap (λ e. Err e) c.in-Err-NoMemory.field-0-is) in
    let s3 = g.D.Disk.seen c.take_back.new.disk in
    let as_placed = c.deref-in-Err-NoMemory.ensures.value ∙ sym same in
    let removing = subst (λ l. Leads (IsCleared (map name_of l)) s2 s3) as_placed (c.take_back.ensures.any_moment told) in
    removal_moments s t loose left headers step s0 may objects same s1 placing synced done s2 exchanging back s3 removing

pub returns-in_ok-take_back-in-Err-NoMemory-clause-no_memory : goal.returns-in_ok-take_back-in-Err-NoMemory-clause-no_memory
returns-in_ok-take_back-in-Err-NoMemory-clause-no_memory g c = λ told refused.
    let asked = c.requires.step told in
    let s = asked.0 in
    let t = asked.1 in
    let loose = asked.2 in
    let left = asked.3 in
    let may = asked.4 in
    let s0 = g.D.Disk.seen c.args.disk.now in
    let headers = c.args.headers.items in
    let step = c.args.step.now in
    let objects = c.deref.result.now in
    let same = c.deref.ensures.value in
    let s1 = g.D.Disk.seen c.place_new.new.disk in
    let placing = c.place_new.ensures.any_moment told in
    let synced = c.in_ok-place_new.ensures.synced told in
    let done = c.in_ok-place_new.ensures.done told in
    let s2 = g.D.Disk.seen c.exchange.new.disk in
    let exchanging = exchanges_from s t loose left headers step s0 may s1 s2 (c.exchange.ensures.any_moment told) in
    let back = c.exchange.ensures.no_memory told (c.in-Err-NoMemory.is ∙ ap (λ e. Err e) c.in-Err-NoMemory.field-0-is) in
    let s3 = g.D.Disk.seen c.take_back.new.disk in
    let as_placed = c.deref-in-Err-NoMemory.ensures.value ∙ sym same in
    let removed = c.in_ok-take_back-in-Err-NoMemory.ensures.done told ∙ ap (λ l. remove_all (map name_of l) s2.directory) as_placed in
    let here = (g.met.D.Disk g.world.𝓛 g.world.𝓜 g.world.𝓡 ((λ s x. x), (λ x. x), (λ x. x), λ x. x)).itself told c.args.disk.now in
    back_again s t loose left headers step s0 may objects same s1 placing synced done s2 exchanging back s3 here removed (c.in_ok-take_back-in-Err-NoMemory.ensures.synced told)

pub returns-in_err-place_new-clause-early : goal.returns-in_err-place_new-clause-early
returns-in_err-place_new-clause-early g c = λ told s t loose left may moment d low high few there.
    let s0 = g.D.Disk.seen c.args.disk.now in
    let headers = c.args.headers.items in
    let step = c.args.step.now in
    let s1 = g.D.Disk.seen c.place_new.new.disk in
    let placing = c.place_new.ensures.any_moment told in
    early_placed s t loose left headers step s0 may c.deref.result.now c.deref.ensures.value s1 placing moment d low high there

pub returns-in-Err-Failed-clause-early : goal.returns-in-Err-Failed-clause-early
returns-in-Err-Failed-clause-early g c = λ told s t loose left may moment d low high few there.
    let s0 = g.D.Disk.seen c.args.disk.now in
    let headers = c.args.headers.items in
    let step = c.args.step.now in
    let s1 = g.D.Disk.seen c.place_new.new.disk in
    let placing = c.place_new.ensures.any_moment told in
    let s2 = g.D.Disk.seen c.exchange.new.disk in
    let calls = c.in_ok-place_new.ensures.calls told in
    early_exchanged s t loose left headers step s0 may c.deref.result.now c.deref.ensures.value s1 placing calls _ s2 (c.exchange.ensures.any_moment told) moment d low few there

pub returns-in_err-clear-in-Ok-clause-early : goal.returns-in_err-clear-in-Ok-clause-early
returns-in_err-clear-in-Ok-clause-early g c = λ told s t loose left may moment d low high few there.
    let s0 = g.D.Disk.seen c.args.disk.now in
    let headers = c.args.headers.items in
    let step = c.args.step.now in
    let s1 = g.D.Disk.seen c.place_new.new.disk in
    let placing = c.place_new.ensures.any_moment told in
    let s2 = g.D.Disk.seen c.exchange.new.disk in
    let calls = c.in_ok-place_new.ensures.calls told in
    early_behind s t loose left headers step s0 may c.deref.result.now c.deref.ensures.value s1 placing calls _ s2 (c.exchange.ensures.any_moment told) _ (g.D.Disk.seen c.clear.new.disk) (c.clear.ensures.any_moment told) moment d low few there

pub returns-in_ok-clear-in-Ok-clause-early : goal.returns-in_ok-clear-in-Ok-clause-early
returns-in_ok-clear-in-Ok-clause-early g c = λ told s t loose left may moment d low high few there.
    let s0 = g.D.Disk.seen c.args.disk.now in
    let headers = c.args.headers.items in
    let step = c.args.step.now in
    let s1 = g.D.Disk.seen c.place_new.new.disk in
    let placing = c.place_new.ensures.any_moment told in
    let s2 = g.D.Disk.seen c.exchange.new.disk in
    let calls = c.in_ok-place_new.ensures.calls told in
    early_behind s t loose left headers step s0 may c.deref.result.now c.deref.ensures.value s1 placing calls _ s2 (c.exchange.ensures.any_moment told) _ (g.D.Disk.seen c.clear.new.disk) (c.clear.ensures.any_moment told) moment d low few there

pub returns-in_err-take_back-in-Err-NoMemory-clause-early : goal.returns-in_err-take_back-in-Err-NoMemory-clause-early
returns-in_err-take_back-in-Err-NoMemory-clause-early g c = λ told s t loose left may moment d low high few there.
    let s0 = g.D.Disk.seen c.args.disk.now in
    let headers = c.args.headers.items in
    let step = c.args.step.now in
    let s1 = g.D.Disk.seen c.place_new.new.disk in
    let placing = c.place_new.ensures.any_moment told in
    let s2 = g.D.Disk.seen c.exchange.new.disk in
    let calls = c.in_ok-place_new.ensures.calls told in
    early_behind s t loose left headers step s0 may c.deref.result.now c.deref.ensures.value s1 placing calls _ s2 (c.exchange.ensures.any_moment told) _ (g.D.Disk.seen c.take_back.new.disk) (c.take_back.ensures.any_moment told) moment d low few there

pub returns-in_ok-take_back-in-Err-NoMemory-clause-early : goal.returns-in_ok-take_back-in-Err-NoMemory-clause-early
returns-in_ok-take_back-in-Err-NoMemory-clause-early g c = λ told s t loose left may moment d low high few there.
    let s0 = g.D.Disk.seen c.args.disk.now in
    let headers = c.args.headers.items in
    let step = c.args.step.now in
    let s1 = g.D.Disk.seen c.place_new.new.disk in
    let placing = c.place_new.ensures.any_moment told in
    let s2 = g.D.Disk.seen c.exchange.new.disk in
    let calls = c.in_ok-place_new.ensures.calls told in
    early_behind s t loose left headers step s0 may c.deref.result.now c.deref.ensures.value s1 placing calls _ s2 (c.exchange.ensures.any_moment told) _ (g.D.Disk.seen c.take_back.new.disk) (c.take_back.ensures.any_moment told) moment d low few there

pub returns-in_err-place_new-clause-unmoved : goal.returns-in_err-place_new-clause-unmoved
returns-in_err-place_new-clause-unmoved g c = λ told s t loose left may refused.
    let s0 = g.D.Disk.seen c.args.disk.now in
    let headers = c.args.headers.items in
    let step = c.args.step.now in
    let objects = c.deref.result.now in
    let same = c.deref.ensures.value in
    let s1 = g.D.Disk.seen c.place_new.new.disk in
    let placing = c.place_new.ensures.any_moment told in
    place_still s t loose left headers step s0 may objects same s1 placing

pub returns-in_err-take_back-in-Err-NoMemory-clause-unmoved : goal.returns-in_err-take_back-in-Err-NoMemory-clause-unmoved
returns-in_err-take_back-in-Err-NoMemory-clause-unmoved g c = λ told s t loose left may refused.
    let s0 = g.D.Disk.seen c.args.disk.now in
    let headers = c.args.headers.items in
    let step = c.args.step.now in
    let objects = c.deref.result.now in
    let same = c.deref.ensures.value in
    let s1 = g.D.Disk.seen c.place_new.new.disk in
    let placing = c.place_new.ensures.any_moment told in
    let synced = c.in_ok-place_new.ensures.synced told in
    let done = c.in_ok-place_new.ensures.done told in
    let s2 = g.D.Disk.seen c.exchange.new.disk in
    let exchanging = exchanges_from s t loose left headers step s0 may s1 s2 (c.exchange.ensures.any_moment told) in
    let is = c.in-Err-NoMemory.is ∙ ap (λ e. Err e) c.in-Err-NoMemory.field-0-is in
    let back = c.exchange.ensures.no_memory told is in
    let s3 = g.D.Disk.seen c.take_back.new.disk in
    let as_placed = c.deref-in-Err-NoMemory.ensures.value ∙ sym same in
    let removing = subst (λ l. Leads (IsCleared (map name_of l)) s2 s3) as_placed (c.take_back.ensures.any_moment told) in
    removal_still s t loose left headers step s0 may objects same s1 placing synced done s2 exchanging back s3 removing (c.exchange.ensures.unswitched told is)

pub returns-in_ok-take_back-in-Err-NoMemory-clause-unmoved : goal.returns-in_ok-take_back-in-Err-NoMemory-clause-unmoved
returns-in_ok-take_back-in-Err-NoMemory-clause-unmoved g c = λ told s t loose left may refused.
    let s0 = g.D.Disk.seen c.args.disk.now in
    let headers = c.args.headers.items in
    let step = c.args.step.now in
    let objects = c.deref.result.now in
    let same = c.deref.ensures.value in
    let s1 = g.D.Disk.seen c.place_new.new.disk in
    let placing = c.place_new.ensures.any_moment told in
    let synced = c.in_ok-place_new.ensures.synced told in
    let done = c.in_ok-place_new.ensures.done told in
    let s2 = g.D.Disk.seen c.exchange.new.disk in
    let exchanging = exchanges_from s t loose left headers step s0 may s1 s2 (c.exchange.ensures.any_moment told) in
    let is = c.in-Err-NoMemory.is ∙ ap (λ e. Err e) c.in-Err-NoMemory.field-0-is in
    let back = c.exchange.ensures.no_memory told is in
    let s3 = g.D.Disk.seen c.take_back.new.disk in
    let as_placed = c.deref-in-Err-NoMemory.ensures.value ∙ sym same in
    let removing = subst (λ l. Leads (IsCleared (map name_of l)) s2 s3) as_placed (c.take_back.ensures.any_moment told) in
    removal_still s t loose left headers step s0 may objects same s1 placing synced done s2 exchanging back s3 removing (c.exchange.ensures.unswitched told is)

pub returns-in_ok-clear-in-Ok-clause-gate : goal.returns-in_ok-clear-in-Ok-clause-gate
returns-in_ok-clear-in-Ok-clause-gate g c = λ told s t loose left may.
    let s0 = g.D.Disk.seen c.args.disk.now in
    let headers = c.args.headers.items in
    let step = c.args.step.now in
    let objects = c.deref.result.now in
    let same = c.deref.ensures.value in
    let s1 = g.D.Disk.seen c.place_new.new.disk in
    let placing = c.place_new.ensures.any_moment told in
    let synced = c.in_ok-place_new.ensures.synced told in
    let done = c.in_ok-place_new.ensures.done told in
    let s2 = g.D.Disk.seen c.exchange.new.disk in
    let exchanging = exchanges_from s t loose left headers step s0 may s1 s2 (c.exchange.ensures.any_moment told) in
    let new = c.in-Ok.ensures.new told in
    let switched_is = switched_from s t loose left headers step s0 may s1.directory s2.directory (c.in-Ok.ensures.done told) in
    let gone = c.deref-in-Ok.result.now in
    let gone_is = c.deref-in-Ok.ensures.value in
    let s3 = g.D.Disk.seen c.clear.new.disk in
    let clearing = c.clear.ensures.any_moment told in
    gate_next s t loose left headers step s0 may objects same s1 placing synced done s2 exchanging new switched_is gone gone_is s3 clearing (c.in_ok-clear-in-Ok.ensures.done told)

pub returns-in_err-place_new-clause-stays : goal.returns-in_err-place_new-clause-stays
returns-in_err-place_new-clause-stays g c = λ told s t loose left may name stays there.
    let s0 = g.D.Disk.seen c.args.disk.now in
    let headers = c.args.headers.items in
    let step = c.args.step.now in
    let objects = c.deref.result.now in
    let same = c.deref.ensures.value in
    let s1 = g.D.Disk.seen c.place_new.new.disk in
    let first = had_first s t loose left headers step s0 may name stays there in
    let placed = had_written s t loose left headers step s0 may name stays there objects same s0 s1 (c.place_new.ensures.any_moment told) first in
    placed s1.directory ((g.met.D.Disk g.world.𝓛 g.world.𝓜 g.world.𝓡 ((λ s x. x), (λ x. x), (λ x. x), λ x. x)).itself told c.place_new.new.disk)

pub returns-in-Err-Failed-clause-stays : goal.returns-in-Err-Failed-clause-stays
returns-in-Err-Failed-clause-stays g c = λ told s t loose left may name stays there.
    let s0 = g.D.Disk.seen c.args.disk.now in
    let headers = c.args.headers.items in
    let step = c.args.step.now in
    let objects = c.deref.result.now in
    let same = c.deref.ensures.value in
    let s1 = g.D.Disk.seen c.place_new.new.disk in
    let first = had_first s t loose left headers step s0 may name stays there in
    let placed = had_written s t loose left headers step s0 may name stays there objects same s0 s1 (c.place_new.ensures.any_moment told) first in
    let s2 = g.D.Disk.seen c.exchange.new.disk in
    let switched = had_switched s t loose left headers step s0 may name stays there s1 s2 (c.exchange.ensures.any_moment told) placed in
    switched s2.directory ((g.met.D.Disk g.world.𝓛 g.world.𝓜 g.world.𝓡 ((λ s x. x), (λ x. x), (λ x. x), λ x. x)).itself told c.exchange.new.disk)

pub returns-in_err-clear-in-Ok-clause-stays : goal.returns-in_err-clear-in-Ok-clause-stays
returns-in_err-clear-in-Ok-clause-stays g c = λ told s t loose left may name stays there.
    let s0 = g.D.Disk.seen c.args.disk.now in
    let headers = c.args.headers.items in
    let step = c.args.step.now in
    let objects = c.deref.result.now in
    let same = c.deref.ensures.value in
    let s1 = g.D.Disk.seen c.place_new.new.disk in
    let first = had_first s t loose left headers step s0 may name stays there in
    let placed = had_written s t loose left headers step s0 may name stays there objects same s0 s1 (c.place_new.ensures.any_moment told) first in
    let s2 = g.D.Disk.seen c.exchange.new.disk in
    let switched = had_switched s t loose left headers step s0 may name stays there s1 s2 (c.exchange.ensures.any_moment told) placed in
    let s3 = g.D.Disk.seen c.clear.new.disk in
    let cleared = had_cleared s t loose left headers step s0 may name stays there c.deref-in-Ok.result.now c.deref-in-Ok.ensures.value s2 s3 (c.clear.ensures.any_moment told) switched in
    cleared s3.directory ((g.met.D.Disk g.world.𝓛 g.world.𝓜 g.world.𝓡 ((λ s x. x), (λ x. x), (λ x. x), λ x. x)).itself told c.clear.new.disk)

pub returns-in_ok-clear-in-Ok-clause-stays : goal.returns-in_ok-clear-in-Ok-clause-stays
returns-in_ok-clear-in-Ok-clause-stays g c = λ told s t loose left may name stays there.
    let s0 = g.D.Disk.seen c.args.disk.now in
    let headers = c.args.headers.items in
    let step = c.args.step.now in
    let objects = c.deref.result.now in
    let same = c.deref.ensures.value in
    let s1 = g.D.Disk.seen c.place_new.new.disk in
    let first = had_first s t loose left headers step s0 may name stays there in
    let placed = had_written s t loose left headers step s0 may name stays there objects same s0 s1 (c.place_new.ensures.any_moment told) first in
    let s2 = g.D.Disk.seen c.exchange.new.disk in
    let switched = had_switched s t loose left headers step s0 may name stays there s1 s2 (c.exchange.ensures.any_moment told) placed in
    let s3 = g.D.Disk.seen c.clear.new.disk in
    let cleared = had_cleared s t loose left headers step s0 may name stays there c.deref-in-Ok.result.now c.deref-in-Ok.ensures.value s2 s3 (c.clear.ensures.any_moment told) switched in
    cleared s3.directory ((g.met.D.Disk g.world.𝓛 g.world.𝓜 g.world.𝓡 ((λ s x. x), (λ x. x), (λ x. x), λ x. x)).itself told c.clear.new.disk)

pub returns-in_err-take_back-in-Err-NoMemory-clause-stays : goal.returns-in_err-take_back-in-Err-NoMemory-clause-stays
returns-in_err-take_back-in-Err-NoMemory-clause-stays g c = λ told s t loose left may name stays there.
    let s0 = g.D.Disk.seen c.args.disk.now in
    let headers = c.args.headers.items in
    let step = c.args.step.now in
    let objects = c.deref.result.now in
    let same = c.deref.ensures.value in
    let s1 = g.D.Disk.seen c.place_new.new.disk in
    let first = had_first s t loose left headers step s0 may name stays there in
    let placed = had_written s t loose left headers step s0 may name stays there objects same s0 s1 (c.place_new.ensures.any_moment told) first in
    let s2 = g.D.Disk.seen c.exchange.new.disk in
    let switched = had_switched s t loose left headers step s0 may name stays there s1 s2 (c.exchange.ensures.any_moment told) placed in
    let s3 = g.D.Disk.seen c.take_back.new.disk in
    let as_placed = c.deref-in-Err-NoMemory.ensures.value ∙ sym same in
    let removing = subst (λ l. Leads (IsCleared (map name_of l)) s2 s3) as_placed (c.take_back.ensures.any_moment told) in
    let back = had_taken_back s t loose left headers step s0 may name stays there objects same s2 s3 removing switched in
    back s3.directory ((g.met.D.Disk g.world.𝓛 g.world.𝓜 g.world.𝓡 ((λ s x. x), (λ x. x), (λ x. x), λ x. x)).itself told c.take_back.new.disk)

pub returns-in_ok-take_back-in-Err-NoMemory-clause-stays : goal.returns-in_ok-take_back-in-Err-NoMemory-clause-stays
returns-in_ok-take_back-in-Err-NoMemory-clause-stays g c = λ told s t loose left may name stays there.
    let s0 = g.D.Disk.seen c.args.disk.now in
    let headers = c.args.headers.items in
    let step = c.args.step.now in
    let objects = c.deref.result.now in
    let same = c.deref.ensures.value in
    let s1 = g.D.Disk.seen c.place_new.new.disk in
    let first = had_first s t loose left headers step s0 may name stays there in
    let placed = had_written s t loose left headers step s0 may name stays there objects same s0 s1 (c.place_new.ensures.any_moment told) first in
    let s2 = g.D.Disk.seen c.exchange.new.disk in
    let switched = had_switched s t loose left headers step s0 may name stays there s1 s2 (c.exchange.ensures.any_moment told) placed in
    let s3 = g.D.Disk.seen c.take_back.new.disk in
    let as_placed = c.deref-in-Err-NoMemory.ensures.value ∙ sym same in
    let removing = subst (λ l. Leads (IsCleared (map name_of l)) s2 s3) as_placed (c.take_back.ensures.any_moment told) in
    let back = had_taken_back s t loose left headers step s0 may name stays there objects same s2 s3 removing switched in
    back s3.directory ((g.met.D.Disk g.world.𝓛 g.world.𝓜 g.world.𝓡 ((λ s x. x), (λ x. x), (λ x. x), λ x. x)).itself told c.take_back.new.disk)
