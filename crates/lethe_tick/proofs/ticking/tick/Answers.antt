use Rattle.std.proofs.Common.{rules, ◌≡◌, ◌≤◌, ◌<◌, ◌⊎◌, ◌+◌, inl, inr, ℕ, List, Option, Result, Err, sym, ap, ◌∙◌, subst, arith}
use Rattle.std.specs.Prelude.{All, IfErr}
use Rattle.std.specs.Result.{result_err}
use Rattle.std.proofs.lemmas.Result.{IfErr-weaker}
use Rattle.lethe_base.specs.Limits.{max_place}
use Rattle.lethe_base.specs.declared.call.Call.TheVariants.{Tick}
use Rattle.lethe_base.specs.declared.name.Name.{Name}
use Rattle.lethe_base.specs.declared.refused.Refused.{Refused}
use Rattle.lethe_cert.specs.declared.certificate.Certificate.{Certificate}
use Rattle.lethe_disk.proofs.Quieting.{on_ok}
use Rattle.lethe_follows.specs.Ticked.{ticked}
use Rattle.lethe_stored.specs.Left.{IsKeptOr}
use Rattle.lethe_stored.specs.Stored.{Stored}
use Rattle.lethe_stored.proofs.Numbers.{goes_from_then}
use Rattle.lethe_pins.specs.Held.{Held}
use Rattle.lethe_pins.specs.declared.pin.Pin.{Pin}
use Rattle.lethe_state.specs.Clock.{clock_of}
use Rattle.lethe_core.specs.Asked.{Makes, behind, clock_behind, counted, stopped_by, written_by}
use Rattle.lethe_core.specs.Merges.{AreOutcomesBy, Outcome, due_choice, pages_of}
use Rattle.lethe_core.specs.Pinned.{AreKept, AreNamed, AreRetiredFrom}
use Rattle.lethe_core.specs.Reasons.{HasReason, IsUnreadable}
use Rattle.lethe_core.specs.Running.{Holds}
use Rattle.lethe_core.specs.StandsNow.{StandsNow}
use Rattle.lethe_core.specs.Steps.{IsDoneInPart, IsUndone}
use Rattle.lethe_core.specs.View.{view_of}
use Rattle.lethe_core.proofs.Behind.{next_may, reason_behind}
use Rattle.lethe_core.proofs.Likes.{before_holds, jobs_same}
use Rattle.lethe_core.proofs.Standing.{moments_or, stands_holds}
use Rattle.lethe_tick.specs.Last.{HasLastStep}
use Rattle.lethe_tick.specs.Ripened.{IsRipened, IsShortToTick, IsTickedInPart}
use Rattle.lethe_tick.proofs.Buffers.{if_both, if_ok, reason_told}
use Rattle.lethe_tick.proofs.Last.{last_step}
use Rattle.lethe_tick.proofs.Ripe.{all_some, due_nothing, kept_twice, stands_then, time_forward}
use Rattle.lethe_tick.proofs.ticking.tick.Goals as goal

pub move_clock-requires-clause-may : goal.move_clock-requires-clause-may
move_clock-requires-clause-may g c κs within = next_may g.D.Disk.tells (view_of c.args.core.now) (view_of c.ripen_store.new.core) c.args.before c.requires.may c.in_ok-ripen_store.ensures.keeps

pub move_clock-requires-clause-passes : goal.move_clock-requires-clause-passes
move_clock-requires-clause-passes g c κs within = subst (λ (held : Held). All (λ (pin : Pin). c.args.to < pin.limit) held.pins) (sym c.in_ok-ripen_store.ensures.keeps.pins) c.requires.passes

-- What is due could not be done

pub returns-in_err-ripen_store-clause-count : goal.returns-in_err-ripen_store-clause-count
returns-in_err-ripen_store-clause-count g c =
    let old = view_of c.args.core.now in
    let new = view_of c.ripen_store.new.core in
    let why = c.in_err-ripen_store.field-0.0 in
    let refusal : c.from_residual.result ≡ Err why = search rules in
    subst (λ (r : Result (Option Certificate) Refused). new.state.count ≡ counted (Makes (Tick c.args.to)) (result_err r) old.state.count) (sym refusal) c.in_err-ripen_store.ensures.keeps.count

pub returns-in_err-ripen_store-clause-stopped : goal.returns-in_err-ripen_store-clause-stopped
returns-in_err-ripen_store-clause-stopped g c =
    let old = view_of c.args.core.now in
    let new = view_of c.ripen_store.new.core in
    let why = c.in_err-ripen_store.field-0.0 in
    let refusal : c.from_residual.result ≡ Err why = search rules in
    subst (λ (r : Result (Option Certificate) Refused). new.state.stopped ≡ stopped_by (result_err r) old.state.stopped) (sym refusal) c.in_err-ripen_store.ensures.keeps.stopped

pub returns-in_err-ripen_store-clause-clock : goal.returns-in_err-ripen_store-clause-clock
returns-in_err-ripen_store-clause-clock g c =
    let old = view_of c.args.core.now in
    let new = view_of c.ripen_store.new.core in
    let why = c.in_err-ripen_store.field-0.0 in
    let refusal : c.from_residual.result ≡ Err why = search rules in
    subst (λ (r : Result (Option Certificate) Refused). clock_of new.state.manifest ≡ clock_behind (Makes (Tick c.args.to)) (result_err r) (clock_of old.state.manifest)) (sym refusal) c.in_err-ripen_store.ensures.keeps.clock

pub returns-in_err-ripen_store-clause-stands : goal.returns-in_err-ripen_store-clause-stands
returns-in_err-ripen_store-clause-stands g c = λ told config h stands caller.
    let new = view_of c.ripen_store.new.core in
    let why = c.in_err-ripen_store.field-0.0 in
    let refusal : c.from_residual.result ≡ Err why = search rules in
    subst (λ (r : Result (Option Certificate) Refused). StandsNow config (behind h caller (Makes (Tick c.args.to)) (result_err r)) new) (sym refusal)
    (c.in_err-ripen_store.ensures.keeps.stands told config h stands caller (Tick c.args.to))

pub returns-in_err-ripen_store-clause-any_moment : goal.returns-in_err-ripen_store-clause-any_moment
returns-in_err-ripen_store-clause-any_moment g c = λ told config h stands caller.
    let old = view_of c.args.core.now in
    let new = view_of c.ripen_store.new.core in
    moments_or config h (written_by caller (Makes (Tick c.args.to)) (result_err c.from_residual.result)) old.state.next old.disk new.disk (c.in_err-ripen_store.ensures.keeps.any_moment told config h stands)

pub returns-in_err-ripen_store-clause-partly : goal.returns-in_err-ripen_store-clause-partly
returns-in_err-ripen_store-clause-partly g c =
    let why = c.in_err-ripen_store.field-0.0 in
    let refusal : c.from_residual.result ≡ Err why = search rules in
    subst (λ (r : Result (Option Certificate) Refused). IfErr r (IsDoneInPart g.D.Disk.tells (IsTickedInPart c.args.to) (view_of c.args.core.now) (view_of c.ripen_store.new.core))) (sym refusal) c.in_err-ripen_store.ensures.partly

pub returns-in_err-ripen_store-clause-drawn : goal.returns-in_err-ripen_store-clause-drawn
returns-in_err-ripen_store-clause-drawn g c = c.in_err-ripen_store.ensures.keeps.drawn

pub returns-in_err-ripen_store-clause-retired : goal.returns-in_err-ripen_store-clause-retired
returns-in_err-ripen_store-clause-retired g c = c.in_err-ripen_store.ensures.keeps.retired

pub returns-in_err-ripen_store-clause-pins : goal.returns-in_err-ripen_store-clause-pins
returns-in_err-ripen_store-clause-pins g c = c.in_err-ripen_store.ensures.keeps.pins

pub returns-in_err-ripen_store-clause-pinned : goal.returns-in_err-ripen_store-clause-pinned
returns-in_err-ripen_store-clause-pinned g c = c.in_err-ripen_store.ensures.keeps.pinned

-- The clock

pub returns-clause-count : goal.returns-clause-count
returns-clause-count g c = c.move_clock.ensures.count ∙ ap (counted (Makes (Tick c.args.to)) (result_err c.move_clock.result)) c.in_ok-ripen_store.ensures.keeps.count

pub returns-clause-stopped : goal.returns-clause-stopped
returns-clause-stopped g c = c.move_clock.ensures.stopped ∙ ap (stopped_by (result_err c.move_clock.result)) c.in_ok-ripen_store.ensures.keeps.stopped

pub returns-clause-clock : goal.returns-clause-clock
returns-clause-clock g c = c.move_clock.ensures.clock ∙ ap (clock_behind (Makes (Tick c.args.to)) (result_err c.move_clock.result)) c.in_ok-ripen_store.ensures.keeps.clock

pub returns-clause-stands : goal.returns-clause-stands
returns-clause-stands g c = λ told config h stands caller.
    let old = view_of c.args.core.now in
    let mid = view_of c.ripen_store.new.core in
    let keeps = c.in_ok-ripen_store.ensures.keeps in
    let tells = g.D.Disk.tells in
    let done : tells → (s : Stored) → Holds old s → (ripe t : Stored) × (outcomes : List Outcome) × IsRipened c.args.to s ripe × AreOutcomesBy (due_choice c.args.to) ripe outcomes t × Holds mid t =
    λ told s holds. let is = c.in_ok-ripen_store.ensures.done told s holds in (is.0, is.1, is.2, is.3, is.4, is.5) in
    let may = c.requires.may in
    let forward = c.requires.forward in
    c.move_clock.ensures.stands told config h (stands_then tells old mid c.args.before c.args.to may forward keeps done told config h stands)
    (time_forward tells old mid c.args.before c.args.to may forward keeps done told config h stands) (due_nothing tells old mid c.args.before c.args.to may forward keeps done told config h stands) caller

pub returns-clause-any_moment : goal.returns-clause-any_moment
returns-clause-any_moment g c = λ told config h stands caller.
    let old = view_of c.args.core.now in
    let mid = view_of c.ripen_store.new.core in
    let new = view_of c.move_clock.new.core in
    let keeps = c.in_ok-ripen_store.ensures.keeps in
    let tells = g.D.Disk.tells in
    let done : tells → (s : Stored) → Holds old s → (ripe t : Stored) × (outcomes : List Outcome) × IsRipened c.args.to s ripe × AreOutcomesBy (due_choice c.args.to) ripe outcomes t × Holds mid t =
    λ told s holds. let is = c.in_ok-ripen_store.ensures.done told s holds in (is.0, is.1, is.2, is.3, is.4, is.5) in
    let may = c.requires.may in
    let forward = c.requires.forward in
    let change = written_by caller (Makes (Tick c.args.to)) (result_err c.move_clock.result) in
    goes_from_then (IsKeptOr config h change) old.state.next mid.state.next old.disk mid.disk new.disk (moments_or config h change old.state.next old.disk mid.disk (keeps.any_moment told config h stands)) (keeps.numbers told)
    (c.move_clock.ensures.any_moment told config h (stands_then tells old mid c.args.before c.args.to may forward keeps done told config h stands)
    (time_forward tells old mid c.args.before c.args.to may forward keeps done told config h stands) (due_nothing tells old mid c.args.before c.args.to may forward keeps done told config h stands) caller)

pub returns-clause-last_step : goal.returns-clause-last_step
returns-clause-last_step g c = λ told config h stands.
    let old = view_of c.args.core.now in
    let mid = view_of c.ripen_store.new.core in
    let new = view_of c.move_clock.new.core in
    let s = stands.stored in
    let tells = g.D.Disk.tells in
    let may = c.requires.may in
    let forward = c.requires.forward in
    let keeps = c.in_ok-ripen_store.ensures.keeps in
    let is = c.in_ok-ripen_store.ensures.done told s (stands_holds config h old stands may.runs) in
    let done : tells → (s : Stored) → Holds old s → (ripe t : Stored) × (outcomes : List Outcome) × IsRipened c.args.to s ripe × AreOutcomesBy (due_choice c.args.to) ripe outcomes t × Holds mid t =
    λ told s holds. let is = c.in_ok-ripen_store.ensures.done told s holds in (is.0, is.1, is.2, is.3, is.4, is.5) in
    let change = written_by 0 (Makes (Tick c.args.to)) (result_err c.move_clock.result) in
    let moved = c.move_clock.ensures.any_moment told config h (stands_then tells old mid c.args.before c.args.to may forward keeps done told config h stands)
    (time_forward tells old mid c.args.before c.args.to may forward keeps done told config h stands) (due_nothing tells old mid c.args.before c.args.to may forward keeps done told config h stands) 0 in
    on_ok c.move_clock.result (Holds new (ticked is.1 c.args.to mid.state.next))
    ((ripe t : Stored) × (outcomes : List Outcome) × IsRipened c.args.to s ripe × AreOutcomesBy (due_choice c.args.to) ripe outcomes t × HasLastStep config h t old.disk new.disk)
    (c.move_clock.ensures.done told is.1 is.5)
    (λ holds. (is.0, is.1, is.2, is.3, is.4, last_step config h is.1 mid old.disk new.disk (IsKeptOr config h change) is.5 (keeps.any_moment told config h stands).goes moved.goes))

pub returns-clause-done : goal.returns-clause-done
returns-clause-done g c = λ told s holds.
    let old = view_of c.args.core.now in
    let mid = view_of c.ripen_store.new.core in
    let new = view_of c.move_clock.new.core in
    let is = c.in_ok-ripen_store.ensures.done told s holds in
    let start = g.D.Disk.fetches c.args.port.now in
    let now = g.D.Disk.fetches c.ripen_store.new.port in
    on_ok c.move_clock.result (Holds new (ticked is.1 c.args.to mid.state.next))
    ((ripe t : Stored) × (outcomes : List Outcome) × (number : ℕ) × IsRipened c.args.to s ripe × AreOutcomesBy (due_choice c.args.to) ripe outcomes t × Holds new (ticked t c.args.to number)
    × (now ≡ start + pages_of outcomes))
    (c.move_clock.ensures.done told is.1 is.5)
    (λ holds. (is.0, is.1, is.2, mid.state.next, is.3, is.4, holds, is.6))

pub returns-clause-partly : goal.returns-clause-partly
returns-clause-partly g c =
    let old = view_of c.args.core.now in
    let mid = c.ripen_store.new.core in
    let new = c.move_clock.new.core in
    let same = jobs_same mid new c.move_clock.ensures.begun c.move_clock.ensures.flights c.move_clock.ensures.pins in
    IfErr-weaker c.move_clock.result (IsUndone g.D.Disk.tells (view_of mid) (view_of new)) (IsDoneInPart g.D.Disk.tells (IsTickedInPart c.args.to) old (view_of new))
    (λ why undone none told s holds.
    let is = c.in_ok-ripen_store.ensures.done told s holds in
    (is.1, inr (is.0, is.2, is.3, all_some (due_choice c.args.to) is.0 is.2 is.1 is.4), before_holds g.D.Disk.tells told (view_of mid) (view_of new) is.1 same c.move_clock.ensures.pins (undone none) is.5)) c.move_clock.ensures.undone

pub returns-clause-pins : goal.returns-clause-pins
returns-clause-pins g c = subst (λ (held : Held). c.move_clock.new.core.pins ≡ held) c.in_ok-ripen_store.ensures.keeps.pins c.move_clock.ensures.pins

pub returns-clause-pinned : goal.returns-clause-pinned
returns-clause-pinned g c = λ told.
    let old = view_of c.args.core.now in
    let d = old.disk.directory in
    let mid = (view_of c.ripen_store.new.core).disk.directory in
    let end = (view_of c.move_clock.new.core).disk.directory in
    let keeps = c.in_ok-ripen_store.ensures.keeps in
    kept_twice old.pins.pins d mid end (keeps.pinned told) (subst (λ (held : Held). AreKept held.pins mid end) keeps.pins (c.move_clock.ensures.pinned told))

pub returns-clause-named : goal.returns-clause-named
returns-clause-named g c =
    if_ok c.move_clock.result (AreNamed c.move_clock.new.core.pins.pins c.move_clock.new.core.retired.items) (subst (λ (held : Held). AreNamed held.pins c.move_clock.new.core.retired.items) (sym c.move_clock.ensures.pins)
    (subst (λ (names : List Name). AreNamed c.ripen_store.new.core.pins.pins names) (λ i. (sym c.move_clock.ensures.retired i).items) c.in_ok-ripen_store.ensures.named))

pub returns-clause-why : goal.returns-clause-why
returns-clause-why g c =
    let old = c.args.core.now.state in
    let mid = c.ripen_store.new.core in
    let new = view_of c.move_clock.new.core in
    let Short = IsShortToTick g.D.Disk.tells c.args.to new in
    let Unread = IsUnreadable g.D.Disk.tells g.D.Disk.ports_fail (g.D.Disk.port_faults c.args.port.now) (g.D.Disk.port_faults c.ripen_store.new.port) in
    let keeps = c.in_ok-ripen_store.ensures.keeps in
    if_both c.move_clock.result (IsUndone g.D.Disk.tells (view_of mid) new) (HasReason (max_place ≤ mid.state.next) mid.state c.args.before new.faults)
    (λ why. HasReason Short old c.args.before new.faults why ⊎ Unread why)
    (λ why undone reason. inl (reason_behind Short Short old mid.state c.args.before new.faults keeps.stopped keeps.count (λ short. short) why
    (reason_told (max_place ≤ mid.state.next) Short mid.state c.args.before new.faults why (λ none short. let next = (undone none).state.next in inr (inl (omega (arith, short, next)))) reason)))
    c.move_clock.ensures.undone c.move_clock.ensures.why

pub returns-clause-retired : goal.returns-clause-retired
returns-clause-retired g c =
    let old = view_of c.args.core.now in
    subst (λ (names : List Name). AreRetiredFrom old.pins.pins old.retired names) (λ i. (sym c.move_clock.ensures.retired i).items) c.in_ok-ripen_store.ensures.keeps.retired

pub returns-clause-drawn : goal.returns-clause-drawn
returns-clause-drawn g c = let early = c.in_ok-ripen_store.ensures.keeps.drawn in let late = c.move_clock.ensures.drawn in omega (arith, early, late)

pub returns-clause-numbers : goal.returns-clause-numbers
returns-clause-numbers g c = λ told. let early = c.in_ok-ripen_store.ensures.keeps.numbers told in let late = c.move_clock.ensures.numbers told in omega (arith, early, late)
