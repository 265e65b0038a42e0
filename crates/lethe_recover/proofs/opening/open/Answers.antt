use Rattle.std.proofs.Common.{◌≡◌, ◌≤◌, ◌+◌, ◌⊎◌, inl, ℕ, None, sym, subst, arith}
use Rattle.std.specs.Prelude.{IfErr, IfOk, MatchResult}
use Rattle.lethe_disk.proofs.Going.{goes_quiet, goes_then, goes_weaker}
use Rattle.lethe_disk.proofs.Quieting.{quiet_call, quiet_then}
use Rattle.lethe_stored.specs.Kept.{IsKept}
use Rattle.lethe_stored.specs.Numbers.{IsNextNumber}
use Rattle.lethe_stored.proofs.Numbers.{pace_then}
use Rattle.lethe_load.specs.Refused.{HasReason}
use Rattle.lethe_recover.specs.Opening.{IsOpened, IsResumed, IsKeptInOpening, MayNotOpen, IsCut, since_start}
use Rattle.lethe_flush.proofs.Results.{ok_weaker}
use Rattle.lethe_recover.proofs.Results.{err_weaker}
use Rattle.lethe_recover.proofs.Resumed.{same_may, AsKept, from_left, from_kept, quiet_pace}
use Rattle.lethe_recover.proofs.opening.open.Goals as goal

pub returns-in-Ok-clause-opened : goal.returns-in-Ok-clause-opened
returns-in-Ok-clause-opened g c = λ told.
    subst (λ d. IfOk c.open_synced.result (λ opened. IsOpened c.args.config.now d (g.D.Disk.seen c.open_synced.new.disk) opened)) (c.sync.ensures.directory told) (c.open_synced.ensures.opened told)

pub returns-in-Ok-clause-resumed : goal.returns-in-Ok-clause-resumed
returns-in-Ok-clause-resumed g c = λ told kept h change left.
    let s1 = g.D.Disk.seen c.sync.new.self in
    let s2 = g.D.Disk.seen c.open_synced.new.disk in
    let config = c.args.config.now in
    let now = left.now in
    let same = c.sync.ensures.directory told in
    let k : IsKept kept s1.directory now.0 = subst (λ x. IsKept kept x now.0) (sym same) now.2 in
    subst (λ d. IfOk c.open_synced.result (λ opened. IsResumed config h change d s2 opened)) same
    (ok_weaker c.open_synced.result (λ opened. IsResumed config now.0 None s1.directory s2 opened) (λ opened. IsResumed config h change s1.directory s2 opened) (c.open_synced.ensures.resumed told kept now.0 k) (from_left config s2 h now.0 change now.1 s1.directory))

pub returns-in-Ok-clause-any_moment : goal.returns-in-Ok-clause-any_moment
returns-in-Ok-clause-any_moment g c = λ told kept h change left.
    let s0 = g.D.Disk.seen c.args.disk.now in
    let s1 = g.D.Disk.seen c.sync.new.self in
    let s2 = g.D.Disk.seen c.open_synced.new.disk in
    let config = c.args.config.now in
    let now = left.now in
    let same = c.sync.ensures.directory told in
    let k : IsKept kept s1.directory now.0 = subst (λ x. IsKept kept x now.0) (sym same) now.2 in
    let P = IsKeptInOpening kept config h change s0.directory in
    goes_then P s0 s1 s2
    (goes_quiet P s0 s1 (quiet_call c.sync.result s0 s1 (c.sync.ensures.call told) same) (λ x here. inl (left.images x here)))
    (goes_weaker (AsKept config s1.directory) P s1 s2 (λ x as_kept. from_kept kept config h now.0 change now.1 s1.directory s0.directory same x (as_kept kept now.0 k)) (c.open_synced.ensures.any_moment told))

pub returns-in-Err-clause-any_moment : goal.returns-in-Err-clause-any_moment
returns-in-Err-clause-any_moment g c = λ told kept h change left.
    let s0 = g.D.Disk.seen c.args.disk.now in
    goes_quiet (IsKeptInOpening kept c.args.config.now h change s0.directory) s0 (g.D.Disk.seen c.sync.new.self) (quiet_call c.sync.result s0 (g.D.Disk.seen c.sync.new.self) (c.sync.ensures.call told) (c.sync.ensures.directory told)) (λ x here. inl (left.images x here))

pub returns-in-Ok-clause-refused : goal.returns-in-Ok-clause-refused
returns-in-Ok-clause-refused g c =
    let d = (g.D.Disk.seen c.args.disk.now).directory in
    let s1 = g.D.Disk.seen c.sync.new.self in
    let config = c.args.config.now in
    let now = g.D.Disk.faults c.open_synced.new.disk in
    let before = c.faults-before.result in
    subst (λ b. IfErr c.open_synced.result (MayNotOpen g.D.Disk.tells config d b now)) c.faults-before.ensures
    (err_weaker c.open_synced.result (MayNotOpen g.D.Disk.tells config s1.directory before now) (MayNotOpen g.D.Disk.tells config d before now) c.open_synced.ensures.refused
    (same_may g.D.Disk.tells config s1.directory d before now (λ told. c.sync.ensures.directory told)))

pub returns-in-Ok-clause-exact : goal.returns-in-Ok-clause-exact
returns-in-Ok-clause-exact g c = λ told why reason.
    let config = c.args.config.now in
    let now = g.D.Disk.faults c.open_synced.new.disk in
    subst (λ b. MatchResult c.open_synced.result (λ opened. ⊥) (λ x. (x ≡ since_start b why) ⊎ IsCut ⊥ b now x)) c.faults-before.ensures
    (c.open_synced.ensures.exact told why (subst (λ d. HasReason config d why) (sym (c.sync.ensures.directory told)) reason))

pub returns-in-Ok-clause-untouched : goal.returns-in-Ok-clause-untouched
returns-in-Ok-clause-untouched g c = λ told why reason.
    let s0 = g.D.Disk.seen c.args.disk.now in
    let s1 = g.D.Disk.seen c.sync.new.self in
    let s2 = g.D.Disk.seen c.open_synced.new.disk in
    let config = c.args.config.now in
    quiet_then s0 s1 s2 (quiet_call c.sync.result s0 s1 (c.sync.ensures.call told) (c.sync.ensures.directory told))
    (c.open_synced.ensures.untouched told why (subst (λ d. HasReason config d why) (sym (c.sync.ensures.directory told)) reason))

pub returns-in-Err-clause-untouched : goal.returns-in-Err-clause-untouched
returns-in-Err-clause-untouched g c = λ told why reason.
    quiet_call c.sync.result (g.D.Disk.seen c.args.disk.now) (g.D.Disk.seen c.sync.new.self) (c.sync.ensures.call told) (c.sync.ensures.directory told)

pub returns-in-Ok-clause-exhausted : goal.returns-in-Ok-clause-exhausted
returns-in-Ok-clause-exhausted g c = λ told last is.
    let s0 = g.D.Disk.seen c.args.disk.now in
    let s1 = g.D.Disk.seen c.sync.new.self in
    let s2 = g.D.Disk.seen c.open_synced.new.disk in
    let call = c.in-Ok.ensures.call told in
    let more = call.counted in
    let quiet = c.open_synced.ensures.exhausted told last is in
    let later = quiet.any_moment.later in
    (quiet_then s0 s1 s2 (quiet_call c.sync.result s0 s1 (c.sync.ensures.call told) (c.sync.ensures.directory told)) quiet, omega (arith, more, later))

pub returns-in-Ok-clause-numbers : goal.returns-in-Ok-clause-numbers
returns-in-Ok-clause-numbers g c = λ told.
    let s0 = g.D.Disk.seen c.args.disk.now in
    let s1 = g.D.Disk.seen c.sync.new.self in
    let s2 = g.D.Disk.seen c.open_synced.new.disk in
    let later = (c.sync.ensures.call told).later in
    ok_weaker c.open_synced.result (λ opened. (next : ℕ) → IsNextNumber s1.directory next → opened.manifest.next + s1.moment ≤ next + s2.moment) (λ opened. (next : ℕ) → IsNextNumber s0.directory next → opened.manifest.next + s0.moment ≤ next + s2.moment)
    (c.open_synced.ensures.numbers told) (λ opened bound next is. let here = bound next (subst (λ d. IsNextNumber d next) (sym (c.sync.ensures.directory told)) is) in omega (arith, here, later))

pub returns-in-Err-clause-pace : goal.returns-in-Err-clause-pace
returns-in-Err-clause-pace g c = λ told first before.
    let s0 = g.D.Disk.seen c.args.disk.now in
    let s1 = g.D.Disk.seen c.sync.new.self in
    quiet_pace first s0.moment s0 s1 (omega arith) (quiet_call c.sync.result s0 s1 (c.sync.ensures.call told) (c.sync.ensures.directory told)) before

pub returns-in-Ok-clause-pace : goal.returns-in-Ok-clause-pace
returns-in-Ok-clause-pace g c = λ told first before.
    let s0 = g.D.Disk.seen c.args.disk.now in
    let s1 = g.D.Disk.seen c.sync.new.self in
    let s2 = g.D.Disk.seen c.open_synced.new.disk in
    let quiet = quiet_call c.sync.result s0 s1 (c.sync.ensures.call told) (c.sync.ensures.directory told) in
    let later = quiet.any_moment.later in
    pace_then (AsKept c.args.config.now s1.directory) first s0.moment s0.moment first s1 s2 (quiet_pace first s0.moment s0 s1 (omega arith) quiet before) (c.open_synced.ensures.any_moment told) (omega (arith, later))
    (c.open_synced.ensures.pace told first (quiet_pace first s1.moment s0 s1 later quiet before))
