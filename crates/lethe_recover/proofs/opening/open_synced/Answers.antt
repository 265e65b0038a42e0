use Rattle.std.proofs.Common.{◌≡◌, ◌≤◌, ◌+◌, ◌⊎◌, inl, inr, ℕ, [], None, refl, sym, ap, subst, ◌∙◌, arith}
use Rattle.std.proofs.lemmas.List.{length-map}
use Rattle.lethe_base.specs.History.{History}
use Rattle.lethe_disk.proofs.Going.{goes_then, goes_weaker}
use Rattle.lethe_manifest.specs.declared.manifest.Manifest.{Manifest}
use Rattle.lethe_stored.specs.Kept.{IsFor, IsKept}
use Rattle.lethe_stored.specs.Numbers.{IsNextNumber}
use Rattle.lethe_stored.proofs.Numbers.{next_of, next_of_none, pace_then}
use Rattle.lethe_advance.specs.Shown.{parts_in}
use Rattle.lethe_load.specs.Loaded.{shown}
use Rattle.lethe_recover.specs.Flushing.{IsShort}
use Rattle.lethe_recover.specs.Journals.{erases_of}
use Rattle.lethe_recover.specs.New.{new_stored}
use Rattle.lethe_recover.specs.Opening.{IsOpened, IsResumed, IsSpellable, MayNotOpen, IsCut, since_start}
use Rattle.lethe_recover.specs.Resuming.{IsThere, IsReopened}
use Rattle.lethe_flush.proofs.Results.{ok_weaker}
use Rattle.lethe_recover.proofs.Results.{err_weaker}
use Rattle.lethe_recover.proofs.Resumed.{since_may, since_exact, cut_may, new_opened, new_resumed, kept_of_none, kept_for, kept_config, opened_from, resumed_from, read_some, read_none, manifest_of, loaded_as, exhausted_of, settled_again, AsKept, still_kept, kept_goes, quiet_pace, spelled_some, cited_long}
use Rattle.lethe_recover.proofs.opening.open_synced.Goals as goal

pub returns-in-Err-clause-any_moment : goal.returns-in-Err-clause-any_moment
returns-in-Err-clause-any_moment g c = λ told. kept_goes c.args.config.now (g.D.Disk.seen c.args.disk.now) (g.D.Disk.seen c.load.new.disk) (c.load.ensures.quiet told) (c.requires.synced told)

pub returns-in-Err-clause-refused : goal.returns-in-Err-clause-refused
returns-in-Err-clause-refused g c =
    let d = (g.D.Disk.seen c.args.disk.now).directory in
    let now = g.D.Disk.faults c.load.new.disk in
    subst (MayNotOpen g.D.Disk.tells c.args.config.now d c.args.before now) (sym c.since_start.ensures)
    (since_may g.D.Disk.tells c.args.config.now d c.args.before (g.D.Disk.faults c.args.disk.now) now c.in-Err.why c.requires.before c.in-Err.ensures.refused)

pub returns-in-Err-clause-exact : goal.returns-in-Err-clause-exact
returns-in-Err-clause-exact g c = λ told why reason.
    let now = g.D.Disk.faults c.load.new.disk in
    subst (λ x. (x ≡ since_start c.args.before why) ⊎ IsCut ⊥ c.args.before now x) (sym c.since_start.ensures)
    (since_exact c.args.before (g.D.Disk.faults c.args.disk.now) now c.in-Err.why why c.requires.before (c.in-Err.ensures.exact told why reason))

pub returns-in-Err-clause-untouched : goal.returns-in-Err-clause-untouched
returns-in-Err-clause-untouched g c = λ told why reason. c.load.ensures.quiet told

pub returns-in-None-clause-opened : goal.returns-in-None-clause-opened
returns-in-None-clause-opened g c = λ told.
    let d = (g.D.Disk.seen c.args.disk.now).directory in
    let config = c.args.config.now in
    let s2 = g.D.Disk.seen c.start.new.disk in
    let none = read_none config d (shown c.in-Ok.read) c.in-None.is (c.in-Ok.ensures.found told) in
    ok_weaker c.start.result (λ opened. IsThere s2 (new_stored config) opened) (λ opened. IsOpened config d s2 opened) (c.start.ensures.there told) (new_opened config s2 d none)

pub returns-in-None-clause-resumed : goal.returns-in-None-clause-resumed
returns-in-None-clause-resumed g c = λ told kept h k.
    let d = (g.D.Disk.seen c.args.disk.now).directory in
    let config = c.args.config.now in
    let s2 = g.D.Disk.seen c.start.new.disk in
    let none = read_none config d (shown c.in-Ok.read) c.in-None.is (c.in-Ok.ensures.found told) in
    ok_weaker c.start.result (λ opened. IsThere s2 (new_stored config) opened) (λ opened. IsResumed config h None d s2 opened) (c.start.ensures.there told) (λ opened there. new_resumed config s2 h d opened none (kept_of_none kept d h none k) there)

pub returns-in-None-clause-any_moment : goal.returns-in-None-clause-any_moment
returns-in-None-clause-any_moment g c = λ told.
    let s0 = g.D.Disk.seen c.args.disk.now in
    let s1 = g.D.Disk.seen c.load.new.disk in
    let s2 = g.D.Disk.seen c.start.new.disk in
    let config = c.args.config.now in
    let none = read_none config s0.directory (shown c.in-Ok.read) c.in-None.is (c.in-Ok.ensures.found told) in
    let P = AsKept config s0.directory in
    goes_then P s0 s1 s2 (kept_goes config s0 s1 (c.load.ensures.quiet told) (c.requires.synced told))
    (goes_weaker (λ x. IsKept config x []) P s1 s2 (λ x new kept h k. inr (none, new)) (c.start.ensures.any_moment told))

pub returns-in-None-clause-exact : goal.returns-in-None-clause-exact
returns-in-None-clause-exact g c = λ told why reason. absurd (c.in-Ok.ensures.exact told why reason)

pub returns-in-None-clause-untouched : goal.returns-in-None-clause-untouched
returns-in-None-clause-untouched g c = λ told why reason. absurd (c.in-Ok.ensures.exact told why reason)

pub returns-in-None-clause-numbers : goal.returns-in-None-clause-numbers
returns-in-None-clause-numbers g c = λ told.
    let s0 = g.D.Disk.seen c.args.disk.now in
    let s1 = g.D.Disk.seen c.load.new.disk in
    let s2 = g.D.Disk.seen c.start.new.disk in
    let none = read_none c.args.config.now s0.directory (shown c.in-Ok.read) c.in-None.is (c.in-Ok.ensures.found told) in
    let quiet = (c.load.ensures.quiet told).any_moment.later in
    let later = (c.start.ensures.any_moment told).later in
    ok_weaker c.start.result (λ opened. opened.manifest.next ≡ 3) (λ opened. (next : ℕ) → IsNextNumber s0.directory next → opened.manifest.next + s0.moment ≤ next + s2.moment) c.start.ensures.next
    (λ opened first next is. let here = next_of_none s0.directory next none is in omega (arith, here, first, quiet, later))

pub resume-requires-clause-listed : goal.resume-requires-clause-listed
resume-requires-clause-listed g c κs within = λ told. c.deref.ensures.value ∙ c.in-Ok.ensures.listed told

pub resume-requires-clause-spelled : goal.resume-requires-clause-spelled
resume-requires-clause-spelled g c κs within = (spelled_some c.args.config.now (shown c.in-Ok.read) c.in-Some.manifest c.in-Some.is c.in-Ok.ensures.spelled).spelled

pub resume-requires-clause-older : goal.resume-requires-clause-older
resume-requires-clause-older g c κs within = (c.of-journal.ensures.ascends (spelled_some c.args.config.now (shown c.in-Ok.read) c.in-Some.manifest c.in-Some.is c.in-Ok.ensures.spelled).ascends).0

pub resume-requires-clause-newer : goal.resume-requires-clause-newer
resume-requires-clause-newer g c κs within = (c.of-journal.ensures.ascends (spelled_some c.args.config.now (shown c.in-Ok.read) c.in-Some.manifest c.in-Some.is c.in-Ok.ensures.spelled).ascends).1

pub resume-requires-clause-cited : goal.resume-requires-clause-cited
resume-requires-clause-cited g c κs within =
    let config = c.args.config.now in
    let m = c.in-Some.manifest in
    cited_long config (shown c.in-Ok.read) m (spelled_some config (shown c.in-Ok.read) m c.in-Some.is c.in-Ok.ensures.spelled) ∙ length-map c.in-Ok.read.files.items parts_in

pub resume-requires-clause-settled : goal.resume-requires-clause-settled
resume-requires-clause-settled g c κs within = λ told.
    let s0 = g.D.Disk.seen c.args.disk.now in
    let s1 = g.D.Disk.seen c.load.new.disk in
    let d = s0.directory in
    let m = c.in-Some.manifest in
    let config = c.args.config.now in
    let read = shown c.in-Ok.read in
    let there = read_some config d read m c.in-Some.is (c.in-Ok.ensures.found told) in
    (there.s, settled_again s0 s1 (c.load.ensures.quiet told) (c.requires.synced told) there.s there.coherent there.encodes, loaded_as config d read there m c.in-Some.is c.of-journal.result c.of-journal.ensures.is)

pub returns-in-Some-clause-opened : goal.returns-in-Some-clause-opened
returns-in-Some-clause-opened g c = λ told.
    let s0 = g.D.Disk.seen c.args.disk.now in
    let s1 = g.D.Disk.seen c.load.new.disk in
    let s2 = g.D.Disk.seen c.resume.new.disk in
    let d = s0.directory in
    let m = c.in-Some.manifest in
    let config = c.args.config.now in
    let read = shown c.in-Ok.read in
    let there = read_some config d read m c.in-Some.is (c.in-Ok.ensures.found told) in
    let settled = settled_again s0 s1 (c.load.ensures.quiet told) (c.requires.synced told) there.s there.coherent there.encodes in
    let loaded = loaded_as config d read there m c.in-Some.is c.of-journal.result c.of-journal.ensures.is in
    ok_weaker c.resume.result (λ opened. IsReopened there.s s2 opened) (λ opened. IsOpened config d s2 opened) (c.resume.ensures.there told there.s settled loaded) (λ opened again. opened_from config s2 d there.s opened there.coherent there.encodes there.config_is again)

pub returns-in-Some-clause-resumed : goal.returns-in-Some-clause-resumed
returns-in-Some-clause-resumed g c = λ told kept h k.
    let s0 = g.D.Disk.seen c.args.disk.now in
    let s1 = g.D.Disk.seen c.load.new.disk in
    let s2 = g.D.Disk.seen c.resume.new.disk in
    let d = s0.directory in
    let m = c.in-Some.manifest in
    let config = c.args.config.now in
    let read = shown c.in-Ok.read in
    let there = read_some config d read m c.in-Some.is (c.in-Ok.ensures.found told) in
    let settled = settled_again s0 s1 (c.load.ensures.quiet told) (c.requires.synced told) there.s there.coherent there.encodes in
    let loaded = loaded_as config d read there m c.in-Some.is c.of-journal.result c.of-journal.ensures.is in
    let stands = kept_for kept d h there.s there.coherent there.encodes k in
    ok_weaker c.resume.result (λ opened. IsReopened there.s s2 opened) (λ opened. IsResumed config h None d s2 opened) (c.resume.ensures.there told there.s settled loaded) (λ opened again. resumed_from config s2 h d there.s opened there.coherent there.encodes there.config_is stands again)

pub returns-in-Some-clause-any_moment : goal.returns-in-Some-clause-any_moment
returns-in-Some-clause-any_moment g c = λ told.
    let s0 = g.D.Disk.seen c.args.disk.now in
    let s1 = g.D.Disk.seen c.load.new.disk in
    let s2 = g.D.Disk.seen c.resume.new.disk in
    let d = s0.directory in
    let m = c.in-Some.manifest in
    let config = c.args.config.now in
    let read = shown c.in-Ok.read in
    let there = read_some config d read m c.in-Some.is (c.in-Ok.ensures.found told) in
    let settled = settled_again s0 s1 (c.load.ensures.quiet told) (c.requires.synced told) there.s there.coherent there.encodes in
    let loaded = loaded_as config d read there m c.in-Some.is c.of-journal.result c.of-journal.ensures.is in
    let P = AsKept config d in
    goes_then P s0 s1 s2 (kept_goes config s0 s1 (c.load.ensures.quiet told) (c.requires.synced told))
    (goes_weaker (λ x. (h : History) → IsFor h there.s → IsKept there.s.manifest.config x h) P s1 s2
    (λ x now kept h k. still_kept kept config h d x
    (subst (λ fields. IsKept fields x h) (kept_config kept d h there.s there.coherent there.encodes k) (now h (kept_for kept d h there.s there.coherent there.encodes k))))
    (c.resume.ensures.any_moment told there.s settled loaded))

pub returns-in-Some-clause-spelled : goal.returns-in-Some-clause-spelled
returns-in-Some-clause-spelled g c =
    let config = c.args.config.now in
    let m = c.in-Some.manifest in
    let spelled = spelled_some config (shown c.in-Ok.read) m c.in-Some.is c.in-Ok.ensures.spelled in
    ok_weaker c.resume.result (λ opened. IsSpellable m.config opened) (λ opened. IsSpellable config opened) c.resume.ensures.spelled (λ opened is. subst (λ fields. IsSpellable fields opened) spelled.config_is is)

pub returns-in-Some-clause-refused : goal.returns-in-Some-clause-refused
returns-in-Some-clause-refused g c =
    let d = (g.D.Disk.seen c.args.disk.now).directory in
    let m = c.in-Some.manifest in
    let config = c.args.config.now in
    let read = shown c.in-Ok.read in
    let journal = c.of-journal.result in
    let now = g.D.Disk.faults c.resume.new.disk in
    let IsFull : Type 0 = IsShort m journal.older journal.newer (erases_of m journal) in
    err_weaker c.resume.result (IsCut IsFull c.args.before now) (MayNotOpen g.D.Disk.tells config d c.args.before now) c.resume.ensures.refused
    (cut_may g.D.Disk.tells IsFull config d c.args.before now (λ full told.
    exhausted_of config d read (read_some config d read m c.in-Some.is (c.in-Ok.ensures.found told)) m c.in-Some.is journal c.of-journal.ensures.is full))

pub returns-in-Some-clause-exact : goal.returns-in-Some-clause-exact
returns-in-Some-clause-exact g c = λ told why reason. absurd (c.in-Ok.ensures.exact told why reason)

pub returns-in-Some-clause-untouched : goal.returns-in-Some-clause-untouched
returns-in-Some-clause-untouched g c = λ told why reason. absurd (c.in-Ok.ensures.exact told why reason)

pub returns-in-Some-clause-numbers : goal.returns-in-Some-clause-numbers
returns-in-Some-clause-numbers g c = λ told.
    let s0 = g.D.Disk.seen c.args.disk.now in
    let s1 = g.D.Disk.seen c.load.new.disk in
    let s2 = g.D.Disk.seen c.resume.new.disk in
    let d = s0.directory in
    let m = c.in-Some.manifest in
    let config = c.args.config.now in
    let read = shown c.in-Ok.read in
    let there = read_some config d read m c.in-Some.is (c.in-Ok.ensures.found told) in
    let own : there.s.manifest.next ≡ m.next = ap (λ (x : Manifest). x.next) (manifest_of config d read there m c.in-Some.is c.of-journal.result c.of-journal.ensures.is) in
    let quiet = (c.load.ensures.quiet told).any_moment.later in
    ok_weaker c.resume.result (λ opened. opened.manifest.next + s1.moment ≤ m.next + s2.moment) (λ opened. (next : ℕ) → IsNextNumber d next → opened.manifest.next + s0.moment ≤ next + s2.moment) (c.resume.ensures.numbers told)
    (λ opened bound next is. let here = next_of d there.s next there.coherent there.encodes is in omega (arith, here, own, bound, quiet))

pub returns-in-Err-clause-pace : goal.returns-in-Err-clause-pace
returns-in-Err-clause-pace g c = λ told first before.
    let s0 = g.D.Disk.seen c.args.disk.now in
    quiet_pace first s0.moment s0 (g.D.Disk.seen c.load.new.disk) (omega arith) (c.load.ensures.quiet told) before

pub returns-in-None-clause-pace : goal.returns-in-None-clause-pace
returns-in-None-clause-pace g c = λ told first before.
    let s0 = g.D.Disk.seen c.args.disk.now in
    let s1 = g.D.Disk.seen c.load.new.disk in
    let s2 = g.D.Disk.seen c.start.new.disk in
    let config = c.args.config.now in
    let quiet = c.load.ensures.quiet told in
    let none = read_none config s0.directory (shown c.in-Ok.read) c.in-None.is (c.in-Ok.ensures.found told) in
    let here = (g.met.D.Disk g.world.𝓛 g.world.𝓜 g.world.𝓡 ((λ s x. x), (λ x. x), (λ x. x), λ x. x)).itself told c.args.disk.now in
    let bound = before s0.moment s0.directory (omega arith) (omega arith) here 3 (inl (none, refl)) in
    let later = quiet.any_moment.later in
    pace_then (λ x. IsKept config x []) first s0.moment s0.moment 3 s1 s2 (quiet_pace first s0.moment s0 s1 (omega arith) quiet before) (c.start.ensures.any_moment told) (omega (arith, bound, later)) (c.start.ensures.pace told)

pub returns-in-Some-clause-pace : goal.returns-in-Some-clause-pace
returns-in-Some-clause-pace g c = λ told first before.
    let s0 = g.D.Disk.seen c.args.disk.now in
    let s1 = g.D.Disk.seen c.load.new.disk in
    let s2 = g.D.Disk.seen c.resume.new.disk in
    let d = s0.directory in
    let m = c.in-Some.manifest in
    let config = c.args.config.now in
    let read = shown c.in-Ok.read in
    let quiet = c.load.ensures.quiet told in
    let there = read_some config d read m c.in-Some.is (c.in-Ok.ensures.found told) in
    let settled = settled_again s0 s1 quiet (c.requires.synced told) there.s there.coherent there.encodes in
    let loaded = loaded_as config d read there m c.in-Some.is c.of-journal.result c.of-journal.ensures.is in
    let here = (g.met.D.Disk g.world.𝓛 g.world.𝓜 g.world.𝓡 ((λ s x. x), (λ x. x), (λ x. x), λ x. x)).itself told c.args.disk.now in
    let own = ap (λ (x : Manifest). x.next) loaded.manifest in
    let bound = before s0.moment d (omega arith) (omega arith) here there.s.manifest.next (inr (there.s, there.coherent, there.encodes, refl)) in
    let later = quiet.any_moment.later in
    pace_then (λ x. (h : History) → IsFor h there.s → IsKept there.s.manifest.config x h) first s0.moment s0.moment m.next s1 s2 (quiet_pace first s0.moment s0 s1 (omega arith) quiet before)
    (c.resume.ensures.any_moment told there.s settled loaded) (omega (arith, own, bound, later)) (c.resume.ensures.pace told there.s settled loaded)
