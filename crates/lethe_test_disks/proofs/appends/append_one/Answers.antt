use Rattle.std.proofs.Common.{◌≡◌, ℕ, ◌<◌, List, [], refl, sym, subst, inl, inr, IsSome, rules, arith}
use Rattle.lethe_disk.specs.Directory.{Directory, object}
use Rattle.lethe_disk.specs.Runs.{Leads, Throughout}
use Rattle.lethe_disk.proofs.Moments.{throughout_leads}
use Rattle.lethe_memdisk.specs.Held.{Held, seen_of}
use Rattle.lethe_memdisk.specs.Images.{directory_image}
use Rattle.lethe_segment.specs.declared.record.Record.{Record}
use Rattle.lethe_segment.specs.Records.{record_bytes, record_seq, RecordHasSpelling}
use Rattle.lethe_commit.specs.Append.{Addition, EndsAt, IsReady, HasRecords, IsAppended}
use Rattle.lethe_test_disks.specs.declared.appends.TheConstants.{SEGMENT}
use Rattle.lethe_test_disks.proofs.appends.append_one.Goals as goal

abbrev first : Record → Addition
first r = record { number = 3; records = []; next = r }

ready_for : (disk : Held) (r : Record) (body : List ℕ) → EndsAt (seen_of disk) SEGMENT 3 [] 11 → RecordHasSpelling r → 0 < record_seq r → body ≡ record_bytes r
    → IsReady (seen_of disk) SEGMENT 11 body (first r)
ready_for disk r body ends spelled place is = record { ends = ends; spelled = spelled; above = place; bytes = is }

is_there : (number : ℕ) (records : List Record) (c : Directory) → HasRecords SEGMENT number records c → IsSome (object c SEGMENT)
is_there number records c has = subst (λ o. IsSome o) (sym has.there) refl

appended_there : (r : Record) (d c : Directory) → IsAppended SEGMENT 11 (first r) d c → IsSome (object c SEGMENT)
appended_there r d c appended = elim appended.either [ inl old ↦ is_there _ _ c old | inr new ↦ is_there _ _ c new ]

there : (r : Record) (disk new : Held) → Leads (IsAppended SEGMENT 11 (first r)) (seen_of disk) (seen_of new) → Throughout (λ c. IsSome (object c SEGMENT)) (seen_of disk) (seen_of new)
there r disk new run = throughout_leads (λ c. Unit {0}) (λ c. IsSome (object c SEGMENT)) (IsAppended SEGMENT 11 (first r)) (seen_of disk) (seen_of new) run (λ d here. tt) (λ d c known appended. appended_there r d c appended)

there_now : (r : Record) (disk new : Held) → Leads (IsAppended SEGMENT 11 (first r)) (seen_of disk) (seen_of new) → IsSome (object (seen_of new).directory SEGMENT)
there_now r disk new run = there r disk new run (seen_of new).moment (seen_of new).directory run.later (omega arith) (directory_image new)

pub append-requires-after_bounds : goal.append-requires-after_bounds
append-requires-after_bounds c κs = λ told.
    let is : c.deref.result.now ≡ record_bytes c.args.item.now = search rules in
    (first c.args.item.now, ready_for c.args.disk.now c.args.item.now c.deref.result.now c.requires.ready c.requires.spelled c.requires.place is)

pub returns-in-Ok-clause-there : goal.returns-in-Ok-clause-there
returns-in-Ok-clause-there c =
    let is : c.deref.result.now ≡ record_bytes c.args.item.now = search rules in
    there c.args.item.now c.args.disk.now c.append.new.disk (c.append.ensures.any_moment tt (first c.args.item.now) (ready_for c.args.disk.now c.args.item.now c.deref.result.now c.requires.ready c.requires.spelled c.requires.place is))

pub returns-in-Ok-clause-now : goal.returns-in-Ok-clause-now
returns-in-Ok-clause-now c =
    let is : c.deref.result.now ≡ record_bytes c.args.item.now = search rules in
    there_now c.args.item.now c.args.disk.now c.append.new.disk (c.append.ensures.any_moment tt (first c.args.item.now) (ready_for c.args.disk.now c.args.item.now c.deref.result.now c.requires.ready c.requires.spelled c.requires.place is))

pub returns-in-Err-Failed-clause-there : goal.returns-in-Err-Failed-clause-there
returns-in-Err-Failed-clause-there c =
    let is : c.deref.result.now ≡ record_bytes c.args.item.now = search rules in
    there c.args.item.now c.args.disk.now c.append.new.disk (c.append.ensures.any_moment tt (first c.args.item.now) (ready_for c.args.disk.now c.args.item.now c.deref.result.now c.requires.ready c.requires.spelled c.requires.place is))

pub returns-in-Err-Failed-clause-now : goal.returns-in-Err-Failed-clause-now
returns-in-Err-Failed-clause-now c =
    let is : c.deref.result.now ≡ record_bytes c.args.item.now = search rules in
    there_now c.args.item.now c.args.disk.now c.append.new.disk (c.append.ensures.any_moment tt (first c.args.item.now) (ready_for c.args.disk.now c.args.item.now c.deref.result.now c.requires.ready c.requires.spelled c.requires.place is))
