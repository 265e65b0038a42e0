-- What a store is where memory was reserved.
use Rattle.std.proofs.Common.{◌≡◌, ◌≤◌, ◌<◌, ◌+◌, ℕ, List, None, length, map, refl, sym, ap, ◌∙◌, subst, arith}
use Rattle.lethe_base.specs.History.{History}
use Rattle.lethe_base.specs.Shapes.{earlier}
use Rattle.lethe_base.specs.declared.config.Fields.{Fields}
use Rattle.lethe_disk.specs.declared.disk.Disk.{Ghosts}
use Rattle.lethe_mem.specs.Buffered.{Buffered}
use Rattle.lethe_manifest.specs.declared.manifest.Manifest.{Manifest}
use Rattle.lethe_segment.specs.declared.record.Record.{Record}
use Rattle.lethe_segment.specs.declared.record.Record.TheVariants as of
use Rattle.lethe_commit.specs.Append.{EndsAt}
use Rattle.lethe_state.proofs.Entering.{inserts_few}
use Rattle.lethe_follows.specs.Young.{time_of}
use Rattle.lethe_stored.specs.Files.{Parts}
use Rattle.lethe_stored.specs.Replayed.{AreNewestOf}
use Rattle.lethe_stored.specs.Stored.{Stored, segment_name}
use Rattle.lethe_state.specs.Firsts.{firsts_with}
use Rattle.lethe_state.specs.Records.{Enters, IsLike, IsNext, pending_with}
use Rattle.lethe_state.specs.Remembered.{IsFrozenIn, Remembers}
use Rattle.lethe_state.specs.Room.{frozen_len}
use Rattle.lethe_state.specs.Writable.{IsWritable}
use Rattle.lethe_state.specs.declared.state.State.{State}
use Rattle.lethe_advance.specs.Settled.{names_in}
use Rattle.lethe_core.specs.Running.{Holds, IsRunning, IsSmall, IsSound}
use Rattle.lethe_core.specs.StandsNow.{StandsNow}
use Rattle.lethe_core.specs.Steps.{IsAsBefore, IsBeside}
use Rattle.lethe_core.specs.View.{Face, View, face_of, limited_of, loose_in, names_beside, view_of}
use Rattle.lethe_core.specs.declared.holding.Core.{Core}
use Rattle.lethe_core.proofs.Hindered.{drawn_on, flies_on}
use Rattle.lethe_core.proofs.Standing.{next_stands_now, running_back, stands_for, stands_holds}

like_remembered : (s : Stored) (old new : State) (levels : List (List Parts)) → IsLike old new → Remembers s old levels → Remembers s new levels
like_remembered s old new levels like is = record {
  coherent = is.coherent;
  manifest = like.manifest ∙ is.manifest;
  pending = like.pending ∙ is.pending;
  active = subst (AreNewestOf s.active.records) (sym like.active) is.active;
  records = like.records ∙ is.records;
  oldest = like.oldest ∙ is.oldest;
  firsts = like.firsts ∙ is.firsts;
  frozen = subst (IsFrozenIn s.frozen) (sym like.frozen) is.frozen;
  frozen_oldest = like.frozen_oldest ∙ is.frozen_oldest;
  frozen_firsts = like.frozen_firsts ∙ is.frozen_firsts;
  files = is.files;
  counted = let le = is.counted in let same = like.count in omega (arith, le, same);
}

pub like_small : (old new : State) → IsLike old new → IsSmall old → IsSmall new
like_small old new like small =
    let buffer : new.manifest.config.buffer ≡ old.manifest.config.buffer = ap (λ (m : Manifest). m.config.buffer) like.manifest in
    let entries : length new.active.entries ≡ length old.active.entries = ap length like.active in
    let older : frozen_len new.frozen ≡ frozen_len old.frozen = ap frozen_len like.frozen in
    let records = like.records in
    let few = small.active in
    let room = small.records in
    let rest = small.frozen in
    record { active = omega (arith, entries, records, few); records = omega (arith, records, buffer, room); frozen = omega (arith, older, buffer, rest) }

-- the same store with that memory
abbrev pub with_state : View → State → View
with_state view state = record view { state = state }

module _ (view : View) (new : State) (like : IsLike view.state new) where
  like_running : (s : Stored) → IsRunning view s → IsRunning (with_state view new) s
  like_running s is = record {
    settled = is.settled;
    only = is.only;
    uncited = is.uncited;
    untorn = is.untorn;
    copied = is.copied;
    kept = is.kept;
    rising = is.rising;
    ends = subst (EndsAt view.disk (segment_name s.active.no) s.active.no s.active.records) (sym like.end_is) is.ends;
    current = record { runs = like.stopped ∙ is.current.runs; count = like.count ∙ is.current.count };
    tasked = is.tasked;
  }

  pub like_holds : (s : Stored) → Holds view s → Holds (with_state view new) s
  like_holds s is = record { remembers = like_remembered s view.state new view.levels like is.remembers; running = like_running s is.running }

  pub like_sound : (Tells : Type 0) → IsWritable new → IsSound Tells view → IsSound Tells (with_state view new)
  like_sound Tells writable sound =
      let next = like.next in
      record {
        writable = writable;
        small = like_small view.state new like sound.small;
        count = sound.count ∙ ap (λ (m : Manifest). m.config.levels + 1) (sym like.manifest);
        flights = sound.flights;
        flies = flies_on view.state new (ap (λ (m : Manifest). m.config.levels) like.manifest) view.flights sound.flies;
        loose = drawn_on view.state.next new.next (names_in (loose_in view.flights)) (omega (arith, next)) sound.loose;
        drawn = λ told. drawn_on view.state.next new.next (names_beside view) (omega (arith, next)) (sound.drawn told);
        pins = sound.pins;
        pages = sound.pages;
        held = λ told.
            let held = sound.held told in
            (held.0, like_remembered held.0 view.state new view.levels like held.1, λ runs. like_running held.0 (held.2 (sym like.stopped ∙ runs)));
      }

  pub like_stands : (config : Fields) (h : History) → StandsNow config h view → view.state.stopped ≡ None → StandsNow config h (with_state view new)
  like_stands config h stands runs = next_stands_now config h view (with_state view new) stands runs stands.stored like.count refl (stands_for config h view stands runs)
      (like_holds stands.stored (stands_holds config h view stands runs)) stands.counted stands.recorded (stands.timely runs)

-- With one record more

pub like_next : (next : Record) (end : ℕ) (a b c : State) → IsLike a b → IsNext next end b c → IsNext next end a c
like_next next end a b c like is = record {
  manifest = is.manifest ∙ like.manifest;
  count = is.count ∙ ap (λ n. n + 1) like.count;
  pending = is.pending ∙ ap (λ l. pending_with l next) like.pending;
  active = subst (λ entries. Enters next entries c.active.entries) like.active is.active;
  records = is.records ∙ ap (λ n. n + 1) like.records;
  end_is = is.end_is;
  oldest = is.oldest ∙ ap (λ time. earlier time (time_of next)) like.oldest;
  firsts = is.firsts ∙ ap (λ firsts. firsts_with firsts next) like.firsts;
  frozen = is.frozen ∙ like.frozen;
  frozen_oldest = is.frozen_oldest ∙ like.frozen_oldest;
  frozen_firsts = is.frozen_firsts ∙ like.frozen_firsts;
  stopped = is.stopped ∙ like.stopped;
  drawn = is.drawn ∙ like.next;
}

enters_few : (next : Record) (old new : Buffered) → Enters next old.entries new.entries → length new.entries ≤ length old.entries + 1
enters_few (of.Entry entry) old new enters = inserts_few entry old.entries new.entries old.ascending enters
enters_few (of.Blind place) old new enters = let same : length new.entries ≡ length old.entries = ap length enters in omega (arith, same)
enters_few (of.Erase erase) old new enters = let same : length new.entries ≡ length old.entries = ap length enters in omega (arith, same)

pub next_small : (next : Record) (end : ℕ) (old new : State) → IsNext next end old new → old.records < old.manifest.config.buffer → IsSmall old → IsSmall new
next_small next end old new is room small =
    let buffer : new.manifest.config.buffer ≡ old.manifest.config.buffer = ap (λ (m : Manifest). m.config.buffer) is.manifest in
    let entries = enters_few next old.active new.active is.active in
    let older : frozen_len new.frozen ≡ frozen_len old.frozen = ap frozen_len is.frozen in
    let records = is.records in
    let few = small.active in
    let rest = small.frozen in
    record { active = omega (arith, entries, records, few); records = omega (arith, records, buffer, room); frozen = omega (arith, older, buffer, rest) }

-- A step that left all as it was

-- the jobs and the pins of a store are as they were
pub jobs_same : {D Page Port : Type 0} {kind : Ghosts D Page Port} (old new : Core D Page Port kind) → new.begun ≡ old.begun → new.flights ≡ old.flights → new.pins ≡ old.pins → face_of (view_of new) ≡ face_of (view_of old)
jobs_same old new begun flights pins =
    λ i. record { begun = (begun i).jobs; rounds = (begun i).rounds; flights = flights i; made = (pins i).made; held = map limited_of (pins i).pins }

-- what it held it holds
pub before_holds : (Tells : Type 0) → Tells → (old new : View) (s : Stored) → face_of new ≡ face_of old → new.pins ≡ old.pins → IsAsBefore Tells old new → Holds old s → Holds new s
before_holds Tells told old new s face pins is holds =
    let mid = with_state old new.state in
    let rest : IsBeside mid new = record { levels = is.levels; retired = is.retired; flights = ap (λ (face : Face). face.flights) face; begun = ap (λ (face : Face). face.begun) face; rounds = ap (λ (face : Face). face.rounds) face; pins = pins } in
    let like = like_holds old new.state is.state s holds in
    record {
      remembers = subst (Remembers s new.state) (sym is.levels) like.remembers;
      running = running_back mid new (is.disk told) s refl rest like.running;
    }
