-- A freeze and a flush that were carried out: what is stored next is held.
use Rattle.std.proofs.Common.{◌≡◌, ◌+◌, inl, inr, false, List, ◌++◌, length, All, AllPairs, Option, Some, None, refl, sym, ap, ◌∙◌, subst, arith}
use Rattle.std.specs.Prelude.{◌==◌, Contains, IsSome, IsTrue, filter}
use Rattle.std.specs.declared.cmp.Ordering.TheVariants.{Less}
use Rattle.std.proofs.lemmas.Bool.{ne_eqb}
use Rattle.std.proofs.lemmas.List.Elements.{All-weaker, Contains-append_right, filter-append}
use Rattle.lethe_base.specs.Keys.{key_cmp}
use Rattle.lethe_base.specs.declared.config.Fields.{Fields}
use Rattle.lethe_disk.specs.Disk.{Image}
use Rattle.lethe_file.proofs.Joined.{filter_none}
use Rattle.lethe_header.specs.Facts.{least_key, greatest_key}
use Rattle.lethe_manifest.specs.declared.manifest.Manifest.{Manifest}
use Rattle.lethe_mem.specs.Buffered.{Buffered}
use Rattle.lethe_commit.specs.Append.{EndsAt}
use Rattle.lethe_job.proofs.Staying.{stays_flushed, stays_frozen}
use Rattle.lethe_stored.specs.Files.{Parts, StoredFile}
use Rattle.lethe_stored.specs.Levels.{AreRising, HasFiles}
use Rattle.lethe_stored.specs.Stored.{Stored, Segment, segment_name}
use Rattle.lethe_advance.specs.Settled.{AreUncited, HasOnly, IsSettled}
use Rattle.lethe_advance.specs.Steps.{IsStep}
use Rattle.lethe_advance.specs.Untorn.{IsUntorn}
use Rattle.lethe_advance.specs.declared.new_header.NewHeader.{NewHeader}
use Rattle.lethe_advance.specs.declared.step.Step.{Step}
use Rattle.lethe_clean.proofs.Stays.{step_untorn}
use Rattle.lethe_state.specs.Remembered.{IsCurrent, IsFrozenIn, Remembers}
use Rattle.lethe_state.specs.Room.{IsFlushed, IsFrozen, IsFrozenWith, frozen_len, unfrozen}
use Rattle.lethe_state.specs.declared.state.State.{State}
use Rattle.lethe_state.proofs.Stepping.{flush_remembered, freeze_remembered}
use Rattle.lethe_core.specs.Running.{Holds, IsCopiedFrom, IsRunning, IsSmall, IsTasked}
use Rattle.lethe_pins.specs.Held.{Held, is_named}
use Rattle.lethe_core.specs.View.{Flying, View, beside_at, beside_in}
use Rattle.lethe_core.proofs.Beside.{beside_stays}
use Rattle.lethe_core.proofs.Carried.{IsCarried, active_ends, frozen_ends}
use Rattle.lethe_core.proofs.Kept.{pages_stay}

-- Small buffers

pub small_frozen : (manifest : Manifest) (old new : State) → IsFrozenWith manifest old new → manifest.config ≡ old.manifest.config → IsSmall old → IsSmall new
small_frozen manifest old new with config small =
    let none : length new.active.entries ≡ 0 = ap length with.active in
    let empty = with.records in
    let older : frozen_len new.frozen ≡ length old.active.entries = ap frozen_len with.frozen in
    let same : new.manifest.config.buffer ≡ old.manifest.config.buffer = ap (λ (m : Manifest). m.config.buffer) with.manifest_is ∙ ap (λ (f : Fields). f.buffer) config in
    let few = small.active in
    let room = small.records in
    record { active = omega (arith, none); records = omega (arith, empty); frozen = omega (arith, older, same, few, room) }

pub small_unfrozen : (manifest : Manifest) (state : State) → manifest.config ≡ state.manifest.config → IsSmall state → IsSmall (unfrozen manifest state)
small_unfrozen manifest state config small =
    let same : manifest.config.buffer ≡ state.manifest.config.buffer = ap (λ (f : Fields). f.buffer) config in
    let room = small.records in
    record { active = small.active; records = omega (arith, same, room); frozen = omega arith }

-- What is stored has a frozen segment where the store has a frozen buffer

none_frozen : (o : Option Segment) (b : Option Buffered) → IsFrozenIn o b → b ≡ None → o ≡ None
none_frozen None b is none = refl
none_frozen (Some segment) None is none = absurd is
none_frozen (Some segment) (Some buffer) is none = absurd (let clash : Some buffer ≡ None = none in cc)

pub not_frozen : (s : Stored) (state : State) (levels : List (List Parts)) → Remembers s state levels → state.frozen ≡ None → s.frozen ≡ None
not_frozen s state levels is none = none_frozen s.frozen state.frozen is.frozen none

some_segment : (o : Option Segment) (b : Option Buffered) → IsFrozenIn o b → IsSome b → IsSome o
some_segment None None is some = some
some_segment None (Some buffer) is some = absurd is
some_segment (Some segment) None is some = absurd is
some_segment (Some segment) (Some buffer) is some = some

pub frozen_there : (s : Stored) (state : State) (levels : List (List Parts)) → Remembers s state levels → IsSome state.frozen → IsSome s.frozen
frozen_there s state levels is some = some_segment s.frozen state.frozen is.frozen some

-- The files and the tasks of jobs

-- files of level 0 come in front
risen : (made files : List StoredFile) → All (λ file. file.level ≡ 0) made → AreRising files → AreRising (made ++ files)
risen made files newest rising = λ level deep.
    let elsewhere = All-weaker (λ (file : StoredFile). file.level ≡ 0) (λ (file : StoredFile). (file.level == level) ≡ false) (λ file top. ne_eqb file.level level (λ same. omega (arith, top, same, deep))) made newest in
    let rest : filter (λ (file : StoredFile). file.level == level) (made ++ files) ≡ filter (λ (file : StoredFile). file.level == level) files =
    filter-append (λ (file : StoredFile). file.level == level) made files ∙ ap (λ l. l ++ filter (λ (file : StoredFile). file.level == level) files) (filter_none (λ (file : StoredFile). file.level == level) made elsewhere) in
    subst (AllPairs (λ (a b : StoredFile). key_cmp (greatest_key a.header.tiles) (least_key b.header.tiles) ≡ Less)) (sym rest) (rising level deep)

flushed_rising : (s t : Stored) → IsFlushed s t → AreRising s.files → AreRising t.files
flushed_rising s t is rising = subst (λ (x : Stored). AreRising x.files) (sym is.is) (risen is.made s.files is.new.level rising)

frozen_rising : (s t : Stored) → IsFrozen s t → AreRising s.files → AreRising t.files
frozen_rising s t is rising = subst (λ (x : Stored). AreRising x.files) (sym is.is) rising

flushed_tasked : (s t : Stored) → IsFlushed s t → (flying : Flying) → IsTasked s flying → IsTasked t flying
flushed_tasked s t is flying tasked = subst (λ x. IsTasked x flying) (sym is.is) (stays_flushed s flying.task tasked is.made is.number is.new.level)

frozen_tasked : (s t : Stored) → s.frozen ≡ None → IsFrozen s t → (flying : Flying) → IsTasked s flying → IsTasked t flying
frozen_tasked s t none is flying tasked = subst (λ x. IsTasked x flying) (sym is.is) (stays_frozen s flying.task tasked none is.segment (is.segment + 1))

-- files stay
pub flushed_stay : (s t : Stored) → IsFlushed s t → (file : StoredFile) → Contains s.files file → Contains t.files file
flushed_stay s t is file there = subst (λ (x : Stored). Contains x.files file) (sym is.is) (Contains-append_right is.made s.files file there)

pub frozen_stay : (s t : Stored) → IsFrozen s t → (file : StoredFile) → Contains s.files file → Contains t.files file
frozen_stay s t is file there = subst (λ (x : Stored). Contains x.files file) (sym is.is) there

-- What is stored next

-- the same files as other readers have them
other_files : (s : Stored) (state : State) (levels next : List (List Parts)) → HasFiles s next → Remembers s state levels → Remembers s state next
other_files s state levels next files is = record {
  coherent = is.coherent;
  manifest = is.manifest;
  pending = is.pending;
  active = is.active;
  records = is.records;
  oldest = is.oldest;
  firsts = is.firsts;
  frozen = is.frozen;
  frozen_oldest = is.frozen_oldest;
  frozen_firsts = is.frozen_firsts;
  files = files;
  counted = is.counted;
}

-- what lies beside what is stored stays
module _ (Tells : Type 0) (s t : Stored) (old new : View) (headers : List NewHeader) (step : Step) (carried : IsCarried Tells old new headers step) (told : Tells) (holds : Holds old s)
    (is : IsStep s (beside_in old) t (beside_in old) headers step) where
  done : IsSettled new.disk t × HasOnly t (beside_in old) new.disk.directory
  done = carried.done told s t (beside_in old) holds.running is

  files : HasFiles t new.levels
  files = carried.files told s t (beside_in old) holds.running is holds.remembers.files

  same_beside : beside_in new ≡ beside_in old
  same_beside = (λ i. beside_at new.disk.directory (carried.retired i) (carried.flights i)) ∙ beside_stays old.disk.directory new.disk.directory old.retired old.flights done.1.there

  next_untorn : IsUntorn t new.disk.directory
  next_untorn = step_untorn s t (beside_in old) (beside_in old) headers step old.disk.directory new.disk.directory holds.remembers.coherent is holds.running.only holds.running.untorn
      (carried.kept told s t (beside_in old) holds.running is) (carried.gate told s t (beside_in old) holds.running is)

  next_running : IsCurrent t new.state → EndsAt new.disk (segment_name t.active.no) t.active.no t.active.records new.state.end → AreRising t.files → ((flying : Flying) → IsTasked s flying → IsTasked t flying)
      → ((file : StoredFile) → Contains s.files file → Contains t.files file) → IsRunning new t
  next_running current ends rising stays stay = record {
    settled = done.0;
    only = subst (λ l. HasOnly t l new.disk.directory) (sym same_beside) done.1;
    uncited = subst (AreUncited t) (sym same_beside) is.left_uncited;
    untorn = next_untorn;
    copied = subst (All IsCopiedFrom) (sym carried.flights) holds.running.copied;
    kept = λ name named. elim (holds.running.kept name (subst (λ (held : Held). IsTrue (is_named held.pins name)) carried.pins named)) [
      | inl page ↦ inl (pages_stay s.files t.files stay name page)
      | inr retired ↦ inr (subst (λ names. Contains names name) (sym carried.retired) retired)
    ];
    rising = rising;
    ends = ends;
    current = current;
    tasked = subst (All (IsTasked t)) (sym carried.flights) (All-weaker (IsTasked s) (IsTasked t) stays old.flights holds.running.tasked);
  }

  pub flushed_holds : IsFlushed s t → new.state ≡ unfrozen step.manifest old.state → Image old.disk old.disk.directory → Holds new t
  flushed_holds flushed new_is here =
      let state_is : new.state ≡ unfrozen t.manifest old.state = new_is ∙ ap (λ m. unfrozen m old.state) is.manifest in
      let both = subst (λ state. Remembers t state new.levels × IsCurrent t state) (sym state_is) (flush_remembered s t old.state old.levels new.levels holds.remembers holds.running.current flushed is.coherent.spelled files) in
      let kept = carried.kept told s t (beside_in old) holds.running is in
      let ends = active_ends s t (beside_in old) (beside_in old) headers step is holds.remembers.coherent old.disk new.disk done.0 kept old.state.end (ap (λ (x : Stored). x.active) flushed.is) here holds.running.ends in
      record {
        remembers = both.0;
        running = next_running both.1 (subst (EndsAt new.disk (segment_name t.active.no) t.active.no t.active.records) (sym (ap (λ (state : State). state.end) state_is)) ends)
            (flushed_rising s t flushed holds.running.rising) (flushed_tasked s t flushed) (flushed_stay s t flushed);
      }

  pub frozen_holds : IsFrozen s t → old.state.frozen ≡ None → IsFrozenWith step.manifest old.state new.state → Holds new t
  frozen_holds frozen none with =
      let without = not_frozen s old.state old.levels holds.remembers none in
      let both = freeze_remembered s t old.state new.state old.levels holds.remembers holds.running.current without frozen is.coherent.spelled (subst (λ m. IsFrozenWith m old.state new.state) is.manifest with) in
      let kept = carried.kept told s t (beside_in old) holds.running is in
      let ends = frozen_ends s t (beside_in old) (beside_in old) headers step is holds.remembers.coherent old.disk new.disk done.0 kept frozen holds.running.only in
      record {
        remembers = other_files t new.state old.levels new.levels files both.0;
        running = next_running both.1 (subst (EndsAt new.disk (segment_name t.active.no) t.active.no t.active.records) (sym with.end_is) ends)
            (frozen_rising s t frozen holds.running.rising) (frozen_tasked s t without frozen) (frozen_stay s t frozen);
      }
