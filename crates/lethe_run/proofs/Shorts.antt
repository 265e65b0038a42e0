-- Where the numbers of objects run out in a change, they have nearly run out in the course, and on any disk in what is in memory.
use Rattle.std.proofs.Common.{◌≡◌, inl, inr, ◌≤◌, ◌+◌, ℕ, Bool, eqb, filter, List, [], ◌∷◌, length, Option, Some, None, arith}
use Rattle.std.specs.Prelude.{slice_index_or, sum_by}
use Rattle.std.specs.List.{AllZip}
use Rattle.std.proofs.lemmas.Bool.{eq-eqb}
use Rattle.std.proofs.lemmas.List.Sums.{sum_by-cons}
use Rattle.lethe_base.proofs.Filters.{in_filter}
use Rattle.lethe_base.specs.History.{History, AreDone}
use Rattle.lethe_base.specs.Limits.{max_place}
use Rattle.lethe_build.specs.Built.{most_numbers}
use Rattle.lethe_mem.specs.Buffered.{Buffered}
use Rattle.lethe_state.specs.Room.{frozen_len}
use Rattle.lethe_core.specs.Merges.{IsShortToMerge, IsTaskOf}
use Rattle.lethe_core.specs.Reasons as reasons
use Rattle.lethe_core.specs.Reasons.{IsShortOfRoom}
use Rattle.lethe_core.specs.Running.{IsSound}
use Rattle.lethe_core.specs.StandsNow.{StandsNow}
use Rattle.lethe_core.specs.View.{View}
use Rattle.lethe_engine.specs.StandsFor.{StandsSince}
use Rattle.lethe_engine.specs.Ticks.{IsShortToTick}
use Rattle.lethe_header.specs.Facts.{lines_of}
use Rattle.lethe_header.specs.Headers.{entries_in}
use Rattle.lethe_job.proofs.Listed.{one_summed}
use Rattle.lethe_job.specs.Tasks.{IsCitedAs, counted_in}
use Rattle.lethe_job.specs.Works.{PlainTask, inputs_in}
use Rattle.lethe_manifest.specs.declared.manifest.Cited.{Cited}
use Rattle.lethe_stored.specs.Files.{Parts, StoredFile, lines_in, parts_of}
use Rattle.lethe_run.specs.Anywhere.{IsDrawn, entries_of, standing_of}
use Rattle.lethe_run.specs.Serving.{IsOn, Point, opened_in}
use Rattle.lethe_run.specs.Transcript.{Course, Start, IsShort, course}
use Rattle.lethe_run.proofs.Images.{done_runs}

-- a frozen buffer is none or no greater than a configuration lets it be
pub few_frozen : (Tells : Type 0) (view : View) → IsSound Tells view → frozen_len view.state.frozen ≤ 16384
few_frozen Tells view sound = let few = sound.small.frozen in let most = sound.writable.manifest.config.buffer.1 in omega (arith, few, most)

module _ (Tells Ports : Type 0) (begin : Start) (from : Point) (h : History) (old new : View) (on : IsOn begin from h old) (small : frozen_len old.state.frozen ≤ 16384)
    (merges : StandsNow begin.config h new → new.state.stopped ≡ None → IsShortToMerge Tells new → max_place ≤ new.state.next + most_numbers (length h)) (goes : old.disk.moment ≤ new.disk.moment) where
  abbrev Now : Course
  Now = course Ports begin new.faults new.disk.moment

  -- before room was made
  short_by : (frozen : Option Buffered) → reasons.IsShortFor frozen old.state → IsShort (length h) Now
  short_by None freezes = let before = on.stands.numbers in let low = on.moment_since in let since = on.stands.later in omega (arith, before, low, since, goes, freezes)
  short_by (Some buffer) flushes =
      let before = on.stands.numbers in
      let low = on.moment_since in
      let since = on.stands.later in
      let drawn = flushes.drafted.few in
      let reach = flushes.short in
      omega (arith, before, low, since, goes, drawn, reach, small)

  -- or for a merge behind that
  pub short_of : AreDone h → StandsSince begin.config (opened_in begin from on.counted) h new → IsShortOfRoom Tells old.state new → IsShort (length h) Now
  short_of done stands (inl few) = short_by old.state.frozen few
  short_of done stands (inr few) =
      let reach = merges stands.now (done_runs begin.config h new stands.now done) few in
      let drawn = stands.numbers in
      let low = on.moment_since in
      let since = on.stands.later in
      omega (arith, reach, drawn, low, since, goes)

-- On any disk

-- the files that are cited have no more entries than their headers count
cited_counted : (levels : List (List Parts)) (cited : List Cited) (files : List StoredFile) → AllZip (IsCitedAs levels) cited files → counted_in files ≤ entries_of levels cited
cited_counted levels [] [] are = omega arith
cited_counted levels [] (file ∷ files) are = absurd are
cited_counted levels (one ∷ cited) [] are = absurd are
cited_counted levels (one ∷ cited) (file ∷ files) are =
    let counts : Parts → ℕ = λ parts. entries_in (lines_of parts.header.tiles) in
    let here : Parts → Bool = λ parts. eqb parts.header.no one.no in
    let level = slice_index_or levels one.level [] in
    let rest = cited_counted levels cited files are.1 in
    let own = one_summed counts (filter here level) (parts_of file) (in_filter here level (parts_of file) are.0.there (eq-eqb file.header.no one.no are.0.number)) in
    let all = sum_by-cons (λ (one : Cited). sum_by counts (filter (λ parts. eqb parts.header.no one.no) (slice_index_or levels one.level []))) one cited in
    let some = sum_by-cons (λ (file : StoredFile). entries_in (lines_in file)) file files in
    omega (arith, rest, own, all, some)

task_counted : (view : View) (task : PlainTask) → IsTaskOf view task → counted_in (inputs_in task) ≤ entries_of view.levels view.state.manifest.files
task_counted view task of =
    let all = cited_counted view.levels view.state.manifest.files of.files of.cited in
    let some = of.some in
    omega (arith, all, some)

drawn_for_task : (view : View) (task : PlainTask) (numbers : ℕ) → IsTaskOf view task → numbers ≤ most_numbers (counted_in (inputs_in task)) → max_place ≤ view.state.next + numbers → IsDrawn (standing_of view)
drawn_for_task view task numbers of few reach = let all = task_counted view task of in omega (arith, reach, few, all)

module _ (Tells : Type 0) (old new : View) (small : frozen_len old.state.frozen ≤ 16384) (drawn : old.state.next ≤ new.state.next) where
  drawn_before : (frozen : Option Buffered) → reasons.IsShortFor frozen old.state → IsDrawn (standing_of new)
  drawn_before None freezes = omega (arith, freezes, drawn)
  drawn_before (Some buffer) flushes =
      let few = flushes.drafted.few in
      let reach = flushes.short in
      omega (arith, few, reach, drawn, small)

  -- for room, before it was made or for a merge behind that
  pub drawn_for_room : IsShortOfRoom Tells old.state new → IsDrawn (standing_of new)
  drawn_for_room (inl few) = drawn_before old.state.frozen few
  drawn_for_room (inr few) = drawn_for_task new few.task _ few.of few.bounded few.short

module _ (Tells : Type 0) (to : ℕ) (view : View) (small : frozen_len view.state.frozen ≤ 16384) where
  -- for a step of a tick
  pub drawn_for_tick : IsShortToTick Tells to view → IsDrawn (standing_of view)
  drawn_for_tick (inl flushes) =
      let few = flushes.drafted.few in
      let reach = flushes.short in
      omega (arith, few, reach, small)
  drawn_for_tick (inr (inl freezes)) = omega (arith, freezes)
  drawn_for_tick (inr (inr few)) = drawn_for_task view few.task _ few.of few.bounded few.short
