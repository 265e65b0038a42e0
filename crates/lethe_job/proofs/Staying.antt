-- A task stays one while the store goes on.
use Rattle.std.proofs.Common.{◌≡◌, ℕ, ◌+◌, ◌<◌, ◌≤◌, List, [], ◌∷◌, ◌++◌, None, AllPairs, sym, ap, ◌∙◌, arith}
use Rattle.std.specs.Prelude.{All, option_to_list}
use Rattle.std.proofs.lemmas.List.Elements.{All-append, All-weaker}
use Rattle.lethe_fade.specs.Spans.{KeyRange}
use Rattle.lethe_follows.specs.Filed.{flushed}
use Rattle.lethe_follows.specs.Merged.{StoredMerge, IsAlone, erases_upto, with_newer}
use Rattle.lethe_follows.proofs.ErasesStaying.{pending_flushed, pending_frozen, upto_appended}
use Rattle.lethe_follows.proofs.Staying as merges
use Rattle.lethe_moves.specs.Files.{IsClearOf}
use Rattle.lethe_segment.specs.Records.{record_seq}
use Rattle.lethe_segment.specs.Segments.{Ascends, last_seq}
use Rattle.lethe_segment.specs.declared.record.Record.{Record}
use Rattle.lethe_stored.specs.Files.{StoredFile, file_of}
use Rattle.lethe_stored.specs.Stored.{Stored, IsCoherent, appended, count_of, erase_of, froze, pending_of}
use Rattle.lethe_stored.proofs.Appended.{pending_appended}
use Rattle.lethe_sweeps.specs.Swept.{with_front}
use Rattle.lethe_sweeps.proofs.SweepStaying as sweeps
use Rattle.lethe_job.specs.Tasks.{IsMergeTask, PlainMerge}
use Rattle.lethe_job.specs.Works.{IsTaskFor, Merges, PlainTask, Sweeps}

-- How many changes there are

last_push : (last : ℕ) (records : List Record) (r : Record) → Ascends last (records ++ r ∷ []) → last_seq last records ≤ last_seq last (records ++ r ∷ [])
last_push last [] r up = omega (arith, up.1)
last_push last (first ∷ records) r up = last_push (record_seq first) records r up.2

-- What is stored

module _ (s : Stored) (m : StoredMerge) (task : PlainMerge) (is : IsMergeTask s m task) where
  pub task_appended : (next : Record) → count_of s < record_seq next → AllPairs (λ a b. a.seq < b.seq) (pending_of s ++ option_to_list (erase_of next)) → IsCoherent (appended s next) → IsMergeTask (appended s next) m task
  task_appended next behind rise coherent =
      let more = last_push 0 s.active.records next coherent.active in
      let before = is.upto in
      record {
        merge = merges.stays_appended s m is.merge next;
        level = is.level;
        sources = is.sources;
        met = is.met;
        clear = is.clear;
        bottom = is.bottom;
        erases = is.erases ∙ sym (upto_appended s task.upto next (omega (arith, before, behind)) (pending_appended s next rise));
        upto = omega (arith, more, before);
        config = is.config;
      }

  pub task_frozen : s.frozen ≡ None → (segment number : ℕ) → IsMergeTask (froze s segment number) m task
  task_frozen none segment number =
      let before = is.upto in
      record {
        merge = merges.stays_frozen s m is.merge segment number;
        level = is.level;
        sources = is.sources;
        met = is.met;
        clear = is.clear;
        bottom = is.bottom;
        erases = is.erases ∙ ap (erases_upto task.upto) (sym (pending_frozen s segment number none));
        upto = omega (arith, before);
        config = is.config;
      }

  module _ (made : List StoredFile) (number : ℕ) (newest : All (λ file. file.level ≡ 0) made) where
    still_alone : (level : ℕ) (keys : KeyRange) → IsAlone s level keys → IsAlone (flushed s made number) level keys
    still_alone level keys alone = All-append (λ file. level + 1 < file.level → IsClearOf keys (file_of file)) made s.files
        (All-weaker (λ file. file.level ≡ 0) (λ file. level + 1 < file.level → IsClearOf keys (file_of file)) (λ file at below. absurd (omega (arith, at, below))) made newest) alone

    pub task_flushed : IsMergeTask (flushed s made number) (with_newer made m) task
    task_flushed =
        let before = is.upto in
        record {
          merge = merges.stays_flushed s m is.merge made number newest;
          level = is.level;
          sources = is.sources;
          met = is.met;
          clear = λ alone. still_alone m.level _ (is.clear alone);
          bottom = is.bottom;
          erases = is.erases ∙ ap (erases_upto task.upto) (sym (pending_flushed s made number));
          upto = omega (arith, before);
          config = is.config;
        }

-- A merge or a sweep

pub stays_appended : (s : Stored) (task : PlainTask) → IsTaskFor s task → (next : Record) → count_of s < record_seq next
    → AllPairs (λ a b. a.seq < b.seq) (pending_of s ++ option_to_list (erase_of next)) → IsCoherent (appended s next) → IsTaskFor (appended s next) task
stays_appended s (Merges task) is next behind rise coherent = (is.0, task_appended s is.0 task is.1 next behind rise coherent)
stays_appended s (Sweeps task) is next behind rise coherent = (is.0, record { sweep = sweeps.stays_appended s is.0 task.erase task.alone is.1.sweep next rise; file = is.1.file })

pub stays_frozen : (s : Stored) (task : PlainTask) → IsTaskFor s task → s.frozen ≡ None → (segment number : ℕ) → IsTaskFor (froze s segment number) task
stays_frozen s (Merges task) is none segment number = (is.0, task_frozen s is.0 task is.1 none segment number)
stays_frozen s (Sweeps task) is none segment number = (is.0, record { sweep = sweeps.stays_frozen s is.0 task.erase task.alone is.1.sweep segment number none; file = is.1.file })

pub stays_flushed : (s : Stored) (task : PlainTask) → IsTaskFor s task → (made : List StoredFile) (number : ℕ) → All (λ file. file.level ≡ 0) made → IsTaskFor (flushed s made number) task
stays_flushed s (Merges task) is made number newest = (with_newer made is.0, task_flushed s is.0 task is.1 made number newest)
stays_flushed s (Sweeps task) is made number newest =
    (with_front made is.0, record { sweep = sweeps.stays_flushed s is.0 task.erase task.alone is.1.sweep made number newest; file = is.1.file })
