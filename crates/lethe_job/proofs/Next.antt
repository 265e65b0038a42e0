-- The task of a plan in a store, as its files are told, and which plan is the choice.
use Rattle.std.proofs.Common.{◌≡◌, ℕ, ◌+◌, ◌<◌, ◌≤◌, ◌^◌, true, false, eqb, List, ◌++◌, length, map, Some, sym, ap, ◌∙◌, subst, arith}
use Rattle.std.specs.Prelude.{◌&&◌, ◌||◌, All, Contains}
use Rattle.std.proofs.lemmas.Bool.{and_left, and_parts, eqb-true, ne_eqb}
use Rattle.std.proofs.lemmas.List.Elements.{All-append, All-contains_itself, All-filter}
use Rattle.std.proofs.lemmas.List.Sums.{sum_by-append}
use Rattle.lethe_base.specs.Configuration.{IsConfig}
use Rattle.lethe_base.specs.declared.config.Fields.{Fields}
use Rattle.lethe_base.specs.declared.pending.Pending.{Pending}
use Rattle.lethe_disk.specs.declared.disk.Disk.{Ghosts}
use Rattle.lethe_fade.specs.Spans.{KeyRange, overlaps}
use Rattle.lethe_fade.specs.declared.plan.Plan.{Plan}
use Rattle.lethe_header.specs.Headers.{entries_in}
use Rattle.lethe_stored.specs.Files.{StoredFile, lines_in}
use Rattle.lethe_stored.specs.Stored.{Stored}
use Rattle.lethe_job.specs.Chosen.{hull_in, is_source, level_named, met_in, range_in, sources_in, merge_in}
use Rattle.lethe_job.specs.Tasks.{IsPlannedMerge, IsStore, PlainMerge, counted_in, merge_inputs, plain_file}
use Rattle.lethe_job.specs.declared.filed.Filed.{Filed}
use Rattle.lethe_job.proofs.Planned.{is_planned, level_from, source_there}
use Rattle.lethe_job.proofs.Listed.{apart_sums}

-- the inputs are some of the files: none is a source and met by the sources
some_inputs : (level number : ℕ) (keys : KeyRange) (files : List StoredFile) → counted_in (sources_in level number files ++ met_in (level + 1) keys files) ≤ counted_in files
some_inputs level number keys files =
    let counted : StoredFile → ℕ = λ file. entries_in (lines_in file) in
    let apart : (file : StoredFile) → is_source level number file ≡ true → (eqb file.level (level + 1) && overlaps keys (range_in file)) ≡ false = λ file source.
    let parts = and_parts (eqb file.level level) (eqb level 0 || eqb file.header.no number) source in
    let same : file.level ≡ level = eqb-true file.level level parts.0 in
    and_left (eqb file.level (level + 1)) (overlaps keys (range_in file)) (ne_eqb file.level (level + 1) (λ next. omega (arith, same, next))) in
    omega (arith, sum_by-append counted (sources_in level number files) (met_in (level + 1) keys files), apart_sums counted (is_source level number) (λ file. eqb file.level (level + 1) && overlaps keys (range_in file)) apart files)

pub task_some : (level : ℕ) (plan : Plan) (files : List StoredFile) (config : Fields) (erases : List Pending) (count : ℕ) (task : PlainMerge) → task ≡ merge_in level plan files config erases count
    → counted_in (merge_inputs task) ≤ counted_in files
task_some level plan files config erases count task is = subst (λ (task : PlainMerge). counted_in (merge_inputs task) ≤ counted_in files) (sym is) (some_inputs level plan.file (hull_in (sources_in level plan.file files)) files)

pub task_from : (level : ℕ) (plan : Plan) (files : List StoredFile) (config : Fields) (erases : List Pending) (count : ℕ) (task : PlainMerge) → task ≡ merge_in level plan files config erases count
    → All (Contains files) (merge_inputs task)
task_from level plan files config erases count task is =
    let sources = sources_in level plan.file files in
    let keys = hull_in sources in
    subst (λ (task : PlainMerge). All (Contains files) (merge_inputs task)) (sym is)
    (All-append (Contains files) sources (met_in (level + 1) keys files) (All-filter (is_source level plan.file) (Contains files) files (All-contains_itself files))
    (All-filter (λ file. eqb file.level (level + 1) && overlaps keys (range_in file)) (Contains files) files (All-contains_itself files)))

module _ {D Page Port : Type 0} {disk : Ghosts D Page Port} (files : List (Filed D Page Port disk)) (config : Fields) (erases : List Pending) (count : ℕ) where
  abbrev all : List StoredFile
  all = map plain_file files

  -- what the task of a plan is
  module _ (limits : IsConfig config) (plan : Plan) (fields : Fields) (same_fields : fields ≡ config) (level : ℕ) (found : Some level ≡ level_named fields.levels plan.file all) where
    named : (file : StoredFile) × Contains all file × (file.level ≡ level) × (level < config.levels) × (file.header.no ≡ plan.file)
    named = level_from config.levels plan.file all level (sym (found ∙ ap (λ (f : Fields). level_named f.levels plan.file all) same_fields))

    level_low : level < config.levels
    level_low = named.3

    pub task_low : (task : PlainMerge) → task ≡ merge_in level plan all config erases count → task.level < config.levels
    task_low task is = subst (λ n. n < config.levels) (sym (ap (λ (t : PlainMerge). t.level) is)) level_low

    pub level_small : level < 2 ^ 32
    level_small = let low = level_low in let few = limits.levels in omega (arith, low, few)

    pub some_source : 0 < length (sources_in level plan.file all)
    some_source = let there = source_there level plan.file all named.0 named.1 named.2 named.4 in let within = there.1 in omega (arith, within)

    pub planned : (task : PlainMerge) → task ≡ merge_in level plan all config erases count → (s : Stored) → IsStore s files config erases count → IsPlannedMerge s task
    planned task is s store =
        let file = named.0 in
        let there : Contains s.files file = subst (λ l. Contains l file) store.files_are named.1 in
        let task_is : task ≡ merge_in level plan s.files config erases count = is ∙ ap (λ l. merge_in level plan l config erases count) store.files_are in
        subst (IsPlannedMerge s) (sym task_is) (is_planned s store.coherent store.rising level plan file there named.2 named.4 config store.config_is erases store.erases_are count store.count_is level_low)
