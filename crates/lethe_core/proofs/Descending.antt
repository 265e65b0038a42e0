-- How much merges and sweeps have still to do: each makes it less, and there is a bound on it.
use Rattle.std.proofs.Common.{◌≡◌, ◌≢◌, ℕ, ◌+◌, ◌-◌, ◌*◌, ◌^◌, ◌<◌, ◌≤◌, Bool, cond, List, [], ◌∷◌, ◌++◌, map, length, All, Contains, refl, sym, ap, ◌∙◌, subst, arith}
use Rattle.std.specs.Prelude.{filter, not, sum_by}
use Rattle.std.proofs.Math.Nat.{mul-le-mul_left}
use Rattle.std.proofs.lemmas.List.Elements.{All-head, All-tail, All-contains, Contains-append_left, Contains-append_right}
use Rattle.std.proofs.lemmas.List.Filters.{sum_by-filter_both}
use Rattle.std.proofs.lemmas.List.Sorted.{sum_by-IsPermutation}
use Rattle.std.proofs.lemmas.List.Sums.{sum_by-append, sum_by-cons, sum_by-le}
use Rattle.lethe_base.specs.declared.pending.Pending.{Pending}
use Rattle.lethe_cover.proofs.Common.{⊎_elim, first_is}
use Rattle.lethe_cover.proofs.Lists.{all_from, in_middle, in_rest}
use Rattle.lethe_follows.specs.Merged.{IsMerged, IsMergeIn, StoredMerge, entries_in, erases_upto, inputs_of, others_of}
use Rattle.lethe_header.specs.Facts.{lines_of}
use Rattle.lethe_header.specs.Headers as headers
use Rattle.lethe_header.specs.declared.header.PageLine.{PageLine}
use Rattle.lethe_header.specs.declared.header.TileLine.{TileLine}
use Rattle.lethe_header.proofs.Lines.{have_few_entries}
use Rattle.lethe_install.specs.Outcomes.{IsInstalled}
use Rattle.lethe_install.proofs.Beside.{input_goes, input_in}
use Rattle.lethe_job.specs.Works.{IsPlanned, Merges, PlainTask, Sweeps}
use Rattle.lethe_manifest.specs.declared.manifest.Manifest.{Manifest}
use Rattle.lethe_merge.specs.Merge.{merged}
use Rattle.lethe_merge.proofs.Gathers.{length-merged}
use Rattle.lethe_stored.specs.Files.{StoredFile, IsFile}
use Rattle.lethe_stored.specs.Stored.{Stored, IsCoherent, pending_of}
use Rattle.lethe_stored.proofs.Leveled.{from_level}
use Rattle.lethe_version.specs.Order.{is_kept}
use Rattle.lethe_core.specs.Descent.{HasCountedErases, jobs_at_most, jobs_left, steps_down, unswept_pairs}
use Rattle.lethe_core.proofs.Counted.{entries_by, all_counted, cut_long, some_counted}
use Rattle.lethe_core.proofs.Sums.{kept_sum, part_sum, scaled, two_levels}
use Rattle.lethe_core.proofs.Unswept.{files_few, no_steps_up, pairs_fall, pairs_few, pairs_kept, pending_few}
use Rattle.lethe_core.proofs.Waiting.{pairs_stay}

-- The bound

lines_few : (tiles : List TileLine) → All headers.HasFewEntries tiles → headers.entries_in (lines_of tiles) ≤ length tiles * 65536
lines_few [] each = omega arith
lines_few (tile ∷ tiles) each =
    let here = All-head headers.HasFewEntries tile tiles each in
    let rest = lines_few tiles (All-tail headers.HasFewEntries tile tiles each) in
    omega (arith, here, rest, sum_by-append (λ (line : PageLine). line.entries) tile.pages (lines_of tiles))

file_few : (file : StoredFile) → headers.HasSpelling file.header → entries_by file ≤ 2 ^ 24
file_few file spelled =
    let each = lines_few file.header.tiles (have_few_entries file.header.tiles spelled.tiles) in
    omega (arith, each, spelled.few)

pub few_steps : (s : Stored) → IsCoherent s → steps_down s.manifest.config.levels s.files < 2 ^ 63
few_steps s coherent =
    let deepest = s.manifest.config.levels in
    let each : All (λ file. (deepest - file.level) * entries_by file ≤ 6 * 2 ^ 24) s.files = all_from (λ file. (deepest - file.level) * entries_by file ≤ 6 * 2 ^ 24) s.files (λ file there.
    let few = file_few file (All-contains (IsFile s.manifest.next) s.files file coherent.each there).spelled in
    let levels = coherent.spelled.config.levels.1 in
    let steps : deepest - file.level ≤ 6 = omega (arith, levels) in
    grind (arith, few, steps)) in
    let all = sum_by-le (λ file. (deepest - file.level) * entries_by file) (6 * 2 ^ 24) s.files each in
    omega (arith, all, files_few s coherent)

pub few_jobs : (s : Stored) → IsCoherent s → length (pending_of s) < 2 ^ 32 → jobs_left s < 2 ^ 65
few_jobs s coherent few = omega (arith, few_steps s coherent, pairs_few s.files (pending_of s) (files_few s coherent) few)

pub few_at_most : (s : Stored) → IsCoherent s → length (pending_of s) < 2 ^ 32 → jobs_at_most s < 2 ^ 127
few_at_most s coherent few = omega (arith, few_steps s coherent, pairs_few s.files (pending_of s) (files_few s coherent) few)

-- A merge

descends : (steps made sources met others gone : ℕ) → made ≤ sources + met → 1 ≤ sources → (steps + 1) * sources + steps * met ≤ gone → steps * made + others < others + gone
descends steps made sources met others gone few some least = omega (arith, mul-le-mul_left steps few, some, least)

module _ (s : Stored) (m : StoredMerge) (coherent : IsCoherent s) (begun : IsMergeIn s m) where
  abbrev deepest : ℕ
  deepest = s.manifest.config.levels

  abbrev weight : StoredFile → ℕ
  weight file = (deepest - file.level) * entries_by file

  abbrev stays : StoredFile → Bool
  stays file = is_kept (map (λ (input : StoredFile). input.header.no) (inputs_of m)) file.header

  abbrev gone : StoredFile → Bool
  gone file = not (stays file)

  abbrev lost : StoredFile → ℕ
  lost file = cond (gone file) (weight file) 0

  source_in : (file : StoredFile) → Contains m.sources file → Contains s.files file × (file.level ≡ m.level)
  source_in file there = from_level s.files m.level file (subst (λ files. Contains files file) (sym begun.from) (in_middle m.newer m.sources m.older file there))

  met_in : (file : StoredFile) → Contains m.met file → Contains s.files file × (file.level ≡ m.level + 1)
  met_in file there = from_level s.files (m.level + 1) file (subst (λ files. Contains files file) (sym begun.into) (in_middle m.lower m.met m.higher file there))

  -- what the inputs weigh is lost
  lost_of : (files : List StoredFile) → ((file : StoredFile) → Contains files file → Contains (inputs_of m) file) → sum_by lost files ≡ sum_by weight files
  lost_of [] among = refl
  lost_of (file ∷ files) among =
      let here : lost file ≡ weight file = ap (λ (b : Bool). cond (not (not b)) (weight file) 0) (input_goes s coherent m begun file (among file (first_is file files file refl))) in
      let rest = lost_of files (λ other there. among other (in_rest file files other there)) in
      omega (arith, here, rest, sum_by-cons lost file files, sum_by-cons weight file files)

  lost_least : sum_by weight m.sources + sum_by weight m.met ≤ sum_by weight (filter gone s.files)
  lost_least =
      let levels = two_levels lost m.level s.files in
      let from = ap (sum_by lost) begun.from in
      let into = ap (sum_by lost) begun.into in
      let sources = part_sum lost m.newer m.sources m.older in
      let met = part_sum lost m.lower m.met m.higher in
      let one = lost_of m.sources (λ file there. Contains-append_left m.sources m.met file there) in
      let two = lost_of m.met (λ file there. Contains-append_right m.sources m.met file there) in
      omega (arith, levels, from, into, sources, met, one, two, kept_sum weight gone s.files)

  -- How many entries there are

  at_level : (level : ℕ) (files : List StoredFile) → ((file : StoredFile) → Contains files file → file.level ≡ level) → sum_by weight files ≡ (deepest - level) * sum_by entries_by files
  at_level level files each = scaled (deepest - level) weight entries_by files (all_from (λ file. weight file ≡ (deepest - level) * entries_by file) files (λ file there. ap (λ n. (deepest - n) * entries_by file) (each file there)))

  is_file : (file : StoredFile) → Contains s.files file → IsFile s.manifest.next file
  is_file file there = All-contains (IsFile s.manifest.next) s.files file coherent.each there

  inputs_counted : sum_by entries_by m.sources + sum_by entries_by m.met ≡ length (entries_in (inputs_of m))
  inputs_counted =
      sym (sum_by-append entries_by m.sources m.met)
      ∙ all_counted s.manifest.next (inputs_of m) (all_from (IsFile s.manifest.next) (inputs_of m) (λ file there. is_file file (input_in s coherent m begun file there)))

  -- the inputs have no more entries than all files
  pub inputs_few : length (entries_in (inputs_of m)) ≤ length (entries_in s.files)
  inputs_few =
      let levels = two_levels entries_by m.level s.files in
      let from = ap (sum_by entries_by) begun.from in
      let into = ap (sum_by entries_by) begun.into in
      let sources = part_sum entries_by m.newer m.sources m.older in
      let met = part_sum entries_by m.lower m.met m.higher in
      omega (arith, levels, from, into, sources, met, inputs_counted, all_counted s.manifest.next s.files coherent.each)

  some_source : 1 ≤ sum_by entries_by m.sources
  some_source = by m.sources some (λ file there. some_counted s.manifest.next file (is_file file (source_in file there).0))
    where
      some : m.sources ≢ []
      some none = ⊎_elim (λ zero. zero.2 none) (λ deep. let one = deep.1 in let empty = ap length none in omega (arith, one, empty)) begun.whole

      by : (files : List StoredFile) → files ≢ [] → ((file : StoredFile) → Contains files file → 1 ≤ entries_by file) → 1 ≤ sum_by entries_by files
      by [] some each = absurd (some refl)
      by (file ∷ files) some each = omega (arith, each file (first_is file files file refl), sum_by-cons entries_by file files)

  module _ (t : Stored) (applied : List Pending) (alone : Bool) (upto : ℕ) (is : IsMerged s m applied alone upto t) where
    made_counted : sum_by entries_by is.made ≤ sum_by entries_by m.sources + sum_by entries_by m.met
    made_counted =
        let entries = merged (entries_in (inputs_of m)) applied alone in
        let made = all_counted is.number is.made is.new.each in
        let cut = cut_long s.manifest.config entries is.made is.woven.cut in
        omega (arith, made, cut, length-merged applied alone (entries_in (inputs_of m)), inputs_counted)

    goes_down : steps_down deepest t.files < steps_down deepest s.files
    goes_down =
        let others = others_of s m in
        let new = sum_by-IsPermutation weight (is.made ++ others) t.files is.files in
        let parts = sum_by-append weight is.made others in
        let old = sum_by-filter_both stays gone (λ file. refl) weight s.files in
        let made = at_level (m.level + 1) is.made (λ file there. All-contains (λ (file : StoredFile). file.level ≡ m.level + 1) is.made file is.level there) in
        let sources = at_level m.level m.sources (λ file there. (source_in file there).1) in
        let met = at_level (m.level + 1) m.met (λ file there. (met_in file there).1) in
        let low = begun.level in
        let steps = deepest - (m.level + 1) in
        let more : deepest - m.level ≡ steps + 1 = omega (arith, low) in
        let sources_more : sum_by weight m.sources ≡ (steps + 1) * sum_by entries_by m.sources = sources ∙ ap (λ n. n * sum_by entries_by m.sources) more in
        let least : (steps + 1) * sum_by entries_by m.sources + steps * sum_by entries_by m.met ≤ sum_by weight (filter gone s.files) = omega (arith, lost_least, sources_more, met) in
        let less = descends steps (sum_by entries_by is.made) (sum_by entries_by m.sources) (sum_by entries_by m.met) (sum_by weight others) (sum_by weight (filter gone s.files)) made_counted some_source least in
        omega (arith, new, parts, old, made, less)

-- A job

pub goes_on : (s t : Stored) (task : PlainTask) → IsCoherent s → HasCountedErases s → IsPlanned s task → IsInstalled s task t → jobs_left t < jobs_left s
goes_on s t (Merges task) coherent counted planned is =
    let levels = ap (λ (m : Manifest). steps_down m.config.levels t.files) is.merged_is.manifest in
    let down = goes_down s is.m coherent is.tasked.merge t (erases_upto task.upto (pending_of s)) task.alone task.upto is.merged_is in
    let kept = pairs_kept s (Merges task) t is t.files in
    let stay = pairs_stay s is.m (erases_upto task.upto (pending_of s)) task.alone task.upto t counted planned.counted is.merged_is in
    omega (arith, levels, down, kept, stay)
goes_on s t (Sweeps task) coherent counted planned is =
    let levels = ap (λ (m : Manifest). steps_down m.config.levels t.files) is.swept_is.manifest in
    let up = no_steps_up s coherent is.w task.erase task.alone is.tasked.sweep t is.swept_is s.manifest.config.levels in
    let kept = pairs_kept s (Sweeps task) t is t.files in
    let fall = pairs_fall s coherent is.w task.erase task.alone is.tasked.sweep t is.swept_is in
    omega (arith, levels, up, kept, fall)

-- A job, whatever the places of the erases

-- steps count for more than pairs
falls : (steps before pairs others : ℕ) → steps < before → pairs < 2 ^ 64 → steps * 2 ^ 64 + pairs < before * 2 ^ 64 + others
falls steps before pairs others less few = omega (arith, less, few)

falls_beside : (steps before pairs others : ℕ) → steps ≤ before → pairs < others → steps * 2 ^ 64 + pairs < before * 2 ^ 64 + others
falls_beside steps before pairs others up less = omega (arith, up, less)

pub any_goes_on : (s t : Stored) (task : PlainTask) → IsCoherent s → length (pending_of s) < 2 ^ 32 → IsInstalled s task t → IsCoherent t → jobs_at_most t < jobs_at_most s
any_goes_on s t (Merges task) coherent few is then =
    let levels = ap (λ (m : Manifest). steps_down m.config.levels t.files) is.merged_is.manifest in
    let down = goes_down s is.m coherent is.tasked.merge t (erases_upto task.upto (pending_of s)) task.alone task.upto is.merged_is in
    let fewer = pending_few s (Merges task) t is in
    falls (steps_down t.manifest.config.levels t.files) (steps_down s.manifest.config.levels s.files)
    (unswept_pairs t.files (pending_of t)) (unswept_pairs s.files (pending_of s))
    (subst (λ n. n < steps_down s.manifest.config.levels s.files) (sym levels) down) (pairs_few t.files (pending_of t) (files_few t then) (omega (arith, fewer, few)))
any_goes_on s t (Sweeps task) coherent few is then =
    let levels = ap (λ (m : Manifest). steps_down m.config.levels t.files) is.swept_is.manifest in
    let up = no_steps_up s coherent is.w task.erase task.alone is.tasked.sweep t is.swept_is s.manifest.config.levels in
    let kept = pairs_kept s (Sweeps task) t is t.files in
    let fall = pairs_fall s coherent is.w task.erase task.alone is.tasked.sweep t is.swept_is in
    falls_beside (steps_down t.manifest.config.levels t.files) (steps_down s.manifest.config.levels s.files)
    (unswept_pairs t.files (pending_of t)) (unswept_pairs s.files (pending_of s))
    (subst (λ n. n ≤ steps_down s.manifest.config.levels s.files) (sym levels) up) (omega (arith, kept, fall))
