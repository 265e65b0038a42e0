use Rattle.std.proofs.Common.{◌≤◌, ◌<◌, ◌+◌, ◌-◌, ◌^◌, length, take, get_or, [], min, sym, ap, ◌∙◌, arith}
use Rattle.std.specs.Prelude.{sum_by, flat_map}
use Rattle.std.proofs.lemmas.List.{take_all, length-map}
use Rattle.lethe_base.specs.History.{State}
use Rattle.lethe_advance.specs.Shown.{parts_by_level}
use Rattle.lethe_header.specs.Facts.{lines_of, tombs_in}
use Rattle.lethe_manifest.specs.declared.manifest.Manifest.{Manifest}
use Rattle.lethe_version.specs.Versions.{levels_of}
use Rattle.lethe_engine.specs.Capped.{capped}
use Rattle.lethe_engine.proofs.Counting.{capped_more, capped_sum, count_files, count_tombs, length_more, sum_by-map, sum_more}
use Rattle.lethe_core.proofs.Histories.{after_without}
use Rattle.lethe_engine.proofs.engine.Engine.stat.Goals as goal

pub loop-level-preserved : goal.loop-level-preserved
loop-level-preserved g c =
    let levels = levels_of c.args.self.now.core.version in
    let i = c.loop-level.level in
    let within : i < length levels = omega (arith, c.loop-level-test.true, c.levels-level-end.ensures) in
    let shared = c.files.result.now in
    let its = c.files.ensures [] in
    let before = flat_map (λ files. files) (take i levels) in
    let here = get_or levels i [] in
    record {
      files = c.saturating_add-files.ensures
          ∙ ap (λ n. min (n + c.counts_of-more.result.0) (2 ^ 64 - 1)) c.loop-level.invariant.files
          ∙ ap (λ n. min (capped (length before) + n) (2 ^ 64 - 1)) (c.counts_of-more.ensures.files ∙ sym (length-map shared (λ one. one.file.value)) ∙ ap length its)
          ∙ capped_more (length before) (length here) ∙ ap capped (sym (length_more levels i within));
      tombs = c.saturating_add-tombs.ensures
          ∙ ap (λ n. min (n + c.counts_of-more.result.1) (2 ^ 64 - 1)) c.loop-level.invariant.tombs
          ∙ ap (λ n. min (capped (sum_by (λ file. tombs_in (lines_of file.header.tiles)) before) + n) (2 ^ 64 - 1))
          (c.counts_of-more.ensures.tombs ∙ ap capped (sym (sum_by-map (λ file. tombs_in (lines_of file.header.tiles)) (λ one. one.file.value) shared) ∙ ap (sum_by (λ file. tombs_in (lines_of file.header.tiles))) its))
          ∙ capped_sum (sum_by (λ file. tombs_in (lines_of file.header.tiles)) before) (sum_by (λ file. tombs_in (lines_of file.header.tiles)) here)
          ∙ ap capped (sym (sum_more levels i within (λ file. tombs_in (lines_of file.header.tiles))));
    }

pub returns-clause-stat : goal.returns-clause-stat
returns-clause-stat g c = λ config h stands.
    ap (λ (m : Manifest). m.clock) (c.manifest.ensures ∙ stands.remembers.manifest) ∙ stands.stands.clock ∙ ap (λ (st : State). st.clock) (after_without h)

pub returns-clause-files : goal.returns-clause-files
returns-clause-files g c =
    let levels = levels_of c.args.self.now.core.version in
    let all : length levels ≤ c.loop-level.level = omega (arith, c.loop-level-test.false, c.levels-level-end.ensures) in
    c.loop-level.invariant.files ∙ ap (λ l. capped (length (flat_map (λ files. files) l))) (take_all c.loop-level.level levels all)

pub returns-clause-tombs : goal.returns-clause-tombs
returns-clause-tombs g c =
    let levels = levels_of c.args.self.now.core.version in
    let all : length levels ≤ c.loop-level.level = omega (arith, c.loop-level-test.false, c.levels-level-end.ensures) in
    c.loop-level.invariant.tombs ∙ ap (λ l. capped (sum_by (λ file. tombs_in (lines_of file.header.tiles)) (flat_map (λ files. files) l))) (take_all c.loop-level.level levels all)

pub returns-clause-shape : goal.returns-clause-shape
returns-clause-shape g c = λ s is.
    let version = c.args.self.now.core.version in
    let levels = levels_of version in
    let all : length levels ≤ c.loop-level.level = omega (arith, c.loop-level-test.false, c.levels-level-end.ensures) in
    let whole = take_all c.loop-level.level levels all in
    record {
      pending = c.left_count.ensures.left s (parts_by_level version) is;
      files = c.loop-level.invariant.files ∙ ap (λ l. capped (length (flat_map (λ files. files) l))) whole ∙ ap capped (count_files version s is.coherent is.files);
      tombs = c.loop-level.invariant.tombs ∙ ap (λ l. capped (sum_by (λ file. tombs_in (lines_of file.header.tiles)) (flat_map (λ files. files) l))) whole
          ∙ ap capped (count_tombs version s is.coherent is.files);
    }
