use Rattle.std.proofs.Common.{◌++◌, ◌*◌, ◌≤◌, length, arith}
use Rattle.std.specs.Prelude.{map, sum_by}
use Rattle.lethe_base.specs.Limits.{max_place}
use Rattle.lethe_build.specs.Built.{most_numbers}
use Rattle.lethe_build.specs.Drafts.{AreDraftsOf, header_of, numbers_for}
use Rattle.lethe_merge.specs.Merge.{merged}
use Rattle.lethe_version.specs.Versions.{files_of}
use Rattle.lethe_recover.specs.Flushing.{AreDraftsOfRecords}
use Rattle.lethe_recover.proofs.Drafted.{few_records}
use Rattle.lethe_flush.proofs.Results.{ok_both, ok_weaker}
use Rattle.lethe_recover.proofs.flushing.drafts_of_records.Goals as goal

pub returns-clause-made : goal.returns-clause-made
returns-clause-made g c =
    let entries = c.in_ok-buffer.buffer.entries in
    ok_both c.flush_drafts.result (λ drafts. AreDraftsOf c.args.config.now (merged entries c.args.erases.now c.is_clear-alone.result) drafts.items) (λ drafts. sum_by numbers_for drafts.items ≤ most_numbers (length entries))
    (λ drafts. AreDraftsOfRecords c.args.config.now c.args.records c.args.erases.now (map (λ file. file.header) (files_of c.args.version.now) ++ map (λ draft. header_of 0 draft.tiles) c.args.more.now) drafts.items)
    c.flush_drafts.ensures.drafts c.flush_drafts.ensures.few (λ drafts are few.
    let long = c.in_ok-buffer.ensures.few in
    record {
      for = record { entries = entries; ascending = c.in_ok-buffer.buffer.ascending; newest = c.in_ok-buffer.ensures.newest; alone = c.is_clear-alone.result; are = are; few = omega (arith, few, long) };
      clear = c.is_clear-alone.ensures;
    })

pub returns-clause-few : goal.returns-clause-few
returns-clause-few g c =
    let long = c.in_ok-buffer.ensures.few in
    let short = few_records c.args.records c.requires.ascends in
    ok_weaker c.flush_drafts.result (λ drafts. sum_by numbers_for drafts.items ≤ most_numbers (length c.in_ok-buffer.buffer.entries)) (λ drafts. sum_by numbers_for drafts.items ≤ 2 * max_place) c.flush_drafts.ensures.few
    (λ drafts few. omega (arith, few, long, short))
