use Rattle.std.proofs.Common.{◌≡◌, Bool, true, sym, ◌∙◌}
use Rattle.std.specs.Ordering.{is_le}
use Rattle.lethe_base.specs.Keys.{Bytes, key_cmp}
use Rattle.lethe_header.specs.Facts.{least_key, greatest_key}
use Rattle.lethe_job.specs.Tasks.{plain_file}
use Rattle.lethe_job.proofs.Listed.{any_here}
use Rattle.lethe_stored.specs.Files.{StoredFile}
use Rattle.lethe_install.proofs.inputs.is_reached.Goals as goal

told : (a b low high : Bytes) → a ≡ low → b ≡ high → (told : Bool) → told ≡ is_le (key_cmp a b) → told ≡ true → is_le (key_cmp low high) ≡ true
told a b low high is_low is_high test is passes = sym (λ i. is_le (key_cmp (is_low i) (is_high i))) ∙ sym is ∙ passes

pub returns-then-le : goal.returns-then-le
returns-then-le g c =
    let file : StoredFile = plain_file c.args.file.now in
    any_here plain_file (λ (source : StoredFile). is_le (key_cmp (least_key file.header.tiles) (greatest_key source.header.tiles))) c.args.sources.now c.loop-source.source-index c.source-item.result
    c.loop-source-test.true c.source-item.is (told c.lo.result.now c.hi.result.now (least_key file.header.tiles) (greatest_key (plain_file c.source-item.result).header.tiles) c.lo.ensures c.hi.ensures c.le.result c.le.ensures c.if-le.true)
