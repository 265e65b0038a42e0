use Rattle.std.proofs.Common.{rules}
use Rattle.std.specs.Ordering.{is_lt}
use Rattle.std.proofs.lemmas.Fn.{always_returns_same}
use Rattle.lethe_base.specs.Keys.{key_cmp}
use Rattle.lethe_header.specs.Facts.{greatest_key}
use Rattle.lethe_version.proofs.Rising.{narrowed_all, narrowed_there}
use Rattle.lethe_version.proofs.level.Level.candidates.Goals as goal

pub returns-then-not-self : goal.returns-then-not-self
returns-then-not-self g c = narrowed_all (λ shared. shared.file.value.header) c.args.key.now c.args.self.now.files.items c.deref.result.now c.deref.ensures.value

pub returns : goal.returns
returns g c =
    let key = c.args.key.now in
    narrowed_there (λ shared. shared.file.value.header) (λ shared. shared.file.value.spelled) c.args.self.now.files.items (c.args.self.now.rising c.if-not-self.false) key c.partition_point-place.result
    c.split_at-2.result.0.now c.deref-2.result.now c.deref-3.result.now c.split_at.result.1.now c.min.result c.deref-2.ensures.value
    (λ parted. c.partition_point-place.ensures.partitioned (λ shared. is_lt (key_cmp (greatest_key shared.file.value.header.tiles) key)) (always_returns_same _ _ _ (λ a r g called. search rules)) parted)
    c.deref-3.ensures.value c.split_at.ensures.back c.min.ensures c.split_at-2.ensures.front
