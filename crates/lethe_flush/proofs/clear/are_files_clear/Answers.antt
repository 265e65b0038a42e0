use Rattle.std.proofs.Common.{sym, ◌∙◌, arith, refl}
use Rattle.lethe_advance.specs.Versions.{levels_of}
use Rattle.lethe_flush.specs.Clear.{IsClearOf}
use Rattle.lethe_flush.proofs.Clearness.{level_more, level_of_all, all_levels}
use Rattle.lethe_flush.proofs.clear.are_files_clear.Goals as goal

pub returns-then-not-is_level_clear : goal.returns-then-not-is_level_clear
returns-then-not-is_level_clear g c = (
  (λ no. absurd cc),
  λ all. sym c.if-not-is_level_clear.true ∙ c.is_level_clear.ensures.1
      (level_of_all (λ file. IsClearOf (record { lo = c.args.lo.now; hi = c.args.hi.now }) file.header) (λ shared. shared.file.value) (levels_of c.args.version.now) c.loop-level.level c.files.result.now c.files.ensures
      (omega (arith, c.loop-level-test.true, c.levels-level-end.ensures)) all),
)

pub loop-level-preserved : goal.loop-level-preserved
loop-level-preserved g c =
    level_more (λ file. IsClearOf (record { lo = c.args.lo.now; hi = c.args.hi.now }) file.header) (λ shared. shared.file.value) (levels_of c.args.version.now) c.loop-level.level c.files.result.now c.files.ensures
    c.loop-level.invariant (c.is_level_clear.ensures.0 c.if-not-is_level_clear.false)

pub returns : goal.returns
returns g c = (
  (λ yes. all_levels (λ file. IsClearOf (record { lo = c.args.lo.now; hi = c.args.hi.now }) file.header) (levels_of c.args.version.now) c.loop-level.level (omega (arith, c.loop-level-test.false, c.levels-level-end.ensures)) c.loop-level.invariant),
  λ all. refl,
)
