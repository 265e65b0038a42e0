use Rattle.std.proofs.Common.{◌≤◌, ap, arith}
use Rattle.lethe_base.specs.declared.config.Fields.{Fields}
use Rattle.lethe_fade.proofs.Powers.{power_above}
use Rattle.lethe_fade.proofs.level_times.cum.Goals as goal

pub nonzero_div-result : goal.nonzero_div-result
nonzero_div-result c =
    let limits = c.fields.ensures.limits in
    let some : 1 ≤ c.fields-2.result.now.levels = omega (arith, limits.levels.0, ap (λ (f : Fields). f.levels) c.fields-2.ensures.fields) in
    omega (arith, power_above c.args.config.now.ratio c.fields-2.result.now.levels limits.ratio.0 some, c.ratio_power-whole.ensures.power)
