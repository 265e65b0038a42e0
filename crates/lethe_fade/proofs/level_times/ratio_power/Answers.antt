use Rattle.std.proofs.Common.{◌≡◌, ◌≤◌, ◌^◌, ◌∙◌, ap, arith}
use Rattle.lethe_base.specs.declared.config.Fields.{Fields}
use Rattle.lethe_fade.proofs.Powers.{ratio_power_limits}
use Rattle.lethe_fade.proofs.level_times.ratio_power.Goals as goal

pub pow-requires : goal.pow-requires
pow-requires c =
    let same : c.from.result ≡ c.args.config.now.ratio = c.from.ensures ∙ ap (λ (f : Fields). f.ratio) c.fields-fields.ensures.fields in
    let limits : c.args.config.now.ratio ^ c.args.exponent ≤ 2 ^ 24 = (ratio_power_limits c.args.config.now c.args.exponent c.fields-fields.ensures.limits c.requires).1 in
    rw same (omega (arith, limits))

pub returns-clause-least : goal.returns-clause-least
returns-clause-least c =
    let same : c.from.result ≡ c.args.config.now.ratio = c.from.ensures ∙ ap (λ (f : Fields). f.ratio) c.fields-fields.ensures.fields in
    let limits : 1 ≤ c.args.config.now.ratio ^ c.args.exponent = (ratio_power_limits c.args.config.now c.args.exponent c.fields-fields.ensures.limits c.requires).0 in
    omega (arith, limits, c.pow.ensures ∙ ap (λ r. r ^ c.args.exponent) same)

pub returns-clause-greatest : goal.returns-clause-greatest
returns-clause-greatest c =
    let same : c.from.result ≡ c.args.config.now.ratio = c.from.ensures ∙ ap (λ (f : Fields). f.ratio) c.fields-fields.ensures.fields in
    let limits : c.args.config.now.ratio ^ c.args.exponent ≤ 2 ^ 24 = (ratio_power_limits c.args.config.now c.args.exponent c.fields-fields.ensures.limits c.requires).1 in
    omega (arith, limits, c.pow.ensures ∙ ap (λ r. r ^ c.args.exponent) same)
