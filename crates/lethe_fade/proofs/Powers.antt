-- Powers of a ratio from 2 to 16, up to the greatest number of levels.
use Rattle.std.proofs.Common.{ℕ, ◌≡◌, ◌<◌, ◌≤◌, ◌+◌, ◌-◌, ◌/◌, ◌^◌, ◌∙◌, arith, lit≤}
use Rattle.lethe_base.specs.Configuration.{IsConfig}
use Rattle.lethe_base.specs.declared.config.Fields.{Fields}
use Rattle.lethe_fade.specs.LevelTimes.{AllDeadlinesRise}
use Rattle.std.proofs.Math.Nat.{div-mul-le_self, le-div_iff_mul-le, mul-div_left, pow-zero, pow-suc, le_trans, one-le-pow, pow-le-pow_left, pow-le-pow_right, mul-le-mul_left}

power_least : (r e : ℕ) → 2 ≤ r → 1 ≤ r ^ e
power_least r e two = one-le-pow e r (omega arith)

power_greatest : (r e : ℕ) → 2 ≤ r → r ≤ 16 → e ≤ 6 → r ^ e ≤ 2 ^ 24
power_greatest r e two most six = le_trans (pow-le-pow_left most e) (let top : 16 ^ e ≤ 16 ^ 6 = pow-le-pow_right (lit≤ tt) six in top)

-- a power is above 1 where it isn't the first
pub power_above : (r e : ℕ) → 2 ≤ r → 1 ≤ e → 2 ≤ r ^ e
power_above r e two one =
    let first : r ^ 1 ≤ r ^ e = pow-le-pow_right (let some : 0 < r = omega arith in some) one in
    let same : r ^ 1 ≡ r = pow-suc r 0 ∙ rw (pow-zero r) (omega arith) in
    omega arith

-- a ratio of a configuration
pub ratio_power_limits : (f : Fields) (e : ℕ) → IsConfig f → e ≤ f.levels → (1 ≤ f.ratio ^ e) × (f.ratio ^ e ≤ 2 ^ 24)
ratio_power_limits f e limits h =
    (power_least f.ratio e limits.ratio.0, power_greatest f.ratio e limits.ratio.0 limits.ratio.1 (omega (arith, limits.levels.1)))

quotients_rise : (a b whole : ℕ) → 0 < whole → a ≤ b → a / whole ≤ b / whole
quotients_rise a b whole some h = (le-div_iff_mul-le some).1 (le_trans (div-mul-le_self a whole) h)

pub deadlines_rise : AllDeadlinesRise
deadlines_rise f limits =
    let above : 2 ≤ f.ratio ^ f.levels = power_above f.ratio f.levels limits.ratio.0 limits.levels.0 in
    record {
      rise = λ level deeper h.
          let powers : f.ratio ^ (level + 1) ≤ f.ratio ^ (deeper + 1) = pow-le-pow_right (let some : 0 < f.ratio = omega (arith, limits.ratio.0) in some) (omega arith) in
          let parts : f.ratio ^ (level + 1) - 1 ≤ f.ratio ^ (deeper + 1) - 1 = omega arith in
          quotients_rise _ _ (f.ratio ^ f.levels - 1) (omega arith) (mul-le-mul_left f.threshold parts);
      whole =
          let last : f.levels - 1 + 1 ≡ f.levels = omega (arith, limits.levels.0) in
          let some : 0 < f.ratio ^ f.levels - 1 = omega arith in
          rw last (mul-div_left f.threshold some);
    }
