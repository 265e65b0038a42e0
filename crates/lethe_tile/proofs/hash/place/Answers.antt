use Rattle.std.proofs.Common.{ℕ, ◌/◌, ◌*◌, ◌^◌, ◌<◌, ◌≤◌, bit_or, arith}
use Rattle.std.proofs.lemmas.Nat.{or_lt}
use Rattle.std.proofs.Math.Nat.{mul-le-mul_left}
use Rattle.lethe_tile.proofs.hash.place.Goals as goal

-- the step of a hash has 32 bits
short : (hash : ℕ) → hash < 2 ^ 64 → bit_or (hash / 2 ^ 32) 1 < 2 ^ 32
short hash fits = or_lt 32 (hash / 2 ^ 32) 1 (omega arith) (omega arith)

far : (probe hash : ℕ) → hash < 2 ^ 64 → probe * bit_or (hash / 2 ^ 32) 1 ≤ probe * 2 ^ 32
far probe hash fits = mul-le-mul_left probe (let h : bit_or (hash / 2 ^ 32) 1 < 2 ^ 32 = short hash fits in omega arith)

pub overflow_mul-result : goal.overflow_mul-result
overflow_mul-result c = omega (arith, far c.args.probe c.args.hash c.ranges.hash.fits)

pub overflow_add-result : goal.overflow_add-result
overflow_add-result c = omega (arith, far c.args.probe c.args.hash c.ranges.hash.fits)
