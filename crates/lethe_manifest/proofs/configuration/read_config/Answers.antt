use Rattle.std.proofs.Common.{arith, sym}
use Rattle.lethe_manifest.proofs.ConfigLaws.{config_ok}
use Rattle.lethe_manifest.proofs.configuration.read_config.Goals as goal

-- what was read of the fields keeps their limits
pub unwrap-requires : goal.unwrap-requires
unwrap-requires c = c.new.ensures.exact.1 (config_ok c.args.bytes.now c.in_ok-fields.fields (λ i. omega (arith, c.type_inv.bytes i)) (sym c.in_ok-fields.ensures)).1
