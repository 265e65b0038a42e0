-- What the word `run` asks for.
use Rattle.std.proofs.Common.{◌≡◌, [], ◌∷◌, Some, refl}
use Rattle.std.specs.Prelude.{codes}
use Rattle.lethe_base.specs.Configuration.{default_fields}
use Rattle.lethe_run.specs.Asked.{config_of, configured, fields_of}

pub asks_for_defaults : config_of (codes "run" ∷ []) ≡ Some default_fields
unfolding config_of configured fields_of
asks_for_defaults = refl
