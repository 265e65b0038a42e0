-- The smallest store with a value, which shows that the words of layouts fit together.
use Rattle.std.specs.Prelude.{ℕ, [], ◌∷◌, None}
use Rattle.lethe_base.specs.Keys.{Bytes}
use Rattle.lethe_base.specs.History.{History}
use Rattle.lethe_base.specs.Layout.{Layout, Written, new_layout}
use Rattle.lethe_base.specs.declared.call.Call.TheVariants.{Put}
use Rattle.lethe_base.specs.declared.call.Did.TheVariants.{Done}
use Rattle.lethe_base.specs.declared.entry.Body.TheVariants as body

-- a put, and nothing else
abbrev pub put_alone : ℕ → Bytes → ℕ → Bytes → History
put_alone caller key dkey value = record { caller = caller; call = Put key dkey value; did = Done } ∷ []

-- a new store with the record of a put
abbrev pub with_put : ℕ → Bytes → ℕ → Bytes → Layout
with_put levels key dkey value = record (new_layout levels) { count = 1; active = Written (record { seq = 1; key = key; body = body.Put dkey value; since = None }) ∷ [] }
