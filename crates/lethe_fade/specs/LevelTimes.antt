-- The level deadline: by what age an entry has to have left a level, each level having `ratio` times the time of the one above.
use Rattle.std.specs.Prelude.{◌≡◌, ℕ, ◌+◌, ◌-◌, ◌*◌, ◌/◌, ◌^◌, ◌≤◌}
use Rattle.lethe_base.specs.Configuration.{IsConfig}
use Rattle.lethe_base.specs.declared.config.Fields.{Fields}

-- of a level above the last: the threshold's part that the levels down to it have of all levels' time, rounded down
abbrev pub level_deadline : Fields → ℕ → ℕ
level_deadline fields level = fields.threshold * (fields.ratio ^ (level + 1) - 1) / (fields.ratio ^ fields.levels - 1)

pub record DeadlinesRise (fields : Fields) : Type 0 where
  pub rise : (level deeper : ℕ) → level ≤ deeper → level_deadline fields level ≤ level_deadline fields deeper
  -- all levels' times together are the threshold
  pub whole : level_deadline fields (fields.levels - 1) ≡ fields.threshold

abbrev pub AllDeadlinesRise : Type 0
AllDeadlinesRise = (fields : Fields) → IsConfig fields → DeadlinesRise fields
