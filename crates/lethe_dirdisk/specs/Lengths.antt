-- How long objects may be.
use Rattle.std.specs.Prelude.{ℕ}
use Rattle.lethe_base.specs.declared.name.Kind.{Kind}
use Rattle.lethe_base.specs.declared.name.Kind.TheVariants.{Gate, Manifest, Segment, File, Page}

-- A longer object isn't written, and of a longer one no more is read. Each is above what the limits of a configuration let an object be, but a
-- manifest's, which has no such limit: this one has room for more than five million files.
abbrev pub longest : Kind → ℕ
longest Gate = 0
longest Manifest = 268435456
longest Segment = 134217728
longest File = 33554432
longest Page = 33554432
