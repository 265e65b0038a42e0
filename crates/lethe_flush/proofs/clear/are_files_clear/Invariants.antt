use Rattle.std.proofs.Common.{ℕ, ◌<◌, All, slice_index_or}
use Rattle.lethe_advance.specs.Versions.{levels_of}
use Rattle.lethe_flush.specs.Clear.{IsClearOf}
use Rattle.lethe_flush.proofs.clear.are_files_clear.Given as goal

-- the levels so far are clear
abbrev pub invariant-loop-level : goal.invariant-loop-level
invariant-loop-level g l = (k : ℕ) (files : _) → k < l.level → All (λ file. IsClearOf (record { lo = l.lo; hi = l.hi }) file.header) (slice_index_or (levels_of l.version) k files)
