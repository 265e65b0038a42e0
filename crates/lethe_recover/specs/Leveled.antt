-- Files by the levels in which a manifest cites them.
use Rattle.std.specs.Prelude.{ℕ, ◌==◌, List, map, filter, zip}
use Rattle.lethe_manifest.specs.declared.manifest.Cited.{Cited}

-- of files that are cited so, in their order, those of a level
abbrev pub files_at : {F : Type 0} → ℕ → List Cited → List F → List F
files_at level cited files = map (λ pair. pair.1) (filter (λ pair. pair.0.level == level) (zip cited files))
