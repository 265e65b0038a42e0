-- The map, the clock and the count that a directory means.
use Rattle.std.specs.Prelude.{◌≡◌, ◌⊎◌, ℕ, None}
use Rattle.std.specs.FinMap as finmap
use Rattle.lethe_base.specs.History.{Map}
use Rattle.lethe_base.specs.Held.{Holds}
use Rattle.lethe_base.specs.SameMap.{IsMap}
use Rattle.lethe_base.specs.declared.entry.Entry.{Entry}
use Rattle.lethe_disk.specs.Directory.{Directory}
use Rattle.lethe_commit.specs.Switch.{HasGreatest}
use Rattle.lethe_stored.specs.Stored.{Stored, IsCoherent, layout_of, pending_of, count_of}
use Rattle.lethe_stored.specs.Encodes.{Encodes}

pub record Meaning : Type 0 where
  pub map : Map
  pub clock : ℕ
  pub count : ℕ

abbrev pub nothing : Meaning
nothing = record { map = finmap.empty; clock = 0; count = 0 }

-- an entry of the files, or of the records of the journal
abbrev pub IsHeld : Stored → Entry → Type 0
IsHeld s entry = (swept : ℕ) × Holds (layout_of s) entry swept

-- of each key the entry of greatest place counts, where the erases of the manifest and of the records are applied
pub record MeansAs (s : Stored) (meaning : Meaning) : Type 0 where
  pub map : IsMap (IsHeld s) (pending_of s) meaning.map
  pub clock : meaning.clock ≡ s.manifest.clock
  pub count : meaning.count ≡ count_of s

-- without a gate nothing, and else what the greatest gate commits
abbrev pub Means : Directory → Meaning → Type 0
Means d meaning = (HasGreatest None d × (meaning ≡ nothing)) ⊎ ((s : Stored) × IsCoherent s × Encodes d s × MeansAs s meaning)
