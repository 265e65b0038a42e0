-- The files that a flush or a merge makes of entries, woven by a configuration.
use Rattle.std.specs.Prelude.{ℕ, List, map, AllPairs}
use Rattle.lethe_base.specs.Layout.{File}
use Rattle.lethe_base.specs.declared.config.Fields.{Fields}
use Rattle.lethe_base.specs.declared.entry.Entry.{Entry}
use Rattle.lethe_moves.specs.Made.{AreMade}
use Rattle.lethe_moves.specs.Merges.{IsBelow}
use Rattle.lethe_header.specs.Woven.{joined, IsCut, IsWoven}

-- the files, one after another, have the tiles that the entries are woven into, each as many as a file may have, but for the last
pub record AreCutOf (fields : Fields) (entries : List Entry) (files : List File) : Type 0 where
  pub woven : IsWoven fields entries (joined (map (λ file. file.tiles) files))
  pub lengths : IsCut fields.file (map (λ file. file.tiles) files)

-- the files have these entries, woven by the configuration, in the order of their keys, and are swept up to a place
pub record AreWovenOf (fields : Fields) (entries : List Entry) (upto : ℕ) (files : List File) : Type 0 where
  pub made : AreMade entries upto files
  pub cut : AreCutOf fields entries files
  pub ascending : AllPairs IsBelow files
