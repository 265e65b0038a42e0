-- The order that a store keeps in its files.
use Rattle.std.specs.Prelude.{◌≤◌, length, All}
use Rattle.lethe_base.specs.Layout.{Layout, files_of}
use Rattle.lethe_base.specs.Shapes.{IsValidShape, shape_of}
use Rattle.lethe_moves.specs.Files.{IsTiled}

pub record IsOrdered (l : Layout) : Type 0 where
  pub tiled : All IsTiled (files_of l)
  -- behind level 0 the files of a level ascend and share no key, and the last level has nothing to remember
  pub shape : IsValidShape (shape_of l)
  -- there is a level behind level 0
  pub deep : 2 ≤ length l.levels
