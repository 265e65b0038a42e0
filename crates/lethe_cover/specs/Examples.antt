-- The smallest merge, which shows that the words of moves fit together.
use Rattle.std.specs.Prelude.{[], ◌∷◌}
use Rattle.lethe_base.specs.Layout.{File}
use Rattle.lethe_cover.specs.Moves.{Move}

-- level 0's only file becomes one of a level 1 that was empty
abbrev pub first_merge : File → File → Move
first_merge file made = record {
  above = [];
  here = (file ∷ []) ∷ [];
  next = [] ∷ [];
  below = [];
  here_then = [];
  next_then = (made ∷ []) ∷ [];
  taken = file ∷ [];
  made = made ∷ [];
}
