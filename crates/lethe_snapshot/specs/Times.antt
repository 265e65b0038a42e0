-- The least of some times.
use Rattle.std.specs.Prelude.{◌≡◌, ◌⊎◌, ℕ, ◌+◌, ◌≤◌, min, List, Any, Some}
use Rattle.lethe_header.specs.declared.header.TileLine.{TileLine}
use Rattle.lethe_state.specs.Left.{left_with}
use Rattle.lethe_state.specs.declared.state.State.{State}
use Rattle.lethe_stored.specs.Files.{Parts}

-- it is the least of a time that is given and of all times that something has
pub record IsLeast (given : ℕ) (Has : ℕ → Type 0) (least : ℕ) : Type 0 where
  pub upto : least ≤ given
  pub each : (time : ℕ) → Has time → least ≤ time
  pub one : (least ≡ given) ⊎ Has least

-- it is the least time of the entries of a page of one of the tiles, as the page's line says
abbrev pub IsOldestIn : List TileLine → ℕ → Type 0
IsOldestIn tiles time = Any (λ tile. Any (λ line. line.oldest ≡ Some time) tile.pages) tiles

-- It is remembered of an obligation: as the least time of a segment's records, as that of an erase that is still to be done, or as that of a page, in its line.
abbrev pub IsRemembered : State → List (List Parts) → ℕ → Type 0
IsRemembered state levels time = (state.oldest ≡ Some time) ⊎ (state.frozen_oldest ≡ Some time) ⊎ Any (λ erase. erase.time ≡ time) (left_with state)
    ⊎ Any (λ files. Any (λ parts. IsOldestIn parts.header.tiles time) files) levels

-- the greatest number of a word, which a sum that doesn't fit stays at
abbrev pub max_word : ℕ
max_word = 18446744073709551615

-- on any disk: a threshold later than the clock, or than the least of those times where that is earlier, as far as a number goes
pub record IsLimitBy (state : State) (levels : List (List Parts)) (limit : ℕ) : Type 0 where
  pub time : ℕ
  pub least : IsLeast state.manifest.clock (IsRemembered state levels) time
  pub later : limit ≡ min (state.manifest.config.threshold + time) max_word
