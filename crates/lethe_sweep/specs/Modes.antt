-- How a tile is swept.
use Rattle.std.specs.Prelude.{◌&&◌, ◌||◌, Bool, true, false, not, List, if◌then◌else◌}
use Rattle.lethe_base.specs.Ranges.{Ends}
use Rattle.lethe_header.specs.Headers.{is_puts}
use Rattle.lethe_header.specs.declared.header.PageLine.{PageLine}
use Rattle.lethe_sweep.specs.Fences.{is_inside, is_met, meets}
use Rattle.lethe_sweep.specs.declared.fence.Mode.{Mode}
use Rattle.lethe_sweep.specs.declared.fence.Mode.TheVariants.{Alone, Met, Whole}

abbrev pub mode_of : Bool → Ends → List PageLine → Mode
mode_of true range lines = Alone
mode_of false range lines = if is_met range lines then Met else Whole

abbrev pub is_alone : Mode → Bool
is_alone Alone = true
is_alone Met = false
is_alone Whole = false

-- the page is fetched, as `is_fetched` says of its tile
abbrev pub is_fetched_in : Mode → Ends → PageLine → Bool
is_fetched_in Alone range line = meets range line && not (is_inside range line)
is_fetched_in Met range line = meets range line || not (is_puts line.class)
is_fetched_in Whole range line = false
