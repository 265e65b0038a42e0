-- Reading numbers, and what a reader gives.
use Rattle.std.specs.Prelude.{◌≡◌, ℕ, nat_lt, List, Result, Ok, Err, ok_or, if◌then◌else◌}
use Rattle.std.specs.Int.{Width, w64, is_in_range}
use Rattle.lethe_base.specs.Limits.{max_place}
use Rattle.lethe_base.specs.Numbers.{number_at}
use Rattle.lethe_base.specs.Results.{◌>>=◌}
use Rattle.lethe_manifest.specs.declared.refused.ManifestRefused.{ManifestRefused}
use Rattle.lethe_manifest.specs.declared.refused.ManifestRefused.TheVariants.{Short, Kind, Order, Trailing, NoMemory}

-- it was refused as reading refuses it, unless memory ran out
abbrev pub IsRefused : {A : Type 0} → ManifestRefused → Result A ManifestRefused → Type 0
IsRefused (Short at) read = read ≡ Err (Short at)
IsRefused (Kind at) read = read ≡ Err (Kind at)
IsRefused (Order at) read = read ≡ Err (Order at)
IsRefused (Trailing at) read = read ≡ Err (Trailing at)
IsRefused NoMemory read = Unit {0}

-- a function returned what reading gives, unless memory ran out
abbrev pub Gives : {A : Type 0} → Result A ManifestRefused → Result A ManifestRefused → Type 0
Gives (Ok x) read = read ≡ Ok x
Gives (Err why) read = IsRefused why read

-- a number that was read at a place, where it is in its range
abbrev pub in_place : ℕ → ℕ → ℕ → ℕ → Result ℕ ManifestRefused
in_place least greatest at n = if is_in_range least greatest n then Ok n else Err (Kind at)

unfoldable pub number_within : Width → ℕ → ℕ → List ℕ → ℕ → Result ℕ ManifestRefused
number_within w least greatest bytes at = do
  n ← ok_or (number_at w bytes at) (Short at)
  in_place least greatest at n

-- a number in its range that is above a bound
unfoldable pub number_above : ℕ → ℕ → ℕ → List ℕ → ℕ → Result ℕ ManifestRefused
number_above bound least greatest bytes at = do
  n ← number_within w64 least greatest bytes at
  if nat_lt bound n then Ok n else Err (Order at)

-- the number of an object, which the next is above
unfoldable pub cited_at : ℕ → List ℕ → ℕ → Result ℕ ManifestRefused
cited_at next bytes at = do
  n ← number_within w64 0 max_place bytes at
  if nat_lt n next then Ok n else Err (Order at)
