-- The test in front of `clap`.
use Rattle.std.specs.Prelude.{◌==◌, ◌&&◌, Bool, true, false, List, [], ◌∷◌, if◌then◌else◌, codes}
use Rattle.std.specs.List.{list_all}
use Rattle.std.specs.Str.{bytes_eq}
use Rattle.lethe_base.specs.Keys.{Bytes}
use Rattle.lethe_words.specs.Options.{is_plain}

-- a hyphen (45), and more behind it
abbrev pub goes_on : Bytes → Bool
goes_on [] = false
goes_on (first ∷ []) = false
goes_on (first ∷ next ∷ rest) = first == 45

-- the word begins with no hyphen, or with two and more behind them
abbrev pub is_clear : Bytes → Bool
is_clear [] = true
is_clear (first ∷ rest) = if first == 45 then goes_on rest else true

abbrev pub may_load : List Bytes → Bool
may_load [] = false
may_load (seed ∷ []) = false
may_load (seed ∷ rounds ∷ words) = is_plain seed && (is_plain rounds && list_all is_clear words)

-- `run` and clear words, or `load`, two plain words and clear ones
abbrev pub may_be_read : List Bytes → Bool
may_be_read [] = false
may_be_read (command ∷ words) =
    if bytes_eq command (codes "run") then list_all is_clear words else if bytes_eq command (codes "load") then may_load words else false
