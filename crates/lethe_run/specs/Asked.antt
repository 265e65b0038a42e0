-- Which configuration the words of a command ask for.
use Rattle.std.specs.Prelude.{ℕ, ◌%◌, Bool, true, ◌&&◌, ◌==◌, List, [], ◌∷◌, length, find, Option, Some, None, is_none, option_map, if◌then◌else◌, codes}
use Rattle.std.specs.List.{list_any}
use Rattle.std.specs.Result.{result_ok}
use Rattle.std.specs.Str.{bytes_eq}
use Rattle.lethe_base.specs.Configuration.{default_fields, first_broken}
use Rattle.lethe_base.specs.Keys.{Bytes}
use Rattle.lethe_base.specs.declared.config.Fields.{Fields}
use Rattle.lethe_base.specs.declared.config.Pick.{Pick}
use Rattle.lethe_base.specs.declared.config.Pick.TheVariants.{So, Sd}
use Rattle.lethe_script.specs.Fields.{number_of}

-- the words of the options
abbrev pub option_words : List Bytes
option_words =
    codes "--threshold" ∷ codes "--ratio" ∷ codes "--levels" ∷ codes "--page" ∷ codes "--tile" ∷ codes "--file" ∷ codes "--buffer" ∷ codes "--pick" ∷ []

-- an option, and the word behind it, which is its value
abbrev pub Given : Type 0
Given = Bytes × Bytes

-- words, two by two
abbrev pub two_by_two : List Bytes → List Given
two_by_two (option ∷ value ∷ words) = (option, value) ∷ two_by_two words
two_by_two (odd ∷ []) = []
two_by_two [] = []

-- the value of an option, if it is given
abbrev pub given_to : Bytes → List Given → Option Bytes
given_to option given = option_map (λ g. g.1) (find (λ g. bytes_eq g.0 option) given)

-- each is an option, and none is given twice
abbrev pub are_options : List Given → Bool
are_options [] = true
are_options (g ∷ more) = list_any (bytes_eq g.0) option_words && is_none (given_to g.0 more) && are_options more

-- the number that is given, or the default
abbrev pub number_or : ℕ → Option Bytes → Option ℕ
number_or default None = Some default
number_or default (Some value) = result_ok (number_of value)

abbrev pub pick_of : Bytes → Option Pick
pick_of value = if bytes_eq value (codes "so") then Some So else if bytes_eq value (codes "sd") then Some Sd else None

-- the pick that is given, or the default
abbrev pub pick_or : Pick → Option Bytes → Option Pick
pick_or default None = Some default
pick_or default (Some value) = pick_of value

infixl 10 ◌>>=◌
abbrev pub ◌>>=◌ : {A B : Type 0} → Option A → (A → Option B) → Option B
(Some x) >>= f = f x
None >>= f = None

-- the fields that are given, and the defaults of the others
unfoldable pub fields_of : List Given → Option Fields
fields_of given = do
  threshold ← number_or default_fields.threshold (given_to (codes "--threshold") given)
  ratio ← number_or default_fields.ratio (given_to (codes "--ratio") given)
  levels ← number_or default_fields.levels (given_to (codes "--levels") given)
  page ← number_or default_fields.page (given_to (codes "--page") given)
  tile ← number_or default_fields.tile (given_to (codes "--tile") given)
  file ← number_or default_fields.file (given_to (codes "--file") given)
  buffer ← number_or default_fields.buffer (given_to (codes "--buffer") given)
  pick ← pick_or default_fields.pick (given_to (codes "--pick") given)
  Some (record { threshold = threshold; ratio = ratio; levels = levels; page = page; tile = tile; file = file; buffer = buffer; pick = pick })

-- the fields, if each keeps its limits
unfoldable pub configured : Fields → Option Fields
configured fields = if is_none (first_broken fields) then Some fields else None

-- the word `run`, and behind it options, two words for each
unfoldable pub config_of : List Bytes → Option Fields
config_of [] = None
config_of (command ∷ words) =
    if bytes_eq command (codes "run") && (length words % 2 == 0) && are_options (two_by_two words) then fields_of (two_by_two words) >>= configured else None
