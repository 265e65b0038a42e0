-- What a message shows.
use Rattle.std.specs.Prelude.{◌≡◌, ◌<◌, ℕ, Bool, false, ◌||◌, ◌==◌, nat_lt, [], ◌∷◌, ◌++◌, codes, length, map, take, if◌then◌else◌}
use Rattle.std.specs.Fmt.{decimal}
use Rattle.std.specs.List.{All}
use Rattle.lethe_base.specs.Keys.{Bytes}

-- a byte below a space, as a line break, or the one behind the last that prints
abbrev pub is_control : ℕ → Bool
is_control byte = nat_lt byte 32 || byte == 127

abbrev pub IsShown : ℕ → Type 0
IsShown byte = is_control byte ≡ false

-- there is something to read, and all on one line
pub record IsLine (text : Bytes) : Type 0 where
  pub some : 0 < length text
  pub shown : All IsShown text

-- a control byte is shown as `?`
abbrev pub shown_byte : ℕ → ℕ
shown_byte byte = if is_control byte then 63 else byte

unfoldable pub shown : Bytes → Bytes
shown piece = map shown_byte piece

-- nothing at all is told as `?`
unfoldable pub or_mark : Bytes → Bytes
or_mark [] = 63 ∷ []
or_mark (byte ∷ more) = byte ∷ more

-- the status with which the program ends, and where the statuses are told
unfoldable pub status_text : ℕ → Bytes
status_text status = codes " (status " ++ decimal status ++ codes ": ./lethe --help)\n"

-- what was given stands in a message, as far as it is shown
pub record Shows (given message : Bytes) : Type 0 where
  pub before : Bytes
  pub behind : Bytes
  pub is : message ≡ before ++ shown (take 160 given) ++ behind
