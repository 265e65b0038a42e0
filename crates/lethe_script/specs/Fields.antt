-- What the fields of a line are, and what each of them stands for.
use Rattle.std.specs.Prelude.{ℕ, ◌-◌, ◌^◌, Bool, ◌&&◌, ◌||◌, not, List, [], ◌∷◌, length, filter, Option, Some, None, ok_or, Result, Ok, Err, nat_lt, nat_le, ◌==◌, if◌then◌else◌, slice_index}
use Rattle.std.specs.List.{slice_split, list_all}
use Rattle.std.specs.Result.{result_ok}
use Rattle.std.specs.Str.{bytes_eq}
use Rattle.std.specs.Str.Parse.{digits_value}
use Rattle.std.specs.Fmt.{decimal}
use Rattle.hex.specs.Hex.{decode_of}
use Rattle.lethe_base.specs.Keys.{Bytes}
use Rattle.lethe_base.specs.Limits.{max_time}
use Rattle.lethe_base.specs.Results.{◌>>=◌}
use Rattle.lethe_script.specs.declared.refused.Why.{Why}
use Rattle.lethe_script.specs.declared.refused.Why.TheVariants.{Caller, Number, Slot, Key, Value}

-- a space, or a byte that prints
abbrev pub is_allowed : ℕ → Bool
is_allowed byte = nat_le 32 byte && nat_le byte 126

-- a field has bytes
abbrev pub is_field : Bytes → Bool
is_field part = not (length part == 0)

-- the fields of a line, between spaces
abbrev pub fields : Bytes → List Bytes
fields line = filter is_field (slice_split (λ byte. byte == 32) line)

-- the first field of a comment begins with `#`
abbrev pub is_comment : Bytes → Bool
is_comment first = slice_index first 0 == 35

-- a caller: one digit from 1 to 8
unfoldable pub caller_of : Bytes → Result ℕ Why
caller_of (digit ∷ []) = if nat_le 49 digit && nat_le digit 56 then Ok (digit - 48) else Err Caller
caller_of _ = Err Caller

-- the number that prints as the field: `0`, or digits without a leading zero
unfoldable pub number_of : Bytes → Result ℕ Why
number_of field = let n = digits_value 10 field in
    if bytes_eq field (decimal n) && nat_lt n (2 ^ 64) then Ok n else Err Number

-- a time: a number that a clock may show
unfoldable pub time_of : Bytes → Result ℕ Why
time_of field = do
  n ← number_of field
  if nat_le n max_time then Ok n else Err Number

-- a slot: one digit
unfoldable pub slot_of : Bytes → Result ℕ Why
slot_of (digit ∷ []) = if nat_le 48 digit && nat_le digit 57 then Ok (digit - 48) else Err Slot
slot_of _ = Err Slot

-- a digit of a hexadecimal number, in lower case
abbrev pub is_lower_digit : ℕ → Bool
is_lower_digit byte = (nat_le 48 byte && nat_le byte 57) || (nat_le 97 byte && nat_le byte 102)

-- the bytes of such digits, two for each
abbrev pub digit_bytes : Bytes → Option Bytes
digit_bytes digits = if list_all is_lower_digit digits then result_ok (decode_of digits) else None

-- what the field of a key or a value stands for: the bytes of the digits behind `=`, or else its own
abbrev pub field_bytes : Bytes → Option Bytes
field_bytes [] = Some []
field_bytes (first ∷ rest) = if first == 61 then digit_bytes rest else Some (first ∷ rest)

-- its bytes, of which there may be so many
unfoldable pub text_of : Why → ℕ → Bytes → Result Bytes Why
text_of why most field = do
  bytes ← ok_or (field_bytes field) why
  if nat_le (length bytes) most then Ok bytes else Err why

unfoldable pub key_of : Bytes → Result Bytes Why
key_of field = do
  bytes ← text_of Key 255 field
  if length bytes == 0 then Err Key else Ok bytes

abbrev pub value_of : Bytes → Result Bytes Why
value_of field = text_of Value 4096 field
