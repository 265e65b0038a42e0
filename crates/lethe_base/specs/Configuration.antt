-- What a store's configuration may be.
use Rattle.std.specs.Prelude.{ℕ, ◌*◌, ◌^◌, ◌≤◌, Bool, true, not, ◌&&◌, nat_le, List, [], ◌∷◌, Option}
use Rattle.std.specs.Int.{is_in_range, IsInRange}
use Rattle.std.specs.List.{find}
use Rattle.lethe_base.specs.declared.config.Field.{Field}
use Rattle.lethe_base.specs.declared.config.Field.TheVariants.{Threshold, Ratio, Levels, Page, Tile, File, Buffer}
use Rattle.lethe_base.specs.declared.config.Fields.{Fields}
use Rattle.lethe_base.specs.declared.config.Pick.TheVariants.{So}

-- in the order in which they are tested
abbrev pub all_fields : List Field
all_fields = Threshold ∷ Ratio ∷ Levels ∷ Page ∷ Tile ∷ File ∷ Buffer ∷ []

abbrev pub least_of : Field → ℕ
least_of Threshold = 1
least_of Ratio = 2
least_of Levels = 1
least_of Page = 1
least_of Tile = 1
least_of File = 1
least_of Buffer = 1

abbrev pub greatest_of : Field → ℕ
greatest_of Threshold = 2 ^ 40
greatest_of Ratio = 16
greatest_of Levels = 6
greatest_of Page = 1024
greatest_of Tile = 64
greatest_of File = 256
greatest_of Buffer = 16384

abbrev pub value_of : Fields → Field → ℕ
value_of fields Threshold = fields.threshold
value_of fields Ratio = fields.ratio
value_of fields Levels = fields.levels
value_of fields Page = fields.page
value_of fields Tile = fields.tile
value_of fields File = fields.file
value_of fields Buffer = fields.buffer

-- the most entries that a file has
abbrev pub file_entries : Fields → ℕ
file_entries fields = fields.page * fields.tile * fields.file

abbrev pub max_file_entries : ℕ
max_file_entries = 65536

-- whether a field goes with those before it
abbrev pub goes_along : Fields → Field → Bool
goes_along fields File = nat_le (file_entries fields) max_file_entries
goes_along fields Buffer = nat_le fields.buffer (file_entries fields)
goes_along fields field = true

abbrev pub is_within : Fields → Field → Bool
is_within fields field = is_in_range (least_of field) (greatest_of field) (value_of fields field) && goes_along fields field

-- the first field that breaks its limits
abbrev pub first_broken : Fields → Option Field
first_broken fields = find (λ field. not (is_within fields field)) all_fields

-- the same limits, as facts
pub record IsConfig (fields : Fields) : Type 0 where
  pub threshold : IsInRange 1 (2 ^ 40) fields.threshold
  pub ratio : IsInRange 2 16 fields.ratio
  pub levels : IsInRange 1 6 fields.levels
  pub page : IsInRange 1 1024 fields.page
  pub tile : IsInRange 1 64 fields.tile
  pub file : IsInRange 1 256 fields.file
  pub entries : file_entries fields ≤ max_file_entries
  pub buffer : IsInRange 1 16384 fields.buffer
  pub room : fields.buffer ≤ file_entries fields

abbrev pub default_fields : Fields
default_fields = record { threshold = 1000; ratio = 4; levels = 3; page = 64; tile = 4; file = 8; buffer = 512; pick = So }
