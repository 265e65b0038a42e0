-- Reading a manifest: the manifest, or the first fault from the left. A field is tested as soon as it is read whole.
use Rattle.std.specs.Prelude.{ℕ, ◌*◌, ◌==◌, nat_le, nat_lt, List, length, Result, Ok, Err, if◌then◌else◌}
use Rattle.std.specs.Int.{Width, w8, w16, w64}
use Rattle.lethe_base.specs.Limits.{max_place, max_time}
use Rattle.lethe_base.specs.Results.{◌>>=◌}
use Rattle.lethe_base.specs.Configuration.{least_of, greatest_of, default_fields, max_file_entries}
use Rattle.lethe_base.specs.declared.config.Field.{Field}
use Rattle.lethe_base.specs.declared.config.Field.TheVariants.{Threshold, Ratio, Levels, Page, Tile, File, Buffer}
use Rattle.lethe_base.specs.declared.config.Fields.{Fields}
use Rattle.lethe_base.specs.declared.config.Pick.{Pick}
use Rattle.lethe_base.specs.declared.config.Pick.TheVariants.{So, Sd}
use Rattle.lethe_manifest.specs.Numbers.{number_within, number_above}
use Rattle.lethe_manifest.specs.Parts.{parts_at}
use Rattle.lethe_manifest.specs.declared.manifest.Manifest.{Manifest}
use Rattle.lethe_manifest.specs.declared.parts.Parts.{Parts}
use Rattle.lethe_manifest.specs.declared.reading.Counts.{Counts}
use Rattle.lethe_manifest.specs.declared.refused.ManifestRefused.{ManifestRefused}
use Rattle.lethe_manifest.specs.declared.refused.ManifestRefused.TheVariants.{Kind, Trailing}

-- the letters, the format and the manifest's number
unfoldable pub head_at : List ℕ → Result ℕ ManifestRefused
head_at bytes = do
  letters ← number_within w16 0x4c4d 0x4c4d bytes 0
  format ← number_within w8 1 1 bytes 2
  number_within w64 0 max_place bytes 3

-- Configurations.

abbrev pub width_of : Field → Width
width_of Threshold = w64
width_of Ratio = w8
width_of Levels = w8
width_of Page = w16
width_of Tile = w8
width_of File = w16
width_of Buffer = w16

-- a number within the field's own limits
abbrev pub limited_at : Field → List ℕ → ℕ → Result ℕ ManifestRefused
limited_at field = number_within (width_of field) (least_of field) (greatest_of field)

-- so many tiles that a file has not too many entries
unfoldable pub tiles_at : ℕ → List ℕ → ℕ → Result ℕ ManifestRefused
tiles_at tile_entries bytes at = do
  file ← limited_at File bytes at
  if nat_le (tile_entries * file) max_file_entries then Ok file else Err (Kind at)

-- no more records than a file has entries
unfoldable pub buffer_at : ℕ → List ℕ → ℕ → Result ℕ ManifestRefused
buffer_at entries bytes at = do
  buffer ← limited_at Buffer bytes at
  if nat_le buffer entries then Ok buffer else Err (Kind at)

unfoldable pub pick_at : List ℕ → ℕ → Result Pick ManifestRefused
pick_at bytes at = do
  byte ← number_within w8 0 1 bytes at
  if byte == 0 then Ok So else Ok Sd

-- the sizes and the pick, in place of those of the fields
unfoldable pub sizes_at : Fields → List ℕ → Result Fields ManifestRefused
sizes_at times bytes = do
  page ← limited_at Page bytes 21
  tile ← limited_at Tile bytes 23
  file ← tiles_at (page * tile) bytes 24
  buffer ← buffer_at (page * tile * file) bytes 26
  pick ← pick_at bytes 28
  Ok (record times { page = page; tile = tile; file = file; buffer = buffer; pick = pick })

unfoldable pub config_at : List ℕ → Result Fields ManifestRefused
config_at bytes = do
  threshold ← limited_at Threshold bytes 11
  ratio ← limited_at Ratio bytes 19
  levels ← limited_at Levels bytes 20
  sizes_at (record default_fields { threshold = threshold; ratio = ratio; levels = levels }) bytes

-- Counts.

-- the clock, the count and the next number, which is above the manifest's own
unfoldable pub counts_at : ℕ → List ℕ → Result Counts ManifestRefused
counts_at own bytes = do
  clock ← number_within w64 0 max_time bytes 29
  count ← number_within w64 0 max_place bytes 37
  next ← number_above own 0 max_place bytes 45
  Ok (record { clock = clock; count = count; next = next })

-- Manifests.

-- the manifest of these parts
abbrev pub made : ℕ → Fields → Counts → Parts → Manifest
made own config counts parts = record {
  no = own;
  config = config;
  clock = counts.clock;
  count = counts.count;
  next = counts.next;
  certificate = parts.certificate;
  erases = parts.erases;
  segments = parts.segments;
  files = parts.files;
}

unfoldable pub manifest_at : List ℕ → Result Manifest ManifestRefused
manifest_at bytes = do
  own ← head_at bytes
  config ← config_at bytes
  counts ← counts_at own bytes
  parts ← parts_at counts.next config.levels bytes
  if nat_lt parts.1 (length bytes) then Err (Trailing parts.1) else Ok (made own config counts parts.0)
