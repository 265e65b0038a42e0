-- Where no field breaks its limits, all limits hold.
use Rattle.std.proofs.Common.{◌≡◌, ℕ, Bool, true, false, cond, Option, Some, None, leb, refl}
use Rattle.std.specs.Prelude.{not}
use Rattle.std.specs.Int.{is_in_range, IsInRange}
use Rattle.std.proofs.lemmas.Bool.{and_parts, leb-true}
use Rattle.lethe_base.specs.Configuration.{least_of, greatest_of, value_of, goes_along, is_within, first_broken, IsConfig}
use Rattle.lethe_base.specs.declared.config.Field.{Field}
use Rattle.lethe_base.specs.declared.config.Field.TheVariants.{Threshold, Ratio, Levels, Page, Tile, File, Buffer}
use Rattle.lethe_base.specs.declared.config.Fields.{Fields}

none_found : (t : Bool) (x : Field) (o : Option Field) → cond (not t) (Some x) o ≡ None → (t ≡ true) × (o ≡ None)
none_found true x o e = (refl, e)
none_found false x o e = absurd cc

pub in_range : (lo hi n : ℕ) → is_in_range lo hi n ≡ true → IsInRange lo hi n
in_range lo hi n e = let both = and_parts (leb lo n) (leb n hi) e in (leb-true lo n both.0, leb-true n hi both.1)

-- what is within its limits is in their range, and goes with the fields before
pub within_parts : (f : Fields) (field : Field) → is_within f field ≡ true → IsInRange (least_of field) (greatest_of field) (value_of f field) × (goes_along f field ≡ true)
within_parts f field e =
    let both = and_parts (is_in_range (least_of field) (greatest_of field) (value_of f field)) (goes_along f field) e in
    (in_range (least_of field) (greatest_of field) (value_of f field) both.0, both.1)

pub none_broken : (f : Fields) → first_broken f ≡ None → IsConfig f
none_broken f e =
    let threshold = none_found (is_within f Threshold) Threshold _ e in
    let ratio = none_found (is_within f Ratio) Ratio _ threshold.1 in
    let levels = none_found (is_within f Levels) Levels _ ratio.1 in
    let page = none_found (is_within f Page) Page _ levels.1 in
    let tile = none_found (is_within f Tile) Tile _ page.1 in
    let file = none_found (is_within f File) File _ tile.1 in
    let buffer = none_found (is_within f Buffer) Buffer _ file.1 in
    let sized = within_parts f File file.0 in
    let held = within_parts f Buffer buffer.0 in
    record {
      threshold = (within_parts f Threshold threshold.0).0;
      ratio = (within_parts f Ratio ratio.0).0;
      levels = (within_parts f Levels levels.0).0;
      page = (within_parts f Page page.0).0;
      tile = (within_parts f Tile tile.0).0;
      file = sized.0;
      entries = leb-true _ _ sized.1;
      buffer = held.0;
      room = leb-true _ _ held.1;
    }
