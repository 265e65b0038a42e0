-- The one spelling of a page.
use Rattle.std.specs.Prelude.{◌≡◌, ℕ, ◌<◌, ◌^◌, List, [], ◌∷◌, ◌++◌, length, flat_map, All}
use Rattle.std.specs.Int.{w32, to_be_bytes}
use Rattle.lethe_base.specs.Entries.{IsAscending}
use Rattle.lethe_base.specs.Spelling.{entry_bytes, kind_of}
use Rattle.lethe_base.specs.Spelling as spelling
use Rattle.lethe_base.specs.declared.entry.Entry.{Entry}
use Rattle.lethe_base.specs.declared.front.BodyKind.{BodyKind}
use Rattle.lethe_base.specs.declared.front.BodyKind.TheVariants as kinds
use Rattle.lethe_page.specs.declared.class.Class.{Class}
use Rattle.lethe_page.specs.declared.class.Class.TheVariants.{Puts, Tombs}

abbrev pub class_byte : Class → ℕ
class_byte Puts = 1
class_byte Tombs = 2

-- what each entry of a page of the class is
abbrev pub kind_in : Class → BodyKind
kind_in Puts = kinds.Put
kind_in Tombs = kinds.Tomb

-- `LP`, the format, the class and how many entries there are
unfoldable pub head_bytes : Class → ℕ → List ℕ
head_bytes class count = (76 ∷ 80 ∷ 1 ∷ []) ++ ((class_byte class ∷ []) ++ to_be_bytes w32 count)

unfoldable pub page_bytes : Class → List Entry → List ℕ
page_bytes class entries = head_bytes class (length entries) ++ flat_map entry_bytes entries

-- an entry of a page of the class
pub record IsIn (class : Class) (entry : Entry) : Type 0 where
  pub kind : kind_of entry.body ≡ kind_in class
  pub spelled : spelling.HasSpelling entry

pub record HasSpelling (class : Class) (entries : List Entry) : Type 0 where
  pub some : 0 < length entries
  pub few : length entries < 2 ^ 32
  pub each : All (IsIn class) entries
  pub ascending : IsAscending entries
