-- A scan as the merge of all parts.
use Rattle.std.specs.Prelude.{◌↔◌, IsTrue, List, Contains}
use Rattle.lethe_base.specs.Keys.{Bytes}
use Rattle.lethe_base.specs.Read.{is_between}
use Rattle.lethe_base.specs.Layout.{Layout}
use Rattle.lethe_base.specs.Held.{Shows}
use Rattle.lethe_base.specs.declared.entry.Entry.{Entry}

-- the entries that reads see of the keys from the first up to the second, which is excluded
abbrev pub AreShownBetween : Layout → Bytes → Bytes → List Entry → Type 0
AreShownBetween l lo hi entries = (entry : Entry) → Contains entries entry ↔ (Shows l entry × IsTrue (is_between lo hi entry.key))
