-- The record of a delete.
use Rattle.std.specs.Prelude.{◌≡◌, ◌⊎◌, ◌<◌, ◌+◌, min, List, Any, IsSome, Some, unwrap_or}
use Rattle.std.specs.FinMap as finmap
use Rattle.std.specs.Option.{option_or}
use Rattle.lethe_base.specs.Keys.{Bytes}
use Rattle.lethe_base.specs.Layout.{buffer_of, frozen_records}
use Rattle.lethe_base.specs.declared.entry.Body.TheVariants.{Tomb}
use Rattle.lethe_header.specs.declared.header.Header.{Header}
use Rattle.lethe_segment.specs.declared.record.Record.{Record}
use Rattle.lethe_segment.specs.declared.record.Record.TheVariants as of
use Rattle.lethe_cover.specs.Steps.{time_of}
use Rattle.lethe_stored.specs.Stored.{Stored, count_of, layout_of}
use Rattle.lethe_version.specs.Probing.{bound}

-- a tombstone at the next place, with the clock or the smaller time of the entry of the key in the active segment
abbrev pub tomb_over : Stored → Bytes → Record
tomb_over s key = of.Entry (record { seq = count_of s + 1; key = key; body = Tomb; since = Some (min s.manifest.clock (unwrap_or (time_of key (layout_of s)) s.manifest.clock)) })

-- a segment has an entry of the key, or a page of a file may have one by its tile's fence and its filter
abbrev pub MayHave : Stored → List Header → Bytes → Type 0
MayHave s headers key =
    IsSome (option_or (finmap.get (buffer_of (layout_of s).active) key) (finmap.get (buffer_of (frozen_records (layout_of s))) key)) ⊎ Any (λ header. 0 < bound key header) headers

-- a tombstone exactly where something of the key may be there, and else the next place alone
abbrev pub IsDeleteOver : Stored → List Header → Bytes → Record → Type 0
IsDeleteOver s headers key next =
    (MayHave s headers key × (next ≡ tomb_over s key)) ⊎ ((MayHave s headers key → ⊥) × (next ≡ of.Blind (count_of s + 1)))
