-- The drafts of a journal, and the files that they become.
use Rattle.std.proofs.Common.{◌+◌, ◌≤◌, ℕ, List, [], ◌∷◌, ◌++◌, length, map, All, arith}
use Rattle.std.specs.Prelude.{◌↔◌}
use Rattle.std.proofs.lemmas.List.Elements.{All-append, All-map}
use Rattle.lethe_base.specs.Limits.{max_place}
use Rattle.lethe_build.specs.Drafts.{header_of}
use Rattle.lethe_build.specs.declared.draft.Draft.{Draft}
use Rattle.lethe_fade.specs.Spans.{KeyRange}
use Rattle.lethe_header.specs.declared.header.Header.{Header}
use Rattle.lethe_segment.specs.Records.{record_seq}
use Rattle.lethe_segment.specs.Segments.{Ascends}
use Rattle.lethe_segment.specs.declared.record.Record.{Record}
use Rattle.lethe_stored.proofs.Lists.{all_left, all_right}
use Rattle.lethe_flush.specs.Clear.{IsClearOf}
use Rattle.lethe_flush.proofs.Clearness.{unmapped}
use Rattle.lethe_recover.proofs.Journals.{place_fits}

-- records whose places ascend are no more than there are places
records_few : (last : ℕ) (records : List Record) → Ascends last records → last ≤ max_place → last + length records ≤ max_place
records_few last [] up fits = omega (arith, fits)
records_few last (record' ∷ records) up fits = let rest = records_few (record_seq record') records up.2 (place_fits record' up.0) in omega (arith, rest, up.1)

pub few_records : (records : List Record) → Ascends 0 records → length records ≤ max_place
few_records records up = let few = records_few 0 records up (omega arith) in omega (arith, few)

abbrev headed : Draft → Header
headed draft = header_of 0 draft.tiles

-- what no file of these headers and of the drafts has, no file that they become has, and the other way round
pub clear_then : (keys : KeyRange) (heads : List Header) (drafts : List Draft) (made : List Header) → All (λ draft. IsClearOf keys (headed draft)) drafts ↔ All (IsClearOf keys) made
    → All (IsClearOf keys) (heads ++ map headed drafts) ↔ All (IsClearOf keys) (heads ++ made)
clear_then keys heads drafts made same = (
  (λ clear. All-append (IsClearOf keys) heads made (all_left (IsClearOf keys) heads (map headed drafts) clear) (same.0 (unmapped (IsClearOf keys) headed drafts (all_right (IsClearOf keys) heads (map headed drafts) clear)))),
  (λ clear. All-append (IsClearOf keys) heads (map headed drafts) (all_left (IsClearOf keys) heads made clear) (All-map (IsClearOf keys) headed drafts (same.1 (all_right (IsClearOf keys) heads made clear)))),
)
