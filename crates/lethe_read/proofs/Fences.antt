-- The keys of a file lie between its header's least and greatest one.
use Rattle.std.proofs.Common.{◌≡◌, ℕ, true, List, map, refl, Contains}
use Rattle.std.specs.Prelude.{Any}
use Rattle.std.specs.Ordering.{is_le}
use Rattle.std.proofs.lemmas.Bool.{false_from_ne_true}
use Rattle.lethe_base.specs.Keys.{key_cmp}
use Rattle.lethe_base.specs.declared.entry.Entry.{Entry}
use Rattle.lethe_file.specs.Agreement.{FileAgrees, entries_in}
use Rattle.lethe_header.specs.Facts.{greatest_key, least_key}
use Rattle.lethe_header.specs.Headers.{HasSpelling}
use Rattle.lethe_header.specs.declared.header.Header.{Header}
use Rattle.lethe_tile.proofs.Orders.{less_is}
use Rattle.lethe_version.specs.Probing.{bound}
use Rattle.lethe_version.proofs.Newer.{absent}
use Rattle.lethe_version.proofs.Probed.{none_allowed, zero_before, zero_behind}
use Rattle.lethe_read.proofs.Ranges.{not_less}

module _ (header : Header) (bytes : List (List ℕ)) (spelled : HasSpelling header) (agrees : FileAgrees header.tiles bytes) (entry : Entry) (has : Any (λ page. Contains page entry) (map entries_in bytes)) where
  is_allowed : bound entry.key header ≡ 0 → ⊥
  is_allowed none = absent entry.key (map entries_in bytes) entry (none_allowed entry.key header.tiles bytes agrees.pages agrees.tiles none) (has, refl)

  pub from_least : is_le (key_cmp (least_key header.tiles) entry.key) ≡ true
  from_least = not_less entry.key (least_key header.tiles) (false_from_ne_true _ (λ less. is_allowed (zero_before header spelled entry.key (less_is _ less))))

  pub up_to_greatest : is_le (key_cmp entry.key (greatest_key header.tiles)) ≡ true
  up_to_greatest = not_less (greatest_key header.tiles) entry.key (false_from_ne_true _ (λ less. is_allowed (zero_behind header spelled entry.key (less_is _ less))))
