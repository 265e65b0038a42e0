-- How many changes there are and which number is next says nothing of what a layout covers.
use Rattle.std.proofs.Common.{ℕ}
use Rattle.lethe_base.specs.History.{History}
use Rattle.lethe_base.specs.Layout.{Layout}
use Rattle.lethe_base.specs.Covers.{Covers}

pub covers_numbered : (threshold : ℕ) (h : History) (l : Layout) (count next : ℕ) → Covers threshold h l → Covers threshold h (record l { count = count; next = next })
covers_numbered threshold h l count next covers = record {
  places = record { entries = covers.places.entries; erases = covers.places.erases };
  newer_above = record {
    runs = covers.newer_above.runs;
    active_frozen = covers.newer_above.active_frozen;
    active_files = covers.newer_above.active_files;
    frozen_files = covers.newer_above.frozen_files;
    active_buffer = covers.newer_above.active_buffer;
    frozen_buffer = covers.newer_above.frozen_buffer;
  };
  same_map = covers.same_map;
  deletes_covered = covers.deletes_covered;
  erases_covered = record { pending = covers.erases_covered.pending; swept = covers.erases_covered.swept; unswept = covers.erases_covered.unswept };
  times_fresh = record { entries = covers.times_fresh.entries; erases = covers.times_fresh.erases };
}
