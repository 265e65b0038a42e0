-- The first erase that is still to be done is the oldest pending one that a file isn't swept of.
use Rattle.std.proofs.Common.{◌≡◌, ◌<◌, ◌≤◌, List, [], ◌∷◌, ◌++◌, AllPairs, Contains, refl, sym, ap, subst, arith}
use Rattle.std.specs.Prelude.{filter_map}
use Rattle.std.proofs.lemmas.List.Kept.{AllPairs-filter}
use Rattle.lethe_base.specs.Layout.{Layout, files_of}
use Rattle.lethe_base.specs.Spent.{IsSpent, done_upto, is_above, left_erases}
use Rattle.lethe_base.specs.declared.pending.Pending.{Pending}
use Rattle.lethe_base.proofs.LeftErases.{left_unspent, unspent_left}
use Rattle.lethe_cover.proofs.Common.{⊎_elim, first_is, first_or_rest}
use Rattle.lethe_cover.proofs.Lists.{Pairs, in_middle, pairs_from}
use Rattle.lethe_stored.specs.Files.{file_of}
use Rattle.lethe_stored.specs.Stored.{Stored, IsCoherent, erase_of, layout_of, pending_of, records_of}
use Rattle.lethe_stored.proofs.Leveled.{low_level}
use Rattle.lethe_follows.proofs.Erases.{in_order_ascends}
use Rattle.lethe_follows.proofs.Following.{file_in}
use Rattle.lethe_sweeps.specs.Swept.{StoredSweep, files_before}

abbrev IsEarlier : Pending → Pending → Type 0
IsEarlier a b = a.seq < b.seq

module _ (s : Stored) (coherent : IsCoherent s) (w : StoredSweep) (files : s.files ≡ files_before w) (erase : Pending) (later : List Pending)
    (first : left_erases (layout_of s) ≡ erase ∷ later)
  where
    abbrev l : Layout
    l = layout_of s

    stored : Contains s.files w.file
    stored = subst (λ files. Contains files w.file) (sym files) (in_middle w.front (w.file ∷ []) w.back w.file (first_is w.file [] w.file refl))

    filed : Contains (files_of l) (file_of w.file)
    filed = file_in s.manifest.config.levels s.files w.file stored (low_level s coherent w.file stored)

    pub first_pending : Contains (pending_of s) erase
    first_pending = (left_unspent l erase (subst (λ left. Contains left erase) (sym first) (first_is erase later erase refl))).0

    -- those that are left ascend, as all that are pending do
    pending_rise : AllPairs IsEarlier (pending_of s)
    pending_rise = in_order_ascends (s.manifest.erases ++ filter_map erase_of (records_of s))

    left_rise : AllPairs IsEarlier (left_erases l)
    left_rise = AllPairs-filter IsEarlier (λ (other : Pending). is_above (done_upto l) other.seq) (pending_of s) pending_rise

    rest_later : Pairs IsEarlier (erase ∷ later)
    rest_later = pairs_from IsEarlier (erase ∷ later) (subst (AllPairs IsEarlier) first left_rise)

    -- one that the file isn't swept of is still to be done
    is_left : (other : Pending) → Contains (pending_of s) other → w.file.swept < other.seq → Contains (left_erases l) other
    is_left other there unswept = unspent_left l other (
      there,
      λ (spent : IsSpent l other).
          let swept = spent.files (file_of w.file) filed in absurd (omega (arith, swept, unswept)),
    )

    pub first_oldest : (other : Pending) → Contains (pending_of s) other → w.file.swept < other.seq → erase.seq ≤ other.seq
    first_oldest other there unswept = ⊎_elim
        (λ (same : erase ≡ other). let place = ap (λ (e : Pending). e.seq) same in omega (arith, place))
        (λ rest. let up = rest_later.0 other rest in omega (arith, up))
        (first_or_rest erase later other (subst (λ left. Contains left other) first (is_left other there unswept)))
