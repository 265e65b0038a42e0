-- What is stored stands for its history without the erases that are spent and that no segment records.
use Rattle.std.proofs.Common.{◌≡◌, ◌⊎◌, inl, inr, ℕ, ◌<◌, ◌≤◌, ◌^◌, Bool, true, false, nat_le, List, [], ◌∷◌, ◌++◌, length, map, filter, Contains, Option, Some, None, sym, subst, arith}
use Rattle.std.specs.Prelude.{filter_map}
use Rattle.std.proofs.Math.Bool.{or-false}
use Rattle.std.proofs.lemmas.Bool.{or_parts, or_right}
use Rattle.std.proofs.lemmas.Bool.Decides.{nat_tests}
use Rattle.std.proofs.lemmas.List.Elements.{All-filter, Contains-append_right}
use Rattle.std.proofs.lemmas.List.Kept.{AllPairs-filter}
use Rattle.std.proofs.lemmas.List.Sums.{count_by-le-length, length-filter}
use Rattle.lethe_base.specs.Covers.{Covers}
use Rattle.lethe_base.specs.Erases.{IsErase}
use Rattle.lethe_base.specs.History.{History}
use Rattle.lethe_base.specs.Layout.{Layout}
use Rattle.lethe_base.specs.Shapes.{IsValidShape, earlier, shape_of}
use Rattle.lethe_base.specs.Spent.{IsShorter, done_upto, is_above, least}
use Rattle.lethe_base.specs.declared.pending.Pending.{Pending}
use Rattle.lethe_base.proofs.LayoutLaws.{none_in}
use Rattle.lethe_base.proofs.LeftErases.{fewer_erases, spent_upto}
use Rattle.lethe_base.proofs.Newest.{first_or_rest}
use Rattle.lethe_base.proofs.Shorter.{shorter_covers}
use Rattle.lethe_cover.proofs.Lists.{in_map}
use Rattle.lethe_manifest.specs.Manifests.{AreErases}
use Rattle.lethe_stored.specs.Kept.{IsFor}
use Rattle.lethe_stored.specs.Stored.{IsCoherent, Stored, erase_of, layout_of, pending_of, records_of}
use Rattle.lethe_follows.specs.Leaving.{first_erase, is_from, is_kept, kept_erases, kept_of, let_go}
use Rattle.lethe_follows.proofs.Erases.{in_order_kept, pending_spelled}

-- none of some places is in front of the least of them
from_least : (places : List ℕ) (place : ℕ) → Contains places place → is_from (least places) place ≡ true
from_least [] place there = absurd (none_in place there)
from_least (first ∷ places) place there = by (least places) (first_or_rest first places place there) (from_least places place)
  where
    by : (o : Option ℕ) → (first ≡ place) ⊎ Contains places place → (Contains places place → is_from o place ≡ true) → is_from (earlier (Some first) o) place ≡ true
    by None (inl same) behind = grind (arith, nat_tests)
    by (Some other) (inl same) behind = grind (arith, nat_tests)
    by None (inr rest) behind = absurd (let clash : false ≡ true = behind rest in cc)
    by (Some other) (inr rest) behind = let there : nat_le other place ≡ true = behind rest in grind (arith, nat_tests)

-- where no segment records an erase, those are kept that are still to be done
pub kept_unrecorded : (done : Option ℕ) (erases : List Pending) → kept_of erases done None ≡ filter (λ erase. is_above done erase.seq) erases
kept_unrecorded done erases = λ i. filter (λ (erase : Pending). or-false (is_above done erase.seq) i) erases

-- those that are kept have a spelling, as all do
pub kept_are_erases : (done first : Option ℕ) (erases : List Pending) → AreErases erases → AreErases (kept_of erases done first)
kept_are_erases done first erases all = record {
  few = let fewer = count_by-le-length (λ (erase : Pending). is_kept done first erase.seq) erases in
      let kept = length-filter (λ (erase : Pending). is_kept done first erase.seq) erases in
      omega (arith, fewer, kept, all.few);
  each = All-filter (λ (erase : Pending). is_kept done first erase.seq) IsErase erases all.each;
  ascending = AllPairs-filter (λ (a : Pending) (b : Pending). a.seq < b.seq) (λ (erase : Pending). is_kept done first erase.seq) erases all.ascending;
}

module _ (s : Stored) where
  abbrev stays : ℕ → Bool
  stays place = is_kept (done_upto (layout_of s)) (first_erase s) place

  abbrev recorded : List Pending
  recorded = filter_map erase_of (records_of s)

  recorded_stay : (erase : Pending) → Contains recorded erase → stays erase.seq ≡ true
  recorded_stay erase there =
      or_right (is_above (done_upto (layout_of s)) erase.seq) (is_from (first_erase s) erase.seq)
      (from_least (map (λ (erase : Pending). erase.seq) recorded) erase.seq (in_map (λ (erase : Pending). erase.seq) recorded erase there))

  pub pending_kept : pending_of (let_go s) ≡ kept_erases s
  pending_kept = in_order_kept stays (s.manifest.erases ++ recorded) recorded (Contains-append_right s.manifest.erases recorded) recorded_stay

  -- the layout differs by its pending erases alone
  pub layout_kept : layout_of (let_go s) ≡ record (layout_of s) { pending = kept_erases s }
  layout_kept = λ i. record (layout_of s) { pending = pending_kept i }

  pub kept_shorter : IsShorter (layout_of s) (kept_erases s)
  kept_shorter = fewer_erases (layout_of s) (λ erase. stays erase.seq)
      (λ erase there gone. spent_upto (layout_of s) erase (or_parts (is_above (done_upto (layout_of s)) erase.seq) (is_from (first_erase s) erase.seq) gone).0)

  pub kept_coherent : IsCoherent s → length (pending_of s) < 2 ^ 32 → IsCoherent (let_go s)
  kept_coherent coherent few = let spelled = coherent.spelled in record {
    spelled = record {
      no = spelled.no;
      config = spelled.config;
      clock = spelled.clock;
      count = spelled.count;
      next = spelled.next;
      certificate = spelled.certificate;
      erases = kept_are_erases (done_upto (layout_of s)) (first_erase s) (pending_of s) (pending_spelled s coherent few);
      segments = spelled.segments;
      files = spelled.files;
    };
    cites = coherent.cites;
    once = coherent.once;
    active = coherent.active;
    frozen = coherent.frozen;
    files = coherent.files;
    each = coherent.each;
    files_once = coherent.files_once;
    pages_once = coherent.pages_once;
  }

  module _ (h : History) (stands : IsFor h s) where
    kept_shape : IsValidShape (shape_of (record (layout_of s) { pending = kept_erases s }))
    kept_shape = let shape = stands.shape in record {
      numbers = shape.numbers;
      ranges = shape.ranges;
      levels = shape.levels;
      deepest = shape.deepest;
      places = AllPairs-filter (λ (a : Pending) (b : Pending). a.seq < b.seq) (λ (erase : Pending). stays erase.seq) (pending_of s) shape.places;
      times = AllPairs-filter (λ (a : Pending) (b : Pending). a.time ≤ b.time) (λ (erase : Pending). stays erase.seq) (pending_of s) shape.times;
    }

    pub kept_for : IsFor h (let_go s)
    kept_for = record {
      legal = stands.legal;
      done = stands.done;
      covers = subst (Covers s.manifest.config.threshold h) (sym layout_kept) (shorter_covers s.manifest.config.threshold h (layout_of s) stands.covers (kept_erases s) kept_shorter);
      shape = subst (λ (l : Layout). IsValidShape (shape_of l)) (sym layout_kept) kept_shape;
      clock = stands.clock;
      count = stands.count;
      certificate = stands.certificate;
    }
