-- With its active segment frozen, what is stored stands for the same history.
use Rattle.std.proofs.Common.{◌≡◌, ◌<◌, ◌≤◌, ℕ, ◌+◌, [], ◌++◌, map, None, refl, sym, ap, ◌∙◌, subst, arith, append-nil}
use Rattle.std.specs.Prelude.{filter_map, option_map}
use Rattle.std.proofs.lemmas.List.Elements.{All-weaker}
use Rattle.lethe_base.specs.History.{History}
use Rattle.lethe_base.specs.Covers.{Covers}
use Rattle.lethe_base.specs.Shapes.{IsValidShape, shape_of}
use Rattle.lethe_header.specs.declared.header.PageLine.{PageLine}
use Rattle.lethe_manifest.specs.Manifests.{HasSpelling}
use Rattle.lethe_cover.specs.Steps.{frozen}
use Rattle.lethe_cover.proofs.Frozen.{freeze_covers}
use Rattle.lethe_stored.specs.Files.{StoredFile, IsFile, lines_in}
use Rattle.lethe_stored.specs.Stored.{Stored, Segment, IsCoherent, records_in, records_of, plain, segment_name, erase_of, in_order, layout_of, count_of, froze}
use Rattle.lethe_stored.specs.Kept.{IsFor}
use Rattle.lethe_stored.proofs.Lists.{pairs_of_two}
use Rattle.lethe_stored.proofs.Parts.{active_part, part_below}
use Rattle.lethe_stored.proofs.Numbered.{covers_numbered}
use Rattle.lethe_stored.proofs.Changes.{counted}

-- where the next number is greater
pub file_later : (next later : ℕ) (file : StoredFile) → next ≤ later → IsFile next file → IsFile later file
file_later next later file le is = record {
  spelled = is.spelled;
  agrees = is.agrees;
  below = All-weaker (λ (line : PageLine). line.no < next) (λ (line : PageLine). line.no < later) (λ line lt. omega (arith, lt, le)) (lines_in file) is.below;
}

module _ (s : Stored) (coherent : IsCoherent s) (segment number : ℕ) where
  abbrev t : Stored
  t = froze s segment number

  pub froze_coherent : s.manifest.next ≤ segment → segment < number → HasSpelling t.manifest → IsCoherent t
  froze_coherent fresh later spelled =
      let below = part_below s (segment_name s.active.no) coherent (active_part s) in
      record {
        spelled = spelled;
        cites = refl;
        once = pairs_of_two s.active.no segment (λ same. omega (arith, same, below, fresh));
        active = tt;
        frozen = coherent.active;
        files = coherent.files;
        each = All-weaker (IsFile s.manifest.next) (IsFile (number + 1)) (λ file is. file_later s.manifest.next (number + 1) file (omega (arith, fresh, later)) is) s.files coherent.each;
        files_once = coherent.files_once;
        pages_once = coherent.pages_once;
      }

  count_froze : count_of t ≡ count_of s
  count_froze = omega arith

  module _ (none : s.frozen ≡ None) where
    same_records : s.active.records ++ [] ≡ records_of s
    same_records = append-nil s.active.records ∙ sym (ap (λ o. records_in o ++ s.active.records) none)

    layout_froze : layout_of t ≡ record (frozen (layout_of s)) { count = count_of t; next = number + 1 }
    layout_froze = λ i. record (frozen (layout_of s)) { count = count_of t; next = number + 1; pending = in_order (s.manifest.erases ++ filter_map erase_of (same_records i)) }

    pub froze_for : (h : History) → IsFor h s → IsFor h t
    froze_for h stands =
        let covers = freeze_covers s.manifest.config.threshold h (layout_of s) stands.covers (counted h s coherent stands) (ap (option_map (λ (older : Segment). map plain older.records)) none) in
        record {
          legal = stands.legal;
          done = stands.done;
          covers = subst (Covers s.manifest.config.threshold h) (sym layout_froze) (covers_numbered s.manifest.config.threshold h (frozen (layout_of s)) (count_of t) (number + 1) covers.0);
          shape = subst (λ l. IsValidShape (shape_of l)) (sym layout_froze) stands.shape;
          clock = stands.clock;
          count = count_froze ∙ stands.count;
          certificate = stands.certificate;
        }
