-- What is stored after a flush, and after an opening.
use Rattle.std.proofs.Common.{◌≡◌, ℕ, ◌+◌, ◌<◌, ◌≤◌, false, List, [], ◌∷◌, ◌++◌, map, length, All, Contains, None, refl, sym, ap, ◌∙◌, subst, arith}
use Rattle.std.specs.Prelude.{filter_map}
use Rattle.std.proofs.lemmas.List.Elements.{All-nil}
use Rattle.lethe_base.specs.Covers.{Covers}
use Rattle.lethe_base.specs.History.{History}
use Rattle.lethe_base.specs.Layout.{Layout, files_of}
use Rattle.lethe_base.specs.Shapes.{IsValidShape, shape_of}
use Rattle.lethe_base.proofs.LayoutLaws.{none_in}
use Rattle.lethe_cover.specs.Flushes as layouts
use Rattle.lethe_cover.specs.Steps.{frozen}
use Rattle.lethe_cover.proofs.Frozen.{freeze_covers}
use Rattle.lethe_manifest.specs.Manifests.{HasSpelling}
use Rattle.lethe_cover.specs.Merged.{bared}
use Rattle.lethe_moves.specs.Merge.{merged}
use Rattle.lethe_moves.proofs.Merges.{left-nil}
use Rattle.lethe_moves.specs.Files.{IsTight, IsTiled, IsClearOf, keys_of}
use Rattle.lethe_moves.specs.Flushes.{Flushes, frozen_entries}
use Rattle.lethe_moves.specs.Reaches.{Follows}
use Rattle.lethe_moves.proofs.Flushing as moves
use Rattle.lethe_moves.proofs.Orders.{IsOther}
use Rattle.lethe_stored.specs.Files.{StoredFile, file_of}
use Rattle.lethe_stored.specs.Kept.{IsFor}
use Rattle.lethe_stored.specs.Stored.{Stored, IsCoherent, layout_of, count_of}
use Rattle.lethe_stored.proofs.Lists.{no_pairs, pairs_of_one}
use Rattle.lethe_stored.proofs.Numbered.{covers_numbered}
use Rattle.lethe_follows.specs.Filed.{AreNewFiles, flushed, reopened}
use Rattle.lethe_follows.proofs.Erases.{pending_again}
use Rattle.lethe_follows.proofs.Filing.{AreNewest, levels_filed, levels_twice, filed_cited, filed_each, filed_once, filed_pages}
use Rattle.lethe_follows.proofs.Following.{follows}

-- A flush

module _ (s : Stored) (made : List StoredFile) (number : ℕ) where
  abbrev t : Stored
  t = flushed s made number

  pub flushed_coherent : IsCoherent s → s.manifest.next ≤ number → AreNewFiles s.manifest.next number made → HasSpelling t.manifest → IsCoherent t
  flushed_coherent coherent risen new spelled = record {
    spelled = spelled;
    cites = refl;
    once = pairs_of_one (s.active.no ∷ []) s.active.no refl;
    active = coherent.active;
    frozen = tt;
    files = filed_cited s coherent made number (number + 1) new (omega arith) (omega arith);
    each = filed_each s coherent made number (number + 1) new (omega arith) (omega arith);
    files_once = filed_once s coherent made number (number + 1) new (omega arith) (omega arith);
    pages_once = filed_pages s coherent made number (number + 1) new (omega arith) (omega arith);
  }

  count_flushed : count_of t ≡ count_of s
  count_flushed = omega arith

  layout_flushed : AreNewest made → layout_of t ≡ record (layouts.flushed (layout_of s) (map file_of made)) { count = count_of t; next = number + 1 }
  layout_flushed newest = λ i. record (layouts.flushed (layout_of s) (map file_of made)) {
    count = count_of t;
    next = number + 1;
    pending = pending_again s s.active.records (λ erase there. there) i;
    levels = levels_filed s.manifest.config.levels made s.files newest i;
  }

  pub flushed_for : (h : History) → IsCoherent s → IsFor h s → AreNewest made → Flushes h (layout_of s) (map file_of made) → IsFor h t
  flushed_for h coherent stands newest flushes =
      let threshold = s.manifest.config.threshold in
      let l = layouts.flushed (layout_of s) (map file_of made) in
      let after = moves.flush_follows threshold h (layout_of s) (follows h s coherent stands) (map file_of made) flushes in
      record {
        legal = stands.legal;
        done = stands.done;
        covers = subst (Covers threshold h) (sym (layout_flushed newest)) (covers_numbered threshold h l (count_of t) (number + 1) after.covers);
        shape = subst (λ l. IsValidShape (shape_of l)) (sym (layout_flushed newest)) after.ordered.shape;
        clock = stands.clock;
        count = count_flushed ∙ stands.count;
        certificate = stands.certificate;
      }

-- An opening

-- a layout that is frozen follows its history
frozen_follows : (threshold : ℕ) (h : History) (l : Layout) → Follows threshold h l → l.frozen ≡ None → Follows threshold h (frozen l)
frozen_follows threshold h l before none =
    let step = freeze_covers threshold h l before.covers before.counted none in
    record { covers = step.0; counted = step.1; clock = before.clock; ordered = record { tiled = before.ordered.tiled; shape = before.ordered.shape; deep = before.ordered.deep } }

pub reopened_coherent : (s : Stored) → IsCoherent s → (made : List StoredFile) (segment number : ℕ) → s.manifest.next ≤ segment → segment < number → AreNewFiles s.manifest.next segment made
    → HasSpelling (reopened s made segment number).manifest → IsCoherent (reopened s made segment number)
reopened_coherent s coherent made segment number risen above new spelled = record {
  spelled = spelled;
  cites = refl;
  once = pairs_of_one (segment ∷ []) segment refl;
  active = tt;
  frozen = tt;
  files = filed_cited s coherent made segment (number + 1) new (omega arith) (omega arith);
  each = filed_each s coherent made segment (number + 1) new (omega arith) (omega arith);
  files_once = filed_once s coherent made segment (number + 1) new (omega arith) (omega arith);
  pages_once = filed_pages s coherent made segment (number + 1) new (omega arith) (omega arith);
}

module _ (s : Stored) (older newer : List StoredFile) (segment number : ℕ) where
  abbrev r : Stored
  r = reopened s (newer ++ older) segment number

  -- the layout once each segment is flushed
  abbrev first : Layout
  first = layouts.flushed (layout_of s) (map file_of older)

  abbrev second : Layout
  second = layouts.flushed (frozen first) (map file_of newer)

  count_reopened : count_of r ≡ count_of s
  count_reopened = omega arith

  layout_reopened : AreNewest older → AreNewest newer → layout_of r ≡ record second { count = count_of r; next = number + 1 }
  layout_reopened are_older are_newer = λ i. record second {
    count = count_of r;
    next = number + 1;
    pending = pending_again s [] (λ erase none. absurd (none_in erase none)) i;
    levels = levels_twice s.manifest.config.levels newer older s.files are_newer are_older i;
  }

  pub reopened_for : (h : History) → IsCoherent s → IsFor h s → AreNewest older → AreNewest newer → Flushes h (layout_of s) (map file_of older) → Flushes h (frozen first) (map file_of newer) → IsFor h r
  reopened_for h coherent stands are_older are_newer flushes_older flushes_newer =
      let threshold = s.manifest.config.threshold in
      let once = moves.flush_follows threshold h (layout_of s) (follows h s coherent stands) (map file_of older) flushes_older in
      let after = moves.flush_follows threshold h (frozen first) (frozen_follows threshold h first once refl) (map file_of newer) flushes_newer in
      record {
        legal = stands.legal;
        done = stands.done;
        covers = subst (Covers threshold h) (sym (layout_reopened are_older are_newer)) (covers_numbered threshold h second (count_of r) (number + 1) after.covers);
        shape = subst (λ l. IsValidShape (shape_of l)) (sym (layout_reopened are_older are_newer)) after.ordered.shape;
        clock = stands.clock;
        count = count_reopened ∙ stands.count;
        certificate = stands.certificate;
      }

-- A flush of nothing

nothing_merged : (l : Layout) → frozen_entries l ≡ [] → merged (frozen_entries l) l.pending false ≡ []
nothing_merged l none = ap (λ entries. merged entries l.pending false) none ∙ ap (filter_map (λ entry. bared false entry entry.body)) left-nil

pub flush_of_nothing : (h : History) (l : Layout) → frozen_entries l ≡ [] → Flushes h l []
flush_of_nothing h l none = record {
  alone = false;
  clear = λ lone. absurd cc;
  made = record {
    has = λ entry. (λ is. absurd (none_in is.file is.there), λ there. absurd (none_in entry (subst (λ entries. Contains entries entry) (nothing_merged l none) there)));
    tiled = All-nil IsTiled;
    tight = All-nil (λ file. All IsTight file.tiles);
    apart = no_pairs (λ file other. IsClearOf (keys_of file) other);
    swept = All-nil (λ file. file.swept ≡ length h);
  };
  new = record { distinct = no_pairs IsOther; above = All-nil (λ file. All (λ other. other.no < file.no) (files_of l)) };
}
