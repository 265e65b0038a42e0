-- The merge of the entries that reads see between two keys has the map's pairs between them.
use Rattle.std.proofs.Common.{◌≡◌, ℕ, true, cond, IsTrue, List, filter, Contains, Option, Some, None, option_and_then, refl, sym, ap, ◌∙◌, subst}
use Rattle.lethe_cover.proofs.Common.{⊎_elim, nat_list_cmp_total, entry_of, pair_of, History, Map, after, Bytes, key_cmp, Layout, Shows, IsNewest, Covers, Entry, IsOutcome}
use Rattle.std.specs.FinMap as finmap
use Rattle.std.specs.FinMap.Entries.{is_sorted-where_key, find-where_key, same_entries}
use Rattle.std.proofs.lemmas.Bool.{cond_both}
use Rattle.lethe_base.specs.Entries.{shown}
use Rattle.lethe_base.specs.Read.{is_between}
use Rattle.lethe_base.proofs.Newest.{newest_shown}
use Rattle.lethe_cover.proofs.ByKey.{entry_in, no_entry}
use Rattle.lethe_cover.proofs.Merging.{merged_outcome}
use Rattle.lethe_mem.specs.Pairs.{pairs_of}
use Rattle.lethe_mem.proofs.PairsLemmas.{pairs_sorted, find_pairs}
use Rattle.lethe_mem.proofs.Places.{tied, to_T}
use Rattle.lethe_merge.specs.Merge.{merged}
use Rattle.lethe_merge.proofs.Merges.{merged_is, merged_ascends}
use Rattle.lethe_moves.specs.Scans.{AreShownBetween}

find_between : (m : Map) (lo hi key : Bytes) → finmap.find key_cmp key (filter (λ e. is_between lo hi e.0) (finmap.entries m)) ≡ cond (is_between lo hi key) (finmap.get m key) None
find_between m lo hi key = find-where_key key_cmp (is_between lo hi) key (λ x same. ap (is_between lo hi) (sym (tied key x same))) (finmap.entries m)
    ∙ ap (λ found. cond (is_between lo hi key) found None) (sym (finmap.get-entries m key))

module _ (threshold : ℕ) (h : History) (l : Layout) (covers : Covers threshold h l) (lo hi : Bytes) (entries : List Entry) (all : AreShownBetween l lo hi entries) where
  abbrev left : List Entry
  left = merged entries l.pending true

  abbrev map : Map
  map = (after h).map

  -- what reads see between the two keys
  abbrev Inputs : Entry → Type 0
  Inputs entry = Shows l entry × IsTrue (is_between lo hi entry.key)

  outcome : IsOutcome l.pending (IsTrue true) Inputs (Contains left)
  outcome = merged_outcome Inputs entries (λ entry. (all entry).0) (λ entry. (all entry).1) l.pending true left (merged_is entries l.pending true)

  moved : (key other : Bytes) → key ≡ other → IsTrue (is_between lo hi key) → IsTrue (is_between lo hi other)
  moved key other same = subst (λ key. IsTrue (is_between lo hi key)) same

  -- the newest of these is the newest that reads see
  newest : (entry : Entry) → IsNewest Inputs entry → IsNewest (Shows l) entry
  newest entry is = record { shown = is.shown.0; last = λ other there same. is.last other (there, moved entry.key other.key (sym same) is.shown.1) same }

  -- what is left of a key answers what the map has of it, and where nothing is left the map has nothing
  left_answers : (key : Bytes) → shown key left ≡ cond (is_between lo hi key) (finmap.get map key) None
  left_answers key = by (entry_of key left) refl
    where
      none_left : entry_of key left ≡ None → IsTrue (is_between lo hi key) → finmap.get map key ≡ None
      none_left at within = ⊎_elim
          (λ best. ⊎_elim (λ kept. absurd (no_entry key left at kept.output kept.made (kept.same ∙ best.2)))
          (λ dropped. ap (finmap.get map) (sym (dropped.same ∙ best.2)) ∙ sym (covers.same_map.newest dropped.newest (newest dropped.newest dropped.is)) ∙ dropped.nothing)
          (outcome.kept best.0 (best.1.shown, moved key best.0.key (sym best.2) within)))
          (covers.same_map.absent key) (newest_shown l key)

      by : (o : Option Entry) → entry_of key left ≡ o → option_and_then (λ e. pair_of e.body) o ≡ cond (is_between lo hi key) (finmap.get map key) None
      by None at = sym (cond_both (is_between lo hi key) (finmap.get map key) None (λ found. found ≡ None) (none_left at) (λ _. refl))
      by (Some entry) at =
          let is = entry_in key left entry at in
          let from = outcome.source entry is.0 in
          let named : from.input.key ≡ key = from.same ∙ is.1 in
          let within = moved from.input.key key named from.newest.shown.1 in
          from.answer ∙ covers.same_map.newest from.input (newest from.input from.newest) ∙ ap (finmap.get map) named
          ∙ sym (ap (λ t. cond t (finmap.get map key) None) within)

  pub scanned : pairs_of left ≡ filter (λ e. is_between lo hi e.0) (finmap.entries map)
  scanned = let ascends = merged_ascends entries l.pending true in
      same_entries key_cmp nat_list_cmp_total tied (pairs_of left) (filter (λ e. is_between lo hi e.0) (finmap.entries map))
      (to_T _ (pairs_sorted left ascends)) (is_sorted-where_key key_cmp (is_between lo hi) (finmap.entries map) (finmap.entries_sorted map))
      (λ key. find_pairs key left ascends ∙ left_answers key ∙ sym (find_between map lo hi key))
