-- What a sweep leaves are the entries that the covering core calls left.
use Rattle.std.proofs.Common.{◌≡◌, Bool, true, false, cond, List, [], ◌∷◌, ◌++◌, All, filter, flat_map, get_or, map, not, Some, None, refl, sym, ap, subst, ◌∙◌}
use Rattle.std.specs.Prelude.{◌||◌, IsPermutation}
use Rattle.std.specs.List.{cons_option}
use Rattle.std.proofs.lemmas.Grind.{flat_map-append}
use Rattle.std.proofs.lemmas.List.{append-nil}
use Rattle.std.proofs.lemmas.List.Elements.{All-cons, All-head, All-nil, All-tail, filter-append, filter_map-append}
use Rattle.std.proofs.lemmas.List.Sorted.{IsPermutation-append_left, IsPermutation-filter_both, IsPermutation-refl, IsPermutation-trans}
use Rattle.lethe_base.specs.Shapes.{is_tomb}
use Rattle.lethe_base.specs.declared.entry.Entry.{Entry}
use Rattle.lethe_base.specs.declared.pending.Pending.{Pending}
use Rattle.lethe_cover.specs.Sweeps.{is_matched, swept_of}
use Rattle.lethe_header.specs.Headers.{is_puts}
use Rattle.lethe_tile.specs.Woven.{puts_of, tombs_of}
use Rattle.lethe_sweep.specs.Fences.{is_met, meets}
use Rattle.lethe_sweep.specs.Sweeping.{IsSweptTile, entries_of, left_in, left_of}
use Rattle.lethe_swept.specs.Left.{Placed, entries_at, entries_with, fresh}
use Rattle.lethe_swept.specs.declared.part.Part.{Part}
use Rattle.lethe_swept.specs.declared.part.Part.TheVariants.{Kept}
use Rattle.lethe_sweep.proofs.Told.{IsTold, apart_left, each_mark, each_put, left_apart, left_met, met_class, pass_all, pass_none, puts_is, stay_all, tomb_unmatched, tombs_is}

-- alone, only puts are left of puts
alone_puts : (erase : Pending) (es : List Entry) → All (λ e. is_tomb e.body ≡ false) es → puts_of (left_in true erase es) ≡ left_in true erase es
alone_puts erase [] puts = refl
alone_puts erase (e ∷ es) puts = by (is_matched erase e.seq e.body) (alone_puts erase es (All-tail (λ e. is_tomb e.body ≡ false) e es puts))
  where
    by : (t : Bool) → puts_of (left_in true erase es) ≡ left_in true erase es → puts_of (cons_option (cond t None (Some e)) (left_in true erase es)) ≡ cons_option (cond t None (Some e)) (left_in true erase es)
    by true rest = rest
    by false rest =
        ap (λ (t : Bool). cond (not t) (e ∷ puts_of (left_in true erase es)) (puts_of (left_in true erase es))) (All-head (λ e. is_tomb e.body ≡ false) e es puts) ∙ ap (λ (l : List Entry). e ∷ l) rest

same_permutation : (xs ys : List Entry) → xs ≡ ys → IsPermutation xs ys
same_permutation xs ys same = subst (IsPermutation xs) same (IsPermutation-refl xs)

module _ (erase : Pending) (pages : List (List Entry)) where
  abbrev pub entries_in : List Part → List Entry
  entries_in parts = flat_map (entries_with pages) parts

  fresh_entries : (es : List Entry) → entries_in (fresh es) ≡ es
  fresh_entries [] = refl
  fresh_entries (e ∷ es) = append-nil (e ∷ es)

  -- of one page
  alone_page : (page : Placed) → IsTold pages page → entries_in (left_of true erase pages page) ≡ left_in true erase (entries_at pages page.place)
  alone_page page told = by (meets erase.range page.line) refl
    where
      by : (t : Bool) → meets erase.range page.line ≡ t → entries_in (left_of true erase pages page) ≡ left_in true erase (entries_at pages page.place)
      by true met =
          let es = entries_at pages page.place in
          ap entries_in (left_met erase pages true page met) ∙ fresh_entries (puts_of (left_in true erase es)) ∙ alone_puts erase es (each_put erase pages page told (met_class erase pages page told met))
      by false apart = ap entries_in (left_apart erase pages true page apart) ∙ append-nil (entries_at pages page.place) ∙ sym (apart_left erase pages true page told apart)

  alone_entries : (tile : List Placed) → All (IsTold pages) tile → entries_in (flat_map (left_of true erase pages) tile) ≡ left_in true erase (entries_of pages tile)
  alone_entries [] told = refl
  alone_entries (page ∷ tile) told =
      let rest = flat_map (left_of true erase pages) tile in
      flat_map-append (entries_with pages) (left_of true erase pages page) rest
      ∙ ap (λ (es : List Entry). es ++ entries_in rest) (alone_page page (All-head (IsTold pages) page tile told))
      ∙ ap (λ (es : List Entry). left_in true erase (entries_at pages page.place) ++ es) (alone_entries tile (All-tail (IsTold pages) page tile told))
      ∙ sym (filter_map-append (swept_of true erase) (entries_at pages page.place) (entries_of pages tile))

  abbrev has_puts : Placed → Bool
  has_puts page = is_puts page.line.class

  met_page : (page : Placed) → IsTold pages page → is_puts page.line.class ≡ true → entries_in (left_of false erase pages page) ≡ puts_of (left_in false erase (entries_at pages page.place))
  met_page page told puts = by (meets erase.range page.line) refl
    where
      by : (t : Bool) → meets erase.range page.line ≡ t → entries_in (left_of false erase pages page) ≡ puts_of (left_in false erase (entries_at pages page.place))
      by true met = ap entries_in (left_met erase pages false page met) ∙ fresh_entries (puts_of (left_in false erase (entries_at pages page.place)))
      by false apart =
          let es = entries_at pages page.place in
          let each = each_put erase pages page told (puts_is page.line.class puts) in
          ap entries_in (left_apart erase pages false page apart) ∙ append-nil es ∙ sym (ap puts_of (apart_left erase pages false page told apart) ∙ pass_all (λ e. not (is_tomb e.body)) es (λ k d lt. ap not (each k d lt)))

  mark_page : (page : Placed) → IsTold pages page → is_puts page.line.class ≡ false → puts_of (left_in false erase (entries_at pages page.place)) ≡ []
  mark_page page told puts =
      let es = entries_at pages page.place in
      let marks = each_mark erase pages page told (tombs_is page.line.class puts) in
      ap puts_of (stay_all false erase es (λ k d lt. tomb_unmatched erase (get_or es k d).seq (get_or es k d).body (marks k d lt))) ∙ pass_none (λ e. not (is_tomb e.body)) es (λ k d lt. ap not (marks k d lt))

  met_entries : (tile : List Placed) → All (IsTold pages) tile → entries_in (flat_map (left_of false erase pages) (filter has_puts tile)) ≡ puts_of (left_in false erase (entries_of pages tile))
  met_entries [] told = refl
  met_entries (page ∷ tile) told = by (met_entries tile (All-tail (IsTold pages) page tile told)) (is_puts page.line.class) refl ∙ sym together
    where
      own : List Entry
      own = entries_at pages page.place

      rest : List Entry
      rest = entries_of pages tile

      first : IsTold pages page
      first = All-head (IsTold pages) page tile told

      together : puts_of (left_in false erase (entries_at pages page.place ++ entries_of pages tile)) ≡ puts_of (left_in false erase (entries_at pages page.place)) ++ puts_of (left_in false erase (entries_of pages tile))
      together =
          ap puts_of (filter_map-append (swept_of false erase) (entries_at pages page.place) (entries_of pages tile))
          ∙ filter-append (λ (e : Entry). not (is_tomb e.body)) (left_in false erase (entries_at pages page.place)) (left_in false erase (entries_of pages tile))

      by : entries_in (flat_map (left_of false erase pages) (filter has_puts tile)) ≡ puts_of (left_in false erase (entries_of pages tile))
          → (t : Bool) → is_puts page.line.class ≡ t → entries_in (flat_map (left_of false erase pages) (filter has_puts (page ∷ tile))) ≡ puts_of (left_in false erase (entries_at pages page.place)) ++ puts_of (left_in false erase (entries_of pages tile))
      by more true puts =
          ap (λ (t : Bool). entries_in (flat_map (left_of false erase pages) (cond t (page ∷ filter has_puts tile) (filter has_puts tile)))) puts
          ∙ flat_map-append (entries_with pages) (left_of false erase pages page) (flat_map (left_of false erase pages) (filter has_puts tile))
          ∙ ap (λ (es : List Entry). es ++ entries_in (flat_map (left_of false erase pages) (filter has_puts tile))) (met_page page first puts)
          ∙ ap (λ (es : List Entry). puts_of (left_in false erase (entries_at pages page.place)) ++ es) more
      by more false puts =
          ap (λ (t : Bool). entries_in (flat_map (left_of false erase pages) (cond t (page ∷ filter has_puts tile) (filter has_puts tile)))) puts
          ∙ more ∙ ap (λ (es : List Entry). es ++ puts_of (left_in false erase (entries_of pages tile))) (sym (mark_page page first puts))

  whole_entries : (alone : Bool) (tile : List Placed) → All (IsTold pages) tile → All (λ page. meets erase.range page.line ≡ false) tile → entries_in (map (λ page. Kept page.place) tile) ≡ left_in alone erase (entries_of pages tile)
  whole_entries alone [] told apart = refl
  whole_entries alone (page ∷ tile) told apart =
      let own = entries_at pages page.place in
      let here = All-head (λ (page : Placed). meets erase.range page.line ≡ false) page tile apart in
      ap (λ (es : List Entry). own ++ es) (whole_entries alone tile (All-tail (IsTold pages) page tile told) (All-tail (λ (page : Placed). meets erase.range page.line ≡ false) page tile apart))
      ∙ ap (λ (es : List Entry). es ++ left_in alone erase (entries_of pages tile)) (sym (apart_left erase pages alone page (All-head (IsTold pages) page tile told) here))
      ∙ sym (filter_map-append (swept_of alone erase) own (entries_of pages tile))

  unmet : (tile : List Placed) → is_met erase.range (map (λ page. page.line) tile) ≡ false → All (λ page. meets erase.range page.line ≡ false) tile
  unmet [] none = All-nil (λ (page : Placed). meets erase.range page.line ≡ false)
  unmet (page ∷ tile) none = by (λ rest. unmet tile rest) (meets erase.range page.line) refl none
    where
      by : (is_met erase.range (map (λ page. page.line) tile) ≡ false → All (λ (page : Placed). meets erase.range page.line ≡ false) tile)
          → (t : Bool) → meets erase.range page.line ≡ t → t || is_met erase.range (map (λ page. page.line) tile) ≡ false → All (λ (page : Placed). meets erase.range page.line ≡ false) (page ∷ tile)
      by behind true met none = absurd cc
      by behind false apart none = All-cons (λ (page : Placed). meets erase.range page.line ≡ false) page tile apart (behind none)

  -- of a tile
  pub tile_entries : (alone : Bool) (tile : List Placed) (parts : List Part) → All (IsTold pages) tile → IsSweptTile alone erase pages tile parts → IsPermutation (left_in alone erase (entries_of pages tile)) (entries_in parts)
  tile_entries true tile parts told swept = same_permutation (left_in true erase (entries_of pages tile)) (entries_in parts) (sym (ap entries_in (swept.alone_left refl) ∙ alone_entries tile told))
  tile_entries false tile parts told swept = by (is_met erase.range (map (λ page. page.line) tile)) refl
    where
      by : (t : Bool) → is_met erase.range (map (λ page. page.line) tile) ≡ t → IsPermutation (left_in false erase (entries_of pages tile)) (entries_in parts)
      by true met =
          let left = swept.left refl met in
          let all = left_in false erase (entries_of pages tile) in
          let puts = flat_map (left_of false erase pages) (filter has_puts tile) in
          let are : entries_in parts ≡ left.tombs ++ puts_of all =
          ap entries_in left.parts_are ∙ flat_map-append (entries_with pages) (fresh left.tombs) puts ∙ ap (λ (es : List Entry). es ++ entries_in puts) (fresh_entries left.tombs) ∙ ap (λ (es : List Entry). left.tombs ++ es) (met_entries tile told) in
          subst (IsPermutation all) (sym are)
          (IsPermutation-trans all (tombs_of all ++ puts_of all) (left.tombs ++ puts_of all)
          (IsPermutation-filter_both (λ (e : Entry). is_tomb e.body) (λ (e : Entry). not (is_tomb e.body)) (λ e. refl) all)
          (IsPermutation-append_left (puts_of all) (tombs_of all) left.tombs left.are.same))
      by false none =
          let apart = unmet tile none in
          same_permutation (left_in false erase (entries_of pages tile)) (entries_in parts) (sym (ap entries_in (swept.whole apart) ∙ whole_entries false tile told apart))
