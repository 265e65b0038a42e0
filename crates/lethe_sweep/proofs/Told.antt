-- What a sweep leaves of pages that agree with their lines.
use Rattle.std.proofs.Common.{◌≡◌, ℕ, ◌≤◌, ◌<◌, Bool, true, false, cond, List, [], ◌∷◌, ◌++◌, All, filter, filter_map, flat_map, get_or, map, nat_lt, not, Option, Some, None, refl, sym, ap, subst, ◌∙◌, arith}
use Rattle.std.specs.Prelude.{◌&&◌, ◌||◌, IsPermutation, nat_le}
use Rattle.std.specs.List.{cons_option}
use Rattle.std.proofs.lemmas.Bool.{and_from, and_parts, le-leb, leb-true, lt-ltb, ltb-true}
use Rattle.std.proofs.lemmas.Grind.{flat_map-append}
use Rattle.std.proofs.lemmas.List.{append-nil, map-append}
use Rattle.std.proofs.lemmas.List.Elements.{All-contains, All-filter, All-head, All-tail, All-weaker, Contains-push, filter-append, filter_map-append}
use Rattle.std.proofs.lemmas.Option.{get_or_from_slice_get}
use Rattle.lethe_base.specs.Matching.{matches}
use Rattle.lethe_base.specs.Ranges.{Ends, in_range}
use Rattle.lethe_base.specs.Shapes.{is_tomb}
use Rattle.lethe_base.specs.Spelling.{kind_of}
use Rattle.lethe_base.specs.declared.entry.Body.{Body}
use Rattle.lethe_base.specs.declared.entry.Body.TheVariants.{Put, Tomb}
use Rattle.lethe_base.specs.declared.entry.Entry.{Entry}
use Rattle.lethe_base.specs.declared.pending.Pending.{Pending}
use Rattle.lethe_cover.specs.Merged.{struck}
use Rattle.lethe_cover.specs.Sweeps.{is_matched, swept_of}
use Rattle.lethe_header.specs.Headers.{IsFence, is_puts}
use Rattle.lethe_header.specs.declared.header.PageLine.{PageLine}
use Rattle.lethe_merge.proofs.Merges.{IsOfKey, left-nil, merged_ascends}
use Rattle.lethe_merge.specs.Merge.{merged}
use Rattle.lethe_page.specs.Pages.{IsIn, kind_in}
use Rattle.lethe_page.specs.declared.class.Class.{Class}
use Rattle.lethe_page.specs.declared.class.Class.TheVariants.{Puts, Tombs}
use Rattle.lethe_tile.specs.Woven.{puts_of, tombs_of}
use Rattle.lethe_sweep.specs.Fences.{is_across, is_inside, is_met, is_within, meets}
use Rattle.lethe_sweep.specs.Modes.{is_fetched_in, mode_of}
use Rattle.lethe_sweep.specs.Steps.{Begun, Fetched, Goes, IsLeft, IsRead, IsTileLeft, Stays, fenced}
use Rattle.lethe_swept.specs.Fits.{is_fenced}
use Rattle.lethe_sweep.specs.Sweeping.{AreTombs, IsSweptTile, entries_of, left_in, left_of}
use Rattle.lethe_swept.specs.Left.{Placed, entries_at, fresh}
use Rattle.lethe_sweep.specs.declared.fence.Mode.{Mode}
use Rattle.lethe_sweep.specs.declared.fence.Mode.TheVariants.{Alone, Met, Whole}
use Rattle.lethe_swept.specs.declared.part.Part.{Part}
use Rattle.lethe_swept.specs.declared.part.Part.TheVariants.{Kept}
use Rattle.lethe_sweep.proofs.Paging.{all_front, swept_key}
use Rattle.lethe_sweep.proofs.Sorting.{HaveOwnKeys, merged_sorted, own_filter, own_kept}

-- what is known of a page that agrees with its line
pub record IsTold (pages : List (List Entry)) (page : Placed) : Type 0 where
  pub each : All (IsIn page.line.class) (entries_at pages page.place)
  pub inside : All (λ e. is_fenced page.line.fence e.body ≡ true) (entries_at pages page.place)
  pub fence : IsFence page.line.class page.line.fence

-- its entries stand before the erase
abbrev pub IsBefore : Pending → List (List Entry) → Placed → Type 0
IsBefore erase pages page = All (λ e. e.seq < erase.seq) (entries_at pages page.place)

-- ---- tests

pub or_false : (b : Bool) → b || false ≡ true → b ≡ true
or_false true is = refl
or_false false is = is

pub not_false : (b : Bool) → not b ≡ false → b ≡ true
not_false true is = refl
not_false false is = absurd cc

-- ---- an entry whose delete key lies in its page's fence

apart_entry : (erase : Pending) (fence : Option (ℕ × ℕ)) (e : Entry) → is_across erase.range fence ≡ false → is_fenced fence e.body ≡ true → is_matched erase e.seq e.body ≡ false
apart_entry erase fence e = by fence e.body
  where
    by_test : (f : ℕ × ℕ) (dkey : ℕ) → is_across erase.range (Some f) ≡ false → f.0 ≤ dkey → dkey ≤ f.1 → (t : Bool) → matches erase e.seq dkey ≡ t → t ≡ false
    by_test f dkey apart lo hi false at = refl
    by_test f dkey apart lo hi true at =
        let in_it = (and_parts (nat_lt e.seq erase.seq) (in_range erase.range dkey) at).1 in
        let ends = and_parts (nat_le erase.range.lo dkey) (nat_lt dkey erase.range.hi) in_it in
        let from : erase.range.lo ≤ dkey = leb-true erase.range.lo dkey ends.0 in
        let upto : dkey < erase.range.hi = ltb-true dkey erase.range.hi ends.1 in
        let across : is_across erase.range (Some f) ≡ true =
        and_from (nat_lt f.0 erase.range.hi) (nat_le erase.range.lo f.1) (lt-ltb f.0 erase.range.hi (omega (arith, lo, upto))) (le-leb erase.range.lo f.1 (omega (arith, hi, from))) in
        sym across ∙ apart

    by : (fence : Option (ℕ × ℕ)) (body : Body) → is_across erase.range fence ≡ false → is_fenced fence body ≡ true → is_matched erase e.seq body ≡ false
    by None (Put dkey value) apart inside = absurd cc
    by None Tomb apart inside = refl
    by (Some f) Tomb apart inside = refl
    by (Some f) (Put dkey value) apart inside =
        let ends = and_parts (nat_le f.0 dkey) (nat_le dkey f.1) inside in
        by_test f dkey apart (leb-true f.0 dkey ends.0) (leb-true dkey f.1 ends.1) (matches erase e.seq dkey) refl

within_entry : (erase : Pending) (fence : Option (ℕ × ℕ)) (e : Entry) → is_within erase.range fence ≡ true → is_fenced fence e.body ≡ true → e.seq < erase.seq → is_tomb e.body ≡ false → is_matched erase e.seq e.body ≡ true
within_entry erase fence e = by fence e.body
  where
    by : (fence : Option (ℕ × ℕ)) (body : Body) → is_within erase.range fence ≡ true → is_fenced fence body ≡ true → e.seq < erase.seq → is_tomb body ≡ false → is_matched erase e.seq body ≡ true
    by fence Tomb within inside before put = absurd cc
    by None (Put dkey value) within inside before put = absurd cc
    by (Some f) (Put dkey value) within inside before put =
        let own = and_parts (nat_le f.0 dkey) (nat_le dkey f.1) inside in
        let ends = and_parts (nat_le erase.range.lo f.0) (nat_lt f.1 erase.range.hi) within in
        let from : erase.range.lo ≤ dkey = omega (arith, leb-true f.0 dkey own.0, leb-true erase.range.lo f.0 ends.0) in
        let upto : dkey < erase.range.hi = omega (arith, leb-true dkey f.1 own.1, ltb-true f.1 erase.range.hi ends.1) in
        and_from (nat_lt e.seq erase.seq) (in_range erase.range dkey) (lt-ltb e.seq erase.seq before)
        (and_from (nat_le erase.range.lo dkey) (nat_lt dkey erase.range.hi) (le-leb erase.range.lo dkey from) (lt-ltb dkey erase.range.hi upto))

pub tomb_unmatched : (erase : Pending) (seq : ℕ) (body : Body) → is_tomb body ≡ true → is_matched erase seq body ≡ false
tomb_unmatched erase seq (Put dkey value) tomb = absurd cc
tomb_unmatched erase seq Tomb tomb = refl

-- ---- what is left of entries

pub stay_all : (alone : Bool) (erase : Pending) (es : List Entry) → All (λ e. is_matched erase e.seq e.body ≡ false) es → left_in alone erase es ≡ es
stay_all alone erase [] none = refl
stay_all alone erase (e ∷ es) none =
    ap (λ (t : Bool). cons_option (cond t (cond alone None (Some (struck (erase ∷ []) e))) (Some e)) (left_in alone erase es)) (All-head (λ e. is_matched erase e.seq e.body ≡ false) e es none)
    ∙ ap (λ (rest : List Entry). e ∷ rest) (stay_all alone erase es (All-tail (λ e. is_matched erase e.seq e.body ≡ false) e es none))

go_all : (erase : Pending) (es : List Entry) → All (λ e. is_matched erase e.seq e.body ≡ true) es → left_in true erase es ≡ []
go_all erase [] each = refl
go_all erase (e ∷ es) each =
    ap (λ (t : Bool). cons_option (cond t None (Some e)) (left_in true erase es)) (All-head (λ e. is_matched erase e.seq e.body ≡ true) e es each)
    ∙ go_all erase es (All-tail (λ e. is_matched erase e.seq e.body ≡ true) e es each)

-- alone, no tombstone comes of puts
no_tombs : (erase : Pending) (es : List Entry) → All (λ e. is_tomb e.body ≡ false) es → tombs_of (left_in true erase es) ≡ []
no_tombs erase [] puts = refl
no_tombs erase (e ∷ es) puts = by (is_matched erase e.seq e.body) (no_tombs erase es (All-tail (λ e. is_tomb e.body ≡ false) e es puts))
  where
    by : (t : Bool) → tombs_of (left_in true erase es) ≡ [] → tombs_of (cons_option (cond t None (Some e)) (left_in true erase es)) ≡ []
    by true rest = rest
    by false rest = ap (λ (t : Bool). cond t (e ∷ tombs_of (left_in true erase es)) (tombs_of (left_in true erase es))) (All-head (λ e. is_tomb e.body ≡ false) e es puts) ∙ rest

pub pass_all : (test : Entry → Bool) (es : List Entry) → All (λ e. test e ≡ true) es → filter test es ≡ es
pass_all test [] each = refl
pass_all test (e ∷ es) each =
    ap (λ (t : Bool). cond t (e ∷ filter test es) (filter test es)) (All-head (λ e. test e ≡ true) e es each) ∙ ap (λ (rest : List Entry). e ∷ rest) (pass_all test es (All-tail (λ e. test e ≡ true) e es each))

pub pass_none : (test : Entry → Bool) (es : List Entry) → All (λ e. test e ≡ false) es → filter test es ≡ []
pass_none test [] none = refl
pass_none test (e ∷ es) none =
    ap (λ (t : Bool). cond t (e ∷ filter test es) (filter test es)) (All-head (λ e. test e ≡ false) e es none) ∙ pass_none test es (All-tail (λ e. test e ≡ false) e es none)

-- ---- the classes of pages

is_put : (class : Class) (e : Entry) → class ≡ Puts → IsIn class e → is_tomb e.body ≡ false
is_put class e puts own = by e.body (own.kind ∙ ap kind_in puts)
  where
    by : (body : Body) → kind_of body ≡ kind_in Puts → is_tomb body ≡ false
    by (Put dkey value) is = refl
    by Tomb is = absurd cc

pub is_mark : (class : Class) (e : Entry) → class ≡ Tombs → IsIn class e → is_tomb e.body ≡ true
is_mark class e tombs own = by e.body (own.kind ∙ ap kind_in tombs)
  where
    by : (body : Body) → kind_of body ≡ kind_in Tombs → is_tomb body ≡ true
    by (Put dkey value) is = absurd cc
    by Tomb is = refl

pub puts_is : (class : Class) → is_puts class ≡ true → class ≡ Puts
puts_is Puts is = refl
puts_is Tombs is = absurd cc

pub tombs_is : (class : Class) → is_puts class ≡ false → class ≡ Tombs
tombs_is Puts is = absurd cc
tombs_is Tombs is = refl

-- a page that meets a range has puts
met_puts : (range : Ends) (class : Class) (fence : Option (ℕ × ℕ)) → IsFence class fence → is_across range fence ≡ true → class ≡ Puts
met_puts range Puts fence is met = refl
met_puts range Tombs None is met = absurd cc
met_puts range Tombs (Some f) is met = absurd is

-- ---- one page more

pub flat_push : {X Y : Type 0} (f : X → List Y) (xs : List X) (x : X) → flat_map f (xs ++ x ∷ []) ≡ flat_map f xs ++ f x
flat_push f xs x = flat_map-append f xs (x ∷ []) ∙ ap (λ ys. flat_map f xs ++ ys) (append-nil (f x))

-- where no tombstones are left there is no page of them
pub no_marks : (tombs : List Entry) (own parts : List Part) → parts ≡ fresh (merged tombs [] false) ++ own → tombs ≡ [] → parts ≡ own
no_marks tombs own parts are none = are ∙ ap (λ (ts : List Entry). fresh (merged ts [] false) ++ own) none ∙ ap (λ (es : List Entry). fresh (filter_map (λ e. Some e) es) ++ own) left-nil

module _ (erase : Pending) (pages : List (List Entry)) where
  -- of a page that doesn't meet the range each entry stays
  pub apart_left : (alone : Bool) (page : Placed) → IsTold pages page → meets erase.range page.line ≡ false → left_in alone erase (entries_at pages page.place) ≡ entries_at pages page.place
  apart_left alone page is apart = stay_all alone erase (entries_at pages page.place) (λ k d lt. apart_entry erase page.line.fence (get_or (entries_at pages page.place) k d) apart (is.inside k d lt))

  pub met_class : (page : Placed) → IsTold pages page → meets erase.range page.line ≡ true → page.line.class ≡ Puts
  met_class page is met = met_puts erase.range page.line.class page.line.fence is.fence met

  pub each_put : (page : Placed) → IsTold pages page → page.line.class ≡ Puts → All (λ e. is_tomb e.body ≡ false) (entries_at pages page.place)
  each_put page is puts k d lt = is_put page.line.class (get_or (entries_at pages page.place) k d) puts (is.each k d lt)

  pub each_mark : (page : Placed) → IsTold pages page → page.line.class ≡ Tombs → All (λ e. is_tomb e.body ≡ true) (entries_at pages page.place)
  each_mark page is tombs k d lt = is_mark page.line.class (get_or (entries_at pages page.place) k d) tombs (is.each k d lt)

  pub left_apart : (alone : Bool) (page : Placed) → meets erase.range page.line ≡ false → left_of alone erase pages page ≡ Kept page.place ∷ []
  left_apart alone page apart = ap (λ (t : Bool). cond t (fresh (puts_of (left_in alone erase (entries_at pages page.place)))) (Kept page.place ∷ [])) apart

  pub left_met : (alone : Bool) (page : Placed) → meets erase.range page.line ≡ true → left_of alone erase pages page ≡ fresh (puts_of (left_in alone erase (entries_at pages page.place)))
  left_met alone page met = ap (λ (t : Bool). cond t (fresh (puts_of (left_in alone erase (entries_at pages page.place)))) (Kept page.place ∷ [])) met

-- ---- on any disk no tombstones are left of a tile of a file that is alone, and of one that no page meets

abbrev pub HasFence : Placed → Type 0
HasFence page = IsFence page.line.class page.line.fence

module _ (tells : Type 0) (erase : Pending) (pages : List (List Entry)) where
  pub alone_tombs : (tile : List Placed) (tombs : List Entry) (parts : List Part) → IsLeft tells Alone erase pages tile tombs parts → All HasFence tile → tombs ≡ []
  alone_tombs tile tombs parts Begun fences = refl
  alone_tombs tile tombs parts (Stays before own some left page apart outside) fences = alone_tombs before own some left (all_front HasFence before (page ∷ []) fences)
  alone_tombs tile tombs parts (Goes before own some left page apart met) fences = alone_tombs before own some left (all_front HasFence before (page ∷ []) fences)
  alone_tombs tile tombs parts (Fetched before own some left page fetched entries read) fences =
      let rest = alone_tombs before own some left (all_front HasFence before (page ∷ []) fences) in
      let fence = All-contains HasFence (before ++ page ∷ []) page fences (Contains-push before page) in
      let class : page.line.class ≡ Puts = met_puts erase.range page.line.class page.line.fence fence (and_parts (meets erase.range page.line) (not (is_inside erase.range page.line)) fetched).0 in
      let IsPut = λ (e : Entry). is_tomb e.body ≡ false in
      let puts : All IsPut entries = All-weaker (IsIn page.line.class) IsPut (λ e own. is_put page.line.class e class own) entries read.is_page.spelled.each in
      ap (λ (ts : List Entry). ts ++ tombs_of (left_in true erase (fenced page.line.fence entries))) rest
      ∙ no_tombs erase (fenced page.line.fence entries) (All-filter (λ (e : Entry). is_fenced page.line.fence e.body) IsPut entries puts)

  pub whole_tombs : (tile : List Placed) (tombs : List Entry) (parts : List Part) → IsLeft tells Whole erase pages tile tombs parts → tombs ≡ []
  whole_tombs tile tombs parts Begun = refl
  whole_tombs tile tombs parts (Stays before own some left page apart outside) = whole_tombs before own some left
  whole_tombs tile tombs parts (Goes before own some left page apart met) = whole_tombs before own some left
  whole_tombs tile tombs parts (Fetched before own some left page fetched entries read) = absurd cc

module _ (tells : Type 0) (told : tells) (erase : Pending) (pages : List (List Entry)) where
  last_told : (before : List Placed) (page : Placed) → All (IsTold pages) (before ++ page ∷ []) → IsTold pages page
  last_told before page all = All-contains (IsTold pages) (before ++ page ∷ []) page all (Contains-push before page)

  -- what was read of a page are the entries that stand there
  read_left : (alone : Bool) (page : Placed) (entries : List Entry) → IsTold pages page → IsRead tells pages page entries → left_in alone erase (fenced page.line.fence entries) ≡ left_in alone erase (entries_at pages page.place)
  read_left alone page entries is read =
      let same : entries_at pages page.place ≡ entries = get_or_from_slice_get pages page.place entries [] (read.told told) in
      ap (λ (es : List Entry). left_in alone erase (fenced page.line.fence es)) (sym same)
      ∙ ap (left_in alone erase) (pass_all (λ e. is_fenced page.line.fence e.body) (entries_at pages page.place) is.inside)

  -- ---- a file that is alone

  alone_own : (tile : List Placed) (tombs : List Entry) (parts : List Part) → IsLeft tells Alone erase pages tile tombs parts → All (IsTold pages) tile → All (IsBefore erase pages) tile → parts ≡ flat_map (left_of true erase pages) tile
  alone_own tile tombs parts Begun all low = refl
  alone_own tile tombs parts (Stays before own some left page apart outside) all low =
      let rest = alone_own before own some left (all_front (IsTold pages) before (page ∷ []) all) (all_front (IsBefore erase pages) before (page ∷ []) low) in
      ap (λ (ps : List Part). ps ++ Kept page.place ∷ []) rest ∙ ap (λ (ps : List Part). flat_map (left_of true erase pages) before ++ ps) (sym (left_apart erase pages true page outside)) ∙ sym (flat_push (left_of true erase pages) before page)
  alone_own tile tombs parts (Goes before own some left page apart met) all low =
      let rest = alone_own before own some left (all_front (IsTold pages) before (page ∷ []) all) (all_front (IsBefore erase pages) before (page ∷ []) low) in
      let is = last_told before page all in
      let es = entries_at pages page.place in
      let early = All-contains (IsBefore erase pages) (before ++ page ∷ []) page low (Contains-push before page) in
      let inside : is_inside erase.range page.line ≡ true = not_false (is_inside erase.range page.line) (sym (ap (λ (t : Bool). t && not (is_inside erase.range page.line)) met) ∙ apart) in
      let puts = each_put erase pages page is (met_class erase pages page is met) in
      let gone : left_in true erase es ≡ [] = go_all erase es (λ k d lt. within_entry erase page.line.fence (get_or es k d) inside (is.inside k d lt) (early k d lt) (puts k d lt)) in
      let none : left_of true erase pages page ≡ [] = left_met erase pages true page met ∙ ap (λ (l : List Entry). fresh (puts_of l)) gone in
      rest ∙ sym (append-nil (flat_map (left_of true erase pages) before)) ∙ ap (λ (ps : List Part). flat_map (left_of true erase pages) before ++ ps) (sym none) ∙ sym (flat_push (left_of true erase pages) before page)
  alone_own tile tombs parts (Fetched before own some left page fetched entries read) all low =
      let rest = alone_own before own some left (all_front (IsTold pages) before (page ∷ []) all) (all_front (IsBefore erase pages) before (page ∷ []) low) in
      let is = last_told before page all in
      let met = (and_parts (meets erase.range page.line) (not (is_inside erase.range page.line)) fetched).0 in
      let same = read_left true page entries is read in
      ap (λ (ps : List Part). ps ++ fresh (puts_of (left_in true erase (fenced page.line.fence entries)))) rest
      ∙ ap (λ (l : List Entry). flat_map (left_of true erase pages) before ++ fresh (puts_of l)) same
      ∙ ap (λ (ps : List Part). flat_map (left_of true erase pages) before ++ ps) (sym (left_met erase pages true page met)) ∙ sym (flat_push (left_of true erase pages) before page)

  -- ---- a file that isn't, and a tile of which a page meets the range

  abbrev has_puts : Placed → Bool
  has_puts page = is_puts page.line.class

  tombs_push : (before : List Placed) (page : Placed) → tombs_of (left_in false erase (entries_of pages (before ++ page ∷ []))) ≡ tombs_of (left_in false erase (entries_of pages before)) ++ tombs_of (left_in false erase (entries_at pages page.place))
  tombs_push before page =
      ap (λ (es : List Entry). tombs_of (left_in false erase es)) (flat_push (λ (page : Placed). entries_at pages page.place) before page)
      ∙ ap tombs_of (filter_map-append (swept_of false erase) (entries_of pages before) (entries_at pages page.place))
      ∙ filter-append (λ (entry : Entry). is_tomb entry.body) (left_in false erase (entries_of pages before)) (left_in false erase (entries_at pages page.place))

  puts_push : (before : List Placed) (page : Placed) (t : Bool) → is_puts page.line.class ≡ t
      → flat_map (left_of false erase pages) (filter has_puts (before ++ page ∷ [])) ≡ flat_map (left_of false erase pages) (filter has_puts before) ++ cond t (left_of false erase pages page) []
  puts_push before page t is =
      ap (flat_map (left_of false erase pages)) (filter-append has_puts before (page ∷ []) ∙ ap (λ (b : Bool). filter has_puts before ++ cond b (page ∷ []) []) is)
      ∙ flat_map-append (left_of false erase pages) (filter has_puts before) (cond t (page ∷ []) [])
      ∙ ap (λ (ps : List Part). flat_map (left_of false erase pages) (filter has_puts before) ++ ps) (by t)
    where
      by : (t : Bool) → flat_map (left_of false erase pages) (cond t (page ∷ []) []) ≡ cond t (left_of false erase pages page) []
      by true = append-nil (left_of false erase pages page)
      by false = refl

  met_own : (tile : List Placed) (tombs : List Entry) (parts : List Part) → IsLeft tells Met erase pages tile tombs parts → All (IsTold pages) tile
      → (tombs ≡ tombs_of (left_in false erase (entries_of pages tile))) × (parts ≡ flat_map (left_of false erase pages) (filter has_puts tile))
  met_own tile tombs parts Begun all = (refl, refl)
  met_own tile tombs parts (Stays before own some left page apart outside) all =
      let rest = met_own before own some left (all_front (IsTold pages) before (page ∷ []) all) in
      let is = last_told before page all in
      let es = entries_at pages page.place in
      let puts : is_puts page.line.class ≡ true = not_false (is_puts page.line.class) (sym (ap (λ (t : Bool). t || not (is_puts page.line.class)) outside) ∙ apart) in
      let none : tombs_of (left_in false erase es) ≡ [] = ap tombs_of (apart_left erase pages false page is outside) ∙ pass_none (λ e. is_tomb e.body) es (each_put erase pages page is (puts_is page.line.class puts)) in (
        rest.0 ∙ sym (append-nil (tombs_of (left_in false erase (entries_of pages before)))) ∙ ap (λ (ts : List Entry). tombs_of (left_in false erase (entries_of pages before)) ++ ts) (sym none) ∙ sym (tombs_push before page),
        ap (λ (ps : List Part). ps ++ Kept page.place ∷ []) rest.1 ∙ ap (λ (ps : List Part). flat_map (left_of false erase pages) (filter has_puts before) ++ ps) (sym (left_apart erase pages false page outside)) ∙ sym (puts_push before page true puts),
      )
  met_own tile tombs parts (Goes before own some left page apart met) all =
      let no : true ≡ false = sym (ap (λ (t : Bool). t || not (is_puts page.line.class)) met) ∙ apart in absurd cc
  met_own tile tombs parts (Fetched before own some left page fetched entries read) all =
      let rest = met_own before own some left (all_front (IsTold pages) before (page ∷ []) all) in
      let is = last_told before page all in
      let same = read_left false page entries is read in (
        ap (λ (ts : List Entry). ts ++ tombs_of (left_in false erase (fenced page.line.fence entries))) rest.0
            ∙ ap (λ (l : List Entry). tombs_of (left_in false erase (entries_of pages before)) ++ tombs_of l) same ∙ sym (tombs_push before page),
        ap (λ (ps : List Part). ps ++ fresh (puts_of (left_in false erase (fenced page.line.fence entries)))) rest.1
            ∙ ap (λ (l : List Entry). flat_map (left_of false erase pages) (filter has_puts before) ++ fresh (puts_of l)) same
            ∙ ap (λ (ps : List Part). flat_map (left_of false erase pages) (filter has_puts before) ++ ps) (by is (is_puts page.line.class) refl)
            ∙ sym (puts_push before page (is_puts page.line.class) refl),
      )
    where
      by : IsTold pages page → (t : Bool) → is_puts page.line.class ≡ t → fresh (puts_of (left_in false erase (entries_at pages page.place))) ≡ cond t (left_of false erase pages page) []
      by is true puts = sym (left_met erase pages false page (or_false (meets erase.range page.line) (sym (ap (λ (t : Bool). meets erase.range page.line || not t) puts) ∙ fetched)))
      by is false puts =
          let es = entries_at pages page.place in
          let marks = each_mark erase pages page is (tombs_is page.line.class puts) in
          let stay : left_in false erase es ≡ es = stay_all false erase es (λ k d lt. tomb_unmatched erase (get_or es k d).seq (get_or es k d).body (marks k d lt)) in
          ap (λ (l : List Entry). fresh (puts_of l)) stay ∙ ap fresh (pass_none (λ e. not (is_tomb e.body)) es (λ k d lt. ap not (marks k d lt)))

  -- ---- a tile of which no page meets it

  whole_own : (mode : Mode) → ((line : PageLine) → meets erase.range line ≡ false → is_fetched_in mode erase.range line ≡ false) → (tile : List Placed) (tombs : List Entry) (parts : List Part) → IsLeft tells mode erase pages tile tombs parts
      → All (λ page. meets erase.range page.line ≡ false) tile → (tombs ≡ []) × (parts ≡ map (λ page. Kept page.place) tile)
  whole_own mode quiet tile tombs parts Begun all = (refl, refl)
  whole_own mode quiet tile tombs parts (Stays before own some left page apart outside) all =
      let rest = whole_own mode quiet before own some left (all_front (λ (page : Placed). meets erase.range page.line ≡ false) before (page ∷ []) all) in
      (rest.0, ap (λ (ps : List Part). ps ++ Kept page.place ∷ []) rest.1 ∙ sym (map-append (λ (page : Placed). Kept page.place) before (page ∷ [])))
  whole_own mode quiet tile tombs parts (Goes before own some left page apart met) all =
      let no : true ≡ false = sym met ∙ All-contains (λ (page : Placed). meets erase.range page.line ≡ false) (before ++ page ∷ []) page all (Contains-push before page) in absurd cc
  whole_own mode quiet tile tombs parts (Fetched before own some left page fetched entries read) all =
      let no : true ≡ false = sym fetched ∙ quiet page.line (All-contains (λ (page : Placed). meets erase.range page.line ≡ false) (before ++ page ∷ []) page all (Contains-push before page)) in absurd cc

  none_met : (tile : List Placed) → All (λ page. meets erase.range page.line ≡ false) tile → is_met erase.range (map (λ page. page.line) tile) ≡ false
  none_met [] none = refl
  none_met (page ∷ tile) none =
      ap (λ (t : Bool). t || is_met erase.range (map (λ page. page.line) tile)) (All-head (λ (page : Placed). meets erase.range page.line ≡ false) page tile none) ∙ none_met tile (All-tail (λ (page : Placed). meets erase.range page.line ≡ false) page tile none)

  -- ---- the tile

  keeps_key : (e o : Entry) → swept_of false erase e ≡ Some o → o.key ≡ e.key
  keeps_key e o is = by (swept_of false erase e) (swept_key false erase e) is
    where
      by : (left : Option Entry) → IsOfKey e.key left → left ≡ Some o → o.key ≡ e.key
      by None own same = absurd cc
      by (Some x) own same = let one : x ≡ o = cc in ap (λ (e : Entry). e.key) (sym one) ∙ own

  pub tile_swept : (alone : Bool) (tile : List Placed) (parts : List Part) → IsTileLeft tells alone erase pages tile parts → All (IsTold pages) tile → All (IsBefore erase pages) tile → HaveOwnKeys (entries_of pages tile) → IsSweptTile alone erase pages tile parts
  tile_swept true tile parts left all low own =
      let bare = no_marks left.tombs left.own parts left.parts_are (alone_tombs tells erase pages tile left.tombs left.own left.left (All-weaker (IsTold pages) HasFence (λ page is. is.fence) tile all)) in
      record {
        whole = λ none. bare ∙ (whole_own Alone (λ line apart. ap (λ (t : Bool). t && not (is_inside erase.range line)) apart) tile left.tombs left.own left.left none).1;
        alone_left = λ yes. bare ∙ alone_own tile left.tombs left.own left.left all low;
        left = λ no. absurd cc;
      }
  tile_swept false tile parts left all low own = record {
    whole = λ none.
        let mode : mode_of false erase.range (map (λ page. page.line) tile) ≡ Whole = ap (λ (t : Bool). cond t Met Whole) (none_met tile none) in
        let is = whole_own Whole (λ line apart. refl) tile left.tombs left.own (subst (λ (m : Mode). IsLeft tells m erase pages tile left.tombs left.own) mode left.left) none in
        no_marks left.tombs left.own parts left.parts_are is.0 ∙ is.1;
    alone_left = λ no. absurd cc;
    left = λ no met.
        let mode : mode_of false erase.range (map (λ page. page.line) tile) ≡ Met = ap (λ (t : Bool). cond t Met Whole) met in
        let is = met_own tile left.tombs left.own (subst (λ (m : Mode). IsLeft tells m erase pages tile left.tombs left.own) mode left.left) all in
        let list = merged left.tombs [] false in
        let keys = own_filter (λ e. is_tomb e.body) (left_in false erase (entries_of pages tile)) (own_kept (swept_of false erase) keeps_key (entries_of pages tile) own) in
        let are : AreTombs erase (entries_of pages tile) list =
        record { ascending = merged_ascends left.tombs [] false; same = subst (λ (ts : List Entry). IsPermutation ts list) is.0 (merged_sorted left.tombs (subst HaveOwnKeys (sym is.0) keys)) } in
        record { tombs = list; are = are; parts_are = left.parts_are ∙ ap (λ (ps : List Part). fresh list ++ ps) is.1 };
  }
