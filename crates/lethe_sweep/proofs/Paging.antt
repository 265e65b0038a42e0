-- On any disk a new page of a sweep has a spelling.
use Rattle.std.proofs.Common.{◌≡◌, ℕ, ◌+◌, ◌≤◌, ◌<◌, ◌^◌, Bool, true, false, cond, List, [], ◌∷◌, ◌++◌, All, filter, filter_map, flat_map, get_or, length, map, nat_lt, not, sum_by, Option, Some, None, refl, sym, ap, subst, ◌∙◌, arith, length-append}
use Rattle.std.specs.Prelude.{IfSome}
use Rattle.std.specs.List.{cons_option}
use Rattle.std.specs.Option.{option_and_then}
use Rattle.std.proofs.lemmas.Grind.{flat_map-append}
use Rattle.std.proofs.lemmas.List.Elements.{All-append, All-cons, All-contains, All-filter, All-head, All-nil, All-tail, All-weaker, Contains-get_or, Contains-push, filter_map-append, filter_passes}
use Rattle.std.proofs.lemmas.List.{append-nil, get_or_append_left}
use Rattle.std.proofs.lemmas.List.Filters.{length-filter_both}
use Rattle.std.proofs.lemmas.List.Sums.{sum_by-append}
use Rattle.lethe_base.specs.Entries.{IsAscending}
use Rattle.lethe_base.specs.Keys.{Bytes, same_key}
use Rattle.lethe_base.specs.Limits.{max_time}
use Rattle.lethe_base.specs.Shapes.{earlier, is_tomb}
use Rattle.lethe_base.specs.Spelling.{HasSpelling, kind_of}
use Rattle.lethe_base.specs.declared.entry.Body.{Body}
use Rattle.lethe_base.specs.declared.entry.Body.TheVariants.{Put, Tomb}
use Rattle.lethe_base.specs.declared.entry.Entry.{Entry}
use Rattle.lethe_base.specs.declared.pending.Pending.{Pending}
use Rattle.lethe_build.specs.Built.{class_of}
use Rattle.lethe_build.specs.Parts.{IsPage}
use Rattle.lethe_cover.proofs.ByKey.{own_entry}
use Rattle.lethe_cover.specs.Merged.{bared, left_of, newer_of, struck}
use Rattle.lethe_cover.specs.Sweeps.{is_matched, swept_of}
use Rattle.lethe_file.specs.Agreement as agreement
use Rattle.lethe_header.specs.Facts.{lines_of}
use Rattle.lethe_header.specs.Headers.{HasFewEntries, entries_in, max_tile_entries}
use Rattle.lethe_header.specs.declared.header.PageLine.{PageLine}
use Rattle.lethe_header.specs.declared.header.TileLine.{TileLine}
use Rattle.lethe_merge.proofs.Gathers.{length-merged, merged_spelled}
use Rattle.lethe_merge.proofs.Merges.{IsOfKey, kept_ascends, merged_ascends, merged_is}
use Rattle.lethe_merge.proofs.Settles.{struck_spelled}
use Rattle.lethe_merge.specs.Merge.{merged}
use Rattle.lethe_page.specs.Pages as pages
use Rattle.lethe_page.specs.declared.class.Class.{Class}
use Rattle.lethe_page.specs.declared.class.Class.TheVariants.{Puts, Tombs}
use Rattle.lethe_tile.specs.Woven.{puts_of, tombs_of}
use Rattle.lethe_sweep.specs.Modes.{is_alone, mode_of}
use Rattle.lethe_sweep.specs.Steps.{AreTilesLeft, Begun, Fetched, Goes, IsLeft, IsTileLeft, More, NoTile, Stays, fenced, tile_left}
use Rattle.lethe_swept.specs.Fits.{is_fenced}
use Rattle.lethe_sweep.specs.Sweeping.{left_in}
use Rattle.lethe_swept.specs.Left.{Placed, fresh, fresh_of, placed}
use Rattle.lethe_sweep.specs.declared.fence.Mode.{Mode}
use Rattle.lethe_swept.specs.declared.part.Part.{Part}
use Rattle.lethe_swept.specs.declared.part.Part.TheVariants.{Kept}
use Rattle.lethe_swept.specs.declared.part.SweptTile.{SweptTile}
use Rattle.lethe_sweep.proofs.Keeping.{parts_left}
use Rattle.lethe_sweep.proofs.Sorting.{all_stay}

-- ---- some of the entries of a list in order are in order

abbrev if_passes : (Entry → Bool) → Entry → Option Entry
if_passes test e = cond (test e) (Some e) None

filter_as : (test : Entry → Bool) (es : List Entry) → filter_map (if_passes test) es ≡ filter test es
filter_as test [] = refl
filter_as test (e ∷ es) = by (test e) (filter_as test es)
  where
    by : (t : Bool) → filter_map (if_passes test) es ≡ filter test es → cons_option (cond t (Some e) None) (filter_map (if_passes test) es) ≡ cond t (e ∷ filter test es) (filter test es)
    by true same = ap (λ (l : List Entry). e ∷ l) same
    by false same = same

passes_key : (test : Entry → Bool) (e : Entry) → IsOfKey e.key (if_passes test e)
passes_key test e = by (test e)
  where
    by : (t : Bool) → IsOfKey e.key (cond t (Some e) None)
    by true = refl
    by false = tt

pub filter_ascends : (test : Entry → Bool) (es : List Entry) → IsAscending es → IsAscending (filter test es)
filter_ascends test es ascending = subst IsAscending (filter_as test es) (kept_ascends (if_passes test) (passes_key test) es ascending)

pub swept_key : (alone : Bool) (erase : Pending) (e : Entry) → IsOfKey e.key (swept_of alone erase e)
swept_key alone erase e = by (is_matched erase e.seq e.body) alone
  where
    by : (t alone : Bool) → IsOfKey e.key (cond t (cond alone None (Some (struck (erase ∷ []) e))) (Some e))
    by true true = tt
    by true false = refl
    by false alone = refl

filter_fewer : (test : Entry → Bool) (es : List Entry) → length (filter test es) ≤ length es
filter_fewer test [] = omega arith
filter_fewer test (e ∷ es) = by (test e) (filter_fewer test es)
  where
    by : (t : Bool) → length (filter test es) ≤ length es → length (cond t (e ∷ filter test es) (filter test es)) ≤ length (e ∷ es)
    by true more = omega (arith, more)
    by false more = omega (arith, more)

left_fewer : (alone : Bool) (erase : Pending) (es : List Entry) → length (left_in alone erase es) ≤ length es
left_fewer alone erase [] = omega arith
left_fewer alone erase (e ∷ es) = by (swept_of alone erase e) (left_fewer alone erase es)
  where
    by : (o : Option Entry) → length (left_in alone erase es) ≤ length es → length (cons_option o (left_in alone erase es)) ≤ length (e ∷ es)
    by None more = omega (arith, more)
    by (Some left) more = omega (arith, more)

-- what holds of entries holds of those that are left, where it holds of the tombstones of theirs
pub left_all : (P : Entry → Type 0) (alone : Bool) (erase : Pending) → ((e : Entry) → P e → P (struck (erase ∷ []) e)) → (es : List Entry) → All P es → All P (left_in alone erase es)
left_all P alone erase marked [] each = All-nil P
left_all P alone erase marked (e ∷ es) each = by (is_matched erase e.seq e.body) alone (left_all P alone erase marked es (All-tail P e es each))
  where
    own : P e
    own = All-head P e es each

    by : (t b : Bool) → All P (left_in alone erase es) → All P (cons_option (cond t (cond b None (Some (struck (erase ∷ []) e))) (Some e)) (left_in alone erase es))
    by true true more = more
    by true false more = All-cons P (struck (erase ∷ []) e) (left_in alone erase es) (marked e own) more
    by false b more = All-cons P e (left_in alone erase es) own more

left_spelled : (alone : Bool) (erase : Pending) → erase.time ≤ max_time → (es : List Entry) → All HasSpelling es → All HasSpelling (left_in alone erase es)
left_spelled alone erase time es spelled =
    let IsEarly = λ (erase : Pending). erase.time ≤ max_time in
    left_all HasSpelling alone erase (struck_spelled (erase ∷ []) (All-cons IsEarly erase [] time (All-nil IsEarly))) es spelled

-- ---- a page of puts, and one of tombstones

abbrev pub IsPut : Entry → Type 0
IsPut e = not (is_tomb e.body) ≡ true

abbrev pub IsTomb : Entry → Type 0
IsTomb e = is_tomb e.body ≡ true

put_in : (e : Entry) → IsPut e → HasSpelling e → pages.IsIn Puts e
put_in e put spelled = record { kind = by e.body put; spelled = spelled }
  where
    by : (body : Body) → not (is_tomb body) ≡ true → kind_of body ≡ pages.kind_in Puts
    by (Put dkey value) put = refl
    by Tomb put = absurd cc

tomb_in : (e : Entry) → IsTomb e → HasSpelling e → pages.IsIn Tombs e
tomb_in e tomb spelled = record { kind = by e.body tomb; spelled = spelled }
  where
    by : (body : Body) → is_tomb body ≡ true → kind_of body ≡ pages.kind_in Tombs
    by (Put dkey value) tomb = absurd cc
    by Tomb tomb = refl

pub put_class : (e : Entry) (es : List Entry) → IsPut e → class_of (e ∷ es) ≡ Puts
put_class e es put = by e.body put
  where
    by : (body : Body) → not (is_tomb body) ≡ true → class_of ((record e { body = body }) ∷ es) ≡ Puts
    by (Put dkey value) put = refl
    by Tomb put = absurd cc

pub tomb_class : (e : Entry) (es : List Entry) → IsTomb e → class_of (e ∷ es) ≡ Tombs
tomb_class e es tomb = by e.body tomb
  where
    by : (body : Body) → is_tomb body ≡ true → class_of ((record e { body = body }) ∷ es) ≡ Tombs
    by (Put dkey value) tomb = absurd cc
    by Tomb tomb = refl

all_both : {X : Type 0} (P Q R : X → Type 0) → ((x : X) → P x → Q x → R x) → (xs : List X) → All P xs → All Q xs → All R xs
all_both P Q R both xs p q k d lt = both _ (p k d lt) (q k d lt)

-- a new page of entries of a class
new_page : (class : Class) (entries : List Entry) → ((e : Entry) (es : List Entry) → entries ≡ e ∷ es → class_of (e ∷ es) ≡ class) → All (pages.IsIn class) entries → IsAscending entries → length entries ≤ max_tile_entries
    → All IsPage (filter_map fresh_of (fresh entries))
new_page class [] first each ascending few = All-nil IsPage
new_page class (e ∷ es) first each ascending few =
    let fit : length (e ∷ es) < 2 ^ 32 = omega (arith, few) in
    let some : 0 < length (e ∷ es) = omega arith in
    let own : pages.HasSpelling class (e ∷ es) = record { some = some; few = fit; each = each; ascending = ascending } in
    All-cons IsPage (e ∷ es) [] (record { has_spelling = subst (λ (c : Class). pages.HasSpelling c (e ∷ es)) (sym (first e es refl)) own; few = few }) (All-nil IsPage)

puts_page : (entries : List Entry) → All IsPut entries → All HasSpelling entries → IsAscending entries → length entries ≤ max_tile_entries → All IsPage (filter_map fresh_of (fresh entries))
puts_page entries puts spelled ascending few =
    new_page Puts entries (λ e es is. put_class e es (All-head IsPut e es (subst (All IsPut) is puts))) (all_both IsPut HasSpelling (pages.IsIn Puts) put_in entries puts spelled) ascending few

tombs_page : (entries : List Entry) → All IsTomb entries → All HasSpelling entries → IsAscending entries → length entries ≤ max_tile_entries → All IsPage (filter_map fresh_of (fresh entries))
tombs_page entries tombs spelled ascending few =
    new_page Tombs entries (λ e es is. tomb_class e es (All-head IsTomb e es (subst (All IsTomb) is tombs))) (all_both IsTomb HasSpelling (pages.IsIn Tombs) tomb_in entries tombs spelled) ascending few

-- ---- what is merged of tombstones are tombstones

newer_tomb : (e : Entry) (o : Option Entry) → IsTomb e → IfSome o IsTomb → IsTomb (newer_of e o)
newer_tomb e None tomb other = tomb
newer_tomb e (Some o) tomb other = by (nat_lt e.seq o.seq)
  where
    by : (t : Bool) → IsTomb (cond t (record o { since = earlier e.since o.since }) (record e { since = earlier e.since o.since }))
    by true = other
    by false = tomb

left_tomb : (key : Bytes) (es : List Entry) → All IsTomb es → IfSome (left_of key es) IsTomb
left_tomb key [] tombs = tt
left_tomb key (e ∷ es) tombs = by (same_key key e.key) (left_tomb key es (All-tail IsTomb e es tombs))
  where
    by : (t : Bool) → IfSome (left_of key es) IsTomb → IfSome (cond t (Some (newer_of e (left_of key es))) (left_of key es)) IsTomb
    by true more = newer_tomb e (left_of key es) (All-head IsTomb e es tombs) more
    by false more = more

merged_tombs : (tombs : List Entry) → All IsTomb tombs → All IsTomb (merged tombs [] false)
merged_tombs tombs each k d lt =
    let list = merged tombs [] false in
    let e = get_or list k d in
    let there = own_entry list e (merged_ascends tombs [] false) (Contains-get_or list k d lt) in
    by e (left_of e.key (map (struck []) tombs)) (subst (λ (es : List Entry). IfSome (left_of e.key es) IsTomb) (sym (all_stay tombs)) (left_tomb e.key tombs each)) (sym ((merged_is tombs [] false).entries e.key) ∙ there)
  where
    by : (e : Entry) (o : Option Entry) → IfSome o IsTomb → option_and_then (λ entry. bared false entry entry.body) o ≡ Some e → IsTomb e
    by e None tomb is = absurd cc
    by e (Some x) tomb is = let same : x ≡ e = cc in subst IsTomb same tomb

pub all_front : {X : Type 0} (P : X → Type 0) (xs ys : List X) → All P (xs ++ ys) → All P xs
all_front P xs ys all k d lt = let inside : k < length (xs ++ ys) = omega (arith, lt, length-append xs ys) in subst P (get_or_append_left xs ys d k lt) (all k d inside)

-- what is left of the pages so far has a spelling, where they have not too many entries
record AreSpelled (tile : List Placed) (tombs : List Entry) (parts : List Part) : Type 0 where
  marked : All IsTomb tombs
  spelled : All HasSpelling tombs
  few : length tombs ≤ sum_by (λ page. page.line.entries) tile
  own : sum_by (λ page. page.line.entries) tile ≤ max_tile_entries → All IsPage (filter_map fresh_of parts)

pub placed_entries : (first : ℕ) (lines : List PageLine) → sum_by (λ page. page.line.entries) (placed first lines) ≡ entries_in lines
placed_entries first [] = refl
placed_entries first (line ∷ lines) =
    let page : Placed = record { place = first; line = line } in
    omega (arith, placed_entries (first + 1) lines, sum_by-append (λ (page : Placed). page.line.entries) (page ∷ []) (placed (first + 1) lines), sum_by-append (λ (line : PageLine). line.entries) (line ∷ []) lines)

-- ---- what is left of the entries of one page

-- of those in its fence
abbrev pub left_entries : Bool → Pending → PageLine → List Entry → List Entry
left_entries alone erase line entries = left_in alone erase (fenced line.fence entries)

module _ (alone : Bool) (erase : Pending) (line : PageLine) (entries : List Entry) (is_page : agreement.IsPage line entries) where
  -- tombstones and puts together are no more than the page has
  pub left_few : length (tombs_of (left_entries alone erase line entries)) + length (puts_of (left_entries alone erase line entries)) ≤ line.entries
  left_few =
      let inside = λ (entry : Entry). is_fenced line.fence entry.body in
      let both = length-filter_both (λ (entry : Entry). is_tomb entry.body) (λ (entry : Entry). not (is_tomb entry.body)) (λ entry. refl) (left_entries alone erase line entries) in
      omega (arith, both, left_fewer alone erase (fenced line.fence entries), filter_fewer inside entries, is_page.len)

  page_left : erase.time ≤ max_time → All HasSpelling (left_entries alone erase line entries)
  page_left time =
      let inside = λ (entry : Entry). is_fenced line.fence entry.body in
      left_spelled alone erase time (fenced line.fence entries)
      (All-filter inside HasSpelling entries (All-weaker (pages.IsIn line.class) HasSpelling (λ e in_page. in_page.spelled) entries is_page.spelled.each))

  pub left_page : erase.time ≤ max_time → line.entries ≤ max_tile_entries → All IsPage (filter_map fresh_of (fresh (puts_of (left_entries alone erase line entries))))
  left_page time few =
      let put = λ (entry : Entry). not (is_tomb entry.body) in
      let inside = λ (entry : Entry). is_fenced line.fence entry.body in
      let ascending : IsAscending (left_entries alone erase line entries) = kept_ascends (swept_of alone erase) (swept_key alone erase) (fenced line.fence entries) (filter_ascends inside entries is_page.spelled.ascending) in
      puts_page (puts_of (left_entries alone erase line entries)) (filter_passes put (left_entries alone erase line entries)) (All-filter put HasSpelling (left_entries alone erase line entries) (page_left time)) (filter_ascends put (left_entries alone erase line entries) ascending) (omega (arith, few, left_few))

-- ---- page by page, and tile by tile

module _ (tells : Type 0) (erase : Pending) (all : List (List Entry)) (time : erase.time ≤ max_time) where
  parts_spelled : (mode : Mode) (tile : List Placed) (tombs : List Entry) (parts : List Part) → IsLeft tells mode erase all tile tombs parts → AreSpelled tile tombs parts
  parts_spelled mode tile tombs parts Begun = record { marked = All-nil IsTomb; spelled = All-nil HasSpelling; few = omega arith; own = λ few. All-nil IsPage }
  parts_spelled mode tile tombs parts (Stays before own some left page apart outside) =
      let rest = parts_spelled mode before own some left in
      let sum = sum_by-append (λ (page : Placed). page.line.entries) before (page ∷ []) in
      record {
        marked = rest.marked;
        spelled = rest.spelled;
        few = omega (arith, rest.few, sum);
        own = λ few. subst (All IsPage) (sym (filter_map-append fresh_of some (Kept page.place ∷ []) ∙ append-nil (filter_map fresh_of some))) (rest.own (omega (arith, few, sum)));
      }
  parts_spelled mode tile tombs parts (Goes before own some left page apart met) =
      let rest = parts_spelled mode before own some left in
      let sum = sum_by-append (λ (page : Placed). page.line.entries) before (page ∷ []) in
      record { marked = rest.marked; spelled = rest.spelled; few = omega (arith, rest.few, sum); own = λ few. rest.own (omega (arith, few, sum)) }
  parts_spelled mode tile tombs parts (Fetched before own some left page fetched entries read) =
      let rest = parts_spelled mode before own some left in
      let sum = sum_by-append (λ (page : Placed). page.line.entries) before (page ∷ []) in
      let alone = is_alone mode in
      let swept = left_in alone erase (fenced page.line.fence entries) in
      let tomb = λ (entry : Entry). is_tomb entry.body in
      record {
        marked = All-append IsTomb own (tombs_of swept) rest.marked (filter_passes tomb swept);
        spelled = All-append HasSpelling own (tombs_of swept) rest.spelled (All-filter tomb HasSpelling swept (page_left alone erase page.line entries read.is_page time));
        few = omega (arith, rest.few, sum, left_few alone erase page.line entries read.is_page, length-append own (tombs_of swept));
        own = λ few. subst (All IsPage) (sym (filter_map-append fresh_of some (fresh (puts_of swept))))
            (All-append IsPage (filter_map fresh_of some) (filter_map fresh_of (fresh (puts_of swept))) (rest.own (omega (arith, few, sum))) (left_page alone erase page.line entries read.is_page time (omega (arith, few, sum))));
      }

  -- the new page of tombstones
  pub marked_page : (mode : Mode) (tile : List Placed) (tombs : List Entry) (parts : List Part) → IsLeft tells mode erase all tile tombs parts → sum_by (λ page. page.line.entries) tile ≤ max_tile_entries
      → All IsTomb (merged tombs [] false) × All IsPage (filter_map fresh_of (fresh (merged tombs [] false)))
  marked_page mode tile tombs parts left few =
      let found = parts_spelled mode tile tombs parts left in
      let list = merged tombs [] false in
      let fit : length list ≤ max_tile_entries = omega (arith, few, found.few, length-merged [] false tombs) in
      let marks = merged_tombs tombs found.marked in
      (marks, tombs_page list marks (merged_spelled [] false (All-nil (λ (erase : Pending). erase.time ≤ max_time)) tombs found.spelled) (merged_ascends tombs [] false) fit)

  tile_spelled : (alone : Bool) (tile : List Placed) (parts : List Part) → IsTileLeft tells alone erase all tile parts → sum_by (λ page. page.line.entries) tile ≤ max_tile_entries → All IsPage (filter_map fresh_of parts)
  tile_spelled alone tile parts left few =
      let mode = mode_of alone erase.range (map (λ page. page.line) tile) in
      let list = merged left.tombs [] false in
      subst (All IsPage) (sym (ap (filter_map fresh_of) left.parts_are ∙ filter_map-append fresh_of (fresh list) left.own))
      (All-append IsPage (filter_map fresh_of (fresh list)) (filter_map fresh_of left.own) (marked_page mode tile left.tombs left.own left.left few).1 ((parts_spelled mode tile left.tombs left.own left.left).own few))

  pub pages_spelled : (alone : Bool) (tiles : List TileLine) (swept : List SweptTile) → AreTilesLeft tells alone erase all tiles swept → All HasFewEntries tiles → All IsPage (filter_map fresh_of (flat_map (λ tile. tile.parts) swept))
  pages_spelled alone tiles swept NoTile few = All-nil IsPage
  pages_spelled alone tiles swept (More before some left tile parts own) few =
      let parts_in = λ (tiles : List SweptTile). flat_map (λ (tile : SweptTile). tile.parts) tiles in
      let together : filter_map fresh_of (parts_in (some ++ tile_left tile parts)) ≡ filter_map fresh_of (parts_in some) ++ filter_map fresh_of parts =
      ap (filter_map fresh_of) (flat_map-append (λ (tile : SweptTile). tile.parts) some (tile_left tile parts) ∙ ap (λ (ps : List Part). parts_in some ++ ps) (parts_left tile parts))
      ∙ filter_map-append fresh_of (parts_in some) parts in
      let fit : sum_by (λ (page : Placed). page.line.entries) (placed (length (lines_of before)) tile.pages) ≤ max_tile_entries =
      omega (arith, placed_entries (length (lines_of before)) tile.pages, All-contains HasFewEntries (before ++ tile ∷ []) tile few (Contains-push before tile)) in
      subst (All IsPage) (sym together)
      (All-append IsPage (filter_map fresh_of (parts_in some)) (filter_map fresh_of parts) (pages_spelled alone before some left (all_front HasFewEntries before (tile ∷ []) few))
      (tile_spelled alone (placed (length (lines_of before)) tile.pages) parts own fit))
