-- On any disk what is left of a tile takes no more room than the tile had.
use Rattle.std.proofs.Common.{◌≡◌, inl, inr, ℕ, ◌+◌, ◌≤◌, Bool, true, false, cond, List, [], ◌∷◌, ◌++◌, All, filter_map, length, map, not, sum_by, Option, Some, None, refl, sym, ap, subst, ◌∙◌, arith, length-append}
use Rattle.std.specs.Prelude.{◌||◌, Contains}
use Rattle.std.specs.List.{list_any}
use Rattle.std.proofs.lemmas.List.{append-nil}
use Rattle.std.proofs.lemmas.List.Elements.{All-contains, All-filter, All-head, All-weaker, Contains-append_right, filter-append, filter_passes}
use Rattle.std.proofs.lemmas.List.Sums.{sum_by-append}
use Rattle.lethe_base.specs.Limits.{max_time}
use Rattle.lethe_base.specs.Matching.{matches}
use Rattle.lethe_base.specs.Shapes.{is_tomb}
use Rattle.lethe_base.specs.declared.entry.Body.{Body}
use Rattle.lethe_base.specs.declared.entry.Body.TheVariants.{Put, Tomb}
use Rattle.lethe_base.specs.declared.entry.Entry.{Entry}
use Rattle.lethe_base.specs.declared.pending.Pending.{Pending}
use Rattle.lethe_build.specs.Built.{class_of}
use Rattle.lethe_build.specs.Parts.{IsPage}
use Rattle.lethe_cover.specs.Merged.{struck}
use Rattle.lethe_file.specs.Agreement as agreement
use Rattle.lethe_header.proofs.Follows.{follows_at}
use Rattle.lethe_header.proofs.Lines.{have_few_entries}
use Rattle.lethe_header.specs.Facts.{lines_of}
use Rattle.lethe_header.specs.Headers.{EachFollows, HasFewEntries, IsFence, LineFollows, TileFollows, entries_in, is_puts, max_tile_entries}
use Rattle.lethe_header.specs.declared.header.PageLine.{PageLine}
use Rattle.lethe_header.specs.declared.header.TileLine.{TileLine}
use Rattle.lethe_merge.proofs.Gathers.{length-merged}
use Rattle.lethe_merge.specs.Merge.{merged}
use Rattle.lethe_page.specs.Pages.{IsIn}
use Rattle.lethe_page.specs.declared.class.Class.{Class}
use Rattle.lethe_page.specs.declared.class.Class.TheVariants.{Puts, Tombs}
use Rattle.lethe_tile.specs.Woven.{puts_of, tombs_of}
use Rattle.lethe_sweep.specs.Fences.{meets}
use Rattle.lethe_sweep.specs.Modes.{is_alone, is_fetched_in, mode_of}
use Rattle.lethe_sweep.specs.Steps.{AreTilesLeft, Begun, Fetched, Goes, IsLeft, IsTileLeft, Stays, fenced}
use Rattle.lethe_sweep.specs.Sweeping.{left_in}
use Rattle.lethe_sweep.specs.declared.fence.Mode.{Mode}
use Rattle.lethe_sweep.specs.declared.fence.Mode.TheVariants.{Alone, Met, Whole}
use Rattle.lethe_swept.specs.Fits.{End, Fits, FitsTile, Gone, IsNarrower, Left, StandFor, StandsFor, is_fenced, len_of, puts_pages}
use Rattle.lethe_swept.specs.Left.{Placed, fresh, fresh_of, placed}
use Rattle.lethe_swept.specs.declared.part.Part.{Part}
use Rattle.lethe_swept.specs.declared.part.Part.TheVariants.{Kept, Fresh}
use Rattle.lethe_swept.specs.declared.part.SweptFile.{SweptFile}
use Rattle.lethe_sweep.proofs.Agreed.{all_placed, parts_by_tile}
use Rattle.lethe_sweep.proofs.Paging.{IsTomb, left_all, left_entries, left_few, left_page, marked_page, placed_entries, put_class, tomb_class}
use Rattle.lethe_sweep.proofs.Told.{HasFence, alone_tombs, is_mark, no_marks, not_false, pass_none, puts_is, tombs_is, whole_tombs}

-- ---- parts that stand for pages, and one page more

stand_gone : (pages : List Placed) (parts : List Part) (count : ℕ) → StandFor pages parts count → (page : Placed) → StandFor (pages ++ page ∷ []) parts count
stand_gone pages parts count End page = Gone page [] [] 0 End
stand_gone pages parts count (Gone own before some so_far rest) page = Gone own (before ++ page ∷ []) some so_far (stand_gone before some so_far rest page)
stand_gone pages parts count (Left own part before some so_far is rest) page = Left own part (before ++ page ∷ []) some so_far is (stand_gone before some so_far rest page)

stand_left : (pages : List Placed) (parts : List Part) (count : ℕ) → StandFor pages parts count → (page : Placed) (part : Part) → StandsFor page part → StandFor (pages ++ page ∷ []) (parts ++ part ∷ []) (count + len_of page part)
stand_left pages parts count End page part is = subst (StandFor (page ∷ []) (part ∷ [])) (omega arith) (Left page part [] [] 0 is End)
stand_left pages parts count (Gone own before some so_far rest) page part is =
    Gone own (before ++ page ∷ []) (some ++ part ∷ []) (so_far + len_of page part) (stand_left before some so_far rest page part is)
stand_left pages parts count (Left own first before some so_far here rest) page part is =
    subst (StandFor (own ∷ before ++ page ∷ []) (first ∷ some ++ part ∷ [])) (omega arith)
    (Left own first (before ++ page ∷ []) (some ++ part ∷ []) (so_far + len_of page part) here (stand_left before some so_far rest page part is))

-- a new page of these entries, where there are any
stand_fresh : (pages : List Placed) (parts : List Part) (count : ℕ) → StandFor pages parts count → (page : Placed) (entries : List Entry) → ((e : Entry) (es : List Entry) → entries ≡ e ∷ es → IsNarrower page.line (e ∷ es))
    → StandFor (pages ++ page ∷ []) (parts ++ fresh entries) (count + length entries)
stand_fresh pages parts count so_far page [] narrower =
    subst (λ (ps : List Part). StandFor (pages ++ page ∷ []) ps (count + 0)) (sym (append-nil parts)) (subst (StandFor (pages ++ page ∷ []) parts) (omega arith) (stand_gone pages parts count so_far page))
stand_fresh pages parts count so_far page (e ∷ es) narrower = stand_left pages parts count so_far page (Fresh (e ∷ es)) (narrower e es refl)

-- ---- a new page in the place of one that was fetched

struck_fenced : (erase : Pending) (fence : Option (ℕ × ℕ)) (e : Entry) → is_fenced fence e.body ≡ true → is_fenced fence (struck (erase ∷ []) e).body ≡ true
struck_fenced erase fence e = by e.body
  where
    tomb : (fence : Option (ℕ × ℕ)) → is_fenced fence Tomb ≡ true
    tomb None = refl
    tomb (Some fence) = refl

    by : (body : Body) → is_fenced fence body ≡ true → is_fenced fence (struck (erase ∷ []) (record e { body = body })).body ≡ true
    by Tomb inside = inside
    by (Put dkey value) inside = by_test (list_any (λ erase. matches erase e.seq dkey) (erase ∷ []))
      where
        by_test : (t : Bool) → is_fenced fence (cond t Tomb (Put dkey value)) ≡ true
        by_test true = tomb fence
        by_test false = inside

struck_tomb : (erase : Pending) (e : Entry) → IsTomb e → IsTomb (struck (erase ∷ []) e)
struck_tomb erase e = by e.body
  where
    by : (body : Body) → is_tomb body ≡ true → is_tomb (struck (erase ∷ []) (record e { body = body })).body ≡ true
    by Tomb tomb = refl
    by (Put dkey value) tomb = absurd cc

module _ (alone : Bool) (erase : Pending) (line : PageLine) (entries : List Entry) (is_page : agreement.IsPage line entries) where
  -- no put comes of tombstones
  no_puts : line.class ≡ Tombs → puts_of (left_entries alone erase line entries) ≡ []
  no_puts tombs =
      let marks : All IsTomb entries = All-weaker (IsIn line.class) IsTomb (λ e own. is_mark line.class e tombs own) entries is_page.spelled.each in
      let left = left_all IsTomb alone erase (struck_tomb erase) (fenced line.fence entries) (All-filter (λ (e : Entry). is_fenced line.fence e.body) IsTomb entries marks) in
      pass_none (λ e. not (is_tomb e.body)) (left_entries alone erase line entries) (λ k d lt. ap not (left k d lt))

  narrower : erase.time ≤ max_time → line.entries ≤ max_tile_entries → (e : Entry) (es : List Entry) → puts_of (left_entries alone erase line entries) ≡ e ∷ es → IsNarrower line (e ∷ es)
  narrower time few e es are =
      let IsInside = λ (e : Entry). is_fenced line.fence e.body ≡ true in
      let put = λ (e : Entry). not (is_tomb e.body) in
      let inside = left_all IsInside alone erase (struck_fenced erase line.fence) (fenced line.fence entries) (filter_passes (λ e. is_fenced line.fence e.body) entries) in
      let page : All IsPage ((e ∷ es) ∷ []) = subst (λ (l : List Entry). All IsPage (filter_map fresh_of (fresh l))) are (left_page alone erase line entries is_page time few) in
      let puts = subst (All (λ e. not (is_tomb e.body) ≡ true)) are (filter_passes put (left_entries alone erase line entries)) in
      record {
        was = by (is_puts line.class) refl;
        page = All-head IsPage (e ∷ es) [] page;
        class = put_class e es (All-head (λ e. not (is_tomb e.body) ≡ true) e es puts);
        fenced = subst (All IsInside) are (All-filter put IsInside (left_entries alone erase line entries) inside);
        few = omega (arith, left_few alone erase line entries is_page, ap length are);
      }
    where
      by : (t : Bool) → is_puts line.class ≡ t → line.class ≡ Puts
      by true is = puts_is line.class is
      by false is = let none = sym are ∙ no_puts (tombs_is line.class is) in absurd cc

-- ---- what is left of the pages of a tile, page by page

-- the parts stand for the pages, in a tile that is met for the pages of puts
record AreStanding (mode : Mode) (tile : List Placed) (tombs : List Entry) (parts : List Part) : Type 0 where
  count : ℕ
  stand : StandFor tile parts count
  puts : mode ≡ Met → StandFor (puts_pages tile) parts count
  few : length tombs + count ≤ sum_by (λ page. page.line.entries) tile

puts_push : (tile : List Placed) (page : Placed) (t : Bool) → is_puts page.line.class ≡ t → puts_pages (tile ++ page ∷ []) ≡ puts_pages tile ++ cond t (page ∷ []) []
puts_push tile page t is = filter-append (λ (page : Placed). is_puts page.line.class) tile (page ∷ []) ∙ ap (λ (t : Bool). puts_pages tile ++ cond t (page ∷ []) []) is

stays_puts : (met : Bool) (class : Class) → met || not (is_puts class) ≡ false → is_puts class ≡ true
stays_puts true class apart = absurd cc
stays_puts false class apart = not_false (is_puts class) apart

module _ (tells : Type 0) (erase : Pending) (all : List (List Entry)) (time : erase.time ≤ max_time) where
  -- the parts of a page that was fetched: a page of tombstones, of which none is left, is no page of puts
  fetched_puts : (mode : Mode) (before : List Placed) (parts : List Part) (count : ℕ) → (mode ≡ Met → StandFor (puts_pages before) parts count) → (page : Placed) (puts : List Entry)
      → (page.line.class ≡ Tombs → puts ≡ []) → ((e : Entry) (es : List Entry) → puts ≡ e ∷ es → IsNarrower page.line (e ∷ es)) → mode ≡ Met → StandFor (puts_pages (before ++ page ∷ [])) (parts ++ fresh puts) (count + length puts)
  fetched_puts mode before parts count so_far page puts none narrower met = by (is_puts page.line.class) refl
    where
      by : (t : Bool) → is_puts page.line.class ≡ t → StandFor (puts_pages (before ++ page ∷ [])) (parts ++ fresh puts) (count + length puts)
      by true is =
          subst (λ (ps : List Placed). StandFor ps (parts ++ fresh puts) (count + length puts)) (sym (puts_push before page true is)) (stand_fresh (puts_pages before) parts count (so_far met) page puts narrower)
      by false is =
          let pages : puts_pages (before ++ page ∷ []) ≡ puts_pages before = puts_push before page false is ∙ append-nil (puts_pages before) in
          subst (λ (ps : List Placed). StandFor ps (parts ++ fresh puts) (count + length puts)) (sym pages)
          (subst (λ (es : List Entry). StandFor (puts_pages before) (parts ++ fresh es) (count + length es)) (sym (none (tombs_is page.line.class is)))
          (subst (λ (ps : List Part). StandFor (puts_pages before) ps (count + 0)) (sym (append-nil parts)) (subst (StandFor (puts_pages before) parts) (omega arith) (so_far met))))

  are_standing : (mode : Mode) (tile : List Placed) (tombs : List Entry) (parts : List Part) → IsLeft tells mode erase all tile tombs parts → sum_by (λ page. page.line.entries) tile ≤ max_tile_entries → AreStanding mode tile tombs parts
  are_standing mode tile tombs parts Begun few = record { count = 0; stand = End; puts = λ met. End; few = omega arith }
  are_standing mode tile tombs parts (Stays before own some left page apart outside) few =
      let sum = sum_by-append (λ (page : Placed). page.line.entries) before (page ∷ []) in
      let rest = are_standing mode before own some left (omega (arith, few, sum)) in
      let class = λ (met : mode ≡ Met). stays_puts (meets erase.range page.line) page.line.class (ap (λ (m : Mode). is_fetched_in m erase.range page.line) (sym met) ∙ apart) in
      record {
        count = rest.count + page.line.entries;
        stand = stand_left before some rest.count rest.stand page (Kept page.place) refl;
        puts = λ met. subst (λ (ps : List Placed). StandFor ps (some ++ Kept page.place ∷ []) (rest.count + page.line.entries)) (sym (puts_push before page true (class met)))
            (stand_left (puts_pages before) some rest.count (rest.puts met) page (Kept page.place) refl);
        few = omega (arith, rest.few, sum);
      }
  are_standing mode tile tombs parts (Goes before own some left page apart met) few =
      let sum = sum_by-append (λ (page : Placed). page.line.entries) before (page ∷ []) in
      let rest = are_standing mode before own some left (omega (arith, few, sum)) in
      record {
        count = rest.count;
        stand = stand_gone before some rest.count rest.stand page;
        puts = λ is. let no : true ≡ false = sym (ap (λ (t : Bool). t || not (is_puts page.line.class)) met) ∙ ap (λ (m : Mode). is_fetched_in m erase.range page.line) (sym is) ∙ apart in absurd cc;
        few = omega (arith, rest.few, sum);
      }
  are_standing mode tile tombs parts (Fetched before own some left page fetched entries read) few =
      let sum = sum_by-append (λ (page : Placed). page.line.entries) before (page ∷ []) in
      let rest = are_standing mode before own some left (omega (arith, few, sum)) in
      let alone = is_alone mode in
      let puts = puts_of (left_in alone erase (fenced page.line.fence entries)) in
      let tombs = tombs_of (left_in alone erase (fenced page.line.fence entries)) in
      let fit : page.line.entries ≤ max_tile_entries = omega (arith, few, sum) in
      let own_page = narrower alone erase page.line entries read.is_page time fit in
      record {
        count = rest.count + length puts;
        stand = stand_fresh before some rest.count rest.stand page puts own_page;
        puts = fetched_puts mode before some rest.count rest.puts page puts (no_puts alone erase page.line entries read.is_page) own_page;
        few = omega (arith, rest.few, sum, left_few alone erase page.line entries read.is_page, length-append own tombs);
      }

  -- ---- tile by tile

  lines_sum : (tile : List Placed) → entries_in (map (λ page. page.line) tile) ≡ sum_by (λ page. page.line.entries) tile
  lines_sum [] = refl
  lines_sum (page ∷ tile) =
      omega (arith, lines_sum tile, sum_by-append (λ (page : Placed). page.line.entries) (page ∷ []) tile, sum_by-append (λ (line : PageLine). line.entries) (page.line ∷ []) (map (λ page. page.line) tile))

  tile_fits : (alone : Bool) (tile : List Placed) (parts : List Part) → IsTileLeft tells alone erase all tile parts → sum_by (λ page. page.line.entries) tile ≤ max_tile_entries → All HasFence tile → FitsTile tile parts
  tile_fits alone tile parts is few fences = by (mode_of alone erase.range (map (λ page. page.line) tile)) is.left
    where
      -- no new page of tombstones
      bare : (mode : Mode) → AreStanding mode tile is.tombs is.own → parts ≡ is.own → FitsTile tile parts
      bare mode standing are =
          record { tombs = []; own = is.own; parts_are = are; count = standing.count; stand = inl (refl, standing.stand); few = omega (arith, standing.few, lines_sum tile) }

      marked : AreStanding Met tile is.tombs is.own → IsLeft tells Met erase all tile is.tombs is.own → (list : List Entry) → merged is.tombs [] false ≡ list → FitsTile tile parts
      marked standing left [] at = bare Met standing (is.parts_are ∙ ap (λ (ts : List Entry). fresh ts ++ is.own) at)
      marked standing left (e ∷ es) at =
          let new = marked_page tells erase all time Met tile is.tombs is.own left few in
          let page : All IsPage ((e ∷ es) ∷ []) = subst (λ (l : List Entry). All IsPage (filter_map fresh_of (fresh l))) at new.1 in
          let class : class_of (e ∷ es) ≡ Tombs = tomb_class e es (All-head IsTomb e es (subst (All IsTomb) at new.0)) in
          record {
            tombs = e ∷ es;
            own = is.own;
            parts_are = is.parts_are ∙ ap (λ (ts : List Entry). fresh ts ++ is.own) at;
            count = standing.count;
            stand = inr (record { page = All-head IsPage (e ∷ es) [] page; class = class }, standing.puts refl);
            few = omega (arith, standing.few, lines_sum tile, length-merged [] false is.tombs, ap length at);
          }

      by : (mode : Mode) → IsLeft tells mode erase all tile is.tombs is.own → FitsTile tile parts
      by Alone left = bare Alone (are_standing Alone tile is.tombs is.own left few) (no_marks is.tombs is.own parts is.parts_are (alone_tombs tells erase all tile is.tombs is.own left fences))
      by Whole left = bare Whole (are_standing Whole tile is.tombs is.own left few) (no_marks is.tombs is.own parts is.parts_are (whole_tombs tells erase all tile is.tombs is.own left))
      by Met left = marked (are_standing Met tile is.tombs is.own left few) left (merged is.tombs [] false) refl

  pub file_fits : (alone : Bool) (tiles : List TileLine) (swept : SweptFile) → EachFollows TileFollows tiles → AreTilesLeft tells alone erase all tiles swept.tiles → Fits tiles swept
  file_fits alone tiles swept sound left =
      let found = parts_by_tile tells alone erase all FitsTile tiles each tiles swept.tiles left [] (sym (append-nil tiles)) in
      record { parts = found.0; each = found.1; tiles_are = found.2 }
    where
      each : (before : List TileLine) (tile : TileLine) (rest : List TileLine) → tiles ≡ before ++ tile ∷ rest → (parts : List Part) → IsTileLeft tells alone erase all (placed (length (lines_of before)) tile.pages) parts
          → FitsTile (placed (length (lines_of before)) tile.pages) parts
      each before tile rest are parts is =
          let first = length (lines_of before) in
          let lines = (sound before rest tile are).itself.lines in
          let there : Contains tiles tile = subst (λ (ts : List TileLine). Contains ts tile) (sym are) (Contains-append_right before (tile ∷ rest) tile (0, omega arith, refl)) in
          let few : sum_by (λ (page : Placed). page.line.entries) (placed first tile.pages) ≤ max_tile_entries = omega (arith, placed_entries first tile.pages, All-contains HasFewEntries tiles tile (have_few_entries tiles sound) there) in
          let fences = all_placed HasFence first tile.pages (λ k line lt is. subst (λ (l : PageLine). IsFence l.class l.fence) (sym is) (follows_at LineFollows tile.pages k line lines lt).itself.fence) in
          tile_fits alone (placed first tile.pages) parts is few fences
