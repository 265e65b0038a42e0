-- The facts of a file are those of its header's lines.
use Rattle.std.proofs.Common.{◌≡◌, ℕ, max, cond, List, [], ◌∷◌, ◌++◌, length, take, drop, Option, Some, None, refl, sym, ap, ◌∙◌, arith, take-append-drop, length-append, length-drop}
use Rattle.std.specs.Prelude.{fold, flat_map, count_by, All, min}
use Rattle.std.specs.List.{AllZip}
use Rattle.std.proofs.lemmas.List.Elements.{All-head, All-tail}
use Rattle.std.proofs.lemmas.List.Concat.{flat_map-append}
use Rattle.std.proofs.lemmas.List.Folds.{flat_map-map}
use Rattle.std.proofs.lemmas.List.Sums.{fold-append, sum_by-append, sum_by-cons}
use Rattle.lethe_base.specs.Keys.{Bytes}
use Rattle.lethe_base.specs.Layout.{Tile}
use Rattle.lethe_base.specs.Shapes.{earlier, oldest_of, is_tomb, lower_key}
use Rattle.lethe_base.specs.Shapes as shapes
use Rattle.lethe_base.specs.declared.entry.Body.{Body}
use Rattle.lethe_base.specs.declared.entry.Body.TheVariants.{Put, Tomb}
use Rattle.lethe_base.specs.declared.entry.Entry.{Entry}
use Rattle.lethe_base.specs.declared.front.BodyKind.TheVariants as kinds
use Rattle.lethe_base.specs.Spelling.{kind_of}
use Rattle.lethe_page.specs.Pages.{IsIn}
use Rattle.lethe_page.specs.Pages as pages
use Rattle.lethe_page.specs.declared.class.Class.{Class}
use Rattle.lethe_page.specs.declared.class.Class.TheVariants.{Puts, Tombs}
use Rattle.lethe_header.specs.Facts.{lines_of, tombs_in, least_key}
use Rattle.lethe_header.specs.Facts as facts
use Rattle.lethe_header.specs.Headers.{is_puts}
use Rattle.lethe_header.specs.Headers as headers
use Rattle.lethe_header.specs.declared.header.PageLine.{PageLine}
use Rattle.lethe_header.specs.declared.header.TileLine.{TileLine}
use Rattle.lethe_file.specs.Agreement.{Agrees, entries_in}
use Rattle.lethe_stored.specs.Files.{StoredFile, IsFile, tiles_of, file_of}

-- The entries of a file are those of its pages

pub entries_are : (tiles : List TileLine) (pages : List (List ℕ)) → length pages ≡ length (lines_of tiles) → flat_map (λ (tile : Tile). flat_map (λ page. page) tile.pages) (tiles_of tiles pages) ≡ flat_map entries_in pages
entries_are [] [] same = refl
entries_are [] (page ∷ pages) same = absurd (omega arith)
entries_are (tile ∷ tiles) pages same =
    let count = length tile.pages in
    let left : length (drop count pages) ≡ length (lines_of tiles) = omega (arith, same, length-drop count pages, length-append tile.pages (lines_of tiles)) in
    (λ i. flat_map-map (λ (entries : List Entry). entries) entries_in (take count pages) i ++ entries_are tiles (drop count pages) left i)
    ∙ sym (flat_map-append entries_in (take count pages) (drop count pages)) ∙ ap (flat_map entries_in) (take-append-drop count pages)

pub as_many : (lines : List PageLine) (pages : List (List ℕ)) → AllZip Agrees lines pages → length pages ≡ length lines
as_many [] [] agrees = refl
as_many [] (page ∷ pages) agrees = absurd agrees
as_many (line ∷ lines) [] agrees = absurd agrees
as_many (line ∷ lines) (page ∷ pages) agrees = let rest = as_many lines pages agrees.1 in omega (arith, rest)

-- The least time

earlier_none : (time : Option ℕ) → time ≡ earlier time None
earlier_none None = refl
earlier_none (Some time) = refl

earlier_joined : (a b c : Option ℕ) → earlier (earlier a b) c ≡ earlier a (earlier b c)
earlier_joined None b c = refl
earlier_joined (Some a) None c = refl
earlier_joined (Some a) (Some b) None = refl
earlier_joined (Some a) (Some b) (Some c) = let least : min (min a b) c ≡ min a (min b c) = omega arith in ap Some least

oldest_joined : (xs ys : List Entry) → oldest_of (xs ++ ys) ≡ earlier (oldest_of xs) (oldest_of ys)
oldest_joined [] ys = refl
oldest_joined (x ∷ xs) ys = ap (earlier x.since) (oldest_joined xs ys) ∙ sym (earlier_joined x.since (oldest_of xs) (oldest_of ys))

oldest_is : (least : Option ℕ) (lines : List PageLine) (pages : List (List ℕ)) → AllZip Agrees lines pages → fold (λ least (line : PageLine). earlier least line.oldest) least lines ≡ earlier least (oldest_of (flat_map entries_in pages))
oldest_is least [] [] agrees = earlier_none least
oldest_is least [] (page ∷ pages) agrees = absurd agrees
oldest_is least (line ∷ lines) [] agrees = absurd agrees
oldest_is least (line ∷ lines) (page ∷ pages) agrees =
    oldest_is (earlier least line.oldest) lines pages agrees.1
    ∙ earlier_joined least line.oldest (oldest_of (flat_map entries_in pages))
    ∙ ap (λ time. earlier least (earlier time (oldest_of (flat_map entries_in pages)))) (sym agrees.0.oldest)
    ∙ ap (earlier least) (sym (oldest_joined (entries_in page) (flat_map entries_in pages)))

-- The greatest place

abbrev greatest : ℕ → List Entry → ℕ
greatest most entries = fold (λ most (entry : Entry). max most entry.seq) most entries

greatest_from : (most : ℕ) (entries : List Entry) → greatest most entries ≡ max most (greatest 0 entries)
greatest_from most [] = omega arith
greatest_from most (entry ∷ entries) =
    let here = greatest_from (max most entry.seq) entries in
    let from = greatest_from (max 0 entry.seq) entries in
    omega (arith, here, from)

greatest_is : (most : ℕ) (lines : List PageLine) (pages : List (List ℕ)) → AllZip Agrees lines pages → fold (λ most (line : PageLine). max most line.max_seq) most lines ≡ greatest most (flat_map entries_in pages)
greatest_is most [] [] agrees = refl
greatest_is most [] (page ∷ pages) agrees = absurd agrees
greatest_is most (line ∷ lines) [] agrees = absurd agrees
greatest_is most (line ∷ lines) (page ∷ pages) agrees =
    let here : max most line.max_seq ≡ greatest most (entries_in page) = ap (max most) (sym agrees.0.max_seq) ∙ sym (greatest_from most (entries_in page)) in
    greatest_is (max most line.max_seq) lines pages agrees.1
    ∙ ap (λ n. greatest n (flat_map entries_in pages)) here
    ∙ sym (fold-append (λ most (entry : Entry). max most entry.seq) most (entries_in page) (flat_map entries_in pages))

-- How many entries

count_is : (lines : List PageLine) (pages : List (List ℕ)) → AllZip Agrees lines pages → headers.entries_in lines ≡ length (flat_map entries_in pages)
count_is [] [] agrees = refl
count_is [] (page ∷ pages) agrees = absurd agrees
count_is (line ∷ lines) [] agrees = absurd agrees
count_is (line ∷ lines) (page ∷ pages) agrees =
    omega (arith, sum_by-cons (λ (line : PageLine). line.entries) line lines, count_is lines pages agrees.1, agrees.0.page.len, length-append (entries_in page) (flat_map entries_in pages))

-- How many tombstones

abbrev tombs : List Entry → ℕ
tombs entries = count_by (λ (entry : Entry). is_tomb entry.body) entries

no_tomb : (body : Body) → kind_of body ≡ kinds.Put → ◌≡◌ {A = ℕ} (cond (is_tomb body) 1 0) 0
no_tomb (Put dkey value) is = refl
no_tomb Tomb is = absurd cc

one_tomb : (body : Body) → kind_of body ≡ kinds.Tomb → ◌≡◌ {A = ℕ} (cond (is_tomb body) 1 0) 1
one_tomb (Put dkey value) is = absurd cc
one_tomb Tomb is = refl

tombs_of_puts : (entries : List Entry) → All (IsIn Puts) entries → tombs entries ≡ 0
tombs_of_puts [] each = refl
tombs_of_puts (entry ∷ entries) each =
    let rest = tombs_of_puts entries (All-tail (IsIn Puts) entry entries each) in
    let first = no_tomb entry.body (All-head (IsIn Puts) entry entries each).kind in
    omega (arith, sum_by-cons (λ (entry : Entry). cond (is_tomb entry.body) 1 0) entry entries, rest, first)

tombs_of_tombs : (entries : List Entry) → All (IsIn Tombs) entries → tombs entries ≡ length entries
tombs_of_tombs [] each = refl
tombs_of_tombs (entry ∷ entries) each =
    let rest = tombs_of_tombs entries (All-tail (IsIn Tombs) entry entries each) in
    let first = one_tomb entry.body (All-head (IsIn Tombs) entry entries each).kind in
    omega (arith, sum_by-cons (λ (entry : Entry). cond (is_tomb entry.body) 1 0) entry entries, rest, first)

tombs_in_page : (class : Class) (entries : List Entry) → pages.HasSpelling class entries → tombs entries ≡ cond (is_puts class) 0 (length entries)
tombs_in_page Puts entries spelled = tombs_of_puts entries spelled.each
tombs_in_page Tombs entries spelled = tombs_of_tombs entries spelled.each

tombs_are : (lines : List PageLine) (pages : List (List ℕ)) → AllZip Agrees lines pages → tombs_in lines ≡ tombs (flat_map entries_in pages)
tombs_are [] [] agrees = refl
tombs_are [] (page ∷ pages) agrees = absurd agrees
tombs_are (line ∷ lines) [] agrees = absurd agrees
tombs_are (line ∷ lines) (page ∷ pages) agrees =
    let here = tombs_in_page line.class (entries_in page) agrees.0.page.spelled ∙ ap (cond (is_puts line.class) 0) agrees.0.page.len in
    omega (arith, sum_by-cons (λ (line : PageLine). cond (is_puts line.class) 0 line.entries) line lines, tombs_are lines pages agrees.1, here, sum_by-append (λ (entry : Entry). cond (is_tomb entry.body) 1 0) (entries_in page) (flat_map entries_in pages))

-- The two keys

pub lower_is : (tiles : List TileLine) (pages : List (List ℕ)) → least_key tiles ≡ lower_key (tiles_of tiles pages)
lower_is [] pages = refl
lower_is (tile ∷ tiles) pages = refl

pub upper_is : (before : Bytes) (tiles : List TileLine) (pages : List (List ℕ)) → fold (λ before (tile : TileLine). tile.hi) before tiles ≡ fold (λ before (tile : Tile). tile.hi) before (tiles_of tiles pages)
upper_is before [] pages = refl
upper_is before (tile ∷ tiles) pages = upper_is tile.hi tiles (drop (length tile.pages) pages)

pub facts_are : (next level : ℕ) (file : StoredFile) → IsFile next file → facts.facts_of level file.swept file.header ≡ shapes.facts_of level (file_of file)
facts_are next level file is =
    let tiles = file.header.tiles in
    let agrees = is.agrees.pages in
    let entries = sym (entries_are tiles file.pages (as_many (lines_of tiles) file.pages agrees)) in
    let oldest = oldest_is None (lines_of tiles) file.pages agrees ∙ ap oldest_of entries in
    let dead = tombs_are (lines_of tiles) file.pages agrees ∙ ap tombs entries in
    let count = count_is (lines_of tiles) file.pages agrees ∙ ap length entries in
    let most = greatest_is 0 (lines_of tiles) file.pages agrees ∙ ap (greatest 0) entries in
    λ i. record {
      no = file.header.no;
      level = level;
      lo = lower_is tiles file.pages i;
      hi = upper_is [] tiles file.pages i;
      oldest = oldest i;
      tombs = dead i;
      entries = count i;
      max_seq = most i;
      swept = file.swept;
    }
