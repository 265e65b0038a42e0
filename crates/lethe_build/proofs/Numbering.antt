-- Numbers of pages: they change nothing else of a draft's lines.
use Rattle.std.proofs.Common.{◌≡◌, ℕ, zero, suc, ◌+◌, ◌≤◌, ◌<◌, cond, Some, None, Option, List, [], ◌∷◌, ◌++◌, length, fold, map, take, drop, get_or, set, zip, All, refl, ◌∙◌, ap, sym, subst, length-append, length-take, length-drop, arith}
use Rattle.std.specs.Prelude.{IsTrue}
use Rattle.std.specs.List.{AllZip}
use Rattle.std.proofs.Math.Seq.{take-append_seam}
use Rattle.std.proofs.lemmas.List.{length-map, take-append-drop}
use Rattle.std.proofs.lemmas.List.Elements.{All-drop, All-head, All-tail, All-take}
use Rattle.std.proofs.lemmas.Slice.Zip.{length-zip}
use Rattle.lethe_base.specs.Keys.{Bytes}
use Rattle.lethe_base.specs.Layout as layout
use Rattle.lethe_base.specs.Limits.{max_place}
use Rattle.lethe_base.specs.declared.entry.Entry.{Entry}
use Rattle.lethe_page.specs.Reading.{is_above}
use Rattle.lethe_page.specs.declared.class.Class.{Class}
use Rattle.lethe_page.specs.declared.class.Class.TheVariants.{Puts, Tombs}
use Rattle.lethe_header.specs.Facts.{lines_of}
use Rattle.lethe_header.specs.Headers.{EachFollows, HasRoomFor, HasSpelling, IsFrom, LineFollows, TileFollows, dkey_then, entries_in, is_puts, puts_in}
use Rattle.lethe_header.specs.declared.header.PageLine.{PageLine}
use Rattle.lethe_header.specs.declared.header.TileLine.{TileLine}
use Rattle.lethe_file.specs.Agreement.{Agrees, TileHolds, TilesHold}
use Rattle.lethe_file.specs.Agreement as agreement
use Rattle.lethe_build.specs.Built.{IsToldBy}
use Rattle.lethe_build.specs.Drafts.{IsDraft, IsDraftOf, IsNumberedOf, header_of, with_number, with_numbers}
use Rattle.lethe_build.specs.declared.draft.Draft.{Draft}
use Rattle.lethe_build.proofs.Follows.{zip_split}
use Rattle.lethe_build.proofs.TileLines.{zip_length, zip_sum}

-- ---- numbers and lines, one by one

abbrev pub numbered : List ℕ → List PageLine → List PageLine
numbered numbers lines = map with_number (zip numbers lines)

numbered_length : (numbers : List ℕ) (lines : List PageLine) → length numbers ≡ length lines → length (numbered numbers lines) ≡ length lines
numbered_length numbers lines same = omega (arith, same, length-map (zip numbers lines) with_number, length-zip numbers lines)

numbered_append : (numbers more : List ℕ) (lines others : List PageLine) → length numbers ≡ length lines → numbered (numbers ++ more) (lines ++ others) ≡ numbered numbers lines ++ numbered more others
numbered_append [] more [] others same = refl
numbered_append [] more (l ∷ ls) others same = absurd (omega (arith, same))
numbered_append (n ∷ ns) more [] others same = absurd (omega (arith, same))
numbered_append (n ∷ ns) more (l ∷ ls) others same = ap (λ (rest : List PageLine). with_number (n, l) ∷ rest) (numbered_append ns more ls others (omega (arith, same)))

numbers_are : (numbers : List ℕ) (lines : List PageLine) → length numbers ≡ length lines → map (λ line. line.no) (numbered numbers lines) ≡ numbers
numbers_are [] [] same = refl
numbers_are [] (l ∷ ls) same = absurd (omega (arith, same))
numbers_are (n ∷ ns) [] same = absurd (omega (arith, same))
numbers_are (n ∷ ns) (l ∷ ls) same = ap (λ (rest : List ℕ). n ∷ rest) (numbers_are ns ls (omega (arith, same)))

-- ---- the numbers of the first tile, and those of the others

module _ (numbers : List ℕ) (tile : TileLine) (tiles : List TileLine) (same : length numbers ≡ length (lines_of (tile ∷ tiles))) where
  pub own_numbers : length (take (length tile.pages) numbers) ≡ length tile.pages
  own_numbers = omega (arith, same, length-append tile.pages (lines_of tiles), length-take (length tile.pages) numbers)

  pub other_numbers : length (drop (length tile.pages) numbers) ≡ length (lines_of tiles)
  other_numbers = omega (arith, same, length-append tile.pages (lines_of tiles), length-drop (length tile.pages) numbers)

lines_numbered : (numbers : List ℕ) (tiles : List TileLine) → length numbers ≡ length (lines_of tiles) → lines_of (with_numbers numbers tiles) ≡ numbered numbers (lines_of tiles)
lines_numbered [] [] same = refl
lines_numbered (n ∷ ns) [] same = absurd (omega (arith, same))
lines_numbered numbers (t ∷ ts) same =
    let count = length t.pages in
    ap (λ (rest : List PageLine). numbered (take count numbers) t.pages ++ rest) (lines_numbered (drop count numbers) ts (other_numbers numbers t ts same))
    ∙ sym (numbered_append (take count numbers) (drop count numbers) t.pages (lines_of ts) (own_numbers numbers t ts same))
    ∙ ap (λ (all : List ℕ). numbered all (t.pages ++ lines_of ts)) (take-append-drop count numbers)

pub draft_numbers : (numbers : List ℕ) (draft : Draft) → IsDraft draft → length numbers ≡ length draft.pages → map (λ line. line.no) (lines_of (with_numbers numbers draft.tiles)) ≡ numbers
draft_numbers numbers draft is same =
    let all : length numbers ≡ length (lines_of draft.tiles) = same ∙ is.paged in
    ap (map (λ (line : PageLine). line.no)) (lines_numbered numbers draft.tiles all) ∙ numbers_are numbers (lines_of draft.tiles) all

-- ---- what lines tell

told_again : (tiles : List layout.Tile) (numbers : List ℕ) (lines : List TileLine) → AllZip IsToldBy tiles lines → length numbers ≡ length (lines_of lines) → AllZip IsToldBy tiles (with_numbers numbers lines)
told_again [] numbers [] told same = tt
told_again [] numbers (l ∷ ls) told same = absurd told
told_again (t ∷ ts) numbers [] told same = absurd told
told_again (t ∷ ts) numbers (l ∷ ls) told same = (
  record { lo = told.0.lo; hi = told.0.hi; pages = numbered_length (take (length l.pages) numbers) l.pages (own_numbers numbers l ls same) ∙ told.0.pages },
  told_again ts (drop (length l.pages) numbers) ls told.1 (other_numbers numbers l ls same),
)

agrees_again : (number : ℕ) (line : PageLine) (bytes : List ℕ) → Agrees line bytes → Agrees (with_number (number, line)) bytes
agrees_again number line bytes agrees = record {
  page = record { spelled = agrees.page.spelled; len = agrees.page.len; digest = agrees.page.digest };
  spelled = agrees.spelled;
  max_seq = agrees.max_seq;
  oldest = agrees.oldest;
  fence = agrees.fence;
  filter = agrees.filter;
}

pages_again : (numbers : List ℕ) (lines : List PageLine) (pages : List (List ℕ)) → AllZip Agrees lines pages → length numbers ≡ length lines → AllZip Agrees (numbered numbers lines) pages
pages_again [] [] pages agree same = agree
pages_again [] (l ∷ ls) pages agree same = absurd (omega (arith, same))
pages_again (n ∷ ns) [] pages agree same = absurd (omega (arith, same))
pages_again (n ∷ ns) (l ∷ ls) [] agree same = absurd agree
pages_again (n ∷ ns) (l ∷ ls) (p ∷ ps) agree same = (agrees_again n l p agree.0, pages_again ns ls ps agree.1 (omega (arith, same)))

holds_again : (tile : TileLine) (lines : List PageLine) (pages : List (List Entry)) → TileHolds tile pages → TileHolds (record tile { pages = lines }) pages
holds_again tile lines pages holds = record {
  within = λ k d lt j e inside. let within = holds.within k d lt j e inside in record { lo = within.lo; hi = within.hi };
  once = holds.once;
}

tiles_again : (numbers : List ℕ) (lines : List TileLine) (pages : List (List Entry)) → TilesHold lines pages → length numbers ≡ length (lines_of lines) → TilesHold (with_numbers numbers lines) pages
tiles_again numbers [] pages hold same = hold
tiles_again numbers (l ∷ ls) pages hold same =
    let own = numbered (take (length l.pages) numbers) l.pages in
    let long : length l.pages ≡ length own = sym (numbered_length (take (length l.pages) numbers) l.pages (own_numbers numbers l ls same)) in (
      subst (λ (n : ℕ). TileHolds (record l { pages = own }) (take n pages)) long (holds_again l own (take (length l.pages) pages) hold.0),
      subst (λ (n : ℕ). TilesHold (with_numbers (drop (length l.pages) numbers) ls) (drop n pages)) long (tiles_again (drop (length l.pages) numbers) ls (drop (length l.pages) pages) hold.1 (other_numbers numbers l ls same)),
    )

pub is_numbered_of : (tiles : List layout.Tile) (numbers : List ℕ) (draft : Draft) → IsDraftOf tiles draft → length numbers ≡ length draft.pages → IsNumberedOf tiles numbers draft
is_numbered_of tiles numbers draft of same =
    let all : length numbers ≡ length (lines_of draft.tiles) = same ∙ of.is.paged in
    record {
      lines = told_again tiles numbers draft.tiles of.lines all;
      agrees = record {
        pages = subst (λ (lines : List PageLine). AllZip Agrees lines draft.pages) (sym (lines_numbered numbers draft.tiles all)) (pages_again numbers (lines_of draft.tiles) draft.pages of.agrees.pages all);
        tiles = tiles_again numbers draft.tiles (map agreement.entries_in draft.pages) of.agrees.tiles all;
      };
    }

-- ---- the rules of a header

-- a line, and what it is with a number
record IsLineAgain (line other : PageLine) : Type 0 where
  no : other.no ≤ max_place
  is : other ≡ with_number (other.no, line)

abbrev IsSmall : ℕ → Type 0
IsSmall number = number ≤ max_place

lines_are_again : (numbers : List ℕ) (lines : List PageLine) → All IsSmall numbers → length numbers ≡ length lines → AllZip IsLineAgain lines (numbered numbers lines)
lines_are_again [] [] small same = tt
lines_are_again [] (l ∷ ls) small same = absurd (omega (arith, same))
lines_are_again (n ∷ ns) [] small same = absurd (omega (arith, same))
lines_are_again (n ∷ ns) (l ∷ ls) small same = (record { no = All-head IsSmall n ns small; is = refl }, lines_are_again ns ls (All-tail IsSmall n ns small) (omega (arith, same)))

module _ (lines others : List PageLine) (zip : AllZip IsLineAgain lines others) where
  puts_again : puts_in others ≡ puts_in lines
  puts_again =
      zip_sum IsLineAgain (λ (line : PageLine). cond (is_puts line.class) 1 0) (λ (line : PageLine). cond (is_puts line.class) 1 0) (λ line other again. ap (λ (l : PageLine). cond (is_puts l.class) 1 0) again.is) lines others zip

  entries_again : entries_in others ≡ entries_in lines
  entries_again = zip_sum IsLineAgain (λ (line : PageLine). line.entries) (λ (line : PageLine). line.entries) (λ line other again. ap (λ (l : PageLine). l.entries) again.is) lines others zip

  room_again : (class : Class) → HasRoomFor class lines → HasRoomFor class others
  room_again Puts room = omega (arith, room, puts_again)
  room_again Tombs room = zip_length IsLineAgain lines others zip ∙ room

dkey_again : (lines others : List PageLine) (dkey : ℕ) → AllZip IsLineAgain lines others → fold (λ dkey line. dkey_then dkey line.fence) dkey others ≡ fold (λ dkey line. dkey_then dkey line.fence) dkey lines
dkey_again [] [] dkey zip = refl
dkey_again [] (o ∷ os) dkey zip = absurd zip
dkey_again (l ∷ ls) [] dkey zip = absurd zip
dkey_again (l ∷ ls) (o ∷ os) dkey zip =
    let here : dkey_then dkey o.fence ≡ dkey_then dkey l.fence = ap (λ (line : PageLine). dkey_then dkey line.fence) zip.0.is in
    ap (λ (d : ℕ). fold (λ dkey line. dkey_then dkey line.fence) d os) here ∙ dkey_again ls os (dkey_then dkey l.fence) zip.1

line_with : (number : ℕ) (line : PageLine) (first before : List PageLine) → number ≤ max_place → AllZip IsLineAgain first before → LineFollows first line → LineFollows before (with_number (number, line))
line_with number line first before small zip follows = record {
  itself = record {
    no = small;
    some = follows.itself.some;
    place = follows.itself.place;
    oldest = follows.itself.oldest;
    fence = follows.itself.fence;
    filter = follows.itself.filter;
    digest = follows.itself.digest;
  };
  room = room_again first before zip line.class follows.room;
  entries = omega (arith, follows.entries, entries_again first before zip);
  fence = subst (λ (dkey : ℕ). IsFrom dkey line.fence) (sym (dkey_again first before 0 zip)) follows.fence;
}

lines_follow_again : (lines others : List PageLine) → AllZip IsLineAgain lines others → EachFollows LineFollows lines → EachFollows LineFollows others
lines_follow_again lines others zip each before after line is =
    let split = zip_split IsLineAgain lines before after line (subst (λ (l : List PageLine). AllZip IsLineAgain lines l) is zip) in
    subst (LineFollows before) (sym split.here.is) (line_with line.no split.own split.first before split.here.no split.earlier (each split.first split.rest split.own split.is))

-- a tile's line, and what it is once its pages have numbers
record IsTileAgain (tile other : TileLine) : Type 0 where
  pages : AllZip IsLineAgain tile.pages other.pages
  is : other ≡ record tile { pages = other.pages }

tiles_are_again : (numbers : List ℕ) (tiles : List TileLine) → All IsSmall numbers → length numbers ≡ length (lines_of tiles) → AllZip IsTileAgain tiles (with_numbers numbers tiles)
tiles_are_again numbers [] small same = tt
tiles_are_again numbers (t ∷ ts) small same =
    let count = length t.pages in (
      record { pages = lines_are_again (take count numbers) t.pages (All-take IsSmall count numbers small) (own_numbers numbers t ts same); is = refl },
      tiles_are_again (drop count numbers) ts (All-drop IsSmall count numbers small) (other_numbers numbers t ts same),
    )

hi_again : (tiles others : List TileLine) (last : Option Bytes) → AllZip IsTileAgain tiles others → fold (λ last tile. Some tile.hi) last others ≡ fold (λ last tile. Some tile.hi) last tiles
hi_again [] [] last zip = refl
hi_again [] (o ∷ os) last zip = absurd zip
hi_again (t ∷ ts) [] last zip = absurd zip
hi_again (t ∷ ts) (o ∷ os) last zip =
    let here : o.hi ≡ t.hi = ap (λ (tile : TileLine). tile.hi) zip.0.is in
    ap (λ (hi : Bytes). fold (λ last tile. Some tile.hi) (Some hi) os) here ∙ hi_again ts os (Some t.hi) zip.1

tile_with : (lines : List PageLine) (tile : TileLine) (first before : List TileLine) → AllZip IsLineAgain tile.pages lines → AllZip IsTileAgain first before → TileFollows first tile → TileFollows before (record tile { pages = lines })
tile_with lines tile first before own zip follows =
    let count : length lines ≡ length tile.pages = zip_length IsLineAgain tile.pages lines own in
    record {
      itself = record {
        lo = follows.itself.lo;
        hi = follows.itself.hi;
        keys = follows.itself.keys;
        some = omega (arith, count, follows.itself.some);
        few = omega (arith, count, follows.itself.few);
        lines = lines_follow_again tile.pages lines own follows.itself.lines;
      };
      above = subst (λ (last : Option Bytes). IsTrue (is_above last tile.lo)) (sym (hi_again first before None zip)) follows.above;
    }

tiles_follow_again : (tiles others : List TileLine) → AllZip IsTileAgain tiles others → EachFollows TileFollows tiles → EachFollows TileFollows others
tiles_follow_again tiles others zip each before after tile is =
    let split = zip_split IsTileAgain tiles before after tile (subst (λ (l : List TileLine). AllZip IsTileAgain tiles l) is zip) in
    subst (TileFollows before) (sym split.here.is) (tile_with tile.pages split.own split.first before split.here.pages split.earlier (each split.first split.rest split.own split.is))

pub spelled_again : (tiles : List TileLine) (numbers : List ℕ) (number : ℕ) → HasSpelling (header_of 0 tiles) → All IsSmall numbers → length numbers ≡ length (lines_of tiles) → number ≤ max_place → HasSpelling (header_of number (with_numbers numbers tiles))
spelled_again tiles numbers number spelled small same low =
    let again = tiles_are_again numbers tiles small same in
    let count : length (with_numbers numbers tiles) ≡ length tiles = zip_length IsTileAgain tiles (with_numbers numbers tiles) again in
    record {
      no = low;
      some = omega (arith, count, spelled.some);
      few = omega (arith, count, spelled.few);
      tiles = tiles_follow_again tiles (with_numbers numbers tiles) again spelled.tiles;
    }

-- ---- the loops that write the numbers

-- the first so many lines have their numbers
abbrev pub lines_to : ℕ → List ℕ → List PageLine → List PageLine
lines_to zero ns ls = ls
lines_to (suc i) ns [] = []
lines_to (suc i) [] (l ∷ ls) = l ∷ ls
lines_to (suc i) (n ∷ ns) (l ∷ ls) = with_number (n, l) ∷ lines_to i ns ls

pub lines_more : (i : ℕ) (ns : List ℕ) (ls : List PageLine) (x : PageLine) → length ns ≡ length ls → i < length ls → x ≡ get_or (lines_to i ns ls) i x → set (lines_to i ns ls) i (with_number (get_or ns i 0, x)) ≡ lines_to (i + 1) ns ls
lines_more i ns ls x same below is = lines_suc i ns ls x same below is ∙ ap (λ (k : ℕ). lines_to k ns ls) (let next : suc i ≡ i + 1 = omega arith in next)
  where
    lines_suc : (i : ℕ) (ns : List ℕ) (ls : List PageLine) (x : PageLine) → length ns ≡ length ls → i < length ls → x ≡ get_or (lines_to i ns ls) i x → set (lines_to i ns ls) i (with_number (get_or ns i 0, x)) ≡ lines_to (suc i) ns ls
    lines_suc i ns [] x same below is = absurd (omega (arith, below))
    lines_suc i [] (l ∷ ls) x same below is = absurd (omega (arith, same))
    lines_suc zero (n ∷ ns) (l ∷ ls) x same below is = ap (λ (y : PageLine). with_number (n, y) ∷ ls) is
    lines_suc (suc i) (n ∷ ns) (l ∷ ls) x same below is =
        ap (λ (rest : List PageLine). with_number (n, l) ∷ rest) (lines_suc i ns ls x (omega (arith, same)) (omega (arith, below)) is)

pub lines_all : (i : ℕ) (ns : List ℕ) (ls : List PageLine) → length ns ≡ length ls → i ≡ length ls → lines_to i ns ls ≡ numbered ns ls
lines_all zero [] [] same all = refl
lines_all zero (n ∷ ns) [] same all = absurd (omega (arith, same))
lines_all zero ns (l ∷ ls) same all = absurd (omega (arith, all))
lines_all (suc i) ns [] same all = absurd (omega (arith, all))
lines_all (suc i) [] (l ∷ ls) same all = absurd (omega (arith, same))
lines_all (suc i) (n ∷ ns) (l ∷ ls) same all = ap (λ (rest : List PageLine). with_number (n, l) ∷ rest) (lines_all i ns ls (omega (arith, same)) (omega (arith, all)))

abbrev pub tile_numbered : List ℕ → TileLine → TileLine
tile_numbered ns tile = record tile { pages = numbered (take (length tile.pages) ns) tile.pages }

-- the pages of the first so many tiles have their numbers
abbrev pub tiles_to : ℕ → List ℕ → List TileLine → List TileLine
tiles_to zero ns ts = ts
tiles_to (suc i) ns [] = []
tiles_to (suc i) ns (t ∷ ts) = tile_numbered ns t ∷ tiles_to i (drop (length t.pages) ns) ts

-- the numbers that the tiles behind these take
abbrev pub numbers_behind : ℕ → List ℕ → List TileLine → List ℕ
numbers_behind zero ns ts = ns
numbers_behind (suc i) ns [] = ns
numbers_behind (suc i) ns (t ∷ ts) = numbers_behind i (drop (length t.pages) ns) ts

pub room_behind : (i : ℕ) (ns : List ℕ) (ts : List TileLine) (x : TileLine) → length ns ≡ length (lines_of ts) → i < length ts → x ≡ get_or (tiles_to i ns ts) i x → length x.pages ≤ length (numbers_behind i ns ts)
room_behind i ns [] x same below is = absurd (omega (arith, below))
room_behind zero ns (t ∷ ts) x same below is = omega (arith, ap (λ (y : TileLine). length y.pages) is, same, length-append t.pages (lines_of ts))
room_behind (suc i) ns (t ∷ ts) x same below is = room_behind i (drop (length t.pages) ns) ts x (other_numbers ns t ts same) (omega (arith, below)) is

pub tiles_more : (i : ℕ) (ns : List ℕ) (ts : List TileLine) (x : TileLine) → i < length ts → x ≡ get_or (tiles_to i ns ts) i x → set (tiles_to i ns ts) i (tile_numbered (numbers_behind i ns ts) x) ≡ tiles_to (i + 1) ns ts
tiles_more i ns ts x below is = tiles_suc i ns ts x below is ∙ ap (λ (k : ℕ). tiles_to k ns ts) (let next : suc i ≡ i + 1 = omega arith in next)
  where
    tiles_suc : (i : ℕ) (ns : List ℕ) (ts : List TileLine) (x : TileLine) → i < length ts → x ≡ get_or (tiles_to i ns ts) i x → set (tiles_to i ns ts) i (tile_numbered (numbers_behind i ns ts) x) ≡ tiles_to (suc i) ns ts
    tiles_suc i ns [] x below is = absurd (omega (arith, below))
    tiles_suc zero ns (t ∷ ts) x below is = ap (λ (y : TileLine). tile_numbered ns y ∷ ts) is
    tiles_suc (suc i) ns (t ∷ ts) x below is = ap (λ (rest : List TileLine). tile_numbered ns t ∷ rest) (tiles_suc i (drop (length t.pages) ns) ts x (omega (arith, below)) is)

pub behind_more : (i : ℕ) (ns : List ℕ) (ts : List TileLine) (x : TileLine) → i < length ts → x ≡ get_or (tiles_to i ns ts) i x → drop (length x.pages) (numbers_behind i ns ts) ≡ numbers_behind (i + 1) ns ts
behind_more i ns ts x below is = behind_suc i ns ts x below is ∙ ap (λ (k : ℕ). numbers_behind k ns ts) (let next : suc i ≡ i + 1 = omega arith in next)
  where
    behind_suc : (i : ℕ) (ns : List ℕ) (ts : List TileLine) (x : TileLine) → i < length ts → x ≡ get_or (tiles_to i ns ts) i x → drop (length x.pages) (numbers_behind i ns ts) ≡ numbers_behind (suc i) ns ts
    behind_suc i ns [] x below is = absurd (omega (arith, below))
    behind_suc zero ns (t ∷ ts) x below is = ap (λ (y : TileLine). drop (length y.pages) ns) is
    behind_suc (suc i) ns (t ∷ ts) x below is = behind_suc i (drop (length t.pages) ns) ts x (omega (arith, below)) is

pub tiles_all : (i : ℕ) (ns : List ℕ) (ts : List TileLine) → i ≡ length ts → tiles_to i ns ts ≡ with_numbers ns ts
tiles_all zero ns [] all = refl
tiles_all zero ns (t ∷ ts) all = absurd (omega (arith, all))
tiles_all (suc i) ns [] all = absurd (omega (arith, all))
tiles_all (suc i) ns (t ∷ ts) all = ap (λ (rest : List TileLine). tile_numbered ns t ∷ rest) (tiles_all i (drop (length t.pages) ns) ts (omega (arith, all)))

-- ---- a turn of them

-- an element of a list, and so of the same list
element_is : {X : Type 0} (items made : List X) (i : ℕ) (x : X) → items ≡ made → x ≡ get_or items i x → get_or items i x ≡ get_or made i (get_or items i x)
element_is {X} items made i x same is = ap (get_or items i) is ∙ ap (λ (xs : List X). get_or xs i (get_or items i x)) same

pub lines_length : (i : ℕ) (ns : List ℕ) (ls : List PageLine) → length (lines_to i ns ls) ≡ length ls
lines_length zero ns ls = refl
lines_length (suc i) ns [] = refl
lines_length (suc i) [] (l ∷ ls) = refl
lines_length (suc i) (n ∷ ns) (l ∷ ls) = ap suc (lines_length i ns ls)

pub lines_turn : (i : ℕ) (ns : List ℕ) (ls items : List PageLine) (x : PageLine) → items ≡ lines_to i ns ls → x ≡ get_or items i x → length ns ≡ length ls → i < length items → set items i (with_number (get_or ns i 0, get_or items i x)) ≡ lines_to (i + 1) ns ls
lines_turn i ns ls items x made is same below =
    let own = get_or items i x in
    let inside : i < length ls = omega (arith, below, ap length made, lines_length i ns ls) in
    ap (λ (xs : List PageLine). set xs i (with_number (get_or ns i 0, own))) made ∙ lines_more i ns ls own same inside (element_is items (lines_to i ns ls) i x made is)

pub tiles_length : (i : ℕ) (ns : List ℕ) (ts : List TileLine) → length (tiles_to i ns ts) ≡ length ts
tiles_length zero ns ts = refl
tiles_length (suc i) ns [] = refl
tiles_length (suc i) ns (t ∷ ts) = ap suc (tiles_length i (drop (length t.pages) ns) ts)

module _ (i : ℕ) (ns : List ℕ) (ts items : List TileLine) (x : TileLine) (made : items ≡ tiles_to i ns ts) (is : x ≡ get_or items i x) (below : i < length items) where
  abbrev own : TileLine
  own = get_or items i x

  inside : i < length ts
  inside = omega (arith, below, ap length made, tiles_length i ns ts)

  there : own ≡ get_or (tiles_to i ns ts) i own
  there = element_is items (tiles_to i ns ts) i x made is

  pub tiles_room : length ns ≡ length (lines_of ts) → length own.pages ≤ length (numbers_behind i ns ts)
  tiles_room same = room_behind i ns ts own same inside there

  pub tiles_turn : (pages : List PageLine) → pages ≡ numbered (take (length own.pages) (numbers_behind i ns ts)) own.pages → set items i (record { lo = own.lo; hi = own.hi; pages = pages }) ≡ tiles_to (i + 1) ns ts
  tiles_turn pages are =
      ap (λ (ps : List PageLine). set items i (record own { pages = ps })) are
      ∙ ap (λ (xs : List TileLine). set xs i (tile_numbered (numbers_behind i ns ts) own)) made
      ∙ tiles_more i ns ts own inside there

  pub behind_turn : drop (length own.pages) (numbers_behind i ns ts) ≡ numbers_behind (i + 1) ns ts
  behind_turn = behind_more i ns ts own inside there

-- the lines of one tile, from what was split off
pub pages_made : (made lines pages : List PageLine) (front left behind : List ℕ) (count : ℕ) → made ≡ numbered front lines → lines ≡ pages → count ≡ length pages → front ≡ take count left → left ≡ behind → made ≡ numbered (take (length pages) behind) pages
pages_made made lines pages front left behind count is same long split rest =
    is ∙ ap (λ (l : List PageLine). numbered front l) same
    ∙ ap (λ (f : List ℕ). numbered f pages) (split ∙ ap (λ (n : ℕ). take n left) long ∙ ap (λ (l : List ℕ). take (length pages) l) rest)

-- what a vector has once its items were written as a slice
pub written : {X : Type 0} (result now before : List X) (len : ℕ) → result ≡ take len (now ++ drop (length now) before) → len ≡ length now → result ≡ now
written {X} result now before len is same = is ∙ ap (λ (n : ℕ). take n (now ++ drop (length now) before)) same ∙ take-append_seam now (drop (length now) before)
