-- A header's rules item by item: what is asked of each line behind so many others, and of each tile behind a greatest key.
use Rattle.std.proofs.Common.{◌≡◌, ℕ, ◌+◌, ◌≤◌, ◌<◌, cond, List, [], ◌∷◌, ◌++◌, append_assoc, append-nil, length, fold, Option, Some, None, refl, sym, ap, ◌∙◌, subst, arith}
use Rattle.std.specs.Prelude.{count_by, IsTrue}
use Rattle.std.specs.Ordering.{is_le, is_lt}
use Rattle.std.specs.declared.cmp.Ordering.TheVariants.{Less}
use Rattle.std.proofs.lemmas.List.{length-append}
use Rattle.std.proofs.lemmas.List.Sums.{fold-append, sum_by-append, sum_by-cons}
use Rattle.lethe_base.specs.Keys.{Bytes, key_cmp}
use Rattle.lethe_page.specs.Reading.{is_above}
use Rattle.lethe_page.specs.declared.class.Class.{Class}
use Rattle.lethe_page.specs.declared.class.Class.TheVariants.{Puts, Tombs}
use Rattle.lethe_tile.proofs.Orders.{less_is}
use Rattle.lethe_header.specs.Headers.{EachFollows, HasRoomFor, IsFrom, IsLine, IsTile, LineFollows, TileFollows, dkey_then, entries_in, is_puts, last_dkey, last_hi, max_puts, max_tile_entries, puts_in}
use Rattle.lethe_header.specs.declared.header.PageLine.{PageLine}
use Rattle.lethe_header.specs.declared.header.TileLine.{TileLine}
use Rattle.lethe_file.proofs.Orders.{le_less, less_le}

-- ---- lines

-- what is asked of a line's class behind so many lines, and so many of puts
abbrev pub HasRoom : Class → ℕ → ℕ → Type 0
HasRoom Puts puts lines = puts < max_puts
HasRoom Tombs puts lines = lines ≡ 0

-- one more where it is of puts
abbrev pub puts_then : ℕ → PageLine → ℕ
puts_then puts line = puts + count_by (λ (l : PageLine). is_puts l.class) (line ∷ [])

-- lines behind so many, of which so many are of puts, and behind a delete key; their entries are looked at apart
abbrev pub LinesFollow : ℕ → ℕ → ℕ → List PageLine → Type 0
LinesFollow puts lines dkey [] = Unit {0}
LinesFollow puts lines dkey (line ∷ rest) = IsLine line × HasRoom line.class puts lines × IsFrom dkey line.fence × LinesFollow (puts_then puts line) (lines + 1) (dkey_then dkey line.fence) rest

room_from : (class : Class) (before : List PageLine) → HasRoomFor class before → HasRoom class (puts_in before) (length before)
room_from Puts before room = room
room_from Tombs before room = room

room_to : (class : Class) (before : List PageLine) → HasRoom class (puts_in before) (length before) → HasRoomFor class before
room_to Puts before room = room
room_to Tombs before room = room

puts_more : (before : List PageLine) (line : PageLine) → puts_in (before ++ line ∷ []) ≡ puts_then (puts_in before) line
puts_more before line = sum_by-append (λ (l : PageLine). cond (is_puts l.class) 1 0) before (line ∷ [])

lines_more : (before : List PageLine) (line : PageLine) → length (before ++ line ∷ []) ≡ length before + 1
lines_more before line = length-append before (line ∷ [])

dkey_more : (before : List PageLine) (line : PageLine) → last_dkey (before ++ line ∷ []) ≡ dkey_then (last_dkey before) line.fence
dkey_more before line = fold-append (λ (dkey : ℕ) (l : PageLine). dkey_then dkey l.fence) 0 before (line ∷ [])

lines_forward : (before lines : List PageLine) → EachFollows LineFollows (before ++ lines) → LinesFollow (puts_in before) (length before) (last_dkey before) lines
lines_forward before [] each = tt
lines_forward before (line ∷ rest) each =
    let here = each before rest line refl in
    let more = lines_forward (before ++ line ∷ []) rest (subst (EachFollows LineFollows) (sym (append_assoc before (line ∷ []) rest)) each) in (
      here.itself,
      room_from line.class before here.room,
      here.fence,
      subst (λ dkey. LinesFollow (puts_then (puts_in before) line) (length before + 1) dkey rest) (dkey_more before line)
          (subst (λ lines. LinesFollow (puts_then (puts_in before) line) lines (last_dkey (before ++ line ∷ [])) rest) (lines_more before line)
          (subst (λ puts. LinesFollow puts (length (before ++ line ∷ [])) (last_dkey (before ++ line ∷ [])) rest) (puts_more before line) more)),
    )

pub lines_follow_from : (lines : List PageLine) → EachFollows LineFollows lines → LinesFollow 0 0 0 lines
lines_follow_from lines each = lines_forward [] lines each

-- of lines that follow, the one behind some of them
line_behind : (puts lines dkey : ℕ) (front : List PageLine) (line : PageLine) (rest : List PageLine) (done : List PageLine) → puts ≡ puts_in done → lines ≡ length done → dkey ≡ last_dkey done
    → LinesFollow puts lines dkey (front ++ line ∷ rest) → IsLine line × HasRoom line.class (puts_in (done ++ front)) (length (done ++ front)) × IsFrom (last_dkey (done ++ front)) line.fence
line_behind puts lines dkey [] line rest done one two three follow =
    let none = append-nil done in (
      follow.0,
      subst (λ before. HasRoom line.class (puts_in before) (length before)) (sym none) (subst (λ n. HasRoom line.class (puts_in done) n) two (subst (λ n. HasRoom line.class n lines) one follow.1)),
      subst (λ before. IsFrom (last_dkey before) line.fence) (sym none) (subst (λ n. IsFrom n line.fence) three follow.2),
    )
line_behind puts lines dkey (first ∷ front) line rest done one two three follow =
    let next = done ++ first ∷ [] in
    let more = line_behind (puts_then puts first) (lines + 1) (dkey_then dkey first.fence) front line rest next
    (ap (λ n. puts_then n first) one ∙ sym (puts_more done first)) (ap (λ n. n + 1) two ∙ sym (lines_more done first)) (ap (λ n. dkey_then n first.fence) three ∙ sym (dkey_more done first)) follow.3 in
    subst (λ before. IsLine line × HasRoom line.class (puts_in before) (length before) × IsFrom (last_dkey before) line.fence) (append_assoc done (first ∷ []) front) more

pub lines_follow_to : (lines : List PageLine) → LinesFollow 0 0 0 lines → entries_in lines ≤ max_tile_entries → EachFollows LineFollows lines
lines_follow_to lines follow few front rest line is =
    let here = line_behind 0 0 0 front line rest [] refl refl refl (subst (LinesFollow 0 0 0) is follow) in
    let total = ap entries_in is in
    record {
      itself = here.0;
      room = room_to line.class front here.1;
      entries = omega (arith, few, total, sum_by-append (λ (l : PageLine). l.entries) front (line ∷ rest), sum_by-cons (λ (l : PageLine). l.entries) line rest);
      fence = here.2;
    }

-- a tile's lines have no more entries than a tile may have
entries_from : (before lines : List PageLine) → EachFollows LineFollows (before ++ lines) → entries_in before ≤ max_tile_entries → entries_in (before ++ lines) ≤ max_tile_entries
entries_from before [] each few = subst (λ ls. entries_in ls ≤ max_tile_entries) (sym (append-nil before)) few
entries_from before (line ∷ rest) each few =
    let same = append_assoc before (line ∷ []) rest in
    let here = (each before rest line refl).entries in
    let one = sum_by-cons (λ (l : PageLine). l.entries) line [] in
    subst (λ ls. entries_in ls ≤ max_tile_entries) same
    (entries_from (before ++ line ∷ []) rest (subst (EachFollows LineFollows) (sym same) each) (omega (arith, here, sum_by-append (λ (l : PageLine). l.entries) before (line ∷ []), one)))

pub few_entries : (lines : List PageLine) → EachFollows LineFollows lines → entries_in lines ≤ max_tile_entries
few_entries lines each = entries_from [] lines each (omega arith)

-- ---- tiles

-- tiles behind a greatest key, if there is one
abbrev pub TilesFollow : Option Bytes → List TileLine → Type 0
TilesFollow last [] = Unit {0}
TilesFollow last (tile ∷ rest) = IsTile tile × IsTrue (is_above last tile.lo) × TilesFollow (Some tile.hi) rest

tiles_forward : (before tiles : List TileLine) → EachFollows TileFollows (before ++ tiles) → TilesFollow (last_hi before) tiles
tiles_forward before [] each = tt
tiles_forward before (tile ∷ rest) each =
    let here = each before rest tile refl in
    let last : last_hi (before ++ tile ∷ []) ≡ Some tile.hi = fold-append (λ (last : Option Bytes) (t : TileLine). Some t.hi) None before (tile ∷ []) in
    let more = tiles_forward (before ++ tile ∷ []) rest (subst (EachFollows TileFollows) (sym (append_assoc before (tile ∷ []) rest)) each) in
    (here.itself, here.above, subst (λ last. TilesFollow last rest) last more)

pub tiles_follow_from : (tiles : List TileLine) → EachFollows TileFollows tiles → TilesFollow None tiles
tiles_follow_from tiles each = tiles_forward [] tiles each

tile_behind : (last : Option Bytes) (front : List TileLine) (tile : TileLine) (rest : List TileLine) → TilesFollow last (front ++ tile ∷ rest)
    → IsTile tile × IsTrue (is_above (fold (λ (last : Option Bytes) (t : TileLine). Some t.hi) last front) tile.lo)
tile_behind last [] tile rest follow = (follow.0, follow.1)
tile_behind last (first ∷ front) tile rest follow = tile_behind (Some first.hi) front tile rest follow.2

pub tiles_follow_to : (tiles : List TileLine) → TilesFollow None tiles → EachFollows TileFollows tiles
tiles_follow_to tiles follow front rest tile is =
    let here = tile_behind None front tile rest (subst (TilesFollow None) is follow) in
    record { itself = here.0; above = here.1 }

-- what is above a tile's greatest key is above what its least key is above
above_through : (last : Option Bytes) (lo hi next : Bytes) → IsTrue (is_above last lo) → IsTrue (is_le (key_cmp lo hi)) → IsTrue (is_above (Some hi) next) → IsTrue (is_above last next)
above_through None lo hi next above keys behind = refl
above_through (Some last) lo hi next above keys behind =
    let below : key_cmp last hi ≡ Less = less_le last lo hi (less_is (key_cmp last lo) above) keys in
    ap is_lt (le_less last hi next (ap is_le below) (less_is (key_cmp hi next) behind))

-- the first tile goes
pub tiles_less : (last : Option Bytes) (tile : TileLine) (rest : List TileLine) → TilesFollow last (tile ∷ rest) → TilesFollow last rest
tiles_less last tile [] follow = tt
tiles_less last tile (next ∷ rest) follow =
    (follow.2.0, above_through last tile.lo tile.hi next.lo follow.1 follow.0.keys follow.2.1, follow.2.2)
