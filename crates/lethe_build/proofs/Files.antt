-- The draft of whole tiles: its header has a spelling, and its pages agree with it.
use Rattle.std.proofs.Common.{◌≡◌, ℕ, true, Option, Some, None, List, [], ◌∷◌, ◌++◌, length, fold, map, take, drop, get_or, All, AllPairs, refl, ◌∙◌, ap, sym, subst, append-nil, arith}
use Rattle.std.specs.Prelude.{IsTrue}
use Rattle.std.specs.List.{AllZip}
use Rattle.std.specs.Ordering.{is_lt}
use Rattle.std.specs.declared.cmp.Ordering.TheVariants.{Less}
use Rattle.std.proofs.Math.Seq.{take-append_seam, drop-append_seam}
use Rattle.std.proofs.lemmas.List.{map-append}
use Rattle.std.proofs.lemmas.List.Elements.{All-append, All-head, All-nil, All-tail}
use Rattle.lethe_base.specs.Keys.{Bytes, key_cmp}
use Rattle.lethe_base.specs.Layout as layout
use Rattle.lethe_base.specs.declared.entry.Entry.{Entry}
use Rattle.lethe_page.specs.Reading.{is_above}
use Rattle.lethe_tile.proofs.Orders.{all_right, pairs_append}
use Rattle.lethe_tile.specs.Woven.{plain}
use Rattle.lethe_tile.specs.declared.weaving.Tile.{Tile}
use Rattle.lethe_tile.proofs.Pages.{going_all}
use Rattle.lethe_tile.proofs.Parts.{empty_is}
use Rattle.lethe_header.specs.Facts.{lines_of}
use Rattle.lethe_header.specs.Headers.{EachFollows, TileFollows, last_hi}
use Rattle.lethe_header.specs.declared.header.PageLine.{PageLine}
use Rattle.lethe_header.specs.declared.header.TileLine.{TileLine}
use Rattle.lethe_file.specs.Agreement.{Agrees, FileAgrees, TilesHold, entries_in}
use Rattle.lethe_file.proofs.Pages.{same_entries}
use Rattle.lethe_build.specs.Built.{IsToldBy, class_of, pages_of, spelled}
use Rattle.lethe_build.specs.Drafts.{IsDraftOf}
use Rattle.lethe_build.specs.Parts.{IsBelow, IsGroup, IsLineOf, IsPage, IsTileLineOf, IsWhole}
use Rattle.lethe_build.proofs.Follows.{zip_split}
use Rattle.lethe_build.specs.declared.draft.Draft.{Draft}
use Rattle.lethe_build.proofs.Loops.{AreJoined}
use Rattle.lethe_build.proofs.TileLines.{line_holds, line_is_tile, same_len, tile_pages, zip_length}

-- ---- the header

last_above : (lo : Bytes) (tiles : List layout.Tile) (lines : List TileLine) (last : Option Bytes) → AllZip IsTileLineOf tiles lines → All (λ tile. key_cmp tile.hi lo ≡ Less) tiles
    → IsTrue (is_above last lo) → IsTrue (is_above (fold (λ last line. Some line.hi) last lines) lo)
last_above lo [] [] last zip below above = above
last_above lo [] (l ∷ ls) last zip below above = absurd zip
last_above lo (t ∷ ts) [] last zip below above = absurd zip
last_above lo (t ∷ ts) (l ∷ ls) last zip below above =
    let under : key_cmp t.hi lo ≡ Less = All-head (λ (tile : layout.Tile). key_cmp tile.hi lo ≡ Less) t ts below in
    let here : is_lt (key_cmp l.hi lo) ≡ true = ap (λ (x : Bytes). is_lt (key_cmp x lo)) zip.0.hi ∙ ap is_lt under in
    last_above lo ts ls (Some l.hi) zip.1 (All-tail (λ (tile : layout.Tile). key_cmp tile.hi lo ≡ Less) t ts below) here

tiles_follow : (tiles : List layout.Tile) (lines : List TileLine) → AllZip IsTileLineOf tiles lines → All IsWhole tiles → AllPairs IsBelow tiles → EachFollows TileFollows lines
tiles_follow tiles lines zip whole order before after line is =
    let split = zip_split IsTileLineOf tiles before after line (subst (λ (l : List TileLine). AllZip IsTileLineOf tiles l) is zip) in
    let pairs = pairs_append IsBelow split.first (split.own ∷ split.rest) (subst (AllPairs IsBelow) split.is order) in
    let below : All (λ tile. key_cmp tile.hi split.own.lo ≡ Less) split.first = λ k d lt. All-head (IsBelow (get_or split.first k d)) split.own split.rest (pairs.2 k d lt) in
    let own : IsWhole split.own = All-head IsWhole split.own split.rest (all_right IsWhole split.first (split.own ∷ split.rest) (subst (All IsWhole) split.is whole)) in
    record {
      itself = line_is_tile split.own line own split.here;
      above = subst (λ (x : Bytes). IsTrue (is_above (last_hi before) x)) (sym split.here.lo) (last_above split.own.lo split.first before None split.earlier below refl);
    }

-- ---- the pages

zip_append : {A B : Type 0} (R : A → B → Type 0) (xs xs' : List A) (ys ys' : List B) → AllZip R xs ys → AllZip R xs' ys' → AllZip R (xs ++ xs') (ys ++ ys')
zip_append R [] xs' [] ys' zip more = more
zip_append R [] xs' (y ∷ ys) ys' zip more = absurd zip
zip_append R (x ∷ xs) xs' [] ys' zip more = absurd zip
zip_append R (x ∷ xs) xs' (y ∷ ys) ys' zip more = (zip.0, zip_append R xs xs' ys ys' zip.1 more)

lines_agree : (pages : List (List Entry)) (lines : List PageLine) → AllZip IsLineOf pages lines → AllZip Agrees lines (map spelled pages)
lines_agree [] [] zip = tt
lines_agree [] (l ∷ ls) zip = absurd zip
lines_agree (p ∷ ps) [] zip = absurd zip
lines_agree (p ∷ ps) (l ∷ ls) zip = (zip.0.agrees, lines_agree ps ls zip.1)

tiles_agree : (tiles : List layout.Tile) (lines : List TileLine) → AllZip IsTileLineOf tiles lines → AllZip Agrees (lines_of lines) (map spelled (pages_of tiles))
tiles_agree [] [] zip = tt
tiles_agree [] (l ∷ ls) zip = absurd zip
tiles_agree (t ∷ ts) [] zip = absurd zip
tiles_agree (t ∷ ts) (l ∷ ls) zip =
    subst (λ (bytes : List (List ℕ)). AllZip Agrees (l.pages ++ lines_of ls) bytes) (sym (map-append spelled t.pages (pages_of ts)))
    (zip_append Agrees l.pages (lines_of ls) (map spelled t.pages) (map spelled (pages_of ts)) (lines_agree t.pages l.pages zip.0.pages) (tiles_agree ts ls zip.1))

tiles_hold : (tiles : List layout.Tile) (lines : List TileLine) → AllZip IsTileLineOf tiles lines → All IsWhole tiles → TilesHold lines (pages_of tiles)
tiles_hold [] [] zip whole = refl
tiles_hold [] (l ∷ ls) zip whole = absurd zip
tiles_hold (t ∷ ts) [] zip whole = absurd zip
tiles_hold (t ∷ ts) (l ∷ ls) zip whole =
    let own = All-head IsWhole t ts whole in
    let len = same_len t l own zip.0 in
    let first : take (length l.pages) (t.pages ++ pages_of ts) ≡ t.pages = ap (λ (n : ℕ). take n (t.pages ++ pages_of ts)) len ∙ take-append_seam t.pages (pages_of ts) in
    let rest : drop (length l.pages) (t.pages ++ pages_of ts) ≡ pages_of ts = ap (λ (n : ℕ). drop n (t.pages ++ pages_of ts)) len ∙ drop-append_seam t.pages (pages_of ts) in
    rw (first, rest) (line_holds t l own zip.0, tiles_hold ts ls zip.1 (All-tail IsWhole t ts whole))

-- what is spelled is read again
read_again : (pages : List (List Entry)) → All IsPage pages → map entries_in (map spelled pages) ≡ pages
read_again [] each = refl
read_again (p ∷ ps) each =
    ap (λ (page : List Entry). page ∷ map entries_in (map spelled ps)) (same_entries (class_of p) p (All-head IsPage p ps each).has_spelling)
    ∙ ap (λ (pages : List (List Entry)). p ∷ pages) (read_again ps (All-tail IsPage p ps each))

pub all_pages : (tiles : List layout.Tile) → All IsWhole tiles → All IsPage (pages_of tiles)
all_pages [] whole = All-nil IsPage
all_pages (t ∷ ts) whole = All-append IsPage t.pages (pages_of ts) (tile_pages t (All-head IsWhole t ts whole)) (all_pages ts (All-tail IsWhole t ts whole))

pages_again : (tiles : List layout.Tile) → All IsWhole tiles → map entries_in (map spelled (pages_of tiles)) ≡ pages_of tiles
pages_again tiles whole = read_again (pages_of tiles) (all_pages tiles whole)

file_agrees : (tiles : List layout.Tile) (lines : List TileLine) (bytes : List (List ℕ)) → AllZip IsTileLineOf tiles lines → All IsWhole tiles → bytes ≡ map spelled (pages_of tiles) → FileAgrees lines bytes
file_agrees tiles lines bytes zip whole is =
    subst (FileAgrees lines) (sym is) (record { pages = tiles_agree tiles lines zip; tiles = subst (TilesHold lines) (sym (pages_again tiles whole)) (tiles_hold tiles lines zip whole) })

told_by : (tiles : List layout.Tile) (lines : List TileLine) → AllZip IsTileLineOf tiles lines → All IsWhole tiles → AllZip IsToldBy tiles lines
told_by [] [] zip whole = tt
told_by [] (l ∷ ls) zip whole = absurd zip
told_by (t ∷ ts) [] zip whole = absurd zip
told_by (t ∷ ts) (l ∷ ls) zip whole =
    (record { lo = zip.0.lo; hi = zip.0.hi; pages = same_len t l (All-head IsWhole t ts whole) zip.0 }, told_by ts ls zip.1 (All-tail IsWhole t ts whole))

-- ---- a file whose tiles are all done

-- the loop has ended
pub all_done : (tiles rest : List Tile) (lines now : List TileLine) (pages : List (List ℕ)) → length rest ≡ 0 → now ≡ lines → AreJoined (map plain tiles) (map plain rest) lines pages → AreJoined (map plain tiles) [] now pages
all_done tiles rest lines now pages none same made =
    subst (λ (ls : List TileLine). AreJoined (map plain tiles) [] ls pages) (sym same)
    (subst (λ (left : List Tile). AreJoined (map plain tiles) (map plain left) lines pages) (empty_is rest none) made)

-- all tiles have their lines
pub is_draft_of : (tiles : List layout.Tile) (draft : Draft) → IsGroup tiles → AreJoined tiles [] draft.tiles draft.pages → IsDraftOf tiles draft
is_draft_of tiles draft group made =
    let lines : AllZip IsTileLineOf tiles draft.tiles = going_all IsTileLineOf tiles draft.tiles made.going in
    let bytes : draft.pages ≡ map spelled (pages_of tiles) = sym (append-nil draft.pages) ∙ made.bytes in
    let count : length draft.tiles ≡ length tiles = zip_length IsTileLineOf tiles draft.tiles lines in
    let agree : FileAgrees draft.tiles draft.pages = file_agrees tiles draft.tiles draft.pages lines group.whole bytes in
    record {
      lines = told_by tiles draft.tiles lines group.whole;
      pages = bytes;
      entries = ap (map entries_in) bytes ∙ pages_again tiles group.whole;
      agrees = agree;
      is = record {
        spelled = record {
          no = omega arith;
          some = omega (arith, count, group.some);
          few = omega (arith, count, group.few);
          tiles = tiles_follow tiles draft.tiles lines group.whole group.below;
        };
        paged = zip_length Agrees (lines_of draft.tiles) draft.pages agree.pages;
      };
    }
