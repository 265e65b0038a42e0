-- Pages that are opened one after the other.
use Rattle.std.proofs.Common.{◌≡◌, ℕ, zero, suc, ◌+◌, ◌<◌, ◌≤◌, List, [], ◌∷◌, ◌++◌, length, map, get_or, take, drop, arith, sym, ap, refl, subst, ◌∙◌, append_assoc, length-append}
use Rattle.std.specs.Prelude.{All}
use Rattle.std.proofs.lemmas.List.{append-nil, map-append, take_more, take_at, drop_at, take-append-drop}
use Rattle.std.proofs.lemmas.List.Concat.{flat_map-append}
use Rattle.std.proofs.lemmas.List.Elements.{All-same, All-take, All-drop}
use Rattle.lethe_header.specs.Facts.{lines_of}
use Rattle.lethe_header.specs.declared.header.PageLine.{PageLine}
use Rattle.lethe_header.specs.declared.header.TileLine.{TileLine}

pub page_pushed : {A B L : Type 0} (f : A → B) (h : L → B) (old now new : List A) (page : A) (lines : List L) (i : ℕ) (line : L) → i < length lines → line ≡ get_or lines i line → f page ≡ h line → new ≡ now ++ page ∷ []
    → map f now ≡ map f old ++ map h (take i lines) → map f new ≡ map f old ++ map h (take (i + 1) lines)
page_pushed f h old now new page lines i line lt is same pushed so_far =
    let more : take (i + 1) lines ≡ take i lines ++ line ∷ [] = take_more lines i line lt ∙ ap (λ l. take i lines ++ l ∷ []) (sym is) in
    ap (map f) pushed ∙ map-append f now (page ∷ []) ∙ (λ k. so_far k ++ same k ∷ []) ∙ append_assoc (map f old) (map h (take i lines)) (h line ∷ [])
    ∙ ap (λ l. map f old ++ l) (sym (map-append h (take i lines) (line ∷ [])) ∙ ap (map h) (sym more))

-- the lines of one tile more
pub lines_more : (tiles : List TileLine) (i : ℕ) (tile : TileLine) → i < length tiles → tile ≡ get_or tiles i tile → lines_of (take (i + 1) tiles) ≡ lines_of (take i tiles) ++ tile.pages
lines_more tiles i tile lt is =
    ap lines_of (take_more tiles i tile lt ∙ ap (λ t. take i tiles ++ t ∷ []) (sym is)) ∙ flat_map-append (λ (t : TileLine). t.pages) (take i tiles) (tile ∷ [])
    ∙ ap (λ l. lines_of (take i tiles) ++ l) (append-nil tile.pages)

pub tile_opened : {B : Type 0} (h : PageLine → B) (now new : List B) (tiles : List TileLine) (i : ℕ) (tile : TileLine) (lines : List PageLine) → i < length tiles → tile ≡ get_or tiles i tile → lines ≡ tile.pages
    → new ≡ now ++ map h lines → now ≡ map h (lines_of (take i tiles)) → new ≡ map h (lines_of (take (i + 1) tiles))
tile_opened h now new tiles i tile lines lt is own opened so_far =
    opened ∙ (λ k. so_far k ++ map h (own k)) ∙ sym (map-append h (lines_of (take i tiles)) tile.pages) ∙ ap (map h) (sym (lines_more tiles i tile lt is))

-- what holds of all lines holds of those of a tile
pub all_of_tile : (P : PageLine → Type 0) (all tiles : List TileLine) (i : ℕ) (tile : TileLine) (lines : List PageLine) → tiles ≡ all → i < length tiles → tile ≡ get_or tiles i tile → lines ≡ tile.pages → All P (lines_of all) → All P lines
all_of_tile P all tiles i tile lines same lt is own holds =
    All-same P lines (get_or tiles i tile).pages (own ∙ ap (λ (t : TileLine). t.pages) is) (at_place tiles i tile lt (subst (λ l. All P (lines_of l)) (sym same) holds))
  where
    at_place : (tiles : List TileLine) (i : ℕ) (d : TileLine) → i < length tiles → All P (lines_of tiles) → All P (get_or tiles i d).pages
    at_place [] i d lt holds = absurd (omega arith)
    at_place (t ∷ ts) zero d lt holds = All-same P t.pages (take (length t.pages) (t.pages ++ lines_of ts)) (sym (take_at t.pages (lines_of ts) (length t.pages) refl)) (All-take P (length t.pages) (t.pages ++ lines_of ts) holds)
    at_place (t ∷ ts) (suc i) d lt holds =
        at_place ts i d (omega arith) (All-same P (lines_of ts) (drop (length t.pages) (t.pages ++ lines_of ts)) (sym (drop_at t.pages (lines_of ts) (length t.pages) refl)) (All-drop P (length t.pages) (t.pages ++ lines_of ts) holds))

-- the calls that open them, one for each page

pub calls_more : (tiles : List TileLine) (i : ℕ) (tile : TileLine) (lines : List PageLine) → i < length tiles → tile ≡ get_or tiles i tile → lines ≡ tile.pages → (old now new : ℕ)
    → now ≤ old + length (lines_of (take i tiles)) → new ≤ now + length lines → new ≤ old + length (lines_of (take (i + 1) tiles))
calls_more tiles i tile lines lt is own old now new so_far next =
    omega (arith, so_far, next, ap length own, ap length (lines_more tiles i tile lt is), length-append (lines_of (take i tiles)) tile.pages)

pub calls_within : (tiles all : List TileLine) (i old new : ℕ) → tiles ≡ all → new ≤ old + length (lines_of (take i tiles)) → new ≤ old + length (lines_of all)
calls_within tiles all i old new same so_far =
    let parts : lines_of all ≡ lines_of (take i tiles) ++ lines_of (drop i tiles) =
    ap lines_of (sym same ∙ sym (take-append-drop i tiles)) ∙ flat_map-append (λ (t : TileLine). t.pages) (take i tiles) (drop i tiles) in
    omega (arith, so_far, ap length parts, length-append (lines_of (take i tiles)) (lines_of (drop i tiles)))
