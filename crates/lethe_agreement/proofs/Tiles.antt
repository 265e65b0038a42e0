-- The pages of a tile, looked at one after the other.
use Rattle.std.proofs.Common.{◌≡◌, ℕ, ◌<◌, List, [], ◌∷◌, ◌++◌, length, get_or, take, drop, map, All, AllPairs, refl, sym, ap, subst, ◌∙◌, arith, inl, inr}
use Rattle.std.specs.Prelude.{Contains, ◌↔◌}
use Rattle.std.specs.List.{AllZip}
use Rattle.std.proofs.lemmas.List.{take-map, drop-map, get_or-map, length-map}
use Rattle.std.proofs.lemmas.List.Elements.{All-cons, All-head, All-nil, All-tail, All-weaker, Contains-get_or}
use Rattle.std.proofs.lemmas.List.Kept.{AllPairs-cons}
use Rattle.lethe_base.specs.Keys.{Bytes}
use Rattle.lethe_base.specs.declared.entry.Entry.{Entry}
use Rattle.lethe_tile.proofs.Orders.{pairs_head, pairs_tail}
use Rattle.lethe_header.specs.Facts.{lines_of}
use Rattle.lethe_header.specs.declared.header.PageLine.{PageLine}
use Rattle.lethe_header.specs.declared.header.TileLine.{TileLine}
use Rattle.lethe_file.specs.Agreement.{Agrees, FileAgrees, HaveNoCommonKey, IsWithin, TileHolds, TilesHold, entries_in, keys_of}
use Rattle.lethe_file.proofs.Tiles.{zip_parts}
use Rattle.lethe_agreement.specs.Soundness.{AreSoundFrom, AreSoundTiles, IsSoundTile, taken_with}

-- no entry of these has such a key
abbrev HasNone : (Bytes → Type 0) → List Entry → Type 0
HasNone taken entries = All (λ entry. taken entry.key → ⊥) entries

-- ---- keys

key_there : (entries : List Entry) (k : ℕ) (d : Entry) → k < length entries → Contains (keys_of entries) (get_or entries k d).key
key_there entries k d lt =
    let key : Entry → Bytes = λ e. e.key in
    let here : get_or (keys_of entries) k d.key ≡ (get_or entries k d).key = get_or-map key entries k d d.key lt in
    subst (Contains (keys_of entries)) here (Contains-get_or (keys_of entries) k d.key (omega (arith, length-map entries key, lt)))

-- entries with none of a page's keys share none with it, and the other way
none_common : (page entries : List Entry) → HasNone (Contains (keys_of page)) entries → HaveNoCommonKey page entries
none_common page entries none i d lt j e below same =
    none j e below (subst (Contains (keys_of page)) same (key_there page i d lt))

common_none : (page entries : List Entry) → HaveNoCommonKey page entries → HasNone (Contains (keys_of page)) entries
common_none [] entries apart j e below (k, lt, same) = absurd (omega (arith, lt))
common_none (first ∷ page) entries apart j e below (k, lt, same) =
    let key : Entry → Bytes = λ e. e.key in
    let inside : k < length (first ∷ page) = omega (arith, length-map (first ∷ page) key, lt) in
    apart k first inside j e below (sym (get_or-map key (first ∷ page) k first (get_or entries j e).key inside) ∙ same)

-- ---- the pages of a tile

record AreApart (tile : TileLine) (taken : Bytes → Type 0) (pages : List (List Entry)) : Type 0 where
  within : All (All (λ entry. IsWithin tile entry.key)) pages
  none : All (HasNone taken) pages
  once : AllPairs HaveNoCommonKey pages

apart_first : (tile : TileLine) (taken : Bytes → Type 0) (page : List ℕ) (pages : List (List Entry)) → All (λ entry. IsWithin tile entry.key) (entries_in page) → HasNone taken (entries_in page)
    → AreApart tile (taken_with taken page) pages → AreApart tile taken (entries_in page ∷ pages)
apart_first tile taken page pages within none rest =
    let first = entries_in page in
    let others = All-weaker (HasNone (taken_with taken page)) (HasNone taken) (λ entries h k d lt is. h k d lt (inl is)) pages rest.none in
    let common = All-weaker (HasNone (taken_with taken page)) (HaveNoCommonKey first) (λ entries h. none_common first entries (λ k d lt is. h k d lt (inr is))) pages rest.none in
    record {
      within = All-cons (All (λ entry. IsWithin tile entry.key)) first pages within rest.within;
      none = All-cons (HasNone taken) first pages none others;
      once = AllPairs-cons HaveNoCommonKey first pages common rest.once;
    }

apart_rest : (tile : TileLine) (taken : Bytes → Type 0) (page : List ℕ) (pages : List (List Entry)) → AreApart tile taken (entries_in page ∷ pages) → AreApart tile (taken_with taken page) pages
apart_rest tile taken page pages apart = record {
  within = All-tail (All (λ entry. IsWithin tile entry.key)) (entries_in page) pages apart.within;
  none = both;
  once = pairs_tail HaveNoCommonKey (entries_in page) pages apart.once;
}
  where
    none : All (HasNone taken) pages
    none = All-tail (HasNone taken) (entries_in page) pages apart.none

    common : All (HaveNoCommonKey (entries_in page)) pages
    common = pairs_head HaveNoCommonKey (entries_in page) pages apart.once

    both : All (HasNone (taken_with taken page)) pages
    both k d lt j e below (inl is) = none k d lt j e below is
    both k d lt j e below (inr is) = common_none (entries_in page) (get_or pages k d) (common k d lt) j e below is

sound_apart : (tile : TileLine) (taken : Bytes → Type 0) (lines : List PageLine) (pages : List (List ℕ)) → AreSoundFrom tile taken lines pages → AllZip Agrees lines pages × AreApart tile taken (map entries_in pages)
sound_apart tile taken [] [] sound = (tt, record { within = All-nil (All (λ entry. IsWithin tile entry.key)); none = All-nil (HasNone taken); once = λ i j d lt below. absurd (omega (arith, below)) })
sound_apart tile taken [] (page ∷ pages) sound = absurd sound
sound_apart tile taken (line ∷ lines) [] sound = absurd sound
sound_apart tile taken (line ∷ lines) (page ∷ pages) sound =
    let rest = sound_apart tile (taken_with taken page) lines pages sound.1 in
    ((sound.0.agrees, rest.0), apart_first tile taken page (map entries_in pages) sound.0.within sound.0.apart rest.1)

apart_sound : (tile : TileLine) (taken : Bytes → Type 0) (lines : List PageLine) (pages : List (List ℕ)) → AllZip Agrees lines pages → AreApart tile taken (map entries_in pages) → AreSoundFrom tile taken lines pages
apart_sound tile taken [] [] agree apart = tt
apart_sound tile taken [] (page ∷ pages) agree apart = absurd agree
apart_sound tile taken (line ∷ lines) [] agree apart = absurd agree
apart_sound tile taken (line ∷ lines) (page ∷ pages) agree apart = (
  record {
    agrees = agree.0;
    within = All-head (All (λ entry. IsWithin tile entry.key)) (entries_in page) (map entries_in pages) apart.within;
    apart = All-head (HasNone taken) (entries_in page) (map entries_in pages) apart.none;
  },
  apart_sound tile (taken_with taken page) lines pages agree.1 (apart_rest tile taken page (map entries_in pages) apart),
)

pub sound_tile : (tile : TileLine) (pages : List (List ℕ)) → IsSoundTile tile pages ↔ (AllZip Agrees tile.pages pages × TileHolds tile (map entries_in pages))
sound_tile tile pages = (to, from)
  where
    to : IsSoundTile tile pages → AllZip Agrees tile.pages pages × TileHolds tile (map entries_in pages)
    to sound =
        let parts = sound_apart tile (λ key. ⊥) tile.pages pages sound in
        (parts.0, record { within = parts.1.within; once = parts.1.once })

    from : AllZip Agrees tile.pages pages × TileHolds tile (map entries_in pages) → IsSoundTile tile pages
    from (agree, holds) = apart_sound tile (λ key. ⊥) tile.pages pages agree (record { within = holds.within; none = λ k d lt j e below is. is; once = holds.once })

-- ---- the tiles of a file

zip_whole : {A B : Type 0} (R : A → B → Type 0) (xs ys : List A) (zs : List B) → AllZip R xs (take (length xs) zs) → AllZip R ys (drop (length xs) zs) → AllZip R (xs ++ ys) zs
zip_whole R [] ys zs p q = q
zip_whole R (x ∷ xs) ys [] p q = absurd p
zip_whole R (x ∷ xs) ys (z ∷ zs) p q = (p.0, zip_whole R xs ys zs p.1 q)

none_zipped : {A B : Type 0} (R : A → B → Type 0) (ys : List B) → AllZip R [] ys → ys ≡ []
none_zipped R [] h = refl
none_zipped R (y ∷ ys) h = absurd h

agreeing_sound : (tiles : List TileLine) (pages : List (List ℕ)) → AllZip Agrees (lines_of tiles) pages → TilesHold tiles (map entries_in pages) → AreSoundTiles tiles pages
agreeing_sound [] pages agree hold = none_zipped Agrees pages agree
agreeing_sound (tile ∷ tiles) pages agree hold =
    let n = length tile.pages in
    let parts = zip_parts Agrees tile.pages (lines_of tiles) pages agree in
    let here = subst (TileHolds tile) (take-map entries_in n pages) hold.0 in
    ((sound_tile tile (take n pages)).1 (parts.0, here), agreeing_sound tiles (drop n pages) parts.1 (subst (TilesHold tiles) (drop-map entries_in n pages) hold.1))

sound_agreeing : (tiles : List TileLine) (pages : List (List ℕ)) → AreSoundTiles tiles pages → AllZip Agrees (lines_of tiles) pages × TilesHold tiles (map entries_in pages)
sound_agreeing [] pages none = (subst (AllZip Agrees []) (sym none) tt, ap (map entries_in) none)
sound_agreeing (tile ∷ tiles) pages sound =
    let n = length tile.pages in
    let here = (sound_tile tile (take n pages)).0 sound.0 in
    let rest = sound_agreeing tiles (drop n pages) sound.1 in (
      zip_whole Agrees tile.pages (lines_of tiles) pages here.0 rest.0,
      (subst (TileHolds tile) (sym (take-map entries_in n pages)) here.1, subst (TilesHold tiles) (sym (drop-map entries_in n pages)) rest.1),
    )

pub sound_file : (tiles : List TileLine) (pages : List (List ℕ)) → FileAgrees tiles pages ↔ AreSoundTiles tiles pages
sound_file tiles pages = (to, from)
  where
    to : FileAgrees tiles pages → AreSoundTiles tiles pages
    to agree = agreeing_sound tiles pages agree.pages agree.tiles

    from : AreSoundTiles tiles pages → FileAgrees tiles pages
    from sound =
        let parts = sound_agreeing tiles pages sound in
        record { pages = parts.0; tiles = parts.1 }
