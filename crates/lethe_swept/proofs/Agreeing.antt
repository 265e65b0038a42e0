-- What is left of a file agrees with the lines of its draft, once its new pages have numbers.
use Rattle.std.proofs.Common.{◌≡◌, ℕ, zero, suc, List, [], ◌∷◌, ◌++◌, Some, length, map, take, drop, slice_get, get_or, All, refl, sym, ap, ◌∙◌, subst, arith}
use Rattle.std.specs.Prelude.{filter_map, IsTrue}
use Rattle.std.specs.List.{AllZip}
use Rattle.std.specs.Ordering.{is_le}
use Rattle.std.proofs.Math.Seq.{drop-append_seam, take-append_seam}
use Rattle.std.proofs.lemmas.List.{get_or-map, length-map, map-append}
use Rattle.std.proofs.lemmas.List.Elements.{All-cons, All-head, All-nil, All-tail, filter_map-append}
use Rattle.std.proofs.lemmas.Option.{slice_get_within}
use Rattle.std.proofs.lemmas.Slice.Zip.{AllZip-long}
use Rattle.lethe_base.specs.Keys.{Bytes, key_cmp}
use Rattle.lethe_base.specs.declared.entry.Entry.{Entry}
use Rattle.lethe_tile.proofs.Orders.{all_left, all_right}
use Rattle.lethe_header.specs.Facts.{lines_of}
use Rattle.lethe_header.specs.declared.header.PageLine.{PageLine}
use Rattle.lethe_header.specs.declared.header.TileLine.{TileLine}
use Rattle.lethe_file.specs.Agreement.{Agrees, FileAgrees, TileHolds, TilesHold, entries_in}
use Rattle.lethe_build.specs.Built.{spelled}
use Rattle.lethe_build.specs.Drafts.{with_number}
use Rattle.lethe_swept.specs.Drafts.{IsLineFor, IsTileFor, new_in, numbered, tile_of, tiles_with}
use Rattle.lethe_swept.specs.Left.{AreHeld, bounds_of, bytes_left, bytes_with, entries_with, fresh_in, fresh_of, pages_left}
use Rattle.lethe_swept.specs.declared.draft.DraftLine.{DraftLine}
use Rattle.lethe_swept.specs.declared.draft.DraftLine.TheVariants.{Own, New}
use Rattle.lethe_swept.specs.declared.draft.DraftTile.{DraftTile}
use Rattle.lethe_swept.specs.declared.draft.SweptDraft.{SweptDraft}
use Rattle.lethe_swept.specs.declared.part.Part.{Part}
use Rattle.lethe_swept.specs.declared.part.Part.TheVariants.{Kept, Fresh}
use Rattle.lethe_swept.specs.declared.part.SweptFile.{SweptFile}
use Rattle.lethe_swept.specs.declared.part.SweptTile.{SweptTile}
use Rattle.lethe_swept.proofs.Loops.{parts_of}
use Rattle.lethe_swept.proofs.Numbers.{lines_long}

-- ---- pages and their lines

zip_append : {A B : Type 0} (R : A → B → Type 0) (xs xs' : List A) (ys ys' : List B) → AllZip R xs ys → AllZip R xs' ys' → AllZip R (xs ++ xs') (ys ++ ys')
zip_append R [] xs' [] ys' zip more = more
zip_append R [] xs' (y ∷ ys) ys' zip more = absurd zip
zip_append R (x ∷ xs) xs' [] ys' zip more = absurd zip
zip_append R (x ∷ xs) xs' (y ∷ ys) ys' zip more = (zip.0, zip_append R xs xs' ys ys' zip.1 more)

-- a page that stays agrees with its own line
kept_agrees : (lines : List PageLine) (bytes : List (List ℕ)) (place : ℕ) (line : PageLine) → AllZip Agrees lines bytes → slice_get lines place ≡ Some line → Agrees line (get_or bytes place [])
kept_agrees [] [] place line zip is = absurd cc
kept_agrees [] (page ∷ bytes) place line zip is = absurd zip
kept_agrees (own ∷ lines) [] place line zip is = absurd zip
kept_agrees (own ∷ lines) (page ∷ bytes) zero line zip is = let same : own ≡ line = cc in subst (λ (l : PageLine). Agrees l page) same zip.0
kept_agrees (own ∷ lines) (page ∷ bytes) (suc place) line zip is = kept_agrees lines bytes place line zip.1 is

agrees_again : (number : ℕ) (line : PageLine) (bytes : List ℕ) → Agrees line bytes → Agrees (with_number (number, line)) bytes
agrees_again number line bytes agrees = record {
  page = record { spelled = agrees.page.spelled; len = agrees.page.len; digest = agrees.page.digest };
  spelled = agrees.spelled;
  max_seq = agrees.max_seq;
  oldest = agrees.oldest;
  fence = agrees.fence;
  filter = agrees.filter;
}

-- ---- entries and what spells them

-- what the pages of these entries spell are the entries
abbrev pub AreRead : List (List Entry) → Type 0
AreRead pages = All (λ entries. entries_in (spelled entries) ≡ entries) pages

pub are_read : (pages : List (List Entry)) → map entries_in (map spelled pages) ≡ pages → AreRead pages
are_read [] same = All-nil (λ entries. entries_in (spelled entries) ≡ entries)
are_read (page ∷ pages) same = All-cons (λ entries. entries_in (spelled entries) ≡ entries) page pages (cc) (are_read pages (cc))

holds_again : (tile : SweptTile) (draft : DraftTile) (numbers : List ℕ) (pages : List (List Entry)) → draft.lo ≡ tile.lo → draft.hi ≡ tile.hi → TileHolds (bounds_of tile) pages → TileHolds (tile_of draft numbers) pages
holds_again tile draft numbers pages lo hi holds = record {
  within = λ k d lt j e inside.
      let within = holds.within k d lt j e inside in
      let key = (get_or (get_or pages k d) j e).key in
      record {
        lo = subst (λ (x : Bytes). IsTrue (is_le (key_cmp x key))) (sym lo) within.lo;
        hi = subst (λ (x : Bytes). IsTrue (is_le (key_cmp key x))) (sym hi) within.hi;
      };
  once = holds.once;
}

-- ---- parts and tiles

module _ (lines : List PageLine) (bytes : List (List ℕ)) (agree : AllZip Agrees lines bytes) where
  parts_agree : (numbers : List ℕ) (parts : List Part) (drafts : List DraftLine) → AllZip (IsLineFor lines) parts drafts → AllZip Agrees (numbered numbers drafts) (map (bytes_with bytes) parts)
  parts_agree numbers [] [] zip = tt
  parts_agree numbers [] (draft ∷ drafts) zip = absurd zip
  parts_agree numbers (part ∷ parts) [] zip = absurd zip
  parts_agree numbers (Kept place ∷ parts) (Own line ∷ drafts) zip = (kept_agrees lines bytes place line agree zip.0, parts_agree numbers parts drafts zip.1)
  parts_agree numbers (Kept place ∷ parts) (New line ∷ drafts) zip = absurd zip.0
  parts_agree numbers (Fresh entries ∷ parts) (Own line ∷ drafts) zip = absurd zip.0
  parts_agree [] (Fresh entries ∷ parts) (New line ∷ drafts) zip = (zip.0.0.agrees, parts_agree [] parts drafts zip.1)
  parts_agree (number ∷ numbers) (Fresh entries ∷ parts) (New line ∷ drafts) zip = (agrees_again number line (spelled entries) zip.0.0.agrees, parts_agree numbers parts drafts zip.1)

  tiles_agree : (numbers : List ℕ) (tiles : List SweptTile) (drafts : List DraftTile) → AllZip (IsTileFor lines) tiles drafts → AllZip Agrees (lines_of (tiles_with numbers drafts)) (map (bytes_with bytes) (parts_of tiles))
  tiles_agree numbers [] [] zip = tt
  tiles_agree numbers [] (draft ∷ drafts) zip = absurd zip
  tiles_agree numbers (tile ∷ tiles) [] zip = absurd zip
  tiles_agree numbers (tile ∷ tiles) (draft ∷ drafts) zip =
      let behind = drop (length (new_in draft)) numbers in
      subst (AllZip Agrees (numbered numbers draft.lines ++ lines_of (tiles_with behind drafts))) (sym (map-append (bytes_with bytes) tile.parts (parts_of tiles)))
      (zip_append Agrees (numbered numbers draft.lines) (lines_of (tiles_with behind drafts)) (map (bytes_with bytes) tile.parts) (map (bytes_with bytes) (parts_of tiles))
      (parts_agree numbers tile.parts draft.lines zip.0.parts) (tiles_agree behind tiles drafts zip.1))

  -- the entries of a page that stays
  kept_read : (place : ℕ) (line : PageLine) → slice_get lines place ≡ Some line → entries_in (get_or bytes place []) ≡ get_or (map entries_in bytes) place []
  kept_read place line is = sym (get_or-map entries_in bytes place [] [] (let within = slice_get_within lines place line is in omega (arith, within, AllZip-long Agrees lines bytes agree)))

  parts_read : (parts : List Part) (drafts : List DraftLine) → AllZip (IsLineFor lines) parts drafts → AreRead (filter_map fresh_of parts)
      → map entries_in (map (bytes_with bytes) parts) ≡ map (entries_with (map entries_in bytes)) parts
  parts_read [] [] zip read = refl
  parts_read [] (draft ∷ drafts) zip read = absurd zip
  parts_read (part ∷ parts) [] zip read = absurd zip
  parts_read (Kept place ∷ parts) (Own line ∷ drafts) zip read =
      let here = kept_read place line zip.0 in
      let rest = parts_read parts drafts zip.1 read in
      λ i. here i ∷ rest i
  parts_read (Kept place ∷ parts) (New line ∷ drafts) zip read = absurd zip.0
  parts_read (Fresh entries ∷ parts) (Own line ∷ drafts) zip read = absurd zip.0
  parts_read (Fresh entries ∷ parts) (New line ∷ drafts) zip read =
      let here = All-head (λ entries. entries_in (spelled entries) ≡ entries) entries (filter_map fresh_of parts) read in
      let rest = parts_read parts drafts zip.1 (All-tail (λ entries. entries_in (spelled entries) ≡ entries) entries (filter_map fresh_of parts) read) in
      λ i. here i ∷ rest i

  abbrev IsHeld : SweptTile → Type 0
  IsHeld tile = TileHolds (bounds_of tile) (pages_left (map entries_in bytes) tile)

  tiles_hold : (numbers : List ℕ) (tiles : List SweptTile) (drafts : List DraftTile) → AllZip (IsTileFor lines) tiles drafts → All IsHeld tiles → AreRead (filter_map fresh_of (parts_of tiles))
      → TilesHold (tiles_with numbers drafts) (map entries_in (map (bytes_with bytes) (parts_of tiles)))
  tiles_hold numbers [] [] zip held read = refl
  tiles_hold numbers [] (draft ∷ drafts) zip held read = absurd zip
  tiles_hold numbers (tile ∷ tiles) [] zip held read = absurd zip
  tiles_hold numbers (tile ∷ tiles) (draft ∷ drafts) zip held read =
      let behind = drop (length (new_in draft)) numbers in
      let both : AreRead (filter_map fresh_of tile.parts ++ filter_map fresh_of (parts_of tiles)) = subst AreRead (filter_map-append fresh_of tile.parts (parts_of tiles)) read in
      let own = map entries_in (map (bytes_with bytes) tile.parts) in
      let others = map entries_in (map (bytes_with bytes) (parts_of tiles)) in
      let split : map entries_in (map (bytes_with bytes) (tile.parts ++ parts_of tiles)) ≡ own ++ others =
      ap (map entries_in) (map-append (bytes_with bytes) tile.parts (parts_of tiles)) ∙ map-append entries_in (map (bytes_with bytes) tile.parts) (map (bytes_with bytes) (parts_of tiles)) in
      let long : length (numbered numbers draft.lines) ≡ length own = omega (
        arith,
        lines_long numbers draft.lines,
        AllZip-long (IsLineFor lines) tile.parts draft.lines zip.0.parts,
        length-map (map (bytes_with bytes) tile.parts) entries_in,
        length-map tile.parts (bytes_with bytes),
      ) in
      let first : take (length (numbered numbers draft.lines)) (own ++ others) ≡ own = ap (λ (n : ℕ). take n (own ++ others)) long ∙ take-append_seam own others in
      let rest : drop (length (numbered numbers draft.lines)) (own ++ others) ≡ others = ap (λ (n : ℕ). drop n (own ++ others)) long ∙ drop-append_seam own others in
      let left = parts_read tile.parts draft.lines zip.0.parts (all_left (λ entries. entries_in (spelled entries) ≡ entries) (filter_map fresh_of tile.parts) (filter_map fresh_of (parts_of tiles)) both) in
      let here : TileHolds (tile_of draft numbers) own = subst (TileHolds (tile_of draft numbers)) (sym left) (holds_again tile draft numbers (pages_left (map entries_in bytes) tile) zip.0.lo zip.0.hi (All-head IsHeld tile tiles held)) in
      let more = tiles_hold behind tiles drafts zip.1 (All-tail IsHeld tile tiles held) (all_right (λ entries. entries_in (spelled entries) ≡ entries) (filter_map fresh_of tile.parts) (filter_map fresh_of (parts_of tiles)) both) in
      subst (TilesHold (tiles_with numbers (draft ∷ drafts))) (sym split) (subst (TileHolds (tile_of draft numbers)) (sym first) here, subst (TilesHold (tiles_with behind drafts)) (sym rest) more)

pub left_agrees : (tiles : List TileLine) (bytes : List (List ℕ)) (swept : SweptFile) (draft : SweptDraft) (numbers : List ℕ) → FileAgrees tiles bytes → AreHeld (map entries_in bytes) swept
    → AllZip (IsTileFor (lines_of tiles)) swept.tiles draft.tiles → AreRead (fresh_in swept) → FileAgrees (tiles_with numbers draft.tiles) (bytes_left bytes swept)
left_agrees tiles bytes swept draft numbers agrees held each read = record {
  pages = tiles_agree (lines_of tiles) bytes agrees.pages numbers swept.tiles draft.tiles each;
  tiles = tiles_hold (lines_of tiles) bytes agrees.pages numbers swept.tiles draft.tiles each held read;
}
