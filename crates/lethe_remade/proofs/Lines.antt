-- The lines of a draft, once its new pages have numbers: own lines of the file, and new ones.
use Rattle.std.proofs.Common.{◌≡◌, ◌≢◌, ◌⊎◌, inl, inr, ℕ, suc, ◌<◌, List, [], ◌∷◌, ◌++◌, Some, length, drop, get_or, slice_get, AllPairs, Contains, refl, sym, ap, ◌∙◌, subst, arith}
use Rattle.std.specs.Prelude.{filter_map, flat_map}
use Rattle.std.specs.List.{AllZip}
use Rattle.std.proofs.Math.Seq.{drop-nil}
use Rattle.std.proofs.lemmas.List.Elements.{filter_map-append}
use Rattle.std.proofs.lemmas.Option.{get_or_from_slice_get, slice_get_within}
use Rattle.lethe_base.proofs.LayoutLaws.{none_in}
use Rattle.lethe_base.proofs.Newest.{first_is, first_or_rest}
use Rattle.lethe_build.specs.Drafts.{with_number}
use Rattle.lethe_cover.proofs.Lists.{Pairs, in_rest}
use Rattle.lethe_header.specs.Facts.{lines_of}
use Rattle.lethe_header.specs.declared.header.PageLine.{PageLine}
use Rattle.lethe_swept.specs.Drafts.{IsLineFor, IsTileFor, new_in, new_line, numbered, tiles_with}
use Rattle.lethe_swept.specs.Left.{place_of}
use Rattle.lethe_swept.specs.declared.draft.DraftLine.{DraftLine}
use Rattle.lethe_swept.specs.declared.draft.DraftLine.TheVariants.{Own, New}
use Rattle.lethe_swept.specs.declared.draft.DraftTile.{DraftTile}
use Rattle.lethe_swept.specs.declared.part.Part.{Part}
use Rattle.lethe_swept.specs.declared.part.Part.TheVariants.{Kept, Fresh}
use Rattle.lethe_swept.specs.declared.part.SweptTile.{SweptTile}
use Rattle.lethe_remade.proofs.Places.{IsBefore}

-- All lines, one tile after another

abbrev pub drafted : List DraftTile → List DraftLine
drafted tiles = flat_map (λ (tile : DraftTile). tile.lines) tiles

numbered_append : (numbers : List ℕ) (some others : List DraftLine)
    → numbered numbers (some ++ others) ≡ numbered numbers some ++ numbered (drop (length (filter_map new_line some)) numbers) others
numbered_append numbers [] others = refl
numbered_append numbers (Own line ∷ some) others = ap (λ (lines : List PageLine). line ∷ lines) (numbered_append numbers some others)
numbered_append [] (New line ∷ some) others =
    let count = length (filter_map new_line some) in
    let none : ◌≡◌ {A = List ℕ} (drop count []) (drop (suc count) []) = drop-nil {A = ℕ} count ∙ sym (drop-nil {A = ℕ} (suc count)) in
    ap (λ (lines : List PageLine). line ∷ lines) (numbered_append [] some others ∙ ap (λ (left : List ℕ). numbered [] some ++ numbered left others) none)
numbered_append (number ∷ numbers) (New line ∷ some) others = ap (λ (lines : List PageLine). with_number (number, line) ∷ lines) (numbered_append numbers some others)

pub lines_flat : (numbers : List ℕ) (tiles : List DraftTile) → lines_of (tiles_with numbers tiles) ≡ numbered numbers (drafted tiles)
lines_flat numbers [] = refl
lines_flat numbers (tile ∷ tiles) =
    ap (λ (lines : List PageLine). numbered numbers tile.lines ++ lines) (lines_flat (drop (length (new_in tile)) numbers) tiles)
    ∙ sym (numbered_append numbers tile.lines (drafted tiles))

pub new_flat : (tiles : List DraftTile) → flat_map new_in tiles ≡ filter_map new_line (drafted tiles)
new_flat [] = refl
new_flat (tile ∷ tiles) = ap (λ (lines : List PageLine). new_in tile ++ lines) (new_flat tiles) ∙ sym (filter_map-append new_line tile.lines (drafted tiles))

zip_append : {A B : Type 0} (R : A → B → Type 0) (xs xs' : List A) (ys ys' : List B) → AllZip R xs ys → AllZip R xs' ys' → AllZip R (xs ++ xs') (ys ++ ys')
zip_append R [] xs' [] ys' zip more = more
zip_append R [] xs' (y ∷ ys) ys' zip more = absurd zip
zip_append R (x ∷ xs) xs' [] ys' zip more = absurd zip
zip_append R (x ∷ xs) xs' (y ∷ ys) ys' zip more = (zip.0, zip_append R xs xs' ys ys' zip.1 more)

pub parts_flat : (lines : List PageLine) (tiles : List SweptTile) (drafts : List DraftTile) → AllZip (IsTileFor lines) tiles drafts
    → AllZip (IsLineFor lines) (flat_map (λ (tile : SweptTile). tile.parts) tiles) (drafted drafts)
parts_flat lines [] [] each = tt
parts_flat lines [] (draft ∷ drafts) each = absurd each
parts_flat lines (tile ∷ tiles) [] each = absurd each
parts_flat lines (tile ∷ tiles) (draft ∷ drafts) each =
    zip_append (IsLineFor lines) tile.parts (flat_map (λ (tile : SweptTile). tile.parts) tiles) draft.lines (drafted drafts) each.0.parts (parts_flat lines tiles drafts each.1)

-- Where a line is from

-- the line is that of a page that stays, or has one of the numbers
abbrev pub IsFrom : List PageLine → List ℕ → List ℕ → PageLine → Type 0
IsFrom lines places numbers line = ((place : ℕ) × Contains places place × (slice_get lines place ≡ Some line)) ⊎ Contains numbers line.no

module _ (lines : List PageLine) where
  later_place : (place : ℕ) (places numbers : List ℕ) (line : PageLine) → IsFrom lines places numbers line → IsFrom lines (place ∷ places) numbers line
  later_place place places numbers line (inl own) = inl (own.0, in_rest place places own.0 own.1, own.2)
  later_place place places numbers line (inr new) = inr new

  later_number : (number : ℕ) (places numbers : List ℕ) (line : PageLine) → IsFrom lines places numbers line → IsFrom lines places (number ∷ numbers) line
  later_number number places numbers line (inl own) = inl own
  later_number number places numbers line (inr new) = inr (in_rest number numbers line.no new)

  pub from : (numbers : List ℕ) (parts : List Part) (drafts : List DraftLine) → AllZip (IsLineFor lines) parts drafts → length numbers ≡ length (filter_map new_line drafts)
      → (line : PageLine) → Contains (numbered numbers drafts) line → IsFrom lines (filter_map place_of parts) numbers line
  from numbers [] [] zip long line there = absurd (none_in line there)
  from numbers [] (draft ∷ drafts) zip long line there = absurd zip
  from numbers (part ∷ parts) [] zip long line there = absurd zip
  from numbers (Kept place ∷ parts) (Own own ∷ drafts) zip long line there =
      let places = filter_map place_of parts in
      elim (first_or_rest own (numbered numbers drafts) line there) [
        | inl same ↦ inl (place, first_is place places place refl, subst (λ (l : PageLine). slice_get lines place ≡ Some l) same zip.0)
        | inr rest ↦ later_place place places numbers line (from numbers parts drafts zip.1 long line rest)
      ]
  from numbers (Kept place ∷ parts) (New own ∷ drafts) zip long line there = absurd zip.0
  from numbers (Fresh entries ∷ parts) (Own own ∷ drafts) zip long line there = absurd zip.0
  from [] (Fresh entries ∷ parts) (New own ∷ drafts) zip long line there = absurd (omega (arith, long))
  from (number ∷ numbers) (Fresh entries ∷ parts) (New own ∷ drafts) zip long line there =
      elim (first_or_rest (with_number (number, own)) (numbered numbers drafts) line there) [
        | inl same ↦ inr (first_is number numbers line.no (ap (λ (l : PageLine). l.no) same))
        | inr rest ↦ later_number number (filter_map place_of parts) numbers line (from numbers parts drafts zip.1 (omega (arith, long)) line rest)
      ]

-- Numbers that differ

abbrev pub AreApart : PageLine → PageLine → Type 0
AreApart a b = a.no ≢ b.no

abbrev pub Differ : ℕ → ℕ → Type 0
Differ a b = a ≢ b

pub is_there : (lines : List PageLine) (place : ℕ) (line : PageLine) → slice_get lines place ≡ Some line → Contains lines line
is_there lines place line is = (place, slice_get_within lines place line is, get_or_from_slice_get lines place line line is)

own_apart : (lines : List PageLine) → AllPairs AreApart lines → (i j : ℕ) (a b : PageLine) → i < j
    → slice_get lines i ≡ Some a → slice_get lines j ≡ Some b → AreApart a b
own_apart lines apart i j a b before one two =
    subst (λ (l : PageLine). AreApart l b) (get_or_from_slice_get lines i a a one)
    (subst (λ (l : PageLine). AreApart (get_or lines i a) l) (get_or_from_slice_get lines j b a two) (apart i j a before (slice_get_within lines j b two)))

-- own lines have numbers that are cited, and differ
module _ (lines : List PageLine) (apart : AllPairs AreApart lines) (Cited : ℕ → Type 0) (cited : (line : PageLine) → Contains lines line → Cited line.no) where
  pub lines_apart : (numbers : List ℕ) (parts : List Part) (drafts : List DraftLine) → AllZip (IsLineFor lines) parts drafts
      → length numbers ≡ length (filter_map new_line drafts) → Pairs IsBefore (filter_map place_of parts) → Pairs Differ numbers
      → ((number : ℕ) → Contains numbers number → Cited number → ⊥) → Pairs AreApart (numbered numbers drafts)
  lines_apart numbers [] [] zip long rise differ new = tt
  lines_apart numbers [] (draft ∷ drafts) zip long rise differ new = absurd zip
  lines_apart numbers (part ∷ parts) [] zip long rise differ new = absurd zip
  lines_apart numbers (Kept place ∷ parts) (Own own ∷ drafts) zip long rise differ new = (
    (λ line there. elim (from lines numbers parts drafts zip.1 long line there) [
      | inl other ↦ own_apart lines apart place other.0 own line (rise.0 other.0 other.1) zip.0 other.2
      | inr made ↦ λ same. new line.no made (subst Cited same (cited own (is_there lines place own zip.0)))
    ]),
    lines_apart numbers parts drafts zip.1 long rise.1 differ new,
  )
  lines_apart numbers (Kept place ∷ parts) (New own ∷ drafts) zip long rise differ new = absurd zip.0
  lines_apart numbers (Fresh entries ∷ parts) (Own own ∷ drafts) zip long rise differ new = absurd zip.0
  lines_apart [] (Fresh entries ∷ parts) (New own ∷ drafts) zip long rise differ new = absurd (omega (arith, long))
  lines_apart (number ∷ numbers) (Fresh entries ∷ parts) (New own ∷ drafts) zip long rise differ new = (
    (λ line there. elim (from lines numbers parts drafts zip.1 (omega (arith, long)) line there) [
      | inl other ↦ λ same. new number (first_is number numbers number refl) (subst Cited (sym same) (cited line (is_there lines other.0 line other.2)))
      | inr made ↦ differ.0 line.no made
    ]),
    lines_apart numbers parts drafts zip.1 (omega (arith, long)) rise differ.1 (λ other there. new other (in_rest number numbers other there)),
  )
