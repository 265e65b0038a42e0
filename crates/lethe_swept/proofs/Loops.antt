-- Loops that make the lines of a draft, one after another.
use Rattle.std.proofs.Common.{◌≡◌, ℕ, List, [], ◌∷◌, ◌++◌, length, map, refl, ◌∙◌, ap, sym, subst, append-nil, append_assoc}
use Rattle.std.specs.Prelude.{filter_map, flat_map}
use Rattle.std.specs.List.{AllZip}
use Rattle.std.proofs.lemmas.List.{map-append}
use Rattle.std.proofs.lemmas.List.Elements.{filter_map-append}
use Rattle.lethe_tile.proofs.Pages.{IsGoing, going_all, going_more, going_none}
use Rattle.lethe_tile.proofs.Parts.{empty_is}
use Rattle.lethe_header.specs.declared.header.PageLine.{PageLine}
use Rattle.lethe_build.specs.Built.{spelled}
use Rattle.lethe_swept.specs.Drafts.{IsLineFor, IsTileFor, spelled_in}
use Rattle.lethe_swept.specs.Left.{fresh_of}
use Rattle.lethe_swept.specs.declared.draft.DraftLine.{DraftLine}
use Rattle.lethe_swept.specs.declared.draft.DraftTile.{DraftTile}
use Rattle.lethe_swept.specs.declared.part.Part.{Part}
use Rattle.lethe_swept.specs.declared.part.Part.TheVariants.{Kept, Fresh}
use Rattle.lethe_swept.specs.declared.part.SweptTile.{SweptTile}

-- the bytes of the new pages among these
abbrev pub new_bytes : List Part → List (List ℕ)
new_bytes parts = map spelled (filter_map fresh_of parts)

bytes_first : (part : Part) (parts : List Part) → new_bytes (part ∷ parts) ≡ spelled_in part ++ new_bytes parts
bytes_first (Kept place) parts = refl
bytes_first (Fresh entries) parts = refl

bytes_append : (parts more : List Part) → new_bytes (parts ++ more) ≡ new_bytes parts ++ new_bytes more
bytes_append parts more = ap (map spelled) (filter_map-append fresh_of parts more) ∙ map-append spelled (filter_map fresh_of parts) (filter_map fresh_of more)

-- ---- the parts of a tile

-- the parts so far have their lines, and the bytes of their new pages stand behind those of the tiles before
pub record ArePartsDrafted (lines : List PageLine) (old : List (List ℕ)) (whole rest : List Part) (drafts : List DraftLine) (pages : List (List ℕ)) : Type 0 where
  pub going : IsGoing (IsLineFor lines) whole rest drafts
  pub bytes : pages ++ new_bytes rest ≡ old ++ new_bytes whole

pub parts_none : (lines : List PageLine) (old : List (List ℕ)) (whole : List Part) → ArePartsDrafted lines old whole whole [] old
parts_none lines old whole = record { going = going_none (IsLineFor lines) whole; bytes = refl }

pub parts_more : (lines : List PageLine) (old : List (List ℕ)) (whole rest : List Part) (drafts : List DraftLine) (pages now : List (List ℕ)) (part : Part) (draft : DraftLine)
    → ArePartsDrafted lines old whole (part ∷ rest) drafts pages → IsLineFor lines part draft → now ≡ pages ++ spelled_in part → ArePartsDrafted lines old whole rest (drafts ++ draft ∷ []) now
parts_more lines old whole rest drafts pages now part draft so_far is put = record {
  going = going_more (IsLineFor lines) whole rest drafts part draft so_far.going is;
  bytes =
      ap (λ (l : List (List ℕ)). l ++ new_bytes rest) put
      ∙ append_assoc pages (spelled_in part) (new_bytes rest)
      ∙ ap (λ (l : List (List ℕ)). pages ++ l) (sym (bytes_first part rest))
      ∙ so_far.bytes;
}

-- the loop has ended
module _ (lines : List PageLine) (old : List (List ℕ)) (whole rest : List Part) (drafts : List DraftLine) (pages : List (List ℕ)) (none : length rest ≡ 0) (so_far : ArePartsDrafted lines old whole rest drafts pages) where
  parts_end : ArePartsDrafted lines old whole [] drafts pages
  parts_end = subst (λ (left : List Part). ArePartsDrafted lines old whole left drafts pages) (empty_is rest none) so_far

  pub all_parts : AllZip (IsLineFor lines) whole drafts
  all_parts = going_all (IsLineFor lines) whole drafts parts_end.going

  pub all_bytes : pages ≡ old ++ new_bytes whole
  all_bytes = sym (append-nil pages) ∙ parts_end.bytes

-- ---- the tiles of a file

abbrev pub parts_of : List SweptTile → List Part
parts_of tiles = flat_map (λ tile. tile.parts) tiles

-- the tiles so far have their lines, and the bytes of all their new pages are there
pub record AreTilesDrafted (lines : List PageLine) (whole rest : List SweptTile) (drafts : List DraftTile) (pages : List (List ℕ)) : Type 0 where
  pub going : IsGoing (IsTileFor lines) whole rest drafts
  pub bytes : pages ++ new_bytes (parts_of rest) ≡ new_bytes (parts_of whole)

pub tiles_none : (lines : List PageLine) (whole : List SweptTile) → AreTilesDrafted lines whole whole [] []
tiles_none lines whole = record { going = going_none (IsTileFor lines) whole; bytes = refl }

pub tiles_more : (lines : List PageLine) (whole rest : List SweptTile) (drafts : List DraftTile) (pages now : List (List ℕ)) (tile : SweptTile) (draft : DraftTile)
    → AreTilesDrafted lines whole (tile ∷ rest) drafts pages → IsTileFor lines tile draft → now ≡ pages ++ new_bytes tile.parts → AreTilesDrafted lines whole rest (drafts ++ draft ∷ []) now
tiles_more lines whole rest drafts pages now tile draft so_far is put = record {
  going = going_more (IsTileFor lines) whole rest drafts tile draft so_far.going is;
  bytes =
      ap (λ (l : List (List ℕ)). l ++ new_bytes (parts_of rest)) put
      ∙ append_assoc pages (new_bytes tile.parts) (new_bytes (parts_of rest))
      ∙ ap (λ (l : List (List ℕ)). pages ++ l) (sym (bytes_append tile.parts (parts_of rest)))
      ∙ so_far.bytes;
}

-- the loop has ended
module _ (lines : List PageLine) (whole rest : List SweptTile) (drafts : List DraftTile) (pages : List (List ℕ)) (none : length rest ≡ 0) (so_far : AreTilesDrafted lines whole rest drafts pages) where
  tiles_end : AreTilesDrafted lines whole [] drafts pages
  tiles_end = subst (λ (left : List SweptTile). AreTilesDrafted lines whole left drafts pages) (empty_is rest none) so_far

  pub all_tiles : AllZip (IsTileFor lines) whole drafts
  all_tiles = going_all (IsTileFor lines) whole drafts tiles_end.going

  pub all_pages : pages ≡ new_bytes (parts_of whole)
  all_pages = sym (append-nil pages) ∙ tiles_end.bytes
