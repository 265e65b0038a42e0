-- Loops that make lines and drafts, one after another.
use Rattle.std.proofs.Common.{◌≡◌, ℕ, ◌+◌, List, [], ◌∷◌, ◌++◌, length, map, All, refl, ◌∙◌, ap, sym, subst, append_assoc, arith}
use Rattle.std.specs.Prelude.{sum_by}
use Rattle.std.specs.List.{AllZip}
use Rattle.std.proofs.lemmas.List.{length-map, map-append}
use Rattle.std.proofs.lemmas.List.Elements.{All-cons, All-nil}
use Rattle.lethe_base.specs.Layout as layout
use Rattle.lethe_base.specs.declared.entry.Entry.{Entry}
use Rattle.lethe_tile.proofs.Pages.{IsGoing, going_all, going_more, going_none}
use Rattle.lethe_tile.proofs.Parts.{empty_is}
use Rattle.lethe_header.specs.declared.header.PageLine.{PageLine}
use Rattle.lethe_header.specs.declared.header.TileLine.{TileLine}
use Rattle.lethe_build.specs.Built.{pages_of, spelled}
use Rattle.lethe_build.specs.Drafts.{IsDraft, IsDraftOf, numbers_for}
use Rattle.lethe_build.specs.Parts.{IsLineOf, IsTileLineOf}
use Rattle.lethe_build.specs.declared.draft.Draft.{Draft}
use Rattle.lethe_build.proofs.TileLines.{zip_sum}

-- ---- the pages of a tile

-- the pages so far have their lines, and their bytes stand behind those of the tiles before
pub record AreTold (old : List (List ℕ)) (whole rest : List (List Entry)) (lines : List PageLine) (pages : List (List ℕ)) : Type 0 where
  pub going : IsGoing IsLineOf whole rest lines
  pub bytes : pages ++ map spelled rest ≡ old ++ map spelled whole

pub told_none : (old : List (List ℕ)) (whole : List (List Entry)) → AreTold old whole whole [] old
told_none old whole = record { going = going_none IsLineOf whole; bytes = refl }

pub told_more : (old : List (List ℕ)) (whole rest : List (List Entry)) (lines : List PageLine) (pages : List (List ℕ)) (page : List Entry) (line : PageLine)
    → AreTold old whole (page ∷ rest) lines pages → IsLineOf page line → AreTold old whole rest (lines ++ line ∷ []) (pages ++ spelled page ∷ [])
told_more old whole rest lines pages page line told is = record {
  going = going_more IsLineOf whole rest lines page line told.going is;
  bytes = append_assoc pages (spelled page ∷ []) (map spelled rest) ∙ told.bytes;
}

-- ---- the tiles of a file

pub record AreJoined (whole rest : List layout.Tile) (lines : List TileLine) (pages : List (List ℕ)) : Type 0 where
  pub going : IsGoing IsTileLineOf whole rest lines
  pub bytes : pages ++ map spelled (pages_of rest) ≡ map spelled (pages_of whole)

pub joined_none : (whole : List layout.Tile) → AreJoined whole whole [] []
joined_none whole = record { going = going_none IsTileLineOf whole; bytes = refl }

pub joined_more : (whole rest : List layout.Tile) (lines : List TileLine) (pages new : List (List ℕ)) (tile : layout.Tile) (line : TileLine)
    → AreJoined whole (tile ∷ rest) lines pages → IsTileLineOf tile line → new ≡ pages ++ map spelled tile.pages → AreJoined whole rest (lines ++ line ∷ []) new
joined_more whole rest lines pages new tile line made is bytes = record {
  going = going_more IsTileLineOf whole rest lines tile line made.going is;
  bytes =
      ap (λ (l : List (List ℕ)). l ++ map spelled (pages_of rest)) bytes
      ∙ append_assoc pages (map spelled tile.pages) (map spelled (pages_of rest))
      ∙ ap (λ (l : List (List ℕ)). pages ++ l) (sym (map-append spelled tile.pages (pages_of rest)))
      ∙ made.bytes;
}

-- ---- the drafts

-- how many numbers the file of these tiles takes
abbrev pub group_numbers : List layout.Tile → ℕ
group_numbers tiles = length (pages_of tiles) + 1

numbers_same : (tiles : List layout.Tile) (draft : Draft) → IsDraftOf tiles draft → numbers_for draft ≡ group_numbers tiles
numbers_same tiles draft is = omega (arith, ap length is.pages, length-map (pages_of tiles) spelled)

-- the loop has ended
pub all_drafted : {X : Type 0} (f : X → List layout.Tile) (whole : List (List layout.Tile)) (rest : List X) (drafts : List Draft) → length rest ≡ 0 → IsGoing IsDraftOf whole (map f rest) drafts → AllZip IsDraftOf whole drafts
all_drafted {X} f whole rest drafts none going = going_all IsDraftOf whole drafts (subst (λ (left : List X). IsGoing IsDraftOf whole (map f left) drafts) (empty_is rest none) going)

pub drafts_numbers : (groups : List (List layout.Tile)) (drafts : List Draft) → AllZip IsDraftOf groups drafts → sum_by numbers_for drafts ≡ sum_by group_numbers groups
drafts_numbers groups drafts zip = zip_sum IsDraftOf group_numbers numbers_for numbers_same groups drafts zip

pub are_drafts : (groups : List (List layout.Tile)) (drafts : List Draft) → AllZip IsDraftOf groups drafts → All IsDraft drafts
are_drafts [] [] zip = All-nil IsDraft
are_drafts [] (d ∷ ds) zip = absurd zip
are_drafts (g ∷ gs) [] zip = absurd zip
are_drafts (g ∷ gs) (d ∷ ds) zip = All-cons IsDraft d ds zip.0.is (are_drafts gs ds zip.1)
