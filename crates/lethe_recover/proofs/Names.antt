-- Names that are listed one after the other.
use Rattle.std.proofs.Common.{◌≡◌, ℕ, ◌+◌, ◌<◌, Bool, true, false, not, cond, List, [], ◌∷◌, ◌++◌, length, map, filter, get_or, take, sym, ap, ◌∙◌, append_assoc}
use Rattle.std.proofs.lemmas.List.{append-nil, map-append, take_more}
use Rattle.std.proofs.lemmas.List.Elements.{filter-append}
use Rattle.lethe_base.specs.declared.name.Name.{Name}
use Rattle.lethe_header.specs.Facts.{lines_of}
use Rattle.lethe_header.specs.declared.header.PageLine.{PageLine}
use Rattle.lethe_header.specs.declared.header.TileLine.{TileLine}
use Rattle.lethe_version.proofs.Opened.{lines_more}
use Rattle.lethe_recover.specs.Cited.{line_name}

-- those of the pages of one tile more
pub tile_more : (old now new : List Name) (tiles : List TileLine) (i : ℕ) (tile : TileLine) (lines : List PageLine) → i < length tiles → tile ≡ get_or tiles i tile → lines ≡ tile.pages
    → new ≡ now ++ map line_name lines → now ≡ old ++ map line_name (lines_of (take i tiles)) → new ≡ old ++ map line_name (lines_of (take (i + 1) tiles))
tile_more old now new tiles i tile lines lt is own pushed so_far =
    pushed ∙ (λ k. so_far k ++ map line_name (own k)) ∙ append_assoc old (map line_name (lines_of (take i tiles))) (map line_name tile.pages)
    ∙ ap (λ l. old ++ l) (sym (map-append line_name (lines_of (take i tiles)) tile.pages) ∙ ap (map line_name) (sym (lines_more tiles i tile lt is)))

-- One name more of a list, of which those are dropped that are in a set

module _ (test : Name → Bool) where
  abbrev out : Name → Bool
  out name = not (test name)

  pub filter_kept : (names rest new : List Name) (i : ℕ) (d : Name) → i < length names → test (get_or names i d) ≡ false → rest ≡ filter (λ name. not (test name)) (take i names) → new ≡ rest ++ get_or names i d ∷ []
      → new ≡ filter (λ name. not (test name)) (take (i + 1) names)
  filter_kept names rest new i d lt is so_far pushed =
      let name = get_or names i d in
      let one : filter out (name ∷ []) ≡ name ∷ [] = ap (λ b. cond (not b) (name ∷ []) []) is in
      pushed ∙ ap (λ l. l ++ name ∷ []) so_far ∙ ap (λ l. filter out (take i names) ++ l) (sym one) ∙ sym (filter-append out (take i names) (name ∷ [])) ∙ ap (filter out) (sym (take_more names i d lt))

  pub filter_dropped : (names rest new : List Name) (i : ℕ) (d : Name) → i < length names → test (get_or names i d) ≡ true → rest ≡ filter (λ name. not (test name)) (take i names) → new ≡ rest
      → new ≡ filter (λ name. not (test name)) (take (i + 1) names)
  filter_dropped names rest new i d lt is so_far same =
      let name = get_or names i d in
      let none : filter out (name ∷ []) ≡ [] = ap (λ b. cond (not b) (name ∷ []) []) is in
      same ∙ so_far ∙ sym (append-nil (filter out (take i names))) ∙ ap (λ l. filter out (take i names) ++ l) (sym none) ∙ sym (filter-append out (take i names) (name ∷ [])) ∙ ap (filter out) (sym (take_more names i d lt))
