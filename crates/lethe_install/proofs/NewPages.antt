-- The pages of what is stored next that weren't stored before.
use Rattle.std.proofs.Common.{◌≡◌, ◌++◌, ℕ, Bool, true, false, cond, not, List, [], ◌∷◌, append-nil, length, map, Contains, refl, ap, ◌∙◌, subst, arith}
use Rattle.std.specs.Prelude.{filter, filter_map, flat_map}
use Rattle.std.specs.List.{AllZip}
use Rattle.std.proofs.lemmas.List.{map-append}
use Rattle.std.proofs.lemmas.List.Concat.{flat_map-append}
use Rattle.std.proofs.lemmas.List.Elements.{All-contains, filter-append}
use Rattle.std.proofs.lemmas.List.Folds.{Any-from_list_any, list_any-from_Any}
use Rattle.lethe_advance.proofs.Lists.{filter_all}
use Rattle.lethe_base.specs.Names.{name_eq}
use Rattle.lethe_base.specs.declared.name.Name.{Name}
use Rattle.lethe_cover.proofs.Common.{first_is}
use Rattle.lethe_cover.proofs.Lists.{all_from, flat_from, flat_in, in_map, in_rest, map_from}
use Rattle.lethe_file.specs.Agreement.{page_name}
use Rattle.lethe_file.proofs.Joined.{filter_none}
use Rattle.lethe_header.specs.declared.header.PageLine.{PageLine}
use Rattle.lethe_remade.proofs.Lines.{is_there}
use Rattle.lethe_stored.specs.Files.{StoredFile, IsFile, file_name, lines_in, objects_in}
use Rattle.lethe_stored.specs.Stored.{IsCoherent, Stored, part_names}
use Rattle.lethe_stored.proofs.Parts.{object_part}
use Rattle.lethe_swept.specs.Drafts.{IsLineFor, new_line, numbered}
use Rattle.lethe_swept.specs.declared.draft.DraftLine.{DraftLine}
use Rattle.lethe_swept.specs.declared.draft.DraftLine.TheVariants.{Own, New}
use Rattle.lethe_swept.specs.declared.part.Part.{Part}
use Rattle.lethe_swept.specs.declared.part.Part.TheVariants.{Kept, Fresh}
use Rattle.lethe_install.specs.Left.{is_among}
use Rattle.lethe_install.specs.Outcomes.{new_names, page_names}
use Rattle.lethe_install.proofs.Named.{line_name, name_in, name_self, names_are}
use Rattle.lethe_install.proofs.Parted.{same_name}

pages_append : (a b : List StoredFile) → page_names (a ++ b) ≡ page_names a ++ page_names b
pages_append a b = ap (map line_name) (flat_map-append lines_in a b) ∙ map-append line_name (flat_map lines_in a) (flat_map lines_in b)

module _ (s : Stored) where
  abbrev is_new : Name → Bool
  is_new name = not (is_among (page_names s.files) name)

  pub page_old : (file : StoredFile) → Contains s.files file → (line : PageLine) → Contains (lines_in file) line → is_new (line_name line) ≡ false
  page_old file there line own =
      let name = in_map line_name (flat_map lines_in s.files) line (flat_in lines_in s.files file line there own) in
      ap not (list_any-from_Any (λ (other : Name). name_eq other (line_name line)) (page_names s.files) (name.0, line_name line, name.1, name.2, name_self (line_name line)))

  none_new : (files : List StoredFile) → ((file : StoredFile) → Contains files file → Contains s.files file) → new_names s files ≡ []
  none_new files there = filter_none is_new (page_names files) (all_from (λ name. is_new name ≡ false) (page_names files) (λ name inside.
      let line = map_from line_name (flat_map lines_in files) name inside in
      let file = flat_from lines_in files line.0 line.1 in
      subst (λ name. is_new name ≡ false) line.2 (page_old file.0 (there file.0 file.1) line.0 file.2)))

  new_append : (a b : List StoredFile) → new_names s (a ++ b) ≡ new_names s a ++ new_names s b
  new_append a b = ap (filter is_new) (pages_append a b) ∙ filter-append is_new (page_names a) (page_names b)

  -- between files that were stored before
  pub new_between : (low made high : List StoredFile) → ((file : StoredFile) → Contains low file → Contains s.files file)
      → ((file : StoredFile) → Contains high file → Contains s.files file) → new_names s (low ++ (made ++ high)) ≡ new_names s made
  new_between low made high of_low of_high =
      new_append low (made ++ high)
      ∙ (λ i. none_new low of_low i ++ new_append made high i)
      ∙ ap (λ (l : List Name). new_names s made ++ l) (none_new high of_high)
      ∙ append-nil (new_names s made)

  module _ (coherent : IsCoherent s) where
    page_part : (file : StoredFile) → Contains s.files file → (line : PageLine) → Contains (lines_in file) line → Contains (part_names s) (line_name line)
    page_part file there line own =
        let its = in_rest (file_name file.header.no) (map line_name (lines_in file)) (line_name line) (in_map line_name (lines_in file) line own) in
        let file_is = All-contains (IsFile s.manifest.next) s.files file coherent.each there in
        let named = map_from name_in (objects_in file) (line_name line) (subst (λ l. Contains l (line_name line)) (names_are s.manifest.next file file_is) its) in
        subst (Contains (part_names s)) named.2 (object_part s named.0 (flat_in objects_in s.files file named.0 there named.1))

    -- a page that isn't cited
    pub page_new : (n : ℕ) → (Contains (part_names s) (page_name n) → ⊥) → is_new (page_name n) ≡ true
    page_new n uncited = by (is_among (page_names s.files) (page_name n)) refl
      where
        by : (b : Bool) → is_among (page_names s.files) (page_name n) ≡ b → is_new (page_name n) ≡ true
        by true is =
            let any = Any-from_list_any (λ (other : Name). name_eq other (page_name n)) (page_names s.files) is in
            let name = subst (Contains (page_names s.files)) (same_name any.1 (page_name n) any.4) (any.0, any.2, any.3) in
            let line = map_from line_name (flat_map lines_in s.files) (page_name n) name in
            let file = flat_from lines_in s.files line.0 line.1 in
            absurd (uncited (subst (Contains (part_names s)) line.2 (page_part file.0 file.1 line.0 file.2)))
        by false is = ap not is

    -- where no page is cited all are new
    pub all_new : (made : List StoredFile) → ((line : PageLine) → Contains (flat_map lines_in made) line → Contains (part_names s) (page_name line.no) → ⊥) → new_names s made ≡ page_names made
    all_new made uncited = filter_all is_new (page_names made) (all_from (λ name. is_new name ≡ true) (page_names made) (λ name inside.
        let line = map_from line_name (flat_map lines_in made) name inside in
        subst (λ name. is_new name ≡ true) line.2 (page_new line.0.no (uncited line.0 line.1))))

  skipped : (x : Name) (xs : List Name) → is_new x ≡ false → filter is_new (x ∷ xs) ≡ filter is_new xs
  skipped x xs old = ap (λ (b : Bool). cond b (x ∷ filter is_new xs) (filter is_new xs)) old

  taken : (x : Name) (xs : List Name) → is_new x ≡ true → filter is_new (x ∷ xs) ≡ x ∷ filter is_new xs
  taken x xs new = ap (λ (b : Bool). cond b (x ∷ filter is_new xs) (filter is_new xs)) new

  -- of the lines of a draft those with numbers
  module _ (own : List PageLine) (old : (line : PageLine) → Contains own line → is_new (line_name line) ≡ false) where
    pub numbered_new : (numbers : List ℕ) (parts : List Part) (lines : List DraftLine) → AllZip (IsLineFor own) parts lines → length numbers ≡ length (filter_map new_line lines)
        → ((n : ℕ) → Contains numbers n → is_new (page_name n) ≡ true) → filter is_new (map line_name (numbered numbers lines)) ≡ map page_name numbers
    numbered_new [] [] [] zip long new = refl
    numbered_new (n ∷ ns) [] [] zip long new = absurd (omega (arith, long))
    numbered_new numbers [] (line ∷ lines) zip long new = absurd zip
    numbered_new numbers (part ∷ parts) [] zip long new = absurd zip
    numbered_new numbers (Kept place ∷ parts) (Own line ∷ lines) zip long new =
        skipped (line_name line) (map line_name (numbered numbers lines)) (old line (is_there own place line zip.0)) ∙ numbered_new numbers parts lines zip.1 long new
    numbered_new numbers (Kept place ∷ parts) (New line ∷ lines) zip long new = absurd zip.0
    numbered_new numbers (Fresh entries ∷ parts) (Own line ∷ lines) zip long new = absurd zip.0
    numbered_new [] (Fresh entries ∷ parts) (New line ∷ lines) zip long new = absurd (omega (arith, long))
    numbered_new (n ∷ ns) (Fresh entries ∷ parts) (New line ∷ lines) zip long new =
        taken (page_name n) (map line_name (numbered ns lines)) (new n (first_is n ns n refl))
        ∙ ap (λ (l : List Name). page_name n ∷ l) (numbered_new ns parts lines zip.1 (omega (arith, long)) (λ m there. new m (in_rest n ns m there)))
