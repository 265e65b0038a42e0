-- The pages of stored files are objects that are cited.
use Rattle.std.proofs.Common.{inl, inr, ℕ, List, [], ◌∷◌, refl, subst}
use Rattle.std.specs.Prelude.{Contains, flat_map, zip}
use Rattle.std.specs.List.{AllZip}
use Rattle.std.proofs.lemmas.List.Elements.{All-contains}
use Rattle.lethe_base.specs.declared.name.Name.{Name}
use Rattle.lethe_base.proofs.LayoutLaws.{none_in}
use Rattle.lethe_base.proofs.Newest.{first_is, first_or_rest}
use Rattle.lethe_cover.proofs.Lists.{flat_from, flat_in, in_map, in_rest, map_from}
use Rattle.lethe_file.specs.Agreement.{Agrees, page_name}
use Rattle.lethe_header.specs.declared.header.PageLine.{PageLine}
use Rattle.lethe_stored.specs.Files.{IsFile, StoredFile, lines_in, objects_in, objects_of}
use Rattle.lethe_stored.specs.Stored.{IsCited, IsCoherent, Stored}
use Rattle.lethe_stored.proofs.Parts.{object_part}
use Rattle.lethe_core.specs.Pinned.{pages_in}

-- of two lists that agree one by one: the pair of one on the left
zip_pair : {X Y : Type 0} (R : X → Y → Type 0) (xs : List X) (ys : List Y) (x : X) → AllZip R xs ys → Contains xs x → (y : Y) × Contains (zip xs ys) (x, y) × Contains ys y × R x y
zip_pair R [] [] x agree there = absurd (none_in x there)
zip_pair R [] (y ∷ ys) x agree there = absurd agree
zip_pair R (first ∷ xs) [] x agree there = absurd agree
zip_pair R (first ∷ xs) (y ∷ ys) x agree there = elim (first_or_rest first xs x there) [
  | inl same ↦ (y, first_is (first, y) (zip xs ys) (x, y) (λ i. (same i, y)), first_is y ys y refl, subst (λ x. R x y) same agree.0)
  | inr rest ↦ let found = zip_pair R xs ys x agree.1 rest in (found.0, in_rest (first, y) (zip xs ys) (x, found.0) found.1, in_rest y ys found.0 found.2, found.3)
]

-- a page of a stored file, which agrees with its line, and is an object under its name
pub record IsPageOf (s : Stored) (name : Name) : Type 0 where
  pub file : StoredFile
  pub there : Contains s.files file
  pub line : PageLine
  pub bytes : List ℕ
  pub paged : Contains file.pages bytes
  pub agrees : Agrees line bytes
  pub object : Contains (objects_of s.files) (name, bytes)

pub page_of : (s : Stored) → IsCoherent s → (name : Name) → Contains (pages_in s.files) name → IsPageOf s name
page_of s coherent name there =
    let line = map_from (λ (line : PageLine). page_name line.no) (flat_map lines_in s.files) name there in
    let file = flat_from lines_in s.files line.0 line.1 in
    let is = All-contains (IsFile s.manifest.next) s.files file.0 coherent.each file.1 in
    let page = zip_pair Agrees (lines_in file.0) (file.0).pages line.0 is.agrees.pages file.2 in
    let named : Name × List ℕ = (page_name (line.0).no, page.0) in
    let among : Contains (objects_of s.files) named = flat_in objects_in s.files file.0 named file.1
    (in_rest _ _ named (in_map (λ (pair : PageLine × List ℕ). (page_name pair.0.no, pair.1)) (zip (lines_in file.0) (file.0).pages) (line.0, page.0) page.1)) in
    record {
      file = file.0;
      there = file.1;
      line = line.0;
      bytes = page.0;
      paged = page.2;
      agrees = page.3;
      object = subst (λ (name : Name). Contains (objects_of s.files) (name, page.0)) line.2 among;
    }

pub page_cited : (s : Stored) → IsCoherent s → (name : Name) → Contains (pages_in s.files) name → IsCited s name
page_cited s coherent name there = let page = page_of s coherent name there in inr (inr (object_part s (name, page.bytes) page.object))
