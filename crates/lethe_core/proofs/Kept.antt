-- What is cited and what lies beside that stays as it is where a step is carried out.
use Rattle.std.proofs.Common.{◌≡◌, ◌⊎◌, inl, inr, ℕ, List, [], ◌∷◌, length, map, sym, ap, ◌∙◌, subst, arith}
use Rattle.std.specs.Prelude.{Contains, IsSome, flat_map, is_some, zip}
use Rattle.std.proofs.lemmas.List.Elements.{All-contains, Contains-append_left}
use Rattle.lethe_base.specs.declared.name.Kind.TheVariants as kinds
use Rattle.lethe_base.specs.declared.name.Name.{Name}
use Rattle.lethe_disk.specs.Directory.{Directory, object}
use Rattle.lethe_cover.proofs.Common.{⊎_elim, first_is, first_or_rest, none_in}
use Rattle.lethe_cover.proofs.Lists.{in_rest}
use Rattle.lethe_file.specs.Agreement.{page_name}
use Rattle.lethe_header.specs.declared.header.PageLine.{PageLine}
use Rattle.lethe_stored.specs.Encodes.{HasObject}
use Rattle.lethe_stored.specs.Files.{IsFile, StoredFile, lines_in, objects_in}
use Rattle.lethe_stored.specs.Stored.{IsCoherent, Stored, part_names}
use Rattle.lethe_stored.proofs.Lists.{from_flat, from_map, in_flat, in_map}
use Rattle.lethe_stored.proofs.FileFacts.{as_many}
use Rattle.lethe_stored.proofs.Parts.{IsNameOf, OfHeader, OfPage, OfSegment, name_cases, object_part}
use Rattle.lethe_advance.specs.Settled.{names_in}
use Rattle.lethe_advance.specs.Steps.{HasStayed, IsSettledBy, IsStep}
use Rattle.lethe_advance.specs.declared.new_header.NewHeader.{NewHeader}
use Rattle.lethe_advance.specs.declared.step.Step.{Step}
use Rattle.lethe_core.specs.Pinned.{pages_in}
use Rattle.lethe_core.specs.Running.{IsRunning}
use Rattle.lethe_core.specs.View.{View, beside_in, loose_in}
use Rattle.lethe_advance.proofs.Placed.{part_there}
use Rattle.lethe_core.proofs.Beside.{names_beside_at}

-- Pages of stored files

abbrev named_of : PageLine → Name
named_of line = page_name line.no

-- each of as many has one of the others beside it
zip_has : {X Y : Type 0} (xs : List X) (ys : List Y) → length ys ≡ length xs → (x : X) → Contains xs x → (y : Y) × Contains (zip xs ys) (x, y)
zip_has [] ys same x there = absurd (none_in x there)
zip_has (first ∷ xs) [] same x there = absurd (omega (arith, same))
zip_has (first ∷ xs) (y ∷ ys) same x there = ⊎_elim
    (λ here. (y, first_is (first, y) (zip xs ys) (x, y) (λ i. (here i, y))))
    (λ rest. let found = zip_has xs ys (omega (arith, same)) x rest in (found.0, in_rest (first, y) (zip xs ys) (x, found.0) found.1))
    (first_or_rest first xs x there)

-- the page of each line is cited
line_part : (s : Stored) → IsCoherent s → (file : StoredFile) → Contains s.files file → (line : PageLine) → Contains (lines_in file) line → Contains (part_names s) (page_name line.no)
line_part s coherent file there line inside =
    let is = All-contains (IsFile s.manifest.next) s.files file coherent.each there in
    let zipped = zip_has (lines_in file) file.pages (as_many (lines_in file) file.pages is.agrees.pages) line inside in
    let named : Name × List ℕ = (page_name line.no, zipped.0) in
    let name : PageLine × List ℕ → Name × List ℕ = λ page. (page_name page.0.no, page.1) in
    object_part s named (in_flat objects_in s.files file named there
    (in_rest _ (map name (zip (lines_in file) file.pages)) named (in_map name (zip (lines_in file) file.pages) (line, zipped.0) zipped.1)))

-- a page of a stored file is cited
pub page_cited : (s : Stored) → IsCoherent s → (name : Name) → Contains (pages_in s.files) name → Contains (part_names s) name
page_cited s coherent name there =
    let line = from_map named_of (flat_map lines_in s.files) name there in
    let file = from_flat lines_in s.files line.0 line.1 in
    subst (Contains (part_names s)) line.2 (line_part s coherent file.0 file.1 line.0 file.2)

-- its name is a page's
pub page_kind : (files : List StoredFile) (name : Name) → Contains (pages_in files) name → name.kind ≡ kinds.Page
page_kind files name there = let line = from_map named_of (flat_map lines_in files) name there in ap (λ (n : Name). n.kind) (sym line.2)

-- and a page that is cited is one of a stored file
pub cited_page : (s : Stored) (name : Name) → Contains (part_names s) name → name.kind ≡ kinds.Page → Contains (pages_in s.files) name
cited_page s name there page = by (name_cases s name there)
  where
    by : IsNameOf s name → Contains (pages_in s.files) name
    by (OfSegment number cited is) = absurd (let clash : kinds.Segment ≡ kinds.Page = ap (λ (n : Name). n.kind) is ∙ page in cc)
    by (OfHeader file cited is) = absurd (let clash : kinds.File ≡ kinds.Page = ap (λ (n : Name). n.kind) is ∙ page in cc)
    by (OfPage file line cited inside is) = subst (Contains (pages_in s.files)) is (in_map named_of (flat_map lines_in s.files) line (in_flat lines_in s.files file line cited inside))

-- where files stay, their pages do
pub pages_stay : (files more : List StoredFile) → ((file : StoredFile) → Contains files file → Contains more file) → (name : Name) → Contains (pages_in files) name → Contains (pages_in more) name
pages_stay files more stay name there =
    let line = from_map named_of (flat_map lines_in files) name there in
    let file = from_flat lines_in files line.0 line.1 in
    subst (Contains (pages_in more)) line.2 (in_map named_of (flat_map lines_in more) line.0 (in_flat lines_in more file.0 line.0 (stay file.0 file.1) file.2))

-- A step that was carried out

module _ (old : View) (s t : Stored) (left : List (Name × List ℕ)) (headers : List NewHeader) (step : Step) (running : IsRunning old s) (is : IsStep s (beside_in old) t left headers step) where
  -- a retired page lies beside what is stored
  pub retired_beside : (name : Name) → Contains old.retired name → Contains (names_in (beside_in old)) name
  retired_beside name there = subst (λ names. Contains names name) (sym (names_beside_at old.disk.directory old.retired old.flights)) (Contains-append_left old.retired (names_in (loose_in old.flights)) name there)

  -- it is there
  pub was_there : (name : Name) → Contains (pages_in s.files) name ⊎ Contains old.retired name → IsSome (object old.disk.directory name)
  was_there name (inl page) = part_there old.disk.directory s name running.settled.encodes.parts (page_cited s running.settled.coherent name page)
  was_there name (inr retired) =
      let named = from_map (λ (named : Name × List ℕ). named.0) (beside_in old) name (retired_beside name retired) in
      subst (λ name. IsSome (object old.disk.directory name)) named.2 (ap is_some (All-contains (HasObject old.disk.directory) (beside_in old) named.0 running.only.there named.1))

  -- a page that was cited or retired, and is cited or left then, is as it was
  pub carried_same : (new : Directory) → HasStayed t left old.disk.directory new → (name : Name) → Contains (pages_in s.files) name ⊎ Contains old.retired name → Contains (part_names t) name ⊎ Contains (names_in left) name
      → object new name ≡ object old.disk.directory name
  carried_same new stayed name was there = stayed name there (was_there name was)

  -- a page that was cited or retired, and doesn't go, is cited or left then
  pub settled_page : (name : Name) → Contains (pages_in s.files) name ⊎ Contains old.retired name → (Contains step.gone.items name → ⊥) → Contains (pages_in t.files) name ⊎ Contains (names_in left) name
  settled_page name (inl page) stays = elim (All-contains (IsSettledBy step t left) (part_names s) name is.stays (page_cited s running.settled.coherent name page)) as (λ _. Contains (pages_in t.files) name ⊎ Contains (names_in left) name) [
    | inl cited ↦ inl (cited_page t name cited (page_kind s.files name page))
    | inr other ↦ elim other as (λ _. Contains (pages_in t.files) name ⊎ Contains (names_in left) name) [ inl gone ↦ absurd (stays gone) | inr there ↦ inr there ]
  ]
  settled_page name (inr retired) stays =
      let named = from_map (λ (named : Name × List ℕ). named.0) (beside_in old) name (retired_beside name retired) in
      let page : name.kind ≡ kinds.Page = subst (λ (n : Name). n.kind ≡ kinds.Page) named.2 (All-contains (λ (named : Name × List ℕ). named.0.kind ≡ kinds.Page) (beside_in old) named.0 is.loose_pages named.1) in
      let settled = subst (IsSettledBy step t left) named.2 (All-contains (λ (named : Name × List ℕ). IsSettledBy step t left named.0) (beside_in old) named.0 is.taken named.1) in
      elim settled as (λ _. Contains (pages_in t.files) name ⊎ Contains (names_in left) name) [
        | inl cited ↦ inl (cited_page t name cited page)
        | inr other ↦ elim other as (λ _. Contains (pages_in t.files) name ⊎ Contains (names_in left) name) [ inl gone ↦ absurd (stays gone) | inr there ↦ inr there ]
      ]
