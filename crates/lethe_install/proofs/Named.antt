-- The names of the files that go.
use Rattle.std.proofs.Common.{◌≡◌, ◌≢◌, ◌<◌, ◌⊎◌, inl, inr, ℕ, Bool, true, eqb, List, [], ◌∷◌, ◌++◌, length, map, All, Contains, refl, sym, ap, ◌∙◌, subst, arith}
use Rattle.std.specs.Prelude.{flat_map, zip}
use Rattle.std.proofs.lemmas.Bool.{and_from, eq-eqb}
use Rattle.std.proofs.lemmas.List.{map-append}
use Rattle.std.proofs.lemmas.List.Elements.{All-contains, All-head, All-tail, Contains-append_right}
use Rattle.lethe_advance.specs.Settled.{AreDrawn}
use Rattle.lethe_base.specs.Names.{name_eq, name_rank}
use Rattle.lethe_base.specs.declared.name.Kind.TheVariants as kinds
use Rattle.lethe_base.specs.declared.name.Name.{Name}
use Rattle.lethe_cover.proofs.Common.{⊎_elim, none_in, first_or_rest}
use Rattle.lethe_cover.proofs.Lists.{Pairs, all_from, flat_from, flat_in, map_from, pairs_append, pairs_from, pairs_map, pairs_parts, pairs_to}
use Rattle.lethe_file.specs.Agreement.{page_name}
use Rattle.lethe_header.specs.declared.header.PageLine.{PageLine}
use Rattle.lethe_stored.specs.Files.{StoredFile, IsFile, file_name, lines_in, objects_in, objects_of}
use Rattle.lethe_stored.proofs.FileFacts.{as_many}
use Rattle.lethe_install.specs.Inputs.{names_of}

abbrev pub name_in : Name × List ℕ → Name
name_in named = named.0

abbrev pub line_name : PageLine → Name
line_name line = page_name line.no

-- the names of a file are those of its objects

zip_names : (lines : List PageLine) (pages : List (List ℕ)) → length pages ≡ length lines
    → map line_name lines ≡ map name_in (map (λ (page : PageLine × List ℕ). (page_name page.0.no, page.1)) (zip lines pages))
zip_names [] pages same = refl
zip_names (line ∷ lines) [] same = absurd (omega (arith, same))
zip_names (line ∷ lines) (page ∷ pages) same = ap (λ l. line_name line ∷ l) (zip_names lines pages (omega (arith, same)))

pub names_are : (next : ℕ) (file : StoredFile) → IsFile next file → names_of file ≡ map name_in (objects_in file)
names_are next file is = ap (λ l. file_name file.header.no ∷ l) (zip_names (lines_in file) file.pages (as_many (lines_in file) file.pages is.agrees.pages))

pub all_names_are : (next : ℕ) (files : List StoredFile) → All (IsFile next) files → flat_map names_of files ≡ map name_in (objects_of files)
all_names_are next [] all = refl
all_names_are next (file ∷ files) all =
    (λ i. names_are next file (All-head (IsFile next) file files all) i ++ all_names_are next files (All-tail (IsFile next) file files all) i) ∙ sym (map-append name_in (objects_in file) (objects_of files))

-- a header's or a page's
pub name_kinds : (file : StoredFile) (name : Name) → Contains (names_of file) name → (file_name file.header.no ≡ name) ⊎ ((line : PageLine) × Contains (lines_in file) line × (line_name line ≡ name))
name_kinds file name there = ⊎_elim (λ header. inl header) (λ page. inr (map_from line_name (lines_in file) name page)) (first_or_rest (file_name file.header.no) (map line_name (lines_in file)) name there)

pub file_no_page : (a b : ℕ) → file_name a ≡ page_name b → ⊥
file_no_page a b same = let clash : kinds.File ≡ kinds.Page = ap (λ (n : Name). n.kind) same in cc

pub number_in : (a b : Name) → a ≡ b → a.no ≡ b.no
number_in a b same = ap (λ (n : Name). n.no) same

pub name_self : (name : Name) → name_eq name name ≡ true
name_self name = and_from (eqb (name_rank name) (name_rank name)) (eqb name.no name.no) (eq-eqb (name_rank name) (name_rank name) refl) (eq-eqb name.no name.no refl)

-- Files of which no two have a number or a page in common

abbrev Apart : StoredFile → StoredFile → Type 0
Apart a b = a.header.no ≢ b.header.no

abbrev AreApart : PageLine → PageLine → Type 0
AreApart a b = a.no ≢ b.no

abbrev pub Differ : Name → Name → Type 0
Differ a b = a ≢ b

-- of drawn names, those behind others
pub drawn_behind : (next : ℕ) (before names : List Name) → AreDrawn next (before ++ names) → AreDrawn next names
drawn_behind next before names drawn = record {
  each = all_from (λ (name : Name). (name.kind ≡ kinds.Page) × (name.no < next)) names (λ name there.
      All-contains (λ (name : Name). (name.kind ≡ kinds.Page) × (name.no < next)) (before ++ names) name drawn.each (Contains-append_right before names name there));
  once = pairs_to Differ names (pairs_parts Differ before names (pairs_from Differ (before ++ names) drawn.once)).1;
}

lines_differ : (lines : List PageLine) → Pairs AreApart lines → Pairs (λ a b. line_name a ≢ line_name b) lines
lines_differ [] pairs = tt
lines_differ (line ∷ lines) pairs = ((λ other there same. pairs.0 other there (number_in (line_name line) (line_name other) same)), lines_differ lines pairs.1)

pub own_names : (file : StoredFile) → Pairs AreApart (lines_in file) → Pairs Differ (names_of file)
own_names file pairs = (
  (λ name there same. let found = map_from line_name (lines_in file) name there in file_no_page file.header.no found.0.no (same ∙ sym found.2)),
  pairs_map Differ line_name (lines_in file) (lines_differ (lines_in file) pairs),
)

pub names_once : (files : List StoredFile) → Pairs Apart files → Pairs AreApart (flat_map lines_in files) → Pairs Differ (flat_map names_of files)
names_once [] pairs lines = tt
names_once (file ∷ files) pairs lines =
    let parts = pairs_parts AreApart (lines_in file) (flat_map lines_in files) lines in
    pairs_append Differ (names_of file) (flat_map names_of files) (own_names file parts.0) (names_once files pairs.1 parts.1) (λ a b left right same.
    let other = flat_from names_of files b right in
    ⊎_elim
    (λ header. ⊎_elim
    (λ also. pairs.0 other.0 other.1 (number_in (file_name file.header.no) (file_name other.0.header.no) (header ∙ same ∙ sym also)))
    (λ page. file_no_page file.header.no page.0.no (header ∙ same ∙ sym page.2))
    (name_kinds other.0 b other.2))
    (λ page. ⊎_elim
    (λ also. file_no_page other.0.header.no page.0.no (also ∙ sym same ∙ sym page.2))
    (λ also. parts.2 page.0 also.0 page.1 (flat_in lines_in files other.0 also.0 other.1 also.1) (number_in (line_name page.0) (line_name also.0) (page.2 ∙ same ∙ sym also.2)))
    (name_kinds other.0 b other.2))
    (name_kinds file a left))

-- two files that a test tells apart have no page in common
pub pages_differ : (test : StoredFile → Bool) (files : List StoredFile) → Pairs AreApart (flat_map lines_in files) → (f g : StoredFile) → Contains files f → Contains files g → test f ≢ test g
    → (a b : PageLine) → Contains (lines_in f) a → Contains (lines_in g) b → a.no ≢ b.no
pages_differ test [] lines f g left right told a b of_f of_g same = none_in f left
pages_differ test (file ∷ files) lines f g left right told a b of_f of_g same =
    let parts = pairs_parts AreApart (lines_in file) (flat_map lines_in files) lines in
    ⊎_elim
    (λ here. ⊎_elim
    (λ also. told (ap test (sym here ∙ also)))
    (λ rest. parts.2 a b (subst (λ h. Contains (lines_in h) a) (sym here) of_f) (flat_in lines_in files g b rest of_g) same)
    (first_or_rest file files g right))
    (λ later. ⊎_elim
    (λ also. parts.2 b a (subst (λ h. Contains (lines_in h) b) (sym also) of_g) (flat_in lines_in files f a later of_f) (sym same))
    (λ rest. pages_differ test files parts.1 f g later rest told a b of_f of_g same)
    (first_or_rest file files g right))
    (first_or_rest file files f left)
