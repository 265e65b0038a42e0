-- The names of what a manifest cites.
use Rattle.std.proofs.Common.{◌≡◌, ◌≢◌, ◌<◌, inl, inr, ℕ, map, List, [], ◌∷◌, ◌++◌, Some, refl, sym, ap, ◌∙◌, subst}
use Rattle.std.specs.Prelude.{Contains, option_to_list, zip}
use Rattle.std.proofs.lemmas.List.Elements.{All-contains, Contains-append_left, Contains-append_right, Contains-append_cases, Contains-push}
use Rattle.lethe_base.specs.declared.name.Kind.TheVariants as kinds
use Rattle.lethe_base.specs.declared.name.Name.{Name}
use Rattle.lethe_base.proofs.Newest.{first_or_rest, first_is}
use Rattle.lethe_header.specs.declared.header.PageLine.{PageLine}
use Rattle.lethe_file.specs.Agreement.{page_name}
use Rattle.lethe_manifest.specs.Manifests as manifests
use Rattle.lethe_stored.specs.Files.{StoredFile, IsFile, lines_in, cited_of, file_name, objects_in, objects_of}
use Rattle.lethe_stored.specs.Stored.{Stored, Segment, IsCoherent, number_of, segment_numbers, segment_name, part_names}
use Rattle.lethe_stored.proofs.Lists.{in_map, from_map, from_flat, zip_left}

abbrev name_of : Name × List ℕ → Name
name_of named = named.0

-- What is cited

pub active_part : (s : Stored) → Contains (part_names s) (segment_name s.active.no)
active_part s = Contains-append_left (map segment_name (segment_numbers s)) (map name_of (objects_of s.files)) (segment_name s.active.no)
    (in_map segment_name (segment_numbers s) s.active.no (Contains-push (map number_of (option_to_list s.frozen)) s.active.no))

pub frozen_part : (s : Stored) (older : Segment) → s.frozen ≡ Some older → Contains (part_names s) (segment_name older.no)
frozen_part s older is = Contains-append_left (map segment_name (segment_numbers s)) (map name_of (objects_of s.files)) (segment_name older.no)
    (in_map segment_name (segment_numbers s) older.no (subst (λ o. Contains (map number_of (option_to_list o) ++ s.active.no ∷ []) older.no) (sym is) (first_is older.no (s.active.no ∷ []) older.no refl)))

pub object_part : (s : Stored) (named : Name × List ℕ) → Contains (objects_of s.files) named → Contains (part_names s) named.0
object_part s named there = Contains-append_right (map segment_name (segment_numbers s)) (map name_of (objects_of s.files)) named.0 (in_map name_of (objects_of s.files) named there)

-- What is cited is no more

-- the name is a segment's of a cited number, or a header's or a page's
pub data IsNameOf (s : Stored) (name : Name) : Type 0 where
  OfSegment : (number : ℕ) → Contains (segment_numbers s) number → segment_name number ≡ name → IsNameOf s name
  OfHeader : (file : StoredFile) → Contains s.files file → file_name file.header.no ≡ name → IsNameOf s name
  OfPage : (file : StoredFile) (line : PageLine) → Contains s.files file → Contains (lines_in file) line → page_name line.no ≡ name → IsNameOf s name

pub name_cases : (s : Stored) (name : Name) → Contains (part_names s) name → IsNameOf s name
name_cases s name there = elim (Contains-append_cases (map segment_name (segment_numbers s)) (map name_of (objects_of s.files)) name there) [
  | inl segment ↦ let found = from_map segment_name (segment_numbers s) name segment in OfSegment found.0 found.1 found.2
  | inr object ↦
      let named = from_map name_of (objects_of s.files) name object in
      let file = from_flat objects_in s.files named.0 named.1 in
      in_file file.0 named.0 file.1 file.2 named.2
]
  where
    in_file : (file : StoredFile) (named : Name × List ℕ) → Contains s.files file → Contains (objects_in file) named → named.0 ≡ name → IsNameOf s name
    in_file file named cited inside is = elim (first_or_rest _ _ named inside) [
      | inl header ↦ OfHeader file cited (ap name_of header ∙ is)
      | inr page ↦
          let found = from_map (λ (p : PageLine × List ℕ). (page_name p.0.no, p.1)) (zip (lines_in file) file.pages) named page in
          OfPage file found.0.0 cited (zip_left (lines_in file) file.pages found.0 found.1) (ap name_of found.2 ∙ is)
    ]

-- none of them is a gate's or a manifest's
pub part_kind : (s : Stored) (name : Name) → Contains (part_names s) name → (name.kind ≢ kinds.Gate) × (name.kind ≢ kinds.Manifest)
part_kind s name there = by (name_cases s name there)
  where
    kind_of : (other : Name) → other ≡ name → (other.kind ≢ kinds.Gate) × (other.kind ≢ kinds.Manifest) → (name.kind ≢ kinds.Gate) × (name.kind ≢ kinds.Manifest)
    kind_of other is apart = subst (λ (n : Name). (n.kind ≢ kinds.Gate) × (n.kind ≢ kinds.Manifest)) is apart

    by : IsNameOf s name → (name.kind ≢ kinds.Gate) × (name.kind ≢ kinds.Manifest)
    by (OfSegment number cited is) = kind_of (segment_name number) is (λ e. cc, λ e. cc)
    by (OfHeader file cited is) = kind_of (file_name file.header.no) is (λ e. cc, λ e. cc)
    by (OfPage file line cited inside is) = kind_of (page_name line.no) is (λ e. cc, λ e. cc)

-- the number of each is below the next
pub part_below : (s : Stored) (name : Name) → IsCoherent s → Contains (part_names s) name → name.no < s.manifest.next
part_below s name coherent there = by (name_cases s name there)
  where
    below : (other : Name) → other ≡ name → other.no < s.manifest.next → name.no < s.manifest.next
    below other is lt = subst (λ (n : Name). n.no < s.manifest.next) is lt

    by : IsNameOf s name → name.no < s.manifest.next
    by (OfSegment number cited is) = below (segment_name number) is (All-contains (λ n. n < s.manifest.next) s.manifest.segments number coherent.spelled.segments.below (subst (λ l. Contains l number) (sym coherent.cites) cited))
    by (OfHeader file cited is) = below (file_name file.header.no) is (All-contains (manifests.IsFile s.manifest.next s.manifest.config.levels) s.manifest.files (cited_of file) coherent.spelled.files.each
        (subst (λ l. Contains l (cited_of file)) (sym coherent.files) (in_map cited_of s.files file cited))).no
    by (OfPage file line cited inside is) = below (page_name line.no) is (All-contains (λ (l : PageLine). l.no < s.manifest.next) (lines_in file) line (All-contains (IsFile s.manifest.next) s.files file coherent.each cited).below inside)

-- a header or a page is no segment
pub object_apart : (s : Stored) (number : ℕ) (named : Name × List ℕ) → Contains (objects_of s.files) named → named.0 ≢ segment_name number
object_apart s number named there =
    let file = from_flat objects_in s.files named there in
    elim (first_or_rest _ _ named file.2) [
      | inl header ↦ λ e. let clash : kinds.File ≡ kinds.Segment = ap (λ (n : Name × List ℕ). n.0.kind) header ∙ ap (λ (x : Name). x.kind) e in cc
      | inr page ↦
          let found = from_map (λ (p : PageLine × List ℕ). (page_name p.0.no, p.1)) (zip (lines_in file.0) file.0.pages) named page in
          λ e. let clash : kinds.Page ≡ kinds.Segment = ap (λ (n : Name × List ℕ). n.0.kind) found.2 ∙ ap (λ (x : Name). x.kind) e in cc
    ]
