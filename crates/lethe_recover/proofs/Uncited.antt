-- What is listed of a directory beside what is cited.
use Rattle.std.proofs.Common.{◌≡◌, ◌≢◌, inl, inr, ℕ, Bool, true, false, not, cond, T, All, List, [], ◌∷◌, ◌++◌, map, filter, length, Option, Some, None, IsTrue, ◌↔◌, refl, sym, ap, ◌∙◌, subst, arith}
use Rattle.std.specs.Prelude.{Contains, IsSome, is_some, flat_map, zip, ◌&&◌}
use Rattle.std.specs.List.{AllZip}
use Rattle.std.proofs.lemmas.Bool.{cases_Bool}
use Rattle.std.proofs.lemmas.List.{map-append}
use Rattle.std.proofs.lemmas.List.Elements.{All-head, All-nil, All-tail}
use Rattle.std.proofs.lemmas.Simd.{map-map}
use Rattle.std.proofs.lemmas.Slice.Zip.{firsts-zip}
use Rattle.std.specs.BTreeSet.{BTreeSet, contains}
use Rattle.std.specs.FinMap.{keys, entries, entries_sorted, remove}
use Rattle.std.specs.FinMap.Entries.{below_all, is_sorted}
use Rattle.std.specs.Ordering.{is_lt}
use Rattle.std.specs.Cmp.{tied_itself}
use Rattle.lethe_base.specs.Names.{name_cmp, name_total}
use Rattle.lethe_base.specs.declared.name.Name.{Name}
use Rattle.lethe_base.proofs.Newest.{first_or_rest, first_is}
use Rattle.lethe_disk.specs.Directory.{Directory, object}
use Rattle.lethe_disk.proofs.Objects.{object_beside_remove}
use Rattle.lethe_file.specs.Agreement.{Agrees, page_name}
use Rattle.lethe_header.specs.declared.header.Header.{Header}
use Rattle.lethe_header.specs.declared.header.PageLine.{PageLine}
use Rattle.lethe_manifest.specs.declared.manifest.Manifest.{Manifest}
use Rattle.lethe_commit.specs.Clear.{ArePresent, remove_all}
use Rattle.lethe_commit.specs.Gates.{gate_name}
use Rattle.lethe_commit.specs.Switch.{manifest_name}
use Rattle.lethe_commit.proofs.Listed.{listed}
use Rattle.lethe_commit.proofs.Removals.{all_absent, cleared_absent}
use Rattle.lethe_stored.specs.Files.{StoredFile, IsFile, lines_in, objects_in, objects_of, file_name}
use Rattle.lethe_stored.specs.Stored.{Stored, IsCoherent, segment_name, part_names, IsCited}
use Rattle.lethe_stored.specs.Encodes.{Encodes, AreSpare, HasObject}
use Rattle.lethe_advance.specs.Settled.{HasOnly}
use Rattle.lethe_stored.proofs.Lists.{later_in}
use Rattle.lethe_recover.specs.Cited.{line_name, names_in, names_of}
use Rattle.lethe_recover.proofs.Sets.{Has}

-- Names that differ from each other

abbrev pub AreApart : List Name → Type 0
AreApart [] = Unit {0}
AreApart (name ∷ names) = ((other : Name) → Contains names other → other ≢ name) × AreApart names

both_of : (a b : Bool) → T (a && b) → T a × T b
both_of true b h = (tt, h)
both_of false b h = absurd h

-- a name isn't less than itself
not_less : (name : Name) → T (is_lt (name_cmp name name)) → ⊥
not_less name h = subst (λ o. T (is_lt o)) (tied_itself name_total name) h

apart_below : (name : Name) (es : List (Name × List ℕ)) → T (below_all name_cmp name es) → (other : Name) → Contains (map (λ e. e.0) es) other → other ≢ name
apart_below name [] h other there is = let lt = there.1 in absurd (omega arith)
apart_below name (e ∷ es) h other there is = elim (first_or_rest e.0 (map (λ (e : Name × List ℕ). e.0) es) other there) [
  | inl same ↦ not_less name (subst (λ n. T (is_lt (name_cmp name n))) (same ∙ is) (both_of (is_lt (name_cmp name e.0)) (below_all name_cmp name es) h).0)
  | inr rest ↦ apart_below name es (both_of (is_lt (name_cmp name e.0)) (below_all name_cmp name es) h).1 other rest is
]

apart_sorted : (es : List (Name × List ℕ)) → T (is_sorted name_cmp es) → AreApart (map (λ e. e.0) es)
apart_sorted [] h = tt
apart_sorted (e ∷ es) h = let parts = both_of (below_all name_cmp e.0 es) (is_sorted name_cmp es) h in (apart_below e.0 es parts.0, apart_sorted es parts.1)

pub apart_keys : (d : Directory) → AreApart (keys d)
apart_keys d = apart_sorted (entries d) (entries_sorted d)

contains_filter : (p : Name → Bool) (names : List Name) (name : Name) → Contains (filter p names) name → Contains names name × (p name ≡ true)
contains_filter p [] name there = let lt = there.1 in absurd (omega arith)
contains_filter p (first ∷ names) name there = by (p first) refl there (contains_filter p names name)
  where
    by : (b : Bool) → p first ≡ b → Contains (cond b (first ∷ filter p names) (filter p names)) name → (Contains (filter p names) name → Contains names name × (p name ≡ true)) → Contains (first ∷ names) name × (p name ≡ true)
    by false is there inside = let rest = inside there in (later_in first names name rest.0, rest.1)
    by true is there inside = elim (first_or_rest first (filter p names) name there) [
      | inl same ↦ (first_is first names name same, subst (λ n. p n ≡ true) same is)
      | inr rest ↦ let found = inside rest in (later_in first names name found.0, found.1)
    ]

in_filter : (p : Name → Bool) (names : List Name) (name : Name) → Contains names name → p name ≡ true → Contains (filter p names) name
in_filter p [] name there passes = let lt = there.1 in absurd (omega arith)
in_filter p (first ∷ names) name there passes = elim (first_or_rest first names name there) [
  | inl same ↦ subst (λ b. Contains (cond b (first ∷ filter p names) (filter p names)) name) (sym (ap p same ∙ passes)) (first_is first (filter p names) name same)
  | inr rest ↦ let found = in_filter p names name rest passes in elim (p first) as (λ b. Contains (cond b (first ∷ filter p names) (filter p names)) name) [
    | true ↦ later_in first (filter p names) name found
    | false ↦ found
  ]
]

apart_filter : (p : Name → Bool) (names : List Name) → AreApart names → AreApart (filter p names)
apart_filter p [] apart = tt
apart_filter p (first ∷ names) apart = let rest = apart_filter p names apart.1 in elim (p first) as (λ b. AreApart (cond b (first ∷ filter p names) (filter p names))) [
  | true ↦ ((λ other there. apart.0 other (contains_filter p names other there).0), rest)
  | false ↦ rest
]

pub all_present : (names : List Name) (d : Directory) → AreApart names → ((name : Name) → Contains names name → IsSome (object d name)) → ArePresent names d
all_present [] d apart there = tt
all_present (first ∷ names) d apart there = (
  there first (first_is first names first refl),
  all_present names (remove d first) apart.1 (λ name is. ap is_some (object_beside_remove d first name (apart.0 name is)) ∙ there name (later_in first names name is)),
)

-- What is cited

lines_long : (lines : List PageLine) (pages : List (List ℕ)) → AllZip Agrees lines pages → length pages ≡ length lines
lines_long [] [] agrees = refl
lines_long [] (page ∷ pages) agrees = absurd agrees
lines_long (line ∷ lines) [] agrees = absurd agrees
lines_long (line ∷ lines) (page ∷ pages) agrees = omega (arith, lines_long lines pages agrees.1)

names_of_file : (next : ℕ) (file : StoredFile) → IsFile next file → map (λ (named : Name × List ℕ). named.0) (objects_in file) ≡ names_in file.header
names_of_file next file is =
    let pairs = zip (lines_in file) file.pages in
    ap (λ l. file_name file.header.no ∷ l)
    (map-map (λ (named : Name × List ℕ). named.0) (λ (page : PageLine × List ℕ). (page_name page.0.no, page.1)) pairs
    ∙ sym (map-map line_name (λ (page : PageLine × List ℕ). page.0) pairs)
    ∙ ap (map line_name) (firsts-zip (lines_in file) file.pages (lines_long (lines_in file) file.pages is.agrees.pages)))

names_of_files : (next : ℕ) (files : List StoredFile) → All (IsFile next) files → map (λ (named : Name × List ℕ). named.0) (objects_of files) ≡ flat_map names_in (map (λ file. file.header) files)
names_of_files next [] each = refl
names_of_files next (file ∷ files) each =
    map-append (λ (named : Name × List ℕ). named.0) (objects_in file) (objects_of files)
    ∙ (λ i. names_of_file next file (All-head (IsFile next) file files each) i ++ names_of_files next files (All-tail (IsFile next) file files each) i)

pub cites_these : (s : Stored) (headers : List Header) → IsCoherent s → headers ≡ map (λ file. file.header) s.files → (name : Name) → Contains (names_of s.manifest headers) name ↔ IsCited s name
cites_these s headers coherent same name = (to, from)
  where
    parts_are : map segment_name s.manifest.segments ++ flat_map names_in headers ≡ part_names s
    parts_are = λ i. map segment_name (coherent.cites i) ++ (ap (flat_map names_in) same ∙ sym (names_of_files s.manifest.next s.files coherent.each)) i

    to : Contains (names_of s.manifest headers) name → IsCited s name
    to there = elim (first_or_rest (gate_name s.manifest.no) (manifest_name s.manifest.no ∷ (map segment_name s.manifest.segments ++ flat_map names_in headers)) name there) [
      | inl gate ↦ inl (sym gate)
      | inr more ↦ elim (first_or_rest (manifest_name s.manifest.no) (map segment_name s.manifest.segments ++ flat_map names_in headers) name more) [
        | inl manifest ↦ inr (inl (sym manifest))
        | inr part ↦ inr (inr (subst (λ l. Contains l name) parts_are part))
      ]
    ]

    from : IsCited s name → Contains (names_of s.manifest headers) name
    from (inl gate) = first_is (gate_name s.manifest.no) (manifest_name s.manifest.no ∷ (map segment_name s.manifest.segments ++ flat_map names_in headers)) name (sym gate)
    from (inr (inl manifest)) = later_in (gate_name s.manifest.no) (manifest_name s.manifest.no ∷ (map segment_name s.manifest.segments ++ flat_map names_in headers)) name (first_is (manifest_name s.manifest.no) (map segment_name s.manifest.segments ++ flat_map names_in headers) name (sym manifest))
    from (inr (inr part)) = later_in (gate_name s.manifest.no) (manifest_name s.manifest.no ∷ (map segment_name s.manifest.segments ++ flat_map names_in headers)) name
        (later_in (manifest_name s.manifest.no) (map segment_name s.manifest.segments ++ flat_map names_in headers) name (subst (λ l. Contains l name) (sym parts_are) part))

-- a set of these has what is cited
pub cites_set : (s : Stored) (set : BTreeSet Name) (names : List Name) (m : Manifest) (headers : List Header) → IsCoherent s → s.manifest ≡ m → headers ≡ map (λ file. file.header) s.files → names ≡ names_of m headers → Has set names
    → (name : Name) → IsTrue (contains name_cmp set name) ↔ IsCited s name
cites_set s set names m headers coherent same own all has name =
    let listed_is : names ≡ names_of s.manifest headers = all ∙ ap (λ x. names_of x headers) (sym same) in
    let is = cites_these s headers coherent own name in
    (λ there. is.0 (subst (λ l. Contains l name) listed_is ((has name).0 there)), λ cited. (has name).1 (subst (λ l. Contains l name) (sym listed_is) (is.1 cited)))

module _ (s : Stored) (set : BTreeSet Name) (cites : (name : Name) → IsTrue (contains name_cmp set name) ↔ IsCited s name) where
  abbrev pub test : Name → Bool
  test name = not (contains name_cmp set name)

  not_true : (b : Bool) → not b ≡ true → b ≡ false
  not_true true e = sym e
  not_true false e = refl

  true≢false : true ≡ false → ⊥
  true≢false e = cc

  module _ (d : Directory) (e : Encodes d s) where
    abbrev pub rest : List Name
    rest = filter test (keys d)

    pub rest_present : ArePresent rest d
    rest_present = all_present rest d (apart_filter test (keys d) (apart_keys d)) (λ name there. (listed d name).0 (contains_filter test (keys d) name there).0)

    pub rest_spare : AreSpare s rest
    rest_spare name there =
        let found = contains_filter test (keys d) name there in
        let out : contains name_cmp set name ≡ false = not_true (contains name_cmp set name) found.1 in
        record {
          uncited = λ cited. true≢false (sym ((cites name).1 cited) ∙ out);
          no_gate = λ k lt is.
              let here : IsSome (object d (gate_name k)) = subst (λ n. IsSome (object d n)) is ((listed d name).0 found.0) in
              true≢false (sym here ∙ ap is_some (e.greatest.1 k lt));
        }

    pub rest_gone : HasOnly s [] (remove_all rest d)
    rest_gone = record { only = λ name there. inl (cited name there); there = All-nil (HasObject (remove_all rest d)) }
      where
        gone : (name : Name) → contains name_cmp set name ≡ false → object (remove_all rest d) name ≡ None
        gone name out = by (object d name) refl
          where
            by : (o : Option (List ℕ)) → object d name ≡ o → object (remove_all rest d) name ≡ None
            by None none = all_absent rest d name none
            by (Some b) some =
                let listed_is = in_filter test (keys d) name ((listed d name).1 (ap is_some some)) (ap not out) in
                cleared_absent rest listed_is.0 name d listed_is.1 (sym listed_is.2)

        cited : (name : Name) → IsSome (object (remove_all rest d) name) → IsCited s name
        cited name there = elim (cases_Bool (contains name_cmp set name)) [
          | inl is ↦ (cites name).0 is
          | inr out ↦ absurd (true≢false (sym there ∙ ap is_some (gone name out)))
        ]
