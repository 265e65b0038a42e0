-- What the steps have in common.
use Rattle.std.proofs.Common.{◌≡◌, ◌≤◌, ◌<◌, ◌⊎◌, inl, inr, ℕ, true, List, [], ◌∷◌, map, All, AllPairs, Contains, sym, ap, ◌∙◌, subst, arith}
use Rattle.std.proofs.lemmas.List.Elements.{All-cons, All-contains, All-nil, Contains-append_cases}
use Rattle.lethe_base.proofs.LayoutLaws.{none_in}
use Rattle.lethe_base.specs.declared.name.Kind.TheVariants as kinds
use Rattle.lethe_base.specs.declared.name.Name.{Name}
use Rattle.lethe_cover.proofs.Lists.{all_from, in_map, map_from, pairs_to}
use Rattle.lethe_advance.specs.Settled.{AreDrawn, AreUncited, names_in}
use Rattle.lethe_advance.specs.Steps.{IsSettledBy, WasThere, kept_files}
use Rattle.lethe_advance.specs.declared.step.Step.{Step}
use Rattle.lethe_advance.proofs.Lists.{filter_all}
use Rattle.lethe_stored.specs.Files.{StoredFile, objects_of}
use Rattle.lethe_stored.specs.Stored.{Stored, IsCited, part_names, segment_name, segment_numbers}
use Rattle.lethe_version.specs.Order.{is_kept}

pub one_all : {X : Type 0} (P : X → Type 0) (x : X) (xs : List X) → xs ≡ x ∷ [] → P x → All P xs
one_all P x xs is holds = subst (All P) (sym is) (All-cons P x [] holds (All-nil P))

pub one_once : {X : Type 0} (R : X → X → Type 0) (x : X) (xs : List X) → xs ≡ x ∷ [] → AllPairs R xs
one_once R x xs is = subst (AllPairs R) (sym is) (pairs_to R (x ∷ []) ((λ y there. absurd (none_in y there)), tt))

pub none_all : {X : Type 0} (P : X → Type 0) (xs : List X) → xs ≡ [] → All P xs
none_all P xs none = subst (All P) (sym none) (All-nil P)

pub none_once : {X : Type 0} (R : X → X → Type 0) (xs : List X) → xs ≡ [] → AllPairs R xs
none_once R xs none = subst (AllPairs R) (sym none) (λ i j d before within. absurd (omega arith))

-- where no file goes, all stay
pub all_kept : (s : Stored) (step : Step) → step.merged.items ≡ [] → kept_files s step ≡ s.files
all_kept s step none = filter_all (λ (file : StoredFile). is_kept step.merged.items file.header) s.files
    (all_from (λ (file : StoredFile). is_kept step.merged.items file.header ≡ true) s.files (λ file there. ap (λ merged. is_kept merged file.header) none))

-- Loose pages

clash_gate : kinds.Page ≡ kinds.Gate → ⊥
clash_gate same = cc

clash_manifest : kinds.Page ≡ kinds.Manifest → ⊥
clash_manifest same = cc

clash_segment : kinds.Page ≡ kinds.Segment → ⊥
clash_segment same = cc

kind_of : (a b : Name) → a ≡ b → a.kind ≡ b.kind
kind_of a b same = ap (λ (n : Name). n.kind) same

-- a page that no file has isn't cited
pub page_uncited : (t : Stored) (name : Name) → name.kind ≡ kinds.Page → (Contains (names_in (objects_of t.files)) name → ⊥) → IsCited t name → ⊥
page_uncited t name page out (inl gate) = clash_gate (sym page ∙ kind_of name _ gate)
page_uncited t name page out (inr (inl manifest)) = clash_manifest (sym page ∙ kind_of name _ manifest)
page_uncited t name page out (inr (inr part)) = elim (Contains-append_cases (map segment_name (segment_numbers t)) (names_in (objects_of t.files)) name part) [
  | inl segment ↦ let found = map_from segment_name (segment_numbers t) name segment in clash_segment (sym page ∙ kind_of name _ (sym found.2))
  | inr object ↦ out object
]

module _ (first : ℕ) (loose : List (Name × List ℕ)) (drawn : AreDrawn first (names_in loose)) where
  abbrev IsDrawn : Name → Type 0
  IsDrawn name = (name.kind ≡ kinds.Page) × (name.no < first)

  loose_at : (named : Name × List ℕ) → Contains loose named → IsDrawn named.0
  loose_at named there = All-contains IsDrawn (names_in loose) named.0 drawn.each (in_map (λ (n : Name × List ℕ). n.0) loose named there)

  pub loose_pages : All (λ (named : Name × List ℕ). named.0.kind ≡ kinds.Page) loose
  loose_pages = all_from (λ (named : Name × List ℕ). named.0.kind ≡ kinds.Page) loose (λ named there. (loose_at named there).0)

  -- what has a number that wasn't drawn isn't loose
  pub loose_apart : (name : Name) → first ≤ name.no → Contains (names_in loose) name → ⊥
  loose_apart name fresh there = let below = (All-contains IsDrawn (names_in loose) name drawn.each there).1 in omega (arith, fresh, below)

  -- all of it is left
  pub all_left : (step : Step) (t : Stored) → All (λ (named : Name × List ℕ). IsSettledBy step t loose named.0) loose
  all_left step t = all_from (λ (named : Name × List ℕ). IsSettledBy step t loose named.0) loose (λ named there. inr (inr (in_map (λ (n : Name × List ℕ). n.0) loose named there)))

  pub left_there : (s : Stored) → All (WasThere s loose) loose
  left_there s = all_from (WasThere s loose) loose (λ named there. inl there)

  -- where what goes was cited, none of it goes
  pub left_stays : (s : Stored) (gone : List Name) → AreUncited s loose → ((name : Name) → Contains gone name → Contains (part_names s) name) → All (λ (named : Name × List ℕ). Contains gone named.0 → ⊥) loose
  left_stays s gone uncited cited = all_from (λ (named : Name × List ℕ). Contains gone named.0 → ⊥) loose (λ named there among.
      All-contains (λ (other : Name × List ℕ). IsCited s other.0 → ⊥) loose named uncited there (inr (inr (cited named.0 among))))

  -- what was loose is so where files come whose objects have numbers that weren't drawn
  pub still_uncited : (s t : Stored) → ((object : Name × List ℕ) → Contains (objects_of t.files) object → Contains (part_names s) object.0 ⊎ (first ≤ object.0.no)) → AreUncited s loose → AreUncited t loose
  still_uncited s t objects uncited = all_from (λ (named : Name × List ℕ). IsCited t named.0 → ⊥) loose (λ named there. page_uncited t named.0 (loose_at named there).0 (λ among.
      let object = map_from (λ (n : Name × List ℕ). n.0) (objects_of t.files) named.0 among in
      elim (objects object.0 object.1) [
        | inl old ↦ All-contains (λ (other : Name × List ℕ). IsCited s other.0 → ⊥) loose named uncited there (inr (inr (subst (Contains (part_names s)) object.2 old)))
        | inr fresh ↦ loose_apart named.0 (subst (λ (n : Name). first ≤ n.no) object.2 fresh) (in_map (λ (n : Name × List ℕ). n.0) loose named there)
      ]))
