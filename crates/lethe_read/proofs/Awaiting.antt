-- The pages that parts have still to fetch, and the names that they may tell.
use Rattle.std.proofs.Common.{◌≡◌, ℕ, ◌+◌, ◌<◌, ◌≤◌, List, [], ◌∷◌, ◌++◌, length, get_or, take, ⊎_elim, inl, inr, refl, sym, ap, subst, ◌∙◌, arith}
use Rattle.std.specs.Prelude.{◌⊎◌, Any, flat_map, sum_by}
use Rattle.std.specs.Global.{Vec}
use Rattle.std.proofs.lemmas.Grind.{flat_map-append}
use Rattle.std.proofs.lemmas.List.{append-nil, take_all, take_more}
use Rattle.std.proofs.lemmas.List.Sums.{sum_by-append, sum_by-cons, sum_by_push}
use Rattle.lethe_base.specs.declared.entry.Entry.{Entry}
use Rattle.lethe_base.specs.declared.name.Name.{Name}
use Rattle.lethe_read.specs.Parts.{Awaits, Damages, awaits_in}
use Rattle.lethe_read.specs.declared.part.Part.{Part}
use Rattle.lethe_read.specs.declared.part.Part.TheVariants.{Buffered}
use Rattle.lethe_read.proofs.Adding.{Any-cases, Any-left, Any-right, only_of}

module _ {C F N : Type 0} (awaits : C → ℕ) (damages : C → N → Type 0) (between : F → ℕ) (IsDamaged : F → N → Type 0) where
  abbrev AwaitsHere : List F → List C → List C → Type 0
  AwaitsHere = Awaits awaits damages between IsDamaged

  abbrev Tells : N → C → Type 0
  Tells name part = damages part name

  abbrev IsTold : N → F → Type 0
  IsTold name file = IsDamaged file name

  pub awaits_none : (parts : List C) → AwaitsHere [] parts parts
  awaits_none parts = record { count = omega arith; names = λ name any. inl any }

  -- a part more that awaits nothing
  pub awaits_nothing : (files : List F) (old new wider : List C) (part : C) → wider ≡ new ++ part ∷ [] → awaits part ≡ 0 → ((name : N) → damages part name → ⊥) → AwaitsHere files old new → AwaitsHere files old wider
  awaits_nothing files old new wider part is none untold awaited = record {
    count = omega (arith, ap (sum_by awaits) is, sum_by_push awaits new part, none, awaited.count);
    names = λ name any. ⊎_elim (λ before. awaited.names name before) (λ here. absurd (untold name (only_of (Tells name) part here)))
        (Any-cases (Tells name) new (part ∷ []) (subst (Any (Tells name)) is any));
  }

  -- one file more in front of the others
  pub awaits_file : (file : F) (files : List F) (old mid new : List C) → AwaitsHere files old mid → sum_by awaits new ≡ sum_by awaits mid + between file
      → ((name : N) → Any (Tells name) new → Any (Tells name) mid ⊎ IsDamaged file name) → AwaitsHere (file ∷ files) old new
  awaits_file file files old mid new awaited count told = record {
    count = omega (arith, awaited.count, count, sum_by-cons between file files);
    names = λ name any. ⊎_elim
        (λ before. ⊎_elim (λ earlier. inl earlier) (λ here. inr (Any-right (IsTold name) (file ∷ []) files here)) (awaited.names name before))
        (λ here. inr (Any-left (IsTold name) (file ∷ []) files (0, file, omega arith, refl, here)))
        (told name any);
  }

  pub awaits_more : (xs ys : List F) (a b c : List C) → AwaitsHere xs a b → AwaitsHere ys b c → AwaitsHere (xs ++ ys) a c
  awaits_more xs ys a b c first second = record {
    count = omega (arith, first.count, second.count, sum_by-append between xs ys);
    names = λ name any. ⊎_elim
        (λ before. ⊎_elim (λ earlier. inl earlier) (λ here. inr (Any-left (IsTold name) xs ys here)) (first.names name before))
        (λ here. inr (Any-right (IsTold name) xs ys here))
        (second.names name any);
  }

  module _ {S : Type 0} (files_of : List S → List F) (joins : (xs ys : List S) → files_of (xs ++ ys) ≡ files_of xs ++ files_of ys) (items : List S) where
    -- one item more
    pub awaits_next : (i : ℕ) (item : S) → i < length items → item ≡ get_or items i item → (a b c : List C)
        → AwaitsHere (files_of (take i items)) a b → AwaitsHere (files_of (item ∷ [])) b c → AwaitsHere (files_of (take (i + 1) items)) a c
    awaits_next i item inside item_is a b c first second =
        let one_more : files_of (take (i + 1) items) ≡ files_of (take i items) ++ files_of (item ∷ []) =
        ap files_of (take_more items i item inside ∙ ap (λ (s : S). take i items ++ s ∷ []) (sym item_is)) ∙ joins (take i items) (item ∷ []) in
        subst (λ (l : List F). AwaitsHere l a c) (sym one_more) (awaits_more (files_of (take i items)) (files_of (item ∷ [])) a b c first second)

    pub awaits_all : (i : ℕ) (a b : List C) → length items ≤ i → AwaitsHere (files_of (take i items)) a b → AwaitsHere (files_of items) a b
    awaits_all i a b past awaits = subst (λ (l : List S). AwaitsHere (files_of l) a b) (take_all i items past) awaits

  -- one level more
  pub awaits_level : (levels : List (List F)) (level : ℕ) (files : List F) → level < length levels → files ≡ get_or levels level files → (a b c : List C)
      → AwaitsHere (flat_map (λ l. l) (take level levels)) a b → AwaitsHere files b c → AwaitsHere (flat_map (λ l. l) (take (level + 1) levels)) a c
  awaits_level levels level files inside is a b c first second =
      awaits_next (flat_map (λ l. l)) (flat_map-append (λ l. l)) levels level files inside is a b c first (subst (λ l. AwaitsHere l b c) (sym (append-nil files)) second)

  -- the buffers' parts, which await nothing, and then the files'
  pub all_awaited : (files : List F) (a b : List C) → sum_by awaits a ≡ 0 → AwaitsHere files a b → sum_by awaits b ≡ sum_by between files
  all_awaited files a b none more = omega (arith, none, more.count)

  pub all_told : (files : List F) (a b : List C) → ((name : N) → Any (λ part. damages part name) a → ⊥) → AwaitsHere files a b
      → (name : N) → Any (λ part. damages part name) b → Any (λ file. IsDamaged file name) files
  all_told files a b none more name any = ⊎_elim (λ before. absurd (none name before)) (λ here. here) (more.names name any)

module _ {C : Type 0} (awaits : C → ℕ) (damages : C → Name → Type 0) (parts : List (Part C)) (first second : Vec Entry) where
  pub one_awaits : parts ≡ Buffered first ∷ [] → sum_by (awaits_in awaits) parts ≡ 0
  one_awaits is = ap (sum_by (awaits_in awaits)) is

  pub two_awaits : parts ≡ Buffered first ∷ Buffered second ∷ [] → sum_by (awaits_in awaits) parts ≡ 0
  two_awaits is = ap (sum_by (awaits_in awaits)) is

  pub one_tells : parts ≡ Buffered first ∷ [] → (name : Name) → Any (λ part. Damages damages part name) parts → ⊥
  one_tells is name any = only_of (λ (part : Part C). Damages damages part name) (Buffered first) (subst (Any (λ (part : Part C). Damages damages part name)) is any)

  pub two_tells : parts ≡ Buffered first ∷ Buffered second ∷ [] → (name : Name) → Any (λ part. Damages damages part name) parts → ⊥
  two_tells is name any =
      ⊎_elim (λ here. only_of (λ (part : Part C). Damages damages part name) (Buffered first) here) (λ here. only_of (λ (part : Part C). Damages damages part name) (Buffered second) here)
      (Any-cases (λ (part : Part C). Damages damages part name) (Buffered first ∷ []) (Buffered second ∷ []) (subst (Any (λ (part : Part C). Damages damages part name)) is any))
