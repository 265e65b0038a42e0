-- Pages that lie beside what is stored.
use Rattle.std.proofs.Common.{◌≡◌, ◌≢◌, ◌≤◌, ◌<◌, ◌+◌, ◌⊎◌, inl, inr, ℕ, true, false, List, [], ◌∷◌, ◌++◌, length, get_or, Some, None, refl, sym, ap, ◌∙◌, subst, arith}
use Rattle.std.specs.Prelude.{AllPairs, Contains, IsSome, is_some, zip}
use Rattle.std.specs.FinMap.{insert}
use Rattle.std.proofs.lemmas.List.{get_or_append_left, get_or-append_right, length-append, map-append}
use Rattle.std.proofs.lemmas.List.Elements.{All-contains, All-push, All-weaker, Contains-append_cases, Contains-append_left, Contains-append_right, Contains-get_or, Contains-push}
use Rattle.std.proofs.lemmas.List.Quantifiers.{all_pairs_push}
use Rattle.lethe_base.specs.declared.name.Kind.TheVariants as kinds
use Rattle.lethe_base.specs.declared.name.Name.{Name}
use Rattle.lethe_base.proofs.LayoutLaws.{none_in}
use Rattle.lethe_base.proofs.Newest.{first_or_rest}
use Rattle.lethe_disk.specs.Directory.{Directory, object, IsCreated, IsSame, SameBeside}
use Rattle.lethe_disk.specs.Disk.{Seen, Image, IsSynced}
use Rattle.lethe_disk.specs.Goes.{Goes}
use Rattle.lethe_disk.specs.Runs.{Leads}
use Rattle.lethe_disk.proofs.Going.{goes_leads}
use Rattle.lethe_disk.proofs.Moments.{leads_start}
use Rattle.lethe_disk.proofs.Objects.{absent_of, name_cases, object_inserted, object_beside_insert}
use Rattle.lethe_file.specs.Agreement.{page_name}
use Rattle.lethe_commit.specs.Clear.{ArePresent, IsCleared, remove_all}
use Rattle.lethe_commit.proofs.Removals.{cleared_absent, cleared_others}
use Rattle.lethe_stored.specs.Stored.{Stored, IsCoherent, IsCited, IsSpare}
use Rattle.lethe_stored.specs.Encodes.{Encodes, HasObject, AreSpare}
use Rattle.lethe_stored.proofs.Frame.{none_of, besides, fresh_spare}
use Rattle.lethe_stored.proofs.Lists.{all_from, from_map, in_map}
use Rattle.lethe_advance.specs.Settled.{IsSettled, HasOnly, AreDrawn, AreUncited, names_in}
use Rattle.lethe_advance.proofs.Names.{is_among, all_present}
use Rattle.lethe_loose.specs.Loose.{MayWrite, MayRemove}

true≢false : true ≡ false → ⊥
true≢false e = cc

-- a directory that a settled disk may leave encodes what is stored
image_encodes : (disk : Seen) (s : Stored) → IsSettled disk s → (d : Directory) → Image disk d → Encodes d s
image_encodes disk s settled d here = subst (λ x. Encodes x s) (sym (settled.synced d here)) settled.encodes

-- before the first device call
pub stays_settled : (disk : Seen) (s : Stored) → IsSettled disk s → Goes (λ c. Encodes c s) disk disk
stays_settled disk s settled = goes_leads (λ c. Encodes c s) IsSame disk disk (leads_start IsSame disk (λ d here. refl))
    (λ d c here same. subst (λ x. Encodes x s) (sym same) (image_encodes disk s settled d here))

-- Lists

pub zip_push : {X Y : Type 0} (xs : List X) (ys : List Y) (x : X) (y : Y) → length xs ≡ length ys → zip (xs ++ x ∷ []) (ys ++ y ∷ []) ≡ zip xs ys ++ (x, y) ∷ []
zip_push [] [] x y same = refl
zip_push [] (first ∷ ys) x y same = absurd (omega arith)
zip_push (first ∷ xs) [] x y same = absurd (omega arith)
zip_push (first ∷ xs) (head ∷ ys) x y same = ap (λ l. (first, head) ∷ l) (zip_push xs ys x y (omega arith))

-- what stands behind others
right_at : (xs ys : List Name) (d : Name) (j : ℕ) → get_or (xs ++ ys) (length xs + j) d ≡ get_or ys j d
right_at xs ys d j = get_or-append_right xs ys (length xs) (length xs + j) d refl (omega arith) ∙ ap (λ k. get_or ys k d) (omega arith)

-- A page under a number that hasn't been drawn

pub page_spare : (s : Stored) (number : ℕ) → IsCoherent s → s.manifest.next ≤ number → IsSpare s (page_name number)
page_spare s number coherent later = fresh_spare s (page_name number) coherent later (λ e. let clash : kinds.Page ≡ kinds.Gate = e in cc)

-- none that was drawn before has the number
drawn_apart : (number : ℕ) (names : List Name) → AreDrawn number names → (name : Name) → Contains names name → name ≢ page_name number
drawn_apart number names drawn name there same =
    let below = (All-contains (λ (n : Name). (n.kind ≡ kinds.Page) × (n.no < number)) names name drawn.each there).1 in
    let equal : name.no ≡ number = ap (λ (n : Name). n.no) same in
    omega (arith, below, equal)

names_more : (written : List (Name × List ℕ)) (name : Name) (bytes : List ℕ) → names_in (written ++ (name, bytes) ∷ []) ≡ names_in written ++ name ∷ []
names_more written name bytes = map-append (λ (named : Name × List ℕ). named.0) written ((name, bytes) ∷ [])

pub drawn_more : (written : List (Name × List ℕ)) (number : ℕ) (bytes : List ℕ) → AreDrawn number (names_in written) → AreDrawn (number + 1) (names_in (written ++ (page_name number, bytes) ∷ []))
drawn_more written number bytes drawn = subst (AreDrawn (number + 1)) (sym (names_more written (page_name number) bytes)) (record {
  each = All-push (λ (n : Name). (n.kind ≡ kinds.Page) × (n.no < number + 1)) (names_in written) (page_name number)
      (All-weaker (λ (n : Name). (n.kind ≡ kinds.Page) × (n.no < number)) (λ (n : Name). (n.kind ≡ kinds.Page) × (n.no < number + 1)) (λ n is. (is.0, let below = is.1 in omega (arith, below))) (names_in written) drawn.each)
      (refl, omega arith);
  once = all_pairs_push (λ a b. a ≢ b) (names_in written) (page_name number) drawn.once
      (λ k d lt. drawn_apart number (names_in written) drawn (get_or (names_in written) k d) (Contains-get_or (names_in written) k d lt));
})

pub uncited_more : (s : Stored) (written : List (Name × List ℕ)) (number : ℕ) (bytes : List ℕ) → IsCoherent s → s.manifest.next ≤ number → AreUncited s written → AreUncited s (written ++ (page_name number, bytes) ∷ [])
uncited_more s written number bytes coherent later uncited = All-push (λ (named : Name × List ℕ). IsCited s named.0 → ⊥) written (page_name number, bytes) uncited (page_spare s number coherent later).uncited

module _ (old : Seen) (s : Stored) (written : List (Name × List ℕ)) (number : ℕ) (may : MayWrite old s written number) where
  pub page_absent : object old.directory (page_name number) ≡ None
  page_absent = absent_of (object old.directory (page_name number)) (λ here. elim (may.only.only (page_name number) here) [
    | inl cited ↦ (page_spare s number may.settled.coherent may.later).uncited cited
    | inr among ↦ drawn_apart number (names_in written) may.drawn (page_name number) among refl
  ])

  spare : AreSpare s (page_name number ∷ [])
  spare name there = elim (first_or_rest (page_name number) [] name there) [
    | inl same ↦ subst (IsSpare s) same (page_spare s number may.settled.coherent may.later)
    | inr rest ↦ absurd (none_in name rest)
  ]

  module _ (new : Seen) where
    pub write_moments : Leads (IsCreated (page_name number)) old new → Goes (λ c. Encodes c s) old new
    write_moments run = goes_leads (λ c. Encodes c s) (IsCreated (page_name number)) old new run (λ d c here created.
        besides s d c (page_name number ∷ []) (image_encodes old s may.settled d here) spare (λ other none. created.others other none.0))

    module _ (bytes : List ℕ) (synced : IsSynced new) (done : new.directory ≡ insert old.directory (page_name number) bytes) where
      beside : (name : Name) → name ≢ page_name number → object new.directory name ≡ object old.directory name
      beside name ne = ap (λ d. object d name) done ∙ object_beside_insert old.directory (page_name number) bytes name ne

      page_there : object new.directory (page_name number) ≡ Some bytes
      page_there = ap (λ d. object d (page_name number)) done ∙ object_inserted old.directory (page_name number) bytes

      abbrev more : List (Name × List ℕ)
      more = written ++ (page_name number, bytes) ∷ []

      known : (name : Name) → IsSome (object new.directory name) → IsCited s name ⊎ Contains (names_in more) name
      known name here = elim (name_cases name (page_name number)) [
        | inl same ↦ inr (subst (λ l. Contains l name) (sym (names_more written (page_name number) bytes)) (subst (λ n. Contains (names_in written ++ n ∷ []) name) same (Contains-push (names_in written) name)))
        | inr ne ↦ elim (may.only.only name (sym (ap is_some (beside name ne)) ∙ here)) [
          | inl cited ↦ inl cited
          | inr among ↦ inr (subst (λ l. Contains l name) (sym (names_more written (page_name number) bytes)) (Contains-append_left (names_in written) (page_name number ∷ []) name among))
        ]
      ]

      kept_there : (named : Name × List ℕ) → Contains written named → HasObject new.directory named
      kept_there named among = beside named.0 (drawn_apart number (names_in written) may.drawn named.0 (in_map (λ (other : Name × List ℕ). other.0) written named among))
          ∙ All-contains (HasObject old.directory) written named may.only.there among

      pub settled_more : IsSettled new s × HasOnly s more new.directory
      settled_more = (
        record {
          synced = synced;
          coherent = may.settled.coherent;
          encodes = besides s old.directory new.directory (page_name number ∷ []) may.settled.encodes spare (λ other none. beside other none.0);
        },
        record {
          only = known;
          there = All-push (HasObject new.directory) written (page_name number, bytes) (all_from (HasObject new.directory) written kept_there) page_there;
        },
      )

-- Pages that are removed again

module _ (old : Seen) (s : Stored) (left written : List (Name × List ℕ)) (may : MayRemove old s left written) where
  abbrev names : List Name
  names = names_in written

  abbrev together : List (Name × List ℕ)
  together = left ++ written

  named_there : (name : Name) → Contains names name → IsSome (object old.directory name) × (IsCited s name → ⊥)
  named_there name among =
      let found = from_map (λ (named : Name × List ℕ). named.0) written name among in
      let inside = Contains-append_right left written found.0 found.1 in
      let both : IsSome (object old.directory found.0.0) × (IsCited s found.0.0 → ⊥) = (
        ap is_some (All-contains (HasObject old.directory) together found.0 may.only.there inside),
        All-contains (λ (named : Name × List ℕ). IsCited s named.0 → ⊥) together found.0 may.uncited inside,
      ) in
      subst (λ n. IsSome (object old.directory n) × (IsCited s n → ⊥)) found.2 both

  all_names : names_in together ≡ names_in left ++ names
  all_names = map-append (λ (named : Name × List ℕ). named.0) left written

  -- a page that stays isn't removed
  apart : (i j : ℕ) (d : Name) → i < length (names_in left) → j < length names → get_or (names_in left) i d ≢ get_or names j d
  apart i j d i_in j_in same = subst (AllPairs (λ a b. a ≢ b)) all_names may.once i (length (names_in left) + j) d (omega (arith, i_in)) (omega (arith, j_in, length-append (names_in left) names))
      (get_or_append_left (names_in left) names d i i_in ∙ same ∙ sym (right_at (names_in left) names d j))

  stays_out : (name : Name) → Contains (names_in left) name → Contains names name → ⊥
  stays_out name here there = apart here.0 there.0 name here.1 there.1 (here.2 ∙ sym there.2)

  written_once : AllPairs (λ a b. a ≢ b) names
  written_once i j d before within same = subst (AllPairs (λ a b. a ≢ b)) all_names may.once (length (names_in left) + i) (length (names_in left) + j) d (omega (arith, before)) (omega (arith, within, length-append (names_in left) names))
      (right_at (names_in left) names d i ∙ same ∙ sym (right_at (names_in left) names d j))

  pub pages_present : ArePresent names old.directory
  pages_present = all_present names old.directory written_once (λ name among. (named_there name among).0)

  -- no page is a greater gate, since there is none
  pages_spare : AreSpare s names
  pages_spare name among = record {
    uncited = (named_there name among).1;
    no_gate = λ k lt same. true≢false (sym (named_there name among).0 ∙ ap is_some (ap (object old.directory) same ∙ may.settled.encodes.greatest.1 k lt));
  }

  module _ (new : Seen) where
    pub remove_moments : Leads (IsCleared names) old new → Goes (λ c. Encodes c s) old new
    remove_moments run = goes_leads (λ c. Encodes c s) (IsCleared names) old new run (λ d c here cleared.
        besides s d c names (image_encodes old s may.settled d here) pages_spare cleared.others)

    module _ (synced : IsSynced new) (done : new.directory ≡ remove_all names old.directory) where
      beside_pages : SameBeside names old.directory new.directory
      beside_pages name none = ap (λ d. object d name) done ∙ cleared_others names old.directory name none

      known_alone : (name : Name) → IsSome (object new.directory name) → IsCited s name ⊎ Contains (names_in left) name
      known_alone name here = elim (is_among names name) [
        | inl among ↦ absurd (true≢false (sym here ∙ ap is_some (ap (λ d. object d name) done ∙ cleared_absent names among.0 name old.directory among.1 (sym among.2))))
        | inr out ↦ elim (may.only.only name (sym (ap is_some (beside_pages name (none_of names name out))) ∙ here)) [
          | inl cited ↦ inl cited
          | inr among ↦ elim (Contains-append_cases (names_in left) names name (subst (λ l. Contains l name) all_names among)) [
            | inl stays ↦ inr stays
            | inr goes ↦ absurd (out goes)
          ]
        ]
      ]

      left_there : (named : Name × List ℕ) → Contains left named → HasObject new.directory named
      left_there named among = beside_pages named.0 (none_of names named.0 (stays_out named.0 (in_map (λ (other : Name × List ℕ). other.0) left named among)))
          ∙ All-contains (HasObject old.directory) together named may.only.there (Contains-append_left left written named among)

      pub settled_alone : IsSettled new s × HasOnly s left new.directory
      settled_alone = (
        record {
          synced = synced;
          coherent = may.settled.coherent;
          encodes = besides s old.directory new.directory names may.settled.encodes pages_spare beside_pages;
        },
        record { only = known_alone; there = all_from (HasObject new.directory) left left_there },
      )
