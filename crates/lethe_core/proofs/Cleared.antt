-- The retired pages that no held pin names are removed, and those of the jobs in flight.
use Rattle.std.proofs.Common.{◌≡◌, ◌≢◌, ◌<◌, ◌≤◌, inl, inr, ℕ, Bool, true, false, cond, List, [], ◌∷◌, ◌++◌, append-nil, length, None, refl, sym, ap, ◌∙◌, subst, arith}
use Rattle.std.specs.Prelude.{All, AllPairs, Contains, IsTrue, filter, not}
use Rattle.std.proofs.lemmas.List.{map-append}
use Rattle.std.proofs.lemmas.List.Elements.{All-contains, All-filter, Contains-append_cases, Contains-append_left, Contains-append_right}
use Rattle.std.proofs.lemmas.List.Kept.{AllPairs-filter}
use Rattle.lethe_base.specs.declared.name.Kind.TheVariants.{Page}
use Rattle.lethe_base.specs.declared.name.Name.{Name}
use Rattle.lethe_cover.proofs.Lists.{all_from, in_map, map_from, pairs_append, pairs_from, pairs_parts, pairs_to}
use Rattle.lethe_disk.specs.Directory.{SameBeside, content}
use Rattle.lethe_disk.specs.Disk.{Image, Seen}
use Rattle.lethe_disk.specs.Goes.{Goes}
use Rattle.lethe_disk.proofs.Going.{goes_quiet}
use Rattle.lethe_disk.proofs.Quieting.{quiet_itself}
use Rattle.lethe_stored.specs.Encodes.{Encodes, HasObject}
use Rattle.lethe_stored.specs.Stored.{IsCited, Stored}
use Rattle.lethe_stored.proofs.Leveled.{from_filter, in_filter}
use Rattle.lethe_advance.specs.Settled.{AreDrawn, HasOnly, IsSettled, names_in}
use Rattle.lethe_loose.specs.Loose.{MayRemove}
use Rattle.lethe_pins.specs.Held.{is_named}
use Rattle.lethe_core.specs.Keeps.{Keeps}
use Rattle.lethe_core.specs.Pinned.{AreKept}
use Rattle.lethe_core.specs.Running.{Holds, IsSound}
use Rattle.lethe_core.specs.View.{View, beside_at, beside_in, loose_in, named_in}
use Rattle.lethe_core.proofs.Beside.{names_beside_at, names_named}
use Rattle.lethe_core.proofs.Removed.{all_drawn, named_kept, none_left_of, removed_holds, removed_keeps}

-- Lists in two parts

abbrev Other : Name → Name → Type 0
Other a b = a ≢ b

both_ways : (p : Name → Bool) (a b : Name) → p a ≡ true → not (p b) ≡ true → a ≢ b
both_ways p a b is isnt same = let clash : false ≡ true = sym (ap not (ap p (sym same) ∙ is)) ∙ isnt in cc

-- names of which each stands once stand so where some of them come first
parts_once : (p : Name → Bool) (xs ys : List Name) → AllPairs Other (xs ++ ys) → AllPairs Other (filter p xs ++ (filter (λ name. not (p name)) xs ++ ys))
parts_once p xs ys once =
    let q : Name → Bool = λ name. not (p name) in
    let parts = pairs_parts Other xs ys (pairs_from Other (xs ++ ys) once) in
    let own : AllPairs Other xs = pairs_to Other xs parts.0 in
    pairs_to Other (filter p xs ++ (filter q xs ++ ys)) (pairs_append Other (filter p xs) (filter q xs ++ ys) (pairs_from Other (filter p xs) (AllPairs-filter Other p xs own))
    (pairs_append Other (filter q xs) ys (pairs_from Other (filter q xs) (AllPairs-filter Other q xs own)) parts.1 (λ a b left right. parts.2 a b (from_filter q xs a left).0 right))
    (λ a b left right. elim (Contains-append_cases (filter q xs) ys b right) [
      | inl apart ↦ both_ways p a b (from_filter p xs a left).1 (from_filter q xs b apart).1
      | inr rest ↦ parts.2 a b (from_filter p xs a left).0 rest
    ]))

-- where none of the others is there, all stay
pub all_stay : (p : Name → Bool) (xs : List Name) → filter (λ name. not (p name)) xs ≡ [] → filter p xs ≡ xs
all_stay p [] none = refl
all_stay p (x ∷ xs) none = by (p x) refl (all_stay p xs) none
  where
    by : (b : Bool) → p x ≡ b → (filter (λ name. not (p name)) xs ≡ [] → filter p xs ≡ xs) → cond (not b) (x ∷ filter (λ name. not (p name)) xs) (filter (λ name. not (p name)) xs) ≡ []
        → filter p (x ∷ xs) ≡ x ∷ xs
    by true is rest none = ap (λ b. cond b (x ∷ filter p xs) (filter p xs)) is ∙ ap (λ l. x ∷ l) (rest none)
    by false is rest none = absurd (let clash : x ∷ filter (λ name. not (p name)) xs ≡ [] = none in cc)

-- and where all of them stay, none of the others is there
pub none_goes : (p : Name → Bool) (xs : List Name) → All (λ name. IsTrue (p name)) xs → filter (λ name. not (p name)) xs ≡ []
none_goes p xs all = by (filter (λ name. not (p name)) xs) refl
  where
    by : (l : List Name) → filter (λ name. not (p name)) xs ≡ l → l ≡ []
    by [] is = refl
    by (name ∷ l) is =
        let there = from_filter (λ name. not (p name)) xs name (subst (λ l. Contains l name) (sym is) (0, omega arith, refl)) in
        absurd (both_ways p name name (All-contains (λ name. IsTrue (p name)) xs name all there.0) there.1 refl)

pub none_left : {X : Type 0} (xs ys : List X) → xs ++ ys ≡ [] → (xs ≡ []) × (ys ≡ [])
none_left [] ys none = (refl, none)
none_left (x ∷ xs) ys none = absurd (let clash : x ∷ (xs ++ ys) ≡ [] = none in cc)

no_length : {X : Type 0} (xs : List X) → length xs ≡ 0 → xs ≡ []
no_length [] none = refl
no_length (x ∷ xs) none = absurd (omega (arith, none))

nothing_named : (objects : List (Name × List ℕ)) → names_in objects ≡ [] → objects ≡ []
nothing_named [] none = refl
nothing_named (named ∷ objects) none = absurd (let clash : named.0 ∷ names_in objects ≡ [] = none in cc)

-- What stays and what goes

module _ (Tells : Type 0) (old : View) (sound : IsSound Tells old) where
  abbrev needs : Name → Bool
  needs name = is_named old.pins.pins name

  abbrev pub stay : List Name
  stay = filter (is_named old.pins.pins) old.retired

  abbrev pub free : List Name
  free = filter (λ name. not (is_named old.pins.pins name)) old.retired

  abbrev pub gone : List (Name × List ℕ)
  gone = named_in old.disk.directory free ++ loose_in old.flights

  abbrev pub left : List (Name × List ℕ)
  left = named_in old.disk.directory stay

  abbrev object_at : Name → Name × List ℕ
  object_at name = (name, content old.disk.directory name)

  pub names_gone : names_in gone ≡ free ++ names_in (loose_in old.flights)
  names_gone = names_beside_at old.disk.directory free old.flights

  -- where there are no names to remove
  pub nothing_goes : (names : List Name) → names ≡ free ++ names_in (loose_in old.flights) → length names ≡ 0 → names_in gone ≡ []
  nothing_goes names same none = names_gone ∙ sym same ∙ no_length names none

  stay_was : (name : Name) → Contains stay name → Contains old.retired name
  stay_was name there = (from_filter needs old.retired name there).0

  stay_needed : (name : Name) → IsTrue (is_named old.pins.pins name) → Contains old.retired name → Contains stay name
  stay_needed name named there = in_filter needs old.retired name there named

  stay_drawn : Tells → AreDrawn old.state.next (stay ++ [])
  stay_drawn told =
      let all = all_drawn Tells old sound told in
      subst (AreDrawn old.state.next) (sym (append-nil stay)) (record { each = All-filter needs (λ (name : Name). (name.kind ≡ Page) × (name.no < old.state.next)) old.retired all.each; once = AllPairs-filter Other needs old.retired all.once })

  left_is : left ≡ beside_at old.disk.directory stay []
  left_is = sym (append-nil left)

  -- each page that lies beside what is stored stays or goes
  to_parts : (named : Name × List ℕ) → Contains (beside_in old) named → Contains (left ++ gone) named
  to_parts named there = elim (Contains-append_cases (named_in old.disk.directory old.retired) (loose_in old.flights) named there) [
    | inl retired ↦
        let from = map_from object_at old.retired named retired in
        subst (Contains (left ++ gone)) from.2 (by from.0 from.1 (needs from.0) refl)
    | inr written ↦ Contains-append_right left gone named (Contains-append_right (named_in old.disk.directory free) (loose_in old.flights) named written)
  ]
    where
      by : (name : Name) → Contains old.retired name → (b : Bool) → needs name ≡ b → Contains (left ++ gone) (object_at name)
      by name there true is = Contains-append_left left gone (object_at name) (in_map object_at stay name (in_filter needs old.retired name there is))
      by name there false is = Contains-append_right left gone (object_at name) (Contains-append_left (named_in old.disk.directory free) (loose_in old.flights) (object_at name)
          (in_map object_at free name (in_filter (λ name. not (needs name)) old.retired name there (ap not is))))

  from_parts : (named : Name × List ℕ) → Contains (left ++ gone) named → Contains (beside_in old) named
  from_parts named there = elim (Contains-append_cases left gone named there) [
    | inl stays ↦ let from = map_from object_at stay named stays in filed named from.0 (from_filter needs old.retired from.0 from.1).0 from.2
    | inr goes ↦ elim (Contains-append_cases (named_in old.disk.directory free) (loose_in old.flights) named goes) [
      | inl retired ↦ let from = map_from object_at free named retired in filed named from.0 (from_filter (λ name. not (needs name)) old.retired from.0 from.1).0 from.2
      | inr written ↦ Contains-append_right (named_in old.disk.directory old.retired) (loose_in old.flights) named written
    ]
  ]
    where
      filed : (named : Name × List ℕ) (name : Name) → Contains old.retired name → object_at name ≡ named → Contains (beside_in old) named
      filed named name there same = subst (Contains (beside_in old)) same
          (Contains-append_left (named_in old.disk.directory old.retired) (loose_in old.flights) (object_at name) (in_map object_at old.retired name there))

  names_to : (name : Name) → Contains (names_in (beside_in old)) name → Contains (names_in (left ++ gone)) name
  names_to name there =
      let from = map_from (λ (named : Name × List ℕ). named.0) (beside_in old) name there in
      subst (Contains (names_in (left ++ gone))) from.2 (in_map (λ (named : Name × List ℕ). named.0) (left ++ gone) from.0 (to_parts from.0 from.1))

  names_parted : names_in (left ++ gone) ≡ stay ++ (free ++ names_in (loose_in old.flights))
  names_parted = map-append (λ (named : Name × List ℕ). named.0) left gone ∙ (λ i. names_named old.disk.directory stay i ++ names_gone i)

  pub may_clear : Tells → (s : Stored) → Holds old s → MayRemove old.disk s left gone
  may_clear told s holds =
      let only = holds.running.only in
      record {
        settled = holds.running.settled;
        only = record {
          only = λ name some. elim (only.only name some) [ inl cited ↦ inl cited | inr there ↦ inr (names_to name there) ];
          there = all_from (HasObject old.disk.directory) (left ++ gone) (λ named there. All-contains (HasObject old.disk.directory) (beside_in old) named only.there (from_parts named there));
        };
        uncited = all_from (λ (named : Name × List ℕ). IsCited s named.0 → ⊥) (left ++ gone)
            (λ named there. All-contains (λ (named : Name × List ℕ). IsCited s named.0 → ⊥) (beside_in old) named holds.running.uncited (from_parts named there));
        once = subst (AllPairs Other) (sym names_parted) (parts_once needs old.retired (names_in (loose_in old.flights)) (sound.drawn told).once);
      }

  -- whether they went or not, what pins name is as it was
  pub cleared_kept : (runs : old.state.stopped ≡ None) (disk : Seen) → (Tells → SameBeside (names_in gone) old.disk.directory disk.directory) → Tells → AreKept old.pins.pins old.disk.directory disk.directory
  cleared_kept runs disk others = named_kept Tells old sound runs stay [] left gone left_is disk may_clear others stay_needed

  module _ (runs : old.state.stopped ≡ None) (disk : Seen) (faults : ℕ) (here : Tells → Image old.disk old.disk.directory)
      (done : Tells → (s : Stored) → MayRemove old.disk s left gone → IsSettled disk s × HasOnly s left disk.directory) (others : Tells → SameBeside (names_in gone) old.disk.directory disk.directory) where
    abbrev cleared : View
    cleared = record old { disk = disk; faults = faults; flights = []; retired = stay }

    pub cleared_holds : Tells → (s : Stored) → Holds old s → Holds cleared s
    cleared_holds = removed_holds Tells old sound runs stay [] left gone left_is (none_left_of old.flights) disk faults here stay_was stay_needed stay_drawn may_clear done others

    pub cleared_keeps : (Tells → (s : Stored) → MayRemove old.disk s left gone → Goes (λ c. Encodes c s) old.disk disk) → old.faults ≤ faults → Keeps Tells old cleared None
    cleared_keeps = removed_keeps Tells old sound runs stay [] left gone left_is (none_left_of old.flights) disk faults here stay_was stay_needed stay_drawn may_clear done others

  -- where nothing goes, the disk is as it was
  module _ (runs : old.state.stopped ≡ None) (here : Tells → Image old.disk old.disk.directory) (none : names_in gone ≡ []) where
    pub stays_same : stay ≡ old.retired
    stays_same = all_stay needs old.retired (none_left free (names_in (loose_in old.flights)) (sym names_gone ∙ none)).0

    done_so : Tells → (s : Stored) → MayRemove old.disk s left gone → IsSettled old.disk s × HasOnly s left old.disk.directory
    done_so told s may = (may.settled, subst (λ l. HasOnly s l old.disk.directory) (ap (λ l. left ++ l) (nothing_named gone none) ∙ append-nil left) may.only)

    goes_so : Tells → (s : Stored) → MayRemove old.disk s left gone → Goes (λ c. Encodes c s) old.disk old.disk
    goes_so told s may = goes_quiet (λ c. Encodes c s) old.disk old.disk (quiet_itself old.disk) (λ c at. subst (λ d. Encodes d s) (sym (may.settled.synced c at)) may.settled.encodes)

    pub idle_holds : Tells → (s : Stored) → Holds old s → Holds (record old { flights = [] }) s
    idle_holds told s holds = subst (λ retired. Holds (record old { flights = []; retired = retired }) s) stays_same
        (cleared_holds runs old.disk old.faults here done_so (λ told name out. refl) told s holds)

    pub idle_keeps : Keeps Tells old (record old { flights = [] }) None
    idle_keeps = subst (λ retired. Keeps Tells old (record old { flights = []; retired = retired }) None) stays_same
        (cleared_keeps runs old.disk old.faults here done_so (λ told name out. refl) goes_so (omega arith))
