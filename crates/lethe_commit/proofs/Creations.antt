-- The images of a disk through a run of creations, and what is there after it.
use Rattle.std.proofs.Common.{◌≡◌, ◌≢◌, ◌<◌, inl, inr, ℕ, zero, suc, ◌+◌, List, [], ◌∷◌, ◌++◌, map, length, take, get_or, Some, None, refl, sym, ◌∙◌, ap, subst, arith}
use Rattle.std.specs.Prelude.{Result, is_some, Contains}
use Rattle.std.proofs.lemmas.List.{take_more, get_or-map, length-map}
use Rattle.std.specs.FinMap.{insert, remove}
use Rattle.lethe_base.specs.declared.name.Name.{Name}
use Rattle.lethe_disk.specs.declared.disk.DiskRefused.{DiskRefused}
use Rattle.lethe_disk.specs.Directory.{Directory, object, IsNoneOf, SameBeside, IsCreated, IsSame}
use Rattle.lethe_disk.specs.Disk.{Seen, Image, IsSynced, Takes}
use Rattle.lethe_disk.specs.Runs.{Leads, After}
use Rattle.lethe_disk.proofs.Objects.{name_cases, object_inserted, object_beside_insert, object_removed, object_beside_remove, same_directory}
use Rattle.lethe_disk.proofs.Moments.{after_start, after_call, after_same, leads_leads}
use Rattle.lethe_commit.specs.declared.objects.Object.{Object}
use Rattle.lethe_commit.specs.Clear.{ArePresent, remove_all, IsCleared}
use Rattle.lethe_commit.specs.Place.{name_of, AreAbsent, insert_all}
use Rattle.lethe_commit.specs.Switch.{IsTakenBack}
use Rattle.lethe_commit.proofs.Removals.{leads_now}

-- What is there once they are made

-- an object of another name is as it was
pub object_beside_all : (objects : List Object) (directory : Directory) (other : Name) → IsNoneOf (map name_of objects) other → object (insert_all objects directory) other ≡ object directory other
object_beside_all [] directory other none = refl
object_beside_all (first ∷ rest) directory other none = object_beside_all rest (insert directory first.name first.bytes) other none.1 ∙ object_beside_insert directory first.name first.bytes other none.0

-- none is there, and each name is none of those behind it
AreNew : List Object → Directory → Type 0
AreNew [] directory = Unit {0}
AreNew (first ∷ rest) directory = (object directory first.name ≡ None) × IsNoneOf (map name_of rest) first.name × AreNew rest directory

none_of : (objects : List Object) (name : Name) → ((i : ℕ) (d : Object) → i < length objects → name ≢ (get_or objects i d).name) → IsNoneOf (map name_of objects) name
none_of [] name each = tt
none_of (first ∷ rest) name each = (each 0 first (omega arith), none_of rest name (λ i d lt. each (suc i) d (omega arith)))

from_absent : (objects : List Object) (directory : Directory) → AreAbsent objects directory → AreNew objects directory
unfolding AreNew
from_absent [] directory absent = tt
from_absent (first ∷ rest) directory absent = (
  absent.each 0 first (omega arith),
  none_of rest first.name (λ i d lt. absent.apart 0 (suc i) d (omega arith) (omega arith)),
  from_absent rest directory (record {
    each = λ i d lt. absent.each (suc i) d (omega arith);
    apart = λ i j d lt within. absent.apart (suc i) (suc j) d (omega arith) (omega arith);
  }),
)

other_at : (objects : List Object) (i : ℕ) (item : Object) (other : Name) → i < length objects → item ≡ get_or objects i item → IsNoneOf (map name_of objects) other → other ≢ item.name
other_at [] i item other lt is none e = absurd (omega arith)
other_at (first ∷ rest) zero item other lt is none e = none.0 (e ∙ ap name_of is)
other_at (first ∷ rest) (suc i) item other lt is none e = other_at rest i item other (omega arith) is none.1 e

new_among : (objects : List Object) (directory : Directory) (i : ℕ) (item : Object) → i < length objects → item ≡ get_or objects i item → AreNew objects directory → object (insert_all objects directory) item.name ≡ Some item.bytes
unfolding AreNew
new_among [] directory i item lt is new = absurd (omega arith)
new_among (first ∷ rest) directory zero item lt is new =
    ap (λ (made : Object). object (insert_all rest (insert directory first.name first.bytes)) made.name) is
    ∙ object_beside_all rest (insert directory first.name first.bytes) first.name new.1
    ∙ object_inserted directory first.name first.bytes
    ∙ sym (ap (λ (made : Object). Some made.bytes) is)
new_among (first ∷ rest) directory (suc i) item lt is new = new_among rest (insert directory first.name first.bytes) i item (omega arith) is (later rest new.1 new.2)
  where
    later : (objects : List Object) → IsNoneOf (map name_of objects) first.name → AreNew objects directory → AreNew objects (insert directory first.name first.bytes)
    later [] none so = tt
    later (next ∷ objects) none so = (
      object_beside_insert directory first.name first.bytes next.name (λ e. none.0 (sym e)) ∙ so.0,
      so.1,
      later objects none.1 so.2,
    )

-- each of them has its bytes
pub object_among_all : (objects : List Object) (directory : Directory) (i : ℕ) (item : Object) → i < length objects → item ≡ get_or objects i item → AreAbsent objects directory → object (insert_all objects directory) item.name ≡ Some item.bytes
object_among_all objects directory i item lt is absent = new_among objects directory i item lt is (from_absent objects directory absent)

pub object_contained : (objects : List Object) (directory : Directory) (item : Object) → Contains objects item → AreAbsent objects directory → object (insert_all objects directory) item.name ≡ Some item.bytes
object_contained objects directory item there absent = object_among_all objects directory there.0 item there.1 (sym there.2) absent

-- The next one

insert_all-push : (objects : List Object) (directory : Directory) (item : Object) → insert_all (objects ++ item ∷ []) directory ≡ insert (insert_all objects directory) item.name item.bytes
insert_all-push [] directory item = refl
insert_all-push (first ∷ rest) directory item = insert_all-push rest (insert directory first.name first.bytes) item

insert_all-more : (objects : List Object) (directory : Directory) (i : ℕ) (item : Object) → i < length objects → item ≡ get_or objects i item → insert_all (take (i + 1) objects) directory ≡ insert (insert_all (take i objects) directory) item.name item.bytes
insert_all-more objects directory i item lt is =
    ap (λ l. insert_all l directory) (take_more objects i item lt ∙ ap (λ made. take i objects ++ made ∷ []) (sym is)) ∙ insert_all-push (take i objects) directory item

new_next : (objects : List Object) (directory : Directory) (i : ℕ) (item : Object) → i < length objects → item ≡ get_or objects i item → AreNew objects directory → object (insert_all (take i objects) directory) item.name ≡ None
unfolding AreNew
new_next objects directory i item lt is new = object_beside_all (take i objects) directory item.name (before objects i lt is new) ∙ absent objects i lt is new
  where
    absent : (objects : List Object) (i : ℕ) → i < length objects → item ≡ get_or objects i item → AreNew objects directory → object directory item.name ≡ None
    absent [] i lt is new = absurd (omega arith)
    absent (first ∷ rest) zero lt is new = ap (λ (made : Object). object directory made.name) is ∙ new.0
    absent (first ∷ rest) (suc i) lt is new = absent rest i (omega arith) is new.2

    before : (objects : List Object) (i : ℕ) → i < length objects → item ≡ get_or objects i item → AreNew objects directory → IsNoneOf (map name_of (take i objects)) item.name
    before [] i lt is new = absurd (omega arith)
    before (first ∷ rest) zero lt is new = tt
    before (first ∷ rest) (suc i) lt is new = (λ e. other_at rest i item first.name (omega arith) is new.1 (sym e), before rest i (omega arith) is new.2)

pub next_is_absent : (objects : List Object) (directory now : Directory) (i : ℕ) (item : Object) → i < length objects → item ≡ get_or objects i item → AreAbsent objects directory → now ≡ insert_all (take i objects) directory → object now item.name ≡ None
next_is_absent objects directory now i item lt is absent so_far =
    ap (λ x. object x item.name) so_far ∙ new_next objects directory i item lt is (from_absent objects directory absent)

-- What was made is removed again

agrees : (objects : List Object) (a b : Directory) (other : Name) → object a other ≡ object b other → object (insert_all objects a) other ≡ object (insert_all objects b) other
agrees [] a b other same = same
agrees (first ∷ rest) a b other same = agrees rest (insert a first.name first.bytes) (insert b first.name first.bytes) other (elim (name_cases other first.name) [
  | inl is ↦ ap (object (insert a first.name first.bytes)) is ∙ object_inserted a first.name first.bytes ∙ sym (ap (object (insert b first.name first.bytes)) is ∙ object_inserted b first.name first.bytes)
  | inr ne ↦ object_beside_insert a first.name first.bytes other ne ∙ same ∙ sym (object_beside_insert b first.name first.bytes other ne)
])

removed_first : (first : Object) (rest : List Object) (directory : Directory) → object directory first.name ≡ None → IsNoneOf (map name_of rest) first.name
    → remove (insert_all (first ∷ rest) directory) first.name ≡ insert_all rest directory
removed_first first rest directory absent none = same_directory _ _ (λ other. elim (name_cases other first.name) as (λ _. object (remove (insert_all (first ∷ rest) directory) first.name) other ≡ object (insert_all rest directory) other) [
  | inl is ↦ ap (object (remove (insert_all (first ∷ rest) directory) first.name)) is ∙ object_removed (insert_all (first ∷ rest) directory) first.name
      ∙ sym (ap (object (insert_all rest directory)) is ∙ object_beside_all rest directory first.name none ∙ absent)
  | inr ne ↦ object_beside_remove (insert_all (first ∷ rest) directory) first.name other ne
      ∙ agrees rest (insert directory first.name first.bytes) directory other (object_beside_insert directory first.name first.bytes other ne)
])

record IsUndone (objects : List Object) (directory : Directory) : Type 0 where
  present : ArePresent (map name_of objects) (insert_all objects directory)
  gone : remove_all (map name_of objects) (insert_all objects directory) ≡ directory

undone : (objects : List Object) (directory : Directory) → AreNew objects directory → IsUndone objects directory
unfolding AreNew
undone [] directory new = record { present = tt; gone = refl }
undone (first ∷ rest) directory new =
    let more = undone rest directory new.2 in
    let less = removed_first first rest directory new.0 new.1 in
    record {
      present = (
        ap is_some (object_beside_all rest (insert directory first.name first.bytes) first.name new.1 ∙ object_inserted directory first.name first.bytes),
        subst (ArePresent (map name_of rest)) (sym less) more.present,
      );
      gone = ap (remove_all (map name_of rest)) less ∙ more.gone;
    }

none_take : (objects : List Object) (i : ℕ) (other : Name) → IsNoneOf (map name_of objects) other → IsNoneOf (map name_of (take i objects)) other
none_take [] zero other none = tt
none_take [] (suc i) other none = tt
none_take (next ∷ objects) zero other none = tt
none_take (next ∷ objects) (suc i) other none = (none.0, none_take objects i other none.1)

new_take : (objects : List Object) (directory : Directory) (i : ℕ) → AreNew objects directory → AreNew (take i objects) directory
unfolding AreNew
new_take [] directory zero new = tt
new_take [] directory (suc i) new = tt
new_take (first ∷ rest) directory zero new = tt
new_take (first ∷ rest) directory (suc i) new = (new.0, none_take rest i first.name new.1, new_take rest directory i new.2)

-- The run

-- so many of them are made
pub record IsCreatedTo (objects : List Object) (i : ℕ) (old now : Seen) : Type 0 where
  pub run : After (SameBeside (map name_of objects)) (SameBeside (map name_of objects)) old now
  pub so_far : now.directory ≡ insert_all (take i objects) old.directory
  pub moment : now.moment ≡ old.moment + i

pub at_start : (objects : List Object) (old : Seen) → IsCreatedTo objects 0 old old
at_start objects old = record {
  run = after_start (SameBeside (map name_of objects)) (SameBeside (map name_of objects)) old (λ d here other none. refl) (λ d c here so. so);
  so_far = refl;
  moment = omega arith;
}

-- a creation, whatever was answered
pub after_creation : {T : Type 0} (objects : List Object) (i : ℕ) (item : Object) (result : Result T DiskRefused) (old mid now : Seen) → i < length objects → item ≡ get_or objects i item → IsCreatedTo objects i old mid → Takes (IsCreated item.name) result mid now
    → After (SameBeside (map name_of objects)) (SameBeside (map name_of objects)) old now
after_creation objects i item result old mid now lt is made call =
    after_call (SameBeside (map name_of objects)) (SameBeside (map name_of objects)) (SameBeside (map name_of objects)) (IsCreated item.name) result old mid now made.run call
    (λ d e c here was step other none. step.others other (other_at objects i item other lt is none) ∙ was other none) (λ d c here so. so)

pub one_more : {T : Type 0} (objects : List Object) (i : ℕ) (item : Object) (bytes : List ℕ) (result : Result T DiskRefused) (old mid now : Seen) → i < length objects → item ≡ get_or objects i item → bytes ≡ item.bytes → IsCreatedTo objects i old mid → Takes (IsCreated item.name) result mid now
    → now.directory ≡ insert mid.directory item.name bytes → now.moment ≡ mid.moment + 1 → IsCreatedTo objects (i + 1) old now
one_more objects i item bytes result old mid now lt is own made call done counted = record {
  run = after_creation objects i item result old mid now lt is made call;
  so_far = done ∙ ap (insert mid.directory item.name) own ∙ ap (λ x. insert x item.name item.bytes) made.so_far ∙ sym (insert_all-more objects old.directory i item lt is);
  moment = omega (arith, counted, made.moment);
}

-- and a sync behind them
pub after_sync : {T : Type 0} (names : List Name) (result : Result T DiskRefused) (old mid now : Seen) → Leads (SameBeside names) old mid → Takes IsSame result mid now → Leads (SameBeside names) old now
after_sync names result old mid now run call = (after_same (SameBeside names) (SameBeside names) result old mid now (record { each = run; last = leads_now (SameBeside names) old mid run }) call (λ d c here so. so)).each

-- Where there was no memory for the next

module _ (objects : List Object) (i : ℕ) (old mid : Seen) where
  pub after_taking_back : (now : Seen) → Leads (SameBeside (map name_of objects)) old mid → Leads (IsCleared (map name_of (take i objects))) mid now → Leads (SameBeside (map name_of objects)) old now
  after_taking_back now first second =
      leads_leads (SameBeside (map name_of objects)) (IsCleared (map name_of (take i objects))) (SameBeside (map name_of objects)) old mid now first second (λ d c so. so)
      (λ d e c here so cleared other none. cleared.others other (none_take objects i other none) ∙ so other none)

  module _ (absent : AreAbsent objects old.directory) (so_far : mid.directory ≡ insert_all (take i objects) old.directory) where
    back : IsUndone (take i objects) old.directory
    back = undone (take i objects) old.directory (new_take objects old.directory i (from_absent objects old.directory absent))

    pub all_present : ArePresent (map name_of (take i objects)) mid.directory
    all_present = subst (ArePresent (map name_of (take i objects))) (sym so_far) back.present

    pub taken_back : (gone now : Seen) → Image old old.directory → gone.directory ≡ remove_all (map name_of (take i objects)) mid.directory → now.directory ≡ gone.directory → IsSynced now → IsTakenBack old now
    taken_back gone now here removed kept synced =
        let same : now.directory ≡ old.directory = kept ∙ removed ∙ ap (remove_all (map name_of (take i objects))) so_far ∙ back.gone in
        record { directory = same; images = λ c there. subst (Image old) (sym (synced c there ∙ same)) here }

-- The objects' names, as a loop over them reads them

pub name_within : (objects : List Object) (i : ℕ) → i < length objects → i < length (map name_of objects)
name_within objects i lt = omega (arith, length-map objects name_of)

pub name_at_map : (objects : List Object) (i : ℕ) (item : Object) → i < length objects → item ≡ get_or objects i item → item.name ≡ get_or (map name_of objects) i item.name
name_at_map objects i item lt is = ap name_of is ∙ sym (get_or-map name_of objects i item item.name lt)
