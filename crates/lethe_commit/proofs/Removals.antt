-- The images of a disk through a run of removals.
use Rattle.std.proofs.Common.{◌≡◌, ◌≢◌, ◌≤◌, ◌<◌, ◌⊎◌, inl, inr, ℕ, zero, suc, ◌+◌, List, [], ◌∷◌, length, drop, get_or, None, refl, sym, ◌∙◌, ap, subst, arith}
use Rattle.std.specs.Prelude.{Result, IsSome}
use Rattle.std.proofs.lemmas.List.{drop_more, drop_all}
use Rattle.std.specs.FinMap.{remove}
use Rattle.lethe_base.specs.declared.name.Kind.TheVariants.{Gate}
use Rattle.lethe_base.specs.declared.name.Name.{Name}
use Rattle.lethe_disk.specs.declared.disk.DiskRefused.{DiskRefused}
use Rattle.lethe_disk.specs.Directory.{Directory, object, IsNoneOf, IsRemoved, IsSame}
use Rattle.lethe_disk.specs.Disk.{Seen, Takes}
use Rattle.lethe_disk.specs.Runs.{Leads, Now, After}
use Rattle.lethe_disk.proofs.Objects.{name_cases, object_removed, object_beside_remove}
use Rattle.lethe_disk.proofs.Moments.{after_start, after_call, after_same}
use Rattle.lethe_commit.specs.Clear.{ArePresent, remove_all, IsCleared}

-- What a clear leaves in the end

-- none of these objects is there
pub all_absent : (names : List Name) (directory : Directory) (name : Name) → object directory name ≡ None → object (remove_all names directory) name ≡ None
all_absent [] directory name none = none
all_absent (first ∷ names) directory name none = all_absent names (remove directory first) name (elim (name_cases name first) [
  | inl same ↦ ap (object (remove directory first)) same ∙ object_removed directory first
  | inr ne ↦ object_beside_remove directory first name ne ∙ none
])

pub cleared_absent : (names : List Name) (i : ℕ) (name : Name) (directory : Directory) → i < length names → name ≡ get_or names i name → object (remove_all names directory) name ≡ None
cleared_absent [] i name directory lt is = absurd (omega arith)
cleared_absent (first ∷ names) zero name directory lt is = all_absent names (remove directory first) name (ap (object (remove directory first)) is ∙ object_removed directory first)
cleared_absent (first ∷ names) (suc i) name directory lt is = cleared_absent names i name (remove directory first) (omega arith) is

-- and every other is as it was
pub cleared_others : (names : List Name) (directory : Directory) (other : Name) → IsNoneOf names other → object (remove_all names directory) other ≡ object directory other
cleared_others [] directory other none = refl
cleared_others (first ∷ names) directory other none = cleared_others names (remove directory first) other none.1 ∙ object_beside_remove directory first other none.0

-- what a run leaves at its end
pub leads_now : (R : Directory → Directory → Type 0) (old new : Seen) → Leads R old new → Now R old new
leads_now R old new run c here = run.each new.moment c run.later (omega arith) here

-- One removal after the other

-- so many of them are gone
pub record IsClearedTo (names : List Name) (i : ℕ) (old now : Seen) : Type 0 where
  pub run : After (IsCleared names) (IsCleared names) old now
  pub present : ArePresent (drop i names) now.directory
  pub so_far : remove_all names old.directory ≡ remove_all (drop i names) now.directory
  pub moment : now.moment ≡ old.moment + i

none_at : (names : List Name) (i : ℕ) (name other : Name) → i < length names → name ≡ get_or names i name → IsNoneOf names other → other ≢ name
none_at [] i name other lt is none e = absurd (omega arith)
none_at (first ∷ names) zero name other lt is none e = none.0 (e ∙ is)
none_at (first ∷ names) (suc i) name other lt is none e = none_at names i name other (omega arith) is none.1 e

pub at_start : (names : List Name) (old : Seen) → ArePresent names old.directory → IsClearedTo names 0 old old
at_start names old present = record {
  run = after_start (IsCleared names) (IsCleared names) old (λ d here. record { others = λ other none. refl; either = λ name. inr refl }) (λ d c here cleared. cleared);
  present = present;
  so_far = refl;
  moment = omega arith;
}

next_present : (names : List Name) (i : ℕ) (name : Name) (directory : Directory) → i < length names → name ≡ get_or names i name → ArePresent (drop i names) directory → IsSome (object directory name) × ArePresent (drop (i + 1) names) (remove directory name)
next_present names i name directory lt is present = subst (λ l. ArePresent l directory) (drop_more names i name lt ∙ ap (λ n. n ∷ drop (i + 1) names) (sym is)) present

pub is_there : (names : List Name) (i : ℕ) (name : Name) (old now : Seen) → i < length names → name ≡ get_or names i name → IsClearedTo names i old now → IsSome (object now.directory name)
is_there names i name old now lt is cleared = (next_present names i name now.directory lt is cleared.present).0

then_removed : (name : Name) (d e c : Directory) (other : Name) → IsRemoved name e c → (object e other ≡ None) ⊎ (object e other ≡ object d other) → (object c other ≡ None) ⊎ (object c other ≡ object d other)
then_removed name d e c other step before = elim (name_cases other name) [
  | inl same ↦ elim step.either [
    | inl gone ↦ inl (ap (object c) same ∙ gone)
    | inr left ↦ as_before (ap (object c) same ∙ left ∙ sym (ap (object e) same)) before
  ]
  | inr ne ↦ as_before (step.others other ne) before
]
  where
    as_before : object c other ≡ object e other → (object e other ≡ None) ⊎ (object e other ≡ object d other) → (object c other ≡ None) ⊎ (object c other ≡ object d other)
    as_before is (inl none) = inl (is ∙ none)
    as_before is (inr same) = inr (is ∙ same)

-- a removal, whatever was answered
pub after_removal : {T : Type 0} (names : List Name) (i : ℕ) (name : Name) (result : Result T DiskRefused) (old mid now : Seen) → i < length names → name ≡ get_or names i name → IsClearedTo names i old mid → Takes (IsRemoved name) result mid now
    → After (IsCleared names) (IsCleared names) old now
after_removal names i name result old mid now lt is cleared call =
    after_call (IsCleared names) (IsCleared names) (IsCleared names) (IsRemoved name) result old mid now cleared.run call (λ d e c here was step. record {
      others = λ other none. step.others other (none_at names i name other lt is none) ∙ was.others other none;
      either = λ other. then_removed name d e c other step (was.either other);
    }) (λ d c here so. so)

pub one_more : {T : Type 0} (names : List Name) (i : ℕ) (name : Name) (result : Result T DiskRefused) (old mid now : Seen) → i < length names → name ≡ get_or names i name → IsClearedTo names i old mid → Takes (IsRemoved name) result mid now
    → now.directory ≡ remove mid.directory name → now.moment ≡ mid.moment + 1 → IsClearedTo names (i + 1) old now
one_more names i name result old mid now lt is cleared call done counted = record {
  run = after_removal names i name result old mid now lt is cleared call;
  present = subst (ArePresent (drop (i + 1) names)) (sym done) (next_present names i name mid.directory lt is cleared.present).1;
  so_far = cleared.so_far ∙ ap (λ l. remove_all l mid.directory) (drop_more names i name lt ∙ ap (λ n. n ∷ drop (i + 1) names) (sym is)) ∙ ap (remove_all (drop (i + 1) names)) (sym done);
  moment = omega (arith, counted, cleared.moment);
}

-- a sync behind them
pub after_sync : {T : Type 0} (names : List Name) (result : Result T DiskRefused) (old mid now : Seen) → Leads (IsCleared names) old mid → Takes IsSame result mid now → Leads (IsCleared names) old now
after_sync names result old mid now run call = (after_same (IsCleared names) (IsCleared names) result old mid now (record { each = run; last = leads_now (IsCleared names) old mid run }) call (λ d c here so. so)).each

pub all_gone : (names : List Name) (i : ℕ) (old mid : Seen) → length names ≤ i → IsClearedTo names i old mid → mid.directory ≡ remove_all names old.directory
all_gone names i old mid le cleared = sym (cleared.so_far ∙ ap (λ l. remove_all l mid.directory) (drop_all i names le))

-- the name at a place of a list, as a loop reads it
abbrev pub name_at : List Name → ℕ → Name
name_at names i = get_or names i (record { kind = Gate; no = 0 })

same_at : (names : List Name) (i : ℕ) (a b : Name) → i < length names → get_or names i a ≡ get_or names i b
same_at [] i a b lt = absurd (omega arith)
same_at (first ∷ names) zero a b lt = refl
same_at (first ∷ names) (suc i) a b lt = same_at names i a b (omega arith)

pub name_at_is : (names : List Name) (i : ℕ) → i < length names → name_at names i ≡ get_or names i (name_at names i)
name_at_is names i lt = same_at names i (record { kind = Gate; no = 0 }) (name_at names i) lt
