-- Orders that stand for a shape stand for it with a file more, or less, once that file is linked, or unlinked.
use Rattle.std.proofs.Common.{◌≡◌, ℕ, ◌+◌, ◌↔◌, Bool, true, false, not, cond, List, [], ◌∷◌, ◌++◌, length, get_or, Contains, Option, Some, None, refl, sym, ap, ◌∙◌, subst, arith, eqb}
use Rattle.std.specs.Prelude.{◌==◌, slice_get}
use Rattle.std.specs.List.{filter}
use Rattle.std.specs.List.{cons_option}
use Rattle.std.specs.Option.{option_map}
use Rattle.std.proofs.lemmas.Bool.{eqb-false, eqb-true}
use Rattle.std.proofs.lemmas.List.Elements.{filter_map-append}
use Rattle.std.proofs.lemmas.Option.{same_Some, slice_get-get_or, slice_get_within}
use Rattle.lethe_base.specs.declared.shape.FileFacts.{FileFacts}
use Rattle.lethe_base.specs.declared.shape.Shape.{Shape}
use Rattle.lethe_due.specs.Due.{Due, AreInOrder, without}
use Rattle.lethe_due.specs.declared.due_file.DueFile.{DueFile}
use Rattle.lethe_due.proofs.Without.{others_in_order}
use Rattle.lethe_orders.specs.Changes.{ChangesAt, IsFileLinked, IsTimeLinked, IsUnlinked, IsWithFile, IsWithoutFile, KeepFiles}
use Rattle.lethe_orders.specs.Standing.{IsOrderOf, StandFor, timed, timed_file}
use Rattle.lethe_orders.proofs.Items.{filter_follows, middle_follows}

-- a level with one file more

module _ (file : FileFacts) (front back : List FileFacts) (due new : Due) where
  linked_by : (o : Option ℕ) → IsTimeLinked file.no o due new → ((x : DueFile) → Contains due.files x ↔ Contains (timed front ++ timed back) x) → AreInOrder due.files
      → ((x : DueFile) → Contains new.files x ↔ Contains (timed front ++ cons_option (option_map (λ (time : ℕ). let made : DueFile = record { no = file.no; oldest = time } in made) o) (timed back)) x) × AreInOrder new.files
  linked_by None is same order =
      (subst (λ (d : Due). (x : DueFile) → Contains d.files x ↔ Contains (timed front ++ timed back) x) (sym is) same, subst (λ (d : Due). AreInOrder d.files) (sym is) order)
  linked_by (Some time) is same order =
      let made : DueFile = record { no = file.no; oldest = time } in
      let old = is.with.front in
      let behind = is.with.back in
      let before = subst (λ (l : List DueFile). (x : DueFile) → Contains l x ↔ Contains (timed front ++ timed back) x) is.with.was same in (
        subst (λ (l : List DueFile). (x : DueFile) → Contains l x ↔ Contains (timed front ++ made ∷ timed back) x) (sym is.with.is)
            (λ x. (middle_follows made old behind (timed front) (timed back) (λ y. (before y).0) x, middle_follows made (timed front) (timed back) old behind (λ y. (before y).1) x)),
        is.order,
      )

pub linked_stands : (file : FileFacts) (files after : List FileFacts) (due new : Due) → IsWithFile file files after → IsFileLinked file due new → IsOrderOf files due → IsOrderOf after new
linked_stands file files after due new more is stands =
    let front = more.front in
    let back = more.back in
    let were : timed files ≡ timed front ++ timed back = ap timed more.was ∙ filter_map-append timed_file front back in
    let are : timed after ≡ timed front ++ timed (file ∷ back) = ap timed more.is ∙ filter_map-append timed_file front (file ∷ back) in
    let same = subst (λ (l : List DueFile). (x : DueFile) → Contains due.files x ↔ Contains l x) were stands.same in
    let made = linked_by file front back due new file.oldest is same stands.order in
    record { same = subst (λ (l : List DueFile). (x : DueFile) → Contains new.files x ↔ Contains l x) (sym are) made.0; order = made.1 }

-- a level without a file

module _ (number : ℕ) (file : FileFacts) (files : List FileFacts) where
  abbrev kept : List FileFacts
  kept = filter (λ (f : FileFacts). not (f.no == number)) files

  abbrev made : ℕ → DueFile
  made time = record { no = file.no; oldest = time }

  kept_timed : (b : Bool) → (file.no == number) ≡ b → timed (filter (λ (f : FileFacts). not (f.no == number)) (file ∷ files)) ≡ cond (not b) (cons_option (timed_file file) (timed kept)) (timed kept)
  kept_timed true is = ap (λ c. timed (cond (not c) (file ∷ kept) kept)) is
  kept_timed false is = ap (λ c. timed (cond (not c) (file ∷ kept) kept)) is

  timed_kept : (o : Option ℕ) (b : Bool) → (file.no == number) ≡ b
      → without number (cons_option (option_map made o) (timed files)) ≡ cond (not b) (cons_option (option_map made o) (without number (timed files))) (without number (timed files))
  timed_kept None true is = refl
  timed_kept None false is = refl
  timed_kept (Some time) b is = ap (λ c. cond (not c) (made time ∷ without number (timed files)) (without number (timed files))) is

pub timed_without : (number : ℕ) (files : List FileFacts) → timed (filter (λ (f : FileFacts). not (f.no == number)) files) ≡ without number (timed files)
timed_without number [] = refl
timed_without number (file ∷ files) =
    let b = file.no == number in
    kept_timed number file files b refl ∙ ap (λ (l : List DueFile). cond (not b) (cons_option (timed_file file) l) l) (timed_without number files) ∙ sym (timed_kept number file files file.oldest b refl)

pub unlinked_stands : (number : ℕ) (files after : List FileFacts) (due new : Due) → IsWithoutFile number files after → IsUnlinked number due new → IsOrderOf files due → IsOrderOf after new
unlinked_stands number files after due new less is stands =
    let p : DueFile → Bool = λ (x : DueFile). not (x.no == number) in
    let are : timed after ≡ without number (timed files) = ap timed less ∙ timed_without number files in
    let left : new.files ≡ without number due.files = ap (λ (d : Due). d.files) is in
    let same : (x : DueFile) → Contains (without number due.files) x ↔ Contains (without number (timed files)) x =
    λ x. (filter_follows p due.files (timed files) (λ y. (stands.same y).0) x, filter_follows p (timed files) due.files (λ y. (stands.same y).1) x)
    in
    record {
      same = subst (λ (l : List DueFile). (x : DueFile) → Contains new.files x ↔ Contains l x) (sym are)
          (subst (λ (l : List DueFile). (x : DueFile) → Contains l x ↔ Contains (without number (timed files)) x) (sym left) same);
      order = subst AreInOrder (sym left) (others_in_order number due.files stands.order);
    }

-- the levels

item_there : {X : Type 0} (xs ys : List X) (place : ℕ) (y : X) → length xs ≡ length ys → slice_get ys place ≡ Some y → slice_get xs place ≡ Some (get_or xs place y)
item_there xs ys place y same there = slice_get-get_or xs place y (let within = slice_get_within ys place y there in omega (arith, within, same))

module _ (place : ℕ) (shape after : Shape) (old new : List Due) (Put : List FileFacts → List FileFacts → Type 0) (Link : Due → Due → Type 0)
    (goes_on : (files others : List FileFacts) (due next : Due) → Put files others → Link due next → IsOrderOf files due → IsOrderOf others next)
    (stand : StandFor shape old) (shapes : ChangesAt place Put shape.levels after.levels) (orders : ChangesAt place Link old new) where
  level_stands : (level : ℕ) (b : Bool) → eqb level place ≡ b → (files : List FileFacts) (due : Due) → slice_get after.levels level ≡ Some files → slice_get new level ≡ Some due → IsOrderOf files due
  level_stands level false other files due is made =
      stand.lists level files due (sym (shapes.others level (eqb-false level place other)) ∙ is) (sym (orders.others level (eqb-false level place other)) ∙ made)
  level_stands level true same files due is made =
      let at : level ≡ place = eqb-true level place same in
      let is_there = subst (λ n. slice_get after.levels n ≡ Some files) at is in
      let made_there = subst (λ n. slice_get new n ≡ Some due) at made in
      let were = item_there shape.levels after.levels place files (sym shapes.count) is_there in
      let was = item_there old new place due (sym orders.count) made_there in
      goes_on (get_or shape.levels place files) files (get_or old place due) due (shapes.there (get_or shape.levels place files) files were is_there)
      (orders.there (get_or old place due) due was made_there) (stand.lists place (get_or shape.levels place files) (get_or old place due) were was)

  pub changed_stand : StandFor after new
  changed_stand = record {
    count = shapes.count ∙ stand.count ∙ ap (λ n. n + 1) (sym orders.count);
    lists = λ level files due is made. level_stands level (eqb level place) refl files due is made;
  }

-- a change that is none
pub none_changes : {X : Type 0} (place : ℕ) (Change : X → X → Type 0) (xs : List X) → ((x : X) → Change x x) → ChangesAt place Change xs xs
none_changes place Change xs same = record {
  count = refl;
  others = λ other differs. refl;
  there = λ before after is made. subst (Change before) (same_Some before after (sym is ∙ made)) (same before);
}

-- room that is taken changes no list
pub kept_stand : (shape : Shape) (old new : List Due) → KeepFiles old new → StandFor shape old → StandFor shape new
kept_stand shape old new kept stand = record {
  count = stand.count ∙ ap (λ n. n + 1) (sym kept.count);
  lists = λ level files due is made.
      let was = item_there old new level due (sym kept.count) made in
      let before = stand.lists level files (get_or old level due) is was in
      let same = kept.files level (get_or old level due) due was made in
      record {
        same = subst (λ (l : List DueFile). (x : DueFile) → Contains l x ↔ Contains (timed files) x) (sym same) before.same;
        order = subst AreInOrder (sym same) before.order;
      };
}
