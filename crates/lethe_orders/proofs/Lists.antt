-- The due list of a level's files, as it is built.
use Rattle.std.proofs.Common.{◌≡◌, ◌≢◌, ℕ, ◌+◌, ◌<◌, ◌↔◌, Bool, false, List, [], ◌∷◌, ◌++◌, length, take, get_or, All, AllPairs, Contains, IsPermutation, Option, Some, None, refl, sym, ap, ◌∙◌, subst, append-nil, arith, eqb}
use Rattle.std.specs.Prelude.{◌==◌}
use Rattle.std.specs.List.{IsDistinct}
use Rattle.std.specs.List.{cons_option}
use Rattle.std.specs.Option.{option_map}
use Rattle.std.proofs.lemmas.Bool.{eqb-false}
use Rattle.std.proofs.lemmas.Bool.Decides.{nat_tests}
use Rattle.std.proofs.lemmas.List.{get_or-take, length-take, take_more}
use Rattle.std.proofs.lemmas.List.Elements.{All-cons, All-contains, All-contains_itself, All-head, All-nil, All-tail, All-weaker, at_read, filter_map-append}
use Rattle.std.proofs.lemmas.List.Folds.{list_any_none}
use Rattle.std.proofs.lemmas.List.Kept.{AllPairs-cons}
use Rattle.std.proofs.lemmas.List.Sorted.{Contains-permutation, IsPermutation-sym}
use Rattle.std.proofs.lemmas.Option.{same_Some, slice_get-get_or}
use Rattle.std.proofs.lemmas.Map.Keys.{apart_from_distinct, IsDistinct-from_apart, IsDistinct-IsPermutation}
use Rattle.lethe_base.specs.Shapes.{HasOtherNumber}
use Rattle.lethe_base.specs.declared.shape.FileFacts.{FileFacts}
use Rattle.lethe_due.specs.Due.{AreInOrder, ComesBefore, IsWith, is_linked}
use Rattle.lethe_due.specs.declared.due_file.DueFile.{DueFile}
use Rattle.lethe_due.proofs.Ordered.{pairs_head, pairs_nil, pairs_tail}
use Rattle.lethe_orders.specs.Standing.{HaveOtherNumbers, timed, timed_file}
use Rattle.lethe_orders.proofs.Items.{middle_follows}

abbrev pub HasOther : DueFile → DueFile → Type 0
HasOther file other = file.no ≢ other.no

-- what is read at a place, whatever stands for no item
pub same_read : {X : Type 0} (xs : List X) (place : ℕ) (d : X) → place < length xs → get_or xs place d ≡ get_or xs place (get_or xs place d)
same_read xs place d within =
    same_Some (get_or xs place d) (get_or xs place (get_or xs place d)) (sym (slice_get-get_or xs place d within) ∙ slice_get-get_or xs place (get_or xs place d) within)

-- the files that have an oldest time

pub timed_none : (files : List FileFacts) (place : ℕ) (file : FileFacts) (order : List DueFile) → place < length files → file ≡ get_or files place file → file.oldest ≡ None → order ≡ timed (take place files)
    → order ≡ timed (take (place + 1) files)
timed_none files place file order within is none e =
    let more : take (place + 1) files ≡ take place files ++ file ∷ [] = take_more files place file within ∙ ap (λ (f : FileFacts). take place files ++ f ∷ []) (sym is) in
    e ∙ sym (ap timed more ∙ filter_map-append timed_file (take place files) (file ∷ [])
    ∙ ap (λ (o : Option ℕ). timed (take place files) ++ cons_option (option_map (λ (time : ℕ). let made : DueFile = record { no = file.no; oldest = time } in made) o) []) none
    ∙ append-nil (timed (take place files)))

pub timed_more : (files : List FileFacts) (place : ℕ) (file : FileFacts) (time : ℕ) (order : List DueFile) → place < length files → file ≡ get_or files place file → file.oldest ≡ Some time
    → order ≡ timed (take place files) → order ++ (let made : DueFile = record { no = file.no; oldest = time } in made) ∷ [] ≡ timed (take (place + 1) files)
timed_more files place file time order within is some e =
    let made : DueFile = record { no = file.no; oldest = time } in
    let more : take (place + 1) files ≡ take place files ++ file ∷ [] = take_more files place file within ∙ ap (λ (f : FileFacts). take place files ++ f ∷ []) (sym is) in
    ap (λ (l : List DueFile). l ++ made ∷ []) e
    ∙ sym (ap timed more ∙ filter_map-append timed_file (take place files) (file ∷ [])
    ∙ ap (λ (o : Option ℕ). timed (take place files) ++ cons_option (option_map (λ (t : ℕ). let one : DueFile = record { no = file.no; oldest = t } in one) o) []) some)

-- their numbers

timed_others : (number : ℕ) (files : List FileFacts) → All (λ (f : FileFacts). number ≢ f.no) files → All (λ (f : DueFile). number ≢ f.no) (timed files)
timed_others number [] others = All-nil (λ (f : DueFile). number ≢ f.no)
timed_others number (file ∷ files) others = by file.oldest (timed_others number files (All-tail (λ (f : FileFacts). number ≢ f.no) file files others))
  where
    by : (o : Option ℕ) → All (λ (f : DueFile). number ≢ f.no) (timed files)
        → All (λ (f : DueFile). number ≢ f.no) (cons_option (option_map (λ (time : ℕ). let made : DueFile = record { no = file.no; oldest = time } in made) o) (timed files))
    by None rest = rest
    by (Some time) rest =
        All-cons (λ (f : DueFile). number ≢ f.no) (record { no = file.no; oldest = time }) (timed files) (All-head (λ (f : FileFacts). number ≢ f.no) file files others) rest

timed_apart : (files : List FileFacts) → HaveOtherNumbers files → AllPairs HasOther (timed files)
timed_apart [] apart = pairs_nil HasOther
timed_apart (file ∷ files) apart = by file.oldest (timed_apart files (pairs_tail HasOtherNumber file files apart))
  where
    by : (o : Option ℕ) → AllPairs HasOther (timed files) → AllPairs HasOther (cons_option (option_map (λ (time : ℕ). let made : DueFile = record { no = file.no; oldest = time } in made) o) (timed files))
    by None rest = rest
    by (Some time) rest = AllPairs-cons HasOther (record { no = file.no; oldest = time }) (timed files) (timed_others file.no files (pairs_head HasOtherNumber file files apart)) rest

abbrev same_number : DueFile → DueFile → Bool
same_number file other = eqb file.no other.no

flips : (file other : DueFile) → same_number file other ≡ same_number other file
flips file other = grind (arith, nat_tests)

differ : (a b : ℕ) → a ≢ b → eqb a b ≡ false
differ a b other = grind (arith, nat_tests)

-- files of other numbers have other numbers in any order
pub apart_in_order : (files : List FileFacts) (order : List DueFile) → HaveOtherNumbers files → IsPermutation (timed files) order → AllPairs HasOther order
apart_in_order files order apart same =
    let first : IsDistinct same_number (timed files) = IsDistinct-from_apart same_number (timed files) (λ i j d lt below. differ _ _ (timed_apart files apart i j d lt below)) in
    let moved : IsDistinct same_number order = IsDistinct-IsPermutation same_number flips (timed files) order same first in
    λ i j d lt below. eqb-false _ _ (apart_from_distinct same_number order i j d moved lt below)

-- no link yet

pub none_in_order : (files : List DueFile) → files ≡ [] → AreInOrder files
none_in_order files none =
    subst AreInOrder (sym none) (record { once = pairs_nil (λ (f : DueFile) (g : DueFile). f.no ≢ g.no); ordered = pairs_nil ComesBefore })

pub none_linked : (order files : List DueFile) → files ≡ [] → (x : DueFile) → Contains files x ↔ Contains (take 0 order) x
none_linked order files none x = subst (λ (l : List DueFile). Contains l x ↔ Contains (take 0 order) x) (sym none) (λ h. h, λ h. h)

-- a link more

pub not_yet : (order files : List DueFile) (place : ℕ) (file : DueFile) → place < length order → file ≡ get_or order place file → AllPairs HasOther order
    → ((x : DueFile) → Contains files x ↔ Contains (take place order) x) → is_linked file.no files ≡ false
not_yet order files place file within is apart same =
    list_any_none (λ (f : DueFile). f.no == file.no) files
    (All-weaker (Contains files) (λ (f : DueFile). (f.no == file.no) ≡ false)
    (λ f there. All-contains (λ (g : DueFile). (g.no == file.no) ≡ false) (take place order) f others ((same f).0 there)) files (All-contains_itself files))
  where
    others : All (λ (g : DueFile). (g.no == file.no) ≡ false) (take place order)
    others k d below =
        let before : k < place = omega (arith, length-take place order) in
        let here : get_or (take place order) k d ≡ get_or order k d = get_or-take place order k d before in
        let there : get_or order place d ≡ file = at_read order (λ (g : DueFile). g ≡ file) place file within is refl d in
        differ _ _ (λ same_no. apart k place d before within (ap (λ (g : DueFile). g.no) (sym here) ∙ same_no ∙ ap (λ (g : DueFile). g.no) (sym there)))

pub link_more : (order old new : List DueFile) (place : ℕ) (file : DueFile) → place < length order → file ≡ get_or order place file → IsWith file old new
    → ((x : DueFile) → Contains old x ↔ Contains (take place order) x) → (x : DueFile) → Contains new x ↔ Contains (take (place + 1) order) x
link_more order old new place file within is more same =
    let front = more.front in
    let back = more.back in
    let next : take (place + 1) order ≡ take place order ++ file ∷ [] = take_more order place file within ∙ ap (λ (f : DueFile). take place order ++ f ∷ []) (sym is) in
    let was : (x : DueFile) → Contains (front ++ back) x ↔ Contains (take place order ++ []) x =
    subst (λ (l : List DueFile). (x : DueFile) → Contains (front ++ back) x ↔ Contains l x) (sym (append-nil (take place order)))
    (subst (λ (l : List DueFile). (x : DueFile) → Contains l x ↔ Contains (take place order) x) more.was same)
    in
    let made : (x : DueFile) → Contains (front ++ file ∷ back) x ↔ Contains (take place order ++ file ∷ []) x =
    λ x. (middle_follows file front back (take place order) [] (λ y. (was y).0) x, middle_follows file (take place order) [] front back (λ y. (was y).1) x)
    in
    subst (λ (l : List DueFile). (x : DueFile) → Contains new x ↔ Contains l x) (sym next) (subst (λ (l : List DueFile). (x : DueFile) → Contains l x ↔ Contains (take place order ++ file ∷ []) x) (sym more.is) made)

-- the whole list

pub order_of_all : (files : List FileFacts) (order dues : List DueFile) → IsPermutation (timed files) order → ((x : DueFile) → Contains dues x ↔ Contains order x)
    → (x : DueFile) → Contains dues x ↔ Contains (timed files) x
order_of_all files order dues moved same x =
    (λ there. Contains-permutation order (timed files) x (IsPermutation-sym (timed files) order moved) ((same x).0 there), λ there. (same x).1 (Contains-permutation (timed files) order x moved there))
