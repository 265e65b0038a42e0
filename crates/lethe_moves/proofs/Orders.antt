-- The order of a layout's levels, and other files in the place of some of a level.
use Rattle.std.proofs.Common.{◌≡◌, ◌≢◌, ◌⊎◌, ℕ, suc, ◌+◌, ◌-◌, ◌<◌, ◌≤◌, List, [], ◌∷◌, ◌++◌, append_assoc, map, flat_map, drop, length, slice_index_or, All, AllPairs, Contains, refl, sym, ap, ◌∙◌, subst, arith}
use Rattle.std.proofs.lemmas.List.{length-append}
use Rattle.std.proofs.lemmas.List.Elements.{All-nil, All-cons, All-head, All-tail, All-append, All-map}
use Rattle.lethe_base.specs.Shapes as shapes
use Rattle.lethe_base.specs.Shapes.{HasOtherNumber, HasRange, all_files, facts_from, shape_of}
use Rattle.lethe_moves.proofs.Common.{⊎_elim, ⊎_map, first_is, flat_map-append, map-append, All-contains, Contains-append_left, Contains-append_right, File, Layout, files_of, IsBare, facts_of, FileFacts, none_in, first_or_rest, files_in, in_map, IsTiled, IsBelow}
use Rattle.lethe_moves.specs.Ordered.{IsOrdered}
use Rattle.lethe_cover.proofs.Lists.{Pairs, in_rest, all_from, pairs_from, pairs_to, pairs_map, pairs_unmap, spliced, swapped}
use Rattle.lethe_moves.proofs.Tiled.{keys_ordered}

abbrev pub IsOther : File → File → Type 0
IsOther file other = file.no ≢ other.no

-- in each of some levels the files ascend
abbrev pub Rise : List (List File) → Type 0
Rise [] = Unit {0}
Rise (level ∷ deeper) = Pairs IsBelow level × Rise deeper

abbrev pub RiseBehind : List (List File) → Type 0
RiseBehind [] = Unit {0}
RiseBehind (newest ∷ deeper) = Rise deeper

-- the last of some levels
abbrev pub last_of : {X : Type 0} → List (List X) → List X
last_of [] = []
last_of (level ∷ []) = level
last_of (level ∷ (next ∷ deeper)) = last_of (next ∷ deeper)

-- the order of a layout's files, told of the files
pub record AreOrdered (levels : List (List File)) : Type 0 where
  pub tiled : (file : File) → Contains (files_in levels) file → IsTiled file
  pub numbers : Pairs IsOther (files_in levels)
  pub below : RiseBehind levels
  pub bare : (file : File) → Contains (last_of levels) file → IsBare (facts_of 0 file)
  pub deep : 2 ≤ length levels

-- what the facts of levels tell of these

last_is : {X : Type 0} (levels : List (List X)) → slice_index_or levels (length levels - 1) [] ≡ last_of levels
last_is [] = refl
last_is (level ∷ []) = refl
last_is (level ∷ (next ∷ deeper)) =
    let one : length (level ∷ (next ∷ deeper)) - 1 ≡ suc (length (next ∷ deeper) - 1) = omega arith in
    ap (λ k. slice_index_or (level ∷ (next ∷ deeper)) k []) one ∙ last_is (next ∷ deeper)

last_facts : (number : ℕ) (levels : List (List File)) → (level : ℕ) × (last_of (facts_from number levels) ≡ map (facts_of level) (last_of levels))
last_facts number [] = (number, refl)
last_facts number (level ∷ []) = (number, refl)
last_facts number (level ∷ (next ∷ deeper)) = last_facts (number + 1) (next ∷ deeper)

numbers_here : (number : ℕ) (files : List File) → map (λ file. file.no) (map (facts_of number) files) ≡ map (λ file. file.no) files
numbers_here number [] = refl
numbers_here number (file ∷ files) = ap (λ rest. file.no ∷ rest) (numbers_here number files)

numbers_same : (number : ℕ) (levels : List (List File)) → map (λ file. file.no) (flat_map (λ files. files) (facts_from number levels)) ≡ map (λ file. file.no) (files_in levels)
numbers_same number [] = refl
numbers_same number (level ∷ deeper) = simp (map-append, numbers_here number level, numbers_same (number + 1) deeper)

rise_from : (number : ℕ) (levels : List (List File)) → All (AllPairs shapes.IsBelow) (facts_from number levels) → Rise levels
rise_from number [] all = tt
rise_from number (level ∷ deeper) all = let facts = map (facts_of number) level in let rest = facts_from (number + 1) deeper in
    (pairs_unmap shapes.IsBelow (facts_of number) level (pairs_from shapes.IsBelow facts (All-head (AllPairs shapes.IsBelow) facts rest all)), rise_from (number + 1) deeper (All-tail (AllPairs shapes.IsBelow) facts rest all))

rise_to : (number : ℕ) (levels : List (List File)) → Rise levels → All (AllPairs shapes.IsBelow) (facts_from number levels)
rise_to number [] rise = All-nil (AllPairs shapes.IsBelow)
rise_to number (level ∷ deeper) rise = All-cons (AllPairs shapes.IsBelow) (map (facts_of number) level) (facts_from (number + 1) deeper)
    (pairs_to shapes.IsBelow (map (facts_of number) level) (pairs_map shapes.IsBelow (facts_of number) level rise.0)) (rise_to (number + 1) deeper rise.1)

ranges_to : (number : ℕ) (levels : List (List File)) → ((file : File) → Contains (files_in levels) file → IsTiled file) → All HasRange (flat_map (λ files. files) (facts_from number levels))
ranges_to number [] tiled = All-nil HasRange
ranges_to number (level ∷ deeper) tiled = All-append HasRange (map (facts_of number) level) (flat_map (λ files. files) (facts_from (number + 1) deeper))
    (All-map HasRange (facts_of number) level (all_from (λ file. HasRange (facts_of number file)) level (λ file there. keys_ordered file (tiled file (Contains-append_left level (files_in deeper) file there)))))
    (ranges_to (number + 1) deeper (λ file there. tiled file (Contains-append_right level (files_in deeper) file there)))

pub order_from : (l : Layout) → IsOrdered l → AreOrdered l.levels
order_from l ordered = let facts = all_files (shape_of l) in record {
  tiled = λ file there. All-contains IsTiled (files_of l) file ordered.tiled there;
  numbers = pairs_unmap (λ a b. a ≢ b) (λ file. file.no) (files_of l)
      (subst (Pairs (λ a b. a ≢ b)) (numbers_same 0 l.levels) (pairs_map (λ a b. a ≢ b) (λ file. file.no) facts (pairs_from HasOtherNumber facts ordered.shape.numbers)));
  below = by l.levels ordered.shape.levels;
  bare = λ file there.
      let last = last_facts 0 l.levels in
      let all = subst (All IsBare) (last_is (facts_from 0 l.levels) ∙ last.1) ordered.shape.deepest in
      All-contains IsBare (map (facts_of last.0) (last_of l.levels)) (facts_of last.0 file) all (in_map (facts_of last.0) (last_of l.levels) file there);
  deep = ordered.deep;
}
  where
    by : (levels : List (List File)) → All (AllPairs shapes.IsBelow) (drop 1 (facts_from 0 levels)) → RiseBehind levels
    by [] all = tt
    by (newest ∷ deeper) all = rise_from 1 deeper all

-- other levels in order
pub ordered_with : (l : Layout) (levels : List (List File)) → IsOrdered l → AreOrdered levels → IsOrdered (record l { levels = levels })
ordered_with l levels ordered order = let facts : List FileFacts = all_files (shape_of (record l { levels = levels })) in record {
  tiled = all_from IsTiled (files_in levels) order.tiled;
  shape = record {
    numbers = pairs_to HasOtherNumber facts (pairs_unmap (λ a b. a ≢ b) (λ file. file.no) facts
        (subst (Pairs (λ a b. a ≢ b)) (sym (numbers_same 0 levels)) (pairs_map (λ a b. a ≢ b) (λ file. file.no) (files_in levels) order.numbers)));
    ranges = ranges_to 0 levels order.tiled;
    levels = by levels order.below;
    deepest =
        let last = last_facts 0 levels in
        subst (All IsBare) (sym (last_is (facts_from 0 levels) ∙ last.1))
        (All-map IsBare (facts_of last.0) (last_of levels) (all_from (λ file. IsBare (facts_of last.0 file)) (last_of levels) order.bare));
    places = ordered.shape.places;
    times = ordered.shape.times;
  };
  deep = order.deep;
}
  where
    by : (levels : List (List File)) → RiseBehind levels → All (AllPairs shapes.IsBelow) (drop 1 (facts_from 0 levels))
    by [] rise = All-nil (AllPairs shapes.IsBelow)
    by (newest ∷ deeper) rise = rise_to 1 deeper rise

-- another level in the place of one

pub rise_in : (levels : List (List File)) (level : List File) → Rise levels → Contains levels level → Pairs IsBelow level
rise_in [] level rise there = absurd (none_in level there)
rise_in (first ∷ deeper) level rise there = ⊎_elim (λ same. subst (Pairs IsBelow) same rise.0) (rise_in deeper level rise.1) (first_or_rest first deeper level there)

rise_with : (above : List (List File)) (level other : List File) (deeper : List (List File)) → Pairs IsBelow other → Rise (above ++ (level ∷ deeper)) → Rise (above ++ (other ∷ deeper))
rise_with [] level other deeper new rise = (new, rise.1)
rise_with (first ∷ above) level other deeper new rise = (rise.0, rise_with above level other deeper new rise.1)

behind_with : (above : List (List File)) (level other : List File) (deeper : List (List File)) → (above ≢ [] → Pairs IsBelow other) → RiseBehind (above ++ (level ∷ deeper)) → RiseBehind (above ++ (other ∷ deeper))
behind_with [] level other deeper new rise = rise
behind_with (first ∷ above) level other deeper new rise = rise_with above level other deeper (new (λ is. absurd cc)) rise

pub rise_at : (above : List (List File)) (level : List File) (deeper : List (List File)) → above ≢ [] → RiseBehind (above ++ (level ∷ deeper)) → Pairs IsBelow level
rise_at [] level deeper some rise = absurd (some refl)
rise_at (first ∷ above) level deeper some rise = rise_in (above ++ (level ∷ deeper)) level rise (Contains-append_right above (level ∷ deeper) level (first_is level deeper level refl))

pub rise_next : (above : List (List File)) (level next : List File) (deeper : List (List File)) → RiseBehind (above ++ (level ∷ (next ∷ deeper))) → Pairs IsBelow next
rise_next [] level next deeper rise = rise.0
rise_next (first ∷ above) level next deeper rise =
    rise_in (above ++ (level ∷ (next ∷ deeper))) next rise (Contains-append_right above (level ∷ (next ∷ deeper)) next (in_rest level (next ∷ deeper) next (first_is next deeper next refl)))

pub last_behind : {X : Type 0} (above : List (List X)) (level : List X) (deeper : List (List X)) → last_of (above ++ (level ∷ deeper)) ≡ last_of (level ∷ deeper)
last_behind [] level deeper = refl
last_behind (first ∷ []) level deeper = refl
last_behind (first ∷ (next ∷ above)) level deeper = last_behind (next ∷ above) level deeper

-- made files in the place of those in the middle of a level
module _ (above : List (List File)) (before gone behind : List File) (deeper : List (List File)) (order : AreOrdered (above ++ ((before ++ (gone ++ behind)) ∷ deeper))) (made : List File) where
  abbrev with : List File → List (List File)
  with middle = above ++ ((before ++ (middle ++ behind)) ∷ deeper)

  flat : (middle : List File) → files_in (with middle) ≡ (files_in above ++ before) ++ (middle ++ (behind ++ files_in deeper))
  flat middle = simp (flat_map-append, append_assoc)

  -- a file then was there, or is made
  pub then_cases : (file : File) → Contains (files_in (with made)) file → Contains (files_in (with gone)) file ⊎ Contains made file
  then_cases file there = ⊎_map (subst (λ files. Contains files file) (sym (flat gone))) (λ new. new)
      (swapped (files_in above ++ before) made gone (behind ++ files_in deeper) file (subst (λ files. Contains files file) (flat made) there))

  -- what has to hold of the made files
  pub record AreFit : Type 0 where
    pub tiled : (file : File) → Contains made file → IsTiled file
    pub numbers : Pairs IsOther made
    pub new : (file other : File) → Contains made file → Contains (files_in (with gone)) other → other.no < file.no
    pub below : above ≢ [] → Pairs IsBelow (before ++ (made ++ behind))
    pub bare : deeper ≡ [] → (file : File) → Contains made file → IsBare (facts_of 0 file)

  pub order_then : AreFit → AreOrdered (with made)
  order_then fit = record {
    tiled = λ file there. ⊎_elim (order.tiled file) (fit.tiled file) (then_cases file there);
    numbers = subst (Pairs IsOther) (sym (flat made)) (spliced IsOther first gone made last (subst (Pairs IsOther) (flat gone) order.numbers) fit.numbers
        (λ old new left right same. let lower = fit.new new old right (subst (λ files. Contains files old) (sym (flat gone)) (Contains-append_left first (gone ++ last) old left)) in omega arith)
        (λ new old left right same. let lower = fit.new new old left (subst (λ files. Contains files old) (sym (flat gone)) (Contains-append_right first (gone ++ last) old (Contains-append_right gone last old right))) in omega arith));
    below = behind_with above (before ++ (gone ++ behind)) (before ++ (made ++ behind)) deeper fit.below order.below;
    bare = λ file there. by deeper refl file (subst (λ files. Contains files file) (last_behind above (before ++ (made ++ behind)) deeper) there);
    deep = let old = order.deep in omega (arith, length-append above ((before ++ (gone ++ behind)) ∷ deeper), length-append above ((before ++ (made ++ behind)) ∷ deeper));
  }
    where
      first : List File
      first = files_in above ++ before

      last : List File
      last = behind ++ files_in deeper

      last_then : {lower : List (List File)} → deeper ≡ lower → last_of (with gone) ≡ last_of ((before ++ (gone ++ behind)) ∷ lower)
      last_then is = last_behind above (before ++ (gone ++ behind)) deeper ∙ ap (λ deeper. last_of ((before ++ (gone ++ behind)) ∷ deeper)) is

      by : (lower : List (List File)) → deeper ≡ lower → (file : File) → Contains (last_of ((before ++ (made ++ behind)) ∷ lower)) file → IsBare (facts_of 0 file)
      by [] is file there = ⊎_elim (λ old. order.bare file (subst (λ files. Contains files file) (sym (last_then is)) old)) (fit.bare is file) (swapped before made gone behind file there)
      by (next ∷ lower) is file there = order.bare file (subst (λ files. Contains files file) (sym (last_then is)) there)
