-- All files of a version, level after level.
use Rattle.std.proofs.Common.{◌≡◌, ℕ, ◌+◌, ◌<◌, ◌≤◌, Bool, true, false, ltb, List, [], ◌∷◌, ◌++◌, length, get_or, take, drop, map, All, Option, Some, None, Result, refl, sym, ap, subst, ◌∙◌, arith, inl, inr, ◌⊎◌}
use Rattle.std.specs.Prelude.{Any, ◌||◌, find}
use Rattle.std.specs.List.{flat_map, list_any}
use Rattle.std.specs.Option.{option_or}
use Rattle.std.proofs.lemmas.Bool.{cases_lt, false≢true, lt-ltb, le-ltb, ltb-true, or_left, or_right}
use Rattle.std.proofs.lemmas.Grind.{flat_map-append}
use Rattle.std.proofs.lemmas.List.{append-nil, take-append-drop, take_all, take_more}
use Rattle.std.proofs.lemmas.List.Folds.{Any-from_list_any, find-append, flat_map-map, list_any-append, list_any-from_Any, list_any_none}
use Rattle.lethe_base.specs.Keys.{Bytes}
use Rattle.lethe_base.specs.declared.entry.Entry.{Entry}
use Rattle.lethe_disk.specs.declared.cursor.ReadRefused.{ReadRefused}
use Rattle.lethe_header.specs.declared.header.Header.{Header}
use Rattle.lethe_file.specs.Agreement.{FileAgrees, entries_in}
use Rattle.lethe_file.specs.Finding.{IsEntryOf}
use Rattle.lethe_version.specs.Probing.{bound, IsNarrowed}
use Rattle.lethe_version.specs.Search.{IsSearch}
use Rattle.lethe_version.proofs.Newer.{absent}
use Rattle.lethe_version.proofs.Probed.{none_allowed}

-- the same files, by level or as the levels have them
pub whole_is : {S F : Type 0} (views : S → List F) (items : List S) → flat_map (λ files. files) (map views items) ≡ flat_map views items
whole_is views items = flat_map-map (λ files. files) views items

pub search_whole : {S F : Type 0} (views : S → List F) (seen items : List S) (header : F → Header) (bytes : F → List (List ℕ)) (tells can_fail : Type 0) (key : Bytes) (newest : Option Entry) (f0 f1 p0 p1 : ℕ) (result : Result (Option Entry) ReadRefused) → seen ≡ items
    → IsSearch header bytes tells can_fail key (flat_map views seen) newest f0 f1 p0 p1 result → IsSearch header bytes tells can_fail key (flat_map (λ files. files) (map views items)) newest f0 f1 p0 p1 result
search_whole {F = F} views seen items header bytes tells can_fail key newest f0 f1 p0 p1 result same s =
    subst (λ (l : List F). IsSearch header bytes tells can_fail key l newest f0 f1 p0 p1 result) (ap (flat_map views) same ∙ sym (whole_is views items)) s

-- ---- a step of a loop over levels

module _ {S F : Type 0} (views : S → List F) (items seen : List S) (same : seen ≡ items) (i : ℕ) (item : S) (inside : i < length seen) (is : item ≡ get_or seen i item) where
  item_there : item ≡ get_or items i item
  item_there = is ∙ ap (λ (l : List S). get_or l i item) same

  there : i < length items
  there = omega (arith, inside, ap length same)

  one_more : flat_map views (take (i + 1) items) ≡ flat_map views (take i items) ++ views item
  one_more =
      ap (flat_map views) (take_more items i item there ∙ ap (λ (s : S). take i items ++ s ∷ []) (sym item_there))
      ∙ flat_map-append views (take i items) (item ∷ [])
      ∙ ap (λ (l : List F). flat_map views (take i items) ++ l) (append-nil (views item))

  parts : flat_map views items ≡ flat_map views (take (i + 1) items) ++ flat_map views (drop (i + 1) items)
  parts = ap (flat_map views) (sym (take-append-drop (i + 1) items)) ∙ flat_map-append views (take (i + 1) items) (drop (i + 1) items)

  pub none_any : (p : F → Bool) → list_any p (flat_map views (take i items)) ≡ false → list_any p (views item) ≡ false → list_any p (flat_map views (take (i + 1) items)) ≡ false
  none_any p before here =
      ap (list_any p) one_more ∙ list_any-append p (flat_map views (take i items)) (views item)
      ∙ ap (λ (b : Bool). b || list_any p (views item)) before ∙ here

  pub some_any : (p : F → Bool) → list_any p (views item) ≡ true → list_any p (flat_map (λ files. files) (map views items)) ≡ true
  some_any p here =
      let front : list_any p (flat_map views (take (i + 1) items)) ≡ true =
      ap (list_any p) one_more ∙ list_any-append p (flat_map views (take i items)) (views item) ∙ or_right (list_any p (flat_map views (take i items))) (list_any p (views item)) here in
      ap (list_any p) (whole_is views items ∙ parts) ∙ list_any-append p (flat_map views (take (i + 1) items)) (flat_map views (drop (i + 1) items))
      ∙ or_left (list_any p (flat_map views (take (i + 1) items))) (list_any p (flat_map views (drop (i + 1) items))) front

  pub none_found : (p : F → Bool) → find p (flat_map views (take i items)) ≡ None → find p (views item) ≡ None → find p (flat_map views (take (i + 1) items)) ≡ None
  none_found p before here =
      ap (find p) one_more ∙ find-append p (flat_map views (take i items)) (views item)
      ∙ ap (λ (o : Option F). option_or o (find p (views item))) before ∙ here

  pub some_found : (p : F → Bool) (x : F) → find p (flat_map views (take i items)) ≡ None → find p (views item) ≡ Some x → find p (flat_map (λ files. files) (map views items)) ≡ Some x
  some_found p x before here =
      let front : find p (flat_map views (take (i + 1) items)) ≡ Some x =
      ap (find p) one_more ∙ find-append p (flat_map views (take i items)) (views item) ∙ ap (λ (o : Option F). option_or o (find p (views item))) before ∙ here in
      ap (find p) (whole_is views items ∙ parts) ∙ find-append p (flat_map views (take (i + 1) items)) (flat_map views (drop (i + 1) items))
      ∙ ap (λ (o : Option F). option_or o (find p (flat_map views (drop (i + 1) items)))) front

-- its end
pub end_whole : {S F : Type 0} (views : S → List F) (items seen : List S) → seen ≡ items → (i : ℕ) → length seen ≤ i → flat_map views (take i items) ≡ flat_map (λ files. files) (map views items)
end_whole views items seen same i past = ap (flat_map views) (take_all i items (omega (arith, past, ap length same))) ∙ sym (whole_is views items)

-- ---- files that may have a key

abbrev may_have : {F : Type 0} → (F → Header) → Bytes → F → Bool
may_have header key file = ltb 0 (bound key (header file))

none_may : {F : Type 0} (header : F → Header) (key : Bytes) (files : List F) → All (λ file. bound key (header file) ≡ 0) files → list_any (may_have header key) files ≡ false
none_may header key files none = list_any_none (may_have header key) files (λ k d lt. let is = none k d lt in le-ltb 0 (bound key (header (get_or files k d))) (omega (arith, is)))

list_any-map : {S F : Type 0} (view : S → F) (p : F → Bool) (items : List S) → list_any p (map view items) ≡ list_any (λ s. p (view s)) items
list_any-map view p [] = refl
list_any-map view p (x ∷ xs) = ap (λ (b : Bool). p (view x) || b) (list_any-map view p xs)

or_false : (b : Bool) → (b || false) ≡ b
or_false true = refl
or_false false = refl

-- the candidates of a level answer for it
pub narrowed_any : {S F : Type 0} (view : S → F) (header : F → Header) (key : Bytes) (items some : List S) → IsNarrowed (λ s. header (view s)) key items some
    → list_any (may_have header key) (map view items) ≡ list_any (may_have (λ s. header (view s)) key) some
narrowed_any {S = S} view header key items some (before, behind, is, none_before, none_behind) =
    let q : S → Bool = may_have (λ s. header (view s)) key in
    list_any-map view (may_have header key) items ∙ ap (list_any q) is ∙ list_any-append q before (some ++ behind)
    ∙ ap (λ (b : Bool). b || list_any q (some ++ behind)) (none_may (λ s. header (view s)) key before none_before)
    ∙ list_any-append q some behind
    ∙ ap (λ (b : Bool). list_any q some || b) (none_may (λ s. header (view s)) key behind none_behind)
    ∙ or_false (list_any q some)

module _ {F : Type 0} (header : F → Header) (bytes : F → List (List ℕ)) (key : Bytes) (files : List F) where
  pub some_may : list_any (may_have header key) files ≡ true → Any (λ file. 0 < bound key (header file)) files
  some_may yields =
      let found = Any-from_list_any (may_have header key) files yields in
      (found.0, found.1, found.2, found.3, ltb-true 0 (bound key (header found.1)) found.4)

  pub not_any : {P : Type 0} → list_any (may_have header key) files ≡ false → Any (λ file. 0 < bound key (header file)) files → P
  not_any none (k, file, lt, is, more) =
      let yields = list_any-from_Any (may_have header key) files (k, file, lt, is, lt-ltb 0 (bound key (header file)) more) in
      absurd (false≢true (sym none ∙ yields))

  -- a file that has the key may have it
  pub key_may : All (λ file. FileAgrees (header file).tiles (bytes file)) files → Any (λ file. (entry : Entry) × IsEntryOf key (map entries_in (bytes file)) (Some entry)) files → Any (λ file. 0 < bound key (header file)) files
  key_may sound (k, file, lt, is, (entry, has)) = (k, file, lt, is, by (cases_lt 0 (bound key (header file))))
    where
      agrees : FileAgrees (header file).tiles (bytes file)
      agrees = subst (λ (f : F). FileAgrees (header f).tiles (bytes f)) is (sound k file lt)

      by : (0 < bound key (header file)) ⊎ (bound key (header file) ≤ 0) → 0 < bound key (header file)
      by (inl more) = more
      by (inr none) = absurd (absent key (map entries_in (bytes file)) entry (none_allowed key (header file).tiles (bytes file) agrees.pages agrees.tiles (omega (arith, none))) has)
