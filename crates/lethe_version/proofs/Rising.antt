-- Files that ascend by key, and a search by halves among them.
use Rattle.std.proofs.Common.{◌≡◌, ℕ, zero, suc, ◌+◌, ◌<◌, min, true, false, List, [], ◌∷◌, ◌++◌, length, get_or, take, drop, map, inl, inr, refl, sym, ap, subst, ◌∙◌, arith}
use Rattle.std.specs.Ordering.{is_lt, is_le, ordering_reverse}
use Rattle.std.specs.declared.cmp.Ordering.{Ordering}
use Rattle.std.specs.declared.cmp.Ordering.TheVariants.{Less, Equal, Greater}
use Rattle.std.specs.Cmp.Lexicographic.{nat_list_cmp_total}
use Rattle.std.specs.List.Sorted.{IsPartitionedBy, IsPartitionPoint}
use Rattle.std.proofs.lemmas.Bool.{cases_lt}
use Rattle.std.proofs.lemmas.List.{take-append-drop, get_or-map, get_or-take, get_or-drop, length-map, length-take, length-drop, append-nil}
use Rattle.lethe_base.specs.Keys.{Bytes, key_cmp}
use Rattle.lethe_header.specs.Facts.{least_key, greatest_key}
use Rattle.lethe_header.specs.Headers.{HasSpelling}
use Rattle.lethe_header.specs.declared.header.Header.{Header}
use Rattle.lethe_file.proofs.Orders.{le_less, less_le}
use Rattle.lethe_version.specs.Order.{Rise}
use Rattle.lethe_version.specs.Probing.{bound, IsNarrowed}
use Rattle.lethe_version.proofs.Probed.{keys_up, zero_before, zero_behind}

less_is : (r : Ordering) → is_lt r ≡ true → r ≡ Less
less_is Less h = refl
less_is Equal h = absurd cc
less_is Greater h = absurd cc

not_less : (x y : Bytes) → is_lt (key_cmp x y) ≡ false → is_le (key_cmp y x) ≡ true
not_less x y h = by (key_cmp x y) refl h
  where
    by : (r : Ordering) → key_cmp x y ≡ r → is_lt r ≡ false → is_le (key_cmp y x) ≡ true
    by Less e h = absurd cc
    by Equal e h = ap is_le (nat_list_cmp_total.antisymm y x ∙ ap ordering_reverse e)
    by Greater e h = ap is_le (nat_list_cmp_total.antisymm y x ∙ ap ordering_reverse e)

module _ {S : Type 0} (header : S → Header) (spelled : (s : S) → HasSpelling (header s)) (files : List S) where
  abbrev lo_at : ℕ → S → Bytes
  lo_at k d = least_key (header (get_or files k d)).tiles

  abbrev hi_at : ℕ → S → Bytes
  hi_at k d = greatest_key (header (get_or files k d)).tiles

  far_apart : ((k : ℕ) (d : S) → k + 1 < length files → is_lt (key_cmp (hi_at k d) (lo_at (k + 1) d)) ≡ true) → (i j : ℕ) (d : S) → i < j → j < length files → key_cmp (hi_at i d) (lo_at j d) ≡ Less
  far_apart next i zero d lt inside = absurd (omega arith)
  far_apart next i (suc k) d lt inside =
      let one : k + 1 ≡ suc k = omega arith in
      let step : key_cmp (hi_at k d) (lo_at (suc k) d) ≡ Less = less_is (key_cmp (hi_at k d) (lo_at (suc k) d)) (subst (λ (n : ℕ). is_lt (key_cmp (hi_at k d) (lo_at n d)) ≡ true) one (next k d (omega (arith, inside)))) in
      elim (cases_lt i k) [
        | inl before ↦
            let here : k < length files = omega (arith, inside) in
            let upto = less_le (hi_at i d) (lo_at k d) (hi_at k d) (far_apart next i k d before here) (keys_up (header (get_or files k d)) (spelled (get_or files k d))) in
            nat_list_cmp_total.trans (hi_at i d) (hi_at k d) (lo_at (suc k) d) upto step
        | inr behind ↦
            let same : i ≡ k = omega (arith, behind, lt) in
            subst (λ (n : ℕ). key_cmp (hi_at n d) (lo_at (suc k) d) ≡ Less) (sym same) step
      ]

  -- files of which each is below the next
  pub rise_from_next : ((k : ℕ) (d : S) → k + 1 < length files → is_lt (key_cmp (hi_at k d) (lo_at (k + 1) d)) ≡ true) → Rise (map header files)
  rise_from_next next i j d lt inside =
      let within : j < length files = omega (arith, inside, length-map files header) in
      let default = some_file (omega (arith, within)) in
      let left : get_or (map header files) i d ≡ header (get_or files i default) = get_or-map header files i default d (omega (arith, lt, within)) in
      let right : get_or (map header files) j d ≡ header (get_or files j default) = get_or-map header files j default d within in
      subst (λ (h : Header). is_lt (key_cmp (greatest_key h.tiles) (least_key (get_or (map header files) j d).tiles)) ≡ true) (sym left)
      (subst (λ (h : Header). is_lt (key_cmp (hi_at i default) (least_key h.tiles)) ≡ true) (sym right) (ap is_lt (far_apart next i j default lt within)))
    where
      some_file : 0 < length files → S
      some_file lt = first files lt
        where
          first : (fs : List S) → 0 < length fs → S
          first [] lt = absurd (omega arith)
          first (f ∷ fs) lt = f

  module _ (rises : Rise (map header files)) where
    below : (i j : ℕ) (d : S) → i < j → j < length files → key_cmp (hi_at i d) (lo_at j d) ≡ Less
    below i j d lt inside =
        let within : j < length (map header files) = omega (arith, inside, length-map files header) in
        let left : get_or (map header files) i (header d) ≡ header (get_or files i d) = get_or-map header files i d (header d) (omega (arith, lt, inside)) in
        let right : get_or (map header files) j (header d) ≡ header (get_or files j d) = get_or-map header files j d (header d) inside in
        less_is (key_cmp (hi_at i d) (lo_at j d))
        (subst (λ (h : Header). is_lt (key_cmp (greatest_key h.tiles) (lo_at j d)) ≡ true) left
        (subst (λ (h : Header). is_lt (key_cmp (greatest_key (get_or (map header files) i (header d)).tiles) (least_key h.tiles)) ≡ true) right (rises i j (header d) lt within)))

    pub are_parted : (key : Bytes) → IsPartitionedBy (λ s. is_lt (key_cmp (greatest_key (header s).tiles) key)) files
    are_parted key i j d le inside ends =
        elim (cases_lt i j) [
          | inl before ↦
              let upto = less_le (hi_at i d) (lo_at j d) (hi_at j d) (below i j d before inside) (keys_up (header (get_or files j d)) (spelled (get_or files j d))) in
              ap is_lt (nat_list_cmp_total.trans (hi_at i d) (hi_at j d) key upto (less_is (key_cmp (hi_at j d) key) ends))
          | inr behind ↦
              let same : i ≡ j = omega (arith, behind, le) in
              subst (λ (n : ℕ). is_lt (key_cmp (hi_at n d) key) ≡ true) (sym same) ends
        ]

    -- the file where the search ends is the only one that may have the key
    pub narrowed_at : (key : Bytes) (place : ℕ) (some : List S) → IsPartitionPoint (λ s. is_lt (key_cmp (greatest_key (header s).tiles) key) ≡ true) (λ s. is_lt (key_cmp (greatest_key (header s).tiles) key) ≡ false) files place
        → some ≡ take (min (length (drop place files)) 1) (drop place files) → IsNarrowed header key files some
    narrowed_at key place some point is = (
      take place files,
      drop (min (length (drop place files)) 1) (drop place files),
      whole,
      λ k d lt.
          let in_front : k < place = omega (arith, lt, length-take place files) in
          let inside : k < length files = omega (arith, lt, length-take place files) in
          subst (λ (s : S). bound key (header s) ≡ 0) (sym (get_or-take place files k d in_front))
          (zero_behind (header (get_or files k d)) (spelled (get_or files k d)) key (less_is (key_cmp (hi_at k d) key) (point.0 k d (omega arith) in_front))),
      λ k d lt.
          let left : k + min (length (drop place files)) 1 < length (drop place files) = omega (arith, lt, length-drop (min (length (drop place files)) 1) (drop place files)) in
          let total : place + (min (length (drop place files)) 1 + k) < length files = omega (arith, left, length-drop place files) in
          let one : min (length (drop place files)) 1 ≡ 1 = omega (arith, left) in
          let there : get_or (drop (min (length (drop place files)) 1) (drop place files)) k d ≡ get_or files (place + (min (length (drop place files)) 1 + k)) d = get_or-drop (min (length (drop place files)) 1) (drop place files) k d ∙ get_or-drop place files (min (length (drop place files)) 1 + k) d in
          let here : place < length files = omega (arith, total) in
          let key_le : is_le (key_cmp key (hi_at place d)) ≡ true = not_less (hi_at place d) key (point.1 place d (omega arith) here) in
          let less = le_less key (hi_at place d) (lo_at (place + (min (length (drop place files)) 1 + k)) d) key_le (below place (place + (min (length (drop place files)) 1 + k)) d (omega (arith, one)) total) in
          subst (λ (s : S). bound key (header s) ≡ 0) (sym there) (zero_before (header (get_or files (place + (min (length (drop place files)) 1 + k)) d)) (spelled (get_or files (place + (min (length (drop place files)) 1 + k)) d)) key less),
    )
      where
        whole : files ≡ take place files ++ (some ++ drop (min (length (drop place files)) 1) (drop place files))
        whole = sym (take-append-drop place files) ∙ ap (λ (l : List S). take place files ++ l) (sym (take-append-drop (min (length (drop place files)) 1) (drop place files)) ∙ ap (λ (l : List S). l ++ drop (min (length (drop place files)) 1) (drop place files)) (sym is))

pub narrowed_all : {S : Type 0} (header : S → Header) (key : Bytes) (files some : List S) → some ≡ files → IsNarrowed header key files some
narrowed_all header key files some is = ([], [], sym is ∙ sym (append-nil some), λ k d lt. absurd (omega arith), λ k d lt. absurd (omega arith))

pub candidates_are : {S : Type 0} (files seen from some : List S) (place n : ℕ) → seen ≡ files → from ≡ drop place seen → n ≡ min (length from) 1 → some ≡ take n from → some ≡ take (min (length (drop place files)) 1) (drop place files)
candidates_are {S = S} files seen from some place n seen_is from_is n_is some_is =
    let same : from ≡ drop place files = from_is ∙ ap (drop place) seen_is in
    some_is ∙ ap (λ (k : ℕ). take k from) n_is ∙ ap (λ (l : List S). take (min (length l) 1) l) same

-- what a search by halves gives, of a list that was read as the files
pub narrowed_there : {S : Type 0} (header : S → Header) (spelled : (s : S) → HasSpelling (header s)) (files : List S) → Rise (map header files) → (key : Bytes) (place : ℕ) (some searched seen from : List S) (n : ℕ) → searched ≡ files
    → (IsPartitionedBy (λ s. is_lt (key_cmp (greatest_key (header s).tiles) key)) searched → IsPartitionPoint (λ s. is_lt (key_cmp (greatest_key (header s).tiles) key) ≡ true) (λ s. is_lt (key_cmp (greatest_key (header s).tiles) key) ≡ false) searched place)
    → seen ≡ files → from ≡ drop place seen → n ≡ min (length from) 1 → some ≡ take n from → IsNarrowed header key files some
narrowed_there {S = S} header spelled files rises key place some searched seen from n searched_is point seen_is from_is n_is some_is =
    let parted = subst (λ (l : List S). IsPartitionedBy (λ s. is_lt (key_cmp (greatest_key (header s).tiles) key)) l) (sym searched_is) (are_parted header spelled files rises key) in
    narrowed_at header spelled files rises key place some
    (subst (λ (l : List S). IsPartitionPoint (λ s. is_lt (key_cmp (greatest_key (header s).tiles) key) ≡ true) (λ s. is_lt (key_cmp (greatest_key (header s).tiles) key) ≡ false) l place) searched_is (point parted))
    (candidates_are files seen from some place n seen_is from_is n_is some_is)
