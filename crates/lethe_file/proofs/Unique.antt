-- A file that agrees with its header has at most one entry of a key.
use Rattle.std.proofs.Common.{◌≡◌, ℕ, zero, suc, ◌<◌, List, [], ◌∷◌, ◌++◌, length, get_or, take, drop, map, All, AllPairs, Option, Some, None, refl, sym, ap, subst, ◌∙◌, arith, inl, inr}
use Rattle.std.specs.Prelude.{Contains}
use Rattle.std.specs.List.{AllZip}
use Rattle.std.specs.declared.cmp.Ordering.TheVariants.{Less}
use Rattle.std.proofs.lemmas.Bool.{cases_lt}
use Rattle.std.proofs.lemmas.List.{take-append-drop, get_or_default, get_or-map, length-map}
use Rattle.std.proofs.lemmas.List.Elements.{All-append, All-head, All-tail}
use Rattle.std.proofs.lemmas.List.Kept.{AllPairs-cons}
use Rattle.lethe_base.specs.Entries.{IsAscending}
use Rattle.lethe_base.specs.Keys.{Bytes, key_cmp}
use Rattle.lethe_base.specs.declared.entry.Entry.{Entry}
use Rattle.lethe_header.proofs.Orders.{Across, pairs_head, pairs_tail, pairs_from_ascending}
use Rattle.lethe_header.specs.Facts.{lines_of}
use Rattle.lethe_header.specs.Headers.{EachFollows, TileFollows}
use Rattle.lethe_header.specs.declared.header.TileLine.{TileLine}
use Rattle.lethe_file.specs.Agreement.{Agrees, FileAgrees, HaveNoCommonKey, TilesHold, entries_in}
use Rattle.lethe_file.specs.Finding.{IsEntryOf}
use Rattle.lethe_file.proofs.Orders.{le_less, less_le, own_key, tiles_rise}

apart : (x y : Bytes) → key_cmp x y ≡ Less → x ≡ y → ⊥
apart x y lt same =
    let tie : key_cmp x x ≡ Less = subst (λ (z : Bytes). key_cmp x z ≡ Less) (sym same) lt in
    let both = sym tie ∙ own_key x in
    cc

-- ---- pages

pub pairs_join : {X : Type 0} (R : X → X → Type 0) (xs ys : List X) → AllPairs R xs → AllPairs R ys → Across R xs ys → AllPairs R (xs ++ ys)
pairs_join R [] ys p q across = q
pairs_join R (x ∷ xs) ys p q across =
    AllPairs-cons R x (xs ++ ys) (All-append (R x) xs ys (pairs_head R x xs p) (All-head (λ x. All (R x) ys) x xs across))
    (pairs_join R xs ys (pairs_tail R x xs p) q (All-tail (λ x. All (R x) ys) x xs across))

abbrev pub IsAbove : Bytes → List Entry → Type 0
IsAbove key page = All (λ entry. key_cmp key entry.key ≡ Less) page

abbrev pub IsBelow : TileLine → TileLine → Type 0
IsBelow tile later = key_cmp tile.hi later.lo ≡ Less

pub rest_above : (hi : Bytes) (tiles : List TileLine) (pages : List (List Entry)) → TilesHold tiles pages → All (λ tile. key_cmp hi tile.lo ≡ Less) tiles → All (IsAbove hi) pages
rest_above hi [] pages holds above = λ k d lt. absurd (omega (arith, ap length holds, lt))
rest_above hi (tile ∷ tiles) pages holds above =
    let n = length tile.pages in
    let here : key_cmp hi tile.lo ≡ Less = All-head (λ (t : TileLine). key_cmp hi t.lo ≡ Less) tile tiles above in
    subst (λ (l : List (List Entry)). All (IsAbove hi) l) (take-append-drop n pages)
    (All-append (IsAbove hi) (take n pages) (drop n pages) (λ k d lt j e inside. less_le hi tile.lo (get_or (get_or (take n pages) k d) j e).key here (holds.0.within k d lt j e inside).lo)
    (rest_above hi tiles (drop n pages) holds.1 (All-tail (λ (t : TileLine). key_cmp hi t.lo ≡ Less) tile tiles above)))

no_two : (tiles : List TileLine) (pages : List (List Entry)) → TilesHold tiles pages → AllPairs IsBelow tiles → AllPairs HaveNoCommonKey pages
no_two [] pages holds rise = λ i j d lt inside. absurd (omega (arith, ap length holds, inside))
no_two (tile ∷ tiles) pages holds rise =
    let n = length tile.pages in
    let above = rest_above tile.hi tiles (drop n pages) holds.1 (pairs_head IsBelow tile tiles rise) in
    let across : Across HaveNoCommonKey (take n pages) (drop n pages) =
    λ i d lt j d2 lt2 k e inside k2 e2 inside2 same.
    let first = (holds.0.within i d lt k e inside).hi in
    let second = above j d2 lt2 k2 e2 inside2 in
    apart _ _ (le_less (get_or (get_or (take n pages) i d) k e).key tile.hi (get_or (get_or (drop n pages) j d2) k2 e2).key first second) same in
    subst (λ (l : List (List Entry)). AllPairs HaveNoCommonKey l) (take-append-drop n pages)
    (pairs_join HaveNoCommonKey (take n pages) (drop n pages) holds.0.once (no_two tiles (drop n pages) holds.1 (pairs_tail IsBelow tile tiles rise)) across)

-- ---- entries

one_in_page : (page : List Entry) (i j : ℕ) (a b : Entry) → IsAscending page → i < length page → j < length page → get_or page i a ≡ a → get_or page j b ≡ b → a.key ≡ b.key → a ≡ b
one_in_page page i j a b ascending i_in j_in a_is b_is same =
    let pairs = pairs_from_ascending page ascending in
    elim (cases_lt i j) [
      | inl before ↦
          let lt : key_cmp (get_or page i a).key (get_or page j a).key ≡ Less = pairs i j a before j_in in
          let at_j : get_or page j a ≡ b = get_or_default page j a b j_in ∙ b_is in
          let keys : (get_or page i a).key ≡ (get_or page j a).key = ap (λ (e : Entry). e.key) a_is ∙ same ∙ sym (ap (λ (e : Entry). e.key) at_j) in
          absurd (apart _ _ lt keys)
      | inr rest ↦ elim (cases_lt j i) [
        | inl behind ↦
            let lt : key_cmp (get_or page j b).key (get_or page i b).key ≡ Less = pairs j i b behind i_in in
            let at_i : get_or page i b ≡ a = get_or_default page i b a i_in ∙ a_is in
            let keys : (get_or page j b).key ≡ (get_or page i b).key = ap (λ (e : Entry). e.key) b_is ∙ sym same ∙ sym (ap (λ (e : Entry). e.key) at_i) in
            absurd (apart _ _ lt keys)
        | inr neither ↦
            let place : i ≡ j = omega (arith, rest, neither) in
            sym a_is ∙ ap (λ (n : ℕ). get_or page n a) place ∙ get_or_default page j a b j_in ∙ b_is
      ]
    ]

zip_right : {A B : Type 0} (R : A → B → Type 0) (xs : List A) (ys : List B) → AllZip R xs ys → (i : ℕ) (d : B) → i < length ys → (x : A) × R x (get_or ys i d)
zip_right R [] [] h i d lt = absurd (omega arith)
zip_right R [] (y ∷ ys) h i d lt = absurd h
zip_right R (x ∷ xs) [] h i d lt = absurd h
zip_right R (x ∷ xs) (y ∷ ys) h zero d lt = (x, h.0)
zip_right R (x ∷ xs) (y ∷ ys) h (suc i) d lt = zip_right R xs ys h.1 i d (omega arith)

module _ (tiles : List TileLine) (bytes : List (List ℕ)) (key : Bytes) (each : EachFollows TileFollows tiles) (agree : FileAgrees tiles bytes) where
  ascends : (i : ℕ) (page : List Entry) → i < length (map entries_in bytes) → get_or (map entries_in bytes) i page ≡ page → IsAscending page
  ascends i page lt is =
      let inside : i < length bytes = omega (arith, lt, length-map bytes entries_in) in
      let one = zip_right Agrees (lines_of tiles) bytes agree.pages i [] inside in
      subst IsAscending (sym (get_or-map entries_in bytes i [] page inside) ∙ is) one.1.page.spelled.ascending

  apart_pages : AllPairs HaveNoCommonKey (map entries_in bytes)
  apart_pages = no_two tiles (map entries_in bytes) agree.tiles (λ i j d lt inside. tiles_rise tiles each i j d lt inside)

  differ : (i j : ℕ) (p q : List Entry) (a b : Entry) → i < j → j < length (map entries_in bytes) → get_or (map entries_in bytes) i p ≡ p → get_or (map entries_in bytes) j q ≡ q → Contains p a → Contains q b → a.key ≡ b.key → ⊥
  differ i j p q a b lt inside p_is q_is has_a has_b same =
      let at_j : get_or (map entries_in bytes) j p ≡ q = get_or_default (map entries_in bytes) j p q inside ∙ q_is in
      let none : HaveNoCommonKey (get_or (map entries_in bytes) i p) (get_or (map entries_in bytes) j p) = apart_pages i j p lt inside in
      let here : HaveNoCommonKey p q = subst (λ (l : List Entry). HaveNoCommonKey p l) at_j (subst (λ (l : List Entry). HaveNoCommonKey l (get_or (map entries_in bytes) j p)) p_is none) in
      here has_a.0 a has_a.1 has_b.0 b has_b.1 (ap (λ (e : Entry). e.key) has_a.2 ∙ same ∙ sym (ap (λ (e : Entry). e.key) has_b.2))

  absent : (a : Entry) → IsEntryOf key (map entries_in bytes) (Some a) → IsEntryOf key (map entries_in bytes) None → ⊥
  absent a ((i, p, lt, is, has), same) lacks =
      lacks i p lt has.0 a (let inside : has.0 < length (get_or (map entries_in bytes) i p) = omega (arith, has.1, ap length is) in inside)
      (ap (λ (page : List Entry). (get_or page has.0 a).key) is ∙ ap (λ (e : Entry). e.key) has.2 ∙ same)

  pub one_found : (a b : Option Entry) → IsEntryOf key (map entries_in bytes) a → IsEntryOf key (map entries_in bytes) b → a ≡ b
  one_found None None p q = refl
  one_found None (Some b) p q = absurd (absent b q p)
  one_found (Some a) None p q = absurd (absent a p q)
  one_found (Some a) (Some b) ((i, p, i_in, p_is, has_a), a_key) ((j, q, j_in, q_is, has_b), b_key) =
      let same : a.key ≡ b.key = a_key ∙ sym b_key in
      elim (cases_lt i j) [
        | inl before ↦ absurd (differ i j p q a b before j_in p_is q_is has_a has_b same)
        | inr rest ↦ elim (cases_lt j i) [
          | inl behind ↦ absurd (differ j i q p b a behind i_in q_is p_is has_b has_a (sym same))
          | inr neither ↦
              let place : i ≡ j = omega (arith, rest, neither) in
              let page : p ≡ q = sym p_is ∙ ap (λ (n : ℕ). get_or (map entries_in bytes) n p) place ∙ get_or_default (map entries_in bytes) j p q j_in ∙ q_is in
              let in_q : Contains q a = subst (λ (l : List Entry). Contains l a) page has_a in
              ap Some (one_in_page q in_q.0 has_b.0 a b (ascends j q j_in q_is) in_q.1 has_b.1 in_q.2 has_b.2 same)
        ]
      ]
