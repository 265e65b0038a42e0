-- The order of keys, and of the tiles of a file.
use Rattle.std.proofs.Common.{◌≡◌, ℕ, zero, suc, ◌+◌, ◌<◌, Bool, true, false, List, [], ◌∷◌, length, get_or, take, Option, Some, None, IsTrue, ◌↔◌, refl, sym, ap, subst, ◌∙◌, arith, inl, inr}
use Rattle.std.specs.declared.cmp.Ordering.{Ordering}
use Rattle.std.specs.declared.cmp.Ordering.TheVariants.{Less, Equal, Greater}
use Rattle.std.specs.Ordering.{ordering_reverse, is_lt, is_le, is_eq}
use Rattle.std.specs.Cmp.{tied_itself}
use Rattle.std.specs.Cmp.Lexicographic.{nat_list_cmp_total}
use Rattle.std.specs.FinMap as finmap
use Rattle.std.specs.List.Sorted.{IsPartitionedBy, IsPartitionPoint}
use Rattle.std.proofs.lemmas.Bool.{and_parts, and_from, cases_lt}
use Rattle.std.proofs.lemmas.List.{take_more}
use Rattle.std.proofs.lemmas.List.Sums.{fold-append}
use Rattle.lethe_base.specs.Keys.{Bytes, key_cmp}
use Rattle.lethe_page.specs.Reading.{is_above}
use Rattle.lethe_header.specs.Headers.{EachFollows, TileFollows, last_hi}
use Rattle.lethe_header.specs.declared.header.TileLine.{TileLine}
use Rattle.lethe_header.proofs.Follows.{follows_at}
use Rattle.lethe_file.specs.Finding.{has_key, IsTileOf}

-- keys that tie are one key
pub tied : (x y : Bytes) → key_cmp x y ≡ Equal → x ≡ y
tied = finmap.slice_cmp-IsAntisymmetric finmap.nat_cmp-IsAntisymmetric

turned : (x y : Bytes) (r : Ordering) → key_cmp x y ≡ r → key_cmp y x ≡ ordering_reverse r
turned x y r e = nat_list_cmp_total.antisymm y x ∙ ap ordering_reverse e

less_is : (r : Ordering) → is_lt r ≡ true → r ≡ Less
less_is Less h = refl
less_is Equal h = absurd cc
less_is Greater h = absurd cc

pub le_less : (x y z : Bytes) → is_le (key_cmp x y) ≡ true → key_cmp y z ≡ Less → key_cmp x z ≡ Less
le_less x y z le lt = by (key_cmp x y) refl le
  where
    by : (r : Ordering) → key_cmp x y ≡ r → is_le r ≡ true → key_cmp x z ≡ Less
    by Less e le = nat_list_cmp_total.trans x y z e lt
    by Equal e le = subst (λ (k : Bytes). key_cmp k z ≡ Less) (sym (tied x y e)) lt
    by Greater e le = absurd cc

pub less_le : (x y z : Bytes) → key_cmp x y ≡ Less → is_le (key_cmp y z) ≡ true → key_cmp x z ≡ Less
less_le x y z lt le = by (key_cmp y z) refl le
  where
    by : (r : Ordering) → key_cmp y z ≡ r → is_le r ≡ true → key_cmp x z ≡ Less
    by Less e le = nat_list_cmp_total.trans x y z lt e
    by Equal e le = subst (λ (k : Bytes). key_cmp x k ≡ Less) (tied y z e) lt
    by Greater e le = absurd cc

not_both : (x y : Bytes) → is_le (key_cmp x y) ≡ true → key_cmp y x ≡ Less → ⊥
not_both x y le lt = let e = turned y x Less lt in let no_le : is_le Greater ≡ true = ap is_le (sym e) ∙ le in cc

not_less : (x y : Bytes) → is_lt (key_cmp x y) ≡ false → is_le (key_cmp y x) ≡ true
not_less x y h = by (key_cmp x y) refl h
  where
    by : (r : Ordering) → key_cmp x y ≡ r → is_lt r ≡ false → is_le (key_cmp y x) ≡ true
    by Less e h = absurd cc
    by Equal e h = ap is_le (turned x y Equal e)
    by Greater e h = ap is_le (turned x y Greater e)

pub own_key : (x : Bytes) → key_cmp x x ≡ Equal
own_key x = tied_itself nat_list_cmp_total x

pub is_key : (x y : Bytes) (b : Bool) → b ≡ is_eq (key_cmp x y) → (IsTrue b ↔ (x ≡ y))
is_key x y b is = (λ h. tied x y (equal_is (key_cmp x y) (sym is ∙ h)), λ e. is ∙ ap is_eq (subst (λ (z : Bytes). key_cmp x z ≡ Equal) e (own_key x)))
  where
    equal_is : (r : Ordering) → is_eq r ≡ true → r ≡ Equal
    equal_is Less h = absurd cc
    equal_is Equal h = refl
    equal_is Greater h = absurd cc

-- ---- tiles

module _ (tiles : List TileLine) (each : EachFollows TileFollows tiles) where
  itself : (k : ℕ) (d : TileLine) → k < length tiles → is_le (key_cmp (get_or tiles k d).lo (get_or tiles k d).hi) ≡ true
  itself k d lt = (follows_at TileFollows tiles k d each lt).itself.keys

  next_above : (k : ℕ) (d : TileLine) → suc k < length tiles → key_cmp (get_or tiles k d).hi (get_or tiles (suc k) d).lo ≡ Less
  next_above k d lt =
      let above = (follows_at TileFollows tiles (suc k) d each lt).above in
      let here : k < length tiles = omega arith in
      let one : suc k ≡ k + 1 = omega arith in
      let last : last_hi (take (suc k) tiles) ≡ Some (get_or tiles k d).hi =
      ap (λ (n : ℕ). last_hi (take n tiles)) one
      ∙ ap last_hi (take_more tiles k d here)
      ∙ fold-append (λ (last : Option Bytes) (tile : TileLine). Some tile.hi) None (take k tiles) (get_or tiles k d ∷ []) in
      less_is _ (subst (λ (o : Option Bytes). is_above o (get_or tiles (suc k) d).lo ≡ true) last above)

  -- each tile is below every later one
  pub tiles_rise : (i j : ℕ) (d : TileLine) → i < j → j < length tiles → key_cmp (get_or tiles i d).hi (get_or tiles j d).lo ≡ Less
  tiles_rise i zero d lt inside = absurd (omega arith)
  tiles_rise i (suc k) d lt inside =
      let next = next_above k d inside in
      elim (cases_lt i k) [
        | inl before ↦
            let here : k < length tiles = omega arith in
            let first = less_le (get_or tiles i d).hi (get_or tiles k d).lo (get_or tiles k d).hi (tiles_rise i k d before here) (itself k d here) in
            nat_list_cmp_total.trans (get_or tiles i d).hi (get_or tiles k d).hi (get_or tiles (suc k) d).lo first next
        | inr behind ↦
            let same : i ≡ k = omega (arith, behind) in
            subst (λ (n : ℕ). key_cmp (get_or tiles n d).hi (get_or tiles (suc k) d).lo ≡ Less) (sym same) next
      ]

  pub are_parted : (key : Bytes) → IsPartitionedBy (λ tile. is_lt (key_cmp tile.hi key)) tiles
  are_parted key i j d le inside below =
      elim (cases_lt i j) [
        | inl before ↦
            let first = less_le (get_or tiles i d).hi (get_or tiles j d).lo (get_or tiles j d).hi (tiles_rise i j d before inside) (itself j d inside) in
            ap is_lt (nat_list_cmp_total.trans (get_or tiles i d).hi (get_or tiles j d).hi key first (less_is _ below))
        | inr behind ↦
            let same : i ≡ j = omega (arith, behind, le) in
            subst (λ (n : ℕ). is_lt (key_cmp (get_or tiles n d).hi key) ≡ true) (sym same) below
      ]

  module _ (key : Bytes) (place : ℕ) (point : IsPartitionPoint (λ tile. is_lt (key_cmp tile.hi key) ≡ true) (λ tile. is_lt (key_cmp tile.hi key) ≡ false) tiles place) where
    before_it : (k : ℕ) (d : TileLine) → k < place → has_key key (get_or tiles k d) ≡ true → ⊥
    before_it k d lt has = let parts = and_parts (is_le (key_cmp (get_or tiles k d).lo key)) _ has in not_both key (get_or tiles k d).hi parts.1 (less_is _ (point.0 k d (omega arith) lt))

    behind_it : (k : ℕ) (d : TileLine) → place < k → k < length tiles → has_key key (get_or tiles k d) ≡ true → ⊥
    behind_it k d lt inside has =
        let parts = and_parts (is_le (key_cmp (get_or tiles k d).lo key)) _ has in
        let key_le = not_less (get_or tiles place d).hi key (point.1 place d (omega arith) (omega arith)) in
        let less = le_less key (get_or tiles place d).hi (get_or tiles k d).lo key_le (tiles_rise place k d lt inside) in
        not_both (get_or tiles k d).lo key parts.0 less

    at_it : (d : TileLine) → place < length tiles → is_le (key_cmp (get_or tiles place d).lo key) ≡ true → has_key key (get_or tiles place d) ≡ true
    at_it d inside le =
        let key_le = not_less (get_or tiles place d).hi key (point.1 place d (omega arith) inside) in
        and_from (is_le (key_cmp (get_or tiles place d).lo key)) (is_le (key_cmp key (get_or tiles place d).hi)) le key_le

    pub there : place < length tiles → ((d : TileLine) → is_le (key_cmp (get_or tiles place d).lo key) ≡ true) → IsTileOf key tiles place
    there inside le = (
      omega arith,
      λ k d lt. (
        λ has. elim (cases_lt k place) [
          | inl before ↦ absurd (before_it k d before has)
          | inr behind ↦ elim (cases_lt place k) [
            | inl after ↦ absurd (behind_it k d after lt has)
            | inr same ↦ let is : k ≡ place = omega (arith, behind, same) in is
          ]
        ],
        λ is. subst (λ (n : ℕ). has_key key (get_or tiles n d) ≡ true) (sym is) (at_it d inside (le d)),
      ),
    )

    pub nowhere : (place < length tiles → (d : TileLine) → is_le (key_cmp (get_or tiles place d).lo key) ≡ false) → IsTileOf key tiles (length tiles)
    nowhere above = (
      omega arith,
      λ k d lt. (
        λ has. elim (cases_lt k place) [
          | inl before ↦ absurd (before_it k d before has)
          | inr behind ↦ elim (cases_lt place k) [
            | inl after ↦ absurd (behind_it k d after lt has)
            | inr same ↦
                let is : k ≡ place = omega (arith, behind, same) in
                let here : place < length tiles = omega (arith, is, lt) in
                let parts = and_parts (is_le (key_cmp (get_or tiles k d).lo key)) _ has in
                let begins : is_le (key_cmp (get_or tiles place d).lo key) ≡ true = subst (λ (n : ℕ). is_le (key_cmp (get_or tiles n d).lo key) ≡ true) is parts.0 in
                let no_le = sym begins ∙ above here d in
                absurd cc
          ]
        ],
        λ is. absurd (omega (arith, is, lt)),
      ),
    )
