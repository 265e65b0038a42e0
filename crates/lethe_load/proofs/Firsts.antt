-- The first item that is bad is one.
use Rattle.std.proofs.Common.{◌≡◌, ◌≢◌, ◌⊎◌, inl, inr, ℕ, List, [], ◌∷◌, ◌++◌, All, AllPairs, refl, sym, ap, subst, ◌∙◌, arith}
use Rattle.std.specs.Prelude.{Contains}
use Rattle.std.proofs.lemmas.List.Elements.{All-head, All-contains, Contains-append_right}
use Rattle.lethe_base.specs.declared.name.Name.{Name}
use Rattle.lethe_disk.specs.Directory.{Directory}
use Rattle.lethe_file.specs.Agreement.{page_name}
use Rattle.lethe_header.specs.Headers.{EachFollows}
use Rattle.lethe_header.specs.declared.header.Header.{Header}
use Rattle.lethe_manifest.specs.declared.manifest.Cited.{Cited}
use Rattle.lethe_stored.specs.Stored.{segment_name}
use Rattle.lethe_tile.proofs.Orders.{pairs_append}
use Rattle.lethe_load.specs.Damaged.{IsFirstBad, IsSoundSegment, IsDamagedSegment, IsSoundPage, IsTakenBy, IsSoundFile, HasBadHeader, HasBadPage, IsDamagedFile, placed_lines}
use Rattle.lethe_load.proofs.FilesInOrder.{one_header}

-- Splits

-- two splits of a list are at one place, or the item of one stands before the other
pub data AreSplits {A : Type 0} (before : List A) (x : A) (other : List A) (y : A) : Type 0 where
  Same : before ≡ other → x ≡ y → AreSplits before x other y
  First : (rest : List A) → other ≡ before ++ x ∷ rest → AreSplits before x other y
  Second : (rest : List A) → before ≡ other ++ y ∷ rest → AreSplits before x other y

splits : {A : Type 0} (before : List A) (x : A) (behind other : List A) (y : A) (after : List A) → before ++ x ∷ behind ≡ other ++ y ∷ after → AreSplits before x other y
splits [] x behind [] y after e = Same refl cc
splits [] x behind (o ∷ other) y after e = let same : o ≡ x = cc in First other (ap (λ z. z ∷ other) same)
splits (b ∷ before) x behind [] y after e = let same : b ≡ y = cc in Second before (ap (λ z. z ∷ before) same)
splits (b ∷ before) x behind (o ∷ other) y after e =
    let same : b ≡ o = cc in
    let tails : before ++ x ∷ behind ≡ other ++ y ∷ after = cc in
    elim (splits before x behind other y after tails) [
      | Same one two ↦ Same (λ i. same i ∷ one i) two
      | First rest is ↦ First rest (λ i. (sym same) i ∷ is i)
      | Second rest is ↦ Second rest (λ i. same i ∷ is i)
    ]

pub one_first : {A : Type 0} (Good : List A → A → Type 0) (items before other : List A) (x y : A) → IsFirstBad Good items before x → IsFirstBad Good items other y → (before ≡ other) × (x ≡ y)
one_first Good items before other x y first second =
    elim (splits before x first.behind other y second.behind (sym first.split ∙ second.split)) [
      | Same one two ↦ (one, two)
      | First rest is ↦ absurd (first.is (second.good before rest x is))
      | Second rest is ↦ absurd (second.is (first.good other rest y is))
    ]

-- where each is good, none is bad
pub none_bad : {A : Type 0} (Good : List A → A → Type 0) (items before : List A) (x : A) → EachFollows Good items → IsFirstBad Good items before x → ⊥
none_bad Good items before x each first = first.is (each before first.behind x first.split)

-- what holds of each two holds of those before an item
pub behind_of : {A : Type 0} (R : A → A → Type 0) (items before after : List A) (x : A) → items ≡ before ++ x ∷ after → AllPairs R items → All (λ other. R other x) before
behind_of R items before after x split pairs k d lt = All-head (R _) x after ((pairs_append R before (x ∷ after) (subst (AllPairs R) split pairs)).2 k d lt)

pub there_in : {A : Type 0} (items before after : List A) (x : A) → items ≡ before ++ x ∷ after → Contains items x
there_in items before after x split = subst (λ l. Contains l x) (sym split) (Contains-append_right before (x ∷ after) x (0, omega arith, refl))

-- Segments and files

module _ (d : Directory) where
  pub one_segment : (numbers : List ℕ) (a b : Name) → IsDamagedSegment d numbers a → IsDamagedSegment d numbers b → a ≡ b
  one_segment numbers a b x y = x.3 ∙ ap segment_name (one_first (IsSoundSegment d) numbers x.0 y.0 x.1 y.1 x.2 y.2).1 ∙ sym y.3

  module _ (next : ℕ) where
    unsound : (before : List Cited) (cited : Cited) (name : Name) → HasBadHeader d before cited name ⊎ HasBadPage d next before cited name → IsSoundFile d next before cited → ⊥
    unsound before cited name (inl bad) sound = elim bad.bad [
      | inl any ↦ All-contains (λ (other : Cited). other.no ≢ cited.no) before any.1 sound.once (any.0, any.2, any.3) any.4
      | inr none ↦ none sound.header sound.is
    ]
    unsound before cited name (inr bad) sound =
        let one : sound.header ≡ bad.header = one_header d cited sound.header bad.header sound.is bad.is in
        none_bad (IsSoundPage d next (IsTakenBy d before)) (placed_lines bad.header) bad.sound bad.item (subst (λ (h : Header). EachFollows (IsSoundPage d next (IsTakenBy d before)) (placed_lines h)) one sound.pages) bad.first

    pub first_file : (files : List Cited) (name : Name) (bad : IsDamagedFile d next files name) → IsFirstBad (IsSoundFile d next) files bad.before bad.cited
    first_file files name bad = record { behind = bad.behind; split = bad.split; good = bad.good; is = unsound bad.before bad.cited name bad.bad }

    one_object_of : (before : List Cited) (cited : Cited) (a b : Name) → HasBadHeader d before cited a ⊎ HasBadPage d next before cited a → HasBadHeader d before cited b ⊎ HasBadPage d next before cited b → a ≡ b
    one_object_of before cited a b (inl x) (inl y) = x.named ∙ sym y.named
    one_object_of before cited a b (inl x) (inr y) = absurd (clash before cited a b x y)
      where
        clash : (before : List Cited) (cited : Cited) (a b : Name) → HasBadHeader d before cited a → HasBadPage d next before cited b → ⊥
        clash before cited a b x y = elim x.bad [
          | inl any ↦ All-contains (λ (other : Cited). other.no ≢ cited.no) before any.1 y.once (any.0, any.2, any.3) any.4
          | inr none ↦ none y.header y.is
        ]
    one_object_of before cited a b (inr x) (inl y) = absurd (clash before cited a b x y)
      where
        clash : (before : List Cited) (cited : Cited) (a b : Name) → HasBadPage d next before cited a → HasBadHeader d before cited b → ⊥
        clash before cited a b x y = elim y.bad [
          | inl any ↦ All-contains (λ (other : Cited). other.no ≢ cited.no) before any.1 x.once (any.0, any.2, any.3) any.4
          | inr none ↦ none x.header x.is
        ]
    one_object_of before cited a b (inr x) (inr y) =
        let one : y.header ≡ x.header = one_header d cited y.header x.header y.is x.is in
        let again = subst (λ (h : Header). IsFirstBad (IsSoundPage d next (IsTakenBy d before)) (placed_lines h) y.sound y.item) one y.first in
        x.named ∙ ap (λ item. page_name item.1.no) (one_first (IsSoundPage d next (IsTakenBy d before)) (placed_lines x.header) x.sound y.sound x.item y.item x.first again).1 ∙ sym y.named

    pub one_file : (files : List Cited) (a b : Name) → IsDamagedFile d next files a → IsDamagedFile d next files b → a ≡ b
    one_file files a b x y =
        let one = one_first (IsSoundFile d next) files x.before y.before x.cited y.cited (first_file files a x) (first_file files b y) in
        one_object_of x.before x.cited a b x.bad
        (subst (λ c. HasBadHeader d x.before c b ⊎ HasBadPage d next x.before c b) (sym one.1) (subst (λ l. HasBadHeader d l y.cited b ⊎ HasBadPage d next l y.cited b) (sym one.0) y.bad))
