-- The parts of the buffers.
use Rattle.std.proofs.Common.{◌≡◌, ◌⊎◌, List, [], ◌∷◌, ◌++◌, All, reverse, ⊎_elim, inl, inr, sym, ap, subst, ◌∙◌}
use Rattle.std.specs.Global.{Vec}
use Rattle.std.specs.Prelude.{Any, Contains, flat_map}
use Rattle.std.proofs.lemmas.List.{append-nil}
use Rattle.std.proofs.lemmas.List.Elements.{All-cons, All-nil}
use Rattle.std.proofs.lemmas.List.Sorted.{Contains-permutation, IsPermutation-reverse}
use Rattle.lethe_base.specs.Keys.{Bytes}
use Rattle.lethe_base.specs.Entries.{IsAscending}
use Rattle.lethe_base.specs.Read.{is_between}
use Rattle.lethe_base.specs.declared.entry.Entry.{Entry}
use Rattle.lethe_file.proofs.Joined.{from_filter}
use Rattle.lethe_read.specs.Between.{AreReadBetween}
use Rattle.lethe_read.specs.Parts.{IsSound, gives_in, left_in}
use Rattle.lethe_read.specs.declared.part.Part.{Part}
use Rattle.lethe_read.specs.declared.part.Part.TheVariants.{Buffered}
use Rattle.lethe_read.proofs.Adding.{Any-cases, buffers_read, only_of}
use Rattle.lethe_read.proofs.Ranges.{between_ascends, entries_between}

module _ {C : Type 0} (left : C → List Entry) (lo hi : Bytes) (active frozen : List Entry) where
  pub one_left : (parts : List (Part C)) (first : Vec Entry) → frozen ≡ [] → reverse first.items ≡ entries_between lo hi active → parts ≡ Buffered first ∷ [] → AreReadBetween lo hi active frozen [] (flat_map (left_in left) parts)
  one_left parts first none is all =
      subst (λ (l : List Entry). AreReadBetween lo hi active frozen [] l)
      (ap (λ (f : List Entry). entries_between lo hi active ++ entries_between lo hi f) none ∙ ap (λ (l : List Entry). l ++ []) (sym is) ∙ sym (ap (flat_map (left_in left)) all))
      (buffers_read lo hi active frozen)

  pub two_left : (parts : List (Part C)) (first second : Vec Entry) → reverse first.items ≡ entries_between lo hi active → reverse second.items ≡ entries_between lo hi frozen → parts ≡ Buffered first ∷ Buffered second ∷ []
      → AreReadBetween lo hi active frozen [] (flat_map (left_in left) parts)
  two_left parts first second is other all =
      subst (λ (l : List Entry). AreReadBetween lo hi active frozen [] l)
      (ap (λ (l : List Entry). l ++ entries_between lo hi frozen) (sym is) ∙ ap (λ (l : List Entry). reverse first.items ++ l) (sym other ∙ sym (append-nil (reverse second.items))) ∙ sym (ap (flat_map (left_in left)) all))
      (buffers_read lo hi active frozen)

  -- the part holds the entries of a buffer
  copies_ascend : (es : List Entry) (held : Vec Entry) → IsAscending es → reverse held.items ≡ entries_between lo hi es → IsAscending (reverse held.items)
  copies_ascend es held ascending is = subst IsAscending (sym is) (between_ascends lo hi es ascending)

  module _ (tells : Type 0) (sound : C → Type 0) (parts : List (Part C)) where
    abbrev AreSound : List (Part C) → Type 0
    AreSound parts = All (IsSound tells sound left) parts

    one : (held : Vec Entry) (rest : List (Part C)) → IsAscending (reverse held.items) → AreSound rest → AreSound (Buffered held ∷ rest)
    one held rest ascending sounds = All-cons (IsSound tells sound left) (Buffered held) rest ascending sounds

    pub one_sound : (first : Vec Entry) → IsAscending active → reverse first.items ≡ entries_between lo hi active → parts ≡ Buffered first ∷ [] → AreSound parts
    one_sound first ascending is all = subst AreSound (sym all) (one first [] (copies_ascend active first ascending is) (All-nil (IsSound tells sound left)))

    pub two_sound : (first second : Vec Entry) → IsAscending active → IsAscending frozen → reverse first.items ≡ entries_between lo hi active → reverse second.items ≡ entries_between lo hi frozen
        → parts ≡ Buffered first ∷ Buffered second ∷ [] → AreSound parts
    two_sound first second ascending too is other all =
        subst AreSound (sym all) (one first (Buffered second ∷ []) (copies_ascend active first ascending is) (one second [] (copies_ascend frozen second too other) (All-nil (IsSound tells sound left))))

-- what the parts of the buffers may give
module _ {C : Type 0} (gives : C → Entry → Type 0) (lo hi : Bytes) (active frozen : List Entry) (parts : List (Part C)) (entry : Entry) where
  copied : (es : List Entry) (held : Vec Entry) → reverse held.items ≡ entries_between lo hi es → Contains held.items entry → Contains es entry
  copied es held is has =
      (from_filter (λ (entry : Entry). is_between lo hi entry.key) es entry
      (subst (λ (l : List Entry). Contains l entry) is (Contains-permutation held.items (reverse held.items) entry (IsPermutation-reverse held.items) has))).0

  abbrev Gives : Part C → Type 0
  Gives part = gives_in gives part entry

  pub one_gives : (first : Vec Entry) → reverse first.items ≡ entries_between lo hi active → parts ≡ Buffered first ∷ [] → Any Gives parts → Contains active entry ⊎ Contains frozen entry
  one_gives first is all any = inl (copied active first is (only_of Gives (Buffered first) (subst (Any Gives) all any)))

  pub two_give : (first second : Vec Entry) → reverse first.items ≡ entries_between lo hi active → reverse second.items ≡ entries_between lo hi frozen → parts ≡ Buffered first ∷ Buffered second ∷ []
      → Any Gives parts → Contains active entry ⊎ Contains frozen entry
  two_give first second is other all any =
      ⊎_elim (λ here. inl (copied active first is (only_of Gives (Buffered first) here))) (λ here. inr (copied frozen second other (only_of Gives (Buffered second) here)))
      (Any-cases Gives (Buffered first ∷ []) (Buffered second ∷ []) (subst (Any Gives) all any))
