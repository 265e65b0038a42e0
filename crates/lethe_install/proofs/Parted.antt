-- Names that are needed, and the others.
use Rattle.std.proofs.Common.{◌≡◌, Bool, true, false, not, List, All, refl, sym, ◌∙◌, subst}
use Rattle.std.specs.Prelude.{IsTrue}
use Rattle.std.specs.Ordering.{is_eq}
use Rattle.std.specs.declared.cmp.Ordering.{Ordering}
use Rattle.std.specs.declared.cmp.Ordering.TheVariants.{Less, Equal, Greater}
use Rattle.std.proofs.lemmas.List.Elements.{All-contains, All-weaker, filter_passes}
use Rattle.std.proofs.lemmas.List.Folds.{Any-from_list_any}
use Rattle.lethe_base.specs.Names.{name_cmp, name_eq, name_eq_ties, name_same}
use Rattle.lethe_base.specs.declared.name.Name.{Name}
use Rattle.lethe_pins.specs.Held.{has_name, is_named}
use Rattle.lethe_pins.specs.declared.pin.Pin.{Pin}
use Rattle.lethe_install.specs.Left.{needed_of, unneeded_of}

equal : (order : Ordering) → is_eq order ≡ true → order ≡ Equal
equal Less e = absurd cc
equal Equal e = refl
equal Greater e = absurd cc

pub same_name : (a b : Name) → name_eq a b ≡ true → a ≡ b
same_name a b e = name_same a b (equal (name_cmp a b) (sym (name_eq_ties a b) ∙ e))

-- What is left is needed, and nothing that goes

fails : (b : Bool) → not b ≡ true → b ≡ false
fails true e = absurd cc
fails false e = refl

module _ (needs : Name → Bool) (names : List Name) where
  pub left_needed : All (λ name. IsTrue (needs name)) (needed_of needs names)
  left_needed = filter_passes needs names

  pub gone_unneeded : All (λ name. needs name ≡ false) (unneeded_of needs names)
  gone_unneeded = All-weaker (λ name. not (needs name) ≡ true) (λ name. needs name ≡ false) (λ name. fails (needs name)) (unneeded_of needs names) (filter_passes (λ name. not (needs name)) names)

-- what is true of each name that a pin names is true of each that is left
module _ (P : Name → Type 0) (pins : List Pin) (all : All (λ pin. All P pin.names) pins) where
  named_is : (name : Name) → is_named pins name ≡ true → P name
  named_is name is =
      let pin = Any-from_list_any (λ (pin : Pin). has_name pin.names name) pins is in
      let own = All-contains (λ (pin : Pin). All P pin.names) pins pin.1 all (pin.0, pin.2, pin.3) in
      let other = Any-from_list_any (λ (other : Name). name_eq other name) (pin.1).names pin.4 in
      subst P (same_name other.1 name other.4) (All-contains P (pin.1).names other.1 own (other.0, other.2, other.3))

  pub left_are : (names : List Name) → All P (needed_of (is_named pins) names)
  left_are names = All-weaker (λ name. is_named pins name ≡ true) P named_is (needed_of (is_named pins) names) (left_needed (is_named pins) names)
