-- The greatest gate of some names, as names are added one by one.
use Rattle.std.proofs.Common.{◌≡◌, ◌≢◌, ◌≤◌, ◌<◌, inl, inr, ℕ, ◌+◌, List, [], ◌∷◌, ◌++◌, length, take, get_or, Option, Some, None, sym, ap, subst, ◌∙◌, arith}
use Rattle.std.specs.Prelude.{Contains}
use Rattle.std.proofs.lemmas.List.{take_more}
use Rattle.std.proofs.lemmas.List.Elements.{Contains-append_left, Contains-push, Contains-push_cases}
use Rattle.lethe_base.specs.declared.name.Kind.TheVariants.{Gate}
use Rattle.lethe_base.specs.declared.name.Name.{Name}
use Rattle.lethe_commit.specs.Gates.{gate_name, IsGreatestGate, IsGreatestOf}

pub no_names : IsGreatestOf [] None
no_names number there = let lt = there.1 in absurd (omega arith)

-- a name that is no gate's changes nothing
pub other_added : (greatest : Option ℕ) (others : List Name) (name : Name) → name.kind ≢ Gate → IsGreatestOf others greatest → IsGreatestOf (others ++ name ∷ []) greatest
other_added None others name other none = λ number there. elim (Contains-push_cases others name (gate_name number) there) [
  | inl before ↦ none number before
  | inr same ↦ other (ap (λ (n : Name). n.kind) same)
]
other_added (Some greatest) others name other is = record {
  there = Contains-append_left others (name ∷ []) (gate_name greatest) is.there;
  last = λ number there. elim (Contains-push_cases others name (gate_name number) there) [
    | inl before ↦ is.last number before
    | inr same ↦ absurd (other (ap (λ (n : Name). n.kind) same))
  ];
}

-- a smaller gate's neither
pub smaller_added : (greatest : ℕ) (others : List Name) (name : Name) → name.no ≤ greatest → IsGreatestGate others greatest → IsGreatestGate (others ++ name ∷ []) greatest
smaller_added greatest others name small is = record {
  there = Contains-append_left others (name ∷ []) (gate_name greatest) is.there;
  last = λ number there. elim (Contains-push_cases others name (gate_name number) there) [
    | inl before ↦ is.last number before
    | inr same ↦ let no : name.no ≡ number = ap (λ (n : Name). n.no) same in omega arith
  ];
}

-- a gate above all others is the greatest
pub greater_added : (others : List Name) (name : Name) → name.kind ≡ Gate → ((number : ℕ) → Contains others (gate_name number) → number ≤ name.no) → IsGreatestGate (others ++ name ∷ []) name.no
greater_added others name is above = record {
  there = subst (λ (n : Name). Contains (others ++ name ∷ []) n) (gate_is name is) (Contains-push others name);
  last = λ number there. elim (Contains-push_cases others name (gate_name number) there) [
    | inl before ↦ above number before
    | inr same ↦ let no : name.no ≡ number = ap (λ (n : Name). n.no) same in omega arith
  ];
}
  where
    gate_is : (n : Name) → n.kind ≡ Gate → n ≡ gate_name n.no
    gate_is n e = ap (λ k. record { kind = k; no = n.no }) e

pub one_more : (names : List Name) (i : ℕ) (name : Name) (greatest : Option ℕ) → i < length names → name ≡ get_or names i name → IsGreatestOf (take i names ++ name ∷ []) greatest → IsGreatestOf (take (i + 1) names) greatest
one_more names i name greatest lt is more = subst (λ l. IsGreatestOf l greatest) (ap (λ (n : Name). take i names ++ n ∷ []) is ∙ sym (take_more names i name lt)) more
