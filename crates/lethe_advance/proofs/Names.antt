-- Names among others, and names that differ from each other.
use Rattle.std.proofs.Common.{◌≢◌, ◌⊎◌, inl, inr, suc, List, [], ◌∷◌, refl, sym, ◌∙◌, ap, arith}
use Rattle.std.specs.Prelude.{AllPairs, Contains, IsSome, is_some}
use Rattle.std.specs.FinMap.{remove}
use Rattle.lethe_base.specs.declared.name.Name.{Name}
use Rattle.lethe_base.proofs.LayoutLaws.{none_in}
use Rattle.lethe_base.proofs.Newest.{first_or_rest, first_is}
use Rattle.lethe_disk.specs.Directory.{Directory, object}
use Rattle.lethe_disk.proofs.Objects.{name_cases, object_beside_remove}
use Rattle.lethe_commit.specs.Clear.{ArePresent}
use Rattle.lethe_stored.proofs.Lists.{later_in}

pub is_among : (names : List Name) (name : Name) → Contains names name ⊎ (Contains names name → ⊥)
is_among [] name = inr (none_in name)
is_among (first ∷ names) name = elim (name_cases first name) [
  | inl same ↦ inl (first_is first names name same)
  | inr ne ↦ elim (is_among names name) [
    | inl there ↦ inl (later_in first names name there)
    | inr out ↦ inr (λ there. elim (first_or_rest first names name there) [ inl same ↦ ne same | inr rest ↦ out rest ])
  ]
]

first_apart : (first : Name) (names : List Name) → AllPairs (λ a b. a ≢ b) (first ∷ names) → (name : Name) → Contains names name → name ≢ first
first_apart first names apart name there same =
    let lt = there.1 in
    apart 0 (suc there.0) name (omega arith) (omega arith) (sym same ∙ sym there.2)

pub all_present : (names : List Name) (d : Directory) → AllPairs (λ a b. a ≢ b) names → ((name : Name) → Contains names name → IsSome (object d name)) → ArePresent names d
all_present [] d apart there = tt
all_present (first ∷ names) d apart there = (
  there first (first_is first names first refl),
  all_present names (remove d first) (λ i j x lt within. apart (suc i) (suc j) x (omega arith) (omega arith))
      (λ name is. ap is_some (object_beside_remove d first name (first_apart first names apart name is)) ∙ there name (later_in first names name is)),
)
