-- The names of a directory.
use Rattle.std.proofs.Common.{◌≡◌, Bool, true, List, ◌↔◌, sym, subst, ◌∙◌}
use Rattle.std.specs.Prelude.{Contains, IsSome, Decides}
use Rattle.std.specs.List.{IsAnyAnswer}
use Rattle.std.specs.FinMap.{keys, contains_key-keys}
use Rattle.std.specs.Cmp.{eq_by_cmp_equiv}
use Rattle.std.proofs.lemmas.List.Elements.{contains_decides, Decides-contains}
use Rattle.std.proofs.lemmas.Map.Views.{Contains-from_any, list_any-from_Contains}
use Rattle.lethe_base.specs.declared.name.Name.{Name}
use Rattle.lethe_base.specs.Names.{name_eq, name_eq_ties, name_total}
use Rattle.lethe_disk.specs.Directory.{Directory, object}
use Rattle.lethe_disk.proofs.Objects.{same_name, same_name_itself, same_name_true}

-- the objects that are there are those that are listed
pub listed : (d : Directory) (name : Name) → Contains (keys d) name ↔ IsSome (object d name)
listed d name = (
  (λ there. contains_key-keys d name ∙ list_any-from_Contains (eq_by_cmp_equiv name_total) name (keys d) there),
  (λ is. Contains-from_any same_name_true name (keys d) (sym (contains_key-keys d name) ∙ is)),
)

name_decides : (a b : Name) → Decides (name_eq a b) (a ≡ b)
name_decides a b = (
  (λ e. same_name_true a b (sym (name_eq_ties a b) ∙ e)),
  (λ is. name_eq_ties a b ∙ subst (λ n. same_name a n ≡ true) is (same_name_itself a)),
)

-- what a search for a name answers
pub found_decides : (names : List Name) (name : Name) (found : Bool) → IsAnyAnswer (λ other t. name_eq other name ≡ t) names found → Decides found (Contains names name)
found_decides names name found answer = Decides-contains names name found (contains_decides name_eq name_decides names name found answer)
