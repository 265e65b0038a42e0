-- What a walk through the links comes to.
use Rattle.std.proofs.Common.{◌≡◌, ℕ, zero, suc, ◌≤◌, Option, Some, None, List, [], ◌∷◌, ◌++◌, length, refl, ap, ◌∙◌, subst, arith}
use Rattle.lethe_base.specs.Entries.{IsAscending}
use Rattle.lethe_base.specs.declared.entry.Entry.{Entry}
use Rattle.lethe_tree.specs.declared.link.Link.{Link}
use Rattle.lethe_tree.specs.Shape.{Shape, Leaf, Fork, Lies, height, order, root_of, size}
use Rattle.lethe_tree.specs.Looked.{MayLook}
use Rattle.lethe_tree.specs.Tree.{IsTree, at_each, entries_from, walk}
use Rattle.lethe_tree.proofs.Rotations.{height_le-size, length_is}

walk_is : (links : List Link) (t : Shape) (depth : ℕ) → Lies links t → height t ≤ depth → walk depth links (root_of t) ≡ order t
walk_is links Leaf zero lies le = refl
walk_is links Leaf (suc depth) lies le = refl
walk_is links (Fork l i r) zero lies le = absurd (omega (arith, le))
walk_is links (Fork l i r) (suc depth) lies le =
    ap (λ (o : Option Link). elim o [ None ↦ [] | Some link ↦ walk depth links link.left ++ i ∷ walk depth links link.right ]) lies.0
    ∙ (ap (λ xs. xs ++ i ∷ walk depth links (root_of r)) (walk_is links l depth lies.1.0 (grind arith)) ∙ ap (λ ys. order l ++ i ∷ ys) (walk_is links r depth lies.1.1 (grind arith)))

-- the entries of a tree are those at its indices
pub seen_shape : (entries : List Entry) (links : List Link) (root : Option ℕ) (t : Shape) → Lies links t → root ≡ root_of t → size t ≤ length links → entries_from entries links root ≡ at_each entries (order t)
unfolding entries_from
seen_shape entries links root t lies is few = ap (at_each entries) (ap (walk (length links) links) is ∙ walk_is links t (length links) lies (let a = height_le-size t in omega (arith, a, few)))

pub seen : (entries : List Entry) (links : List Link) (root last : Option ℕ) (is : IsTree entries links root last) → entries_from entries links root ≡ at_each entries (order is.tree)
seen entries links root last is = seen_shape entries links root is.tree is.lies is.root_is (let a = length_is is.tree in omega (arith, a, is.count, is.linked))

pub may_look : (entries : List Entry) (links : List Link) (root last : Option ℕ) (is : IsTree entries links root last) → IsAscending (entries_from entries links root) → MayLook links entries root is.tree
may_look entries links root last is s = record {
  lies = is.lies;
  from_is = is.root_is;
  balanced = is.balanced;
  ascending = subst IsAscending (seen entries links root last is) s;
  known = is.known;
  few = let a = length_is is.tree in omega (arith, a, is.count, is.linked, is.few);
}

pub nothing_seen : (entries : List Entry) (links : List Link) → entries_from entries links None ≡ []
unfolding entries_from
nothing_seen entries links = by (length links)
  where
    by : (depth : ℕ) → at_each entries (walk depth links None) ≡ []
    by zero = refl
    by (suc depth) = refl
