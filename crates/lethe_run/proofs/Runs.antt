-- What the iterator of a vector has given.
use Rattle.std.proofs.Common.{◌≡◌, List, [], ◌∷◌, ◌++◌, ◌∙◌, sym, ap}
use Rattle.std.specs.Iterator.{Yields}
use Rattle.std.specs.Vec.Iter.{into_iter_items, into_iter_steps}
use Rattle.std.specs.declared.vec.IntoIter.{IntoIter}

-- it is a front of the items
taken_front : {X A : Type 0} (s : IntoIter X A) (xs : List X) (t : IntoIter X A) → Yields into_iter_steps s xs t → into_iter_items s ≡ xs ++ into_iter_items t
taken_front s [] t y = ap into_iter_items y
taken_front s (x ∷ xs) t y = y.1.0 ∙ ap (λ ys. x ∷ ys) (taken_front y.0 xs t y.2)

-- the whole is that front, the item that comes next, and the rest
pub taken_next : {X A : Type 0} (whole : List X) (s : IntoIter X A) (xs : List X) (t : IntoIter X A) (x : X) (rest : List X) → into_iter_items s ≡ whole → Yields into_iter_steps s xs t → into_iter_items t ≡ x ∷ rest → whole ≡ xs ++ x ∷ rest
taken_next whole s xs t x rest made given next = sym made ∙ taken_front s xs t given ∙ ap (λ r. xs ++ r) next
