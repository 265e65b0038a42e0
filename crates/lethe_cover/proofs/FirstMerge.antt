-- The smallest merge is a move of files.
use Rattle.std.proofs.Common.{◌≡◌, ◌≢◌, inl, inr, Bool, [], ◌∷◌, refl, sym, ◌∙◌, arith}
use Rattle.lethe_cover.proofs.Common.{File, runs_of, none_in, IsMove, runs_before, runs_then}
use Rattle.lethe_cover.proofs.Lists.{only_in}
use Rattle.lethe_cover.specs.Examples.{first_merge}

module _ (alone : Bool) (file made : File) (other : file ≢ made) where
  pub first_move : IsMove alone (first_merge file made)
  first_move = record {
    taken_from = λ x there. inl there;
    here_split = λ x there. inr there;
    here_from = λ x there. absurd (none_in x there);
    next_split = λ x there. absurd (none_in x there);
    next_from = λ x there. inr there;
    made_there = λ x there. there;
    made_new = λ x there before. other (only_in file x before ∙ sym (only_in made x there));
    here_apart = λ x y there. absurd (none_in x there);
    next_apart = λ x y there before. absurd (none_in x before);
    alone_apart = λ lone x y there. absurd (none_in x there);
    here_order = λ i j d before within. absurd (omega arith);
    next_order = λ i j d before within. absurd (omega arith);
  }

  pub first_merge_moves : IsMove alone (first_merge file made) × (runs_of ((file ∷ []) ∷ [] ∷ []) ≡ runs_before (first_merge file made)) × (runs_of ([] ∷ (made ∷ []) ∷ []) ≡ runs_then (first_merge file made))
  first_merge_moves = (first_move, refl, refl)
