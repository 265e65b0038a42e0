-- A file that goes.
use Rattle.std.proofs.Common.{◌≡◌, ◌≢◌, ℕ, Bool, true, false, not, cond, eqb, List, [], ◌∷◌, All, refl, sym, ap, ◌∙◌}
use Rattle.std.specs.Prelude.{◌==◌, ◌||◌}
use Rattle.std.proofs.lemmas.Bool.{ne_eqb}
use Rattle.std.proofs.lemmas.List.Elements.{All-head, All-tail}
use Rattle.std.proofs.lemmas.List.Kept.{AllPairs-filter}
use Rattle.lethe_due.specs.declared.due_file.DueFile.{DueFile}
use Rattle.lethe_due.specs.Due.{AreInOrder, ComesBefore, is_linked, without}

abbrev Other : ℕ → DueFile → Type 0
Other number file = file.no ≢ number

-- where none has the number, all stay
pub all_stay : (number : ℕ) (files : List DueFile) → All (Other number) files → without number files ≡ files
all_stay number [] other = refl
all_stay number (file ∷ files) other =
    ap (λ b. cond (not b) (file ∷ without number files) (without number files)) (ne_eqb _ _ (All-head (Other number) file files other))
    ∙ ap (λ l. file ∷ l) (all_stay number files (All-tail (Other number) file files other))

-- what stays is in order
pub others_in_order : (number : ℕ) (files : List DueFile) → AreInOrder files → AreInOrder (without number files)
others_in_order number files order =
    let other : DueFile → Bool = λ file. not (eqb file.no number) in
    record {
      once = AllPairs-filter (λ file other. file.no ≢ other.no) other files order.once;
      ordered = AllPairs-filter ComesBefore other files order.ordered;
    }

-- where none is linked of that number, all stay
pub none_goes : (number : ℕ) (files : List DueFile) → is_linked number files ≡ false → without number files ≡ files
none_goes number [] none = refl
none_goes number (file ∷ files) none = by (file.no == number) refl (none_goes number files)
  where
    by : (b : Bool) → (file.no == number) ≡ b → (is_linked number files ≡ false → without number files ≡ files) → without number (file ∷ files) ≡ file ∷ files
    by true is rest = let e : true ≡ false = ap (λ b. b || is_linked number files) (sym is) ∙ none in absurd cc
    by false is rest =
        ap (λ b. cond (not b) (file ∷ without number files) (without number files)) is ∙ ap (λ l. file ∷ l) (rest (ap (λ b. b || is_linked number files) (sym is) ∙ none))
