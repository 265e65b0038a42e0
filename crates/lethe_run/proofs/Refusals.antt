-- The first line that tells of a refusal.
use Rattle.std.proofs.Common.{◌≡◌, ◌<◌, ◌≤◌, ℕ, suc, ◌+◌, Bool, true, false, ◌||◌, not, cond, List, [], ◌∷◌, ◌++◌, length, position, Some, None, refl, sym, ap, ◌∙◌, subst, arith, append_assoc, append-nil}
use Rattle.std.specs.List.{list_any, position_or_len, sum_by}
use Rattle.std.proofs.lemmas.Grind.{common_steps, flat_map-append}
use Rattle.std.proofs.lemmas.List.{length-append}
use Rattle.std.proofs.lemmas.List.Folds.{list_any-append}
use Rattle.std.proofs.lemmas.List.Sums.{sum_by-append, sum_by-cons}
use Rattle.lethe_script.specs.declared.order.Order.{Order}
use Rattle.lethe_run.specs.declared.reply.Line.{Line}
use Rattle.lethe_run.specs.Refusals.{IsFirst, IsFirstOr, all_of}
use Rattle.lethe_run.specs.Transcript.{has_refusal, is_refusal}

-- it is the one at the first place that passes
first_at : (lines : List Line) → position_or_len is_refusal lines < length lines → IsFirst lines (suc (position_or_len is_refusal lines))
first_at [] within = absurd (omega (arith, within))
first_at (l ∷ lines) within = by (is_refusal l) refl (first_at lines)
  where
    by : (b : Bool) → is_refusal l ≡ b → (position_or_len is_refusal lines < length lines → IsFirst lines (suc (position_or_len is_refusal lines))) → IsFirst (l ∷ lines) (suc (position_or_len is_refusal (l ∷ lines)))
    by true tells rest =
        let here : position_or_len is_refusal (l ∷ lines) ≡ 0 = ap (λ b. cond (not b) (1 + position_or_len is_refusal lines) 0) tells in
        record { before = []; line = l; behind = lines; are = refl; at = ap suc here; none = refl; tells = tells }
    by false other rest =
        let later : position_or_len is_refusal (l ∷ lines) ≡ 1 + position_or_len is_refusal lines = ap (λ b. cond (not b) (1 + position_or_len is_refusal lines) 0) other in
        let first = rest (omega (arith, within, later)) in
        let at = first.at in
        record {
          before = l ∷ first.before;
          line = first.line;
          behind = first.behind;
          are = ap (λ ls. l ∷ ls) first.are;
          at = omega (arith, later, at);
          none = ap (λ b. b || list_any is_refusal first.before) other ∙ first.none;
          tells = first.tells;
        }

none_at : (lines : List Line) → length lines ≤ position_or_len is_refusal lines → list_any is_refusal lines ≡ false
none_at [] past = refl
none_at (l ∷ lines) past = by (is_refusal l) refl (none_at lines)
  where
    by : (b : Bool) → is_refusal l ≡ b → (length lines ≤ position_or_len is_refusal lines → list_any is_refusal lines ≡ false) → list_any is_refusal (l ∷ lines) ≡ false
    by true tells rest = absurd (let here : position_or_len is_refusal (l ∷ lines) ≡ 0 = ap (λ b. cond (not b) (1 + position_or_len is_refusal lines) 0) tells in omega (arith, here, past))
    by false other rest =
        let later : position_or_len is_refusal (l ∷ lines) ≡ 1 + position_or_len is_refusal lines = ap (λ b. cond (not b) (1 + position_or_len is_refusal lines) 0) other in
        ap (λ b. b || list_any is_refusal lines) other ∙ rest (omega (arith, past, later))

-- Lines behind others

pub first_still : (so_far lines : List Line) (number : ℕ) → IsFirst so_far number → IsFirst (so_far ++ lines) number
first_still so_far lines number first = record {
  before = first.before;
  line = first.line;
  behind = first.behind ++ lines;
  are = ap (λ l. l ++ lines) first.are ∙ append_assoc first.before (first.line ∷ first.behind) lines;
  at = first.at;
  none = first.none;
  tells = first.tells;
}

both_none : (so_far lines : List Line) → list_any is_refusal so_far ≡ false → list_any is_refusal lines ≡ false → list_any is_refusal (so_far ++ lines) ≡ false
both_none so_far lines a b = list_any-append is_refusal so_far lines ∙ ap (λ x. x || list_any is_refusal lines) a ∙ b

first_later : (so_far lines : List Line) → list_any is_refusal so_far ≡ false → (number : ℕ) → IsFirst lines number → IsFirst (so_far ++ lines) (length so_far + number)
first_later so_far lines none number first =
    let at = first.at in
    record {
      before = so_far ++ first.before;
      line = first.line;
      behind = first.behind;
      are = ap (λ l. so_far ++ l) first.are ∙ sym (append_assoc so_far first.before (first.line ∷ first.behind));
      at = omega (arith, at, length-append so_far first.before);
      none = both_none so_far first.before none first.none;
      tells = first.tells;
    }

pub found_more : (so_far lines : List Line) (index number : ℕ) → list_any is_refusal so_far ≡ false → position is_refusal lines ≡ Some index → number ≡ length so_far + index + 1 → IsFirst (so_far ++ lines) number
found_more so_far lines index number none is number_is =
    let at : position_or_len is_refusal lines ≡ index = grind (arith, common_steps) in
    let within : index < length lines = grind (arith, common_steps) in
    let same : length so_far + suc (position_or_len is_refusal lines) ≡ number = omega (arith, at, number_is) in
    subst (IsFirst (so_far ++ lines)) same (first_later so_far lines none (suc (position_or_len is_refusal lines)) (first_at lines (omega (arith, at, within))))

pub none_more : (so_far lines : List Line) → list_any is_refusal so_far ≡ false → position is_refusal lines ≡ None → list_any is_refusal (so_far ++ lines) ≡ false
none_more so_far lines none is =
    let past : length lines ≤ position_or_len is_refusal lines = grind (arith, common_steps) in
    both_none so_far lines none (none_at lines past)

-- The lines of all phases

pub all_more : (lines : List (List Line)) (more : List Line) → all_of (lines ++ more ∷ []) ≡ all_of lines ++ more
all_more lines more = flat_map-append (λ (phase : List Line). phase) lines (more ∷ []) ∙ ap (λ l. all_of lines ++ l) (append-nil more)

any_of_all : (lines : List (List Line)) → list_any is_refusal (all_of lines) ≡ has_refusal lines
any_of_all [] = refl
any_of_all (l ∷ lines) = list_any-append is_refusal l (all_of lines) ∙ ap (λ b. list_any is_refusal l || b) (any_of_all lines)

pub none_refused : (lines : List (List Line)) → IsFirstOr (all_of lines) None → has_refusal lines ≡ false
none_refused lines none = sym (any_of_all lines) ∙ none

pub one_refused : (lines : List (List Line)) (number : ℕ) → IsFirstOr (all_of lines) (Some number) → has_refusal lines ≡ true
one_refused lines number first =
    sym (any_of_all lines) ∙ ap (list_any is_refusal) first.are ∙ list_any-append is_refusal first.before (first.line ∷ first.behind)
    ∙ ap (λ b. b || list_any is_refusal (first.line ∷ first.behind)) first.none ∙ ap (λ b. b || list_any is_refusal first.behind) first.tells

-- so their numbers stay within the limit of a run's rounds
pub lines_fit : (phases yielded rest : List (List Order)) (orders : List Order) (lines : List Line) (printed begun most : ℕ) → phases ≡ yielded ++ orders ∷ rest → length lines ≤ length orders → printed ≤ sum_by length yielded
    → begun + sum_by length phases ≤ most → printed + length lines ≤ most
lines_fit phases yielded rest orders lines printed begun most are many printed_is few =
    let all = ap (sum_by (length {A = Order})) are ∙ sum_by-append (length {A = Order}) yielded (orders ∷ rest) in
    let first = sum_by-cons (length {A = Order}) orders rest in
    omega (arith, all, first, many, printed_is, few)
