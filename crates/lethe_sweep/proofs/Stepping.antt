-- A sweep's steps over the pages of a tile.
use Rattle.std.proofs.Common.{◌≡◌, ℕ, zero, suc, ◌+◌, ◌≤◌, ◌<◌, Bool, true, List, [], ◌∷◌, ◌++◌, Some, slice_get, get_or, length, take, drop, count_by, cond, Any, sym, ap, subst, ◌∙◌, refl, arith}
use Rattle.std.proofs.lemmas.List.{get_or-drop, get_or-take, length-take-le, take_more}
use Rattle.std.proofs.lemmas.List.Sums.{sum_by_more, sum_by_more_le}
use Rattle.std.proofs.lemmas.Option.{slice_get-get_or}
use Rattle.lethe_base.specs.declared.entry.Entry.{Entry}
use Rattle.lethe_base.specs.declared.pending.Pending.{Pending}
use Rattle.lethe_header.specs.declared.header.PageLine.{PageLine}
use Rattle.lethe_tile.specs.Woven.{puts_of, tombs_of}
use Rattle.lethe_sweep.specs.Modes.{is_alone, is_fetched_in}
use Rattle.lethe_sweep.specs.Steps.{IsLeft, IsRead, Fetched, fenced}
use Rattle.lethe_sweep.specs.Sweeping.{left_in}
use Rattle.lethe_swept.specs.Left.{Placed, fresh, placed}
use Rattle.lethe_sweep.specs.declared.fence.Mode.{Mode}
use Rattle.lethe_swept.specs.declared.part.Part.{Part}

-- what a fetch adds to what is left
abbrev pub IsAdded : Type 0 → Mode → Pending → List (List Entry) → Placed → List Entry → List Part → List Entry → List Part → Type 0
IsAdded tells mode erase pages page tombs parts tombs_then parts_then =
    (entries : List Entry) × IsRead tells pages page entries × (tombs_then ≡ tombs ++ tombs_of (left_in (is_alone mode) erase (fenced page.line.fence entries))) × (parts_then ≡ parts ++ fresh (puts_of (left_in (is_alone mode) erase (fenced page.line.fence entries))))

pub fetched_more : (tells : Type 0) (mode : Mode) (erase : Pending) (pages : List (List Entry)) (before : List Placed) (tombs : List Entry) (parts : List Part) (page : Placed) (tombs_then : List Entry) (parts_then : List Part)
    → is_fetched_in mode erase.range page.line ≡ true → IsLeft tells mode erase pages before tombs parts → IsAdded tells mode erase pages page tombs parts tombs_then parts_then
    → IsLeft tells mode erase pages (before ++ page ∷ []) tombs_then parts_then
fetched_more tells mode erase pages before tombs parts page tombs_then parts_then fetched so_far (entries, read, tombs_are, parts_are) =
    subst (λ (ts : List Entry). IsLeft tells mode erase pages (before ++ page ∷ []) ts parts_then) (sym tombs_are)
    (subst (λ (ps : List Part). IsLeft tells mode erase pages (before ++ page ∷ []) (tombs ++ tombs_of (left_in (is_alone mode) erase (fenced page.line.fence entries))) ps) (sym parts_are)
    (Fetched before tombs parts so_far page fetched entries read))

-- the pages of the lines up to a place, and the one there
pub placed_append : (first : ℕ) (lines : List PageLine) (line : PageLine) → placed first (lines ++ line ∷ []) ≡ placed first lines ++ record { place = first + length lines; line = line } ∷ []
placed_append first [] line = ap (λ (n : ℕ). let page : Placed = record { place = n; line = line } in page ∷ []) (omega arith)
placed_append first (before ∷ lines) line =
    let page : Placed = record { place = first; line = before } in
    ap (λ (pages : List Placed). page ∷ pages) (placed_append (first + 1) lines line)
    ∙ ap (λ (n : ℕ). let last : Placed = record { place = n; line = line } in page ∷ (placed (first + 1) lines ++ last ∷ [])) (omega arith)

pub placed_more : (first : ℕ) (lines : List PageLine) (place : ℕ) (line : PageLine) → place < length lines → line ≡ get_or lines place line
    → placed first (take (place + 1) lines) ≡ placed first (take place lines) ++ record { place = first + place; line = line } ∷ []
placed_more first lines place line within is =
    ap (placed first) (take_more lines place line within ∙ ap (λ (l : PageLine). take place lines ++ l ∷ []) (sym is))
    ∙ placed_append first (take place lines) line
    ∙ ap (λ (n : ℕ). let last : Placed = record { place = first + n; line = line } in placed first (take place lines) ++ last ∷ []) (length-take-le place lines (omega (arith, within)))

-- a line of some of a file's lines
pub line_there : (all lines : List PageLine) (first k place : ℕ) (line : PageLine) → take (length lines) (drop first all) ≡ lines → first + length lines ≤ length all → k < length lines → line ≡ get_or lines k line
    → place ≡ first + k → slice_get all place ≡ Some line
line_there all lines first k place line are within inside is at =
    let there : get_or lines k line ≡ get_or all (first + k) line =
    ap (λ (ls : List PageLine). get_or ls k line) (sym are) ∙ get_or-take (length lines) (drop first all) k line inside ∙ get_or-drop first all k line in
    let lt : first + k < length all = omega (arith, within, inside) in
    ap (slice_get all) at ∙ slice_get-get_or all (first + k) line lt ∙ ap (λ (l : PageLine). Some l) (sym (is ∙ there))

-- of the lines up to a place the pages were fetched that are to be, and the count of faults rose or stands
pub record AreCounted (f : PageLine → Bool) (lines : List PageLine) (place before now faults faults_now : ℕ) : Type 0 where
  pub counted : now ≡ before + count_by f (take place lines)
  pub risen : faults ≤ faults_now

pub one_more : (f : PageLine → Bool) (lines : List PageLine) (place before now faults faults_now : ℕ) → AreCounted f lines place before now faults faults_now
    → (line : PageLine) (then faults_then : ℕ) → place < length lines → line ≡ get_or lines place line → then ≡ now + count_by f (line ∷ []) → faults_now ≤ faults_then → AreCounted f lines (place + 1) before then faults faults_then
one_more f lines place before now faults faults_now so_far line then faults_then within is more later =
    let counted = so_far.counted in
    let risen = so_far.risen in
    let own = ap (λ (l : PageLine). count_by f (l ∷ [])) is in
    record {
      counted = omega (arith, counted, more, own, sum_by_more (λ (line : PageLine). cond (f line) 1 0) lines place line within);
      risen = omega (arith, risen, later);
    }

pub placed_len : (first : ℕ) (lines : List PageLine) → length (placed first lines) ≡ length lines
placed_len first [] = refl
placed_len first (line ∷ lines) = omega (arith, placed_len (first + 1) lines)

pub placed_at : (first : ℕ) (lines : List PageLine) (k place : ℕ) (line : PageLine) → k < length lines → line ≡ get_or lines k line → place ≡ first + k
    → get_or (placed first lines) k (record { place = place; line = line }) ≡ record { place = place; line = line }
placed_at first [] k place line inside is at = absurd (omega (arith, inside))
placed_at first (next ∷ lines) zero place line inside is at =
    let same : first ≡ place = omega (arith, at) in
    ap (λ (n : ℕ). let page : Placed = record { place = n; line = next } in page) same ∙ ap (λ (l : PageLine). let page : Placed = record { place = place; line = l } in page) (sym is)
placed_at first (next ∷ lines) (suc k) place line inside is at = placed_at (first + 1) lines k place line (omega (arith, inside)) is (omega (arith, at))

-- what holds of the page at a place holds of one of them
pub placed_any : (first : ℕ) (lines : List PageLine) (P : Placed → Type 0) (k place : ℕ) (line : PageLine) → k < length lines → line ≡ get_or lines k line → place ≡ first + k
    → P (record { place = place; line = line }) → Any P (placed first lines)
placed_any first lines P k place line inside is at holds = (k, record { place = place; line = line }, omega (arith, inside, placed_len first lines), placed_at first lines k place line inside is at, holds)

-- not more pages were fetched than are to be
pub at_most : (f : PageLine → Bool) (lines : List PageLine) (place before now faults faults_now : ℕ) → AreCounted f lines place before now faults faults_now
    → (line : PageLine) (then : ℕ) → place < length lines → line ≡ get_or lines place line → then ≤ now + count_by f (line ∷ []) → then ≤ before + count_by f lines
at_most f lines place before now faults faults_now so_far line then within is more =
    let counted = so_far.counted in
    let own = ap (λ (l : PageLine). count_by f (l ∷ [])) is in
    omega (arith, counted, more, own, sum_by_more (λ (line : PageLine). cond (f line) 1 0) lines place line within, sum_by_more_le (λ (line : PageLine). cond (f line) 1 0) lines place line within)
