-- No entry of a file stands behind an erase exactly where its greatest place is before the erase's.
use Rattle.std.proofs.Common.{ℕ, ◌<◌, max, List, [], ◌∷◌, length, fold, All, arith}
use Rattle.std.proofs.lemmas.List.Elements.{All-cons, All-head, All-nil, All-tail}
use Rattle.lethe_header.specs.Facts.{max_seq_in}
use Rattle.lethe_header.specs.declared.header.PageLine.{PageLine}

abbrev IsBefore : ℕ → PageLine → Type 0
IsBefore seq line = line.max_seq < seq

abbrev most_from : ℕ → List PageLine → ℕ
most_from from lines = fold (λ most line. max most line.max_seq) from lines

each_from : (seq from : ℕ) (lines : List PageLine) → most_from from lines < seq → (from < seq) × All (IsBefore seq) lines
each_from seq from [] less = (less, All-nil (IsBefore seq))
each_from seq from (line ∷ lines) less =
    let rest = each_from seq (max from line.max_seq) lines less in
    (omega (arith, rest.0), All-cons (IsBefore seq) line lines (omega (arith, rest.0)) rest.1)

most_below : (seq from : ℕ) (lines : List PageLine) → from < seq → All (IsBefore seq) lines → most_from from lines < seq
most_below seq from [] low each = low
most_below seq from (line ∷ lines) low each =
    let here : line.max_seq < seq = All-head (IsBefore seq) line lines each in
    most_below seq (max from line.max_seq) lines (omega (arith, low, here)) (All-tail (IsBefore seq) line lines each)

pub each_before : (seq : ℕ) (lines : List PageLine) → max_seq_in lines < seq → All (λ line. line.max_seq < seq) lines
each_before seq lines less = (each_from seq 0 lines less).1

-- the other way round there has to be a line, since a place may be 0
pub most_before : (seq : ℕ) (lines : List PageLine) → 0 < length lines → All (λ line. line.max_seq < seq) lines → max_seq_in lines < seq
most_before seq [] some each = absurd (omega (arith, some))
most_before seq (line ∷ lines) some each =
    let here : line.max_seq < seq = All-head (IsBefore seq) line lines each in
    most_below seq 0 (line ∷ lines) (omega (arith, here)) each
