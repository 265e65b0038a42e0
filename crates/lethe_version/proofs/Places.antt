-- No entry of a file has a greater place than its header says.
use Rattle.std.proofs.Common.{◌≡◌, ℕ, ◌<◌, ◌≤◌, max, List, [], ◌∷◌, length, get_or, map, fold, All, ap, ◌∙◌, arith}
use Rattle.std.specs.List.{AllZip}
use Rattle.std.proofs.lemmas.List.Elements.{All-cons, All-nil, All-head, All-tail, All-weaker}
use Rattle.lethe_base.specs.Keys.{Bytes}
use Rattle.lethe_base.specs.declared.entry.Entry.{Entry}
use Rattle.lethe_header.specs.Facts.{max_seq_in}
use Rattle.lethe_header.specs.declared.header.PageLine.{PageLine}
use Rattle.lethe_file.specs.Agreement.{Agrees, entries_in}
use Rattle.lethe_version.specs.Newest.{AreUpTo}

abbrev most_from : {X : Type 0} → (X → ℕ) → ℕ → List X → ℕ
most_from n from xs = fold (λ most x. max most (n x)) from xs

from_most : {X : Type 0} (n : X → ℕ) (from : ℕ) (xs : List X) → from ≤ most_from n from xs
from_most n from [] = omega arith
from_most n from (x ∷ xs) = let rest = from_most n (max from (n x)) xs in omega (arith, rest)

all_below_most : {X : Type 0} (n : X → ℕ) (from : ℕ) (xs : List X) → All (λ x. n x ≤ most_from n from xs) xs
all_below_most n from [] = All-nil (λ x. n x ≤ from)
all_below_most n from (x ∷ xs) =
    let rest = from_most n (max from (n x)) xs in
    All-cons (λ y. n y ≤ most_from n (max from (n x)) xs) x xs (omega (arith, rest)) (all_below_most n (max from (n x)) xs)

abbrev AllUpTo : ℕ → List Entry → Type 0
AllUpTo place page = All (λ entry. entry.seq ≤ place) page

pages_up_to : (place : ℕ) (lines : List PageLine) (bytes : List (List ℕ)) → AllZip Agrees lines bytes → All (λ line. line.max_seq ≤ place) lines → All (AllUpTo place) (map entries_in bytes)
pages_up_to place [] [] zip most = All-nil (AllUpTo place)
pages_up_to place [] (b ∷ bytes) zip most = absurd zip
pages_up_to place (line ∷ lines) [] zip most = absurd zip
pages_up_to place (line ∷ lines) (b ∷ bytes) zip most =
    let here : line.max_seq ≤ place = All-head (λ (l : PageLine). l.max_seq ≤ place) line lines most in
    let each = all_below_most (λ (e : Entry). e.seq) 0 (entries_in b) in
    let same = zip.0.max_seq in
    All-cons (AllUpTo place) (entries_in b) (map entries_in bytes)
    (All-weaker (λ (e : Entry). e.seq ≤ most_from (λ (e : Entry). e.seq) 0 (entries_in b)) (λ (e : Entry). e.seq ≤ place) (λ e le. omega (arith, le, same, here)) (entries_in b) each)
    (pages_up_to place lines bytes zip.1 (All-tail (λ (l : PageLine). l.max_seq ≤ place) line lines most))

in_page : (place : ℕ) (key : Bytes) (pages : List (List Entry)) → All (AllUpTo place) pages → AreUpTo key place pages
in_page place key pages all entry ((k, page, lt, is, has), same) =
    let inside : has.0 < length (get_or pages k page) = omega (arith, has.1, ap length is) in
    let le = all k page lt has.0 entry inside in
    let entry_is : (get_or (get_or pages k page) has.0 entry).seq ≡ entry.seq = ap (λ (p : List Entry). (get_or p has.0 entry).seq) is ∙ ap (λ (e : Entry). e.seq) has.2 in
    omega (arith, le, entry_is)

pub up_to_header : (key : Bytes) (lines : List PageLine) (bytes : List (List ℕ)) → AllZip Agrees lines bytes → AreUpTo key (max_seq_in lines) (map entries_in bytes)
up_to_header key lines bytes zip = in_page (max_seq_in lines) key (map entries_in bytes) (pages_up_to (max_seq_in lines) lines bytes zip (all_below_most (λ (l : PageLine). l.max_seq) 0 lines))
