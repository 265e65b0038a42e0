-- The lines of a tile as they are read, and what is kept of those before the next one.
use Rattle.std.proofs.Common.{◌≡◌, ℕ, ◌+◌, ◌≤◌, ◌<◌, List, [], ◌∷◌, ◌++◌, length, get_or, take, All, Ok, sym, ap, ◌∙◌, arith}
use Rattle.std.proofs.lemmas.List.Sums.{sum_by-append, count_by-le-length}
use Rattle.std.proofs.lemmas.List.{take-append-drop, drop_more}
use Rattle.std.proofs.Math.ListN.{drop_of_length-le}
use Rattle.lethe_header.specs.Headers.{before_of, entries_in, is_puts, max_tile_entries, EachFollows, HasFewEntries, HasFewWords, IsTile, LineFollows, TileFollows}
use Rattle.lethe_header.specs.Reading.{line_at, line_behind}
use Rattle.lethe_header.specs.declared.before.Before.{Before}
use Rattle.lethe_header.specs.declared.header.PageLine.{PageLine}
use Rattle.lethe_header.specs.declared.header.TileLine.{TileLine}
use Rattle.lethe_header.proofs.Follows.{follows_at}
use Rattle.lethe_header.proofs.LineLaws.{few_words}
use Rattle.lethe_header.proofs.Loop.{IsReadTo, at_first, one_more}

pub record AreLines (count : ℕ) (bytes : List ℕ) (start : ℕ) (lines : List PageLine) (before : Before) (at : ℕ) : Type 0 where
  pub read : IsReadTo line_behind count bytes start lines at
  pub kept : before ≡ before_of lines
  pub entries : entries_in lines ≤ max_tile_entries

pub none_read : (count : ℕ) (bytes : List ℕ) (start : ℕ) (before : Before) → before ≡ before_of [] → AreLines count bytes start [] before start
none_read count bytes start before is = record { read = at_first line_behind count bytes start; kept = is; entries = omega arith }

module _ (count : ℕ) (bytes : List ℕ) (start : ℕ) (lines : List PageLine) (before : Before) (at : ℕ) (done : AreLines count bytes start lines before at) where
  pub sum_is : before.entries ≡ entries_in lines
  sum_is = ap (λ (b : Before). b.entries) done.kept

  pub puts_are : before.puts ≤ length lines
  puts_are = let few = count_by-le-length (λ (line : PageLine). is_puts line.class) lines in omega (arith, few, ap (λ (b : Before). b.puts) done.kept)

  pub lines_are : before.lines ≡ length lines
  lines_are = ap (λ (b : Before). b.lines) done.kept

  pub line_more : (line : PageLine) (end : ℕ) (more : Before) → length lines < count → line_at before bytes at ≡ Ok (line, end) → before.entries + line.entries ≤ max_tile_entries → more ≡ before_of (lines ++ line ∷ []) → AreLines count bytes start (lines ++ line ∷ []) more end
  line_more line end more fewer is few kept = record {
    read = one_more line_behind count bytes start lines at done.read line end fewer (ap (λ (b : Before). line_at b bytes at) (sym done.kept) ∙ is);
    kept = kept;
    entries = omega (arith, sum_by-append (λ (l : PageLine). l.entries) lines (line ∷ []), few, sum_is);
  }

-- ---- what can be written

pub have_few_words : (lines : List PageLine) → EachFollows LineFollows lines → All HasFewWords lines
have_few_words lines each k d lt =
    let line = follows_at LineFollows lines k d each lt in
    few_words (get_or lines k d).entries (get_or lines k d).filter (omega (arith, line.entries)) line.itself.filter

pub are_tiles : (tiles : List TileLine) → EachFollows TileFollows tiles → All IsTile tiles
are_tiles tiles each k d lt = (follows_at TileFollows tiles k d each lt).itself

-- ---- how many entries

few_entries : (lines : List PageLine) → EachFollows LineFollows lines → entries_in lines ≤ max_tile_entries
few_entries [] each = omega arith
few_entries (l ∷ ls) each =
    let lines = l ∷ ls in
    let k = length ls in
    let inside : k < length lines = omega arith in
    let last = get_or lines k l in
    let line = follows_at LineFollows lines k l each inside in
    let past : length lines ≤ k + 1 = omega arith in
    let parts : lines ≡ take k lines ++ last ∷ [] = sym (take-append-drop k lines) ∙ ap (λ (l : List PageLine). take k lines ++ l) (drop_more lines k l inside) ∙ ap (λ (rest : List PageLine). take k lines ++ last ∷ rest) (drop_of_length-le lines past) in
    omega (arith, line.entries, ap entries_in parts, sum_by-append (λ (l : PageLine). l.entries) (take k lines) (last ∷ []))

pub have_few_entries : (tiles : List TileLine) → EachFollows TileFollows tiles → All HasFewEntries tiles
have_few_entries tiles each k d lt = few_entries (get_or tiles k d).pages (follows_at TileFollows tiles k d each lt).itself.lines
