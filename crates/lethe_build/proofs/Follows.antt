-- The lines of pages that stand by their delete keys keep a header's rules.
use Rattle.std.proofs.Common.{◌≡◌, ℕ, ◌+◌, ◌≤◌, cond, Option, Some, None, List, [], ◌∷◌, ◌++◌, fold, get_or, All, AllPairs, refl, ◌∙◌, ap, sym, subst, arith}
use Rattle.std.specs.List.{AllZip}
use Rattle.std.proofs.lemmas.List.Elements.{All-head, All-tail}
use Rattle.std.proofs.lemmas.List.Sums.{sum_by-append, sum_by-cons}
use Rattle.lethe_base.specs.declared.entry.Entry.{Entry}
use Rattle.lethe_page.specs.declared.class.Class.{Class}
use Rattle.lethe_page.specs.declared.class.Class.TheVariants.{Puts, Tombs}
use Rattle.lethe_tile.specs.Woven.{dkey_of}
use Rattle.lethe_tile.proofs.Orders.{pairs_append}
use Rattle.lethe_header.specs.Headers.{EachFollows, HasRoomFor, IsFrom, LineFollows, dkey_then, entries_in, is_puts, last_dkey, max_puts, max_tile_entries, puts_in}
use Rattle.lethe_header.specs.declared.header.PageLine.{PageLine}
use Rattle.lethe_file.specs.Agreement.{fence_of}
use Rattle.lethe_build.specs.Built.{class_of}
use Rattle.lethe_build.specs.Parts.{IsLineOf}
use Rattle.lethe_build.proofs.Fences.{IsUpTo, fence_up, fence_from}

-- the second page has puts, and none of its delete keys is below one of the first page
pub record Precedes (page other : List Entry) : Type 0 where
  pub puts : class_of other ≡ Puts
  pub dkeys : All (λ e. All (λ f. dkey_of e.body ≤ dkey_of f.body) other) page

-- ---- what stands before an item

-- the items that belong to those before one, that of it, and those behind
pub record IsSplit {A B : Type 0} (R : A → B → Type 0) (xs : List A) (before : List B) (item : B) : Type 0 where
  pub first : List A
  pub own : A
  pub rest : List A
  pub is : xs ≡ first ++ own ∷ rest
  pub earlier : AllZip R first before
  pub here : R own item

pub zip_split : {A B : Type 0} (R : A → B → Type 0) (xs : List A) (before after : List B) (item : B) → AllZip R xs (before ++ item ∷ after) → IsSplit R xs before item
zip_split R [] [] after item zip = absurd zip
zip_split R [] (b ∷ bs) after item zip = absurd zip
zip_split R (x ∷ xs) [] after item zip = record { first = []; own = x; rest = xs; is = refl; earlier = tt; here = zip.0 }
zip_split R (x ∷ xs) (b ∷ bs) after item zip =
    let more = zip_split R xs bs after item zip.1 in
    record { first = x ∷ more.first; own = more.own; rest = more.rest; is = ap (λ l. x ∷ l) more.is; earlier = (zip.0, more.earlier); here = more.here }

-- ---- the fences

up_then : (most dkey : ℕ) (fence : Option (ℕ × ℕ)) → dkey ≤ most → IsUpTo most fence → dkey_then dkey fence ≤ most
up_then most dkey None below up = below
up_then most dkey (Some fence) below up = up

last_then : (most : ℕ) (pages : List (List Entry)) (lines : List PageLine) (dkey : ℕ) → AllZip IsLineOf pages lines → All (All (λ e. dkey_of e.body ≤ most)) pages → dkey ≤ most → fold (λ dkey line. dkey_then dkey line.fence) dkey lines ≤ most
last_then most [] [] dkey zip below within = within
last_then most [] (l ∷ ls) dkey zip below within = absurd zip
last_then most (p ∷ ps) [] dkey zip below within = absurd zip
last_then most (p ∷ ps) (l ∷ ls) dkey zip below within =
    let up : IsUpTo most l.fence = subst (IsUpTo most) (sym zip.0.fence) (fence_up most p (All-head (All (λ e. dkey_of e.body ≤ most)) p ps below)) in
    last_then most ps ls (dkey_then dkey l.fence) zip.1 (All-tail (All (λ e. dkey_of e.body ≤ most)) p ps below) (up_then most dkey l.fence within up)

fence_behind : (first : List (List Entry)) (page : List Entry) (before : List PageLine) → AllZip IsLineOf first before → All (λ q. Precedes q page) first → IsFrom (last_dkey before) (fence_of page)
fence_behind first page before zip precede =
    fence_from (last_dkey before) page (λ k d lt. last_then (dkey_of (get_or page k d).body) first before 0 zip (λ i q inside j e lt'. (precede i q inside).dkeys j e lt' k d lt) (omega arith))

-- ---- the classes

room : (first : List (List Entry)) (page : List Entry) (before after : List PageLine) (line : PageLine) (class : Class) → AllZip IsLineOf first before → All (λ q. Precedes q page) first
    → line.class ≡ class → class_of page ≡ class → puts_in (before ++ line ∷ after) ≤ max_puts → HasRoomFor class before
room first page before after line Puts zip precede is own few =
    let one : ℕ = 1 in
    let here : cond (is_puts line.class) 1 0 ≡ one = ap (λ (c : Class). cond (is_puts c) 1 0) is in
    let all : puts_in (before ++ line ∷ after) ≡ puts_in before + puts_in (line ∷ after) = sum_by-append (λ (l : PageLine). cond (is_puts l.class) 1 0) before (line ∷ after) in
    let rest : puts_in (line ∷ after) ≡ cond (is_puts line.class) 1 0 + puts_in after = sum_by-cons (λ (l : PageLine). cond (is_puts l.class) 1 0) line after in
    omega (arith, few, all, rest, here)
room [] page [] after line Tombs zip precede is own few = refl
room [] page (b ∷ bs) after line Tombs zip precede is own few = absurd zip
room (q ∷ qs) page before after line Tombs zip precede is own few = absurd (let puts : class_of page ≡ Puts = (precede 0 q (omega arith)).puts in apart (sym own ∙ puts))
  where
    apart : Tombs ≡ Puts → ⊥
    apart e = cc

-- the lines of a tile
pub lines_follow : (pages : List (List Entry)) (lines : List PageLine) → AllZip IsLineOf pages lines → AllPairs Precedes pages → puts_in lines ≤ max_puts → entries_in lines ≤ max_tile_entries → EachFollows LineFollows lines
lines_follow pages lines zip order puts entries before after line is =
    let split = zip_split IsLineOf pages before after line (subst (λ (l : List PageLine). AllZip IsLineOf pages l) is zip) in
    let pairs = pairs_append Precedes split.first (split.own ∷ split.rest) (subst (AllPairs Precedes) split.is order) in
    let precede : All (λ q. Precedes q split.own) split.first = λ k d lt. All-head (Precedes (get_or split.first k d)) split.own split.rest (pairs.2 k d lt) in
    let few : puts_in (before ++ line ∷ after) ≤ max_puts = subst (λ (l : List PageLine). puts_in l ≤ max_puts) is puts in
    let all : entries_in (before ++ line ∷ after) ≡ entries_in before + entries_in (line ∷ after) = sum_by-append (λ (l : PageLine). l.entries) before (line ∷ after) in
    let rest : entries_in (line ∷ after) ≡ line.entries + entries_in after = sum_by-cons (λ (l : PageLine). l.entries) line after in
    record {
      itself = split.here.itself;
      room = room split.first split.own before after line line.class split.earlier precede refl (sym split.here.class) few;
      entries = omega (arith, entries, ap entries_in is, all, rest);
      fence = subst (IsFrom (last_dkey before)) (sym split.here.fence) (fence_behind split.first split.own before split.earlier precede);
    }
