-- The line of a whole tile keeps a header's rules, and its pages hold what it says.
use Rattle.std.proofs.Common.{◌≡◌, ℕ, ◌≤◌, ◌<◌, true, false, cond, List, [], ◌∷◌, Bool, ◌-◌, Some, length, not, get_or, All, refl, ◌∙◌, ap, sym, subst, arith}
use Rattle.std.specs.Prelude.{sum_by, count_by, filter}
use Rattle.std.specs.List.{AllZip}
use Rattle.std.specs.Ordering.{is_le, is_eq}
use Rattle.std.proofs.lemmas.Bool.{true≢false}
use Rattle.std.proofs.lemmas.List.Concat.{length-flat_map}
use Rattle.std.proofs.lemmas.List.Elements.{All-append, All-cons, All-filter, All-nil}
use Rattle.std.proofs.lemmas.List.Kept.{AllPairs-filter}
use Rattle.std.proofs.lemmas.List.Sorted.{All-permutation, length_permutation}
use Rattle.std.proofs.lemmas.List.Sums.{count_by-le-length, get_or-le-sum_by, length-filter, sum_by-cons}
use Rattle.lethe_base.specs.Entries.{IsAscending}
use Rattle.lethe_base.specs.Keys.{Bytes, key_cmp, same_key}
use Rattle.lethe_base.specs.Layout as layout
use Rattle.lethe_base.specs.Limits.{IsKey}
use Rattle.lethe_base.specs.Shapes.{is_tomb}
use Rattle.lethe_base.specs.Spelling.{kind_of}
use Rattle.lethe_base.specs.Spelling as spelling
use Rattle.lethe_base.specs.declared.entry.Body.{Body}
use Rattle.lethe_base.specs.declared.entry.Body.TheVariants.{Put, Tomb}
use Rattle.lethe_base.specs.declared.entry.Entry.{Entry}
use Rattle.lethe_base.specs.declared.front.BodyKind.TheVariants as kinds
use Rattle.lethe_page.specs.Pages.{IsIn}
use Rattle.lethe_page.specs.declared.class.Class.{Class}
use Rattle.lethe_page.specs.declared.class.Class.TheVariants.{Puts, Tombs}
use Rattle.lethe_tile.specs.Woven.{joined, key_at, page_of, puts_of, tombs_of}
use Rattle.lethe_tile.proofs.Orders.{HasLowerKey, ascending_from_pairs, pairs_from_ascending}
use Rattle.lethe_tile.proofs.Pages.{cut_some}
use Rattle.lethe_header.specs.Headers.{IsTile, entries_in, is_puts, puts_in}
use Rattle.lethe_header.specs.declared.header.PageLine.{PageLine}
use Rattle.lethe_header.specs.declared.header.TileLine.{TileLine}
use Rattle.lethe_file.specs.Agreement.{TileHolds}
use Rattle.lethe_file.proofs.Orders.{own_key}
use Rattle.lethe_build.specs.Built.{class_of}
use Rattle.lethe_build.specs.Parts.{IsPage, IsLineOf, IsTileLineOf, IsWhole}
use Rattle.lethe_build.proofs.Follows.{lines_follow}
use Rattle.lethe_build.proofs.Whole.{IsPut, IsTombstone, between, few_entries, few_pages, key_there, keys_between, keys_differ, long, not_tomb, parts_all, precede, puts_are, puts_class, puts_few, some_pages, tombs_are, tombs_class}

-- ---- lists item by item

pub zip_length : {A B : Type 0} (R : A → B → Type 0) (xs : List A) (ys : List B) → AllZip R xs ys → length ys ≡ length xs
zip_length R [] [] zip = refl
zip_length R [] (y ∷ ys) zip = absurd zip
zip_length R (x ∷ xs) [] zip = absurd zip
zip_length R (x ∷ xs) (y ∷ ys) zip = let rest = zip_length R xs ys zip.1 in omega (arith, rest)

pub zip_sum : {A B : Type 0} (R : A → B → Type 0) (f : A → ℕ) (g : B → ℕ) → ((x : A) (y : B) → R x y → g y ≡ f x) → (xs : List A) (ys : List B) → AllZip R xs ys → sum_by g ys ≡ sum_by f xs
zip_sum R f g same [] [] zip = refl
zip_sum R f g same [] (y ∷ ys) zip = absurd zip
zip_sum R f g same (x ∷ xs) [] zip = absurd zip
zip_sum R f g same (x ∷ xs) (y ∷ ys) zip =
    let here = same x y zip.0 in
    let rest = zip_sum R f g same xs ys zip.1 in
    omega (arith, here, rest, sum_by-cons f x xs, sum_by-cons g y ys)

lines_entries : (pages : List (List Entry)) (lines : List PageLine) → AllZip IsLineOf pages lines → entries_in lines ≡ length (joined pages)
lines_entries pages lines zip =
    zip_sum IsLineOf (λ (page : List Entry). length page) (λ (line : PageLine). line.entries) (λ page line is. is.len) pages lines zip ∙ sym (length-flat_map (λ (page : List Entry). page) pages)

lines_puts : (pages : List (List Entry)) (lines : List PageLine) → AllZip IsLineOf pages lines → puts_in lines ≡ count_by (λ page. is_puts (class_of page)) pages
lines_puts pages lines zip =
    zip_sum IsLineOf (λ (page : List Entry). cond (is_puts (class_of page)) 1 0) (λ (line : PageLine). cond (is_puts line.class) 1 0) (λ page line is. ap (λ (c : Class). cond (is_puts c) 1 0) is.class) pages lines zip

-- ---- each page of a tile is one

kind_put : (body : Body) → is_tomb body ≡ false → kind_of body ≡ kinds.Put
kind_put (Put dkey value) put = refl
kind_put Tomb put = absurd cc

kind_tomb : (body : Body) → is_tomb body ≡ true → kind_of body ≡ kinds.Tomb
kind_tomb (Put dkey value) tomb = absurd cc
kind_tomb Tomb tomb = refl

is_page : (class : Class) (page : List Entry) → class_of page ≡ class → 0 < length page → length page ≤ 65536 → All (IsIn class) page → IsAscending page → IsPage page
is_page class page is some few each up = record {
  has_spelling = record { some = some; few = omega (arith, few); each = subst (λ (c : Class). All (IsIn c) page) (sym is) each; ascending = up };
  few = few;
}

puts_page : (page : List Entry) → 0 < length page → length page ≤ 65536 → All IsPut page → All spelling.HasSpelling page → IsAscending page → IsPage page
puts_page page some few puts each up = is_page Puts page (puts_class page puts) some few (λ k d lt. record { kind = kind_put (get_or page k d).body (not_tomb (get_or page k d).body (puts k d lt)); spelled = each k d lt }) up

tombs_pages : (tombs : List Entry) → length tombs ≤ 65536 → All IsTombstone tombs → All spelling.HasSpelling tombs → IsAscending tombs → All IsPage (page_of tombs)
tombs_pages [] few tombs each up = All-nil IsPage
tombs_pages (t ∷ ts) few tombs each up =
    All-cons IsPage (t ∷ ts) []
    (is_page Tombs (t ∷ ts) (tombs_class t ts tombs) (omega arith) few (λ k d lt. record { kind = kind_tomb (get_or (t ∷ ts) k d).body (tombs k d lt); spelled = each k d lt }) up)
    (All-nil IsPage)

part_short : (parts : List (List Entry)) → All (λ part. length part ≤ length (joined parts)) parts
part_short parts k d lt = omega (arith, get_or-le-sum_by (λ (part : List Entry). length part) parts k d lt, length-flat_map (λ (part : List Entry). part) parts)

filter_short : (p : Entry → Bool) (entries : List Entry) → length entries ≤ 65536 → length (filter p entries) ≤ 65536
filter_short p entries few = omega (arith, few, length-filter p entries, count_by-le-length p entries)

module _ (tile : layout.Tile) (whole : IsWhole tile) where
  tombs_ok : All IsPage (page_of (tombs_of whole.entries))
  tombs_ok =
      tombs_pages (tombs_of whole.entries)
      (filter_short (λ (e : Entry). is_tomb e.body) whole.entries (few_entries tile whole))
      (tombs_are tile whole)
      (All-filter (λ (e : Entry). is_tomb e.body) spelling.HasSpelling whole.entries whole.each)
      (ascending_from_pairs (tombs_of whole.entries) (AllPairs-filter HasLowerKey (λ (e : Entry). is_tomb e.body) whole.entries (pairs_from_ascending whole.entries whole.ascending)))

  puts_spelled : All (All spelling.HasSpelling) whole.is.pages
  puts_spelled =
      parts_all spelling.HasSpelling whole.is.pages
      (All-permutation spelling.HasSpelling (puts_of whole.entries) (joined whole.is.pages) whole.is.paged.once (All-filter (λ (e : Entry). not (is_tomb e.body)) spelling.HasSpelling whole.entries whole.each))

  puts_ok : All IsPage whole.is.pages
  puts_ok k d lt =
      let short = filter_short (λ (e : Entry). not (is_tomb e.body)) whole.entries (few_entries tile whole) in
      let all : length (joined whole.is.pages) ≡ length (puts_of whole.entries) = length_permutation (puts_of whole.entries) (joined whole.is.pages) whole.is.paged.once in
      puts_page (get_or whole.is.pages k d)
      (cut_some whole.fields.page whole.is.pages whole.config.page.0 whole.is.paged.lengths k d lt)
      (omega (arith, part_short whole.is.pages k d lt, all, short))
      (puts_are tile whole k d lt)
      (puts_spelled k d lt)
      (whole.is.paged.ascending k d lt)

  pub tile_pages : All IsPage tile.pages
  tile_pages = subst (All IsPage) (sym whole.is.is) (All-append IsPage (page_of (tombs_of whole.entries)) whole.is.pages tombs_ok puts_ok)

-- ---- the two keys of a tile

key_ok : (entries : List Entry) (k : ℕ) (key : Bytes) → All spelling.HasSpelling entries → k < length entries → key_at k entries ≡ Some key → IsKey key
key_ok [] k key each inside is = absurd (omega (arith, inside))
key_ok (e ∷ es) k key each inside is = subst IsKey (key_there (e ∷ es) k key e inside is) (each k e inside).front.named

ends_ordered : (entries : List Entry) (lo hi : Bytes) → 0 < length entries → IsAscending entries → key_at 0 entries ≡ Some lo → key_at (length entries - 1) entries ≡ Some hi → is_le (key_cmp lo hi) ≡ true
ends_ordered [] lo hi some up first last = absurd (omega (arith, some))
ends_ordered (e ∷ es) lo hi some up first last =
    subst (λ (x : Bytes). is_le (key_cmp x hi) ≡ true) (key_there (e ∷ es) 0 lo e some first) (between (e ∷ es) lo hi up first last 0 e some).1

-- ---- a tile's line

module _ (tile : layout.Tile) (line : TileLine) (whole : IsWhole tile) (is : IsTileLineOf tile line) where
  pub same_len : length line.pages ≡ length tile.pages
  same_len = zip_length IsLineOf tile.pages line.pages is.pages

  pub line_is_tile : IsTile line
  line_is_tile =
      let entries = whole.entries in
      let some : 0 < length entries = whole.some in
      record {
        lo = subst IsKey (sym is.lo) (key_ok entries 0 tile.lo whole.each some whole.is.lo);
        hi = subst IsKey (sym is.hi) (key_ok entries (length entries - 1) tile.hi whole.each (omega (arith, some)) whole.is.hi);
        keys = subst (λ (x : Bytes). is_le (key_cmp x line.hi) ≡ true) (sym is.lo) (subst (λ (x : Bytes). is_le (key_cmp tile.lo x) ≡ true) (sym is.hi) (ends_ordered entries tile.lo tile.hi some whole.ascending whole.is.lo whole.is.hi));
        some = omega (arith, same_len, some_pages tile whole);
        few = omega (arith, same_len, few_pages tile whole);
        lines =
            lines_follow tile.pages line.pages is.pages (precede tile whole)
            (omega (arith, lines_puts tile.pages line.pages is.pages, puts_few tile whole))
            (omega (arith, lines_entries tile.pages line.pages is.pages, long tile whole, few_entries tile whole));
      }

  pub line_holds : TileHolds line tile.pages
  line_holds = record {
    within = λ k d lt j e inside.
        let between = keys_between tile whole k d lt j e inside in
        record { lo = subst (λ (x : Bytes). is_le (key_cmp x (get_or (get_or tile.pages k d) j e).key) ≡ true) (sym is.lo) between.0; hi = subst (λ (x : Bytes). is_le (key_cmp (get_or (get_or tile.pages k d) j e).key x) ≡ true) (sym is.hi) between.1 };
    once = λ i j d lt below k e inside l f inside' same.
        let differ : same_key (get_or (get_or tile.pages i d) k e).key (get_or (get_or tile.pages j d) l f).key ≡ false = keys_differ tile whole i j d lt below k e inside l f inside' in
        let own : same_key (get_or (get_or tile.pages i d) k e).key (get_or (get_or tile.pages j d) l f).key ≡ true = subst (λ (x : Bytes). same_key (get_or (get_or tile.pages i d) k e).key x ≡ true) same (ap is_eq (own_key (get_or (get_or tile.pages i d) k e).key)) in
        true≢false (sym own ∙ differ);
  }
