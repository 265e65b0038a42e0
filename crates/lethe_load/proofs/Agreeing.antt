-- Files whose pages are sound agree with their headers.
use Rattle.std.proofs.Common.{◌≡◌, ℕ, List, [], ◌∷◌, length, map, get_or, take, drop, All, AllPairs, Some, refl, sym, ap, subst, arith}
use Rattle.std.specs.Prelude.{Contains, Option}
use Rattle.std.specs.List.{AllZip}
use Rattle.std.proofs.lemmas.List.{get_or-take, length-take, take-map, drop-map}
use Rattle.std.proofs.lemmas.List.Elements.{All-nil, All-cons, All-head, All-tail, All-contains}
use Rattle.std.proofs.lemmas.List.Kept.{AllPairs-cons}
use Rattle.lethe_base.specs.declared.entry.Entry.{Entry}
use Rattle.lethe_disk.specs.Directory.{Directory, object}
use Rattle.lethe_disk.proofs.Objects.{one_object}
use Rattle.lethe_header.specs.Facts.{lines_of}
use Rattle.lethe_header.specs.Headers.{EachFollows}
use Rattle.lethe_header.specs.declared.header.PageLine.{PageLine}
use Rattle.lethe_header.specs.declared.header.TileLine.{TileLine}
use Rattle.lethe_header.proofs.Follows.{follows_at}
use Rattle.lethe_file.specs.Agreement.{Agrees, FileAgrees, HaveNoCommonKey, IsWithin, TilesHold, entries_in, page_name}
use Rattle.lethe_file.proofs.Tiles.{zip_parts}
use Rattle.lethe_tile.proofs.Orders.{all_left, all_right, pairs_nil, pairs_head, pairs_tail, pairs_append}
use Rattle.lethe_stored.proofs.Lists.{later_in, in_map, from_flat, in_flat, all_from}
use Rattle.lethe_load.specs.Damaged.{IsSoundPage, placed_in}
use Rattle.lethe_load.proofs.PagesInOrder.{Item, follows_of}

-- what each item says of those before it holds of each two
pub pairs_of : {A : Type 0} (Good : List A → A → Type 0) (R : A → A → Type 0) → ((before : List A) (x : A) → Good before x → All (λ other. R other x) before) → (items : List A) → EachFollows Good items → AllPairs R items
pairs_of Good R so items each i j d lt inside =
    let all = so (take j items) (get_or items j d) (follows_at Good items j d each inside) in
    subst (λ a. R a (get_or items j d)) (get_or-take j items i d lt) (all i d (omega (arith, lt, inside, length-take j items)))

-- lists that are matched by what each item has
pub zip_of : {A B : Type 0} (R : A → B → Type 0) (f : A → Option B) (xs : List A) (ys : List B) → map Some ys ≡ map f xs → ((x : A) (y : B) → Contains xs x → f x ≡ Some y → R x y) → AllZip R xs ys
zip_of R f [] [] e all = tt
zip_of R f [] (y ∷ ys) e all = absurd (omega (arith, ap length e))
zip_of R f (x ∷ xs) [] e all = absurd (omega (arith, ap length e))
zip_of R f (x ∷ xs) (y ∷ ys) e all =
    let head : Some y ≡ f x = cc in
    let tail : map Some ys ≡ map f xs = cc in
    (all x y (0, omega arith, refl) (sym head), zip_of R f xs ys tail (λ a b there is. all a b (later_in x xs a there) is))

module _ (d : Directory) where
  -- a page is there and agrees with its line and its tile
  abbrev pub Fits : Item → Type 0
  Fits item = (bytes : List ℕ) × (object d (page_name item.1.no) ≡ Some bytes) × Agrees item.1 bytes × All (λ entry. IsWithin item.0 entry.key) (entries_in bytes)

  -- two pages have no key in common
  abbrev pub Apart : Item → Item → Type 0
  Apart a b = (x y : List ℕ) → object d (page_name a.1.no) ≡ Some x → object d (page_name b.1.no) ≡ Some y → HaveNoCommonKey (entries_in x) (entries_in y)

  abbrev At : PageLine → List ℕ → Type 0
  At line page = object d (page_name line.no) ≡ Some page

  own_within : (tile : TileLine) (lines : List PageLine) (pages : List (List ℕ)) → AllZip At lines pages → All Fits (map (λ line. (tile, line)) lines) → All (All (λ entry. IsWithin tile entry.key)) (map entries_in pages)
  own_within tile [] [] at fits = All-nil (All (λ entry. IsWithin tile entry.key))
  own_within tile [] (page ∷ pages) at fits = absurd at
  own_within tile (line ∷ lines) [] at fits = absurd at
  own_within tile (line ∷ lines) (page ∷ pages) at fits =
      let first = All-head Fits (tile, line) (map (λ l. (tile, l)) lines) fits in
      let same : first.0 ≡ page = one_object (object d (page_name line.no)) first.0 page first.1 at.0 in
      All-cons (All (λ entry. IsWithin tile entry.key)) (entries_in page) (map entries_in pages) (subst (λ b. All (λ (entry : Entry). IsWithin tile entry.key) (entries_in b)) same first.3)
      (own_within tile lines pages at.1 (All-tail Fits (tile, line) (map (λ l. (tile, l)) lines) fits))

  own_apart_from : (tile : TileLine) (first : PageLine) (page : List ℕ) → At first page → (lines : List PageLine) (pages : List (List ℕ)) → AllZip At lines pages → All (Apart (tile, first)) (map (λ line. (tile, line)) lines) → All (HaveNoCommonKey (entries_in page)) (map entries_in pages)
  own_apart_from tile first page there [] [] at apart = All-nil (HaveNoCommonKey (entries_in page))
  own_apart_from tile first page there [] (p ∷ pages) at apart = absurd at
  own_apart_from tile first page there (line ∷ lines) [] at apart = absurd at
  own_apart_from tile first page there (line ∷ lines) (p ∷ pages) at apart =
      All-cons (HaveNoCommonKey (entries_in page)) (entries_in p) (map entries_in pages) (All-head (Apart (tile, first)) (tile, line) (map (λ l. (tile, l)) lines) apart page p there at.0)
      (own_apart_from tile first page there lines pages at.1 (All-tail (Apart (tile, first)) (tile, line) (map (λ l. (tile, l)) lines) apart))

  own_once : (tile : TileLine) (lines : List PageLine) (pages : List (List ℕ)) → AllZip At lines pages → AllPairs Apart (map (λ line. (tile, line)) lines) → AllPairs HaveNoCommonKey (map entries_in pages)
  own_once tile [] [] at apart = pairs_nil HaveNoCommonKey
  own_once tile [] (page ∷ pages) at apart = absurd at
  own_once tile (line ∷ lines) [] at apart = absurd at
  own_once tile (line ∷ lines) (page ∷ pages) at apart =
      AllPairs-cons HaveNoCommonKey (entries_in page) (map entries_in pages)
      (own_apart_from tile line page at.0 lines pages at.1 (pairs_head Apart (tile, line) (map (λ l. (tile, l)) lines) apart))
      (own_once tile lines pages at.1 (pairs_tail Apart (tile, line) (map (λ l. (tile, l)) lines) apart))

  tiles_hold : (tiles : List TileLine) (pages : List (List ℕ)) → AllZip At (lines_of tiles) pages → All Fits (placed_in tiles) → AllPairs Apart (placed_in tiles) → TilesHold tiles (map entries_in pages)
  tiles_hold [] [] at fits apart = refl
  tiles_hold [] (page ∷ pages) at fits apart = absurd at
  tiles_hold (tile ∷ tiles) pages at fits apart =
      let n = length tile.pages in
      let own = map (λ line. (tile, line)) tile.pages in
      let parts = zip_parts At tile.pages (lines_of tiles) pages at in
      let pairs = pairs_append Apart own (placed_in tiles) apart in (
        record {
          within = subst (All (All (λ entry. IsWithin tile entry.key))) (sym (take-map entries_in n pages)) (own_within tile tile.pages (take n pages) parts.0 (all_left Fits own (placed_in tiles) fits));
          once = subst (AllPairs HaveNoCommonKey) (sym (take-map entries_in n pages)) (own_once tile tile.pages (take n pages) parts.0 pairs.0);
        },
        subst (TilesHold tiles) (sym (drop-map entries_in n pages)) (tiles_hold tiles (drop n pages) parts.1 (all_right Fits own (placed_in tiles) fits) pairs.1),
      )

  module _ (next : ℕ) (taken : ℕ → Type 0) (tiles : List TileLine) (each : EachFollows (IsSoundPage d next taken) (placed_in tiles)) where
    pub fits_each : All Fits (placed_in tiles)
    fits_each = all_from Fits (placed_in tiles) (λ item here. let good = (follows_of (IsSoundPage d next taken) (placed_in tiles) item each here).1 in (good.bytes, good.there, good.agrees, good.within))

    pub apart_each : AllPairs Apart (placed_in tiles)
    apart_each = pairs_of (IsSoundPage d next taken) Apart (λ before item good. all_from (λ other. Apart other item) before (λ other here x y there own.
        let same : good.bytes ≡ y = one_object (object d (page_name item.1.no)) good.bytes y good.there own in
        subst (λ b. HaveNoCommonKey (entries_in x) (entries_in b)) same
        (All-contains (λ (other : Item). (earlier : List ℕ) → object d (page_name other.1.no) ≡ Some earlier → HaveNoCommonKey (entries_in earlier) (entries_in good.bytes)) before other good.apart here x there))) (placed_in tiles) each

    -- the pages of a file agree with its header
    pub file_agrees : (pages : List (List ℕ)) → map Some pages ≡ map (λ line. object d (page_name line.no)) (lines_of tiles) → FileAgrees tiles pages
    file_agrees pages read = record {
      pages = zip_of Agrees (λ (line : PageLine). object d (page_name line.no)) (lines_of tiles) pages read (λ line page here there.
          let tile = from_flat (λ (t : TileLine). t.pages) tiles line here in
          let at : Contains (placed_in tiles) (tile.0, line) = in_flat (λ (t : TileLine). map (λ l. (t, l)) t.pages) tiles tile.0 (tile.0, line) tile.1 (in_map (λ (l : PageLine). (tile.0, l)) tile.0.pages line tile.2) in
          let fits = All-contains Fits (placed_in tiles) (tile.0, line) fits_each at in
          subst (Agrees line) (one_object (object d (page_name line.no)) fits.0 page fits.1 there) fits.2);
      tiles = tiles_hold tiles pages (zip_of At (λ (line : PageLine). object d (page_name line.no)) (lines_of tiles) pages read (λ line page here there. there)) fits_each apart_each;
    }
