-- What a tile that a configuration makes has: how many pages, in which order, and which keys.
use Rattle.std.proofs.Common.{◌≡◌, ℕ, ◌+◌, ◌*◌, ◌-◌, zero, suc, ◌≤◌, ◌<◌, true, false, cond, not, List, [], ◌∷◌, ◌++◌, length, get_or, Some, All, AllPairs, IsPermutation, inl, inr, refl, ◌∙◌, ap, sym, subst, append-nil, length-append, arith}
use Rattle.std.specs.Prelude.{count_by, option_map}
use Rattle.std.specs.Ordering.{is_le, ordering_then}
use Rattle.std.specs.declared.cmp.Ordering.{Ordering}
use Rattle.std.specs.declared.cmp.Ordering.TheVariants.{Less, Greater}
use Rattle.std.specs.Cmp.{nat_cmp_is}
use Rattle.std.proofs.Math.Nat.{mul-le-mul_left}
use Rattle.std.proofs.lemmas.Bool.{cases_lt, cases_order}
use Rattle.std.proofs.lemmas.List.Concat.{flat_map-append}
use Rattle.std.proofs.lemmas.List.Elements.{All-nil, All-cons, All-head, filter_passes}
use Rattle.std.proofs.lemmas.List.Kept.{AllPairs-cons}
use Rattle.std.proofs.lemmas.List.Sorted.{All-permutation, IsPermutation-append, IsPermutation-filter_both, IsPermutation-refl, IsPermutation-trans, length_permutation}
use Rattle.std.proofs.lemmas.List.Filters.{length-filter_both}
use Rattle.std.proofs.lemmas.List.Sums.{count_by-le-length, sum_by-append}
use Rattle.std.proofs.lemmas.Option.{slice_get-get_or}
use Rattle.lethe_base.specs.Entries.{IsAscending}
use Rattle.lethe_base.specs.Keys.{Bytes, key_cmp}
use Rattle.lethe_base.specs.Layout as layout
use Rattle.lethe_base.specs.Shapes.{is_tomb}
use Rattle.lethe_base.specs.declared.entry.Body.{Body}
use Rattle.lethe_base.specs.declared.entry.Body.TheVariants.{Put, Tomb}
use Rattle.lethe_base.specs.declared.entry.Entry.{Entry}
use Rattle.lethe_page.specs.declared.class.Class.{Class}
use Rattle.lethe_page.specs.declared.class.Class.TheVariants.{Puts, Tombs}
use Rattle.lethe_tile.specs.Woven.{joined, ComesBefore, IsBelow, IsCut, IsTile, dkey_of, key_at, page_of, puts_of, tombs_of}
use Rattle.lethe_tile.proofs.Orders.{pairs_nil, pairs_append, all_left, all_right, Across, HasOtherKey, other_from_ascending, other_permuted, pairs_from_ascending, pairs_from_other}
use Rattle.lethe_header.specs.Headers.{is_puts}
use Rattle.lethe_file.proofs.Orders.{own_key}
use Rattle.lethe_build.specs.Built.{class_of, class_of_body}
use Rattle.lethe_build.specs.Parts.{IsWhole}
use Rattle.lethe_build.proofs.Follows.{Precedes}

-- ---- parts of a list

pub parts_all : {X : Type 0} (P : X → Type 0) (parts : List (List X)) → All P (joined parts) → All (All P) parts
parts_all P [] h = All-nil (All P)
parts_all P (part ∷ parts) h = All-cons (All P) part parts (all_left P part (joined parts) h) (parts_all P parts (all_right P part (joined parts) h))

across_parts : {X : Type 0} (R : X → X → Type 0) (part : List X) (parts : List (List X)) → Across R part (joined parts) → All (Across R part) parts
across_parts R part parts h i q inside k d lt = parts_all (R (get_or part k d)) parts (h k d lt) i q inside

-- what is true of each pair is true across each two parts
pub parts_across : {X : Type 0} (R : X → X → Type 0) (parts : List (List X)) → AllPairs R (joined parts) → AllPairs (Across R) parts
parts_across R [] h = pairs_nil (Across R)
parts_across R (part ∷ parts) h =
    let both = pairs_append R part (joined parts) h in
    AllPairs-cons (Across R) part parts (across_parts R part parts both.2) (parts_across R parts both.1)

-- a cut has no more parts than it needs
pub cut_few : {X : Type 0} (most n : ℕ) (parts : List (List X)) → IsCut most parts → length (joined parts) ≤ most * n → length parts ≤ n
cut_few most n [] cut fits = omega arith
cut_few most zero (last ∷ []) cut fits = absurd (omega (arith, cut.0, fits, length-append last []))
cut_few most zero (part ∷ next ∷ parts) cut fits =
    absurd (let none = cut_few most zero (next ∷ parts) cut.1 (omega (arith, fits, length-append part (joined (next ∷ parts)))) in omega (arith, none))
cut_few most (suc n) (last ∷ []) cut fits = omega arith
cut_few most (suc n) (part ∷ next ∷ parts) cut fits =
    let rest = cut_few most n (next ∷ parts) cut.1 (let long = length-append part (joined (next ∷ parts)) in let more : most * suc n ≡ most + most * n = omega arith in omega (arith, long, cut.0, fits, more)) in
    omega (arith, rest)

-- ---- tombstones and puts

dkey_before : (e f : Entry) → ComesBefore e f → dkey_of e.body ≤ dkey_of f.body
dkey_before e f before =
    elim (cases_order (dkey_of e.body) (dkey_of f.body)) [
      | inl same ↦ omega (arith, same)
      | inr apart ↦ elim apart [
        | inl below ↦ omega (arith, below)
        | inr above ↦ absurd (let turned : Greater ≡ Less = ap (λ (r : Ordering). ordering_then r (key_cmp e.key f.key)) (nat_cmp_is (dkey_of e.body) (dkey_of f.body) Greater above) ∙ before in cc)
      ]
    ]

no_dkey : (body : Body) → is_tomb body ≡ true → dkey_of body ≡ 0
no_dkey (Put dkey value) tomb = absurd cc
no_dkey Tomb tomb = refl

pub not_tomb : (body : Body) → not (is_tomb body) ≡ true → is_tomb body ≡ false
not_tomb (Put dkey value) put = refl
not_tomb Tomb put = absurd cc

abbrev pub IsPut : Entry → Type 0
IsPut e = not (is_tomb e.body) ≡ true

abbrev pub IsTombstone : Entry → Type 0
IsTombstone e = is_tomb e.body ≡ true

pub puts_class : (page : List Entry) → All IsPut page → class_of page ≡ Puts
puts_class [] puts = refl
puts_class (e ∷ es) puts = by e.body (All-head IsPut e es puts)
  where
    by : (body : Body) → not (is_tomb body) ≡ true → class_of_body body ≡ Puts
    by (Put dkey value) put = refl
    by Tomb put = absurd cc

pub tombs_class : (e : Entry) (es : List Entry) → All IsTombstone (e ∷ es) → class_of (e ∷ es) ≡ Tombs
tombs_class e es tombs = by e.body (All-head IsTombstone e es tombs)
  where
    by : (body : Body) → is_tomb body ≡ true → class_of_body body ≡ Tombs
    by (Put dkey value) tomb = absurd cc
    by Tomb tomb = refl

-- pages of puts by their delete keys
puts_precede : (pages : List (List Entry)) → AllPairs IsBelow pages → All (All IsPut) pages → AllPairs Precedes pages
puts_precede pages below puts i j d lt inside = record {
  puts = puts_class (get_or pages j d) (puts j d inside);
  dkeys = λ k e in_page l f in_other. dkey_before (get_or (get_or pages i d) k e) (get_or (get_or pages j d) l f) (below i j d lt inside k e in_page l f in_other);
}

-- and the page of the tombstones before them
all_precede : (tombs : List Entry) (pages : List (List Entry)) → All IsTombstone tombs → AllPairs IsBelow pages → All (All IsPut) pages → AllPairs Precedes (page_of tombs ++ pages)
all_precede [] pages tombs below puts = puts_precede pages below puts
all_precede (t ∷ ts) pages tombs below puts = AllPairs-cons Precedes (t ∷ ts) pages first (puts_precede pages below puts)
  where
    first : All (Precedes (t ∷ ts)) pages
    first j d inside = record {
      puts = puts_class (get_or pages j d) (puts j d inside);
      dkeys = λ k e in_page l f in_other. omega (arith, no_dkey (get_or (t ∷ ts) k e).body (tombs k e in_page));
    }

joined_page : (tombs : List Entry) → joined (page_of tombs) ≡ tombs
joined_page [] = refl
joined_page (t ∷ ts) = append-nil (t ∷ ts)

no_puts : (tombs : List Entry) → All IsTombstone tombs → count_by (λ page. is_puts (class_of page)) (page_of tombs) ≡ 0
no_puts [] tombs = refl
no_puts (t ∷ ts) tombs = ap (λ (c : Class). 0 + cond (is_puts c) 1 0) (tombs_class t ts tombs)

page_few : (tombs : List Entry) → length (page_of tombs) ≤ 1
page_few [] = omega arith
page_few (t ∷ ts) = omega arith

-- ---- keys in order

pub key_there : (entries : List Entry) (k : ℕ) (key : Bytes) (d : Entry) → k < length entries → key_at k entries ≡ Some key → (get_or entries k d).key ≡ key
key_there entries k key d inside is =
    let read : key_at k entries ≡ Some (get_or entries k d).key = ap (option_map (λ (e : Entry). e.key)) (slice_get-get_or entries k d inside) in
    let same : Some (get_or entries k d).key ≡ Some key = sym read ∙ is in
    cc

-- the key lies between the two
abbrev pub IsBetween : Bytes → Bytes → Bytes → Type 0
IsBetween lo hi key = (is_le (key_cmp lo key) ≡ true) × (is_le (key_cmp key hi) ≡ true)

pub between : (entries : List Entry) (lo hi : Bytes) → IsAscending entries → key_at 0 entries ≡ Some lo → key_at (length entries - 1) entries ≡ Some hi → All (λ e. IsBetween lo hi e.key) entries
between entries lo hi up first last k d inside = (above, below)
  where
    own : (x : Bytes) → is_le (key_cmp x x) ≡ true
    own x = ap is_le (own_key x)

    lo_is : (get_or entries 0 d).key ≡ lo
    lo_is = key_there entries 0 lo d (omega arith) first

    hi_is : (get_or entries (length entries - 1) d).key ≡ hi
    hi_is = key_there entries (length entries - 1) hi d (omega arith) last

    above : is_le (key_cmp lo (get_or entries k d).key) ≡ true
    above =
        elim (cases_lt 0 k) [
          | inl behind ↦ subst (λ (x : Bytes). is_le (key_cmp x (get_or entries k d).key) ≡ true) lo_is (ap is_le (pairs_from_ascending entries up 0 k d behind inside))
          | inr here ↦ let at : 0 ≡ k = omega arith in subst (λ (x : Bytes). is_le (key_cmp x (get_or entries k d).key) ≡ true) lo_is (subst (λ (n : ℕ). is_le (key_cmp (get_or entries 0 d).key (get_or entries n d).key) ≡ true) at (own (get_or entries 0 d).key))
        ]

    below : is_le (key_cmp (get_or entries k d).key hi) ≡ true
    below =
        elim (cases_lt k (length entries - 1)) [
          | inl before ↦ subst (λ (x : Bytes). is_le (key_cmp (get_or entries k d).key x) ≡ true) hi_is (ap is_le (pairs_from_ascending entries up k (length entries - 1) d before (omega arith)))
          | inr here ↦ let at : length entries - 1 ≡ k = omega arith in subst (λ (x : Bytes). is_le (key_cmp (get_or entries k d).key x) ≡ true) hi_is (subst (λ (n : ℕ). is_le (key_cmp (get_or entries k d).key (get_or entries n d).key) ≡ true) (sym at) (own (get_or entries k d).key))
        ]

-- ---- a whole tile

-- the tile's pages have its entries, each once
pub tile_once : (page : ℕ) (entries : List Entry) (tile : layout.Tile) → IsTile page entries tile → IsPermutation entries (joined tile.pages)
tile_once page entries tile is =
    let tombs = tombs_of entries in
    let puts = puts_of entries in
    let parted : IsPermutation entries (tombs ++ puts) = IsPermutation-filter_both (λ (e : Entry). is_tomb e.body) (λ (e : Entry). not (is_tomb e.body)) (λ e. refl) entries in
    let paged : IsPermutation (tombs ++ puts) (tombs ++ joined is.pages) = IsPermutation-append tombs tombs puts (joined is.pages) (IsPermutation-refl tombs) is.paged.once in
    let all : joined tile.pages ≡ tombs ++ joined is.pages =
    ap joined is.is ∙ flat_map-append (λ (part : List Entry). part) (page_of tombs) is.pages ∙ ap (λ (l : List Entry). l ++ joined is.pages) (joined_page tombs) in
    subst (IsPermutation entries) (sym all) (IsPermutation-trans entries (tombs ++ puts) (tombs ++ joined is.pages) parted paged)

pub tile_long : (page : ℕ) (entries : List Entry) (tile : layout.Tile) → IsTile page entries tile → length (joined tile.pages) ≡ length entries
tile_long page entries tile is = length_permutation entries (joined tile.pages) (tile_once page entries tile is)

module _ (tile : layout.Tile) (whole : IsWhole tile) where
  pages_once : IsPermutation whole.entries (joined tile.pages)
  pages_once = tile_once whole.fields.page whole.entries tile whole.is

  pub long : length (joined tile.pages) ≡ length whole.entries
  long = tile_long whole.fields.page whole.entries tile whole.is

  pub tombs_are : All IsTombstone (tombs_of whole.entries)
  tombs_are = filter_passes (λ (e : Entry). is_tomb e.body) whole.entries

  pub puts_are : All (All IsPut) whole.is.pages
  puts_are = parts_all IsPut whole.is.pages (All-permutation IsPut (puts_of whole.entries) (joined whole.is.pages) whole.is.paged.once (filter_passes (λ (e : Entry). not (is_tomb e.body)) whole.entries))

  pub precede : AllPairs Precedes tile.pages
  precede = subst (AllPairs Precedes) (sym whole.is.is) (all_precede (tombs_of whole.entries) whole.is.pages tombs_are whole.is.paged.below puts_are)

  -- there are at most 64 pages of puts
  few_puts : length whole.is.pages ≤ 64
  few_puts =
      let put_len : length (joined whole.is.pages) ≡ length (puts_of whole.entries) = length_permutation (puts_of whole.entries) (joined whole.is.pages) whole.is.paged.once in
      let both = length-filter_both (λ (e : Entry). is_tomb e.body) (λ (e : Entry). not (is_tomb e.body)) (λ e. refl) whole.entries in
      let fits : length (joined whole.is.pages) ≤ whole.fields.page * whole.fields.tile = omega (arith, put_len, both, whole.few) in
      let few = cut_few whole.fields.page whole.fields.tile whole.is.pages whole.is.paged.lengths fits in
      omega (arith, few, whole.config.tile.1)

  pub few_pages : length tile.pages ≤ 65
  few_pages = omega (arith, few_puts, page_few (tombs_of whole.entries), ap length whole.is.is, length-append (page_of (tombs_of whole.entries)) whole.is.pages)

  -- how many pages have puts
  pub puts_few : count_by (λ page. is_puts (class_of page)) tile.pages ≤ 64
  puts_few =
      let tombs = tombs_of whole.entries in
      let parts = ap (count_by (λ page. is_puts (class_of page))) whole.is.is ∙ sum_by-append (λ (page : List Entry). cond (is_puts (class_of page)) 1 0) (page_of tombs) whole.is.pages in
      omega (arith, few_puts, parts, no_puts tombs tombs_are, count_by-le-length (λ (page : List Entry). is_puts (class_of page)) whole.is.pages)

  pub few_entries : length whole.entries ≤ 65536
  few_entries =
      let more : whole.fields.page * whole.fields.tile * 1 ≤ whole.fields.page * whole.fields.tile * whole.fields.file = mul-le-mul_left (whole.fields.page * whole.fields.tile) whole.config.file.0 in
      omega (arith, more, whole.few, whole.config.entries)

  pub some_pages : 0 < length tile.pages
  some_pages = by tile.pages long
    where
      by : (pages : List (List Entry)) → length (joined pages) ≡ length whole.entries → 0 < length pages
      by [] is = absurd (omega (arith, is, whole.some))
      by (p ∷ ps) is = omega arith

  -- every key lies between the tile's two
  pub keys_between : All (All (λ e. IsBetween tile.lo tile.hi e.key)) tile.pages
  keys_between = parts_all (λ e. IsBetween tile.lo tile.hi e.key) tile.pages (All-permutation (λ e. IsBetween tile.lo tile.hi e.key) whole.entries (joined tile.pages) pages_once (between whole.entries tile.lo tile.hi whole.ascending whole.is.lo whole.is.hi))

  pub keys_differ : AllPairs (Across HasOtherKey) tile.pages
  keys_differ = parts_across HasOtherKey tile.pages (pairs_from_other (joined tile.pages) (other_permuted whole.entries (joined tile.pages) pages_once (other_from_ascending whole.entries (pairs_from_ascending whole.entries whole.ascending))))
