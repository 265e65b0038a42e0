-- Files that can't have a key.
use Rattle.std.proofs.Common.{◌≡◌, ℕ, zero, suc, ◌+◌, ◌-◌, ◌<◌, ◌≤◌, Bool, true, false, cond, List, [], ◌∷◌, ◌++◌, length, get_or, take, drop, map, All, inl, inr, refl, sym, ap, subst, ◌∙◌, arith}
use Rattle.std.specs.List.{AllZip}
use Rattle.std.specs.Ordering.{is_le, ordering_reverse}
use Rattle.std.specs.declared.cmp.Ordering.TheVariants.{Less, Greater}
use Rattle.std.specs.Cmp.Lexicographic.{nat_list_cmp_total}
use Rattle.std.proofs.lemmas.Bool.{and_parts, and_from, cases_Bool, cases_lt, false_from_ne_true}
use Rattle.std.proofs.lemmas.List.{take-append-drop, take-map, drop-map, drop_more, drop_all}
use Rattle.std.proofs.lemmas.List.Elements.{All-append, All-cons, All-nil}
use Rattle.std.proofs.lemmas.List.Sums.{fold-append, sum_by-cons}
use Rattle.lethe_base.specs.Keys.{Bytes, key_cmp}
use Rattle.lethe_base.specs.declared.entry.Entry.{Entry}
use Rattle.lethe_header.specs.Facts.{lines_of, least_key, greatest_key}
use Rattle.lethe_header.specs.Headers.{TileFollows, HasSpelling}
use Rattle.lethe_header.specs.declared.header.Header.{Header}
use Rattle.lethe_header.specs.declared.header.PageLine.{PageLine}
use Rattle.lethe_header.specs.declared.header.TileLine.{TileLine}
use Rattle.lethe_header.proofs.Follows.{follows_at}
use Rattle.lethe_file.specs.Agreement.{Agrees, TileHolds, TilesHold, entries_in}
use Rattle.lethe_file.specs.Finding.{Lacks, IsTileOf, has_key, allows, allowed_in, allowed_pages}
use Rattle.lethe_file.proofs.Orders.{le_less, less_le, tiles_rise}
use Rattle.lethe_file.proofs.Pages.{not_allowed}
use Rattle.lethe_file.proofs.Tiles.{zip_parts}
use Rattle.lethe_version.specs.Probing.{bound}

not_both : (x y : Bytes) → is_le (key_cmp x y) ≡ true → key_cmp y x ≡ Less → ⊥
not_both x y le lt =
    let e : key_cmp x y ≡ Greater = nat_list_cmp_total.antisymm x y ∙ ap ordering_reverse lt in
    let no_le : is_le Greater ≡ true = ap is_le (sym e) ∙ le in
    cc

-- ---- no tile has the key

abbrev HasNoTile : Bytes → List TileLine → Type 0
HasNoTile key tiles = (k : ℕ) (d : TileLine) → k < length tiles → has_key key (get_or tiles k d) ≡ true → ⊥

abbrev pages_for : Bytes → TileLine → ℕ
pages_for key tile = cond (has_key key tile) (allowed_in key tile.pages) 0

pub none_then_zero : (key : Bytes) (tiles : List TileLine) → HasNoTile key tiles → allowed_pages key tiles ≡ 0
none_then_zero key [] none = refl
none_then_zero key (tile ∷ tiles) none =
    let here : has_key key tile ≡ false = false_from_ne_true (has_key key tile) (none zero tile (omega arith)) in
    let first : pages_for key tile ≡ 0 = ap (λ (b : Bool). cond b (allowed_in key tile.pages) 0) here in
    let rest : allowed_pages key tiles ≡ 0 = none_then_zero key tiles (λ k d lt. none (suc k) d (omega arith)) in
    omega (arith, sum_by-cons (pages_for key) tile tiles, first, rest)

pub none_there : (key : Bytes) (tiles : List TileLine) → IsTileOf key tiles (length tiles) → allowed_pages key tiles ≡ 0
none_there key tiles place = none_then_zero key tiles (λ k d lt has. let is : k ≡ length tiles = (place.1 k d lt).0 has in absurd (omega (arith, is, lt)))

-- the pages that are allowed are those of the one tile that has the key
pub only_there : (key : Bytes) (tiles : List TileLine) (t : ℕ) (d : TileLine) → IsTileOf key tiles t → t < length tiles → allowed_pages key tiles ≡ allowed_in key (get_or tiles t d).pages
only_there key (tile ∷ tiles) zero d place inside =
    let here : has_key key tile ≡ true = (place.1 zero d inside).1 refl in
    let first : pages_for key tile ≡ allowed_in key tile.pages = ap (λ (b : Bool). cond b (allowed_in key tile.pages) 0) here in
    let rest : allowed_pages key tiles ≡ 0 = none_then_zero key tiles (λ k e lt has. let is : suc k ≡ zero = (place.1 (suc k) e (omega arith)).0 has in absurd (omega (arith, is))) in
    omega (arith, sum_by-cons (pages_for key) tile tiles, first, rest)
only_there key (tile ∷ tiles) (suc t) d place inside =
    let not_here : has_key key tile ≡ false = false_from_ne_true (has_key key tile) (λ has. let is : zero ≡ suc t = (place.1 zero tile (omega arith)).0 has in absurd (omega (arith, is))) in
    let first : pages_for key tile ≡ 0 = ap (λ (b : Bool). cond b (allowed_in key tile.pages) 0) not_here in
    let rest = only_there key tiles t d (omega (arith, inside), λ k e lt. (λ has. let is : suc k ≡ suc t = (place.1 (suc k) e (omega arith)).0 has in let same : k ≡ t = omega (arith, is) in same, λ is. (place.1 (suc k) e (omega arith)).1 (ap suc is))) (omega arith) in
    omega (arith, sum_by-cons (pages_for key) tile tiles, first, rest)
only_there key [] t d place inside = absurd (omega arith)

-- ---- a key outside a file's keys

last_is : (tiles : List TileLine) (d : TileLine) → 0 < length tiles → greatest_key tiles ≡ (get_or tiles (length tiles - 1) d).hi
last_is tiles d some =
    let n = length tiles - 1 in
    let inside : n < length tiles = omega (arith, some) in
    let whole : tiles ≡ take n tiles ++ get_or tiles n d ∷ [] =
    sym (take-append-drop n tiles) ∙ ap (λ (l : List TileLine). take n tiles ++ l) (drop_more tiles n d inside ∙ ap (λ (l : List TileLine). get_or tiles n d ∷ l) (nothing n (omega arith))) in
    ap greatest_key whole ∙ fold-append (λ (before : Bytes) (tile : TileLine). tile.hi) [] (take n tiles) (get_or tiles n d ∷ [])
  where
    nothing : (n : ℕ) → length tiles ≤ n + 1 → drop (n + 1) tiles ≡ []
    nothing n le = drop_all (n + 1) tiles le

first_is : (tiles : List TileLine) (d : TileLine) → 0 < length tiles → least_key tiles ≡ (get_or tiles 0 d).lo
first_is [] d some = absurd (omega arith)
first_is (tile ∷ tiles) d some = refl

module _ (header : Header) (spelled : HasSpelling header) where
  itself : (k : ℕ) (d : TileLine) → k < length header.tiles → is_le (key_cmp (get_or header.tiles k d).lo (get_or header.tiles k d).hi) ≡ true
  itself k d lt = (follows_at TileFollows header.tiles k d spelled.tiles lt).itself.keys

  -- the greatest key isn't below a tile's
  up_to_last : (k : ℕ) (d : TileLine) (key : Bytes) → k < length header.tiles → key_cmp (greatest_key header.tiles) key ≡ Less → key_cmp (get_or header.tiles k d).hi key ≡ Less
  up_to_last k d key lt below =
      let n = length header.tiles - 1 in
      let inside : n < length header.tiles = omega (arith, lt) in
      let last : key_cmp (get_or header.tiles n d).hi key ≡ Less = subst (λ (x : Bytes). key_cmp x key ≡ Less) (last_is header.tiles d (omega arith)) below in
      elim (cases_lt k n) [
        | inl before ↦
            let rises = tiles_rise header.tiles spelled.tiles k n d before inside in
            let upto = less_le (get_or header.tiles k d).hi (get_or header.tiles n d).lo (get_or header.tiles n d).hi rises (itself n d inside) in
            nat_list_cmp_total.trans (get_or header.tiles k d).hi (get_or header.tiles n d).hi key upto last
        | inr behind ↦
            let same : k ≡ n = omega (arith, behind, lt) in
            subst (λ (i : ℕ). key_cmp (get_or header.tiles i d).hi key ≡ Less) (sym same) last
      ]

  from_first : (k : ℕ) (d : TileLine) (key : Bytes) → k < length header.tiles → key_cmp key (least_key header.tiles) ≡ Less → key_cmp key (get_or header.tiles k d).lo ≡ Less
  from_first zero d key lt below = subst (λ (x : Bytes). key_cmp key x ≡ Less) (first_is header.tiles d (omega arith)) below
  from_first (suc k) d key lt below =
      let first : key_cmp key (get_or header.tiles 0 d).lo ≡ Less = subst (λ (x : Bytes). key_cmp key x ≡ Less) (first_is header.tiles d (omega arith)) below in
      let upto = less_le key (get_or header.tiles 0 d).lo (get_or header.tiles 0 d).hi first (itself 0 d (omega arith)) in
      nat_list_cmp_total.trans key (get_or header.tiles 0 d).hi (get_or header.tiles (suc k) d).lo upto (tiles_rise header.tiles spelled.tiles 0 (suc k) d (omega arith) lt)

  -- no page of a file whose greatest key is below the key is allowed
  pub zero_behind : (key : Bytes) → key_cmp (greatest_key header.tiles) key ≡ Less → bound key header ≡ 0
  zero_behind key below = none_then_zero key header.tiles (λ k d lt has. not_both key (get_or header.tiles k d).hi (and_parts (is_le (key_cmp (get_or header.tiles k d).lo key)) _ has).1 (up_to_last k d key lt below))

  pub zero_before : (key : Bytes) → key_cmp key (least_key header.tiles) ≡ Less → bound key header ≡ 0
  zero_before key above = none_then_zero key header.tiles (λ k d lt has. not_both (get_or header.tiles k d).lo key (and_parts (is_le (key_cmp (get_or header.tiles k d).lo key)) _ has).0 (from_first k d key lt above))

  -- the least key isn't above the greatest
  pub keys_up : is_le (key_cmp (least_key header.tiles) (greatest_key header.tiles)) ≡ true
  keys_up = by header.tiles refl
    where
      by : (tiles : List TileLine) → tiles ≡ header.tiles → is_le (key_cmp (least_key header.tiles) (greatest_key header.tiles)) ≡ true
      by [] e = absurd (omega (arith, ap length e, spelled.some))
      by (tile ∷ tiles) e =
          let n = length header.tiles - 1 in
          let inside : n < length header.tiles = omega (arith, spelled.some) in
          let ends = subst (λ (x : Bytes). is_le (key_cmp (get_or header.tiles 0 tile).lo x) ≡ true) (sym (last_is header.tiles tile spelled.some)) (upto tile n inside) in
          subst (λ (x : Bytes). is_le (key_cmp x (greatest_key header.tiles)) ≡ true) (sym (first_is header.tiles tile spelled.some)) ends
        where
          upto : (d : TileLine) (n : ℕ) → n < length header.tiles → is_le (key_cmp (get_or header.tiles 0 d).lo (get_or header.tiles n d).hi) ≡ true
          upto d zero lt = itself 0 d lt
          upto d (suc k) lt =
              let rises = tiles_rise header.tiles spelled.tiles 0 (suc k) d (omega arith) lt in
              let first = less_le (get_or header.tiles 0 d).hi (get_or header.tiles (suc k) d).lo (get_or header.tiles (suc k) d).hi rises (itself (suc k) d lt) in
              ap is_le (le_less (get_or header.tiles 0 d).lo (get_or header.tiles 0 d).hi (get_or header.tiles (suc k) d).hi (itself 0 d (omega arith)) first)

-- ---- a file of which no page is allowed lacks the key

abbrev one_if : Bool → ℕ
one_if b = cond b 1 0

none_in : (key : Bytes) (lines : List PageLine) (bytes : List (List ℕ)) → AllZip Agrees lines bytes → allowed_in key lines ≡ 0 → All (Lacks key) (map entries_in bytes)
none_in key [] [] zip zero_is = All-nil (Lacks key)
none_in key [] (b ∷ bytes) zip zero_is = absurd zip
none_in key (line ∷ lines) [] zip zero_is = absurd zip
none_in key (line ∷ lines) (b ∷ bytes) zip zero_is =
    let parts = sum_by-cons (λ (l : PageLine). cond (allows key l.filter) 1 0) line lines in
    All-cons (Lacks key) (entries_in b) (map entries_in bytes)
    (not_allowed key line b zip.0 (false_from_ne_true (allows key line.filter) (λ allowed. let one : ◌≡◌ {A = ℕ} (cond (allows key line.filter) 1 0) 1 = ap (λ (x : Bool). one_if x) allowed in absurd (omega (arith, one, zero_is, parts)))))
    (none_in key lines bytes zip.1 (omega (arith, zero_is, parts)))

outside : (key : Bytes) (tile : TileLine) (pages : List (List Entry)) → TileHolds tile pages → has_key key tile ≡ false → All (Lacks key) pages
outside key tile pages holds not_has k d lt n e inside is =
    let within = holds.within k d lt n e inside in
    let lo : is_le (key_cmp tile.lo key) ≡ true = subst (λ (x : Bytes). is_le (key_cmp tile.lo x) ≡ true) is within.lo in
    let hi : is_le (key_cmp key tile.hi) ≡ true = subst (λ (x : Bytes). is_le (key_cmp x tile.hi) ≡ true) is within.hi in
    let has = and_from (is_le (key_cmp tile.lo key)) (is_le (key_cmp key tile.hi)) lo hi in
    cc

pub none_allowed : (key : Bytes) (tiles : List TileLine) (bytes : List (List ℕ)) → AllZip Agrees (lines_of tiles) bytes → TilesHold tiles (map entries_in bytes) → allowed_pages key tiles ≡ 0 → All (Lacks key) (map entries_in bytes)
none_allowed key [] bytes zip holds zero_is = λ k d lt. absurd (omega (arith, ap length holds, lt))
none_allowed key (tile ∷ tiles) bytes zip holds zero_is =
    let n = length tile.pages in
    let count = sum_by-cons (pages_for key) tile tiles in
    let parts = zip_parts Agrees tile.pages (lines_of tiles) bytes zip in
    let front : take n (map entries_in bytes) ≡ map entries_in (take n bytes) = take-map entries_in n bytes in
    let back : drop n (map entries_in bytes) ≡ map entries_in (drop n bytes) = drop-map entries_in n bytes in
    let rest_holds : TilesHold tiles (map entries_in (drop n bytes)) = subst (λ (l : List (List Entry)). TilesHold tiles l) back holds.1 in
    let rest = none_allowed key tiles (drop n bytes) parts.1 rest_holds (omega (arith, zero_is, count)) in
    let here : All (Lacks key) (map entries_in (take n bytes)) = elim (cases_Bool (has_key key tile)) [
      | inl has ↦
          let one : pages_for key tile ≡ allowed_in key tile.pages = ap (λ (b : Bool). cond b (allowed_in key tile.pages) 0) has in
          none_in key tile.pages (take n bytes) parts.0 (omega (arith, count, one, zero_is))
      | inr has_not ↦ subst (λ (l : List (List Entry)). All (Lacks key) l) front (outside key tile (take n (map entries_in bytes)) holds.0 has_not)
    ] in
    subst (λ (l : List (List Entry)). All (Lacks key) l) (take-append-drop n (map entries_in bytes))
    (All-append (Lacks key) (take n (map entries_in bytes)) (drop n (map entries_in bytes))
    (subst (λ (l : List (List Entry)). All (Lacks key) l) (sym front) here)
    (subst (λ (l : List (List Entry)). All (Lacks key) l) (sym back) rest))
