-- The pages of a file, looked at one after the other.
use Rattle.std.proofs.Common.{◌≡◌, ◌≢◌, ◌<◌, ◌+◌, ◌⊎◌, ◌↔◌, inl, inr, ℕ, List, [], ◌∷◌, ◌++◌, length, map, get_or, take, drop, All, Some, sym, ap, subst, ◌∙◌, append_assoc, arith}
use Rattle.std.specs.Prelude.{Any, Contains}
use Rattle.std.specs.declared.cmp.Ordering.TheVariants.{Less}
use Rattle.std.proofs.lemmas.List.{map-append, append-nil, take_more, drop_more, take-append-drop, get_or_default, get_or-take, length-take}
use Rattle.std.proofs.lemmas.List.Concat.{flat_map-append}
use Rattle.std.proofs.lemmas.List.Elements.{All-contains, Contains-append_left, Contains-append_right, Contains-append_cases, Contains-push, Contains-push_cases}
use Rattle.lethe_base.specs.Keys.{Bytes, key_cmp}
use Rattle.lethe_base.specs.declared.entry.Entry.{Entry}
use Rattle.lethe_base.specs.declared.name.Name.{Name}
use Rattle.lethe_disk.specs.Directory.{Directory, object}
use Rattle.lethe_disk.proofs.Objects.{one_object}
use Rattle.lethe_header.specs.Headers.{EachFollows, TileFollows}
use Rattle.lethe_header.specs.declared.header.PageLine.{PageLine}
use Rattle.lethe_header.specs.declared.header.TileLine.{TileLine}
use Rattle.lethe_header.proofs.Follows.{follows_at, follows_one}
use Rattle.lethe_file.specs.Agreement.{HaveNoCommonKey, IsWithin, entries_in, keys_of, page_name}
use Rattle.lethe_file.proofs.Orders.{le_less, less_le, own_key, tiles_rise}
use Rattle.lethe_manifest.specs.declared.manifest.Cited.{Cited}
use Rattle.lethe_stored.proofs.Lists.{in_map, from_map, from_flat, all_from}
use Rattle.lethe_load.specs.Damaged.{IsSoundPage, IsTakenBy, placed_in}
use Rattle.lethe_load.specs.Progress.{IsNextPage, HasKey, ArePages, AreBelow, IsBadPage}
use Rattle.lethe_load.specs.declared.numbers.PageNumbers.{PageNumbers}

abbrev pub Item : Type 0
Item = TileLine × PageLine

-- Lists

pub any_of : {X : Type 0} (P : X → Type 0) (xs : List X) (x : X) → Contains xs x → P x → Any P xs
any_of P xs x there p = (there.0, x, there.1, there.2, p)

pub any_is : {X : Type 0} (P : X → Type 0) (xs : List X) (any : Any P xs) → Contains xs any.1
any_is P xs any = (any.0, any.2, any.3)

pub any_push_cases : {X : Type 0} (P : X → Type 0) (xs : List X) (y : X) → Any P (xs ++ y ∷ []) → Any P xs ⊎ P y
any_push_cases P xs y any = elim (Contains-push_cases xs y any.1 (any_is P (xs ++ y ∷ []) any)) [ inl there ↦ inl (any_of P xs any.1 there any.4) | inr same ↦ inr (subst P (sym same) any.4) ]

pub any_left : {X : Type 0} (P : X → Type 0) (xs ys : List X) → Any P xs → Any P (xs ++ ys)
any_left P xs ys any = any_of P (xs ++ ys) any.1 (Contains-append_left xs ys any.1 (any_is P xs any)) any.4

pub any_last : {X : Type 0} (P : X → Type 0) (xs : List X) (y : X) → P y → Any P (xs ++ y ∷ [])
any_last P xs y p = any_of P (xs ++ y ∷ []) y (Contains-push xs y) p

-- an item stands behind those before it
pub follows_of : {A : Type 0} (Good : List A → A → Type 0) (items : List A) (x : A) → EachFollows Good items → Contains items x → (before : List A) × Good before x
follows_of Good items x each there = (take there.0 items, subst (Good (take there.0 items)) there.2 (follows_at Good items there.0 x each there.1))

-- Keys

less_apart : (x y : Bytes) → key_cmp x y ≡ Less → x ≡ y → ⊥
less_apart x y lt same =
    let tie : key_cmp x x ≡ Less = subst (λ (z : Bytes). key_cmp x z ≡ Less) (sym same) lt in
    let both = sym tie ∙ own_key x in
    cc

pub no_common : (page other : List Entry) → ((e f : Entry) → Contains page e → Contains other f → e.key ≡ f.key → ⊥) → HaveNoCommonKey page other
no_common page other none = all_from (λ (e : Entry). All (λ (f : Entry). e.key ≢ f.key) other) page (λ e here. all_from (λ (f : Entry). e.key ≢ f.key) other (λ f there same. none e f here there same))

pub common_none : (page other : List Entry) → HaveNoCommonKey page other → (e f : Entry) → Contains page e → Contains other f → e.key ≡ f.key → ⊥
common_none page other none e f here there = All-contains (λ (f : Entry). e.key ≢ f.key) other f (All-contains (λ (e : Entry). All (λ (f : Entry). e.key ≢ f.key) other) page e none here) there

-- One page more

-- an earlier page has no key of this one
abbrev Apart : Directory → List ℕ → Item → Type 0
Apart d bytes other = (earlier : List ℕ) → object d (page_name other.1.no) ≡ Some earlier → HaveNoCommonKey (entries_in earlier) (entries_in bytes)

abbrev Is : ℕ → Item → Type 0
Is number item = item.1.no ≡ number

abbrev pub KeysAre : Directory → (Bytes → Type 0) → List PageLine → Type 0
KeysAre d taken lines = (key : Bytes) → taken key ↔ Any (HasKey d key) lines

module _ (d : Directory) (before : List Cited) (numbers : PageNumbers) (tile : TileLine) (items : List Item) (lines : List PageLine) (taken : Bytes → Type 0) where
  abbrev placed : PageLine → Item
  placed line = (tile, line)

  abbrev all : List Item
  all = items ++ map placed lines

  module _ (are : ArePages d before all numbers) (keys : KeysAre d taken lines) (line : PageLine) where
    -- what is sound behind those of its tile is sound behind all
    pub sound_next : AreBelow tile items → IsNextPage d numbers taken tile line → IsSoundPage d numbers.next (IsTakenBy d before) all (tile, line)
    sound_next below next = record {
      below = next.free.0;
      once = λ by. next.free.1 ((are.taken line.no).1 (inl by));
      new = all_from (λ (other : Item). other.1.no ≢ line.no) all (λ other here same. next.free.1 ((are.taken line.no).1 (inr (any_of (λ (item : Item). item.1.no ≡ line.no) all other here same))));
      bytes = next.bytes;
      there = next.there;
      agrees = next.sound.agrees;
      within = next.sound.within;
      apart = all_from (Apart d next.bytes) all (λ other here. elim (Contains-append_cases items (map placed lines) other here) [ inl earlier ↦ in_earlier other earlier | inr own ↦ in_own other (from_map placed lines other own) ]);
    }
      where
        in_earlier : (other : Item) → Contains items other → Apart d next.bytes other
        in_earlier other here earlier there =
            let good = (follows_of (IsSoundPage d numbers.next (IsTakenBy d before)) all other are.good (Contains-append_left items (map placed lines) other here)).1 in
            let same : good.bytes ≡ earlier = one_object (object d (page_name other.1.no)) good.bytes earlier good.there there in
            let within : All (λ (e : Entry). IsWithin other.0 e.key) (entries_in earlier) = subst (λ (b : List ℕ). All (λ (e : Entry). IsWithin other.0 e.key) (entries_in b)) same good.within in
            let under : key_cmp other.0.hi tile.lo ≡ Less = All-contains (λ (item : Item). key_cmp item.0.hi tile.lo ≡ Less) items other below here in
            no_common (entries_in earlier) (entries_in next.bytes) (λ e f in_e in_f.
            let hi = (All-contains (λ (e : Entry). IsWithin other.0 e.key) (entries_in earlier) e within in_e).hi in
            let lo = (All-contains (λ (e : Entry). IsWithin tile e.key) (entries_in next.bytes) f next.sound.within in_f).lo in
            less_apart e.key f.key (less_le e.key tile.lo f.key (le_less e.key other.0.hi tile.lo hi under) lo))

        in_own : (other : Item) → (l : PageLine) × Contains lines l × (placed l ≡ other) → Apart d next.bytes other
        in_own other (l, here, is) earlier there =
            let at : object d (page_name l.no) ≡ Some earlier = ap (λ (item : Item). object d (page_name item.1.no)) is ∙ there in
            no_common (entries_in earlier) (entries_in next.bytes) (λ e f in_e in_f same.
            let key_in : Contains (keys_of (entries_in earlier)) f.key = subst (Contains (keys_of (entries_in earlier))) same (in_map (λ (e : Entry). e.key) (entries_in earlier) e in_e) in
            All-contains (λ (e : Entry). taken e.key → ⊥) (entries_in next.bytes) f next.sound.apart in_f ((keys f.key).1 (any_of (HasKey d f.key) lines l here (earlier, at, key_in))))

    -- and the other way round
    pub next_sound : IsSoundPage d numbers.next (IsTakenBy d before) all (tile, line) → IsNextPage d numbers taken tile line
    next_sound sound = record {
      free = (
        sound.below,
        λ held. elim ((are.taken line.no).0 held) [
          | inl by ↦ sound.once by
          | inr any ↦ All-contains (λ (other : Item). other.1.no ≢ line.no) all any.1 sound.new (any_is (λ (item : Item). item.1.no ≡ line.no) all any) any.4
        ],
      );
      bytes = sound.bytes;
      there = sound.there;
      sound = record {
        agrees = sound.agrees;
        within = sound.within;
        apart = all_from (λ (e : Entry). taken e.key → ⊥) (entries_in sound.bytes) (λ f in_f held.
            let any = (keys f.key).0 held in
            let l = any.1 in
            let found = from_map (λ (e : Entry). e.key) (entries_in any.4.0) f.key any.4.2 in
            let here : Contains all (placed l) = Contains-append_right items (map placed lines) (placed l) (in_map placed lines l (any_is (HasKey d f.key) lines any)) in
            let apart = All-contains (λ (other : Item). (earlier : List ℕ) → object d (page_name other.1.no) ≡ Some earlier → HaveNoCommonKey (entries_in earlier) (entries_in sound.bytes)) all (placed l) sound.apart here any.4.0 any.4.1 in
            common_none (entries_in any.4.0) (entries_in sound.bytes) apart found.0 f found.1 in_f found.2);
      };
    }

    -- with it there is one page more
    pub pages_more : AreBelow tile items → IsNextPage d numbers taken tile line → (new : PageNumbers) → new.next ≡ numbers.next → ((number : ℕ) → Contains new.taken.keys number ↔ (Contains numbers.taken.keys number ⊎ (line.no ≡ number)))
        → ArePages d before (all ++ placed line ∷ []) new
    pages_more below next new same more = record {
      good = follows_one (IsSoundPage d new.next (IsTakenBy d before)) all (placed line) (subst (λ n. EachFollows (IsSoundPage d n (IsTakenBy d before)) all) (sym same) are.good)
          (subst (λ n. IsSoundPage d n (IsTakenBy d before) all (placed line)) (sym same) (sound_next below next));
      taken = λ number. (to number, from number);
    }
      where
        to : (number : ℕ) → Contains new.taken.keys number → IsTakenBy d before number ⊎ Any (Is number) (all ++ placed line ∷ [])
        to number held = elim ((more number).0 held) [
          | inl old ↦ elim ((are.taken number).0 old) [ inl by ↦ inl by | inr any ↦ inr (any_left (Is number) all (placed line ∷ []) any) ]
          | inr is ↦ inr (any_last (Is number) all (placed line) is)
        ]

        from : (number : ℕ) → IsTakenBy d before number ⊎ Any (Is number) (all ++ placed line ∷ []) → Contains new.taken.keys number
        from number (inl by) = (more number).1 (inl ((are.taken number).1 (inl by)))
        from number (inr any) = elim (any_push_cases (Is number) all (placed line) any) [
          | inl old ↦ (more number).1 (inl ((are.taken number).1 (inr old)))
          | inr is ↦ (more number).1 (inr is)
        ]

  -- and the keys of its page are taken too
  pub keys_more : KeysAre d taken lines → (line : PageLine) (bytes : List ℕ) → object d (page_name line.no) ≡ Some bytes → (new : Bytes → Type 0) → ((key : Bytes) → new key ↔ (taken key ⊎ Contains (keys_of (entries_in bytes)) key)) → KeysAre d new (lines ++ line ∷ [])
  keys_more keys line bytes there new more key = (to, from)
    where
      to : new key → Any (HasKey d key) (lines ++ line ∷ [])
      to held = elim ((more key).0 held) [
        | inl old ↦ any_left (HasKey d key) lines (line ∷ []) ((keys key).0 old)
        | inr own ↦ any_last (HasKey d key) lines line (bytes, there, own)
      ]

      from : Any (HasKey d key) (lines ++ line ∷ []) → new key
      from any = elim (any_push_cases (HasKey d key) lines line any) [
        | inl old ↦ (more key).1 (inl ((keys key).1 old))
        | inr own ↦ (more key).1 (inr (subst (λ (b : List ℕ). Contains (keys_of (entries_in b)) key) (one_object (object d (page_name line.no)) own.0 bytes own.1 there) own.2))
      ]

-- of the lines of a tile, one more behind some items
pub placed_more : (tile : TileLine) (items : List Item) (lines : List PageLine) (i : ℕ) (line : PageLine) → i < length lines → line ≡ get_or lines i line
    → items ++ map (λ l. (tile, l)) (take (i + 1) lines) ≡ (items ++ map (λ l. (tile, l)) (take i lines)) ++ (tile, line) ∷ []
placed_more tile items lines i line lt is =
    ap (λ ls. items ++ map (λ l. (tile, l)) ls) (take_more lines i line lt ∙ ap (λ l. take i lines ++ l ∷ []) (sym is))
    ∙ ap (λ l. items ++ l) (map-append (λ l. (tile, l)) (take i lines) (line ∷ [])) ∙ sym (append_assoc items (map (λ l. (tile, l)) (take i lines)) ((tile, line) ∷ []))

-- all lines of a tile, from one of them on
pub placed_split : (tile : TileLine) (items : List Item) (own lines : List PageLine) (i : ℕ) (line : PageLine) → lines ≡ own → i < length lines → line ≡ get_or lines i line
    → items ++ map (λ l. (tile, l)) own ≡ (items ++ map (λ l. (tile, l)) (take i lines)) ++ (tile, line) ∷ map (λ l. (tile, l)) (drop (i + 1) lines)
placed_split tile items own lines i line same lt is =
    ap (λ ls. items ++ map (λ l. (tile, l)) ls) (sym same ∙ sym (take-append-drop i lines) ∙ ap (λ l. take i lines ++ l) (drop_more lines i line lt ∙ ap (λ x. x ∷ drop (i + 1) lines) (sym is)))
    ∙ ap (λ l. items ++ l) (map-append (λ l. (tile, l)) (take i lines) (line ∷ drop (i + 1) lines)) ∙ sym (append_assoc items (map (λ l. (tile, l)) (take i lines)) ((tile, line) ∷ map (λ l. (tile, l)) (drop (i + 1) lines)))

-- Tiles

abbrev own : TileLine → List Item
own tile = map (λ line. (tile, line)) tile.pages

pub tiles_more : (tiles : List TileLine) (i : ℕ) (tile : TileLine) → i < length tiles → tile ≡ get_or tiles i tile → placed_in (take (i + 1) tiles) ≡ placed_in (take i tiles) ++ map (λ line. (tile, line)) tile.pages
tiles_more tiles i tile lt is =
    ap placed_in (take_more tiles i tile lt ∙ ap (λ t. take i tiles ++ t ∷ []) (sym is)) ∙ flat_map-append own (take i tiles) (tile ∷ []) ∙ ap (λ l. placed_in (take i tiles) ++ l) (append-nil (own tile))

tiles_split : (tiles : List TileLine) (i : ℕ) (tile : TileLine) → i < length tiles → tile ≡ get_or tiles i tile → placed_in tiles ≡ (placed_in (take i tiles) ++ own tile) ++ placed_in (drop (i + 1) tiles)
tiles_split tiles i tile lt is =
    ap placed_in (sym (take-append-drop i tiles) ∙ ap (λ l. take i tiles ++ l) (drop_more tiles i tile lt ∙ ap (λ x. x ∷ drop (i + 1) tiles) (sym is)))
    ∙ flat_map-append own (take i tiles) (tile ∷ drop (i + 1) tiles) ∙ sym (append_assoc (placed_in (take i tiles)) (own tile) (placed_in (drop (i + 1) tiles)))

-- those before a tile end below it
pub tiles_below : (tiles : List TileLine) (i : ℕ) (tile : TileLine) → EachFollows TileFollows tiles → i < length tiles → tile ≡ get_or tiles i tile → AreBelow tile (placed_in (take i tiles))
tiles_below tiles i tile each lt is = all_from (λ (item : Item). key_cmp item.0.hi tile.lo ≡ Less) (placed_in (take i tiles)) (λ item here.
    let found = from_flat own (take i tiles) item here in
    let line = from_map (λ (l : PageLine). (found.0, l)) found.0.pages item found.2 in
    let k = found.1.0 in
    let inside : k < i = omega (arith, found.1.1, length-take i tiles) in
    let there : get_or tiles k found.0 ≡ found.0 = sym (get_or-take i tiles k found.0 inside) ∙ found.1.2 in
    let rise : key_cmp (get_or tiles k found.0).hi (get_or tiles i found.0).lo ≡ Less = tiles_rise tiles each k i found.0 inside lt in
    let last : get_or tiles i found.0 ≡ tile = get_or_default tiles i found.0 tile lt ∙ sym is in
    let one : key_cmp found.0.hi tile.lo ≡ Less = subst (λ (t : TileLine). key_cmp t.hi tile.lo ≡ Less) there (subst (λ (t : TileLine). key_cmp (get_or tiles k found.0).hi t.lo ≡ Less) last rise) in
    subst (λ (x : Item). key_cmp x.0.hi tile.lo ≡ Less) line.2 one)

-- the first bad page of a tile is that of its file
pub bad_page_of : (d : Directory) (next : ℕ) (before : List Cited) (all tiles : List TileLine) (i : ℕ) (tile : TileLine) (name : Name) → tiles ≡ all → i < length tiles → tile ≡ get_or tiles i tile
    → IsBadPage d next before (placed_in (take i tiles) ++ map (λ line. (tile, line)) tile.pages) name → IsBadPage d next before (placed_in all) name
bad_page_of d next before whole tiles i tile name same lt is bad = (
  bad.0,
  bad.1,
  record {
    behind = bad.2.behind ++ placed_in (drop (i + 1) tiles);
    split = ap placed_in (sym same) ∙ tiles_split tiles i tile lt is ∙ ap (λ l. l ++ placed_in (drop (i + 1) tiles)) bad.2.split ∙ append_assoc bad.0 (bad.1 ∷ bad.2.behind) (placed_in (drop (i + 1) tiles));
    good = bad.2.good;
    is = bad.2.is;
  },
  bad.3,
)
