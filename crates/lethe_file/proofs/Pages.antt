-- Pages that lack a key.
use Rattle.std.proofs.Common.{◌≡◌, ℕ, zero, suc, ◌+◌, ◌<◌, ◌≤◌, false, cond, List, [], ◌∷◌, ◌++◌, length, get_or, take, drop, map, Option, Some, None, inl, inr, sym, ap, subst, ◌∙◌, arith, length-append}
use Rattle.std.proofs.lemmas.Grind.{flat_map-append}
use Rattle.std.proofs.lemmas.List.{take-append-drop, drop_more, take_more, get_or_default, get_or-map, length-map}
use Rattle.std.proofs.lemmas.List.Sums.{sum_by-append, sum_by-take-le}
use Rattle.std.specs.Prelude.{Contains}
use Rattle.std.specs.List.{AllZip}
use Rattle.std.proofs.lemmas.Bool.{cases_lt}
use Rattle.lethe_base.specs.Keys.{Bytes}
use Rattle.lethe_base.specs.declared.entry.Entry.{Entry}
use Rattle.lethe_page.specs.Pages.{page_bytes}
use Rattle.lethe_page.specs.Pages as pages
use Rattle.lethe_page.specs.declared.class.Class.{Class}
use Rattle.lethe_page.proofs.PageLaws.{page_again}
use Rattle.lethe_header.specs.Filters.{IsProbe, MayHold, filter_len}
use Rattle.lethe_header.specs.Facts.{lines_of}
use Rattle.lethe_header.specs.declared.header.PageLine.{PageLine}
use Rattle.lethe_header.specs.declared.header.TileLine.{TileLine}
use Rattle.lethe_file.specs.Agreement.{Agrees, IsFilterOf, IsPage, entries_in, entries_read, keys_of}
use Rattle.lethe_file.specs.Finding.{Lacks, IsEntryOf, allows, allowed_in}
use Rattle.lethe_file.proofs.Allowed.{allowed_key}

-- the pages of the tiles up to one are no more than those of all
pub pages_fit : (tiles : List TileLine) (i : ℕ) (d : TileLine) → i < length tiles → length (lines_of (take i tiles)) + length (get_or tiles i d).pages ≤ length (lines_of tiles)
pages_fit tiles i d lt =
    let tile = get_or tiles i d in
    let parts : tiles ≡ take i tiles ++ (tile ∷ drop (i + 1) tiles) = sym (take-append-drop i tiles) ∙ ap (λ (l : List TileLine). take i tiles ++ l) (drop_more tiles i d lt) in
    let len : length (lines_of tiles) ≡ length (lines_of (take i tiles)) + (length tile.pages + length (lines_of (drop (i + 1) tiles))) =
    ap (λ (l : List TileLine). length (lines_of l)) parts
    ∙ ap length (flat_map-append (λ (tile : TileLine). tile.pages) (take i tiles) (tile ∷ drop (i + 1) tiles))
    ∙ length-append (lines_of (take i tiles)) (tile.pages ++ lines_of (drop (i + 1) tiles))
    ∙ ap (λ (n : ℕ). length (lines_of (take i tiles)) + n) (length-append tile.pages (lines_of (drop (i + 1) tiles))) in
    omega (arith, len)

-- what a page's bytes spell are the entries that spell them
pub same_entries : (class : Class) (entries : List Entry) → pages.HasSpelling class entries → entries_in (page_bytes class entries) ≡ entries
same_entries class entries fits = ap entries_read (page_again class entries fits)

pub entries_are : (line : PageLine) (entries : List Entry) (bytes : List ℕ) → IsPage line entries → bytes ≡ page_bytes line.class entries → entries_in bytes ≡ entries
entries_are line entries bytes page is = ap entries_in is ∙ same_entries line.class entries page.spelled

-- ---- filters

-- the filter of some keys may hold each of them
may_hold_each : (keys : List Bytes) (words : List ℕ) → IsFilterOf keys words → (k : ℕ) (d : Bytes) → k < length keys → MayHold words (get_or keys k d)
may_hold_each keys words filter k d lt bit probe =
    let key = get_or keys k d in
    let again : IsProbe (filter_len (length keys)) key bit = subst (λ (n : ℕ). IsProbe n key bit) filter.len probe in
    (filter.bits bit).1 (k, key, lt, same k lt, again)
  where
    same : (k : ℕ) → k < length keys → get_or keys k (get_or keys k d) ≡ get_or keys k d
    same k lt = get_or_default keys k (get_or keys k d) d lt

-- a page whose filter doesn't allow the key lacks it
pub not_allowed : (key : Bytes) (line : PageLine) (bytes : List ℕ) → Agrees line bytes → allows key line.filter ≡ false → Lacks key (entries_in bytes)
not_allowed key line bytes agrees no_one k d lt is =
    let keys = keys_of (entries_in bytes) in
    let inside : k < length keys = omega (arith, length-map (entries_in bytes) (λ (e : Entry). e.key), lt) in
    let same : get_or keys k d.key ≡ key = get_or-map (λ (e : Entry). e.key) (entries_in bytes) k d d.key lt ∙ is in
    let holds = subst (MayHold line.filter) same (may_hold_each keys line.filter agrees.filter k d.key inside) in
    let allowed = sym (allowed_key line.filter key holds) ∙ no_one in
    cc

-- ---- pages one after another

pub zip_at : {A B P : Type 0} (R : A → B → Type 0) (f : P → B) (xs : List A) (ps : List P) → AllZip R xs (map f ps) → (i : ℕ) (d : A) (e : P) → i < length xs → R (get_or xs i d) (f (get_or ps i e))
zip_at R f [] ps h i d e lt = absurd (omega arith)
zip_at R f (x ∷ xs) [] h i d e lt = absurd h
zip_at R f (x ∷ xs) (p ∷ ps) h zero d e lt = h.0
zip_at R f (x ∷ xs) (p ∷ ps) h (suc i) d e lt = zip_at R f xs ps h.1 i d e (omega arith)

-- so many pages of a tile are looked at, and all of them lack the key
pub record IsSearched {P : Type 0} (bytes_of : P → List ℕ) (tells : Type 0) (key : Bytes) (lines : List PageLine) (pages : List P) (place old_fetches fetches old_faults faults : ℕ) : Type 0 where
  pub risen : old_faults ≤ faults
  pub at_most : fetches ≤ old_fetches + allowed_in key (take place lines)
  pub later : old_fetches ≤ fetches
  pub lacks : tells → AllZip Agrees lines (map bytes_of pages) → (k : ℕ) (d : P) → k < place → Lacks key (entries_in (bytes_of (get_or pages k d)))

pub allowed_more : (key : Bytes) (lines : List PageLine) (i : ℕ) (d : PageLine) → i < length lines → allowed_in key (take (i + 1) lines) ≡ allowed_in key (take i lines) + allowed_in key (get_or lines i d ∷ [])
allowed_more key lines i d lt = ap (allowed_in key) (take_more lines i d lt) ∙ sum_by-append (λ (line : PageLine). cond (allows key line.filter) 1 0) (take i lines) (get_or lines i d ∷ [])

pub allowed_upto : (key : Bytes) (lines : List PageLine) (i : ℕ) → allowed_in key (take i lines) ≤ allowed_in key lines
allowed_upto key lines i = sum_by-take-le (λ (line : PageLine). cond (allows key line.filter) 1 0) lines i

pub searched_more : {P : Type 0} (bytes_of : P → List ℕ) (tells : Type 0) (key : Bytes) (lines : List PageLine) (pages : List P) (place f0 f1 f2 p0 p1 p2 : ℕ) (d : PageLine) → IsSearched bytes_of tells key lines pages place f0 f1 p0 p1 → place < length lines
    → f2 ≤ f1 + allowed_in key (get_or lines place d ∷ []) → f1 ≤ f2 → p1 ≤ p2 → (tells → AllZip Agrees lines (map bytes_of pages) → (d : P) → Lacks key (entries_in (bytes_of (get_or pages place d))))
    → IsSearched bytes_of tells key lines pages (place + 1) f0 f2 p0 p2
searched_more bytes_of tells key lines pages place f0 f1 f2 p0 p1 p2 d done inside few later risen lacks = record {
  risen = omega (arith, done.risen, risen);
  at_most = omega (arith, done.at_most, few, allowed_more key lines place d inside);
  later = omega (arith, done.later, later);
  lacks = λ told agree k e lt. elim (cases_lt k place) [
    | inl before ↦ done.lacks told agree k e before
    | inr behind ↦ let same : k ≡ place = omega (arith, lt, behind) in subst (λ (n : ℕ). Lacks key (entries_in (bytes_of (get_or pages n e)))) (sym same) (lacks told agree e)
  ];
}

-- ---- what a page has

-- what was found among the entries that a page's bytes spell
pub found_in : (key : Bytes) (line : PageLine) (bytes : List ℕ) (entries : List Entry) (found : Option Entry) → IsPage line entries → bytes ≡ page_bytes line.class entries → IsEntryOf key (entries ∷ []) found → IsEntryOf key (entries_in bytes ∷ []) found
found_in key line bytes entries found page is entry = subst (λ (es : List Entry). IsEntryOf key (es ∷ []) found) (sym (entries_are line entries bytes page is)) entry

pub one_lacks : (key : Bytes) (entries : List Entry) → Lacks key entries → IsEntryOf key (entries ∷ []) None
one_lacks key entries lacks zero d lt = lacks
one_lacks key entries lacks (suc k) d lt = absurd (omega arith)

pub lacks_one : (key : Bytes) (entries : List Entry) → IsEntryOf key (entries ∷ []) None → Lacks key entries
lacks_one key entries lacks = lacks zero entries (omega arith)

pub one_has : (key : Bytes) (entries : List Entry) (entry : Entry) → IsEntryOf key (entries ∷ []) (Some entry) → Contains entries entry × (entry.key ≡ key)
one_has key entries entry ((zero, page, lt, is, has), k) = (subst (λ (p : List Entry). Contains p entry) (sym is) has, k)
one_has key entries entry ((suc n, page, lt, is, has), k) = absurd (omega (arith, lt))

pub has_one : {P : Type 0} (key : Bytes) (entries_of : P → List Entry) (pages : List P) (place : ℕ) (d : P) (entry : Entry) → place < length pages → Contains (entries_of (get_or pages place d)) entry × (entry.key ≡ key) → IsEntryOf key (map entries_of pages) (Some entry)
has_one key entries_of pages place d entry lt has =
    let page = entries_of (get_or pages place d) in
    let inside : place < length (map entries_of pages) = omega (arith, length-map pages entries_of, lt) in
    ((place, page, inside, get_or-map entries_of pages place d page lt, has.0), has.1)

pub all_lack : {P : Type 0} (key : Bytes) (entries_of : P → List Entry) (pages : List P) → ((k : ℕ) (d : P) → k < length pages → Lacks key (entries_of (get_or pages k d))) → IsEntryOf key (map entries_of pages) None
all_lack key entries_of [] each k d lt = absurd (omega arith)
all_lack key entries_of (p ∷ ps) each zero d lt = each zero p (omega arith)
all_lack key entries_of (p ∷ ps) each (suc k) d lt = all_lack key entries_of ps (λ n e l. each (suc n) e (omega arith)) k d (omega arith)

-- ---- the page at a place

module _ {P : Type 0} (bytes_of : P → List ℕ) (key : Bytes) (lines : List PageLine) (pages : List P) (place : ℕ) (line : PageLine) (page : P) (bytes : List ℕ)
    (line_is : line ≡ get_or lines place line) (page_is : page ≡ get_or pages place page) (bytes_are : bytes ≡ bytes_of page) (inside : place < length lines) (len : length pages ≡ length lines) (agree : AllZip Agrees lines (map bytes_of pages)) where
  pub agrees_here : Agrees line bytes
  agrees_here =
      let there : Agrees (get_or lines place line) (bytes_of (get_or pages place page)) = zip_at Agrees bytes_of lines pages agree place line page inside in
      let at_line : Agrees line (bytes_of (get_or pages place page)) = subst (λ (l : PageLine). Agrees l (bytes_of (get_or pages place page))) (sym line_is) there in
      let same : bytes_of (get_or pages place page) ≡ bytes = ap bytes_of (sym page_is) ∙ sym bytes_are in
      subst (λ (b : List ℕ). Agrees line b) same at_line

  pub found_here : (entry : Entry) → (Agrees line bytes → IsEntryOf key (entries_in bytes ∷ []) (Some entry)) → IsEntryOf key (map (λ p. entries_in (bytes_of p)) pages) (Some entry)
  found_here entry found =
      let has = one_has key (entries_in bytes) entry (found agrees_here) in
      let same : bytes ≡ bytes_of (get_or pages place page) = bytes_are ∙ ap bytes_of page_is in
      let within : place < length pages = omega (arith, inside, len) in
      has_one key (λ p. entries_in (bytes_of p)) pages place page entry within (subst (λ (b : List ℕ). Contains (entries_in b) entry × (entry.key ≡ key)) same has)

  pub lacks_here : (Agrees line bytes → IsEntryOf key (entries_in bytes ∷ []) None) → (d : P) → Lacks key (entries_in (bytes_of (get_or pages place d)))
  lacks_here found d =
      let within : place < length pages = omega (arith, inside, len) in
      let same : bytes ≡ bytes_of (get_or pages place d) = bytes_are ∙ ap bytes_of (page_is ∙ get_or_default pages place page d within) in
      subst (λ (b : List ℕ). Lacks key (entries_in b)) same (lacks_one key (entries_in bytes) (found agrees_here))
