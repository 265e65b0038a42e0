-- What looking for a key in the bytes of a page finds, as the page's entries have it.
use Rattle.std.proofs.Common.{◌≡◌, ℕ, zero, suc, Bool, true, false, cond, List, [], ◌∷◌, length, Option, Some, None, Result, Ok, Err, refl, sym, ap, subst, ◌∙◌, arith}
use Rattle.std.specs.Prelude.{Contains, IfOk, IfSome}
use Rattle.std.proofs.lemmas.List.Elements.{All-cons, All-nil}
use Rattle.sha2.specs.Sha256.{sha256}
use Rattle.lethe_base.specs.Keys.{Bytes, same_key}
use Rattle.lethe_base.specs.Numbers.{IsBytes}
use Rattle.lethe_base.specs.Results.{◌>>=◌}
use Rattle.lethe_base.specs.declared.entry.Entry.{Entry}
use Rattle.lethe_base.proofs.ReadingSteps.{bind_ok, ok_is}
use Rattle.lethe_disk.specs.declared.cursor.ReadRefused.{ReadRefused}
use Rattle.lethe_header.specs.declared.header.PageLine.{PageLine}
use Rattle.lethe_page.specs.Finding.{entry_of, found_in}
use Rattle.lethe_page.specs.Pages.{page_bytes}
use Rattle.lethe_page.specs.Pages as pages
use Rattle.lethe_page.specs.Reading.{IsRefused, page_at}
use Rattle.lethe_page.specs.declared.class.Class.{Class}
use Rattle.lethe_page.specs.declared.finding.Found.{Found}
use Rattle.lethe_page.specs.declared.refused.PageRefused.{PageRefused}
use Rattle.lethe_page.specs.declared.refused.PageRefused.TheVariants.{Short, Kind, Order, Trailing, NoMemory}
use Rattle.lethe_page.proofs.PageLaws.{page_ok, page_again}
use Rattle.lethe_file.specs.Agreement.{IsChecked, check_of, entries_in}
use Rattle.lethe_file.specs.Damage.{IsVouched}
use Rattle.lethe_file.specs.Finding.{IsEntryOf, IsFoundIn, Lacks}
use Rattle.lethe_file.specs.declared.page.PageCheck.{PageCheck}
use Rattle.lethe_file.proofs.Orders.{is_key}
use Rattle.lethe_file.proofs.Damaged.{vouched_in}
use Rattle.lethe_file.proofs.Pages.{one_lacks}
use Rattle.lethe_file.proofs.Pages as pages_of

-- ---- the entry of a key among some

-- what a look finds there has the key, and where it finds nothing they all lack it
abbrev IsFoundAmong : Bytes → List Entry → Option Entry → Type 0
IsFoundAmong key entries None = Lacks key entries
IsFoundAmong key entries (Some entry) = Contains entries entry × (entry.key ≡ key)

found_among : (key : Bytes) (entries : List Entry) → IsFoundAmong key entries (entry_of key entries)
found_among key [] = All-nil (λ e. e.key ≡ key → ⊥)
found_among key (e ∷ es) = by (same_key e.key key) refl (found_among key es)
  where
    later : (found : Option Entry) → (same_key e.key key ≡ false) → IsFoundAmong key es found → IsFoundAmong key (e ∷ es) found
    later None other lacks = All-cons (λ e. e.key ≡ key → ⊥) e es (λ same. let both = sym other ∙ (is_key e.key key (same_key e.key key) refl).1 same in cc) lacks
    later (Some entry) other ((k, lt, is), named) = ((suc k, omega (arith, lt), is), named)

    by : (is : Bool) → same_key e.key key ≡ is → IsFoundAmong key es (entry_of key es) → IsFoundAmong key (e ∷ es) (cond is (Some e) (entry_of key es))
    by true is rest = ((zero, omega arith, refl), (is_key e.key key (same_key e.key key) refl).0 is)
    by false is rest = later (entry_of key es) is rest

entry_among : (key : Bytes) (entries : List Entry) (found : Option Entry) → IsFoundAmong key entries found → IsEntryOf key (entries ∷ []) found
entry_among key entries None lacks = one_lacks key entries lacks
entry_among key entries (Some entry) (has, named) = ((zero, entries, omega arith, refl, has), named)

-- ---- the page

abbrev found_of : Bytes → Class × List Entry → Found
found_of key page = record { class = page.0; entries = length page.1; entry = entry_of key page.1 }

-- what is found in bytes of the digest, the class and the number of entries that are told of
pub found_told : (check : PageCheck) (key : Bytes) (bytes : List ℕ) (found : Found) → IsBytes bytes → found_in key bytes ≡ Ok found → sha256 bytes ≡ check.digest → found.class ≡ check.class → found.entries ≡ check.entries → IsFoundIn check key bytes found.entry
found_told check key bytes found fits e digest class len =
    let a = bind_ok (page_at bytes) (λ page. Ok (found_of key page)) found e in
    let entries = a.0.1 in
    let is : found_of key a.0 ≡ found = ok_is (found_of key a.0) found a.2 in
    let p = page_ok bytes a.0 fits a.1 in
    let same : a.0.0 ≡ check.class = ap (λ (f : Found). f.class) is ∙ class in
    let spelled : bytes ≡ page_bytes check.class entries = p.1 ∙ ap (λ (c : Class). page_bytes c entries) same in
    record {
      entries = entries;
      page = record {
        spelled = subst (λ (c : Class). pages.HasSpelling c entries) same p.0;
        len = ap (λ (f : Found). f.entries) is ∙ len;
        digest = ap sha256 (sym spelled) ∙ digest;
      };
      spelled = spelled;
      entry = subst (λ (entry : Option Entry). IsEntryOf key (entries ∷ []) entry) (ap (λ (f : Found). f.entry) is) (entry_among key entries (entry_of key entries) (found_among key entries));
    }

-- where the bytes are the page that is told of, nothing else is found in them
pub told_found : (check : PageCheck) (key : Bytes) (bytes : List ℕ) (entries : List Entry) → IsChecked check entries → bytes ≡ page_bytes check.class entries → found_in key bytes ≡ Ok (record { class = check.class; entries = check.entries; entry = entry_of key entries })
told_found check key bytes entries page is =
    let read : page_at bytes ≡ Ok (check.class, entries) = ap page_at is ∙ page_again check.class entries page.spelled in
    ap (λ (r : Result (Class × List Entry) PageRefused). r >>= λ page. Ok (found_of key page)) read
    ∙ ap (λ (n : ℕ). let r : Result Found PageRefused = Ok (record { class = check.class; entries = n; entry = entry_of key entries }) in r) page.len

-- nor is anything refused but memory
pub told_refused : (check : PageCheck) (key : Bytes) (bytes : List ℕ) (entries : List Entry) (why : PageRefused) → IsChecked check entries → bytes ≡ page_bytes check.class entries → IsRefused why (found_in key bytes) → why ≡ NoMemory
told_refused check key bytes entries (Short at) page is refused = let both = sym refused ∙ told_found check key bytes entries page is in absurd cc
told_refused check key bytes entries (Kind at) page is refused = let both = sym refused ∙ told_found check key bytes entries page is in absurd cc
told_refused check key bytes entries (Order at) page is refused = let both = sym refused ∙ told_found check key bytes entries page is in absurd cc
told_refused check key bytes entries (Trailing at) page is refused = let both = sym refused ∙ told_found check key bytes entries page is in absurd cc
told_refused check key bytes entries NoMemory page is refused = refl

-- ---- the page of a line

abbrev Looked : Type 0
Looked = Result (Option Entry) ReadRefused

-- what is found in the page that the line tells of is found among the entries that its bytes spell
pub found_read : (key : Bytes) (line : PageLine) (bytes : List ℕ) (result : Looked) → IfOk result (IsFoundIn (check_of line) key bytes) → IfOk result (IsEntryOf key (entries_in bytes ∷ []))
found_read key line bytes (Ok found) there = pages_of.found_in key line bytes there.entries found there.page there.spelled there.entry
found_read key line bytes (Err why) there = tt

pub found_vouched : (key : Bytes) (line : PageLine) (result : Looked) → IfOk result (λ found. (bytes : List ℕ) × IsFoundIn (check_of line) key bytes found) → IfOk result (λ found. IfSome found (λ entry. (entry.key ≡ key) × IsVouched (line ∷ []) entry))
found_vouched key line (Ok found) there = vouched_in key line there.1.entries found there.1.page there.1.entry
found_vouched key line (Err why) there = tt
