-- What is read of a page is spelled so, and what is spelled so is read.
use Rattle.std.proofs.Common.{◌≡◌, ℕ, ◌≤◌, false, cond, ltb, List, [], ◌++◌, length, flat_map, Vec, None, Result, Ok, Err, refl, sym, ap, subst, ◌∙◌, arith}
use Rattle.std.specs.Prelude.{IfOk, MatchResult}
use Rattle.std.specs.declared.alloc.Global.{Global}
use Rattle.std.proofs.lemmas.Bool.{le-ltb, ltb-false}
use Rattle.std.proofs.lemmas.List.{append-nil}
use Rattle.std.proofs.Math.ListN.{drop_of_length-le}
use Rattle.lethe_base.specs.Numbers.{IsBytes}
use Rattle.lethe_base.specs.Reading.{StandsAt}
use Rattle.lethe_base.specs.Results.{◌>>=◌}
use Rattle.lethe_base.specs.Spelling.{entry_bytes}
use Rattle.lethe_base.specs.declared.entry.Entry.{Entry}
use Rattle.lethe_base.proofs.FieldLaws.{stands_then, stands_parts}
use Rattle.lethe_base.proofs.ReadingSteps.{bind_ok, past_test, ok_is}
use Rattle.lethe_page.specs.Pages.{head_bytes, page_bytes, HasSpelling}
use Rattle.lethe_page.specs.Reading.{GivesPage, head_at, entries_above, page_at}
use Rattle.lethe_page.specs.declared.class.Class.{Class}
use Rattle.lethe_page.specs.declared.refused.PageRefused.{PageRefused}
use Rattle.lethe_page.specs.declared.refused.PageRefused.TheVariants.{Short, Kind, Order, Trailing, NoMemory}
use Rattle.lethe_page.proofs.HeadLaws.{head_ok, head_again}
use Rattle.lethe_page.proofs.EntryLaws.{ascending_if, above_if, entries_ok, entries_back}

abbrev Page : Type 0
Page = Class × List Entry

-- what stands in all of the bytes is the bytes
all_stands : (x bytes : List ℕ) (end : ℕ) → StandsAt x bytes 0 end → length bytes ≤ end → bytes ≡ x
all_stands x bytes end p few = p.parts ∙ ap (λ (l : List ℕ). x ++ l) (drop_of_length-le bytes few) ∙ append-nil x

stands_alone : (x : List ℕ) → StandsAt x x 0 (length x)
stands_alone x = record {
  parts = sym (ap (λ (l : List ℕ). x ++ l) (drop_of_length-le x (let same : length x ≤ length x = omega arith in same)) ∙ append-nil x);
  ends = omega arith;
  within = omega arith;
}

pub page_ok : (bytes : List ℕ) (p : Page) → IsBytes bytes → page_at bytes ≡ Ok p → HasSpelling p.0 p.1 × (bytes ≡ page_bytes p.0 p.1)
unfolding page_at page_bytes
page_ok bytes p fits e =
    let a = bind_ok (head_at bytes) (λ head. entries_above head.0 head.1 None bytes 8 >>= λ read. cond (ltb read.1 (length bytes)) (Err (Trailing read.1)) (Ok (head.0, read.0))) p e in
    let class = a.0.0 in
    let count = a.0.1 in
    let b = bind_ok (entries_above class count None bytes 8) (λ read. cond (ltb read.1 (length bytes)) (Err (Trailing read.1)) (Ok (class, read.0))) p a.2 in
    let entries = b.0.0 in
    let end = b.0.1 in
    let g = past_test (ltb end (length bytes)) (Trailing end) (Ok (class, entries)) p b.2 in
    let head = head_ok bytes a.0 fits a.1 in
    let here : StandsAt [] bytes 8 8 = record { parts = refl; ends = refl; within = head.0.within } in
    let all = entries_ok class count None bytes 8 b.0 fits here b.1 in
    let stands = stands_then (head_bytes class count) (flat_map entry_bytes entries) bytes 0 8 end head.0 all.0 in
    let whole : bytes ≡ head_bytes class count ++ flat_map entry_bytes entries = all_stands _ bytes end stands (ltb-false end (length bytes) g.0) in
    let made : Page = (class, entries) in
    subst (λ (y : Page). HasSpelling y.0 y.1 × (bytes ≡ head_bytes y.0 (length y.1) ++ flat_map entry_bytes y.1)) {x = made} (ok_is made p g.1) (
      record { some = omega (arith, all.1, head.1); few = omega (arith, all.1, head.2); each = all.2; ascending = ascending_if None entries all.3 },
      whole ∙ ap (λ (n : ℕ). head_bytes class n ++ flat_map entry_bytes entries) (sym all.1),
    )

made_again : (bytes : List ℕ) (end : ℕ) (class : Class) (entries : List Entry) → HasSpelling class entries → StandsAt (head_bytes class (length entries) ++ flat_map entry_bytes entries) bytes 0 end → length bytes ≤ end → page_at bytes ≡ Ok (class, entries)
unfolding page_at head_bytes
made_again bytes end class entries fits p all =
    let parts = stands_parts (head_bytes class (length entries)) (flat_map entry_bytes entries) bytes 0 end p in
    let head = head_again bytes _ class (length entries) fits.some fits.few parts.0 in
    let read = entries_back class entries None bytes 8 end fits.each (above_if entries fits.ascending) parts.1 in
    let none : ltb end (length bytes) ≡ false = le-ltb end (length bytes) all in
    rw (head, read, none) refl

pub page_again : (class : Class) (entries : List Entry) → HasSpelling class entries → page_at (page_bytes class entries) ≡ Ok (class, entries)
unfolding page_bytes
page_again class entries fits = made_again _ _ class entries fits (stands_alone (head_bytes class (length entries) ++ flat_map entry_bytes entries)) (omega arith)

abbrev ok_of : Page → Result Page PageRefused
ok_of p = Ok p

abbrev failed : PageRefused → Result Page PageRefused
failed why = Err why

differ : (why : PageRefused) (p : Page) → failed why ≡ ok_of p → ⊥
differ why p e = cc

same_read : (a b : Class) (xs ys : List Entry) → ok_of (a, xs) ≡ ok_of (b, ys) → (a ≡ b) × (xs ≡ ys)
same_read a b xs ys e = let both = ok_is (a, xs) (b, ys) e in (ap (λ (p : Page). p.0) both, ap (λ (p : Page). p.1) both)

pub same_page : (a b : Class) (xs ys : List Entry) → HasSpelling a xs → HasSpelling b ys → page_bytes a xs ≡ page_bytes b ys → (a ≡ b) × (xs ≡ ys)
same_page a b xs ys a_fits b_fits e = same_read a b xs ys (sym (page_again a xs a_fits) ∙ ap page_at e ∙ page_again b ys b_fits)

-- ---- what a reader gives

pub found_page : (result : Result (Class × Vec Entry Global) PageRefused) (bytes : List ℕ) → IsBytes bytes → GivesPage result (page_at bytes) → IfOk result (λ page. HasSpelling page.0 page.1.items × (bytes ≡ page_bytes page.0 page.1.items))
found_page (Ok page) bytes fits gives = page_ok bytes (page.0, page.1.items) fits gives
found_page (Err why) bytes fits gives = tt

pub only_page : (result : Result (Class × Vec Entry Global) PageRefused) (bytes : List ℕ) → GivesPage result (page_at bytes) → (class : Class) (entries : List Entry) → HasSpelling class entries → bytes ≡ page_bytes class entries
    → MatchResult result (λ page. (page.0 ≡ class) × (page.1.items ≡ entries)) (λ why. why ≡ NoMemory)
only_page result bytes gives class entries fits e = told result gives
  where
    read : page_at bytes ≡ Ok (class, entries)
    read = ap page_at e ∙ page_again class entries fits

    told : (result : Result (Class × Vec Entry Global) PageRefused) → GivesPage result (page_at bytes) → MatchResult result (λ page. (page.0 ≡ class) × (page.1.items ≡ entries)) (λ why. why ≡ NoMemory)
    told (Ok page) gives = same_read page.0 class page.1.items entries (sym gives ∙ read)
    told (Err (Short at)) gives = absurd (differ (Short at) (class, entries) (sym gives ∙ read))
    told (Err (Kind at)) gives = absurd (differ (Kind at) (class, entries) (sym gives ∙ read))
    told (Err (Order at)) gives = absurd (differ (Order at) (class, entries) (sym gives ∙ read))
    told (Err (Trailing at)) gives = absurd (differ (Trailing at) (class, entries) (sym gives ∙ read))
    told (Err NoMemory) gives = refl
