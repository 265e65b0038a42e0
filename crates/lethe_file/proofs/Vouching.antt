-- Entries that a page vouches for which a cursor has still to fetch.
use Rattle.std.proofs.Common.{◌≡◌, ℕ, zero, ◌<◌, Bool, true, false, cond, List, [], ◌∷◌, ◌++◌, length, get_or, take, drop, map, Option, Some, None, inl, inr, refl, sym, ap, subst, ◌∙◌, arith}
use Rattle.std.specs.Prelude.{Any, Contains, IfSome, option_to_list}
use Rattle.std.proofs.lemmas.List.{get_or-map, length-map}
use Rattle.std.proofs.lemmas.List.Elements.{Contains-append_left, Contains-append_right}
use Rattle.lethe_base.specs.Keys.{Bytes}
use Rattle.lethe_base.specs.declared.entry.Entry.{Entry}
use Rattle.lethe_header.specs.Facts.{lines_of}
use Rattle.lethe_header.specs.declared.header.PageLine.{PageLine}
use Rattle.lethe_header.specs.declared.header.TileLine.{TileLine}
use Rattle.lethe_file.specs.Agreement.{check_of}
use Rattle.lethe_file.specs.Between.{meets}
use Rattle.lethe_file.specs.Damage.{IsVouched, IsVouchedIn, StandsIn}
use Rattle.lethe_file.specs.Waiting.{Waiting, tiles_between, waits_for, waits_in}
use Rattle.lethe_file.specs.declared.holding.HeldPage.{HeldPage}
use Rattle.lethe_file.proofs.Damaged.{any_cases}

-- the page at a place vouches for it
pub held_vouches : {P : Type 0} (bytes_of : P → List ℕ) (pages : List (HeldPage P)) (place : ℕ) (held : HeldPage P) (entry : Entry) → place < length pages → held ≡ get_or pages place held
    → StandsIn held.check entry → Any (IsVouchedIn entry) (waits_in bytes_of pages)
held_vouches {P} bytes_of pages place held entry inside held_is stands =
    let wait : HeldPage P → Waiting = λ h. record { check = h.check; bytes = bytes_of h.page.value } in
    let lt : place < length (waits_in bytes_of pages) = omega (arith, length-map pages wait, inside) in
    let at : get_or (waits_in bytes_of pages) place (wait held) ≡ wait held = get_or-map wait pages place held (wait held) inside ∙ ap wait (sym held_is) in
    (place, wait held, lt, at, stands)

-- more lines vouch for no less
more_lines : (xs ys : List PageLine) (entry : Entry) → ((line : PageLine) → Contains xs line → Contains ys line) → IsVouched xs entry → IsVouched ys entry
more_lines xs ys entry more is = record { line = is.line; there = more is.line is.there; entries = is.entries; page = is.page; among = is.among }

waits_vouch : (entry : Entry) (lines : List PageLine) (pages : List (List ℕ)) → Any (IsVouchedIn entry) (waits_for lines pages) → IsVouched lines entry
waits_vouch entry [] pages (k, w, lt, at, stands) = absurd (omega (arith, lt))
waits_vouch entry (line ∷ lines) [] (k, w, lt, at, stands) = absurd (omega (arith, lt))
waits_vouch entry (line ∷ lines) (page ∷ pages) some = elim (any_cases (IsVouchedIn entry) (record { check = check_of line; bytes = page }) (waits_for lines pages) some) [
  | inl here ↦ record { line = line; there = (zero, omega arith, refl); entries = here.entries; page = here.page; among = here.among }
  | inr later ↦ more_lines lines (line ∷ lines) entry (λ l has. Contains-append_right (line ∷ []) lines l has) (waits_vouch entry lines pages later)
]

-- what a cursor may give is vouched for by one of the file's lines
pub between_vouch : (entry : Entry) (lo : Bytes) (hi : Option Bytes) (tiles : List TileLine) (pages : List (List ℕ)) → Any (Any (IsVouchedIn entry)) (tiles_between lo hi tiles pages) → IsVouched (lines_of tiles) entry
between_vouch entry lo hi [] pages (k, w, lt, at, stands) = absurd (omega (arith, lt))
between_vouch entry lo hi (tile ∷ tiles) pages some =
    by (meets lo hi tile) some (λ later. between_vouch entry lo hi tiles (drop (length tile.pages) pages) later)
  where
    own : List Waiting
    own = waits_for tile.pages (take (length tile.pages) pages)

    others : List (List Waiting)
    others = tiles_between lo hi tiles (drop (length tile.pages) pages)

    behind : IsVouched (lines_of tiles) entry → IsVouched (tile.pages ++ lines_of tiles) entry
    behind is = more_lines (lines_of tiles) (tile.pages ++ lines_of tiles) entry (λ l has. Contains-append_right tile.pages (lines_of tiles) l has) is

    by : (b : Bool) → Any (Any (IsVouchedIn entry)) (cond b (own ∷ others) others) → (Any (Any (IsVouchedIn entry)) others → IsVouched (lines_of tiles) entry) → IsVouched (tile.pages ++ lines_of tiles) entry
    by true some rest = elim (any_cases (Any (IsVouchedIn entry)) own others some) [
      | inl here ↦ more_lines tile.pages (tile.pages ++ lines_of tiles) entry (λ l has. Contains-append_left tile.pages (lines_of tiles) l has) (waits_vouch entry tile.pages (take (length tile.pages) pages) here)
      | inr later ↦ behind (rest later)
    ]
    by false some rest = behind (rest some)

-- the last of some entries
module _ (old new : List Entry) (last : Option Entry) (is : old ≡ new ++ option_to_list last) where
  pub last_given : (Gives : Entry → Type 0) → ((entry : Entry) → Contains old entry → Gives entry) → IfSome last Gives
  last_given Gives all = by last is
    where
      by : (last : Option Entry) → old ≡ new ++ option_to_list last → IfSome last Gives
      by None is = tt
      by (Some entry) is = all entry (subst (λ l. Contains l entry) (sym is) (Contains-append_right new (entry ∷ []) entry (zero, omega arith, refl)))

  pub others_given : (entry : Entry) → Contains new entry → Contains old entry
  others_given entry has = subst (λ l. Contains l entry) (sym is) (Contains-append_left new (option_to_list last) entry has)
