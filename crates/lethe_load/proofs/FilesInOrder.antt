-- Files, looked at one after the other.
use Rattle.std.proofs.Common.{◌≡◌, ◌≢◌, ◌⊎◌, ◌↔◌, inl, inr, ℕ, Bool, true, false, List, [], ◌∷◌, ◌++◌, length, map, All, Some, refl, ap, subst, ◌∙◌, arith}
use Rattle.std.specs.Prelude.{Any, Contains}
use Rattle.std.specs.BTreeSet.{BTreeSet, contains}
use Rattle.std.specs.Ordering.{nat_cmp}
use Rattle.lethe_base.specs.declared.name.Name.{Name}
use Rattle.lethe_disk.specs.Directory.{Directory, object}
use Rattle.lethe_disk.specs.declared.disk.Disk.{Ghosts}
use Rattle.lethe_file.specs.Agreement.{page_name}
use Rattle.lethe_file.specs.declared.view.FileView.{FileView}
use Rattle.lethe_version.specs.Versions.{bytes_of}
use Rattle.lethe_disk.proofs.Objects.{one_object}
use Rattle.lethe_header.specs.Facts.{lines_of}
use Rattle.lethe_header.specs.Headers.{EachFollows, header_bytes}
use Rattle.lethe_header.specs.declared.header.Header.{Header}
use Rattle.lethe_header.specs.declared.header.PageLine.{PageLine}
use Rattle.lethe_header.specs.declared.header.TileLine.{TileLine}
use Rattle.lethe_header.proofs.HeaderLaws.{same_header}
use Rattle.lethe_manifest.specs.declared.manifest.Cited.{Cited}
use Rattle.lethe_stored.specs.Files.{file_name}
use Rattle.lethe_stored.proofs.Lists.{in_map, from_map, in_flat, from_flat, all_from}
use Rattle.lethe_load.specs.Damaged.{IsHeaderOf, IsSoundPage, IsTakenBy, IsSoundFile, HasBadHeader, HasBadPage, placed_lines}
use Rattle.lethe_load.specs.Progress.{ArePages, AreFiles, IsBadPage, IsBadHeader}
use Rattle.lethe_load.specs.declared.numbers.PageNumbers.{PageNumbers}
use Rattle.lethe_header.proofs.Follows.{follows_none}
use Rattle.lethe_load.proofs.Sets.{has}
use Rattle.lethe_load.proofs.PagesInOrder.{Item, any_of, any_is, any_left, any_last, any_push_cases}

-- what is cited has one header
pub one_header : (d : Directory) (cited : Cited) (a b : Header) → IsHeaderOf d cited a → IsHeaderOf d cited b → a ≡ b
one_header d cited a b x y = same_header a b x.spelled y.spelled (one_object (object d (file_name cited.no)) (header_bytes a) (header_bytes b) x.there y.there)

abbrev own : TileLine → List Item
own tile = map (λ line. (tile, line)) tile.pages

abbrev number_of : PageLine → ℕ
number_of line = line.no

-- a line of a header, with its tile or without
pub line_of : (header : Header) (number : ℕ) → Any (λ item. item.1.no ≡ number) (placed_lines header) → Contains (map (λ line. line.no) (lines_of header.tiles)) number
line_of header number any =
    let found = from_flat own header.tiles any.1 (any_is (λ (item : Item). item.1.no ≡ number) (placed_lines header) any) in
    let line = from_map (λ (l : PageLine). (found.0, l)) found.0.pages any.1 found.2 in
    let there : Contains (lines_of header.tiles) line.0 = in_flat (λ (t : TileLine). t.pages) header.tiles found.0 line.0 found.1 line.1 in
    subst (Contains (map number_of (lines_of header.tiles))) (ap (λ (item : Item). item.1.no) line.2 ∙ any.4) (in_map number_of (lines_of header.tiles) line.0 there)

pub item_of : (header : Header) (number : ℕ) → Contains (map (λ line. line.no) (lines_of header.tiles)) number → Any (λ item. item.1.no ≡ number) (placed_lines header)
item_of header number there =
    let line = from_map number_of (lines_of header.tiles) number there in
    let tile = from_flat (λ (t : TileLine). t.pages) header.tiles line.0 line.1 in
    any_of (λ (item : Item). item.1.no ≡ number) (placed_lines header) (tile.0, line.0) (in_flat own header.tiles tile.0 (tile.0, line.0) tile.1 (in_map (λ (l : PageLine). (tile.0, l)) tile.0.pages line.0 tile.2)) line.2

-- Looked at

module _ (d : Directory) (before : List Cited) (numbers : PageNumbers) (known : BTreeSet ℕ) (are : AreFiles d before numbers known) (cited : Cited) where
  -- before its first page
  pub pages_start : ArePages d before [] numbers
  pages_start = record {
    good = follows_none (IsSoundPage d numbers.next (IsTakenBy d before));
    taken = λ number. (λ held. inl ((are.pages number).0 held), λ either. elim either [ inl by ↦ (are.pages number).1 by | inr any ↦ absurd (no_item number any) ]);
  }
    where
      no_item : (number : ℕ) → Any (λ (item : Item). item.1.no ≡ number) [] → ⊥
      no_item number any = absurd (omega (arith, any.2))

  pub first_cited : (Contains known.keys cited.no → ⊥) → All (λ other. other.no ≢ cited.no) before
  first_cited new = all_from (λ (other : Cited). other.no ≢ cited.no) before (λ other here same. new ((are.files cited.no).1 (any_of (λ (c : Cited). c.no ≡ cited.no) before other here same)))

  module _ (header : Header) (is : IsHeaderOf d cited header) (new : PageNumbers) (same : new.next ≡ numbers.next) (pages : ArePages d before (placed_lines header) new) where
    pub file_sound : (Contains known.keys cited.no → ⊥) → IsSoundFile d numbers.next before cited
    file_sound fresh = record {
      once = first_cited fresh;
      header = header;
      is = is;
      pages = subst (λ n. EachFollows (IsSoundPage d n (IsTakenBy d before)) (placed_lines header)) same pages.good;
    }

    pub files_more : (more : BTreeSet ℕ) → ((number : ℕ) → Contains more.keys number ↔ (Contains known.keys number ⊎ (cited.no ≡ number))) → AreFiles d (before ++ cited ∷ []) new more
    files_more more grown = record { pages = λ number. (to number, from number); files = λ number. (in_files number, of_files number) }
      where
        to : (number : ℕ) → Contains new.taken.keys number → IsTakenBy d (before ++ cited ∷ []) number
        to number held = elim ((pages.taken number).0 held) [
          | inl by ↦ any_left (λ (other : Cited). (h : Header) × IsHeaderOf d other h × Contains (map (λ (l : PageLine). l.no) (lines_of h.tiles)) number) before (cited ∷ []) by
          | inr any ↦ any_last (λ (other : Cited). (h : Header) × IsHeaderOf d other h × Contains (map (λ (l : PageLine). l.no) (lines_of h.tiles)) number) before cited (header, is, line_of header number any)
        ]

        from : (number : ℕ) → IsTakenBy d (before ++ cited ∷ []) number → Contains new.taken.keys number
        from number by = elim (any_push_cases (λ (other : Cited). (h : Header) × IsHeaderOf d other h × Contains (map (λ (l : PageLine). l.no) (lines_of h.tiles)) number) before cited by) [
          | inl old ↦ (pages.taken number).1 (inl old)
          | inr here ↦
              let one : here.0 ≡ header = one_header d cited here.0 header here.1 is in
              (pages.taken number).1 (inr (item_of header number (subst (λ (h : Header). Contains (map (λ (l : PageLine). l.no) (lines_of h.tiles)) number) one here.2)))
        ]

        in_files : (number : ℕ) → Contains more.keys number → Any (λ (other : Cited). other.no ≡ number) (before ++ cited ∷ [])
        in_files number held = elim ((grown number).0 held) [
          | inl old ↦ any_left (λ (other : Cited). other.no ≡ number) before (cited ∷ []) ((are.files number).0 old)
          | inr here ↦ any_last (λ (other : Cited). other.no ≡ number) before cited here
        ]

        of_files : (number : ℕ) → Any (λ (other : Cited). other.no ≡ number) (before ++ cited ∷ []) → Contains more.keys number
        of_files number any = elim (any_push_cases (λ (other : Cited). other.no ≡ number) before cited any) [
          | inl old ↦ (grown number).1 (inl ((are.files number).1 old))
          | inr here ↦ (grown number).1 (inr here)
        ]

  -- Refused

  pub bad_header : (name : Name) → IsBadHeader d known cited name → ((Contains known.keys cited.no) ⊎ (Contains known.keys cited.no → ⊥)) → HasBadHeader d before cited name
  bad_header name bad (inl there) = record { named = bad.0; bad = inl ((are.files cited.no).0 there) }
  bad_header name bad (inr fresh) = record { named = bad.0; bad = inr (λ header is. bad.1 header fresh is) }

  pub bad_page : (name : Name) (header : Header) → IsHeaderOf d cited header → (Contains known.keys cited.no → ⊥) → IsBadPage d numbers.next before (placed_lines header) name → HasBadPage d numbers.next before cited name
  bad_page name header is fresh bad = record { once = first_cited fresh; header = header; is = is; sound = bad.0; item = bad.1; first = bad.2; named = bad.3 }

none_in : (keys : List ℕ) (number : ℕ) → keys ≡ [] → Contains keys number → ⊥
none_in keys number none there = let lt = there.1 in absurd (omega (arith, lt, ap length none))

pub files_start : (d : Directory) (numbers : PageNumbers) (known : BTreeSet ℕ) → numbers.taken.keys ≡ [] → known.keys ≡ [] → AreFiles d [] numbers known
files_start d numbers known none fresh = record {
  pages = λ number. (λ held. absurd (none_in numbers.taken.keys number none held), λ by. absurd (omega (arith, by.2)));
  files = λ number. (λ held. absurd (none_in known.keys number fresh held), λ any. absurd (omega (arith, any.2)));
}

-- a number is known, or it isn't
pub known_or_not : (known : BTreeSet ℕ) (number : ℕ) → Contains known.keys number ⊎ (Contains known.keys number → ⊥)
known_or_not known number = by (contains nat_cmp known number) refl
  where
    by : (b : Bool) → contains nat_cmp known number ≡ b → Contains known.keys number ⊎ (Contains known.keys number → ⊥)
    by true is = inl ((has known number).0 is)
    by false is = inr (λ there. let yes = (has known number).1 there in cc)

-- What is read of a file

abbrev pub Own : {D Page Port : Type 0} {disk : Ghosts D Page Port} → Cited → FileView D Page Port disk → Type 0
Own cited file = file.header.no ≡ cited.no

abbrev pub Headed : {D Page Port : Type 0} {disk : Ghosts D Page Port} → Directory → Cited → FileView D Page Port disk → Type 0
Headed d cited file = IsHeaderOf d cited file.header

abbrev pub Paged : {D Page Port : Type 0} {disk : Ghosts D Page Port} → Directory → Cited → FileView D Page Port disk → Type 0
Paged d cited file = map Some (bytes_of file) ≡ map (λ line. object d (page_name line.no)) (lines_of file.header.tiles)
