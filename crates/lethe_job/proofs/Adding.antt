-- The entries of files, read page by page and file by file.
use Rattle.std.proofs.Common.{◌≡◌, ℕ, ◌+◌, ◌<◌, ◌≤◌, List, [], ◌∷◌, ◌++◌, length, get_or, take, map, All, sym, ap, subst, ◌∙◌, arith, append_assoc, length-append}
use Rattle.std.specs.Prelude.{Any, Some, flat_map, slice_get, sum_by, zip}
use Rattle.std.proofs.lemmas.List.{append-nil, get_or-append-add, get_or-map, length-map, take_more, take_all}
use Rattle.std.proofs.Math.ListN.{get_or-append}
use Rattle.std.proofs.lemmas.List.Concat.{flat_map-append}
use Rattle.std.proofs.lemmas.List.Elements.{All-append}
use Rattle.std.proofs.lemmas.List.Sums.{sum_by_push, sum_by-take-le}
use Rattle.std.proofs.lemmas.Option.{get_or_from_slice_get, slice_get-get_or}
use Rattle.std.proofs.lemmas.Slice.Zip.{get_or-zip, length-zip}
use Rattle.lethe_base.specs.Layout as layout
use Rattle.lethe_base.specs.Spelling.{HasSpelling}
use Rattle.lethe_base.specs.declared.entry.Entry.{Entry}
use Rattle.lethe_header.specs.Headers as headers
use Rattle.lethe_header.specs.declared.header.PageLine.{PageLine}
use Rattle.lethe_file.specs.Agreement.{IsPage}
use Rattle.lethe_file.specs.Agreement as pages
use Rattle.lethe_follows.specs.Merged.{entries_in}
use Rattle.lethe_stored.specs.Files.{StoredFile, file_of, lines_in}
use Rattle.lethe_stored.proofs.FileFacts.{entries_are}
use Rattle.lethe_disk.specs.declared.disk.Disk.{Ghosts}
use Rattle.lethe_job.specs.Tasks.{counted_in, pages_in, plain_file}
use Rattle.lethe_job.specs.declared.filed.Filed.{Filed}

-- so many pages of a file were read
pub record AreRead (Tells : Type 0) (lines : List PageLine) (bytes : List (List ℕ)) (before all : List Entry) (place f0 f1 p0 p1 : ℕ) : Type 0 where
  pub risen : p0 ≤ p1
  pub counted : f1 ≡ f0 + place
  pub given : Tells → all ≡ before ++ flat_map pages.entries_in (take place bytes)
  pub spelled : All HasSpelling before → All HasSpelling all
  pub many : length all ≡ length before + headers.entries_in (take place lines)

pub none_read : (Tells : Type 0) (lines : List PageLine) (bytes : List (List ℕ)) (before : List Entry) (f p : ℕ) → AreRead Tells lines bytes before before 0 f f p p
none_read Tells lines bytes before f p = record {
  risen = omega arith;
  counted = omega arith;
  given = λ told. sym (append-nil before);
  spelled = λ spelled. spelled;
  many = omega arith;
}

-- a page's entries have spellings
page_spelled : (lines : List PageLine) (place : ℕ) (entries : List Entry) → place < length lines → ((line : PageLine) → slice_get lines place ≡ Some line → IsPage line entries) → All HasSpelling entries
page_spelled [] place entries inside page = absurd (omega arith)
page_spelled (line ∷ lines) place entries inside page =
    let is = page (get_or (line ∷ lines) place line) (slice_get-get_or (line ∷ lines) place line inside) in
    λ k d lt. (is.spelled.each k d lt).spelled

-- a page has as many entries as its line counts
page_many : (lines : List PageLine) (place : ℕ) (entries : List Entry) → place < length lines → ((line : PageLine) → slice_get lines place ≡ Some line → IsPage line entries)
    → headers.entries_in (take (place + 1) lines) ≡ headers.entries_in (take place lines) + length entries
page_many [] place entries inside page = absurd (omega arith)
page_many (first ∷ rest) place entries inside page =
    let lines : List PageLine = first ∷ rest in
    let line : PageLine = get_or lines place first in
    let is = page line (slice_get-get_or lines place first inside) in
    ap headers.entries_in (take_more lines place first inside) ∙ sum_by_push (λ (line : PageLine). line.entries) (take place lines) line ∙ ap (λ (count : ℕ). headers.entries_in (take place lines) + count) (sym is.len)

pub page_read : (Tells : Type 0) (lines : List PageLine) (bytes : List (List ℕ)) (before all new entries : List Entry) (place f0 f1 f2 p0 p1 p2 : ℕ) → AreRead Tells lines bytes before all place f0 f1 p0 p1
    → place < length lines → length bytes ≡ length lines → ((line : PageLine) → slice_get lines place ≡ Some line → IsPage line entries)
    → (Tells → slice_get (map pages.entries_in bytes) place ≡ Some entries) → f2 ≡ f1 + 1 → p1 ≤ p2 → new ≡ all ++ entries → AreRead Tells lines bytes before new (place + 1) f0 f2 p0 p2
page_read Tells lines bytes before all new entries place f0 f1 f2 p0 p1 p2 read inside paged page told fetched risen added = record {
  risen = omega (arith, read.risen, risen);
  counted = omega (arith, read.counted, fetched);
  given = λ tells.
      let lt : place < length bytes = omega (arith, inside, paged) in
      let one : pages.entries_in (get_or bytes place []) ≡ entries = sym (get_or-map pages.entries_in bytes place [] [] lt) ∙ get_or_from_slice_get (map pages.entries_in bytes) place entries [] (told tells) in
      let more : flat_map pages.entries_in (take (place + 1) bytes) ≡ flat_map pages.entries_in (take place bytes) ++ entries =
      ap (flat_map pages.entries_in) (take_more bytes place [] lt) ∙ flat_map-append pages.entries_in (take place bytes) (get_or bytes place [] ∷ [])
      ∙ ap (λ (es : List Entry). flat_map pages.entries_in (take place bytes) ++ es) (append-nil (pages.entries_in (get_or bytes place [])) ∙ one) in
      added ∙ ap (λ (es : List Entry). es ++ entries) (read.given tells) ∙ append_assoc before (flat_map pages.entries_in (take place bytes)) entries ∙ ap (λ (es : List Entry). before ++ es) (sym more);
  spelled = λ spelled. subst (All HasSpelling) (sym added) (All-append HasSpelling all entries (read.spelled spelled) (page_spelled lines place entries inside page));
  many = omega (arith, read.many, page_many lines place entries inside page, ap length added, length-append all entries);
}

-- all pages of the file were read
pub file_read : (Tells : Type 0) (file : StoredFile) (before all : List Entry) (place f0 f1 p0 p1 : ℕ) → AreRead Tells (lines_in file) file.pages before all place f0 f1 p0 p1 → length file.pages ≡ length (lines_in file) → length file.pages ≤ place
    → Tells → all ≡ before ++ layout.entries_of (file_of file)
file_read Tells file before all place f0 f1 p0 p1 read paged past told =
    read.given told ∙ ap (λ (bytes : List (List ℕ)). before ++ flat_map pages.entries_in bytes) (take_all place file.pages past)
    ∙ ap (λ (es : List Entry). before ++ es) (sym (entries_are file.header.tiles file.pages paged))

pub file_many : (Tells : Type 0) (file : StoredFile) (before all : List Entry) (place f0 f1 p0 p1 : ℕ) → AreRead Tells (lines_in file) file.pages before all place f0 f1 p0 p1 → length (lines_in file) ≤ place
    → length all ≡ length before + headers.entries_in (lines_in file)
file_many Tells file before all place f0 f1 p0 p1 read past =
    read.many ∙ ap (λ (lines : List PageLine). length before + headers.entries_in lines) (take_all place (lines_in file) past)

-- the refused page is one of the file's
pub page_damaged : (file : StoredFile) (place : ℕ) (P : PageLine × List ℕ → Type 0) → place < length (lines_in file) → length file.pages ≡ length (lines_in file)
    → ((line : PageLine) (bytes : List ℕ) → slice_get (lines_in file) place ≡ Some line → slice_get file.pages place ≡ Some bytes → P (line, bytes)) → Any P (zip (lines_in file) file.pages)
page_damaged file place P inside paged damaged = by (lines_in file) file.pages inside paged damaged
  where
    by : (lines : List PageLine) (pages : List (List ℕ)) → place < length lines → length pages ≡ length lines
        → ((line : PageLine) (bytes : List ℕ) → slice_get lines place ≡ Some line → slice_get pages place ≡ Some bytes → P (line, bytes)) → Any P (zip lines pages)
    by [] pages inside paged damaged = absurd (omega arith)
    by (first ∷ rest) pages inside paged damaged =
        let lines : List PageLine = first ∷ rest in
        let line : PageLine = get_or lines place first in
        let bytes : List ℕ = get_or pages place [] in
        let lt : place < length pages = omega (arith, inside, paged) in
        let at : slice_get lines place ≡ Some line = slice_get-get_or lines place first inside in
        let there : slice_get pages place ≡ Some bytes = slice_get-get_or pages place [] lt in
        let both : place < length (zip lines pages) = omega (arith, inside, lt, length-zip lines pages) in
        let is : get_or (zip lines pages) place (line, bytes) ≡ (line, bytes) =
        get_or-zip lines pages place (line, bytes) inside lt ∙ ap (λ (l : PageLine). let pair : PageLine × List ℕ = (l, get_or pages place bytes) in pair) (get_or_from_slice_get lines place line line at)
        ∙ ap (λ (b : List ℕ). let pair : PageLine × List ℕ = (line, b) in pair) (get_or_from_slice_get pages place bytes bytes there) in
        (place, (line, bytes), both, is, damaged line bytes at there)

-- so many files were read
pub record AreAdded (Tells : Type 0) (files : List StoredFile) (before all : List Entry) (place f0 f1 p0 p1 : ℕ) : Type 0 where
  pub risen : p0 ≤ p1
  pub counted : f1 ≡ f0 + pages_in (take place files)
  pub given : Tells → all ≡ before ++ entries_in (take place files)
  pub spelled : All HasSpelling before → All HasSpelling all
  pub many : length all ≡ length before + counted_in (take place files)

pub none_added : (Tells : Type 0) (files : List StoredFile) (before : List Entry) (f p : ℕ) → AreAdded Tells files before before 0 f f p p
none_added Tells files before f p = record {
  risen = omega arith;
  counted = omega arith;
  given = λ told. sym (append-nil before);
  spelled = λ spelled. spelled;
  many = omega arith;
}

sum_more : (f : StoredFile → ℕ) (files : List StoredFile) (place : ℕ) (file : StoredFile) → place < length files → file ≡ get_or files place file → sum_by f (take (place + 1) files) ≡ sum_by f (take place files) + f file
sum_more f files place file inside is =
    ap (sum_by f) (take_more files place file inside) ∙ sum_by_push f (take place files) (get_or files place file) ∙ ap (λ (one : StoredFile). sum_by f (take place files) + f one) (sym is)

pages_more : (files : List StoredFile) (place : ℕ) (file : StoredFile) → place < length files → file ≡ get_or files place file → pages_in (take (place + 1) files) ≡ pages_in (take place files) + length (lines_in file)
pages_more files place file inside is = sum_more (λ (file : StoredFile). length (lines_in file)) files place file inside is

pub file_added : (Tells : Type 0) (files : List StoredFile) (before all new : List Entry) (file : StoredFile) (place f0 f1 f2 p0 p1 p2 : ℕ) → AreAdded Tells files before all place f0 f1 p0 p1
    → place < length files → file ≡ get_or files place file → (Tells → new ≡ all ++ layout.entries_of (file_of file)) → f2 ≡ f1 + length (lines_in file) → p1 ≤ p2
    → (All HasSpelling all → All HasSpelling new) → length new ≡ length all + headers.entries_in (lines_in file) → AreAdded Tells files before new (place + 1) f0 f2 p0 p2
file_added Tells files before all new file place f0 f1 f2 p0 p1 p2 done inside is told fetched risen spelled many = record {
  risen = omega (arith, done.risen, risen);
  counted = omega (arith, done.counted, fetched, pages_more files place file inside is);
  given = λ tells.
      let entries : StoredFile → List Entry = λ f. layout.entries_of (file_of f) in
      let parts : take (place + 1) files ≡ take place files ++ file ∷ [] = take_more files place file inside ∙ ap (λ (f : StoredFile). take place files ++ f ∷ []) (sym is) in
      let more : entries_in (take (place + 1) files) ≡ entries_in (take place files) ++ entries file =
      ap entries_in parts ∙ flat_map-append entries (take place files) (file ∷ []) ∙ ap (λ (es : List Entry). entries_in (take place files) ++ es) (append-nil (entries file)) in
      told tells ∙ ap (λ (es : List Entry). es ++ entries file) (done.given tells) ∙ append_assoc before (entries_in (take place files)) (entries file) ∙ ap (λ (es : List Entry). before ++ es) (sym more);
  spelled = λ was. spelled (done.spelled was);
  many = omega (arith, done.many, many, sum_more (λ (file : StoredFile). headers.entries_in (lines_in file)) files place file inside is);
}

-- the pages up to one file are no more than those of all
pub pages_upto : (files : List StoredFile) (place : ℕ) → pages_in (take place files) ≤ pages_in files
pages_upto files place = sum_by-take-le (λ (file : StoredFile). length (lines_in file)) files place

pub pages_with : (files : List StoredFile) (place : ℕ) (file : StoredFile) → place < length files → file ≡ get_or files place file → pages_in (take place files) + length (lines_in file) ≤ pages_in files
pages_with files place file inside is =
    omega (arith, pages_more files place file inside is, pages_upto files (place + 1))

-- a file at a place
pub at_place : {D Page Port : Type 0} {disk : Ghosts D Page Port} (files : List (Filed D Page Port disk)) (place : ℕ) (filed : Filed D Page Port disk) → place < length files → filed ≡ get_or files place filed
    → (place < length (map plain_file files)) × (plain_file filed ≡ get_or (map plain_file files) place (plain_file filed))
at_place {D} {Page} {Port} {disk} files place filed inside is =
    let plain : Filed D Page Port disk → StoredFile = plain_file in
    (omega (arith, inside, length-map files plain), ap plain is ∙ sym (get_or-map plain files place filed (plain filed) inside))

-- what is some file's among others
pub any_within : {A : Type 0} (P : A → Type 0) (before items behind : List A) → Any P items → Any P (before ++ (items ++ behind))
any_within P before items behind (k, x, lt, is, holds) =
    let inside : length before + k < length (before ++ (items ++ behind)) = omega (arith, lt, length-append before (items ++ behind), length-append items behind) in
    let at : get_or (before ++ (items ++ behind)) (length before + k) x ≡ x = get_or-append-add before (items ++ behind) k x ∙ get_or-append items behind x k lt ∙ is in
    (length before + k, x, inside, at, holds)
