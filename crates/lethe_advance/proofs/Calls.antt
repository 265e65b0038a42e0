-- The device calls of a step.
use Rattle.std.proofs.Common.{◌≡◌, ◌≤◌, ◌<◌, ◌+◌, ℕ, List, [], ◌∷◌, ◌++◌, length, map, get_or, take, All, ap, arith, length-append}
use Rattle.std.specs.List.{zip}
use Rattle.std.proofs.lemmas.List.{length-map}
use Rattle.std.proofs.lemmas.List.Elements.{All-head, All-tail}
use Rattle.std.proofs.lemmas.List.Sums.{sum_by-cons, sum_by_more_le, sum_by_push}
use Rattle.std.proofs.lemmas.Slice.Zip.{length-zip}
use Rattle.lethe_base.specs.declared.name.Name.{Name}
use Rattle.lethe_version.specs.Agreement.{page_name}
use Rattle.lethe_header.specs.Facts.{lines_of}
use Rattle.lethe_stored.specs.Files.{IsFile, StoredFile, lines_in, objects_in, objects_of}
use Rattle.lethe_stored.proofs.FileFacts.{as_many}
use Rattle.lethe_advance.specs.Steps.{new_header}
use Rattle.lethe_advance.specs.declared.new_header.NewHeader.{NewHeader}
use Rattle.lethe_advance.specs.Calls.{opened_by}

-- one file more
pub opened_more : (headers : List NewHeader) (new : NewHeader) (old mid now : ℕ) → mid ≤ old + opened_by headers → now ≤ mid + length (lines_of new.header.tiles) → now ≤ old + opened_by (headers ++ new ∷ [])
opened_more headers new old mid now so_far next = omega (arith, so_far, next, sum_by_push (λ (one : NewHeader). length (lines_of one.header.tiles)) headers new)

-- which is one of all
pub opened_among : (all headers : List NewHeader) (new : NewHeader) (old mid now : ℕ) → headers ≡ take (length headers) all → length headers < length all → new ≡ get_or all (length headers) new
    → mid ≤ old + opened_by headers → now ≤ mid + length (lines_of new.header.tiles) → now ≤ old + opened_by all
opened_among all headers new old mid now first lt is so_far next =
    let within = sum_by_more_le (λ (one : NewHeader). length (lines_of one.header.tiles)) all (length headers) new lt in
    omega (arith, so_far, next, within, ap opened_by first, ap (λ (one : NewHeader). length (lines_of one.header.tiles)) is)

-- each page is one of a file's objects
pub opened_objects : (next : ℕ) (files : List StoredFile) → All (IsFile next) files → opened_by (map new_header files) ≤ length (objects_of files)
opened_objects next [] each = omega arith
opened_objects next (file ∷ files) each =
    let rest = opened_objects next files (All-tail (IsFile next) file files each) in
    let one = objects_some file (All-head (IsFile next) file files each) in
    omega (arith, rest, one, sum_by-cons (λ (new : NewHeader). length (lines_of new.header.tiles)) (new_header file) (map new_header files), length-append (objects_in file) (objects_of files))
  where
    objects_some : (file : StoredFile) → IsFile next file → length (lines_in file) ≤ length (objects_in file)
    objects_some file is =
        let named = length-map {B = Name × List ℕ} (zip (lines_in file) file.pages) (λ page. (page_name page.0.no, page.1)) in
        omega (arith, named, length-zip (lines_in file) file.pages, as_many (lines_in file) file.pages is.agrees.pages)
