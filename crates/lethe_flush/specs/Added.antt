-- A draft that is added to files that are made.
use Rattle.std.specs.Prelude.{◌≡◌, ℕ, ◌+◌, ◌-◌, List, [], ◌∷◌, ◌++◌, length, map, zip, take, drop}
use Rattle.std.specs.List.{range_with_len}
use Rattle.lethe_base.specs.declared.name.Name.{Name}
use Rattle.lethe_build.specs.Drafts.{header_of, with_numbers}
use Rattle.lethe_build.specs.declared.draft.Draft.{Draft}
use Rattle.lethe_file.specs.Agreement.{page_name}
use Rattle.lethe_header.specs.Headers as headers
use Rattle.lethe_header.specs.Headers.{header_bytes}
use Rattle.lethe_stored.specs.Files.{StoredFile, cited_of, file_name}
use Rattle.lethe_advance.specs.Steps.{new_header}
use Rattle.lethe_flush.specs.Made.{named_of}
use Rattle.lethe_flush.specs.declared.made.MadeFiles.{MadeFiles}

-- the numbers that its pages draw, from the next one on: those of the pages that weren't written before
abbrev pub drawn_by : ℕ → Draft → List Name → List ℕ
drawn_by next draft written = range_with_len next (length draft.pages - length written)

-- the numbers of its pages: those under which the first of them were written, and those that the others draw
abbrev pub numbers_by : ℕ → Draft → List Name → List ℕ
numbers_by next draft written = map (λ name. name.no) (take (length draft.pages) written) ++ drawn_by next draft written

-- the number of its header, behind those of its pages
abbrev pub header_by : ℕ → Draft → List Name → ℕ
header_by next draft written = next + (length draft.pages - length written)

abbrev pub file_by : ℕ → ℕ → ℕ → Draft → List Name → StoredFile
file_by level upto next draft written = record {
  level = level;
  swept = upto;
  header = header_of (header_by next draft written) (with_numbers (numbers_by next draft written) draft.tiles);
  pages = draft.pages;
}

-- pages under the numbers from the first on
abbrev pub numbered : ℕ → List (List ℕ) → List (Name × List ℕ)
numbered first pages = zip (map page_name (range_with_len first (length pages))) pages

-- the pages that weren't written before, under the numbers that they draw
abbrev pub pages_by : ℕ → Draft → List Name → List (Name × List ℕ)
pages_by next draft written = numbered next (drop (length written) draft.pages)

-- the file comes behind the others, and its header and these pages are written
pub record IsAdded (file : StoredFile) (pages : List (Name × List ℕ)) (old new : MadeFiles) : Type 0 where
  pub spelled : headers.HasSpelling file.header
  pub headers_are : new.headers.items ≡ old.headers.items ++ new_header file ∷ []
  pub cited : new.cited.items ≡ old.cited.items ++ cited_of file ∷ []
  pub objects : map named_of new.objects.items ≡ map named_of old.objects.items ++ (file_name file.header.no, header_bytes file.header) ∷ pages
  pub next : new.next ≡ file.header.no + 1
