-- The file that a sweep's draft makes of a stored one, once its new pages have numbers.
use Rattle.std.specs.Prelude.{ℕ, List, ◌∷◌, map, zip}
use Rattle.lethe_base.specs.declared.name.Name.{Name}
use Rattle.lethe_base.specs.declared.pending.Pending.{Pending}
use Rattle.lethe_build.specs.Drafts.{header_of}
use Rattle.lethe_file.specs.Agreement.{page_name}
use Rattle.lethe_header.specs.Headers.{header_bytes}
use Rattle.lethe_stored.specs.Files.{StoredFile, file_name}
use Rattle.lethe_swept.specs.Drafts.{tiles_with}
use Rattle.lethe_swept.specs.Left.{bytes_left}
use Rattle.lethe_swept.specs.declared.draft.SweptDraft.{SweptDraft}
use Rattle.lethe_swept.specs.declared.part.SweptFile.{SweptFile}

-- the file with what is left of it, swept up to the erase, where the new pages have these numbers and the header that one
abbrev pub remade : StoredFile → Pending → SweptFile → SweptDraft → List ℕ → ℕ → StoredFile
remade file erase swept draft numbers own = record {
  level = file.level;
  swept = erase.seq;
  header = header_of own (tiles_with numbers draft.tiles);
  pages = bytes_left file.pages swept;
}

-- the objects that are written for it: its header, and the new pages with these numbers
abbrev pub new_objects : SweptDraft → List ℕ → ℕ → List (Name × List ℕ)
new_objects draft numbers own =
    (file_name own, header_bytes (header_of own (tiles_with numbers draft.tiles))) ∷ zip (map page_name numbers) draft.pages
