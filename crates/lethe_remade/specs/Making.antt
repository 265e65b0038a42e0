-- How the file that a sweep makes is written and cited.
use Rattle.std.specs.Prelude.{◌≡◌, ℕ, ◌+◌, ◌-◌, List, [], ◌∷◌, ◌++◌, drop, length, map, zip, Option, Some, None}
use Rattle.std.specs.List.{range_with_len}
use Rattle.sha2.specs.Sha256.{sha256}
use Rattle.lethe_base.specs.declared.name.Name.{Name}
use Rattle.lethe_build.specs.Drafts.{header_of}
use Rattle.lethe_file.specs.Agreement.{page_name}
use Rattle.lethe_flush.specs.Made.{named_of}
use Rattle.lethe_flush.specs.declared.made.MadeFiles.{MadeFiles}
use Rattle.lethe_header.specs.Headers.{HasSpelling, header_bytes}
use Rattle.lethe_header.specs.declared.header.Header.{Header}
use Rattle.lethe_stored.specs.Files.{file_name}
use Rattle.lethe_swept.specs.Drafts.{tiles_with}
use Rattle.lethe_swept.specs.declared.draft.SweptDraft.{SweptDraft}

-- how many of its new pages weren't written before
abbrev pub count_unwritten : List Name → SweptDraft → ℕ
count_unwritten written draft = length draft.pages - length written

-- the numbers of its new pages: those of the names under which the first were written, and behind them the next ones
abbrev pub numbers_by : List Name → ℕ → SweptDraft → List ℕ
numbers_by written first draft = map (λ name. name.no) written ++ range_with_len first (count_unwritten written draft)

-- the number of its header comes behind those
abbrev pub number_by : List Name → ℕ → SweptDraft → ℕ
number_by written first draft = first + count_unwritten written draft

abbrev pub header_by : List Name → ℕ → SweptDraft → Header
header_by written first draft = header_of (number_by written first draft) (tiles_with (numbers_by written first draft) draft.tiles)

-- The file of the draft, in a level and swept up to a place: its header, and of its new pages those that weren't written before are objects.
pub record IsMadeOf (level upto : ℕ) (written : List Name) (first : ℕ) (draft : SweptDraft) (made : MadeFiles) : Type 0 where
  pub spelled : HasSpelling (header_by written first draft)
  pub headers : made.headers.items ≡ record { level = level; header = header_by written first draft } ∷ []
  pub cited : made.cited.items ≡ record { level = level; no = number_by written first draft; swept = upto; digest = sha256 (header_bytes (header_by written first draft)) } ∷ []
  pub objects : map named_of made.objects.items ≡ (file_name (number_by written first draft), header_bytes (header_by written first draft))
      ∷ zip (map page_name (range_with_len first (count_unwritten written draft))) (drop (length written) draft.pages)
  pub next : made.next ≡ number_by written first draft + 1

-- no file
pub record IsNoFile (first : ℕ) (made : MadeFiles) : Type 0 where
  pub headers : made.headers.items ≡ []
  pub cited : made.cited.items ≡ []
  pub objects : made.objects.items ≡ []
  pub next : made.next ≡ first

-- the file of the draft, if there is one
abbrev pub AreMadeOf : ℕ → ℕ → List Name → ℕ → Option SweptDraft → MadeFiles → Type 0
AreMadeOf level upto written first None made = IsNoFile first made
AreMadeOf level upto written first (Some draft) made = IsMadeOf level upto written first draft made
