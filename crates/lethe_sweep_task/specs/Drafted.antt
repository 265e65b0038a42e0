-- What is to be written of what a sweep makes: a file, or none.
use Rattle.std.specs.Prelude.{ℕ, List, [], length, zip, take, Option, Some, None}
use Rattle.lethe_base.specs.declared.name.Name.{Name}
use Rattle.lethe_swept.specs.Drafts.{numbers_for}
use Rattle.lethe_swept.specs.declared.draft.SweptDraft.{SweptDraft}

-- its new pages, in order
abbrev pub new_pages : Option SweptDraft → List (List ℕ)
new_pages None = []
new_pages (Some draft) = draft.pages

-- the first of them, which were written before under these names
abbrev pub written_pages : List Name → Option SweptDraft → List (Name × List ℕ)
written_pages written made = zip written (take (length written) (new_pages made))

-- it takes a number for each new page and one for its header
abbrev pub numbers_of : Option SweptDraft → ℕ
numbers_of None = 0
numbers_of (Some draft) = numbers_for draft
