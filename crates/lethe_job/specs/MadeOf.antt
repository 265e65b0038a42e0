-- What a job makes: the pages that are to be written of it, and the numbers that it takes.
use Rattle.std.specs.Prelude.{ℕ, List, length, sum_by, take, zip}
use Rattle.lethe_base.specs.declared.name.Name.{Name}
use Rattle.lethe_build.specs.Drafts.{numbers_for}
pub use Rattle.lethe_build.specs.Drafts.{pages_in}
use Rattle.lethe_sweep_task.specs.Drafted.{new_pages, numbers_of}
use Rattle.lethe_job.specs.declared.made.Made.{Made}
use Rattle.lethe_job.specs.declared.made.Made.TheVariants.{Files, Left}

-- the pages, in order
abbrev pub pages_of : Made → List (List ℕ)
pages_of (Files drafts) = pages_in drafts.items
pages_of (Left made) = new_pages made

-- the first of them, which were written before under these names
abbrev pub written_of : List Name → Made → List (Name × List ℕ)
written_of written made = zip written (take (length written) (pages_of made))

-- one for each page, and one for each header
abbrev pub numbers_in : Made → ℕ
numbers_in (Files drafts) = sum_by numbers_for drafts.items
numbers_in (Left made) = numbers_of made
