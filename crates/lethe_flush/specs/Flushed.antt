-- What a flush makes of a buffer.
use Rattle.std.specs.Prelude.{◌≡◌, ◌≢◌, ℕ, Bool, List, map, AllPairs, IsPermutation}
use Rattle.lethe_base.specs.declared.config.Fields.{Fields}
use Rattle.lethe_base.specs.declared.entry.Entry.{Entry}
use Rattle.lethe_base.specs.declared.pending.Pending.{Pending}
use Rattle.lethe_follows.specs.Filed.{AreInOrder, AreNewFiles}
use Rattle.lethe_follows.specs.Woven.{AreWovenOf}
use Rattle.lethe_merge.specs.Merge.{merged}
use Rattle.lethe_stored.specs.Files.{StoredFile, cited_of, file_of, objects_of}
use Rattle.lethe_advance.specs.Steps.{new_header}
use Rattle.lethe_flush.specs.Made.{named_of}
use Rattle.lethe_flush.specs.declared.made.MadeFiles.{MadeFiles}

-- The files have what is left of the entries, and this is how they are written and cited: of each file its header and its pages are
-- objects, in whatever order, with numbers from the first on.
pub record IsFlushOf (fields : Fields) (entries : List Entry) (erases : List Pending) (alone : Bool) (upto first : ℕ) (made : MadeFiles) (files : List StoredFile) : Type 0 where
  pub headers : made.headers.items ≡ map new_header files
  pub cited : made.cited.items ≡ map cited_of files
  pub objects : IsPermutation (objects_of files) (map named_of made.objects.items)
  pub new : AreNewFiles first made.next files
  pub order : AreInOrder files
  pub woven : AreWovenOf fields (merged entries erases alone) upto (map file_of files)
  pub once : AllPairs (λ a b. a.name ≢ b.name) made.objects.items
