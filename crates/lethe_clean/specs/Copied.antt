-- Pages beside what is stored that leave a directory clean: those with no put but those of stored files, and those with none overdue.
use Rattle.std.specs.Prelude.{◌≡◌, ℕ, List, All}
use Rattle.lethe_base.specs.Causes.{IsOverdue}
use Rattle.lethe_base.specs.Held.{InFiles}
use Rattle.lethe_base.specs.History.{History}
use Rattle.lethe_base.specs.Layout.{File, files_of}
use Rattle.lethe_base.specs.Matching.{IsPut}
use Rattle.lethe_base.specs.Placed.{IsPlaced}
use Rattle.lethe_base.specs.declared.entry.Entry.{Entry}
use Rattle.lethe_base.specs.declared.name.Kind.TheVariants.{Page}
use Rattle.lethe_base.specs.declared.name.Name.{Name}
use Rattle.lethe_stored.specs.Clean.{SpellsPage}
use Rattle.lethe_stored.specs.Stored.{Stored, layout_of}

-- one of the files has the entry, perhaps with another time
pub record IsOriginal (files : List File) (entry : Entry) : Type 0 where
  pub original : Entry
  pub filed : InFiles files original
  pub seq : original.seq ≡ entry.seq
  pub key : original.key ≡ entry.key
  pub body : original.body ≡ entry.body

-- it is a page, and each put that it spells is one of the files
pub record IsCopiedOf (files : List File) (named : Name × List ℕ) : Type 0 where
  pub page : named.0.kind ≡ Page
  pub entries : List Entry
  pub spelled : SpellsPage named.1 entries
  pub copies : All (λ entry. IsPut entry.body → IsOriginal files entry) entries

-- a stored file's
abbrev pub IsCopied : Stored → Name × List ℕ → Type 0
IsCopied s = IsCopiedOf (files_of (layout_of s))

-- It is a page, each put of which was done at its place, and none was erased a threshold before the time.
pub record IsTimely (threshold time : ℕ) (h : History) (named : Name × List ℕ) : Type 0 where
  pub page : named.0.kind ≡ Page
  pub entries : List Entry
  pub spelled : SpellsPage named.1 entries
  pub placed : All (λ entry. IsPut entry.body → IsPlaced h entry.seq entry.key entry.body) entries
  pub timely : All (λ entry. IsPut entry.body → IsOverdue threshold h time entry.seq → ⊥) entries
