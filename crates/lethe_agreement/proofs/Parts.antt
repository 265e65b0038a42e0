-- A sound page by its entries.
use Rattle.std.proofs.Common.{◌≡◌, ℕ, List, All, ap, sym, subst, ◌∙◌}
use Rattle.lethe_base.specs.Keys.{Bytes}
use Rattle.lethe_base.specs.declared.entry.Entry.{Entry}
use Rattle.lethe_header.specs.declared.header.PageLine.{PageLine}
use Rattle.lethe_header.specs.declared.header.TileLine.{TileLine}
use Rattle.lethe_file.specs.Agreement.{Agrees, IsWithin, entries_in}
use Rattle.lethe_file.proofs.Pages.{same_entries}
use Rattle.lethe_build.specs.Built.{class_of}
use Rattle.lethe_agreement.specs.Soundness.{IsSoundPage, IsSpelled}

pub entries_are : (entries : List Entry) (bytes : List ℕ) → IsSpelled entries bytes → entries_in bytes ≡ entries
entries_are entries bytes is = ap entries_in is.are ∙ same_entries (class_of entries) entries is.has_spelling

module _ (tile : TileLine) (line : PageLine) (taken : Bytes → Type 0) (entries : List Entry) (bytes : List ℕ) (is : IsSpelled entries bytes) where
  pub is_sound : Agrees line bytes → All (λ entry. IsWithin tile entry.key) entries → All (λ entry. taken entry.key → ⊥) entries → IsSoundPage tile line taken bytes
  is_sound agrees within apart = record {
    agrees = agrees;
    within = subst (All (λ entry. IsWithin tile entry.key)) (sym (entries_are entries bytes is)) within;
    apart = subst (All (λ entry. taken entry.key → ⊥)) (sym (entries_are entries bytes is)) apart;
  }

  pub is_within : IsSoundPage tile line taken bytes → All (λ entry. IsWithin tile entry.key) entries
  is_within sound = subst (All (λ entry. IsWithin tile entry.key)) (entries_are entries bytes is) sound.within

  pub is_apart : IsSoundPage tile line taken bytes → All (λ entry. taken entry.key → ⊥) entries
  is_apart sound = subst (All (λ entry. taken entry.key → ⊥)) (entries_are entries bytes is) sound.apart
