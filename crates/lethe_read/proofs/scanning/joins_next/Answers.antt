use Rattle.std.proofs.Common.{◌≡◌, ℕ, zero, suc, ◌+◌, ◌≤◌, true, List, [], ◌∷◌, length, drop, refl, arith}
use Rattle.lethe_header.specs.declared.header.Header.{Header}
use Rattle.lethe_read.specs.Parts.{joins}
use Rattle.lethe_read.proofs.scanning.joins_next.Goals as goal

-- behind the last file there is none
last_joins : {F : Type 0} (header : F → Header) (files : List F) (place : ℕ) → length files ≤ place + 1 → true ≡ joins header (drop place files)
last_joins header [] zero none = refl
last_joins header [] (suc place) none = refl
last_joins header (file ∷ []) zero none = refl
last_joins header (file ∷ behind ∷ files) zero none = absurd (omega arith)
last_joins header (file ∷ files) (suc place) none = last_joins header files place (omega arith)

pub returns-in-None : goal.returns-in-None
returns-in-None g c = last_joins (λ shared. shared.file.value.header) c.args.files.now c.args.place c.in-None.ensures.lookup.3
