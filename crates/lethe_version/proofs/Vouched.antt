-- What was found has the key, and one of the files vouches for it.
use Rattle.std.proofs.Common.{◌≡◌, ◌⊎◌, inl, inr, Bool, true, false, cond, ltb, List, [], ◌∷◌, Option, Some, None, Result, refl, arith}
use Rattle.std.specs.Prelude.{Any, IfOk, IfSome}
use Rattle.std.proofs.lemmas.Result.{IfOk-weaker}
use Rattle.lethe_base.specs.Keys.{Bytes}
use Rattle.lethe_base.specs.declared.entry.Entry.{Entry}
use Rattle.lethe_disk.specs.declared.cursor.ReadRefused.{ReadRefused}
use Rattle.lethe_file.specs.Damage.{IsVouched}
use Rattle.lethe_header.specs.Facts.{lines_of}
use Rattle.lethe_header.specs.declared.header.Header.{Header}
use Rattle.lethe_version.specs.Newest.{newer_of}

module _ {F : Type 0} (header : F → Header) where
  abbrev pub IsVouchedAt : Entry → F → Type 0
  IsVouchedAt entry file = IsVouched (lines_of (header file).tiles) entry

  module _ (key : Bytes) where
    abbrev pub AreVouching : List F → Option Entry → Type 0
    AreVouching files found = IfSome found (λ entry. (entry.key ≡ key) × Any (λ file. IsVouched (lines_of (header file).tiles) entry) files)

    pub wider : (xs ys : List F) → ((entry : Entry) → Any (IsVouchedAt entry) xs → Any (IsVouchedAt entry) ys) → (found : Option Entry) → AreVouching xs found → AreVouching ys found
    wider xs ys more None vouched = tt
    wider xs ys more (Some entry) vouched = (vouched.0, more entry vouched.1)

    -- where nothing was known
    pub only_vouched : (files : List F) (result : Result (Option Entry) ReadRefused) → IfOk result (λ found. (found ≡ None) ⊎ AreVouching files found) → IfOk result (AreVouching files)
    only_vouched files result vouched = IfOk-weaker result (λ found. (found ≡ None) ⊎ AreVouching files found) (AreVouching files) by vouched
      where
        by : (found : Option Entry) → (found ≡ None) ⊎ AreVouching files found → AreVouching files found
        by None either = tt
        by (Some entry) (inl none) = absurd (let clash : Some entry ≡ None = none in cc)
        by (Some entry) (inr vouched) = vouched

    module _ (file : F) where
      either_vouched : (t : Bool) (old entry : Entry) → (entry.key ≡ key) × IsVouchedAt entry file → (cond t (Some entry) (Some old) ≡ Some old) ⊎ AreVouching (file ∷ []) (cond t (Some entry) (Some old))
      either_vouched true old entry vouched = inr (vouched.0, (0, file, omega arith, refl, vouched.1))
      either_vouched false old entry vouched = inl refl

      -- the newer of what was known and of what the file has
      pub newer_vouched : (newest found : Option Entry) → IfSome found (λ entry. (entry.key ≡ key) × IsVouched (lines_of (header file).tiles) entry)
          → (newer_of newest found ≡ newest) ⊎ AreVouching (file ∷ []) (newer_of newest found)
      newer_vouched None None vouched = inl refl
      newer_vouched None (Some entry) vouched = inr (vouched.0, (0, file, omega arith, refl, vouched.1))
      newer_vouched (Some old) None vouched = inl refl
      newer_vouched (Some old) (Some entry) vouched = either_vouched (ltb old.seq entry.seq) old entry vouched
