-- No record's spelling begins another's.
use Rattle.std.proofs.Common.{◌≡◌, ◌≢◌, ℕ, ◌^◌, ◌<◌, List, ◌∷◌, ◌++◌, take, drop, sym, ap, ◌∙◌, arith}
use Rattle.std.specs.Int.{w64, to_be_bytes}
use Rattle.lethe_base.specs.Spelling.{entry_bytes, kind_byte, kind_of, IsPlace}
use Rattle.lethe_base.specs.Erases.{erase_bytes}
use Rattle.lethe_base.specs.declared.entry.Entry.{Entry}
use Rattle.lethe_base.specs.declared.front.BodyKind.{BodyKind}
use Rattle.lethe_base.specs.declared.front.BodyKind.TheVariants as kinds
use Rattle.lethe_base.proofs.FieldLaws.{same_number, wide64}
use Rattle.lethe_base.proofs.EntryLaws.{entry_first, one_entry}
use Rattle.lethe_base.proofs.EraseLaws.{one_erase}
use Rattle.lethe_segment.specs.declared.record.Record.{Record}
use Rattle.lethe_segment.specs.declared.record.Record.TheVariants as of
use Rattle.lethe_segment.specs.Records.{record_bytes, RecordHasSpelling}

no_third_kind : (kind : BodyKind) → kind_byte kind ≢ 3
no_third_kind kinds.Put e = cc
no_third_kind kinds.Tomb e = cc

no_fourth_kind : (kind : BodyKind) → kind_byte kind ≢ 4
no_fourth_kind kinds.Put e = cc
no_fourth_kind kinds.Tomb e = cc

first_is : (a b : ℕ) (x y : List ℕ) → a ∷ x ≡ b ∷ y → a ≡ b
first_is a b x y e = cc

-- no entry begins as a blind delete does
pub no_entry : (entry : Entry) (x y : List ℕ) → entry_bytes entry ++ x ≡ 3 ∷ y → ⊥
no_entry entry x y e =
    let first = entry_first entry in
    no_third_kind (kind_of entry.body) (first_is (kind_byte (kind_of entry.body)) 3 (first.0 ++ x) y (sym (ap (λ (l : List ℕ). l ++ x) first.1) ∙ e))

-- nor as an erase does
pub no_entry_erases : (entry : Entry) (x y : List ℕ) → entry_bytes entry ++ x ≡ 4 ∷ y → ⊥
no_entry_erases entry x y e =
    let first = entry_first entry in
    no_fourth_kind (kind_of entry.body) (first_is (kind_byte (kind_of entry.body)) 4 (first.0 ++ x) y (sym (ap (λ (l : List ℕ). l ++ x) first.1) ∙ e))

no_blind_erases : (x y : List ℕ) → 3 ∷ x ≡ 4 ∷ y → ⊥
no_blind_erases x y e = let clash : 3 ≡ 4 = first_is 3 4 x y e in omega (arith, clash)

small : (seq : ℕ) → IsPlace seq → seq < 2 ^ 64
small seq fits = omega (arith, fits.1)

pub same_record : (a b : Record) (x y : List ℕ) → RecordHasSpelling a → RecordHasSpelling b → record_bytes a ++ x ≡ record_bytes b ++ y → (a ≡ b) × (x ≡ y)
unfolding record_bytes
same_record (of.Entry a) (of.Entry b) x y a_fits b_fits e = let both = one_entry a b x y a_fits b_fits e in (ap of.Entry both.0, both.1)
same_record (of.Entry a) (of.Blind n) x y a_fits b_fits e = absurd (no_entry a x (to_be_bytes w64 n ++ y) e)
same_record (of.Blind m) (of.Entry b) x y a_fits b_fits e = absurd (no_entry b y (to_be_bytes w64 m ++ x) (sym e))
same_record (of.Blind m) (of.Blind n) x y a_fits b_fits e =
    let numbers : to_be_bytes w64 m ≡ to_be_bytes w64 n = ap (λ (l : List ℕ). take 8 (drop 1 l)) e in
    (ap of.Blind (same_number w64 (2 ^ 64) wide64 m n (small m a_fits) (small n b_fits) numbers), ap (λ (l : List ℕ). drop 9 l) e)
same_record (of.Entry a) (of.Erase q) x y a_fits b_fits e = absurd (no_entry_erases a x (erase_bytes q ++ y) e)
same_record (of.Erase p) (of.Entry b) x y a_fits b_fits e = absurd (no_entry_erases b y (erase_bytes p ++ x) (sym e))
same_record (of.Blind m) (of.Erase q) x y a_fits b_fits e = absurd (no_blind_erases (to_be_bytes w64 m ++ x) (erase_bytes q ++ y) e)
same_record (of.Erase p) (of.Blind n) x y a_fits b_fits e = absurd (no_blind_erases (to_be_bytes w64 n ++ y) (erase_bytes p ++ x) (sym e))
same_record (of.Erase p) (of.Erase q) x y a_fits b_fits e =
    let both = one_erase p q x y a_fits b_fits (ap (λ (l : List ℕ). drop 1 l) e) in (ap of.Erase both.0, both.1)
