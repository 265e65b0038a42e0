-- An erase stands where its fields do, and no erase's spelling begins another's.
use Rattle.std.proofs.Common.{◌≡◌, ℕ, ◌+◌, ◌^◌, List, ◌++◌, take, drop, refl, sym, ap, subst, arith}
use Rattle.std.specs.Int.{w64, to_be_bytes}
use Rattle.lethe_base.specs.Reading.{StandsAt}
use Rattle.lethe_base.specs.Erases.{erase_bytes, IsErase}
use Rattle.lethe_base.specs.declared.pending.Pending.{Pending}
use Rattle.lethe_base.proofs.FieldLaws.{same_number, wide64, stands_then, split}

-- the four fields stand one behind another
pub record FieldsStand (erase : Pending) (bytes : List ℕ) (at : ℕ) : Type 0 where
  pub seq : StandsAt (to_be_bytes w64 erase.seq) bytes at (at + 8)
  pub time : StandsAt (to_be_bytes w64 erase.time) bytes (at + 8) (at + 16)
  pub lo : StandsAt (to_be_bytes w64 erase.range.lo) bytes (at + 16) (at + 24)
  pub hi : StandsAt (to_be_bytes w64 erase.range.hi) bytes (at + 24) (at + 32)

pub erase_stands : (erase : Pending) (bytes : List ℕ) (at : ℕ) → FieldsStand erase bytes at → StandsAt (erase_bytes erase) bytes at (at + 32)
unfolding erase_bytes
erase_stands erase bytes at fields =
    let ends = stands_then _ _ bytes (at + 16) (at + 24) (at + 32) fields.lo fields.hi in
    stands_then _ _ bytes at (at + 8) (at + 32) fields.seq (stands_then _ _ bytes (at + 8) (at + 16) (at + 32) fields.time ends)

pub erase_parts : (erase : Pending) (bytes : List ℕ) (at end : ℕ) → StandsAt (erase_bytes erase) bytes at end → FieldsStand erase bytes at × (at + 32 ≡ end)
unfolding erase_bytes
erase_parts erase bytes at end stands =
    let range = erase.range in
    let seq = split (to_be_bytes w64 erase.seq) (to_be_bytes w64 erase.time ++ (to_be_bytes w64 range.lo ++ to_be_bytes w64 range.hi)) bytes at (at + 8) end refl stands in
    let time = split (to_be_bytes w64 erase.time) (to_be_bytes w64 range.lo ++ to_be_bytes w64 range.hi) bytes (at + 8) (at + 16) end (omega arith) seq.1 in
    let lo = split (to_be_bytes w64 range.lo) (to_be_bytes w64 range.hi) bytes (at + 16) (at + 24) end (omega arith) time.1 in
    let ends : at + 32 ≡ end = omega (arith, lo.1.ends) in
    (record { seq = seq.0; time = time.0; lo = lo.0; hi = subst (StandsAt (to_be_bytes w64 range.hi) bytes (at + 24)) (sym ends) lo.1 }, ends)

pub one_erase : (a b : Pending) (x y : List ℕ) → IsErase a → IsErase b → erase_bytes a ++ x ≡ erase_bytes b ++ y → (a ≡ b) × (x ≡ y)
unfolding erase_bytes
one_erase a b x y a_fits b_fits e =
    let seqs : to_be_bytes w64 a.seq ≡ to_be_bytes w64 b.seq = ap (λ (l : List ℕ). take 8 l) e in
    let times : to_be_bytes w64 a.time ≡ to_be_bytes w64 b.time = ap (λ (l : List ℕ). take 8 (drop 8 l)) e in
    let los : to_be_bytes w64 a.range.lo ≡ to_be_bytes w64 b.range.lo = ap (λ (l : List ℕ). take 8 (drop 16 l)) e in
    let his : to_be_bytes w64 a.range.hi ≡ to_be_bytes w64 b.range.hi = ap (λ (l : List ℕ). take 8 (drop 24 l)) e in
    let seq = same_number w64 (2 ^ 64) wide64 a.seq b.seq (omega (arith, a_fits.place)) (omega (arith, b_fits.place)) seqs in
    let time = same_number w64 (2 ^ 64) wide64 a.time b.time (omega (arith, a_fits.time)) (omega (arith, b_fits.time)) times in
    let lo = same_number w64 (2 ^ 64) wide64 a.range.lo b.range.lo (omega (arith, a_fits.some, a_fits.hi)) (omega (arith, b_fits.some, b_fits.hi)) los in
    let hi = same_number w64 (2 ^ 64) wide64 a.range.hi b.range.hi a_fits.hi b_fits.hi his in
    ((λ i. record { seq = seq i; time = time i; range = record { lo = lo i; hi = hi i } }), ap (λ (l : List ℕ). drop 32 l) e)
