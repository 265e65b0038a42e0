-- The head of a page: what is read stands there, and what stands there is read.
use Rattle.std.proofs.Common.{◌≡◌, ℕ, ◌+◌, ◌^◌, ◌<◌, false, cond, eqb, List, [], ◌∷◌, ◌++◌, Option, Some, Ok, Err, refl, ap, subst, ◌∙◌, arith, inl, inr}
use Rattle.std.specs.Prelude.{ok_or}
use Rattle.std.specs.Int.{Width, w8, w16, w32, to_be_bytes}
use Rattle.std.proofs.lemmas.Bool.{eqb-true, eqb-false, eq-eqb, ne_eqb}
use Rattle.std.proofs.lemmas.Nat.{be_bytes_4, from_be_bytes-to_be_bytes_4}
use Rattle.lethe_base.specs.Numbers.{number_at, IsBytes}
use Rattle.lethe_base.specs.Reading.{StandsAt}
use Rattle.lethe_base.specs.Results.{◌>>=◌}
use Rattle.lethe_base.specs.declared.reading.EntryRefused.TheVariants as entry
use Rattle.lethe_base.proofs.FieldLaws.{IsWide, wide16, chosen, number_stands, number_again, byte_stands, first_byte, stands_then, stands_parts}
use Rattle.lethe_base.proofs.ReadingSteps.{bind_ok, past_test, met_test, field_ok, ok_is}
use Rattle.lethe_page.specs.Pages.{class_byte, head_bytes}
use Rattle.lethe_page.specs.Reading.{field_at, fixed_at, class_at, count_at, head_at}
use Rattle.lethe_page.specs.declared.class.Class.{Class}
use Rattle.lethe_page.specs.declared.class.Class.TheVariants.{Puts, Tombs}
use Rattle.lethe_page.specs.declared.refused.PageRefused.TheVariants.{Short, Kind}

wide32 : IsWide w32 (2 ^ 32)
wide32 = record {
  len = λ n. refl;
  back = λ bytes len fits. be_bytes_4 bytes _ len fits refl;
  again = λ n lt. from_be_bytes-to_be_bytes_4 n lt;
  below = λ bytes fits. omega (arith, fits 0, fits 1, fits 2, fits 3);
}

field_again : (w : Width) (bytes : List ℕ) (at n : ℕ) → number_at w bytes at ≡ Some n → field_at w bytes at ≡ Ok n
field_again w bytes at n e = ap (λ (o : Option ℕ). ok_or o (Short at)) e

byte_there : (bytes : List ℕ) (at n : ℕ) → IsBytes bytes → number_at w8 bytes at ≡ Some n → StandsAt (n ∷ []) bytes at (at + 1)
byte_there bytes at n fits e = (byte_stands bytes at n fits (ap (λ (o : Option ℕ). ok_or o (entry.Short at)) e)).0

-- ---- fields

pub fixed_ok : (w : Width) (number : ℕ) (bytes : List ℕ) (at n : ℕ) → fixed_at w number bytes at ≡ Ok n → number_at w bytes at ≡ Some number
unfolding fixed_at
fixed_ok w number bytes at n e =
    let b = bind_ok (field_at w bytes at) (λ k. cond (eqb k number) (Ok k) (Err (Kind at))) n e in
    let g = met_test (eqb b.0 number) b.0 (Kind at) n b.2 in
    field_ok (number_at w bytes at) (Short at) b.0 b.1 ∙ ap (λ (k : ℕ). Some k) (eqb-true b.0 number g.0)

pub fixed_again : (w : Width) (number : ℕ) (bytes : List ℕ) (at : ℕ) → number_at w bytes at ≡ Some number → fixed_at w number bytes at ≡ Ok number
unfolding fixed_at
fixed_again w number bytes at e = rw (field_again w bytes at number e, eq-eqb number number refl) refl

class_ok : (bytes : List ℕ) (at : ℕ) (class : Class) → IsBytes bytes → class_at bytes at ≡ Ok class → StandsAt (class_byte class ∷ []) bytes at (at + 1)
unfolding class_at
class_ok bytes at class fits e =
    let b = bind_ok (field_at w8 bytes at) (λ byte. cond (eqb byte 1) (Ok Puts) (cond (eqb byte 2) (Ok Tombs) (Err (Kind at)))) class e in
    let read = field_ok (number_at w8 bytes at) (Short at) b.0 b.1 in
    let there : StandsAt (b.0 ∷ []) bytes at (at + 1) = byte_there bytes at b.0 fits read in
    elim (chosen (eqb b.0 1) (Ok Puts) (cond (eqb b.0 2) (Ok Tombs) (Err (Kind at))) (Ok class) b.2) [
      | inl put ↦ is Puts b.0 there (eqb-true b.0 1 put.0) (ok_is Puts class put.1)
      | inr other ↦ let g = met_test (eqb b.0 2) Tombs (Kind at) class other.1 in is Tombs b.0 there (eqb-true b.0 2 g.0) g.1
    ]
  where
    is : (read : Class) (byte : ℕ) → StandsAt (byte ∷ []) bytes at (at + 1) → byte ≡ class_byte read → read ≡ class → StandsAt (class_byte class ∷ []) bytes at (at + 1)
    is read byte there spelled same = subst (λ (k : ℕ). StandsAt (k ∷ []) bytes at (at + 1)) (spelled ∙ ap class_byte same) there

class_again : (bytes : List ℕ) (at end : ℕ) (class : Class) → StandsAt (class_byte class ∷ []) bytes at end → class_at bytes at ≡ Ok class
unfolding class_at
class_again bytes at end Puts p = rw (field_again w8 bytes at 1 (first_byte 1 [] bytes at end p)) refl
class_again bytes at end Tombs p = rw (field_again w8 bytes at 2 (first_byte 2 [] bytes at end p)) refl

count_ok : (bytes : List ℕ) (at n : ℕ) → IsBytes bytes → count_at bytes at ≡ Ok n → StandsAt (to_be_bytes w32 n) bytes at (at + 4) × (0 < n) × (n < 2 ^ 32)
unfolding count_at
count_ok bytes at n fits e =
    let b = bind_ok (field_at w32 bytes at) (λ count. cond (eqb count 0) (Err (Kind at)) (Ok count)) n e in
    let g = past_test (eqb b.0 0) (Kind at) (Ok b.0) n b.2 in
    let some : b.0 ≡ 0 → ⊥ = eqb-false b.0 0 g.0 in
    let t = number_stands w32 (2 ^ 32) wide32 bytes at b.0 fits (field_ok (number_at w32 bytes at) (Short at) b.0 b.1) in
    subst (λ (k : ℕ). StandsAt (to_be_bytes w32 k) bytes at (at + 4) × (0 < k) × (k < 2 ^ 32)) (ok_is b.0 n g.1) (t.0, omega (arith, some), t.1)

count_again : (bytes : List ℕ) (at end n : ℕ) → 0 < n → n < 2 ^ 32 → StandsAt (to_be_bytes w32 n) bytes at end → count_at bytes at ≡ Ok n
unfolding count_at
count_again bytes at end n some few p =
    let filled : eqb n 0 ≡ false = ne_eqb n 0 (λ z. omega (arith, z, some)) in
    rw (field_again w32 bytes at n (number_again w32 (2 ^ 32) wide32 bytes at end n few p), filled) refl

-- ---- the head

pub head_ok : (bytes : List ℕ) (x : Class × ℕ) → IsBytes bytes → head_at bytes ≡ Ok x → StandsAt (head_bytes x.0 x.1) bytes 0 8 × (0 < x.1) × (x.1 < 2 ^ 32)
unfolding head_at head_bytes
head_ok bytes x fits e =
    let a = bind_ok (fixed_at w16 0x4c50 bytes 0) (λ _. fixed_at w8 1 bytes 2 >>= λ _. class_at bytes 3 >>= λ class. count_at bytes 4 >>= λ count. Ok (class, count)) x e in
    let b = bind_ok (fixed_at w8 1 bytes 2) (λ _. class_at bytes 3 >>= λ class. count_at bytes 4 >>= λ count. Ok (class, count)) x a.2 in
    let c = bind_ok (class_at bytes 3) (λ class. count_at bytes 4 >>= λ count. Ok (class, count)) x b.2 in
    let d = bind_ok (count_at bytes 4) (λ count. Ok (c.0, count)) x c.2 in
    let letters : StandsAt (76 ∷ 80 ∷ []) bytes 0 2 = (number_stands w16 (2 ^ 16) wide16 bytes 0 0x4c50 fits (fixed_ok w16 0x4c50 bytes 0 a.0 a.1)).0 in
    let format : StandsAt (1 ∷ []) bytes 2 3 = byte_there bytes 2 1 fits (fixed_ok w8 1 bytes 2 b.0 b.1) in
    let t2 = class_ok bytes 3 c.0 fits c.1 in
    let t3 = count_ok bytes 4 d.0 fits d.1 in
    let mark = stands_then (76 ∷ 80 ∷ []) (1 ∷ []) bytes 0 2 3 letters format in
    let rest = stands_then (class_byte c.0 ∷ []) (to_be_bytes w32 d.0) bytes 3 4 8 t2 t3.0 in
    let made : Class × ℕ = (c.0, d.0) in
    subst (λ (y : Class × ℕ). StandsAt ((76 ∷ 80 ∷ 1 ∷ []) ++ ((class_byte y.0 ∷ []) ++ to_be_bytes w32 y.1)) bytes 0 8 × (0 < y.1) × (y.1 < 2 ^ 32)) {x = made} (ok_is made x d.2)
    (stands_then (76 ∷ 80 ∷ 1 ∷ []) ((class_byte c.0 ∷ []) ++ to_be_bytes w32 d.0) bytes 0 3 8 mark rest, t3.1, t3.2)

pub head_again : (bytes : List ℕ) (end : ℕ) (class : Class) (count : ℕ) → 0 < count → count < 2 ^ 32 → StandsAt (head_bytes class count) bytes 0 end → head_at bytes ≡ Ok (class, count)
unfolding head_at head_bytes
head_again bytes end class count some few p =
    let p0 = stands_parts (76 ∷ 80 ∷ 1 ∷ []) ((class_byte class ∷ []) ++ to_be_bytes w32 count) bytes 0 end p in
    let p1 = stands_parts (76 ∷ 80 ∷ []) (1 ∷ []) bytes 0 3 p0.0 in
    let p2 = stands_parts (class_byte class ∷ []) (to_be_bytes w32 count) bytes 3 end p0.1 in
    let letters : fixed_at w16 0x4c50 bytes 0 ≡ Ok 0x4c50 = fixed_again w16 0x4c50 bytes 0 (number_again w16 (2 ^ 16) wide16 bytes 0 2 0x4c50 (omega arith) p1.0) in
    let format : fixed_at w8 1 bytes 2 ≡ Ok 1 = fixed_again w8 1 bytes 2 (first_byte 1 [] bytes 2 3 p1.1) in
    rw (letters, format, class_again bytes 3 4 class p2.0, count_again bytes 4 end count some few p2.1) refl
