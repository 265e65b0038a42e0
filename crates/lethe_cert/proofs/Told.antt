-- A certificate's text is cut at its spaces.
use Rattle.std.proofs.Common.{◌≡◌, ℕ, ◌^◌, ◌<◌, false, ◌∷◌, ◌++◌, eqb, Ok, refl, sym, ap, ◌∙◌, arith, append_assoc}
use Rattle.std.specs.Prelude.{codes}
use Rattle.std.specs.List.{All, slice_split}
use Rattle.std.specs.Fmt.{decimal}
use Rattle.std.proofs.lemmas.Bool.{ne_eqb}
use Rattle.std.proofs.lemmas.Fmt.{decimal_is_IsNumeral, decimal_injective}
use Rattle.std.proofs.lemmas.Str.Parse.{digit_at}
use Rattle.std.proofs.lemmas.List.{append_cancel_left}
use Rattle.std.proofs.lemmas.List.Elements.{All-from_get_or}
use Rattle.std.proofs.lemmas.List.Splits.{slice_split_at}
use Rattle.hex.specs.Hex.{decode_of, encode_lower}
use Rattle.hex.proofs.HexLemmas.{decode_of-encode_lower}
use Rattle.lethe_base.specs.Keys.{Bytes}
use Rattle.lethe_base.specs.Numbers.{IsBytes}
use Rattle.lethe_cert.specs.declared.certificate.Certificate.{Certificate}
use Rattle.lethe_cert.specs.Text.{certificate_text, HasText}

-- a number has no space
decimal_no_space : (n : ℕ) → n < 2 ^ 64 → All (λ byte. eqb byte 32 ≡ false) (decimal n)
decimal_no_space n small =
    All-from_get_or (λ byte. eqb byte 32 ≡ false) (decimal n) 0 (λ i lt.
    let digit = digit_at (decimal n) i (decimal_is_IsNumeral n small).0.1 lt in
    ne_eqb _ 32 (λ e. absurd (omega (arith, digit.0, e))))

-- a number with a space behind it tells the number and the rest
pub number_then : (n m : ℕ) (x y : Bytes) → n < 2 ^ 64 → m < 2 ^ 64 → decimal n ++ 32 ∷ x ≡ decimal m ++ 32 ∷ y → (n ≡ m) × (32 ∷ x ≡ 32 ∷ y)
number_then n m x y n_small m_small e =
    let parts : decimal n ∷ slice_split (λ byte. eqb byte 32) x ≡ decimal m ∷ slice_split (λ byte. eqb byte 32) y =
    sym (slice_split_at (λ byte. eqb byte 32) (decimal n) 32 x (decimal_no_space n n_small) refl)
    ∙ ap (slice_split (λ byte. eqb byte 32)) e
    ∙ slice_split_at (λ byte. eqb byte 32) (decimal m) 32 y (decimal_no_space m m_small) refl in
    let same : decimal n ≡ decimal m = cc in
    (decimal_injective n m n_small m_small same, append_cancel_left (decimal n) (32 ∷ x) (32 ∷ y) (e ∙ ap (λ l. l ++ 32 ∷ y) (sym same)))

-- the digits tell the bytes
pub digits_tell : (a b : Bytes) → IsBytes a → IsBytes b → encode_lower a ≡ encode_lower b → a ≡ b
digits_tell a b a_bytes b_bytes e =
    let same : Ok a ≡ Ok b = sym (decode_of-encode_lower a a_bytes) ∙ ap decode_of e ∙ decode_of-encode_lower b b_bytes in cc

-- the text from its number on
abbrev from_number : Certificate → Bytes
from_number c = decimal c.number ++ (codes " before " ++ (decimal c.before ++ (codes " sha256 " ++ encode_lower c.digest)))

text_parts : (c : Certificate) → certificate_text c ≡ codes "cert " ++ from_number c
text_parts c = simp append_assoc

pub text_tells : (a b : Certificate) → HasText a → HasText b → certificate_text a ≡ certificate_text b → (a.number ≡ b.number) × (a.before ≡ b.before) × (a.digest ≡ b.digest)
text_tells a b a_has b_has e =
    let number = number_then a.number b.number _ _ a_has.number b_has.number (append_cancel_left (codes "cert ") (from_number a) (from_number b) (sym (text_parts a) ∙ e ∙ text_parts b)) in
    let before = number_then a.before b.before _ _ a_has.before b_has.before (append_cancel_left (codes " before ") _ _ number.1) in
    (number.0, before.0, digits_tell a.digest b.digest a_has.digest b_has.digest (append_cancel_left (codes " sha256 ") _ _ before.1))
