-- A field is a number exactly where it is what a number prints.
use Rattle.std.proofs.Common.{◌≡◌, ℕ, ◌<◌, ◌^◌, Bool, true, false, List, length, get_or, cond, ◌&&◌, Result, Ok, Err, lit<, inl, inr, refl, sym, ap, ◌∙◌, subst, arith, ltb}
use Rattle.std.specs.Str.{bytes_eq}
use Rattle.std.specs.Str.Parse.{digits_value, IsNumeral, AllDigits}
use Rattle.std.specs.Fmt.{decimal}
use Rattle.std.proofs.lemmas.Slice.Eq.{bytes_eq-Decides}
use Rattle.std.proofs.lemmas.Bool.Decides.{nat_tests}
use Rattle.std.proofs.lemmas.Fmt.{decimal_is_IsNumeral, decimal-digits_value, first_decimal, decimal_digit}
use Rattle.std.proofs.lemmas.Str.Parse.{IsNumeralModel, numerals_by_value, tells_digits}
use Rattle.lethe_script.specs.declared.refused.Why.{Why}
use Rattle.lethe_script.specs.declared.refused.Why.TheVariants.{Number}
use Rattle.std.specs.Int.{IsInRange}
use Rattle.std.specs.Str.{IsUtf8}
use Rattle.std.specs.Str.Parse.{without_leading_plus}
use Rattle.std.proofs.lemmas.Bool.{cases_lt}
use Rattle.std.proofs.lemmas.Str.{IsUtf8-from_ascii}
use Rattle.std.proofs.lemmas.Fmt.{IsAscii-decimal}
use Rattle.std.proofs.lemmas.Str.Parse.{digit_at, without_leading_plus_none}
use Rattle.lethe_script.specs.Reading.{BeginsNumber}
use Rattle.lethe_script.specs.Fields.{number_of}

pub own : IsNumeralModel (AllDigits 10) (digits_value 10)
own = numerals_by_value (AllDigits 10) tells_digits

-- what a number prints is read as that number
pub number_again : (field : List ℕ) (n : ℕ) → n < 2 ^ 64 → field ≡ decimal n → number_of field ≡ Ok n
unfolding number_of
number_again field n small e =
    let value : digits_value 10 field ≡ n = ap (digits_value 10) e ∙ (decimal_is_IsNumeral n small).1 in
    let same : bytes_eq field (decimal (digits_value 10 field)) ≡ true = (bytes_eq-Decides _ _).1 (e ∙ ap decimal (sym value)) in
    let low : ltb (digits_value 10 field) (2 ^ 64) ≡ true = rw value (grind (arith, nat_tests)) in
    rw (same, low) (ap Ok value)

number_or_not : (field : List ℕ) (b c : Bool) → bytes_eq field (decimal (digits_value 10 field)) ≡ b → ltb (digits_value 10 field) (2 ^ 64) ≡ c
    → ((n : ℕ) → n < 2 ^ 64 → field ≡ decimal n → ⊥) → (let r : Result ℕ Why = cond (b && c) (Ok (digits_value 10 field)) (Err Number) in r ≡ Err Number)
number_or_not field true true same low none =
    let small : digits_value 10 field < 2 ^ 64 = grind (arith, nat_tests) in
    absurd (none (digits_value 10 field) small ((bytes_eq-Decides _ _).0 same))
number_or_not field true false same low none = refl
number_or_not field false c same low none = refl

-- what no number prints is refused
pub number_none : (field : List ℕ) → ((n : ℕ) → n < 2 ^ 64 → field ≡ decimal n → ⊥) → number_of field ≡ Err Number
unfolding number_of
number_none field none = number_or_not field _ _ refl refl none

-- digits with no leading zero, of a number that fits, are what it prints
pub digits_print : (field : List ℕ) → IsNumeral 10 field → (get_or field 0 0 ≡ 48 → length field ≡ 1) → digits_value 10 field < 2 ^ 64 → number_of field ≡ Ok (digits_value 10 field)
digits_print field numeral no_zero small =
    number_again field _ small (sym (decimal-digits_value own field numeral.1 numeral.0 no_zero small))

-- a number's text begins so
pub decimal_begins : (n : ℕ) → n < 2 ^ 64 → BeginsNumber (decimal n)
decimal_begins n small =
    let numeral = decimal_is_IsNumeral n small in
    let first : IsInRange 48 57 (get_or (decimal n) 0 0) = digit_at (decimal n) 0 numeral.0.1 numeral.0.0 in
    record {
      some = numeral.0.0;
      low = first.0;
      high = first.1;
      no_zero = λ zero. elim (cases_lt 0 n) [
        | inl above ↦ absurd (omega (arith, first_decimal n above small))
        | inr none ↦ let is : n ≡ 0 = omega arith in rw (is, decimal_digit 0 (lit< tt)) refl
      ];
    }

-- what doesn't begin so is refused
pub number_begins : (field : List ℕ) → (BeginsNumber field → ⊥) → number_of field ≡ Err Number
number_begins field not = number_none field (λ n small e. not (subst BeginsNumber (sym e) (decimal_begins n small)))

-- what is no text is refused
pub number_text : (field : List ℕ) → (IsUtf8 field → ⊥) → number_of field ≡ Err Number
number_text field not = number_none field (λ n small e. not (subst IsUtf8 (sym e) (IsUtf8-from_ascii _ (IsAscii-decimal n small))))

module _ (field : List ℕ) (begins : BeginsNumber field) where
  no_plus : without_leading_plus field ≡ field
  no_plus = without_leading_plus_none field (λ plus. absurd (omega (arith, begins.low)))

  -- what `parse` reads is the number
  pub number_parsed : (n : ℕ) → IsNumeral 10 (without_leading_plus field) × (digits_value 10 (without_leading_plus field) < 2 ^ 64) → n ≡ digits_value 10 (without_leading_plus field) → number_of field ≡ Ok n
  number_parsed n h e =
      let numeral : IsNumeral 10 field = subst (IsNumeral 10) no_plus h.0 in
      let small : digits_value 10 field < 2 ^ 64 = subst (λ ds. digits_value 10 ds < 2 ^ 64) no_plus h.1 in
      digits_print field numeral begins.no_zero small ∙ ap Ok (sym (e ∙ ap (digits_value 10) no_plus))

  -- what it doesn't read is none
  pub number_unparsed : (IsNumeral 10 (without_leading_plus field) × (digits_value 10 (without_leading_plus field) < 2 ^ 64) → ⊥) → number_of field ≡ Err Number
  number_unparsed not = number_none field (λ n small e.
      let numeral = decimal_is_IsNumeral n small in
      let same : decimal n ≡ without_leading_plus field = sym e ∙ sym no_plus in
      not (subst (IsNumeral 10) same numeral.0, subst (λ k. k < 2 ^ 64) (sym numeral.1 ∙ ap (digits_value 10) same) small))
