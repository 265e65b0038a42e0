-- Fields of keys and values, and digits behind `=`.
use Rattle.std.proofs.Common.{◌≡◌, ◌/◌, ℕ, ◌<◌, ◌≤◌, Bool, true, false, ◌∷◌, length, cond, leb, Option, Some, None, Result, Ok, Err, refl, ap, ◌∙◌, subst, arith}
use Rattle.std.specs.Prelude.{ok_or}
use Rattle.std.specs.List.{list_all}
use Rattle.std.specs.Result.{result_ok}
use Rattle.std.proofs.lemmas.Bool.{leb-true, le-leb, lt-leb}
use Rattle.hex.specs.Hex.{decode_of}
use Rattle.hex.specs.declared.error.FromHexError.{FromHexError}
use Rattle.hex.proofs.HexLemmas.{decode_of-ok}
use Rattle.lethe_base.specs.Keys.{Bytes}
use Rattle.lethe_base.specs.Results.{◌>>=◌}
use Rattle.lethe_script.specs.Fields.{is_lower_digit, field_bytes, text_of, key_of, value_of}
use Rattle.lethe_base.specs.declared.key.KeyRefused.{KeyRefused}
use Rattle.lethe_base.specs.declared.key.KeyRefused.TheVariants.{Empty, Long}
use Rattle.lethe_base.specs.declared.value.ValueRefused.{ValueRefused}
use Rattle.lethe_base.specs.declared.value.ValueRefused.TheVariants as too
use Rattle.lethe_script.specs.declared.refused.Why.{Why}
use Rattle.lethe_script.specs.declared.refused.Why.TheVariants.{Key, Value}

module _ (why : Why) (most : ℕ) (digits : Bytes) where
  pub no_digits : list_all is_lower_digit digits ≡ false → text_of why most (61 ∷ digits) ≡ Err why
  unfolding text_of
  no_digits is = rw is refl

  by_decoding : (b : Bool) (r : Result Bytes FromHexError) → list_all is_lower_digit digits ≡ b → decode_of digits ≡ r
      → text_of why most (61 ∷ digits) ≡ (ok_or (cond b (result_ok r) None) why >>= λ bytes. cond (leb (length bytes) most) (Ok bytes) (Err why))
  unfolding text_of
  by_decoding b r is e = rw (is, e) refl

  pub few_digits : (bytes : Bytes) → list_all is_lower_digit digits ≡ true → decode_of digits ≡ Ok bytes → length digits / 2 ≤ most → text_of why most (61 ∷ digits) ≡ Ok bytes
  few_digits bytes is e few =
      let size = (decode_of-ok digits bytes e).2 in
      let short : leb (length bytes) most ≡ true = le-leb (length bytes) most (omega (arith, size)) in
      by_decoding true (Ok bytes) is e ∙ ap (λ b. cond b (Ok bytes) (Err why)) short

  pub other_digits : (e : FromHexError) → decode_of digits ≡ Err e → text_of why most (61 ∷ digits) ≡ Err why
  other_digits e is = by_lower (list_all is_lower_digit digits) refl
    where
      by_lower : (b : Bool) → list_all is_lower_digit digits ≡ b → text_of why most (61 ∷ digits) ≡ Err why
      by_lower true lower = by_decoding true (Err e) lower is
      by_lower false lower = by_decoding false (Err e) lower is

  pub many_digits : most < length digits / 2 → text_of why most (61 ∷ digits) ≡ Err why
  many_digits many = by_result (decode_of digits) refl
    where
      by_result : (r : Result Bytes FromHexError) → decode_of digits ≡ r → text_of why most (61 ∷ digits) ≡ Err why
      by_result (Err e) is = other_digits e is
      by_result (Ok bytes) is = by_lower (list_all is_lower_digit digits) refl
        where
          by_lower : (b : Bool) → list_all is_lower_digit digits ≡ b → text_of why most (61 ∷ digits) ≡ Err why
          by_lower false lower = no_digits lower
          by_lower true lower =
              let size = (decode_of-ok digits bytes is).2 in
              let long : leb (length bytes) most ≡ false = lt-leb (length bytes) most (omega (arith, size, many)) in
              by_decoding true (Ok bytes) lower is ∙ ap (λ b. cond b (Ok bytes) (Err why)) long

-- what is read has few enough bytes
limited : (why : Why) (most : ℕ) (read : Option Bytes) (bytes : Bytes) → (ok_or read why >>= λ bytes. cond (leb (length bytes) most) (Ok bytes) (Err why)) ≡ Ok bytes → length bytes ≤ most
limited why most None bytes is = absurd cc
limited why most (Some read) bytes is = by_test (leb (length read) most) refl
  where
    by_test : (b : Bool) → leb (length read) most ≡ b → length bytes ≤ most
    by_test true short = let same : read ≡ bytes = cc in subst (λ bs. length bs ≤ most) same (leb-true (length read) most short)
    by_test false long = absurd cc

text_short : (why : Why) (most : ℕ) (field bytes : Bytes) → text_of why most field ≡ Ok bytes → length bytes ≤ most
unfolding text_of
text_short why most field bytes is = limited why most (field_bytes field) bytes is

pub key_refused : (field bytes : Bytes) (e : KeyRefused) → text_of Key 255 field ≡ Ok bytes → (e ≡ Empty → length bytes ≡ 0) → (e ≡ Long → 255 < length bytes) → key_of field ≡ Err Key
unfolding key_of
key_refused field bytes Empty is empty long = rw (is, empty refl) refl
key_refused field bytes Long is empty long = absurd (let past = long refl in omega (arith, past, text_short Key 255 field bytes is))

pub value_refused : (field bytes : Bytes) (e : ValueRefused) → text_of Value 4096 field ≡ Ok bytes → (e ≡ too.Long → 4096 < length bytes) → value_of field ≡ Err Value
value_refused field bytes too.Long is long = absurd (let past = long refl in omega (arith, past, text_short Value 4096 field bytes is))
