-- Digits are ASCII, and need no escape in JSON.
use Rattle.std.proofs.Common.{◌≡◌, ◌<◌, ◌&&◌, ◌/◌, ◌%◌, ℕ, Bool, true, false, zero, suc, refl, sym, List, [], ◌∷◌, length, slice_index, bytes_eq, true≢false, arith, nat_lt, ltb-true}
use Rattle.std.specs.List.{list_all}
use Rattle.std.specs.Str.{IsAscii}
use Rattle.std.proofs.lemmas.Slice.Eq.{bytes_eq-Decides}
use Rattle.hex.specs.Hex.{encode_lower, encode_with, lower_digits}
use Rattle.json.specs.Print.{escape, escape_byte}

both : (a b : Bool) → (a && b) ≡ true → (a ≡ true) × (b ≡ true)
both true b e = (refl, e)
both false b e = absurd (true≢false (sym e))

all_at : (p : ℕ → Bool) (xs : List ℕ) → list_all p xs ≡ true → (i : ℕ) → i < length xs → p (slice_index xs i) ≡ true
all_at p [] e i lt = absurd (omega arith)
all_at p (x ∷ xs) e zero lt = (both _ _ e).0
all_at p (x ∷ xs) e (suc i) lt = all_at p xs (both (p x) _ e).1 i (omega arith)

ascii_from_test : (xs : List ℕ) → list_all (λ x. nat_lt x 128) xs ≡ true → IsAscii xs
ascii_from_test [] e i = omega arith
ascii_from_test (x ∷ xs) e zero = ltb-true _ _ (both _ _ e).0
ascii_from_test (x ∷ xs) e (suc i) = ascii_from_test xs (both (nat_lt x 128) _ e).1 i

pub lower_is_ascii : IsAscii lower_digits
lower_is_ascii = ascii_from_test lower_digits refl

abbrev is_kept : ℕ → Bool
is_kept digit = bytes_eq (escape_byte digit) (digit ∷ [])

all_kept : list_all is_kept lower_digits ≡ true
unfolding escape_byte
all_kept = refl

kept : (n : ℕ) → n < 16 → escape_byte (slice_index lower_digits n) ≡ slice_index lower_digits n ∷ []
kept n lt = (bytes_eq-Decides (escape_byte (slice_index lower_digits n)) (slice_index lower_digits n ∷ [])).0 (all_at is_kept lower_digits all_kept n lt)

-- the digits of bytes stay as they are
pub digits_stay : (bytes : List ℕ) → ((i : ℕ) → slice_index bytes i < 256) → escape (encode_lower bytes) ≡ encode_lower bytes
unfolding encode_with
digits_stay [] small = refl
digits_stay (b ∷ rest) small =
    let here : b < 256 = small 0 in
    let high : b / 16 < 16 = omega arith in
    let low : b % 16 < 16 = omega arith in
    rw (kept (b / 16) high, kept (b % 16) low, digits_stay rest (λ i. small (suc i))) refl
