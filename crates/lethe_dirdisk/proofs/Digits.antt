-- What digits say of their number, and a letter of its kind.
use Rattle.std.proofs.Common.{◌≡◌, ℕ, zero, suc, ◌+◌, ◌-◌, ◌*◌, ◌/◌, ◌%◌, ◌^◌, ◌<◌, ◌≤◌, List, [], ◌∷◌, ◌++◌, length, take, drop, set, get_or, refl, sym, ap, ◌∙◌, subst, arith}
use Rattle.std.specs.Prelude.{◌==◌, if◌then◌else◌}
use Rattle.std.specs.Char.{IsNotAsciiDigit}
use Rattle.std.proofs.Math.Nat.{pow-suc, pow-succ', div-lt_iff_lt-mul, div-add-mod, div-div-eq-div-mul, div-one, div-le_self, one-le-pow, mod-lt}
use Rattle.std.proofs.Math.Seq.{take-suc, append_snoc}
use Rattle.std.proofs.lemmas.Nat.{pow-add}
use Rattle.std.proofs.lemmas.List.{drop-set, length_push, take-append-le, take_all, length-take-le}
use Rattle.lethe_base.specs.declared.name.Kind.{Kind}
use Rattle.lethe_base.specs.declared.name.Kind.TheVariants.{Gate, Manifest, Segment, File, Page}
use Rattle.std.specs.Str.{IsAscii, IsUtf8}
use Rattle.std.proofs.lemmas.Str.{IsUtf8-from_ascii, IsAscii-append}
use Rattle.std.proofs.lemmas.Str.Ascii.{IsAscii-nil, IsAscii-push}
use Rattle.lethe_base.specs.declared.name.Name.{Name}
use Rattle.lethe_dirdisk.specs.FileNames.{letter, digits, file_name}

kind_from : ℕ → Kind
kind_from byte = if byte == 103 then Gate else (if byte == 109 then Manifest else (if byte == 115 then Segment else (if byte == 102 then File else Page)))

kind_again : (kind : Kind) → kind_from (letter kind) ≡ kind
unfolding kind_from
kind_again Gate = refl
kind_again Manifest = refl
kind_again Segment = refl
kind_again File = refl
kind_again Page = refl

-- each kind has a letter of its own
pub same_letter : (a b : Kind) → letter a ≡ letter b → a ≡ b
same_letter a b same = sym (kind_again a) ∙ ap kind_from same ∙ kind_again b

pub length-digits : (count number : ℕ) → length (digits count number) ≡ count
length-digits zero number = refl
length-digits (suc count) number = let shorter = length-digits count (number / 10) in let pushed = length_push (digits count (number / 10)) (48 + number % 10) in omega arith

-- two lists as long with one element more are equal only where both parts are
pub same_push : (xs ys : List ℕ) (x y : ℕ) → length xs ≡ length ys → xs ++ x ∷ [] ≡ ys ++ y ∷ [] → (xs ≡ ys) × (x ≡ y)
same_push [] [] x y long same = (refl, ap (λ l. get_or l 0 0) same)
same_push [] (b ∷ ys) x y long same = absurd (omega (arith, long))
same_push (a ∷ xs) [] x y long same = absurd (omega (arith, long))
same_push (a ∷ xs) (b ∷ ys) x y long same =
    let heads : a ≡ b = cc in
    let tails : xs ++ x ∷ [] ≡ ys ++ y ∷ [] = cc in
    let rest = same_push xs ys x y (omega (arith, long)) tails in
    (ap (λ z. z ∷ xs) heads ∙ ap (λ zs. b ∷ zs) rest.0, rest.1)

-- one digit fewer
fewer : (count number : ℕ) → number < 10 ^ suc count → number / 10 < 10 ^ count
fewer count number small = let more = pow-suc 10 count in (div-lt_iff_lt-mul {k = 10} {x = number} {y = 10 ^ count} (omega arith)).1 (omega arith)

-- so many digits tell a number that has no more
pub same_digits : (count a b : ℕ) → a < 10 ^ count → b < 10 ^ count → digits count a ≡ digits count b → a ≡ b
same_digits zero a b small_a small_b same = omega arith
same_digits (suc count) a b small_a small_b same =
    let long = length-digits count (a / 10) ∙ sym (length-digits count (b / 10)) in
    let parts = same_push (digits count (a / 10)) (digits count (b / 10)) (48 + a % 10) (48 + b % 10) long same in
    let front = same_digits count (a / 10) (b / 10) (fewer count a small_a) (fewer count b small_b) parts.0 in
    let last = parts.1 in
    omega (arith, div-add-mod a 10, div-add-mod b 10)

-- the front of a number's digits are those of the number without the last ones
front_digits : (count front last number : ℕ) → count ≡ front + last → take front (digits count number) ≡ digits front (number / 10 ^ last)
front_digits count front zero number is =
    let all : take front (digits front number) ≡ digits front number = take_all front (digits front number) (let long = length-digits front number in omega arith) in
    let same : count ≡ front = omega arith in
    let whole : number / 10 ^ 0 ≡ number = div-one number in
    subst (λ c. take front (digits c number) ≡ digits front (number / 10 ^ 0)) (sym same) (all ∙ ap (digits front) (sym whole))
front_digits zero front (suc last) number is = absurd (omega (arith, is))
front_digits (suc count) front (suc last) number is =
    let long = length-digits count (number / 10) in
    let shorter = front_digits count front last (number / 10) (omega (arith, is)) in
    let divided : number / 10 / 10 ^ last ≡ number / 10 ^ suc last = div-div-eq-div-mul number 10 (10 ^ last) ∙ ap (λ n. number / n) (sym (pow-succ' 10 last)) in
    take-append-le front (digits count (number / 10)) ((48 + number % 10) ∷ []) (omega arith) ∙ shorter ∙ ap (digits front) divided

-- The number behind so many digits of a text that spells one in 20 digits: it has one digit more, which the text has next.
pub record IsNextDigit (value digit next : ℕ) : Type 0 where
  pub front : value ≡ next / 10
  pub last : digit ≡ 48 + next % 10
  pub small : next < 2 ^ 64

pub next_digit : (text : List ℕ) (at value number : ℕ) → at < 20 → length text ≡ 20 → take at text ≡ digits at value → value < 10 ^ at → number < 2 ^ 64 → text ≡ digits 20 number
    → (next : ℕ) × IsNextDigit value (get_or text at 0) next
next_digit text at value number within long told small least is =
    let next : ℕ = number / 10 ^ (19 - at) in
    let fronts : take (suc at) text ≡ digits (suc at) next = ap (take (suc at)) is ∙ front_digits 20 (suc at) (19 - at) number (omega arith) in
    let one_more = take-suc text at 0 (omega arith) in
    let lengths : length (take at text) ≡ length (digits at (next / 10)) = length-take-le at text (omega arith) ∙ sym (length-digits at (next / 10)) in
    let parts = same_push (take at text) (digits at (next / 10)) (get_or text at 0) (48 + next % 10) lengths (sym one_more ∙ fronts) in
    let whole : 20 ≡ suc at + (19 - at) = omega arith in
    let few : next < 10 ^ suc at = (div-lt_iff_lt-mul {k = 10 ^ (19 - at)} {x = number} {y = 10 ^ suc at} (one-le-pow (19 - at) 10 (omega arith))).1 (subst (λ n. number < n) (pow-add 10 (suc at) (19 - at)) (subst (λ n. number < 10 ^ n) whole (omega arith))) in (
      next,
      record {
        front = same_digits at value (next / 10) small (fewer at next few) (sym told ∙ parts.0);
        last = parts.1;
        small = let below = div-le_self number (10 ^ (19 - at)) in omega arith;
      },
    )

-- the last of some digits, written before those behind it
written : (count number at : ℕ) (text : List ℕ) → at < length text → digits count (number / 10) ++ drop at (set text at (48 + number % 10)) ≡ digits (suc count) number ++ drop (at + 1) text
written count number at text within = ap (λ l. digits count (number / 10) ++ l) (drop-set text at (48 + number % 10) within) ∙ sym (append_snoc (digits count (number / 10)) (48 + number % 10) (drop (at + 1) text))

pub one_written : (number at : ℕ) (text : List ℕ) → 2 < at → at ≤ length text → digits (at - 1 - 2) (number / 10) ++ drop (at - 1) (set text (at - 1) (48 + number % 10)) ≡ digits (at - 2) number ++ drop at text
one_written number at text more within =
    let front : suc (at - 1 - 2) ≡ at - 2 = omega arith in
    let behind : at - 1 + 1 ≡ at = omega arith in
    written (at - 1 - 2) number (at - 1) text (omega arith) ∙ ap (λ n. digits n number ++ drop (at - 1 + 1) text) front ∙ ap (λ n. digits (at - 2) number ++ drop n text) behind

-- the next digit is one
pub no_digit : (value digit next : ℕ) → IsNextDigit value digit next → IsNotAsciiDigit digit → ⊥
no_digit value digit next is not = let last = is.last in let below = mod-lt next {m = 10} (omega arith) in grind (arith, not)

-- and has room in a number of 64 bits
pub no_room : (value digit next : ℕ) → IsNextDigit value digit next → value * 10 + (digit - 48) < 2 ^ 64
no_room value digit next is = let front = is.front in let last = is.last in let small = is.small in omega (arith, div-add-mod next 10)

ascii_digits : (count number : ℕ) → IsAscii (digits count number)
ascii_digits zero number = IsAscii-nil
ascii_digits (suc count) number = let below = mod-lt number {m = 10} (omega arith) in IsAscii-push (digits count (number / 10)) (48 + number % 10) (ascii_digits count (number / 10)) (omega arith)

ascii_letter : (kind : Kind) → letter kind < 128
ascii_letter Gate = omega arith
ascii_letter Manifest = omega arith
ascii_letter Segment = omega arith
ascii_letter File = omega arith
ascii_letter Page = omega arith

-- the name of a file is text
pub text_file_name : (name : Name) → IsUtf8 (file_name name)
text_file_name name = IsUtf8-from_ascii (file_name name) (IsAscii-append (letter name.kind ∷ 45 ∷ []) (digits 20 name.no) (IsAscii-push (letter name.kind ∷ []) 45 (IsAscii-push [] (letter name.kind) IsAscii-nil (ascii_letter name.kind)) (omega arith)) (ascii_digits 20 name.no))
