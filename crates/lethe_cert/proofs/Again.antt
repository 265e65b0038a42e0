-- A certificate's text as JSON reads as the certificate.
use Rattle.std.proofs.Common.{◌≡◌, ◌∙◌, ◌<◌, ◌^◌, ◌++◌, [], ℕ, true, List, Option, Some, option_and_then, codes, append-nil, refl, sym, ap, arith, decimal}
use Rattle.std.specs.Str.{IsUtf8}
use Rattle.std.proofs.lemmas.Fmt.{IsAscii-decimal}
use Rattle.std.proofs.lemmas.Str.{IsUtf8-append, IsUtf8-from_ascii}
use Rattle.hex.specs.Hex.{encode_lower, lower_digits}
use Rattle.hex.proofs.HexLemmas.{IsAscii-encode_with}
use Rattle.json.specs.Json.{Json, if_last, value}
use Rattle.json.specs.Lex.{tokens}
use Rattle.json.specs.Print.{ArePrintable, print}
use Rattle.json.specs.Token.{Token}
use Rattle.json.specs.Tree.{json_tokens}
use Rattle.json.proofs.Printed.Decimals.{IsNumber-decimal}
use Rattle.json.proofs.Printed.Tokens.{tokens-print}
use Rattle.json.proofs.Printed.Trees.{value-json_tokens}
use Rattle.json.proofs.Printed.Utf8.{IsUtf8-are_ascii, are_ascii}
use Rattle.serde_json.specs.Data.{Data}
use Rattle.serde_json.specs.Read.{max_depth, of_json, read}
use Rattle.serde_json.specs.Written.{outline}
use Rattle.serde_json.proofs.Numbers.{number_of-decimal}
use Rattle.serde_json.proofs.Texts.{print-outline}
use Rattle.lethe_base.specs.Keys.{Bytes}
use Rattle.lethe_base.specs.Numbers.{IsBytes}
use Rattle.lethe_cert.specs.declared.certificate.Certificate.{Certificate}
use Rattle.lethe_cert.specs.Json.{HasJson, IsDigest, IsJsonOf, certificate_json, json_data}
use Rattle.lethe_cert.proofs.Digits.{lower_is_ascii}
use Rattle.lethe_cert.proofs.Texts.{text_is}
use Rattle.lethe_cert.proofs.Told.{digits_tell}

printable : (c : Certificate) → HasJson c → ArePrintable (json_tokens (outline (json_data c)))
unfolding ArePrintable
printable c has = (tt, (tt, (IsNumber-decimal c.before has.text.before, (tt, (IsNumber-decimal c.clock has.clock, (tt, (IsNumber-decimal c.number has.text.number, (tt, (tt, (tt, tt))))))))))

is_read : (c : Certificate) → HasJson c → of_json (outline (json_data c)) ≡ Some (json_data c)
is_read c has = rw (number_of-decimal c.before has.text.before, number_of-decimal c.clock has.clock, number_of-decimal c.number has.text.number) refl

abbrev whole : Option (Json × List Token) → Option Data
whole o = option_and_then of_json (option_and_then (λ p. if_last p.0 p.1) o)

reads : (c : Certificate) → HasJson c → read (certificate_json c) ≡ Some (json_data c)
reads c has =
    let j = outline (json_data c) in
    let text : certificate_json c ≡ print (json_tokens j) = sym (text_is c has.text.digest) ∙ sym (print-outline (json_data c)) in
    let parts : tokens (certificate_json c) ≡ json_tokens j ++ [] = ap tokens text ∙ tokens-print _ (printable c has) ∙ sym (append-nil _) in
    ap whole (ap (value max_depth) parts ∙ value-json_tokens j max_depth [] (omega arith)) ∙ is_read c has

-- lower-case digits are text
digits_are_text : (bytes : Bytes) → IsUtf8 (encode_lower bytes)
digits_are_text bytes = IsUtf8-from_ascii _ (IsAscii-encode_with lower_digits bytes lower_is_ascii)

-- a number is text, and so is what stands around it
then : (front : Bytes) (n : ℕ) (rest : Bytes) → are_ascii front ≡ true → n < 2 ^ 64 → IsUtf8 rest → IsUtf8 (front ++ (decimal n ++ rest))
then front n rest plain small text = IsUtf8-append front _ (IsUtf8-are_ascii front plain) (IsUtf8-append _ rest (IsUtf8-from_ascii _ (IsAscii-decimal n small)) text)

is_text : (c : Certificate) → HasJson c → IsUtf8 (certificate_json c)
is_text c has =
    then (codes "{\"before\":") c.before _ refl has.text.before
    (then (codes ",\"clock\":") c.clock _ refl has.clock
    (then (codes ",\"number\":") c.number _ refl has.text.number
    (IsUtf8-append (codes ",\"sha256\":\"") _ (IsUtf8-are_ascii _ refl)
    (IsUtf8-append _ (codes "\"}") (digits_are_text c.digest) (IsUtf8-are_ascii _ refl)))))

pub written_reads : (c : Certificate) → HasJson c → IsJsonOf (certificate_json c) c
written_reads c has = (is_text c has, reads c has)

-- one value is the JSON of one certificate
one_value : (a b : Certificate) → IsBytes a.digest → IsBytes b.digest → json_data a ≡ json_data b → a ≡ b
one_value a b a_bytes b_bytes same =
    let before : a.before ≡ b.before = cc in
    let clock : a.clock ≡ b.clock = cc in
    let number : a.number ≡ b.number = cc in
    let letters : encode_lower a.digest ≡ encode_lower b.digest = cc in
    let digest = digits_tell a.digest b.digest a_bytes b_bytes letters in
    λ i. record { number = number i; clock = clock i; before = before i; digest = digest i }

pub one_reading : (bytes : Bytes) (a b : Certificate) → IsDigest a.digest → IsDigest b.digest → IsJsonOf bytes a → IsJsonOf bytes b → a ≡ b
one_reading bytes a b a_is b_is a_read b_read =
    let same : Some (json_data a) ≡ Some (json_data b) = sym a_read.1 ∙ b_read.1 in
    one_value a b a_is.1 b_is.1 cc
