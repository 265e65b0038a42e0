-- The text of a certificate's object.
use Rattle.std.proofs.Common.{◌≡◌, ◌<◌, ◌++◌, ◌∷◌, [], ℕ, codes, slice_index, ap, append_assoc, decimal}
use Rattle.hex.specs.Hex.{encode_lower}
use Rattle.json.specs.Print.{escape}
use Rattle.serde_json.specs.Written.{compact_text}
use Rattle.serde_json.proofs.OnLiterals.{serde_json_on_literals}
use Rattle.lethe_base.specs.Keys.{Bytes}
use Rattle.lethe_cert.specs.declared.certificate.Certificate.{Certificate}
use Rattle.lethe_cert.specs.Json.{certificate_json, json_data}
use Rattle.lethe_cert.proofs.Digits.{digits_stay}

-- behind the digest
digest_end : (digest : Bytes) → ((i : ℕ) → slice_index digest i < 256) → (escape (encode_lower digest) ++ 34 ∷ []) ++ 125 ∷ [] ≡ encode_lower digest ++ 34 ∷ 125 ∷ []
digest_end digest small = rw (digits_stay digest small) (append_assoc (encode_lower digest) (34 ∷ []) (125 ∷ []))

pub text_is : (c : Certificate) → ((i : ℕ) → slice_index c.digest i < 256) → compact_text (json_data c) ≡ certificate_json c
unfolding serde_json_on_literals
text_is c small =
    ap (λ (tail : Bytes). codes "{\"before\":" ++ (decimal c.before ++ (codes ",\"clock\":" ++ (decimal c.clock ++ (codes ",\"number\":" ++ (decimal c.number ++ (codes ",\"sha256\":\"" ++ tail)))))))
    (digest_end c.digest small)
