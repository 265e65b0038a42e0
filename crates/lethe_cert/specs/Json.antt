-- A certificate as JSON.
use Rattle.std.specs.Prelude.{◌≡◌, ◌<◌, ◌^◌, ℕ, List, ◌++◌, length, Some, codes, IsUtf8}
use Rattle.std.specs.Fmt.{decimal}
use Rattle.hex.specs.Hex.{encode_lower}
use Rattle.serde_json.specs.Data.{Data, member, no_members, number, object, string, unsigned}
use Rattle.serde_json.specs.Read.{read}
use Rattle.lethe_base.specs.Keys.{Bytes}
use Rattle.lethe_base.specs.Numbers.{IsBytes}
use Rattle.lethe_cert.specs.declared.certificate.Certificate.{Certificate}
use Rattle.lethe_cert.specs.Text.{HasText}

-- the text in which it is written
abbrev pub certificate_json : Certificate → Bytes
certificate_json c =
    codes "{\"before\":" ++ (decimal c.before ++ (codes ",\"clock\":" ++ (decimal c.clock ++ (codes ",\"number\":" ++ (decimal c.number ++ (codes ",\"sha256\":\"" ++ (encode_lower c.digest ++ codes "\"}")))))))

-- a whole number
abbrev pub whole : ℕ → Data
whole n = number (unsigned n)

-- a text of the lower-case digits of these bytes
abbrev pub digits : Bytes → Data
digits bytes = string (encode_lower bytes)

-- an object of the certificate's numbers and a text
abbrev pub with_digest : Certificate → Bytes → Data
with_digest c text =
    object (member (codes "before") (whole c.before)
    (member (codes "clock") (whole c.clock)
    (member (codes "number") (whole c.number)
    (member (codes "sha256") (string text) no_members))))

-- the value that it is: an object with just these members
abbrev pub json_data : Certificate → Data
json_data c = with_digest c (encode_lower c.digest)

-- the bytes are text that reads as it
abbrev pub IsJsonOf : Bytes → Certificate → Type 0
IsJsonOf bytes c = IsUtf8 bytes × (read bytes ≡ Some (json_data c))

-- what it shows fits the fields: numbers of 64 bits, and bytes
pub record HasJson (c : Certificate) : Type 0 where
  pub text : HasText c
  pub clock : c.clock < 2 ^ 64

-- a digest has 32 bytes
abbrev pub IsDigest : List ℕ → Type 0
IsDigest digest = (length digest ≡ 32) × IsBytes digest
