-- The text of a certificate.
use Rattle.std.specs.Prelude.{◌<◌, ◌^◌, ◌++◌, codes}
use Rattle.std.specs.Fmt.{decimal}
use Rattle.hex.specs.Hex.{encode_lower}
use Rattle.lethe_base.specs.Keys.{Bytes}
use Rattle.lethe_base.specs.Numbers.{IsBytes}
use Rattle.lethe_cert.specs.declared.certificate.Certificate.{Certificate}

-- `cert N before B sha256 H`, where H is the digest in lower-case hexadecimal digits
abbrev pub certificate_text : Certificate → Bytes
certificate_text c = codes "cert " ++ decimal c.number ++ codes " before " ++ decimal c.before ++ codes " sha256 " ++ encode_lower c.digest

-- what the text shows fits the fields: numbers of 64 bits, and bytes
pub record HasText (c : Certificate) : Type 0 where
  pub number : c.number < 2 ^ 64
  pub before : c.before < 2 ^ 64
  pub digest : IsBytes c.digest
