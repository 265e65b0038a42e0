-- The certificate that a manifest has prepared, with a digest.
use Rattle.std.proofs.Common.{◌≡◌, ℕ, Bool, true, false, cond, List, Option, Some, None, ap}
use Rattle.std.specs.Prelude.{nat_le, option_map}
use Rattle.lethe_cert.specs.declared.certificate.Certificate.{Certificate}
use Rattle.lethe_manifest.specs.declared.manifest.LastCert.{LastCert}
use Rattle.lethe_manifest.specs.declared.manifest.Manifest.{Manifest}

abbrev pub certificate_by : List ℕ → Manifest → ℕ → Option Certificate
certificate_by digest manifest to = cond (nat_le manifest.config.threshold to) (option_map (λ last. record { number = last.number; clock = last.clock; before = last.before; digest = digest }) manifest.certificate) None

pub prepared : (digest : List ℕ) (last : Option LastCert) (certificate : Certificate) → option_map (λ last. record { number = last.number; clock = last.clock; before = last.before; digest = digest }) last ≡ Some certificate
    → last ≡ Some (record { number = certificate.number; clock = certificate.clock; before = certificate.before })
prepared digest None certificate is = absurd (let clash : None ≡ Some certificate = is in cc)
prepared digest (Some last) certificate is =
    let told : Certificate = record { number = last.number; clock = last.clock; before = last.before; digest = digest } in
    let same : told ≡ certificate = cc in
    ap (λ (certificate : Certificate). Some (record { number = certificate.number; clock = certificate.clock; before = certificate.before })) same

pub where_so : {X : Type 0} (b : Bool) (o : Option X) (x : X) → cond b o None ≡ Some x → o ≡ Some x
where_so true o x is = is
where_so false o x is = absurd (let clash : None ≡ Some x = is in cc)
