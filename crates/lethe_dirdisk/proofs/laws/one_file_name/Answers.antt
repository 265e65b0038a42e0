use Rattle.std.proofs.Common.{◌≡◌, arith}
use Rattle.lethe_dirdisk.specs.FileNames.{letter, digits}
use Rattle.lethe_dirdisk.proofs.Digits.{same_digits, same_letter}
use Rattle.lethe_dirdisk.proofs.laws.one_file_name.Goals as goal

pub returns : goal.returns
returns c = λ a b small_a small_b same.
    let letters : letter a.kind ≡ letter b.kind = cc in
    let texts : digits 20 a.no ≡ digits 20 b.no = cc in
    let kind = same_letter a.kind b.kind letters in
    let number = same_digits 20 a.no b.no (omega arith) (omega arith) texts in
    λ i. record { kind = kind i; no = number i }
