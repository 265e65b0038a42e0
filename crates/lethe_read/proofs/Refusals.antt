-- What several reads tell where one of them is refused.
use Rattle.std.proofs.Common.{◌≡◌, ℕ, ◌≤◌, Err, sym, ap, subst, ◌∙◌}
use Rattle.std.specs.Prelude.{IsErrOf}
use Rattle.lethe_base.specs.declared.name.Name.{Name}
use Rattle.lethe_base.specs.declared.refused.Refused.{Refused}
use Rattle.lethe_base.specs.declared.refused.Refused.TheVariants as refused
use Rattle.lethe_disk.specs.Reads.{HasReadCause, refused_since}
use Rattle.lethe_disk.specs.declared.cursor.ReadRefused.{ReadRefused}
use Rattle.lethe_disk.specs.declared.cursor.ReadRefused.TheVariants.{Damaged}
use Rattle.lethe_disk.specs.declared.cursor.ReadRefused.TheVariants as disk
use Rattle.lethe_disk.proofs.Causes.{cause_since, damage_since}
use Rattle.lethe_read.specs.Refusals.{IsReadRefusal, told_as}

pub cause_handed_on : {T U : Type 0} (old mid new before : ℕ) (why told : ReadRefused) → before ≡ old → told ≡ refused_since before why → old ≤ mid
    → HasReadCause {T = T} mid new (Err why) → HasReadCause {T = U} old new (Err told)
cause_handed_on {T} {U} old mid new before why told before_is told_is from cause =
    subst (λ (w : ReadRefused). HasReadCause {T = U} old new (Err w)) (ap (λ (n : ℕ). refused_since n why) (sym before_is) ∙ sym told_is) (cause_since {T = T} {U = U} old mid new why from cause)

pub damage_handed_on : {T U : Type 0} (before : ℕ) (why told : ReadRefused) (name : Name) → told ≡ refused_since before why → IsErrOf {T = U} (Err told) (Damaged name) → IsErrOf {T = T} (Err why) (Damaged name)
damage_handed_on {T} {U} before why told name is e = damage_since {T = T} {U = U} before why name (subst (λ (w : ReadRefused). IsErrOf {T = U} (Err w) (Damaged name)) is e)

-- As the store tells them

pub damage_told : (why : ReadRefused) (name : Name) → told_as why ≡ refused.Damaged name → why ≡ disk.Damaged name
damage_told (disk.Damaged other) name e = let same : other ≡ name = cc in ap disk.Damaged same
damage_told (disk.ReadFault before behind) name e = absurd (let clash : refused.ReadFault before behind ≡ refused.Damaged name = e in cc)
damage_told disk.NoMemory name e = absurd (let clash : refused.NoMemory ≡ refused.Damaged name = e in cc)

pub fault_told : (why : ReadRefused) (before behind : ℕ) → told_as why ≡ refused.ReadFault before behind → why ≡ disk.ReadFault before behind
fault_told (disk.ReadFault b a) before behind e = let first : b ≡ before = cc in let last : a ≡ behind = cc in (λ i. disk.ReadFault (first i) (last i))
fault_told (disk.Damaged other) before behind e = absurd (let clash : refused.Damaged other ≡ refused.ReadFault before behind = e in cc)
fault_told disk.NoMemory before behind e = absurd (let clash : refused.NoMemory ≡ refused.ReadFault before behind = e in cc)

pub told_reads : (why : ReadRefused) → IsReadRefusal (told_as why)
told_reads (disk.ReadFault before behind) = tt
told_reads (disk.Damaged name) = tt
told_reads disk.NoMemory = tt

pub err_told : {T : Type 0} {why other : Refused} → IsErrOf {T = T} (Err why) other → why ≡ other
err_told is = cc
