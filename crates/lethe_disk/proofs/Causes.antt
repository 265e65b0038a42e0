-- A refusal of one of several reads is one of all of them.
use Rattle.std.proofs.Common.{◌≡◌, ◌≤◌, ℕ, Result, Err, refl, ap, ◌∙◌, arith}
use Rattle.std.specs.Prelude.{IsErrOf}
use Rattle.lethe_base.specs.Counts.{Rose}
use Rattle.lethe_base.specs.declared.name.Name.{Name}
use Rattle.lethe_disk.specs.Reads.{HasReadCause, IsFault, refused_since}
use Rattle.lethe_disk.specs.declared.cursor.ReadRefused.{ReadRefused}
use Rattle.lethe_disk.specs.declared.cursor.ReadRefused.TheVariants.{ReadFault, Damaged, NoMemory}

pub cause_since : {T U : Type 0} (old mid new : ℕ) (why : ReadRefused) → old ≤ mid → HasReadCause {T = T} mid new (Err why) → HasReadCause {T = U} old new (Err (refused_since old why))
cause_since {T} {U} old mid new why le h = record { later = omega (arith, h.later, le); fault = by why h.fault }
  where
    by : (why : ReadRefused) → ((before after : ℕ) → IsErrOf {T = T} (Err why) (ReadFault before after) → (before ≡ mid) × (after ≡ new) × Rose before after) → (before after : ℕ) → IsErrOf {T = U} (Err (refused_since old why)) (ReadFault before after) → (before ≡ old) × (after ≡ new) × Rose before after
    by (ReadFault b a) fault before after e =
        let was = fault b a refl in
        let first : before ≡ old = cc in
        let last : after ≡ a = cc in
        (first, last ∙ was.1, omega (arith, was.0, was.2, first, last, le))
    by (Damaged name) fault before after e = absurd cc
    by NoMemory fault before after e = absurd cc

pub fault_since : {T U : Type 0} (old : ℕ) (why : ReadRefused) → IsFault {T = U} (Err (refused_since old why)) → IsFault {T = T} (Err why)
fault_since old (ReadFault before after) f = (before, after, refl)
fault_since old (Damaged name) (before, after, e) = absurd cc
fault_since old NoMemory (before, after, e) = absurd cc

pub damage_since : {T U : Type 0} (old : ℕ) (why : ReadRefused) (name : Name) → IsErrOf {T = U} (Err (refused_since old why)) (Damaged name) → IsErrOf {T = T} (Err why) (Damaged name)
damage_since old (ReadFault before after) name e = absurd cc
damage_since {T} old (Damaged other) name e = let same : other ≡ name = cc in ap (λ (n : Name). let r : Result T ReadRefused = Err (Damaged n) in r) same
damage_since old NoMemory name e = absurd cc

same_refusal : {T U : Type 0} (why other : ReadRefused) → IsErrOf {T = U} (Err why) other → IsErrOf {T = T} (Err why) other
same_refusal {T} why other e = let same : why ≡ other = cc in ap (λ (w : ReadRefused). let r : Result T ReadRefused = Err w in r) same

pub cause_as : {T U : Type 0} (old new : ℕ) (why : ReadRefused) → HasReadCause {T = T} old new (Err why) → HasReadCause {T = U} old new (Err why)
cause_as {T} {U} old new why h = record { later = h.later; fault = λ before after e. h.fault before after (same_refusal {T = T} {U = U} why (ReadFault before after) e) }

pub damage_as : {T U : Type 0} (why : ReadRefused) (name : Name) → IsErrOf {T = U} (Err why) (Damaged name) → IsErrOf {T = T} (Err why) (Damaged name)
damage_as {T} {U} why name e = same_refusal {T = T} {U = U} why (Damaged name) e
