use Rattle.std.proofs.Common.{◌≡◌, List, All, refl, ap, sym, subst, ◌∙◌}
use Rattle.lethe_base.specs.declared.entry.Entry.{Entry}
use Rattle.lethe_file.specs.Agreement.{Agrees, IsWithin, entries_in, keys_of}
use Rattle.lethe_agreement.specs.Soundness.{IsSpelled, IsTaken}
use Rattle.lethe_agreement.proofs.KeySets.{Has}
use Rattle.lethe_agreement.proofs.Parts as parts
use Rattle.lethe_agreement.proofs.sound.is_sound.Goals as goal
use Rattle.lethe_agreement.proofs.sound.is_sound.Goals.{then-not-is_within-via-then-not-is_within, then-not-is_within-via-else-not-is_within+then-not-has_none}

pub returns-then-not-is_within-clause-exact : goal.returns-then-not-is_within-clause-exact
returns-then-not-is_within-clause-exact c =
    let tile = c.args.tile.now in
    let line = c.args.line.now in
    let taken = IsTaken c.args.taken.now in
    let entries = c.in-Some.entries.items in
    let bytes = c.args.bytes.now in
    let is : IsSpelled entries bytes = rw c.in-Some.is at c.in_ok-entries.ensures in
    let Within : List Entry → Type 0 = All (λ entry. IsWithin tile entry.key) in
    let Apart : List Entry → Type 0 = All (λ entry. taken entry.key → ⊥) in
    elim c.then-not-is_within.branch [
      | then-not-is_within-via-then-not-is_within w ↦ (λ e. absurd cc, λ sound. w.if-not-is_within.ensures.1 (subst Within (sym c.deref.ensures.value) (parts.is_within tile line taken entries bytes is sound)))
      | then-not-is_within-via-else-not-is_within+then-not-has_none w ↦ (λ e. absurd cc, λ sound. w.if-not-has_none.ensures.1 (subst Apart (sym w.deref-else-not-is_within.ensures.value) (parts.is_apart tile line taken entries bytes is sound)))
    ]

pub returns-clause-exact : goal.returns-clause-exact
returns-clause-exact c =
    let tile = c.args.tile.now in
    let taken = IsTaken c.args.taken.now in
    let entries = c.in-Some.entries.items in
    let bytes = c.args.bytes.now in
    let is : IsSpelled entries bytes = rw c.in-Some.is at c.in_ok-entries.ensures in
    let agrees : Agrees c.args.line.now bytes = (rw c.in-Some-2.is at c.in_ok-keys.ensures.agrees).0 refl in
    let within : All (λ entry. IsWithin tile entry.key) entries = subst (All (λ entry. IsWithin tile entry.key)) c.deref.ensures.value (c.if-not-is_within.ensures.0 refl) in
    let apart : All (λ entry. taken entry.key → ⊥) entries = subst (All (λ entry. taken entry.key → ⊥)) c.deref-else-not-is_within.ensures.value (c.if-not-has_none.ensures.0 refl) in
    (λ e. parts.is_sound tile c.args.line.now taken entries bytes is agrees within apart, λ sound. refl)

pub returns-clause-taken : goal.returns-clause-taken
returns-clause-taken c = λ e.
    let entries = c.in-Some.entries.items in
    let bytes = c.args.bytes.now in
    let is : IsSpelled entries bytes = rw c.in-Some.is at c.in_ok-entries.ensures in
    let keys : c.in-Some-2.keys.items ≡ keys_of entries = rw c.in-Some-2.is at c.in_ok-keys.ensures.keys in
    let all : c.in-Some-2.keys.items ≡ keys_of (entries_in bytes) = keys ∙ ap keys_of (sym (parts.entries_are entries bytes is)) in
    subst (Has c.take.new.self.keys (IsTaken c.args.taken.now)) all c.in_ok-take.ensures
