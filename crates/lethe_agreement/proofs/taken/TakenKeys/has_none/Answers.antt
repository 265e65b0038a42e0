use Rattle.std.proofs.Common.{◌≡◌, ℕ, length, get_or, refl, subst, arith}
use Rattle.std.specs.List.{AllWithin}
use Rattle.std.proofs.lemmas.List.Elements.{All-from_all_within, AllWithin-more, at_read}
use Rattle.lethe_base.specs.declared.entry.Entry.{Entry}
use Rattle.lethe_agreement.specs.Soundness.{IsTaken}
use Rattle.lethe_agreement.proofs.taken.TakenKeys.has_none.Goals as goal

pub returns-then-contains : goal.returns-then-contains
returns-then-contains c =
    let entry = c.entry-item.result in
    let there : IsTaken c.args.self.now (get_or c.args.entries.now c.loop-entry.entry-index entry).key =
    subst (λ (e : Entry). IsTaken c.args.self.now e.key) c.entry-item.is (c.if-contains.ensures.0 refl) in
    (λ e. absurd cc, λ none. absurd (none c.loop-entry.entry-index entry c.loop-entry-test.true there))

pub loop-entry-preserved : goal.loop-entry-preserved
loop-entry-preserved c =
    let P : Entry → Type 0 = λ entry. IsTaken c.args.self.now entry.key → ⊥ in
    let none : P c.entry-item.result = λ there. let e = c.if-contains.ensures.1 there in absurd cc in
    AllWithin-more P c.args.entries.now 0 c.loop-entry.entry-index c.loop-entry.invariant
    (at_read c.args.entries.now P c.loop-entry.entry-index c.entry-item.result c.loop-entry-test.true c.entry-item.is none)

pub returns : goal.returns
returns c =
    let P : Entry → Type 0 = λ entry. IsTaken c.args.self.now entry.key → ⊥ in
    let end : c.loop-entry.entry-index ≡ length c.args.entries.now = omega arith in
    (λ e. All-from_all_within P c.args.entries.now (subst (λ (n : ℕ). AllWithin P c.args.entries.now 0 n) end c.loop-entry.invariant), λ none. refl)
