use Rattle.std.proofs.Common.{◌≡◌, ◌∙◌, ◌-◌, ℕ, zero, suc, List, [], ◌∷◌, length, ⊎_elim, inl, inr, sym, ap, subst, arith}
use Rattle.std.specs.Prelude.{Contains, slice_get}
use Rattle.std.proofs.lemmas.List.Elements.{Contains-append_cases}
use Rattle.lethe_base.specs.declared.entry.Body.TheVariants.{Put}
use Rattle.lethe_base.specs.Keys.{Bytes}
use Rattle.lethe_read.specs.Between.{AreListedFrom, comes_next}
use Rattle.lethe_read.proofs.Listing.{pair_listed}
use Rattle.lethe_read.proofs.scanning.push_pair.Goals as goal

pub returns-in_ok-push-clause-listed : goal.returns-in_ok-push-clause-listed
returns-in_ok-push-clause-listed c =
    let pairs = c.args.pairs.now.items in
    let next : Bytes × ℕ × Bytes = (c.args.entry.key, c.in-Put.dkey, c.in-Put.value) in
    let last = c.last.ensures.value ∙ ap (λ l. slice_get l (length l - 1)) c.deref.ensures.value in
    subst (AreListedFrom c.args.lo.now) (sym c.in_ok-push.ensures.items)
    (pair_listed c.args.lo.now pairs c.requires next (ap (λ o. comes_next c.args.lo.now o c.args.entry.key) (sym last) ∙ sym c.comes_next.ensures ∙ c.if-not-comes_next.false))

only : (next pair : Bytes × ℕ × Bytes) → Contains (next ∷ []) pair → next ≡ pair
only next pair (zero, lt, at) = at
only next pair (suc k, lt, at) = absurd (omega (arith, lt))

pub returns-in_ok-push-clause-among : goal.returns-in_ok-push-clause-among
returns-in_ok-push-clause-among c = λ pair has.
    let next : Bytes × ℕ × Bytes = (c.args.entry.key, c.in-Put.dkey, c.in-Put.value) in
    let cases = Contains-append_cases c.args.pairs.now.items (next ∷ []) pair (subst (λ (pairs : List (Bytes × ℕ × Bytes)). Contains pairs pair) c.in_ok-push.ensures.items has) in
    ⊎_elim (λ before. inl before) (λ last. let same = only next pair last in inr (ap (λ (p : Bytes × ℕ × Bytes). p.0) same, c.in-Put.is ∙ ap (λ (p : Bytes × ℕ × Bytes). Put p.1 p.2) same)) cases
