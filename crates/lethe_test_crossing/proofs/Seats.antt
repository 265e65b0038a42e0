-- What a seat knows behind its turn.
use Rattle.std.proofs.Common.{◌≡◌, ◌<◌, ℕ, List, [], Some, refl, sym, ◌∙◌, subst, arith}
use Rattle.lethe_turn.specs.Seats.{Finished, HasSeenMore, IsFree, Joined, Seated, first_view, left_of, passed, right_of}

-- the seat has no turn, and knows what the turn began with
abbrev pub IsReady : {E M V : Type 0} → Seated E M V → Type 0
IsReady {E} {M} {V} m = IsFree m × ((opened : V) × (m.0.opened ≡ Some opened))

pub ready_again : {E M V : Type 0} (before held after : Seated E M V) → IsReady before → HasSeenMore before.0 held.0 → after ≡ (passed held.0, []) → IsReady after
ready_again before held after ready more is =
    subst IsReady (sym is) ((refl, (subst (λ n. 0 < n) (sym more.parts) ready.0.1.0, refl, refl)), (ready.1.0, more.opened ∙ ready.1.1))

pub ready_left : {E M V : Type 0} (first one : Seated E M V) (opened : V) (count : ℕ) → first ≡ (first_view opened count, []) → one ≡ (left_of first.0, first.1) → IsReady one
ready_left first one opened count is left =
    subst IsReady (sym left) (subst (λ m. IsReady (left_of m.0, m.1)) (sym is) ((refl, (omega arith, refl, refl)), (opened, refl)))

pub ready_right : {E M V : Type 0} (first other : Seated E M V) (opened : V) (count : ℕ) → first ≡ (first_view opened count, []) → other ≡ (right_of first.0, []) → IsReady other
ready_right first other opened count is right =
    subst IsReady (sym right) (subst (λ m. IsReady (right_of m.0, [])) (sym is) ((refl, (omega arith, refl, refl)), (opened, refl)))

-- what each value behind the turn is like, the one that comes out is like
pub comes_out : {E M V : Type 0} (P : V → Type 0) (fits : List M → Type 0) (one other both : Seated E M V) (x : V) → IsReady one → Joined one.0 other.0 both.0
    → Finished (λ (opened : V) (entries : List E) (marks : List M) (y : V). P y) fits both.0 x → P x
comes_out P fits one other both x ready joined done = done.leads ready.1.0 (done.more.opened ∙ joined.opened ∙ ready.1.1)
