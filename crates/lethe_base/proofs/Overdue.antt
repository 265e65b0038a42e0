-- Where a layout stands for a history, what it holds isn't overdue.
use Rattle.std.proofs.Common.{◌≡◌, ◌⊎◌, inl, inr, ℕ, ◌+◌, ◌<◌, ◌≤◌, true, false, IsTrue, Option, Some, None, IsSomeAnd, option_map, option_and_then, refl, sym, ap, ◌∙◌, arith}
use Rattle.lethe_base.specs.Keys.{Bytes}
use Rattle.lethe_base.specs.Ranges.{Ends}
use Rattle.lethe_base.specs.History.{History, Change, change_at, clock_before}
use Rattle.lethe_base.specs.Causes.{done_call, done_at, is_eraser, erases_if, cause_of, IsErasedAt, IsOverdue}
use Rattle.lethe_base.specs.Matching.{IsPut}
use Rattle.lethe_base.specs.Layout.{Layout}
use Rattle.lethe_base.specs.Held.{Holds}
use Rattle.lethe_base.specs.Covered.{IsNoErase}
use Rattle.lethe_base.specs.Covers.{Covers}
use Rattle.lethe_base.specs.declared.call.Call.{Call}
use Rattle.lethe_base.specs.declared.call.Call.TheVariants.{Put, Delete, Erase, Tick, Work}
use Rattle.lethe_base.specs.declared.call.Did.{Did}
use Rattle.lethe_base.specs.declared.call.Did.TheVariants.{Done, Failed}
use Rattle.lethe_base.specs.declared.entry.Entry.{Entry}
use Rattle.lethe_base.proofs.CauseLaws.{cause_is_first}
use Rattle.lethe_base.proofs.HeldLaws.{shown_held}

-- a done delete or a done erase
abbrev pub IsDeleteOrErase : Option Call → Type 0
IsDeleteOrErase call = ((key : Bytes) × (call ≡ Some (Delete key))) ⊎ ((range : Ends) × (call ≡ Some (Erase range)))

-- what erases is a done delete or a done erase
eraser_is : (key : Bytes) (dkey : ℕ) (did : Did) (call : Call) → IsTrue (erases_if key dkey did call) → IsDeleteOrErase (done_call did call)
eraser_is key dkey (Failed before after) call is = absurd (let clash : false ≡ true = is in cc)
eraser_is key dkey Done (Put other d value) is = absurd (let clash : false ≡ true = is in cc)
eraser_is key dkey Done (Delete other) is = inl (other, refl)
eraser_is key dkey Done (Erase range) is = inr (range, refl)
eraser_is key dkey Done (Tick to) is = absurd (let clash : false ≡ true = is in cc)
eraser_is key dkey Done Work is = absurd (let clash : false ≡ true = is in cc)

-- what was deleted wasn't erased by a range
pub no_erase : (h : History) (key : Bytes) (place : ℕ) → done_at h place ≡ Some (Delete key) → IsNoErase h place
no_erase h key place deleted range erased = let clash : Some (Delete key) ≡ Some (Erase range) = sym deleted ∙ erased in cc

pub erased_is : (h : History) (key : Bytes) (dkey place : ℕ) → IsErasedAt h key dkey place → IsDeleteOrErase (done_at h place)
erased_is h key dkey place is = by (change_at h place) is
  where
    by : (o : Option Change) → IsSomeAnd o (λ change. IsTrue (is_eraser key dkey change)) → IsDeleteOrErase (option_and_then (λ change. done_call change.did change.call) o)
    by None is = absurd is
    by (Some change) is = eraser_is key dkey change.did change.call is

module _ (threshold : ℕ) (h : History) (l : Layout) (covers : Covers threshold h l) (entry : Entry) (swept : ℕ) (held : Holds l entry swept) (put : IsPut entry.body) where
  not_due : (cause : ℕ) → cause_of h entry.seq ≡ Some cause → l.clock < clock_before h cause + threshold
  not_due cause is = let first = cause_is_first h entry.seq cause is in elim (erased_is h first.key first.dkey cause first.erases) [
    | inl deleted ↦
        let above = covers.deletes_covered entry swept cause held put is (no_erase h deleted.0 cause deleted.1) in
        let there = shown_held l above.above above.shown in
        let timed = covers.times_fresh.entries above.above there.0 above.since there.1 above.has in
        let fresh : l.clock < above.since + threshold = timed.fresh in
        let old : above.since ≤ clock_before h cause = above.old in
        omega arith
    | inr erased ↦
        let pending = (covers.erases_covered.pending entry swept cause erased.0 held put is erased.1).0 in
        let timed = covers.times_fresh.erases pending.0 (inl pending.1) in
        let accepted = covers.places.erases pending.0 (inl pending.1) in
        let fresh : l.clock < pending.0.time + threshold = timed.fresh in
        let same : pending.0.time ≡ clock_before h cause = accepted.timed ∙ ap (clock_before h) pending.2 in
        omega arith
  ]

pub none_overdue : (threshold : ℕ) (h : History) (l : Layout) → Covers threshold h l → (entry : Entry) (swept : ℕ) → Holds l entry swept → IsPut entry.body
    → IsOverdue threshold h l.clock entry.seq → ⊥
none_overdue threshold h l covers entry swept held put overdue = by (cause_of h entry.seq) refl overdue
  where
    by : (o : Option ℕ) → cause_of h entry.seq ≡ o → IsSomeAnd (option_map (clock_before h) o) (λ since. since + threshold ≤ l.clock) → ⊥
    by None is overdue = absurd overdue
    by (Some cause) is overdue = let later = not_due threshold h l covers entry swept held put cause is in absurd (omega arith)
