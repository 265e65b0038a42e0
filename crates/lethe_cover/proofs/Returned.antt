-- Erases that are spent may come back to the pending ones.
use Rattle.std.proofs.Common.{◌≡◌, inl, inr, ℕ, true, List, Contains, refl, sym, ◌∙◌, subst, arith}
use Rattle.std.specs.Cmp.{both_ways}
use Rattle.lethe_cover.proofs.Common.{EntriesCover, ⊎_elim, Bytes, History, IsPut, matches, answer_under, Layout, Holds, Shows, IsAccepted, IsNewest, IsFresh, Covers, Entry, Pending, shown_held}
use Rattle.lethe_base.specs.Spent.{IsSpent, IsShorter}
use Rattle.lethe_base.specs.declared.entry.Body.TheVariants as body
use Rattle.lethe_cover.proofs.Bridge.{entries_cover, layout_covers, same_order}
use Rattle.lethe_cover.proofs.Erasures.{any_match, any_found, any_made, match_parts}
use Rattle.lethe_cover.proofs.Replaced.{unswept}

module _ (threshold : ℕ) (h : History) (l : Layout) (pending : List Pending) (covers : Covers threshold h (record l { pending = pending })) (shorter : IsShorter l pending)
    (accepted : (erase : Pending) → Contains l.pending erase → IsAccepted h erase × IsFresh threshold h l.clock erase.time)
  where
    -- a spent erase matches no newest put
    missed : (entry : Entry) (dkey : ℕ) (value : Bytes) (erase : Pending) → IsNewest (Shows l) entry → entry.body ≡ body.Put dkey value → IsAccepted h erase → IsSpent l erase
        → matches erase entry.seq dkey ≡ true → ⊥
    missed entry dkey value erase newest is done spent hit =
        let held = shown_held l entry newest.shown in
        elim held.1 [
          | inl recorded ↦ omega (arith, spent.segments entry recorded.0 (subst IsPut (sym is) tt), (match_parts erase entry.seq dkey hit).0)
          | inr filed ↦
              unswept threshold h l.clock (Holds l) (Shows l) pending (entries_cover threshold h (record l { pending = pending }) covers)
              entry filed.0.file.swept dkey value erase newest (inr (filed.0, refl)) is done hit (spent.files filed.0.file filed.0.there)
        ]

    same_any : (entry : Entry) → IsNewest (Shows l) entry → (dkey : ℕ) (value : Bytes) → entry.body ≡ body.Put dkey value → any_match l.pending entry.seq dkey ≡ any_match pending entry.seq dkey
    same_any entry newest dkey value is = both_ways _ _
        (λ some. let found = any_found l.pending entry.seq dkey some in elim (shorter.spent found.0 found.1) [
          | inl there ↦ any_made pending entry.seq dkey found.0 there found.2
          | inr spent ↦ absurd (missed entry dkey value found.0 newest is (accepted found.0 found.1).0 spent found.2)
        ])
        (λ some. let found = any_found pending entry.seq dkey some in any_made l.pending entry.seq dkey found.0 (shorter.known found.0 found.1) found.2)

    same_answer : (entry : Entry) → IsNewest (Shows l) entry → answer_under l.pending entry ≡ answer_under pending entry
    same_answer entry newest = grind (arith, same_any entry newest)

    returned_entries : EntriesCover threshold h l.clock (Holds l) (Shows l) l.pending
    returned_entries = record {
      held = shown_held l;
      places = covers.places.entries;
      same_map = record { newest = λ entry newest. same_answer entry newest ∙ covers.same_map.newest entry newest; absent = covers.same_map.absent };
      deletes_covered = covers.deletes_covered;
      erases_covered = λ entry swept cause range held put is at.
          let old = covers.erases_covered.pending entry swept cause range held put is at in
          let has = old.0 in
          ((has.0, shorter.known has.0 has.1, has.2), old.1);
      times_fresh = covers.times_fresh.entries;
    }

    pub returned_covers : Covers threshold h l
    returned_covers = layout_covers threshold h l returned_entries (same_order (record l { pending = pending }) l.clock l.count l.next l.certificate l.pending covers.newer_above)
        (λ erase. ⊎_elim (accepted erase) (λ recorded. (covers.places.erases erase (inr recorded), covers.times_fresh.erases erase (inr recorded))))
        covers.erases_covered.swept
        (λ file erase entry there among unswept spelled. ⊎_elim (λ old. covers.erases_covered.unswept file erase entry there old unswept spelled)
        (λ spent. omega (arith, spent.files file there)) (shorter.spent erase among))
