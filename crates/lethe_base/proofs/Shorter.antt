-- A layout stands for its history also without the erases that are spent.
use Rattle.std.proofs.Common.{◌≡◌, inl, inr, ℕ, ◌+◌, ◌-◌, ◌<◌, ◌≤◌, Bool, true, false, nat_lt, ◌&&◌, ◌||◌, if◌then◌else◌, List, [], ◌∷◌, Contains, Some, None, refl, sym, ap, ◌∙◌, subst, arith}
use Rattle.std.proofs.lemmas.Grind.{common_steps}
use Rattle.std.proofs.lemmas.List.Elements.{Contains-append_right}
use Rattle.std.specs.Cmp.{both_ways}
use Rattle.std.specs.List.{list_any}
use Rattle.lethe_base.specs.Ranges.{in_range}
use Rattle.lethe_base.specs.Keys.{Bytes}
use Rattle.lethe_base.specs.History.{Pair, History}
use Rattle.lethe_base.specs.Causes.{done_at, IsErasedAt}
use Rattle.lethe_base.specs.Matching.{IsPut, matches, pair_under, answer_under}
use Rattle.lethe_base.specs.Layout.{Layout}
use Rattle.lethe_base.specs.Held.{Holds, Shows, Tells}
use Rattle.lethe_base.specs.Spent.{IsSpent, IsShorter}
use Rattle.lethe_base.specs.Placed.{IsPlaced}
use Rattle.lethe_base.specs.SameMap.{IsNewest}
use Rattle.lethe_base.specs.Covered.{HasErase}
use Rattle.lethe_base.specs.Covers.{Covers}
use Rattle.lethe_base.specs.declared.call.Call.TheVariants.{Put, Erase}
use Rattle.lethe_base.specs.declared.entry.Body.{Body}
use Rattle.lethe_base.specs.declared.entry.Body.TheVariants as body
use Rattle.lethe_base.specs.declared.entry.Entry.{Entry}
use Rattle.lethe_base.specs.declared.pending.Pending.{Pending}
use Rattle.lethe_base.proofs.CauseLaws.{cause_by, cause_is_first, erased_by}
use Rattle.lethe_base.proofs.HeldLaws.{shown_held}
use Rattle.lethe_base.proofs.Newest.{first_is, first_or_rest}
use Rattle.lethe_base.proofs.Overdue.{erased_is, no_erase}

-- some element passes a test exactly where the test of any passes
any_found : {X : Type 0} (p : X → Bool) (xs : List X) → list_any p xs ≡ true → (x : X) × Contains xs x × (p x ≡ true)
any_found p [] is = absurd (let clash : false ≡ true = is in cc)
any_found p (x ∷ xs) is = by (p x) refl
    (λ rest. let found = any_found p xs rest in (found.0, Contains-append_right (x ∷ []) xs found.0 found.1, found.2))
  where
    by : (b : Bool) → p x ≡ b → (list_any p xs ≡ true → (y : _) × Contains (x ∷ xs) y × (p y ≡ true)) → (y : _) × Contains (x ∷ xs) y × (p y ≡ true)
    by true at rest = (x, first_is x xs x refl, at)
    by false at rest = rest (ap (λ b. b || list_any p xs) (sym at) ∙ is)

any_made : {X : Type 0} (p : X → Bool) (xs : List X) (x : X) → Contains xs x → p x ≡ true → list_any p xs ≡ true
any_made p [] x there passes = absurd (let lt : there.0 < 0 = there.1 in omega arith)
any_made p (y ∷ xs) x there passes = elim (first_or_rest y xs x there) [
  | inl same ↦ ap (λ b. b || list_any p xs) (ap p same ∙ passes)
  | inr rest ↦ ap (λ b. p y || b) (any_made p xs x rest passes) ∙ or_true (p y)
]
  where
    or_true : (b : Bool) → (b || true) ≡ true
    or_true true = refl
    or_true false = refl

both_true : (a b : Bool) → (a && b) ≡ true → (a ≡ true) × (b ≡ true)
both_true true true is = (refl, refl)
both_true true false is = absurd (let clash : false ≡ true = is in cc)
both_true false b is = absurd (let clash : false ≡ true = is in cc)

module _ (threshold : ℕ) (h : History) (l : Layout) (covers : Covers threshold h l) where
  -- a spent erase is no cause of what is held
  not_cause : (entry : Entry) (swept : ℕ) (erase : Pending) → Holds l entry swept → IsPut entry.body → IsSpent l erase → entry.seq < erase.seq → swept < erase.seq → ⊥
  not_cause entry swept erase held put spent below unswept = elim held [
    | inl recorded ↦ let above : erase.seq ≤ entry.seq = spent.segments entry recorded.0 put in absurd (omega arith)
    | inr filed ↦ let done : erase.seq ≤ filed.0.file.swept = spent.files filed.0.file filed.0.there in
        let same : swept ≡ filed.0.file.swept = filed.1 in absurd (omega arith)
  ]

  -- a spent erase matches no newest put
  missed : (entry : Entry) (dkey : ℕ) (value : Bytes) (erase : Pending) → IsNewest (Shows l) entry → entry.body ≡ body.Put dkey value → Contains l.pending erase
      → IsSpent l erase → matches erase entry.seq dkey ≡ true → ⊥
  missed entry dkey value erase newest is there spent hit =
      let parts = both_true (nat_lt entry.seq erase.seq) (in_range erase.range dkey) hit in
      let lower : nat_lt entry.seq erase.seq ≡ true = parts.0 in
      let below : entry.seq < erase.seq = grind (arith, common_steps) in
      let held = shown_held l entry newest.shown in
      let put : IsPut entry.body = subst IsPut (sym is) tt in
      let placed : done_at h entry.seq ≡ Some (Put entry.key dkey value) = subst (IsPlaced h entry.seq entry.key) is (covers.places.entries entry held.0 held.1) in
      let accepted = covers.places.erases erase (inl there) in
      let back : erase.seq ≡ entry.seq + (erase.seq - entry.seq - 1) + 1 = omega arith in
      let erased = subst (IsErasedAt h entry.key dkey) back (erased_by h erase.seq (Erase erase.range) entry.key dkey accepted.done parts.1) in
      let cause = cause_by h entry.seq (erase.seq - entry.seq - 1) entry.key dkey value placed erased in
      let first = cause_is_first h entry.seq cause.0 cause.1 in
      let upto : cause.0 ≤ entry.seq + (erase.seq - entry.seq - 1) + 1 = cause.2 in
      elim (erased_is h first.key first.dkey cause.0 first.erases) [
        | inl deleted ↦
            let above = covers.deletes_covered entry held.0 cause.0 held.1 put cause.1 (no_erase h deleted.0 cause.0 deleted.1) in
            let last : above.above.seq ≤ entry.seq = newest.last above.above above.shown above.same in
            let newer : entry.seq < above.above.seq = above.newer in
            absurd (omega arith)
        | inr swept ↦
            let unswept : held.0 < cause.0 = (covers.erases_covered.pending entry held.0 cause.0 swept.0 held.1 put cause.1 swept.1).1 in
            not_cause entry held.0 erase held.1 put spent below (omega arith)
      ]

  module _ (pending : List Pending) (shorter : IsShorter l pending) where
    same_any : (entry : Entry) (dkey : ℕ) (value : Bytes) → IsNewest (Shows l) entry → entry.body ≡ body.Put dkey value
        → list_any (λ erase. matches erase entry.seq dkey) pending ≡ list_any (λ erase. matches erase entry.seq dkey) l.pending
    same_any entry dkey value newest is = both_ways _ _
        (λ some. let found = any_found (λ erase. matches erase entry.seq dkey) pending some in
        any_made (λ erase. matches erase entry.seq dkey) l.pending found.0 (shorter.known found.0 found.1) found.2)
        (λ some. let found = any_found (λ erase. matches erase entry.seq dkey) l.pending some in elim (shorter.spent found.0 found.1) [
          | inl there ↦ any_made (λ erase. matches erase entry.seq dkey) pending found.0 there found.2
          | inr spent ↦ absurd (missed entry dkey value found.0 newest is found.1 spent found.2)
        ])

    same_answer : (entry : Entry) → IsNewest (Shows l) entry → answer_under pending entry ≡ answer_under l.pending entry
    same_answer entry newest = by entry.body refl
      where
        by : (b : Body) → entry.body ≡ b → pair_under pending entry.seq b ≡ pair_under l.pending entry.seq b
        by (body.Put dkey value) is = ap (λ any. if any then None else Some (let pair : Pair = (dkey, value) in pair)) (same_any entry dkey value newest is)
        by body.Tomb is = refl

    known : (erase : Pending) → Tells (record l { pending = pending }) erase → Tells l erase
    known erase is = elim is [
      | inl there ↦ inl (shorter.known erase there)
      | inr recorded ↦ inr recorded
    ]

    still : (entry : Entry) (swept cause : ℕ) → Holds l entry swept → IsPut entry.body → entry.seq < cause → swept < cause → HasErase l.pending cause → HasErase pending cause
    still entry swept cause held put below unswept has = elim (shorter.spent has.0 has.1) [
      | inl there ↦ (has.0, there, has.2)
      | inr spent ↦ let at : has.0.seq ≡ cause = has.2 in absurd (not_cause entry swept has.0 held put spent (omega arith) (omega arith))
    ]

    pub shorter_covers : Covers threshold h (record l { pending = pending })
    shorter_covers = record {
      places = record {
        entries = covers.places.entries;
        erases = λ erase is. covers.places.erases erase (known erase is);
      };
      newer_above = record {
        runs = covers.newer_above.runs;
        active_frozen = covers.newer_above.active_frozen;
        active_files = covers.newer_above.active_files;
        frozen_files = covers.newer_above.frozen_files;
        active_buffer = covers.newer_above.active_buffer;
        frozen_buffer = covers.newer_above.frozen_buffer;
      };
      same_map = record {
        newest = λ entry newest. same_answer entry newest ∙ covers.same_map.newest entry newest;
        absent = covers.same_map.absent;
      };
      deletes_covered = covers.deletes_covered;
      erases_covered = record {
        pending = λ entry swept cause range held put is at.
            let old = covers.erases_covered.pending entry swept cause range held put is at in
            (still entry swept cause held put (cause_is_first h entry.seq cause is).later old.1 old.0, old.1);
        swept = covers.erases_covered.swept;
        unswept = λ file erase entry there pending. covers.erases_covered.unswept file erase entry there (shorter.known erase pending);
      };
      times_fresh = record {
        entries = covers.times_fresh.entries;
        erases = λ erase is. covers.times_fresh.erases erase (known erase is);
      };
    }
