-- Where inputs go and what is left of them comes, the entries say of the history what they said.
use Rattle.std.proofs.Common.{◌⊎◌, ◌≡◌, inl, inr, ℕ, ◌+◌, ◌-◌, ◌<◌, ◌≤◌, true, List, Option, Some, None, sym, ◌∙◌, subst, arith, false, Contains, refl, ap}
use Rattle.lethe_base.specs.declared.entry.Body.TheVariants as body
use Rattle.std.specs.FinMap as finmap
use Rattle.lethe_cover.proofs.Common.{⊎_elim, IsKept, Bytes, History, Pair, after, clock_before, done_at, cause_of, IsErasedAt, Ends, IsPut, matches, pair_under, answer_under, IsPlaced, IsAccepted, Put, Erase, Entry, Pending, cause_by, cause_is_first, erased_by, EntriesCover, IsFrom, IsDropped, IsOutcome, IsApplied, IsReplaced, cases_lt, nat_tests, pair_of, IsNewest, IsCovered, IsNoErase, HasErase, IsFresh, Body}
use Rattle.lethe_base.proofs.Overdue.{erased_is, no_erase}
use Rattle.lethe_cover.proofs.Erasures.{any_match, unstruck, match_parts, any_found, any_made, under_some, answer_applied}

-- a newest put wasn't swept of an erase that matches it: it was swept of no erase that is its cause, and what a delete ends is not newest
pub unswept : (threshold : ℕ) (h : History) (clock : ℕ) (holds : Entry → ℕ → Type 0) (shows : Entry → Type 0) (pending : List Pending) → EntriesCover threshold h clock holds shows pending
    → (entry : Entry) (swept dkey : ℕ) (value : Bytes) (erase : Pending) → IsNewest shows entry → holds entry swept → entry.body ≡ body.Put dkey value → IsAccepted h erase
    → matches erase entry.seq dkey ≡ true → erase.seq ≤ swept → ⊥
unswept threshold h clock holds shows pending covers entry swept dkey value erase newest held is accepted hit upto =
    let parts = match_parts erase entry.seq dkey hit in
    let put : IsPut entry.body = subst IsPut (sym is) tt in
    let placed : done_at h entry.seq ≡ Some (Put entry.key dkey value) = subst (IsPlaced h entry.seq entry.key) is (covers.places entry swept held) in
    let at : erase.seq ≡ entry.seq + (erase.seq - entry.seq - 1) + 1 = omega arith in
    let erased = subst (IsErasedAt h entry.key dkey) at (erased_by h erase.seq (Erase erase.range) entry.key dkey accepted.done parts.1) in
    let cause = cause_by h entry.seq (erase.seq - entry.seq - 1) entry.key dkey value placed erased in
    let first = cause_is_first h entry.seq cause.0 cause.1 in
    elim (erased_is h first.key first.dkey cause.0 first.erases) [
      | inl deleted ↦
          let covered = covers.deletes_covered entry swept cause.0 held put cause.1 (no_erase h deleted.0 cause.0 deleted.1) in
          omega (arith, newest.last covered.above covered.shown covered.same, covered.newer)
      | inr by_range ↦ omega (arith, (covers.erases_covered entry swept cause.0 by_range.0 held put cause.1 by_range.1).1)
    ]

-- an erase that is the cause of a put matches it
match_of : (h : History) (seq : ℕ) (key : Bytes) (dkey : ℕ) (value : Bytes) (erase : Pending) → done_at h seq ≡ Some (Put key dkey value)
    → cause_of h seq ≡ Some erase.seq → IsAccepted h erase → matches erase seq dkey ≡ true
match_of h seq key dkey value erase put caused accepted =
    let first = cause_is_first h seq erase.seq caused in
    let same : Some (Put first.key first.dkey first.value) ≡ Some (Put key dkey value) = sym first.put ∙ put in
    let d : first.dkey ≡ dkey = cc in
    grind (arith, nat_tests)

-- where the erases are applied, what was put or deleted stands, or is a tombstone where one matched it
placed_under : (h : History) (applied : List Pending) (seq : ℕ) (key : Bytes) (b made : Body) → ((erase : Pending) → Contains applied erase → IsAccepted h erase)
    → IsPlaced h seq key b → pair_of made ≡ pair_under applied seq b → IsPlaced h seq key made
placed_under h applied seq key body.Tomb body.Tomb accepted placed is = placed
placed_under h applied seq key body.Tomb (body.Put dkey value) accepted placed is = absurd (grind arith)
placed_under h applied seq key (body.Put dkey value) (body.Put d v) accepted placed is =
    let some = under_some applied seq (body.Put dkey value) (d, v) (sym is) in grind arith
placed_under h applied seq key (body.Put dkey value) body.Tomb accepted placed is =
    let found = any_found applied seq dkey (grind arith) in
    let parts = match_parts found.0 seq dkey found.2 in
    inr (record { dkey = dkey; value = value; put = placed; place = found.0.seq; range = found.0.range; erase = (accepted found.0 found.1).done; later = parts.0; matched = parts.1 })

-- what covers an entry covers it then, unless it goes where the outputs are alone
covered_then : (applied : List Pending) (Alone : Type 0) (inputs outputs shows shows_rest shows_then : Entry → Type 0)
    → ((entry : Entry) → shows entry → shows_rest entry ⊎ inputs entry) → ((entry : Entry) → shows_rest entry → shows_then entry) → ((entry : Entry) → outputs entry → shows_then entry)
    → ((input : Entry) → inputs input → IsKept Alone outputs input ⊎ IsDropped applied Alone inputs outputs input)
    → (entry : Entry) (time : ℕ) → ((above : Entry) → above.key ≡ entry.key → entry.seq < above.seq → inputs above → Alone → ⊥) → IsCovered shows entry time → IsCovered shows_then entry time
covered_then applied Alone inputs outputs shows shows_rest shows_then split stays comes kept entry time clear is = grind (arith, split is.above is.shown, kept is.above)

module _ (threshold : ℕ) (h : History) (clock : ℕ) (pending applied : List Pending) (Alone : Type 0) (inputs outputs : Entry → Type 0) (swept : ℕ)
    (holds : Entry → ℕ → Type 0) (shows : Entry → Type 0) (holds_rest : Entry → ℕ → Type 0) (shows_rest : Entry → Type 0) (holds_then : Entry → ℕ → Type 0) (shows_then : Entry → Type 0)
    (covers : EntriesCover threshold h clock holds shows pending) (outcome : IsOutcome applied Alone inputs outputs)
    (applies : IsApplied threshold h clock holds pending applied inputs swept)
    (replaced : IsReplaced Alone inputs outputs swept holds shows holds_rest shows_rest holds_then shows_then)
  where
    -- what the erases match of a newest input, a pending one matches
    pends : (input : Entry) → IsNewest shows input → inputs input → (dkey : ℕ) (value : Bytes) → input.body ≡ body.Put dkey value → any_match applied input.seq dkey ≡ true → any_match pending input.seq dkey ≡ true
    pends input newest taken dkey value is any =
        let found = any_found applied input.seq dkey any in
        elim (applies.sound found.0 input dkey value found.1 taken is found.2) [
          | inl there ↦ any_made pending input.seq dkey found.0 there found.2
          | inr before ↦ absurd (unswept threshold h clock holds shows pending covers input before.0 dkey value found.0 newest before.1 is (applies.accepted found.0 found.1) found.2 before.2)
        ]

    -- what is newest then is newer than all that was seen of its key
    last_then : (entry : Entry) → IsNewest shows_then entry → (before : Entry) → shows before → before.key ≡ entry.key → before.seq ≤ entry.seq
    last_then entry newest before shown same = grind arith

    newest_then : (entry : Entry) → IsNewest shows_then entry → answer_under pending entry ≡ finmap.get (after h).map entry.key
    newest_then entry newest = elim (replaced.only entry newest.shown) [
      | inl rest ↦ covers.same_map.newest entry (record { shown = replaced.rest_shown entry rest; last = last_then entry newest })
      | inr made ↦
          let from = outcome.source entry made in
          let was : IsNewest shows from.input = record {
            shown = replaced.inputs_shown from.input from.newest.shown;
            last = λ before shown same. omega (arith, last_then entry newest before shown (same ∙ from.same), from.place);
          } in
          ap (λ seq. pair_under pending seq entry.body) (sym from.place)
          ∙ answer_applied pending applied from.input.seq entry.body from.input.body (pends from.input was from.newest.shown) from.answer
          ∙ covers.same_map.newest from.input was ∙ ap (finmap.get (after h).map) from.same
    ]

    module _ (key : Bytes) (none : (entry : Entry) → shows_then entry → entry.key ≡ key → ⊥) where
      dropped_newest : (entry : Entry) → entry.key ≡ key → (dropped : IsDropped applied Alone inputs outputs entry) → IsNewest shows dropped.newest
      dropped_newest entry named dropped = grind (arith, dropped.is, replaced.inputs_shown dropped.newest, replaced.split, replaced.stays, none)

      -- what is dropped answered nothing
      nothing : (pair : Pair) → finmap.get (after h).map key ≡ Some pair → (entry : Entry) → entry.key ≡ key → IsDropped applied Alone inputs outputs entry → ⊥
      nothing pair got entry named dropped =
          let newest = dropped.newest in
          let was = dropped_newest entry named dropped in
          let some = under_some pending newest.seq newest.body pair (covers.same_map.newest newest was ∙ ap (finmap.get (after h).map) (dropped.same ∙ named) ∙ got) in
          grind (arith, dropped.nothing, some, pends newest was dropped.is.shown pair.0 pair.1)

      gone : (pair : Pair) → finmap.get (after h).map key ≡ Some pair → (entry : Entry) → shows entry → entry.key ≡ key → ⊥
      gone pair got entry shown named = grind (arith, nothing pair got entry named)

      absent_then : finmap.get (after h).map key ≡ None
      absent_then = by (finmap.get (after h).map key) refl
        where
          by : (o : Option Pair) → finmap.get (after h).map key ≡ o → finmap.get (after h).map key ≡ None
          by None got = got
          by (Some pair) got = covers.same_map.absent key (gone pair got)

    -- an output says what its source says, or is a tombstone where an erase matched that
    placed_output : (output : Entry) → outputs output → IsPlaced h output.seq output.key output.body
    placed_output output made =
        let from = outcome.source output made in
        let held = covers.held from.input (replaced.inputs_shown from.input from.newest.shown) in
        let placed = placed_under h applied from.input.seq from.input.key from.input.body output.body applies.accepted (covers.places from.input held.0 held.1) from.answer in
        subst (λ key. IsPlaced h output.seq key output.body) from.same (subst (λ seq. IsPlaced h seq from.input.key output.body) from.place placed)

    -- an output that is a put has a source that is a put, which no erase matches
    source_put : (output : Entry) (from : IsFrom applied inputs output) → IsPut output.body → IsPut from.input.body
    source_put output from put = subst IsPut (sym (unstruck applied from.input.seq from.input.body output.body from.answer put).2) tt

    deletes_then : (entry : Entry) (upto cause : ℕ) → holds_then entry upto → IsPut entry.body → cause_of h entry.seq ≡ Some cause → IsNoErase h cause → IsCovered shows_then entry (clock_before h cause)
    deletes_then entry upto cause held put is no_erase = elim (replaced.only_held entry upto held) [
      | inl rest ↦ still (λ above same newer taken alone. let over = replaced.clear alone entry above upto rest taken (sym same) in omega arith)
          (covers.deletes_covered entry upto cause (replaced.rest_held entry upto rest) put is no_erase)
      | inr made ↦
          let from = outcome.source entry made.0 in
          let held = covers.held from.input (replaced.inputs_shown from.input from.newest.shown) in
          let old = covers.deletes_covered from.input held.0 cause held.1 (source_put entry from put) (ap (cause_of h) from.place ∙ is) no_erase in
          still (λ above same newer taken alone. omega (arith, from.newest.last above taken (same ∙ sym from.same), from.place, newer))
          (record { above = old.above; shown = old.shown; same = old.same ∙ from.same; newer = omega arith; since = old.since; has = old.has; old = old.old })
    ]
      where
        still : ((above : Entry) → above.key ≡ entry.key → entry.seq < above.seq → inputs above → Alone → ⊥) → IsCovered shows entry (clock_before h cause) → IsCovered shows_then entry (clock_before h cause)
        still = covered_then applied Alone inputs outputs shows shows_rest shows_then replaced.split replaced.stays replaced.comes outcome.kept entry (clock_before h cause)

    -- a pending erase up to that place is applied, so that a put of which it is the cause becomes a tombstone, or the input was swept of it
    unmatched : (output : Entry) (from : IsFrom applied inputs output) → IsPut output.body → (range : Ends) (erase : Pending) → cause_of h from.input.seq ≡ Some erase.seq → done_at h erase.seq ≡ Some (Erase range)
        → Contains pending erase → erase.seq ≤ swept → ⊥
    unmatched output from put range erase is erased there upper =
        let input = from.input in
        elim (applies.complete erase input there upper from.newest.shown) [
          | inl among ↦
              let own = unstruck applied input.seq input.body output.body from.answer put in
              let held = covers.held input (replaced.inputs_shown input from.newest.shown) in
              let hit = match_of h input.seq input.key own.0 own.1 erase (subst (IsPlaced h input.seq input.key) own.2 (covers.places input held.0 held.1)) is (applies.accepted erase among) in
              let clash : true ≡ false = sym (any_made applied input.seq own.0 erase among hit) ∙ own.3 in cc
          | inr before ↦ omega (arith, before.2, (covers.erases_covered input before.0 erase.seq range before.1 (source_put output from put) is erased).1)
        ]

    erases_then : (entry : Entry) (upto cause : ℕ) (range : Ends) → holds_then entry upto → IsPut entry.body → cause_of h entry.seq ≡ Some cause → done_at h cause ≡ Some (Erase range) → HasErase pending cause × (upto < cause)
    erases_then entry upto cause range held put is erased = elim (replaced.only_held entry upto held) [
      | inl rest ↦ covers.erases_covered entry upto cause range (replaced.rest_held entry upto rest) put is erased
      | inr made ↦
          let from = outcome.source entry made.0 in
          let held = covers.held from.input (replaced.inputs_shown from.input from.newest.shown) in
          let there : cause_of h from.input.seq ≡ Some cause = ap (cause_of h) from.place ∙ is in
          let has = (covers.erases_covered from.input held.0 cause range held.1 (source_put entry from put) there erased).0 in
          let at : has.0.seq ≡ cause = has.2 in
          let low = unmatched entry from put range has.0 (there ∙ ap Some (sym at)) (ap (done_at h) at ∙ erased) has.1 in
          (has, ⊎_elim (λ lower. omega (arith, made.1)) (λ upper. absurd (low (omega arith))) (cases_lt swept cause))
    ]

    fresh_then : (entry : Entry) (upto since : ℕ) → holds_then entry upto → entry.since ≡ Some since → IsFresh threshold h clock since
    fresh_then entry upto since held has = elim (replaced.only_held entry upto held) [
      | inl rest ↦ covers.times_fresh entry upto since (replaced.rest_held entry upto rest) has
      | inr made ↦ elim (outcome.since entry since made.0 has) [
        | inl from ↦ let held = covers.held from.0 (replaced.inputs_shown from.0 from.1) in covers.times_fresh from.0 held.0 since held.1 from.2
        | inr struck ↦
            let erase = struck.0 in
            let accepted = applies.accepted erase struck.1 in
            record { place = erase.seq; call = Erase erase.range; done = accepted.done; erasure = tt; timed = sym struck.2 ∙ accepted.timed; fresh = omega (arith, applies.fresh erase struck.1, struck.2) }
      ]
    ]

    pub replaced_cover : EntriesCover threshold h clock holds_then shows_then pending
    replaced_cover = record {
      held = replaced.is_held;
      places = λ entry upto held. ⊎_elim (λ rest. covers.places entry upto (replaced.rest_held entry upto rest)) (λ made. placed_output entry made.0) (replaced.only_held entry upto held);
      same_map = record { newest = newest_then; absent = absent_then };
      deletes_covered = deletes_then;
      erases_covered = erases_then;
      times_fresh = fresh_then;
    }
