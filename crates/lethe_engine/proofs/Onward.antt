-- A store goes on, and stands for what it has kept since it was opened.
use Rattle.std.proofs.Common.{◌≡◌, ◌≤◌, inl, inr, ℕ, ◌+◌, ◌<◌, List, [], ◌∷◌, ◌++◌, length, map, Option, Some, None, refl, sym, ap, ◌∙◌, subst, append_assoc, append-nil, arith}
use Rattle.std.specs.Prelude.{All, IfSome, option_map}
use Rattle.std.specs.Option.{option_map_or}
use Rattle.std.proofs.lemmas.Bool.{cases_lt}
use Rattle.std.proofs.lemmas.List.Elements.{All-append, All-cons, All-nil, All-weaker}
use Rattle.lethe_base.specs.Counts.{Rose}
use Rattle.std.proofs.lemmas.List.{length-append, length-map, map-append}
use Rattle.lethe_base.specs.History.{History, Change, AreDone, IsLegal}
use Rattle.lethe_base.specs.Limits.{max_place}
use Rattle.lethe_base.proofs.Histories.{done_push, legal_push}
use Rattle.lethe_base.specs.Keys.{Bytes}
use Rattle.lethe_base.specs.Ranges.{Ends}
use Rattle.lethe_base.specs.declared.call.Call.{Call}
use Rattle.lethe_base.specs.declared.call.Call.TheVariants.{Put, Delete, Erase, Tick, Work}
use Rattle.lethe_base.specs.declared.call.Did.{Did}
use Rattle.lethe_base.specs.declared.call.Did.TheVariants.{Done, Failed}
use Rattle.lethe_base.specs.declared.config.Fields.{Fields}
use Rattle.lethe_base.specs.declared.name.Kind.TheVariants.{Page}
use Rattle.lethe_base.specs.declared.name.Name.{Name}
use Rattle.lethe_base.specs.declared.refused.Refused.{Refused}
use Rattle.lethe_cover.specs.Steps.{with_done, with_failed}
use Rattle.lethe_disk.specs.Directory.{Directory}
use Rattle.lethe_disk.specs.Disk.{Seen, IsIdle}
use Rattle.lethe_stored.specs.Kept.{IsKept}
use Rattle.lethe_stored.specs.Left.{IsKeptOr}
use Rattle.lethe_stored.specs.Numbers.{GoesFrom}
use Rattle.lethe_stored.proofs.Numbers.{pace_then}
use Rattle.lethe_advance.specs.Settled.{names_in}
use Rattle.lethe_state.specs.Writable.{IsWritable}
use Rattle.lethe_core.specs.Asked.{Failure, Makes, Serves, behind, done_by, failure_of, written_by}
use Rattle.lethe_core.specs.Running.{IsSound}
use Rattle.lethe_core.specs.StandsNow.{StandsNow}
use Rattle.lethe_core.specs.View.{View, loose_in}
use Rattle.lethe_row.specs.Along.{IsKeptAlong, row_behind, tried, with_all}
use Rattle.lethe_row.specs.Rows.{call_of}
use Rattle.lethe_row.specs.declared.asking.Asked.{Asked}
use Rattle.lethe_row.specs.declared.asking.Asked.TheVariants as asks
use Rattle.lethe_row.proofs.Along.{with_one_more}
use Rattle.lethe_engine.specs.Opening.{opened_as}
use Rattle.lethe_engine.specs.StandsFor.{HasCounts, IsKeptFor, IsPrefixFrom, Opened, StandsSince}
use Rattle.lethe_engine.proofs.Prefixes.{prefix_done, prefix_failed, prefix_itself, prefix_longer, prefix_shorter}
use Rattle.lethe_engine.proofs.Reasons.{IsTold}
use Rattle.lethe_core.proofs.Beside.{drawn_front}
use Rattle.lethe_core.proofs.Standing.{stands_done, stands_moments}

asked_works : (asked : Asked) → call_of asked ≡ Work → ⊥
asked_works (asks.Put key dkey value) e = cc
asked_works (asks.Delete key) e = cc
asked_works (asks.Erase range) e = cc

asked_ticks : (asked : Asked) (to : ℕ) → call_of asked ≡ Tick to → ⊥
asked_ticks (asks.Put key dkey value) to e = cc
asked_ticks (asks.Delete key) to e = cc
asked_ticks (asks.Erase range) to e = cc

abbrev ArePages : List Name → Type 0
ArePages names = All (λ name. name.kind ≡ Page) names

-- counts of faults stay within later ones
counts_later : (from f0 f1 : ℕ) (did : Did) → f0 ≤ f1 → HasCounts from f0 did → HasCounts from f1 did
counts_later from f0 f1 Done le is = tt
counts_later from f0 f1 (Failed before after) le is = (is.0, is.1, let upto = is.2 in omega (arith, upto, le))

-- what is retired are pages
pub sound_pages : (Tells : Type 0) (view : View) → IsSound Tells view → Tells → ArePages view.retired
sound_pages Tells view sound told = All-weaker (λ (name : Name). (name.kind ≡ Page) × (name.no < view.state.next)) (λ (name : Name). name.kind ≡ Page) (λ name drawn. drawn.0) view.retired
    (drawn_front view.state.next view.retired (names_in (loose_in view.flights)) (sound.drawn told)).each

-- a store that was just opened
pub opened_for : (config : Fields) (h : History) (start : Seen) (next : ℕ) (view : View) → StandsNow config h view → view.retired ≡ [] → view.state.stopped ≡ None → IsWritable view.state
    → view.state.next + start.moment ≤ next + view.disk.moment → StandsSince config (opened_as h start view.disk next view.faults) h view
opened_for config h start next view now empty runs writable numbers = record {
  now = now;
  pages = subst ArePages (sym empty) (All-nil (λ (name : Name). name.kind ≡ Page));
  begins = ([], sym (append-nil h));
  later = omega arith;
  images = λ m c low high left. (h, prefix_itself h h (stands_done config h view now runs) ([], sym (append-nil h)), (stands_moments config h view now runs writable).goes.each m c low high left);
  numbers = numbers;
  pace = λ m c low high left most is. let below = (stands_moments config h view now runs writable).pace m c low high left most is in omega (arith, below, numbers, low, high);
  since = omega arith;
  counts = All-nil (λ (change : Change). HasCounts view.faults view.faults change.did);
}

-- a store whose disk wasn't touched
pub idle_for : (config : Fields) (opened : Opened) (h : History) (old new : View) → IsIdle old.disk new.disk → new.state.next ≡ old.state.next → new.faults ≡ old.faults → ArePages new.retired → StandsNow config h new → StandsSince config opened h old
    → StandsSince config opened h new
idle_for config opened h old new idle next faults pages now before = record {
  now = now;
  pages = pages;
  begins = before.begins;
  later = let low = before.later in let same = idle.moment in omega (arith, low, same);
  images = λ m c low high left. let same = idle.moment in before.images m c low (omega (arith, high, same)) ((idle.left m c).0 left);
  numbers = let drawn = before.numbers in let same = idle.moment in omega (arith, drawn, same, next);
  pace = λ m c low high left. let same = idle.moment in before.pace m c low (omega (arith, high, same)) ((idle.left m c).0 left);
  since = let since = before.since in omega (arith, since, faults);
  counts = subst (λ n. All (λ (change : Change). HasCounts opened.faults n change.did) before.begins.0) (sym faults) before.counts;
}

module _ (config : Fields) (opened : Opened) (h : History) (old new : View) (before : StandsSince config opened h old) (runs : old.state.stopped ≡ None) (later : old.faults ≤ new.faults)
    (numbers : new.state.next + old.disk.moment ≤ old.state.next + new.disk.moment) (pages : ArePages new.retired) where
  abbrev Was : History
  Was = opened.history

  done : AreDone h
  done = stands_done config h old before.now runs

  -- It stands for the history with what was added, where each crash on the way left what is kept for a prefix of that.
  added_to : (P : Directory → Type 0) (g added : History) → g ≡ h ++ added → ((k : History) → IsPrefixFrom Was h k → IsPrefixFrom Was g k) → ((d : Directory) → P d → IsKeptFor config Was g d)
      → All (λ (change : Change). HasCounts opened.faults new.faults change.did) added → GoesFrom old.state.next P old.disk new.disk → StandsNow config g new → StandsSince config opened g new
  added_to P g added is longer kept counted run now = record {
    now = now;
    pages = pages;
    begins = (before.begins.0 ++ added, is ∙ ap (λ l. l ++ added) before.begins.1 ∙ append_assoc Was before.begins.0 added);
    later = let low = before.later in let on = run.goes.later in omega (arith, low, on);
    images = λ m c low high left. elim (cases_lt old.disk.moment m) [
      | inr early ↦ let was = before.images m c low early ((run.goes.past m c early).0 left) in (was.0, longer was.0 was.1, was.2)
      | inl late ↦ kept c (run.goes.each m c (omega arith) high left)
    ];
    numbers = let drawn = before.numbers in omega (arith, drawn, numbers);
    pace = pace_then P opened.next opened.began opened.moment old.state.next old.disk new.disk before.pace run.goes before.numbers run.pace;
    since = let since = before.since in omega (arith, since, later);
    counts = All-append (λ (change : Change). HasCounts opened.faults new.faults change.did) before.begins.0 added
        (All-weaker (λ (change : Change). HasCounts opened.faults old.faults change.did) (λ (change : Change). HasCounts opened.faults new.faults change.did)
        (λ change is. counts_later opened.faults old.faults new.faults change.did later is) before.begins.0 before.counts) counted;
  }

  none_counted : All (λ (c : Change). HasCounts opened.faults new.faults c.did) []
  none_counted = All-nil (λ (c : Change). HasCounts opened.faults new.faults c.did)

  one_counted : (change : Change) → HasCounts opened.faults new.faults change.did → All (λ (c : Change). HasCounts opened.faults new.faults c.did) (change ∷ [])
  one_counted change is = All-cons (λ (c : Change). HasCounts opened.faults new.faults c.did) change [] is none_counted

  now_kept : (more : History) (d : Directory) → IsKept config d h → IsKeptFor config Was (h ++ more) d
  now_kept more d kept = (h, prefix_longer Was h more before.now.legal done h (prefix_itself Was h done before.begins), kept)

  -- the same history
  pub still_for : GoesFrom old.state.next (λ c. IsKept config c h) old.disk new.disk → StandsNow config h new → StandsSince config opened h new
  still_for = added_to (λ c. IsKept config c h) h [] (sym (append-nil h)) (λ k of. of) (λ d kept. (h, prefix_itself Was h done before.begins, kept)) none_counted

  none_for : GoesFrom old.state.next (IsKeptOr config h None) old.disk new.disk → StandsNow config h new → StandsSince config opened h new
  none_for = added_to (IsKeptOr config h None) h [] (sym (append-nil h)) (λ k of. of) (λ d kept. (h, prefix_itself Was h done before.begins, subst (IsKept config d) kept.1 kept.2)) none_counted

  failed_counts : (b a : ℕ) → b ≡ old.faults → a ≡ new.faults → Rose old.faults new.faults → HasCounts opened.faults new.faults (Failed b a)
  failed_counts b a b_is a_is rose = (let since = before.since in omega (arith, since, b_is), subst (λ n. Rose n a) (sym b_is) (subst (Rose old.faults) (sym a_is) rose), omega (arith, a_is))

  module _ (caller : ℕ) where
    -- with work in which the disk failed
    failed_work : (b a : ℕ) → b ≡ old.faults → a ≡ new.faults → Rose old.faults new.faults → GoesFrom old.state.next (λ c. IsKept config c h) old.disk new.disk → StandsNow config (with_failed h caller Work b a) new
        → StandsSince config opened (with_failed h caller Work b a) new
    failed_work b a b_is a_is rose =
        let change : Change = record { caller = caller; call = Work; did = Failed b a } in
        added_to (λ c. IsKept config c h) (with_failed h caller Work b a) (change ∷ []) refl (prefix_longer Was h (change ∷ []) before.now.legal done) (now_kept (change ∷ [])) (one_counted change (failed_counts b a b_is a_is rose))

    failed_or : (f : Option Failure) → IfSome f (λ failure. (failure.before ≡ old.faults) × (failure.after ≡ new.faults) × Rose old.faults new.faults) → GoesFrom old.state.next (λ c. IsKept config c h) old.disk new.disk
        → StandsNow config (option_map_or (λ failure. with_failed h caller Work failure.before failure.after) f h) new → StandsSince config opened (option_map_or (λ failure. with_failed h caller Work failure.before failure.after) f h) new
    failed_or None told = still_for
    failed_or (Some failure) told = failed_work failure.before failure.after told.0 told.1 told.2

    -- work
    pub worked_for : (why : Option Refused) → IfSome why (IsTold old.faults new.faults) → GoesFrom old.state.next (λ c. IsKept config c h) old.disk new.disk → StandsNow config (behind h caller (Serves Work) why) new
        → StandsSince config opened (behind h caller (Serves Work) why) new
    worked_for None told = still_for
    worked_for (Some why) told = failed_or (failure_of why) told

    -- A row of changes

    -- those that were made are done, and may have been asked
    all_legal : (asked : List Asked) (g : History) → IsLegal g → AreDone g → length g + length asked ≤ max_place → IsLegal (with_all g caller asked) × AreDone (with_all g caller asked)
    all_legal [] g legal fine few = (subst IsLegal (sym (append-nil g)) legal, subst AreDone (sym (append-nil g)) fine)
    all_legal (asked ∷ more) g legal fine few =
        let change : Change = done_by caller (call_of asked) in
        let rest = all_legal more (g ++ change ∷ []) (legal_push g change legal fine (omega (arith, few)) (asked_works asked) (λ to is. absurd (asked_ticks asked to is))) (done_push g change fine refl)
        (let long = length-append g (change ∷ []) in omega (arith, few, long)) in
        let same = append_assoc g (change ∷ []) (map (λ asked. done_by caller (call_of asked)) more) in
        (subst IsLegal same rest.0, subst AreDone same rest.1)

    all_counted : (asked : List Asked) → All (λ (c : Change). HasCounts opened.faults new.faults c.did) (map (λ asked. done_by caller (call_of asked)) asked)
    all_counted [] = none_counted
    all_counted (asked ∷ more) = All-cons (λ (c : Change). HasCounts opened.faults new.faults c.did) (done_by caller (call_of asked)) (map (λ asked. done_by caller (call_of asked)) more) tt (all_counted more)

    from_opened : (asked : List Asked) → (added : History) × (with_all h caller asked ≡ Was ++ added)
    from_opened asked = (before.begins.0 ++ map (λ asked. done_by caller (call_of asked)) asked, ap (λ l. l ++ map (λ asked. done_by caller (call_of asked)) asked) before.begins.1 ∙ append_assoc Was before.begins.0 (map (λ asked. done_by caller (call_of asked)) asked))

    split_at : (asked front rest : List Asked) → asked ≡ front ++ rest → with_all h caller asked ≡ with_all h caller front ++ map (λ asked. done_by caller (call_of asked)) rest
    split_at asked front rest are =
        ap (with_all h caller) are ∙ ap (λ l. h ++ l) (map-append (λ asked. done_by caller (call_of asked)) front rest) ∙ sym (append_assoc h (map (λ asked. done_by caller (call_of asked)) front) (map (λ asked. done_by caller (call_of asked)) rest))

    -- where the whole of what was tried is a prefix, so is each front of it
    along_kept : (asked : List Asked) (g : History) → IsPrefixFrom Was g (with_all h caller asked) → (d : Directory) → IsKeptAlong config h caller asked d → IsKeptFor config Was g d
    along_kept asked g of d (front, rest, are, kept) =
        (with_all h caller front, prefix_shorter Was g (with_all h caller asked) (with_all h caller front) (map (λ asked. done_by caller (call_of asked)) rest) of (split_at asked front rest are) (from_opened front), kept)

    module _ (made : List Asked) where
      made_for : GoesFrom old.state.next (IsKeptAlong config h caller (tried made None)) old.disk new.disk → StandsNow config (with_all h caller made) new → StandsSince config opened (with_all h caller made) new
      made_for run now =
          let all = append-nil made in
          let few : length h + length made ≤ max_place =
          let few = now.legal.few in let long = length-append h (map (λ asked. done_by caller (call_of asked)) made) in let same = length-map made (λ asked. done_by caller (call_of asked)) in omega (arith, few, long, same) in
          let fine = all_legal made h before.now.legal done few in
          added_to (IsKeptAlong config h caller (tried made None)) (with_all h caller made) (map (λ asked. done_by caller (call_of asked)) made) refl
          (prefix_longer Was h (map (λ asked. done_by caller (call_of asked)) made) before.now.legal done)
          (λ d kept. along_kept made (with_all h caller made) (prefix_itself Was (with_all h caller made) fine.1 (from_opened made)) d (subst (λ l. IsKeptAlong config h caller l d) all kept)) (all_counted made) run now

      module _ (asked : Asked) (failure : Failure) where
        abbrev change : Change
        change = record { caller = caller; call = call_of asked; did = Failed failure.before failure.after }

        one_failed : (failure.before ≡ old.faults) × (failure.after ≡ new.faults) × Rose old.faults new.faults → GoesFrom old.state.next (IsKeptAlong config h caller (made ++ asked ∷ [])) old.disk new.disk
            → StandsNow config (with_all h caller made ++ change ∷ []) new → StandsSince config opened (with_all h caller made ++ change ∷ []) new
        one_failed told run now =
            let mapped = map (λ asked. done_by caller (call_of asked)) made in
            let whole : with_all h caller made ++ change ∷ [] ≡ h ++ (mapped ++ change ∷ []) = append_assoc h mapped (change ∷ []) in
            let few : length h + length made ≤ max_place =
            let few = now.legal.few in let long = length-append (with_all h caller made) (change ∷ []) in let two = length-append h mapped in let same = length-map made (λ asked. done_by caller (call_of asked)) in
            omega (arith, few, long, two, same) in
            let fine = all_legal made h before.now.legal done few in
            let of = prefix_failed Was (with_all h caller made) change fine.0 fine.1 (asked_works asked) (from_opened made) in
            added_to (IsKeptAlong config h caller (made ++ asked ∷ [])) (with_all h caller made ++ change ∷ []) (mapped ++ change ∷ []) whole
            (λ k is. subst (λ g. IsPrefixFrom Was g k) (sym whole) (prefix_longer Was h (mapped ++ change ∷ []) before.now.legal done k is))
            (λ d kept. along_kept (made ++ asked ∷ []) (with_all h caller made ++ change ∷ []) (subst (IsPrefixFrom Was (with_all h caller made ++ change ∷ [])) (with_one_more h caller made asked) of) d kept)
            (All-append (λ (c : Change). HasCounts opened.faults new.faults c.did) mapped (change ∷ []) (all_counted made) (one_counted change (failed_counts failure.before failure.after told.0 told.1 told.2))) run now

      -- they were made, and the disk failed in the next one, or didn't
      pub row_for : (failed : Option (Asked × Failure)) → IfSome failed (λ f. (f.1.before ≡ old.faults) × (f.1.after ≡ new.faults) × Rose old.faults new.faults)
          → GoesFrom old.state.next (IsKeptAlong config h caller (tried made failed)) old.disk new.disk → StandsNow config (row_behind h caller made failed) new → StandsSince config opened (row_behind h caller made failed) new
      row_for None told = made_for
      row_for (Some (asked, failure)) told = one_failed asked failure told

    module _ (call : Call) (works : call ≡ Work → ⊥) where
      written_for : (change : Change) → IsPrefixFrom Was (h ++ change ∷ []) (with_done h caller call) → HasCounts opened.faults new.faults change.did → GoesFrom old.state.next (IsKeptOr config h (Some (done_by caller call))) old.disk new.disk
          → StandsNow config (h ++ change ∷ []) new → StandsSince config opened (h ++ change ∷ []) new
      written_for change of counted = added_to (IsKeptOr config h (Some (done_by caller call))) (h ++ change ∷ []) (change ∷ []) refl (prefix_longer Was h (change ∷ []) before.now.legal done)
          (λ d kept. elim kept.1 [
            | inl e ↦ now_kept (change ∷ []) d (subst (IsKept config d) e kept.2)
            | inr e ↦ (with_done h caller call, of, subst (IsKept config d) e kept.2)
          ]) (one_counted change counted)

      done_for : GoesFrom old.state.next (IsKeptOr config h (Some (done_by caller call))) old.disk new.disk → StandsNow config (with_done h caller call) new → StandsSince config opened (with_done h caller call) new
      done_for = written_for (done_by caller call) (prefix_done Was h (done_by caller call) done refl before.begins) tt

      failed_for : (b a : ℕ) → b ≡ old.faults → a ≡ new.faults → Rose old.faults new.faults → GoesFrom old.state.next (IsKeptOr config h (Some (done_by caller call))) old.disk new.disk → StandsNow config (with_failed h caller call b a) new
          → StandsSince config opened (with_failed h caller call b a) new
      failed_for b a b_is a_is rose =
          let change : Change = record { caller = caller; call = call; did = Failed b a } in
          written_for change (prefix_failed Was h change before.now.legal done works before.begins) (failed_counts b a b_is a_is rose)

      tried_for : (f : Option Failure) → IfSome f (λ failure. (failure.before ≡ old.faults) × (failure.after ≡ new.faults) × Rose old.faults new.faults)
          → GoesFrom old.state.next (IsKeptOr config h (option_map (λ failure. done_by caller call) f)) old.disk new.disk → StandsNow config (option_map_or (λ failure. with_failed h caller call failure.before failure.after) f h) new
          → StandsSince config opened (option_map_or (λ failure. with_failed h caller call failure.before failure.after) f h) new
      tried_for None told = none_for
      tried_for (Some failure) told = failed_for failure.before failure.after told.0 told.1 told.2

      -- a change
      pub answered_for : (why : Option Refused) → IfSome why (IsTold old.faults new.faults) → GoesFrom old.state.next (IsKeptOr config h (written_by caller (Makes call) why)) old.disk new.disk
          → StandsNow config (behind h caller (Makes call) why) new → StandsSince config opened (behind h caller (Makes call) why) new
      answered_for None told = done_for
      answered_for (Some why) told = tried_for (failure_of why) told

pub put_works : (key : Bytes) (dkey : ℕ) (value : Bytes) → Put key dkey value ≡ Work → ⊥
put_works key dkey value e = cc

pub delete_works : (key : Bytes) → Delete key ≡ Work → ⊥
delete_works key e = cc

pub erase_works : (range : Ends) → Erase range ≡ Work → ⊥
erase_works range e = cc
