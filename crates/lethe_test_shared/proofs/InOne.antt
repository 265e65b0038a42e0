-- Two sessions that made a change each, from the opening to the end.
use Rattle.std.proofs.Common.{◌≡◌, ◌^◌, ℕ, ◌+◌, ◌-◌, ◌/◌, List, [], ◌∷◌, ◌++◌, length, Some, Result, Ok, Err, refl, sym, ap, ◌∙◌, subst, arith, append-nil}
use Rattle.std.specs.Prelude.{All, IfOk}
use Rattle.std.specs.Result.{result_err}
use Rattle.std.proofs.lemmas.List.{length-append}
use Rattle.std.proofs.lemmas.List.Elements.{All-cons, All-head, All-nil, All-tail}
use Rattle.lethe_base.specs.History.{History}
use Rattle.lethe_base.specs.declared.call.Call.{Call}
use Rattle.lethe_base.specs.declared.call.Did.TheVariants.{Done}
use Rattle.lethe_base.specs.declared.config.Fields.{Fields}
use Rattle.lethe_base.specs.declared.refused.Refused.{Refused}
use Rattle.lethe_cert.specs.declared.certificate.Certificate.{Certificate}
use Rattle.lethe_core.specs.Asked.{Makes}
use Rattle.lethe_core.specs.Running.{IsSound}
use Rattle.lethe_core.specs.View as core
use Rattle.lethe_engine.specs.StandsFor.{IsCertified, Opened, StandsFor}
use Rattle.lethe_turn.specs.Lists.{AllStand, placed, total}
use Rattle.lethe_turn.specs.Seats.{Joined, count_of, first_view}
use Rattle.lethe_turn.specs.declared.view.View.{View}
use Rattle.lethe_turn.proofs.Sums.{total_append}
use Rattle.lethe_store.specs.declared.entry.Entry.{Entry}
use Rattle.lethe_store.specs.declared.entry.Mark.{Mark}
use Rattle.lethe_store.specs.StoreViews.{StoreView, IsSameStore}
use Rattle.lethe_store.specs.Diary.{answered_in, spent_by}
use Rattle.lethe_store.specs.Entries.{changes_of, entries_by, entry_of}
use Rattle.lethe_store.specs.Laws.{since_opened, since_same}
use Rattle.lethe_store.specs.Sessions.{HasDone, HasFinished, HasSplit}
use Rattle.lethe_store.specs.Since.{AnyMarks, Since}
use Rattle.lethe_test_shared.specs.Both.{AreInOneHistory, StoodAt}

abbrev Knows : Type 0 → Type 0
Knows V = View V Entry Mark

all_front : {X : Type 0} (P : X → Type 0) (xs ys : List X) → All P (xs ++ ys) → All P xs
all_front P [] ys all = All-nil P
all_front P (x ∷ xs) ys all = All-cons P x xs (All-head P x (xs ++ ys) all) (all_front P xs ys (All-tail P x (xs ++ ys) all))

-- where more certificates stand these do
stands_for_front : (config : Fields) (opened : Opened) (h : History) (view : core.View) (answered more : List Certificate) → StandsFor config opened h view (answered ++ more) → StandsFor config opened h view answered
stands_for_front config opened h view answered more s = record { since = s.since; certified = all_front (IsCertified config opened h view) answered more s.certified }

-- weighed without their places
total_placed : (weight : Entry → ℕ) (place : ℕ) (entries : List Entry) → total (λ (m : ℕ × Entry). weight m.1) (placed place entries) ≡ total weight entries
total_placed weight place [] = refl
total_placed weight place (entry ∷ entries) = ap (λ n. weight entry + n) (total_placed weight (place + 1) entries)

-- of two lists of entries that stand both stand
stand_parts : (start : ℕ) (history : List Entry) (a b : List (ℕ × Entry)) → AllStand start history (a ++ b) → AllStand start history a × AllStand start history b
stand_parts start history [] b stand = (tt, stand)
stand_parts start history (m ∷ a) b stand = let rest = stand_parts start history a b stand.1 in ((stand.0, rest.0), rest.1)

-- the place that was answered is that of the entry
placed_is : {V : Type 0} (v w : Knows V) (caller : ℕ) (call : Call) (result : Result ℕ Refused) (done : HasDone (entries_by caller (Makes call) (result_err result)) (spent_by (result_err result)) v w) → IfOk result (λ place. place ≡ count_of w)
    → IfOk result (λ place. place ≡ v.start + length done.seen.0 + 1)
placed_is v w caller call (Ok place) done told =
    let l : length w.seen ≡ length done.seen.0 + 1 = ap length done.seen.2 ∙ length-append done.seen.0 (entry_of caller Done call ∷ []) in let s = done.start in
    let t : place ≡ w.start + length w.seen = told in let e : place ≡ v.start + length done.seen.0 + 1 = omega arith in e
placed_is v w caller call (Err why) done told = tt

-- so the entry stands at that place
stood : (start : ℕ) (history : List Entry) (caller : ℕ) (call : Call) (result : Result ℕ Refused) (place : ℕ) → AllStand start history (placed place (entries_by caller (Makes call) (result_err result)))
    → IfOk result (λ told. told ≡ place) → StoodAt start history (entry_of caller Done call) result
stood start history caller call (Ok told) place stand is = (stand.0.0, is ∙ stand.0.1, stand.0.2)
stood start history caller call (Err why) place stand is = tt

module _ {V : Type 0} (Tells PortsFail : Type 0) (see : V → StoreView) (handed x : StoreView) (sound : IsSound Tells handed.view) (o : V) (same : IsSameStore Tells handed (see o)) (u v w left right z : Knows V)
    (opened : u ≡ first_view o handed.view.state.count) (split : HasSplit u v w) (a b : Call) (one other : Result ℕ Refused) (did : HasDone (entries_by 0 (Makes a) (result_err one)) (spent_by (result_err one)) v left)
    (did_other : HasDone (entries_by 1 (Makes b) (result_err other)) (spent_by (result_err other)) w right) (place : IfOk one (λ place. place ≡ count_of left)) (place_other : IfOk other (λ place. place ≡ count_of right))
    (joined : Joined left right z) (finished : HasFinished see (Since Tells PortsFail) AnyMarks z x) where
  abbrev last : Knows V
  last = finished.last

  abbrev made : List Entry
  made = entries_by 0 (Makes a) (result_err one)

  abbrev made_other : List Entry
  made_other = entries_by 1 (Makes b) (result_err other)

  abbrev at : ℕ
  at = v.start + length did.seen.0 + 1

  abbrev at_other : ℕ
  at_other = w.start + length did_other.seen.0 + 1

  own : last.mine ≡ placed at made ++ placed at_other made_other
  own = finished.more.mine ∙ joined.mine
      ∙ (λ i. (did.mine ∙ ap (λ l. l ++ placed at made) (ap (λ k. k.mine) split.left ∙ split.more.mine ∙ ap (λ k. k.mine) opened)) i
      ++ (did_other.mine ∙ ap (λ l. l ++ placed at_other made_other) (ap (λ k. k.mine) split.right)) i)

  start_is : last.start ≡ handed.view.state.count
  start_is = finished.more.start ∙ joined.start ∙ did.start ∙ ap (λ k. k.start) split.left ∙ split.more.start ∙ ap (λ k. k.start) opened

  opened_is : last.opened ≡ Some o
  opened_is = finished.more.opened ∙ joined.opened ∙ did.opened ∙ ap (λ k. k.opened) split.left ∙ split.more.opened ∙ ap (λ k. k.opened) opened

  all_parts : last.parts ≡ 2 ^ 62
  all_parts =
      let p = finished.more.parts in let j = joined.parts in let d = did.parts in let e = did_other.parts in
      let l : v.parts ≡ split.at.parts - split.at.parts / 2 = ap (λ k. k.parts) split.left in let r : w.parts ≡ split.at.parts / 2 = ap (λ k. k.parts) split.right in
      let f : split.at.parts ≡ 2 ^ 62 = split.more.parts ∙ ap (λ k. k.parts) opened in let n : last.parts ≡ 2 ^ 62 = omega arith in n

  stand : AllStand handed.view.state.count last.seen (placed at made) × AllStand handed.view.state.count last.seen (placed at_other made_other)
  stand = stand_parts handed.view.state.count last.seen (placed at made) (placed at_other made_other)
      (subst (λ l. AllStand handed.view.state.count last.seen l) own (subst (λ n. AllStand n last.seen last.mine) start_is finished.knows.mine))

  weighs : (weight : Entry → ℕ) → total weight last.seen ≡ total weight (made ++ made_other)
  weighs weight =
      let byl : ℕ × Entry → ℕ = λ m. weight m.1 in
      sym (total_placed weight (last.start + 1) last.seen) ∙ sym ((finished.knows.all all_parts).0 byl) ∙ ap (total byl) own ∙ total_append byl (placed at made) (placed at_other made_other)
      ∙ (λ i. total_placed weight at made i + total_placed weight at_other made_other i) ∙ sym (total_append weight made made_other)

  -- the store that was opened stood for what the one handed in stood for
  stood_before : Tells → (config : Fields) (start : Opened) (h : History) (answered : List Certificate) → StandsFor config start h handed.view answered → StandsFor config start h (see o).view answered
  stood_before told config start h answered s = subst (λ l. StandsFor config start l (see o).view answered) (append-nil h)
      (stands_for_front config start (h ++ changes_of []) (see o).view answered (answered_in []) ((since_same Tells PortsFail handed [] [] handed (see o) (since_opened Tells PortsFail handed sound) same).stands told config start h answered s))

  pub in_one_history : AreInOneHistory Tells handed a one b other x
  in_one_history =
      let since = finished.leads o opened_is in record {
        entries = last.seen;
        each = weighs;
        first_at = stood handed.view.state.count last.seen 0 a one at stand.0 (placed_is v left 0 a one did place);
        second_at = stood handed.view.state.count last.seen 1 b other at_other stand.1 (placed_is w right 1 b other did_other place_other);
        count = since.count ∙ ap (λ s. s.count + length last.seen) same.state;
        stands = λ told config start h answered s.
            stands_for_front config start (h ++ changes_of last.seen) x.view answered (answered_in last.noted) (since.stands told config start h answered (stood_before told config start h answered s));
      }
