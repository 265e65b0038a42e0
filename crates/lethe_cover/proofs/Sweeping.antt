-- A sweep is an outcome of what it takes.
use Rattle.std.proofs.Common.{◌≡◌, ◌⊎◌, inl, inr, ℕ, Bool, IsTrue, List, [], ◌∷◌, Some, None, refl, sym, ap, ◌∙◌, arith}
use Rattle.lethe_cover.proofs.Common.{IsFrom, pair_of, answer_under, File, InFiles, IsNewest, Entry, Pending, struck, IsKept, IsDropped, IsOutcome, ⊎_map}
use Rattle.lethe_cover.specs.Sweeps.{swept_of, IsSwept}
use Rattle.lethe_cover.proofs.Merging.{IsBy, IsErasesTime, struck_by, struck_from}
use Rattle.std.proofs.Common.{Option}

swept_cases : (alone : Bool) (erase : Pending) (entry output : Entry) → swept_of alone erase entry ≡ Some output → (entry ≡ output) ⊎ (struck (erase ∷ []) entry ≡ output)
swept_cases alone erase entry output at = grind arith

-- an output has the key and the place of the entry that it comes of, and says what that answers
swept_same : (alone : Bool) (erase : Pending) (entry output : Entry) → swept_of alone erase entry ≡ Some output → (entry.key ≡ output.key) × (entry.seq ≡ output.seq) × (pair_of output.body ≡ answer_under (erase ∷ []) entry)
swept_same alone erase entry output at = grind arith

swept_since : (alone : Bool) (erase : Pending) (entry output : Entry) (time : ℕ) → swept_of alone erase entry ≡ Some output → output.since ≡ Some time → (entry.since ≡ Some time) ⊎ IsErasesTime (erase ∷ []) time
swept_since alone erase entry output time at has = grind (arith, swept_cases alone erase entry output at, struck_from (erase ∷ []) entry.seq entry.body entry.since time)

swept_by : (alone : Bool) (erase : Pending) (entry output : Entry) (time : ℕ) → swept_of alone erase entry ≡ Some output → entry.since ≡ Some time → IsBy output.since time
swept_by alone erase entry output time at has = grind (arith, swept_cases alone erase entry output at, struck_by (erase ∷ []) entry time has)

-- what goes is alone and answers nothing
goes : (alone : Bool) (erase : Pending) (entry : Entry) → swept_of alone erase entry ≡ None → IsTrue alone × (answer_under (erase ∷ []) entry ≡ None)
goes alone erase entry at = grind arith

module _ (erase : Pending) (alone : Bool) (taken made : List File) (is : IsSwept erase alone taken made) where
  newest : (entry : Entry) → InFiles taken entry → IsNewest (InFiles taken) entry
  newest entry there = record { shown = there; last = λ other own same. omega (arith, ap (λ e. e.seq) (is.once other entry own there same)) }

  source : (entry output : Entry) → InFiles taken entry → swept_of alone erase entry ≡ Some output → IsFrom (erase ∷ []) (InFiles taken) output
  source entry output there at = let same = swept_same alone erase entry output at in record { input = entry; newest = newest entry there; same = same.0; place = same.1; answer = same.2 }

  kept : (input : Entry) → InFiles taken input → IsKept (IsTrue alone) (InFiles made) input ⊎ IsDropped (erase ∷ []) (IsTrue alone) (InFiles taken) (InFiles made) input
  kept input own = by (swept_of alone erase input) refl
    where
      by : (o : Option Entry) → swept_of alone erase input ≡ o → IsKept (IsTrue alone) (InFiles made) input ⊎ IsDropped (erase ∷ []) (IsTrue alone) (InFiles taken) (InFiles made) input
      by (Some output) at =
          let from = swept_same alone erase input output at in
          let since = λ (time : ℕ) (has : input.since ≡ Some time). swept_by alone erase input output time at has in
          inl (record { output = output; made = is.kept input output own at; same = sym from.0; newer = omega (arith, from.1); since = λ time has. let least = since time has in inr (least.least, least.is, least.upto) })
      by None at = let gone = goes alone erase input at in inr (record {
        alone = gone.0;
        none = λ output there same.
            let from = is.from output there in
            let one : from.0 ≡ input = is.once from.0 input from.1 own ((swept_same alone erase from.0 output from.2).0 ∙ same) in
            let clash : None ≡ Some output = sym at ∙ ap (swept_of alone erase) (sym one) ∙ from.2 in cc;
        newest = input;
        is = newest input own;
        same = refl;
        nothing = gone.1;
      })

  pub swept_outcome : IsOutcome (erase ∷ []) (IsTrue alone) (InFiles taken) (InFiles made)
  swept_outcome = record {
    source = λ output there. let from = is.from output there in source from.0 output from.1 from.2;
    kept = kept;
    since = λ output time there has. let from = is.from output there in ⊎_map (λ mine. (from.0, from.1, mine)) (λ erased. erased) (swept_since alone erase from.0 output time from.2 has);
  }
