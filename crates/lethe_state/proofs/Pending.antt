-- The pending erases with one that is behind them all.
use Rattle.std.proofs.Common.{◌≡◌, ◌<◌, ◌+◌, ◌-◌, ◌^◌, inl, inr, ℕ, List, [], ◌∷◌, ◌++◌, length, get_or, Some, ap, arith}
use Rattle.std.specs.List.{slice_get}
use Rattle.std.proofs.lemmas.Bool.{cases_lt}
use Rattle.std.proofs.lemmas.List.{length_push}
use Rattle.std.proofs.lemmas.List.Elements.{All-push}
use Rattle.std.proofs.lemmas.List.Quantifiers.{all_pairs_push}
use Rattle.std.proofs.lemmas.Option.{slice_get-get_or}
use Rattle.lethe_base.specs.Erases.{IsErase}
use Rattle.lethe_base.specs.declared.pending.Pending.{Pending}
use Rattle.lethe_manifest.specs.Manifests.{AreErases}

-- the last of the erases has a smaller place
abbrev pub IsBehind : List Pending → ℕ → Type 0
IsBehind erases place = (last : Pending) → slice_get erases (length erases - 1) ≡ Some last → last.seq < place

module _ (erases : List Pending) (are : AreErases erases) where
  -- what is behind the last is behind each
  above_each : (place : ℕ) → IsBehind erases place → (k : ℕ) (d : Pending) → k < length erases → (get_or erases k d).seq < place
  above_each place behind k d within =
      let n = length erases - 1 in
      let last = behind (get_or erases n d) (slice_get-get_or erases n d (omega arith)) in
      elim (cases_lt k n) [
        | inl before ↦ let rise = are.ascending k n d before (omega arith) in omega (arith, rise, last)
        | inr from ↦ let same : k ≡ n = omega arith in let place_is = ap (λ k. (get_or erases k d).seq) same in omega (arith, place_is, last)
      ]

  pub erase_pushed : (erase : Pending) → IsErase erase → IsBehind erases erase.seq → length erases + 1 < 2 ^ 32 → AreErases (erases ++ erase ∷ [])
  erase_pushed erase spelled behind few = record {
    few = let more = length_push erases erase in omega (arith, more, few);
    each = All-push IsErase erases erase are.each spelled;
    ascending = all_pairs_push (λ (a : Pending) (b : Pending). a.seq < b.seq) erases erase are.ascending (above_each erase.seq behind);
  }
