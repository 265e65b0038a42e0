-- Reading items one after another, and what reading all of them gives.
use Rattle.std.proofs.Common.{◌≡◌, ℕ, suc, ◌+◌, ◌-◌, ◌<◌, ◌≤◌, List, [], ◌∷◌, ◌++◌, length, Result, Ok, Err, ap, ◌∙◌, arith, length-append}
use Rattle.std.specs.Int.{w64}
use Rattle.lethe_base.specs.Results.{◌>>=◌}
use Rattle.lethe_header.specs.Reading.{IsRefused, field_at, word_at, all_at}
use Rattle.lethe_header.specs.declared.refused.HeaderRefused.{HeaderRefused}
use Rattle.lethe_header.specs.declared.refused.HeaderRefused.TheVariants.{Short, Kind, Order, Trailing, NoMemory}

-- how an item is read behind others
abbrev pub Reader : Type 0 → Type 0
Reader A = List A → List ℕ → ℕ → Result (A × ℕ) HeaderRefused

-- these items are read up to a place, and all that are counted are those that are read behind them
pub record IsReadTo {A : Type 0} (read : Reader A) (count : ℕ) (bytes : List ℕ) (start : ℕ) (items : List A) (at : ℕ) : Type 0 where
  pub few : length items ≤ count
  pub goes_on : all_at read count [] bytes start ≡ all_at read (count - length items) items bytes at

pub at_first : {A : Type 0} (read : Reader A) (count : ℕ) (bytes : List ℕ) (start : ℕ) → IsReadTo read count bytes start [] start
at_first read count bytes start = record {
  few = omega arith;
  goes_on = let all : count ≡ count - 0 = omega arith in ap (λ (n : ℕ). all_at read n [] bytes start) all;
}

module _ {A : Type 0} (read : Reader A) (count : ℕ) (bytes : List ℕ) (start : ℕ) (items : List A) (at : ℕ) (done : IsReadTo read count bytes start items at) where
  -- while there are fewer items than counted, one more is read
  one_of : length items < count → (m : ℕ) × (count ≡ length items + 1 + m) × (all_at read count [] bytes start ≡ (read items bytes at >>= λ item. all_at read m (items ++ item.0 ∷ []) bytes item.1))
  one_of fewer =
      let m = count - length items - 1 in
      let more : count - length items ≡ suc m = omega (arith, fewer) in
      (m, omega (arith, fewer), done.goes_on ∙ ap (λ (n : ℕ). all_at read n items bytes at) more)

  pub one_more : (item : A) (end : ℕ) → length items < count → read items bytes at ≡ Ok (item, end) → IsReadTo read count bytes start (items ++ item ∷ []) end
  one_more item end fewer is =
      let one = one_of fewer in
      let len = length-append items (item ∷ []) in
      let rest : one.0 ≡ count - length (items ++ item ∷ []) = omega (arith, len, one.1) in
      record {
        few = omega (arith, len, fewer);
        goes_on =
            one.2
            ∙ ap (λ (r : Result (A × ℕ) HeaderRefused). r >>= λ item. all_at read one.0 (items ++ item.0 ∷ []) bytes item.1) is
            ∙ ap (λ (n : ℕ). all_at read n (items ++ item ∷ []) bytes end) rest;
      }

  -- where it can't be read, they all can't
  pub refused_there : (why : HeaderRefused) → length items < count → IsRefused why (read items bytes at) → IsRefused why (all_at read count [] bytes start)
  refused_there why fewer = by why
    where
      as_err : (e : HeaderRefused) → read items bytes at ≡ Err e → all_at read count [] bytes start ≡ Err e
      as_err e is =
          let one = one_of fewer in
          one.2 ∙ ap (λ (r : Result (A × ℕ) HeaderRefused). r >>= λ item. all_at read one.0 (items ++ item.0 ∷ []) bytes item.1) is

      by : (e : HeaderRefused) → IsRefused e (read items bytes at) → IsRefused e (all_at read count [] bytes start)
      by (Short place) is = as_err (Short place) is
      by (Kind place) is = as_err (Kind place) is
      by (Order place) is = as_err (Order place) is
      by (Trailing place) is = as_err (Trailing place) is
      by NoMemory is = tt

  -- all that are counted are read
  pub at_last : (length items < count → ⊥) → all_at read count [] bytes start ≡ Ok (items, at)
  at_last none =
      let rest : count - length items ≡ 0 = omega (arith, done.few) in
      done.goes_on ∙ ap (λ (n : ℕ). all_at read n items bytes at) rest

pub word_read : (before bytes : List ℕ) (at word : ℕ) → field_at w64 bytes at ≡ Ok word → word_at before bytes at ≡ Ok (word, at + 8)
word_read before bytes at word is = ap (λ (r : Result ℕ HeaderRefused). r >>= λ word. let read : Result (ℕ × ℕ) HeaderRefused = Ok (word, at + 8) in read) is
