-- A number that is read in its range stands there, and one that stands there is read.
use Rattle.std.proofs.Common.{◌≡◌, ℕ, ◌+◌, ◌^◌, ◌<◌, ◌≤◌, Bool, true, cond, ltb, leb, List, [], ◌∷◌, Option, Some, Result, Ok, Err, refl, ap, subst, arith}
use Rattle.std.specs.Prelude.{ok_or}
use Rattle.std.specs.Int.{Width, w8, w32, w64, byte_len, to_be_bytes, is_in_range, IsInRange}
use Rattle.std.proofs.lemmas.Bool.{and_from, le-leb, lt-ltb, ltb-true}
use Rattle.std.proofs.lemmas.Nat.{be_bytes_4, from_be_bytes-to_be_bytes_4}
use Rattle.lethe_base.specs.Limits.{max_place}
use Rattle.lethe_base.specs.Numbers.{number_at, IsBytes}
use Rattle.lethe_base.specs.Reading.{StandsAt}
use Rattle.lethe_base.specs.declared.reading.EntryRefused.TheVariants as entry
use Rattle.lethe_base.proofs.FieldLaws.{IsWide, wide64, number_stands, number_again, byte_stands, first_byte}
use Rattle.lethe_base.proofs.Configurations.{in_range}
use Rattle.lethe_base.specs.Results.{◌>>=◌}
use Rattle.lethe_base.proofs.ReadingSteps.{bind_ok, met_test, field_ok}
use Rattle.lethe_manifest.specs.Numbers.{number_within, number_above, cited_at}
use Rattle.lethe_manifest.specs.declared.refused.ManifestRefused.{ManifestRefused}
use Rattle.lethe_manifest.specs.declared.refused.ManifestRefused.TheVariants.{Short, Kind, Order}

-- a number that was read and then passed a test
pub tested_ok : (r : Result ℕ ManifestRefused) (t : ℕ → Bool) (why : ManifestRefused) (n : ℕ) → (r >>= λ k. cond (t k) (Ok k) (Err why)) ≡ Ok n → (r ≡ Ok n) × (t n ≡ true)
tested_ok r t why n e =
    let b = bind_ok r (λ k. cond (t k) (Ok k) (Err why)) n e in
    let g = met_test (t b.0) b.0 why n b.2 in
    subst (λ (k : ℕ). (r ≡ Ok k) × (t k ≡ true)) g.1 (b.1, g.0)

-- ---- numbers

within_ok : (w : Width) (lo hi : ℕ) (bytes : List ℕ) (at n : ℕ) → number_within w lo hi bytes at ≡ Ok n → (number_at w bytes at ≡ Some n) × IsInRange lo hi n
unfolding number_within
within_ok w lo hi bytes at n e =
    let b = bind_ok (ok_or (number_at w bytes at) (Short at)) (λ k. cond (is_in_range lo hi k) (Ok k) (Err (Kind at))) n e in
    let g = met_test (is_in_range lo hi b.0) b.0 (Kind at) n b.2 in
    let read = field_ok (number_at w bytes at) (Short at) b.0 b.1 in
    subst (λ (k : ℕ). (number_at w bytes at ≡ Some k) × IsInRange lo hi k) g.1 (read, in_range lo hi b.0 g.0)

within_again : (w : Width) (lo hi : ℕ) (bytes : List ℕ) (at n : ℕ) → number_at w bytes at ≡ Some n → IsInRange lo hi n → number_within w lo hi bytes at ≡ Ok n
unfolding number_within
within_again w lo hi bytes at n e r =
    let met : is_in_range lo hi n ≡ true = and_from (leb lo n) (leb n hi) (le-leb lo n r.0) (le-leb n hi r.1) in
    rw (e, met) refl

pub wide_ok : (w : Width) (limit : ℕ) (wide : IsWide w limit) (lo hi : ℕ) (bytes : List ℕ) (at n : ℕ) → IsBytes bytes → number_within w lo hi bytes at ≡ Ok n → StandsAt (to_be_bytes w n) bytes at (at + byte_len w) × IsInRange lo hi n
wide_ok w limit wide lo hi bytes at n fits e =
    let read = within_ok w lo hi bytes at n e in
    ((number_stands w limit wide bytes at n fits read.0).0, read.1)

pub wide_again : (w : Width) (limit : ℕ) (wide : IsWide w limit) (lo hi : ℕ) (bytes : List ℕ) (at end n : ℕ) → n < limit → IsInRange lo hi n → StandsAt (to_be_bytes w n) bytes at end → number_within w lo hi bytes at ≡ Ok n
wide_again w limit wide lo hi bytes at end n small r p = within_again w lo hi bytes at n (number_again w limit wide bytes at end n small p) r

pub byte_ok : (lo hi : ℕ) (bytes : List ℕ) (at n : ℕ) → IsBytes bytes → number_within w8 lo hi bytes at ≡ Ok n → StandsAt (n ∷ []) bytes at (at + 1) × IsInRange lo hi n
byte_ok lo hi bytes at n fits e =
    let read = within_ok w8 lo hi bytes at n e in
    ((byte_stands bytes at n fits (ap (λ (o : Option ℕ). ok_or o (entry.Short at)) read.0)).0, read.1)

pub byte_back : (lo hi : ℕ) (bytes : List ℕ) (at end n : ℕ) → IsInRange lo hi n → StandsAt (n ∷ []) bytes at end → number_within w8 lo hi bytes at ≡ Ok n
byte_back lo hi bytes at end n r p = within_again w8 lo hi bytes at n (first_byte n [] bytes at end p) r

pub wide32 : IsWide w32 (2 ^ 32)
wide32 = record {
  len = λ n. refl;
  back = λ bytes len fits. be_bytes_4 bytes _ len fits refl;
  again = λ n lt. from_be_bytes-to_be_bytes_4 n lt;
  below = λ bytes fits. omega (arith, fits 0, fits 1, fits 2, fits 3);
}

-- ---- fields of eight bytes

pub long_ok : (lo hi : ℕ) (bytes : List ℕ) (at end n : ℕ) → at + 8 ≡ end → IsBytes bytes → number_within w64 lo hi bytes at ≡ Ok n → StandsAt (to_be_bytes w64 n) bytes at end × IsInRange lo hi n
long_ok lo hi bytes at end n ends fits e =
    let t = wide_ok w64 (2 ^ 64) wide64 lo hi bytes at n fits e in
    (subst (λ (e : ℕ). StandsAt (to_be_bytes w64 n) bytes at e) ends t.0, t.1)

pub long_again : (lo hi : ℕ) (bytes : List ℕ) (at end n : ℕ) → hi < 2 ^ 64 → IsInRange lo hi n → StandsAt (to_be_bytes w64 n) bytes at end → number_within w64 lo hi bytes at ≡ Ok n
long_again lo hi bytes at end n small r p = wide_again w64 (2 ^ 64) wide64 lo hi bytes at end n (omega (arith, r.1)) r p

pub above_ok : (bound lo hi : ℕ) (bytes : List ℕ) (at end n : ℕ) → at + 8 ≡ end → IsBytes bytes → number_above bound lo hi bytes at ≡ Ok n → StandsAt (to_be_bytes w64 n) bytes at end × IsInRange lo hi n × (bound < n)
unfolding number_above
above_ok bound lo hi bytes at end n ends fits e =
    let b = tested_ok (number_within w64 lo hi bytes at) (λ n. ltb bound n) (Order at) n e in
    let t = long_ok lo hi bytes at end n ends fits b.0 in
    (t.0, t.1, ltb-true bound n b.1)

pub above_again : (bound lo hi : ℕ) (bytes : List ℕ) (at end n : ℕ) → hi < 2 ^ 64 → IsInRange lo hi n → bound < n → StandsAt (to_be_bytes w64 n) bytes at end → number_above bound lo hi bytes at ≡ Ok n
unfolding number_above
above_again bound lo hi bytes at end n small r above p = rw (long_again lo hi bytes at end n small r p, lt-ltb bound n above) refl

pub cited_ok : (next : ℕ) (bytes : List ℕ) (at end n : ℕ) → at + 8 ≡ end → IsBytes bytes → cited_at next bytes at ≡ Ok n → StandsAt (to_be_bytes w64 n) bytes at end × (n < next)
unfolding cited_at
cited_ok next bytes at end n ends fits e =
    let b = tested_ok (number_within w64 0 max_place bytes at) (λ n. ltb n next) (Order at) n e in
    ((long_ok 0 max_place bytes at end n ends fits b.0).0, ltb-true n next b.1)

pub cited_again : (next : ℕ) (bytes : List ℕ) (at end n : ℕ) → next ≤ max_place → n < next → StandsAt (to_be_bytes w64 n) bytes at end → cited_at next bytes at ≡ Ok n
unfolding cited_at
cited_again next bytes at end n fits below p = rw (long_again 0 max_place bytes at end n (omega arith) (omega arith, omega (arith, fits, below)) p, lt-ltb n next below) refl
