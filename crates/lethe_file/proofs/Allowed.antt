-- A filter allows a key where it may hold it.
use Rattle.std.proofs.Common.{◌≡◌, ℕ, zero, suc, ◌+◌, ◌*◌, ◌%◌, ◌<◌, Bool, true, List, length, IsTrue, ◌↔◌, refl, sym, subst, arith}
use Rattle.std.proofs.lemmas.Bool.{and_parts, and_from, eqb-true, eq-eqb}
use Rattle.std.specs.Cmp.{both_ways}
use Rattle.lethe_base.specs.Keys.{Bytes}
use Rattle.lethe_header.specs.Filters.{hash_of, start_of, step_of, IsSet, MayHold}
use Rattle.lethe_file.specs.Finding.{is_set, allows}

abbrev probe : List ℕ → Bytes → ℕ → ℕ
probe words key i = (start_of (hash_of key) + i * step_of (hash_of key)) % (64 * length words)

set_is : (words : List ℕ) (bit : ℕ) → is_set words bit ≡ true → IsSet words bit
set_is words bit h = eqb-true _ _ h

is_there : (words : List ℕ) (key : Bytes) (i bit : ℕ) → bit ≡ probe words key i → is_set words (probe words key i) ≡ true → IsSet words bit
is_there words key i bit e h = subst (IsSet words) (sym e) (set_is words (probe words key i) h)

one_of : (words : List ℕ) (key : Bytes) (i : ℕ) → i < 6 → MayHold words key → is_set words (probe words key i) ≡ true
one_of words key i lt holds = eq-eqb _ _ (holds (probe words key i) (i, lt, refl))

may_hold : (words : List ℕ) (key : Bytes) → allows key words ≡ true → MayHold words key
unfolding allows
may_hold words key h bit (i, lt, e) =
    let a = and_parts (is_set words (probe words key 0)) _ h in
    let b = and_parts (is_set words (probe words key 1)) _ a.1 in
    let c = and_parts (is_set words (probe words key 2)) _ b.1 in
    let d = and_parts (is_set words (probe words key 3)) _ c.1 in
    let f = and_parts (is_set words (probe words key 4)) _ d.1 in
    let g = and_parts (is_set words (probe words key 5)) _ f.1 in
    by i lt e a.0 b.0 c.0 d.0 f.0 g.0
  where
    by : (i : ℕ) → i < 6 → bit ≡ probe words key i → is_set words (probe words key 0) ≡ true → is_set words (probe words key 1) ≡ true → is_set words (probe words key 2) ≡ true → is_set words (probe words key 3) ≡ true → is_set words (probe words key 4) ≡ true → is_set words (probe words key 5) ≡ true → IsSet words bit
    by zero lt e h0 h1 h2 h3 h4 h5 = is_there words key 0 bit e h0
    by (suc zero) lt e h0 h1 h2 h3 h4 h5 = is_there words key 1 bit e h1
    by (suc (suc zero)) lt e h0 h1 h2 h3 h4 h5 = is_there words key 2 bit e h2
    by (suc (suc (suc zero))) lt e h0 h1 h2 h3 h4 h5 = is_there words key 3 bit e h3
    by (suc (suc (suc (suc zero)))) lt e h0 h1 h2 h3 h4 h5 = is_there words key 4 bit e h4
    by (suc (suc (suc (suc (suc zero))))) lt e h0 h1 h2 h3 h4 h5 = is_there words key 5 bit e h5
    by (suc (suc (suc (suc (suc (suc i)))))) lt e h0 h1 h2 h3 h4 h5 = absurd (omega arith)

allowed : (words : List ℕ) (key : Bytes) → MayHold words key → allows key words ≡ true
unfolding allows
allowed words key holds =
    and_from _ _ (one_of words key 0 (omega arith) holds)
    (and_from _ _ (one_of words key 1 (omega arith) holds)
    (and_from _ _ (one_of words key 2 (omega arith) holds)
    (and_from _ _ (one_of words key 3 (omega arith) holds)
    (and_from _ _ (one_of words key 4 (omega arith) holds)
    (and_from _ _ (one_of words key 5 (omega arith) holds) refl)))))

pub allows_is : (words : List ℕ) (key : Bytes) (b : Bool) → (IsTrue b ↔ MayHold words key) → b ≡ allows key words
allows_is words key b told = both_ways b (allows key words) (λ h. allowed words key (told.0 h)) (λ h. told.1 (may_hold words key h))

pub allowed_key : (words : List ℕ) (key : Bytes) → MayHold words key → allows key words ≡ true
allowed_key = allowed
