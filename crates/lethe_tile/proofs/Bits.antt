-- The bits of words, and places past the last bit, which are counted on from the first one.
use Rattle.std.proofs.Common.{◌≡◌, ℕ, ◌+◌, ◌*◌, ◌/◌, ◌%◌, ◌^◌, ◌<◌, ◌≤◌, ◌⊎◌, ◌↔◌, true, List, [], length, replicate, get_or, set, All, below_more, bit_and, bit_or, eqb, refl, sym, ap, ◌∙◌, subst, inl, inr, arith}
use Rattle.std.proofs.Math.Facts.{Fits-lt-pow, Fits-of_lt, Fits-or}
use Rattle.std.proofs.lemmas.List.Elements.{All-set}
use Rattle.std.proofs.lemmas.Bool.{eqb-true, eq-eqb, cases_eq, cases_lt}
use Rattle.std.proofs.lemmas.Nat.{div-add-mod', mod-mul-add, div-mul-add, mod_below}
use Rattle.std.proofs.lemmas.Nat.Bits.{shr_and_one, bit_at_set_same, bit_at_set_other, bit_at-zero}
use Rattle.std.proofs.lemmas.List.{get_or-set_same, get_or-set_other, get_or-replicate, get_or_past, get_or_default, length-replicate}
use Rattle.lethe_base.specs.Keys.{Bytes}
use Rattle.std.specs.Int.{bit_at, w64}
use Rattle.lethe_tile.specs.Filters.{IsSet, IsPlace, IsProbe, MayHold, filter_bits, filter_len, hash_of, start_of, step_of}

abbrev bit_of : List ℕ → ℕ → ℕ
bit_of words bit = bit_at (get_or words (bit / 64) 0) (bit % 64)

-- to count on from the first bit is to count on from the first word
pub wrapped : (place words : ℕ) → 0 < words → place % (64 * words) ≡ place / 64 % words * 64 + place % 64
wrapped place words some =
    let whole : place / 64 * 64 + place % 64 ≡ place = div-add-mod' place 64 in
    let turns : place / 64 / words * words + place / 64 % words ≡ place / 64 = div-add-mod' (place / 64) words in
    let in_turn : place / 64 % words < words = mod_below (place / 64) words some in
    let below : place / 64 % words * 64 + place % 64 < 64 * words = omega arith in
    let split : place ≡ place / 64 / words * (64 * words) + (place / 64 % words * 64 + place % 64) = omega arith in
    ap (λ x. x % (64 * words)) split ∙ mod-mul-add (place / 64 / words) (64 * words) (place / 64 % words * 64 + place % 64) below

low : (place : ℕ) → place % 64 < 64
low place = mod_below place 64 (omega arith)

word_of : (place words : ℕ) → 0 < words → place % (64 * words) / 64 ≡ place / 64 % words
word_of place words some = ap (λ x. x / 64) (wrapped place words some) ∙ div-mul-add (place / 64 % words) 64 (place % 64) (low place)

in_word : (place words : ℕ) → 0 < words → place % (64 * words) % 64 ≡ place % 64
in_word place words some = ap (λ x. x % 64) (wrapped place words some) ∙ mod-mul-add (place / 64 % words) 64 (place % 64) (low place)

-- the test of the bit at a place
pub tested : (words : List ℕ) (place : ℕ) → 0 < length words
    → (eqb (bit_and (get_or words (place / 64 % length words) 0 / 2 ^ (place % 64)) 1) 1 ≡ true) ↔ IsSet words (place % (64 * length words))
tested words place some =
    let bit : bit_of words (place % (64 * length words)) ≡ bit_at (get_or words (place / 64 % length words) 0) (place % 64) = rw (word_of place (length words) some, in_word place (length words) some) refl in
    let same : bit_of words (place % (64 * length words)) ≡ bit_and (get_or words (place / 64 % length words) 0 / 2 ^ (place % 64)) 1 = bit ∙ sym (shr_and_one (get_or words (place / 64 % length words) 0) (place % 64)) in
    (λ t. same ∙ eqb-true _ _ t, λ is. eq-eqb _ _ (sym same ∙ is))

-- a word with one more bit
abbrev with_bit : ℕ → ℕ → ℕ
with_bit word k = bit_or word (1 * 2 ^ k % 2 ^ 64)

set_here : (words : List ℕ) (w k bit : ℕ) → w < length words → k < 64 → bit ≡ w * 64 + k → bit_of (set words w (with_bit (get_or words w 0) k)) bit ≡ 1
set_here words w k bit within below is =
    let word : bit / 64 ≡ w = ap (λ x. x / 64) is ∙ div-mul-add w 64 k below in
    let place : bit % 64 ≡ k = ap (λ x. x % 64) is ∙ mod-mul-add w 64 k below in
    let read : get_or (set words w (with_bit (get_or words w 0) k)) w 0 ≡ with_bit (get_or words w 0) k = get_or-set_same words w _ 0 within in
    rw (word, place, read) (bit_at_set_same w64 (get_or words w 0) k below)

set_elsewhere : (words : List ℕ) (w k bit : ℕ) → w < length words → k < 64 → (bit ≡ w * 64 + k → ⊥) → bit_of (set words w (with_bit (get_or words w 0) k)) bit ≡ bit_of words bit
set_elsewhere words w k bit within below other =
    elim (cases_eq (bit / 64) w) [
      | inl same ↦
          let elsewhere : bit % 64 ≡ k → ⊥ = λ e. other (let whole : bit / 64 * 64 + bit % 64 ≡ bit = div-add-mod' bit 64 in omega arith) in
          let read : get_or (set words w (with_bit (get_or words w 0) k)) w 0 ≡ with_bit (get_or words w 0) k = get_or-set_same words w _ 0 within in
          rw (same, read) (bit_at_set_other w64 (get_or words w 0) k below (bit % 64) elsewhere)
      | inr away ↦ ap (λ x. bit_at x (bit % 64)) (get_or-set_other words w (bit / 64) _ 0 away)
    ]

-- setting a bit sets that one
pub set_bit : (words : List ℕ) (place bit : ℕ) → 0 < length words
    → IsSet (set words (place / 64 % length words) (with_bit (get_or words (place / 64 % length words) 0) (place % 64))) bit ↔ (IsSet words bit ⊎ (bit ≡ place % (64 * length words)))
set_bit words place bit some =
    let at : place % (64 * length words) ≡ place / 64 % length words * 64 + place % 64 = wrapped place (length words) some in
    let within : place / 64 % length words < length words = mod_below (place / 64) (length words) some in
    elim (cases_eq bit (place % (64 * length words))) [
      | inl here ↦ (λ is. inr here, λ either. set_here words _ _ bit within (low place) (here ∙ at))
      | inr away ↦
          let kept = set_elsewhere words _ _ bit within (low place) (λ e. away (e ∙ sym at)) in
          (λ is. inl (sym kept ∙ is), λ either. elim either [ inl is ↦ kept ∙ is | inr here ↦ absurd (away here) ])
    ]

-- words of 64 bits stay so where a bit is set
pub words_fit : (words : List ℕ) (place : ℕ) → 0 < length words → All (λ word. word < 2 ^ 64) words
    → All (λ word. word < 2 ^ 64) (set words (place / 64 % length words) (with_bit (get_or words (place / 64 % length words) 0) (place % 64)))
words_fit words place some all =
    let old : get_or words (place / 64 % length words) 0 < 2 ^ 64 = all _ 0 (mod_below (place / 64) (length words) some) in
    let bit : 1 * 2 ^ (place % 64) % 2 ^ 64 < 2 ^ 64 = mod_below (1 * 2 ^ (place % 64)) (2 ^ 64) (omega arith) in
    All-set (λ word. word < 2 ^ 64) words _ _ (Fits-lt-pow {w = w64} (Fits-or (Fits-of_lt old) (Fits-of_lt bit))) all

-- one of the first n bits of a hash
abbrev pub IsPlaceBelow : ℕ → ℕ → ℕ → ℕ → Type 0
IsPlaceBelow n bits hash bit = (i : ℕ) × (i < n) × (bit ≡ (start_of hash + i * step_of hash) % bits)

-- the new words have the bits of the old ones and the first n of a hash
abbrev pub SetsBelow : List ℕ → List ℕ → ℕ → ℕ → Type 0
SetsBelow old new hash n = (bit : ℕ) → IsSet new bit ↔ (IsSet old bit ⊎ IsPlaceBelow n (64 * length old) hash bit)

pub sets_none : (old : List ℕ) (hash : ℕ) → SetsBelow old old hash 0
sets_none old hash bit = (λ is. inl is, λ either. elim either [ inl is ↦ is | inr there ↦ absurd (omega (arith, there.1)) ])

pub sets_more : (old mid new : List ℕ) (hash n : ℕ) → length mid ≡ length old → SetsBelow old mid hash n
    → ((bit : ℕ) → IsSet new bit ↔ (IsSet mid bit ⊎ (bit ≡ (start_of hash + n * step_of hash) % (64 * length mid)))) → SetsBelow old new hash (n + 1)
sets_more old mid new hash n same before step bit =
    let next : (start_of hash + n * step_of hash) % (64 * length mid) ≡ (start_of hash + n * step_of hash) % (64 * length old) = ap (λ x. (start_of hash + n * step_of hash) % (64 * x)) same in (
      λ is. elim ((step bit).0 is) [
        | inl was ↦ elim ((before bit).0 was) [ inl old' ↦ inl old' | inr there ↦ inr (there.0, omega (arith, there.1), there.2) ]
        | inr here ↦ inr (n, omega arith, here ∙ next)
      ],
      λ either. elim either [
        | inl was ↦ (step bit).1 (inl ((before bit).1 (inl was)))
        | inr there ↦ elim (cases_eq there.0 n) [
          | inl last ↦ (step bit).1 (inr (there.2 ∙ ap (λ i. (start_of hash + i * step_of hash) % (64 * length old)) last ∙ sym next))
          | inr earlier ↦ (step bit).1 (inl ((before bit).1 (inr (there.0, omega (arith, there.1), there.2))))
        ]
      ],
    )

-- the first n bits of a hash are set
abbrev pub HasBelow : List ℕ → ℕ → ℕ → Type 0
HasBelow words hash n = (i : ℕ) → i < n → IsSet words ((start_of hash + i * step_of hash) % (64 * length words))

pub has_more : (words : List ℕ) (hash n : ℕ) → HasBelow words hash n → IsSet words ((start_of hash + n * step_of hash) % (64 * length words)) → HasBelow words hash (n + 1)
has_more words hash n before here = below_more _ _ before here

pub has_all : (words : List ℕ) (key : Bytes) (hash n : ℕ) → hash ≡ hash_of key → 6 ≤ n → HasBelow words hash n → MayHold words key
has_all words key hash n same all set bit probe =
    let place : bit ≡ (start_of hash + probe.0 * step_of hash) % (64 * length words) = probe.2 ∙ ap (λ h. (start_of h + probe.0 * step_of h) % (64 * length words)) (sym same) in
    subst (IsSet words) (sym place) (set probe.0 (omega (arith, probe.1)))

pub has_each : (words : List ℕ) (key : Bytes) (hash n : ℕ) → hash ≡ hash_of key → n < 6 → MayHold words key → IsSet words ((start_of hash + n * step_of hash) % (64 * length words))
has_each words key hash n same below holds = holds _ (n, below, ap (λ h. (start_of h + n * step_of h) % (64 * length words)) same)

-- the words have the probes of the first n keys
abbrev pub SetsKeys : List ℕ → List Bytes → ℕ → Type 0
SetsKeys words keys n = (bit : ℕ) → IsSet words bit ↔ ((k : ℕ) × (k < n) × IsProbe (filter_len (length keys)) (get_or keys k []) bit)

zeros : (n i : ℕ) → get_or {A = ℕ} (replicate n 0) i 0 ≡ 0
zeros n i =
    elim (cases_lt i n) [
      | inl below ↦ get_or-replicate n i 0 0 below
      | inr past ↦ get_or_past (replicate n 0) i 0 (omega (arith, length-replicate {A = ℕ}))
    ]

pub keys_none : (words : List ℕ) (keys : List Bytes) (n : ℕ) → words ≡ replicate n 0 → SetsKeys words keys 0
keys_none words keys n is bit = (
  λ set. absurd (let none : bit_of words bit ≡ 0 = rw is (rw (zeros n (bit / 64)) (bit_at-zero (bit % 64))) in let one : bit_of words bit ≡ 1 = set in omega arith),
  λ there. absurd (omega (arith, there.1)),
)

pub keys_more : (old new : List ℕ) (keys : List Bytes) (hash n : ℕ) → 64 * length old ≡ filter_len (length keys) → SetsKeys old keys n
    → ((bit : ℕ) → IsSet new bit ↔ (IsSet old bit ⊎ IsPlace (64 * length old) hash bit)) → hash ≡ hash_of (get_or keys n []) → SetsKeys new keys (n + 1)
keys_more old new keys hash n long before step same bit =
    let one : (b h : ℕ) → 64 * length old ≡ b → hash ≡ h → IsPlace (64 * length old) hash bit ≡ IsPlace b h bit = λ b h p q. rw (sym p, sym q) refl in
    let here : IsPlace (64 * length old) hash bit ≡ IsProbe (filter_len (length keys)) (get_or keys n []) bit = one _ _ long same in (
      λ is. elim ((step bit).0 is) [
        | inl was ↦ let there = (before bit).0 was in (there.0, omega (arith, there.1), there.2)
        | inr now ↦ (n, omega arith, subst (λ (P : Type 0). P) here now)
      ],
      λ there. elim (cases_eq there.0 n) [
        | inl last ↦ (step bit).1 (inr (subst (λ (P : Type 0). P) (sym here) (subst (λ k. IsProbe (filter_len (length keys)) (get_or keys k []) bit) last there.2)))
        | inr earlier ↦ (step bit).1 (inl ((before bit).1 (there.0, omega (arith, there.1), there.2)))
      ],
    )

-- so with all keys they have exactly the bits of the keys
pub keys_all : (words : List ℕ) (keys : List Bytes) (n : ℕ) → SetsKeys words keys n → n ≡ length keys → (bit : ℕ) → IsSet words bit ↔ filter_bits keys bit
keys_all words keys n sets all bit = (
  λ is. let there = (sets bit).0 is in let below : there.0 < length keys = omega (arith, there.1) in (there.0, get_or keys there.0 [], below, get_or_default keys there.0 _ _ below, there.2),
  λ there. (sets bit).1 (there.0, omega (arith, there.2), subst (λ key. IsProbe (filter_len (length keys)) key bit) (sym (get_or_default keys there.0 [] there.1 there.2 ∙ there.3)) there.4),
)

pub keys_held : (words : List ℕ) (keys : List Bytes) (n : ℕ) → 64 * length words ≡ filter_len (length keys) → SetsKeys words keys n → n ≡ length keys → All (MayHold words) keys
keys_held words keys n long sets all k d below bit probe =
    (sets bit).1 (k, omega arith, subst (λ bits. IsProbe bits (get_or keys k []) bit) long (subst (λ key. IsProbe (64 * length words) key bit) (get_or_default keys k d [] below) probe))
