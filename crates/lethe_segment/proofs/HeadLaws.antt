-- Heads, and where bytes stop being one.
use Rattle.std.proofs.Common.{◌≡◌, ℕ, zero, suc, ◌+◌, ◌-◌, ◌^◌, ◌<◌, ◌≤◌, Bool, leb, eqb, cond, true, false, List, [], ◌∷◌, ◌++◌, length, replicate, take, drop, Option, Some, None, Result, Ok, Err, ◌⊎◌, refl, sym, ap, subst, ◌∙◌, append_assoc, arith, inl, inr, length-append, length-drop, length-take}
use Rattle.std.specs.Prelude.{◌==◌, not, position, ok_or, IfOk, IfErr, MatchOption}
use Rattle.std.specs.Result.{result_ok}
use Rattle.std.specs.List.{position_from, zip}
use Rattle.std.proofs.lemmas.Iterator.Adapters.{position_from-zero}
use Rattle.std.specs.Int.{w64, from_be_bytes, to_be_bytes}
use Rattle.std.proofs.lemmas.Bool.{cases_lt, cases_order, eqb-false, eqb-true, leb-false, not-false, not-true}
use Rattle.std.proofs.lemmas.List.{drop_at, length-replicate, take-append-drop, take-append-le, take-take, take_all, take_at}
use Rattle.lethe_base.specs.Numbers.{number_at, IsBytes}
use Rattle.lethe_base.proofs.FieldLaws.{number_stands, same_number, wide64, IsBytes-drop}
use Rattle.lethe_segment.specs.Segments.{mark, head_bytes}
use Rattle.lethe_segment.specs.Heads.{HasHead, IsNoHead, IsHeadFault}

head_is : (number : ℕ) → head_bytes number ≡ mark ++ to_be_bytes w64 number
unfolding head_bytes
head_is number = refl

pub length-head : (number : ℕ) → length (head_bytes number) ≡ 11
unfolding head_bytes
length-head number = refl

-- behind heads of the same bytes stands the same
pub behind_heads : (m n : ℕ) (x y : List ℕ) → head_bytes m ++ x ≡ head_bytes n ++ y → (head_bytes m ≡ head_bytes n) × (x ≡ y)
behind_heads m n x y e = (
  sym (take_at (head_bytes m) x 11 (length-head m)) ∙ ap (λ (l : List ℕ). take 11 l) e ∙ take_at (head_bytes n) y 11 (length-head n),
  sym (drop_at (head_bytes m) x 11 (length-head m)) ∙ ap (λ (l : List ℕ). drop 11 l) e ∙ drop_at (head_bytes n) y 11 (length-head n),
)

pub same_head : (m n : ℕ) → m < 2 ^ 64 → n < 2 ^ 64 → head_bytes m ≡ head_bytes n → m ≡ n
unfolding head_bytes
same_head m n m_fits n_fits e = same_number w64 (2 ^ 64) wide64 m n m_fits n_fits (ap (λ (l : List ℕ). drop 3 l) e)

-- ---- faults

-- bytes with a head have no fault
pub no_fault : (bytes rest : List ℕ) (at number : ℕ) → IsHeadFault bytes at → bytes ≡ head_bytes number ++ rest → ⊥
no_fault bytes rest at number fault e =
    fault.no_further number (ap (λ (l : List ℕ). take (at + 1) l) e ∙ take-append-le (at + 1) (head_bytes number) rest (omega (arith, fault.inside, length-head number)))

further : (bytes : List ℕ) (a b : ℕ) → IsHeadFault bytes a → IsHeadFault bytes b → a < b → ⊥
further bytes a b first second lt =
    let le : a + 1 ≤ b = omega (arith, lt) in
    first.no_further second.number (sym (take-take (a + 1) b bytes le) ∙ ap (λ (l : List ℕ). take (a + 1) l) second.begins ∙ take-take (a + 1) b (head_bytes second.number) le)

-- bytes have one fault at most
pub same_fault : (bytes : List ℕ) (a b : ℕ) → IsHeadFault bytes a → IsHeadFault bytes b → a ≡ b
same_fault bytes a b first second =
    elim (cases_order a b) [
      | inl e ↦ e
      | inr other ↦ elim other [ inl lt ↦ absurd (further bytes a b first second lt) | inr gt ↦ absurd (further bytes b a second first gt) ]
    ]

-- ---- what the reader of heads finds

marked : (bytes : List ℕ) → take 3 bytes ≡ mark → bytes ≡ mark ++ drop 3 bytes
marked bytes e = sym (take-append-drop 3 bytes) ∙ ap (λ (l : List ℕ). l ++ drop 3 bytes) e

pub head_found : (bytes : List ℕ) (number : ℕ) → IsBytes bytes → take 3 bytes ≡ mark → number_at w64 bytes 3 ≡ Some number → HasHead number bytes
head_found bytes number fits e read =
    let stands = number_stands w64 (2 ^ 64) wide64 bytes 3 number fits read in
    record {
      fits = stands.1;
      rest = drop 11 bytes;
      parts = marked bytes e ∙ ap (λ (l : List ℕ). mark ++ l) stands.0.parts ∙ ap (λ (l : List ℕ). l ++ drop 11 bytes) (sym (head_is number));
    }

in_mark : (number n : ℕ) → n ≤ 3 → take n (head_bytes number) ≡ take n mark
in_mark number n le = ap (λ (l : List ℕ). take n l) (head_is number) ∙ take-append-le n mark (to_be_bytes w64 number) le

-- the bytes differ from each head at one of its first three places
differs_at : (bytes : List ℕ) (at : ℕ) → at < 3 → take at bytes ≡ take at mark → (take (at + 1) bytes ≡ take (at + 1) mark → ⊥) → IsHeadFault bytes at
differs_at bytes at lt same differs = record {
  inside = omega (arith, lt);
  number = 0;
  begins = same ∙ sym (in_mark 0 at (omega (arith, lt)));
  no_further = λ other e. differs (e ∙ in_mark other (at + 1) (omega (arith, lt)));
}

abbrev pub differ : ℕ × ℕ → Bool
differ pair = not (pair.0 == pair.1)

abbrev here : ℕ → Option ℕ
here n = Some n

some_is : (m n : ℕ) → here m ≡ here n → m ≡ n
some_is m n e = cc

same_bytes : (a b : ℕ) → differ (a, b) ≡ false → a ≡ b
same_bytes a b e = eqb-true a b (not-false (eqb a b) e)

other_bytes : (a b : ℕ) → differ (a, b) ≡ true → a ≡ b → ⊥
other_bytes a b e = eqb-false a b (not-true (eqb a b) e)

heads_are : (a b : ℕ) (xs ys : List ℕ) → a ∷ xs ≡ b ∷ ys → (a ≡ b) × (xs ≡ ys)
heads_are a b xs ys e = (cc, cc)

both : (a b : ℕ) (xs ys : List ℕ) → a ≡ b → xs ≡ ys → a ∷ xs ≡ b ∷ ys
both a b xs ys e f = cc

-- up to the first place that differs two lists are the same, and not one byte further
record IsFirst (bytes wanted : List ℕ) (i at : ℕ) : Type 0 where
  k : ℕ
  at_is : at ≡ i + k
  inside : k < length wanted
  same : take k bytes ≡ take k wanted
  no_further : take (suc k) bytes ≡ take (suc k) wanted → ⊥

first_from : (bytes wanted : List ℕ) (i at : ℕ) → position_from differ i (zip bytes wanted) ≡ Some at → IsFirst bytes wanted i at
first_from [] wanted i at e = absurd cc
first_from (b ∷ bytes) [] i at e = absurd cc
first_from (b ∷ bytes) (w ∷ wanted) i at e =
    elim (cond_is (differ (b, w)) (Some i) (position_from differ (i + 1) (zip bytes wanted)) (Some at) e) [
      | inl h ↦ record {
        k = 0;
        at_is = omega (arith, some_is i at h.1);
        inside = omega arith;
        same = refl;
        no_further = λ f. other_bytes b w h.0 (heads_are b w [] [] f).0;
      }
      | inr h ↦
          let rest = first_from bytes wanted (i + 1) at h.1 in
          let first : b ≡ w = same_bytes b w h.0 in
          record {
            k = suc rest.k;
            at_is = omega (arith, rest.at_is);
            inside = omega (arith, rest.inside);
            same = both b w (take rest.k bytes) (take rest.k wanted) first rest.same;
            no_further = λ f. rest.no_further (heads_are b w (take (suc rest.k) bytes) (take (suc rest.k) wanted) f).1;
          }
    ]
  where
    cond_is : {A : Type 0} (t : Bool) (x y z : A) → cond t x y ≡ z → ((t ≡ true) × (x ≡ z)) ⊎ ((t ≡ false) × (y ≡ z))
    cond_is true x y z e = inl (refl, e)
    cond_is false x y z e = inr (refl, e)

-- the place of the first byte that differs from the mark's
abbrev pub mark_fault : List ℕ → Option ℕ
mark_fault bytes = position differ (zip bytes mark)

pub head_differs : (bytes : List ℕ) (at : ℕ) → mark_fault bytes ≡ Some at → IsHeadFault bytes at
head_differs bytes at e =
    let first = first_from bytes mark 0 at (sym (position_from-zero differ (zip bytes mark)) ∙ e) in
    let is : first.k ≡ at = omega (arith, first.at_is) in
    let next : suc first.k ≡ first.k + 1 = omega arith in
    subst (IsHeadFault bytes) is (differs_at bytes first.k first.inside first.same (subst (λ (n : ℕ). take n bytes ≡ take n mark → ⊥) next first.no_further))

same_from : (bytes wanted : List ℕ) (i : ℕ) → position_from differ i (zip bytes wanted) ≡ None → take (length wanted) bytes ≡ take (length bytes) wanted
same_from [] [] i e = refl
same_from [] (w ∷ wanted) i e = refl
same_from (b ∷ bytes) [] i e = refl
same_from (b ∷ bytes) (w ∷ wanted) i e =
    let h = none_is (differ (b, w)) i (position_from differ (i + 1) (zip bytes wanted)) e in
    both b w (take (length wanted) bytes) (take (length bytes) wanted) (same_bytes b w h.0) (same_from bytes wanted (i + 1) h.1)
  where
    none_is : (t : Bool) (n : ℕ) (o : Option ℕ) → cond t (Some n) o ≡ None → (t ≡ false) × (o ≡ None)
    none_is true n o e = absurd cc
    none_is false n o e = (refl, e)

-- bytes that don't differ from the mark begin with it, or end in it
pub no_difference : (bytes : List ℕ) → mark_fault bytes ≡ None → take 3 bytes ≡ take (length bytes) mark
no_difference bytes e = same_from bytes mark 0 (sym (position_from-zero differ (zip bytes mark)) ∙ e)

IsBytes-append : (xs ys : List ℕ) → IsBytes xs → IsBytes ys → IsBytes (xs ++ ys)
IsBytes-append [] ys p q i = q i
IsBytes-append (x ∷ xs) ys p q zero = p zero
IsBytes-append (x ∷ xs) ys p q (suc i) = IsBytes-append xs ys (λ j. p (suc j)) q i

IsBytes-zeros : (n : ℕ) → IsBytes (replicate n 0)
IsBytes-zeros zero i = omega arith
IsBytes-zeros (suc n) zero = omega arith
IsBytes-zeros (suc n) (suc i) = IsBytes-zeros n i

-- too few bytes for a head, where the mark is whole
number_short : (bytes : List ℕ) → IsBytes bytes → take 3 bytes ≡ mark → length bytes < 11 → (number : ℕ) × (take (length bytes) bytes ≡ take (length bytes) (head_bytes number))
number_short bytes fits e few =
    let zeros : List ℕ = replicate (11 - length bytes) 0 in
    let field : List ℕ = drop 3 bytes ++ zeros in
    let long : 3 ≤ length bytes = omega (arith, ap length e, length-take 3 bytes) in
    let eight : length field ≡ 8 = omega (arith, length-append (drop 3 bytes) zeros, length-drop 3 bytes, length-replicate {A = ℕ} (11 - length bytes) 0) in
    let number : ℕ = from_be_bytes w64 field in
    let spelled : to_be_bytes w64 number ≡ field = wide64.back field eight (IsBytes-append (drop 3 bytes) zeros (IsBytes-drop 3 bytes fits) (IsBytes-zeros (11 - length bytes))) in
    let whole : head_bytes number ≡ bytes ++ zeros = head_is number ∙ ap (λ (l : List ℕ). mark ++ l) spelled ∙ sym (append_assoc mark (drop 3 bytes) zeros) ∙ ap (λ (l : List ℕ). l ++ zeros) (sym (marked bytes e)) in
    (number, take_all (length bytes) bytes (omega arith) ∙ sym (ap (λ (l : List ℕ). take (length bytes) l) whole ∙ take_at bytes zeros (length bytes) refl))

-- too few bytes for a head
pub head_short : (bytes : List ℕ) → IsBytes bytes → take 3 bytes ≡ take (length bytes) mark → length bytes < 11 → IsHeadFault bytes (length bytes)
head_short bytes fits e few =
    let begins = number_of in
    record {
      inside = few;
      number = begins.0;
      begins = begins.1;
      no_further = λ other same. omega (arith, few, ap length same, length-take (length bytes + 1) bytes, length-take (length bytes + 1) (head_bytes other), length-head other);
    }
  where
    number_of : (number : ℕ) × (take (length bytes) bytes ≡ take (length bytes) (head_bytes number))
    number_of =
        elim (cases_lt (length bytes) 3) [
          | inl lt ↦ (0, take_all (length bytes) bytes (omega arith) ∙ sym (take_all 3 bytes (omega (arith, lt))) ∙ e ∙ sym (in_mark 0 (length bytes) (omega (arith, lt))))
          | inr ge ↦ number_short bytes fits (e ∙ take_all (length bytes) mark ge) few
        ]

-- ---- what the reader answers

pub read_found : (bytes : List ℕ) (result : Result ℕ ℕ) → IsBytes bytes → mark_fault bytes ≡ None → result ≡ ok_or (number_at w64 bytes 3) (length bytes) → IfOk result (λ number. HasHead number bytes)
read_found bytes (Ok number) fits none e =
    let some = ok_some (number_at w64 bytes 3) (length bytes) number (sym e) in
    let stands = number_stands w64 (2 ^ 64) wide64 bytes 3 number fits some in
    head_found bytes number fits (no_difference bytes none ∙ take_all (length bytes) mark (omega (arith, stands.0.within))) some
  where
    ok_some : (o : Option ℕ) (d n : ℕ) → ok_or o d ≡ Ok n → o ≡ Some n
    ok_some None d n e = absurd cc
    ok_some (Some m) d n e = cc
read_found bytes (Err at) fits none e = tt

pub read_short : (bytes : List ℕ) (result : Result ℕ ℕ) → IsBytes bytes → mark_fault bytes ≡ None → result ≡ ok_or (number_at w64 bytes 3) (length bytes) → IfErr result (IsHeadFault bytes)
read_short bytes (Ok number) fits none e = tt
read_short bytes (Err at) fits none e =
    let short = too_few (leb 11 (length bytes)) (from_be_bytes w64 (take 8 (drop 3 bytes))) (length bytes) at (sym e) in
    subst (IsHeadFault bytes) short.1 (head_short bytes fits (no_difference bytes none) (leb-false 11 (length bytes) short.0))
  where
    too_few : (t : Bool) (n d at : ℕ) → ok_or (cond t (Some n) None) d ≡ Err at → (t ≡ false) × (d ≡ at)
    too_few true n d at e = absurd cc
    too_few false n d at e = (refl, cc)

pub no_number : (bytes : List ℕ) (result : Result ℕ ℕ) → IfOk result (λ number. HasHead number bytes) → IfErr result (IsHeadFault bytes) → MatchOption (result_ok result) (IsNoHead bytes) (λ number. HasHead number bytes)
no_number bytes (Ok number) found fault = found
no_number bytes (Err at) found fault = λ number rest e. no_fault bytes rest at number fault e
