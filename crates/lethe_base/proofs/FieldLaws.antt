-- A field that is read stands there, and one that stands there is read.
use Rattle.std.proofs.Common.{◌≡◌, ℕ, ◌+◌, ◌^◌, ◌<◌, ◌≤◌, Bool, true, false, cond, ltb, leb, eqb, List, [], ◌∷◌, ◌++◌, length, get_or, take, drop, Option, Some, None, Result, Ok, Err, ◌⊎◌, refl, sym, ap, subst, ◌∙◌, append_assoc, arith, inl, inr, length-append, length-drop}
use Rattle.std.specs.Prelude.{◌&&◌, ok_or}
use Rattle.std.specs.Int.{Width, w8, w16, w64, byte_len, from_be_bytes, to_be_bytes}
use Rattle.std.proofs.lemmas.Bool.{and_parts, and_from, cases_lt, eqb-true, eqb-false, ne_eqb, le-leb, leb-true, le-ltb, lt-ltb, ltb-false, ltb-true}
use Rattle.std.proofs.lemmas.List.{drop-drop, drop_at, drop_more, get_or-drop, get_or-take, get_or_past, length-take, take-append-drop, take_at}
use Rattle.std.proofs.lemmas.Nat.{be_bytes_2, be_bytes_8, from_be_bytes-to_be_bytes_2, from_be_bytes-to_be_bytes_8}
use Rattle.lethe_base.specs.Limits.{IsKey, IsValue, max_place, max_time}
use Rattle.lethe_base.specs.Numbers.{number_at, IsBytes}
use Rattle.lethe_base.specs.Spelling.{kind_byte, since_bytes, key_bytes, IsPlace, IsMarked, IsTimeOrNone}
use Rattle.lethe_base.specs.Results.{◌>>=◌}
use Rattle.lethe_base.proofs.ReadingSteps.{bind_ok, past_test, met_test, ok_is, field_ok}
use Rattle.lethe_base.specs.Reading.{StandsAt, field_at, kind_at, place_at, may_lack_time, since_at, key_at, value_at}
use Rattle.lethe_base.specs.declared.front.BodyKind.{BodyKind}
use Rattle.lethe_base.specs.declared.front.BodyKind.TheVariants as kinds
use Rattle.lethe_base.specs.declared.reading.EntryRefused.{EntryRefused}
use Rattle.lethe_base.specs.declared.reading.EntryRefused.TheVariants.{Short, Kind}

pub chosen : {A : Type 0} (b : Bool) (x y z : A) → cond b x y ≡ z → ((b ≡ true) × (x ≡ z)) ⊎ ((b ≡ false) × (y ≡ z))
chosen true x y z e = inl (refl, e)
chosen false x y z e = inr (refl, e)

-- ---- where texts stand

pub stands_then : (x y bytes : List ℕ) (at mid end : ℕ) → StandsAt x bytes at mid → StandsAt y bytes mid end → StandsAt (x ++ y) bytes at end
stands_then x y bytes at mid end p q = record {
  parts = p.parts ∙ ap (λ (l : List ℕ). x ++ l) q.parts ∙ sym (append_assoc x y (drop end bytes));
  ends = omega (arith, p.ends, q.ends, length-append x y);
  within = q.within;
}

-- behind the first part of a text that stands somewhere stands the rest
pub stands_parts : (x y bytes : List ℕ) (at end : ℕ) → StandsAt (x ++ y) bytes at end → StandsAt x bytes at (at + length x) × StandsAt y bytes (at + length x) end
stands_parts x y bytes at end p =
    let ends : end ≡ (at + length x) + length y = omega (arith, p.ends, length-append x y) in
    let whole : drop at bytes ≡ x ++ (y ++ drop end bytes) = p.parts ∙ append_assoc x y (drop end bytes) in
    let behind : drop (at + length x) bytes ≡ y ++ drop end bytes = sym (drop-drop (length x) at bytes) ∙ ap (λ (l : List ℕ). drop (length x) l) whole ∙ drop_at x (y ++ drop end bytes) (length x) refl in (
      record { parts = whole ∙ ap (λ (l : List ℕ). x ++ l) (sym behind); ends = refl; within = omega (arith, p.within, ends) },
      record { parts = behind; ends = ends; within = p.within },
    )

-- a text and what stands behind it
pub split : (x y bytes : List ℕ) (at mid end : ℕ) → at + length x ≡ mid → StandsAt (x ++ y) bytes at end → StandsAt x bytes at mid × StandsAt y bytes mid end
split x y bytes at mid end is p = subst (λ (n : ℕ). StandsAt x bytes at n × StandsAt y bytes n end) is (stands_parts x y bytes at end p)

-- a text stands where the bytes begin with it
pub stands_where : (x rest bytes : List ℕ) (at : ℕ) → at ≤ length bytes → drop at bytes ≡ x ++ rest → StandsAt x bytes at (at + length x)
stands_where x rest bytes at within e = record {
  parts = e ∙ ap (λ (l : List ℕ). x ++ l) (sym (sym (drop-drop (length x) at bytes) ∙ ap (λ (l : List ℕ). drop (length x) l) e ∙ drop_at x rest (length x) refl));
  ends = refl;
  within = omega (arith, ap length e, length-append x rest, length-drop at bytes);
}

-- the end, by another name
stands_to : (x bytes : List ℕ) (at mid end : ℕ) → mid ≡ end → StandsAt x bytes at mid → StandsAt x bytes at end
stands_to x bytes at mid end e p = subst (λ (n : ℕ). StandsAt x bytes at n) e p

-- ---- numbers

pub IsBytes-drop : (n : ℕ) (bytes : List ℕ) → IsBytes bytes → IsBytes (drop n bytes)
IsBytes-drop n bytes h i = rw get_or-drop (h (n + i))

IsBytes-take : (n : ℕ) (bytes : List ℕ) → IsBytes bytes → IsBytes (take n bytes)
IsBytes-take n bytes h i =
    elim (cases_lt i n) [
      | inl lt ↦ rw (get_or-take n bytes i 0 lt) (h i)
      | inr le ↦ rw (get_or_past (take n bytes) i 0 (omega (arith, length-take n bytes))) (omega arith)
    ]

-- each number below the limit is spelled by so many bytes, and read from them
pub record IsWide (w : Width) (limit : ℕ) : Type 0 where
  pub len : (n : ℕ) → length (to_be_bytes w n) ≡ byte_len w
  pub back : (bytes : List ℕ) → length bytes ≡ byte_len w → IsBytes bytes → to_be_bytes w (from_be_bytes w bytes) ≡ bytes
  pub again : (n : ℕ) → n < limit → from_be_bytes w (to_be_bytes w n) ≡ n
  pub below : (bytes : List ℕ) → IsBytes bytes → from_be_bytes w bytes < limit

pub wide16 : IsWide w16 (2 ^ 16)
wide16 = record {
  len = λ n. refl;
  back = λ bytes len fits. be_bytes_2 bytes _ len fits refl;
  again = λ n lt. from_be_bytes-to_be_bytes_2 n lt;
  below = λ bytes fits. omega (arith, fits 0, fits 1);
}

pub wide64 : IsWide w64 (2 ^ 64)
wide64 = record {
  len = λ n. refl;
  back = λ bytes len fits. be_bytes_8 bytes _ len fits refl;
  again = λ n lt. from_be_bytes-to_be_bytes_8 n lt;
  below = λ bytes fits. omega (arith, fits 0, fits 1, fits 2, fits 3, fits 4, fits 5, fits 6, fits 7);
}

guard_some : {A : Type 0} (b : Bool) (x y : A) → cond b (Some x) None ≡ Some y → (b ≡ true) × (x ≡ y)
guard_some true x y e = (refl, cc)
guard_some false x y e = absurd cc

pub number_stands : (w : Width) (limit : ℕ) (wide : IsWide w limit) (bytes : List ℕ) (at n : ℕ) → IsBytes bytes → number_at w bytes at ≡ Some n → StandsAt (to_be_bytes w n) bytes at (at + byte_len w) × (n < limit)
number_stands w limit wide bytes at n fits e =
    let front = take (byte_len w) (drop at bytes) in
    let g = guard_some (leb (at + byte_len w) (length bytes)) (from_be_bytes w front) n e in
    let within : at + byte_len w ≤ length bytes = leb-true _ _ g.0 in
    let front_fits = IsBytes-take (byte_len w) (drop at bytes) (IsBytes-drop at bytes fits) in
    let len : length front ≡ byte_len w = omega (arith, length-take (byte_len w) (drop at bytes), length-drop at bytes) in
    let is : to_be_bytes w n ≡ front = ap (to_be_bytes w) (sym g.1) ∙ wide.back front len front_fits in
    let parts : drop at bytes ≡ front ++ drop (at + byte_len w) bytes = sym (take-append-drop (byte_len w) (drop at bytes)) ∙ ap (λ (l : List ℕ). front ++ l) (drop-drop (byte_len w) at bytes) in (
      record {
        parts = parts ∙ ap (λ (l : List ℕ). l ++ drop (at + byte_len w) bytes) (sym is);
        ends = ap (λ (k : ℕ). at + k) (sym (wide.len n));
        within = within;
      },
      subst (λ (k : ℕ). k < limit) g.1 (wide.below front front_fits),
    )

pub number_again : (w : Width) (limit : ℕ) (wide : IsWide w limit) (bytes : List ℕ) (at end n : ℕ) → n < limit → StandsAt (to_be_bytes w n) bytes at end → number_at w bytes at ≡ Some n
number_again w limit wide bytes at end n lt p =
    let len = wide.len n in
    let within : leb (at + byte_len w) (length bytes) ≡ true = le-leb _ _ (omega (arith, p.ends, p.within, len)) in
    let front : take (byte_len w) (drop at bytes) ≡ to_be_bytes w n = ap (λ (l : List ℕ). take (byte_len w) l) p.parts ∙ take_at (to_be_bytes w n) (drop end bytes) (byte_len w) len in
    rw (within, front, wide.again n lt) refl

-- one number for the same bytes
pub same_number : (w : Width) (limit : ℕ) (wide : IsWide w limit) (m n : ℕ) → m < limit → n < limit → to_be_bytes w m ≡ to_be_bytes w n → m ≡ n
same_number w limit wide m n m_fits n_fits e = sym (wide.again m m_fits) ∙ ap (from_be_bytes w) e ∙ wide.again n n_fits

-- a field of eight bytes
pub long_stands : (bytes : List ℕ) (at n : ℕ) → IsBytes bytes → field_at w64 bytes at ≡ Ok n → StandsAt (to_be_bytes w64 n) bytes at (at + 8) × (n < 2 ^ 64)
long_stands bytes at n fits e = number_stands w64 (2 ^ 64) wide64 bytes at n fits (field_ok (number_at w64 bytes at) (Short at) n e)

pub long_again : (bytes : List ℕ) (at end n : ℕ) → n < 2 ^ 64 → StandsAt (to_be_bytes w64 n) bytes at end → field_at w64 bytes at ≡ Ok n
long_again bytes at end n lt p = ap (λ (o : Option ℕ). ok_or o (Short at)) (number_again w64 (2 ^ 64) wide64 bytes at end n lt p)

-- a field of one byte
pub byte_stands : (bytes : List ℕ) (at n : ℕ) → IsBytes bytes → field_at w8 bytes at ≡ Ok n → StandsAt (n ∷ []) bytes at (at + 1) × (n < 256)
byte_stands bytes at n fits e =
    let g = guard_some (leb (at + 1) (length bytes)) (get_or (take 1 (drop at bytes)) 0 0) n (field_ok (number_at w8 bytes at) (Short at) n e) in
    let within : at + 1 ≤ length bytes = leb-true _ _ g.0 in
    let first : drop at bytes ≡ get_or bytes at 0 ∷ drop (at + 1) bytes = drop_more bytes at 0 (omega (arith, within)) in
    let is : get_or bytes at 0 ≡ n = sym (ap (λ (l : List ℕ). get_or (take 1 l) 0 0) first) ∙ g.1 in (
      record { parts = first ∙ ap (λ (k : ℕ). k ∷ drop (at + 1) bytes) is; ends = refl; within = within },
      subst (λ (k : ℕ). k < 256) is (fits at),
    )

pub byte_again : (bytes : List ℕ) (at end n : ℕ) → StandsAt (n ∷ []) bytes at end → field_at w8 bytes at ≡ Ok n
byte_again bytes at end n p =
    let within : leb (at + 1) (length bytes) ≡ true = le-leb _ _ (omega (arith, p.ends, p.within)) in
    let byte : get_or (take 1 (drop at bytes)) 0 0 ≡ n = ap (λ (l : List ℕ). get_or (take 1 l) 0 0) p.parts in
    rw (within, byte) refl

-- the byte at the front of a text
pub first_byte : (b : ℕ) (text bytes : List ℕ) (at end : ℕ) → StandsAt (b ∷ text) bytes at end → number_at w8 bytes at ≡ Some b
first_byte b text bytes at end p = field_ok (number_at w8 bytes at) (Short at) b (byte_again bytes at (at + 1) b (stands_parts (b ∷ []) text bytes at end p).0)

-- ---- kinds

pub kind_stands : (bytes : List ℕ) (at : ℕ) (x : BodyKind × ℕ) → IsBytes bytes → kind_at bytes at ≡ Ok x → StandsAt (kind_byte x.0 ∷ []) bytes at x.1
unfolding kind_at
kind_stands bytes at x fits e =
    let put : BodyKind × ℕ = (kinds.Put, at + 1) in
    let tomb : BodyKind × ℕ = (kinds.Tomb, at + 1) in
    let b = bind_ok (field_at w8 bytes at) (λ byte. cond (eqb byte 1) (Ok put) (cond (eqb byte 2) (Ok tomb) (Err (Kind at)))) x e in
    let s = byte_stands bytes at b.0 fits b.1 in
    elim (chosen (eqb b.0 1) (Ok put) (cond (eqb b.0 2) (Ok tomb) (Err (Kind at))) (Ok x) b.2) [
      | inl h ↦ subst (λ (y : BodyKind × ℕ). StandsAt (kind_byte y.0 ∷ []) bytes at y.1) (ok_is put x h.1) (subst (λ (k : ℕ). StandsAt (k ∷ []) bytes at (at + 1)) (eqb-true _ _ h.0) s.0)
      | inr h ↦
          let g = met_test (eqb b.0 2) tomb (Kind at) x h.1 in
          subst (λ (y : BodyKind × ℕ). StandsAt (kind_byte y.0 ∷ []) bytes at y.1) g.1 (subst (λ (k : ℕ). StandsAt (k ∷ []) bytes at (at + 1)) (eqb-true _ _ g.0) s.0)
    ]

pub kind_again : (bytes : List ℕ) (at end : ℕ) (kind : BodyKind) → StandsAt (kind_byte kind ∷ []) bytes at end → kind_at bytes at ≡ Ok (kind, end)
unfolding kind_at
kind_again bytes at end kinds.Put p = rw (byte_again bytes at end 1 p, p.ends) refl
kind_again bytes at end kinds.Tomb p = rw (byte_again bytes at end 2 p, p.ends) refl

-- ---- places

pub place_stands : (bytes : List ℕ) (at : ℕ) (x : ℕ × ℕ) → IsBytes bytes → place_at bytes at ≡ Ok x → StandsAt (to_be_bytes w64 x.0) bytes at x.1 × IsPlace x.0
unfolding place_at
place_stands bytes at x fits e =
    let b = bind_ok (field_at w64 bytes at) (λ seq. cond (ltb 0 seq && leb seq max_place) (Ok (seq, at + 8)) (Err (Kind at))) x e in
    let t = long_stands bytes at b.0 fits b.1 in
    let g = met_test (ltb 0 b.0 && leb b.0 max_place) (b.0, at + 8) (Kind at) x b.2 in
    let both = and_parts _ _ g.0 in
    subst (λ (y : ℕ × ℕ). StandsAt (to_be_bytes w64 y.0) bytes at y.1 × IsPlace y.0) g.1 (t.0, (ltb-true _ _ both.0, leb-true _ _ both.1))

pub place_again : (bytes : List ℕ) (at end seq : ℕ) → IsPlace seq → StandsAt (to_be_bytes w64 seq) bytes at end → place_at bytes at ≡ Ok (seq, end)
unfolding place_at
place_again bytes at end seq fits p =
    let small : seq < 2 ^ 64 = omega (arith, fits.1) in
    let met : (ltb 0 seq && leb seq max_place) ≡ true = and_from _ _ (lt-ltb 0 seq fits.0) (le-leb seq max_place fits.1) in
    rw (long_again bytes at end seq small p, met, p.ends) refl

-- ---- times

abbrev with_time : List ℕ → ℕ → Result (Option ℕ × ℕ) EntryRefused
with_time bytes at = field_at w64 bytes (at + 1) >>= λ time. cond (leb time max_time) (Ok (Some time, at + 9)) (Err (Kind (at + 1)))

time_stands : (bytes : List ℕ) (kind : BodyKind) (at : ℕ) (x : Option ℕ × ℕ) → IsBytes bytes → StandsAt (1 ∷ []) bytes at (at + 1) → with_time bytes at ≡ Ok x → StandsAt (since_bytes x.0) bytes at x.1 × IsMarked kind x.0 × IsTimeOrNone x.0
time_stands bytes kind at x fits mark e =
    let b = bind_ok (field_at w64 bytes (at + 1)) (λ time. cond (leb time max_time) (Ok (Some time, at + 9)) (Err (Kind (at + 1)))) x e in
    let t = long_stands bytes (at + 1) b.0 fits b.1 in
    let g = met_test (leb b.0 max_time) (Some b.0, at + 9) (Kind (at + 1)) x b.2 in
    let both = stands_then (1 ∷ []) (to_be_bytes w64 b.0) bytes at (at + 1) (at + 1 + 8) mark t.0 in
    subst (λ (y : Option ℕ × ℕ). StandsAt (since_bytes y.0) bytes at y.1 × IsMarked kind y.0 × IsTimeOrNone y.0) g.1
    (stands_to (1 ∷ to_be_bytes w64 b.0) bytes at (at + 1 + 8) (at + 9) (omega arith) both, marked kind b.0, leb-true _ _ g.0)
  where
    marked : (kind : BodyKind) (time : ℕ) → IsMarked kind (Some time)
    marked kinds.Put time = tt
    marked kinds.Tomb time = refl

no_time : (kind : BodyKind) → may_lack_time kind ≡ true → IsMarked kind None
no_time kinds.Put e = tt
no_time kinds.Tomb e = absurd cc

pub since_stands : (kind : BodyKind) (bytes : List ℕ) (at : ℕ) (x : Option ℕ × ℕ) → IsBytes bytes → since_at kind bytes at ≡ Ok x → StandsAt (since_bytes x.0) bytes at x.1 × IsMarked kind x.0 × IsTimeOrNone x.0
unfolding since_at
since_stands kind bytes at x fits e =
    let none : Option ℕ × ℕ = (None, at + 1) in
    let b = bind_ok (field_at w8 bytes at) (λ mark. cond (eqb mark 1) (with_time bytes at) (cond (eqb mark 0 && may_lack_time kind) (Ok none) (Err (Kind at)))) x e in
    let s = byte_stands bytes at b.0 fits b.1 in
    elim (chosen (eqb b.0 1) (with_time bytes at) (cond (eqb b.0 0 && may_lack_time kind) (Ok none) (Err (Kind at))) (Ok x) b.2) [
      | inl h ↦ time_stands bytes kind at x fits (subst (λ (k : ℕ). StandsAt (k ∷ []) bytes at (at + 1)) (eqb-true _ _ h.0) s.0) h.1
      | inr h ↦
          let g = met_test (eqb b.0 0 && may_lack_time kind) none (Kind at) x h.1 in
          let both = and_parts _ _ g.0 in
          subst (λ (y : Option ℕ × ℕ). StandsAt (since_bytes y.0) bytes at y.1 × IsMarked kind y.0 × IsTimeOrNone y.0) g.1
          (subst (λ (k : ℕ). StandsAt (k ∷ []) bytes at (at + 1)) (eqb-true _ _ both.0) s.0, no_time kind both.1, tt)
    ]

pub since_again : (kind : BodyKind) (bytes : List ℕ) (at end : ℕ) (since : Option ℕ) → IsMarked kind since → IsTimeOrNone since → StandsAt (since_bytes since) bytes at end → since_at kind bytes at ≡ Ok (since, end)
unfolding since_at
since_again kinds.Put bytes at end None marked fits p = rw (byte_again bytes at end 0 p, p.ends) refl
since_again kinds.Tomb bytes at end None marked fits p = absurd cc
since_again kind bytes at end (Some time) marked fits p =
    let parts = stands_parts (1 ∷ []) (to_be_bytes w64 time) bytes at end p in
    let small : time < 2 ^ 64 = omega (arith, fits) in
    let ends : end ≡ at + 9 = p.ends in
    rw (byte_again bytes at (at + 1) 1 parts.0, long_again bytes (at + 1) end time small parts.1, le-leb time max_time fits, ends) refl

-- ---- keys and values

-- so many bytes from a place on
span_stands : (bytes : List ℕ) (at len : ℕ) → at + len ≤ length bytes → StandsAt (take len (drop at bytes)) bytes at (at + len) × (length (take len (drop at bytes)) ≡ len)
span_stands bytes at len within =
    let is : length (take len (drop at bytes)) ≡ len = omega (arith, length-take len (drop at bytes), length-drop at bytes) in (
      record {
        parts = sym (take-append-drop len (drop at bytes)) ∙ ap (λ (l : List ℕ). take len (drop at bytes) ++ l) (drop-drop len at bytes);
        ends = ap (λ (k : ℕ). at + k) (sym is);
        within = within;
      },
      is,
    )

span_again : (text bytes : List ℕ) (at end : ℕ) → StandsAt text bytes at end → take (length text) (drop at bytes) ≡ text
span_again text bytes at end p = ap (λ (l : List ℕ). take (length text) l) p.parts ∙ take_at text (drop end bytes) (length text) refl

pub key_stands : (bytes : List ℕ) (at : ℕ) (x : List ℕ × ℕ) → IsBytes bytes → key_at bytes at ≡ Ok x → StandsAt (key_bytes x.0) bytes at x.1 × IsKey x.0
unfolding key_at
key_stands bytes at x fits e =
    let b = bind_ok (field_at w8 bytes at) (λ len. cond (eqb len 0) (Err (Kind at)) (cond (leb (at + 1 + len) (length bytes)) (Ok (take len (drop (at + 1) bytes), at + 1 + len)) (Err (Short (at + 1))))) x e in
    let len = b.0 in
    let key = take len (drop (at + 1) bytes) in
    let s = byte_stands bytes at len fits b.1 in
    let some = past_test (eqb len 0) (Kind at) (cond (leb (at + 1 + len) (length bytes)) (Ok (key, at + 1 + len)) (Err (Short (at + 1)))) x b.2 in
    let g = met_test (leb (at + 1 + len) (length bytes)) (key, at + 1 + len) (Short (at + 1)) x some.1 in
    let t = span_stands bytes (at + 1) len (leb-true _ _ g.0) in
    let first = subst (λ (k : ℕ). StandsAt (k ∷ []) bytes at (at + 1)) (sym t.1) s.0 in
    let filled : len ≡ 0 → ⊥ = eqb-false _ _ some.0 in
    subst (λ (y : List ℕ × ℕ). StandsAt (key_bytes y.0) bytes at y.1 × IsKey y.0) g.1 (
      stands_then (length key ∷ []) key bytes at (at + 1) (at + 1 + len) first t.0,
      record { some = omega (arith, t.1, filled); short = omega (arith, t.1, s.1) },
    )

pub key_again : (bytes : List ℕ) (at end : ℕ) (key : List ℕ) → IsKey key → StandsAt (key_bytes key) bytes at end → key_at bytes at ≡ Ok (key, end)
unfolding key_at
key_again bytes at end key fits p =
    let parts = stands_parts (length key ∷ []) key bytes at end p in
    let filled : eqb (length key) 0 ≡ false = ne_eqb _ _ (λ z. omega (arith, z, fits.some)) in
    let ends : at + 1 + length key ≡ end = omega (arith, parts.1.ends) in
    let within : leb (at + 1 + length key) (length bytes) ≡ true = le-leb _ _ (omega (arith, ends, p.within)) in
    rw (byte_again bytes at (at + 1) (length key) parts.0, filled, within, span_again key bytes (at + 1) end parts.1, ends) refl

-- the length of a value and the value
abbrev pub value_bytes : List ℕ → List ℕ
value_bytes value = to_be_bytes w16 (length value) ++ value

pub value_stands : (bytes : List ℕ) (at : ℕ) (x : List ℕ × ℕ) → IsBytes bytes → value_at bytes at ≡ Ok x → StandsAt (value_bytes x.0) bytes at x.1 × IsValue x.0
unfolding value_at
value_stands bytes at x fits e =
    let b = bind_ok (field_at w16 bytes at) (λ len. cond (ltb 4096 len) (Err (Kind at)) (cond (leb (at + 2 + len) (length bytes)) (Ok (take len (drop (at + 2) bytes), at + 2 + len)) (Err (Short (at + 2))))) x e in
    let len = b.0 in
    let value = take len (drop (at + 2) bytes) in
    let s = number_stands w16 (2 ^ 16) wide16 bytes at len fits (field_ok (number_at w16 bytes at) (Short at) len b.1) in
    let few = past_test (ltb 4096 len) (Kind at) (cond (leb (at + 2 + len) (length bytes)) (Ok (value, at + 2 + len)) (Err (Short (at + 2)))) x b.2 in
    let g = met_test (leb (at + 2 + len) (length bytes)) (value, at + 2 + len) (Short (at + 2)) x few.1 in
    let t = span_stands bytes (at + 2) len (leb-true _ _ g.0) in
    let first = subst (λ (k : ℕ). StandsAt (to_be_bytes w16 k) bytes at (at + 2)) (sym t.1) s.0 in
    subst (λ (y : List ℕ × ℕ). StandsAt (value_bytes y.0) bytes at y.1 × IsValue y.0) g.1 (
      stands_then (to_be_bytes w16 (length value)) value bytes at (at + 2) (at + 2 + len) first t.0,
      omega (arith, t.1, ltb-false _ _ few.0),
    )

pub value_again : (bytes : List ℕ) (at end : ℕ) (value : List ℕ) → IsValue value → StandsAt (value_bytes value) bytes at end → value_at bytes at ≡ Ok (value, end)
unfolding value_at
value_again bytes at end value fits p =
    let parts = stands_parts (to_be_bytes w16 (length value)) value bytes at end p in
    let read : field_at w16 bytes at ≡ Ok (length value) = ap (λ (o : Option ℕ). ok_or o (Short at)) (number_again w16 (2 ^ 16) wide16 bytes at (at + 2) (length value) (omega (arith, fits)) parts.0) in
    let few : ltb 4096 (length value) ≡ false = le-ltb _ _ fits in
    let ends : at + 2 + length value ≡ end = omega (arith, parts.1.ends) in
    let within : leb (at + 2 + length value) (length bytes) ≡ true = le-leb _ _ (omega (arith, ends, p.within)) in
    rw (read, few, within, span_again value bytes (at + 2) end parts.1, ends) refl
