-- A page's line: what is read stands there, and what stands there is read.
use Rattle.std.proofs.Common.{◌≡◌, ℕ, ◌+◌, ◌-◌, ◌*◌, ◌^◌, ◌<◌, ◌≤◌, true, cond, eqb, ltb, leb, List, [], ◌∷◌, ◌++◌, length, take, drop, flat_map, Option, Some, None, Result, Ok, Err, refl, sym, ap, subst, ◌∙◌, arith, inl, inr, length-drop}
use Rattle.std.specs.Int.{w8, w32, w64, div_ceil, to_be_bytes}
use Rattle.std.proofs.lemmas.Bool.{eqb-true, eqb-false, eq-eqb, le-leb, leb-true, lt-ltb, ltb-true}
use Rattle.std.proofs.lemmas.List.{drop-drop, length-take, take-append-drop, take_at}
use Rattle.lethe_base.specs.Limits.{max_place}
use Rattle.lethe_base.specs.Numbers.{IsBytes}
use Rattle.lethe_base.specs.Reading.{StandsAt, since_at}
use Rattle.lethe_base.specs.Results.{◌>>=◌}
use Rattle.lethe_base.specs.Spelling.{since_bytes, IsPlace}
use Rattle.lethe_base.specs.declared.front.BodyKind.TheVariants as kinds
use Rattle.lethe_base.specs.declared.reading.EntryRefused.{EntryRefused}
use Rattle.lethe_base.proofs.FieldLaws.{wide64, chosen, stands_then, stands_parts, since_stands, since_again}
use Rattle.lethe_base.proofs.ReadingSteps.{bind_ok, met_test, ok_is}
use Rattle.lethe_page.specs.Pages.{class_byte}
use Rattle.lethe_page.specs.declared.class.Class.{Class}
use Rattle.lethe_page.specs.declared.class.Class.TheVariants.{Puts, Tombs}
use Rattle.lethe_header.specs.Headers.{counts_bytes, fence_bytes, filter_bytes, line_bytes, before_of, puts_in, entries_in, last_dkey, max_puts, max_tile_entries, HasRoomFor, IsFence, IsFilter, IsFrom, LineFollows}
use Rattle.lethe_header.specs.Reading.{part, field_at, number_within, number_from, all_at, word_at, class_at, entries_at, counts_at, fence_at, filter_at, digest_at, line_at}
use Rattle.lethe_header.specs.declared.header.PageLine.{PageLine}
use Rattle.lethe_header.specs.declared.line.Counts.{Counts}
use Rattle.lethe_header.specs.declared.refused.HeaderRefused.TheVariants.{Short, Order}
use Rattle.lethe_header.proofs.Follows.{all_of, each_of, follows_none, all_ok, all_again}
use Rattle.lethe_header.proofs.Numbers.{wide32, wide_ok, wide_again, byte_ok, byte_back, long_ok, long_back, from_ok, from_again}

pub part_ok : {A : Type 0} (r : Result A EntryRefused) (x : A) → part r ≡ Ok x → r ≡ Ok x
part_ok (Ok y) x e = ap (λ y. Ok y) (ok_is y x e)
part_ok (Err why) x e = absurd cc

-- the end, by another name
stands_to : (x bytes : List ℕ) (at mid end : ℕ) → mid ≡ end → StandsAt x bytes at mid → StandsAt x bytes at end
stands_to x bytes at mid end e p = subst (λ (n : ℕ). StandsAt x bytes at n) e p

-- ---- what a line begins with

class_ok : (lines : List PageLine) (bytes : List ℕ) (at : ℕ) (class : Class) → IsBytes bytes → class_at (before_of lines) bytes at ≡ Ok class → StandsAt (class_byte class ∷ []) bytes at (at + 1) × HasRoomFor class lines
unfolding class_at
class_ok lines bytes at class fits e =
    let b = bind_ok (number_within w8 1 2 bytes at) (λ byte. cond (eqb byte 1) (cond (ltb (puts_in lines) max_puts) (Ok Puts) (Err (Order at))) (cond (eqb (length lines) 0) (Ok Tombs) (Err (Order at)))) class e in
    let t = byte_ok 1 2 bytes at b.0 fits b.1 in
    elim (chosen (eqb b.0 1) (cond (ltb (puts_in lines) max_puts) (Ok Puts) (Err (Order at))) (cond (eqb (length lines) 0) (Ok Tombs) (Err (Order at))) (Ok class) b.2) [
      | inl h ↦
          let g = met_test (ltb (puts_in lines) max_puts) Puts (Order at) class h.1 in
          subst (λ (c : Class). StandsAt (class_byte c ∷ []) bytes at (at + 1) × HasRoomFor c lines) g.1 (subst (λ (k : ℕ). StandsAt (k ∷ []) bytes at (at + 1)) (eqb-true b.0 1 h.0) t.0, ltb-true _ _ g.0)
      | inr h ↦
          let g = met_test (eqb (length lines) 0) Tombs (Order at) class h.1 in
          let other : b.0 ≡ 1 → ⊥ = eqb-false b.0 1 h.0 in
          let two : b.0 ≡ 2 = omega (arith, other, t.1) in
          subst (λ (c : Class). StandsAt (class_byte c ∷ []) bytes at (at + 1) × HasRoomFor c lines) g.1 (subst (λ (k : ℕ). StandsAt (k ∷ []) bytes at (at + 1)) two t.0, eqb-true _ _ g.0)
    ]

class_again : (lines : List PageLine) (bytes : List ℕ) (at end : ℕ) (class : Class) → HasRoomFor class lines → StandsAt (class_byte class ∷ []) bytes at end → class_at (before_of lines) bytes at ≡ Ok class
unfolding class_at
class_again lines bytes at end Puts room p = rw (byte_back 1 2 bytes at end 1 (omega arith, omega arith) p, lt-ltb (puts_in lines) max_puts room) refl
class_again lines bytes at end Tombs room p = rw (byte_back 1 2 bytes at end 2 (omega arith, omega arith) p, eq-eqb (length lines) 0 room) refl

entries_ok : (lines : List PageLine) (bytes : List ℕ) (at n : ℕ) → IsBytes bytes → entries_at (before_of lines) bytes at ≡ Ok n → StandsAt (to_be_bytes w32 n) bytes at (at + 4) × (0 < n) × (entries_in lines + n ≤ max_tile_entries)
unfolding entries_at
entries_ok lines bytes at n fits e =
    let b = bind_ok (number_within w32 1 (2 ^ 32 - 1) bytes at) (λ entries. cond (leb (entries_in lines + entries) max_tile_entries) (Ok entries) (Err (Order at))) n e in
    let g = met_test (leb (entries_in lines + b.0) max_tile_entries) b.0 (Order at) n b.2 in
    let t = wide_ok w32 (2 ^ 32) wide32 1 (2 ^ 32 - 1) bytes at b.0 fits b.1 in
    subst (λ (k : ℕ). StandsAt (to_be_bytes w32 k) bytes at (at + 4) × (0 < k) × (entries_in lines + k ≤ max_tile_entries)) g.1 (t.0, omega (arith, t.1), leb-true _ _ g.0)

entries_again : (lines : List PageLine) (bytes : List ℕ) (at end n : ℕ) → 0 < n → entries_in lines + n ≤ max_tile_entries → StandsAt (to_be_bytes w32 n) bytes at end → entries_at (before_of lines) bytes at ≡ Ok n
unfolding entries_at
entries_again lines bytes at end n some few p = rw (wide_again w32 (2 ^ 32) wide32 1 (2 ^ 32 - 1) bytes at end n (omega (arith, few)) (omega (arith, some), omega (arith, few)) p, le-leb (entries_in lines + n) max_tile_entries few) refl

abbrev counted : Counts → List ℕ
counted c = to_be_bytes w64 c.no ++ ((class_byte c.class ∷ []) ++ (to_be_bytes w32 c.entries ++ to_be_bytes w64 c.max_seq))

record AreCounts (lines : List PageLine) (bytes : List ℕ) (at : ℕ) (c : Counts) : Type 0 where
  stands : StandsAt (counted c) bytes at (at + 21)
  no : c.no ≤ max_place
  room : HasRoomFor c.class lines
  some : 0 < c.entries
  few : entries_in lines + c.entries ≤ max_tile_entries
  place : IsPlace c.max_seq

counts_ok : (lines : List PageLine) (bytes : List ℕ) (at : ℕ) (x : Counts) → IsBytes bytes → counts_at (before_of lines) bytes at ≡ Ok x → AreCounts lines bytes at x
unfolding counts_at
counts_ok lines bytes at x fits e =
    let before = before_of lines in
    let a = bind_ok (number_within w64 0 max_place bytes at) (λ number. class_at before bytes (at + 8) >>= λ class. entries_at before bytes (at + 9) >>= λ entries. number_within w64 1 max_place bytes (at + 13) >>= λ max_seq. Ok (record { no = number; class = class; entries = entries; max_seq = max_seq })) x e in
    let b = bind_ok (class_at before bytes (at + 8)) (λ class. entries_at before bytes (at + 9) >>= λ entries. number_within w64 1 max_place bytes (at + 13) >>= λ max_seq. Ok (record { no = a.0; class = class; entries = entries; max_seq = max_seq })) x a.2 in
    let c = bind_ok (entries_at before bytes (at + 9)) (λ entries. number_within w64 1 max_place bytes (at + 13) >>= λ max_seq. Ok (record { no = a.0; class = b.0; entries = entries; max_seq = max_seq })) x b.2 in
    let d = bind_ok (number_within w64 1 max_place bytes (at + 13)) (λ max_seq. Ok (record { no = a.0; class = b.0; entries = c.0; max_seq = max_seq })) x c.2 in
    let made : Counts = record { no = a.0; class = b.0; entries = c.0; max_seq = d.0 } in
    let t0 = wide_ok w64 (2 ^ 64) wide64 0 max_place bytes at a.0 fits a.1 in
    let t1 = class_ok lines bytes (at + 8) b.0 fits b.1 in
    let t2 = entries_ok lines bytes (at + 9) c.0 fits c.1 in
    let t3 = wide_ok w64 (2 ^ 64) wide64 1 max_place bytes (at + 13) d.0 fits d.1 in
    let u1 = stands_to (class_byte b.0 ∷ []) bytes (at + 8) (at + 8 + 1) (at + 9) (omega arith) t1.0 in
    let u2 = stands_to (to_be_bytes w32 c.0) bytes (at + 9) (at + 9 + 4) (at + 13) (omega arith) t2.0 in
    let u3 = stands_to (to_be_bytes w64 d.0) bytes (at + 13) (at + 13 + 8) (at + 21) (omega arith) t3.0 in
    let s2 = stands_then (to_be_bytes w32 c.0) (to_be_bytes w64 d.0) bytes (at + 9) (at + 13) (at + 21) u2 u3 in
    let s1 = stands_then (class_byte b.0 ∷ []) (to_be_bytes w32 c.0 ++ to_be_bytes w64 d.0) bytes (at + 8) (at + 9) (at + 21) u1 s2 in
    let s0 = stands_then (to_be_bytes w64 a.0) ((class_byte b.0 ∷ []) ++ (to_be_bytes w32 c.0 ++ to_be_bytes w64 d.0)) bytes at (at + 8) (at + 21) t0.0 s1 in
    let counts : AreCounts lines bytes at made = record { stands = s0; no = t0.1.1; room = t1.1; some = t2.1; few = t2.2; place = (omega (arith, t3.1), t3.1.1) } in
    subst (AreCounts lines bytes at) {x = made} (ok_is made x d.2) counts

counts_again : (lines : List PageLine) (bytes : List ℕ) (at end : ℕ) (c : Counts) → c.no ≤ max_place → HasRoomFor c.class lines → 0 < c.entries → entries_in lines + c.entries ≤ max_tile_entries → IsPlace c.max_seq → StandsAt (counted c) bytes at end → counts_at (before_of lines) bytes at ≡ Ok c
unfolding counts_at
counts_again lines bytes at end c number room some few place p =
    let p0 = stands_parts (to_be_bytes w64 c.no) ((class_byte c.class ∷ []) ++ (to_be_bytes w32 c.entries ++ to_be_bytes w64 c.max_seq)) bytes at end p in
    let p1 = stands_parts (class_byte c.class ∷ []) (to_be_bytes w32 c.entries ++ to_be_bytes w64 c.max_seq) bytes (at + 8) end p0.1 in
    let nine : at + 8 + 1 ≡ at + 9 = omega arith in
    let q2 : StandsAt (to_be_bytes w32 c.entries ++ to_be_bytes w64 c.max_seq) bytes (at + 9) end = subst (λ (n : ℕ). StandsAt (to_be_bytes w32 c.entries ++ to_be_bytes w64 c.max_seq) bytes n end) nine p1.1 in
    let p2 = stands_parts (to_be_bytes w32 c.entries) (to_be_bytes w64 c.max_seq) bytes (at + 9) end q2 in
    let thirteen : at + 9 + 4 ≡ at + 13 = omega arith in
    let q3 : StandsAt (to_be_bytes w64 c.max_seq) bytes (at + 13) end = subst (λ (n : ℕ). StandsAt (to_be_bytes w64 c.max_seq) bytes n end) thirteen p2.1 in
    rw (
      wide_again w64 (2 ^ 64) wide64 0 max_place bytes at (at + 8) c.no (omega (arith, number)) (omega arith, number) p0.0,
      class_again lines bytes (at + 8) (at + 8 + 1) c.class room p1.0,
      entries_again lines bytes (at + 9) (at + 9 + 4) c.entries some few p2.0,
      wide_again w64 (2 ^ 64) wide64 1 max_place bytes (at + 13) end c.max_seq (omega (arith, place.1)) (omega (arith, place.0), place.1) q3,
    ) refl

-- ---- fences

fence_ok : (class : Class) (dkey : ℕ) (bytes : List ℕ) (at : ℕ) (x : Option (ℕ × ℕ) × ℕ) → IsBytes bytes → StandsAt [] bytes at at → fence_at class dkey bytes at ≡ Ok x → StandsAt (fence_bytes x.0) bytes at x.1 × IsFence class x.0 × IsFrom dkey x.0
unfolding fence_at
fence_ok Puts dkey bytes at x fits here e =
    let a = bind_ok (number_from dkey bytes at) (λ lo. number_from lo bytes (at + 8) >>= λ hi. Ok (Some (lo, hi), at + 16)) x e in
    let b = bind_ok (number_from a.0 bytes (at + 8)) (λ hi. Ok (Some (a.0, hi), at + 16)) x a.2 in
    let made : Option (ℕ × ℕ) × ℕ = (Some (a.0, b.0), at + 16) in
    let t0 = from_ok dkey bytes at a.0 fits a.1 in
    let t1 = from_ok a.0 bytes (at + 8) b.0 fits b.1 in
    let u1 = stands_to (to_be_bytes w64 b.0) bytes (at + 8) (at + 8 + 8) (at + 16) (omega arith) t1.0 in
    subst (λ (y : Option (ℕ × ℕ) × ℕ). StandsAt (fence_bytes y.0) bytes at y.1 × IsFence Puts y.0 × IsFrom dkey y.0) {x = made} (ok_is made x b.2)
    (stands_then (to_be_bytes w64 a.0) (to_be_bytes w64 b.0) bytes at (at + 8) (at + 16) t0.0 u1, (t1.2, t1.1), t0.2)
fence_ok Tombs dkey bytes at x fits here e =
    let made : Option (ℕ × ℕ) × ℕ = (None, at) in
    subst (λ (y : Option (ℕ × ℕ) × ℕ). StandsAt (fence_bytes y.0) bytes at y.1 × IsFence Tombs y.0 × IsFrom dkey y.0) {x = made} (ok_is made x e) (here, tt, tt)

fence_again : (class : Class) (dkey : ℕ) (bytes : List ℕ) (at end : ℕ) (fence : Option (ℕ × ℕ)) → IsFence class fence → IsFrom dkey fence → StandsAt (fence_bytes fence) bytes at end → fence_at class dkey bytes at ≡ Ok (fence, end)
unfolding fence_at
fence_again Puts dkey bytes at end None fits from p = absurd fits
fence_again Puts dkey bytes at end (Some (lo, hi)) fits from p =
    let parts = stands_parts (to_be_bytes w64 lo) (to_be_bytes w64 hi) bytes at end p in
    let ends : at + 16 ≡ end = omega (arith, parts.1.ends) in
    rw (from_again dkey bytes at (at + 8) lo (omega (arith, fits.0, fits.1)) from parts.0, from_again lo bytes (at + 8) end hi fits.1 fits.0 parts.1, ends) refl
fence_again Tombs dkey bytes at end None fits from p = let ends : at ≡ end = omega (arith, p.ends) in rw ends refl
fence_again Tombs dkey bytes at end (Some fence) fits from p = absurd fits

-- ---- filters and digests

abbrev IsWord : ℕ → Type 0
IsWord word = word < 2 ^ 64

word_ok : (bytes : List ℕ) → IsBytes bytes → (before : List ℕ) (at : ℕ) (x : ℕ × ℕ) → word_at before bytes at ≡ Ok x → StandsAt (to_be_bytes w64 x.0) bytes at x.1 × IsWord x.0
word_ok bytes fits before at x e =
    let b = bind_ok (field_at w64 bytes at) (λ word. Ok (word, at + 8)) x e in
    let made : ℕ × ℕ = (b.0, at + 8) in
    subst (λ (y : ℕ × ℕ). StandsAt (to_be_bytes w64 y.0) bytes at y.1 × IsWord y.0) {x = made} (ok_is made x b.2) (long_ok bytes at b.0 fits b.1)

word_again : (bytes before : List ℕ) (at end word : ℕ) → IsWord word → StandsAt (to_be_bytes w64 word) bytes at end → word_at before bytes at ≡ Ok (word, end)
word_again bytes before at end word small p = let ends : at + 8 ≡ end = omega (arith, p.ends) in rw (long_back bytes at end word small p, ends) refl

filter_ok : (entries : ℕ) (bytes : List ℕ) (at : ℕ) (x : List ℕ × ℕ) → IsBytes bytes → filter_at entries bytes at ≡ Ok x → StandsAt (filter_bytes x.0) bytes at x.1 × IsFilter entries x.0
unfolding filter_at
filter_ok entries bytes at x fits e =
    let words = div_ceil (10 * entries) 64 in
    let a = bind_ok (number_within w32 words words bytes at) (λ len. all_at word_at len [] bytes (at + 4)) x e in
    let t0 = wide_ok w32 (2 ^ 32) wide32 words words bytes at a.0 fits a.1 in
    let here : StandsAt [] bytes (at + 4) (at + 4) = record { parts = refl; ends = omega arith; within = t0.0.within } in
    let t1 = all_ok (λ before. IsWord) (to_be_bytes w64) word_at bytes (word_ok bytes fits) a.0 [] (at + 4) (at + 4) x (follows_none (λ before. IsWord)) here a.2 in
    let len : a.0 ≡ length x.0 = omega (arith, t1.2) in
    let first = subst (λ (n : ℕ). StandsAt (to_be_bytes w32 n) bytes at (at + 4)) len t0.0 in
    let is : length x.0 ≡ words = omega (arith, len, t0.1) in
    (stands_then (to_be_bytes w32 (length x.0)) (flat_map (to_be_bytes w64) x.0) bytes at (at + 4) x.1 first t1.0, record { len = is; each = all_of IsWord x.0 t1.1 })

filter_again : (entries : ℕ) (bytes : List ℕ) (at end : ℕ) (words : List ℕ) → length words < 2 ^ 32 → IsFilter entries words → StandsAt (filter_bytes words) bytes at end → filter_at entries bytes at ≡ Ok (words, end)
unfolding filter_at
filter_again entries bytes at end words small fits p =
    let parts = stands_parts (to_be_bytes w32 (length words)) (flat_map (to_be_bytes w64) words) bytes at end p in
    let len : number_within w32 (div_ceil (10 * entries) 64) (div_ceil (10 * entries) 64) bytes at ≡ Ok (length words) =
    wide_again w32 (2 ^ 32) wide32 (div_ceil (10 * entries) 64) (div_ceil (10 * entries) 64) bytes at (at + 4) (length words) small (omega (arith, fits.len), omega (arith, fits.len)) parts.0 in
    let all = all_again (λ before. IsWord) (to_be_bytes w64) word_at bytes (word_again bytes) words [] (at + 4) end (each_of IsWord words fits.each) parts.1 in
    rw (len, all) refl

digest_ok : (bytes : List ℕ) (at : ℕ) (x : List ℕ × ℕ) → digest_at bytes at ≡ Ok x → StandsAt x.0 bytes at x.1 × (length x.0 ≡ 32)
unfolding digest_at
digest_ok bytes at x e =
    let digest = take 32 (drop at bytes) in
    let g = met_test (leb (at + 32) (length bytes)) (digest, at + 32) (Short at) x e in
    let within : at + 32 ≤ length bytes = leb-true _ _ g.0 in
    let len : length digest ≡ 32 = omega (arith, length-take 32 (drop at bytes), length-drop at bytes, within) in
    let made : List ℕ × ℕ = (digest, at + 32) in
    subst (λ (y : List ℕ × ℕ). StandsAt y.0 bytes at y.1 × (length y.0 ≡ 32)) {x = made} g.1 (
      record {
        parts = sym (take-append-drop 32 (drop at bytes)) ∙ ap (λ (l : List ℕ). digest ++ l) (drop-drop 32 at bytes);
        ends = ap (λ (k : ℕ). at + k) (sym len);
        within = within;
      },
      len,
    )

digest_again : (bytes : List ℕ) (at end : ℕ) (digest : List ℕ) → length digest ≡ 32 → StandsAt digest bytes at end → digest_at bytes at ≡ Ok (digest, end)
unfolding digest_at
digest_again bytes at end digest len p =
    let ends : at + 32 ≡ end = omega (arith, p.ends, len) in
    let within : leb (at + 32) (length bytes) ≡ true = le-leb _ _ (omega (arith, ends, p.within)) in
    let is : take 32 (drop at bytes) ≡ digest = ap (λ (l : List ℕ). take 32 l) p.parts ∙ take_at digest (drop end bytes) 32 len in
    rw (within, is, ends) refl

-- ---- lines

-- where one text ends, no text stands
ends_here : (x bytes : List ℕ) (at end : ℕ) → StandsAt x bytes at end → StandsAt [] bytes end end
ends_here x bytes at end p = record { parts = refl; ends = omega arith; within = p.within }

pub line_ok : (lines : List PageLine) (bytes : List ℕ) (at : ℕ) (x : PageLine × ℕ) → IsBytes bytes → line_at (before_of lines) bytes at ≡ Ok x → StandsAt (line_bytes x.0) bytes at x.1 × LineFollows lines x.0
unfolding line_at line_bytes counts_bytes
line_ok lines bytes at x fits e =
    let a = bind_ok (counts_at (before_of lines) bytes at) (λ counts. part (since_at kinds.Put bytes (at + 21)) >>= λ oldest. fence_at counts.class (last_dkey lines) bytes oldest.1 >>= λ fence. filter_at counts.entries bytes fence.1 >>= λ filter. digest_at bytes filter.1 >>= λ digest. Ok (record { no = counts.no; class = counts.class; entries = counts.entries; max_seq = counts.max_seq; oldest = oldest.0; fence = fence.0; filter = filter.0; digest = digest.0 }, digest.1)) x e in
    let counts = a.0 in
    let b = bind_ok (part (since_at kinds.Put bytes (at + 21))) (λ oldest. fence_at counts.class (last_dkey lines) bytes oldest.1 >>= λ fence. filter_at counts.entries bytes fence.1 >>= λ filter. digest_at bytes filter.1 >>= λ digest. Ok (record { no = counts.no; class = counts.class; entries = counts.entries; max_seq = counts.max_seq; oldest = oldest.0; fence = fence.0; filter = filter.0; digest = digest.0 }, digest.1)) x a.2 in
    let oldest = b.0.0 in
    let c = bind_ok (fence_at counts.class (last_dkey lines) bytes b.0.1) (λ fence. filter_at counts.entries bytes fence.1 >>= λ filter. digest_at bytes filter.1 >>= λ digest. Ok (record { no = counts.no; class = counts.class; entries = counts.entries; max_seq = counts.max_seq; oldest = oldest; fence = fence.0; filter = filter.0; digest = digest.0 }, digest.1)) x b.2 in
    let fence = c.0.0 in
    let d = bind_ok (filter_at counts.entries bytes c.0.1) (λ filter. digest_at bytes filter.1 >>= λ digest. Ok (record { no = counts.no; class = counts.class; entries = counts.entries; max_seq = counts.max_seq; oldest = oldest; fence = fence; filter = filter.0; digest = digest.0 }, digest.1)) x c.2 in
    let filter = d.0.0 in
    let f = bind_ok (digest_at bytes d.0.1) (λ digest. Ok (record { no = counts.no; class = counts.class; entries = counts.entries; max_seq = counts.max_seq; oldest = oldest; fence = fence; filter = filter; digest = digest.0 }, digest.1)) x d.2 in
    let digest = f.0.0 in
    let made : PageLine × ℕ = (record { no = counts.no; class = counts.class; entries = counts.entries; max_seq = counts.max_seq; oldest = oldest; fence = fence; filter = filter; digest = digest }, f.0.1) in
    let t0 = counts_ok lines bytes at counts fits a.1 in
    let t1 = since_stands kinds.Put bytes (at + 21) b.0 fits (part_ok (since_at kinds.Put bytes (at + 21)) b.0 b.1) in
    let t2 = fence_ok counts.class (last_dkey lines) bytes b.0.1 c.0 fits (ends_here (since_bytes oldest) bytes (at + 21) b.0.1 t1.0) c.1 in
    let t3 = filter_ok counts.entries bytes c.0.1 d.0 fits d.1 in
    let t4 = digest_ok bytes d.0.1 f.0 f.1 in
    let s3 = stands_then (filter_bytes filter) digest bytes c.0.1 d.0.1 f.0.1 t3.0 t4.0 in
    let s2 = stands_then (fence_bytes fence) (filter_bytes filter ++ digest) bytes b.0.1 c.0.1 f.0.1 t2.0 s3 in
    let s1 = stands_then (since_bytes oldest) (fence_bytes fence ++ (filter_bytes filter ++ digest)) bytes (at + 21) b.0.1 f.0.1 t1.0 s2 in
    let s0 = stands_then (counted counts) (since_bytes oldest ++ (fence_bytes fence ++ (filter_bytes filter ++ digest))) bytes at (at + 21) f.0.1 t0.stands s1 in
    subst (λ (y : PageLine × ℕ). StandsAt (line_bytes y.0) bytes at y.1 × LineFollows lines y.0) {x = made} (ok_is made x f.2) (
      s0,
      record {
        itself = record { no = t0.no; some = t0.some; place = t0.place; oldest = t1.2; fence = t2.1; filter = t3.1; digest = t4.1 };
        room = t0.room;
        entries = t0.few;
        fence = t2.2;
      },
    )

-- its filter's length has a spelling
pub few_words : (entries : ℕ) (words : List ℕ) → entries ≤ max_tile_entries → IsFilter entries words → length words < 2 ^ 32
few_words entries words few fits = omega (arith, fits.len, few)

pub line_again : (bytes : List ℕ) (lines : List PageLine) (at end : ℕ) (line : PageLine) → LineFollows lines line → StandsAt (line_bytes line) bytes at end → line_at (before_of lines) bytes at ≡ Ok (line, end)
unfolding line_at line_bytes counts_bytes
line_again bytes lines at end line fits p =
    let counts : Counts = record { no = line.no; class = line.class; entries = line.entries; max_seq = line.max_seq } in
    let p0 = stands_parts (counted counts) (since_bytes line.oldest ++ (fence_bytes line.fence ++ (filter_bytes line.filter ++ line.digest))) bytes at end p in
    let p1 = stands_parts (since_bytes line.oldest) (fence_bytes line.fence ++ (filter_bytes line.filter ++ line.digest)) bytes (at + 21) end p0.1 in
    let p2 = stands_parts (fence_bytes line.fence) (filter_bytes line.filter ++ line.digest) bytes _ end p1.1 in
    let p3 = stands_parts (filter_bytes line.filter) line.digest bytes _ end p2.1 in
    let oldest : part (since_at kinds.Put bytes (at + 21)) ≡ Ok (line.oldest, at + 21 + length (since_bytes line.oldest)) = ap part (since_again kinds.Put bytes (at + 21) _ line.oldest tt fits.itself.oldest p1.0) in
    rw (
      counts_again lines bytes at (at + 21) counts fits.itself.no fits.room fits.itself.some fits.entries fits.itself.place p0.0,
      oldest,
      fence_again line.class (last_dkey lines) bytes _ _ line.fence fits.itself.fence fits.fence p2.0,
      filter_again line.entries bytes _ _ line.filter (few_words line.entries line.filter (omega (arith, fits.entries)) fits.itself.filter) fits.itself.filter p3.0,
      digest_again bytes _ end line.digest fits.itself.digest p3.1,
    ) refl
