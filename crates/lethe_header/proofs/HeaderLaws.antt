-- What is read of a header is spelled so, and what is spelled so is read.
use Rattle.std.proofs.Common.{◌≡◌, ℕ, ◌^◌, ◌<◌, ◌≤◌, false, cond, ltb, List, [], ◌∷◌, ◌++◌, length, flat_map, Result, Ok, Err, refl, sym, ap, subst, ◌∙◌, arith}
use Rattle.std.specs.Prelude.{IfOk, MatchResult}
use Rattle.std.specs.Int.{w8, w16, w64, to_be_bytes}
use Rattle.std.proofs.lemmas.Bool.{le-ltb, ltb-false}
use Rattle.std.proofs.lemmas.List.{append-nil}
use Rattle.std.proofs.Math.ListN.{drop_of_length-le}
use Rattle.lethe_base.specs.Limits.{max_place}
use Rattle.lethe_base.specs.Numbers.{IsBytes}
use Rattle.lethe_base.specs.Reading.{StandsAt}
use Rattle.lethe_base.specs.Results.{◌>>=◌}
use Rattle.lethe_base.proofs.FieldLaws.{wide16, wide64, stands_then, stands_parts}
use Rattle.lethe_base.proofs.ReadingSteps.{bind_ok, past_test, ok_is}
use Rattle.lethe_header.specs.Headers.{head_bytes, header_bytes, tile_bytes, HasSpelling}
use Rattle.lethe_header.specs.Reading.{Gives, number_within, all_at, tile_behind, head_at, header_at}
use Rattle.lethe_header.specs.declared.header.Header.{Header}
use Rattle.lethe_header.specs.declared.refused.HeaderRefused.{HeaderRefused}
use Rattle.lethe_header.specs.declared.refused.HeaderRefused.TheVariants.{Short, Kind, Order, Trailing, NoMemory}
use Rattle.lethe_header.proofs.Numbers.{wide_ok, wide_again, byte_ok, byte_back}
use Rattle.lethe_header.proofs.TileLaws.{tiles_ok, tiles_again}

head_ok : (bytes : List ℕ) (x : ℕ × ℕ) → IsBytes bytes → head_at bytes ≡ Ok x → StandsAt (head_bytes x.0 x.1) bytes 0 13 × (x.0 ≤ max_place) × (0 < x.1) × (x.1 ≤ 256)
unfolding head_at head_bytes
head_ok bytes x fits e =
    let a = bind_ok (number_within w16 0x4c46 0x4c46 bytes 0) (λ _. number_within w8 1 1 bytes 2 >>= λ _. number_within w64 0 max_place bytes 3 >>= λ number. number_within w16 1 256 bytes 11 >>= λ tiles. Ok (number, tiles)) x e in
    let b = bind_ok (number_within w8 1 1 bytes 2) (λ _. number_within w64 0 max_place bytes 3 >>= λ number. number_within w16 1 256 bytes 11 >>= λ tiles. Ok (number, tiles)) x a.2 in
    let c = bind_ok (number_within w64 0 max_place bytes 3) (λ number. number_within w16 1 256 bytes 11 >>= λ tiles. Ok (number, tiles)) x b.2 in
    let d = bind_ok (number_within w16 1 256 bytes 11) (λ tiles. Ok (c.0, tiles)) x c.2 in
    let t0 = wide_ok w16 (2 ^ 16) wide16 0x4c46 0x4c46 bytes 0 a.0 fits a.1 in
    let t1 = byte_ok 1 1 bytes 2 b.0 fits b.1 in
    let t2 = wide_ok w64 (2 ^ 64) wide64 0 max_place bytes 3 c.0 fits c.1 in
    let t3 = wide_ok w16 (2 ^ 16) wide16 1 256 bytes 11 d.0 fits d.1 in
    let letters_is : a.0 ≡ 0x4c46 = omega (arith, t0.1) in
    let format_is : b.0 ≡ 1 = omega (arith, t1.1) in
    let letters : StandsAt (76 ∷ 70 ∷ []) bytes 0 2 = subst (λ (n : ℕ). StandsAt (to_be_bytes w16 n) bytes 0 2) letters_is t0.0 in
    let format : StandsAt (1 ∷ []) bytes 2 3 = subst (λ (n : ℕ). StandsAt (n ∷ []) bytes 2 3) format_is t1.0 in
    let mark = stands_then (76 ∷ 70 ∷ []) (1 ∷ []) bytes 0 2 3 letters format in
    let rest = stands_then (to_be_bytes w64 c.0) (to_be_bytes w16 d.0) bytes 3 11 13 t2.0 t3.0 in
    let made : ℕ × ℕ = (c.0, d.0) in
    subst (λ (y : ℕ × ℕ). StandsAt ((76 ∷ 70 ∷ 1 ∷ []) ++ (to_be_bytes w64 y.0 ++ to_be_bytes w16 y.1)) bytes 0 13 × (y.0 ≤ max_place) × (0 < y.1) × (y.1 ≤ 256)) {x = made} (ok_is made x d.2)
    (stands_then (76 ∷ 70 ∷ 1 ∷ []) (to_be_bytes w64 c.0 ++ to_be_bytes w16 d.0) bytes 0 3 13 mark rest, t2.1.1, t3.1.0, t3.1.1)

head_again : (bytes : List ℕ) (end number tiles : ℕ) → number ≤ max_place → 0 < tiles → tiles ≤ 256 → StandsAt (head_bytes number tiles) bytes 0 end → head_at bytes ≡ Ok (number, tiles)
unfolding head_at head_bytes
head_again bytes end number tiles small some few p =
    let p0 = stands_parts (76 ∷ 70 ∷ 1 ∷ []) (to_be_bytes w64 number ++ to_be_bytes w16 tiles) bytes 0 end p in
    let p1 = stands_parts (76 ∷ 70 ∷ []) (1 ∷ []) bytes 0 3 p0.0 in
    let p2 = stands_parts (to_be_bytes w64 number) (to_be_bytes w16 tiles) bytes 3 end p0.1 in
    let letters : number_within w16 0x4c46 0x4c46 bytes 0 ≡ Ok 0x4c46 = wide_again w16 (2 ^ 16) wide16 0x4c46 0x4c46 bytes 0 2 0x4c46 (omega arith) (omega arith, omega arith) p1.0 in
    let format : number_within w8 1 1 bytes 2 ≡ Ok 1 = byte_back 1 1 bytes 2 3 1 (omega arith, omega arith) p1.1 in
    rw (letters, format, wide_again w64 (2 ^ 64) wide64 0 max_place bytes 3 11 number (omega (arith, small)) (omega arith, small) p2.0, wide_again w16 (2 ^ 16) wide16 1 256 bytes 11 end tiles (omega (arith, few)) (some, few) p2.1) refl

-- what stands in all of the bytes is the bytes
all_stands : (x bytes : List ℕ) (end : ℕ) → StandsAt x bytes 0 end → length bytes ≤ end → bytes ≡ x
all_stands x bytes end p few = p.parts ∙ ap (λ (l : List ℕ). x ++ l) (drop_of_length-le bytes few) ∙ append-nil x

stands_alone : (x : List ℕ) → StandsAt x x 0 (length x)
stands_alone x = record {
  parts = sym (ap (λ (l : List ℕ). x ++ l) (drop_of_length-le x (let same : length x ≤ length x = omega arith in same)) ∙ append-nil x);
  ends = omega arith;
  within = omega arith;
}

header_ok : (bytes : List ℕ) (h : Header) → IsBytes bytes → header_at bytes ≡ Ok h → HasSpelling h × (bytes ≡ header_bytes h)
unfolding header_at header_bytes
header_ok bytes h fits e =
    let a = bind_ok (head_at bytes) (λ head. all_at tile_behind head.1 [] bytes 13 >>= λ tiles. cond (ltb tiles.1 (length bytes)) (Err (Trailing tiles.1)) (Ok (record { no = head.0; tiles = tiles.0 }))) h e in
    let b = bind_ok (all_at tile_behind a.0.1 [] bytes 13) (λ tiles. cond (ltb tiles.1 (length bytes)) (Err (Trailing tiles.1)) (Ok (record { no = a.0.0; tiles = tiles.0 }))) h a.2 in
    let made : Header = record { no = a.0.0; tiles = b.0.0 } in
    let g = past_test (ltb b.0.1 (length bytes)) (Trailing b.0.1) (Ok made) h b.2 in
    let head = head_ok bytes a.0 fits a.1 in
    let here : StandsAt [] bytes 13 13 = record { parts = refl; ends = refl; within = head.0.within } in
    let all = tiles_ok bytes fits a.0.1 13 b.0 here b.1 in
    let first = subst (λ (n : ℕ). StandsAt (head_bytes a.0.0 n) bytes 0 13) (sym all.2) head.0 in
    let stands = stands_then (head_bytes a.0.0 (length b.0.0)) (flat_map tile_bytes b.0.0) bytes 0 13 b.0.1 first all.0 in
    subst (λ (y : Header). HasSpelling y × (bytes ≡ head_bytes y.no (length y.tiles) ++ flat_map tile_bytes y.tiles)) {x = made} (ok_is made h g.1) (
      record { no = head.1; some = omega (arith, all.2, head.2); few = omega (arith, all.2, head.3); tiles = all.1 },
      all_stands _ bytes b.0.1 stands (ltb-false b.0.1 (length bytes) g.0),
    )

made_again : (bytes : List ℕ) (end : ℕ) (h : Header) → HasSpelling h → StandsAt (head_bytes h.no (length h.tiles) ++ flat_map tile_bytes h.tiles) bytes 0 end → length bytes ≤ end → header_at bytes ≡ Ok h
unfolding header_at head_bytes
made_again bytes end h fits p all =
    let parts = stands_parts (head_bytes h.no (length h.tiles)) (flat_map tile_bytes h.tiles) bytes 0 end p in
    let head = head_again bytes _ h.no (length h.tiles) fits.no fits.some fits.few parts.0 in
    let tiles = tiles_again bytes 13 end h.tiles fits.tiles parts.1 in
    let none : ltb end (length bytes) ≡ false = le-ltb end (length bytes) all in
    rw (head, tiles, none) refl

header_again : (h : Header) → HasSpelling h → header_at (header_bytes h) ≡ Ok h
unfolding header_bytes
header_again h fits = made_again _ _ h fits (stands_alone (head_bytes h.no (length h.tiles) ++ flat_map tile_bytes h.tiles)) (omega arith)

abbrev ok_of : Header → Result Header HeaderRefused
ok_of h = Ok h

abbrev failed : HeaderRefused → Result Header HeaderRefused
failed why = Err why

differ : (why : HeaderRefused) (h : Header) → failed why ≡ ok_of h → ⊥
differ why h e = cc

pub same_header : (a b : Header) → HasSpelling a → HasSpelling b → header_bytes a ≡ header_bytes b → a ≡ b
same_header a b a_fits b_fits e = ok_is a b (sym (header_again a a_fits) ∙ ap header_at e ∙ header_again b b_fits)

-- ---- what a reader gives

pub found_header : (result : Result Header HeaderRefused) (bytes : List ℕ) → IsBytes bytes → Gives result (header_at bytes) → IfOk result (λ header. HasSpelling header × (bytes ≡ header_bytes header))
found_header (Ok header) bytes fits gives = header_ok bytes header fits gives
found_header (Err why) bytes fits gives = tt

pub only_header : (result : Result Header HeaderRefused) (bytes : List ℕ) → Gives result (header_at bytes) → (header : Header) → HasSpelling header → bytes ≡ header_bytes header → MatchResult result (λ read. read ≡ header) (λ why. why ≡ NoMemory)
only_header result bytes gives header fits e = told result gives
  where
    read : header_at bytes ≡ Ok header
    read = ap header_at e ∙ header_again header fits

    told : (result : Result Header HeaderRefused) → Gives result (header_at bytes) → MatchResult result (λ read. read ≡ header) (λ why. why ≡ NoMemory)
    told (Ok other) gives = ok_is other header (sym gives ∙ read)
    told (Err (Short at)) gives = absurd (differ (Short at) header (sym gives ∙ read))
    told (Err (Kind at)) gives = absurd (differ (Kind at) header (sym gives ∙ read))
    told (Err (Order at)) gives = absurd (differ (Order at) header (sym gives ∙ read))
    told (Err (Trailing at)) gives = absurd (differ (Trailing at) header (sym gives ∙ read))
    told (Err NoMemory) gives = refl
