-- A tile: what is read stands there, and what stands there is read.
use Rattle.std.proofs.Common.{◌≡◌, ℕ, ◌+◌, Bool, true, cond, List, [], ◌∷◌, ◌++◌, length, flat_map, Ok, Err, refl, subst, arith}
use Rattle.std.specs.Int.{w8}
use Rattle.std.specs.Ordering.{is_le}
use Rattle.lethe_base.specs.Keys.{Bytes, key_cmp}
use Rattle.lethe_base.specs.Limits.{IsKey}
use Rattle.lethe_base.specs.Numbers.{IsBytes}
use Rattle.lethe_base.specs.Reading.{StandsAt, key_at}
use Rattle.lethe_base.specs.Results.{◌>>=◌}
use Rattle.lethe_base.specs.Spelling.{key_bytes}
use Rattle.lethe_base.proofs.FieldLaws.{stands_then, stands_parts, key_stands, key_again}
use Rattle.lethe_base.proofs.ReadingSteps.{bind_ok, met_test, ok_is}
use Rattle.lethe_page.specs.Reading.{is_above}
use Rattle.lethe_header.specs.Headers.{line_bytes, tile_bytes, last_hi, EachFollows, LineFollows, TileFollows}
use Rattle.lethe_header.specs.Reading.{part, number_within, all_at, line_behind, lo_at, hi_at, tile_at, tile_behind}
use Rattle.lethe_header.specs.declared.header.TileLine.{TileLine}
use Rattle.lethe_header.specs.declared.refused.HeaderRefused.TheVariants.{Order}
use Rattle.lethe_header.proofs.Follows.{follows_none, all_ok, all_again}
use Rattle.lethe_header.proofs.LineLaws.{part_ok, line_ok, line_again}
use Rattle.lethe_header.proofs.Numbers.{byte_ok, byte_back}

-- a key that passes a test
tested_ok : (test : Bytes → Bool) (bytes : List ℕ) (at : ℕ) (x : Bytes × ℕ) → IsBytes bytes → (part (key_at bytes at) >>= λ key. cond (test key.0) (Ok key) (Err (Order at))) ≡ Ok x → StandsAt (key_bytes x.0) bytes at x.1 × IsKey x.0 × (test x.0 ≡ true)
tested_ok test bytes at x fits e =
    let a = bind_ok (part (key_at bytes at)) (λ key. cond (test key.0) (Ok key) (Err (Order at))) x e in
    let g = met_test (test a.0.0) a.0 (Order at) x a.2 in
    let t = key_stands bytes at a.0 fits (part_ok (key_at bytes at) a.0 a.1) in
    subst (λ (y : Bytes × ℕ). StandsAt (key_bytes y.0) bytes at y.1 × IsKey y.0 × (test y.0 ≡ true)) g.1 (t.0, t.1, g.0)

tested_again : (test : Bytes → Bool) (bytes : List ℕ) (at end : ℕ) (key : Bytes) → IsKey key → test key ≡ true → StandsAt (key_bytes key) bytes at end → (part (key_at bytes at) >>= λ key. cond (test key.0) (Ok key) (Err (Order at))) ≡ Ok (key, end)
tested_again test bytes at end key fits passes p = rw (key_again bytes at end key fits p, passes) refl

tile_ok : (bytes : List ℕ) → IsBytes bytes → (tiles : List TileLine) (at : ℕ) (x : TileLine × ℕ) → tile_behind tiles bytes at ≡ Ok x → StandsAt (tile_bytes x.0) bytes at x.1 × TileFollows tiles x.0
unfolding tile_at tile_bytes lo_at hi_at
tile_ok bytes fits tiles at x e =
    let a = bind_ok (lo_at (last_hi tiles) bytes at) (λ lo. hi_at lo.0 bytes lo.1 >>= λ hi. number_within w8 1 65 bytes hi.1 >>= λ count. all_at line_behind count [] bytes (hi.1 + 1) >>= λ lines. Ok (record { lo = lo.0; hi = hi.0; pages = lines.0 }, lines.1)) x e in
    let lo = a.0.0 in
    let b = bind_ok (hi_at lo bytes a.0.1) (λ hi. number_within w8 1 65 bytes hi.1 >>= λ count. all_at line_behind count [] bytes (hi.1 + 1) >>= λ lines. Ok (record { lo = lo; hi = hi.0; pages = lines.0 }, lines.1)) x a.2 in
    let hi = b.0.0 in
    let c = bind_ok (number_within w8 1 65 bytes b.0.1) (λ count. all_at line_behind count [] bytes (b.0.1 + 1) >>= λ lines. Ok (record { lo = lo; hi = hi; pages = lines.0 }, lines.1)) x b.2 in
    let d = bind_ok (all_at line_behind c.0 [] bytes (b.0.1 + 1)) (λ lines. Ok (record { lo = lo; hi = hi; pages = lines.0 }, lines.1)) x c.2 in
    let lines = d.0.0 in
    let made : TileLine × ℕ = (record { lo = lo; hi = hi; pages = lines }, d.0.1) in
    let t0 = tested_ok (is_above (last_hi tiles)) bytes at a.0 fits a.1 in
    let t1 = tested_ok (λ key. is_le (key_cmp lo key)) bytes a.0.1 b.0 fits b.1 in
    let t2 = byte_ok 1 65 bytes b.0.1 c.0 fits c.1 in
    let here : StandsAt [] bytes (b.0.1 + 1) (b.0.1 + 1) = record { parts = refl; ends = omega arith; within = t2.0.within } in
    let t3 = all_ok LineFollows line_bytes line_behind bytes (λ before at x. line_ok before bytes at x fits) c.0 [] (b.0.1 + 1) (b.0.1 + 1) d.0 (follows_none LineFollows) here d.1 in
    let len : c.0 ≡ length lines = omega (arith, t3.2) in
    let u2 = subst (λ (n : ℕ). StandsAt (n ∷ []) bytes b.0.1 (b.0.1 + 1)) len t2.0 in
    let s2 = stands_then (length lines ∷ []) (flat_map line_bytes lines) bytes b.0.1 (b.0.1 + 1) d.0.1 u2 t3.0 in
    let s1 = stands_then (key_bytes hi) ((length lines ∷ []) ++ flat_map line_bytes lines) bytes a.0.1 b.0.1 d.0.1 t1.0 s2 in
    let s0 = stands_then (key_bytes lo) (key_bytes hi ++ ((length lines ∷ []) ++ flat_map line_bytes lines)) bytes at a.0.1 d.0.1 t0.0 s1 in
    subst (λ (y : TileLine × ℕ). StandsAt (tile_bytes y.0) bytes at y.1 × TileFollows tiles y.0) {x = made} (ok_is made x d.2) (
      s0,
      record {
        itself = record { lo = t0.1; hi = t1.1; keys = t1.2; some = omega (arith, len, t2.1); few = omega (arith, len, t2.1); lines = t3.1 };
        above = t0.2;
      },
    )

pub tiles_ok : (bytes : List ℕ) → IsBytes bytes → (n : ℕ) (at : ℕ) (x : List TileLine × ℕ) → StandsAt [] bytes at at → all_at tile_behind n [] bytes at ≡ Ok x → StandsAt (flat_map tile_bytes x.0) bytes at x.1 × EachFollows TileFollows x.0 × (length x.0 ≡ n)
tiles_ok bytes fits n at x here e =
    let all = all_ok TileFollows tile_bytes tile_behind bytes (tile_ok bytes fits) n [] at at x (follows_none TileFollows) here e in
    (all.0, all.1, omega (arith, all.2))

tile_again : (bytes : List ℕ) (tiles : List TileLine) (at end : ℕ) (tile : TileLine) → TileFollows tiles tile → StandsAt (tile_bytes tile) bytes at end → tile_behind tiles bytes at ≡ Ok (tile, end)
unfolding tile_at tile_bytes lo_at hi_at
tile_again bytes tiles at end tile fits p =
    let itself = fits.itself in
    let p0 = stands_parts (key_bytes tile.lo) (key_bytes tile.hi ++ ((length tile.pages ∷ []) ++ flat_map line_bytes tile.pages)) bytes at end p in
    let p1 = stands_parts (key_bytes tile.hi) ((length tile.pages ∷ []) ++ flat_map line_bytes tile.pages) bytes _ end p0.1 in
    let p2 = stands_parts (length tile.pages ∷ []) (flat_map line_bytes tile.pages) bytes _ end p1.1 in
    rw (
      tested_again (is_above (last_hi tiles)) bytes at _ tile.lo itself.lo fits.above p0.0,
      tested_again (λ key. is_le (key_cmp tile.lo key)) bytes _ _ tile.hi itself.hi itself.keys p1.0,
      byte_back 1 65 bytes _ _ (length tile.pages) (itself.some, itself.few) p2.0,
      all_again LineFollows line_bytes line_behind bytes (line_again bytes) tile.pages [] _ end itself.lines p2.1,
    ) refl

pub tiles_again : (bytes : List ℕ) (at end : ℕ) (tiles : List TileLine) → EachFollows TileFollows tiles → StandsAt (flat_map tile_bytes tiles) bytes at end → all_at tile_behind (length tiles) [] bytes at ≡ Ok (tiles, end)
tiles_again bytes at end tiles each p = all_again TileFollows tile_bytes tile_behind bytes (tile_again bytes) tiles [] at end each p
