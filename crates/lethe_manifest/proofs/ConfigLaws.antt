-- The head and the configuration: what is read stands there, and what stands there is read.
use Rattle.std.proofs.Common.{◌≡◌, ℕ, ◌+◌, ◌*◌, ◌^◌, ◌≤◌, Bool, true, false, cond, leb, eqb, List, [], ◌∷◌, ◌++◌, Ok, refl, sym, subst, arith}
use Rattle.std.specs.Int.{w8, w16, w64, to_be_bytes, IsInRange}
use Rattle.std.proofs.lemmas.Bool.{le-leb, leb-true, eqb-true, eqb-false}
use Rattle.lethe_base.specs.Limits.{max_place}
use Rattle.lethe_base.specs.Numbers.{IsBytes}
use Rattle.lethe_base.specs.Reading.{StandsAt}
use Rattle.lethe_base.specs.Configuration.{IsConfig, default_fields, max_file_entries, file_entries}
use Rattle.lethe_base.specs.declared.config.Field.TheVariants.{Threshold, Ratio, Levels, Page, Tile, File, Buffer}
use Rattle.lethe_base.specs.declared.config.Fields.{Fields}
use Rattle.lethe_base.specs.declared.config.Pick.{Pick}
use Rattle.lethe_base.specs.declared.config.Pick.TheVariants.{So, Sd}
use Rattle.lethe_base.proofs.FieldLaws.{stands_then, stands_parts, wide16, wide64}
use Rattle.lethe_manifest.specs.Manifests.{head_bytes, pick_byte, times_bytes, sizes_bytes, config_bytes}
use Rattle.lethe_manifest.specs.Numbers.{number_within}
use Rattle.lethe_manifest.specs.Reading.{head_at, limited_at, tiles_at, buffer_at, pick_at, sizes_at, config_at}
use Rattle.lethe_manifest.specs.declared.refused.ManifestRefused.{ManifestRefused}
use Rattle.lethe_manifest.specs.declared.refused.ManifestRefused.TheVariants.{Kind}
use Rattle.lethe_base.specs.Results.{◌>>=◌}
use Rattle.lethe_base.proofs.ReadingSteps.{bind_ok, ok_of, ok_is}
use Rattle.lethe_manifest.proofs.Numbers.{tested_ok, wide_ok, wide_again, byte_ok, byte_back}

pub only : (k n : ℕ) → IsInRange k k n → n ≡ k
only k n r = omega (arith, r.0, r.1)

-- ---- the head

pub head_ok : (bytes : List ℕ) (n : ℕ) → IsBytes bytes → head_at bytes ≡ Ok n → StandsAt (head_bytes n) bytes 0 11 × (n ≤ max_place)
unfolding head_at head_bytes
head_ok bytes n fits e =
    let a = bind_ok (number_within w16 0x4c4d 0x4c4d bytes 0) _ n e in
    let b = bind_ok (number_within w8 1 1 bytes 2) _ n a.2 in
    let t0 = wide_ok w16 (2 ^ 16) wide16 0x4c4d 0x4c4d bytes 0 a.0 fits a.1 in
    let t1 = byte_ok 1 1 bytes 2 b.0 fits b.1 in
    let t2 = wide_ok w64 (2 ^ 64) wide64 0 max_place bytes 3 n fits b.2 in
    let letters : StandsAt (76 ∷ 77 ∷ []) bytes 0 2 = subst (λ (k : ℕ). StandsAt (to_be_bytes w16 k) bytes 0 2) (only 0x4c4d a.0 t0.1) t0.0 in
    let format : StandsAt (1 ∷ []) bytes 2 3 = subst (λ (k : ℕ). StandsAt (k ∷ []) bytes 2 3) (only 1 b.0 t1.1) t1.0 in
    (stands_then (76 ∷ 77 ∷ 1 ∷ []) (to_be_bytes w64 n) bytes 0 3 11 (stands_then (76 ∷ 77 ∷ []) (1 ∷ []) bytes 0 2 3 letters format) t2.0, t2.1.1)

pub head_again : (bytes : List ℕ) (end n : ℕ) → n ≤ max_place → StandsAt (head_bytes n) bytes 0 end → head_at bytes ≡ Ok n
unfolding head_at head_bytes
head_again bytes end n fits p =
    let p0 = stands_parts (76 ∷ 77 ∷ 1 ∷ []) (to_be_bytes w64 n) bytes 0 end p in
    let p1 = stands_parts (76 ∷ 77 ∷ []) (1 ∷ []) bytes 0 3 p0.0 in
    let letters : number_within w16 0x4c4d 0x4c4d bytes 0 ≡ Ok 0x4c4d = wide_again w16 (2 ^ 16) wide16 0x4c4d 0x4c4d bytes 0 2 0x4c4d (omega arith) (omega arith, omega arith) p1.0 in
    let format : number_within w8 1 1 bytes 2 ≡ Ok 1 = byte_back 1 1 bytes 2 3 1 (omega arith, omega arith) p1.1 in
    let number : number_within w64 0 max_place bytes 3 ≡ Ok n = wide_again w64 (2 ^ 64) wide64 0 max_place bytes 3 end n (omega (arith, fits)) (omega arith, fits) p0.1 in
    rw (letters, format, number) refl

-- ---- the configuration

pub pick_ok : (bytes : List ℕ) (at : ℕ) (k : Pick) → IsBytes bytes → pick_at bytes at ≡ Ok k → StandsAt (pick_byte k ∷ []) bytes at (at + 1)
unfolding pick_at
pick_ok bytes at k fits e =
    let b = bind_ok (number_within w8 0 1 bytes at) _ k e in
    let t = byte_ok 0 1 bytes at b.0 fits b.1 in
    by_test (eqb b.0 0) b.0 k refl t.1 t.0 b.2
  where
    by_test : (t : Bool) (byte : ℕ) (k : Pick) → t ≡ eqb byte 0 → IsInRange 0 1 byte → StandsAt (byte ∷ []) bytes at (at + 1) → cond t (ok_of {E = ManifestRefused} So) (Ok Sd) ≡ Ok k → StandsAt (pick_byte k ∷ []) bytes at (at + 1)
    by_test true byte k is r p e =
        let zero_is : byte ≡ 0 = eqb-true byte 0 (sym is) in
        subst (λ (k : Pick). StandsAt (pick_byte k ∷ []) bytes at (at + 1)) (ok_is So k e) (subst (λ (n : ℕ). StandsAt (n ∷ []) bytes at (at + 1)) zero_is p)
    by_test false byte k is r p e =
        let other : byte ≡ 0 → ⊥ = eqb-false byte 0 (sym is) in
        let one_is : byte ≡ 1 = omega (arith, other, r.1) in
        subst (λ (k : Pick). StandsAt (pick_byte k ∷ []) bytes at (at + 1)) (ok_is Sd k e) (subst (λ (n : ℕ). StandsAt (n ∷ []) bytes at (at + 1)) one_is p)

pub pick_again : (bytes : List ℕ) (at end : ℕ) (k : Pick) → StandsAt (pick_byte k ∷ []) bytes at end → pick_at bytes at ≡ Ok k
unfolding pick_at
pick_again bytes at end So p = rw (byte_back 0 1 bytes at end 0 (omega arith, omega arith) p) refl
pick_again bytes at end Sd p = rw (byte_back 0 1 bytes at end 1 (omega arith, omega arith) p) refl

file_ok : (entries : ℕ) (bytes : List ℕ) (at n : ℕ) → IsBytes bytes → tiles_at entries bytes at ≡ Ok n → StandsAt (to_be_bytes w16 n) bytes at (at + 2) × IsInRange 1 256 n × (entries * n ≤ max_file_entries)
unfolding tiles_at
file_ok entries bytes at n fits e =
    let b = tested_ok (limited_at File bytes at) (λ file. leb (entries * file) max_file_entries) (Kind at) n e in
    let t = wide_ok w16 (2 ^ 16) wide16 1 256 bytes at n fits b.0 in
    (t.0, t.1, leb-true _ _ b.1)

buffer_ok : (entries : ℕ) (bytes : List ℕ) (at n : ℕ) → IsBytes bytes → buffer_at entries bytes at ≡ Ok n → StandsAt (to_be_bytes w16 n) bytes at (at + 2) × IsInRange 1 16384 n × (n ≤ entries)
unfolding buffer_at
buffer_ok entries bytes at n fits e =
    let b = tested_ok (limited_at Buffer bytes at) (λ buffer. leb buffer entries) (Kind at) n e in
    let t = wide_ok w16 (2 ^ 16) wide16 1 16384 bytes at n fits b.0 in
    (t.0, t.1, leb-true _ _ b.1)

-- what was read of the sizes
pub record Sized (times : Fields) (bytes : List ℕ) (x : Fields) : Type 0 where
  pub stands : StandsAt (sizes_bytes x) bytes 21 29
  pub page : IsInRange 1 1024 x.page
  pub tile : IsInRange 1 64 x.tile
  pub file : IsInRange 1 256 x.file
  pub entries : file_entries x ≤ max_file_entries
  pub buffer : IsInRange 1 16384 x.buffer
  pub room : x.buffer ≤ file_entries x
  pub threshold : x.threshold ≡ times.threshold
  pub ratio : x.ratio ≡ times.ratio
  pub levels : x.levels ≡ times.levels

pub sizes_ok : (times : Fields) (bytes : List ℕ) (x : Fields) → IsBytes bytes → sizes_at times bytes ≡ Ok x → Sized times bytes x
unfolding sizes_at sizes_bytes
sizes_ok times bytes x fits e =
    let a = bind_ok (limited_at Page bytes 21) _ x e in
    let b = bind_ok (limited_at Tile bytes 23) _ x a.2 in
    let c = bind_ok (tiles_at (a.0 * b.0) bytes 24) (λ file. buffer_at (a.0 * b.0 * file) bytes 26 >>= λ buffer. pick_at bytes 28 >>= λ pick. Ok (record times { page = a.0; tile = b.0; file = file; buffer = buffer; pick = pick })) x b.2 in
    let d = bind_ok (buffer_at (a.0 * b.0 * c.0) bytes 26) (λ buffer. pick_at bytes 28 >>= λ pick. Ok (record times { page = a.0; tile = b.0; file = c.0; buffer = buffer; pick = pick })) x c.2 in
    let f = bind_ok (pick_at bytes 28) (λ pick. Ok (record times { page = a.0; tile = b.0; file = c.0; buffer = d.0; pick = pick })) x d.2 in
    let t0 = wide_ok w16 (2 ^ 16) wide16 1 1024 bytes 21 a.0 fits a.1 in
    let t1 = byte_ok 1 64 bytes 23 b.0 fits b.1 in
    let t2 = file_ok (a.0 * b.0) bytes 24 c.0 fits c.1 in
    let t3 = buffer_ok (a.0 * b.0 * c.0) bytes 26 d.0 fits d.1 in
    let t4 = pick_ok bytes 28 f.0 fits f.1 in
    let read : Fields = record times { page = a.0; tile = b.0; file = c.0; buffer = d.0; pick = f.0 } in
    let s3 = stands_then (to_be_bytes w16 d.0) (pick_byte f.0 ∷ []) bytes 26 28 29 t3.0 t4 in
    let s2 = stands_then (to_be_bytes w16 c.0) (to_be_bytes w16 d.0 ++ (pick_byte f.0 ∷ [])) bytes 24 26 29 t2.0 s3 in
    let s1 = stands_then (b.0 ∷ []) (to_be_bytes w16 c.0 ++ (to_be_bytes w16 d.0 ++ (pick_byte f.0 ∷ []))) bytes 23 24 29 t1.0 s2 in
    let s0 = stands_then (to_be_bytes w16 a.0) ((b.0 ∷ []) ++ (to_be_bytes w16 c.0 ++ (to_be_bytes w16 d.0 ++ (pick_byte f.0 ∷ [])))) bytes 21 23 29 t0.0 s1 in
    let sized : Sized times bytes read = record {
      stands = s0;
      page = t0.1;
      tile = t1.1;
      file = t2.1;
      entries = t2.2;
      buffer = t3.1;
      room = t3.2;
      threshold = refl;
      ratio = refl;
      levels = refl;
    } in
    subst (Sized times bytes) {x = read} (ok_is read x f.2) sized

pub config_ok : (bytes : List ℕ) (x : Fields) → IsBytes bytes → config_at bytes ≡ Ok x → StandsAt (config_bytes x) bytes 11 29 × IsConfig x
unfolding config_at times_bytes
config_ok bytes x fits e =
    let a = bind_ok (limited_at Threshold bytes 11) _ x e in
    let b = bind_ok (limited_at Ratio bytes 19) _ x a.2 in
    let c = bind_ok (limited_at Levels bytes 20) _ x b.2 in
    let sized = sizes_ok (record default_fields { threshold = a.0; ratio = b.0; levels = c.0 }) bytes x fits c.2 in
    let t0 = wide_ok w64 (2 ^ 64) wide64 1 (2 ^ 40) bytes 11 a.0 fits a.1 in
    let t1 = byte_ok 2 16 bytes 19 b.0 fits b.1 in
    let t2 = byte_ok 1 6 bytes 20 c.0 fits c.1 in
    let s1 = stands_then (b.0 ∷ []) (c.0 ∷ []) bytes 19 20 21 t1.0 t2.0 in
    let s0 : StandsAt (to_be_bytes w64 a.0 ++ (b.0 ∷ c.0 ∷ [])) bytes 11 21 = stands_then (to_be_bytes w64 a.0) (b.0 ∷ c.0 ∷ []) bytes 11 19 21 t0.0 s1 in
    let u0 : StandsAt (to_be_bytes w64 x.threshold ++ (b.0 ∷ c.0 ∷ [])) bytes 11 21 = subst (λ (n : ℕ). StandsAt (to_be_bytes w64 n ++ (b.0 ∷ c.0 ∷ [])) bytes 11 21) (sym sized.threshold) s0 in
    let u1 : StandsAt (to_be_bytes w64 x.threshold ++ (x.ratio ∷ c.0 ∷ [])) bytes 11 21 = subst (λ (n : ℕ). StandsAt (to_be_bytes w64 x.threshold ++ (n ∷ c.0 ∷ [])) bytes 11 21) (sym sized.ratio) u0 in
    let u2 : StandsAt (times_bytes x) bytes 11 21 = subst (λ (n : ℕ). StandsAt (to_be_bytes w64 x.threshold ++ (x.ratio ∷ n ∷ [])) bytes 11 21) (sym sized.levels) u1 in (
      stands_then (times_bytes x) (sizes_bytes x) bytes 11 21 29 u2 sized.stands,
      record {
        threshold = subst (IsInRange 1 (2 ^ 40)) (sym sized.threshold) t0.1;
        ratio = subst (IsInRange 2 16) (sym sized.ratio) t1.1;
        levels = subst (IsInRange 1 6) (sym sized.levels) t2.1;
        page = sized.page;
        tile = sized.tile;
        file = sized.file;
        entries = sized.entries;
        buffer = sized.buffer;
        room = sized.room;
      },
    )

file_again : (entries : ℕ) (bytes : List ℕ) (at end n : ℕ) → IsInRange 1 256 n → entries * n ≤ max_file_entries → StandsAt (to_be_bytes w16 n) bytes at end → tiles_at entries bytes at ≡ Ok n
unfolding tiles_at
file_again entries bytes at end n r few p = rw (wide_again w16 (2 ^ 16) wide16 1 256 bytes at end n (omega (arith, r.1)) r p, le-leb _ _ few) refl

buffer_again : (entries : ℕ) (bytes : List ℕ) (at end n : ℕ) → IsInRange 1 16384 n → n ≤ entries → StandsAt (to_be_bytes w16 n) bytes at end → buffer_at entries bytes at ≡ Ok n
unfolding buffer_at
buffer_again entries bytes at end n r few p = rw (wide_again w16 (2 ^ 16) wide16 1 16384 bytes at end n (omega (arith, r.1)) r p, le-leb _ _ few) refl

pub sizes_again : (bytes : List ℕ) (end : ℕ) (times x : Fields) → IsConfig x → StandsAt (sizes_bytes x) bytes 21 end → sizes_at times bytes ≡ Ok (record times { page = x.page; tile = x.tile; file = x.file; buffer = x.buffer; pick = x.pick })
unfolding sizes_at sizes_bytes
sizes_again bytes end times x fits p =
    let p0 = stands_parts (to_be_bytes w16 x.page) ((x.tile ∷ []) ++ (to_be_bytes w16 x.file ++ (to_be_bytes w16 x.buffer ++ (pick_byte x.pick ∷ [])))) bytes 21 end p in
    let p1 = stands_parts (x.tile ∷ []) (to_be_bytes w16 x.file ++ (to_be_bytes w16 x.buffer ++ (pick_byte x.pick ∷ []))) bytes 23 end p0.1 in
    let p2 = stands_parts (to_be_bytes w16 x.file) (to_be_bytes w16 x.buffer ++ (pick_byte x.pick ∷ [])) bytes 24 end p1.1 in
    let p3 = stands_parts (to_be_bytes w16 x.buffer) (pick_byte x.pick ∷ []) bytes 26 end p2.1 in
    let page : number_within w16 1 1024 bytes 21 ≡ Ok x.page = wide_again w16 (2 ^ 16) wide16 1 1024 bytes 21 23 x.page (omega (arith, fits.page.1)) fits.page p0.0 in
    let tile : number_within w8 1 64 bytes 23 ≡ Ok x.tile = byte_back 1 64 bytes 23 24 x.tile fits.tile p1.0 in
    rw (page, tile, file_again (x.page * x.tile) bytes 24 26 x.file fits.file fits.entries p2.0, buffer_again (x.page * x.tile * x.file) bytes 26 28 x.buffer fits.buffer fits.room p3.0, pick_again bytes 28 end x.pick p3.1) refl

pub config_again : (bytes : List ℕ) (end : ℕ) (x : Fields) → IsConfig x → StandsAt (config_bytes x) bytes 11 end → config_at bytes ≡ Ok x
unfolding config_at times_bytes
config_again bytes end x fits p =
    let p0 = stands_parts (times_bytes x) (sizes_bytes x) bytes 11 end p in
    let p1 = stands_parts (to_be_bytes w64 x.threshold) (x.ratio ∷ x.levels ∷ []) bytes 11 21 p0.0 in
    let p2 = stands_parts (x.ratio ∷ []) (x.levels ∷ []) bytes 19 21 p1.1 in
    let threshold : number_within w64 1 (2 ^ 40) bytes 11 ≡ Ok x.threshold = wide_again w64 (2 ^ 64) wide64 1 (2 ^ 40) bytes 11 19 x.threshold (omega (arith, fits.threshold.1)) fits.threshold p1.0 in
    let ratio : number_within w8 2 16 bytes 19 ≡ Ok x.ratio = byte_back 2 16 bytes 19 20 x.ratio fits.ratio p2.0 in
    let levels : number_within w8 1 6 bytes 20 ≡ Ok x.levels = byte_back 1 6 bytes 20 21 x.levels fits.levels p2.1 in
    rw (threshold, ratio, levels, sizes_again bytes end (record default_fields { threshold = x.threshold; ratio = x.ratio; levels = x.levels }) x fits p0.1) refl
