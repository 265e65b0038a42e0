-- Certificates, erases, segments and files: what is read stands there, and what stands there is read.
use Rattle.std.proofs.Common.{◌≡◌, ℕ, ◌+◌, ◌-◌, ◌^◌, ◌<◌, ◌≤◌, true, cond, eqb, leb, List, [], ◌∷◌, ◌++◌, length, take, drop, flat_map, Option, Some, None, Result, Ok, refl, sym, ap, subst, ◌∙◌, arith, inl, inr, length-drop}
use Rattle.std.specs.Int.{w8, w32, w64, to_be_bytes}
use Rattle.std.proofs.lemmas.Bool.{eqb-true, eqb-false, le-leb, leb-true}
use Rattle.std.proofs.lemmas.List.{drop-drop, length-take, take-append-drop, take_at}
use Rattle.lethe_base.specs.Limits.{max_place, max_time}
use Rattle.lethe_base.specs.Numbers.{IsBytes}
use Rattle.lethe_base.specs.Reading.{StandsAt}
use Rattle.lethe_base.specs.Results.{◌>>=◌}
use Rattle.lethe_base.specs.Erases.{erase_bytes, IsErase}
use Rattle.lethe_base.specs.declared.pending.Pending.{Pending}
use Rattle.lethe_base.proofs.FieldLaws.{chosen, stands_then, split}
use Rattle.lethe_base.proofs.EraseLaws.{erase_stands, erase_parts}
use Rattle.lethe_base.proofs.ReadingSteps.{bind_ok, met_test, ok_is}
use Rattle.lethe_manifest.specs.Manifests.{cert_bytes, certificate_bytes, erases_bytes, segments_bytes, file_bytes, files_bytes, IsCertificate, IsCertificateOrNone, AreErases, AreSegments, IsFile, AreFiles}
use Rattle.lethe_manifest.specs.Numbers.{number_within, number_above, cited_at}
use Rattle.lethe_manifest.specs.Parts.{certificate_at, marked_at, erase_at, erases_at, segment_at, segments_at, level_at, digest_at, file_at, files_at}
use Rattle.lethe_manifest.specs.declared.manifest.Cited.{Cited}
use Rattle.lethe_manifest.specs.declared.manifest.LastCert.{LastCert}
use Rattle.lethe_manifest.specs.declared.refused.ManifestRefused.{ManifestRefused}
use Rattle.lethe_manifest.specs.declared.refused.ManifestRefused.TheVariants.{Short, Order}
use Rattle.lethe_manifest.proofs.Numbers.{tested_ok, wide32, wide_ok, wide_again, byte_ok, byte_back, long_ok, long_again, above_ok, above_again, cited_ok, cited_again}
use Rattle.lethe_manifest.proofs.Items.{all_ok, all_again}

-- ---- certificates

cert_ok : (bytes : List ℕ) (at : ℕ) (x : LastCert) → IsBytes bytes → certificate_at bytes at ≡ Ok x → StandsAt (cert_bytes x) bytes at (at + 24) × IsCertificate x
unfolding certificate_at cert_bytes
cert_ok bytes at x fits e =
    let a = bind_ok (number_within w64 1 max_place bytes at) _ x e in
    let b = bind_ok (number_within w64 0 max_time bytes (at + 8)) _ x a.2 in
    let c = bind_ok (number_within w64 0 max_time bytes (at + 16)) _ x b.2 in
    let t0 = long_ok 1 max_place bytes at (at + 8) a.0 refl fits a.1 in
    let t1 = long_ok 0 max_time bytes (at + 8) (at + 16) b.0 (omega arith) fits b.1 in
    let t2 = long_ok 0 max_time bytes (at + 16) (at + 24) c.0 (omega arith) fits c.1 in
    let s1 = stands_then _ _ bytes (at + 8) (at + 16) (at + 24) t1.0 t2.0 in
    let s0 = stands_then _ _ bytes at (at + 8) (at + 24) t0.0 s1 in
    let read : LastCert = record { number = a.0; clock = b.0; before = c.0 } in
    subst (λ (y : LastCert). StandsAt (to_be_bytes w64 y.number ++ (to_be_bytes w64 y.clock ++ to_be_bytes w64 y.before)) bytes at (at + 24) × IsCertificate y) {x = read} (ok_is read x c.2)
    (s0, record { number = (omega (arith, t0.1), t0.1.1); clock = t1.1.1; before = t2.1.1 })

cert_again : (bytes : List ℕ) (at end : ℕ) (cert : LastCert) → IsCertificate cert → StandsAt (cert_bytes cert) bytes at end → certificate_at bytes at ≡ Ok cert
unfolding certificate_at cert_bytes
cert_again bytes at end cert fits p =
    let p0 = split (to_be_bytes w64 cert.number) (to_be_bytes w64 cert.clock ++ to_be_bytes w64 cert.before) bytes at (at + 8) end refl p in
    let p1 = split (to_be_bytes w64 cert.clock) (to_be_bytes w64 cert.before) bytes (at + 8) (at + 16) end (omega arith) p0.1 in
    rw (
      long_again 1 max_place bytes at (at + 8) cert.number (omega arith) (omega (arith, fits.number), fits.number.1) p0.0,
      long_again 0 max_time bytes (at + 8) (at + 16) cert.clock (omega arith) (omega arith, fits.clock) p1.0,
      long_again 0 max_time bytes (at + 16) end cert.before (omega arith) (omega arith, fits.before) p1.1,
    ) refl

pub marked_ok : (bytes : List ℕ) (x : Option LastCert × ℕ) → IsBytes bytes → marked_at bytes ≡ Ok x → StandsAt (certificate_bytes x.0) bytes 53 x.1 × IsCertificateOrNone x.0
unfolding marked_at
marked_ok bytes x fits e =
    let none : Option LastCert × ℕ = (None, 54) in
    let marked : Result (Option LastCert × ℕ) ManifestRefused = certificate_at bytes 54 >>= λ cert. Ok (Some cert, 78) in
    let a = bind_ok (number_within w8 0 1 bytes 53) (λ mark. cond (eqb mark 0) (Ok none) marked) x e in
    let t = byte_ok 0 1 bytes 53 a.0 fits a.1 in
    elim (chosen (eqb a.0 0) (Ok none) marked (Ok x) a.2) [
      | inl h ↦ subst (λ (y : Option LastCert × ℕ). StandsAt (certificate_bytes y.0) bytes 53 y.1 × IsCertificateOrNone y.0) {x = none} (ok_is none x h.1) (subst (λ (k : ℕ). StandsAt (k ∷ []) bytes 53 54) (eqb-true a.0 0 h.0) t.0, tt)
      | inr h ↦
          let other : a.0 ≡ 0 → ⊥ = eqb-false a.0 0 h.0 in
          let one : a.0 ≡ 1 = omega (arith, other, t.1) in
          let b = bind_ok (certificate_at bytes 54) (λ cert. Ok (Some cert, 78)) x h.1 in
          let cert = cert_ok bytes 54 b.0 fits b.1 in
          let some : Option LastCert × ℕ = (Some b.0, 78) in
          subst (λ (y : Option LastCert × ℕ). StandsAt (certificate_bytes y.0) bytes 53 y.1 × IsCertificateOrNone y.0) {x = some} (ok_is some x b.2)
          (stands_then (1 ∷ []) (cert_bytes b.0) bytes 53 54 78 (subst (λ (k : ℕ). StandsAt (k ∷ []) bytes 53 54) one t.0) cert.0, cert.1)
    ]

pub marked_again : (bytes : List ℕ) (end : ℕ) (certificate : Option LastCert) → IsCertificateOrNone certificate → StandsAt (certificate_bytes certificate) bytes 53 end → marked_at bytes ≡ Ok (certificate, end)
unfolding marked_at cert_bytes
marked_again bytes end None fits p =
    let ends : 54 ≡ end = omega (arith, p.ends) in
    rw (byte_back 0 1 bytes 53 end 0 (omega arith, omega arith) p, ends) refl
marked_again bytes end (Some cert) fits p =
    let parts = split (1 ∷ []) (cert_bytes cert) bytes 53 54 end refl p in
    let ends : 78 ≡ end = omega (arith, parts.1.ends) in
    rw (byte_back 0 1 bytes 53 54 1 (omega arith, omega arith) parts.0, cert_again bytes 54 end cert fits parts.1, ends) refl

-- ---- erases

erase_ok : (bytes : List ℕ) → IsBytes bytes → (last at : ℕ) (x : Pending × ℕ) → erase_at last bytes at ≡ Ok x → StandsAt (erase_bytes x.0) bytes at x.1 × IsErase x.0 × (last < x.0.seq)
unfolding erase_at
erase_ok bytes fits last at x e =
    let a = bind_ok (number_above last 1 max_place bytes at) _ x e in
    let b = bind_ok (number_within w64 0 max_time bytes (at + 8)) _ x a.2 in
    let c = bind_ok (number_within w64 0 (2 ^ 64 - 1) bytes (at + 16)) _ x b.2 in
    let d = bind_ok (number_above c.0 0 (2 ^ 64 - 1) bytes (at + 24)) _ x c.2 in
    let seq = above_ok last 1 max_place bytes at (at + 8) a.0 refl fits a.1 in
    let time = long_ok 0 max_time bytes (at + 8) (at + 16) b.0 (omega arith) fits b.1 in
    let lo = long_ok 0 (2 ^ 64 - 1) bytes (at + 16) (at + 24) c.0 (omega arith) fits c.1 in
    let hi = above_ok c.0 0 (2 ^ 64 - 1) bytes (at + 24) (at + 32) d.0 (omega arith) fits d.1 in
    let erase : Pending = record { seq = a.0; time = b.0; range = record { lo = c.0; hi = d.0 } } in
    let stands = erase_stands erase bytes at (record { seq = seq.0; time = time.0; lo = lo.0; hi = hi.0 }) in
    subst (λ (y : Pending × ℕ). StandsAt (erase_bytes y.0) bytes at y.1 × IsErase y.0 × (last < y.0.seq)) {x = (erase, at + 32)} (ok_is (erase, at + 32) x d.2)
    (stands, record { place = (omega (arith, seq.1), seq.1.1); time = time.1.1; some = hi.2; hi = omega (arith, hi.1) }, seq.2)

erase_again : (bytes : List ℕ) (last at end : ℕ) (erase : Pending) → IsErase erase → last < erase.seq → StandsAt (erase_bytes erase) bytes at end → erase_at last bytes at ≡ Ok (erase, end)
unfolding erase_at
erase_again bytes last at end erase fits above p =
    let range = erase.range in
    let parts = erase_parts erase bytes at end p in
    let fields = parts.0 in
    rw (
      above_again last 1 max_place bytes at (at + 8) erase.seq (omega arith) (omega (arith, fits.place), fits.place.1) above fields.seq,
      long_again 0 max_time bytes (at + 8) (at + 16) erase.time (omega arith) (omega arith, fits.time) fields.time,
      long_again 0 (2 ^ 64 - 1) bytes (at + 16) (at + 24) range.lo (omega arith) (omega arith, omega (arith, fits.some, fits.hi)) fields.lo,
      above_again range.lo 0 (2 ^ 64 - 1) bytes (at + 24) (at + 32) range.hi (omega arith) (omega arith, omega (arith, fits.hi)) fits.some fields.hi,
      parts.1,
    ) refl

pub erases_ok : (bytes : List ℕ) (at : ℕ) (x : List Pending × ℕ) → IsBytes bytes → erases_at bytes at ≡ Ok x → StandsAt (erases_bytes x.0) bytes at x.1 × AreErases x.0
unfolding erases_at
erases_ok bytes at x fits e =
    let a = bind_ok (number_within w32 0 (2 ^ 32 - 1) bytes at) _ x e in
    let t = wide_ok w32 (2 ^ 32) wide32 0 (2 ^ 32 - 1) bytes at a.0 fits a.1 in
    let all = all_ok IsErase (λ (erase : Pending). erase.seq) (λ a b. a < b) erase_bytes erase_at bytes (λ a b c p q. omega (arith, p, q)) (erase_ok bytes fits) a.0 0 (at + 4) x t.0.within a.2 in
    let count = subst (λ (n : ℕ). StandsAt (to_be_bytes w32 n) bytes at (at + 4)) (sym all.len) t.0 in
    (stands_then _ _ bytes at (at + 4) x.1 count all.stand, record { few = omega (arith, all.len, t.1); each = all.items.each; ascending = all.items.ordered })

pub erases_again : (bytes : List ℕ) (at end : ℕ) (erases : List Pending) → AreErases erases → StandsAt (erases_bytes erases) bytes at end → erases_at bytes at ≡ Ok (erases, end)
unfolding erases_at
erases_again bytes at end erases fits p =
    let parts = split (to_be_bytes w32 (length erases)) (flat_map erase_bytes erases) bytes at (at + 4) end refl p in
    rw (
      wide_again w32 (2 ^ 32) wide32 0 (2 ^ 32 - 1) bytes at (at + 4) (length erases) fits.few (omega arith, omega (arith, fits.few)) parts.0,
      all_again IsErase (λ (erase : Pending). erase.seq) (λ a b. a < b) erase_bytes erase_at bytes (erase_again bytes) erases 0 (at + 4) end (record { each = fits.each; behind = λ k d lt. (fits.each k d lt).place.0; ordered = fits.ascending }) parts.1,
    ) refl

-- ---- segments

abbrev Anywhere : ℕ → ℕ → Type 0
Anywhere a b = Unit {0}

one_ok : (next : ℕ) (bytes : List ℕ) → IsBytes bytes → (last at : ℕ) (x : ℕ × ℕ) → segment_at next last bytes at ≡ Ok x → StandsAt (to_be_bytes w64 x.0) bytes at x.1 × (x.0 < next) × Anywhere last 0
unfolding segment_at
one_ok next bytes fits last at x e =
    let a = bind_ok (cited_at next bytes at) _ x e in
    let t = cited_ok next bytes at (at + 8) a.0 refl fits a.1 in
    let read : ℕ × ℕ = (a.0, at + 8) in
    subst (λ (y : ℕ × ℕ). StandsAt (to_be_bytes w64 y.0) bytes at y.1 × (y.0 < next) × Anywhere last 0) {x = read} (ok_is read x a.2) (t.0, t.1, tt)

one_again : (next : ℕ) (bytes : List ℕ) → next ≤ max_place → (last at end segment : ℕ) → segment < next → Anywhere last 0 → StandsAt (to_be_bytes w64 segment) bytes at end → segment_at next last bytes at ≡ Ok (segment, end)
unfolding segment_at
one_again next bytes fits last at end segment below any p =
    let ends : at + 8 ≡ end = omega (arith, p.ends) in
    rw (cited_again next bytes at end segment fits below p, ends) refl

pub segments_ok : (next : ℕ) (bytes : List ℕ) (at : ℕ) (x : List ℕ × ℕ) → IsBytes bytes → segments_at next bytes at ≡ Ok x → StandsAt (segments_bytes x.0) bytes at x.1 × AreSegments next x.0
unfolding segments_at
segments_ok next bytes at x fits e =
    let a = bind_ok (number_within w8 1 2 bytes at) _ x e in
    let t = byte_ok 1 2 bytes at a.0 fits a.1 in
    let all = all_ok (λ n. n < next) (λ (segment : ℕ). 0) Anywhere (to_be_bytes w64) (segment_at next) bytes (λ a b c p q. tt) (one_ok next bytes fits) a.0 0 (at + 1) x t.0.within a.2 in
    let count = subst (λ (n : ℕ). StandsAt (n ∷ []) bytes at (at + 1)) (sym all.len) t.0 in
    (stands_then _ _ bytes at (at + 1) x.1 count all.stand, record { some = omega (arith, all.len, t.1); few = omega (arith, all.len, t.1); below = all.items.each })

pub segments_again : (next : ℕ) (bytes : List ℕ) (at end : ℕ) (segments : List ℕ) → next ≤ max_place → AreSegments next segments → StandsAt (segments_bytes segments) bytes at end → segments_at next bytes at ≡ Ok (segments, end)
unfolding segments_at
segments_again next bytes at end segments small fits p =
    let parts = split (length segments ∷ []) (flat_map (to_be_bytes w64) segments) bytes at (at + 1) end refl p in
    rw (
      byte_back 1 2 bytes at (at + 1) (length segments) (fits.some, fits.few) parts.0,
      all_again (λ n. n < next) (λ (segment : ℕ). 0) Anywhere (to_be_bytes w64) (segment_at next) bytes (one_again next bytes small) segments 0 (at + 1) end (record { each = fits.below; behind = λ k d lt. tt; ordered = λ i j d lt inside. tt }) parts.1,
    ) refl

-- ---- files

level_ok : (levels last : ℕ) (bytes : List ℕ) (at n : ℕ) → IsBytes bytes → level_at levels last bytes at ≡ Ok n → StandsAt (n ∷ []) bytes at (at + 1) × (n ≤ levels) × (last ≤ n)
unfolding level_at
level_ok levels last bytes at n fits e =
    let b = tested_ok (number_within w8 0 levels bytes at) (λ n. leb last n) (Order at) n e in
    let t = byte_ok 0 levels bytes at n fits b.0 in
    (t.0, t.1.1, leb-true last n b.1)

digest_ok : (bytes : List ℕ) (at : ℕ) (x : List ℕ × ℕ) → digest_at bytes at ≡ Ok x → StandsAt x.0 bytes at x.1 × (length x.0 ≡ 32)
unfolding digest_at
digest_ok bytes at x e =
    let digest = take 32 (drop at bytes) in
    let read : List ℕ × ℕ = (digest, at + 32) in
    let g = met_test (leb (at + 32) (length bytes)) read (Short at) x e in
    let within : at + 32 ≤ length bytes = leb-true _ _ g.0 in
    let len : length digest ≡ 32 = omega (arith, length-take 32 (drop at bytes), length-drop at bytes, within) in
    subst (λ (y : List ℕ × ℕ). StandsAt y.0 bytes at y.1 × (length y.0 ≡ 32)) {x = read} g.1 (
      record {
        parts = sym (take-append-drop 32 (drop at bytes)) ∙ ap (λ (l : List ℕ). digest ++ l) (drop-drop 32 at bytes);
        ends = ap (λ (k : ℕ). at + k) (sym len);
        within = within;
      },
      len,
    )

digest_again : (bytes : List ℕ) (at end : ℕ) (digest : List ℕ) → length digest ≡ 32 → StandsAt digest bytes at end → digest_at bytes at ≡ Ok (digest, end)
unfolding digest_at
digest_again bytes at end digest len p =
    let ends : at + 32 ≡ end = omega (arith, p.ends, len) in
    let within : leb (at + 32) (length bytes) ≡ true = le-leb _ _ (omega (arith, ends, p.within)) in
    let is : take 32 (drop at bytes) ≡ digest = ap (λ (l : List ℕ). take 32 l) p.parts ∙ take_at digest (drop end bytes) 32 len in
    rw (within, is, ends) refl

file_ok : (next levels : ℕ) (bytes : List ℕ) → IsBytes bytes → (last at : ℕ) (x : Cited × ℕ) → file_at next levels last bytes at ≡ Ok x → StandsAt (file_bytes x.0) bytes at x.1 × IsFile next levels x.0 × (last ≤ x.0.level)
unfolding file_at file_bytes
file_ok next levels bytes fits last at x e =
    let a = bind_ok (level_at levels last bytes at) _ x e in
    let b = bind_ok (cited_at next bytes (at + 1)) _ x a.2 in
    let c = bind_ok (number_within w64 0 max_place bytes (at + 9)) _ x b.2 in
    let d = bind_ok (digest_at bytes (at + 17)) _ x c.2 in
    let t0 = level_ok levels last bytes at a.0 fits a.1 in
    let t1 = cited_ok next bytes (at + 1) (at + 9) b.0 (omega arith) fits b.1 in
    let t2 = long_ok 0 max_place bytes (at + 9) (at + 17) c.0 (omega arith) fits c.1 in
    let t3 = digest_ok bytes (at + 17) d.0 d.1 in
    let s2 = stands_then _ _ bytes (at + 9) (at + 17) d.0.1 t2.0 t3.0 in
    let s1 = stands_then _ _ bytes (at + 1) (at + 9) d.0.1 t1.0 s2 in
    let s0 = stands_then (a.0 ∷ []) _ bytes at (at + 1) d.0.1 t0.0 s1 in
    let read : Cited × ℕ = (record { level = a.0; no = b.0; swept = c.0; digest = d.0.0 }, d.0.1) in
    subst (λ (y : Cited × ℕ). StandsAt (file_bytes y.0) bytes at y.1 × IsFile next levels y.0 × (last ≤ y.0.level)) {x = read} (ok_is read x d.2)
    (s0, record { level = t0.1; no = t1.1; swept = t2.1.1; digest = t3.1 }, t0.2)

file_again : (next levels : ℕ) (bytes : List ℕ) → next ≤ max_place → (last at end : ℕ) (file : Cited) → IsFile next levels file → last ≤ file.level → StandsAt (file_bytes file) bytes at end → file_at next levels last bytes at ≡ Ok (file, end)
unfolding file_at file_bytes level_at
file_again next levels bytes small last at end file fits above p =
    let p0 = split (file.level ∷ []) (to_be_bytes w64 file.no ++ (to_be_bytes w64 file.swept ++ file.digest)) bytes at (at + 1) end refl p in
    let p1 = split (to_be_bytes w64 file.no) (to_be_bytes w64 file.swept ++ file.digest) bytes (at + 1) (at + 9) end (omega arith) p0.1 in
    let p2 = split (to_be_bytes w64 file.swept) file.digest bytes (at + 9) (at + 17) end (omega arith) p1.1 in
    rw (
      byte_back 0 levels bytes at (at + 1) file.level (omega arith, fits.level) p0.0,
      le-leb last file.level above,
      cited_again next bytes (at + 1) (at + 9) file.no small fits.no p1.0,
      long_again 0 max_place bytes (at + 9) (at + 17) file.swept (omega arith) (omega arith, fits.swept) p2.0,
      digest_again bytes (at + 17) end file.digest fits.digest p2.1,
    ) refl

pub files_ok : (next levels : ℕ) (bytes : List ℕ) (at : ℕ) (x : List Cited × ℕ) → IsBytes bytes → files_at next levels bytes at ≡ Ok x → StandsAt (files_bytes x.0) bytes at x.1 × AreFiles next levels x.0
unfolding files_at
files_ok next levels bytes at x fits e =
    let a = bind_ok (number_within w32 0 (2 ^ 32 - 1) bytes at) _ x e in
    let t = wide_ok w32 (2 ^ 32) wide32 0 (2 ^ 32 - 1) bytes at a.0 fits a.1 in
    let all = all_ok (IsFile next levels) (λ (file : Cited). file.level) (λ a b. a ≤ b) file_bytes (file_at next levels) bytes (λ a b c p q. omega (arith, p, q)) (file_ok next levels bytes fits) a.0 0 (at + 4) x t.0.within a.2 in
    let count = subst (λ (n : ℕ). StandsAt (to_be_bytes w32 n) bytes at (at + 4)) (sym all.len) t.0 in
    (stands_then _ _ bytes at (at + 4) x.1 count all.stand, record { few = omega (arith, all.len, t.1); each = all.items.each; ascending = all.items.ordered })

pub files_again : (next levels : ℕ) (bytes : List ℕ) (at end : ℕ) (files : List Cited) → next ≤ max_place → AreFiles next levels files → StandsAt (files_bytes files) bytes at end → files_at next levels bytes at ≡ Ok (files, end)
unfolding files_at
files_again next levels bytes at end files small fits p =
    let parts = split (to_be_bytes w32 (length files)) (flat_map file_bytes files) bytes at (at + 4) end refl p in
    rw (
      wide_again w32 (2 ^ 32) wide32 0 (2 ^ 32 - 1) bytes at (at + 4) (length files) fits.few (omega arith, omega (arith, fits.few)) parts.0,
      all_again (IsFile next levels) (λ (file : Cited). file.level) (λ a b. a ≤ b) file_bytes (file_at next levels) bytes (file_again next levels bytes small) files 0 (at + 4) end (record { each = fits.each; behind = λ k d lt. omega arith; ordered = fits.ascending }) parts.1,
    ) refl
