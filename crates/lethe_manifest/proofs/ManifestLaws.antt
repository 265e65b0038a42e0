-- What is read of a manifest is spelled so, and what is spelled so is read.
use Rattle.std.proofs.Common.{◌≡◌, ℕ, ◌<◌, ◌≤◌, ltb, List, ◌++◌, length, Result, Ok, Err, refl, sym, ap, subst, ◌∙◌, arith}
use Rattle.std.specs.Prelude.{IfOk, MatchResult}
use Rattle.std.specs.Int.{w64, to_be_bytes}
use Rattle.std.proofs.lemmas.Bool.{ltb-false, le-ltb}
use Rattle.std.proofs.lemmas.List.{append-nil}
use Rattle.std.proofs.Math.ListN.{drop_of_length-le}
use Rattle.lethe_base.specs.Limits.{max_place, max_time}
use Rattle.lethe_base.specs.Numbers.{IsBytes}
use Rattle.lethe_base.specs.Reading.{StandsAt}
use Rattle.lethe_base.specs.declared.config.Fields.{Fields}
use Rattle.lethe_base.proofs.FieldLaws.{stands_then, split}
use Rattle.lethe_base.proofs.ReadingSteps.{bind_ok, past_test, ok_is}
use Rattle.lethe_manifest.specs.Manifests.{head_bytes, times_bytes, sizes_bytes, config_bytes, counts_bytes, certificate_bytes, erases_bytes, segments_bytes, files_bytes, parts_bytes, manifest_bytes, IsCertificateOrNone, AreErases, AreSegments, AreFiles, HasSpelling}
use Rattle.lethe_manifest.specs.Numbers.{Gives, number_within, number_above}
use Rattle.lethe_manifest.specs.Parts.{marked_at, erases_at, segments_at, files_at, parts_at}
use Rattle.lethe_manifest.specs.Reading.{head_at, config_at, counts_at, made, manifest_at}
use Rattle.lethe_manifest.specs.declared.manifest.Manifest.{Manifest}
use Rattle.lethe_manifest.specs.declared.parts.Parts.{Parts}
use Rattle.lethe_manifest.specs.declared.reading.Counts.{Counts}
use Rattle.lethe_manifest.specs.declared.refused.ManifestRefused.{ManifestRefused}
use Rattle.lethe_manifest.specs.declared.refused.ManifestRefused.TheVariants.{Short, Kind, Order, Trailing, NoMemory}
use Rattle.lethe_manifest.proofs.Numbers.{long_ok, long_again, above_ok, above_again}
use Rattle.lethe_manifest.proofs.ConfigLaws.{head_ok, head_again, config_ok, config_again}
use Rattle.lethe_manifest.proofs.PartLaws.{marked_ok, marked_again, erases_ok, erases_again, segments_ok, segments_again, files_ok, files_again}

-- ---- counts

abbrev spelled_counts : Counts → List ℕ
spelled_counts x = to_be_bytes w64 x.clock ++ (to_be_bytes w64 x.count ++ to_be_bytes w64 x.next)

record Counted (own : ℕ) (bytes : List ℕ) (x : Counts) : Type 0 where
  stands : StandsAt (spelled_counts x) bytes 29 53
  clock : x.clock ≤ max_time
  count : x.count ≤ max_place
  next : x.next ≤ max_place
  above : own < x.next

counts_ok : (own : ℕ) (bytes : List ℕ) (x : Counts) → IsBytes bytes → counts_at own bytes ≡ Ok x → Counted own bytes x
unfolding counts_at
counts_ok own bytes x fits e =
    let a = bind_ok (number_within w64 0 max_time bytes 29) _ x e in
    let b = bind_ok (number_within w64 0 max_place bytes 37) _ x a.2 in
    let c = bind_ok (number_above own 0 max_place bytes 45) _ x b.2 in
    let t0 = long_ok 0 max_time bytes 29 37 a.0 refl fits a.1 in
    let t1 = long_ok 0 max_place bytes 37 45 b.0 refl fits b.1 in
    let t2 = above_ok own 0 max_place bytes 45 53 c.0 refl fits c.1 in
    let s1 = stands_then _ _ bytes 37 45 53 t1.0 t2.0 in
    let read : Counts = record { clock = a.0; count = b.0; next = c.0 } in
    let counted : Counted own bytes read = record { stands = stands_then _ _ bytes 29 37 53 t0.0 s1; clock = t0.1.1; count = t1.1.1; next = t2.1.1; above = t2.2 } in
    subst (Counted own bytes) {x = read} (ok_is read x c.2) counted

counts_again : (own : ℕ) (bytes : List ℕ) (end : ℕ) (x : Counts) → x.clock ≤ max_time → x.count ≤ max_place → x.next ≤ max_place → own < x.next → StandsAt (spelled_counts x) bytes 29 end → counts_at own bytes ≡ Ok x
unfolding counts_at
counts_again own bytes end x timed counted numbered above p =
    let p0 = split (to_be_bytes w64 x.clock) (to_be_bytes w64 x.count ++ to_be_bytes w64 x.next) bytes 29 37 end refl p in
    let p1 = split (to_be_bytes w64 x.count) (to_be_bytes w64 x.next) bytes 37 45 end refl p0.1 in
    rw (
      long_again 0 max_time bytes 29 37 x.clock (omega arith) (omega arith, timed) p0.0,
      long_again 0 max_place bytes 37 45 x.count (omega arith) (omega arith, counted) p1.0,
      above_again own 0 max_place bytes 45 end x.next (omega arith) (omega arith, numbered) above p1.1,
    ) refl

-- ---- what the store consists of

abbrev spelled_parts : Parts → List ℕ
spelled_parts x = certificate_bytes x.certificate ++ (erases_bytes x.erases ++ (segments_bytes x.segments ++ files_bytes x.files))

record AreParts (next levels : ℕ) (x : Parts) : Type 0 where
  certificate : IsCertificateOrNone x.certificate
  erases : AreErases x.erases
  segments : AreSegments next x.segments
  files : AreFiles next levels x.files

parts_ok : (next levels : ℕ) (bytes : List ℕ) (x : Parts × ℕ) → IsBytes bytes → parts_at next levels bytes ≡ Ok x → StandsAt (spelled_parts x.0) bytes 53 x.1 × AreParts next levels x.0
unfolding parts_at
parts_ok next levels bytes x fits e =
    let a = bind_ok (marked_at bytes) _ x e in
    let b = bind_ok (erases_at bytes a.0.1) _ x a.2 in
    let c = bind_ok (segments_at next bytes b.0.1) _ x b.2 in
    let d = bind_ok (files_at next levels bytes c.0.1) _ x c.2 in
    let t0 = marked_ok bytes a.0 fits a.1 in
    let t1 = erases_ok bytes a.0.1 b.0 fits b.1 in
    let t2 = segments_ok next bytes b.0.1 c.0 fits c.1 in
    let t3 = files_ok next levels bytes c.0.1 d.0 fits d.1 in
    let s2 = stands_then (segments_bytes c.0.0) (files_bytes d.0.0) bytes b.0.1 c.0.1 d.0.1 t2.0 t3.0 in
    let s1 = stands_then (erases_bytes b.0.0) (segments_bytes c.0.0 ++ files_bytes d.0.0) bytes a.0.1 b.0.1 d.0.1 t1.0 s2 in
    let s0 = stands_then (certificate_bytes a.0.0) (erases_bytes b.0.0 ++ (segments_bytes c.0.0 ++ files_bytes d.0.0)) bytes 53 a.0.1 d.0.1 t0.0 s1 in
    let read : Parts × ℕ = (record { certificate = a.0.0; erases = b.0.0; segments = c.0.0; files = d.0.0 }, d.0.1) in
    subst (λ (y : Parts × ℕ). StandsAt (spelled_parts y.0) bytes 53 y.1 × AreParts next levels y.0) {x = read} (ok_is read x d.2)
    (s0, record { certificate = t0.1; erases = t1.1; segments = t2.1; files = t3.1 })

parts_again : (next levels : ℕ) (bytes : List ℕ) (end : ℕ) (x : Parts) → next ≤ max_place → AreParts next levels x → StandsAt (spelled_parts x) bytes 53 end → parts_at next levels bytes ≡ Ok (x, end)
unfolding parts_at
parts_again next levels bytes end x small fits p =
    let p0 = split (certificate_bytes x.certificate) (erases_bytes x.erases ++ (segments_bytes x.segments ++ files_bytes x.files)) bytes 53 _ end refl p in
    let p1 = split (erases_bytes x.erases) (segments_bytes x.segments ++ files_bytes x.files) bytes _ _ end refl p0.1 in
    let p2 = split (segments_bytes x.segments) (files_bytes x.files) bytes _ _ end refl p1.1 in
    rw (
      marked_again bytes _ x.certificate fits.certificate p0.0,
      erases_again bytes _ _ x.erases fits.erases p1.0,
      segments_again next bytes _ _ x.segments small fits.segments p2.0,
      files_again next levels bytes _ end x.files small fits.files p2.1,
    ) refl

-- ---- manifests

abbrev spelled : ℕ → Fields → Counts → Parts → List ℕ
spelled own config counts parts = head_bytes own ++ (config_bytes config ++ (spelled_counts counts ++ spelled_parts parts))

made_is : (own : ℕ) (config : Fields) (counts : Counts) (parts : Parts) → manifest_bytes (made own config counts parts) ≡ spelled own config counts parts
unfolding manifest_bytes counts_bytes parts_bytes
made_is own config counts parts = refl

-- what stands in all of the bytes is the bytes
all_stands : (x bytes : List ℕ) (end : ℕ) → StandsAt x bytes 0 end → length bytes ≤ end → bytes ≡ x
all_stands x bytes end p few = p.parts ∙ ap (λ (l : List ℕ). x ++ l) (drop_of_length-le bytes few) ∙ append-nil x

manifest_ok : (bytes : List ℕ) (m : Manifest) → IsBytes bytes → manifest_at bytes ≡ Ok m → HasSpelling m × (bytes ≡ manifest_bytes m)
unfolding manifest_at
manifest_ok bytes m fits e =
    let a = bind_ok (head_at bytes) _ m e in
    let b = bind_ok (config_at bytes) _ m a.2 in
    let c = bind_ok (counts_at a.0 bytes) _ m b.2 in
    let d = bind_ok (parts_at c.0.next b.0.levels bytes) _ m c.2 in
    let read : Manifest = made a.0 b.0 c.0 d.0.0 in
    let g = past_test (ltb d.0.1 (length bytes)) (Trailing d.0.1) (Ok read) m d.2 in
    let t0 = head_ok bytes a.0 fits a.1 in
    let t1 = config_ok bytes b.0 fits b.1 in
    let t2 = counts_ok a.0 bytes c.0 fits c.1 in
    let t3 = parts_ok c.0.next b.0.levels bytes d.0 fits d.1 in
    let s2 = stands_then _ _ bytes 29 53 d.0.1 t2.stands t3.0 in
    let s1 = stands_then (config_bytes b.0) _ bytes 11 29 d.0.1 t1.0 s2 in
    let s0 = stands_then (head_bytes a.0) _ bytes 0 11 d.0.1 t0.0 s1 in
    let whole : bytes ≡ spelled a.0 b.0 c.0 d.0.0 = all_stands _ bytes d.0.1 s0 (ltb-false d.0.1 (length bytes) g.0) in
    let has : HasSpelling read = record { no = t2.above; config = t1.1; clock = t2.clock; count = t2.count; next = t2.next; certificate = t3.1.certificate; erases = t3.1.erases; segments = t3.1.segments; files = t3.1.files } in
    subst (λ (x : Manifest). HasSpelling x × (bytes ≡ manifest_bytes x)) {x = read} (ok_is read m g.1) (has, whole ∙ sym (made_is a.0 b.0 c.0 d.0.0))

abbrev counts_of : Manifest → Counts
counts_of m = record { clock = m.clock; count = m.count; next = m.next }

abbrev parts_of : Manifest → Parts
parts_of m = record { certificate = m.certificate; erases = m.erases; segments = m.segments; files = m.files }

made_again : (bytes : List ℕ) (end : ℕ) (m : Manifest) → HasSpelling m → StandsAt (spelled m.no m.config (counts_of m) (parts_of m)) bytes 0 end → length bytes ≤ end → manifest_at bytes ≡ Ok m
unfolding manifest_at head_bytes times_bytes sizes_bytes
made_again bytes end m fits p all =
    let p0 = split (head_bytes m.no) (config_bytes m.config ++ (spelled_counts (counts_of m) ++ spelled_parts (parts_of m))) bytes 0 11 end refl p in
    let p1 = split (config_bytes m.config) (spelled_counts (counts_of m) ++ spelled_parts (parts_of m)) bytes 11 29 end refl p0.1 in
    let p2 = split (spelled_counts (counts_of m)) (spelled_parts (parts_of m)) bytes 29 53 end refl p1.1 in
    rw (
      head_again bytes 11 m.no (omega (arith, fits.no, fits.next)) p0.0,
      config_again bytes 29 m.config fits.config p1.0,
      counts_again m.no bytes 53 (counts_of m) fits.clock fits.count fits.next fits.no p2.0,
      parts_again m.next m.config.levels bytes end (parts_of m) fits.next (record { certificate = fits.certificate; erases = fits.erases; segments = fits.segments; files = fits.files }) p2.1,
      le-ltb end (length bytes) all,
    ) refl

stands_alone : (x : List ℕ) → StandsAt x x 0 (length x)
stands_alone x =
    let all : length x ≤ length x = omega arith in
    record { parts = sym (ap (λ (l : List ℕ). x ++ l) (drop_of_length-le x all) ∙ append-nil x); ends = omega arith; within = all }

manifest_again : (m : Manifest) → HasSpelling m → manifest_at (manifest_bytes m) ≡ Ok m
manifest_again m fits =
    let bytes : List ℕ = spelled m.no m.config (counts_of m) (parts_of m) in
    ap manifest_at (made_is m.no m.config (counts_of m) (parts_of m)) ∙ made_again bytes (length bytes) m fits (stands_alone bytes) (omega arith)

pub same_manifest : (a b : Manifest) → HasSpelling a → HasSpelling b → manifest_bytes a ≡ manifest_bytes b → a ≡ b
same_manifest a b a_fits b_fits e = ok_is a b (sym (manifest_again a a_fits) ∙ ap manifest_at e ∙ manifest_again b b_fits)

-- ---- what a reader gives

abbrev ok_of : Manifest → Result Manifest ManifestRefused
ok_of m = Ok m

abbrev failed : ManifestRefused → Result Manifest ManifestRefused
failed why = Err why

differ : (why : ManifestRefused) (m : Manifest) → failed why ≡ ok_of m → ⊥
differ why m e = cc

pub found_manifest : (result : Result Manifest ManifestRefused) (bytes : List ℕ) → IsBytes bytes → Gives result (manifest_at bytes) → IfOk result (λ m. HasSpelling m × (bytes ≡ manifest_bytes m))
found_manifest (Ok m) bytes fits gives = manifest_ok bytes m fits gives
found_manifest (Err why) bytes fits gives = tt

pub only_manifest : (result : Result Manifest ManifestRefused) (bytes : List ℕ) → Gives result (manifest_at bytes) → (m : Manifest) → HasSpelling m → bytes ≡ manifest_bytes m → MatchResult result (λ read. read ≡ m) (λ why. why ≡ NoMemory)
only_manifest result bytes gives m fits e = told result gives
  where
    read : manifest_at bytes ≡ Ok m
    read = ap manifest_at e ∙ manifest_again m fits

    told : (result : Result Manifest ManifestRefused) → Gives result (manifest_at bytes) → MatchResult result (λ read. read ≡ m) (λ why. why ≡ NoMemory)
    told (Ok x) gives = ok_is x m (sym gives ∙ read)
    told (Err (Short at)) gives = absurd (differ (Short at) m (sym gives ∙ read))
    told (Err (Kind at)) gives = absurd (differ (Kind at) m (sym gives ∙ read))
    told (Err (Order at)) gives = absurd (differ (Order at) m (sym gives ∙ read))
    told (Err (Trailing at)) gives = absurd (differ (Trailing at) m (sym gives ∙ read))
    told (Err NoMemory) gives = refl
