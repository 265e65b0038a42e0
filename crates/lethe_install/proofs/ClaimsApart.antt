-- Claims that don't meet have no level in common, or no key.
use Rattle.std.proofs.Common.{◌≡◌, ◌≢◌, ℕ, ◌≤◌, Bool, true, false, List, [], ◌∷◌, ◌++◌, leb, map, sym, ◌∙◌, subst, arith}
use Rattle.std.specs.Prelude.{◌&&◌, Contains}
use Rattle.std.specs.Ordering.{is_le}
use Rattle.std.proofs.lemmas.Bool.{and_from, and_parts, le-leb}
use Rattle.lethe_base.specs.Keys.{key_cmp}
use Rattle.lethe_cover.proofs.Common.{first_is}
use Rattle.lethe_cover.proofs.Lists.{in_map}
use Rattle.lethe_fade.specs.Claims.{HasLevel, keys_of, meets}
use Rattle.lethe_fade.specs.Spans.{KeyRange, joined, overlaps}
use Rattle.lethe_fade.specs.declared.claim.Claim.{Claim}
use Rattle.lethe_fade.proofs.MeetingLaws.{key_itself, key_upto}
use Rattle.lethe_follows.specs.Merged.{hull_of, range_of}
use Rattle.lethe_follows.proofs.Tiled.{file_tiled}
use Rattle.lethe_moves.proofs.Apart.{files_spanned}
use Rattle.lethe_moves.proofs.KeyOrder.{IsUpto, Spans, joined_spans, spans_through}
use Rattle.lethe_moves.proofs.Tiled.{keys_ordered}
use Rattle.lethe_stored.specs.Files.{StoredFile, IsFile, file_of}
use Rattle.lethe_job.specs.Chosen.{hull_in, hull_with, range_in}
use Rattle.lethe_job.proofs.Hulls.{hull_append}
use Rattle.lethe_job.proofs.Planned.{hull_same}

pub refuted : (b : Bool) → (b ≡ true → ⊥) → b ≡ false
refuted true none = absurd (none (λ i. true))
refuted false none = λ i. false

true_false : (b : Bool) → b ≡ true → b ≡ false → ⊥
true_false b holds fails = let clash : true ≡ false = sym holds ∙ fails in cc

second_fails : (a b : Bool) → a ≡ true → (a && b) ≡ false → b ≡ false
second_fails true b passes none = none
second_fails false b passes none = absurd (true_false false passes (λ i. false))

-- they have a level in common, so they have no key in common
pub keys_apart : (a b : Claim) (level : ℕ) → HasLevel a level → HasLevel b level → meets a b ≡ false → overlaps (keys_of a) (keys_of b) ≡ false
keys_apart a b level one two none =
    let first : a.first ≤ b.last = omega (arith, one.0, two.1) in
    let second : b.first ≤ a.last = omega (arith, two.0, one.1) in
    second_fails (leb a.first b.last && leb b.first a.last) (overlaps (keys_of a) (keys_of b))
    (and_from (leb a.first b.last) (leb b.first a.last) (le-leb a.first b.last first) (le-leb b.first a.last second)) none

pub spans_itself : (keys : KeyRange) → Spans keys keys
spans_itself keys = (key_itself keys.lo, key_itself keys.hi)

-- within ranges without a common key there is none, either way round
pub inner_apart : (a b x y : KeyRange) → overlaps a b ≡ false → Spans a x → Spans b y → overlaps y x ≡ false
inner_apart a b x y none within other = refuted (overlaps y x) (λ meet.
    let parts = and_parts (is_le (key_cmp y.lo x.hi)) (is_le (key_cmp x.lo y.hi)) meet in
    let low : IsUpto a.lo b.hi = key_upto a.lo x.lo b.hi within.0 (key_upto x.lo y.hi b.hi parts.1 other.1) in
    let high : IsUpto b.lo a.hi = key_upto b.lo y.lo a.hi other.0 (key_upto y.lo x.hi a.hi parts.0 within.1) in
    true_false (overlaps a b) (and_from (is_le (key_cmp a.lo b.hi)) (is_le (key_cmp b.lo a.hi)) low high) none)

-- what is clear of a range is so within it
pub clear_within : (keys outer inner : KeyRange) → overlaps keys outer ≡ false → Spans outer inner → overlaps keys inner ≡ false
clear_within keys outer inner clear within = refuted (overlaps keys inner) (λ meet.
    let parts = and_parts (is_le (key_cmp keys.lo inner.hi)) (is_le (key_cmp inner.lo keys.hi)) meet in
    true_false (overlaps keys outer) (and_from (is_le (key_cmp keys.lo outer.hi)) (is_le (key_cmp outer.lo keys.hi))
    (key_upto keys.lo inner.hi outer.hi parts.0 within.1) (key_upto outer.lo inner.lo keys.hi within.0 parts.1)) clear)

-- Hulls

hull_more : (keys : KeyRange) (files : List StoredFile) → Spans (hull_with keys files) keys
hull_more keys [] = spans_itself keys
hull_more keys (file ∷ files) =
    let wider = joined keys (range_in file) in
    spans_through (hull_with wider files) wider keys (hull_more wider files) (joined_spans keys (range_in file)).0

-- of some files and others, the hull of the first lies within
pub hull_spans_first : (files others : List StoredFile) → files ≢ [] → Spans (hull_in (files ++ others)) (hull_of files)
hull_spans_first files others some =
    subst (λ hull. Spans hull (hull_of files)) (sym (hull_append files others some))
    (subst (Spans (hull_with (hull_in files) others)) (hull_same files) (hull_more (hull_in files) others))

pub hull_spans : (files : List StoredFile) (file : StoredFile) → Contains files file → Spans (hull_in files) (range_of file)
hull_spans files file there = subst (λ hull. Spans hull (range_of file)) (sym (hull_same files)) (files_spanned (map file_of files) (file_of file) (in_map file_of files file there))

-- its ends are in order
pub file_proper : (next : ℕ) (file : StoredFile) → IsFile next file → IsUpto (range_of file).lo (range_of file).hi
file_proper next file is = keys_ordered (file_of file) (file_tiled next file is)

pub hull_proper : (next : ℕ) (files : List StoredFile) (file : StoredFile) → Contains files file → IsFile next file → IsUpto (hull_in files).lo (hull_in files).hi
hull_proper next files file there is =
    let within = hull_spans files file there in
    key_upto (hull_in files).lo (range_of file).lo (hull_in files).hi within.0 (key_upto (range_of file).lo (range_of file).hi (hull_in files).hi (file_proper next file is) within.1)

pub some_item : {X : Type 0} (xs : List X) → xs ≢ [] → (x : X) × Contains xs x
some_item [] some = absurd (some (λ i. []))
some_item (x ∷ xs) some = (x, first_is x xs x (λ i. x))
