-- Claims meet where they share a level and a key.
use Rattle.std.proofs.Common.{◌≡◌, ℕ, ◌≤◌, max, Bool, true, false, ◌&&◌, IsTrue, refl, ap, ◌∙◌, arith}
use Rattle.std.specs.Prelude.{nat_le}
use Rattle.std.proofs.lemmas.Bool.{and_parts, leb-true}
use Rattle.std.proofs.lemmas.Bool.Decides.{nat_tests}
use Rattle.std.proofs.lemmas.Cmp.{upto, tied_itself}
use Rattle.std.specs.Cmp.Lexicographic.{nat_list_cmp_total}
use Rattle.std.specs.declared.cmp.Ordering.{Ordering}
use Rattle.std.specs.declared.cmp.Ordering.TheVariants.{Less, Equal, Greater}
use Rattle.std.specs.Ordering.{is_le, is_gt, ordering_reverse}
use Rattle.lethe_base.specs.Keys.{Bytes, key_cmp}
use Rattle.lethe_fade.specs.declared.claim.Claim.{Claim}
use Rattle.lethe_fade.specs.Claims.{HasKey, IsProper, MeetingIsSharing}

not_above : (r : Ordering) → IsTrue (is_le r) → is_gt r ≡ false
not_above Less h = refl
not_above Equal h = refl
not_above Greater h = absurd cc

pub upto_is : (r : Ordering) → is_gt r ≡ false → IsTrue (is_le r)
upto_is Less h = refl
upto_is Equal h = refl
upto_is Greater h = absurd cc

pub key_upto : (x y z : Bytes) → IsTrue (is_le (key_cmp x y)) → IsTrue (is_le (key_cmp y z)) → IsTrue (is_le (key_cmp x z))
key_upto x y z h k = upto_is _ (upto nat_list_cmp_total x y z (not_above _ h) (not_above _ k))

pub key_itself : (x : Bytes) → IsTrue (is_le (key_cmp x x))
key_itself x = ap is_le (tied_itself nat_list_cmp_total x)

-- of two keys one is at most the other
either_upto : (r : Ordering) → is_le r ≡ false → IsTrue (is_le (ordering_reverse r))
either_upto Less h = absurd cc
either_upto Equal h = absurd cc
either_upto Greater h = refl

shared_key : (a b : Claim) → IsProper a → IsProper b → IsTrue (is_le (key_cmp a.lo b.hi)) → IsTrue (is_le (key_cmp b.lo a.hi)) → (key : Bytes) × (HasKey a key × HasKey b key)
shared_key a b pa pb h k = by_test (is_le (key_cmp a.lo b.lo)) refl
  where
    by_test : (t : Bool) → is_le (key_cmp a.lo b.lo) ≡ t → (key : Bytes) × (HasKey a key × HasKey b key)
    by_test true e = (b.lo, ((e, k), (key_itself b.lo, pb.keys)))
    by_test false e = (a.lo, ((key_itself a.lo, pa.keys), (ap is_le (nat_list_cmp_total.antisymm b.lo a.lo) ∙ either_upto _ e, h)))

le_test : (m n : ℕ) → m ≤ n → nat_le m n ≡ true
le_test m n h = grind (arith, nat_tests)

pub meeting_is_sharing : MeetingIsSharing
meeting_is_sharing a b pa pb = (
  (λ h.
      let parts = and_parts (nat_le a.first b.last && nat_le b.first a.last) _ h in
      let levels = and_parts (nat_le a.first b.last) (nat_le b.first a.last) parts.0 in
      let keys = and_parts (is_le (key_cmp a.lo b.hi)) (is_le (key_cmp b.lo a.hi)) parts.1 in
      let one : a.first ≤ b.last = leb-true _ _ levels.0 in
      let two : b.first ≤ a.last = leb-true _ _ levels.1 in
      let own : a.first ≤ a.last = pa.levels in
      let other : b.first ≤ b.last = pb.levels in
      ((max a.first b.first, ((omega arith, omega arith), (omega arith, omega arith))), shared_key a b pa pb keys.0 keys.1)),
  (λ s.
      let one : nat_le a.first b.last ≡ true = le_test _ _ (omega (arith, s.0.1.0.0, s.0.1.1.1)) in
      let two : nat_le b.first a.last ≡ true = le_test _ _ (omega (arith, s.0.1.1.0, s.0.1.0.1)) in
      let three : is_le (key_cmp a.lo b.hi) ≡ true = key_upto a.lo s.1.0 b.hi s.1.1.0.0 s.1.1.1.1 in
      let four : is_le (key_cmp b.lo a.hi) ≡ true = key_upto b.lo s.1.0 a.hi s.1.1.1.0 s.1.1.0.1 in
      rw (one, two, three, four) refl),
)
