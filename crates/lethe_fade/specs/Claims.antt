-- What a job claims, and when two claims meet.
use Rattle.std.specs.Prelude.{ℕ, ◌+◌, ◌≤◌, ◌↔◌, Bool, IsTrue, ◌&&◌, nat_le, List}
use Rattle.std.specs.Ordering.{is_le}
use Rattle.lethe_base.specs.Keys.{Bytes, key_cmp}
use Rattle.lethe_base.specs.declared.shape.FileFacts.{FileFacts}
use Rattle.lethe_fade.specs.declared.claim.Claim.{Claim}
use Rattle.lethe_fade.specs.Spans.{KeyRange, overlaps, hull, overlapping}

abbrev pub keys_of : Claim → KeyRange
keys_of claim = record { lo = claim.lo; hi = claim.hi }

-- they share a level and a key, where each one's ends are in order
abbrev pub meets : Claim → Claim → Bool
meets a b = nat_le a.first b.last && nat_le b.first a.last && overlaps (keys_of a) (keys_of b)

abbrev pub HasLevel : Claim → ℕ → Type 0
HasLevel claim level = (claim.first ≤ level) × (level ≤ claim.last)

abbrev pub HasKey : Claim → Bytes → Type 0
HasKey claim key = IsTrue (is_le (key_cmp claim.lo key)) × IsTrue (is_le (key_cmp key claim.hi))

-- the ends are in order, so that it has a level and a key
pub record IsProper (claim : Claim) : Type 0 where
  pub levels : claim.first ≤ claim.last
  pub keys : IsTrue (is_le (key_cmp claim.lo claim.hi))

abbrev pub MeetingIsSharing : Type 0
MeetingIsSharing = (a b : Claim) → IsProper a → IsProper b
    → IsTrue (meets a b) ↔ (((level : ℕ) × (HasLevel a level × HasLevel b level)) × ((key : Bytes) × (HasKey a key × HasKey b key)))

-- the levels from one to another, with a range of keys
abbrev pub claim_over : ℕ → ℕ → KeyRange → Claim
claim_over first last keys = record { first = first; last = last; lo = keys.lo; hi = keys.hi }

-- a level and the next one
abbrev pub claim_at : ℕ → KeyRange → Claim
claim_at level keys = claim_over level (level + 1) keys

-- a merge of files of a level whose keys have that hull takes the files of the next level that overlap it, and claims the keys of all that it takes
abbrev pub merge_claim : ℕ → KeyRange → List FileFacts → Claim
merge_claim level sources next = claim_at level (hull sources (overlapping sources next))
