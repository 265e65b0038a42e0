-- What stands of a settled disk.
use Rattle.std.proofs.Common.{◌≡◌, ◌+◌, ℕ, List, [], length, Some, refl, sym, ap, ◌∙◌, subst}
use Rattle.lethe_base.specs.declared.name.Name.{Name}
use Rattle.lethe_disk.specs.Directory.{object}
use Rattle.lethe_disk.specs.Disk.{Seen}
use Rattle.lethe_segment.specs.Segments.{head_bytes, segment_bytes}
use Rattle.lethe_commit.specs.Append.{EndsAt}
use Rattle.lethe_commit.specs.Switch.{IsTakenBack}
use Rattle.lethe_stored.specs.Stored.{Stored, segment_name}
use Rattle.lethe_stored.specs.Encodes.{Encodes}
use Rattle.lethe_advance.specs.Settled.{IsSettled, HasOnly}

-- where all that was done is taken back, it is settled as before
pub settled_back : (old new : Seen) (s : Stored) → IsTakenBack old new → IsSettled old s → IsSettled new s
settled_back old new s back settled = record {
  synced = λ c here. settled.synced c (back.images c here) ∙ sym back.directory;
  coherent = settled.coherent;
  encodes = subst (λ d. Encodes d s) (sym back.directory) settled.encodes;
}

pub only_back : (old new : Seen) (s : Stored) (loose : List (Name × List ℕ)) → IsTakenBack old new → HasOnly s loose old.directory → HasOnly s loose new.directory
only_back old new s loose back only = subst (HasOnly s loose) (sym back.directory) only

-- an empty segment takes its first record at place 11
empty_ends : (number : ℕ) → 11 + 1 ≡ length (segment_bytes number [])
unfolding segment_bytes head_bytes
empty_ends number = refl

pub ends_empty : (disk : Seen) (s : Stored) (number : ℕ) → IsSettled disk s → object disk.directory (segment_name number) ≡ Some (segment_bytes number []) → EndsAt disk (segment_name number) number [] 11
ends_empty disk s number settled there = record {
  ascends = tt;
  spelled = λ c here. ap (λ d. object d (segment_name number)) (settled.synced c here) ∙ there;
  place = empty_ends number;
}
