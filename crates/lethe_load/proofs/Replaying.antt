-- The segment of a number, and the records that are replayed of it.
use Rattle.std.proofs.Common.{◌≡◌, ◌≢◌, ◌<◌, ◌^◌, ℕ, true, eqb, List, ◌++◌, Option, Some, None, refl, sym, ap, subst, ◌∙◌, append_assoc, arith}
use Rattle.std.specs.Prelude.{MatchOption, MatchResult, Result, Err}
use Rattle.std.specs.Option.{option_eq}
use Rattle.std.proofs.lemmas.Bool.{eqb-true}
use Rattle.lethe_disk.specs.Directory.{Directory, object}
use Rattle.lethe_disk.proofs.Objects.{one_object}
use Rattle.lethe_segment.specs.declared.record.Record.{Record}
use Rattle.lethe_segment.specs.declared.replaying.SegmentRefused.{SegmentRefused}
use Rattle.lethe_segment.specs.declared.replaying.SegmentRefused.TheVariants as refused
use Rattle.lethe_segment.specs.Segments.{head_bytes, open_records, Ascends}
use Rattle.lethe_segment.specs.Heads.{HasHead, IsNoHead}
use Rattle.lethe_segment.specs.Holding.{Holds}
use Rattle.lethe_segment.proofs.HeadLaws.{behind_heads, same_head}
use Rattle.lethe_stored.specs.Stored.{segment_name}
use Rattle.lethe_load.specs.Damaged.{IsReplayed}
use Rattle.lethe_load.specs.Refused.{IsUnreplayed, MayFail, refusal_of}

-- what holds records under some number holds them under that of its head
pub held_under : (number other : ℕ) (records : List Record) (bytes : List ℕ) → HasHead number bytes → Holds other records bytes → Holds number records bytes
held_under number other records bytes head holds =
    let parts : bytes ≡ head_bytes other ++ (open_records records ++ holds.rest) = holds.parts ∙ append_assoc (head_bytes other) (open_records records) holds.rest in
    let heads = behind_heads number other head.rest (open_records records ++ holds.rest) (sym head.parts ∙ parts) in
    record {
      rest = holds.rest;
      parts = holds.parts ∙ ap (λ h. (h ++ open_records records) ++ holds.rest) (sym heads.0);
      shut = holds.shut;
    }

-- and has that head
pub head_of : (number : ℕ) (records : List Record) (bytes : List ℕ) → number < 2 ^ 64 → Holds number records bytes → HasHead number bytes
head_of number records bytes fits holds = record {
  fits = fits;
  rest = open_records records ++ holds.rest;
  parts = holds.parts ∙ append_assoc (head_bytes number) (open_records records) holds.rest;
}

one_head : (bytes : List ℕ) (m n : ℕ) → HasHead m bytes → HasHead n bytes → m ≡ n
one_head bytes m n x y = same_head m n x.fits y.fits (behind_heads m n x.rest y.rest (sym x.parts ∙ y.parts)).0

-- what is read of a head is its number
pub head_read : (bytes : List ℕ) (read : Option ℕ) (number : ℕ) → MatchOption read (IsNoHead bytes) (λ n. HasHead n bytes) → HasHead number bytes → read ≡ Some number
head_read bytes None number none head = absurd (none number head.rest head.parts)
head_read bytes (Some n) number is head = ap Some (one_head bytes n number is head)

-- What is replayed of the bytes of an object, and of which number.

module _ (d : Directory) (number : ℕ) (bytes : List ℕ) (there : object d (segment_name number) ≡ Some bytes) where
  pub is_replayed : (other : ℕ) (records : List Record) → Holds other records bytes → Ascends 0 records → HasHead number bytes → IsReplayed d number records
  is_replayed other records holds ascends head = (ascends, record { bytes = bytes; there = there; holds = held_under number other records bytes head holds })

  held : (records : List Record) → IsReplayed d number records → Holds number records bytes
  held records replayed = subst (Holds number records) (one_object (object d (segment_name number)) replayed.1.bytes bytes replayed.1.there there) replayed.1.holds

  -- what is refused for another cause than want of memory holds no records
  pub none_replayed : {V : Type 0} (items : V → List Record) (result : Result V SegmentRefused) (why : SegmentRefused) → result ≡ Err why → why ≢ refused.NoMemory
      → ((other : ℕ) (records : List Record) → Holds other records bytes → Ascends 0 records → MatchResult result (λ read. items read ≡ records) (λ why. why ≡ refused.NoMemory)) → (records : List Record) → IsReplayed d number records → ⊥
  none_replayed items result why is other only records replayed =
      other (subst (λ r. MatchResult r (λ read. items read ≡ records) (λ why. why ≡ refused.NoMemory)) is (only number records (held records replayed) replayed.0))

  -- and nothing is replayed under a number that isn't the head's
  pub other_replayed : (read : Option ℕ) → number < 2 ^ 64 → MatchOption read (IsNoHead bytes) (λ n. HasHead n bytes) → (read ≡ Some number → ⊥) → (records : List Record) → IsReplayed d number records → ⊥
  other_replayed read fits is not_so records replayed = not_so (head_read bytes read number is (head_of number records bytes fits (held records replayed)))

pub replay_refused : (Tells : Type 0) (before now : ℕ) (d : Directory) (number : ℕ) (bytes : List ℕ) → (Tells → object d (segment_name number) ≡ Some bytes) → {V : Type 0} (items : V → List Record) (result : Result V SegmentRefused) (why : SegmentRefused) → result ≡ Err why
    → ((other : ℕ) (records : List Record) → Holds other records bytes → Ascends 0 records → MatchResult result (λ read. items read ≡ records) (λ why. why ≡ refused.NoMemory))
    → MayFail Tells (IsUnreplayed d number) before now (refusal_of (segment_name number) why)
replay_refused Tells before now d number bytes there items result (refused.Header at) is only = λ told. (refl, none_replayed d number bytes (there told) items result (refused.Header at) is (λ e. cc) only)
replay_refused Tells before now d number bytes there items result (refused.Record at) is only = λ told. (refl, none_replayed d number bytes (there told) items result (refused.Record at) is (λ e. cc) only)
replay_refused Tells before now d number bytes there items result (refused.Order at) is only = λ told. (refl, none_replayed d number bytes (there told) items result (refused.Order at) is (λ e. cc) only)
replay_refused Tells before now d number bytes there items result refused.NoMemory is only = tt

-- Equal numbers, as they are compared

pub same_number : (read : Option ℕ) (number : ℕ) → option_eq eqb read (Some number) ≡ true → read ≡ Some number
same_number None number e = absurd cc
same_number (Some n) number e = ap Some (eqb-true n number e)

equal_itself : (n : ℕ) → eqb n n ≡ true
equal_itself n = grind arith

pub same_number_again : (read : Option ℕ) (number : ℕ) → read ≡ Some number → option_eq eqb read (Some number) ≡ true
same_number_again read number e = subst (λ r. option_eq eqb r (Some number) ≡ true) (sym e) (equal_itself number)
