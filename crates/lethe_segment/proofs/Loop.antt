-- Reading a segment's records one after the other.
use Rattle.std.proofs.Common.{◌≡◌, ◌≢◌, ℕ, ◌+◌, ◌-◌, ◌^◌, ◌<◌, ◌≤◌, List, [], ◌∷◌, ◌++◌, length, drop, Some, refl, sym, ap, subst, ◌∙◌, append_assoc, arith, length-drop}
use Rattle.std.specs.Int.{w8}
use Rattle.std.proofs.lemmas.List.{append-nil}
use Rattle.lethe_base.specs.Numbers.{number_at, IsBytes}
use Rattle.lethe_base.specs.Reading.{StandsAt}
use Rattle.lethe_base.proofs.FieldLaws.{first_byte, stands_then, stands_where}
use Rattle.lethe_base.proofs.EntryLaws.{stands_first}
use Rattle.lethe_segment.specs.declared.record.Record.{Record}
use Rattle.lethe_segment.specs.Records.{record_bytes, record_seq, RecordHasSpelling}
use Rattle.lethe_segment.specs.Segments.{head_bytes, open_records, Ascends, last_seq}
use Rattle.lethe_segment.specs.Heads.{HasHead}
use Rattle.lethe_segment.specs.Holding.{Holds, IsShut}
use Rattle.lethe_segment.specs.Refusals.{Reaches, IsUnread, IsDisordered, HasReason, IsUnreadAt}
use Rattle.lethe_segment.specs.declared.replaying.SegmentRefused.{SegmentRefused}
use Rattle.lethe_segment.specs.declared.replaying.SegmentRefused.TheVariants as refused
use Rattle.lethe_segment.proofs.HeadLaws.{length-head}
use Rattle.lethe_segment.proofs.Standing.{open_stands}

-- these records stand behind the head, and the next gate is at this place
pub record IsReadTo (bytes : List ℕ) (records : List Record) (last gate : ℕ) : Type 0 where
  pub number : ℕ
  pub fits : number < 2 ^ 64
  pub begins : StandsAt (head_bytes number ++ open_records records) bytes 0 gate
  pub ascends : Ascends 0 records
  pub last_is : last ≡ last_seq 0 records

pub at_head : (bytes : List ℕ) (number : ℕ) → HasHead number bytes → IsReadTo bytes [] 0 11
at_head bytes number head =
    let first = subst (λ (l : List ℕ). StandsAt (head_bytes number) l 0 (length (head_bytes number))) (sym head.parts) (stands_first (head_bytes number) head.rest) in
    let at = subst (λ (n : ℕ). StandsAt (head_bytes number) bytes 0 n) (length-head number) first in
    record {
      number = number;
      fits = head.fits;
      begins = subst (λ (l : List ℕ). StandsAt l bytes 0 11) (sym (append-nil (head_bytes number))) at;
      ascends = tt;
      last_is = refl;
    }

last_seq_push : (last : ℕ) (records : List Record) (r : Record) → last_seq last (records ++ r ∷ []) ≡ record_seq r
last_seq_push last [] r = refl
last_seq_push last (q ∷ records) r = last_seq_push (record_seq q) records r

pub ascends_push : (last : ℕ) (records : List Record) (r : Record) → Ascends last records → RecordHasSpelling r → last_seq last records < record_seq r → Ascends last (records ++ r ∷ [])
ascends_push last [] r up spelled above = (spelled, above, tt)
ascends_push last (q ∷ records) r up spelled above = (up.0, up.1, ascends_push (record_seq q) records r up.2 spelled above)

pub open_records-push : (records : List Record) (r : Record) → open_records (records ++ r ∷ []) ≡ open_records records ++ 1 ∷ record_bytes r
open_records-push [] r = append-nil (1 ∷ record_bytes r)
open_records-push (q ∷ records) r = ap (λ (l : List ℕ). (1 ∷ record_bytes q) ++ l) (open_records-push records r) ∙ sym (append_assoc (1 ∷ record_bytes q) (open_records records) (1 ∷ record_bytes r))

-- one record more
pub one_more : (bytes : List ℕ) (records : List Record) (last gate end : ℕ) (r : Record) → IsBytes bytes → IsReadTo bytes records last gate → number_at w8 bytes gate ≡ Some 1 → RecordHasSpelling r → StandsAt (record_bytes r) bytes (gate + 1) end → last < record_seq r → IsReadTo bytes (records ++ r ∷ []) (record_seq r) end
one_more bytes records last gate end r fits so_far is_open spelled stands above =
    let front = head_bytes so_far.number in
    let behind = stands_then (1 ∷ []) (record_bytes r) bytes gate (gate + 1) end (open_stands bytes gate 1 fits is_open) stands in
    let whole = stands_then (front ++ open_records records) (1 ∷ record_bytes r) bytes 0 gate end so_far.begins behind in
    let text : (front ++ open_records records) ++ 1 ∷ record_bytes r ≡ front ++ open_records (records ++ r ∷ []) = append_assoc front (open_records records) (1 ∷ record_bytes r) ∙ ap (λ (l : List ℕ). front ++ l) (sym (open_records-push records r)) in
    record {
      number = so_far.number;
      fits = so_far.fits;
      begins = subst (λ (l : List ℕ). StandsAt l bytes 0 end) text whole;
      ascends = ascends_push 0 records r so_far.ascends spelled (subst (λ (n : ℕ). n < record_seq r) so_far.last_is above);
      last_is = sym (last_seq_push 0 records r);
    }

-- the next gate lies further on
pub nearer_end : (bytes : List ℕ) (gate end : ℕ) (r : Record) → IsBytes bytes → number_at w8 bytes gate ≡ Some 1 → StandsAt (record_bytes r) bytes (gate + 1) end → length bytes - end < length bytes - gate
nearer_end bytes gate end r fits is_open stands =
    let at = open_stands bytes gate 1 fits is_open in
    omega (arith, at.within, stands.ends)

-- ---- the ends of the loop

shut_at : (bytes rest : List ℕ) (gate : ℕ) → gate ≤ length bytes → drop gate bytes ≡ rest → number_at w8 bytes gate ≢ Some 1 → IsShut rest
shut_at bytes [] gate within e shut = tt
shut_at bytes (b ∷ rest) gate within e shut = λ one. shut (first_byte 1 [] bytes gate (gate + 1) (stands_where (1 ∷ []) rest bytes gate within (e ∙ ap (λ (k : ℕ). k ∷ rest) one)))

pub all_held : (bytes : List ℕ) (records : List Record) (last gate : ℕ) → IsReadTo bytes records last gate → number_at w8 bytes gate ≢ Some 1 → (number : ℕ) × (number < 2 ^ 64) × Holds number records bytes × Ascends 0 records
all_held bytes records last gate so_far shut = (
  so_far.number,
  so_far.fits,
  record { rest = drop gate bytes; parts = so_far.begins.parts; shut = shut_at bytes (drop gate bytes) gate so_far.begins.within refl shut },
  so_far.ascends,
)

-- behind an open gate the rest is reached
reached : (bytes : List ℕ) (records : List Record) (last gate : ℕ) → IsBytes bytes → IsReadTo bytes records last gate → number_at w8 bytes gate ≡ Some 1 → Reaches bytes records (gate + 1) (drop (gate + 1) bytes)
reached bytes records last gate fits so_far is_open =
    let at = open_stands bytes gate 1 fits is_open in
    let whole = stands_then (head_bytes so_far.number ++ open_records records) (1 ∷ []) bytes 0 gate (gate + 1) so_far.begins at in
    record {
      number = so_far.number;
      parts = whole.parts ∙ append_assoc (head_bytes so_far.number ++ open_records records) (1 ∷ []) (drop (gate + 1) bytes);
      ascends = so_far.ascends;
      place = omega (arith, at.within, length-drop (gate + 1) bytes);
    }

pub is_unread : (bytes : List ℕ) (records : List Record) (last gate : ℕ) → IsBytes bytes → IsReadTo bytes records last gate → number_at w8 bytes gate ≡ Some 1 → ((r : Record) (end : ℕ) → RecordHasSpelling r → StandsAt (record_bytes r) bytes (gate + 1) end → ⊥) → IsUnread bytes (gate + 1)
is_unread bytes records last gate fits so_far is_open none = record {
  records = records;
  rest = drop (gate + 1) bytes;
  reaches = reached bytes records last gate fits so_far is_open;
  unread = λ r behind spelled e. none r (gate + 1 + length (record_bytes r)) spelled (stands_where (record_bytes r) behind bytes (gate + 1) (open_stands bytes gate 1 fits is_open).within e);
}

pub is_disordered : (bytes : List ℕ) (records : List Record) (last gate end : ℕ) (r : Record) → IsBytes bytes → IsReadTo bytes records last gate → number_at w8 bytes gate ≡ Some 1 → RecordHasSpelling r → StandsAt (record_bytes r) bytes (gate + 1) end → record_seq r ≤ last → IsDisordered bytes (gate + 1)
is_disordered bytes records last gate end r fits so_far is_open spelled stands below = record {
  records = records;
  next = r;
  behind = drop end bytes;
  reaches = subst (λ (l : List ℕ). Reaches bytes records (gate + 1) l) stands.parts (reached bytes records last gate fits so_far is_open);
  spelled = spelled;
  disorder = subst (λ (n : ℕ). record_seq r ≤ n) so_far.last_is below;
}

-- a record that couldn't be read is told as such
pub is_refused : (bytes : List ℕ) (records : List Record) (last gate : ℕ) (why : SegmentRefused) → IsBytes bytes → IsReadTo bytes records last gate → number_at w8 bytes gate ≡ Some 1 → IsUnreadAt bytes (gate + 1) why → why ≢ refused.NoMemory → HasReason bytes why
is_refused bytes records last gate (refused.Header place) fits so_far is_open unread other = absurd unread
is_refused bytes records last gate (refused.Record place) fits so_far is_open unread other = subst (IsUnread bytes) (sym unread.0) (is_unread bytes records last gate fits so_far is_open unread.1)
is_refused bytes records last gate (refused.Order place) fits so_far is_open unread other = absurd unread
is_refused bytes records last gate refused.NoMemory fits so_far is_open unread other = absurd (other refl)
