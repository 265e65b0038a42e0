-- Which record stands at a place.
use Rattle.std.proofs.Common.{◌≡◌, ◌≢◌, ℕ, ◌+◌, ◌^◌, ◌<◌, ◌≤◌, List, [], ◌∷◌, Option, Some, None, Result, Ok, Err, refl, sym, ap, subst, ◌∙◌, arith}
use Rattle.std.specs.Prelude.{MatchOption, ok_or}
use Rattle.std.specs.Result.{result_ok}
use Rattle.std.specs.Int.{w8, w64, to_be_bytes}
use Rattle.lethe_base.specs.Numbers.{number_at, IsBytes}
use Rattle.lethe_base.specs.Spelling.{entry_bytes, HasSpelling}
use Rattle.lethe_base.specs.Reading.{StandsAt, place_at}
use Rattle.lethe_base.specs.Erases.{erase_bytes, IsErase}
use Rattle.lethe_base.specs.Limits.{max_time}
use Rattle.lethe_base.specs.declared.pending.Pending.{Pending}
use Rattle.lethe_base.specs.declared.entry.Entry.{Entry}
use Rattle.lethe_base.specs.declared.reading.EntryRefused.{EntryRefused}
use Rattle.lethe_base.specs.declared.reading.EntryRefused.TheVariants.{Short, Kind, NoMemory}
use Rattle.lethe_base.proofs.FieldLaws.{byte_stands, first_byte, number_again, number_stands, place_stands, place_again, stands_then, stands_parts, wide64}
use Rattle.lethe_base.proofs.EraseLaws.{FieldsStand, erase_stands, erase_parts}
use Rattle.lethe_segment.specs.declared.record.Record.{Record}
use Rattle.lethe_segment.specs.declared.record.Record.TheVariants as of
use Rattle.lethe_segment.specs.Records.{record_bytes, RecordHasSpelling}
use Rattle.lethe_segment.specs.Refusals.{IsBlindAt, IsNoBlindAt, IsEraseAt, IsNoEraseAt, IsUnreadAt, refusal_of}

-- a byte that is there stands there
pub open_stands : (bytes : List ℕ) (at b : ℕ) → IsBytes bytes → number_at w8 bytes at ≡ Some b → StandsAt (b ∷ []) bytes at (at + 1)
open_stands bytes at b fits e = (byte_stands bytes at b fits (ap (λ (o : Option ℕ). ok_or o (Short at)) e)).0

-- what was read is the one number that is there

abbrev pub here : ℕ → Option ℕ
here n = Some n

pub same_read : (o : Option ℕ) (m n : ℕ) → Some m ≡ o → o ≡ Some n → m ≡ n
same_read o m n e f = let both : here m ≡ here n = e ∙ f in cc

pub none_read : (o : Option ℕ) (n : ℕ) → None ≡ o → o ≡ Some n → ⊥
none_read o n e f = let both : None ≡ here n = e ∙ f in cc

abbrev read_so : ℕ × ℕ → Result (ℕ × ℕ) EntryRefused
read_so read = Ok read

abbrev failed : EntryRefused → Result (ℕ × ℕ) EntryRefused
failed why = Err why

differ : (why : EntryRefused) (read : ℕ × ℕ) → failed why ≡ read_so read → ⊥
differ why read e = cc

-- behind a byte of 3 stands a blind delete, or no place of one
pub blind_at : (bytes : List ℕ) (at : ℕ) (read : Result (ℕ × ℕ) EntryRefused) → IsBytes bytes → number_at w8 bytes at ≡ Some 3 → read ≡ place_at bytes (at + 1) → MatchOption (result_ok read) (IsNoBlindAt bytes at) (λ x. IsBlindAt bytes at x.0 x.1)
unfolding record_bytes
blind_at bytes at (Ok x) fits three e =
    let place = place_stands bytes (at + 1) x fits (sym e) in
    (place.1, stands_then (3 ∷ []) (to_be_bytes w64 x.0) bytes at (at + 1) x.1 (open_stands bytes at 3 fits three) place.0)
blind_at bytes at (Err why) fits three e = λ seq end blind.
    let parts = stands_parts (3 ∷ []) (to_be_bytes w64 seq) bytes at end blind.1 in
    differ why (seq, end) (e ∙ place_again bytes (at + 1) end seq blind.0 parts.1)

pub no_blind : (bytes : List ℕ) (at : ℕ) → number_at w8 bytes at ≢ Some 3 → IsNoBlindAt bytes at
unfolding record_bytes
no_blind bytes at other seq end blind = other (first_byte 3 (to_be_bytes w64 seq) bytes at end blind.1)

-- what is read of an erase whose fields begin at a place
pub record AreRead (bytes : List ℕ) (at : ℕ) (erase : Pending) : Type 0 where
  pub behind : ℕ
  pub place : place_at bytes at ≡ Ok (erase.seq, behind)
  pub time : number_at w64 bytes (at + 8) ≡ Some erase.time
  pub lo : number_at w64 bytes (at + 16) ≡ Some erase.range.lo
  pub hi : number_at w64 bytes (at + 24) ≡ Some erase.range.hi

fields_read : (bytes : List ℕ) (at : ℕ) (erase : Pending) → IsErase erase → FieldsStand erase bytes at → AreRead bytes at erase
fields_read bytes at erase fits fields = record {
  behind = at + 8;
  place = place_again bytes at (at + 8) erase.seq fits.place fields.seq;
  time = number_again w64 (2 ^ 64) wide64 bytes (at + 8) (at + 16) erase.time (omega (arith, fits.time)) fields.time;
  lo = number_again w64 (2 ^ 64) wide64 bytes (at + 16) (at + 24) erase.range.lo (omega (arith, fits.some, fits.hi)) fields.lo;
  hi = number_again w64 (2 ^ 64) wide64 bytes (at + 24) (at + 32) erase.range.hi fits.hi fields.hi;
}

-- where an erase stands, its kind and its fields are read
pub no_erase : (bytes : List ℕ) (at : ℕ) → ((erase : Pending) → IsErase erase → number_at w8 bytes at ≡ Some 4 → AreRead bytes (at + 1) erase → ⊥) → IsNoEraseAt bytes at
unfolding record_bytes
no_erase bytes at unread erase end (fits, stands) =
    let parts = stands_parts (4 ∷ []) (erase_bytes erase) bytes at end stands in
    unread erase fits (first_byte 4 (erase_bytes erase) bytes at end stands) (fields_read bytes (at + 1) erase fits (erase_parts erase bytes (at + 1) end parts.1).0)

-- where its kind and its fields are read, and are an erase's, it stands
pub erase_at : (bytes : List ℕ) (at : ℕ) (erase : Pending) → IsBytes bytes → number_at w8 bytes at ≡ Some 4 → AreRead bytes (at + 1) erase → erase.time ≤ max_time → erase.range.lo < erase.range.hi → IsEraseAt bytes at erase (at + 1 + 32)
unfolding record_bytes
erase_at bytes at erase fits four read past some =
    let seq = place_stands bytes (at + 1) (erase.seq, read.behind) fits read.place in
    let time = number_stands w64 (2 ^ 64) wide64 bytes (at + 1 + 8) erase.time fits read.time in
    let lo = number_stands w64 (2 ^ 64) wide64 bytes (at + 1 + 16) erase.range.lo fits read.lo in
    let hi = number_stands w64 (2 ^ 64) wide64 bytes (at + 1 + 24) erase.range.hi fits read.hi in
    let fields : FieldsStand erase bytes (at + 1) = record {
      seq = subst (StandsAt (to_be_bytes w64 erase.seq) bytes (at + 1)) (omega (arith, seq.0.ends)) seq.0;
      time = subst (StandsAt (to_be_bytes w64 erase.time) bytes (at + 1 + 8)) (omega arith) time.0;
      lo = subst (StandsAt (to_be_bytes w64 erase.range.lo) bytes (at + 1 + 16)) (omega arith) lo.0;
      hi = subst (StandsAt (to_be_bytes w64 erase.range.hi) bytes (at + 1 + 24)) (omega arith) hi.0;
    } in (
      record { place = seq.1; time = past; some = some; hi = hi.1 },
      stands_then (4 ∷ []) (erase_bytes erase) bytes at (at + 1) (at + 1 + 32) (open_stands bytes at 4 fits four) (erase_stands erase bytes (at + 1) fields),
    )

-- where neither a blind delete nor an erase nor an entry stands, no record does
pub no_record : (bytes : List ℕ) (at : ℕ) → IsNoBlindAt bytes at → IsNoEraseAt bytes at → ((entry : Entry) (end : ℕ) → HasSpelling entry → StandsAt (entry_bytes entry) bytes at end → ⊥)
    → (r : Record) (end : ℕ) → RecordHasSpelling r → StandsAt (record_bytes r) bytes at end → ⊥
unfolding record_bytes
no_record bytes at blind erase entry (of.Entry e) end spelled stands = entry e end spelled stands
no_record bytes at blind erase entry (of.Blind seq) end spelled stands = blind seq end (spelled, stands)
no_record bytes at blind erase entry (of.Erase pending) end spelled stands = erase pending end (spelled, stands)

pub unread_entry : (bytes : List ℕ) (at : ℕ) (why : EntryRefused) → IsNoBlindAt bytes at → IsNoEraseAt bytes at → ((entry : Entry) (end : ℕ) → HasSpelling entry → StandsAt (entry_bytes entry) bytes at end → why ≡ NoMemory)
    → IsUnreadAt bytes at (refusal_of at why)
unread_entry bytes at (Short place) blind erase only = (refl, no_record bytes at blind erase (λ entry end spelled stands. other (only entry end spelled stands)))
  where
    other : Short place ≡ NoMemory → ⊥
    other e = cc
unread_entry bytes at (Kind place) blind erase only = (refl, no_record bytes at blind erase (λ entry end spelled stands. other (only entry end spelled stands)))
  where
    other : Kind place ≡ NoMemory → ⊥
    other e = cc
unread_entry bytes at NoMemory blind erase only = tt
