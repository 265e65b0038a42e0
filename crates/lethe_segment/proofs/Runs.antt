-- Bytes hold one list of records, and have one reason at most for which they hold none.
use Rattle.std.proofs.Common.{◌≡◌, ◌≢◌, ℕ, zero, suc, ◌+◌, ◌^◌, ◌<◌, List, [], ◌∷◌, ◌++◌, length, drop, Option, Some, Result, Ok, Err, ◌⊎◌, refl, sym, ap, subst, ◌∙◌, append_assoc, arith, inl, inr}
use Rattle.std.specs.Prelude.{IfOk, IfErr, MatchResult, slice_get}
use Rattle.std.specs.Global.{Vec}
use Rattle.lethe_segment.specs.declared.record.Record.{Record}
use Rattle.lethe_segment.specs.declared.replaying.SegmentRefused.{SegmentRefused}
use Rattle.lethe_segment.specs.declared.replaying.SegmentRefused.TheVariants as refused
use Rattle.lethe_segment.specs.Records.{record_bytes, record_seq, RecordHasSpelling}
use Rattle.lethe_segment.specs.Segments.{head_bytes, open_records, segment_bytes, Ascends, last_seq}
use Rattle.lethe_segment.specs.Holding.{Holds, IsShut}
use Rattle.lethe_segment.specs.Heads.{IsHeadFault}
use Rattle.lethe_segment.specs.Refusals.{IsUnread, IsDisordered, HasReason}
use Rattle.lethe_segment.proofs.RecordLaws.{same_record}
use Rattle.lethe_segment.proofs.HeadLaws.{behind_heads, same_head, no_fault, same_fault}

-- no record above the last stands behind an open gate at the front
abbrev StopsAt : ℕ → List ℕ → Type 0
StopsAt last x = (r : Record) (behind : List ℕ) → RecordHasSpelling r → last < record_seq r → x ≡ (1 ∷ record_bytes r) ++ behind → ⊥

shut_stops : (last : ℕ) (x : List ℕ) → IsShut x → StopsAt last x
shut_stops last x shut r behind fits above e = subst IsShut e shut refl

unread_stops : (last : ℕ) (bytes : List ℕ) (at : ℕ) (u : IsUnread bytes at) → StopsAt last (1 ∷ u.rest)
unread_stops last bytes at u r behind fits above e = u.unread r behind fits (ap (λ (l : List ℕ). drop 1 l) e)

disordered_stops : (bytes : List ℕ) (at : ℕ) (d : IsDisordered bytes at) → StopsAt (last_seq 0 d.records) (1 ∷ (record_bytes d.next ++ d.behind))
disordered_stops bytes at d r behind fits above e =
    let same = same_record d.next r d.behind behind d.spelled fits (ap (λ (l : List ℕ). drop 1 l) e) in
    let seqs : record_seq d.next ≡ record_seq r = ap record_seq same.0 in
    omega (arith, d.disorder, above, seqs)

-- records that stand in one and the same bytes, up to where none follows, are the same
same_run : (last : ℕ) (rs qs : List Record) (x y : List ℕ) → open_records rs ++ x ≡ open_records qs ++ y → Ascends last rs → Ascends last qs → StopsAt (last_seq last rs) x → StopsAt (last_seq last qs) y → (rs ≡ qs) × (x ≡ y)
same_run last [] [] x y e up up' stop stop' = (refl, e)
same_run last [] (q ∷ qs) x y e up up' stop stop' = absurd (stop q (open_records qs ++ y) up'.0 up'.1 (e ∙ append_assoc (1 ∷ record_bytes q) (open_records qs) y))
same_run last (r ∷ rs) [] x y e up up' stop stop' = absurd (stop' r (open_records rs ++ x) up.0 up.1 (sym e ∙ append_assoc (1 ∷ record_bytes r) (open_records rs) x))
same_run last (r ∷ rs) (q ∷ qs) x y e up up' stop stop' =
    let behind : record_bytes r ++ (open_records rs ++ x) ≡ record_bytes q ++ (open_records qs ++ y) = ap (λ (l : List ℕ). drop 1 l) (sym (append_assoc (1 ∷ record_bytes r) (open_records rs) x) ∙ e ∙ append_assoc (1 ∷ record_bytes q) (open_records qs) y) in
    let first = same_record r q (open_records rs ++ x) (open_records qs ++ y) up.0 up'.0 behind in
    let seqs : record_seq q ≡ record_seq r = ap record_seq (sym first.0) in
    let rest = same_run (record_seq r) rs qs x y first.1 up.2 (subst (λ (n : ℕ). Ascends n qs) seqs up'.2) stop (subst (λ (n : ℕ). StopsAt (last_seq n qs) y) seqs stop') in
    (both r q rs qs first.0 rest.0, rest.1)
  where
    both : (r q : Record) (rs qs : List Record) → r ≡ q → rs ≡ qs → r ∷ rs ≡ q ∷ qs
    both r q rs qs e f = cc

-- the same behind heads
same_reach : (bytes : List ℕ) (m n : ℕ) (rs qs : List Record) (x y : List ℕ) → bytes ≡ (head_bytes m ++ open_records rs) ++ x → bytes ≡ (head_bytes n ++ open_records qs) ++ y → Ascends 0 rs → Ascends 0 qs → StopsAt (last_seq 0 rs) x → StopsAt (last_seq 0 qs) y → (rs ≡ qs) × (x ≡ y)
same_reach bytes m n rs qs x y e f up up' stop stop' =
    let behind = behind_heads m n (open_records rs ++ x) (open_records qs ++ y) (sym (append_assoc (head_bytes m) (open_records rs) x) ∙ sym e ∙ f ∙ append_assoc (head_bytes n) (open_records qs) y) in
    same_run 0 rs qs x y behind.1 up up' stop stop'

pub same_held : (bytes : List ℕ) (m n : ℕ) (rs qs : List Record) → Holds m rs bytes → Holds n qs bytes → Ascends 0 rs → Ascends 0 qs → (rs ≡ qs) × (head_bytes m ≡ head_bytes n)
same_held bytes m n rs qs first second up up' =
    let behind = behind_heads m n (open_records rs ++ first.rest) (open_records qs ++ second.rest) (sym (append_assoc (head_bytes m) (open_records rs) first.rest) ∙ sym first.parts ∙ second.parts ∙ append_assoc (head_bytes n) (open_records qs) second.rest) in
    let same = same_reach bytes m n rs qs first.rest second.rest first.parts second.parts up up' (shut_stops (last_seq 0 rs) first.rest first.shut) (shut_stops (last_seq 0 qs) second.rest second.shut) in
    (same.0, behind.0)

-- what stands behind a head has no fault in it
reached_head : (bytes : List ℕ) (at number : ℕ) (rs : List Record) (x : List ℕ) → IsHeadFault bytes at → bytes ≡ (head_bytes number ++ open_records rs) ++ x → ⊥
reached_head bytes at number rs x fault e = no_fault bytes (open_records rs ++ x) at number fault (e ∙ append_assoc (head_bytes number) (open_records rs) x)

-- bytes that hold records have no reason to be refused
pub no_reason : (bytes : List ℕ) (number : ℕ) (rs : List Record) (why : SegmentRefused) → Holds number rs bytes → Ascends 0 rs → HasReason bytes why → ⊥
no_reason bytes number rs (refused.Header at) holds up fault = reached_head bytes at number rs holds.rest fault holds.parts
no_reason bytes number rs (refused.Record at) holds up u =
    let same = same_reach bytes number u.reaches.number rs u.records holds.rest (1 ∷ u.rest) holds.parts u.reaches.parts up u.reaches.ascends (shut_stops (last_seq 0 rs) holds.rest holds.shut) (unread_stops (last_seq 0 u.records) bytes at u) in
    subst IsShut same.1 holds.shut refl
no_reason bytes number rs (refused.Order at) holds up d =
    let same = same_reach bytes number d.reaches.number rs d.records holds.rest (1 ∷ (record_bytes d.next ++ d.behind)) holds.parts d.reaches.parts up d.reaches.ascends (shut_stops (last_seq 0 rs) holds.rest holds.shut) (disordered_stops bytes at d) in
    subst IsShut same.1 holds.shut refl
no_reason bytes number rs refused.NoMemory holds up reason = reason

-- bytes reach one place
same_place : (bytes : List ℕ) (a b : ℕ) (x y : List ℕ) → 1 ∷ x ≡ 1 ∷ y → a + length x ≡ length bytes → b + length y ≡ length bytes → a ≡ b
same_place bytes a b x y e p q = omega (arith, p, q, ap length e)

unread_not_disordered : (bytes : List ℕ) (a b : ℕ) → IsUnread bytes a → IsDisordered bytes b → ⊥
unread_not_disordered bytes a b u d =
    let same = same_reach bytes u.reaches.number d.reaches.number u.records d.records (1 ∷ u.rest) (1 ∷ (record_bytes d.next ++ d.behind)) u.reaches.parts d.reaches.parts u.reaches.ascends d.reaches.ascends (unread_stops (last_seq 0 u.records) bytes a u) (disordered_stops bytes b d) in
    u.unread d.next d.behind d.spelled (ap (λ (l : List ℕ). drop 1 l) same.1)

same_unread : (bytes : List ℕ) (a b : ℕ) → IsUnread bytes a → IsUnread bytes b → a ≡ b
same_unread bytes a b u v =
    let same = same_reach bytes u.reaches.number v.reaches.number u.records v.records (1 ∷ u.rest) (1 ∷ v.rest) u.reaches.parts v.reaches.parts u.reaches.ascends v.reaches.ascends (unread_stops (last_seq 0 u.records) bytes a u) (unread_stops (last_seq 0 v.records) bytes b v) in
    same_place bytes a b u.rest v.rest same.1 u.reaches.place v.reaches.place

same_disordered : (bytes : List ℕ) (a b : ℕ) → IsDisordered bytes a → IsDisordered bytes b → a ≡ b
same_disordered bytes a b c d =
    let same = same_reach bytes c.reaches.number d.reaches.number c.records d.records (1 ∷ (record_bytes c.next ++ c.behind)) (1 ∷ (record_bytes d.next ++ d.behind)) c.reaches.parts d.reaches.parts c.reaches.ascends d.reaches.ascends (disordered_stops bytes a c) (disordered_stops bytes b d) in
    same_place bytes a b (record_bytes c.next ++ c.behind) (record_bytes d.next ++ d.behind) same.1 c.reaches.place d.reaches.place

-- bytes have one reason at most
pub same_reason : (bytes : List ℕ) (a b : SegmentRefused) → HasReason bytes a → HasReason bytes b → a ≡ b
same_reason bytes (refused.Header a) (refused.Header b) p q = ap refused.Header (same_fault bytes a b p q)
same_reason bytes (refused.Header a) (refused.Record b) p q = absurd (reached_head bytes a q.reaches.number q.records (1 ∷ q.rest) p q.reaches.parts)
same_reason bytes (refused.Header a) (refused.Order b) p q = absurd (reached_head bytes a q.reaches.number q.records (1 ∷ (record_bytes q.next ++ q.behind)) p q.reaches.parts)
same_reason bytes (refused.Record a) (refused.Header b) p q = absurd (reached_head bytes b p.reaches.number p.records (1 ∷ p.rest) q p.reaches.parts)
same_reason bytes (refused.Record a) (refused.Record b) p q = ap refused.Record (same_unread bytes a b p q)
same_reason bytes (refused.Record a) (refused.Order b) p q = absurd (unread_not_disordered bytes a b p q)
same_reason bytes (refused.Order a) (refused.Header b) p q = absurd (reached_head bytes b p.reaches.number p.records (1 ∷ (record_bytes p.next ++ p.behind)) q p.reaches.parts)
same_reason bytes (refused.Order a) (refused.Record b) p q = absurd (unread_not_disordered bytes b a q p)
same_reason bytes (refused.Order a) (refused.Order b) p q = ap refused.Order (same_disordered bytes a b p q)
same_reason bytes refused.NoMemory b p q = absurd p
same_reason bytes a refused.NoMemory p q = absurd q

-- ---- what replay ensures, from what it found

abbrev pub IsFound : List ℕ → Vec Record → Type 0
IsFound bytes read = (number : ℕ) × (number < 2 ^ 64) × Holds number read.items bytes × Ascends 0 read.items

pub only_read : (bytes : List ℕ) (result : Result (Vec Record) SegmentRefused) → IfOk result (IsFound bytes) → IfErr result (λ why. why ≢ refused.NoMemory → HasReason bytes why)
    → (number : ℕ) (records : List Record) → Holds number records bytes → Ascends 0 records → MatchResult result (λ read. read.items ≡ records) (λ why. why ≡ refused.NoMemory)
only_read bytes (Ok read) found why number records holds up = (same_held bytes found.0 number read.items records found.2 holds found.3 up).0
only_read bytes (Err (refused.Header at)) found why number records holds up = absurd (no_reason bytes number records (refused.Header at) holds up (why (λ e. cc)))
only_read bytes (Err (refused.Record at)) found why number records holds up = absurd (no_reason bytes number records (refused.Record at) holds up (why (λ e. cc)))
only_read bytes (Err (refused.Order at)) found why number records holds up = absurd (no_reason bytes number records (refused.Order at) holds up (why (λ e. cc)))
only_read bytes (Err refused.NoMemory) found why number records holds up = refl

pub exact_read : (bytes : List ℕ) (result : Result (Vec Record) SegmentRefused) → IfOk result (IsFound bytes) → IfErr result (λ why. why ≢ refused.NoMemory → HasReason bytes why)
    → (why : SegmentRefused) → HasReason bytes why → MatchResult result (λ _. ⊥) (λ told. (told ≡ why) ⊎ (told ≡ refused.NoMemory))
exact_read bytes (Ok read) found told why reason = no_reason bytes found.0 read.items why found.2 found.3 reason
exact_read bytes (Err (refused.Header at)) found told why reason = inl (same_reason bytes (refused.Header at) why (told (λ e. cc)) reason)
exact_read bytes (Err (refused.Record at)) found told why reason = inl (same_reason bytes (refused.Record at) why (told (λ e. cc)) reason)
exact_read bytes (Err (refused.Order at)) found told why reason = inl (same_reason bytes (refused.Order at) why (told (λ e. cc)) reason)
exact_read bytes (Err refused.NoMemory) found told why reason = inr refl

-- ---- laws of segments

pub holds_spelling : (number : ℕ) (records : List Record) → Holds number records (segment_bytes number records)
unfolding segment_bytes
holds_spelling number records = record { rest = 0 ∷ []; parts = refl; shut = λ e. cc }

pub same_segment : (m n : ℕ) (a b : List Record) → m < 2 ^ 64 → n < 2 ^ 64 → Ascends 0 a → Ascends 0 b → segment_bytes m a ≡ segment_bytes n b → (m ≡ n) × (a ≡ b)
same_segment m n a b m_fits n_fits up up' e =
    let same = same_held (segment_bytes m a) m n a b (holds_spelling m a) (subst (Holds n b) (sym e) (holds_spelling n b)) up up' in
    (same_head m n m_fits n_fits same.1, same.0)

abbrev is_one : Record → Option Record
is_one r = Some r

some_is : (a b : Record) → is_one a ≡ is_one b → a ≡ b
some_is a b e = cc

below_each : (last : ℕ) (records : List Record) (j : ℕ) (b : Record) → Ascends last records → slice_get records j ≡ Some b → last < record_seq b
below_each last [] j b up e = absurd cc
below_each last (r ∷ rs) zero b up e = subst (λ (q : Record). last < record_seq q) (some_is r b e) up.1
below_each last (r ∷ rs) (suc j) b up e = omega (arith, up.1, below_each (record_seq r) rs j b up.2 e)

pub ascending : (last : ℕ) (records : List Record) (i j : ℕ) (a b : Record) → Ascends last records → i < j → slice_get records i ≡ Some a → slice_get records j ≡ Some b → record_seq a < record_seq b
ascending last [] i j a b up lt e f = absurd cc
ascending last (r ∷ rs) zero zero a b up lt e f = absurd (omega (arith, lt))
ascending last (r ∷ rs) zero (suc j) a b up lt e f = subst (λ (q : Record). record_seq q < record_seq b) (some_is r a e) (below_each (record_seq r) rs j b up.2 f)
ascending last (r ∷ rs) (suc i) zero a b up lt e f = absurd (omega (arith, lt))
ascending last (r ∷ rs) (suc i) (suc j) a b up lt e f = ascending (record_seq r) rs i j a b up.2 (omega (arith, lt)) e f
