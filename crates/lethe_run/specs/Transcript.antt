-- Which lines may answer a script, and which text they print. The history is read off the lines: no other change is in it.
use Rattle.std.specs.Prelude.{◌≡◌, ◌⊎◌, ℕ, zero, suc, ◌+◌, ◌-◌, ◌<◌, ◌≤◌, Bool, true, false, max, List, [], ◌∷◌, ◌++◌, length, take, filter, filter_map, Option, Some, None, IfSome, IsSome, IsSomeAnd, IsPermutation, ◌==◌}
use Rattle.std.specs.List.{flat_map, list_any}
use Rattle.lethe_base.specs.declared.call.Call.{Call}
use Rattle.lethe_base.specs.declared.call.Call.TheVariants as call
use Rattle.lethe_base.specs.declared.call.Did.TheVariants as did
use Rattle.lethe_base.specs.Keys.{Bytes}
use Rattle.lethe_base.specs.Counts.{Rose}
use Rattle.lethe_base.specs.Configuration.{greatest_of}
use Rattle.lethe_base.specs.Limits.{max_place}
use Rattle.lethe_core.specs.Merges.{due_shape}
use Rattle.lethe_base.specs.declared.config.Field.TheVariants.{Buffer}
use Rattle.lethe_base.specs.declared.config.Fields.{Fields}
use Rattle.lethe_build.specs.Built.{most_numbers}
use Rattle.lethe_base.specs.History.{History, Change, change_at, after, IsLegal}
use Rattle.lethe_base.specs.Read.{Read, Answer, answer}
use Rattle.lethe_base.specs.Read as answers
use Rattle.lethe_script.specs.declared.order.Order.{Order}
use Rattle.lethe_script.specs.Slots.{orders_by}
use Rattle.lethe_script.specs.declared.order.Act.{Act}
use Rattle.lethe_script.specs.declared.order.Act.TheVariants.{Put, Get, Scan, Delete, Erase, Stat, Tick, Pin, PinGet, PinScan, Unpin}
use Rattle.lethe_run.specs.declared.reply.Line.{Line}
use Rattle.lethe_run.specs.declared.reply.Line.TheVariants as line
use Rattle.lethe_run.specs.declared.reply.Reply.{Reply}
use Rattle.lethe_run.specs.declared.reply.Reply.TheVariants.{Done, Got, Scanned, Counted, Pinned, PinGot, PinScanned, Unpinned, Fault, Stopped, Exhausted, Backwards, Barred, ReadFault, Damaged}
use Rattle.lethe_run.specs.declared.reply.Reply.TheVariants as reply
use Rattle.lethe_stored.specs.Kept.{IsFor, certificates}
use Rattle.lethe_stored.specs.Left.{without_failed}
use Rattle.lethe_stored.specs.Stored.{Stored, IsCoherent, layout_of}
use Rattle.lethe_engine.specs.Ticks.{IsCertificateAt}
use Rattle.lethe_engine.specs.Stats.{IsStatOf}
use Rattle.lethe_engine.specs.declared.ticking.Ticked.{Ticked}
use Rattle.lethe_engine.specs.declared.telling.Stat as stats
use Rattle.lethe_engine.specs.Reads.{listed}
use Rattle.lethe_run.specs.Printed.{lines_text}

-- What is known of a run's store and disk.
pub record Course : Type 1 where
  pub config : Fields
  -- its counts of faults, at the start and now
  pub before : ℕ
  pub now : ℕ
  -- the number of the next object at the start, and the device calls since
  pub next : ℕ
  pub calls : ℕ
  -- its ports can fail
  pub PortsFail : Type 0

-- A run: the configuration that it asks for, and how it found its disk, the count of faults, the number of the next object, and the moment.
pub record Start : Type 0 where
  pub config : Fields
  pub faults : ℕ
  pub next : ℕ
  pub moment : ℕ

-- from there up to a count of faults and a moment
abbrev pub course : Type 0 → Start → ℕ → ℕ → Course
course PortsFail start faults moment = record { config = start.config; before = start.faults; now = faults; next = start.next; calls = moment - start.moment; PortsFail = PortsFail }

-- what the meaning of a line depends on
pub record Told : Type 1 where
  -- the whole history
  pub history : History
  pub course : Course

-- the change that an act asks for
abbrev pub call_of : Act → Option Call
call_of (Put key dkey value) = Some (call.Put key dkey value)
call_of (Get key) = None
call_of (Scan lo hi) = None
call_of (Delete key) = Some (call.Delete key)
call_of (Erase range) = Some (call.Erase range)
call_of Stat = None
call_of (Tick to) = Some (call.Tick to)
call_of (Pin slot) = None
call_of (PinGet slot key) = None
call_of (PinScan slot lo hi) = None
call_of (Unpin slot) = None

-- the same, but for a tick
abbrev pub change_of : Act → Option Call
change_of (Put key dkey value) = Some (call.Put key dkey value)
change_of (Get key) = None
change_of (Scan lo hi) = None
change_of (Delete key) = Some (call.Delete key)
change_of (Erase range) = Some (call.Erase range)
change_of Stat = None
change_of (Tick to) = None
change_of (Pin slot) = None
change_of (PinGet slot key) = None
change_of (PinScan slot lo hi) = None
change_of (Unpin slot) = None

-- the read that an act asks for
abbrev pub read_of : Act → Option Read
read_of (Put key dkey value) = None
read_of (Get key) = Some (answers.Get key)
read_of (Scan lo hi) = Some (answers.Scan lo hi)
read_of (Delete key) = None
read_of (Erase range) = None
read_of Stat = None
read_of (Tick to) = None
read_of (Pin slot) = None
read_of (PinGet slot key) = None
read_of (PinScan slot lo hi) = None
read_of (Unpin slot) = None

-- the read that it asks for of what a slot holds
abbrev pub slot_read_of : Act → Option Read
slot_read_of (Put key dkey value) = None
slot_read_of (Get key) = None
slot_read_of (Scan lo hi) = None
slot_read_of (Delete key) = None
slot_read_of (Erase range) = None
slot_read_of Stat = None
slot_read_of (Tick to) = None
slot_read_of (Pin slot) = None
slot_read_of (PinGet slot key) = Some (answers.Get key)
slot_read_of (PinScan slot lo hi) = Some (answers.Scan lo hi)
slot_read_of (Unpin slot) = None

-- it asks for a read, of the store or of what a slot holds
abbrev pub IsRead : Act → Type 0
IsRead act = IsSome (read_of act) ⊎ IsSome (slot_read_of act)

-- the change of a caller stands done at a place
abbrev pub IsDoneAt : History → ℕ → ℕ → Call → Type 0
IsDoneAt h caller place call = change_at h place ≡ Some (record { caller = caller; call = call; did = did.Done })

-- a read is answered as the map was behind so many places
pub record IsAnswerAt (h : History) (point : ℕ) (read : Read) (given : Answer) : Type 0 where
  pub within : point ≤ length h
  pub is : given ≡ answer (after (take point h)) read

-- A pin that was made behind so many places has a limit above the clock there, and at most a threshold above it.
pub record IsPinAt (told : Told) (point limit : ℕ) : Type 0 where
  pub within : point ≤ length told.history
  pub above : (after (take point told.history)).clock < limit
  pub near : limit ≤ told.course.config.threshold + (after (take point told.history)).clock

-- The store is told as a whole as it was behind so many places: the clock, and of something stored that stands for that history the erases, the files and their
-- tombstones.
pub record IsStatAt (told : Told) (point : ℕ) (stat : stats.Stat) : Type 0 where
  pub within : point ≤ length told.history
  pub clock : stat.clock ≡ (after (take point told.history)).clock
  pub stored : Stored
  pub config_is : stored.manifest.config ≡ told.course.config
  pub coherent : IsCoherent stored
  pub stands : IsFor (without_failed (take point told.history)) stored
  pub shape : IsStatOf (due_shape (layout_of stored)) stat

-- The tick to a time stands done at its place. A certificate is there exactly where the time is at least the threshold, with that clock and the time a threshold before it, and its
-- number is that of the ticks at the threshold or later, up to its place.
pub record IsTickAt (told : Told) (caller to : ℕ) (ticked : Ticked) : Type 0 where
  pub clock : ticked.clock ≡ to
  pub done : IsDoneAt told.history caller ticked.place (call.Tick to)
  pub due : IsCertificateAt told.course.config.threshold to ticked.certificate
  pub number : IfSome ticked.certificate (λ certificate. certificate.number ≡ certificates told.course.config.threshold (take ticked.place told.history))

-- behind so many places the clock, which is this, is ahead of the time
pub record IsAhead (told : Told) (point clock to : ℕ) : Type 0 where
  pub within : point ≤ length told.history
  pub is : clock ≡ (after (take point told.history)).clock
  pub ahead : to < clock

-- The disk failed in the change at a place, and these are its counts of faults before and after.
pub record IsFailedAt (told : Told) (place before after : ℕ) : Type 0 where
  pub change : Change
  pub is : change_at told.history place ≡ Some change
  pub failed : change.did ≡ did.Failed before after
  pub rose : Rose before after
  pub from : told.course.before ≤ before
  pub upto : after ≤ told.course.now

-- it was this change of the caller
pub record IsFaultOf (told : Told) (caller place before after : ℕ) (call : Call) : Type 0 where
  pub fails : IsFailedAt told place before after
  pub who : fails.change.caller ≡ caller
  pub what : fails.change.call ≡ call

-- the disk failed in the change at a place
pub record WasStopped (told : Told) (at : ℕ) : Type 0 where
  pub before : ℕ
  pub after : ℕ
  pub fails : IsFailedAt told at before after

-- a change draws at most so many numbers of objects: those of the files of a full buffer, of a segment and of two manifests
abbrev pub most_of_a_change : ℕ
most_of_a_change = most_numbers (greatest_of Buffer) + 3

-- Numbers of objects run out behind so many changes: where each device call since the start has drawn one, those of one more change reach the last. It may also
-- merge entries, of which there are no more than changes.
abbrev pub IsShort : ℕ → Course → Type 0
IsShort n course = max_place ≤ course.next + course.calls + most_of_a_change + most_numbers n

-- all places are used up, or the numbers of objects
abbrev pub IsUsedUp : Told → ℕ → Type 0
IsUsedUp told last = (last ≡ max_place) × ((length told.history ≡ max_place) ⊎ IsShort (length told.history) told.course)

-- What a reply means: a change stands at its place, done or failed, or isn't made; a read, of the store or of what a slot holds, is a map's at its printed point, or isn't
-- answered. A fetch may fail in both, since a change may merge files. A disk that tells what it holds has no damaged page.
abbrev pub Answers : Told → ℕ → Act → Reply → Type 0
Answers told caller act (Done place) = IsSomeAnd (change_of act) (IsDoneAt told.history caller place)
Answers told caller act (reply.Ticked ticked) = (to : ℕ) × (act ≡ Tick to) × IsTickAt told caller to ticked
Answers told caller act (Backwards point clock) = (to : ℕ) × (act ≡ Tick to) × IsAhead told point clock to
Answers told caller act (Barred number limit) = (to : ℕ) × (act ≡ Tick to) × (limit ≤ to)
Answers told caller act (Got point held) = IsSomeAnd (read_of act) (λ read. IsAnswerAt told.history point read (answers.Found held))
Answers told caller act (Scanned point pairs) = IsSomeAnd (read_of act) (λ read. IsAnswerAt told.history point read (listed pairs))
Answers told caller act (Counted point stat) = (act ≡ Stat) × IsStatAt told point stat
Answers told caller act (Pinned point number limit) = ((slot : ℕ) × (act ≡ Pin slot)) × IsPinAt told point limit
Answers told caller act (PinGot number point held) = IsSomeAnd (slot_read_of act) (λ read. IsAnswerAt told.history point read (answers.Found held))
Answers told caller act (PinScanned number point pairs) = IsSomeAnd (slot_read_of act) (λ read. IsAnswerAt told.history point read (listed pairs))
Answers told caller act (Unpinned point number) = ((slot : ℕ) × (act ≡ Unpin slot)) × (point ≤ length told.history)
Answers told caller act (Fault place before after) = IsSomeAnd (call_of act) (IsFaultOf told caller place before after)
Answers told caller act (Stopped at) = IsSome (call_of act) × WasStopped told at
Answers told caller act (Exhausted last) = IsSome (call_of act) × IsUsedUp told last
Answers told caller act ReadFault = (IsRead act ⊎ IsSome (call_of act)) × told.course.PortsFail
Answers told caller act (Damaged page) = ⊥

-- the lines of a phase
abbrev pub Lines : Type 0
Lines = List Line

-- the callers that a script may have
abbrev pub callers : List ℕ
callers = 1 ∷ 2 ∷ 3 ∷ 4 ∷ 5 ∷ 6 ∷ 7 ∷ 8 ∷ []

-- the orders of a phase as their lines are printed: caller by caller, and each one's as they stand in the script
abbrev pub printed : List Order → List Order
printed orders = flat_map (λ caller. orders_by caller orders) callers

-- a line for each order, which answers its caller
abbrev pub Answered : Told → List Order → List Line → Type 0
Answered told [] [] = Unit {0}
Answered told (order ∷ orders) (line.Answer caller reply ∷ lines) = (caller ≡ order.caller) × Answers told order.caller order.act reply × Answered told orders lines
Answered told [] (line ∷ lines) = ⊥
Answered told (order ∷ orders) [] = ⊥

-- the place of the change that a line answers, done or failed
abbrev pub place_of : Line → Option ℕ
place_of (line.Answer caller (Done place)) = Some place
place_of (line.Answer caller (reply.Ticked ticked)) = Some ticked.place
place_of (line.Answer caller (Backwards point clock)) = None
place_of (line.Answer caller (Barred number limit)) = None
place_of (line.Answer caller (Got point held)) = None
place_of (line.Answer caller (Scanned point pairs)) = None
place_of (line.Answer caller (Counted point stat)) = None
place_of (line.Answer caller (Pinned point number limit)) = None
place_of (line.Answer caller (PinGot number point held)) = None
place_of (line.Answer caller (PinScanned number point pairs)) = None
place_of (line.Answer caller (Unpinned point number)) = None
place_of (line.Answer caller (Fault place before after)) = Some place
place_of (line.Answer caller (Stopped at)) = None
place_of (line.Answer caller (Exhausted last)) = None
place_of (line.Answer caller ReadFault) = None
place_of (line.Answer caller (Damaged page)) = None

-- the place of the change that a line answers with `ok`
abbrev pub ok_place : Line → Option ℕ
ok_place (line.Answer caller (Done place)) = Some place
ok_place (line.Answer caller (reply.Ticked ticked)) = Some ticked.place
ok_place (line.Answer caller (Backwards point clock)) = None
ok_place (line.Answer caller (Barred number limit)) = None
ok_place (line.Answer caller (Got point held)) = None
ok_place (line.Answer caller (Scanned point pairs)) = None
ok_place (line.Answer caller (Counted point stat)) = None
ok_place (line.Answer caller (Pinned point number limit)) = None
ok_place (line.Answer caller (PinGot number point held)) = None
ok_place (line.Answer caller (PinScanned number point pairs)) = None
ok_place (line.Answer caller (Unpinned point number)) = None
ok_place (line.Answer caller (Fault place before after)) = None
ok_place (line.Answer caller (Stopped at)) = None
ok_place (line.Answer caller (Exhausted last)) = None
ok_place (line.Answer caller ReadFault) = None
ok_place (line.Answer caller (Damaged page)) = None

-- so many places, the first of them behind n
abbrev pub places_behind : ℕ → ℕ → List ℕ
places_behind n zero = []
places_behind n (suc more) = suc n ∷ places_behind (suc n) more

-- whether a line answers a caller
abbrev pub is_of : ℕ → Line → Bool
is_of caller (line.Answer other reply) = other == caller

-- all places up to this one stood when the reply was made; what isn't made or answered shows none, nor does a read of what a slot holds, which may be older
abbrev pub shown_by : Reply → ℕ
shown_by (Done place) = place
shown_by (reply.Ticked ticked) = ticked.place
shown_by (Backwards point clock) = 0
shown_by (Barred number limit) = 0
shown_by (Got point held) = point
shown_by (Scanned point pairs) = point
shown_by (Counted point stat) = point
shown_by (Pinned point number limit) = point
shown_by (PinGot number point held) = 0
shown_by (PinScanned number point pairs) = 0
shown_by (Unpinned point number) = point
shown_by (Fault place before after) = place
shown_by (Stopped at) = 0
shown_by (Exhausted last) = 0
shown_by ReadFault = 0
shown_by (Damaged page) = 0

-- a change stands above what its caller had seen, and what is told isn't below it
abbrev pub IsBehind : ℕ → Reply → Type 0
IsBehind seen (Done place) = seen < place
IsBehind seen (reply.Ticked ticked) = seen < ticked.place
IsBehind seen (Backwards point clock) = seen ≤ point
IsBehind seen (Barred number limit) = Unit {0}
IsBehind seen (Got point held) = seen ≤ point
IsBehind seen (Scanned point pairs) = seen ≤ point
IsBehind seen (Counted point stat) = seen ≤ point
IsBehind seen (Pinned point number limit) = seen ≤ point
IsBehind seen (PinGot number point held) = Unit {0}
IsBehind seen (PinScanned number point pairs) = Unit {0}
IsBehind seen (Unpinned point number) = seen ≤ point
IsBehind seen (Fault place before after) = seen < place
IsBehind seen (Stopped at) = Unit {0}
IsBehind seen (Exhausted last) = Unit {0}
IsBehind seen ReadFault = Unit {0}
IsBehind seen (Damaged page) = Unit {0}

-- The lines of one caller, who has seen so many places before them, in a phase at whose end so many stand.
abbrev pub Sees : ℕ → ℕ → List Line → Type 0
Sees seen end [] = Unit {0}
Sees seen end (line.Answer caller reply ∷ lines) = IsBehind seen reply × (shown_by reply ≤ end) × Sees (max seen (shown_by reply)) end lines

-- With n places before it, a change takes the next place, done or failed, and a read is made at n, or at an earlier point where a slot holds that. What isn't made says which
-- place is the last, unless it is for want of numbers. Then there are m.
abbrev pub Follows : Course → ℕ → Reply → ℕ → Type 0
Follows course n (Done place) m = (place ≡ suc n) × (m ≡ suc n)
Follows course n (reply.Ticked ticked) m = (ticked.place ≡ suc n) × (m ≡ suc n)
Follows course n (Backwards point clock) m = (point ≡ n) × (m ≡ n)
Follows course n (Barred number limit) m = m ≡ n
Follows course n (Got point held) m = (point ≡ n) × (m ≡ n)
Follows course n (Scanned point pairs) m = (point ≡ n) × (m ≡ n)
Follows course n (Counted point stat) m = (point ≡ n) × (m ≡ n)
Follows course n (Pinned point number limit) m = (point ≡ n) × (m ≡ n)
Follows course n (PinGot number point held) m = (point ≤ n) × (m ≡ n)
Follows course n (PinScanned number point pairs) m = (point ≤ n) × (m ≡ n)
Follows course n (Unpinned point number) m = (point ≡ n) × (m ≡ n)
Follows course n (Fault place before after) m = (place ≡ suc n) × (m ≡ suc n)
Follows course n (Stopped at) m = (at ≡ n) × (m ≡ n)
Follows course n (Exhausted last) m = ((n ≡ last) ⊎ IsShort n course) × (m ≡ n)
Follows course n ReadFault m = m ≡ n
Follows course n (Damaged page) m = m ≡ n

-- the lines follow one another so
abbrev pub InTurn : Course → ℕ → List Line → ℕ → Type 0
InTurn course n [] m = m ≡ n
InTurn course n (line.Answer caller reply ∷ lines) m = (next : ℕ) × Follows course n reply next × InTurn course next lines m

-- these lines in some order, in which those of each caller stand as they are printed
abbrev pub AreTurned : List Line → List Line → Type 0
AreTurned lines turned = (caller : ℕ) → filter (is_of caller) turned ≡ filter (is_of caller) lines

-- From the history `start` on, the orders of one phase may be answered by these lines, and then the history is h. There is one order of the lines, in which those of each caller stand as
-- they are printed, and each is answered at the place where it stands in it.
pub record IsServed (course : Course) (start : History) (orders : List Order) (lines turned : List Line) (h : History) : Type 0 where
  pub begins : (added : History) × (h ≡ start ++ added)
  pub legal : IsLegal h
  pub answered : Answered (record { history = h; course = course }) (printed orders) lines
  -- the changes that were added are those that the lines answer, each once
  pub once : IsPermutation (places_behind (length start) (length h - length start)) (filter_map place_of lines)
  pub seen : (caller : ℕ) → Sees (length start) (length h) (filter (is_of caller) lines)
  pub order : AreTurned lines turned
  pub turns : InTurn course (length start) turned (length h)

-- phase after phase
abbrev pub AreServed : Course → History → List (List Order) → List (List Line) → List (List Line) → History → Type 0
AreServed course start [] [] [] h = h ≡ start
AreServed course start (orders ∷ phases) (lines ∷ more) (turned ∷ rest) h = (middle : History) × IsServed course start orders lines turned middle × AreServed course middle phases more rest h
AreServed course start [] [] (turned ∷ rest) h = ⊥
AreServed course start [] (lines ∷ more) rest h = ⊥
AreServed course start (orders ∷ phases) [] rest h = ⊥
AreServed course start (orders ∷ phases) (lines ∷ more) [] h = ⊥

-- the text of all phases
abbrev pub text_of : List (List Line) → Bytes
text_of lines = flat_map lines_text lines

-- a change that wasn't made or failed, or a read that wasn't answered; a tick behind the clock or barred by a pin is none
abbrev pub is_refusal : Line → Bool
is_refusal (line.Answer caller (Done place)) = false
is_refusal (line.Answer caller (reply.Ticked ticked)) = false
is_refusal (line.Answer caller (Backwards point clock)) = false
is_refusal (line.Answer caller (Barred number limit)) = false
is_refusal (line.Answer caller (Got point held)) = false
is_refusal (line.Answer caller (Scanned point pairs)) = false
is_refusal (line.Answer caller (Counted point stat)) = false
is_refusal (line.Answer caller (Pinned point number limit)) = false
is_refusal (line.Answer caller (PinGot number point held)) = false
is_refusal (line.Answer caller (PinScanned number point pairs)) = false
is_refusal (line.Answer caller (Unpinned point number)) = false
is_refusal (line.Answer caller (Fault place before after)) = true
is_refusal (line.Answer caller (Stopped at)) = true
is_refusal (line.Answer caller (Exhausted last)) = true
is_refusal (line.Answer caller ReadFault) = true
is_refusal (line.Answer caller (Damaged page)) = true

abbrev pub has_refusal : List (List Line) → Bool
has_refusal lines = list_any (list_any is_refusal) lines
