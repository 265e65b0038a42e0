-- Which lines may answer a script on any disk, whether or not it tells what it holds: whose line each is, of which kind, at which place, what stops a store, what its clock is and
-- a certificate says, why numbers ran out, which pins are held, and what the slots hold. What a read found, and a certificate's digest, isn't told.
use Rattle.std.specs.Prelude.{◌≡◌, ◌⊎◌, ◌≤◌, ◌<◌, ◌+◌, ◌==◌, ℕ, List, [], ◌∷◌, filter, map, slice_index_or, sum_by, Option, Some, None, IsSome}
use Rattle.std.specs.List.{flat_map}
use Rattle.lethe_base.specs.Counts.{Rose}
use Rattle.lethe_base.specs.Keys.{Bytes}
use Rattle.lethe_base.specs.Limits.{max_place}
use Rattle.lethe_base.specs.declared.config.Fields.{Fields}
use Rattle.lethe_build.specs.Built.{most_numbers}
use Rattle.lethe_cert.specs.declared.certificate.Certificate.{Certificate}
use Rattle.lethe_core.specs.View.{View}
use Rattle.lethe_header.specs.Facts.{lines_of}
use Rattle.lethe_header.specs.Headers.{entries_in}
use Rattle.lethe_manifest.specs.declared.manifest.Cited.{Cited}
use Rattle.lethe_state.specs.Clock.{Clock, clock_at, clock_of}
use Rattle.lethe_stored.specs.Files.{Parts}
use Rattle.lethe_script.specs.declared.order.Act.{Act}
use Rattle.lethe_script.specs.declared.order.Act.TheVariants.{Get, Scan, Stat, Tick, Pin}
use Rattle.lethe_script.specs.declared.order.Order.{Order}
use Rattle.lethe_script.specs.Slots.{orders_by}
use Rattle.lethe_run.specs.declared.reply.Line.{Line}
use Rattle.lethe_run.specs.declared.reply.Line.TheVariants as line
use Rattle.lethe_run.specs.declared.reply.Reply.{Reply}
use Rattle.lethe_run.specs.declared.reply.Reply.TheVariants.{Done, Ticked, Got, Scanned, Counted, Pinned, PinGot, PinScanned, Unpinned, Fault, Stopped, Exhausted, Backwards, Barred, ReadFault, Damaged}
use Rattle.lethe_run.specs.Pins.{InPins, Pins, no_pins, pins_of}
use Rattle.lethe_run.specs.Refusals.{all_of}
use Rattle.lethe_run.specs.Slots.{AreInSlots, Slots, no_slots}
use Rattle.lethe_run.specs.Transcript.{AreTurned, IsRead, call_of, change_of, is_of, most_of_a_change, printed}

-- How many places are taken, the place of the change that failed, if one did, the clock, and the pins; and as they are in memory the next number of an object, and how many entries the
-- headers of all files count.
pub record Standing : Type 0 where
  pub count : ℕ
  pub failed : Option ℕ
  pub clock : Clock
  pub pins : Pins
  pub next : ℕ
  pub entries : ℕ

-- how many entries the headers count of the files that are cited, as their readers have them by level
abbrev pub entries_of : List (List Parts) → List Cited → ℕ
entries_of levels files = sum_by (λ cited. sum_by (λ parts. entries_in (lines_of parts.header.tiles)) (filter (λ parts. parts.header.no == cited.no) (slice_index_or levels cited.level []))) files

abbrev pub standing_of : View → Standing
standing_of view = record {
  count = view.state.count;
  failed = view.state.stopped;
  clock = clock_of view.state.manifest;
  pins = pins_of view;
  next = view.state.next;
  entries = entries_of view.levels view.state.manifest.files;
}

-- numbers may have been drawn, and files made; all else is as it was
abbrev pub IsLater : Standing → Standing → Type 0
IsLater s t = (s.next ≤ t.next) × (t ≡ record s { next = t.next; entries = t.entries })

-- the numbers of one more change, and of a merge of as many entries as there are, reach the last one
abbrev pub IsDrawn : Standing → Type 0
IsDrawn s = max_place ≤ s.next + most_of_a_change + most_numbers s.entries

-- the certificate of a tick to a time: none before the threshold, else what the clock behind it has prepared, with a digest
abbrev pub IsCertificateOf : Clock → ℕ → Option Certificate → Type 0
IsCertificateOf clock to None = to < clock.threshold
IsCertificateOf clock to (Some certificate) =
    (clock.threshold ≤ to) × ((clock_at clock to).certificate ≡ Some (record { number = certificate.number; clock = certificate.clock; before = certificate.before }))

-- a change, where none has failed
abbrev pub MayChange : Act → Standing → Type 0
MayChange act s = IsSome (call_of act) × (s.failed ≡ None)

-- a read isn't answered, which leaves all as it was; or a change isn't made, for which a file was read
abbrev pub IsUnread : Act → Standing → Standing → Type 0
IsUnread act s t = (IsRead act × (t ≡ s)) ⊎ (MayChange act s × (t ≡ record s { next = t.next; entries = t.entries }))

-- A reply of the act's kind, and what it says of the places. A change takes the next place, done or failed, and a read is made behind so many, but for one of what a slot holds;
-- behind a change that failed each change is told so. A tick that is done isn't behind the clock and moves it to its time, and nothing else does; it has the certificate that is due.
-- A change isn't made for want of places, or of numbers, which have nearly all been drawn. What the disk's counts of faults were when it failed lies within these two, and they rose.
-- Ports can fail only where this says so.
abbrev pub IsToldOfPlaces : Type 0 → ℕ → ℕ → Act → Standing → Reply → Standing → Type 0
IsToldOfPlaces PortsFail from upto act s (Done place) t =
    IsSome (change_of act) × (s.failed ≡ None) × (place ≡ s.count + 1) × (t ≡ record s { count = place; failed = None; next = t.next; entries = t.entries })
IsToldOfPlaces PortsFail from upto act s (Ticked ticked) t =
    ((to : ℕ) × (act ≡ Tick to) × (ticked.clock ≡ to)) × (s.failed ≡ None) × (ticked.place ≡ s.count + 1)
    × (s.clock.time ≤ ticked.clock) × IsCertificateOf s.clock ticked.clock ticked.certificate
    × (t ≡ record s { count = ticked.place; failed = None; clock = clock_at s.clock ticked.clock; next = t.next; entries = t.entries })
IsToldOfPlaces PortsFail from upto act s (Backwards point clock) t =
    ((to : ℕ) × (act ≡ Tick to) × (to < clock)) × (s.failed ≡ None) × (point ≡ s.count) × (clock ≡ s.clock.time) × (t ≡ s)
IsToldOfPlaces PortsFail from upto act s (Barred number limit) t = ((to : ℕ) × (act ≡ Tick to) × (limit ≤ to)) × (s.failed ≡ None) × (t ≡ s)
IsToldOfPlaces PortsFail from upto act s (Fault place before after) t =
    MayChange act s × (place ≡ s.count + 1) × (from ≤ before) × Rose before after × (after ≤ upto) × (t ≡ record s { count = place; failed = Some place; next = t.next; entries = t.entries })
IsToldOfPlaces PortsFail from upto act s (Stopped at) t = IsSome (call_of act) × (s.failed ≡ Some at) × (t ≡ s)
IsToldOfPlaces PortsFail from upto act s (Exhausted last) t =
    MayChange act s × (last ≡ max_place) × ((s.count ≡ max_place) ⊎ IsDrawn t) × (t ≡ record s { next = t.next; entries = t.entries })
IsToldOfPlaces PortsFail from upto act s (Got point held) t = ((key : Bytes) × (act ≡ Get key)) × (point ≡ s.count) × (t ≡ s)
IsToldOfPlaces PortsFail from upto act s (Scanned point pairs) t = ((lo hi : Bytes) × (act ≡ Scan lo hi)) × (point ≡ s.count) × (t ≡ s)
IsToldOfPlaces PortsFail from upto act s (Counted point stat) t = (act ≡ Stat) × (point ≡ s.count) × (stat.clock ≡ s.clock.time) × (t ≡ s)
IsToldOfPlaces PortsFail from upto act s (Pinned point number limit) t = ((slot : ℕ) × (act ≡ Pin slot)) × (point ≡ s.count) × (t ≡ record s { pins = t.pins })
IsToldOfPlaces PortsFail from upto act s (PinGot number point held) t = t ≡ s
IsToldOfPlaces PortsFail from upto act s (PinScanned number point pairs) t = t ≡ s
IsToldOfPlaces PortsFail from upto act s (Unpinned point number) t = (point ≡ s.count) × (t ≡ record s { pins = t.pins })
IsToldOfPlaces PortsFail from upto act s ReadFault t = IsUnread act s t × PortsFail
IsToldOfPlaces PortsFail from upto act s (Damaged page) t = IsUnread act s t

-- and of the pins; the next number doesn't fall
abbrev pub IsTold : Type 0 → ℕ → ℕ → Act → Standing → Reply → Standing → Type 0
IsTold PortsFail from upto act s reply t = IsToldOfPlaces PortsFail from upto act s reply t × InPins reply s.pins t.pins × (s.next ≤ t.next)

-- where numbers may have been drawn before
abbrev pub IsToldBehind : Type 0 → ℕ → ℕ → Act → Standing → Reply → Standing → Type 0
IsToldBehind PortsFail from upto act s reply t = (before : Standing) × IsLater s before × IsTold PortsFail from upto act before reply t

-- a line of its caller for each order, one after another
abbrev pub AreTold : Type 0 → ℕ → ℕ → List Order → Standing → List Line → Standing → Type 0
AreTold PortsFail from upto [] s [] t = IsLater s t
AreTold PortsFail from upto (order ∷ orders) s (line.Answer caller reply ∷ lines) t =
    (caller ≡ order.caller) × (middle : Standing) × IsToldBehind PortsFail from upto order.act s reply middle × AreTold PortsFail from upto orders middle lines t
AreTold PortsFail from upto [] s (line ∷ lines) t = ⊥
AreTold PortsFail from upto (order ∷ orders) s [] t = ⊥

-- whose line it is
abbrev pub caller_in : Line → ℕ
caller_in (line.Answer caller reply) = caller

-- The lines of a phase are printed caller by caller, and in one order, in which each caller's stand as they are printed, each is answered where it stands.
pub record IsPhaseTold (PortsFail : Type 0) (from upto : ℕ) (orders : List Order) (s : Standing) (lines turned : List Line) (t : Standing) : Type 0 where
  pub callers : map caller_in lines ≡ map (λ order. order.caller) (printed orders)
  pub order : AreTurned lines turned
  -- the orders in that order
  pub asked : List Order
  pub are : (caller : ℕ) → orders_by caller asked ≡ orders_by caller orders
  pub told : AreTold PortsFail from upto asked s turned t

-- phase after phase
abbrev pub AreToldThrough : Type 0 → ℕ → ℕ → List (List Order) → Standing → List (List Line) → List (List Line) → Standing → Type 0
AreToldThrough PortsFail from upto [] s [] [] t = t ≡ s
AreToldThrough PortsFail from upto (orders ∷ phases) s (lines ∷ more) (turned ∷ rest) t =
    (middle : Standing) × IsPhaseTold PortsFail from upto orders s lines turned middle × AreToldThrough PortsFail from upto phases middle more rest t
AreToldThrough PortsFail from upto [] s [] (turned ∷ rest) t = ⊥
AreToldThrough PortsFail from upto [] s (lines ∷ more) rest t = ⊥
AreToldThrough PortsFail from upto (orders ∷ phases) s [] rest t = ⊥
AreToldThrough PortsFail from upto (orders ∷ phases) s (lines ∷ more) [] t = ⊥

-- Over all phases the lines of a caller answer its orders as its slots allow, of which none holds a pin at first.
abbrev pub AreSlottedFor : List (List Order) → List (List Line) → ℕ → Type 0
AreSlottedFor phases lines caller = (held : Slots) × AreInSlots (orders_by caller (flat_map (λ orders. orders) phases)) no_slots (filter (is_of caller) (all_of lines)) held

-- The lines, in this order, answer these phases from some number of places on, of which none has failed, where no pin was made, by a clock with the configuration's threshold.
pub record IsPlausible (PortsFail : Type 0) (config : Fields) (from upto : ℕ) (phases : List (List Order)) (lines turned : List (List Line)) : Type 0 where
  pub opened : Standing
  pub threshold : opened.clock.threshold ≡ config.threshold
  pub runs : opened.failed ≡ None
  pub unpinned : opened.pins ≡ no_pins
  pub end : Standing
  pub told : AreToldThrough PortsFail from upto phases opened lines turned end
  pub slots : (caller : ℕ) → AreSlottedFor phases lines caller
