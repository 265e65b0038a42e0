-- How a script ends, by what became of its phases.
use Rattle.std.proofs.Common.{◌≡◌, ◌≤◌, inl, inr, ℕ, suc, Bool, true, List, [], ◌∷◌, ◌++◌, length, map, take, slice_get, Option, Some, None, refl, sym, ap, ◌∙◌, subst, arith}
use Rattle.std.specs.Prelude.{filter}
use Rattle.std.specs.List.{All as AllOf}
use Rattle.std.specs.List.{flat_map}
use Rattle.std.specs.Io.KnownBytes.{Appends}
use Rattle.std.proofs.lemmas.List.Elements.{filter-append}
use Rattle.lethe_base.specs.Keys.{Bytes}
use Rattle.lethe_base.specs.History.{History}
use Rattle.lethe_base.specs.declared.config.Fields.{Fields}
use Rattle.lethe_disk.proofs.Continuing.{continues_then}
use Rattle.lethe_disk.specs.Disk.{Image, IsIdle, Seen}
use Rattle.lethe_disk.specs.declared.disk.Disk.{Ghosts}
use Rattle.lethe_snapshot.specs.declared.snapshot.Snapshot.{Snapshot}
use Rattle.lethe_engine.specs.StandsFor.{Opened, StandsSince}
use Rattle.lethe_core.specs.View.{View}
use Rattle.lethe_script.specs.declared.order.Order.{Order}
use Rattle.lethe_wire.specs.Causes.{AppendsFront}
use Rattle.lethe_script.specs.Slots.{orders_by}
use Rattle.lethe_run.specs.declared.reply.Line.{Line}
use Rattle.lethe_run.specs.declared.reason.Reason.{Reason}
use Rattle.lethe_run.specs.declared.reason.Reason.TheVariants.{Nothing, Words, Source, Sink, NotOpened, NoMemory, Answer}
use Rattle.lethe_run.specs.declared.reason.Reason.TheVariants as reason
use Rattle.lethe_run.specs.Anywhere.{AreTold, AreToldThrough, IsPhaseTold, standing_of}
use Rattle.lethe_run.specs.Callers.{AreAll, AreFronts, IsPhaseOfAll}
use Rattle.lethe_run.specs.Ends.{IsBegun}
use Rattle.lethe_run.specs.Holding.{AreShown, slots_for}
use Rattle.lethe_run.specs.Printed.{lines_text}
use Rattle.lethe_run.specs.Refusals.{IsFirstOr, all_of}
use Rattle.lethe_run.specs.Scripts.{All, Behind, Inside, IsToldFrom, Serves, ScriptEnds, IsCutBy, reason_for}
use Rattle.lethe_run.specs.Serving.{IsOn, IsPhase, Point, opened_in}
use Rattle.lethe_run.specs.Slots.{AreInSlots, Slots, no_slots}
use Rattle.lethe_run.specs.Transcript.{Start, is_of, printed, text_of}
use Rattle.lethe_run.proofs.Anywhere.{as_many, stands_still, through_more}
use Rattle.lethe_run.proofs.Callers.{by_append, told_callers}
use Rattle.lethe_run.proofs.Phases.{SoFar, front_text, so_far_start, so_far_more, carried}
use Rattle.lethe_run.proofs.Pins.{same_pins}
use Rattle.lethe_run.proofs.Refusals.{all_more}
use Rattle.lethe_run.proofs.Staying.{in_slots_append}
use Rattle.lethe_run.proofs.Slotted.{flat_more}

get_behind : {X : Type 0} (front : List X) (x : X) (rest : List X) → slice_get (front ++ x ∷ rest) (length front) ≡ Some x
get_behind [] x rest = refl
get_behind (y ∷ front) x rest = get_behind front x rest

take_front : {X : Type 0} (front rest : List X) → take (length front) (front ++ rest) ≡ front
take_front [] rest = refl
take_front (y ∷ front) rest = ap (λ l. y ∷ l) (take_front front rest)

take_more : {X : Type 0} (front : List X) (x : X) (rest : List X) → take (suc (length front)) (front ++ x ∷ rest) ≡ front ++ x ∷ []
take_more [] x rest = refl
take_more (y ∷ front) x rest = ap (λ l. y ∷ l) (take_more front x rest)

-- what serving a phase gave, and what was and is shown of the history, by callers what their slots held and hold
pub record Phase (Tells Ports : Type 0) (now then : View) (between behind : ℕ → Slots) (Was Is : History → Type 0) (orders : List Order) (whole : Bool) (more : List Line) : Type 0 where
  pub part : List Order
  pub fronts : AreFronts orders part
  pub all : whole ≡ true → AreAll orders part
  pub told : AreTold Ports now.faults then.faults part (standing_of now) more (standing_of then)
  pub slots : (caller : ℕ) → AreInSlots (orders_by caller part) (between caller) (filter (is_of caller) more) (behind caller)
  pub served : Tells → (begin : Start) (from : Point) (start : History) → IsOn begin from start now → Was start → (h : History) × IsPhase Ports begin start h part more now then × Is h

module _ {D Page Port : Type 0} {kind : Ghosts D Page Port} (Tells Ports : Type 0) (now then : View) (was held : List (List (Option (Snapshot D Page Port kind)))) where
  pub served_phase : (items orders : List Order) (whole : Bool) (more : List Line) → items ≡ orders
      → (part : List Order) × AreFronts items part × (whole ≡ true → AreAll items part) × IsPhaseOfAll Tells Ports part more now was then held
      → Phase Tells Ports now then (λ caller. slots_for caller was) (λ caller. slots_for caller held) (λ h. AllOf (AreShown h) was) (λ h. AllOf (AreShown h) held) orders whole more
  served_phase items orders whole more is served = record {
    part = served.0;
    fronts = subst (λ orders. AreFronts orders served.0) is served.1;
    all = λ whole. subst (λ orders. AreAll orders served.0) is (served.2 whole);
    told = served.3.told;
    slots = served.3.slots;
    served = served.3.served;
  }

-- what the phases before gave
pub record Before (Tells Ports : Type 0) (start now : View) (slots : ℕ → Slots) (Shown : History → Type 0) (yielded : List (List Order)) (lines : List (List Line)) : Type 0 where
  pub told : AreToldThrough Ports start.faults now.faults yielded (standing_of start) lines lines (standing_of now)
  pub slots_are : (caller : ℕ) → AreInSlots (orders_by caller (flat_map (λ orders. orders) yielded)) no_slots (filter (is_of caller) (all_of lines)) (slots caller)
  pub served : Tells → (begin : Start) (from : Point) → IsOn begin from from.history start → SoFar Ports begin from yielded lines start now Shown

pub before_any : (Tells Ports : Type 0) (view : View) (slots : ℕ → Slots) (Shown : History → Type 0) → ((caller : ℕ) → slots caller ≡ no_slots) → ((h : History) → Shown h) → Before Tells Ports view view slots Shown [] []
before_any Tells Ports view slots Shown none shown = record {
  told = refl;
  slots_are = none;
  served = λ told begin from on. so_far_start Ports begin from view Shown on (shown from.history);
}

module _ (Tells Ports : Type 0) (start then : View) (itself : Tells → Image then.disk then.disk.directory) (behind : ℕ → Slots) (Is : History → Type 0) where
  serves : (phases : List (List Order)) (lines : List (List Line)) → Before Tells Ports start then behind Is phases lines → Serves Tells Ports start then.disk then.faults phases lines
  serves phases lines so_far told begin from on = carried Ports begin from phases lines start then Is (itself told) (so_far.served told begin from on)

  tells : (phases : List (List Order)) (lines : List (List Line)) → Before Tells Ports start then behind Is phases lines → IsToldFrom Ports start then.faults phases lines
  tells phases lines so_far = ((standing_of then, so_far.told), λ caller. (behind caller, so_far.slots_are caller))

  -- all were answered
  all : (phases : List (List Order)) (lines : List (List Line)) (old new : Option Bytes) (refused : Option ℕ) → Before Tells Ports start then behind Is phases lines → Appends old new (text_of lines) → IsFirstOr (all_of lines) refused
      → All Tells Ports start then.disk then.faults old new phases refused
  all phases lines old new refused so_far written first = record { lines = lines; told = tells phases lines so_far; served = serves phases lines so_far; written = written; first = first }

  pub all_ends : (phases : List (List Order)) (lines : List (List Line)) (old new : Option Bytes) (SinkRose : Type 0) (refused : Option ℕ) → Before Tells Ports start then behind Is phases lines → Appends old new (text_of lines)
      → IsFirstOr (all_of lines) refused → ScriptEnds Tells Ports start then.disk then.faults old new SinkRose phases (reason_for refused)
  all_ends phases lines old new SinkRose None so_far written first = all phases lines old new None so_far written first
  all_ends phases lines old new SinkRose (Some line) so_far written first = all phases lines old new (Some line) so_far written first

  -- some were, and of the next one a part
  module _ (now : View) (between : ℕ → Slots) (Was : History → Type 0) (up : start.faults ≤ now.faults) (later : now.faults ≤ then.faults) (phases yielded rest : List (List Order)) (orders : List Order) (are : phases ≡ yielded ++ orders ∷ rest) (lines : List (List Line)) (more : List Line) (whole : Bool)
      (so_far : Before Tells Ports start now between Was yielded lines) (phase : Phase Tells Ports now then between behind Was Is orders whole more) where
    -- these orders have those that were answered as their printed ones
    module _ (asked : List Order) (is : phase.part ≡ printed asked) (same : (caller : ℕ) → orders_by caller phase.part ≡ orders_by caller asked) where
      phase_is : IsPhaseTold Ports now.faults then.faults asked (standing_of now) more more (standing_of then)
      phase_is = record {
        callers = told_callers Ports now.faults then.faults phase.part (standing_of now) more (standing_of then) phase.told ∙ ap (map (λ (order : Order). order.caller)) is;
        order = λ caller. refl;
        asked = phase.part;
        are = same;
        told = phase.told;
      }

      slots_more : (caller : ℕ) → AreInSlots (orders_by caller (flat_map (λ orders. orders) (yielded ++ asked ∷ []))) no_slots (filter (is_of caller) (all_of (lines ++ more ∷ []))) (behind caller)
      slots_more caller =
          let orders_are = ap (orders_by caller) (flat_more yielded asked) ∙ by_append caller (flat_map (λ orders. orders) yielded) asked in
          let lines_are = ap (filter (is_of caller)) (all_more lines more) ∙ filter-append (is_of caller) (all_of lines) more in
          rw (orders_are, lines_are)
          (in_slots_append (orders_by caller (flat_map (λ orders. orders) yielded)) (orders_by caller asked) no_slots (between caller) (behind caller) (filter (is_of caller) (all_of lines)) (filter (is_of caller) more)
          (so_far.slots_are caller) (subst (λ os. AreInSlots os (between caller) (filter (is_of caller) more) (behind caller)) (same caller) (phase.slots caller)))

      so_far_with : Before Tells Ports start then behind Is (yielded ++ asked ∷ []) (lines ++ more ∷ [])
      so_far_with = record {
        told = through_more Ports start now then up later yielded lines asked more so_far.told phase_is;
        slots_are = slots_more;
        served = λ told begin from on.
            let prior = so_far.served told begin from on in
            let next = phase.served told begin from prior.history prior.on prior.shown in
            so_far_more Ports begin from next.0 yielded lines asked phase.part more start now then Was Is later is prior next.1 next.2;
      }

    begun_so_far : Before Tells Ports start then behind Is (yielded ++ phase.part ∷ []) (lines ++ more ∷ [])
    begun_so_far = so_far_with phase.part (sym phase.fronts.printed) (λ caller. refl)

    pub next_so_far : whole ≡ true → Before Tells Ports start then behind Is (yielded ++ orders ∷ []) (lines ++ more ∷ [])
    next_so_far is = let all = phase.all is in so_far_with orders all.is all.by

    stopped_behind : (old middle new : Option Bytes) → whole ≡ true → Appends old middle (text_of lines) → AppendsFront middle new (lines_text more) → Behind Tells Ports start then.disk then.faults old new phases
    stopped_behind old middle new is before last =
        let front : take (suc (length lines)) phases ≡ yielded ++ orders ∷ [] =
        ap (λ n. take (suc n) phases) (as_many Ports start.faults now.faults yielded (standing_of start) lines lines (standing_of now) so_far.told) ∙ ap (take (suc (length yielded))) are ∙ take_more yielded orders rest in
        let next = subst (λ p. Before Tells Ports start then behind Is p (lines ++ more ∷ [])) (sym front) (next_so_far is) in
        record {
          before = lines;
          last = more;
          told = tells (take (suc (length lines)) phases) (lines ++ more ∷ []) next;
          served = serves (take (suc (length lines)) phases) (lines ++ more ∷ []) next;
          whole = (middle, before, last);
        }

    begun : IsBegun phases (yielded ++ phase.part ∷ [])
    begun = inr (record {
      count = length yielded;
      orders = orders;
      part = phase.part;
      there = ap (λ p. slice_get p (length yielded)) are ∙ get_behind yielded orders rest;
      cut = phase.fronts.cut;
      is = ap (λ l. l ++ phase.part ∷ []) (sym (ap (take (length yielded)) are ∙ take_front yielded (orders ∷ rest)));
    })

    inside : (old new : Option Bytes) → AppendsFront old new (text_of (lines ++ more ∷ [])) → Inside Tells Ports start then.disk then.faults old new phases
    inside old new written = record {
      lines = lines ++ more ∷ [];
      front = yielded ++ phase.part ∷ [];
      begun = begun;
      told = tells (yielded ++ phase.part ∷ []) (lines ++ more ∷ []) begun_so_far;
      served = serves (yielded ++ phase.part ∷ []) (lines ++ more ∷ []) begun_so_far;
      written = written;
    }

    pub cut_ends : (old middle new : Option Bytes) (Rose SinkRose : Type 0) (why : Reason) → (Rose → SinkRose) → Appends old middle (text_of lines) → AppendsFront middle new (lines_text more) → IsCutBy (whole ≡ true) Rose why
        → ScriptEnds Tells Ports start then.disk then.faults old new SinkRose phases why
    cut_ends old middle new Rose SinkRose NoMemory rose before last cut = inside old new (front_text old middle new lines more before last)
    cut_ends old middle new Rose SinkRose Sink rose before last cut = (rose cut.1, stopped_behind old middle new cut.0 before last)
    cut_ends old middle new Rose SinkRose Nothing rose before last cut = absurd cut
    cut_ends old middle new Rose SinkRose (Answer line) rose before last cut = absurd cut
    cut_ends old middle new Rose SinkRose Words rose before last cut = absurd cut
    cut_ends old middle new Rose SinkRose (reason.Line bad text) rose before last cut = absurd cut
    cut_ends old middle new Rose SinkRose Source rose before last cut = absurd cut
    cut_ends old middle new Rose SinkRose (NotOpened why asked) rose before last cut = absurd cut

-- Making a port is nothing on the disk

module _ (Tells Ports : Type 0) (start mid : View) (idle : Tells → IsIdle start.disk mid.disk)
    (stands : Tells → (config : Fields) (opened : Opened) (h : History) → StandsSince config opened h start → StandsSince config opened h mid) where
  on_idle : Tells → (begin : Start) (from : Point) → IsOn begin from from.history start → IsOn begin from from.history mid
  on_idle told begin from on = record {
    done = on.done;
    counted = on.counted;
    stands = stands told begin.config (opened_in begin from on.counted) from.history on.stands;
    faults_since = on.faults_since;
    moment_since = on.moment_since;
  }

  module _ (finish : Seen) (now : ℕ) where
    serves_idle : (phases : List (List Order)) (lines : List (List Line)) → Serves Tells Ports mid finish now phases lines → Serves Tells Ports start finish now phases lines
    serves_idle phases lines served told begin from on =
        let c = served told begin from (on_idle told begin from on) in
        record {
          history = c.history;
          served = c.served;
          calls = continues_then start.disk mid.disk finish (record { later = let same = (idle told).moment in omega (arith, same); past = λ m c le. (idle told).left m c }) c.calls;
          each = c.each;
          lasting = c.lasting;
          certified = c.certified;
          seen = c.seen;
          leaves = c.leaves;
          config_is = c.config_is;
          clean = c.clean;
          pace = c.pace;
        }

    module _ (state : mid.state ≡ start.state) (levels : mid.levels ≡ start.levels) (pins : mid.pins ≡ start.pins) (faults : mid.faults ≡ start.faults) (old new : Option Bytes) where
      told_idle : (phases : List (List Order)) (lines : List (List Line)) → IsToldFrom Ports mid now phases lines → IsToldFrom Ports start now phases lines
      told_idle phases lines told = (
        (
          told.0.0,
          subst (λ s. AreToldThrough Ports start.faults now phases s lines lines told.0.0) (stands_still start mid state levels (same_pins start mid pins))
              (subst (λ n. AreToldThrough Ports n now phases (standing_of mid) lines lines told.0.0) faults told.0.1),
        ),
        told.1,
      )

      all_idle : (phases : List (List Order)) (refused : Option ℕ) → All Tells Ports mid finish now old new phases refused → All Tells Ports start finish now old new phases refused
      all_idle phases refused a = record { lines = a.lines; told = told_idle phases a.lines a.told; served = serves_idle phases a.lines a.served; written = a.written; first = a.first }

      pub ends_idle : (SinkRose : Type 0) (phases : List (List Order)) (why : Reason) → ScriptEnds Tells Ports mid finish now old new SinkRose phases why → ScriptEnds Tells Ports start finish now old new SinkRose phases why
      ends_idle SinkRose phases Nothing e = all_idle phases None e
      ends_idle SinkRose phases (Answer line) e = all_idle phases (Some line) e
      ends_idle SinkRose phases Sink e = (
        e.0,
        record {
          before = e.1.before;
          last = e.1.last;
          told = told_idle (take (suc (length e.1.before)) phases) (e.1.before ++ e.1.last ∷ []) e.1.told;
          served = serves_idle (take (suc (length e.1.before)) phases) (e.1.before ++ e.1.last ∷ []) e.1.served;
          whole = e.1.whole;
        },
      )
      ends_idle SinkRose phases NoMemory e = record {
        lines = e.lines;
        front = e.front;
        begun = e.begun;
        told = told_idle e.front e.lines e.told;
        served = serves_idle e.front e.lines e.served;
        written = e.written;
      }
      ends_idle SinkRose phases Words e = absurd e
      ends_idle SinkRose phases (reason.Line bad text) e = absurd e
      ends_idle SinkRose phases Source e = absurd e
      ends_idle SinkRose phases (NotOpened why asked) e = absurd e

  -- where there was no memory for it, nothing is served
  pub none_served : (Tells → Image mid.disk mid.disk.directory) → (old : Option Bytes) (phases : List (List Order)) → AppendsFront old old [] → Inside Tells Ports start mid.disk mid.faults old old phases
  none_served itself old phases none = record {
    lines = [];
    front = [];
    begun = inl refl;
    told = ((standing_of start, refl), λ caller. (no_slots, refl));
    served = serves_idle mid.disk mid.faults [] [] (λ told begin from on. carried Ports begin from [] [] mid mid (λ h. Unit {0}) (itself told) (so_far_start Ports begin from mid (λ h. Unit {0}) on tt));
    written = none;
  }
