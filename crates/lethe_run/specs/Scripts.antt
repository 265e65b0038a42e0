-- How a script ends that is carried out over a store.
use Rattle.std.specs.Prelude.{ℕ, suc, List, [], ◌∷◌, ◌++◌, length, take, Option, Some, None}
use Rattle.std.specs.Io.KnownBytes.{Appends}
use Rattle.lethe_wire.specs.Causes.{AppendsFront}
use Rattle.lethe_base.specs.Keys.{Bytes}
use Rattle.lethe_disk.specs.Disk.{Seen}
use Rattle.lethe_core.specs.View.{View}
use Rattle.lethe_script.specs.declared.order.Order.{Order}
use Rattle.lethe_run.specs.declared.reply.Line.{Line}
use Rattle.lethe_run.specs.declared.reason.Reason.{Reason}
use Rattle.lethe_run.specs.declared.reason.Reason.TheVariants.{Nothing, Words, Source, Sink, NotOpened, NoMemory, Answer}
use Rattle.lethe_run.specs.declared.reason.Reason.TheVariants as reason
use Rattle.lethe_run.specs.Anywhere.{AreSlottedFor, AreToldThrough, Standing, standing_of}
use Rattle.lethe_run.specs.Ends.{IsBegun}
use Rattle.lethe_run.specs.Printed.{lines_text}
use Rattle.lethe_run.specs.Refusals.{IsFirstOr, all_of}
use Rattle.lethe_run.specs.Serving.{IsOn, IsCarried, Point}
use Rattle.lethe_run.specs.Transcript.{Start, course, text_of}

-- the lines answer these phases, over each history for which the store stands, from each start of the run on
abbrev pub Serves : Type 0 → Type 0 → View → Seen → ℕ → List (List Order) → List (List Line) → Type 0
Serves Tells PortsFail start finish now phases lines =
    Tells → (begin : Start) (from : Point) → IsOn begin from from.history start → IsCarried (course PortsFail begin now finish.moment) begin from phases lines start.disk finish

-- the lines answer these phases as they may on any disk, one after another as they are printed
abbrev pub IsToldFrom : Type 0 → View → ℕ → List (List Order) → List (List Line) → Type 0
IsToldFrom PortsFail start now phases lines =
    ((end : Standing) × AreToldThrough PortsFail start.faults now phases (standing_of start) lines lines end) × ((caller : ℕ) → AreSlottedFor phases lines caller)

-- all phases were answered, and this is the number of the first line that tells of a change that failed or wasn't made, or of a read that wasn't answered, if one does
pub record All (Tells PortsFail : Type 0) (start : View) (finish : Seen) (now : ℕ) (old new : Option Bytes) (phases : List (List Order)) (refused : Option ℕ) : Type 0 where
  pub lines : List (List Line)
  pub told : IsToldFrom PortsFail start now phases lines
  pub served : Serves Tells PortsFail start finish now phases lines
  pub written : Appends old new (text_of lines)
  pub first : IsFirstOr (all_of lines) refused

-- some were, and the sink failed in the lines of the last of them; those of the phases before it were written whole
pub record Behind (Tells PortsFail : Type 0) (start : View) (finish : Seen) (now : ℕ) (old new : Option Bytes) (phases : List (List Order)) : Type 0 where
  pub before : List (List Line)
  pub last : List Line
  pub told : IsToldFrom PortsFail start now (take (suc (length before)) phases) (before ++ last ∷ [])
  pub served : Serves Tells PortsFail start finish now (take (suc (length before)) phases) (before ++ last ∷ [])
  pub whole : (middle : Option Bytes) × Appends old middle (text_of before) × AppendsFront middle new (lines_text last)

-- none were, or some, and of the next one the first orders
pub record Inside (Tells PortsFail : Type 0) (start : View) (finish : Seen) (now : ℕ) (old new : Option Bytes) (phases : List (List Order)) : Type 0 where
  pub lines : List (List Line)
  pub front : List (List Order)
  pub begun : IsBegun phases front
  pub told : IsToldFrom PortsFail start now front lines
  pub served : Serves Tells PortsFail start finish now front lines
  pub written : AppendsFront old new (text_of lines)

-- why a script ends all of whose lines were answered
abbrev pub reason_for : Option ℕ → Reason
reason_for None = Nothing
reason_for (Some line) = Answer line

abbrev pub ScriptEnds : Type 0 → Type 0 → View → Seen → ℕ → Option Bytes → Option Bytes → Type 0 → List (List Order) → Reason → Type 0
ScriptEnds Tells PortsFail start finish now old new SinkRose phases Nothing = All Tells PortsFail start finish now old new phases None
ScriptEnds Tells PortsFail start finish now old new SinkRose phases (Answer line) = All Tells PortsFail start finish now old new phases (Some line)
ScriptEnds Tells PortsFail start finish now old new SinkRose phases Sink = SinkRose × Behind Tells PortsFail start finish now old new phases
ScriptEnds Tells PortsFail start finish now old new SinkRose phases NoMemory = Inside Tells PortsFail start finish now old new phases
ScriptEnds Tells PortsFail start finish now old new SinkRose phases Words = ⊥
ScriptEnds Tells PortsFail start finish now old new SinkRose phases (reason.Line bad text) = ⊥
ScriptEnds Tells PortsFail start finish now old new SinkRose phases Source = ⊥
ScriptEnds Tells PortsFail start finish now old new SinkRose phases (NotOpened why asked) = ⊥

-- why the lines of a phase aren't all printed: there was no memory for them, or the sink failed
abbrev pub IsCutBy : Type 0 → Type 0 → Reason → Type 0
IsCutBy Whole SinkRose NoMemory = Unit {0}
IsCutBy Whole SinkRose Sink = Whole × SinkRose
IsCutBy Whole SinkRose Nothing = ⊥
IsCutBy Whole SinkRose (Answer line) = ⊥
IsCutBy Whole SinkRose Words = ⊥
IsCutBy Whole SinkRose (reason.Line bad text) = ⊥
IsCutBy Whole SinkRose Source = ⊥
IsCutBy Whole SinkRose (NotOpened why asked) = ⊥
