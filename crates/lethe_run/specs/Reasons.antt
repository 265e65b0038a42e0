-- Why a run ends, and what each reason says.
use Rattle.std.specs.Prelude.{◌≡◌, ◌⊎◌, ℕ, ◌-◌, true, Option, Some, IfSome, slice_get, take}
use Rattle.lethe_script.specs.Grammar.{lines}
use Rattle.std.specs.Io.KnownBytes.{Appends, Keeps}
use Rattle.lethe_wire.specs.Causes.{AppendsFront}
use Rattle.lethe_base.specs.Keys.{Bytes}
use Rattle.lethe_base.specs.declared.config.Fields.{Fields}
use Rattle.lethe_recover.specs.declared.opening.OpenWhy.TheVariants as open_why
use Rattle.lethe_run.specs.declared.reason.Reason.{Reason}
use Rattle.lethe_run.specs.declared.reason.Reason.TheVariants as reason
use Rattle.lethe_run.specs.declared.status.Status.{Status}
use Rattle.lethe_run.specs.declared.status.Status.TheVariants.{Answered, BadWords, BadScript, ReadFault, WriteFault, Refused, NoMemory}
use Rattle.lethe_run.specs.Ends as ends
use Rattle.lethe_run.specs.Ends.{Run, Asks, IsCommand, IsNoScript, Refuses}
use Rattle.lethe_run.specs.Printed.{bad_line}
use Rattle.lethe_run.specs.Refusals.{IsFirstRefusal}
use Rattle.lethe_run.specs.Status.{EndsWith, code_of, status_for}

-- the end that a reason has
abbrev pub status_of : Reason → Status
status_of reason.Nothing = Answered
status_of reason.Words = BadWords
status_of (reason.Line bad text) = BadScript
status_of reason.Source = ReadFault
status_of reason.Sink = WriteFault
status_of (reason.NotOpened why asked) = status_for why
status_of reason.NoMemory = NoMemory
status_of (reason.Answer line) = Refused

-- the line of this number, from 1 on, is this
abbrev pub IsLineAt : Bytes → ℕ → Bytes → Type 0
IsLineAt bytes number line = slice_get (lines bytes) (number - 1) ≡ Some line

-- these are the first bytes of the line of this number, of those that a script may have
unfoldable pub IsShownOf : Bytes → ℕ → Bytes → Type 0
IsShownOf bytes number front = (line : Bytes) × IsLineAt (take 16777216 bytes) number line × (front ≡ take 160 line)

-- What each reason says. The bad line is the one that the script's reader tells, with its first bytes; the store wasn't opened for this cause, which isn't want of memory, with the
-- configuration that the words ask for; and where an answer is the reason, each line was answered, and of the lines printed the one of this number, from 1 on, is the first that tells of a
-- change that failed or wasn't made, or of a read that wasn't answered.
abbrev pub IsWhy : Run → Reason → Type 0
IsWhy run reason.Nothing = EndsWith run Answered
IsWhy run reason.Words = EndsWith run BadWords
IsWhy run (reason.Line bad text) =
    IsCommand run × IsNoScript run bad × Appends run.taken_before run.taken (bad_line bad) × IfSome text (λ front. IfSome run.source (λ bytes. IsShownOf bytes bad.line front))
IsWhy run reason.Source = EndsWith run ReadFault
IsWhy run reason.Sink = EndsWith run WriteFault
IsWhy run (reason.NotOpened why asked) = Asks run asked × Refuses run asked why × (why ≡ open_why.NoMemory → ⊥)
IsWhy run reason.NoMemory = EndsWith run NoMemory
IsWhy run (reason.Answer line) = (config : Fields) × Asks run config × (all : ends.Answered run config true) × IsFirstRefusal all.lines line

-- the run ended with this status for this reason
abbrev pub IsReasonOf : Run → ℕ → Reason → Type 0
IsReasonOf run status why = (status ≡ code_of (status_of why)) × IsWhy run why

-- the text was written and this is the reason, or the sink failed behind a front of it
abbrev pub Says : Reason → Bytes → Option Bytes → Option Bytes → Type 0 → Reason → Type 0
Says why text old new SinkRose end = ((end ≡ why) × Appends old new text) ⊎ ((end ≡ reason.Sink) × SinkRose × AppendsFront old new text)

-- so it is, or there was no memory for the text
abbrev pub IsToldOf : Reason → Bytes → Option Bytes → Option Bytes → Type 0 → Reason → Type 0
IsToldOf why text old new SinkRose end = Says why text old new SinkRose end ⊎ ((end ≡ reason.NoMemory) × Keeps old new)
