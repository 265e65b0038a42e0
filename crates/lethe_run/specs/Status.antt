-- The ends of a run by cases, and their statuses.
use Rattle.std.specs.Prelude.{◌⊎◌, ℕ, true, false}
use Rattle.std.specs.Io.KnownBytes.{Appends, Keeps}
use Rattle.lethe_wire.specs.Causes.{AppendsFront}
use Rattle.lethe_base.specs.Keys.{Bytes}
use Rattle.lethe_base.specs.declared.config.Fields.{Fields}
use Rattle.lethe_base.specs.declared.name.Name.{Name}
use Rattle.lethe_recover.specs.declared.opening.OpenWhy.{OpenWhy}
use Rattle.lethe_recover.specs.declared.opening.OpenWhy.TheVariants as open_why
use Rattle.lethe_script.specs.declared.refused.BadLine.{BadLine}
use Rattle.lethe_run.specs.declared.status.Status.{Status}
use Rattle.lethe_run.specs.declared.status.Status.TheVariants.{Answered, BadWords, BadScript, ReadFault, WriteFault, Refused, NoMemory, Damaged, OtherConfig}
use Rattle.lethe_run.specs.Printed.{bad_words, bad_line}
use Rattle.lethe_run.specs.Ends as ends
use Rattle.lethe_run.specs.Ends.{Run, Asks, IsCommand, IsNoCommand, IsNoScript, IsAsked, IsUnbegun, IsUnused, IsOpenExhausted, IsOpenFault, Refuses, StoppedInside}

abbrev pub code_of : Status → ℕ
code_of Answered = 0
code_of BadWords = 2
code_of BadScript = 3
code_of ReadFault = 4
code_of WriteFault = 5
code_of Refused = 6
code_of NoMemory = 7
code_of Damaged = 8
code_of OtherConfig = 9

-- what each end says
abbrev pub EndsWith : Run → Status → Type 0
EndsWith run Answered = (config : Fields) × Asks run config × ends.Answered run config false
EndsWith run BadWords = IsNoCommand run × Appends run.taken_before run.taken bad_words × IsUnused run
EndsWith run BadScript = IsCommand run × (bad : BadLine) × IsNoScript run bad × Appends run.taken_before run.taken (bad_line bad)
EndsWith run ReadFault = IsCommand run × run.SourceRose × Keeps run.taken_before run.taken × IsUnused run
EndsWith run WriteFault = run.SinkRose × (text : Bytes) × IsAsked run text × AppendsFront run.taken_before run.taken text
EndsWith run Refused = (config : Fields) × Asks run config × (ends.Answered run config true ⊎ IsOpenFault run config ⊎ IsOpenExhausted run config)
EndsWith run NoMemory = (config : Fields) × Asks run config × (IsUnbegun run config ⊎ StoppedInside run config)
EndsWith run Damaged = (config : Fields) × Asks run config × (name : Name) × Refuses run config (open_why.Damaged name)
EndsWith run OtherConfig = (config : Fields) × Asks run config × (kept : Fields) × Refuses run config (open_why.OtherConfig kept)

-- the end of a store that wasn't opened
abbrev pub status_for : OpenWhy → Status
status_for (open_why.Damaged name) = Damaged
status_for (open_why.OtherConfig kept) = OtherConfig
status_for (open_why.Fault before after) = Refused
status_for (open_why.Exhausted last) = Refused
status_for open_why.NoMemory = NoMemory
