-- The words that are printed.
use Rattle.std.specs.Prelude.{codes}
use Rattle.lethe_base.specs.Keys.{Bytes}
use Rattle.lethe_script.specs.declared.refused.Why.{Why}
use Rattle.lethe_script.specs.declared.refused.Why.TheVariants.{Size, Byte, Caller, Command, Count, Number, Slot, Key, Value, Range}

-- what is wrong with a line, as it is printed
abbrev pub why_text : Why → Bytes
why_text Size = codes "size"
why_text Byte = codes "byte"
why_text Caller = codes "caller"
why_text Command = codes "command"
why_text Count = codes "count"
why_text Number = codes "number"
why_text Slot = codes "slot"
why_text Key = codes "key"
why_text Value = codes "value"
why_text Range = codes "range"
